-- How the command line is put together, over plain variables.
use Rattle.std.proofs.Common.{◌≡◌, ◌∙◌, ◌+◌, ◌<◌, ◌++◌, ℕ, true, List, [], ◌∷◌, map, length, take, get_or, ap, ap₂, refl, sym, Bor}
use Rattle.std.proofs.lemmas.List.{map_more}
use Rattle.clap.specs.Words.{App, AddsSubcommand, Rule, Shape, Text, app_of, with_rule, with_subcommand}
use Rattle.clap.specs.Simple.{new_shape}
use Rattle.clap.specs.declared.builder.command.Command.{Command}
use Rattle.clap.proofs.WalkLemmas.{both}
use Rattle.tool_words.specs.Grammar.{form, place}
use Rattle.tool_words.proofs.SplitSteps.{is_off}

-- one more place
pub form_more : (name : Text) (ps : List (Bor Text)) (i : ℕ) (d : Bor Text) → i < length ps
    → with_rule (record { top = form name (map (λ p. p.now) (take i ps)); subs = [] }) (place (get_or ps i d).now) ≡ record { top = form name (map (λ p. p.now) (take (i + 1) ps)); subs = [] }
form_more name ps i d lt =
    let more : map (λ p. p.now) (take (i + 1) ps) ≡ map (λ p. p.now) (take i ps) ++ (get_or ps i d).now ∷ [] = map_more (λ p. p.now) ps i d lt in
    ap (λ (rules : List Rule). record { top = record (new_shape name) { rules = rules }; subs = [] }) (sym (ap (map place) more ∙ spread (map (λ p. p.now) (take i ps)) (get_or ps i d).now))
  where
    spread : (xs : List Text) (x : Text) → map place (xs ++ x ∷ []) ≡ map place xs ++ place x ∷ []
    spread [] x = refl
    spread (y ∷ ys) x = ap (λ (r : List Rule). place y ∷ r) (spread ys x)

-- one more command
pub added : (old sub new : Command) (a : App) (s : Shape) → AddsSubcommand old sub new → s.is_plain ≡ true → app_of sub ≡ record { top = s; subs = [] } → app_of old ≡ a
    → app_of new ≡ with_subcommand a s
added old sub new a s adds plain is at =
    let whole : (app_of sub).top.is_plain ≡ true = ap (λ (b : App). b.top.is_plain) is ∙ plain in
    adds.shape (is_off _ (both _ _ (both _ _ (both _ _ whole).1).1).0) ∙ ap₂ with_subcommand at (ap (λ (b : App). b.top) is)
