-- How words that may stand in a command are split, over plain variables.
use Rattle.std.proofs.Common.{◌≡◌, ◌∙◌, ◌++◌, ℕ, Bool, true, false, not, List, [], ◌∷◌, Option, Some, None, is_some, ap, ap₂, refl, sym, true≢false, arith}
use Rattle.std.specs.Prelude.{if◌then◌else◌, ◌==◌, ◌&&◌, find, fold, option_map}
use Rattle.std.specs.List.{list_all}
use Rattle.std.specs.Option.{option_map_or}
use Rattle.std.proofs.lemmas.List.{append-nil, append_assoc}
use Rattle.clap.specs.Walk.{Held, Names, Rule, Step, Text, Walk, after_step, answers_to, arg_by_index, finished, idle, is_empty, is_multiple, next_position, nothing_held, positional, positional_held, rows_after, settled, to_positional, value, walk, walk_from, walked, with_default, word_met}
use Rattle.clap.specs.Faults.{built_fault, check_fault, defaults_fault, entered_fault, level_fault, positional_fault, settle_fault, step_fault, stray_fault, turn_fault, walk_fault, word_fault}
use Rattle.clap.specs.Kinds.{Kinds, or_else}
use Rattle.clap.specs.Simple.{App, Shape, entered, label_of, names_of, rows_at}
use Rattle.clap.proofs.WalkLemmas.{both}
use Rattle.tool_words.specs.Words.{is_word}

-- where the words stand between two of them, when nothing waits for a value and no command was met
abbrev pub Spot : Type 0
Spot = Held × ℕ

abbrev pub walk_at : Spot → Walk
walk_at s = record { held = s.0; waiting = idle; position = s.1; is_trailing = false; stopped = None }

abbrev pub first_spot : Spot
first_spot = (nothing_held, 1)

-- a word at the next place
abbrev pub next_spot : List Rule → Spot → Text → Spot
next_spot rules s word = option_map_or (λ a. (positional_held rules a word s.0, next_position a s.1)) (arg_by_index rules s.1) s

-- a place takes one word
abbrev pub is_single : Rule → Bool
is_single a = not (is_multiple a) && not a.trailing_var_arg

pub is_off : (b : Bool) → not b ≡ true → b ≡ false
is_off true e = sym e
is_off false e = refl

-- a word that may stand in a command and is no command's name goes to the next place, and is no fault itself
pub word_is : (rules : List Rule) (names : Names) (s : Spot) (word : Text) → is_word word ≡ true → find (answers_to word) names ≡ None
    → word_met rules names false idle s.1 word s.0 ≡ (s.0, value)
word_is rules names s [] stands none = absurd (true≢false (sym stands))
word_is rules names s (x ∷ xs) stands none =
    let off : (x == 45) ≡ false = is_off _ stands in
    rw (none, off, off) refl

pub word_fits : (s : Shape) (names : Names) (h : Held) (word : Text) → is_word word ≡ true → find (answers_to word) names ≡ None
    → word_fault s names false idle word h ≡ []
word_fits s names h [] stands none = absurd (true≢false (sym stands))
word_fits s names h (x ∷ xs) stands none =
    let off : (x == 45) ≡ false = is_off _ stands in
    rw (none, off, off) refl

-- what is found has what all have
found_has : (p q : Rule → Bool) (xs : List Rule) (a : Rule) → list_all q xs ≡ true → find p xs ≡ Some a → q a ≡ true
found_has p q [] a all is = absurd (grind (arith, is))
found_has p q (x ∷ xs) a all is = go (p x) (λ e. found_has p q xs a (both (q x) _ all).1 e) is
  where
    go : (b : Bool) → (find p xs ≡ Some a → q a ≡ true) → (if b then Some x else find p xs) ≡ Some a → q a ≡ true
    go true later e = grind (arith, e, (both (q x) _ all).0)
    go false later e = later e

-- after a word at a place that takes one
abbrev moved : List Rule → Spot → Text → Rule → Bool → Bool → Walk
moved rules s word a many trailing = record {
  held = positional_held rules a word s.0;
  waiting = if many then positional else idle;
  position = next_position a s.1;
  is_trailing = trailing;
  stopped = None;
}

module _ (rules : List Rule) (single : list_all is_single rules ≡ true) where
  -- the walk after one more word
  pub walked_is : (names : Names) (s : Spot) (word : Text) → is_word word ≡ true → find (answers_to word) names ≡ None
      → walked rules names (walk_at s) word ≡ walk_at (next_spot rules s word)
  unfolding walked
  walked_is names s word stands none =
      ap (λ (met : Held × Step). after_step rules word (walk_at s) met.0 met.1) (word_is rules names s word stands none) ∙ go (arg_by_index rules s.1) refl
    where
      go : (o : Option Rule) → arg_by_index rules s.1 ≡ o
          → to_positional rules o word (walk_at s) s.0 ≡ walk_at (option_map_or (λ a. (positional_held rules a word s.0, next_position a s.1)) o s)
      go None e = refl
      go (Some a) e =
          let one = found_has _ is_single rules a single e in
          ap₂ (moved rules s word a) (is_off _ (both (not (is_multiple a)) _ one).0) (is_off _ (both (not (is_multiple a)) _ one).1)

  -- and after all of them
  pub walk_is : (s : Spot) (words : List Text) → list_all is_word words ≡ true
      → fold (walked rules []) (walk_at s) words ≡ walk_at (fold (next_spot rules) s words)
  walk_is s [] stand = refl
  walk_is s (w ∷ ws) stand =
      ap (λ (x : Walk). fold (walked rules []) x ws) (walked_is [] s w (both (is_word w) _ stand).0 refl)
      ∙ walk_is (next_spot rules s w) ws (both (is_word w) _ stand).1

  pub rows_are : (words : List Text) → list_all is_word words ≡ true
      → rows_after rules [] words ≡ finished rules (fold (next_spot rules) first_spot words).0
  rows_are words stand = ap (λ (w : Walk). finished rules w.held) (walk_is first_spot words stand)

-- the fault of a word at a spot
abbrev pub spot_fault : Shape → Spot → Kinds
spot_fault s p = option_map_or (λ a. positional_fault s.rules s.args_override_self a p.0) (arg_by_index s.rules p.1) (stray_fault s)

pub turn_is : (s : Shape) (names : Names) (p : Spot) (word : Text) → is_word word ≡ true → find (answers_to word) names ≡ None
    → turn_fault s names (walk_at p) word ≡ spot_fault s p
turn_is s names p word stands none =
    ap₂ or_else (word_fits s names p.0 word stands none) (ap (λ (met : Held × Step). step_fault s p.1 met.0 met.1) (word_is s.rules names p word stands none))

-- the faults of words one after another
abbrev pub spot_faults : Shape → Spot → List Text → Kinds
spot_faults s p [] = []
spot_faults s p (w ∷ ws) = or_else (spot_fault s p) (spot_faults s (next_spot s.rules p w) ws)

-- the faults behind the words
abbrev pub end_fault : Shape → Held → Kinds
end_fault s end =
    or_else (settle_fault s.rules s.args_override_self end)
    (or_else (defaults_fault (settled s.rules end).rows s.rules) (check_fault s (finished s.rules end) false))

abbrev pub leaf_fault : Shape → List Text → Kinds
leaf_fault s words = or_else (spot_faults s first_spot words) (end_fault s (fold (next_spot s.rules) first_spot words).0)

module _ (s : Shape) (single : list_all is_single s.rules ≡ true) where
  walk_fault_is : (p : Spot) (words : List Text) → list_all is_word words ≡ true → walk_fault s [] (walk_at p) words ≡ spot_faults s p words
  unfolding walk_fault
  walk_fault_is p [] stand = refl
  walk_fault_is p (w ∷ ws) stand =
      ap₂ or_else (turn_is s [] p w (both (is_word w) _ stand).0 refl)
      (ap (λ (x : Walk). walk_fault s [] x ws) (walked_is s.rules single [] p w (both (is_word w) _ stand).0 refl)
      ∙ walk_fault_is (next_spot s.rules p w) ws (both (is_word w) _ stand).1)

  -- a command whose places take one word each, on words that may stand in a command
  pub leaf_is : (words : List Text) → list_all is_word words ≡ true → level_fault s [] nothing_held words false [] ≡ leaf_fault s words
  leaf_is words stand =
      ap₂ (λ (f : Kinds) (w : Walk). or_else f (end_fault s w.held)) (walk_fault_is first_spot words stand) (walk_is s.rules single first_spot words stand)

-- ---- the words behind a command's name

abbrev pub stop_at : Text → List Text → Walk
stop_at name words = record { held = nothing_held; waiting = idle; position = 1; is_trailing = false; stopped = Some (name, words) }

stopped_walk : (rules : List Rule) (names : Names) (name : Text) (xs rest : List Text) → fold (walked rules names) (stop_at name xs) rest ≡ stop_at name (xs ++ rest)
unfolding walked
stopped_walk rules names name xs [] = ap (stop_at name) (sym (append-nil xs))
stopped_walk rules names name xs (w ∷ ws) = stopped_walk rules names name (xs ++ w ∷ []) ws ∙ ap (stop_at name) (append_assoc xs (w ∷ []) ws)

stopped_fault : (s : Shape) (names : Names) (name : Text) (xs rest : List Text) → walk_fault s names (stop_at name xs) rest ≡ []
unfolding walk_fault walked
stopped_fault s names name xs [] = refl
stopped_fault s names name xs (w ∷ ws) = stopped_fault s names name (xs ++ w ∷ []) ws

or_nothing : (ks : Kinds) → or_else ks [] ≡ ks
or_nothing [] = refl
or_nothing (k ∷ ks) = refl

-- the faults behind the words at the top
abbrev top_end : App → Walk → Kinds
top_end b w =
    or_else (entered_fault b w.stopped) (or_else (settle_fault b.top.rules b.top.args_override_self w.held)
    (or_else (defaults_fault (settled b.top.rules w.held).rows b.top.rules) (check_fault b.top (finished b.top.rules w.held) (is_some (entered b w.stopped)))))

-- the faults of a command that was found or not
abbrev found_fault : App → List Text → Option Shape → Kinds
found_fault b rest o =
    or_else (option_map_or (λ s. level_fault s [] nothing_held rest false []) o [])
    (or_else (defaults_fault [] b.top.rules) (check_fault b.top (fold with_default [] b.top.rules) (is_some (option_map (λ s. rows_at s rest) o))))

module _ (b : App) (name : Text) (sub : Shape)
    (first : walked b.top.rules (names_of b) (walk_from nothing_held) name ≡ stop_at name [])
    (fits : turn_fault b.top (names_of b) (walk_from nothing_held) name ≡ [])
    (found : find (λ s. answers_to name (label_of s)) b.subs ≡ Some sub)
    (calm : or_else (defaults_fault [] b.top.rules) (check_fault b.top (fold with_default [] b.top.rules) true) ≡ []) where
  walk_stops : (rest : List Text) → walk b.top.rules (names_of b) nothing_held (name ∷ rest) ≡ stop_at name rest
  walk_stops rest = ap (λ (w : Walk). fold (walked b.top.rules (names_of b)) w rest) first ∙ stopped_walk b.top.rules (names_of b) name [] rest

  walk_fits : (rest : List Text) → walk_fault b.top (names_of b) (walk_from nothing_held) (name ∷ rest) ≡ []
  unfolding walk_fault
  walk_fits rest = ap₂ or_else fits (ap (λ (w : Walk). walk_fault b.top (names_of b) w rest) first ∙ stopped_fault b.top (names_of b) name [] rest)

  -- the faults are those of the words behind the name
  pub named_fault : (rest : List Text) → built_fault b nothing_held (name ∷ rest) ≡ level_fault sub [] nothing_held rest false []
  named_fault rest =
      ap₂ (λ (f : Kinds) (w : Walk). or_else f (top_end b w)) (walk_fits rest) (walk_stops rest)
      ∙ ap (found_fault b rest) found
      ∙ ap (or_else (level_fault sub [] nothing_held rest false [])) calm
      ∙ or_nothing _

  -- and so is what was found
  pub named_rows : (rest : List Text) → entered b (walk b.top.rules (names_of b) nothing_held (name ∷ rest)).stopped ≡ Some (sub.name, rows_after sub.rules [] rest)
  named_rows rest = ap (λ (w : Walk). entered b w.stopped) (walk_stops rest) ∙ ap (option_map (λ s. rows_at s rest)) found

-- a first fault counts
pub first_counts : (xs ys zs : Kinds) → is_empty xs ≡ false → is_empty (or_else (or_else xs ys) zs) ≡ false
first_counts [] ys zs some = absurd (true≢false some)
first_counts (x ∷ xs) ys zs some = some
