-- Words that are a command or not, over plain variables.
use Rattle.std.proofs.Common.{◌≡◌, ◌∙◌, ◌⊎◌, inl, inr, List, [], ◌∷◌, map, true, false, Option, Some, None, String, Global, string_bytes, ap, sym, subst, refl, arith}
use Rattle.std.specs.Prelude.{option_map}
use Rattle.std.specs.List.{list_all}
use Rattle.std.proofs.lemmas.Bool.{cond-true, cond-false, ne_eqb}
use Rattle.std.proofs.lemmas.List.Folds.{list_all-map}
use Rattle.std.specs.Option.{IfSome, IsNone}
use Rattle.clap.specs.Words.{App, HasMatchesOf, Row, Text, fault_of, is_simple, is_simple_and_free, subcommand_name_of, subcommand_rows_of}
use Rattle.clap.specs.Kinds.{IsAmong, Kinds}
use Rattle.clap.specs.declared.error.kind.ErrorKind.{ErrorKind}
use Rattle.clap.specs.declared.error.kind.ErrorKind.TheVariants.{OutOfMemory}
use Rattle.clap.specs.Walk.{is_empty}
use Rattle.clap.specs.declared.parser.matches.ArgMatches.{ArgMatches}
use Rattle.tool_words.specs.Grammar.{AreSplit, fits, grammar}
use Rattle.tool_words.specs.Places.{command_met}
use Rattle.tool_words.proofs.SplitForms.{splits}
use Rattle.tool_words.specs.Words.{is_word, command_in, command_of}

-- words that may all stand in a command, and words that may not
pub command_is : (words : List (String Global)) → list_all (λ word. is_word (string_bytes word)) words ≡ true → command_of (map string_bytes words) ≡ command_in (map string_bytes words)
command_is words h = cond-true _ _ _ (list_all-map is_word string_bytes words ∙ h)

pub command_is_not : (words : List (String Global)) → list_all (λ word. is_word (string_bytes word)) words ≡ false → command_of (map string_bytes words) ≡ None
command_is_not words h = cond-false _ _ _ (list_all-map is_word string_bytes words ∙ h)

-- a name and the rows beside it
pair_up : {X : Type 0} (n : X → Text) (r : X → List Row) (o : Option X) (name : Text) (rows : List Row) → option_map n o ≡ Some name
    → option_map (λ (p : Text × List Row). p.1) (option_map {U = Text × List Row} (λ b. (n b, r b)) o) ≡ Some rows → option_map {U = Text × List Row} (λ b. (n b, r b)) o ≡ Some (name, rows)
pair_up n r None name rows named found = absurd (grind (arith, named))
pair_up n r (Some b) name rows named found =
    let is : n b ≡ name = grind (arith, named) in
    let are : r b ≡ rows = grind (arith, found) in
    rw (is, are) refl

-- the command that was found, by its name and the words at its places
pub met_is : (m : ArgMatches) (name : Text) (rows : List Row) → Some name ≡ subcommand_name_of m → Some rows ≡ option_map (λ (p : Text × List Row). p.1) (subcommand_rows_of m)
    → command_met (Some (name, rows)) ≡ command_met (subcommand_rows_of m)
met_is m name rows named found = ap command_met (sym (pair_up _ _ _ name rows (sym named) (sym found)))

pub none_met : (o : Option (Text × List Row)) → None ≡ option_map (λ (p : Text × List Row). p.1) o → None ≡ command_met o
none_met None e = refl
none_met (Some p) e = absurd (grind (arith, e))

-- words that are split are the command that was found, and words that do not fit are none
pub split_is : (words : List (String Global)) (met : Option (Text × List Row)) → list_all (λ word. is_word (string_bytes word)) words ≡ true → AreSplit (map string_bytes words) met
    → command_met met ≡ command_in (map string_bytes words)
split_is words met stand split = ap command_met split.1 ∙ (splits (map string_bytes words) (list_all-map is_word string_bytes words ∙ stand)).0 split.0

pub misfit_is : (words : List (String Global)) → list_all (λ word. is_word (string_bytes word)) words ≡ true → fits (map string_bytes words) ≡ false → None ≡ command_in (map string_bytes words)
misfit_is words stand off = sym ((splits (map string_bytes words) (list_all-map is_word string_bytes words ∙ stand)).1 off)

-- what is said of the value that there is, and of none
pub some_is : {X : Type 0} (o : Option X) (P : X → Type 0) (x : X) → o ≡ Some x → IfSome o P → P x
some_is {X = X} o P x is h = subst (λ (y : Option X). IfSome y P) is h

pub none_is : {X : Type 0} (o : Option X) → o ≡ None → IsNone o
none_is {X = X} o is = subst (λ (y : Option X). IsNone y) (sym is) refl

-- the command line has no flags, so what `clap` says of simple ones holds
grammar_simple : is_simple grammar ≡ true
grammar_simple = refl

grammar_free : is_simple_and_free grammar ≡ true
grammar_free = refl

-- what was found in words that fit
pub found_is : (app : App) (words : List Text) (m : ArgMatches) → app ≡ grammar → HasMatchesOf app words m → (is_simple_and_free app ≡ true → fault_of app words ≡ []) → AreSplit words (subcommand_rows_of m)
found_is app words m is matches passes =
    let all : HasMatchesOf grammar words m = subst (λ (a : App). HasMatchesOf a words m) is matches in
    let none = subst (λ (a : App). is_simple_and_free a ≡ true → fault_of a words ≡ []) is passes in
    (ap (λ (ks : Kinds). is_empty ks) (none grammar_free), (all grammar_simple).1)

-- a fault among those of the words is one
some_fault : (k : ErrorKind) (ks : Kinds) → IsAmong k ks → is_empty ks ≡ false
some_fault k [] h = absurd h
some_fault k (x ∷ xs) h = ne_eqb _ 0 (λ e. omega (arith, e))

-- words with a fault do not fit
pub fault_is : (app : App) (words : List Text) (k : ErrorKind) → app ≡ grammar → (k ≡ OutOfMemory → ⊥) → (is_simple_and_free app ≡ true → (k ≡ OutOfMemory) ⊎ IsAmong k (fault_of app words)) → fits words ≡ false
fault_is app words k is other fails =
    elim ((subst (λ (a : App). is_simple_and_free a ≡ true → (k ≡ OutOfMemory) ⊎ IsAmong k (fault_of a words)) is fails) grammar_free) [
      | inl short ↦ absurd (other short)
      | inr among ↦ some_fault k (fault_of grammar words) among
    ]
