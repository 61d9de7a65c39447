-- How the words of each command are split.
use Rattle.std.proofs.Common.{◌≡◌, ◌∙◌, ◌⊎◌, inl, inr, Bool, true, false, List, [], ◌∷◌, Some, None, map, ap, refl, sym, subst, true≢false, codes}
use Rattle.std.specs.Prelude.{find, fold}
use Rattle.std.specs.List.{list_all}
use Rattle.std.specs.Str.{bytes_eq}
use Rattle.std.proofs.lemmas.Slice.Eq.{bytes_eq-Decides}
use Rattle.clap.specs.Walk.{Row, Text, answers_to, finished, is_empty, nothing_held, walk_from, walked}
use Rattle.clap.specs.Faults.{fault_of, turn_fault}
use Rattle.clap.specs.Kinds.{Kinds}
use Rattle.clap.specs.Simple.{App, Shape, built, filled_from, label_of, names_of, new_shape, subcommand_of}
use Rattle.clap.proofs.OnLiterals.{clap_on_literals}
use Rattle.clap.proofs.WalkLemmas.{both}
use Rattle.tool_words.specs.Words.{is_word, command_in}
use Rattle.tool_words.specs.Grammar.{fits, grammar, place}
use Rattle.tool_words.specs.Places.{block_at, compile_at, check_at, bound_at, decompile_at, play_at, make_at, command_met}
use Rattle.tool_words.proofs.SplitSteps.{first_counts, first_spot, is_single, leaf_fault, leaf_is, named_fault, named_rows, next_spot, rows_are, stop_at, turn_is}

-- the command line as `clap` builds it, and a command of it
abbrev top : App
top = built grammar

abbrev leaf : Text → List Text → Shape
leaf name places = record (new_shape name) {
  rules = filled_from 1 (map place places);
  no_binary_name = true;
  disable_help_flag = true;
  disable_help_subcommand = true;
  disable_version_flag = true;
  is_built = true;
}

abbrev leaf_rows : Shape → List Text → List Row
leaf_rows s words = finished s.rules (fold (next_spot s.rules) first_spot words).0

-- words fit the command line just where they are a command, which is the one that is found
abbrev pub Splits : List Text → Type 0
Splits words = (fits words ≡ true → command_met (subcommand_of grammar words) ≡ command_in words) × (fits words ≡ false → command_in words ≡ None)

misfit : (words : List Text) (ks : Kinds) → fault_of grammar words ≡ ks → is_empty ks ≡ false → command_in words ≡ None → Splits words
misfit words ks is some none = (λ e. absurd (true≢false (sym e ∙ ap (λ (k : Kinds). is_empty k) is ∙ some)), λ e. none)

fit : (words : List Text) → fault_of grammar words ≡ [] → command_met (subcommand_of grammar words) ≡ command_in words → Splits words
fit words is same = (λ e. same, λ e. absurd (true≢false (sym (ap (λ (k : Kinds). is_empty k) is) ∙ e)))

-- the words behind a command's name are read as its places
abbrev Goes : Text → List Text → Type 0
Goes name places = (rest : List Text) → list_all is_word rest ≡ true
    → (fault_of grammar (name ∷ rest) ≡ leaf_fault (leaf name places) rest) × (subcommand_of grammar (name ∷ rest) ≡ Some (name, leaf_rows (leaf name places) rest))

goes : (name : Text) (places : List Text)
    → walked top.top.rules (names_of top) (walk_from nothing_held) name ≡ stop_at name []
    → turn_fault top.top (names_of top) (walk_from nothing_held) name ≡ []
    → find (λ s. answers_to name (label_of s)) top.subs ≡ Some (leaf name places)
    → list_all is_single (leaf name places).rules ≡ true → Goes name places
unfolding clap_on_literals
goes name places first fits found single rest stand = (
  named_fault top name (leaf name places) first fits found refl rest ∙ leaf_is (leaf name places) single rest stand,
  named_rows top name (leaf name places) first fits found refl rest ∙ ap (λ (rows : List Row). Some (name, rows)) (rows_are (leaf name places).rules single rest stand),
)

-- so many words behind a command's name are those of its places, or they do not fit and are no command
abbrev Answers : Text → List Text → List Text → Type 0
Answers name places rest =
    ((leaf_fault (leaf name places) rest ≡ []) × (command_met (Some (name, leaf_rows (leaf name places) rest)) ≡ command_in (name ∷ rest)))
    ⊎ ((is_empty (leaf_fault (leaf name places) rest) ≡ false) × (command_in (name ∷ rest) ≡ None))

splits_by : (name : Text) (places rest : List Text) → Goes name places → Answers name places rest → list_all is_word rest ≡ true → Splits (name ∷ rest)
splits_by name places rest found (inl h) stand = fit (name ∷ rest) ((found rest stand).0 ∙ h.0) (ap command_met (found rest stand).1 ∙ h.1)
splits_by name places rest found (inr h) stand = misfit (name ∷ rest) _ (found rest stand).0 h.0 h.1

abbrev block_places : List Text
block_places = codes "IN" ∷ codes "OUT" ∷ []

block_goes : Goes (codes "block") block_places
unfolding clap_on_literals
block_goes = goes (codes "block") block_places refl refl refl refl

block_answers : (rest : List Text) → Answers (codes "block") block_places rest
unfolding clap_on_literals block_at
block_answers [] = inr (refl, refl)
block_answers (a ∷ []) = inr (refl, refl)
block_answers (a ∷ b ∷ []) = inl (refl, refl)
block_answers (a ∷ b ∷ c ∷ []) = inr (refl, refl)
block_answers (a ∷ b ∷ c ∷ d ∷ []) = inr (refl, refl)
block_answers (a ∷ b ∷ c ∷ d ∷ e ∷ rest) = inr (refl, refl)

-- the commands of the one word MANIFEST: behind the name of one, no other number of words is a command
abbrev manifest_places : List Text
manifest_places = codes "MANIFEST" ∷ []

record IsAlone (name : Text) : Type 0 where
  two : (a b : Text) → command_in (name ∷ a ∷ b ∷ []) ≡ None
  three : (a b c : Text) → command_in (name ∷ a ∷ b ∷ c ∷ []) ≡ None
  four : (a b c d : Text) → command_in (name ∷ a ∷ b ∷ c ∷ d ∷ []) ≡ None

manifest_answers : (name : Text) → IsAlone name → ((a : Text) → command_met (Some (name, leaf_rows (leaf name manifest_places) (a ∷ []))) ≡ command_in (name ∷ a ∷ []))
    → (rest : List Text) → Answers name manifest_places rest
unfolding clap_on_literals
manifest_answers name alone met [] = inr (refl, refl)
manifest_answers name alone met (a ∷ []) = inl (refl, met a)
manifest_answers name alone met (a ∷ b ∷ []) = inr (refl, alone.two a b)
manifest_answers name alone met (a ∷ b ∷ c ∷ []) = inr (refl, alone.three a b c)
manifest_answers name alone met (a ∷ b ∷ c ∷ d ∷ []) = inr (refl, alone.four a b c d)
manifest_answers name alone met (a ∷ b ∷ c ∷ d ∷ e ∷ rest) = inr (refl, refl)

compile_goes : Goes (codes "compile") manifest_places
unfolding clap_on_literals
compile_goes = goes (codes "compile") manifest_places refl refl refl refl

compile_answers : (rest : List Text) → Answers (codes "compile") manifest_places rest
unfolding clap_on_literals compile_at
compile_answers = manifest_answers (codes "compile") (record { two = λ a b. refl; three = λ a b c. refl; four = λ a b c d. refl }) (λ a. refl)

check_goes : Goes (codes "check") manifest_places
unfolding clap_on_literals
check_goes = goes (codes "check") manifest_places refl refl refl refl

check_answers : (rest : List Text) → Answers (codes "check") manifest_places rest
unfolding clap_on_literals check_at
check_answers = manifest_answers (codes "check") (record { two = λ a b. refl; three = λ a b c. refl; four = λ a b c d. refl }) (λ a. refl)

abbrev bound_places : List Text
bound_places = codes "MANIFEST" ∷ codes "EFFORT" ∷ []

bound_goes : Goes (codes "bound") bound_places
unfolding clap_on_literals
bound_goes = goes (codes "bound") bound_places refl refl refl refl

bound_answers : (rest : List Text) → Answers (codes "bound") bound_places rest
unfolding clap_on_literals bound_at
bound_answers [] = inr (refl, refl)
bound_answers (a ∷ []) = inr (refl, refl)
bound_answers (a ∷ b ∷ []) = inl (refl, refl)
bound_answers (a ∷ b ∷ c ∷ []) = inr (refl, refl)
bound_answers (a ∷ b ∷ c ∷ d ∷ []) = inr (refl, refl)
bound_answers (a ∷ b ∷ c ∷ d ∷ e ∷ rest) = inr (refl, refl)

abbrev decompile_places : List Text
decompile_places = codes "FORM" ∷ codes "FILE" ∷ codes "OUT" ∷ []

decompile_goes : Goes (codes "decompile") decompile_places
unfolding clap_on_literals
decompile_goes = goes (codes "decompile") decompile_places refl refl refl refl

decompile_answers : (rest : List Text) → Answers (codes "decompile") decompile_places rest
unfolding clap_on_literals decompile_at
decompile_answers [] = inr (refl, refl)
decompile_answers (a ∷ []) = inr (refl, refl)
decompile_answers (a ∷ b ∷ []) = inr (refl, refl)
decompile_answers (a ∷ b ∷ c ∷ []) = inl (refl, refl)
decompile_answers (a ∷ b ∷ c ∷ d ∷ []) = inr (refl, refl)
decompile_answers (a ∷ b ∷ c ∷ d ∷ e ∷ rest) = inr (refl, refl)

abbrev play_places : List Text
play_places = codes "FORM" ∷ codes "FILE" ∷ codes "ENTRY" ∷ codes "COUNT" ∷ []

play_goes : Goes (codes "play") play_places
unfolding clap_on_literals
play_goes = goes (codes "play") play_places refl refl refl refl

play_answers : (rest : List Text) → Answers (codes "play") play_places rest
unfolding clap_on_literals play_at
play_answers [] = inr (refl, refl)
play_answers (a ∷ []) = inr (refl, refl)
play_answers (a ∷ b ∷ []) = inr (refl, refl)
play_answers (a ∷ b ∷ c ∷ []) = inr (refl, refl)
play_answers (a ∷ b ∷ c ∷ d ∷ []) = inl (refl, refl)
play_answers (a ∷ b ∷ c ∷ d ∷ e ∷ rest) = inr (refl, refl)

abbrev make_places : List Text
make_places = codes "NUMBER" ∷ []

make_goes : Goes (codes "make") make_places
unfolding clap_on_literals
make_goes = goes (codes "make") make_places refl refl refl refl

make_answers : (rest : List Text) → Answers (codes "make") make_places rest
unfolding clap_on_literals make_at
make_answers [] = inr (refl, refl)
make_answers (a ∷ []) = inl (refl, refl)
make_answers (a ∷ b ∷ []) = inr (refl, refl)
make_answers (a ∷ b ∷ c ∷ []) = inr (refl, refl)
make_answers (a ∷ b ∷ c ∷ d ∷ []) = inr (refl, refl)
make_answers (a ∷ b ∷ c ∷ d ∷ e ∷ rest) = inr (refl, refl)

-- two words are the same or not
abbrev Differ : Text → Text → Type 0
Differ a b = (bytes_eq a b ≡ false) × (bytes_eq b a ≡ false)

same_or_not : (a b : Text) → (a ≡ b) ⊎ Differ a b
same_or_not a b = go (bytes_eq a b) refl (bytes_eq b a) refl
  where
    go : (x : Bool) → bytes_eq a b ≡ x → (y : Bool) → bytes_eq b a ≡ y → (a ≡ b) ⊎ Differ a b
    go true e y f = inl ((bytes_eq-Decides a b).0 e)
    go false e true f = inl (sym ((bytes_eq-Decides b a).0 f))
    go false e false f = inr (e, f)

-- words whose first is no command
module _ (name : Text) (stands : is_word name ≡ true) (block : Differ name (codes "block")) (compile : Differ name (codes "compile")) (check : Differ name (codes "check"))
    (bound : Differ name (codes "bound")) (decompile : Differ name (codes "decompile")) (play : Differ name (codes "play")) (make : Differ name (codes "make")) where
  missing : find (answers_to name) (names_of top) ≡ None
  missing = rw (block.1, compile.1, check.1, bound.1, decompile.1, play.1, make.1) refl

  no_command : (rest : List Text) → command_in (name ∷ rest) ≡ None
  no_command [] = refl
  no_command (a ∷ []) = rw (compile.0, check.0, make.0) refl
  no_command (a ∷ b ∷ []) = rw (block.0, bound.0) refl
  no_command (a ∷ b ∷ c ∷ []) = rw decompile.0 refl
  no_command (a ∷ b ∷ c ∷ d ∷ []) = rw play.0 refl
  no_command (a ∷ b ∷ c ∷ d ∷ e ∷ rest) = refl

  stray : (rest : List Text) → fits (name ∷ rest) ≡ false
  unfolding clap_on_literals
  stray rest = first_counts (turn_fault top.top (names_of top) (walk_from nothing_held) name) _ _ (ap (λ (k : Kinds). is_empty k) (turn_is top.top (names_of top) first_spot name stands missing))

  stray_splits : (rest : List Text) → Splits (name ∷ rest)
  stray_splits rest = (λ e. absurd (true≢false (sym e ∙ stray rest)), λ e. no_command rest)

-- the same words behind another spelling of the name
renamed : (name word : Text) (rest : List Text) → name ≡ word → Splits (word ∷ rest) → Splits (name ∷ rest)
renamed name word rest is h = subst (λ (n : Text). Splits (n ∷ rest)) (sym is) h

split_from : (name : Text) (rest : List Text) → is_word name ≡ true → list_all is_word rest ≡ true
    → (name ≡ codes "block") ⊎ Differ name (codes "block") → (name ≡ codes "compile") ⊎ Differ name (codes "compile") → (name ≡ codes "check") ⊎ Differ name (codes "check")
    → (name ≡ codes "bound") ⊎ Differ name (codes "bound") → (name ≡ codes "decompile") ⊎ Differ name (codes "decompile")
    → (name ≡ codes "play") ⊎ Differ name (codes "play") → (name ≡ codes "make") ⊎ Differ name (codes "make")
    → Splits (name ∷ rest)
split_from name rest stands stand (inl is) _ _ _ _ _ _ = renamed name _ rest is (splits_by _ block_places rest block_goes (block_answers rest) stand)
split_from name rest stands stand (inr a) (inl is) _ _ _ _ _ = renamed name _ rest is (splits_by _ manifest_places rest compile_goes (compile_answers rest) stand)
split_from name rest stands stand (inr a) (inr b) (inl is) _ _ _ _ = renamed name _ rest is (splits_by _ manifest_places rest check_goes (check_answers rest) stand)
split_from name rest stands stand (inr a) (inr b) (inr c) (inl is) _ _ _ = renamed name _ rest is (splits_by _ bound_places rest bound_goes (bound_answers rest) stand)
split_from name rest stands stand (inr a) (inr b) (inr c) (inr d) (inl is) _ _ = renamed name _ rest is (splits_by _ decompile_places rest decompile_goes (decompile_answers rest) stand)
split_from name rest stands stand (inr a) (inr b) (inr c) (inr d) (inr e) (inl is) _ = renamed name _ rest is (splits_by _ play_places rest play_goes (play_answers rest) stand)
split_from name rest stands stand (inr a) (inr b) (inr c) (inr d) (inr e) (inr f) (inl is) = renamed name _ rest is (splits_by _ make_places rest make_goes (make_answers rest) stand)
split_from name rest stands stand (inr a) (inr b) (inr c) (inr d) (inr e) (inr f) (inr g) = stray_splits name stands a b c d e f g rest

pub splits : (words : List Text) → list_all is_word words ≡ true → Splits words
unfolding clap_on_literals
splits [] stand = misfit [] _ refl refl refl
splits (name ∷ rest) stand =
    split_from name rest (both (is_word name) _ stand).0 (both (is_word name) _ stand).1 (same_or_not _ _) (same_or_not _ _) (same_or_not _ _) (same_or_not _ _) (same_or_not _ _) (same_or_not _ _) (same_or_not _ _)
