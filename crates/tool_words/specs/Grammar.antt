-- What the words of the command line are split by: one subcommand for each command, with its words in order.
use Rattle.std.specs.Prelude.{◌≡◌, Bool, true, List, [], ◌∷◌, Option, map, codes}
use Rattle.clap.specs.Words.{App, Row, Rule, Shape, Text, fault_of, new_rule, subcommand_of, with_subcommand}
use Rattle.clap.specs.Walk.{is_empty}
use Rattle.clap.specs.Simple.{new_shape}

-- a word that must be there, by the name of its place
abbrev pub place : Text → Rule
place name = record (new_rule name) { required = true }

-- a command of this name with a word for each of these places
abbrev pub form : Text → List Text → Shape
form name places = record (new_shape name) { rules = map place places }

-- the command line before its commands: no flags and no command `help`
abbrev pub no_forms : App
no_forms = record {
  top = record (new_shape (codes "adbank")) {
    no_binary_name = true;
    disable_help_flag = true;
    disable_help_subcommand = true;
    disable_version_flag = true;
    subcommand_required = true;
  };
  subs = [];
}

-- the commands for banks and for one block
abbrev pub bank_forms : App
bank_forms =
    with_subcommand (with_subcommand (with_subcommand (with_subcommand no_forms
    (form (codes "block") (codes "IN" ∷ codes "OUT" ∷ [])))
    (form (codes "compile") (codes "MANIFEST" ∷ [])))
    (form (codes "check") (codes "MANIFEST" ∷ [])))
    (form (codes "bound") (codes "MANIFEST" ∷ codes "EFFORT" ∷ []))

-- the command line: all commands with the places of their words
abbrev pub grammar : App
grammar =
    with_subcommand (with_subcommand (with_subcommand bank_forms
    (form (codes "decompile") (codes "FORM" ∷ codes "FILE" ∷ codes "OUT" ∷ [])))
    (form (codes "play") (codes "FORM" ∷ codes "FILE" ∷ codes "ENTRY" ∷ codes "COUNT" ∷ [])))
    (form (codes "make") (codes "NUMBER" ∷ []))

-- whether words fit the command line
abbrev pub fits : List Text → Bool
fits words = is_empty (fault_of grammar words)

-- words fit the command line, and the command that was found is the one that they name, with the words at its places
abbrev pub AreSplit : List Text → Option (Text × List Row) → Type 0
AreSplit words found = (fits words ≡ true) × (found ≡ subcommand_of grammar words)
