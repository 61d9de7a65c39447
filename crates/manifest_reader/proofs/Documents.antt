-- The table that bytes spell.
use Rattle.std.proofs.Common.{◌≡◌, ℕ, List, false, Some, Ok, Err, refl, sym, ap, ◌∙◌}
use Rattle.std.specs.Prelude.{IsUtf8}
use Rattle.std.proofs.lemmas.Bool.{false_from_ne_true}
use Rattle.std.proofs.lemmas.Str.{IsUtf8-from_is_utf8, is_utf8-from_IsUtf8}
use Rattle.std.specs.Str.{is_utf8}
use Rattle.toml.specs.Data.{Members}
use Rattle.toml.specs.Parse.{parse_document}
use Rattle.manifest_reader.specs.declared.fault.ManifestFault.TheVariants.{NotToml}
use Rattle.manifest_reader.specs.Meaning.{document_of}

-- bytes that are not UTF-8 spell no table
pub not_text : (bytes : List ℕ) → (IsUtf8 bytes → ⊥) → document_of bytes ≡ Err NotToml
unfolding document_of
not_text bytes not =
    let no : is_utf8 bytes ≡ false = false_from_ne_true _ (λ h. not (IsUtf8-from_is_utf8 bytes h)) in
    rw no refl

-- a text spells the table that it is parsed to
pub is_text : (bytes text : List ℕ) (ms : Members) → text ≡ bytes → IsUtf8 bytes → parse_document text ≡ Some ms → document_of bytes ≡ Ok ms
unfolding document_of
is_text bytes text ms same utf parsed =
    let parse : parse_document bytes ≡ Some ms = ap parse_document (sym same) ∙ parsed in
    rw (is_utf8-from_IsUtf8 bytes utf, parse) refl
