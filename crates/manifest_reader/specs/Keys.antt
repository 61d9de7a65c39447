-- What stands at a key of a table.
use Rattle.std.specs.Prelude.{⊤, ℕ, Bool, ℤ, pos, negsuc, ◌%◌, ◌&&◌, ◌==◌, nat_le, if◌then◌else◌, List, [], ◌∷◌, Option, Some, None, Result, Ok, Err}
use Rattle.std.specs.Option.{ok_or}
use Rattle.std.specs.List.{list_any}
use Rattle.std.specs.Str.{bytes_eq}
use Rattle.std.specs.Ordering.{nat_cmp, is_lt}
use Rattle.std.specs.Cmp.Lexicographic.{slice_cmp}
use Rattle.toml.specs.Data.{Data, Members, no_members, member, get_member, as_str, as_integer}
use Rattle.adpcm_nums.specs.Outcome.{◌>>=◌}
use Rattle.manifest_reader.specs.declared.fault.ManifestFault.{ManifestFault}
use Rattle.manifest_reader.specs.declared.fault.ManifestFault.TheVariants.{UnknownKey, MissingKey, WrongKind, OutOfRange}

-- what is read of the value, where there is one
abbrev pub if_there : {A : Type 0} → (Data → Result A ManifestFault) → Option Data → Result (Option A) ManifestFault
if_there read None = Ok None
if_there read (Some d) = do
  a ← read d
  Ok (Some a)

-- the text at a key, where something stands there
unfoldable pub text_at : List ℕ → Members → Result (Option (List ℕ)) ManifestFault
text_at key table = if_there (λ d. ok_or (as_str d) (WrongKind key)) (get_member key table)

-- the text at a key that has to be there
unfoldable pub needed_text : List ℕ → Members → Result (List ℕ) ManifestFault
needed_text key table = do
  text ← text_at key table
  ok_or text (MissingKey key)

-- the number, where it is a multiple of step in low..high
abbrev pub in_range : ℕ → ℕ → ℕ → ℤ → Option ℕ
in_range low high step (pos n) = if nat_le low n && (nat_le n high && n % step == 0) then Some n else None
in_range low high step (negsuc n) = None

-- the number at a key, where something stands there
unfoldable pub number_at : ℕ → ℕ → ℕ → List ℕ → Members → Result (Option ℕ) ManifestFault
number_at low high step key table =
    if_there (λ d. ok_or (as_integer d) (WrongKind key) >>= λ z. ok_or (in_range low high step z) (OutOfRange key z)) (get_member key table)

-- whether a text is one of these
abbrev pub is_among : List ℕ → List (List ℕ) → Bool
is_among text texts = list_any (bytes_eq text) texts

-- the keys of a table
abbrev pub keys_of : Members → List (List ℕ)
keys_of no_members = []
keys_of (member key d table) = key ∷ keys_of table

-- the lesser of a key and another, by their bytes
abbrev pub lesser : List ℕ → Option (List ℕ) → List ℕ
lesser key None = key
lesser key (Some other) = if is_lt (slice_cmp nat_cmp other key) then other else key

-- the first key in byte order that is not known
unfoldable pub first_unknown : List (List ℕ) → List (List ℕ) → Option (List ℕ)
first_unknown known [] = None
first_unknown known (key ∷ keys) =
    if is_among key known then first_unknown known keys else Some (lesser key (first_unknown known keys))

-- that key is refused
abbrev pub refuse_key : Option (List ℕ) → Result ⊤ ManifestFault
refuse_key None = Ok tt
refuse_key (Some key) = Err (UnknownKey key)

-- no key but the known ones, or the first other one in byte order
unfoldable pub check_keys : List (List ℕ) → Members → Result ⊤ ManifestFault
check_keys known table = refuse_key (first_unknown known (keys_of table))
