-- What the checks of names leave.
use Rattle.std.proofs.Common.{◌≡◌, ◌||◌, ℕ, Bool, true, false, List, [], ◌∷◌, ◌++◌, map, Ok, inl, inr, refl, sym, ◌∙◌}
use Rattle.std.specs.List.{list_any, IsDistinct, AllByRecursion}
use Rattle.std.specs.Str.{bytes_eq}
use Rattle.std.proofs.lemmas.Bool.{cases_Bool, false_from_ne_true, true≢false}
use Rattle.std.proofs.lemmas.List.Elements.{All-cons, All-nil}
use Rattle.std.proofs.lemmas.List.Folds.{list_any-append}
use Rattle.std.proofs.lemmas.Slice.Eq.{bytes_eq-Decides}
use Rattle.manifest_reader.specs.declared.manifest.SampleEntry.{SampleEntry}
use Rattle.manifest_reader.specs.Keys.{is_among}
use Rattle.manifest_reader.specs.Names.{check_same, check_clash}
use Rattle.manifest_reader.specs.Ranges.{AreDistinct, IsApart}

-- where nothing clashes, no file and not the manifest is among the stored names
pub apart_from_check : (stored : List (List ℕ)) (samples : List SampleEntry) (own : List ℕ) → check_clash stored samples own ≡ Ok tt → IsApart stored samples own
unfolding check_clash
apart_from_check stored [] own h = elim (cases_Bool (is_among own stored)) [
  | inl met ↦ absurd (let other = rw met at h in cc)
  | inr apart ↦ record { files = All-nil (λ (s : SampleEntry). is_among s.file stored ≡ false); manifest = apart }
]
apart_from_check stored (s ∷ samples) own h = elim (cases_Bool (is_among s.file stored)) [
  | inl met ↦ absurd (let other = rw met at h in cc)
  | inr apart ↦ let rest = apart_from_check stored samples own (rw apart at h) in record { files = All-cons (λ e. is_among e.file stored ≡ false) s samples apart rest.files; manifest = rest.manifest }
]

-- a name that no seen sample has is not that of t
abbrev IsSeen : List SampleEntry → SampleEntry → Type 0
IsSeen seen t = (name : List ℕ) → list_any (λ e. bytes_eq name e.name) seen ≡ false → bytes_eq name t.name ≡ false

-- both sides of an or that is false are false
left_false : (a b : Bool) → (a || b) ≡ false → a ≡ false
left_false false b h = refl
left_false true b h = h

-- the same, on the right
right_false : (a b : Bool) → (a || b) ≡ false → b ≡ false
right_false false b h = h
right_false true b h = absurd (true≢false h)

-- the last that was seen is seen
seen_last : (seen : List SampleEntry) (s : SampleEntry) → IsSeen (seen ++ s ∷ []) s
seen_last seen s name h =
    let parts = sym (list_any-append (λ e. bytes_eq name e.name) seen (s ∷ [])) ∙ h in
    left_false _ _ (right_false (list_any (λ e. bytes_eq name e.name) seen) _ parts)

-- what was seen stays seen
seen_still : (seen : List SampleEntry) (s t : SampleEntry) → IsSeen seen t → IsSeen (seen ++ s ∷ []) t
seen_still seen s t before name h = before name (left_false _ _ (sym (list_any-append (λ e. bytes_eq name e.name) seen (s ∷ [])) ∙ h))

-- it does not matter in which order two texts are compared
other_way : (a b : List ℕ) → bytes_eq a b ≡ false → bytes_eq b a ≡ false
other_way a b h = false_from_ne_true _ (λ e. true≢false (sym ((bytes_eq-Decides a b).1 (sym ((bytes_eq-Decides b a).0 e))) ∙ h))

-- no later sample has the name of one that was seen
apart_later : (seen samples : List SampleEntry) (t : SampleEntry) → check_same seen samples ≡ Ok tt → IsSeen seen t → AllByRecursion (λ name. bytes_eq t.name name ≡ false) (map (λ s. s.name) samples)
unfolding check_same
apart_later seen [] t h before = tt
apart_later seen (s ∷ samples) t h before = elim (cases_Bool (list_any (λ e. bytes_eq s.name e.name) seen)) [
  | inl met ↦ absurd (let other = rw met at h in cc)
  | inr apart ↦ (other_way s.name t.name (before s.name apart), apart_later (seen ++ s ∷ []) samples t (rw apart at h) (seen_still seen s t before))
]

-- the samples after those that were seen have different names
distinct_after : (seen samples : List SampleEntry) → check_same seen samples ≡ Ok tt → IsDistinct bytes_eq (map (λ s. s.name) samples)
unfolding check_same IsDistinct
distinct_after seen [] h = tt
distinct_after seen (s ∷ samples) h = elim (cases_Bool (list_any (λ e. bytes_eq s.name e.name) seen)) [
  | inl met ↦ absurd (let other = rw met at h in cc)
  | inr apart ↦ (apart_later (seen ++ s ∷ []) samples s (rw apart at h) (seen_last seen s), distinct_after (seen ++ s ∷ []) samples (rw apart at h))
]

-- where no name stands earlier already, no two samples have one name
pub distinct_from_check : (samples : List SampleEntry) → check_same [] samples ≡ Ok tt → AreDistinct samples
distinct_from_check samples h = distinct_after [] samples h
