-- What is found for all segments of a fitted sound: the list that may be stored, the certificate, and what they come to.
use Rattle.std.proofs.Common.{◌≡◌, ℕ, ◌+◌, ◌*◌, ◌^◌, ◌<◌, ◌≤◌, ◌⊎◌, inl, inr, ℤ, List, [], ◌∷◌, length, map, sum, sym, ap, ◌∙◌, subst, refl, arith, Bool, Ok, ◌==◌, if◌then◌else◌}
use Rattle.std.specs.List.{sum_by}
use Rattle.std.proofs.lemmas.List.Sums.{sum_by-cons}
use Rattle.std.proofs.lemmas.Bool.Decides.{nat_tests}
use Rattle.std.proofs.lemmas.List.{length-map}
use Rattle.machine_core.specs.Decoder.{start, miss}
use Rattle.machine_core.specs.Blocks.{Blocks, IsInRange, IsLegal}
use Rattle.machine_core.specs.Rules.{Rules}
use Rattle.machine_core.specs.Sums.{sum_after}
use Rattle.machine_core.specs.Segments.{part_targets, AreSegments, AreLegal, segment_sums}
use Rattle.machine_core.proofs.SegmentLaws.{whole-legal, segments-sum}
use Rattle.machine_core.proofs.States.{sum-small}
use Rattle.bound_cert.specs.Content.{Plain, Segment}
use Rattle.bound_cert.specs.Grammar.{read_of}
use Rattle.std.specs.Prelude.{slice_get, Some}
use Rattle.bound_cert.specs.Small.{SmallSegment}
use Rattle.bound_cert.specs.Spelling.{cert_bytes, segment_bytes, AreWritable, placed, blocks_of}
use Rattle.bound_cert.proofs.Writable.{segments-small}
use Rattle.bound_cert.proofs.Again.{read-back}
use Rattle.loop_fit.specs.declared.fitted.Fitted.{Fitted}
use Rattle.loop_fit.proofs.SegmentsCut.{segments-cut}
use Rattle.branch_bound.specs.declared.top.Found.{Found}
use Rattle.branch_bound.specs.Searched.{IsLevel}
use Rattle.bank_kinds.specs.Codec.{Codec, IsCodec, fixed_in}
use Rattle.bank_kinds.specs.Bound.{IsBound}
use Rattle.bank_kinds.specs.Certified.{IsShown, AreShown, IsCertified, level_count, levels_of, segments_in}
use Rattle.bank_kinds.specs.Fits.{IsFit, error_of}
use Rattle.bank_compile.specs.Known.{certs_of, bounds_of, sums_of, IsKnown}
use Rattle.manifest_reader.specs.declared.effort.Effort.{Effort}
use Rattle.bank_compile.specs.Sample.{AreFound, IsChosen, share_of, list_in}
use Rattle.bank_compile.proofs.WholeLists.{nothing, nothing-in-range, nothing-first, are-parts}

-- as many segments as blocks at most
segments-few : (fixed : ℕ → Bool) (b : ℕ) (counts : List ℕ) (blocks : ℕ) → AreSegments fixed b counts blocks → b + length counts ≤ blocks
segments-few fixed b [] blocks are = omega (arith, are)
segments-few fixed b (count ∷ counts) blocks are = let later = segments-few fixed (b + count) counts blocks are.2 in let some = are.0 in omega (arith, later, some)

segments-sum_up : (fixed : ℕ → Bool) (b : ℕ) (counts : List ℕ) (blocks : ℕ) → AreSegments fixed b counts blocks → b + sum counts ≡ blocks
segments-sum_up fixed b [] blocks are = omega (arith, are)
segments-sum_up fixed b (count ∷ counts) blocks are = let later = segments-sum_up fixed (b + count) counts blocks are.2 in omega (arith, later, sum_by-cons (λ n. n) count counts)

as-many : (r : Rules) (effort : Effort) (share : ℕ) (targets : List ℤ) (b : ℕ) (counts : List ℕ) (fs : List Found) → AreFound r effort share targets b counts fs → length fs ≡ length counts
as-many r effort share targets b [] [] are = refl
as-many r effort share targets b [] (f ∷ fs) are = absurd are
as-many r effort share targets b (count ∷ counts) [] are = absurd are
as-many r effort share targets b (count ∷ counts) (f ∷ fs) are = let later = as-many r effort share targets (b + count) counts fs are.1 in omega (arith, later)

-- they can be written
are-writable : (r : Rules) (effort : Effort) (share : ℕ) (targets : List ℤ) (b : ℕ) (counts : List ℕ) (fs : List Found) → AreFound r effort share targets b counts fs → AreWritable r.kind r.decoder.samples (certs_of fs)
are-writable r effort share targets b [] [] are = tt
are-writable r effort share targets b [] (f ∷ fs) are = absurd are
are-writable r effort share targets b (count ∷ counts) [] are = absurd are
are-writable r effort share targets b (count ∷ counts) (f ∷ fs) are = (are.0.writable, are-writable r effort share targets (b + count) counts fs are.1)

-- as segments of so many blocks
blocks-are : (r : Rules) (effort : Effort) (share : ℕ) (targets : List ℤ) (b : ℕ) (counts : List ℕ) (fs : List Found) → AreFound r effort share targets b counts fs → map blocks_of (certs_of fs) ≡ counts
blocks-are r effort share targets b [] [] are = refl
blocks-are r effort share targets b [] (f ∷ fs) are = absurd are
blocks-are r effort share targets b (count ∷ counts) [] are = absurd are
blocks-are r effort share targets b (count ∷ counts) (f ∷ fs) are =
    ap (λ n. n ∷ map blocks_of (certs_of fs)) are.0.blocks_are ∙ ap (λ ns. count ∷ ns) (blocks-are r effort share targets (b + count) counts fs are.1)

-- each shows its bound
are-shown : (r : Rules) (effort : Effort) (share : ℕ) (targets : List ℤ) (b at : ℕ) (counts : List ℕ) (fs : List Found) → AreFound r effort share targets b counts fs → AreShown r targets b (placed at (certs_of fs))
are-shown r effort share targets b at [] [] are = tt
are-shown r effort share targets b at [] (f ∷ fs) are = absurd are
are-shown r effort share targets b at (count ∷ counts) [] are = absurd are
are-shown r effort share targets b at (count ∷ counts) (f ∷ fs) are =
    let is = are.0 in
    let s : Segment = record { at = at + 16; blocks = f.cert.blocks; level = f.cert.level; bound = f.cert.bound; layers = f.cert.layers } in
    let later = are-shown r effort share targets (b + count) (at + length (segment_bytes f.cert)) counts fs are.1 in
    let shown : IsShown r (part_targets r.decoder targets b count) s = record { accepted = is.accepted; bound = is.bound } in (
      subst (λ (n : ℕ). IsShown r (part_targets r.decoder targets b n) s) (sym is.blocks_are) shown,
      subst (λ (n : ℕ). AreShown r targets (b + n) (placed (at + length (segment_bytes f.cert)) (certs_of fs))) (sym is.blocks_are) later,
    )

bounds-are : (at : ℕ) (fs : List Found) → bounds_of fs ≡ sum_by (λ s. s.bound) (placed at (certs_of fs))
bounds-are at [] = refl
bounds-are at (f ∷ fs) =
    let next = at + length (segment_bytes f.cert) in
    let s : Segment = record { at = at + 16; blocks = f.cert.blocks; level = f.cert.level; bound = f.cert.bound; layers = f.cert.layers } in
    omega (arith, bounds-are next fs, sum_by-cons (λ (g : Found). g.cert.bound) f fs, sum_by-cons (λ (z : Segment). z.bound) s (placed next (certs_of fs)))

levels-are : (at : ℕ) (fs : List Found) → map (λ f. f.cert.level) fs ≡ map (λ s. s.level) (placed at (certs_of fs))
levels-are at [] = refl
levels-are at (f ∷ fs) = ap (λ ls. f.cert.level ∷ ls) (levels-are (at + length (segment_bytes f.cert)) fs)

-- the segments of a fitted sound
cut-of : (c : Codec) (fitted : Fitted) → IsFit c fitted → AreSegments (fixed_in c fitted) 0 (segments_in c fitted) fitted.blocks
cut-of c fitted fit = segments-cut c.rules.kind fitted.blocks fitted.loop_block fit.whole.some fit.whole.loop_block

few-found : (c : Codec) (effort : Effort) (fitted : Fitted) (fs : List Found) → IsFit c fitted → IsChosen c effort fitted fs → length fs ≤ 4096
few-found c effort fitted fs fit chosen =
    let few = segments-few (fixed_in c fitted) 0 (segments_in c fitted) fitted.blocks (cut-of c fitted fit) in
    let many = as-many c.rules effort (share_of c effort fitted) fitted.targets 0 (segments_in c fitted) fs chosen in
    let most = fit.whole.few in
    omega (arith, few, many, most)

chosen-writable : (c : Codec) (effort : Effort) (fitted : Fitted) (fs : List Found) → IsChosen c effort fitted fs → AreWritable c.rules.kind c.rules.decoder.samples (certs_of fs)
chosen-writable c effort fitted fs chosen = are-writable c.rules effort (share_of c effort fitted) fitted.targets 0 (segments_in c fitted) fs chosen

-- what the lists of all segments are to the whole sound
record IsWholeList (c : Codec) (fitted : Fitted) (fs : List Found) : Type 0 where
  legal : IsLegal c.rules.decoder fitted.blocks (fixed_in c fitted) (list_in fs)
  error : error_of c fitted (list_in fs) ≡ sums_of fs
  small : error_of c fitted (list_in fs) < 2 ^ 64

whole-list : (c : Codec) (effort : Effort) (fitted : Fitted) (fs : List Found) → IsCodec c → IsFit c fitted → IsChosen c effort fitted fs → IsWholeList c fitted fs
whole-list c effort fitted fs laws fit chosen =
    let r = c.rules in
    let d = r.decoder in
    let fixed = fixed_in c fitted in
    let counts = segments_in c fitted in
    let cut = cut-of c fitted fit in
    let parts = are-parts r effort (share_of c effort fitted) fitted.targets nothing 0 counts fs laws.laws.some_samples (nothing-in-range d) chosen in
    let same = nothing-first fs in
    let blocks : 0 + sum counts ≡ fitted.blocks = segments-sum_up fixed 0 counts fitted.blocks cut in
    let in_range = subst (λ (n : ℕ). IsInRange d n (list_in fs)) blocks (subst (λ (l : Blocks). IsInRange d (0 + sum counts) l) same parts.in_range) in
    let legal = whole-legal d fitted.blocks fixed (list_in fs) counts in_range cut (subst (λ (l : Blocks). AreLegal d l 0 counts) same parts.legal) in
    let first : 0 ≡ 0 * d.samples = omega arith in
    let error : error_of c fitted (list_in fs) ≡ sums_of fs =
    ap (λ z. sum_after d (miss d fitted.targets) (list_in fs) start z (fitted.blocks * d.samples)) first
    ∙ (segments-sum d fitted.blocks fixed (list_in fs) fitted.targets laws.laws.forgets legal 0 fitted.blocks counts start cut (omega arith)
    ∙ (ap (λ (l : Blocks). segment_sums d l fitted.targets 0 counts) (sym same) ∙ parts.sums)) in
    let few : error_of c fitted (list_in fs) ≤ fitted.blocks * d.samples * 2 ^ 32 = sum-small r laws.laws fitted.blocks (list_in fs) fitted.targets in_range fit.whole.count fit.whole.range start laws.laws.start_fits 0 (fitted.blocks * d.samples) (omega arith) in
    let long = fit.whole.count in
    let most = fit.whole.small in
    record { legal = legal; error = error; small = omega (arith, few, long, most) }

pub chosen-legal : (c : Codec) (effort : Effort) (fitted : Fitted) (fs : List Found) → IsCodec c → IsFit c fitted → IsChosen c effort fitted fs → IsLegal c.rules.decoder fitted.blocks (fixed_in c fitted) (list_in fs)
chosen-legal c effort fitted fs laws fit chosen = (whole-list c effort fitted fs laws fit chosen).legal

-- the certificate
pub chosen-certified : (c : Codec) (effort : Effort) (fitted : Fitted) (fs : List Found) → IsCodec c → IsFit c fitted → IsChosen c effort fitted fs
    → IsCertified c (cert_bytes c.rules.kind (certs_of fs)) fitted (bounds_of fs) (levels_of (map (λ f. f.cert.level) fs))
chosen-certified c effort fitted fs laws fit chosen =
    let r = c.rules in
    let counts = segments_in c fitted in
    let share = share_of c effort fitted in
    let writable = are-writable r effort share fitted.targets 0 counts fs chosen in
    let few = few-found c effort fitted fs fit chosen in
    let count = length-map fs (λ (f : Found). f.cert) in
    let read = read-back r.kind r.decoder.samples (certs_of fs) laws.laws.few_samples (omega (arith, few, count)) writable in
    let blocks = blocks-are r effort share fitted.targets 0 counts fs chosen in
    record {
      segments = placed 8 (certs_of fs);
      read = subst (λ (ns : List ℕ). read_of r.kind r.decoder.samples ns (cert_bytes r.kind (certs_of fs)) ≡ Ok (placed 8 (certs_of fs))) blocks read;
      shown = are-shown r effort share fitted.targets 0 8 counts fs chosen;
      bound_is = bounds-are 8 fs;
      levels_are = ap levels_of (levels-are 8 fs);
    }

-- a level is one of four
four-levels : (r : Rules) (targets : List ℤ) (blocks most share level : ℕ) → IsLevel r targets blocks most share level → (level ≡ 0) ⊎ ((level ≡ 4) ⊎ ((level ≡ 8) ⊎ (level ≡ 255)))
four-levels r targets blocks most share level is = elim is [
  | inl a ↦ inl a.1
  | inr x ↦ elim x [
    | inl b ↦ inr (inl b.1)
    | inr y ↦ elim y [ inl d ↦ inr (inr (inl d.1)) | inr e ↦ inr (inr (inr e.0)) ]
  ]
]

-- a level that is counted is not counted 0 times
none-of : (level k : ℕ) (levels : List ℕ) → level_count k (level ∷ levels) ≡ 0 → (level ≡ k → ⊥) × (level_count k levels ≡ 0)
none-of level k levels none =
    let parts = sum_by-cons (λ (n : ℕ). if n == k then 1 else 0) level levels in
    (λ same. grind (arith, nat_tests, parts, none, same), omega (arith, parts, none))

-- no segment is at these levels
record NoneCoarse (levels : List ℕ) : Type 0 where
  four : level_count 4 levels ≡ 0
  eight : level_count 8 levels ≡ 0
  floor_only : level_count 255 levels ≡ 0

-- where every segment is searched state by state, each bound is its segment's sum
all-exact : (r : Rules) (effort : Effort) (share : ℕ) (targets : List ℤ) (b : ℕ) (counts : List ℕ) (fs : List Found) → AreFound r effort share targets b counts fs → NoneCoarse (map (λ f. f.cert.level) fs)
    → bounds_of fs ≡ sums_of fs
all-exact r effort share targets b [] [] are none = refl
all-exact r effort share targets b [] (f ∷ fs) are none = absurd are
all-exact r effort share targets b (count ∷ counts) [] are none = absurd are
all-exact r effort share targets b (count ∷ counts) (f ∷ fs) are none =
    let levels = map (λ (g : Found). g.cert.level) fs in
    let four = none-of f.cert.level 4 levels none.four in
    let eight = none-of f.cert.level 8 levels none.eight in
    let floor_only = none-of f.cert.level 255 levels none.floor_only in
    let zero : f.cert.level ≡ 0 = elim (four-levels r (part_targets r.decoder targets b count) count _ share f.cert.level are.0.level) [
      | inl z ↦ z
      | inr x ↦ elim x [ inl h ↦ absurd (four.0 h) | inr y ↦ elim y [ inl h ↦ absurd (eight.0 h) | inr h ↦ absurd (floor_only.0 h) ] ]
    ] in
    let here = are.0.optimal zero in
    let later = all-exact r effort share targets (b + count) counts fs are.1 (record { four = four.1; eight = eight.1; floor_only = floor_only.1 }) in
    omega (arith, here, later, sum_by-cons (λ (g : Found). g.cert.bound) f fs, sum_by-cons (λ (g : Found). g.choice.sum) f fs)

coarse-none : (levels : List ℕ) (n : ℕ) → levels_of levels ≡ n ∷ 0 ∷ 0 ∷ 0 ∷ [] → NoneCoarse levels
coarse-none levels n e = record { four = cc; eight = cc; floor_only = cc }

chosen-exact : (c : Codec) (effort : Effort) (fitted : Fitted) (fs : List Found) (n : ℕ) → IsChosen c effort fitted fs → levels_of (map (λ f. f.cert.level) fs) ≡ n ∷ 0 ∷ 0 ∷ 0 ∷ [] → bounds_of fs ≡ sums_of fs
chosen-exact c effort fitted fs n chosen levels =
    all-exact c.rules effort (share_of c effort fitted) fitted.targets 0 (segments_in c fitted) fs chosen (coarse-none (map (λ (f : Found). f.cert.level) fs) n levels)

-- all that is known of what was found
pub known-of : (c : Codec) (effort : Effort) (fitted : Fitted) (fs : List Found) → IsCodec c → IsFit c fitted → IsChosen c effort fitted fs
    → ((bytes : List ℕ) (bound : ℕ) (levels : List ℕ) → IsCertified c bytes fitted bound levels → IsBound c fitted bound) → IsKnown c fitted fs
known-of c effort fitted fs laws fit chosen holds =
    let whole = whole-list c effort fitted fs laws fit chosen in
    let certified = chosen-certified c effort fitted fs laws fit chosen in
    let lowest = holds _ _ _ certified in
    let error = whole.error in
    let below = lowest (list_in fs) whole.legal in
    let small = whole.small in
    record {
      legal = whole.legal;
      error = error;
      writable = chosen-writable c effort fitted fs chosen;
      certified = certified;
      lowest = lowest;
      exact = λ n levels. chosen-exact c effort fitted fs n chosen levels;
      below = omega (arith, error, below);
      small = omega (arith, error, small);
      few = few-found c effort fitted fs fit chosen;
    }

-- what can be written is small
pub known-small : (c : Codec) (fitted : Fitted) (fs : List Found) → IsCodec c → IsKnown c fitted fs → (k : ℕ) (y : Plain) → slice_get (certs_of fs) k ≡ Some y → SmallSegment y
known-small c fitted fs laws known = segments-small c.rules.kind c.rules.decoder.samples (certs_of fs) laws.laws.few_samples known.writable
