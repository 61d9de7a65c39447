-- What the tested segments come to is what a certificate proves.
use Rattle.std.proofs.Common.{◌≡◌, ℕ, suc, ◌+◌, ◌≤◌, ℤ, List, [], ◌∷◌, length, map, arith, refl, ap, sym, ◌∙◌, subst, Some, None, Ok, Err, Bool, inl, inr}
use Rattle.std.specs.Prelude.{sum, ◌==◌, Result, Option, if◌then◌else◌}
use Rattle.std.specs.List.{sum_by}
use Rattle.std.proofs.lemmas.Bool.{cases_Bool, cond-true, cond-false, eqb-true}
use Rattle.std.proofs.lemmas.List.Sums.{sum_by-cons, sum-map}
use Rattle.adpcm_nums.specs.Outcome.{◌>>=◌}
use Rattle.machine_core.specs.Rules.{Rules}
use Rattle.machine_core.specs.declared.state.Kind.{Kind}
use Rattle.machine_core.specs.Segments.{part_targets, AreSegments}
use Rattle.box_layers.specs.Certificates.{value}
use Rattle.bound_cert.specs.Content.{Segment}
use Rattle.bound_cert.specs.Good.{SegmentFits, SegmentsFit, blocks_in}
use Rattle.bound_cert.specs.Filed.{IsFiled}
use Rattle.bound_cert.specs.Grammar.{read_of}
use Rattle.bound_cert.specs.declared.fault.CertFault.{CertFault}
use Rattle.loop_fit.specs.declared.fitted.Fitted.{Fitted}
use Rattle.cert_check.specs.declared.checking.CellFault.{CellFault}
use Rattle.cert_check.specs.Layers.{certificate_in}
use Rattle.cert_check.proofs.Ready.{layers-ready}
use Rattle.command_faults.specs.declared.refusal.CertRefusal.{CertRefusal}
use Rattle.command_faults.specs.declared.refusal.CertRefusal.TheVariants.{Grammar}
use Rattle.loop_fit.proofs.SegmentsCut.{segments-cut}
use Rattle.bank_kinds.specs.Codec.{Codec, IsCodec, fixed_in}
use Rattle.bank_kinds.specs.Fits.{IsFit}
use Rattle.bank_kinds.specs.Certified.{IsCertified, IsShown, AreShown, level_count, levels_of, segments_in}
use Rattle.bank_check.specs.declared.proven.Proven.{Proven}
use Rattle.bank_check.specs.declared.tally.Tally.{Tally}
use Rattle.bank_check.specs.Cells.{segment_fault}
use Rattle.bank_check.specs.Proven.{bound_or, segment_bound, bounds_of, or_grammar, proven_of}
use Rattle.bank_check.specs.Tally.{counted, nothing, with_segment, tally_from}
use Rattle.bank_check.proofs.CellFaults.{accepted-where-none}

-- bounds and levels, after what was tested
abbrev pub with_all : Tally → List ℕ → List ℕ → Tally
with_all t bounds levels = record {
  bound = t.bound + sum bounds;
  exact = t.exact + level_count 0 levels;
  fine = t.fine + level_count 4 levels;
  coarse = t.coarse + level_count 8 levels;
  bare = t.bare + level_count 255 levels;
}

same-tally : (a b : Tally) → a.bound ≡ b.bound → a.exact ≡ b.exact → a.fine ≡ b.fine → a.coarse ≡ b.coarse → a.bare ≡ b.bare → a ≡ b
same-tally a b p q s t u = let mk : ℕ → ℕ → ℕ → ℕ → ℕ → Tally = λ v w x y z. record { bound = v; exact = w; fine = x; coarse = y; bare = z } in
    ap (λ z. mk z a.exact a.fine a.coarse a.bare) p ∙ (ap (λ z. mk b.bound z a.fine a.coarse a.bare) q ∙ (ap (λ z. mk b.bound b.exact z a.coarse a.bare) s
    ∙ (ap (λ z. mk b.bound b.exact b.fine z a.bare) t ∙ ap (λ z. mk b.bound b.exact b.fine b.coarse z) u)))

abbrev one_of : ℕ → ℕ → ℕ
one_of level k = if k == level then 1 else 0

level-more : (count level met : ℕ) (levels : List ℕ) → counted count level met + level_count level levels ≡ count + level_count level (met ∷ levels)
level-more count level met levels = let e = sum_by-cons (one_of level) met levels in omega (arith, e)

sum-more : (t bound : ℕ) (bounds : List ℕ) → (t + bound) + sum bounds ≡ t + sum (bound ∷ bounds)
sum-more t bound bounds =
    let one : ℕ → ℕ = λ x. x in
    let e : sum (bound ∷ bounds) ≡ bound + sum bounds = sum_by-cons one bound bounds in omega (arith, e)

one-more : (t : Tally) (bound level : ℕ) (bounds levels : List ℕ) → with_all (with_segment t bound level) bounds levels ≡ with_all t (bound ∷ bounds) (level ∷ levels)
one-more t bound level bounds levels = same-tally _ _ (sum-more t.bound bound bounds) (level-more t.exact 0 level levels) (level-more t.fine 4 level levels) (level-more t.coarse 8 level levels) (level-more t.bare 255 level levels)

abbrev level_in : Segment → ℕ
level_in s = s.level

abbrev all_with : Tally → List ℕ → List ℕ → Result Tally CertRefusal
all_with t levels bounds = Ok (with_all t bounds levels)

joined : (t : Tally) (bound level : ℕ) (levels : List ℕ) (later : Result (List ℕ) CertRefusal)
    → (later >>= all_with (with_segment t bound level) levels) ≡ ((later >>= (λ bounds. Ok (bound ∷ bounds))) >>= all_with t (level ∷ levels))
joined t bound level levels (Ok bounds) = ap (λ z. Ok z) (one-more t bound level bounds levels)
joined t bound level levels (Err e) = refl

first-then : (t : Tally) (s : Segment) (ss : List Segment) (first : Result ℕ CertRefusal) (rest : ℕ → Result Tally CertRefusal) (later : Result (List ℕ) CertRefusal)
    → ((bound : ℕ) → rest bound ≡ (later >>= all_with (with_segment t bound s.level) (map level_in ss)))
    → (first >>= rest) ≡ ((first >>= (λ bound. later >>= (λ bounds. Ok (bound ∷ bounds)))) >>= all_with t (map level_in (s ∷ ss)))
first-then t s ss (Ok bound) rest later same = same bound ∙ joined t bound s.level (map level_in ss) later
first-then t s ss (Err e) rest later same = refl

-- tested one after another they come to the same as their bounds and their levels
tally-is : (r : Rules) (targets : List ℤ) (t : Tally) (i b : ℕ) (ss : List Segment) → tally_from r targets t i b ss ≡ (bounds_of r targets i b ss >>= all_with t (map level_in ss))
unfolding tally_from bounds_of
tally-is r targets t i b [] = ap (λ z. Ok z) (same-tally _ _ (omega arith) (omega arith) (omega arith) (omega arith) (omega arith))
tally-is r targets t i b (s ∷ ss) =
    first-then t s ss (segment_bound r (part_targets r.decoder targets b s.blocks) i s) (λ bound. tally_from r targets (with_segment t bound s.level) (suc i) (b + s.blocks) ss) (bounds_of r targets (suc i) (b + s.blocks) ss)
    (λ bound. tally-is r targets (with_segment t bound s.level) (suc i) (b + s.blocks) ss)

-- what a tally proves
abbrev pub proven_by : Tally → Proven
proven_by t = record { bound = t.bound; levels = t.exact ∷ t.fine ∷ t.coarse ∷ t.bare ∷ [] }

abbrev proven_with : List ℕ → List ℕ → Result Proven CertRefusal
proven_with levels bounds = Ok (record { bound = sum bounds; levels = levels_of levels })

none-before : (n : ℕ) → 0 + n ≡ n
none-before n = omega arith

from-nothing : (bounds levels : List ℕ) → proven_by (with_all nothing bounds levels) ≡ record { bound = sum bounds; levels = levels_of levels }
from-nothing bounds levels =
    let n : ℕ → ℕ = λ level. level_count level levels in
    let mk : ℕ → ℕ → ℕ → ℕ → ℕ → Proven = λ v w x y z. record { bound = v; levels = w ∷ x ∷ y ∷ z ∷ [] } in
    ap (λ z. mk z (0 + n 0) (0 + n 4) (0 + n 8) (0 + n 255)) (none-before (sum bounds))
    ∙ (ap (λ z. mk (sum bounds) z (0 + n 4) (0 + n 8) (0 + n 255)) (none-before (n 0))
    ∙ (ap (λ z. mk (sum bounds) (n 0) z (0 + n 8) (0 + n 255)) (none-before (n 4))
    ∙ (ap (λ z. mk (sum bounds) (n 0) (n 4) z (0 + n 255)) (none-before (n 8)) ∙ ap (λ z. mk (sum bounds) (n 0) (n 4) (n 8) z) (none-before (n 255)))))

ok-of : (t : Tally) (levels : List ℕ) (bounds : Result (List ℕ) CertRefusal) → Ok t ≡ (bounds >>= all_with nothing levels) → Ok (proven_by t) ≡ (bounds >>= proven_with levels)
ok-of t levels (Ok bounds) e = let same : t ≡ with_all nothing bounds levels = cc in ap (λ z. Ok (proven_by z)) same ∙ ap (λ z. Ok z) (from-nothing bounds levels)
ok-of t levels (Err f) e = absurd (cc)

err-of : (refusal : CertRefusal) (levels : List ℕ) (bounds : Result (List ℕ) CertRefusal) → Err refusal ≡ (bounds >>= all_with nothing levels)
    → ◌≡◌ {A = Result Proven CertRefusal} (Err refusal) (bounds >>= proven_with levels)
err-of refusal levels (Ok bounds) e = absurd (cc)
err-of refusal levels (Err f) e = let same : refusal ≡ f = cc in ap (λ z. Err z) same

-- the bounds and the levels of segments, as what a certificate proves
abbrev pub proven_in : Rules → List ℤ → List Segment → Result Proven CertRefusal
proven_in r targets ss = bounds_of r targets 0 0 ss >>= proven_with (map level_in ss)

pub tallied-ok : (r : Rules) (targets : List ℤ) (ss : List Segment) (t : Tally) → Ok t ≡ tally_from r targets nothing 0 0 ss → Ok (proven_by t) ≡ proven_in r targets ss
tallied-ok r targets ss t e = ok-of t (map level_in ss) (bounds_of r targets 0 0 ss) (e ∙ tally-is r targets nothing 0 0 ss)

pub tallied-err : (r : Rules) (targets : List ℤ) (ss : List Segment) (refusal : CertRefusal) → Err refusal ≡ tally_from r targets nothing 0 0 ss → ◌≡◌ {A = Result Proven CertRefusal} (Err refusal) (proven_in r targets ss)
tallied-err r targets ss refusal e = err-of refusal (map level_in ss) (bounds_of r targets 0 0 ss) (e ∙ tally-is r targets nothing 0 0 ss)

-- a segment that is accepted and records what it shows
bound-ok : (i : ℕ) (fault : Option CellFault) (have shown v : ℕ) → bound_or i fault have shown ≡ Ok v → (fault ≡ None) × (have ≡ shown) × (v ≡ have)
bound-ok i (Some fault) have shown v e = absurd (cc)
bound-ok i None have shown v e = elim (cases_Bool (have == shown)) [
  | inl same ↦ (refl, eqb-true have shown same, (let ok = sym (cond-true (have == shown) _ _ same) ∙ e in cc))
  | inr other ↦ absurd (let err = sym (cond-false (have == shown) _ _ other) ∙ e in cc)
]

-- reading that came to its end came past its first part
pub past-first : {A B E : Type 0} (first : Result A E) (later : A → Result B E) (end : B) → (first >>= later) ≡ Ok end → (x : A) × (first ≡ Ok x) × (later x ≡ Ok end)
past-first (Ok x) later end e = (x, refl, e)
past-first (Err f) later end e = absurd (cc)

ok-list : (xs ys : List ℕ) → ◌≡◌ {A = Result (List ℕ) CertRefusal} (Ok xs) (Ok ys) → xs ≡ ys
ok-list xs ys e = cc

-- what bounds show of their segments
pub record AreBounds (r : Rules) (targets : List ℤ) (b : ℕ) (ss : List Segment) (bounds : List ℕ) : Type 0 where
  pub shown : AreShown r targets b ss
  pub sum_is : sum bounds ≡ sum_by (λ s. s.bound) ss

shown-one : (r : Rules) (targets : List ℤ) (i v : ℕ) (s : Segment) → IsFiled r → SegmentFits r.kind r.decoder.samples s → segment_bound r targets i s ≡ Ok v → IsShown r targets s × (v ≡ s.bound)
unfolding segment_bound
shown-one r targets i v s filed fits e =
    let ok = bound-ok i (segment_fault r targets s) s.bound (value r targets (certificate_in r s)) v e in
    (record { accepted = accepted-where-none r targets s (layers-ready r s filed fits) ok.0; bound = ok.1 }, ok.2)

bounds-more : (r : Rules) (targets : List ℤ) (b bound : ℕ) (s : Segment) (ss : List Segment) (more bounds : List ℕ) → IsShown r (part_targets r.decoder targets b s.blocks) s → bound ≡ s.bound
    → AreBounds r targets (b + s.blocks) ss more → bound ∷ more ≡ bounds → AreBounds r targets b (s ∷ ss) bounds
bounds-more r targets b bound s ss more bounds shown records later e =
    let own : Segment → ℕ = λ z. z.bound in
    let sum_later = later.sum_is in
    let whole = ap (λ (z : List ℕ). sum z) (sym e) in
    let one : ℕ → ℕ = λ x. x in
    let first : sum (bound ∷ more) ≡ bound + sum more = sum_by-cons one bound more in
    record { shown = (shown, later.shown); sum_is = omega (arith, sum_later, whole, first, records, sum_by-cons own s ss) }

pub bounds-are : (r : Rules) (targets : List ℤ) (i b : ℕ) (ss : List Segment) (bounds : List ℕ) → IsFiled r → SegmentsFit r.kind r.decoder.samples ss → bounds_of r targets i b ss ≡ Ok bounds → AreBounds r targets b ss bounds
unfolding bounds_of
bounds-are r targets i b [] bounds filed fits e = record { shown = tt; sum_is = ap (λ (z : List ℕ). sum z) (sym (ok-list [] bounds e)) }
bounds-are r targets i b (s ∷ ss) bounds filed fits e =
    let here = past-first (segment_bound r (part_targets r.decoder targets b s.blocks) i s) _ bounds e in
    let later = past-first (bounds_of r targets (suc i) (b + s.blocks) ss) _ bounds here.2 in
    let one = shown-one r (part_targets r.decoder targets b s.blocks) i here.0 s filed fits.0 here.1 in
    bounds-more r targets b here.0 s ss later.0 bounds one.0 one.1 (bounds-are r targets (suc i) (b + s.blocks) ss later.0 filed fits.1 later.1) (ok-list _ bounds later.2)

from-bounds : (targets : List ℤ) (r : Rules) (ss : List Segment) (p : Proven) → proven_in r targets ss ≡ Ok p → (bounds : List ℕ) × (bounds_of r targets 0 0 ss ≡ Ok bounds) × (p ≡ record { bound = sum bounds; levels = levels_of (map level_in ss) })
from-bounds targets r ss p e = let past = past-first (bounds_of r targets 0 0 ss) (proven_with (map level_in ss)) p e in (past.0, past.1, (let ok = past.2 in cc))

-- what is proved is certified by the bytes that the segments were read from
pub is-certified : (c : Codec) (fitted : Fitted) (bytes : List ℕ) (ss : List Segment) (p : Proven) → IsCodec c → read_of c.rules.kind c.rules.decoder.samples (segments_in c fitted) bytes ≡ Ok ss
    → SegmentsFit c.rules.kind c.rules.decoder.samples ss → Ok p ≡ proven_in c.rules fitted.targets ss → IsCertified c bytes fitted p.bound p.levels
is-certified c fitted bytes ss p laws read fits e =
    let from = from-bounds fitted.targets c.rules ss p (sym e) in
    let are = bounds-are c.rules fitted.targets 0 0 ss from.0 laws.filed fits from.1 in
    record { segments = ss; read = read; shown = are.shown; bound_is = ap (λ (z : Proven). z.bound) from.2 ∙ are.sum_is; levels_are = ap (λ (z : Proven). z.levels) from.2 }

-- what a certificate that is read proves is what its segments do
pub proven-read : (c : Codec) (fitted : Fitted) (bytes : List ℕ) (ss : List Segment) → Ok ss ≡ read_of c.rules.kind c.rules.decoder.samples (segments_in c fitted) bytes → proven_in c.rules fitted.targets ss ≡ proven_of c fitted bytes
unfolding proven_of
proven-read c fitted bytes ss e = ap (λ z. or_grammar z >>= proven_in c.rules fitted.targets) e

-- and one that is not read is refused
pub proven-unread : (c : Codec) (fitted : Fitted) (bytes : List ℕ) (fault : CertFault) → ◌≡◌ {A = Result (List Segment) CertFault} (Err fault) (read_of c.rules.kind c.rules.decoder.samples (segments_in c fitted) bytes)
    → ◌≡◌ {A = Result Proven CertRefusal} (Err (Grammar fault)) (proven_of c fitted bytes)
unfolding proven_of
proven-unread c fitted bytes fault e = ap (λ z. or_grammar z >>= proven_in c.rules fitted.targets) e

-- there are no more segments than blocks
pub few-cut : (fixed : ℕ → Bool) (b : ℕ) (counts : List ℕ) (blocks : ℕ) → AreSegments fixed b counts blocks → b + length counts ≤ blocks
few-cut fixed b [] blocks cut = omega (arith, cut)
few-cut fixed b (count ∷ counts) blocks cut = let later = few-cut fixed (b + count) counts blocks cut.2 in omega (arith, cut.0, later)

-- nor other blocks than those of the segments
pub all-cut : (fixed : ℕ → Bool) (b : ℕ) (counts : List ℕ) (blocks : ℕ) → AreSegments fixed b counts blocks → b + sum counts ≡ blocks
all-cut fixed b [] blocks cut = omega (arith, cut)
all-cut fixed b (count ∷ counts) blocks cut =
    let one : ℕ → ℕ = λ x. x in
    let first : sum (count ∷ counts) ≡ count + sum counts = sum_by-cons one count counts in
    let later = all-cut fixed (b + count) counts blocks cut.2 in omega (arith, first, later)

-- so the segments that were read have them all
pub read-whole : (ss : List Segment) (counts : List ℕ) (blocks : ℕ) → map blocks_in ss ≡ counts → sum counts ≡ blocks → sum_by blocks_in ss ≡ blocks
read-whole ss counts blocks e whole = sym (sum-map blocks_in ss) ∙ (ap (λ (z : List ℕ). sum z) e ∙ whole)

-- what is read with the decoder's numbers
pub read-as : (own kind : Kind) (size samples : ℕ) (parts counts bytes : List ℕ) (read : Result (List Segment) CertFault) → own ≡ kind → size ≡ samples → parts ≡ counts → read ≡ read_of own size parts bytes
    → read ≡ read_of kind samples counts bytes
read-as own kind size samples parts counts bytes read p q s e =
    e ∙ (ap (λ z. read_of z size parts bytes) p ∙ (ap (λ z. read_of kind z parts bytes) q ∙ ap (λ z. read_of kind samples z bytes) s))

-- and is in range for them
pub fits-as : (own kind : Kind) (size samples : ℕ) (ss : List Segment) → own ≡ kind → size ≡ samples → SegmentsFit own size ss → SegmentsFit kind samples ss
fits-as own kind size samples ss p q fits = subst (λ (z : ℕ). SegmentsFit kind z ss) q (subst (λ (z : Kind). SegmentsFit z size ss) p fits)

-- the segments that were read for a fitted sound have all of its blocks
pub has-whole : (c : Codec) (fitted : Fitted) (ss : List Segment) → IsFit c fitted → map blocks_in ss ≡ segments_in c fitted → sum_by blocks_in ss ≡ fitted.blocks
has-whole c fitted ss fit e =
    let all = all-cut (fixed_in c fitted) 0 (segments_in c fitted) fitted.blocks (segments-cut c.rules.kind fitted.blocks fitted.loop_block fit.whole.some fit.whole.loop_block) in
    read-whole ss (segments_in c fitted) fitted.blocks e (omega (arith, all))
