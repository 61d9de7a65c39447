-- One segment of a certificate that is read.
use Rattle.std.proofs.Common.{◌≡◌, ℕ, zero, suc, List, [], ◌∷◌, length, get_or, sym, ◌∙◌, ap, arith, subst, Some}
use Rattle.std.specs.Prelude.{slice_get, map}
use Rattle.std.proofs.lemmas.List.{length-map}
use Rattle.machine_core.specs.declared.state.Kind.{Kind}
use Rattle.bound_cert.specs.Content.{Segment}
use Rattle.bound_cert.specs.Good.{SegmentFits, SegmentsFit, blocks_in}

pub segment-fits : (kind : Kind) (samples : ℕ) (segments : List Segment) (i : ℕ) (s : Segment) → SegmentsFit kind samples segments → slice_get segments i ≡ Some s → SegmentFits kind samples s
segment-fits kind samples [] i s f e = absurd (cc)
segment-fits kind samples (x ∷ xs) zero s f e = let q : x ≡ s = cc in subst (λ (z : Segment). SegmentFits kind samples z) q f.0
segment-fits kind samples (x ∷ xs) (suc i) s f e = segment-fits kind samples xs i s f.1 e

blocks-at : (segments : List Segment) (i : ℕ) (s : Segment) → slice_get segments i ≡ Some s → get_or (map blocks_in segments) i 0 ≡ s.blocks
blocks-at [] i s e = absurd (cc)
blocks-at (x ∷ xs) zero s e = let q : x ≡ s = cc in ap blocks_in q
blocks-at (x ∷ xs) (suc i) s e = blocks-at xs i s e

pub blocks-are : (segments : List Segment) (blocks : List ℕ) (i : ℕ) (s : Segment) → map blocks_in segments ≡ blocks → slice_get segments i ≡ Some s → s.blocks ≡ get_or blocks i 0
blocks-are segments blocks i s e g = sym (blocks-at segments i s g) ∙ ap (λ (z : List ℕ). get_or z i 0) e

pub as-many : (segments : List Segment) (blocks : List ℕ) → map blocks_in segments ≡ blocks → length segments ≡ length blocks
as-many segments blocks e = let a = length-map segments blocks_in in let b = ap (λ (z : List ℕ). length z) e in omega (arith, a, b)
