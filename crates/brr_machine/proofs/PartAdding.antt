-- Parts that are added one after the other.
use Rattle.std.proofs.Common.{◌≡◌, arith, refl, ap, sym, ◌∙◌, List, [], ◌∷◌, ◌++◌, Bool, true, false, if◌then◌else◌}
use Rattle.std.specs.Prelude.{ℤ, pos, negsuc, ◌+ℤ◌, ◌≤ℤ◌, ◌<ℤ◌, int_le}
use Rattle.std.specs.Int.{int_min, int_max}
use Rattle.std.proofs.lemmas.Int.{ints}
use Rattle.std.proofs.lemmas.List.{append_assoc, append-nil}
use Rattle.adpcm_nums.specs.Spans.{span_to, spans-are}
use Rattle.adpcm_nums.specs.declared.span.Span.{Span}
use Rattle.adpcm_nums.proofs.ClampLaws.{greater-is}
use Rattle.machine_core.specs.declared.pieces.Piece.{Piece}
use Rattle.machine_core.specs.Images.{output_piece}
use Rattle.brr_machine.specs.Image.{piece_before, part, parts}
use Rattle.brr_machine.specs.Laws.Cuts.{piece-is, piece-skips, later_parts}

-- a part that has numbers
pub part-added : (pieces now : List Piece) (piece : Piece) (by lo hi : ℤ) (outputs last : Span) (target t : ℤ) → now ≡ pieces ++ (piece ∷ []) → piece ≡ output_piece (pos 2) outputs last t
    → outputs.lo ≡ int_max (lo +ℤ by) (negsuc 16383) → outputs.hi ≡ int_min (hi +ℤ by) (pos 16383) → t ≡ target → now ≡ pieces ++ part by lo hi last target []
part-added pieces now piece by lo hi outputs last target t is one a b e =
    let l = int_max (lo +ℤ by) (negsuc 16383) in
    let h = int_min (hi +ℤ by) (pos 16383) in
    let order : l ≤ℤ h = (let o = outputs.order in omega (arith, ints, o, a, b)) in
    let same : outputs ≡ span_to l h = spans-are outputs (span_to l h) a (b ∙ sym (greater-is l h order)) in
    let first : piece ≡ output_piece (pos 2) (span_to l h) last target = one ∙ ap (λ s. output_piece (pos 2) s last t) same ∙ ap (output_piece (pos 2) (span_to l h) last) e in
    is ∙ ap (λ p. pieces ++ (p ∷ [])) first ∙ ap (λ xs. pieces ++ xs) (sym (piece-is l h last target [] order))

-- one that has none
pub part-missed : (pieces : List Piece) (by lo hi l h : ℤ) (last : Span) (target : ℤ) → l ≡ int_max (lo +ℤ by) (negsuc 16383) → h ≡ int_min (hi +ℤ by) (pos 16383) → h <ℤ l
    → pieces ≡ pieces ++ part by lo hi last target []
part-missed pieces by lo hi l h last target a b apart = sym (append-nil pieces) ∙ ap (λ xs. pieces ++ xs) (sym (piece-skips _ _ last target [] (omega (arith, ints, a, b, apart))))

join-if : (b : Bool) (p : Piece) (rest : List Piece) → (if b then p ∷ [] else []) ++ rest ≡ (if b then p ∷ rest else rest)
join-if true p rest = refl
join-if false p rest = refl

joins : (lo hi : ℤ) (last : Span) (target : ℤ) (rest : List Piece) → piece_before lo hi last target [] ++ rest ≡ piece_before lo hi last target rest
unfolding piece_before
joins lo hi last target rest = join-if (int_le lo hi) (output_piece (pos 2) (span_to lo hi) last target) rest

-- all three
pub three-parts : (lo hi : ℤ) (last : Span) (target : ℤ) (none one two three : List Piece) → none ≡ []
    → one ≡ none ++ part (pos 32768) lo hi last target [] → two ≡ one ++ part (pos 0) lo hi last target [] → three ≡ two ++ part (negsuc 32767) lo hi last target []
    → three ≡ parts lo hi last target
unfolding parts
three-parts lo hi last target none one two three e a b c =
    let p = part (pos 32768) lo hi last target [] in
    let q = part (pos 0) lo hi last target [] in
    let r = part (negsuc 32767) lo hi last target [] in
    c ∙ ap (λ x. x ++ r) (b ∙ ap (λ x. x ++ q) (a ∙ ap (λ x. x ++ p) e)) ∙ append_assoc p q r
    ∙ ap (λ x. p ++ x) (joins _ _ last target r) ∙ joins _ _ last target (later_parts lo hi last target)
