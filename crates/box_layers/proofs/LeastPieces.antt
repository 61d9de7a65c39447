-- The least over pieces.
use Rattle.std.proofs.Common.{ℕ, zero, suc, ◌≤◌, List, [], ◌∷◌, arith, ap, min}
use Rattle.std.specs.List.{Contains}
use Rattle.machine_core.specs.declared.pieces.Piece.{Piece}
use Rattle.box_layers.specs.Certificates.{least_piece}

pub least-piece-above : (qs : List Piece) (f : Piece → ℕ) (above : ℕ) → least_piece qs f above ≤ above
least-piece-above [] f above = omega arith
least-piece-above (p ∷ qs) f above = let i = least-piece-above qs f (min above (f p)) in omega arith

pub least-piece-below : (qs : List Piece) (f : Piece → ℕ) (above : ℕ) (q : Piece) → Contains qs q → least_piece qs f above ≤ f q
least-piece-below [] f above q c = absurd (omega arith)
least-piece-below (p ∷ qs) f above q (zero, h, e) = let i = ap f e in let j = least-piece-above qs f (min above (f p)) in omega arith
least-piece-below (p ∷ qs) f above q (suc k, h, e) = least-piece-below qs f (min above (f p)) q (k, omega arith, e)
