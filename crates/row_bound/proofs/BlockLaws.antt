-- The bound of a whole block.
use Rattle.std.proofs.Common.{◌≡◌, ℕ, ◌+◌, ◌*◌, ◌≤◌, arith, ◌⊎◌, inl, inr}
use Rattle.std.specs.Prelude.{ℤ, List, [], min}
use Rattle.adpcm_nums.specs.Nums.{square_of}
use Rattle.row_bound.specs.declared.layer.Layer.{Layer}
use Rattle.row_bound.specs.Paths.{Path, Owes}

-- every path costs at least n, the two errors that it starts from weighed alike
abbrev pub Entered : List ℤ → List Layer → ℕ → ℕ → Type 0
Entered steps layers w n = (y x : ℤ) (c : ℕ) → Path steps [] layers x y c → n ≤ w * square_of y + w * square_of x + c

pub low-owes : (steps : List ℤ) (layers : List Layer) (w n top r : ℕ) → r ≡ min n top → Owes steps layers n → Entered steps layers w r
low-owes steps layers w n top r e owes y x c path = let o = owes x y c path in omega (arith, e, o)

pub both-owe : (steps : List ℤ) (layers : List Layer) (w n m r : ℕ) → (r ≡ n) ⊎ (r ≡ m) → Entered steps layers w n → Entered steps layers w m → Entered steps layers w r
both-owe steps layers w n m r (inl e) p q y x c path = let o = p y x c path in omega (arith, e, o)
both-owe steps layers w n m r (inr e) p q y x c path = let o = q y x c path in omega (arith, e, o)
