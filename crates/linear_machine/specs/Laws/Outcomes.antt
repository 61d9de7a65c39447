-- What a result leaves that is clamped to 16 bits.
use Rattle.std.proofs.Common.{◌≡◌, ◌⊎◌, ℕ, ◌≤◌, arith, ap, ◌∙◌, inl, inr}
use Rattle.std.specs.Prelude.{ℤ, pos, negsuc, ◌-ℤ◌, ◌*ℤ◌, ◌≤ℤ◌}
use Rattle.std.proofs.lemmas.Int.{ints}
use Rattle.adpcm_nums.specs.Nums.{clamp16_of}
use Rattle.adpcm_nums.proofs.OrderLaws.{le-or-gt}
use Rattle.adpcm_nums.proofs.ClampLaws.{clamp-under, clamp-over, clamp-in}
use Rattle.window_floor.specs.Outcome.{IsWrap}
use Rattle.window_floor.specs.Windows.{Windows}
use Rattle.window_floor.specs.Clamps.{IsResult, MayCome, over, under, inside}

-- filter 0, or another
pub zero-or-more : (filter : ℕ) → (filter ≡ 0) ⊎ (1 ≤ filter)
zero-or-more filter = grind arith

-- a number less a wrap
pub record IsWrapped (b : Windows) (raw y : ℤ) : Type 0 where
  pub wrap : ℤ
  pub may : IsWrap b.row.wraps wrap
  pub is : y ≡ raw -ℤ pos 32768 *ℤ wrap

-- a result is clamped, and then `left` of it is the output
pub clamped-comes : (b : Windows) (left : ℤ → ℤ) (r o raw : ℤ) → IsResult b.row b.samples r o raw → left (pos 32767) ≡ b.first → left (negsuc 32767) ≡ b.second
    → (negsuc 32767 ≤ℤ raw → raw ≤ℤ pos 32767 → IsWrapped b raw (left raw)) → MayCome b r o (left (clamp16_of raw))
clamped-comes b left r o raw is first second wraps =
    elim (le-or-gt (negsuc 32767) raw) [
      | inr below ↦ under raw is (omega (arith, ints, below)) (ap left (clamp-under raw below) ∙ second)
      | inl low ↦ elim (le-or-gt raw (pos 32767)) [
        | inr above ↦ over raw is (omega (arith, ints, above)) (ap left (clamp-over raw above) ∙ first)
        | inl high ↦ (let w = wraps low high in inside raw w.wrap is w.may (ap left (clamp-in raw low high) ∙ w.is))
      ]
    ]
