-- Only a code's low three bits count for its distance and the next index.
use Rattle.std.proofs.Common.{◌≡◌, ℕ, ◌+◌, ◌-◌, ◌*◌, ◌/◌, ◌%◌, min, arith, ap, ◌∙◌}
use Rattle.std.specs.Prelude.{nat_lt, if◌then◌else◌}
use Rattle.ima_machine.specs.Steps.{share_of, distance_of, next_index}

pub next-low : (index code : ℕ) → next_index index code ≡ next_index index (code % 8)
unfolding next_index
next-low index code =
    let low : code % 8 ≡ code % 8 % 8 = omega arith in
    ap (λ b. if nat_lt b 4 then index - 1 else min 88 (index + 2 * (b - 3))) low

pub distance-low : (step code : ℕ) → distance_of step code ≡ distance_of step (code % 8)
unfolding distance_of
distance-low step code =
    let a : code / 4 % 2 ≡ code % 8 / 4 % 2 = omega arith in
    let b : code / 2 % 2 ≡ code % 8 / 2 % 2 = omega arith in
    let c : code % 2 ≡ code % 8 % 2 = omega arith in
    ap (λ x. step / 8 + share_of x step + share_of (code / 2 % 2) (step / 2) + share_of (code % 2) (step / 4)) a
    ∙ ap (λ x. step / 8 + share_of (code % 8 / 4 % 2) step + share_of x (step / 2) + share_of (code % 2) (step / 4)) b
    ∙ ap (λ x. step / 8 + share_of (code % 8 / 4 % 2) step + share_of (code % 8 / 2 % 2) (step / 2) + share_of x (step / 4)) c
