-- The repeat register on a player's way.
use Rattle.std.proofs.Common.{◌≡◌, ℕ, suc, ◌+◌, ◌*◌, ◌<◌, ◌≤◌, inl, inr, List, refl, sym, ap, ◌∙◌, arith}
use Rattle.std.proofs.Math.Nat.{mul-le-mul_left}
use Rattle.std.proofs.lemmas.Bool.{cases_Bool}
use Rattle.block_flags.proofs.LastLaws.{last-here, last-before, last_from}
use Rattle.player_model.specs.Format.{Format}
use Rattle.player_model.specs.Player.{register_after}
use Rattle.player_model.specs.Track.{Track, starts_at, set_to, register_at, end_register}
use Rattle.player_model.specs.Sound.{IsRegister}

-- after one block more of the first playing
register-next : (f : Format) (memory : List ℕ) (start again b : ℕ)
    → register_after f memory (register_at f memory start again b) (start + f.size * b) ≡ register_at f memory start again (suc b)
register-next f memory start again b = elim (cases_Bool (starts_at f memory start b)) [
  | inl marked ↦ (let set : register_after f memory (register_at f memory start again b) (start + f.size * b) ≡ start + f.size * b = rw marked refl in
      set ∙ ap (set_to f start again) (sym (last-here (starts_at f memory start) b marked)))
  | inr plain ↦ (let kept : register_after f memory (register_at f memory start again b) (start + f.size * b) ≡ register_at f memory start again b = rw plain refl in
      kept ∙ ap (set_to f start again) (sym (last-before (starts_at f memory start) b plain)))
]

-- after a block of a later playing it is what it was
register-stays : (f : Format) (t : Track) (b : ℕ) → b < t.blocks → end_register f t ≤ t.start + f.size * b
    → register_after f t.memory (end_register f t) (t.start + f.size * b) ≡ end_register f t
register-stays f t b within low = elim (cases_Bool (starts_at f t.memory t.start b)) [
  | inl marked ↦ (let set : register_after f t.memory (end_register f t) (t.start + f.size * b) ≡ t.start + f.size * b = rw marked refl in
      let last = last_from (starts_at f t.memory t.start) t.blocks b within marked in
      let there : end_register f t ≡ t.start + f.size * last.0 = ap (set_to f t.start t.again) last.3 in
      let behind : f.size * b ≤ f.size * last.0 = mul-le-mul_left f.size last.1 in
      omega (arith, set, there, behind, low))
  | inr plain ↦ rw plain refl
]

-- so it stays right from block to block
pub register-on : (f : Format) (t : Track) (b again address : ℕ) → IsRegister f t b again → b < t.blocks → address ≡ t.start + f.size * b
    → IsRegister f t (suc b) (register_after f t.memory again address)
register-on f t b again address right within here = elim right [
  | inl first ↦ inl (ap (register_after f t.memory again) here ∙ ap (λ (r : ℕ). register_after f t.memory r (t.start + f.size * b)) first
      ∙ register-next f t.memory t.start t.again b)
  | inr later ↦ (let more : t.start + f.size * b ≤ t.start + f.size * suc b = omega arith in
      inr (
        ap (register_after f t.memory again) here ∙ ap (λ (r : ℕ). register_after f t.memory r (t.start + f.size * b)) later.0
            ∙ register-stays f t b within later.1,
        omega (arith, later.1, more),
      ))
]

-- and after the last block it is what all of them leave
pub register-last : (f : Format) (t : Track) (b again address : ℕ) → IsRegister f t b again → suc b ≡ t.blocks → address ≡ t.start + f.size * b
    → register_after f t.memory again address ≡ end_register f t
register-last f t b again address right last here = elim (register-on f t b again address right (omega arith) here) [
  | inl first ↦ first ∙ ap (register_at f t.memory t.start t.again) last
  | inr later ↦ later.0
]
