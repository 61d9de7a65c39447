-- The written flags, by the number of the block.
use Rattle.std.proofs.Common.{◌≡◌, ℕ, suc, ◌+◌, ◌<◌, Bool, true, false, if◌then◌else◌, refl, sym, ◌∙◌, arith}
use Rattle.std.specs.Prelude.{◌==◌, Option, Some, None, is_some}
use Rattle.std.proofs.lemmas.Bool.{eq-eqb, false≢true}
use Rattle.machine_core.specs.declared.state.Kind.{Kind}
use Rattle.machine_core.specs.declared.state.Kind.TheVariants.{Brr, Spu, Ima}
use Rattle.block_flags.specs.Flags.{flags_of_block, flag_bound, tells_end, tells_start, has_end, has_repeat, has_start}

once-small : (last : Bool) → (if last then 1 else 0) < 4
once-small true = omega arith
once-small false = omega arith

looping-small : (last : Bool) → (if last then 3 else 0) < 4
looping-small true = omega arith
looping-small false = omega arith

marked-small : (last first : Bool) → (if last then 3 else 0) + (if first then 4 else 0) < 8
marked-small true true = omega arith
marked-small true false = omega arith
marked-small false true = omega arith
marked-small false false = omega arith

-- a block may have the flags that are written for it
pub flags_fit : (kind : Kind) (b blocks : ℕ) (loop_block : Option ℕ) → flags_of_block kind b blocks loop_block < flag_bound kind
flags_fit Brr b blocks None = once-small (suc b == blocks)
flags_fit Brr b blocks (Some l) = looping-small (suc b == blocks)
flags_fit Spu b blocks None = let small = once-small (suc b == blocks) in omega (arith, small)
flags_fit Spu b blocks (Some l) = marked-small (suc b == blocks) (b == l)
flags_fit Ima b blocks loop_block = omega arith

once-ends : (last : Bool) → has_end (if last then 1 else 0) ≡ last
once-ends true = refl
once-ends false = refl

spu_once-ends : (last : Bool) → has_end ((if last then 1 else 0) + 0) ≡ last
spu_once-ends true = refl
spu_once-ends false = refl

looping-ends : (last : Bool) → has_end (if last then 3 else 0) ≡ last
looping-ends true = refl
looping-ends false = refl

marked-ends : (last first : Bool) → has_end ((if last then 3 else 0) + (if first then 4 else 0)) ≡ last
marked-ends true true = refl
marked-ends true false = refl
marked-ends false true = refl
marked-ends false false = refl

-- the last block alone ends the sample
pub ends_is : (kind : Kind) (b blocks : ℕ) (loop_block : Option ℕ) → tells_end kind ≡ true → has_end (flags_of_block kind b blocks loop_block) ≡ (suc b == blocks)
ends_is Brr b blocks None tells = once-ends (suc b == blocks)
ends_is Brr b blocks (Some l) tells = looping-ends (suc b == blocks)
ends_is Spu b blocks None tells = spu_once-ends (suc b == blocks)
ends_is Spu b blocks (Some l) tells = marked-ends (suc b == blocks) (b == l)
ends_is Ima b blocks loop_block tells = absurd (false≢true tells)

once-repeats : (last : Bool) → has_repeat (if last then 1 else 0) ≡ false
once-repeats true = refl
once-repeats false = refl

spu_once-repeats : (last : Bool) → has_repeat ((if last then 1 else 0) + 0) ≡ false
spu_once-repeats true = refl
spu_once-repeats false = refl

looping-repeats : (last : Bool) → has_repeat (if last then 3 else 0) ≡ last
looping-repeats true = refl
looping-repeats false = refl

marked-repeats : (last first : Bool) → has_repeat ((if last then 3 else 0) + (if first then 4 else 0)) ≡ last
marked-repeats true true = refl
marked-repeats true false = refl
marked-repeats false true = refl
marked-repeats false false = refl

-- and it repeats where there is a loop
pub repeats_is : (kind : Kind) (b blocks : ℕ) (loop_block : Option ℕ) → tells_end kind ≡ true → suc b ≡ blocks
    → has_repeat (flags_of_block kind b blocks loop_block) ≡ is_some loop_block
repeats_is Brr b blocks None tells last = once-repeats (suc b == blocks)
repeats_is Brr b blocks (Some l) tells last = looping-repeats (suc b == blocks) ∙ eq-eqb (suc b) blocks last
repeats_is Spu b blocks None tells last = spu_once-repeats (suc b == blocks)
repeats_is Spu b blocks (Some l) tells last = marked-repeats (suc b == blocks) (b == l) ∙ eq-eqb (suc b) blocks last
repeats_is Ima b blocks loop_block tells last = absurd (false≢true tells)

spu_once-starts : (last : Bool) → has_start Spu ((if last then 1 else 0) + 0) ≡ false
spu_once-starts true = refl
spu_once-starts false = refl

marked-starts : (last first : Bool) → has_start Spu ((if last then 3 else 0) + (if first then 4 else 0)) ≡ first
marked-starts true true = refl
marked-starts true false = refl
marked-starts false true = refl
marked-starts false false = refl

-- where blocks tell it, the loop begins at the loop block alone
pub starts_is : (kind : Kind) (b blocks l : ℕ) → tells_start kind ≡ true → has_start kind (flags_of_block kind b blocks (Some l)) ≡ (b == l)
starts_is Brr b blocks l tells = absurd (false≢true tells)
starts_is Spu b blocks l tells = marked-starts (suc b == blocks) (b == l)
starts_is Ima b blocks l tells = absurd (false≢true tells)

-- where they do not, no block has the start flag
pub never_starts : (kind : Kind) (byte : ℕ) → tells_start kind ≡ false → has_start kind byte ≡ false
never_starts Brr byte tells = refl
never_starts Spu byte tells = absurd (false≢true (sym tells))
never_starts Ima byte tells = refl
