-- Frames one after another, how many they are, and that each has 16 bits.
use Rattle.std.proofs.Common.{◌≡◌, ◌∙◌, sym, ap, refl, arith, ℕ, zero, suc, ◌+◌, ◌-◌, ◌<◌, ◌≤◌, List, [], ◌∷◌, ◌++◌, length}
use Rattle.std.specs.Prelude.{◌/◌, ℤ, pos, ◌+ℤ◌, ◌-ℤ◌}
use Rattle.std.proofs.lemmas.List.{append_assoc, append-nil, length-append}
use Rattle.adpcm_nums.specs.Sample.{AreSamples}
use Rattle.adpcm_nums.proofs.ClampLaws.{clamped}
use Rattle.sample_gen.specs.declared.walker.Walker.{Walker}
use Rattle.sample_gen.specs.Walk.{number_after, walker_after, frames_after}

pub length-frames : (count : ℕ) (walker : Walker) → length (frames_after count walker) ≡ count
unfolding frames_after
length-frames zero walker = refl
length-frames (suc count) walker = ap suc (length-frames count (walker_after walker))

pub range-frames : (count : ℕ) (walker : Walker) → AreSamples (frames_after count walker)
unfolding frames_after
range-frames zero walker k d h = absurd (omega (arith, h))
range-frames (suc count) walker zero d h = clamped (walker.frame +ℤ pos (number_after walker.number / 4194304) -ℤ pos 512)
range-frames (suc count) walker (suc k) d h = range-frames count (walker_after walker) k d (omega (arith, h))

-- a frame goes over from those that follow to those that are there
pub frames_move : (most step : ℕ) (walker next : Walker) (out more whole : List ℤ) → step < most → out ++ frames_after (most - step) walker ≡ whole
    → next ≡ walker_after walker → more ≡ out ++ next.frame ∷ [] → more ++ frames_after (most - (step + 1)) next ≡ whole
unfolding frames_after
frames_move most step walker next out more whole h e is pushed =
    let one : most - step ≡ suc (most - (step + 1)) = omega (arith, h) in
    let rest = frames_after (most - (step + 1)) next in
    ap (λ xs. xs ++ rest) pushed ∙ append_assoc out (next.frame ∷ []) rest ∙ ap (λ w. out ++ w.frame ∷ frames_after (most - (step + 1)) w) is
    ∙ ap (λ count. out ++ frames_after count walker) (sym one) ∙ e

-- with no frames to come, those that are there are all
pub frames_end : (most step : ℕ) (walker : Walker) (out whole : List ℤ) → most ≤ step → out ++ frames_after (most - step) walker ≡ whole → out ≡ whole
unfolding frames_after
frames_end most step walker out whole h e =
    let none : most - step ≡ 0 = omega (arith, h) in sym (append-nil out) ∙ ap (λ count. out ++ frames_after count walker) (sym none) ∙ e

-- and there is one more of them
pub count_more : (step : ℕ) (frame : ℤ) (out more : List ℤ) → length out ≡ step → more ≡ out ++ frame ∷ [] → length more ≡ step + 1
count_more step frame out more e pushed = ap length pushed ∙ length-append out (frame ∷ []) ∙ omega (arith, e)
