-- How the outputs of a list are found one after another.
use Rattle.std.proofs.Common.{◌≡◌, ℕ, suc, ◌+◌, ◌/◌, ◌%◌, refl, sym, ap, ◌∙◌, subst, add-one, arith, ℤ, pos, ◌*ℤ◌, List, [], ◌∷◌, ◌++◌, get_or, to_z, of_z}
use Rattle.std.proofs.lemmas.List.FromFn.{map-range_with_len_more}
use Rattle.std.proofs.lemmas.List.Elements.{All-push}
use mir.Syntax.{w32}
use Rattle.adpcm_nums.specs.Sample.{IsSample, AreSamples}
use Rattle.machine_core.specs.declared.state.State.{State}
use Rattle.machine_core.specs.Decoder.{Decoder, start}
use Rattle.machine_core.specs.Blocks.{Blocks, state_at, output_at}
use Rattle.bank_kinds.specs.Passes.{outputs_of}
use Rattle.std.proofs.lemmas.Int.{ints}

-- a sample that was read is the sample
pub sample_same : (x : ℤ) → IsSample x → to_z w32 (of_z w32 x) ≡ x
sample_same x here = let low = here.low in let high = here.high in omega (arith, ints)

-- the state after one more sample
pub state-next : (d : Decoder) (list : Blocks) (samples i : ℕ) (heads symbols : List ℕ) (at next : State) → heads ≡ list.heads → symbols ≡ list.symbols → samples ≡ d.samples
    → at ≡ state_at d list start i → next ≡ d.step (get_or heads (i / samples) 0) (i % samples) (get_or symbols i 0) at → next ≡ state_at d list start (i + 1)
state-next d list samples i heads symbols at next same_heads same_symbols same_samples so_far steps =
    rw (add-one, steps, same_heads, same_symbols, same_samples, so_far) refl

-- one more output
pub outputs-more : (d : Decoder) (list : Blocks) (i : ℕ) (y scale : ℤ) (at : State) (before after : List ℤ) → scale ≡ pos d.scale → at ≡ state_at d list start (i + 1)
    → y ≡ scale *ℤ at.a → IsSample y → before ≡ outputs_of d list i → after ≡ before ++ to_z w32 (of_z w32 y) ∷ [] → after ≡ outputs_of d list (i + 1)
outputs-more d list i y scale at before after same_scale state value range so_far pushed =
    let f : ℕ → ℤ = λ k. pos d.scale *ℤ output_at d list start k in
    let next : state_at d list start (i + 1) ≡ state_at d list start (suc i) = ap (state_at d list start) (let e : i + 1 ≡ suc i = omega arith in e) in
    let here : to_z w32 (of_z w32 y) ≡ f i = sample_same y range ∙ (value ∙ (ap (λ z. z *ℤ at.a) same_scale ∙ ap (λ (s : State). pos d.scale *ℤ s.a) (state ∙ next))) in
    pushed ∙ (ap (λ xs. xs ++ to_z w32 (of_z w32 y) ∷ []) so_far ∙ (ap (λ z. outputs_of d list i ++ z ∷ []) here ∙ sym (map-range_with_len_more f 0 i i (omega arith))))

-- and it is a sample
pub range-more : (y : ℤ) (before after : List ℤ) → IsSample y → AreSamples before → after ≡ before ++ to_z w32 (of_z w32 y) ∷ [] → AreSamples after
range-more y before after range so_far pushed =
    subst AreSamples (sym pushed) (All-push IsSample before (to_z w32 (of_z w32 y)) so_far (subst IsSample (sym (sample_same y range)) range))
