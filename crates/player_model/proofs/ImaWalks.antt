-- What is decoded of a track of IMA ADPCM, frame by frame.
use Rattle.std.proofs.Common.{◌≡◌, ℕ, zero, suc, ◌+◌, ◌-◌, ◌*◌, ◌/◌, ◌%◌, ◌<◌, ◌≤◌, List, length, get_or, map, refl, ap, sym, ◌∙◌, arith, subst, true, false, true≢false, IsTrue, inl, inr}
use Rattle.std.specs.Prelude.{ℤ, pos, ◌==◌, nat_lt, min, Option, Some, None, is_some}
use Rattle.std.specs.List.{range_with_len}
use Rattle.std.proofs.lemmas.Bool.{cases_lt, cases_Bool, eq-eqb, cond-true, cond-false, ltb-false}
use Rattle.std.proofs.lemmas.Option.{none-some}
use Rattle.std.proofs.lemmas.List.FromFn.{get_or-map-range_with_len, length-map-range_with_len}
use Rattle.std.proofs.Math.Nat.{mod-lt, mul-le-mul, mul-mod_left}
use Rattle.std.proofs.lemmas.Nat.{div-add-mod'}
use Rattle.std.proofs.Math.ListN.{get_or-eq_default}
use Rattle.adpcm_nums.proofs.FirstLaws.{first_where-is, none_passes}
use Rattle.adpcm_nums.specs.declared.loop_at.LoopAt.{LoopAt}
use Rattle.adpcm_nums.specs.Round.{round_of}
use Rattle.machine_core.specs.declared.state.State.{State}
use Rattle.machine_core.specs.Blocks.{head_at, symbol_at, step_at, output_at}
use Rattle.machine_core.specs.Decoder.{start}
use Rattle.machine_core.proofs.Places.{block-below}
use Rattle.ima_machine.specs.declared.fault.ImaFault.{ImaFault}
use Rattle.ima_machine.specs.declared.fault.ImaFault.TheVariants.{BadIndex}
use Rattle.ima_machine.specs.Ima.{ima, samples_in, symbols_at, is_ima_state, ima_step}
use Rattle.ima_machine.specs.Laws.Stepping.{step-first, step-fits}
use Rattle.ima_machine.specs.Lawful.{align-low, lawful}
use Rattle.ima_machine.specs.Faults.{fault_in}
use Rattle.ima_machine.specs.Spelling.{head_in, symbol_in}
use Rattle.player_model.specs.declared.fault.TrackFault.TheVariants.{BadHead}
use Rattle.player_model.specs.ImaTrack.{ImaSound, IsImaTrack, blocks_of, is_bad, first_bad, bad_head, head_fault_of, decoder_of, list_of, first_outputs, heard_ima}
use Rattle.player_model.specs.ImaPlayer.{place_at, state_before}

round-reads : (sound : List ℤ) (looped : Option LoopAt) (i : ℕ) → round_of sound looped i ≡ get_or sound (place_at looped i) (pos 0)
round-reads sound None i = refl
round-reads sound (Some at) i = refl

-- bytes without a fault have a head of the decoder
pub sound_head : (memory : List ℕ) (address : ℕ) → fault_in memory address ≡ None → head_in memory address < 89
sound_head memory address none =
    elim (cases_Bool (nat_lt 88 (head_in memory address))) [
      | inl large ↦ absurd (none-some (BadIndex (head_in memory address)) (sym none ∙ cond-true _ _ _ large))
      | inr small ↦ (let le = ltb-false 88 (head_in memory address) small in omega (arith, le))
    ]

some-samples : (t : ImaSound) → IsImaTrack t → 0 < samples_in t.align
some-samples t is = (lawful t.align is.sound.align_fits).some_samples

-- the head of block b, and the symbol of frame i
pub head_here : (t : ImaSound) (b : ℕ) → b < blocks_of t → get_or (list_of t).heads b 0 ≡ head_in t.bytes (0 + t.align * b)
head_here t b within = get_or-map-range_with_len (λ k. head_in t.bytes (0 + t.align * k)) 0 (blocks_of t) b b 0 within (omega arith)

pub symbol_here : (t : ImaSound) (i : ℕ) → i < blocks_of t * samples_in t.align
    → symbol_at (list_of t) i ≡ symbol_in t.bytes (0 + t.align * (i / samples_in t.align)) (i % samples_in t.align)
symbol_here t i within =
    get_or-map-range_with_len (λ k. symbol_in t.bytes (0 + t.align * (k / samples_in t.align)) (k % samples_in t.align)) 0 (blocks_of t * samples_in t.align) i i 0 within (omega arith)

-- the block of frame i, and its bytes
pub block_inside : (t : ImaSound) → IsImaTrack t → (i samples : ℕ) → samples ≡ samples_in t.align → i < t.frames → i / samples < blocks_of t
block_inside t is i samples e within =
    subst (λ (n : ℕ). i / n < blocks_of t) (sym e) (block-below i (samples_in t.align) (blocks_of t) (let fit = is.sound.frames_fit in omega (arith, within, fit)))

pub block_bytes : (t : ImaSound) → IsImaTrack t → (b : ℕ) → b < blocks_of t → t.align * b + t.align ≤ length t.bytes
block_bytes t is b within =
    let whole = is.sound.whole in
    let more : suc b * t.align ≤ blocks_of t * t.align = mul-le-mul within (omega arith) in
    omega (arith, whole, more)

pub head_inside : (t : ImaSound) → IsImaTrack t → (i samples : ℕ) → samples ≡ samples_in t.align → i < t.frames → t.align * (i / samples) + 4 ≤ length t.bytes
head_inside t is i samples e within =
    let low = align-low t.align is.sound.align_fits in
    let bytes = block_bytes t is (i / samples) (block_inside t is i samples e within) in
    omega (arith, low, bytes)

pub code_inside : (t : ImaSound) → IsImaTrack t → (i samples : ℕ) → samples ≡ samples_in t.align → i < t.frames
    → t.align * (i / samples) + 4 + (i % samples + 1) / 2 ≤ length t.bytes
code_inside t is i samples e within =
    let low = align-low t.align is.sound.align_fits in
    let bytes = block_bytes t is (i / samples) (block_inside t is i samples e within) in
    let place : i % samples < samples = mod-lt i (omega (arith, e, low)) in
    omega (arith, low, bytes, place, e)

pub head_fits : (t : ImaSound) → IsImaTrack t → (i samples head : ℕ) → samples ≡ samples_in t.align → i < t.frames → head ≡ head_in t.bytes (t.align * (i / samples)) → head < 89
head_fits t is i samples head e within reads =
    let small = sound_head t.bytes (t.align * (i / samples)) (is.heads_fit (i / samples) (block_inside t is i samples e within)) in
    omega (arith, reads, small)

-- what is decoded of a frame is the list's step
pub step_here : (t : ImaSound) → IsImaTrack t → (i samples head symbol : ℕ) (from after : State) → samples ≡ samples_in t.align → i < t.frames
    → head ≡ head_in t.bytes (t.align * (i / samples)) → symbol ≡ symbol_in t.bytes (t.align * (i / samples)) (i % samples)
    → after ≡ ima_step head (i % samples) symbol from → after ≡ step_at (decoder_of t) (list_of t) i from
step_here t is i samples head symbol from after e within reads_head reads_symbol steps =
    let n = samples_in t.align in
    let block = block_inside t is i n refl within in
    let same : t.align * (i / samples) ≡ 0 + t.align * (i / n) = ap (λ (m : ℕ). t.align * (i / m)) e ∙ omega arith in
    let here : head ≡ head_at (decoder_of t) (list_of t) i = reads_head ∙ ap (head_in t.bytes) same ∙ sym (head_here t (i / n) block) in
    let inside : i < blocks_of t * n = let fit = is.sound.frames_fit in omega (arith, within, fit) in
    let there : symbol ≡ symbol_at (list_of t) i =
    reads_symbol ∙ ap (λ (a : ℕ). symbol_in t.bytes a (i % samples)) same ∙ ap (λ (m : ℕ). symbol_in t.bytes (0 + t.align * (i / n)) (i % m)) e ∙ sym (symbol_here t i inside) in
    steps ∙ ap (λ (h : ℕ). ima_step h (i % samples) symbol from) here ∙ ap (λ (m : ℕ). ima_step (head_at (decoder_of t) (list_of t) i) (i % m) symbol from) e
    ∙ ap (λ (s : ℕ). ima_step (head_at (decoder_of t) (list_of t) i) (i % n) s from) there

-- and leads from a state to a state
pub step_stays : (head p symbol : ℕ) (from after : State) → head < 89 → symbol < symbols_at p → IsTrue (is_ima_state from) → after ≡ ima_step head p symbol from → IsTrue (is_ima_state after)
step_stays head p symbol from after head_fits symbol_fits is steps = subst (λ (s : State). IsTrue (is_ima_state s)) (sym steps) (step-fits head p symbol from head_fits symbol_fits is)

-- where no head is bad all are sound
none-or-some : (o : Option ImaFault) → is_some o ≡ false → o ≡ None
none-or-some None e = refl
none-or-some (Some f) e = absurd (true≢false e)

bad-told : (block : ℕ) (o : Option ImaFault) → is_some o ≡ true → bad_head block o ≡ None → ⊥
bad-told block None bad none = true≢false (sym bad)
bad-told block (Some f) bad none = none-some (BadHead block f) (sym none)

all-sound : (align : ℕ) (bytes : List ℕ) (o : Option ℕ) → first_bad align bytes ≡ o → head_fault_of align bytes o ≡ None → first_bad align bytes ≡ None
all-sound align bytes None found none = found
all-sound align bytes (Some block) found none =
    let first = first_where-is (is_bad align bytes) (length bytes / align) block found in
    absurd (bad-told block (fault_in bytes (align * block)) first.here none)

pub sound_heads : (align : ℕ) (bytes : List ℕ) → head_fault_of align bytes (first_bad align bytes) ≡ None → (b : ℕ) → b < length bytes / align → fault_in bytes (align * b) ≡ None
sound_heads align bytes none b within =
    none-or-some (fault_in bytes (align * b)) (none_passes (is_bad align bytes) (length bytes / align) b (all-sound align bytes (first_bad align bytes) refl none) within)

-- a block's first frame does not depend on the state before it
pub first_forgets : (t : ImaSound) (i : ℕ) (s u : State) → i % samples_in t.align ≡ 0 → step_at (decoder_of t) (list_of t) i s ≡ step_at (decoder_of t) (list_of t) i u
first_forgets t i s u first =
    let head = head_at (decoder_of t) (list_of t) i in
    let symbol = symbol_at (list_of t) i in
    ap (λ (p : ℕ). ima_step head p symbol s) first ∙ step-first head symbol s ∙ sym (step-first head symbol u) ∙ ap (λ (p : ℕ). ima_step head p symbol u) (sym first)

-- an output of a frame is what is heard at its place, and behind the last frame there is none
pub heard_frame : (t : ImaSound) (i place : ℕ) → place ≡ place_at t.loop_at i → place < t.frames → heard_ima t i ≡ (state_before t (suc place)).a
heard_frame t i place e within =
    round-reads (first_outputs t) t.loop_at i ∙ ap (λ (k : ℕ). get_or (first_outputs t) k (pos 0)) (sym e)
    ∙ get_or-map-range_with_len (output_at (decoder_of t) (list_of t) start) 0 t.frames place place (pos 0) within (omega arith)

pub heard_silent_frame : (t : ImaSound) (i place : ℕ) → place ≡ place_at t.loop_at i → t.frames ≤ place → heard_ima t i ≡ pos 0
heard_silent_frame t i place e past =
    let long = length-map-range_with_len (output_at (decoder_of t) (list_of t) start) 0 t.frames in
    round-reads (first_outputs t) t.loop_at i ∙ ap (λ (k : ℕ). get_or (first_outputs t) k (pos 0)) (sym e)
    ∙ get_or-eq_default (first_outputs t) (pos 0) (omega (arith, long, past))

whole-mod : (i n : ℕ) → 0 < n → (i - i % n) % n ≡ 0
whole-mod i n some =
    let parts = div-add-mod' i n in
    let whole : i - i % n ≡ i / n * n = omega (arith, parts) in
    ap (λ (k : ℕ). k % n) whole ∙ mul-mod_left (i / n) n

-- the state after the first frame of a block, from any state before it, and after each one more
pub first_state_is : (t : ImaSound) → IsImaTrack t → (i samples first : ℕ) (from after : State) → samples ≡ samples_in t.align → first ≡ i - i % samples
    → after ≡ step_at (decoder_of t) (list_of t) first from → after ≡ state_before t (first + 1)
first_state_is t is i samples first from after e f steps =
    let low = align-low t.align is.sound.align_fits in
    let some : 0 < samples = omega (arith, e, low) in
    let begins : first % samples_in t.align ≡ 0 = ap (λ (n : ℕ). first % n) (sym e) ∙ ap (λ (k : ℕ). k % samples) f ∙ whole-mod i samples some in
    let more : suc first ≡ first + 1 = omega arith in
    steps ∙ first_forgets t first from (state_before t first) begins ∙ ap (state_before t) more

pub next_state_is : (t : ImaSound) (next : ℕ) (from after : State) → from ≡ state_before t next → after ≡ step_at (decoder_of t) (list_of t) next from → after ≡ state_before t (next + 1)
next_state_is t next from after is steps =
    let more : suc next ≡ next + 1 = omega arith in
    steps ∙ ap (step_at (decoder_of t) (list_of t) next) is ∙ ap (state_before t) more
