-- Whole blocks are read as they stand, and their frames are few.
use Rattle.std.proofs.Common.{◌≡◌, ℕ, zero, suc, ◌+◌, ◌-◌, ◌*◌, ◌/◌, ◌%◌, ◌^◌, ◌<◌, ◌≤◌, List, length, take, get_or, arith, refl, sym, ap, ◌∙◌, subst, Ok}
use Rattle.std.specs.Prelude.{Option, None, IsTrue, IfSome, drop}
use Rattle.std.proofs.lemmas.List.{take_all, get_or-take, length-take, length-drop}
use Rattle.std.proofs.lemmas.Nat.{div-add-mod', div-mul-add}
use Rattle.std.proofs.Math.Nat.{mul-le-mul, mul-le-mul_right}
use Rattle.adpcm_nums.specs.declared.loop_at.LoopAt.{LoopAt}
use Rattle.ima_machine.specs.Ima.{is_align, samples_in}
use Rattle.ima_machine.specs.Faults.{fault_in, head_fault as fault_of}
use Rattle.ima_wave.specs.Heads.{AreBlocks, block_count, whole_blocks, first_bad_head, blocks_of, unless}
use Rattle.ima_wave.specs.Reading.{all_frames}
use Rattle.ima_wave.specs.Files.{IsImaFile}
use Rattle.ima_wave.proofs.BadHeads.{none-bad, all-good}

-- nothing is left behind whole blocks
pub whole-all : (align : ℕ) (blocks : List ℕ) → length blocks % align ≡ 0 → whole_blocks align blocks ≡ blocks
whole-all align blocks whole = take_all (block_count align blocks * align) blocks (omega (arith, div-add-mod' (length blocks) align, whole))

pub blocks_again : (align : ℕ) (blocks : List ℕ) → length blocks % align ≡ 0 → ((b : ℕ) → b < block_count align blocks → fault_in blocks (b * align) ≡ None) → blocks_of align blocks ≡ Ok blocks
unfolding blocks_of
blocks_again align blocks whole heads =
    let none = none-bad align blocks (block_count align blocks) 0 (λ b above below. heads b (omega arith)) in
    ap (λ f. unless f (whole_blocks align blocks)) none ∙ ap Ok (whole-all align blocks whole)

-- a block has fewer samples than two a byte
pub few-frames : (align count len : ℕ) → 8 ≤ align → count * align ≤ len → count * samples_in align ≤ 2 * len
few-frames align count len some h =
    let samples : samples_in align ≤ 2 * align = omega arith in
    let most : count * samples_in align ≤ count * (2 * align) = let same : count ≤ count = omega arith in mul-le-mul same samples in
    omega (arith, most)

-- a block within the front of bytes has the head that it has in them
fault-front : (n address : ℕ) (bytes : List ℕ) → address + 4 ≤ n → fault_in (take n bytes) address ≡ fault_in bytes address
fault-front n address bytes within =
    let index = get_or-take n bytes (address + 2) 0 (omega arith) in
    let value = get_or-take n bytes (address + 3) 0 (omega arith) in
    ap (λ x. fault_of x (get_or (take n bytes) (address + 3) 0)) index ∙ ap (fault_of (get_or bytes (address + 2) 0)) value

block-within : (align count b : ℕ) → 8 ≤ align → b < count → b * align + 4 ≤ count * align
block-within align count b some below = let next : b + 1 ≤ count = omega arith in let far : (b + 1) * align ≤ count * align = mul-le-mul_right align next in omega (arith, far)

-- so many blocks have so many bytes, and nothing is left
blocks-in : (count align n : ℕ) → n ≡ count * align + 0 → 0 < align → n / align ≡ count
blocks-in count align n e some = ap (λ z. z / align) e ∙ div-mul-add count align 0 some

none-left : (count align n : ℕ) → n ≡ count * align + 0 → 0 < align → n % align ≡ 0
none-left count align n e some = let same : n / align * align ≡ count * align = ap (λ z. z * align) (blocks-in count align n e some) in omega (arith, e, same, div-add-mod' n align)

-- the whole blocks of bytes without a bad head
pub whole-are : (align : ℕ) (bytes : List ℕ) → 8 ≤ align → first_bad_head align bytes (block_count align bytes) 0 ≡ None → AreBlocks align bytes (whole_blocks align bytes)
whole-are align bytes some none =
    let count = block_count align bytes in
    let n = count * align in
    let split = div-add-mod' (length bytes) align in
    let front : n ≤ length bytes = omega (arith, split) in
    let long : length (take n bytes) ≡ n = length-take n bytes ∙ omega (arith, front) in
    let place : length (take n bytes) ≡ count * align + 0 = omega (arith, long) in
    let same : length (take n bytes) / align ≡ count = blocks-in count align (length (take n bytes)) place (omega arith) in record {
      whole = none-left count align (length (take n bytes)) place (omega arith);
      count = same;
      within = omega (arith, long, front);
      heads = λ b below. (
          let less : b < count = omega (arith, same, below) in
          fault-front n (b * align) bytes (block-within align count b some less) ∙ all-good align bytes count 0 none b (omega arith) (omega arith));
    }

-- a file of them
pub kept-is : (rate align frames : ℕ) (at : Option LoopAt) (bytes blocks copy : List ℕ) → 1 ≤ rate → rate ≤ 1000000 → IsTrue (is_align align) → AreBlocks align bytes blocks → copy ≡ blocks
    → frames ≤ all_frames align bytes → IfSome at (λ l. l.start ≤ l.end) → IfSome at (λ l. l.end < frames)
    → IsImaFile (record { rate = rate; align = align; frames = frames; at = at; blocks = copy })
kept-is rate align frames at bytes blocks copy some low fits are e within forward inside =
    let same : all_frames align copy ≡ all_frames align bytes = ap (λ n. n * samples_in align) (ap (block_count align) e ∙ are.count) in record {
      some_rate = some;
      low_rate = low;
      align = fits;
      whole = ap (λ (bs : List ℕ). length bs % align) e ∙ are.whole;
      heads = λ b below. ap (λ (bs : List ℕ). fault_in bs (b * align)) e ∙ are.heads b (omega (arith, below, ap (block_count align) e));
      frames = omega (arith, within, same);
      forward = forward;
      inside = inside;
    }

-- a part of bytes is no longer than they
pub part-small : (n k : ℕ) (bytes : List ℕ) → length (take n (drop k bytes)) ≤ length bytes
part-small n k bytes = omega (arith, length-take n (drop k bytes), length-drop k bytes)
