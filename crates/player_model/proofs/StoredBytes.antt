-- The bytes of a list of blocks, where they stand in a memory.
use Rattle.std.proofs.Common.{◌≡◌, ℕ, zero, suc, ◌+◌, ◌*◌, ◌<◌, ◌≤◌, ◌⊎◌, inl, inr, List, ◌++◌, length, take, drop, get_or, sym, ap, ◌∙◌, subst, arith}
use Rattle.std.specs.Prelude.{Option}
use Rattle.std.proofs.lemmas.Nat.{mod-mul-add}
use Rattle.std.proofs.Math.Nat.{mul-le-mul_left}
use Rattle.std.proofs.lemmas.List.{get_or_append_left, get_or-append-add, get_or-take, get_or-drop, length-append, length-take, length-drop}
use Rattle.machine_core.specs.Decoder.{Decoder}
use Rattle.machine_core.specs.Blocks.{Blocks, IsInRange}
use Rattle.machine_core.proofs.Lists.{get_or-part, length-part}
use Rattle.machine_core.proofs.Places.{block-ends}
use Rattle.block_flags.specs.Flags.{flags_of_block}
use Rattle.block_flags.proofs.FlagLaws.{flags_fit}
use Rattle.player_model.specs.Format.{Format}
use Rattle.player_model.specs.FormatLaws.{FitsBlock, IsSpelled, IsStoredFormat}
use Rattle.player_model.specs.Stored.{block_symbols, stored_block, stored_front, stored_blocks}

-- symbol p of block b
pub symbol-of : (d : Decoder) (list : Blocks) (b p : ℕ) → p < d.samples → get_or (block_symbols d list b) p 0 ≡ get_or list.symbols (b * d.samples + p) 0
symbol-of d list b p h = get_or-part list.symbols (b * d.samples) d.samples p 0 h

room-of : (b p n blocks : ℕ) → b < blocks → p < n → b * n + p < blocks * n
room-of b p n blocks h within = let more = block-ends b n blocks h in omega (arith, more)

-- the blocks of a list in range are blocks of the decoder
pub fits-block : (d : Decoder) (list : Blocks) (blocks b : ℕ) → IsInRange d blocks list → b < blocks → FitsBlock d (get_or list.heads b 0) (block_symbols d list b)
fits-block d list blocks b range h = record {
  head_fits = range.heads_fit b h;
  count = length-part list.symbols (b * d.samples) d.samples (omega (arith, range.symbol_count, block-ends b d.samples blocks h));
  symbols_fit = λ p within.
      let here = mod-mul-add b d.samples p within in
      let small : get_or list.symbols (b * d.samples + p) 0 < d.symbols p =
      subst (λ (q : ℕ). get_or list.symbols (b * d.samples + p) 0 < d.symbols q) here (range.symbols_fit (b * d.samples + p) (room-of b p d.samples blocks h within)) in
      subst (λ (s : ℕ). s < d.symbols p) (sym (symbol-of d list b p within)) small;
}

-- each has the bytes of a block
pub length-block : (d : Decoder) (f : Format) (list : Blocks) (blocks : ℕ) (loop_block : Option ℕ) (b : ℕ) → IsStoredFormat d f → IsInRange d blocks list → b < blocks
    → length (stored_block d f list blocks loop_block b) ≡ f.size
length-block d f list blocks loop_block b laws range h = laws.length_is _ _ _ (fits-block d list blocks b range h)

-- and n blocks have n times as many
pub length-front : (d : Decoder) (f : Format) (list : Blocks) (blocks : ℕ) (loop_block : Option ℕ) (n : ℕ) → IsStoredFormat d f → IsInRange d blocks list → n ≤ blocks
    → length (stored_front d f list blocks loop_block n) ≡ f.size * n
unfolding stored_front
length-front d f list blocks loop_block zero laws range h = omega arith
length-front d f list blocks loop_block (suc n) laws range h =
    let front = length-front d f list blocks loop_block n laws range (omega arith) in
    let block = length-block d f list blocks loop_block n laws range h in
    let whole = length-append (stored_front d f list blocks loop_block n) (stored_block d f list blocks loop_block n) in
    omega (arith, front, block, whole)

before-or-last : (b n : ℕ) → b < suc n → (b < n) ⊎ (b ≡ n)
before-or-last b n h = grind arith

byte-room : (size b j n : ℕ) → b < n → j < size → size * b + j < size * n
byte-room size b j n h small = let more : size * suc b ≤ size * n = mul-le-mul_left size h in omega (arith, more)

-- byte j of block b of the front
front-byte : (d : Decoder) (f : Format) (list : Blocks) (blocks : ℕ) (loop_block : Option ℕ) (n b j : ℕ) → IsStoredFormat d f → IsInRange d blocks list → n ≤ blocks → b < n → j < f.size
    → get_or (stored_front d f list blocks loop_block n) (f.size * b + j) 0 ≡ get_or (stored_block d f list blocks loop_block b) j 0
unfolding stored_front
front-byte d f list blocks loop_block zero b j laws range h below small = absurd (omega arith)
front-byte d f list blocks loop_block (suc n) b j laws range h below small =
    let front : List ℕ = stored_front d f list blocks loop_block n in
    let len : length front ≡ f.size * n = length-front d f list blocks loop_block n laws range (omega arith) in
    elim (before-or-last b n below) [
      | inl before ↦ get_or_append_left front (stored_block d f list blocks loop_block n) 0 (f.size * b + j) (omega (arith, len, byte-room f.size b j n before small))
          ∙ front-byte d f list blocks loop_block n b j laws range (omega arith) before small
      | inr last ↦ (let row : f.size * b ≡ f.size * n = ap (λ (k : ℕ). f.size * k) last in
          let place : f.size * b + j ≡ length front + j = omega (arith, len, row) in
          ap (λ (i : ℕ). get_or (front ++ stored_block d f list blocks loop_block n) i 0) place
          ∙ get_or-append-add front (stored_block d f list blocks loop_block n) j 0
          ∙ ap (λ (k : ℕ). get_or (stored_block d f list blocks loop_block k) j 0) (sym last))
    ]

-- the same in a memory
stored-byte : (d : Decoder) (f : Format) (memory : List ℕ) (begin : ℕ) (list : Blocks) (blocks : ℕ) (loop_block : Option ℕ) (b j : ℕ) → IsStoredFormat d f → IsInRange d blocks list
    → take (f.size * blocks) (drop begin memory) ≡ stored_blocks d f list blocks loop_block → b < blocks → j < f.size
    → get_or memory (begin + f.size * b + j) 0 ≡ get_or (stored_block d f list blocks loop_block b) j 0
stored-byte d f memory begin list blocks loop_block b j laws range bytes below small =
    let place : begin + f.size * b + j ≡ begin + (f.size * b + j) = omega arith in
    ap (λ (i : ℕ). get_or memory i 0) place
    ∙ sym (get_or-drop begin memory (f.size * b + j) 0)
    ∙ sym (get_or-take (f.size * blocks) (drop begin memory) (f.size * b + j) 0 (byte-room f.size b j blocks below small))
    ∙ ap (λ (bs : List ℕ). get_or bs (f.size * b + j) 0) bytes
    ∙ front-byte d f list blocks loop_block blocks b j laws range (omega arith) below small

-- so each block is spelled at its address
pub stored-spelled : (d : Decoder) (f : Format) (memory : List ℕ) (begin : ℕ) (list : Blocks) (blocks : ℕ) (loop_block : Option ℕ) (b : ℕ) → IsStoredFormat d f → IsInRange d blocks list
    → take (f.size * blocks) (drop begin memory) ≡ stored_blocks d f list blocks loop_block → b < blocks
    → IsSpelled d f memory (begin + f.size * b) (get_or list.heads b 0) (flags_of_block f.kind b blocks loop_block) (block_symbols d list b)
stored-spelled d f memory begin list blocks loop_block b laws range bytes h = record {
  fits = fits-block d list blocks b range h;
  flags_fit = flags_fit f.kind b blocks loop_block;
  stands = λ j small. stored-byte d f memory begin list blocks loop_block b j laws range bytes h (omega (arith, small, length-block d f list blocks loop_block b laws range h));
}

taken-fits : (memory : List ℕ) (begin n : ℕ) → 0 < n → length (take n (drop begin memory)) ≡ n → begin + n ≤ length memory
taken-fits memory begin n some h = omega (arith, simp (length-take, length-drop) at h)

some-bytes : (size blocks : ℕ) → 0 < size → 0 < blocks → 0 < size * blocks
some-bytes size blocks some h = let m : size * 1 ≤ size * blocks = mul-le-mul_left size h in omega (arith, m)

-- the memory holds all of the blocks
pub stored-fits : (d : Decoder) (f : Format) (memory : List ℕ) (begin : ℕ) (list : Blocks) (blocks : ℕ) (loop_block : Option ℕ) → IsStoredFormat d f → IsInRange d blocks list → 0 < blocks
    → take (f.size * blocks) (drop begin memory) ≡ stored_blocks d f list blocks loop_block → begin + f.size * blocks ≤ length memory
stored-fits d f memory begin list blocks loop_block laws range some bytes =
    let all = length-front d f list blocks loop_block blocks laws range (omega arith) in
    taken-fits memory begin (f.size * blocks) (some-bytes f.size blocks laws.some_bytes some) (ap (λ (bs : List ℕ). length bs) bytes ∙ all)
