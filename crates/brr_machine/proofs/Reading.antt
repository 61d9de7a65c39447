-- Reading a block and spelling it are each other's inverse.
use Rattle.std.proofs.Common.{◌≡◌, ℕ, suc, ◌+◌, ◌*◌, ◌/◌, ◌%◌, ◌<◌, ◌⊎◌, inl, inr, List, length, get_or, sym, ap, ◌∙◌, arith, true, false, nat_eq}
use Rattle.std.specs.Prelude.{All}
use Rattle.std.proofs.lemmas.Bool.{eq-eqb, ne_eqb}
use Rattle.std.proofs.lemmas.List.{ext_get_or}
use Rattle.brr_machine.specs.Spelling.{spelling, head_in, flags_in, code_in}
use Rattle.brr_machine.proofs.Pairs.{get_or-code_pairs, spelling_from_each}

-- the code at an even place is in the high half of its byte
pub code-even : (memory : List ℕ) (address k : ℕ) → code_in memory address (2 * k) ≡ get_or memory (address + 1 + k) 0 / 16
code-even memory address k =
    let even : nat_eq ((2 * k) % 2) 0 ≡ true = eq-eqb _ _ (omega arith) in
    let half : (2 * k) / 2 ≡ k = omega arith in
    rw even (ap (λ (q : ℕ). get_or memory (address + 1 + q) 0 / 16) half)

-- the code at an odd place is in the low half
pub code-odd : (memory : List ℕ) (address k : ℕ) → code_in memory address (2 * k + 1) ≡ get_or memory (address + 1 + k) 0 % 16
code-odd memory address k =
    let odd : nat_eq ((2 * k + 1) % 2) 0 ≡ false = ne_eqb _ _ (omega arith) in
    let half : (2 * k + 1) / 2 ≡ k = omega arith in
    rw odd (ap (λ (q : ℕ). get_or memory (address + 1 + q) 0 % 16) half)

two-halves : (byte high low : ℕ) → high ≡ byte / 16 → low ≡ byte % 16 → byte ≡ 16 * high + low
two-halves byte high low h l = omega arith

header-is : (byte head flags : ℕ) → head ≡ byte / 4 → flags ≡ byte % 4 → byte ≡ 4 * head + flags
header-is byte head flags h f = omega arith

-- the fields that were read spell the bytes
pub reads_spell : (bytes codes : List ℕ) (head flags : ℕ) → length codes ≡ 16 → length bytes ≡ 9 → head ≡ head_in bytes 0 → flags ≡ flags_in bytes 0
    → ((k : ℕ) → k < 16 → get_or codes k 0 ≡ code_in bytes 0 k) → bytes ≡ spelling head flags codes
reads_spell bytes codes head flags m n h f each =
    spelling_from_each head flags codes bytes m n (header-is (get_or bytes 0 0) head flags h f)
    (λ k small.
    let next : 0 + 1 + k ≡ k + 1 = omega arith in
    let byte = ap (λ (i : ℕ). get_or bytes i 0) next in
    let high = each (2 * k) (omega arith) ∙ code-even bytes 0 k in
    let low = each (2 * k + 1) (omega arith) ∙ code-odd bytes 0 k in
    sym byte ∙ two-halves (get_or bytes (0 + 1 + k) 0) (get_or codes (2 * k) 0) (get_or codes (2 * k + 1) 0) high low)

even-or-odd : (k : ℕ) → (k ≡ 2 * (k / 2)) ⊎ (k ≡ 2 * (k / 2) + 1)
even-or-odd k = grind arith

high-half : (byte high low : ℕ) → byte ≡ 16 * high + low → low < 16 → byte / 16 ≡ high
high-half byte high low e h = omega (arith, e)

low-half : (byte high low : ℕ) → byte ≡ 16 * high + low → low < 16 → byte % 16 ≡ low
low-half byte high low e h = omega (arith, e)

-- byte by byte: the codes that a spelled block holds
pub code-halves : (memory codes : List ℕ) (address k : ℕ) → ((q : ℕ) → q < 8 → get_or memory (address + 1 + q) 0 ≡ 16 * get_or codes (2 * q) 0 + get_or codes (2 * q + 1) 0)
    → ((i : ℕ) → i < 16 → get_or codes i 0 < 16) → k < 16 → code_in memory address k ≡ get_or codes k 0
code-halves memory codes address k pairs small h =
    let pair = pairs (k / 2) (omega arith) in
    let low = small (2 * (k / 2) + 1) (omega arith) in
    elim (even-or-odd k) [
      | inl even ↦ ap (code_in memory address) even ∙ code-even memory address (k / 2) ∙ high-half _ _ _ pair low ∙ ap (λ (i : ℕ). get_or codes i 0) (sym even)
      | inr odd ↦ ap (code_in memory address) odd ∙ code-odd memory address (k / 2) ∙ low-half _ _ _ pair low ∙ ap (λ (i : ℕ). get_or codes i 0) (sym odd)
    ]

-- a spelled block holds the codes that it spells
pub code_in-spelling : (head flags : ℕ) (codes : List ℕ) (k : ℕ) → length codes ≡ 16 → ((i : ℕ) → i < 16 → get_or codes i 0 < 16) → k < 16
    → code_in (spelling head flags codes) 0 k ≡ get_or codes k 0
code_in-spelling head flags codes k len small h =
    code-halves (spelling head flags codes) codes 0 k
    (λ q below. let next : 0 + 1 + q ≡ suc q = omega arith in
    ap (λ (i : ℕ). get_or (spelling head flags codes) i 0) next ∙ get_or-code_pairs codes q (omega (arith, len)))
    small h

head-only : (byte head flags : ℕ) → byte ≡ 4 * head + flags → flags < 4 → byte / 4 ≡ head
head-only byte head flags e h = omega (arith, e)

flags-only : (byte head flags : ℕ) → byte ≡ 4 * head + flags → flags < 4 → byte % 4 ≡ flags
flags-only byte head flags e h = omega (arith, e)

-- what spells the bytes is what was read
pub only_reads : (bytes codes : List ℕ) (head flags : ℕ) → length codes ≡ 16 → head ≡ head_in bytes 0 → flags ≡ flags_in bytes 0
    → ((k : ℕ) → k < 16 → get_or codes k 0 ≡ code_in bytes 0 k)
    → (head' flags' : ℕ) (codes' : List ℕ) → flags' < 4 → length codes' ≡ 16 → All (λ c. c < 16) codes' → bytes ≡ spelling head' flags' codes'
    → (head ≡ head') × (flags ≡ flags') × (codes ≡ codes')
only_reads bytes codes head flags len h f each head' flags' codes' small len' range is =
    let first : get_or bytes 0 0 ≡ 4 * head' + flags' = ap (λ (bs : List ℕ). get_or bs 0 0) is in (
      h ∙ head-only _ _ _ first small,
      f ∙ flags-only _ _ _ first small,
      ext_get_or 0 codes codes' (omega (arith, len, len'))
          (λ k below. let fits : k < 16 = omega (arith, below, len) in
          each k fits ∙ ap (λ (bs : List ℕ). code_in bs 0 k) is
          ∙ code_in-spelling head' flags' codes' k len' (λ i within. range i 0 (omega (arith, within, len'))) fits),
    )
