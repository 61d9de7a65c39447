-- Blocks are heard where they stand in a memory: what is read there is what the list of them says.
use Rattle.std.proofs.Common.{◌≡◌, ℕ, suc, ◌+◌, ◌*◌, ◌/◌, ◌%◌, ◌-◌, ◌^◌, ◌<◌, ◌≤◌, ℤ, List, length, get_or, arith, ap, sym, ◌∙◌, subst}
use Rattle.std.proofs.lemmas.List.FromFn.{get_or-map-range_with_len}
use Rattle.std.proofs.Math.Nat.{mul-le-mul}
use Rattle.adpcm_nums.specs.Sample.{AreSamples}
use Rattle.machine_core.specs.declared.state.State.{State}
use Rattle.machine_core.specs.Decoder.{Decoder, miss, start}
use Rattle.machine_core.specs.Blocks.{Blocks, IsInRange, head_at, symbol_at, step_at}
use Rattle.machine_core.specs.Rules.{Rules, IsMachine}
use Rattle.machine_core.specs.Sums.{sum_after}
use Rattle.machine_core.proofs.Places.{block-below}
use Rattle.machine_core.proofs.States.{sum-small}
use Rattle.player_model.specs.Format.{Format}
use Rattle.player_model.specs.Stored.{blocks_in}

-- block b of so many lies in the memory
pub room : (start size blocks b len own : ℕ) → b < blocks → start + size * blocks ≤ len → own ≡ size → start + own * b + size ≤ len
room start size blocks b len own below fits e =
    let more : size * suc b ≤ size * blocks = mul-le-mul (omega arith) below in
    let same : own * b ≡ size * b = ap (λ z. z * b) e in
    omega (arith, more, fits, same)

pub block-of : (i samples n blocks : ℕ) → samples ≡ n → i < blocks * n → i / samples < blocks
block-of i samples n blocks e within = subst (λ (z : ℕ). i / z < blocks) (sym e) (block-below i n blocks within)

-- its head
pub head-here : (d : Decoder) (f : Format) (memory : List ℕ) (start blocks b address : ℕ) → b < blocks → address ≡ start + f.size * b
    → f.head_in memory address ≡ get_or (blocks_in d f memory start blocks).heads b 0
head-here d f memory start blocks b address below e =
    ap (f.head_in memory) e ∙ sym (get_or-map-range_with_len (λ k. f.head_in memory (start + f.size * k)) 0 blocks b b 0 below (omega arith))

-- and a symbol
pub symbol-here : (d : Decoder) (f : Format) (memory : List ℕ) (start blocks i address place : ℕ) → i < blocks * d.samples → address ≡ start + f.size * (i / d.samples) → place ≡ i % d.samples
    → f.symbol_in memory address place ≡ symbol_at (blocks_in d f memory start blocks) i
symbol-here d f memory start blocks i address place within e p =
    ap (λ z. f.symbol_in memory z place) e ∙ (ap (f.symbol_in memory (start + f.size * (i / d.samples))) p
    ∙ sym (get_or-map-range_with_len (λ k. f.symbol_in memory (start + f.size * (k / d.samples)) (k % d.samples)) 0 (blocks * d.samples) i i 0 within (omega arith)))

-- where a sample's block stands, from the numbers that the code has
pub address-is : (start own size i samples n : ℕ) → own ≡ size → samples ≡ n → start + own * (i / samples) ≡ start + size * (i / n)
address-is start own size i samples n p q = ap (λ z. start + z * (i / samples)) p ∙ ap (λ z. start + size * (i / z)) q

-- what is read for a sample
pub record IsRead (d : Decoder) (f : Format) (memory : List ℕ) (start blocks i own samples head symbol : ℕ) : Type 0 where
  pub within : i < blocks * d.samples
  pub size_is : own ≡ f.size
  pub samples_are : samples ≡ d.samples
  pub head_is : head ≡ f.head_in memory (start + own * (i / samples))
  pub symbol_is : symbol ≡ f.symbol_in memory (start + own * (i / samples)) (i % samples)

pub read-head : (d : Decoder) (f : Format) (memory : List ℕ) (start blocks i own samples head symbol : ℕ) → IsRead d f memory start blocks i own samples head symbol
    → head ≡ head_at d (blocks_in d f memory start blocks) i
read-head d f memory start blocks i own samples head symbol r =
    r.head_is ∙ head-here d f memory start blocks (i / d.samples) (start + own * (i / samples)) (block-below i d.samples blocks r.within) (address-is start own f.size i samples d.samples r.size_is r.samples_are)

pub read-symbol : (d : Decoder) (f : Format) (memory : List ℕ) (start blocks i own samples head symbol : ℕ) → IsRead d f memory start blocks i own samples head symbol
    → symbol ≡ symbol_at (blocks_in d f memory start blocks) i
read-symbol d f memory start blocks i own samples head symbol r =
    let place : i % samples ≡ i % d.samples = ap (λ z. i % z) r.samples_are in
    r.symbol_is ∙ symbol-here d f memory start blocks i (start + own * (i / samples)) (i % samples) r.within (address-is start own f.size i samples d.samples r.size_is r.samples_are) place

-- the step of what is read is that of the list
pub read-step : (d : Decoder) (f : Format) (memory : List ℕ) (start blocks i own samples head symbol : ℕ) (from after : State) → IsRead d f memory start blocks i own samples head symbol
    → after ≡ d.step head (i % samples) symbol from → after ≡ step_at d (blocks_in d f memory start blocks) i from
read-step d f memory start blocks i own samples head symbol from after r e =
    let list = blocks_in d f memory start blocks in
    e ∙ (ap (λ z. d.step z (i % samples) symbol from) (read-head d f memory start blocks i own samples head symbol r)
    ∙ (ap (λ z. d.step (head_at d list i) (i % z) symbol from) r.samples_are ∙ ap (λ z. d.step (head_at d list i) (i % d.samples) z from) (read-symbol d f memory start blocks i own samples head symbol r)))

-- what is left to hear begins with the next sample
pub heard-on : (d : Decoder) (targets : List ℤ) (list : Blocks) (at next : State) (i size sum cost whole : ℕ) → i < size → next ≡ step_at d list i at → cost ≡ miss d targets i next
    → sum + sum_after d (miss d targets) list at i (size - i) ≡ whole → (sum + cost) + sum_after d (miss d targets) list next (i + 1) (size - (i + 1)) ≡ whole
heard-on d targets list at next i size sum cost whole within e p left =
    let one : size - i ≡ suc (size - (i + 1)) = omega arith in
    let more : sum_after d (miss d targets) list at i (size - i) ≡ miss d targets i (step_at d list i at) + sum_after d (miss d targets) list (step_at d list i at) (suc i) (size - (i + 1)) =
    ap (sum_after d (miss d targets) list at i) one in
    let here : cost ≡ miss d targets i (step_at d list i at) = p ∙ ap (miss d targets i) e in
    let later : sum_after d (miss d targets) list next (i + 1) (size - (i + 1)) ≡ sum_after d (miss d targets) list (step_at d list i at) (suc i) (size - (i + 1)) =
    ap (λ z. sum_after d (miss d targets) list z (i + 1) (size - (i + 1))) e ∙ ap (λ z. sum_after d (miss d targets) list (step_at d list i at) z (size - (i + 1))) (omega arith) in
    omega (arith, left, more, here, later)

-- what was heard so far costs no more than all
pub heard-fits : (r : Rules) → IsMachine r → (blocks : ℕ) (list : Blocks) (targets : List ℤ) (at next : State) (i sum cost : ℕ) → IsInRange r.decoder blocks list → length targets ≡ blocks * r.decoder.samples
    → AreSamples targets → length targets ≤ 262144 → i < length targets → next ≡ step_at r.decoder list i at → cost ≡ miss r.decoder targets i next
    → sum + sum_after r.decoder (miss r.decoder targets) list at i (length targets - i) ≡ sum_after r.decoder (miss r.decoder targets) list start 0 (length targets) → sum + cost < 2 ^ 63
heard-fits r laws blocks list targets at next i sum cost fits count range few within e p left =
    let on = heard-on r.decoder targets list at next i (length targets) sum cost (sum_after r.decoder (miss r.decoder targets) list start 0 (length targets)) within e p left in
    let small = sum-small r laws blocks list targets fits count range start laws.start_fits 0 (length targets) (omega (arith, count)) in
    omega (arith, on, small, few)
