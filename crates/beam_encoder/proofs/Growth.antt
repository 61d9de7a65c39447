-- How the walked list grows block by block, and that it is legal.
use Rattle.std.proofs.Common.{◌≡◌, ℕ, zero, suc, ◌+◌, ◌*◌, ◌/◌, ◌%◌, ◌^◌, ◌<◌, ◌≤◌, refl, sym, subst, ap, ◌∙◌, arith, add-one, ℤ, IsTrue, List, [], ◌++◌, get_or, map}
use Rattle.std.specs.List.{range_with_len}
use Rattle.std.proofs.lemmas.List.Elements.{All-take, All-drop}
use Rattle.std.proofs.lemmas.List.FromFn.{length-map-range_with_len}
use Rattle.std.proofs.Math.Nat.{mod-lt}
use Rattle.std.proofs.lemmas.Nat.{div-add-mod'}
use Rattle.adpcm_nums.specs.Sample.{IsSample}
use Rattle.machine_core.specs.declared.state.State.{State}
use Rattle.machine_core.specs.Decoder.{Decoder, start}
use Rattle.machine_core.specs.Blocks.{Blocks, IsLegal, first_only}
use Rattle.machine_core.specs.Sums.{sum_of}
use Rattle.machine_core.specs.Rules.{Rules, IsMachine}
use Rattle.machine_core.proofs.Places.{block-below, block-ends}
use Rattle.machine_core.proofs.Lists.{length-part}
use Rattle.beam_encoder.specs.Near.{IsBlock, AreTargets, near_state, near_symbol, near_sum, targets_in}
use Rattle.beam_encoder.specs.Walk.{AreHeads, walk_state, walk_sum, walk_symbol, walk_list}
use Rattle.beam_encoder.proofs.NearLaws.{nearest-fits, near_state-fits, near_sum-small}
use Rattle.beam_encoder.proofs.WalkLaws.{symbol-in, sum-before}
use Rattle.beam_encoder.proofs.Rows.{rows-more}

-- the targets of a block are a block's
pub block-is : (d : Decoder) (targets : List ℤ) (blocks b : ℕ) → AreTargets d blocks targets → b < blocks → IsBlock d (targets_in d targets b)
block-is d targets blocks b are below =
    let ends = block-ends b d.samples blocks below in
    let count = are.count in
    let few = are.few in
    let size = length-part targets (b * d.samples) d.samples (omega arith) in record {
      count = size;
      few = omega arith;
      range = All-take IsSample _ _ (All-drop IsSample _ _ are.range);
    }

-- the state before each block is a state
pub walk_state-fits : (r : Rules) → IsMachine r → (heads : List ℕ) (targets : List ℤ) (blocks b : ℕ) → AreHeads r.decoder blocks heads → b ≤ blocks
    → IsTrue (r.decoder.is_state (walk_state r.decoder heads targets b))
unfolding walk_state
walk_state-fits r laws heads targets blocks zero are below = laws.start_fits
walk_state-fits r laws heads targets blocks (suc b) are below =
    near_state-fits r laws _ (targets_in r.decoder targets b) (walk_state r.decoder heads targets b) r.decoder.samples
    (are.fit b (omega arith)) (omega arith) (walk_state-fits r laws heads targets blocks b are (omega arith))

-- what the first b blocks cost is small
pub walk_sum-small : (r : Rules) → IsMachine r → (heads : List ℕ) (targets : List ℤ) (n blocks b : ℕ) → AreHeads r.decoder n heads → AreTargets r.decoder blocks targets → b ≤ n → n ≤ blocks
    → walk_sum r.decoder heads targets b ≤ b * r.decoder.samples * 2 ^ 32
unfolding walk_sum
walk_sum-small r laws heads targets n blocks zero hs are below within = omega arith
walk_sum-small r laws heads targets n blocks (suc b) hs are below within =
    let before = walk_sum-small r laws heads targets n blocks b hs are (omega arith) within in
    let from = walk_state r.decoder heads targets b in
    let here = near_sum-small r laws (get_or heads b 0) (targets_in r.decoder targets b) from r.decoder.samples
    (hs.fit b (omega arith)) (omega arith) (block-is r.decoder targets blocks b are (omega arith)) (walk_state-fits r laws heads targets n b hs (omega arith)) in
    omega (arith, before, here)

-- so the list is legal
pub walk_list-legal : (r : Rules) → IsMachine r → (heads : List ℕ) (targets : List ℤ) (blocks : ℕ) → AreHeads r.decoder blocks heads
    → IsLegal r.decoder blocks first_only (walk_list r.decoder heads targets blocks)
unfolding walk_list walk_symbol near_symbol
walk_list-legal r laws heads targets blocks are = record {
  in_range = record {
    head_count = are.count;
    symbol_count = length-map-range_with_len _ 0 (blocks * r.decoder.samples);
    heads_fit = are.fit;
    symbols_fit = λ i within.
        (let below = block-below i r.decoder.samples blocks within in
        let at = mod-lt i laws.some_samples in
        let e : i ≡ i / r.decoder.samples * r.decoder.samples + i % r.decoder.samples = sym (div-add-mod' i r.decoder.samples) in
        subst (λ (z : ℕ). z < r.decoder.symbols (i % r.decoder.samples)) (sym (symbol-in r.decoder heads targets blocks (i / r.decoder.samples) (i % r.decoder.samples) i e below at))
        (nearest-fits r laws _ (i % r.decoder.samples) _ _ at));
  };
  obeys = record { allowed = are.allowed };
}

-- what the first b blocks have led to
pub record IsWalk (d : Decoder) (heads : List ℕ) (targets : List ℤ) (b : ℕ) (symbols : List ℕ) (at : State) (cost : ℕ) : Type 0 where
  pub symbols_are : symbols ≡ map (λ i. walk_symbol d heads targets (i / d.samples) (i % d.samples)) (range_with_len 0 (b * d.samples))
  pub state : at ≡ walk_state d heads targets b
  pub sum : cost ≡ walk_sum d heads targets b

-- no block so far
pub walk_none : (d : Decoder) (heads : List ℕ) (targets : List ℤ) → IsWalk d heads targets 0 [] start 0
unfolding walk_state walk_sum
walk_none d heads targets = record {
  symbols_are = let none : 0 ≡ 0 * d.samples = omega arith in ap (λ k. map (λ i. walk_symbol d heads targets (i / d.samples) (i % d.samples)) (range_with_len 0 k)) none;
  state = refl;
  sum = refl;
}

-- one more block
pub walk_more : (d : Decoder) (heads : List ℕ) (targets : List ℤ) (b : ℕ) (symbols more_symbols : List ℕ) (block : List ℤ) (at next : State) (sum head cost : ℕ)
    → IsWalk d heads targets b symbols at sum → block ≡ targets_in d targets b → head ≡ get_or heads b 0
    → more_symbols ≡ symbols ++ map (near_symbol d head block at) (range_with_len 0 d.samples)
    → next ≡ near_state d head block at d.samples → cost ≡ near_sum d head block at d.samples → IsWalk d heads targets (b + 1) more_symbols next (sum + cost)
unfolding walk_state walk_sum walk_symbol
walk_more d heads targets b symbols more_symbols block at next sum head cost walk here is_head added after costs =
    let row : map (near_symbol d head block at) (range_with_len 0 d.samples) ≡ map (walk_symbol d heads targets b) (range_with_len 0 d.samples) = rw (is_head, here, walk.state) refl in
    let next_row : b * d.samples + d.samples ≡ (b + 1) * d.samples = omega arith in
    record {
      symbols_are = added ∙ (ap (λ xs. xs ++ map (near_symbol d head block at) (range_with_len 0 d.samples)) walk.symbols_are
          ∙ (ap (λ xs. map (λ i. walk_symbol d heads targets (i / d.samples) (i % d.samples)) (range_with_len 0 (b * d.samples)) ++ xs) row
          ∙ (rows-more (walk_symbol d heads targets) b d.samples d.samples (omega arith)
          ∙ ap (λ k. map (λ i. walk_symbol d heads targets (i / d.samples) (i % d.samples)) (range_with_len 0 k)) next_row)));
      state = rw (add-one, after, is_head, here, walk.state) refl;
      sum = rw (add-one, walk.sum, costs, is_head, here, walk.state) refl;
    }

-- all blocks are the list
pub walk-all : (d : Decoder) (heads : List ℕ) (targets : List ℤ) (b blocks : ℕ) (symbols : List ℕ) (at : State) (cost : ℕ)
    → IsWalk d heads targets b symbols at cost → b ≡ blocks → (record { heads = heads; symbols = symbols }) ≡ walk_list d heads targets blocks
unfolding walk_list
walk-all d heads targets b blocks symbols at cost walk all =
    let listed : List ℕ → Blocks = λ ss. record { heads = heads; symbols = ss } in
    ap listed walk.symbols_are ∙ ap (λ n. listed (map (λ i. walk_symbol d heads targets (i / d.samples) (i % d.samples)) (range_with_len 0 (n * d.samples)))) all

-- and their cost is its error
pub walk-sum : (d : Decoder) (heads : List ℕ) (targets : List ℤ) (blocks : ℕ) → sum_of d (walk_list d heads targets blocks) targets blocks ≡ walk_sum d heads targets blocks
walk-sum d heads targets blocks = sum-before d heads targets blocks blocks (omega arith)
