-- Some list of blocks is legal, so no bound is above what such a list can cost.
use Rattle.std.proofs.Common.{◌≡◌, ℕ, ◌*◌, ◌%◌, ◌^◌, ◌<◌, ◌≤◌, ℤ, Bool, List, length, map, sym, ap, subst, arith, IsTrue}
use Rattle.std.specs.List.{range_with_len}
use Rattle.std.proofs.lemmas.List.FromFn.{length-map-range_with_len, get_or-map-range_with_len}
use Rattle.std.proofs.Math.Nat.{mod-lt}
use Rattle.adpcm_nums.specs.Sample.{AreSamples}
use Rattle.machine_core.specs.Blocks.{Blocks, IsLegal, rule_of, first_only}
use Rattle.machine_core.specs.Decoder.{start}
use Rattle.machine_core.specs.Rules.{Rules, IsMachine}
use Rattle.machine_core.specs.Sums.{sum_of}
use Rattle.machine_core.proofs.States.{sum-small}

-- a head that the rule of a block allows
abbrev pub head_of : (r : Rules) → IsMachine r → (fixed : ℕ → Bool) → ℕ → ℕ
head_of r laws fixed b = (laws.some_head (rule_of fixed b)).0

-- such heads, and the first symbol at each place
abbrev pub plainest : (r : Rules) → IsMachine r → (fixed : ℕ → Bool) → ℕ → Blocks
plainest r laws fixed blocks = record { heads = map (head_of r laws fixed) (range_with_len 0 blocks); symbols = map (λ i. 0) (range_with_len 0 (blocks * r.decoder.samples)) }

pub plainest-legal : (r : Rules) (laws : IsMachine r) (fixed : ℕ → Bool) (blocks : ℕ) → IsLegal r.decoder blocks fixed (plainest r laws fixed blocks)
plainest-legal r laws fixed blocks = record {
  in_range = record {
    head_count = length-map-range_with_len (head_of r laws fixed) 0 blocks;
    symbol_count = length-map-range_with_len _ 0 (blocks * r.decoder.samples);
    heads_fit = λ b below. subst (λ (z : ℕ). z < r.decoder.heads) (sym (get_or-map-range_with_len (head_of r laws fixed) 0 blocks b b 0 below (omega arith))) (laws.some_head (rule_of fixed b)).1;
    symbols_fit = λ i within. subst (λ (z : ℕ). z < r.decoder.symbols (i % r.decoder.samples)) (sym (get_or-map-range_with_len (λ j. 0) 0 (blocks * r.decoder.samples) i i 0 within (omega arith)))
        (laws.some_symbols (i % r.decoder.samples) (mod-lt i laws.some_samples));
  };
  obeys = record {
    allowed = λ b below. subst (λ (z : ℕ). IsTrue (r.decoder.allows z (rule_of fixed b))) (sym (get_or-map-range_with_len (head_of r laws fixed) 0 blocks b b 0 below (omega arith))) (laws.some_head (rule_of fixed b)).2;
  };
}

-- so what is at most the error of every legal list is not large
pub bound-small : (r : Rules) (laws : IsMachine r) (blocks v : ℕ) (targets : List ℤ) → length targets ≡ blocks * r.decoder.samples → AreSamples targets
    → ((list : Blocks) → IsLegal r.decoder blocks first_only list → v ≤ sum_of r.decoder list targets blocks) → v ≤ length targets * 2 ^ 32
bound-small r laws blocks v targets count range below =
    let list = plainest r laws first_only blocks in
    let legal = plainest-legal r laws first_only blocks in
    let here = below list legal in
    let most = sum-small r laws blocks list targets legal.in_range count range start laws.start_fits 0 (blocks * r.decoder.samples) (omega arith) in
    let same : blocks * r.decoder.samples * 2 ^ 32 ≡ length targets * 2 ^ 32 = ap (λ z. z * 2 ^ 32) (sym count) in
    omega (arith, here, most, same)
