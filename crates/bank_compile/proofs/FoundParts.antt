-- What is found for segments one after another.
use Rattle.std.proofs.Common.{◌≡◌, ℕ, suc, ◌+◌, ◌<◌, ◌≤◌, ℤ, List, [], ◌∷◌, ◌++◌, take, length, get_or, sum, sym, ap, ◌∙◌, subst, arith}
use Rattle.std.specs.List.{sum_by}
use Rattle.std.proofs.Math.Seq.{take-suc}
use Rattle.std.proofs.lemmas.List.Sums.{sum_by-cons, sum_by-append}
use Rattle.machine_core.specs.Rules.{Rules}
use Rattle.machine_core.specs.Segments.{part_targets}
use Rattle.beam_encoder.specs.Beam.{beam_sum}
use Rattle.branch_bound.specs.declared.top.Found.{Found}
use Rattle.manifest_reader.specs.declared.effort.Effort.{Effort}
use Rattle.bank_compile.specs.Segment.{IsFound}
use Rattle.bank_compile.specs.Sample.{AreFound, beam_sums}

pub found-more : (r : Rules) (effort : Effort) (share : ℕ) (targets : List ℤ) (b : ℕ) (counts : List ℕ) (fs : List Found) (end count : ℕ) (f : Found) → AreFound r effort share targets b counts fs
    → end ≡ b + sum counts → IsFound r effort share (part_targets r.decoder targets end count) count f → AreFound r effort share targets b (counts ++ count ∷ []) (fs ++ f ∷ [])
found-more r effort share targets b [] [] end count f are e is =
    let same : end ≡ b = omega (arith, e) in
    (subst (λ (n : ℕ). IsFound r effort share (part_targets r.decoder targets n count) count f) same is, tt)
found-more r effort share targets b [] (g ∷ gs) end count f are e is = absurd are
found-more r effort share targets b (c ∷ cs) [] end count f are e is = absurd are
found-more r effort share targets b (c ∷ cs) (g ∷ gs) end count f are e is =
    let later : end ≡ b + c + sum cs = omega (arith, e, sum_by-cons (λ n. n) c cs) in
    (are.0, found-more r effort share targets (b + c) cs gs end count f are.1 later is)

pub beams-more : (r : Rules) (width : ℕ) (targets : List ℤ) (b : ℕ) (counts : List ℕ) (end count : ℕ) → end ≡ b + sum counts
    → beam_sums r width targets b (counts ++ count ∷ []) ≡ beam_sums r width targets b counts + beam_sum r.decoder width (part_targets r.decoder targets end count)
beams-more r width targets b [] end count e =
    let same : end ≡ b = omega (arith, e) in
    let moved = ap (λ n. beam_sum r.decoder width (part_targets r.decoder targets n count)) same in
    omega (arith, moved)
beams-more r width targets b (c ∷ cs) end count e =
    let later : end ≡ b + c + sum cs = omega (arith, e, sum_by-cons (λ n. n) c cs) in
    let more = beams-more r width targets (b + c) cs end count later in
    omega (arith, more)

-- what was found for the first k segments
pub record AreFoundFirst (r : Rules) (effort : Effort) (share : ℕ) (targets : List ℤ) (counts : List ℕ) (k first : ℕ) (fs : List Found) : Type 0 where
  pub first_is : first ≡ sum (take k counts)
  pub found : AreFound r effort share targets 0 (take k counts) fs
  pub near_beam : sum_by (λ f. f.choice.sum) fs ≤ beam_sums r effort.beam targets 0 (take k counts)

-- and for one more
pub first-more : (r : Rules) (effort : Effort) (share : ℕ) (targets : List ℤ) (counts : List ℕ) (k first : ℕ) (fs : List Found) (f : Found) → AreFoundFirst r effort share targets counts k first fs → k < length counts
    → IsFound r effort share (part_targets r.decoder targets first (get_or counts k 0)) (get_or counts k 0) f
    → f.choice.sum ≤ beam_sum r.decoder effort.beam (part_targets r.decoder targets first (get_or counts k 0))
    → AreFoundFirst r effort share targets counts (k + 1) (first + get_or counts k 0) (fs ++ f ∷ [])
first-more r effort share targets counts k first fs f are below is near =
    let count = get_or counts k 0 in
    let more : take (k + 1) counts ≡ take k counts ++ count ∷ [] = (let next : k + 1 ≡ suc k = omega arith in ap (λ n. take n counts) next ∙ take-suc counts k 0 below) in
    let end : first ≡ 0 + sum (take k counts) = omega (arith, are.first_is) in
    let sums = sum_by-append (λ n. n) (take k counts) (count ∷ []) in
    let totals = sum_by-append (λ (g : Found). g.choice.sum) fs (f ∷ []) in
    let beams = beams-more r effort.beam targets 0 (take k counts) first count end in
    let before = are.near_beam in
    let sum_is : first + count ≡ sum (take k counts ++ count ∷ []) = omega (arith, end, sums) in
    let within : sum_by (λ (g : Found). g.choice.sum) (fs ++ f ∷ []) ≤ beam_sums r effort.beam targets 0 (take k counts ++ count ∷ []) = omega (arith, totals, beams, before, near) in
    record {
      first_is = sum_is ∙ ap (λ (cs : List ℕ). sum cs) (sym more);
      found = subst (λ (cs : List ℕ). AreFound r effort share targets 0 cs (fs ++ f ∷ [])) (sym more) (found-more r effort share targets 0 (take k counts) fs first count f are.found end is);
      near_beam = subst (λ (cs : List ℕ). sum_by (λ (g : Found). g.choice.sum) (fs ++ f ∷ []) ≤ beam_sums r effort.beam targets 0 cs) (sym more) within;
    }

-- as a loop goes on
pub first-more-at : (r : Rules) (effort : Effort) (share : ℕ) (targets : List ℤ) (counts : List ℕ) (k first : ℕ) (fs later : List Found) (f : Found) → AreFoundFirst r effort share targets counts k first fs → k < length counts
    → IsFound r effort share (part_targets r.decoder targets first (get_or counts k 0)) (get_or counts k 0) f
    → f.choice.sum ≤ beam_sum r.decoder effort.beam (part_targets r.decoder targets first (get_or counts k 0)) → later ≡ fs ++ f ∷ []
    → AreFoundFirst r effort share targets counts (k + 1) (first + get_or counts k 0) later
first-more-at r effort share targets counts k first fs later f are below is near e =
    subst (λ (gs : List Found). AreFoundFirst r effort share targets counts (k + 1) (first + get_or counts k 0) gs) (sym e) (first-more r effort share targets counts k first fs f are below is near)
