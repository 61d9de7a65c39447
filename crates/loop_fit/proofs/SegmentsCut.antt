-- The segments of a sample cut it at the blocks that must forget what was played before them.
use Rattle.std.proofs.Common.{◌≡◌, ℕ, zero, suc, ◌+◌, ◌-◌, ◌<◌, arith, refl, ap, sym, ◌∙◌, subst, List, replicate, Option, Some, None}
use Rattle.std.specs.Prelude.{IfSome}
use Rattle.machine_core.specs.declared.state.Kind.{Kind}
use Rattle.machine_core.specs.declared.state.Kind.TheVariants.{Brr, Spu, Ima}
use Rattle.machine_core.specs.Blocks.{is_first, every_block, must_forget}
use Rattle.machine_core.specs.Segments.{IsSegment, AreSegments}
use Rattle.machine_core.proofs.PartLaws.{whole-segment, front-segment, loop-segment, each-segment}
use Rattle.loop_fit.specs.Segments.{loop_segments, segments_of}

-- the blocks before the loop and those of the loop
loop-cut : (blocks : ℕ) (loop_block : Option ℕ) → 0 < blocks → IfSome loop_block (λ l. l < blocks) → AreSegments (is_first loop_block) 0 (loop_segments blocks loop_block) blocks
loop-cut blocks None some within = (some, whole-segment blocks, omega arith)
loop-cut blocks (Some zero) some within = (some, loop-segment 0 blocks, omega arith)
loop-cut blocks (Some (suc l)) some within =
    let behind : 0 < blocks - suc l = omega (arith, within) in
    let from : suc l ≡ 0 + suc l = omega arith in
    let segment : IsSegment (is_first (Some (suc l))) (0 + suc l) (blocks - suc l) = subst (λ (b : ℕ). IsSegment (is_first (Some (suc l))) b (blocks - suc l)) from (loop-segment (suc l) (blocks - suc l)) in
    let ends : 0 + suc l + (blocks - suc l) ≡ blocks = omega (arith, within) in
    (omega arith, front-segment (suc l), (behind, segment, ends))

-- each block alone
each-cut : (b n blocks : ℕ) → b + n ≡ blocks → AreSegments every_block b (replicate n 1) blocks
each-cut b zero blocks e = omega (arith, e)
each-cut b (suc n) blocks e = (omega arith, each-segment every_block b (λ k. refl), each-cut (b + 1) n blocks (omega (arith, e)))

pub segments-cut : (kind : Kind) (blocks : ℕ) (loop_block : Option ℕ) → 0 < blocks → IfSome loop_block (λ l. l < blocks)
    → AreSegments (must_forget kind loop_block) 0 (segments_of kind blocks loop_block) blocks
segments-cut Brr blocks loop_block some within = loop-cut blocks loop_block some within
segments-cut Spu blocks loop_block some within = loop-cut blocks loop_block some within
segments-cut Ima blocks loop_block some within = each-cut 0 blocks blocks (omega arith)

-- the same of the list that was made for a kind
pub cut-by : (kind known : Kind) (blocks : ℕ) (loop_block : Option ℕ) (list : List ℕ) → kind ≡ known → list ≡ segments_of known blocks loop_block
    → 0 < blocks → IfSome loop_block (λ l. l < blocks) → AreSegments (must_forget kind loop_block) 0 list blocks
cut-by kind known blocks loop_block list e is some within =
    subst (λ (z : List ℕ). AreSegments (must_forget kind loop_block) 0 z blocks) (sym (is ∙ ap (λ k. segments_of k blocks loop_block) (sym e))) (segments-cut kind blocks loop_block some within)
