use Rattle.std.proofs.Common.{◌≡◌, Some, true, false, sym, ap, ◌∙◌}
use Rattle.std.specs.String.{string_bytes}
use Rattle.std.specs.Str.{bytes_eq}
use Rattle.std.specs.Ordering.{nat_cmp}
use Rattle.std.specs.Cmp.Lexicographic.{slice_cmp}
use Rattle.std.specs.FinMap.{find}
use Rattle.std.specs.VecDeque.Iter.{deque_iter_rest}
use Rattle.host_files.specs.Memory.{entries_of}
use Rattle.host_files.proofs.Finds.{find_here, find_later}
use Rattle.host_files.proofs.steady.newest.Goals as goal

pub returns-then-eq : goal.returns-then-eq
returns-then-eq c =
    let same : bytes_eq (string_bytes c.in-Some.field-0.now.0) c.args.name.now ≡ true = cc (c.if-eq.ensures, c.as_str.ensures.value) in
    ap Some c.as_slice.ensures.value
    ∙ sym (c.loop-held.invariant ∙ ap (λ ws. find (slice_cmp nat_cmp) c.args.name.now (entries_of ws)) c.in-Some.ensures.steps ∙ find_here c.args.name.now (string_bytes c.in-Some.field-0.now.0) c.in-Some.field-0.now.1.items (entries_of (deque_iter_rest c.next.new.self)) same)

pub loop-held-preserved : goal.loop-held-preserved
loop-held-preserved c =
    let other : bytes_eq (string_bytes c.in-Some.field-0.now.0) c.args.name.now ≡ false = cc (c.if-eq.ensures, c.as_str.ensures.value) in
    c.loop-held.invariant ∙ ap (λ ws. find (slice_cmp nat_cmp) c.args.name.now (entries_of ws)) c.in-Some.ensures.steps ∙ find_later c.args.name.now (string_bytes c.in-Some.field-0.now.0) c.in-Some.field-0.now.1.items (entries_of (deque_iter_rest c.next.new.self)) other
