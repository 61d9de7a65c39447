use Rattle.std.proofs.Common.{arith, List, [], ◌∷◌}
use Rattle.machine_core.specs.declared.state.Kind.TheVariants.{Brr}
use Rattle.bound_cert.specs.Content.{Plain}
use Rattle.bound_cert.specs.Spelling.{AreWritable}
use Rattle.search_tests.proofs.searches.written.Goals as goal

pub write_cert-requires-clause-each : goal.write_cert-requires-clause-each
write_cert-requires-clause-each c =
    let one : List Plain = c.args.cert ∷ [] in
    let all : AreWritable Brr 16 one = (c.requires, tt) in
    c.writable_is_small.ensures Brr 16 one (omega arith) all
