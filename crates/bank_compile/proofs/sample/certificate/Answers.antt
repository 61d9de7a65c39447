use Rattle.std.proofs.Common.{◌≡◌, sym, subst, ◌∙◌, ℕ, List}
use Rattle.std.specs.Prelude.{slice_get, Some}
use Rattle.bound_cert.specs.Content.{Plain}
use Rattle.bound_cert.specs.Small.{SmallSegment}
use Rattle.bank_compile.proofs.sample.certificate.Goals as goal

pub write_cert-requires-clause-each : goal.write_cert-requires-clause-each
write_cert-requires-clause-each c =
    let certs = c.as_slice.ensures.value ∙ c.in_ok-certs.ensures in
    subst (λ (xs : List Plain). (k : ℕ) (y : Plain) → slice_get xs k ≡ Some y → SmallSegment y) (sym certs) c.requires.small
