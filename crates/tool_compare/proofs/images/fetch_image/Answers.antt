use Rattle.std.proofs.Common.{ℕ, List, length, sym, ap, subst}
use Rattle.machine_core.specs.declared.state.Kind.{Kind}
use Rattle.manifest_reader.specs.declared.manifest.SampleEntry.{SampleEntry}
use Rattle.bank_check.specs.Stored.{bank_image}
use Rattle.manifest_reader.specs.Meaning.{content_of}
use Rattle.command_plan.specs.Read.{fetched_for, Reads}
use Rattle.command_faults.specs.declared.status.Status.TheVariants.{Input}
use Rattle.tool_compare.specs.Banks.{image_by}
use Rattle.command_plan.specs.Front.{front_in, or_told}
use Rattle.tool_compare.proofs.images.fetch_image.Goals as goal

pub returns-in-Brr-clause-told : goal.returns-in-Brr-clause-told
returns-in-Brr-clause-told g c = λ files told.
    let m = content_of c.args.manifest.now in
    let a = g.H.Host.world c.args.host.now in
    let b = g.H.Host.world c.fetch_bank.new.host in
    let h = c.fetch_bank.ensures.told files told in
    let named = subst (λ (n : List ℕ). Reads (λ i. i) (fetched_for n (or_told (λ f. Input n f) (bank_image (length c.as_slice.result.now) (front_in files n 8388608)))) a b c.fetch_bank.result) c.as_str.ensures h in
    let counted = subst (λ (k : ℕ). Reads (λ i. i) (fetched_for m.bank (or_told (λ f. Input m.bank f) (bank_image k (front_in files m.bank 8388608)))) a b c.fetch_bank.result) (ap (λ (xs : List SampleEntry). length xs) c.as_slice.ensures.value) named in
    subst (λ (k : Kind). Reads (λ i. i) (image_by k files m) a b c.fetch_bank.result) (sym c.in-Brr.is) counted
