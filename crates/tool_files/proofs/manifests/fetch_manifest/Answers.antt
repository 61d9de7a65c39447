use Rattle.std.proofs.Common.{◌≡◌, ◌∙◌, subst, List, ℕ}
use Rattle.adpcm_nums.specs.Outcome.{Gives}
use Rattle.manifest_reader.specs.Meaning.{content_of}
use Rattle.command_faults.specs.declared.status.Status.TheVariants.{Memory}
use Rattle.command_plan.specs.Front.{front_in}
use Rattle.tool_files.specs.Source.{manifest_in}
use Rattle.command_plan.proofs.ReadOn.{fetched_reads}
use Rattle.command_plan.proofs.Telling.{is_front}
use Rattle.tool_files.proofs.SourceSteps.{manifest-declines}
use Rattle.tool_files.proofs.manifests.fetch_manifest.Goals as goal

pub returns-clause-told : goal.returns-clause-told
returns-clause-told g c = λ files told.
    let got = c.in_ok-bytes.ensures.told files told in
    let front : c.as_slice.result.now ≡ front_in files c.args.name.now 65536 = c.as_slice.ensures.value ∙ is_front files c.args.name.now c.in_ok-bytes.bytes.items 65536 got.1 in
    fetched_reads c.args.name.now content_of c.manifest_in.result (manifest_in c.args.name.now (front_in files c.args.name.now 65536)) (g.H.Host.world c.args.host.now) (g.H.Host.world c.fetch_front.new.host)
    got.0 (manifest-declines c.args.name.now _)
    (subst (λ (bs : List ℕ). Gives Memory content_of c.manifest_in.result (manifest_in c.args.name.now bs)) front c.manifest_in.ensures.value)
