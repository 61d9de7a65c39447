use Rattle.std.proofs.Common.{◌≡◌, ℕ, List, ap, subst, ◌∙◌, Ok, take}
use Rattle.adpcm_nums.specs.Outcome.{Gives}
use Rattle.host_files.specs.Outside.{content_of as held_in}
use Rattle.manifest_reader.specs.Meaning.{content_of}
use Rattle.manifest_reader.specs.Stored.{cert_name_of}
use Rattle.bank_kinds.specs.Kinds.{codec_for}
use Rattle.bank_kinds.specs.Certified.{IsCertified}
use Rattle.command_plan.specs.Read.{as_reading, fetched_for}
use Rattle.command_plan.specs.Reading.{fetched}
use Rattle.command_faults.specs.declared.status.Status.TheVariants.{Memory}
use Rattle.command_plan.specs.Steps.{HasRead}
use Rattle.command_plan.proofs.ReadOn.{fetched_reads}
use Rattle.tool_compare.specs.Check.{proven_in}
use Rattle.command_plan.specs.Front.{front_in}
use Rattle.command_plan.proofs.Telling.{is_front}
use Rattle.tool_compare.proofs.CheckReads.{reads_with, of_whole, proven-declines}
use Rattle.tool_compare.proofs.fetch_proven.fetch_proven.Goals as goal

pub returns-clause-told : goal.returns-clause-told
returns-clause-told g c = λ files told.
    let m = content_of c.args.manifest.now in
    let source = c.args.source.now in
    let name = cert_name_of m.bank source.name in
    let a = g.H.Host.world c.args.host.now in
    let b = g.H.Host.world c.fetch_front.new.host in
    let got = c.in-Ok-fetch_front.ensures.told files told in
    let same : c.as_str-2.result.now ≡ name = c.as_str-2.ensures ∙ (c.in-Ok.ensures ∙ (ap (λ (z : List ℕ). cert_name_of z c.as_str.result.now) c.as_str-bank.ensures ∙ ap (cert_name_of m.bank) c.as_str.ensures)) in
    let front : c.as_slice.result.now ≡ front_in files name 33554432 = c.as_slice.ensures.value ∙ is_front files c.as_str-2.result.now c.in-Ok-fetch_front.front.items 33554432 got.1 ∙ ap (λ (n : List ℕ). front_in files n 33554432) same in
    let read = proven_in m source (front_in files name 33554432) in
    let first = fetched_reads name (λ p. p) c.proven_in.result read a b (subst (λ (n : List ℕ). HasRead (fetched n) a b) same got.0) (proven-declines m source (front_in files name 33554432))
    (subst (λ (bs : List ℕ). Gives Memory (λ p. p) c.proven_in.result (proven_in m source bs)) front c.proven_in.ensures.value) in
    reads_with (as_reading (fetched_for name read)) a b c.proven_in.result (λ p. read ≡ Ok p) (λ p. IsCertified (codec_for m.kind m.block) (held_in files name) source.fitted p.bound p.levels) first
    (of_whole 33554432 c.as_slice.result.now (held_in files name) c.proven_in.result (λ bs p. IsCertified (codec_for m.kind m.block) bs source.fitted p.bound p.levels)
    (c.as_slice.ensures.value ∙ (got.1 ∙ ap (λ (n : List ℕ). take 33554433 (held_in files n)) same)) c.proven_in.ensures.whole c.proven_in.ensures.certified)
