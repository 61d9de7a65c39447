use Rattle.std.proofs.Common.{◌≡◌, ℕ, List, refl, subst, ◌∙◌}
use Rattle.adpcm_nums.specs.Outcome.{Gives}
use Rattle.bank_check.specs.Stored.{bank_image}
use Rattle.command_faults.specs.declared.status.Status.TheVariants.{Input, Memory}
use Rattle.command_plan.proofs.ReadOn.{fetched_reads}
use Rattle.command_plan.specs.Front.{front_in, or_told}
use Rattle.command_plan.proofs.Telling.{is_front, told-declines}
use Rattle.tool_compare.proofs.images.fetch_bank.Goals as goal

pub returns-clause-told : goal.returns-clause-told
returns-clause-told g c = λ files told.
    let got = c.in-Ok.ensures.told files told in
    let bank = c.args.bank.now in
    let front : c.as_slice.result.now ≡ front_in files bank 8388608 = c.as_slice.ensures.value ∙ is_front files bank c.in-Ok.front.items 8388608 got.1 in
    fetched_reads bank (λ i. i) c.image_in.result (or_told (λ f. Input bank f) (bank_image c.args.count (front_in files bank 8388608))) (g.H.Host.world c.args.host.now) (g.H.Host.world c.fetch_front.new.host)
    got.0 (told-declines (λ f. Input bank f) (bank_image c.args.count (front_in files bank 8388608)) (λ f. refl))
    (subst (λ (bs : List ℕ). Gives Memory (λ i. i) c.image_in.result (or_told (λ f. Input bank f) (bank_image c.args.count bs))) front c.image_in.ensures.value)
