use Rattle.std.proofs.Common.{◌≡◌, ℕ, ◌+◌, ◌-◌, ◌*◌, List, length, length-drop, drop, take, Ok, ap, ◌∙◌, arith}
use Rattle.std.proofs.lemmas.List.{length-take}
use Rattle.snes_directory.specs.Reading.{entries_of}
use Rattle.snes_directory.proofs.Images.{AreEntries, entries_of-are}
use Rattle.snes_directory.proofs.reading.read_image.Goals as goal

pub returns-clause-image : goal.returns-clause-image
returns-clause-image c =
    let bytes = c.args.bytes.now in
    let base = c.in_ok-header.header.base in
    let count = c.in_ok-header.header.entries in
    let memory = c.in_ok-memory.memory in
    let entries = c.in_ok-entries.entries in
    let fits = c.in_ok-header.ensures.fits in
    let front = 16 + 4 * count in
    let read : entries_of bytes base memory count ≡ Ok entries = ap (λ (m : List ℕ). entries_of bytes base m count) c.in_ok-memory.ensures ∙ c.in_ok-entries.ensures in
    let are : AreEntries memory count entries = entries_of-are bytes base memory count entries read in
    let long : length memory ≡ length (take (length bytes - front) (drop front bytes)) = ap length c.in_ok-memory.ensures in
    record {
      page = fits.page;
      low = fits.low;
      room = omega (arith, fits.room, long, length-take (length bytes - front) (drop front bytes), length-drop front bytes);
      some = omega (arith, fits.some, are.rates);
      few = omega (arith, fits.few, are.rates);
      starts = omega (arith, are.rates, are.starts);
      agains = omega (arith, are.rates, are.agains);
      rates = are.each_rate;
      tracks = λ i less. are.tracks i (omega (arith, are.rates));
    }
