use Rattle.std.proofs.Common.{◌≡◌, ◌≤◌, ℕ, ℤ, List, length, pos, ◌*ℤ◌, sym, subst, ap, ◌∙◌, arith, to_z, of_z, w32}
use Rattle.std.proofs.lemmas.Int.{ints}
use Rattle.std.proofs.lemmas.List.FromFn.{length-map-range_with_len}
use Rattle.adpcm_nums.specs.Sample.{IsSample}
use Rattle.machine_core.specs.Decoder.{start}
use Rattle.machine_core.specs.Blocks.{output_at}
use Rattle.bank_kinds.specs.Chosen.{list_of}
use Rattle.bank_kinds.specs.Codec.{codec_of}
use Rattle.bank_kinds.specs.Fits.{played_of}
use Rattle.bank_compile.proofs.sample.spelled.Goals as goal

pub outputs-requires-clause-range : goal.outputs-requires-clause-range
outputs-requires-clause-range g c = λ at is.
    (let d = (g.C.Machine.rules c.args.codec.now).decoder in
    let scale = c.scale.ensures in
    let same : pos d.scale ≡ to_z w32 (of_z w32 c.scale.result) = omega (arith, ints, scale) in
    subst (λ (z : ℤ). IsSample (z *ℤ at.a)) same ((g.met.C.Encode.encodes c.args.codec.now).sounds at is))

-- the list of the choice is the one that the sample spells
pub returns-clause-out : goal.returns-clause-out
returns-clause-out g c =
    let d = (g.C.Machine.rules c.args.codec.now).decoder in
    let list = list_of c.args.choice.now in
    let meaning = codec_of (g.C.Machine.rules c.args.codec.now) (g.C.Encode.bytes c.args.codec.now) in
    let count = length-map-range_with_len (λ i. pos d.scale *ℤ output_at d list start i) 0 c.played-count.result in
    let played : c.played-count.result ≡ played_of meaning c.args.fitted = rw (c.kind.ensures, c.block_samples.ensures) at c.played-count.ensures in
    record {
      short = subst (λ (n : List ℕ). length n ≤ 16) (sym c.in_ok-copy_of.ensures) c.requires.short;
      some_rate = c.requires.some_rate;
      high_rate = c.requires.high_rate;
      fit = c.requires.fit;
      played = ap (λ (xs : List ℤ). length xs) c.in_ok-first.ensures.value ∙ count ∙ played;
      range = c.in_ok-first.ensures.range;
      list = list;
      in_range = c.requires.in_range;
      spelled = c.in_ok-blocks.ensures;
    }
