-- The sources of a bank, and the room for them, over plain variables.
use Rattle.std.proofs.Common.{◌≡◌, ℕ, List, refl, sym, ap, subst, ◌∙◌, Result, Ok, Err}
use Rattle.adpcm_nums.specs.Outcome.{Gives}
use Rattle.host_files.specs.Outside.{World, Files}
use Rattle.machine_core.specs.declared.state.Kind.{Kind}
use Rattle.machine_core.specs.declared.state.Kind.TheVariants.{Brr, Spu, Ima}
use Rattle.loop_fit.specs.declared.rule.FitRule.{FitRule}
use Rattle.manifest_reader.specs.declared.manifest.SampleEntry.{SampleEntry}
use Rattle.manifest_reader.specs.Meaning.{Content}
use Rattle.snes_directory.specs.Layout.{is_past_end}
use Rattle.command_faults.specs.declared.status.Status.{Status}
use Rattle.command_faults.specs.declared.status.Status.TheVariants.{Full, Memory}
use Rattle.command_plan.specs.Read.{Read, as_reading, given, Reads}
use Rattle.command_plan.specs.Reading.{Declines}
use Rattle.command_plan.specs.Steps.{HasRead, Halts}
use Rattle.command_plan.proofs.ReadOn.{first_halts, then_reads, given_reads}
use Rattle.tool_files.specs.declared.source.Source.{Source}
use Rattle.tool_files.specs.Source.{rule_of}
use Rattle.tool_files.specs.Sources.{each_read, bank_end, with_room, sources_read}
use Rattle.command_plan.proofs.Telling.{test-declines}

room-declines : (kind : Kind) (bank : List ℕ) (base : ℕ) (sources : List Source) → Declines (with_room kind bank base sources)
unfolding with_room
room-declines Brr bank base sources = test-declines (is_past_end (bank_end base sources)) (Err (Full bank (bank_end base sources))) (Ok sources) refl tt
room-declines Spu bank base sources = tt
room-declines Ima bank base sources = tt

-- the room for the sources that were read
abbrev pub room_for : Content → List Source → Read (List Source)
room_for m sources = given (with_room m.kind m.bank m.base sources)

-- the same samples, read by the same rule
same-each : (files : Files) (m : Content) (rule : FitRule) (entries : List SampleEntry) → rule ≡ rule_of m → entries ≡ m.samples → each_read files rule entries ≡ each_read files (rule_of m) m.samples
same-each files m rule entries ruled e = ap (λ (r : FitRule). each_read files r entries) ruled ∙ ap (each_read files (rule_of m)) e

-- one of the sources was refused
pub sources_refused : (files : Files) (m : Content) (rule : FitRule) (entries : List SampleEntry) (a b : World) (s : Status) → rule ≡ rule_of m → entries ≡ m.samples → Halts (as_reading (each_read files rule entries)) a b s → Halts (as_reading (sources_read files m)) a b s
sources_refused files m rule entries a b s ruled e h =
    first_halts (each_read files (rule_of m) m.samples) (room_for m) a b s
    (subst (λ (x : Read (List Source)). Halts (as_reading x) a b s) (same-each files m rule entries ruled e) h)

-- all were read, and there is room for them or not
pub sources_tested : {V : Type 0} (items : V → List Source) (files : Files) (m : Content) (rule : FitRule) (entries : List SampleEntry) (bank : List ℕ) (v : V) (r : Result V Status) (a b : World) → rule ≡ rule_of m → entries ≡ m.samples → bank ≡ m.bank
    → HasRead (as_reading (each_read files rule entries)) a b → (each_read files rule entries).gives ≡ Ok (items v) → Gives Memory items r (with_room m.kind bank m.base (items v)) → Reads items (sources_read files m) a b r
sources_tested items files m rule entries bank v r a b ruled e n h each g =
    let same = same-each files m rule entries ruled e in
    then_reads (each_read files (rule_of m) m.samples) (room_for m) (items v) items a b b r
    (ap (λ (x : Read (List Source)). x.gives) (sym same) ∙ each) (subst (λ (x : Read (List Source)). HasRead (as_reading x) a b) same h)
    (given_reads items r (with_room m.kind m.bank m.base (items v)) b (room-declines m.kind m.bank m.base (items v)) (subst (λ (x : List ℕ). Gives Memory items r (with_room m.kind x m.base (items v))) n g))
