-- The samples of `bound`, one after another, over plain variables.
use Rattle.std.proofs.Common.{◌≡◌, ℕ, ◌+◌, ◌≤◌, List, [], ◌∷◌, ◌++◌, length, drop, refl, sym, ap, subst, arith, Some, slice_get}
use Rattle.std.proofs.lemmas.Option.{slice_get_within}
use Rattle.host_files.specs.Outside.{World, Files}
use Rattle.machine_core.specs.declared.state.Kind.TheVariants.{Ima}
use Rattle.machine_core.specs.Blocks.{Blocks}
use Rattle.manifest_reader.specs.Meaning.{Content}
use Rattle.snes_directory.specs.declared.image.Image.{Image}
use Rattle.report_text.specs.declared.report.BoundReport.{BoundReport}
use Rattle.bank_kinds.specs.Bound.{IsBound}
use Rattle.bank_kinds.specs.Fits.{loop_shown}
use Rattle.bank_kinds.specs.Kinds.{codec_for}
use Rattle.bank_check.specs.Errors.{IsStoredError}
use Rattle.tool_compare.specs.Floor.{floor_of}
use Rattle.command_faults.specs.declared.status.Status.{Status}
use Rattle.command_faults.specs.declared.status.Status.TheVariants.{Input, Memory}
use Rattle.command_plan.specs.Read.{as_reading, read_all}
use Rattle.command_plan.specs.Steps.{HasRead, Halts}
use Rattle.command_plan.proofs.ReadLoop.{GoesOn, goes_first, goes_step, goes_halts, goes_short, goes_ended}
use Rattle.tool_files.specs.declared.source.Source.{Source}
use Rattle.command_plan.specs.Front.{or_told}
use Rattle.tool_compare.specs.Banks.{stored_by, stored_read}
use Rattle.tool_files.proofs.Pairs.{all_more}
use Rattle.tool_compare.specs.Bound.{each_list}
use Rattle.tool_compare.specs.Bounded.{IsBounded, AllBounded, AreBounded}

-- what is told of a sample
pub is_bounded : (files : Files) (m : Content) (image : Image) (j : ℕ) (s : Source) (r : BoundReport) → r.name ≡ s.name → r.blocks ≡ s.fitted.blocks → r.shown ≡ loop_shown s.fitted.loop_block s.fitted.loop_frames
    → IsStoredError (codec_for m.kind m.block) s.fitted (stored_by m.kind files m image j s) r.error → IsBound (codec_for m.kind m.block) s.fitted r.bound → floor_of (codec_for m.kind m.block) s.fitted ≤ r.bound
    → (m.kind ≡ Ima → r.bound ≡ floor_of (codec_for m.kind m.block) s.fitted) → IsBounded files m image j s r
is_bounded files m image j s r name blocks shown is holds floor bare =
    let below = holds is.list is.legal in
    let exact = is.error_is in
    record {
      list = is.list;
      stored = is.list_is;
      near = record {
        name_is = name;
        blocks_are = blocks;
        loop_is = shown;
        legal = is.legal;
        error_is = exact;
        bound = holds;
        floor = floor;
        gap = omega (arith, below, exact);
        optimal = λ e. subst (λ (v : ℕ). IsBound (codec_for m.kind m.block) s.fitted v) (sym e) holds;
      };
      bare = bare;
    }

-- the samples that were told so far, of those before number j
pub record HasLists (files : Files) (m : Content) (image : Image) (sources : List Source) (j : ℕ) (reports : List BoundReport) (a b : World) : Type 0 where
  pub lists : List Blocks
  pub goes : GoesOn (each_list files m sources image) (read_all (stored_read files m image) j (drop j sources)) lists a b
  pub bounded : AllBounded files m image sources reports

-- before the first
pub lists_first : (files : Files) (m : Content) (image : Image) (sources : List Source) (reports : List BoundReport) (a : World) → length reports ≡ 0 → HasLists files m image sources 0 reports a a
lists_first files m image sources reports a none =
    let first : List Blocks = [] in
    record {
      lists = first;
      goes = goes_first (each_list files m sources image) first a refl;
      bounded = λ j s r left right. (let within = slice_get_within reports j r right in absurd (omega (arith, within, none)));
    }

-- one more
pub lists_more : (files : Files) (m : Content) (image : Image) (sources : List Source) (j : ℕ) (reports all : List BoundReport) (s : Source) (r : BoundReport) (a n b : World) → slice_get sources j ≡ Some s → length reports ≡ j → all ≡ reports ++ r ∷ []
    → HasLists files m image sources j reports a n → HasRead (as_reading (stored_read files m image j s)) n b → IsBounded files m image j s r → HasLists files m image sources (j + 1) all a b
lists_more files m image sources j reports all s r a n b at count pushed h read is = record {
  lists = h.lists ++ is.list ∷ [];
  goes = goes_step (stored_read files m image) sources j s is.list (each_list files m sources image) h.lists (h.lists ++ is.list ∷ []) a n b at refl h.goes read (ap (or_told (λ f. Input s.name f)) is.stored);
  bounded = all_more (IsBounded files m image) sources reports all j s r at count pushed h.bounded is;
}

-- what is stored for one is refused
pub lists_halt : (files : Files) (m : Content) (image : Image) (sources : List Source) (j : ℕ) (reports : List BoundReport) (s : Source) (a n b : World) (st : Status) → slice_get sources j ≡ Some s
    → HasLists files m image sources j reports a n → Halts (as_reading (stored_read files m image j s)) n b st → Halts (as_reading (each_list files m sources image)) a b st
lists_halt files m image sources j reports s a n b st at h k = goes_halts (stored_read files m image) sources j s (each_list files m sources image) h.lists a n b st at h.goes k

-- there is no memory after one
pub lists_short : (files : Files) (m : Content) (image : Image) (sources : List Source) (j : ℕ) (reports : List BoundReport) (s : Source) (a n b : World) → slice_get sources j ≡ Some s
    → HasLists files m image sources j reports a n → HasRead (as_reading (stored_read files m image j s)) n b → Halts (as_reading (each_list files m sources image)) a b Memory
lists_short files m image sources j reports s a n b at h read = goes_short (stored_read files m image) sources j s (each_list files m sources image) h.lists a n b at h.goes read

-- after the last
pub lists_ended : (files : Files) (m : Content) (image : Image) (sources : List Source) (j : ℕ) (reports : List BoundReport) (a b : World) → length sources ≤ j → length reports ≡ length sources → HasLists files m image sources j reports a b
    → HasRead (as_reading (each_list files m sources image)) a b × AreBounded files m image sources reports
lists_ended files m image sources j reports a b all count h =
    let last = goes_ended (stored_read files m image) sources j (each_list files m sources image) h.lists a b all h.goes in
    (last.0, record { lists = h.lists; read = last.1; count = count; bounded = h.bounded })
