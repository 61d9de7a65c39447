-- One sample of `check`, over plain variables.
use Rattle.std.proofs.Common.{◌≡◌, ℕ, List, sym, ap, subst, ◌∙◌, arith, Ok}
use Rattle.host_files.specs.Outside.{World, Files, content_of}
use Rattle.machine_core.specs.Blocks.{Blocks}
use Rattle.manifest_reader.specs.Meaning.{Content}
use Rattle.manifest_reader.specs.Stored.{cert_name_of}
use Rattle.snes_directory.specs.declared.image.Image.{Image}
use Rattle.report_text.specs.declared.report.SampleReport.{SampleReport}
use Rattle.report_text.specs.declared.report.LoopShown.{LoopShown}
use Rattle.bank_kinds.specs.Bound.{IsBound}
use Rattle.bank_kinds.specs.Certified.{IsCertified}
use Rattle.bank_kinds.specs.Fits.{error_of, loop_shown}
use Rattle.bank_kinds.specs.Kinds.{codec_for}
use Rattle.bank_check.specs.declared.proven.Proven.{Proven}
use Rattle.bank_check.specs.Errors.{IsStoredError}
use Rattle.command_faults.specs.declared.status.Status.{Status}
use Rattle.command_faults.specs.declared.status.Status.TheVariants.{Input, Memory}
use Rattle.command_plan.specs.Read.{Read, as_reading, given, ◌>>=◌}
use Rattle.command_plan.specs.Steps.{HasRead, Halts}
use Rattle.command_plan.proofs.Readings.{halts_after}
use Rattle.command_plan.proofs.ReadOn.{then_has, then_halts, first_halts, then-gives, given_has}
use Rattle.tool_files.specs.declared.source.Source.{Source}
use Rattle.command_plan.specs.Front.{or_told}
use Rattle.tool_compare.specs.Banks.{stored_by, stored_read}
use Rattle.tool_compare.specs.Check.{proven_read, report_of, sample_read}
use Rattle.tool_compare.specs.Checked.{IsChecked}

-- what comes after the list, and after the certificate
abbrev told : Content → Source → Blocks → Proven → Read SampleReport
told m s list p = given (Ok (report_of m s list p))

abbrev certified_for : Files → Content → Source → Blocks → Read SampleReport
certified_for files m s list = proven_read files m s >>= told m s list

-- what is stored is refused
pub stored_halts : (files : Files) (m : Content) (image : Image) (j : ℕ) (s : Source) (a b : World) (st : Status) → Halts (as_reading (stored_read files m image j s)) a b st → Halts (as_reading (sample_read files m image j s)) a b st
stored_halts files m image j s a b st h = first_halts (stored_read files m image j s) (certified_for files m s) a b st h

-- what was read of a sample: its list, with its error
pub record HasStored (files : Files) (m : Content) (image : Image) (j : ℕ) (s : Source) (error : ℕ) (a n : World) : Type 0 where
  pub read : HasRead (as_reading (stored_read files m image j s)) a n
  pub is : IsStoredError (codec_for m.kind m.block) s.fitted (stored_by m.kind files m image j s) error

list-gives : (files : Files) (m : Content) (image : Image) (j : ℕ) (s : Source) (error : ℕ) (a n : World) (h : HasStored files m image j s error a n) → (stored_read files m image j s).gives ≡ Ok h.is.list
list-gives files m image j s error a n h = ap (or_told (λ f. Input s.name f)) h.is.list_is

-- its certificate is refused
pub proven_halts : (files : Files) (m : Content) (image : Image) (j : ℕ) (s : Source) (error : ℕ) (a n b : World) (st : Status) → HasStored files m image j s error a n → Halts (as_reading (proven_read files m s)) n b st
    → Halts (as_reading (sample_read files m image j s)) a b st
proven_halts files m image j s error a n b st h k =
    then_halts (stored_read files m image j s) (certified_for files m s) h.is.list a n b st (list-gives files m image j s error a n h) h.read (first_halts (proven_read files m s) (told m s h.is.list) n b st k)

-- and what its certificate proves
pub record HasProven (files : Files) (m : Content) (s : Source) (p : Proven) (n b : World) : Type 0 where
  pub read : HasRead (as_reading (proven_read files m s)) n b
  pub gives : (proven_read files m s).gives ≡ Ok p
  pub certified : IsCertified (codec_for m.kind m.block) (content_of files (cert_name_of m.bank s.name)) s.fitted p.bound p.levels
  pub bound : IsBound (codec_for m.kind m.block) s.fitted p.bound

-- there is no memory for what is told
pub sample_short : (files : Files) (m : Content) (image : Image) (j : ℕ) (s : Source) (error : ℕ) (p : Proven) (a n b : World) → HasStored files m image j s error a n → HasProven files m s p n b
    → Halts (as_reading (sample_read files m image j s)) a b Memory
sample_short files m image j s error p a n b h k =
    then_halts (stored_read files m image j s) (certified_for files m s) h.is.list a n b Memory (list-gives files m image j s error a n h) h.read
    (then_halts (proven_read files m s) (told m s h.is.list) p n b b Memory k.gives k.read (halts_after (as_reading (told m s h.is.list p)) b b (given_has (report_of m s h.is.list p) b)))

same-report : (m : Content) (s : Source) (list : Blocks) (p : Proven) (r : SampleReport) → r.name ≡ s.name → r.blocks ≡ s.fitted.blocks → r.shown ≡ loop_shown s.fitted.loop_block s.fitted.loop_frames
    → r.error ≡ error_of (codec_for m.kind m.block) s.fitted list → r.bound ≡ p.bound → r.levels ≡ p.levels → report_of m s list p ≡ r
same-report m s list p r n b l e v k =
    let mk : List ℕ → ℕ → LoopShown → ℕ → ℕ → List ℕ → SampleReport = λ a c d f t u. record { name = a; blocks = c; shown = d; error = f; bound = t; levels = u } in
    let shown = loop_shown s.fitted.loop_block s.fitted.loop_frames in
    let error = error_of (codec_for m.kind m.block) s.fitted list in
    ap (λ z. mk z s.fitted.blocks shown error p.bound p.levels) (sym n) ∙ (ap (λ z. mk r.name z shown error p.bound p.levels) (sym b) ∙ (ap (λ z. mk r.name r.blocks z error p.bound p.levels) (sym l)
    ∙ (ap (λ z. mk r.name r.blocks r.shown z p.bound p.levels) (sym e) ∙ (ap (λ z. mk r.name r.blocks r.shown r.error z p.levels) (sym v) ∙ ap (λ z. mk r.name r.blocks r.shown r.error r.bound z) (sym k)))))

-- a report of what was read
pub record IsReport (s : Source) (error : ℕ) (p : Proven) (r : SampleReport) : Type 0 where
  pub name_is : r.name ≡ s.name
  pub blocks_are : r.blocks ≡ s.fitted.blocks
  pub loop_is : r.shown ≡ loop_shown s.fitted.loop_block s.fitted.loop_frames
  pub error_is : r.error ≡ error
  pub bound_is : r.bound ≡ p.bound
  pub levels_are : r.levels ≡ p.levels

is-checked : (files : Files) (m : Content) (image : Image) (j : ℕ) (s : Source) (error : ℕ) (p : Proven) (r : SampleReport) (a n b : World) → HasStored files m image j s error a n → HasProven files m s p n b → IsReport s error p r
    → IsChecked files m image j s r
is-checked files m image j s error p r a n b h k is =
    let c = codec_for m.kind m.block in
    let exact : r.error ≡ error_of c s.fitted h.is.list = is.error_is ∙ h.is.error_is in
    let holds = subst (λ (v : ℕ). IsBound c s.fitted v) (sym is.bound_is) k.bound in
    let below = holds h.is.list h.is.legal in
    let bytes = content_of files (cert_name_of m.bank s.name) in
    record {
      list = h.is.list;
      stored = h.is.list_is;
      proved = record {
        name_is = is.name_is;
        blocks_are = is.blocks_are;
        loop_is = is.loop_is;
        legal = h.is.legal;
        error_is = exact;
        certified = subst (λ (v : ℕ). IsCertified c bytes s.fitted v r.levels) (sym is.bound_is) (subst (λ (l : List ℕ). IsCertified c bytes s.fitted p.bound l) (sym is.levels_are) k.certified);
        bound = holds;
        gap = omega (arith, below, exact);
        optimal = λ e. subst (λ (v : ℕ). IsBound c s.fitted v) (sym e) holds;
      };
    }

-- the sample is told
pub sample_done : (files : Files) (m : Content) (image : Image) (j : ℕ) (s : Source) (error : ℕ) (p : Proven) (r : SampleReport) (a n b : World) → HasStored files m image j s error a n → HasProven files m s p n b → IsReport s error p r
    → HasRead (as_reading (sample_read files m image j s)) a b × ((sample_read files m image j s).gives ≡ Ok r) × IsChecked files m image j s r
sample_done files m image j s error p r a n b h k is =
    let list = h.is.list in
    let gives = list-gives files m image j s error a n h in (
      then_has (stored_read files m image j s) (certified_for files m s) list a n b gives h.read (then_has (proven_read files m s) (told m s list) p n b b k.gives k.read (given_has (report_of m s list p) b)),
      then-gives (stored_read files m image j s) (certified_for files m s) list gives ∙ (then-gives (proven_read files m s) (told m s list) p k.gives
          ∙ ap (λ z. Ok z) (same-report m s list p r is.name_is is.blocks_are is.loop_is (is.error_is ∙ h.is.error_is) is.bound_is is.levels_are)),
      is-checked files m image j s error p r a n b h k is,
    )
