-- The lines of `decompile`: one for each entry of a file.
use Rattle.std.specs.Prelude.{ℕ, suc, List, [], ◌∷◌, ◌++◌, length, Option, Some, None, codes, decimal}
use Rattle.adpcm_nums.specs.declared.loop_at.LoopAt.{LoopAt}
use Rattle.report_text.specs.declared.report.LoopShown.{LoopShown}
use Rattle.report_text.specs.declared.report.LoopShown.TheVariants.{NoLoop as NoneShown, Frames}
use Rattle.report_text.specs.Report.{shown_text}
use Rattle.decompile_core.specs.declared.recovered.Recovered.{Recovered}
use Rattle.decompile_core.specs.declared.recovered.Settles.{Settles}
use Rattle.decompile_core.specs.declared.recovered.Settles.TheVariants.{NoLoop, From, Unsettled}

-- a loop of samples, as it is shown
abbrev pub shown_of : Option LoopAt → LoopShown
shown_of None = NoneShown
shown_of (Some at) = Frames at

-- from which playing on a loop stays the same
abbrev pub settles_text : Settles → List ℕ
settles_text NoLoop = codes "none"
settles_text (From playing) = decimal playing
settles_text Unsettled = codes "unsettled"

-- the line of entry i
unfoldable pub entry_line : ℕ → Recovered → List ℕ
entry_line i entry =
    codes "entry " ++ (decimal i ++ (codes " frames " ++ (decimal (length entry.samples) ++ (codes " loop " ++ (shown_text (shown_of entry.loop_at) ++
    (codes " settles " ++ (settles_text entry.settles ++ (codes " trailing " ++ (decimal entry.trailing ++ codes "\n")))))))))

-- the lines of entries, the first of which has number i
unfoldable pub entry_lines : ℕ → List Recovered → List ℕ
entry_lines i [] = []
entry_lines i (entry ∷ entries) = entry_line i entry ++ entry_lines (suc i) entries
