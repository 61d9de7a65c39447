-- The lines that tell how well samples were encoded. Errors, bounds and gaps are in squared 16-bit steps.
use Rattle.std.specs.Prelude.{ℕ, ◌-◌, ◌==◌, if◌then◌else◌, List, ◌++◌, get_or, codes, decimal}
use Rattle.report_text.specs.declared.report.LoopShown.{LoopShown}
use Rattle.report_text.specs.declared.report.LoopShown.TheVariants.{NoLoop, Block, Frames}
use Rattle.report_text.specs.declared.report.SampleReport.{SampleReport}
use Rattle.report_text.specs.declared.report.BoundReport.{BoundReport}

-- an error, the bound that no error is below, and the gap between them
unfoldable pub error_text : ℕ → ℕ → List ℕ
error_text error bound =
    codes "error " ++ (decimal error ++ (codes " bound " ++ (decimal bound ++ (codes " gap " ++ decimal (error - bound)))))

-- a line's end, which tells where nothing is left to gain
unfoldable pub end_text : ℕ → List ℕ
end_text gap = if gap == 0 then codes " optimal\n" else codes "\n"

-- the line of one block
unfoldable pub block_line : ℕ → ℕ → List ℕ
block_line error bound = error_text error bound ++ end_text (error - bound)

-- where a sample's loop is
abbrev pub shown_text : LoopShown → List ℕ
shown_text NoLoop = codes "none"
shown_text (Block block) = decimal block
shown_text (Frames at) = decimal at.start ++ (codes ".." ++ decimal at.end)

-- how the line of a sample begins: this word, then the sample's name, its blocks and its loop
unfoldable pub head_text : List ℕ → List ℕ → ℕ → LoopShown → List ℕ
head_text word name blocks shown =
    word ++ (codes " " ++ (name ++ (codes " blocks " ++ (decimal blocks ++ (codes " loop " ++ (shown_text shown ++ codes " "))))))

-- what a sample is: its name, its blocks and its loop
unfoldable pub shape_text : SampleReport → List ℕ
shape_text r = head_text (codes "sample") r.name r.blocks r.shown

-- how many segments were searched at level 0, at level 4, at level 8 and not at all
unfoldable pub levels_text : List ℕ → List ℕ
levels_text levels =
    codes " levels " ++ (decimal (get_or levels 0 0) ++ (codes " " ++ (decimal (get_or levels 1 0) ++
    (codes " " ++ (decimal (get_or levels 2 0) ++ (codes " " ++ decimal (get_or levels 3 0)))))))

-- the line of one sample
unfoldable pub sample_line : SampleReport → List ℕ
sample_line r = shape_text r ++ error_text r.error r.bound ++ levels_text r.levels ++ end_text (r.error - r.bound)

-- the line of the bound of one sample
unfoldable pub bound_line : BoundReport → List ℕ
bound_line r = head_text (codes "bound") r.name r.blocks r.shown ++ block_line r.error r.bound

-- the line that ends a report
unfoldable pub done_line : ℕ → ℕ → List ℕ
done_line samples files = codes "done " ++ (decimal samples ++ (codes " samples " ++ (decimal files ++ codes " files\n")))
