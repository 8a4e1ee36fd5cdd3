-- A season's sheet is read as its total.
use Rattle.report.specs.Peak.{GpsPeak, PressurePeak}
use Rattle.std.specs.Prelude.{◌+◌, ◌≡◌, ◌∷◌, ◌++◌}
use Rattle.text.specs.Prelude.{ℕ, List, []}
use Rattle.report.specs.Figures.{Figures}
use Rattle.total.specs.Total.{Totals}
use Rattle.sheet_text.specs.Sheet.{log_text, all_text}
use Rattle.block_read.specs.Laws.{InFields}
use Rattle.sheet_read.specs.Sheet.{whole, read_sheet_of}

-- The blocks of some logs, the first of them with the number n.
unfoldable pub log_texts : ℕ → List (Figures PressurePeak GpsPeak) → List ℕ
log_texts n [] = []
log_texts n (f ∷ fs) = log_text n f ++ log_texts (n + 1) fs

-- A season's sheet is read as its total, and so is its last block by itself.
abbrev pub SheetBack : Type 0
SheetBack = (n : ℕ) (fs : List (Figures PressurePeak GpsPeak)) (t : Totals) → InFields t →
    read_sheet_of (log_texts n fs ++ all_text t) ≡ whole t
