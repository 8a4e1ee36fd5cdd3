-- The task sheet: its captions in plain words, and the lines after the last point.
use Rattle.std.specs.Prelude.{◌≡◌, ◌∷◌, ◌++◌}
use Rattle.text.specs.Prelude.{ℕ, zero, suc, true, List, [], map, length, pick, ◌=?◌}
use Rattle.part.specs.Part.{maybe_bytes}
use Rattle.c_turnpoint_record.specs.declared.CRecordTurnpoint.{CRecordTurnpoint}
use Rattle.igc_log.specs.Line.{line_text}
use Rattle.igc_log.specs.Log.{chunks, closed}
use Rattle.caption.specs.Caption.{caption_text}
use Rattle.task.specs.Sheet.{sheet, sheet_of}

-- The n-th of some texts, from 1; empty where they are fewer.
unfoldable pub nth_text : ℕ → List (List ℕ) → List ℕ
nth_text zero ts = []
nth_text (suc n) [] = []
nth_text (suc zero) (t ∷ ts) = t
nth_text (suc (suc n)) (t ∷ ts) = nth_text (suc n) ts

-- The n-th label: the labels are lines, cut as those of a log are.
unfoldable pub label_text : ℕ → List ℕ → List ℕ
label_text n labels = nth_text n (map line_text (chunks labels))

-- The name as its view shows it; where that is empty, the label.
unfoldable pub name_or_label : CRecordTurnpoint → ℕ → List ℕ → List ℕ → List ℕ
name_or_label point n line labels =
    let name = maybe_bytes point.turnpoint_name line in pick (length name =? 0) (label_text n labels) name

-- The caption's bytes are these.
abbrev pub InWords : Type 0
InWords = (point : CRecordTurnpoint) (n : ℕ) (line labels : List ℕ) →
    caption_text point n line labels ≡ name_or_label point n line labels

-- Lines after the last point do not matter: whatever stands behind whole lines that have a sheet, it is the same.
abbrev pub LaterLines : Type 0
LaterLines = (log more labels t : List ℕ) → closed log ≡ true →
    sheet_of log labels ≡ sheet t → sheet_of (log ++ more) labels ≡ sheet t
