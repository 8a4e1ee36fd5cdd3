-- A caption: a part of one of two lent texts, the point's line and the club's labels.
use Rattle.std.specs.Borrow.{Bor}
use Rattle.std.specs.Prelude.{◌+◌, ◌≡◌, ◌∷◌}
use Rattle.text.specs.Prelude.{ℕ, zero, suc, List, [], length, pick, ◌≤?◌}
use Rattle.part.specs.Part.{bytes_of, find_maybe, shown}
use Rattle.part.specs.declared.Part.{Part}
use Rattle.c_turnpoint_record.specs.declared.CRecordTurnpoint.{CRecordTurnpoint}
use Rattle.igc_log.specs.Line.{line_text}
use Rattle.igc_log.specs.Log.{chunks}

-- The empty part at a text's start.
unfoldable pub nowhere : Part
nowhere = record { start = 0; len = 0 }

-- The n-th of some lines, from 1, of which the first begins at the place p; where they are fewer, the empty part.
unfoldable pub nth : ℕ → ℕ → List (List ℕ) → Part
nth p zero cs = nowhere
nth p (suc n) [] = nowhere
nth p (suc zero) (c ∷ cs) = record { start = p; len = length (line_text c) }
nth p (suc (suc n)) (c ∷ cs) = nth (p + length c) (suc n) cs

-- Where a caption lies: a part of the point's own line, or a part of the labels.
pub data Where : Type 0 where
  in_line : Part → Where
  in_labels : Part → Where

-- The point's name, where it is a part of the line with something in it; else the n-th line of the labels.
unfoldable pub caption_of : CRecordTurnpoint → ℕ → List ℕ → List ℕ → Where
caption_of point n line labels =
    let name = shown (find_maybe point.turnpoint_name line) in
    pick (1 ≤? name.len) (in_line name) (in_labels (nth 0 n (chunks labels)))

-- Its bytes, in the one text or in the other.
abbrev pub bytes_at : Where → List ℕ → List ℕ → List ℕ
bytes_at (in_line p) line labels = bytes_of p line
bytes_at (in_labels p) line labels = bytes_of p labels

-- Where they begin, from where the line and the labels begin: a block, and a place in it.
abbrev pub begins_at : Where → ℕ × ℕ → ℕ × ℕ → ℕ × ℕ
begins_at (in_line p) line labels = (line.0, p.start + line.1)
begins_at (in_labels p) line labels = (labels.0, p.start + labels.1)

-- The slice r is that part of the one lent text or of the other: its bytes, where they lie.
pub record ShowsOne (line labels : Bor (List ℕ)) (w : Where) (r : Bor (List ℕ)) : Type 0 where
  pub bytes : r.now ≡ bytes_at w (line.now) (labels.now)
  pub lies : r.ref_ptr ≡ begins_at w line.ref_ptr labels.ref_ptr

-- The caption's bytes.
unfoldable pub caption_text : CRecordTurnpoint → ℕ → List ℕ → List ℕ → List ℕ
caption_text point n line labels = bytes_at (caption_of point n line labels) line labels
