-- The text of the program `positions`: a line for each accepted fix.
use Rattle.std.specs.Prelude.{◌∷◌, ◌++◌, Result}
use Rattle.text.specs.Prelude.{ℕ, code, List, [], Option, Some, None, Res, ok, no, placed, LF, padded, signed}
use Rattle.b_record.specs.declared.BRecord.{BRecord}
use Rattle.records.specs.Record.{answer_fix}
use Rattle.records.specs.declared.{Record.Record}
use Rattle.igc_log.specs.Log.{readings}
use Rattle.igc_log.specs.Fold.{texts}
use Rattle.held.specs.declared.tables.Tables.{Tables}
use Rattle.walk.specs.Readings.{LineReading, reader}
use Rattle.finer.specs.Finer.{finer_position, finer_number, finer_place}
use Rattle.finer.specs.declared.{FinerCoord.FinerCoord, FinerLatitude.FinerLatitude, FinerLongitude.FinerLongitude}
use Rattle.finer.specs.declared.{FinerPosition.FinerPosition, FinerRefusal.FinerRefusal}

-- A number of either sign and its n, each behind a space, in plain decimal.
unfoldable pub coord_shown : FinerCoord → List ℕ
coord_shown f = (code " " ∷ []) ++ (signed 1 f.value ++ ((code " " ∷ []) ++ padded 1 f.n))

-- A latitude so.
abbrev pub latitude_shown : FinerLatitude → List ℕ
latitude_shown l = coord_shown l.0

-- A longitude so.
abbrev pub longitude_shown : FinerLongitude → List ℕ
longitude_shown l = coord_shown l.0

-- `@` and the place of the byte to look at, where there is one.
unfoldable pub place_shown : Option ℕ → List ℕ
place_shown place = placed (λ k. (code "@" ∷ []) ++ padded 1 k) [] place

-- The number of a refusal behind a space, and its place.
unfoldable pub refusal_shown : FinerRefusal → List ℕ
refusal_shown n = (code " " ∷ []) ++ (padded 1 (finer_number n) ++ place_shown (finer_place n))

-- Latitude and then longitude, or the refusal.
unfoldable pub position_shown : Result FinerPosition FinerRefusal → List ℕ
position_shown (ok p) = latitude_shown p.lat ++ longitude_shown p.lon
position_shown (no n) = refusal_shown n

-- A fix in line n with the text s, at which h is in force: the line's number and the position.
unfoldable pub fix_shown : ℕ → List ℕ → Tables → BRecord → List ℕ
fix_shown n s h fix = padded 1 n ++ (position_shown (finer_position fix h s) ++ (LF ∷ []))

-- Nothing where there is no fix.
unfoldable pub maybe_shown : ℕ → List ℕ → Tables → Option BRecord → List ℕ
maybe_shown n s h (Some fix) = fix_shown n s h fix
maybe_shown n s h None = []

-- Line n with the text s, answered m, at which h is in force: a line for an accepted fix, and for no other.
unfoldable pub positions_line : ℕ → List ℕ → Res Record → Tables → List ℕ
positions_line n s m h = maybe_shown n s h (answer_fix m)

-- The line of a reading.
unfoldable pub positions_of : LineReading → List ℕ
positions_of x = positions_line x.number x.line x.answer x.held

-- What is shown of a log: a line for each accepted fix of a fresh walk.
unfoldable pub positions_text_of : List ℕ → List ℕ
positions_text_of log = texts positions_of (readings reader log)
