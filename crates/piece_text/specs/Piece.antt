-- Fields in plain decimal, each behind the one space that parts it from the field before.
use Rattle.field.specs.declared.Mnemonic.{Mnemonic}
use Rattle.text.specs.Prelude.{None, Option, Some}
use Rattle.std.specs.Prelude.{◌∷◌, ◌++◌}
use Rattle.text.specs.Prelude.{ℕ, code, List, [], padded}
use Rattle.part.specs.declared.{Part.Part}
use Rattle.field.specs.Field.{mnemonic_text}
use Rattle.time.specs.declared.Time.{Time}
use Rattle.date.specs.declared.Date.{Date}
use Rattle.raw_coord.specs.Coord.{compass_letter}
use Rattle.raw_coord.specs.declared.RawCoord.{RawCoord}
use Rattle.position.specs.declared.RawPosition.{RawPosition}
use Rattle.b_record.specs.BRecord.{pressure_text, gps_text}
use Rattle.b_record.specs.declared.{height.PressureAlt.PressureAlt, height.GpsAlt.GpsAlt}

-- A number in plain decimal.
unfoldable pub number_shown : ℕ → List ℕ
number_shown n = (code " " ∷ []) ++ padded 1 n

-- A pressure height in plain decimal.
unfoldable pub pressure_shown : PressureAlt → List ℕ
pressure_shown h = (code " " ∷ []) ++ pressure_text 1 h

-- A GPS height in plain decimal.
unfoldable pub gps_shown : GpsAlt → List ℕ
gps_shown h = (code " " ∷ []) ++ gps_text 1 h

-- A byte as it is.
unfoldable pub byte_shown : ℕ → List ℕ
byte_shown b = (code " " ∷ []) ++ (b ∷ [])

-- START+LEN, counted from the line's start.
unfoldable pub place_text : Part → List ℕ
place_text p = padded 1 p.start ++ ((code "+" ∷ []) ++ padded 1 p.len)

-- A part of the line, as START+LEN.
unfoldable pub part_shown : Part → List ℕ
part_shown p = (code " " ∷ []) ++ place_text p

-- `-` for none.
unfoldable pub maybe_shown : Option Part → List ℕ
maybe_shown None = byte_shown (code "-")
maybe_shown (Some p) = part_shown p

-- Numbers parted by a mark.
unfoldable pub two_marked : ℕ → ℕ → ℕ → List ℕ
two_marked mark b c = (mark ∷ []) ++ (padded 1 b ++ ((mark ∷ []) ++ padded 1 c))

-- Three numbers parted by a mark.
unfoldable pub three_shown : ℕ → ℕ → ℕ → ℕ → List ℕ
three_shown mark a b c = number_shown a ++ two_marked mark b c

-- H:M:S.
unfoldable pub time_shown : Time → List ℕ
time_shown t = three_shown (code ":") t.hours t.minutes t.seconds

-- D/M/Y.
unfoldable pub date_shown : Date → List ℕ
date_shown d = three_shown (code "/") d.day d.month d.year

-- A flight date, `-` for none.
unfoldable pub flight_shown : Option Date → List ℕ
flight_shown None = byte_shown (code "-")
flight_shown (Some d) = date_shown d

-- Degrees, thousandths and letter.
unfoldable pub coord_shown : RawCoord → List ℕ
coord_shown c = number_shown c.degrees
    ++ (number_shown c.minute_thousandths ++ byte_shown (compass_letter c.sign))

-- Latitude's, then longitude's.
unfoldable pub position_shown : RawPosition → List ℕ
position_shown p = coord_shown p.lat.0 ++ coord_shown p.lon.0

-- A maker's codes as they are.
unfoldable pub letter_shown : Option ℕ → List ℕ
letter_shown None = byte_shown (code "-")
letter_shown (Some b) = byte_shown b

-- A maker's triple, `-` for none.
unfoldable pub triple_shown : Option Mnemonic → List ℕ
triple_shown None = byte_shown (code "-")
triple_shown (Some t) = (code " " ∷ []) ++ mnemonic_text t
