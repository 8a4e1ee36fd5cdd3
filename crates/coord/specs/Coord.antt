-- Latitude and longitude, which are types apart.
use Rattle.text.specs.Prelude.{ℕ, Bool, List, Res, ok, bind}
use Rattle.field.specs.Field.{sized, field}
use Rattle.raw_coord.specs.Coord.{lettered, read_coord, new_coord, coord_text, coord_book}
use Rattle.raw_coord.specs.declared.{Compass.Compass, RawCoord.RawCoord}
use Rattle.raw_coord.specs.declared.Compass.TheVariants.{North, South, East, West}
use Rattle.coord.specs.declared.{RawLatitude.RawLatitude, RawLongitude.RawLongitude}

-- A coordinate that is a latitude.
unfoldable pub latitude : Res RawCoord → Res RawLatitude
latitude m = bind m (λ c. ok (record { 0 = c }))

-- A coordinate that is a longitude.
unfoldable pub longitude : Res RawCoord → Res RawLongitude
longitude m = bind m (λ c. ok (record { 0 = c }))

-- DDMMMMMN: eight characters, two of degrees, N or S, at most 90.
unfoldable pub read_latitude : List ℕ → Res RawLatitude
read_latitude s = latitude (field 8 (read_coord 2 90 North South) s)

-- DDDMMMMME: nine characters, three of degrees, E or W, at most 180.
unfoldable pub read_longitude : List ℕ → Res RawLongitude
read_longitude s = longitude (field 9 (read_coord 3 180 East West) s)

-- The same in texts that are known to be ASCII.
unfoldable pub latitude_in : List ℕ → Res RawLatitude
latitude_in s = latitude (sized 8 (read_coord 2 90 North South) s)

-- The same of nine bytes, a longitude.
unfoldable pub longitude_in : List ℕ → Res RawLongitude
longitude_in s = longitude (sized 9 (read_coord 3 180 East West) s)

-- The same of the two numbers and the letter.
unfoldable pub latitude_by : ℕ → ℕ → ℕ → Res RawLatitude
latitude_by g t l = latitude (lettered 90 North South g t l)

-- The same of a longitude.
unfoldable pub longitude_by : ℕ → ℕ → ℕ → Res RawLongitude
longitude_by g t l = longitude (lettered 180 East West g t l)

-- A latitude that is made: to 90 degrees, N or S.
unfoldable pub new_latitude : ℕ → ℕ → Compass → Res RawLatitude
new_latitude g t sign = latitude (new_coord 90 North South g t sign)

-- A longitude that is made: to 180 degrees, E or W.
unfoldable pub new_longitude : ℕ → ℕ → Compass → Res RawLongitude
new_longitude g t sign = longitude (new_coord 180 East West g t sign)

-- Degrees in width 2, thousandths, letter.
abbrev pub latitude_text : RawLatitude → List ℕ
latitude_text l = coord_text 2 l.0

-- Degrees in width 3, thousandths, letter.
abbrev pub longitude_text : RawLongitude → List ℕ
longitude_text l = coord_text 3 l.0

-- A latitude is by the book up to the pole.
unfoldable pub latitude_book : RawLatitude → Bool
latitude_book l = coord_book 90 l.0

-- A longitude is by the book up to the meridian opposite Greenwich.
unfoldable pub longitude_book : RawLongitude → Bool
longitude_book l = coord_book 180 l.0
