-- A position: latitude first.
use Rattle.std.specs.Prelude.{◌++◌}
use Rattle.text.specs.Prelude.{ℕ, Bool, List, Res, ok, bind, ◌∧?◌, columns}
use Rattle.field.specs.Field.{sized, field}
use Rattle.coord.specs.Coord.{latitude_in, longitude_in, latitude_text, longitude_text, latitude_book, longitude_book}
use Rattle.position.specs.declared.{RawPosition.RawPosition}

-- Latitude, then longitude.
unfoldable pub read_both : List ℕ → Res RawPosition
read_both s =
    bind (columns 0 8 latitude_in s) (λ lat.
    bind (columns 8 17 longitude_in s) (λ lon.
    ok (record { lat = lat; lon = lon })))

-- A position of 17 characters.
unfoldable pub read_position : List ℕ → Res RawPosition
read_position = field 17 read_both

-- The same in a text that is known to be ASCII.
unfoldable pub position_in : List ℕ → Res RawPosition
position_in = sized 17 read_both

-- The latitude's text, then the longitude's.
unfoldable pub position_text : RawPosition → List ℕ
position_text p = latitude_text p.lat ++ longitude_text p.lon

-- By the book: both coordinates are.
unfoldable pub position_book : RawPosition → Bool
position_book p = latitude_book p.lat ∧? longitude_book p.lon
