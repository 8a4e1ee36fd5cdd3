-- What the answers of a latitude or a longitude are made of.
use Rattle.std.specs.Prelude.{◌≡◌, ◌+◌}
use Rattle.text.specs.Prelude.{ℕ, Bool, List, Res, ok, bind}
use Rattle.field.specs.Field.{sized, field}
use Rattle.raw_coord.specs.Coord.{lettered, read_coord, new_coord, coord_book}
use Rattle.raw_coord.specs.declared.{Compass.Compass, RawCoord.RawCoord}
use Rattle.std.specs.Prelude.{refl}
use Rattle.coord.specs.Coord.{latitude, longitude, read_latitude, read_longitude, latitude_in, longitude_in}
use Rattle.coord.specs.Coord.{latitude_by, longitude_by, new_latitude, new_longitude, latitude_book, longitude_book}
use Rattle.raw_coord.specs.declared.Compass.TheVariants.{North, South, East, West}
use Rattle.coord.specs.declared.{RawLatitude.RawLatitude, RawLongitude.RawLongitude}

-- Each is an answer of the coordinate, of a limit, a width and two directions.
pub record AxisLaws {A : Type 0} (of : RawCoord → A) (coord : A → RawCoord) (limit width : ℕ) (x y : Compass)
    (made : ℕ → ℕ → Compass → Res A) (by : ℕ → ℕ → ℕ → Res A) (in_ascii read : List ℕ → Res A)
    (book : A → Bool) : Type 0 where
  pub made_is : (g t : ℕ) (sign : Compass) → made g t sign ≡ bind (new_coord limit x y g t sign) (λ c. ok (of c))
  pub by_is : (g t l : ℕ) → by g t l ≡ bind (lettered limit x y g t l) (λ c. ok (of c))
  pub in_ascii_is : (s : List ℕ) →
      in_ascii s ≡ bind (sized (width + 6) (read_coord width limit x y) s) (λ c. ok (of c))
  pub read_is : (s : List ℕ) → read s ≡ bind (field (width + 6) (read_coord width limit x y) s) (λ c. ok (of c))
  pub book_is : (a : A) → book a ≡ coord_book limit (coord a)

-- ---- both kinds keep them

-- A coordinate as a latitude.
abbrev pub latitude_of : RawCoord → RawLatitude
latitude_of c = record { 0 = c }

pub latitude_laws : AxisLaws latitude_of (λ l. l.0) 90 2 North South new_latitude latitude_by latitude_in
    read_latitude latitude_book
unfolding latitude new_latitude latitude_by latitude_in read_latitude latitude_book
latitude_laws = record {
  made_is = λ g t sign. refl;
  by_is = λ g t l. refl;
  in_ascii_is = λ s. refl;
  read_is = λ s. refl;
  book_is = λ a. refl;
}

-- A coordinate as a longitude.
abbrev pub longitude_of : RawCoord → RawLongitude
longitude_of c = record { 0 = c }

pub longitude_laws : AxisLaws longitude_of (λ l. l.0) 180 3 East West new_longitude longitude_by
    longitude_in read_longitude longitude_book
unfolding longitude new_longitude longitude_by longitude_in read_longitude longitude_book
longitude_laws = record {
  made_is = λ g t sign. refl;
  by_is = λ g t l. refl;
  in_ascii_is = λ s. refl;
  read_is = λ s. refl;
  book_is = λ a. refl;
}
