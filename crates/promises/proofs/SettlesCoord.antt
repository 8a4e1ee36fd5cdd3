-- Coordinates and positions settle.
use Rattle.text.specs.Prelude.{ℕ, ◌+◌, ◌≡◌, true, List, [], ◌∷◌, ◌++◌, length, ok, byte, read_nat_of, plus, padded}
use Rattle.text.proofs.Prelude.{arith, refl, sym, length-append, on}
use native.Mathlib.Nat.{zero-add}
use Rattle.text.proofs.Finds.{Finds, finds_map, finds_ok, finds_bind}
use Rattle.field.specs.Field.{is_ascii_of}
use Rattle.raw_coord.specs.Coord.{compass_letter, sign_of, coord_of, lettered, read_coord, coord_text}
use Rattle.coord.specs.Coord.{latitude, longitude, latitude_in, longitude_in, latitude_text, longitude_text}
use Rattle.raw_coord.specs.declared.{Compass.Compass, RawCoord.RawCoord}
use Rattle.raw_coord.specs.declared.Compass.TheVariants.{North, South, East, West}
use Rattle.position.specs.Position.{read_both, read_position, position_text}
use Rattle.promises.specs.Odd.{coord_plus, position_plus}
use Rattle.promises.proofs.Columns.{finds_columns, finds_sized, finds_field}
use Rattle.promises.proofs.Copies.{neither_odd}
use Rattle.promises.proofs.Coords.{sign_same, coord_makes}
use Rattle.promises.proofs.Settling.{ascii_byte, ascii_append, At, next, last, byte_at, Piece, piece_by}
use Rattle.promises.proofs.Settling.{piece_sized, piece_field, piece_read, piece_plain, nat_in}

-- ---- the letter

sign_again : (x y : Compass) (l : ℕ) → Finds (sign_of x y l) (λ c. sign_of x y (compass_letter c) ≡ ok c)
sign_again x y l = record { found = λ c e. rw ((sign_same x y l).found c e) e }

ascii_letter : (c : Compass) → is_ascii_of (compass_letter c ∷ []) ≡ true
unfolding compass_letter
ascii_letter North = ascii_byte (omega arith)
ascii_letter South = ascii_byte (omega arith)
ascii_letter East = ascii_byte (omega arith)
ascii_letter West = ascii_byte (omega arith)

-- ---- a coordinate of d characters of degrees

module _ (d limit : ℕ) (n m : Compass) where
  coord_made : {g t : ℕ} {c : Compass} {v : RawCoord} {x : List ℕ} → Piece (read_nat_of 255) plus d g (padded d g) →
      Piece (read_nat_of 65535) plus 5 t (padded 5 t) → sign_of n m (compass_letter c) ≡ ok c → coord_of limit g t c ≡ ok v →
      x ≡ coord_text d (record { degrees = g; minute_thousandths = t; sign = c }) →
      Piece (read_coord d limit n m) (coord_plus d) (d + 6) v x
  unfolding read_coord lettered coord_plus coord_text
  coord_made {g} {t} {c} {v} {x} p q f e i =
      let end : List ℕ = compass_letter c ∷ [] in
      let at_g : At x 0 (padded d g) (padded 5 t ++ end) = record { is = i } in
      let at-d : At x (0 + d) (padded 5 t) end = next p.long at_g in
      let at-t : At x d (padded 5 t) end = rw zero-add at at-d in
      let letter : byte (d + 5) x ≡ compass_letter c = byte_at (last q.long at-t) in
      record {
        long = rw i (simp length-append (omega (arith, p.long, q.long)));
        reads = sym (on _ (rw zero-add at (piece_read p at_g)) (on _ (piece_read q at-t)
            (rw letter (on _ (sym f) (sym e)))));
        plain = neither_odd (rw zero-add at (piece_plain p at_g)) (piece_plain q at-t);
        ascii = rw i (ascii_append (padded d g) _ p.ascii (ascii_append (padded 5 t) _ q.ascii (ascii_letter c)));
      }

  coord_piece : (s : List ℕ) → length s ≡ d + 6 →
      Finds (read_coord d limit n m s) (λ v. Piece (read_coord d limit n m) (coord_plus d) (d + 6) v (coord_text d v))
  unfolding read_coord lettered
  coord_piece s l =
      finds_bind (rw zero-add at (nat_in 0 d 255 s (omega arith))) (λ g p.
      finds_bind (nat_in d 5 65535 s (omega arith)) (λ t q.
      finds_bind (sign_again n m (byte (d + 5) s)) (λ c f.
      record { found = λ v e. coord_made p q f e ((coord_makes d limit g t c).found v e) })))

-- ---- latitude and longitude, types apart

latitude_piece : (s : List ℕ) → Finds (latitude_in s) (λ l. Piece latitude_in (coord_plus 2) 8 l (latitude_text l))
unfolding latitude_in latitude
latitude_piece s =
    finds_bind (finds_sized _ s 8 (λ l. finds_map (coord_piece 2 90 North South s l) (λ v p. piece_sized p))) (λ c p.
    finds_ok (piece_by p (sym (on _ (sym p.reads) refl))))

longitude_piece : (s : List ℕ) → Finds (longitude_in s) (λ l. Piece longitude_in (coord_plus 3) 9 l (longitude_text l))
unfolding longitude_in longitude
longitude_piece s =
    finds_bind (finds_sized _ s 9 (λ l. finds_map (coord_piece 3 180 East West s l) (λ v p. piece_sized p))) (λ c p.
    finds_ok (piece_by p (sym (on _ (sym p.reads) refl))))

-- ---- a position

both_piece : (s : List ℕ) → Finds (read_both s) (λ p. Piece read_both position_plus 17 p (position_text p))
unfolding read_both position_plus position_text
both_piece s =
    finds_bind (finds_columns _ s 0 8 (latitude_piece _)) (λ lat p.
    finds_bind (finds_columns _ s 8 17 (longitude_piece _)) (λ lon q.
    finds_ok (
    let x : List ℕ = latitude_text lat ++ longitude_text lon in
    let at-lat : At x 0 (latitude_text lat) (longitude_text lon) = record { is = refl } in
    let at-lon : At x 8 (longitude_text lon) [] = last p.long at-lat in
    record {
      long = simp length-append (omega (arith, p.long, q.long));
      reads = sym (on _ (piece_read p at-lat) (on _ (piece_read q at-lon) refl));
      plain = neither_odd (piece_plain p at-lat) (piece_plain q at-lon);
      ascii = ascii_append (latitude_text lat) _ p.ascii q.ascii;
    })))

pub position_piece : (s : List ℕ) → Finds (read_position s) (λ p. Piece read_position position_plus 17 p (position_text p))
unfolding read_position
position_piece s = finds_field _ s 17 (λ _. finds_map (both_piece s) (λ v p. piece_field p))
