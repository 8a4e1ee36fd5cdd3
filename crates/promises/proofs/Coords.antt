-- Coordinates and positions come back.
use Rattle.text.specs.Prelude.{ℕ, ◌+◌, ◌≡◌, Bool, List, [], ◌∷◌, ◌++◌, length, drop, ◌∨?◌, byte, cut}
use Rattle.text.proofs.Prelude.{arith, refl, sym, is=}
use native.Mathlib.Nat.{zero-add}
use Rattle.text.proofs.Finds.{Finds, finds_ok, finds_no, finds_bind, finds_guard, finds_pick}
use Rattle.raw_coord.specs.Coord.{compass_letter, sign_of, coord_of, lettered, read_coord, coord_text}
use Rattle.coord.specs.Coord.{latitude, longitude, latitude_in, longitude_in, latitude_text, longitude_text}
use Rattle.raw_coord.specs.declared.Compass.{Compass}
use Rattle.raw_coord.specs.declared.Compass.TheVariants.{North, South, East, West}
use Rattle.position.specs.Position.{read_both, read_position, position_text}
use Rattle.promises.specs.Odd.{coord_plus, position_plus}
use Rattle.promises.proofs.Columns.{cut_joined, last_byte, finds_columns, finds_sized, finds_field}
use Rattle.promises.proofs.Copies.{Copy, copy_append, copy_columns, copy_rest, copy_last, finds_copy}
use Rattle.promises.proofs.Numbers.{nat_copy}

pub sign_same : (x y : Compass) (l : ℕ) → Finds (sign_of x y l) (λ c. compass_letter c ≡ l)
unfolding sign_of
sign_same x y l = finds_pick (λ e. finds_ok (sym (is= e)))
    (λ _. finds_pick (λ e. finds_ok (sym (is= e))) (λ _. finds_no))

-- w columns from the start on, and then those behind them
copy_front : (s : List ℕ) (w : ℕ) {o p : Bool} {t u : List ℕ} → Copy o (cut 0 w s) t → Copy p (drop w s) u →
    Copy (o ∨? p) s (t ++ u)
copy_front s w c d = let j : cut 0 w s ++ drop w s ≡ s = rw zero-add at (cut_joined 0 w s) in rw j at (copy_append c d)

pub coord_makes : (d limit g t : ℕ) (c : Compass) →
    Finds (coord_of limit g t c)
    (λ v. coord_text d v ≡ coord_text d (record { degrees = g; minute_thousandths = t; sign = c }))
unfolding coord_of
coord_makes d limit g t c = finds_guard _ (λ _. finds_ok refl)

coord_copy : (d limit : ℕ) (x y : Compass) (s : List ℕ) → length s ≡ d + 6 →
    Finds (read_coord d limit x y s) (λ c. Copy (coord_plus d s) s (coord_text d c))
unfolding lettered read_coord coord_plus coord_text
coord_copy d limit x y s l =
    finds_bind (rw zero-add at (nat_copy 0 d 255 s (omega arith))) (λ g cg.
    finds_bind (nat_copy d 5 65535 s (omega arith)) (λ t ct.
    finds_bind (sign_same x y (byte (d + 5) s)) (λ c ec.
    let end : compass_letter c ∷ [] ≡ drop (d + 5) s = rw ec (last_byte (d + 5) s (omega arith)) in
    finds_copy (coord_text d) (coord_makes d limit g t c) (copy_front s d cg (rw (← end) at (copy_rest s d 5 ct))))))

-- ---- latitude and longitude, types apart

latitude_copy : (s : List ℕ) → Finds (latitude_in s) (λ l. Copy (coord_plus 2 s) s (latitude_text l))
unfolding latitude_in latitude
latitude_copy s = finds_bind (finds_sized _ s 8 (coord_copy 2 90 North South s)) (λ c e. finds_ok e)

longitude_copy : (s : List ℕ) → Finds (longitude_in s) (λ l. Copy (coord_plus 3 s) s (longitude_text l))
unfolding longitude_in longitude
longitude_copy s = finds_bind (finds_sized _ s 9 (coord_copy 3 180 East West s)) (λ c e. finds_ok e)

-- ---- a position

pub position_copy : (s : List ℕ) → Finds (read_position s) (λ p. Copy (position_plus s) s (position_text p))
unfolding read_position read_both position_plus position_text
position_copy s =
    finds_field _ s 17 (λ l.
    finds_bind (finds_columns _ s 0 8 (latitude_copy (cut 0 8 s))) (λ lat ca.
    finds_bind (finds_columns _ s 8 17 (longitude_copy (cut 8 17 s))) (λ lon co.
    finds_ok (copy_columns s 0 8 ca (copy_last s 8 17 l co)))))
