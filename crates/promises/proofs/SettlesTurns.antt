-- What is read as a turnpoint is one by column 8, and what is read as a declaration is none.
use Rattle.text.specs.Prelude.{ℕ, zero, suc, ◌≤◌, ◌≡◌, Bool, true, false, List, [], ◌∷◌, drop, pick, ◌=?◌, ◌∨?◌, byte}
use Rattle.text.specs.Prelude.{read_nat_of, read_digits_of, all_digits_of}
use Rattle.text.proofs.Prelude.{arith, refl, get_or-drop, no=}
use Rattle.text.proofs.Finds.{Finds, finds_any, finds_map, finds_ok, finds_no, finds_bind, finds_guard, finds_pick}
use Rattle.text.proofs.Decimal.{head_digit}
use Rattle.field.specs.Field.{ascii_in}
use Rattle.field.proofs.Digits.{byte_cut}
use Rattle.three.specs.Three.{read_three_of}
use Rattle.time.specs.Time.{read_time_of}
use Rattle.raw_coord.specs.Coord.{compass_letter, sign_of, lettered, read_coord}
use Rattle.raw_coord.specs.declared.Compass.TheVariants.{North, South}
use Rattle.coord.specs.Coord.{latitude, latitude_in}
use Rattle.position.specs.Position.{read_both, read_position}
use Rattle.c_record.specs.CRecord.{turns, read_declaration}
use Rattle.c_turnpoint_record.specs.CTurnpoint.{read_turnpoint}
use Rattle.promises.proofs.Columns.{finds_columns, finds_sized, finds_field}
use Rattle.promises.proofs.Copies.{neither_odd}

-- ---- turnpoints: the letter of their latitude

first_holds : {a : Bool} (b : Bool) → a ≡ true → (a ∨? b) ≡ true
unfolding ◌∨?◌ pick
first_holds b p = rw p

second_holds : (a : Bool) {b : Bool} → b ≡ true → (a ∨? b) ≡ true
unfolding ◌∨?◌ pick
second_holds true p = refl
second_holds false p = p

letter_turns : (l : ℕ) → Finds (sign_of North South l) (λ _. ((l =? 78) ∨? (l =? 83)) ≡ true)
unfolding sign_of compass_letter
letter_turns l = finds_pick (λ e. finds_ok (first_holds _ e))
    (λ _. finds_pick (λ e. finds_ok (second_holds _ e)) (λ _. finds_no))

latitude_turns : (s : List ℕ) → Finds (latitude_in s) (λ _. ((byte 7 s =? 78) ∨? (byte 7 s =? 83)) ≡ true)
unfolding latitude_in latitude read_coord lettered
latitude_turns s =
    finds_bind (finds_sized _ s 8 (λ _.
    finds_bind finds_any (λ _ _.
    finds_bind finds_any (λ _ _.
    finds_bind (letter_turns (byte 7 s)) (λ _ e. finds_map finds_any (λ _ _. e)))))) (λ _ e. finds_ok e)

position_turns : (s : List ℕ) → Finds (read_position s) (λ _. ((byte 7 s =? 78) ∨? (byte 7 s =? 83)) ≡ true)
unfolding read_position read_both
position_turns s =
    finds_field _ s 17 (λ _.
    finds_bind (finds_columns _ s 0 8 (latitude_turns _)) (λ _ e.
    finds_bind finds_any (λ _ _. finds_ok (rw (byte_cut 0 8 7 s (omega arith)) at e))))

pub turnpoint_turns : (s : List ℕ) → Finds (read_turnpoint s) (λ _. turns s ≡ true)
unfolding read_turnpoint ascii_in turns
turnpoint_turns s =
    finds_guard _ (λ _. finds_guard _ (λ _. finds_guard _ (λ _.
    finds_bind (finds_columns _ s 1 18 (position_turns _)) (λ _ e.
    finds_ok (rw (byte_cut 1 18 7 s (omega arith)) at e)))))

-- ---- declarations: a digit of their hours

below : (s : List ℕ) (i : ℕ) → all_digits_of s ≡ true → byte i s ≤ 57
below [] i h = omega arith
below (b ∷ s) zero h = (head_digit b s h).1
below (b ∷ s) (suc i) h = below s i (head_digit b s h).2

digits_below : (sign most : ℕ) (s : List ℕ) (i : ℕ) → Finds (read_digits_of sign most s) (λ _. byte i s ≤ 57)
unfolding read_digits_of
digits_below sign most s i =
    finds_guard _ (λ _. finds_guard _ (λ h. finds_guard _ (λ _. finds_ok (below s i h))))

number_below : (most : ℕ) (s : List ℕ) → Finds (read_nat_of most s) (λ _. byte 1 s ≤ 57)
unfolding read_nat_of
number_below most s = finds_pick (λ _. rw (get_or-drop 1 s 0 0) at (digits_below 1 most (drop 1 s) 0))
    (λ _. digits_below 0 most s 1)

time_below : (s : List ℕ) → Finds (read_time_of s) (λ _. byte 1 s ≤ 57)
unfolding read_time_of read_three_of
time_below s =
    finds_field _ s 6 (λ _.
    finds_bind (finds_columns _ s 0 2 (number_below 255 _)) (λ _ e.
    finds_bind finds_any (λ _ _.
    finds_bind finds_any (λ _ _. finds_map finds_any (λ _ _. rw (byte_cut 0 2 1 s (omega arith)) at e)))))

no_letter : {b : ℕ} → b ≤ 57 → ((b =? 78) ∨? (b =? 83)) ≡ false
no_letter h = neither_odd (no= (λ e. omega arith)) (no= (λ e. omega arith))

pub declaration_turns : (s : List ℕ) → Finds (read_declaration s) (λ _. turns s ≡ false)
unfolding read_declaration ascii_in turns
declaration_turns s =
    finds_guard _ (λ _. finds_guard _ (λ _. finds_guard _ (λ _.
    finds_bind finds_any (λ _ _.
    finds_bind (finds_columns _ s 7 13 (time_below _)) (λ _ e.
    finds_bind finds_any (λ _ _.
    finds_bind finds_any (λ _ _. finds_ok (no_letter (rw (byte_cut 7 13 1 s (omega arith)) at e)))))))))
