-- The flight date of a declaration settles: one of zeros with a plus becomes none.
use Rattle.text.specs.Prelude.{ℕ, zero, suc, ◌+◌, ◌-◌, ◌*◌, ◌≤◌, ◌≡◌, Bool, true, false, List, [], ◌∷◌, ◌++◌, length}
use Rattle.text.specs.Prelude.{ok, bind, pick, ◌≤?◌, ◌=?◌, ◌∧?◌, ◌∨?◌, cut, read_nat_of, read_digits_of, zeros, plus, padded}
use Rattle.text.specs.Prelude.{value_from, None, Option, Some}
use Rattle.text.proofs.Prelude.{arith, refl, sym, ap, ◌∙◌, yes=, no=, is=, by_test, never}
use Rattle.text.proofs.Finds.{Finds, finds_map, finds_ok, finds_bind, finds_guard, finds_pick}
use Rattle.text.proofs.Decimal.{head_digit, zero_zeros, all_padded, value_padded}
use Rattle.text.proofs.RoundTrip.{padded_read}
use Rattle.text.proofs.Lines.{cut_length}
use Rattle.field.specs.Field.{is_ascii_of}
use Rattle.three.specs.Three.{read_three_of, three_text}
use Rattle.date.specs.Date.{read_date, date_text}
use Rattle.date.specs.declared.Date.{Date}
use Rattle.c_record.specs.CRecord.{read_flight_of, flight_text}
use Rattle.promises.specs.Odd.{three_plus}
use Rattle.promises.specs.Settle.{pair_zero}
use Rattle.promises.proofs.Columns.{finds_columns, finds_field}
use Rattle.promises.proofs.Numbers.{not_zeros}
use Rattle.promises.proofs.Times.{date_makes, date_copy}
use Rattle.promises.proofs.Settling.{finds_itself, Piece, piece_by, date_piece}

-- ---- two columns are zero exactly where their number prints as zeros

zeros_padded : (w n : ℕ) → zeros (padded w n) ≡ (n =? 0)
zeros_padded w zero = zero_zeros (padded w 0) (all_padded w 0) (value_padded w 0) ∙ sym (yes= refl)
zeros_padded w (suc n) = not_zeros w n ∙ sym (no= (λ e. omega (arith, e)))

one_digit : (b : ℕ) → 48 ≤ b → (0 * 10 + (b - 48) =? 0) ≡ (b =? 48)
one_digit b h =
    by_test (b =? 48)
    (λ e. yes= (omega (arith, is= e)) ∙ sym e)
    (λ e. no= (λ z. never (yes= (omega arith)) e) ∙ sym e)

plain_pair : (a b : ℕ) → (a =? 43) ≡ false → zeros (a ∷ b ∷ []) ≡ pair_zero (a ∷ b ∷ [])
unfolding zeros pair_zero ◌∨?◌ ◌∧?◌ pick
plain_pair a b e =
    by_test (a =? 48) (λ p. by_test (b =? 48) (λ q. rw (p, q)) (λ q. rw (p, q))) (λ p. rw (p, e))

plus_pair : (a b : ℕ) → (a =? 43) ≡ true → pair_zero (a ∷ b ∷ []) ≡ (b =? 48)
unfolding pair_zero ◌∨?◌ ◌∧?◌ pick
plus_pair a b e = by_test (a =? 48) (λ p. rw p) (λ p. rw (p, e))

pair_zero_lem : (most : ℕ) (s : List ℕ) → length s ≡ 2 →
    Finds (read_nat_of most s) (λ v. zeros (padded 2 v) ≡ pair_zero s)
unfolding read_nat_of read_digits_of plus value_from
pair_zero_lem most [] l = absurd (omega arith)
pair_zero_lem most (a ∷ []) l = absurd (omega arith)
pair_zero_lem most (a ∷ b ∷ c ∷ s) l = absurd (omega arith)
pair_zero_lem most (a ∷ b ∷ []) l =
    by_test (a =? 43)
    (λ e. finds_pick
    (λ _. finds_guard _ (λ _. finds_guard _ (λ ds. finds_guard _ (λ _.
    finds_ok (zeros_padded 2 _ ∙ one_digit b (head_digit b [] ds).0 ∙ sym (plus_pair a b e))))))
    (λ n. never e n))
    (λ e. finds_map (padded_read most 2 (a ∷ b ∷ []) l e) (λ v q. ap zeros q ∙ plain_pair a b e))

-- ---- a date prints as zeros exactly where its columns are

-- six columns, two and two
unfoldable pub pairs_zero : List ℕ → Bool
pairs_zero s = pair_zero (cut 0 2 s) ∧? pair_zero (cut 2 4 s) ∧? pair_zero (cut 4 6 s)

zeros_append : (s t : List ℕ) → zeros (s ++ t) ≡ (zeros s ∧? zeros t)
unfolding zeros ◌∧?◌ pick
zeros_append [] t = refl
zeros_append (b ∷ s) t = by_test (b =? 48) (λ e. rw e (zeros_append s t)) (λ e. rw e)

zeros_three : (a b c : ℕ) → zeros (three_text a b c) ≡ (zeros (padded 2 a) ∧? zeros (padded 2 b) ∧? zeros (padded 2 c))
unfolding three_text
zeros_three a b c = zeros_append (padded 2 a) _ ∙ rw (zeros_append (padded 2 b) (padded 2 c))

date_zero : (s : List ℕ) → Finds (read_date s) (λ d. zeros (date_text d) ≡ pairs_zero s)
unfolding read_date read_three_of pairs_zero
date_zero s =
    finds_field _ s 6 (λ l.
    finds_bind (finds_columns _ s 0 2 (pair_zero_lem 255 _ (cut_length 0 2 s (omega arith)))) (λ a p.
    finds_bind (finds_columns _ s 2 4 (pair_zero_lem 255 _ (cut_length 2 2 s (omega arith)))) (λ b q.
    finds_bind (finds_columns _ s 4 6 (pair_zero_lem 255 _ (cut_length 4 2 s (omega arith)))) (λ c r.
    finds_map (date_makes a b c) (λ d e. ap zeros e ∙ zeros_three a b c ∙ rw (p, q, r))))))

-- ---- the flight date

-- six columns that are zeros with a plus among them
unfoldable pub flight_zero : List ℕ → Bool
flight_zero s = three_plus s ∧? pairs_zero s

same_pick : {A : Type 0} (t : Bool) (a : A) → pick t a a ≡ a
unfolding pick
same_pick true a = refl
same_pick false a = refl

-- no flight date
none_piece : Piece read_flight_of three_plus 6 None (flight_text None)
unfolding read_flight_of flight_text three_plus plus cut zeros is_ascii_of ◌≤?◌ ◌=?◌ ◌∧?◌ ◌∨?◌ pick
none_piece = record { long = refl; reads = refl; plain = refl; ascii = refl }

-- a date that is read from other columns than zeros
date_again : (s : List ℕ) (d : Date) → zeros s ≡ false → read_date s ≡ ok d →
    Piece read_flight_of three_plus 6 (pick (flight_zero s) None (Some d)) (date_text d)
unfolding read_flight_of flight_zero bind pick ◌∧?◌
date_again s d n r =
    let p = (date_piece s).found d r in
    let z = (date_zero s).found d r in
    piece_by p (by_test (zeros (date_text d))
    (λ e. by_test (three_plus s)
    (λ t. rw (← z, e, t))
    (λ t. never (ap zeros (sym (((date_copy s).found d r).same t)) ∙ e) n))
    (λ e. rw (← z, e, p.reads, same_pick (three_plus s) false)))

pub flight_piece : (s : List ℕ) →
    Finds (read_flight_of s)
    (λ f. Piece read_flight_of three_plus 6 (pick (flight_zero s) None f) (flight_text f))
unfolding read_flight_of flight_text
flight_piece s =
    finds_pick
    (λ _. finds_ok (rw (same_pick {A = Option Date} (flight_zero s) None) none_piece))
    (λ n. finds_bind finds_itself (λ d r. finds_ok (date_again s d n r)))
