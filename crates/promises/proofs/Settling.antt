-- What is read prints as a text that reads as the same value, is not odd, and is ASCII: numbers, times, dates. And what
-- stands in the columns of a text that is made of pieces.
use Rattle.text.specs.Prelude.{ℕ, ◌+◌, ◌-◌, ◌≤◌, ◌≡◌, Bool, true, false, List, [], ◌∷◌, ◌++◌, length, drop, ℤ}
use Rattle.text.specs.Prelude.{pos, negsuc, Res, ok, byte, cut, columns, read_nat_of, read_int_of, all_digits_of, plus, padded}
use Rattle.text.specs.Prelude.{signed, pick, ◌≤?◌}
use Rattle.text.proofs.Prelude.{arith, refl, sym, ap, ◌∙◌, append-nil, drop-drop, length-append, get_or-drop, take_at}
use Rattle.text.proofs.Prelude.{on, found_in, pass, yes≤, yes=, by_test, both, and}
use native.Mathlib.Nat.{add-zero, add-sub_cancel_left, sub_self}
use lib.Seq.{drop_at, take-append-add}
use Rattle.part.specs.Part.{bytes_of, rest_from, name_from}
use Rattle.text.proofs.Finds.{Finds, finds_map, finds_bind}
use Rattle.text.proofs.Decimal.{head_digit, all_padded}
use Rattle.text.proofs.RoundTrip.{nat_columns, int_columns, nat_settles, int_settles}
use Rattle.text.proofs.Lines.{cut_length}
use Rattle.field.specs.Field.{is_ascii_of, sized, ascii_in, ascii, field}
use Rattle.field.proofs.Ascii.{cut_ascii}
use Rattle.three.specs.Three.{read_three_of, three_text}
use Rattle.time.specs.Time.{time_of, read_time_of, time_text}
use Rattle.date.specs.Date.{date_of, read_date, date_text}
use Rattle.records.specs.declared.Record.{Record}
use Rattle.promises.specs.Odd.{three_plus, signed_odd}
use Rattle.promises.specs.Settle.{texts_of, maybe_one, bytes_in}
use Rattle.promises.proofs.Columns.{to_end, finds_columns, finds_field}
use Rattle.promises.proofs.Copies.{neither_odd}
use Rattle.promises.proofs.Numbers.{plain_padded, plain_signed}
use Rattle.promises.proofs.Times.{time_makes, date_makes}

-- ---- what is promised of a line

-- The line s was read as r, and prints as m. That is a text; it reads as `again`, is not odd, begins with the letter,
-- and each text of the record is the same bytes there.
pub record Kept {R : Type 0} (read : List ℕ → Res R) (odd : List ℕ → Bool) (letter : ℕ) (wrap : R → Record)
    (s : List ℕ) (r again : R) (m : Res (List ℕ)) : Type 0 where
  pub text : List ℕ
  pub prints : ok text ≡ m
  pub reads : read text ≡ ok again
  pub plain : odd text ≡ false
  pub first : byte 0 text ≡ letter
  pub same : bytes_in text (texts_of (wrap again)) ≡ bytes_in s (texts_of (wrap r))

-- ---- what is found, and by which reading

pub finds_itself : {A : Type 0} {m : Res A} → Finds m (λ v. m ≡ ok v)
finds_itself = record { found = λ v e. e }

-- ---- ASCII

pub ascii_byte : {b : ℕ} → b ≤ 127 → is_ascii_of (b ∷ []) ≡ true
unfolding is_ascii_of
ascii_byte h = and (yes≤ h) refl

pub ascii_append : (s t : List ℕ) → is_ascii_of s ≡ true → is_ascii_of t ≡ true → is_ascii_of (s ++ t) ≡ true
unfolding is_ascii_of
ascii_append [] t p q = q
ascii_append (b ∷ s) t p q = let k = both p in and k.0 (ascii_append s t k.1 q)

pub ascii_rest : (a : ℕ) (s : List ℕ) → is_ascii_of s ≡ true → is_ascii_of (drop a s) ≡ true
ascii_rest a s h = rw (to_end a (length s) s refl) at (cut_ascii a (length s) s h)

ascii_digits : (s : List ℕ) → all_digits_of s ≡ true → is_ascii_of s ≡ true
unfolding is_ascii_of
ascii_digits [] h = refl
ascii_digits (b ∷ s) h = let k = head_digit b s h in and (yes≤ (omega (arith, k.1))) (ascii_digits s k.2)

pub ascii_padded : (w n : ℕ) → is_ascii_of (padded w n) ≡ true
ascii_padded w n = ascii_digits (padded w n) (all_padded w n)

pub ascii_signed : (w : ℕ) (z : ℤ) → is_ascii_of (signed w z) ≡ true
unfolding signed is_ascii_of
ascii_signed w (pos n) = ascii_padded w n
ascii_signed w (negsuc n) = and (yes≤ (omega arith)) (ascii_padded (w - 1) _)

-- ---- columns of a text made of pieces

-- from column a on the text x is t and then u
pub record At (x : List ℕ) (a : ℕ) (t u : List ℕ) : Type 0 where
  pub is : drop a x ≡ t ++ u

pub at_start : (t u : List ℕ) → At (t ++ u) 0 t u
at_start t u = record { is = refl }

-- t is of w columns
module _ {x t u : List ℕ} {a w : ℕ} (l : length t ≡ w) (d : At x a t u) where
  -- it stands in them,
  pub stands : cut a (a + w) x ≡ t
  unfolding cut
  stands = rw (add-sub_cancel_left a w, d.is) (take_at t u w l)

  -- u stands behind them,
  pub behind : drop (a + w) x ≡ u
  behind = sym (drop-drop w a x) ∙ ap (drop w) d.is ∙ drop_at t u w l

  -- and nothing else
  pub last : At x (a + w) u []
  last = record { is = behind ∙ sym (append-nil u) }

-- columns up to b begin with them
pub cut_begins : {x t u : List ℕ} {a w : ℕ} (b : ℕ) → a + w ≤ b → length t ≡ w → At x a t u →
    cut a b x ≡ t ++ cut (a + w) b x
unfolding cut
cut_begins {x} {t} {u} {a} {w} b h l d =
    let e : b - a ≡ length t + (b - (a + w)) = omega arith in
    rw (e, d.is, behind l d) (take-append-add t u (b - (a + w)))

-- so they are ASCII where those behind it are
pub ascii_front : {x t u : List ℕ} {a w : ℕ} (b : ℕ) → a + w ≤ b → length t ≡ w → At x a t u → is_ascii_of t ≡ true →
    is_ascii_of (cut (a + w) b x) ≡ true → is_ascii_of (cut a b x) ≡ true
ascii_front {t} b h l d p q = rw (cut_begins b h l d) (ascii_append t _ p q)

pub ascii_none : (a : ℕ) (x : List ℕ) → is_ascii_of (cut a a x) ≡ true
unfolding cut is_ascii_of
ascii_none a x = rw sub_self

-- the next piece
pub next : {x t u v : List ℕ} {a w : ℕ} → length t ≡ w → At x a t (u ++ v) → At x (a + w) u v
next l d = record { is = behind l d }

-- a single byte
pub byte_at : {x u : List ℕ} {a l : ℕ} → At x a (l ∷ []) u → byte a x ≡ l
byte_at {x} {a} d = (rw add-zero at (sym (get_or-drop a x 0 0))) ∙ ap (byte 0) d.is

-- ---- pieces

-- the text t of w columns reads as v, is not odd, and is ASCII
pub record Piece {A : Type 0} (read : List ℕ → Res A) (odd : List ℕ → Bool) (w : ℕ) (v : A) (t : List ℕ) : Type 0 where
  pub long : length t ≡ w
  pub reads : read t ≡ ok v
  pub plain : odd t ≡ false
  pub ascii : is_ascii_of t ≡ true

-- the same text by another reader
pub piece_by : {A B : Type 0} {read : List ℕ → Res A} {other : List ℕ → Res B} {odd : List ℕ → Bool} {w : ℕ} {v : A}
    {u : B} {t : List ℕ} → Piece read odd w v t → other t ≡ ok u → Piece other odd w u t
piece_by p e = record { long = p.long; reads = e; plain = p.plain; ascii = p.ascii }

module _ {A : Type 0} {read : List ℕ → Res A} {odd : List ℕ → Bool} {w : ℕ} {v : A} {t : List ℕ}
    (p : Piece read odd w v t) where
  -- by one that first looks at the length, and at ASCII too
  pub piece_sized : Piece (sized w read) odd w v t
  unfolding sized
  piece_sized = piece_by p (sym (pass _ (yes= p.long) (sym p.reads)))

  pub piece_field : Piece (field w read) odd w v t
  unfolding field sized ascii ascii_in
  piece_field = piece_by p (sym (pass _ (yes= p.long) (pass _ p.ascii (sym p.reads))))

  -- it stands from column a of x on
  module _ {x u : List ℕ} {a : ℕ} (d : At x a t u) where
    pub piece_read : ok v ≡ columns a (a + w) read x
    unfolding columns
    piece_read = found_in a (sym p.reads ∙ ap read (sym (stands p.long d)))

    pub piece_plain : odd (cut a (a + w) x) ≡ false
    piece_plain = ap odd (stands p.long d) ∙ p.plain

    -- columns up to b are ASCII where those behind it are
    pub piece_ascii : (b : ℕ) → a + w ≤ b → is_ascii_of (cut (a + w) b x) ≡ true → is_ascii_of (cut a b x) ≡ true
    piece_ascii b h q = ascii_front b h p.long d p.ascii q

-- ---- what is copied from the line

-- x is as long as s, and the same from column a on
pub record Copied (a : ℕ) (s x : List ℕ) : Type 0 where
  pub long : length x ≡ length s
  pub on : drop a x ≡ drop a s

module _ {a : ℕ} {s x : List ℕ} (c : Copied a s x) where
  pub cut_same : (n w : ℕ) → cut (a + n) (a + n + w) x ≡ cut (a + n) (a + n + w) s
  unfolding cut
  cut_same n w = rw (← drop-drop n a x, ← drop-drop n a s, c.on)

  pub rest_same : rest_from a x ≡ rest_from a s
  unfolding rest_from
  rest_same = rw c.long

  pub name_same : name_from a x ≡ name_from a s
  unfolding name_from rest_from
  name_same = rw c.long

  pub rest_bytes : bytes_of (rest_from a s) x ≡ bytes_of (rest_from a s) s
  unfolding bytes_of rest_from
  rest_bytes = rw c.on

  pub name_bytes : bytes_in x (maybe_one (name_from a s)) ≡ bytes_in s (maybe_one (name_from a s))
  unfolding name_from maybe_one bytes_in pick
  name_bytes = by_test (length s ≤? a) (λ e. rw e) (λ e. rw (e, rest_bytes))

-- ---- numbers

pub nat_piece : (most w : ℕ) (s : List ℕ) → length s ≡ w →
    Finds (read_nat_of most s) (λ v. Piece (read_nat_of most) plus w v (padded w v))
nat_piece most w s l = record {
  found = λ v e. record {
    long = (nat_columns most w s l).found v e;
    reads = nat_settles most w s v e;
    plain = plain_padded w v;
    ascii = ascii_padded w v;
  };
}

pub int_piece : (most w : ℕ) (s : List ℕ) → length s ≡ w →
    Finds (read_int_of most s) (λ z. Piece (read_int_of most) signed_odd w z (signed w z))
int_piece most w s l = record {
  found = λ z e. record {
    long = (int_columns most w s l).found z e;
    reads = int_settles most w s z e;
    plain = plain_signed w z;
    ascii = ascii_signed w z;
  };
}

-- in columns of a line
module _ (a w most : ℕ) (s : List ℕ) (inside : a + w ≤ length s) where
  pub nat_in : Finds (columns a (a + w) (read_nat_of most) s) (λ v. Piece (read_nat_of most) plus w v (padded w v))
  nat_in = finds_columns _ s a (a + w) (nat_piece most w _ (cut_length a w s inside))

  pub int_in : Finds (columns a (a + w) (read_int_of most) s) (λ z. Piece (read_int_of most) signed_odd w z (signed w z))
  int_in = finds_columns _ s a (a + w) (int_piece most w _ (cut_length a w s inside))

-- ---- three numbers

module _ {A : Type 0} (make : ℕ → ℕ → ℕ → Res A) where
  three_made : {a b c : ℕ} {v : A} {x : List ℕ} → Piece (read_nat_of 255) plus 2 a (padded 2 a) →
      Piece (read_nat_of 255) plus 2 b (padded 2 b) → Piece (read_nat_of 255) plus 2 c (padded 2 c) → make a b c ≡ ok v →
      x ≡ three_text a b c → Piece (read_three_of make) three_plus 6 v x
  unfolding read_three_of three_plus three_text
  three_made {a} {b} {c} {x} p q r e i =
      let at_a : At x 0 (padded 2 a) (padded 2 b ++ padded 2 c) = record { is = i } in
      let at_b : At x 2 (padded 2 b) (padded 2 c) = next p.long at_a in
      let at_c : At x 4 (padded 2 c) [] = last q.long at_b in
      record {
        long = rw i (simp length-append (omega (arith, p.long, q.long, r.long)));
        reads = sym (on _ (piece_read p at_a) (on _ (piece_read q at_b) (on _ (piece_read r at_c) (sym e))));
        plain = neither_odd (piece_plain p at_a) (neither_odd (piece_plain q at_b) (piece_plain r at_c));
        ascii = rw i (ascii_append (padded 2 a) _ p.ascii (ascii_append (padded 2 b) _ q.ascii r.ascii));
      }

  -- and the text of what is made of them
  pub three_piece : (text : A → List ℕ) → ((a b c : ℕ) → Finds (make a b c) (λ v. text v ≡ three_text a b c))
      → (s : List ℕ) → length s ≡ 6 → Finds (read_three_of make s) (λ v. Piece (read_three_of make) three_plus 6 v (text v))
  unfolding read_three_of
  three_piece text makes s l =
      finds_bind (nat_in 0 2 255 s (omega arith)) (λ a p.
      finds_bind (nat_in 2 2 255 s (omega arith)) (λ b q.
      finds_bind (nat_in 4 2 255 s (omega arith)) (λ c r.
      record { found = λ v e. three_made p q r e ((makes a b c).found v e) })))

-- ---- times and dates

module _ {A : Type 0} (make : ℕ → ℕ → ℕ → Res A) (text : A → List ℕ)
    (makes : (a b c : ℕ) → Finds (make a b c) (λ v. text v ≡ three_text a b c)) where
  field_piece : (s : List ℕ) →
      Finds (field 6 (read_three_of make) s) (λ v. Piece (field 6 (read_three_of make)) three_plus 6 v (text v))
  field_piece s = finds_field _ s 6 (λ l. finds_map (three_piece make text makes s l) (λ v p. piece_field p))

pub time_piece : (s : List ℕ) → Finds (read_time_of s) (λ t. Piece read_time_of three_plus 6 t (time_text t))
unfolding read_time_of
time_piece = field_piece time_of time_text time_makes

pub date_piece : (s : List ℕ) → Finds (read_date s) (λ d. Piece read_date three_plus 6 d (date_text d))
unfolding read_date
date_piece = field_piece date_of date_text date_makes
