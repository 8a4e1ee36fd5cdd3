-- Numbers, heights and lines are undone, and ranges of lines.
use Rattle.text.specs.Prelude.{ℕ, zero, suc, ◌+◌, ◌-◌, ◌*◌, ◌≤◌, ◌≡◌, code, false, true, List, [], ◌∷◌, ◌++◌, length}
use Rattle.text.specs.Prelude.{drop, pick, ◌≤?◌, ◌=?◌, ◌∧?◌, byte, is_digit_of, all_digits_of, value_from, padded, signed}
use Rattle.text.specs.Prelude.{places_of, ℤ, pos, negsuc, LF, largest}
use Rattle.text.specs.Spelt.{spelt, spelt_from}
use Rattle.text.proofs.Prelude.{arith, refl, sym, ap, ◌∙◌, subst, append_assoc, second, yes≤, yes=, no=, is≤, is=}
use Rattle.text.proofs.Prelude.{both, holds, by_test}
use Rattle.text.proofs.Decimal.{all_padded, value_padded, places_pos, length_padded}
use Rattle.text.proofs.RoundTrip.{first_padded}
use lib.IntN.{neg_ℤ}
use lib.ListN.{get_or-append}
use Rattle.report.specs.Range.{Range, none, between}
use Rattle.total.specs.Laws.{OfBoth}
use Rattle.sheet_text.specs.Sheet.{number_line, none_line, time_lines, at_spot, height_line, range_lines, pressure_spot_line}
use Rattle.sheet_text.specs.Sheet.{gps_spot_line}
use Rattle.block_read.specs.Read.{Read, got, wrong, next, starts_with, read_words_of, front_from, read_number_of}
use Rattle.block_read.specs.Read.{read_minus, read_height_of, read_line_of}
use Rattle.block_read.specs.Block.{read_spot_of, read_pressure, read_gps, read_range, read_time_of, read_times_of}
use Rattle.block_read.specs.Laws.{Height, PressureFits, GpsFits}
use Rattle.block_read.proofs.Undoing.{Printed, Undoes, Both, not_got, got_same, came_from, then, into, seen}
use Rattle.block_read.proofs.Undoing.{told, starts_with_lem, drop_front, starts_so, words_read}
use Rattle.block_read.proofs.Undoing.{words_printed, behind}

-- ---- numbers

-- a number, and the byte that closes it
abbrev pub number_text : ℕ → ℕ → List ℕ
number_text c n = padded 1 n ++ (c ∷ [])

front_digits : (a : ℕ) (ds : List ℕ) (c : ℕ) (r : List ℕ) → all_digits_of ds ≡ true → is_digit_of c ≡ false →
    front_from a ((ds ++ (c ∷ [])) ++ r) ≡ value_from a ds
unfolding front_from value_from all_digits_of pick
front_digits a [] c r h e = rw e
front_digits a (d ∷ ds) c r h e =
    let k = both h in rw k.0 (front_digits (a * 10 + (d - code "0")) ds c r k.1 e)

module _ (most c : ℕ) (closes : is_digit_of c ≡ false) where
  front_number : (n : ℕ) (r : List ℕ) → front_from 0 (number_text c n ++ r) ≡ n
  front_number n r = front_digits 0 (padded 1 n) c r (all_padded 1 n) closes ∙ value_padded 1 n

  pub number : Undoes (λ n. n ≤ most) (number_text c) (λ n. n) (read_number_of most c)
  unfolding read_number_of next pick
  number = record {
    reads = λ n r le. rw (front_number n r, yes≤ le, words_read (number_text c n) r);
    printed = λ s n r h.
        let v = front_from 0 s in
        by_test (v ≤? most)
        (λ le.
        let m = came_from (read_words_of (number_text c v) s) (λ _ q. got v q) (rw le at h) in
        let e = got_same m.3 in
        record {
          value = v;
          is = sym e.0;
          text = words_printed (number_text c v) s m.1 m.0 m.2 ∙ ap (λ t. number_text c v ++ t) e.1;
          ok = is≤ le;
        })
        (λ gt. not_got (rw gt at h));
  }

  some_printed : {B : Type 0} (f : ℕ → B) (s : List ℕ) (b : B) (r : List ℕ) (n : ℕ) (q : List ℕ) → n ≤ most →
      s ≡ number_text c n ++ q → pick (n =? 0) (wrong s) (got (f n) q) ≡ got b r →
      Printed (λ n. suc n ≤ most) (λ n. number_text c (suc n)) (λ n. f (suc n)) s b r
  unfolding pick ◌=?◌
  some_printed f s b r zero q le text h = not_got h
  some_printed f s b r (suc n) q le text h =
      let e = got_same (rw (no= {a = suc n} {b = 0} (λ e. omega arith)) at h) in
      record { value = n; is = sym e.0; text = text ∙ ap (λ t. number_text c (suc n) ++ t) e.1; ok = le }

  -- a number from 1 on, of which something is made
  pub some : {B : Type 0} (f : ℕ → B) →
      Undoes (λ n. suc n ≤ most) (λ n. number_text c (suc n)) (λ n. f (suc n))
      (λ s. next (read_number_of most c s) (λ n r. pick (n =? 0) (wrong s) (got (f n) r)))
  unfolding next pick
  some f = record {
    reads = λ n r le. rw (number.reads (suc n) r le, no= {a = suc n} {b = 0} (λ e. omega arith));
    printed = λ s b r h.
        let m = came_from (read_number_of most c s) (λ n r. pick (n =? 0) (wrong s) (got (f n) r)) h in
        let p = number.printed s m.0 m.1 m.2 in
        some_printed f s b r p.value m.1 p.ok p.text
        (subst (λ n. pick (n =? 0) (wrong s) (got (f n) m.1) ≡ got b r) p.is m.3);
  }

pub space_closes : is_digit_of (code " ") ≡ false
unfolding is_digit_of ◌≤?◌ ◌∧?◌ pick
space_closes = refl

colon_closes : is_digit_of (code ":") ≡ false
unfolding is_digit_of ◌≤?◌ ◌∧?◌ pick
colon_closes = refl

pub lf_closes : is_digit_of LF ≡ false
unfolding is_digit_of ◌≤?◌ ◌∧?◌ pick
lf_closes = refl

-- ---- heights

padded_zero : (n : ℕ) → padded 0 n ≡ padded 1 n
unfolding padded
padded_zero n =
    let a : 0 - places_of n ≡ 0 = omega arith in
    let b : 1 - places_of n ≡ 0 = omega (arith, places_pos n) in
    rw (a, b)

no_minus : (n : ℕ) (r : List ℕ) → (byte 0 (padded 1 n ++ r) =? code "-") ≡ false
no_minus n r =
    rw (get_or-append (padded 1 n) r 0 0 (omega (arith, length_padded 1 n, places_pos n)))
    (first_padded 1 n 45 (omega arith))

minus_first : (s : List ℕ) → byte 0 s ≡ code "-" → s ≡ code "-" ∷ drop 1 s
minus_first [] e = absurd (omega arith)
minus_first (b ∷ s) e = ap (λ c. c ∷ s) e

plain_height : Undoes (λ n. n ≤ 32767) (number_text (code " ")) (λ n. pos n)
    (λ s. next (read_number_of 32767 (code " ") s) (λ n r. got (pos n) r))
plain_height = into (number 32767 (code " ") space_closes) (λ n. pos n)

minus_height : Undoes (λ n. suc n ≤ 32768) (λ n. number_text (code " ") (suc n)) (λ n. negsuc n)
    (λ s. next (read_number_of 32768 (code " ") s) (λ n r. pick (n =? 0) (wrong s) (got (neg_ℤ (pos n)) r)))
minus_height = some 32768 (code " ") space_closes (λ n. neg_ℤ (pos n))

height_reads : (z : ℤ) (r : List ℕ) → Height z → read_height_of ((signed 1 z ++ (code " " ∷ [])) ++ r) ≡ got z r
unfolding read_height_of read_minus pick signed ◌=?◌
height_reads (pos n) r le =
    let e : (byte 0 (number_text (code " ") n ++ r) =? code "-") ≡ false =
    rw append_assoc (no_minus n (code " " ∷ r)) in
    sym (second _ e (sym (plain_height.reads n r le)))
height_reads (negsuc n) r le = rw (padded_zero (suc n)) (minus_height.reads n r (omega arith))

height : Undoes Height (λ z. signed 1 z ++ (code " " ∷ [])) (λ z. z) read_height_of
unfolding read_height_of read_minus pick signed
height = record {
  reads = height_reads;
  printed = λ s z r h.
      by_test (byte 0 s =? code "-")
      (λ e.
      let p = minus_height.printed (drop 1 s) z r (rw e at h) in
      record {
        value = negsuc p.value;
        is = p.is;
        text = rw padded_zero (minus_first s (is= e) ∙ ap (λ t. code "-" ∷ t) p.text);
        ok = omega (arith, p.ok);
      })
      (λ e.
      let p = plain_height.printed s z r (rw e at h) in
      record { value = pos p.value; is = p.is; text = p.text; ok = p.ok });
}

-- ---- lines

pub line : (ws : List ℕ) → Undoes (λ n. n ≤ largest) (number_line ws) (λ n. n) (read_line_of ws)
unfolding read_line_of number_line
line ws = behind ws (number largest LF lf_closes)

time_line : (ws : List ℕ) → Undoes (λ n. n ≤ 4294967295) (number_line ws) (λ n. n) (read_time_of ws)
unfolding read_time_of number_line
time_line ws = behind ws (number 4294967295 LF lf_closes)

abbrev SpotFits : ℤ × (ℕ × ℕ) → Type 0
SpotFits = Both Height (Both (λ n. n ≤ largest) (λ n. n ≤ largest))

spot : (ws : List ℕ) →
    Undoes SpotFits (λ x. height_line ws (signed 1 x.0) (at_spot x.1.0 x.1.1)) (λ x. x) (read_spot_of ws)
unfolding read_spot_of height_line at_spot number_line spelt spelt_from
spot ws =
    told
    (behind ws
    (then height (λ h.
    behind (spelt "at ")
    (then (number largest (code ":") colon_closes) (λ log.
    into (number largest LF lf_closes) (λ place. (h, (log, place))))))))
    (λ x. simp append_assoc)

pub pressure : (ws : List ℕ) → Undoes PressureFits (pressure_spot_line ws) (λ p. p) (read_pressure ws)
unfolding read_pressure pressure_spot_line
pressure ws =
    seen (into (spot ws) (λ x. record { log = x.1.0; place = x.1.1; height = record { 0 = x.0 } }))
    (λ p. (p.height.0, (p.log, p.place)))
    (λ x. record { log = x.1.0; place = x.1.1; height = record { 0 = x.0 } })
    (λ x. refl)
    (λ p fits. (fits.height, (fits.log, fits.place)))
    (λ x fits. record { log = fits.1.0; place = fits.1.1; height = fits.0 })

pub gps : (ws : List ℕ) → Undoes GpsFits (gps_spot_line ws) (λ p. p) (read_gps ws)
unfolding read_gps gps_spot_line
gps ws =
    seen (into (spot ws) (λ x. record { log = x.1.0; place = x.1.1; height = record { 0 = x.0 } }))
    (λ p. (p.height.0, (p.log, p.place)))
    (λ x. record { log = x.1.0; place = x.1.1; height = record { 0 = x.0 } })
    (λ x. refl)
    (λ p fits. (fits.height, (fits.log, fits.place)))
    (λ x fits. record { log = fits.1.0; place = fits.1.1; height = fits.0 })

-- ---- ranges

-- the words for none, or a text that does not begin with them
abbrev range_text : {P : Type 0} → List ℕ → (P × P → List ℕ) → Range P → List ℕ
range_text ws print none = ws
range_text ws print (between high low) = print (high, low)

module _ {P : Type 0} (Ok : P → Type 0) {print : P × P → List ℕ} {read : List ℕ → Read (Range P)} (ws : List ℕ)
    (u : Undoes (Both Ok Ok) print (λ x. between x.0 x.1) read)
    (apart : (x : P × P) (r : List ℕ) → starts_with ws (print x ++ r) ≡ false) where
  range_reads : (x : Range P) (r : List ℕ) → OfBoth Ok x →
      pick (starts_with ws (range_text ws print x ++ r)) (got none (drop (length ws) (range_text ws print x ++ r)))
      (read (range_text ws print x ++ r)) ≡ got x r
  unfolding pick
  range_reads none r ok = rw (starts_with_lem ws r, drop_front ws r)
  range_reads (between high low) r ok = rw (apart (high, low) r) (u.reads (high, low) r ok)

  range : Undoes (OfBoth Ok) (range_text ws print) (λ x. x)
      (λ s. pick (starts_with ws s) (got none (drop (length ws) s)) (read s))
  unfolding pick
  range = record {
    reads = range_reads;
    printed = λ s x r h.
        by_test (starts_with ws s)
        (λ e.
        let g = got_same (rw e at h) in
        record { value = none; is = sym g.0; text = starts_so ws s e ∙ ap (λ t. ws ++ t) g.1; ok = tt })
        (λ e.
        let p = u.printed s x r (rw e at h) in
        record { value = between p.value.0 p.value.1; is = p.is; text = p.text; ok = p.ok });
  }

starts_behind : (d ws s : List ℕ) → starts_with (d ++ ws) (d ++ s) ≡ starts_with ws s
unfolding starts_with
starts_behind [] ws s = refl
starts_behind (b ∷ d) ws s = holds (yes= refl) (starts_behind d ws s)

high_apart : (datum r : List ℕ) → starts_with (none_line datum) ((datum ++ spelt " high ") ++ r) ≡ false
unfolding none_line starts_with spelt spelt_from ◌=?◌ ◌∧?◌ pick
high_apart datum r = rw (append_assoc, starts_behind datum)

-- a datum whose lines begin with their words
module _ {P : Type 0} (Ok : P → Type 0) {line : List ℕ → P → List ℕ} {read : List ℕ → List ℕ → Read P}
    (rest : P → List ℕ) (begins : (ws : List ℕ) (p : P) → line ws p ≡ ws ++ rest p)
    (u : (ws : List ℕ) → Undoes Ok (line ws) (λ p. p) (read ws)) (datum : List ℕ) where
  lines_apart : (high low : P) (r : List ℕ) →
      starts_with (none_line datum) ((line (datum ++ spelt " high ") high ++ line (datum ++ spelt " low ") low) ++ r) ≡
      false
  lines_apart high low r = rw (begins (datum ++ spelt " high ") high, append_assoc, append_assoc) (high_apart datum _)

  pub range_lines_lem : Undoes (OfBoth Ok) (range_lines line datum) (λ x. x) (read_range read datum)
  unfolding read_range range_lines
  range_lines_lem =
      told
      (range Ok (none_line datum)
      (then (u (datum ++ spelt " high ")) (λ high. into (u (datum ++ spelt " low ")) (λ low. between high low)))
      (λ x. lines_apart x.0 x.1))
      (elim [ none ↦ refl | between high low ↦ refl ])

pub times : Undoes (OfBoth (λ n. n ≤ 4294967295)) time_lines (λ x. x) read_times_of
unfolding read_times_of time_lines number_line none_line starts_with spelt spelt_from ◌=?◌ ◌∧?◌ pick
times =
    told
    (range (λ n. n ≤ 4294967295) (none_line (spelt "time"))
    (seen
    (then (time_line (spelt "time first ")) (λ earliest.
    into (time_line (spelt "time last ")) (λ latest.
    between latest earliest)))
    (λ x. (x.1, x.0)) (λ x. (x.1, x.0)) (λ x. refl) (λ x ok. (ok.1, ok.0)) (λ x ok. (ok.1, ok.0)))
    (λ x r. refl))
    (elim [ none ↦ refl | between latest earliest ↦ refl ])
