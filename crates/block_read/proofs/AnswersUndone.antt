-- Lines of answers are undone. For a count of 0 nothing is printed, and the line that stands there is that of a later
-- answer, or of none.
use Rattle.text.specs.Prelude.{ℕ, zero, suc, ◌+◌, ◌≤◌, ◌<◌, ◌≡◌, code, true, false, List, [], ◌∷◌, ◌++◌, length, drop}
use Rattle.text.specs.Prelude.{pick, ◌=?◌, LF, largest}
use Rattle.text.specs.Spelt.{spelt, spelt_from}
use Rattle.text.proofs.Prelude.{arith, refl, sym, ap, ◌∙◌, subst, append_assoc, second, yes≤, yes=, no=, is≤, is=}
use Rattle.text.proofs.Prelude.{both, holds, by_test}
use Rattle.report.specs.Counts.{numbers}
use Rattle.span.specs.Span.{all_fit}
use Rattle.sheet_text.specs.Sheet.{number_line, answer_line, answer_lines}
use Rattle.block_read.specs.Read.{Read, got, next, starts_with, read_number_of}
use Rattle.block_read.specs.Block.{read_count, read_answer_of, read_answers_of}
use Rattle.block_read.proofs.Undoing.{Printed, Prints, Undoes, Both, in_row, got_same, came_from, then_printed}
use Rattle.block_read.proofs.Undoing.{then_before, into_printed, starts_with_lem, starts_so}
use Rattle.block_read.proofs.LinesUndone.{number_text, number, some, space_closes, lf_closes}

-- ---- one line

index : Undoes (λ n. n ≤ largest) (number_text (code " ")) (λ n. n) (read_number_of largest (code " "))
index = number largest (code " ") space_closes

count : Undoes (λ n. suc n ≤ largest) (λ n. number_text LF (suc n)) (λ n. suc n) read_count
unfolding read_count
count = some largest LF lf_closes (λ n. n)

some_line : (i n : ℕ) (r : List ℕ) →
    answer_line i (suc n) ++ r ≡ spelt "answer " ++ (number_text (code " ") i ++ (number_text LF (suc n) ++ r))
unfolding answer_line number_line spelt spelt_from pick
some_line i n r = rw (no= {a = suc n} {b = 0} (λ e. omega arith)) (simp append_assoc)

no_line : (i : ℕ) → answer_line i 0 ≡ []
unfolding answer_line ◌=?◌ pick
no_line i = refl

-- a line of the answer j, where the answer i is asked for
answer_reads : (i j n : ℕ) (r : List ℕ) → j ≤ largest → suc n ≤ largest →
    read_answer_of i (answer_line j (suc n) ++ r) ≡ pick (j =? i) (got (suc n) r) (got 0 (answer_line j (suc n) ++ r))
unfolding read_answer_of pick next spelt spelt_from
answer_reads i j n r le ok =
    let t = number_text LF (suc n) ++ r in
    rw (
      some_line j n r,
      starts_with_lem (spelt "answer ") (number_text (code " ") j ++ t),
      index.reads j t le,
      count.reads n r ok,
    )

nothing_printed : (i : ℕ) (s : List ℕ) (n : ℕ) (r : List ℕ) → got 0 s ≡ got n r →
    Printed (λ n. n ≤ largest) (answer_line i) (λ n. n) s n r
nothing_printed i s n r h =
    let e = got_same h in record { value = 0; is = sym e.0; text = rw no_line e.1; ok = omega arith }

answer_printed_lem : (i : ℕ) → Prints (λ n. n ≤ largest) (answer_line i) (λ n. n) (read_answer_of i)
unfolding read_answer_of pick spelt spelt_from
answer_printed_lem i s n r h =
    by_test (starts_with (spelt "answer ") s)
    (λ e.
    let m = came_from (read_number_of largest (code " ") (drop 7 s)) (λ j r. pick (j =? i) (read_count r) (got 0 s))
    (rw e at h) in
    let p = index.printed (drop 7 s) m.0 m.1 m.2 in
    by_test (m.0 =? i)
    (λ same.
    let c = count.printed m.1 n r (rw same at m.3) in
    record {
      value = suc c.value;
      is = c.is;
      text =
          starts_so (spelt "answer ") s e
          ∙ ap (λ t. spelt "answer " ++ t) p.text
          ∙ ap (λ j. spelt "answer " ++ (number_text (code " ") j ++ m.1)) (sym p.is ∙ is= same)
          ∙ ap (λ t. spelt "answer " ++ (number_text (code " ") i ++ t)) c.text
          ∙ sym (some_line i c.value r);
      ok = c.ok;
    })
    (λ other. nothing_printed i s n r (rw other at m.3)))
    (λ e. nothing_printed i s n r (rw e at h))

-- ---- all lines

later_answers : (i j : ℕ) (ns r : List ℕ) → i < j → j + length ns ≤ largest → all_fit ns ≡ true →
    starts_with (spelt "answer ") r ≡ false → read_answer_of i (answer_lines j ns ++ r) ≡ got 0 (answer_lines j ns ++ r)
unfolding read_answer_of answer_lines all_fit
later_answers i j [] r lt le fit e = sym (second _ e refl)
later_answers i j (zero ∷ ns) r lt le fit e =
    rw no_line (later_answers i (j + 1) ns r (omega arith) (omega arith) (both fit).1 e)
later_answers i j (suc n ∷ ns) r lt le fit e =
    rw append_assoc
    (answer_reads i j n (answer_lines (j + 1) ns ++ r) (omega arith) (is≤ (both fit).0)
    ∙ sym (second _ (no= (λ e. omega arith)) refl))

answers_read : (i : ℕ) (ns r : List ℕ) → i + length ns ≤ largest → all_fit ns ≡ true →
    starts_with (spelt "answer ") r ≡ false → read_answers_of (length ns) i (answer_lines i ns ++ r) ≡ got ns r
unfolding read_answers_of answer_lines all_fit next pick
answers_read i [] r le fit e = refl
answers_read i (zero ∷ ns) r le fit e = rw (
  no_line,
  later_answers i (i + 1) ns r (omega arith) (omega arith) (both fit).1 e,
  answers_read (i + 1) ns r (omega arith) (both fit).1 e,
)
answers_read i (suc n ∷ ns) r le fit e = rw (
  append_assoc,
  answer_reads i i n (answer_lines (i + 1) ns ++ r) (omega arith) (is≤ (both fit).0),
  yes= {a = i} {b = i} refl,
  answers_read (i + 1) ns r (omega arith) (both fit).1 e,
)

-- there are k of them, and each fits
abbrev pub Counts : ℕ → List ℕ → Type 0
Counts k ns = (length ns ≡ k) × (all_fit ns ≡ true)

answers_printed : (k i : ℕ) → Prints (Counts k) (answer_lines i) (λ ns. ns) (read_answers_of k i)
unfolding read_answers_of answer_lines all_fit
answers_printed zero i s ns r h =
    let e = got_same h in record { value = []; is = sym e.0; text = e.1; ok = (refl, refl) }
answers_printed (suc k) i s ns r h =
    let p = then_printed (answer_printed_lem i) (λ n. into_printed (answers_printed k (i + 1)) (λ ns. n ∷ ns)) s ns r h in
    record {
      value = p.value.0 ∷ p.value.1;
      is = p.is;
      text = p.text;
      ok = (ap suc p.ok.1.0, holds (yes≤ p.ok.0) p.ok.1.1);
    }

-- what is printed behind them is no line of an answer
pub answers_then : {B C : Type 0} {Ok : B → Type 0} {print : B → List ℕ} {made : List ℕ → B → C}
    {read : List ℕ → List ℕ → Read C} → ((ns : List ℕ) → Undoes Ok print (made ns) (read ns)) →
    ((b : B) (r : List ℕ) → starts_with (spelt "answer ") (print b ++ r) ≡ false) →
    Undoes (Both (Counts numbers) Ok) (in_row (answer_lines 0) print) (λ x. made x.0 x.1)
    (λ s. next (read_answers_of numbers 0 s) read)
answers_then {print} u apart =
    then_before
    (λ ns b r ok.
    subst (λ k. read_answers_of k 0 (answer_lines 0 ns ++ (print b ++ r)) ≡ got ns (print b ++ r)) ok.0
    (answers_read 0 ns (print b ++ r) (omega (arith, ok.0)) ok.1 (apart b r)))
    (answers_printed numbers 0)
    u
