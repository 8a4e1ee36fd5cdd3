-- The trailer of a log has room: 65 characters.
use Rattle.text.specs.Prelude.{Option}
use Rattle.text.specs.Prelude.{ℕ, suc, ◌^◌, ◌≤◌, ◌<◌, Bool, true, false, List, length, pick, largest}
use Rattle.text.proofs.Prelude.{arith, length-append}
use Rattle.text.proofs.Decimal.{places_le, length_padded}
use Rattle.records.specs.Record.{read_line_of}
use Rattle.igc_log.specs.Line.{line_text}
use Rattle.igc_log.specs.Fold.{Carried, past_line}
use Rattle.held.specs.declared.tables.Tables.{Tables}
use Rattle.walk.specs.Readings.{reader}
use Rattle.walk.proofs.Turns.{one_at_most}
use Rattle.trailer_text.specs.Answer.{plain}
use Rattle.trailer_text.specs.Trailer.{is_refusal_of, force_after, counted, count_step, offset_text, figures}
use Rattle.trailer_text.specs.Trailer.{trailer_text_of}
use Rattle.trailer_text.specs.declared.{Trailer.Trailer}

-- a number below 10 ^ (k + 1) has at most k + 1 characters
pub plain_le : (k n : ℕ) → n < 10 ^ suc k → length (plain n) ≤ suc k
unfolding plain
plain_le k n h = omega (arith, length_padded 1 n, places_le k n h)

-- what both have, the one that is picked has
pub picked_has : {A : Type 0} (P : A → Type 0) (t : Bool) {a b : A} → P a → P b → P (pick t a b)
unfolding pick
picked_has P true p q = p
picked_has P false p q = q

-- Counts of no more than the lines so far, and an offset of at most 20 characters.
pub record Fits (c : Carried Tables Trailer) : Type 0 where
  pub lines : c.made.lines ≤ c.number
  pub refused : c.made.refused ≤ c.number
  pub offset : length (offset_text c.made.in_force) ≤ 20

-- a trailer that fits has at most 65 characters
pub trailer_le : {c : Carried Tables Trailer} → Fits c → c.number ≤ largest → length (trailer_text_of c.made) ≤ 65
unfolding trailer_text_of figures
trailer_le {c} f h =
    let lines = plain_le 19 c.made.lines (omega arith) in
    let refused = plain_le 19 c.made.refused (omega arith) in
    simp length-append (omega arith)

-- one line more still fits
pub line_fits : {c : Carried Tables Trailer} (k : List ℕ) → Fits c → c.place ≤ largest
    → Fits (past_line reader count_step c (line_text k) (length k))
unfolding past_line count_step counted force_after offset_text
line_fits {c} k f h =
    let P : Option ℕ → Type 0 = λ o. length (offset_text o) ≤ 20 in
    record {
      lines = omega arith;
      refused = omega (arith, one_at_most (is_refusal_of (read_line_of (line_text k))));
      offset = picked_has P _ (picked_has P _ (plain_le 19 c.place (omega arith)) (omega arith)) f.offset;
    }
