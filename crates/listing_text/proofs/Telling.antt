-- The loop over a log that counts and lists its lines.
use Rattle.text.specs.Prelude.{ℕ, ◌≤◌, ◌<◌, ◌≡◌, List, length, take, largest}
use Rattle.text.proofs.Prelude.{arith, refl, ◌∙◌, take_all}
use Rattle.part.specs.Part.{part_bytes}
use Rattle.put.specs.Put.{Wrote}
use Rattle.put.proofs.Writing.{then}
use Rattle.put.proofs.Writing as writing
use Rattle.igc_log.specs.Fold.{texts, fresh, read_on}
use Rattle.igc_log.proofs.Pieces.{all_read, no_text}
use Rattle.igc_log.proofs.Reached as fold
use Rattle.igc_log.proofs.Reached.{Reached}
use Rattle.held.specs.declared.tables.Tables.{Tables}
use Rattle.walk.specs.Turn.{got_at}
use Rattle.walk.specs.Readings.{reader}
use Rattle.walk.specs.declared.turn.Got.{Got}
use Rattle.walk.proofs.Turns.{turn, text_turn}
use Rattle.trailer_text.specs.Trailer.{nothing, counted, tallied, count_step, trailer_text_of}
use Rattle.trailer_text.specs.declared.Trailer.{Trailer}
use Rattle.trailer_text.proofs.Counting.{tallied_is, one_refused}
use Rattle.listing_text.specs.Line.{listing_line}
use Rattle.listing_text.specs.Listing.{line_of, listed, listing_text_of}

-- The lines before the place were counted and written.
pub record Telling (log b₀ : List ℕ) (at₀ : ℕ) (b : List ℕ) (t : Trailer) (end place : ℕ) : Type 0 where
  pub held : Tables
  pub reached : Reached reader count_step (fresh reader nothing) log place
      (record { number = t.lines; place = place; held = held; made = t })
  pub wrote : Wrote b₀ at₀ (texts line_of (read_on reader (fresh reader nothing) (take place log))) b end
  pub short : length log ≤ largest
  pub lines : t.lines ≤ place
  pub refused : t.refused ≤ place

pub at_start : (log b : List ℕ) (at : ℕ) → length log ≤ largest → length b < largest → at ≤ largest
    → Telling log b at b nothing at 0
unfolding nothing
at_start log b at short h k = record {
  short = short;
  held = _;
  reached = fold.at_start;
  wrote = rw (no_text reader line_of (fresh reader nothing)) (writing.wrote_nothing b at h k);
  lines = omega arith;
  refused = omega arith;
}

module _ {log b₀ b : List ℕ} {at₀ end place : ℕ} {t : Trailer} (f : Telling log b₀ at₀ b t end place) where
  -- after the last line the trailer is left
  pub at_end : {b' : List ℕ} {r : ℕ} → length log ≤ place → Wrote b end (trailer_text_of t) b' r →
      Wrote b₀ at₀ (listing_text_of log) b' r
  unfolding listing_text_of listed
  at_end i w =
      let lines = rw (take_all place log i, all_read reader count_step nothing log) at f.wrote in
      then lines (rw (fold.product i f.reached) at w)

  -- a line that was counted and then written
  pub line : {g : Got} {l b' : List ℕ} {to : ℕ} {t' : Trailer} → place < length log → g ≡ got_at place log →
      l ≡ part_bytes g.line log →
      t' ≡ tallied t place l g.reading → Wrote b end
      (listing_line t'.lines l g.reading) b' to →
      Telling log b₀ at₀ b' t' to g.next
  unfolding count_step counted line_of nothing
  line {g} i e v k w =
      let m = k ∙ tallied_is t place _ _ (omega (arith, f.lines, f.short)) (omega (arith, f.refused, f.short)) in
      let r = turn i f.reached e {p' = g.next} (omega arith) refl refl in
      rw (m, v)
      (record {
        held = _;
        reached = r;
        wrote = rw (text_turn i f.reached e line_of) (then f.wrote (rw (m, v) at w));
        short = f.short;
        lines = omega (arith, fold.few r);
        refused = omega (arith, fold.at_most r (λ t. t.refused) one_refused);
      })
