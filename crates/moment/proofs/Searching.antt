-- The loop that looks for a time: what is left of the log, from here, has what it had from the first place on.
use Rattle.text.specs.Prelude.{None, Some}
use Rattle.text.specs.Prelude.{ℕ, ◌+◌, ◌-◌, ◌≤◌, ◌<◌, ◌≡◌, List, length, drop}
use Rattle.text.proofs.Prelude.{arith, refl, sym, ap, ◌∙◌}
use mathlib.Core.Option.{Option as Maybe, none, some}
use Rattle.part.specs.Part.{bytes_of}
use Rattle.time.specs.declared.Time.{Time}
use Rattle.b_record.specs.declared.BRecord.{BRecord}
use Rattle.records.specs.Record.{read_line_of, answer_fix}
use Rattle.igc_log.specs.Line.{cut_at}
use Rattle.igc_log.specs.Log.{chunks, read_from}
use Rattle.igc_log.specs.Fold.{or_else, first_with}
use Rattle.igc_log.proofs.Cuts.{next_gt, next_le, cut_viewed, read_past, read_line}
use Rattle.held.specs.declared.tables.Tables.{Tables}
use Rattle.walk.specs.Readings.{LineReading, reader}
use Rattle.walk.specs.Turn.{got_at}
use Rattle.walk.specs.declared.turn.Got.{Got}
use Rattle.moment_fix.specs.Fix.{with_time_of}
use Rattle.moment.specs.Moment.{spot_at, fix_at, found_from}

-- what is read from a place on, with n lines before it and the tables t
abbrev pub read_here : List ℕ → ℕ → ℕ → Tables → List LineReading
read_here s n at t = read_from reader n at t (chunks (drop at s))

-- the line there
abbrev pub line_here : List ℕ → ℕ → ℕ → Tables → LineReading
line_here s n at t =
    let l = bytes_of (cut_at at s).line s in
    record { number = n + 1; place = at; line = l; answer = read_line_of l; held = reader.after at t l }

module _ {A : Type 0} (f : LineReading → Maybe A) (s : List ℕ) (n at : ℕ) (t : Tables) where
  -- the first line that has something is the one here, or stands behind it
  pub first_here : at < length s → first_with f (read_here s n at t) ≡
      or_else (f (line_here s n at t))
      (first_with f (read_here s (n + 1) (cut_at at s).next (line_here s n at t).held))
  unfolding first_with
  first_here i = ap (first_with f) (read_line reader s n at t i)

  pub first_past : length s ≤ at → first_with f (read_here s n at t) ≡ none
  unfolding first_with
  first_past h = ap (first_with f) (read_past reader s n at t h)

-- from here on the search finds what it finds from its first place on
pub record Left (time : Time) (s : List ℕ) (start at : ℕ) : Type 0 where
  pub number : ℕ
  pub held : Tables
  pub same : first_with (fix_at time) (read_here s number at held) ≡ found_from time start s

module _ {time : Time} {s : List ℕ} {start : ℕ} where
  pub left_all : Left time s start start
  unfolding found_from
  left_all = record { number = 0; held = reader.start; same = refl }

  module _ {at : ℕ} (left : Left time s start at) where
    -- after the last line
    pub left_none : length s ≤ at → none ≡ found_from time start s
    left_none h = sym (first_past (fix_at time) s left.number at left.held h) ∙ left.same

    module _ {g : Got} (i : at < length s) (e : g ≡ got_at at s) where
      -- the fix that was read here, if it has the time
      here : with_time_of time (answer_fix g.reading)
          ≡ with_time_of time (answer_fix (read_line_of (bytes_of (cut_at at s).line s)))
      unfolding got_at
      here = rw (e, cut_viewed s at (omega arith))

      first_or_later : or_else (spot_at at (with_time_of time (answer_fix (read_line_of (bytes_of (cut_at at s).line s)))))
          (first_with (fix_at time) (read_here s (left.number + 1) (cut_at at s).next
          (line_here s left.number at left.held).held))
          ≡ found_from time start s
      unfolding fix_at
      first_or_later = sym (first_here (fix_at time) s left.number at left.held i) ∙ left.same

      pub left_found : {b : BRecord} → Some b ≡ with_time_of time (answer_fix g.reading) →
          some (record { place = at; fix = b }) ≡ found_from time start s
      unfolding spot_at or_else
      left_found q = rw (sym (q ∙ here)) at first_or_later

      pub left_next : None ≡ with_time_of time (answer_fix g.reading) →
          Left time s start g.next
      unfolding spot_at or_else got_at
      left_next q = record {
        number = left.number + 1;
        held = (line_here s left.number at left.held).held;
        same = rw e (rw (sym (q ∙ here)) at first_or_later);
      }

      pub nearer : length s - g.next < length s - at
      unfolding got_at
      nearer = rw e (omega (arith, next_gt s at i, next_le s at (omega arith)))
