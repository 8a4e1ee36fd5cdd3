-- The index of a log by hours, and the fix at a moment: by an index, and by the plain walk from the log's start.
use Rattle.text.specs.Prelude.{Option, None, Some}
use Rattle.text.specs.Prelude.{ℕ, List, drop, Res, ok, no, pick, ◌=?◌}
use Rattle.std.proofs.Math.Option.{Option as Maybe, none, some}
use Rattle.time.specs.declared.Time.{Time}
use Rattle.b_record.specs.declared.BRecord.{BRecord}
use Rattle.records.specs.Record.{answer_fix}
use Rattle.igc_log.specs.Log.{chunks, read_from, readings}
use Rattle.igc_log.specs.Fold.{first_with}
use Rattle.walk.specs.Readings.{LineReading, reader}
use Rattle.moment_fix.specs.Fix.{with_time_of}
use Rattle.moment_fix.specs.declared.Moment.{Moment}
use Rattle.hours.specs.Hours.{by_hour, held_for}
use Rattle.hours.specs.declared.{Index.Index}

-- ---- the index

-- The place p of a fix with hours h, marked A or V.
unfoldable pub in_hour : ℕ → ℕ → Option BRecord → Maybe ℕ
in_hour h p (Some b) = pick (b.timestamp.hours =? h) (some p) none
in_hour h p None = none

-- The place of a reading that is an accepted B line with hours h.
unfoldable pub hour_at : ℕ → LineReading → Maybe ℕ
hour_at h x = in_hour h x.place (answer_fix x.answer)

-- For each hour the place of the first accepted B line of the log in that hour, or none.
unfoldable pub index_of : List ℕ → Index
index_of log = by_hour (λ h. first_with (hour_at h) (readings reader log))

-- ---- the question

-- A place, and the fix that stands there.
pub record Spot : Type 0 where
  pub place : ℕ
  pub fix : BRecord

-- A fix with its place p.
unfoldable pub spot_at : ℕ → Option BRecord → Maybe Spot
spot_at p (Some b) = some (record { place = p; fix = b })
spot_at p None = none

-- Place and record of a reading that is an accepted B line with that time.
unfoldable pub fix_at : Time → LineReading → Maybe Spot
fix_at t x = spot_at x.place (with_time_of t (answer_fix x.answer))

-- The first of them among the lines from the place p on. A place past the end has none behind it, and from one in the
-- middle of a line the rest of that line is the first; places are counted from the log's start.
unfoldable pub found_from : Time → ℕ → List ℕ → Maybe Spot
found_from t p log = first_with (fix_at t) (read_from reader 0 p reader.start (chunks (drop p log)))

-- The same from the place that an index holds; where it holds none, nothing.
unfoldable pub found_by : Time → Option ℕ → List ℕ → Maybe Spot
found_by t None log = none
found_by t (Some p) log = found_from t p log

-- What was found; else 19.
unfoldable pub found : Maybe Spot → Moment
found none = Moment.NoSuchFix
found (some x) = Moment.Found x.place x.fix

-- A refusal of the time comes first; then what the search finds.
unfoldable pub asked : Res Time → (Time → Maybe Spot) → Moment
asked (no n) search = Moment.Refused n
asked (ok t) search = found (search t)

-- The answer with any index and any log.
unfoldable pub by_index : Index → List ℕ → Res Time → Moment
by_index i log m = asked m (λ t. found_by t (held_for i t.hours) log)

-- The answer of the plain walk: the first in the whole log.
unfoldable pub by_walk : List ℕ → Res Time → Moment
by_walk log m = asked m (λ t. first_with (fix_at t) (readings reader log))
