-- Going to a moment: the answer by the log's own index, said over the readings of a fresh walk as one would check it.
use Rattle.std.specs.Prelude.{◌≡◌, ◌∷◌}
use Rattle.text.specs.Prelude.{ℕ, List, [], ok, Some}
use Rattle.time.specs.Time.{time_of}
use Rattle.time.specs.declared.Time.{Time}
use Rattle.b_record.specs.declared.BRecord.{BRecord}
use Rattle.records.specs.Record.{answer_fix}
use Rattle.igc_log.specs.Log.{readings}
use Rattle.walk.specs.Readings.{LineReading, reader}
use Rattle.moment_fix.specs.declared.Moment.{Moment}
use Rattle.moment.specs.Moment.{index_of, by_index}

-- The reading is an accepted B line, b, with those hours, minutes and seconds.
pub record Has (t : Time) (x : LineReading) (b : BRecord) : Type 0 where
  pub fix : answer_fix x.answer ≡ Some b
  pub hours : b.timestamp.hours ≡ t.hours
  pub minutes : b.timestamp.minutes ≡ t.minutes
  pub seconds : b.timestamp.seconds ≡ t.seconds

-- It is none.
abbrev pub Hasnt : Time → LineReading → Type 0
Hasnt t x = (b : BRecord) → Has t x b → ⊥

-- The first of some readings that is one is b, at the place p.
pub data IsFirst (t : Time) (p : ℕ) (b : BRecord) : List LineReading → Type 0 where
  here : {x : LineReading} {xs : List LineReading} → x.place ≡ p → Has t x b → IsFirst t p b (x ∷ xs)
  later : {x : LineReading} {xs : List LineReading} → Hasnt t x → IsFirst t p b xs → IsFirst t p b (x ∷ xs)

-- None of them is.
abbrev pub NoneHas : Time → List LineReading → Type 0
NoneHas t [] = Unit
NoneHas t (x ∷ xs) = Hasnt t x × NoneHas t xs

-- What an answer says of them.
abbrev pub Tells : Time → List LineReading → Moment → Type 0
Tells t xs (Moment.Found p b) = IsFirst t p b xs
Tells t xs Moment.NoSuchFix = NoneHas t xs
Tells t xs (Moment.Refused n) = ⊥

-- Of every time that `from_hms` takes the log's own index gives the first fix of the whole log, wherever those of its
-- hour stand, or there is none.
pub record Moments : Type 0 where
  pub first : (log : List ℕ) (h m s : ℕ) (t : Time) → time_of h m s ≡ ok t →
      Tells t (readings reader log) (by_index (index_of log) log (time_of h m s))
