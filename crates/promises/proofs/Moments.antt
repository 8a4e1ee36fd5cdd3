-- What is found at a moment is the first fix with that time.
use Rattle.text.specs.Prelude.{ℕ, ◌≡◌, true, false, List, [], ◌∷◌, pick, None, Option, Some}
use Rattle.text.proofs.Prelude.{arith, refl, sym, ◌∙◌, yes=, is=, both, and, by_test, never}
use Rattle.time.specs.declared.Time.{Time}
use Rattle.b_record.specs.declared.BRecord.{BRecord}
use Rattle.records.specs.Record.{answer_fix}
use Rattle.igc_log.specs.Log.{readings}
use Rattle.igc_log.specs.Fold.{or_else, first_with}
use Rattle.walk.specs.Readings.{LineReading, reader}
use Rattle.moment_fix.specs.Fix.{same_time_of, with_time_of}
use Rattle.moment_fix.specs.declared.Moment.{Moment}
use Rattle.moment.specs.Moment.{spot_at, fix_at, found, asked, by_walk}
use Rattle.moment.proofs.Laws.{moments}
use Rattle.promises.specs.Moments.{Has, Hasnt, here, later, Tells, Moments}

-- a fix has the time exactly where the test says so
has_same : {t : Time} {x : LineReading} {b : BRecord} → Has t x b → same_time_of b.timestamp t ≡ true
unfolding same_time_of
has_same h = and (yes= h.hours) (and (yes= h.minutes) (yes= h.seconds))

same_has : (t : Time) (x : LineReading) (b : BRecord) → answer_fix x.answer ≡ Some b →
    same_time_of b.timestamp t ≡ true → Has t x b
unfolding same_time_of
same_has t x b e q = record {
  fix = e;
  hours = is= (both q).0;
  minutes = is= (both (both q).1).0;
  seconds = is= (both (both q).1).1;
}

-- a line without that time in front changes no answer
passed : (t : Time) (x : LineReading) (xs : List LineReading) → Hasnt t x → (a : Moment) → Tells t xs a →
    Tells t (x ∷ xs) a
passed t x xs n (Moment.Found p b) h = later n h
passed t x xs n Moment.NoSuchFix h = (n, h)
passed t x xs n (Moment.Refused r) h = h

-- a line that is no fix has no time
no_fix : {t : Time} {x : LineReading} → answer_fix x.answer ≡ None → Hasnt t x
no_fix e b h =
    let q : None ≡ Some b = sym e ∙ h.fix in
    let z : ◌≡◌ {A = ℕ} 0 1 = cc in omega arith

-- and a fix with another time has not this one
other_time : {t : Time} {x : LineReading} (b : BRecord) → answer_fix x.answer ≡ Some b →
    same_time_of b.timestamp t ≡ false → Hasnt t x
other_time {t} b e q c h =
    let same : Some b ≡ Some c = sym e ∙ h.fix in
    let own : b ≡ c = cc in
    never (rw own (has_same h)) q

-- the line x, read as m, in front of readings of which an answer tells
in_front : (t : Time) (x : LineReading) (xs : List LineReading) (m : Option BRecord) → answer_fix x.answer ≡ m →
    Tells t xs (found (first_with (fix_at t) xs)) →
    Tells t (x ∷ xs) (found (or_else (spot_at x.place (with_time_of t m)) (first_with (fix_at t) xs)))
unfolding with_time_of spot_at or_else found pick
in_front t x xs None e h = passed t x xs (no_fix e) (found (first_with (fix_at t) xs)) h
in_front t x xs (Some b) e h =
    by_test (same_time_of b.timestamp t)
    (λ q. rw q (here refl (same_has t x b e q)))
    (λ q. rw q (passed t x xs (other_time b e q) (found (first_with (fix_at t) xs)) h))

pub tells : (t : Time) (xs : List LineReading) → Tells t xs (found (first_with (fix_at t) xs))
unfolding first_with found fix_at
tells t [] = tt
tells t (x ∷ xs) = in_front t x xs (answer_fix x.answer) refl (tells t xs)

pub moments_first : Moments
unfolding by_walk asked
moments_first = record {
  first = λ log h m s t e.
      rw (moments.own_index log h m s, e) (tells t (readings reader log));
}
