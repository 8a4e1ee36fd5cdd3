-- The loop that makes an index: at each place it holds, for each hour, what the lines before that place have.
use Rattle.b_record.specs.declared.BRecord.{BRecord}
use Rattle.text.specs.Prelude.{Option, None, Some}
use Rattle.text.specs.Prelude.{ℕ, ◌+◌, ◌-◌, ◌≤◌, ◌<◌, ◌≡◌, true, false, List, [], ◌∷◌, length, set}
use Rattle.text.specs.Prelude.{◌≤?◌, ◌=?◌, ◌∧?◌, pick}
use Rattle.text.proofs.Prelude.{arith, refl, sym, ap, ◌∙◌, first, second, yes≤, yes=, no=, is≤, is=, by_test, both}
use Rattle.text.proofs.Prelude.{never}
use mathlib.Core.Option.{Option as Maybe, none, some}
use lib.ListN.{length-set}
use lib.Seq.{ext_get_or, get_or-set_same, get_or-set_other}
use Rattle.records.specs.Record.{answer_fix}
use Rattle.igc_log.specs.Log.{readings}
use Rattle.igc_log.specs.Fold.{over, or_else, first_with, keep}
use Rattle.walk.specs.Readings.{LineReading, reader}
use Rattle.walk.specs.Turn.{got_at}
use Rattle.walk.specs.declared.turn.Got.{Got}
use Rattle.walk.proofs.Turns.{Made, at_start, at_end, line, near}
use Rattle.moment_fix.specs.Fix.{hour_of_lem}
use Rattle.hours.specs.Hours.{held, from, by_hour, nowhere, is_nowhere, lacks}
use Rattle.hours.specs.declared.{Hour.Hour, Index.Index}
use Rattle.hours.proofs.ByHour.{length_from, from_same, get_d_hour, held_hour, nothing_held}
use Rattle.moment.specs.Moment.{in_hour, hour_at, index_of}

-- ---- a line more

or_none : (a : Maybe ℕ) → or_else a none ≡ a
unfolding or_else
or_none none = refl
or_none (some p) = refl

or_assoc : (a b c : Maybe ℕ) → or_else (or_else a b) c ≡ or_else a (or_else b c)
unfolding or_else
or_assoc none b c = refl
or_assoc (some p) b c = refl

-- what is held for an hour after a line at p, where f was held before it
unfoldable pub after : (ℕ → Maybe ℕ) → ℕ → Option BRecord → ℕ → Maybe ℕ
after f p m h = or_else (f h) (in_hour h p m)

-- a fix is in its own hour
own_hour : (m : Option BRecord) (p : ℕ) → hour_of_lem m < 25 → in_hour (hour_of_lem m) p m ≡ some p
unfolding hour_of_lem in_hour
own_hour (Some b) p i = sym (first _ (yes= refl) refl)
own_hour None p i = absurd (omega arith)

-- and in no other
other_hour : (m : Option BRecord) (p h : ℕ) → (hour_of_lem m ≡ h → ⊥) → in_hour h p m ≡ none
unfolding hour_of_lem in_hour
other_hour (Some b) p h e = sym (second _ (no= e) refl)
other_hour None p h e = refl

held_stays : (a b : Maybe ℕ) → is_nowhere (held a).first ≡ false → or_else a b ≡ a
unfolding is_nowhere held or_else
held_stays none b e = never refl e
held_stays (some p) b e = refl

module _ (f : ℕ → Maybe ℕ) (p : ℕ) (m : Option BRecord) where
  -- another hour than the line's keeps what it has
  stays : (j : ℕ) → (hour_of_lem m ≡ j → ⊥) → after f p m j ≡ f j
  unfolding after
  stays j e = rw (other_hour m p j e) (or_none (f j))

  -- an hour that has none yet gets this line
  gets : hour_of_lem m < 25 → f (hour_of_lem m) ≡ none → after f p m (hour_of_lem m) ≡ some p
  unfolding after or_else
  gets i e = rw e (own_hour m p i)

  -- and one that has one keeps it
  has : hour_of_lem m < 25 → lacks (by_hour f) (hour_of_lem m) ≡ false → after f p m (hour_of_lem m) ≡ f (hour_of_lem m)
  unfolding after lacks ◌∧?◌ pick
  has i e =
      let own : (hour_of_lem m + 1 ≤? 25) ≡ true = yes≤ (omega arith) in
      held_stays (f (hour_of_lem m)) _ (rw (own, held_hour f (hour_of_lem m) i) at e)

  -- the first fix of an hour is stored
  pub stored : lacks (by_hour f) (hour_of_lem m) ≡ true →
      ◌≡◌ {A = Index} (record { hours = set (by_hour f).hours (hour_of_lem m) (held (some p)) }) (by_hour (after f p m))
  unfolding lacks by_hour
  stored e =
      let i : hour_of_lem m < 25 = omega (arith, is≤ (both e).0) in
      let new : f (hour_of_lem m) ≡ none = nothing_held (f (hour_of_lem m)) (rw (held_hour f (hour_of_lem m) i) at (both e).1) in
      let long = length_from 25 0 f in
      ap (λ (hs : List Hour). record { hours = hs })
      (ext_get_or (held none) _ _ (length-set (from 25 0 f) (hour_of_lem m) _ ∙ long ∙ sym (length_from 25 0 _))
      (λ j k.
      let inside : j < 25 = omega (arith, length-set (from 25 0 f) (hour_of_lem m) (held (some p))) in
      by_test (hour_of_lem m =? j)
      (λ q. rw (sym (is= q)) (get_or-set_same (from 25 0 f) (hour_of_lem m) _ _ (omega arith)
      ∙ sym (get_d_hour (after f p m) (hour_of_lem m) i ∙ ap held (gets i new))))
      (λ q.
      let other : hour_of_lem m ≡ j → ⊥ = λ k. never (yes= k) q in
      get_or-set_other (from 25 0 f) (hour_of_lem m) j _ _ (λ k. other (sym k)) ∙ get_d_hour f j inside
      ∙ sym (get_d_hour (after f p m) j inside ∙ ap held (stays j other)))))

  -- any other line changes nothing
  pub kept : lacks (by_hour f) (hour_of_lem m) ≡ false → by_hour f ≡ by_hour (after f p m)
  unfolding by_hour
  kept e = ap (λ (hs : List Hour). record { hours = hs }) (from_same 25 0 f (after f p m) (λ j i.
      by_test (hour_of_lem m =? j)
      (λ q. rw (sym (is= q)) (sym (has (omega (arith, is= q)) e)))
      (λ q. sym (stays j (λ k. never (yes= k) q)))))

-- ---- the loop

-- for each hour, what was found first stays
abbrev hour_step : (ℕ → Maybe ℕ) → LineReading → ℕ → Maybe ℕ
hour_step f x h = keep (hour_at h) (f h) x

pub record Indexed (s : List ℕ) (at : ℕ) (i : Index) : Type 0 where
  pub seen : ℕ → Maybe ℕ
  pub holds : i ≡ by_hour seen
  pub made : Made hour_step (λ h. none) s at seen

pub indexed_start : {s : List ℕ} {i : Index} → i ≡ nowhere → Indexed s 0 i
unfolding nowhere by_hour from
indexed_start e = record { seen = λ h. none; holds = e; made = at_start }

-- what each hour has found
over_hours : (f : ℕ → Maybe ℕ) (xs : List LineReading) (h : ℕ) →
    over hour_step f xs h ≡ or_else (f h) (first_with (hour_at h) xs)
unfolding over first_with keep
over_hours f [] h = sym (or_none (f h))
over_hours f (x ∷ xs) h = over_hours (hour_step f x) xs h ∙ or_assoc (f h) (hour_at h x) (first_with (hour_at h) xs)

module _ {s : List ℕ} {at : ℕ} {i : Index} (x : Indexed s at i) where
  -- after the last line
  pub indexed_end : length s ≤ at → i ≡ index_of s
  unfolding index_of by_hour or_else
  indexed_end h =
      x.holds ∙ ap (λ (hs : List Hour). record { hours = hs }) (from_same 25 0 x.seen _ (λ j k.
      ap (λ (f : ℕ → Maybe ℕ). f j) (at_end h x.made) ∙ over_hours (λ h. none) (readings reader s) j))

  module _ {g : Got} (inside : at < length s) (e : g ≡ got_at at s) where
    pub nearer : length s - g.next < length s - at
    nearer = near inside x.made e

    abbrev fix : Option BRecord
    fix = answer_fix g.reading

    past : Made hour_step (λ h. none) s g.next (after x.seen at fix)
    unfolding after keep hour_at
    past = line inside x.made e (λ n t. refl)

    pub indexed_new : {h : ℕ} → h ≡ hour_of_lem fix → lacks i h ≡ true →
        Indexed s g.next (record { hours = set i.hours h (record { first = Some at }) })
    unfolding held
    indexed_new hour l = record {
      seen = after x.seen at fix;
      holds = rw (x.holds, hour) (stored x.seen at fix (rw (x.holds, hour) at l));
      made = past;
    }

    pub indexed_old : {h : ℕ} → h ≡ hour_of_lem fix → lacks i h ≡ false → Indexed s g.next i
    indexed_old hour l = record {
      seen = after x.seen at fix;
      holds = x.holds ∙ kept x.seen at fix (rw (x.holds, hour) at l);
      made = past;
    }
