-- A log's own index answers as the plain walk does.
use Rattle.b_record.specs.declared.BRecord.{BRecord}
use Rattle.text.specs.Prelude.{Option, None, Some}
use Rattle.text.specs.Prelude.{ℕ, zero, suc, ◌+◌, ◌≤◌, ◌<◌, ◌≡◌, List, [], ◌∷◌, length, drop, ok, no}
use Rattle.text.specs.Prelude.{Res, ◌≤?◌, ◌=?◌}
use Rattle.text.proofs.Prelude.{arith, refl, sym, ap, ◌∙◌, first, second, is≤, isnt≤, both, by_test}
use mathlib.Core.Option.{Option as Maybe, none, some}
use Rattle.text.specs.declared.refusal.Refusal.TheVariants.{OutOfRange}
use Rattle.text.proofs.Finds.{Finds, finds_ok, finds_guard}
use Rattle.time.specs.Time.{time_of}
use Rattle.time.specs.declared.Time.{Time}
use Rattle.records.specs.Record.{answer_fix}
use Rattle.igc_log.specs.Line.{cut_at}
use Rattle.igc_log.specs.Log.{chunks, read_from, readings}
use Rattle.igc_log.specs.Fold.{or_else, first_with}
use Rattle.igc_log.proofs.Cuts.{next_gt, read_past}
use Rattle.held.specs.declared.tables.Tables.{Tables}
use Rattle.walk.specs.Readings.{LineReading, reader}
use Rattle.moment_fix.specs.Fix.{same_time_of, with_time_of}
use Rattle.hours.specs.Hours.{held, held_for}
use Rattle.hours.proofs.ByHour.{held_hour}
use Rattle.moment.specs.Moment.{in_hour, hour_at, index_of, spot_at, fix_at, found_from, found_by, found, asked}
use Rattle.moment.specs.Moment.{by_index, by_walk}
use Rattle.moment.specs.Laws.{Moments}
use Rattle.moment.proofs.Searching.{read_here, line_here, first_here, first_past}

-- ---- something or nothing

not_some : {A B : Type 0} {x : Maybe A} {a : A} → x ≡ some a → x ≡ none → B
not_some p q = let z : ◌≡◌ {A = ℕ} 0 1 = cc in let f : ⊥ = omega arith in absurd f

by_option : {A B : Type 0} (o : Maybe A) → ((a : A) → o ≡ some a → B) → (o ≡ none → B) → B
by_option none f g = g refl
by_option (some a) f g = f a refl

both_none : {A : Type 0} (a b : Maybe A) → or_else a b ≡ none → (a ≡ none) × (b ≡ none)
unfolding or_else
both_none none b e = (refl, e)
both_none (some p) b e = not_some refl e

-- ---- a fix with a time is a fix of its hour

module _ (t : Time) where
  -- a line that is in another hour has another time
  no_time : (p : ℕ) (m : Option BRecord) → in_hour t.hours p m ≡ none → spot_at p (with_time_of t m) ≡ none
  unfolding in_hour with_time_of spot_at same_time_of
  no_time p (Some b) e =
      by_test (same_time_of b.timestamp t)
      (λ q. not_some (sym (first _ (both q).0 refl)) e)
      (λ q. ap (spot_at p) (sym (second (Some b) q refl)))
  no_time p None e = refl

  other_hour : (x : LineReading) → hour_at t.hours x ≡ none → fix_at t x ≡ none
  unfolding hour_at fix_at
  other_hour x e = no_time x.place (answer_fix x.answer) e

  -- where no line is in the hour none has the time
  none_in_hour : (xs : List LineReading) → first_with (hour_at t.hours) xs ≡ none → none ≡ first_with (fix_at t) xs
  unfolding first_with or_else
  none_in_hour [] e = refl
  none_in_hour (x ∷ xs) e =
      let k = both_none (hour_at t.hours x) (first_with (hour_at t.hours) xs) e in
      rw (other_hour x k.0) (none_in_hour xs k.1)

  -- the search looks at no line's number and at no table
  any_walk : (n n' p : ℕ) (h h' : Tables) (ks : List (List ℕ)) →
      first_with (fix_at t) (read_from reader n p h ks) ≡ first_with (fix_at t) (read_from reader n' p h' ks)
  unfolding read_from first_with fix_at
  any_walk n n' p h h' [] = refl
  any_walk n n' p h h' (k ∷ ks) = ap (or_else _) (any_walk (n + 1) (n' + 1) (p + length k) _ _ ks)

-- a line in an hour is known by its own place
own_place : (h p : ℕ) (m : Option BRecord) {q : ℕ} → in_hour h p m ≡ some q → p ≡ q
unfolding in_hour
own_place h p (Some b) e =
    by_test (b.timestamp.hours =? h)
    (λ k. let same : some p ≡ some _ = first _ k refl ∙ e in cc)
    (λ k. not_some e (sym (second _ k refl)))
own_place h p None e = not_some e refl

line_place : (h : ℕ) (x : LineReading) {q : ℕ} → hour_at h x ≡ some q → x.place ≡ q
unfolding hour_at
line_place h x e = own_place h x.place (answer_fix x.answer) e

-- ---- the first fix of the hour, and the first with the time

module _ (t : Time) (s : List ℕ) (p : ℕ) where
  abbrev in_it : LineReading → Maybe ℕ
  in_it = hour_at t.hours

  -- from a line's start on: the search may as well begin at the first fix of the hour
  leads : (k n at : ℕ) (h : Tables) → length s ≤ at + k → first_with in_it (read_here s n at h) ≡ some p →
      first_with (fix_at t) (read_here s n at h) ≡ found_from t p s
  unfolding found_from or_else
  leads zero n at h l e = not_some e (first_past in_it s n at h (omega arith))
  leads (suc k) n at h l e =
      by_test (length s ≤? at)
      (λ past. not_some e (first_past in_it s n at h (is≤ past)))
      (λ here.
      let i : at < length s = isnt≤ here in
      let x = line_here s n at h in
      by_option (in_it x)
      (λ q found.
      let same : some q ≡ some p = rw found at (sym (first_here in_it s n at h i) ∙ e) in
      let own : at ≡ p = line_place t.hours x found ∙ cc in
      rw own (any_walk t n 0 p h reader.start (chunks (drop p s))))
      (λ none.
      let later = rw none at (sym (first_here in_it s n at h i) ∙ e) in
      first_here (fix_at t) s n at h i ∙ rw (other_hour t x none)
      (leads k (n + 1) (cut_at at s).next x.held (omega (arith, next_gt s at i)) later)))

module _ (log : List ℕ) (t : Time) (inside : t.hours ≤ 24) where
  abbrev xs : List LineReading
  xs = readings reader log

  pub found_alike : found_by t (held_for (index_of log) t.hours) log ≡ first_with (fix_at t) xs
  unfolding index_of found_by held readings
  found_alike =
      let own = held_hour (λ h. first_with (hour_at h) xs) t.hours (omega arith) in
      by_option (first_with (hour_at t.hours) xs)
      (λ p e. rw (own, e) (sym (leads t log p (length log) 0 0 reader.start (omega arith) e)))
      (λ e. rw (own, e) (none_in_hour t xs e))

own_hour : (log : List ℕ) (m : Res Time) → ((t : Time) → m ≡ ok t → t.hours ≤ 24) →
    by_index (index_of log) log m ≡ by_walk log m
unfolding by_index by_walk asked
own_hour log (ok t) inside = ap found (found_alike log t (inside t refl))
own_hour log (no n) inside = refl

-- hours are at most 24
pub hours_fit : (h m s : ℕ) → Finds (time_of h m s) (λ t. t.hours ≤ 24)
unfolding time_of
hours_fit h m s = finds_guard OutOfRange (λ e. finds_ok (is≤ (both e).0))

pub moments : Moments
unfolding by_index by_walk asked found_by found_from found first_with readings
moments = record {
  own_index = λ log h m s. own_hour log (time_of h m s) (hours_fit h m s).found;
  own_hour = own_hour;
  past_end = λ i log t p e past. rw (e, read_past reader log 0 p reader.start past);
  from_start = λ i log t e. rw e;
}
