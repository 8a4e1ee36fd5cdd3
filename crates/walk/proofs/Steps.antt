-- Steps one after the other, up to the end.
use Rattle.text.specs.Prelude.{ℕ, zero, suc, ◌+◌, ◌-◌, ◌≤◌, ◌<◌, ◌≡◌, Bool, true, false, List, length, pick, ◌≤?◌, ◌∧?◌}
use Rattle.text.specs.Prelude.{Res, ◌∨?◌, largest}
use Rattle.text.proofs.Prelude.{arith, refl, sym, ap, ◌∙◌, first, second, yes≤, no≤, is≤, isnt≤, fails, neither}
use Rattle.text.proofs.Prelude.{by_test, never}
use Rattle.part.specs.Part.{bytes_of}
use Rattle.records.specs.Record.{read_line_of}
use Rattle.records.specs.declared.Record.{Record}
use Rattle.igc_log.specs.Line.{cut_at}
use Rattle.igc_log.proofs.Cuts.{next_gt, next_le}
use Rattle.report.specs.Figures.{empty}
use Rattle.report.specs.Report.{taken_by, is_full_of, figures_in, report_after}
use Rattle.report.proofs.Answers.{figures_made}
use Rattle.report.proofs.Reports.{Room, room_less, room_open, room_first, taken_is, room_left}
use Rattle.cursor.specs.Cursor.{start, past, next_of}
use Rattle.walk.specs.Walk.{fresh, next_in, step_to, step_of, is_done}
use Rattle.walk.specs.Readings.{after_steps, at_end_of}
use Rattle.walk.specs.declared.{Walk.Walk}
use Rattle.text.specs.Prelude.{None}
use Rattle.walk.proofs.Laws.{step_on}

-- the second of two tests fails
second_fails : (a : Bool) {b : Bool} → b ≡ false → (a ∧? b) ≡ false
unfolding ◌∧?◌ pick
second_fails true e = e
second_fails false e = refl

-- one of two tests holds
sooner_holds : {a : Bool} (b : Bool) → a ≡ true → (a ∨? b) ≡ true
unfolding ◌∨?◌ pick
sooner_holds b e = rw e

later_holds : (a : Bool) {b : Bool} → b ≡ true → (a ∨? b) ≡ true
unfolding ◌∨?◌ pick
later_holds true e = refl
later_holds false e = e

module _ (s : List ℕ) (w : Walk) where
  -- the three ways to be done
  pub past_done : length s ≤ w.at.place → is_done s w ≡ true
  unfolding is_done ◌∨?◌ pick
  past_done h = rw (yes≤ h)

  pub number_done : largest ≤ w.at.number → is_done s w ≡ true
  unfolding is_done
  number_done h = later_holds _ (sooner_holds _ (yes≤ h))

  pub full_done : is_full_of (figures_in w.report) ≡ true → is_done s w ≡ true
  unfolding is_done
  full_done h = later_holds _ (later_holds _ h)

  -- and there is no other
  pub not_done : w.at.place < length s → w.at.number < largest → is_full_of (figures_in w.report) ≡ false →
      is_done s w ≡ false
  unfolding is_done ◌∨?◌ pick
  not_done p n room = rw (no≤ p, no≤ n) room

  -- done by its place or its number
  no_line : is_done s w ≡ true → is_full_of (figures_in w.report) ≡ false →
      ((w.at.place + 1 ≤? length s) ∧? (w.at.number + 1 ≤? largest)) ≡ false
  unfolding is_done ◌∨?◌ pick
  no_line e room =
      by_test (length s ≤? w.at.place)
      (λ p. fails _ (no≤ (omega (arith, is≤ p))))
      (λ p.
      by_test (largest ≤? w.at.number)
      (λ n. second_fails _ (no≤ (omega (arith, is≤ n))))
      (λ n. never e (rw (p, n) room)))

  -- done changes nothing
  pub done : is_done s w ≡ true → step_of s w ≡ record { walk = w; taken = None }
  unfolding step_of step_to next_in next_of
  done e =
      by_test (is_full_of (figures_in w.report))
      (λ full. ap (step_to s w) (sym (first _ full refl)))
      (λ room. ap (step_to s w) (sym (second _ room (second _ (no_line e room) refl))))

  -- what it is not to be done
  pub going : is_done s w ≡ false →
      (w.at.place < length s) × (w.at.number < largest) × (is_full_of (figures_in w.report) ≡ false)
  unfolding is_done
  going e =
      let others = (neither e).1 in
      (omega (arith, isnt≤ (neither e).0), omega (arith, isnt≤ (neither others).0), (neither others).1)

  -- a step that is not done moves on
  pub moves : is_done s w ≡ false → w.at.place < (step_of s w).walk.at.place
  unfolding past
  moves e = let on = going e in rw (step_on s w on.0 on.1 on.2) (next_gt s w.at.place on.0)

module _ (s : List ℕ) where
  -- a walk that is done stays
  pub stays : (k : ℕ) (w : Walk) → is_done s w ≡ true → after_steps k s w ≡ w
  unfolding after_steps
  stays zero w e = refl
  stays (suc k) w e = rw (done s w e) (stays k w e)

  -- after as many steps as bytes are left it is done
  pub ends : (k : ℕ) (w : Walk) → length s - w.at.place ≤ k → is_done s (after_steps k s w) ≡ true
  unfolding after_steps
  ends zero w h = past_done s w (omega arith)
  ends (suc k) w h =
      by_test (is_done s w)
      (λ e. rw (done s w e, stays k w e) e)
      (λ e. ends k (step_of s w).walk (omega (arith, moves s w e)))

  -- so one step more changes nothing
  settled : (k : ℕ) (w : Walk) → length s - w.at.place ≤ k → after_steps (suc k) s w ≡ after_steps k s w
  unfolding after_steps
  settled zero w h = stays 1 w (past_done s w (omega arith))
  settled (suc k) w h =
      by_test (is_done s w)
      (λ e. stays (suc (suc k)) w e ∙ sym (stays (suc k) w e))
      (λ e. settled k (step_of s w).walk (omega (arith, moves s w e)))

  module _ (w : Walk) where
    -- the end of a walk that is done is where it stands
    pub end_done : is_done s w ≡ true → at_end_of s w ≡ w
    unfolding at_end_of
    end_done e = stays (length s) w e

    from_there : (n : ℕ) → length s ≤ n → is_done s w ≡ false → after_steps n s w ≡ after_steps n s (step_of s w).walk
    unfolding after_steps
    from_there zero h e = let no : ⊥ = omega (arith, (going s w e).0) in absurd no
    from_there (suc n) h e = sym (settled n (step_of s w).walk (omega (arith, moves s w e)))

    -- that of any other is the end of the walk after its step
    pub end_step : is_done s w ≡ false → at_end_of s w ≡ at_end_of s (step_of s w).walk
    unfolding at_end_of
    end_step e = from_there (length s) (omega arith) e

    pub end_is_done : is_done s (at_end_of s w) ≡ true
    unfolding at_end_of
    end_is_done = ends (length s) w (omega arith)

-- any number of steps that is at least that of the log's bytes leads to the end
pub end_reached : (s : List ℕ) (w : Walk) (k : ℕ) → length s ≤ k → after_steps k s w ≡ at_end_of s w
unfolding at_end_of
end_reached s w zero h = let none : 0 ≡ length s = omega arith in ap (λ n. after_steps n s w) none
end_reached s w (suc k) h =
    by_test (length s ≤? k)
    (λ e. settled s k w (omega (arith, is≤ e)) ∙ end_reached s w k (is≤ e))
    (λ e. let all : suc k ≡ length s = omega (arith, isnt≤ e) in ap (λ n. after_steps n s w) all)

-- ---- room for all lines

-- each count of a walk has room for the lines that are left
pub record Roomy (s : List ℕ) (w : Walk) : Type 0 where
  pub inside : w.at.place ≤ length s
  pub number : w.at.number + (length s - w.at.place) ≤ largest
  pub report : Room (figures_in w.report) (length s - w.at.place)

-- as it has before the first step, in a log that a machine can hold
pub roomy_fresh : (s : List ℕ) → length s ≤ largest → Roomy s fresh
unfolding fresh start
roomy_fresh s h = record {
  inside = omega arith;
  number = omega arith;
  report = rw (figures_made empty) (room_first (omega arith));
}

module _ {s : List ℕ} {w : Walk} (roomy : Roomy s w) (i : w.at.place < length s) where
  -- for one line, and for those behind it
  one_more : Room (figures_in w.report) (suc (length s - w.at.place - 1))
  one_more = room_less (omega arith) roomy.report

  -- the counts do not stop such a walk
  pub roomy_on : is_done s w ≡ false
  roomy_on = not_done s w i (omega (arith, roomy.number)) (room_open one_more)

  -- the figures after the line
  pub figures_after : (m : Res Record) → figures_in (report_after w.report w.at.place m) ≡
      taken_by (figures_in w.report) w.at.place m
  unfolding report_after
  figures_after m = figures_made (taken_by (figures_in w.report) w.at.place m)

  -- and after it there is room for the lines that are left then
  pub roomy_step : Roomy s (step_of s w).walk
  unfolding past
  roomy_step =
      let on = going s w roomy_on in
      let gt = next_gt s w.at.place i in
      let m = read_line_of (bytes_of (cut_at w.at.place s).line s) in
      let left = room_left (figures_in w.report) w.at.place m one_more in
      rw (step_on s w on.0 on.1 on.2) (record {
        inside = next_le s w.at.place (omega arith);
        number = omega (arith, roomy.number);
        report = rw (figures_after m, taken_is (figures_in w.report) w.at.place m one_more)
            (room_less (omega arith) left);
      })
