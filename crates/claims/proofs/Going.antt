-- A log judged from read to read.
use Rattle.std.specs.Prelude.{Option, Some, None, is_none, Result, Ok, Err}
use Rattle.text.specs.Prelude.{ℕ, zero, suc, ◌-◌, ◌≤◌, ◌≡◌, true, false, List, [], ◌∷◌, ◌++◌, length}
use Rattle.text.specs.Prelude.{take, pick, ◌=?◌, LF}
use Rattle.text.proofs.Prelude.{arith, refl, sym, ◌∙◌, append_assoc, take_all, first, second, no≤, is≤}
use Rattle.text.proofs.Prelude.{is=, by_test, never}
use Rattle.igc_log.specs.Line.{up_to, has_lf_of}
use Rattle.igc_log.specs.Log.{chunks, closed, read_from, readings}
use Rattle.igc_log.specs.Fold.{over}
use Rattle.window.specs.Piece.{grow, whole_length_of, piece_end_of}
use Rattle.window.proofs.Wholes.{whole_le, whole_closed}
use Rattle.files.specs.Outcome.{Outcome}
use Rattle.files.specs.declared.{input.Filled.Filled, input.NotRead.NotRead, outcome.Failure.Failure}
use Rattle.walk.specs.Readings.{reader}
use Rattle.claim.specs.Step.{fresh, claim_step, claim_on_of}
use Rattle.claim.specs.declared.Sofar.{Sofar}
use Rattle.claim.proofs.Deciding.{decides}
use Rattle.claim.proofs.Stepping.{no_stays_over}
use Rattle.claim.proofs.Piecing.{on_taken, over_two}
use Rattle.claim.proofs.Fronts.{long_front}
use Rattle.claims.specs.Claims.{has_room_of, stopped, last_turn, leaving, take_front, full_turn, turned, window_after}
use Rattle.claims.specs.Claims.{Going, Judged}
use Rattle.claims.specs.declared.Turn.{Turn}

-- ---- a turn

-- where no read is to follow, the window is as it was
pub unmoved : (ended : Option Outcome) (w : List ℕ) → is_none ended ≡ false → w ≡ window_after ended w
unfolding window_after
unmoved None w e = never refl e
unmoved (Some o) w e = refl

-- none follows the last piece
pub last_is_last : (c : Sofar) (lines : List ℕ) → is_none (last_turn c lines).ended ≡ false
unfolding last_turn stopped pick
last_is_last c lines = by_test (has_room_of c lines) (λ e. rw e) (λ e. rw e)

-- what leaves a window is inside
pub leaving_inside : (w : List ℕ) → leaving w ≤ length w
unfolding leaving piece_end_of pick
leaving_inside w = by_test (whole_length_of w =? 0) (λ e. rw e (omega arith)) (λ e. rw e (whole_le w))

-- what leaves a full window was taken, and the rest is kept
pub front_taken : (c : Sofar) (w : List ℕ) (n : ℕ) {t : Sofar} {k : ℕ} → has_room_of c (take n w) ≡ true →
    t ≡ claim_on_of c (take n w) → k ≡ length w - n →
    ◌≡◌ {A = Turn} (record { sofar = t; fill = k; ended = None }) (take_front c w n)
unfolding take_front
front_taken c w n h e f = first _ h (rw (e, f))

-- ---- a window without an LF

none_grown : (b n : ℕ) → grow b n ≡ 0 → ((b =? LF) ≡ false) × (n ≡ 0)
unfolding grow pick
none_grown b zero h =
    by_test (b =? LF) (λ e. let z : ◌≡◌ {A = ℕ} 1 0 = rw e at h in absurd (omega arith)) (λ e. (e, refl))
none_grown b (suc n) h = absurd (omega arith)

up_to_end : (s : List ℕ) → whole_length_of s ≡ 0 → length s ≤ up_to s
unfolding whole_length_of up_to
up_to_end [] h = omega arith
up_to_end (b ∷ s) h =
    let g = none_grown b (whole_length_of s) h in
    let l = up_to_end s g.1 in
    let u : suc (up_to s) ≡ pick (b =? LF) 0 (suc (up_to s)) = second _ g.0 refl in
    omega (arith, u)

no_lf : (w : List ℕ) → whole_length_of w ≡ 0 → has_lf_of w ≡ false
unfolding has_lf_of
no_lf w h = no≤ (omega (arith, up_to_end w h))

-- ---- from read to read

nothing_follows : (c : Sofar) → over claim_step c (readings reader []) ≡ c
unfolding readings chunks read_from over
nothing_follows c = refl

-- before the first read
pub at_start : Going fresh
at_start = record { bytes = []; made = λ rest. refl }

module _ {c : Sofar} (g : Going c) where
  -- the last lines were taken
  judged_last : (s : List ℕ) → Judged (over claim_step c (readings reader s))
  judged_last s = record {
    bytes = g.bytes ++ s;
    verdict = rw (g.made s) (decides.decides (readings reader (g.bytes ++ s)));
  }

  -- none were
  pub judged_now : Judged c
  judged_now = rw (nothing_follows c) at (judged_last [])

  -- some whole lines were
  going_whole : (s : List ℕ) → closed s ≡ true → Going (over claim_step c (readings reader s))
  going_whole s h = record {
    bytes = g.bytes ++ s;
    made = λ rest. over_two c s rest h ∙ g.made (s ++ rest) ∙ rw (append_assoc g.bytes s rest);
  }

  -- the front of a line that is too long was
  going_front : (s : List ℕ) → has_lf_of s ≡ false → 78 ≤ length s → Going (over claim_step c (readings reader s))
  going_front s n h = record {
    bytes = g.bytes ++ s;
    made = λ rest.
        no_stays_over (over claim_step c (readings reader s)) (readings reader rest) (long_front.fails c s n h)
        ∙ sym (long_front.stays c s rest n h) ∙ g.made (s ++ rest) ∙ rw (append_assoc g.bytes s rest);
  }

  -- what leaves a full window was
  going_left : (w : List ℕ) → 78 ≤ length w → Going (over claim_step c (readings reader (take (leaving w) w)))
  unfolding leaving piece_end_of pick
  going_left w h =
      by_test (whole_length_of w =? 0)
      (λ e. rw (e, take_all (length w) w (omega arith)) (going_front w (no_lf w (is= e)) h))
      (λ e. rw e (going_whole (take (whole_length_of w) w) (whole_closed w)))

  -- a turn was made
  abbrev Gone : Turn → Type 0
  Gone t = Judged t.sofar × (is_none t.ended ≡ true → Going t.sofar)

  gone_stopped : (o : Outcome) → Gone (stopped c o)
  unfolding stopped
  gone_stopped o = (judged_now, λ h. never h refl)

  gone_last : (lines : List ℕ) → Gone (last_turn c lines)
  unfolding last_turn stopped pick has_room_of
  gone_last lines =
      by_test (has_room_of c lines)
      (λ e. rw (e, on_taken c lines (is≤ e)) (judged_last lines, λ h. never h refl))
      (λ e. rw e (gone_stopped (Err Failure.NotRead)))

  gone_full : (w : List ℕ) → 78 ≤ length w → Gone (full_turn c w)
  unfolding full_turn take_front pick has_room_of
  gone_full w h =
      let s = take (leaving w) w in
      by_test (has_room_of c s)
      (λ e. rw (e, on_taken c s (is≤ e)) (judged_last s, λ m. going_left w h))
      (λ e. rw e (gone_stopped (Err Failure.NotRead)))

  -- however far the window was filled
  pub goes_turned : (f : Result Filled NotRead) (w : List ℕ) → 78 ≤ length w → Gone (turned f c w)
  goes_turned (Ok (Filled.Ended n)) w h = gone_last (take n w)
  goes_turned (Ok Filled.Full) w h = gone_full w h
  goes_turned (Err e) w h = gone_stopped (Err Failure.NotRead)
