-- A log taken into a report, from read to read.
use Rattle.std.specs.Prelude.{Option, Some, None, is_none, Result, Ok, Err}
use Rattle.text.specs.Prelude.{ℕ, ◌+◌, ◌≤◌, ◌≡◌, Bool, true, false, List, [], ◌++◌, length, take, pick}
use Rattle.text.specs.Prelude.{◌=?◌, largest}
use Rattle.text.proofs.Prelude.{arith, refl, sym, ap, ◌∙◌, length-append, first, second, yes≤, no=, is≤, by_test}
use Rattle.text.proofs.Prelude.{never}
use Rattle.igc_log.specs.Log.{chunks, closed, read_from}
use Rattle.igc_log.specs.Fold.{over}
use Rattle.igc_log.proofs.Chunks.{closed_none, closed_append}
use Rattle.window.specs.Piece.{whole_length_of, piece_end_of}
use Rattle.window.proofs.Wholes.{whole_closed}
use Rattle.files.specs.Outcome.{Outcome}
use Rattle.files.specs.declared.{input.Filled.Filled, input.NotRead.NotRead}
use Rattle.reported.specs.Reported.{SoFar, figures_on, readings_at, nothing_yet, report_on_of}
use Rattle.reported.proofs.Pieces.{in_pieces}
use Rattle.sheets.specs.Sheets.{has_room_of, Onward, stopped, last_turn, take_whole, full_turn, turned, window_after}
use Rattle.sheets.specs.Sheets.{Goes, FromStart}

-- ---- a turn

-- where no read is to follow, the window is as it was
pub unmoved : (ended : Option Outcome) (w : List ℕ) → is_none ended ≡ false → w ≡ window_after ended w
unfolding window_after
unmoved None w e = never refl e
unmoved (Some o) w e = refl

-- none follows the last piece
pub last_is_last : (c : SoFar) (lines : List ℕ) → is_none (last_turn c lines).ended ≡ false
unfolding last_turn stopped pick
last_is_last c lines = by_test (has_room_of c lines) (λ e. rw e) (λ e. rw e)

-- a full window with whole lines
pub whole_lines : (c : SoFar) (w : List ℕ) {n : ℕ} {t : Onward} → n ≡ piece_end_of false w → (n ≡ 0 → ⊥) →
    t ≡ take_whole c w n → t ≡ full_turn c w
unfolding full_turn
whole_lines c w e some h = second _ (no= (λ z. some (e ∙ z))) (h ∙ ap (take_whole c w) e)

-- ---- from read to read

-- where bytes have room, the next place is behind them
place_on : (c : SoFar) (s : List ℕ) → c.place + length s ≤ largest → (report_on_of c s).place ≡ c.place + length s
unfolding report_on_of
place_on c s h = ap (λ (k : SoFar). k.place) (sym (first c (yes≤ h) refl))

-- before the first read
pub at_start : Goes nothing_yet nothing_yet true
unfolding nothing_yet report_on_of figures_on readings_at chunks read_from over
at_start = record {
  bytes = [];
  room = omega arith;
  made = first _ (yes≤ (omega arith)) refl;
  whole = λ h. closed_none;
}

-- what was taken, where nothing is to follow
pub goes_last : {c c' : SoFar} {more : Bool} → Goes c c' more → Goes c c' false
goes_last g = record { bytes = g.bytes; room = g.room; made = g.made; whole = λ h. never h refl }

module _ {c₀ c : SoFar} (g : Goes c₀ c true) where
  -- some lines more were taken
  goes_on : {more : Bool} (s : List ℕ) → has_room_of c s ≡ true → (more ≡ true → closed s ≡ true) →
      Goes c₀ (report_on_of c s) more
  unfolding has_room_of
  goes_on s h k =
      let w = g.whole refl in
      let p = ap (λ (k : SoFar). k.place) g.made ∙ place_on c₀ g.bytes g.room in
      let r : c₀.place + length g.bytes + length s ≤ largest = omega (arith, is≤ h, p) in
      record {
        bytes = g.bytes ++ s;
        room = omega (arith, r, length-append g.bytes s);
        made = rw g.made (in_pieces.two c₀ g.bytes s w r);
        whole = λ m. closed_append _ _ w (k m);
      }

  -- a turn was made
  abbrev Gone : Onward → Type 0
  Gone t = Goes c₀ t.sofar (is_none t.ended)

  gone_last : (lines : List ℕ) → Gone (last_turn c lines)
  unfolding last_turn stopped pick
  gone_last lines =
      by_test (has_room_of c lines)
      (λ e. rw e (goes_on lines e (λ h. never h refl)))
      (λ e. rw e (goes_last g))

  gone_whole : (w : List ℕ) (n : ℕ) → closed (take n w) ≡ true → Gone (take_whole c w n)
  unfolding take_whole stopped pick
  gone_whole w n k =
      by_test (has_room_of c (take n w))
      (λ e. rw e (goes_on (take n w) e (λ h. k)))
      (λ e. rw e (goes_last g))

  gone_full : (w : List ℕ) → Gone (full_turn c w)
  unfolding full_turn piece_end_of stopped pick
  gone_full w =
      by_test (whole_length_of w =? 0)
      (λ e. rw e (goes_last g))
      (λ e. rw e (gone_whole w (whole_length_of w) (whole_closed w)))

  -- however far the window was filled
  pub goes_turned : (f : Result Filled NotRead) (w : List ℕ) → Gone (turned f c w)
  unfolding stopped
  goes_turned (Ok (Filled.Ended n)) w = gone_last (take n w)
  goes_turned (Ok Filled.Full) w = gone_full w
  goes_turned (Err e) w = goes_last g

-- from the start
pub from_start : FromStart
unfolding nothing_yet
from_start = record { report = λ c more g. g.made ∙ in_pieces.whole g.bytes (omega (arith, g.room)) }
