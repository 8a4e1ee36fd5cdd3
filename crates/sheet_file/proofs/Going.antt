-- A sheet read through a window, from read to read.
use Rattle.std.specs.Prelude.{Option, Some, None, is_none, Result, Ok, Err}
use Rattle.text.specs.Prelude.{ℕ, ◌+◌, ◌-◌, ◌≤◌, ◌≡◌, true, false, List, [], ◌++◌, length, take, drop, pick}
use Rattle.text.specs.Prelude.{◌=?◌}
use Rattle.text.proofs.Prelude.{arith, refl, sym, ap, ◌∙◌, first, second, yes=, no=, by_test, never, length-drop}
use Rattle.igc_log.specs.Log.{closed}
use Rattle.igc_log.proofs.Chunks.{closed_none, closed_append}
use Rattle.files.specs.declared.{input.Filled.Filled, input.NotRead.NotRead}
use Rattle.window.specs.Piece.{piece_end_of}
use Rattle.sheet_read.specs.Sheet.{from_all_of, ends, Sheet, whole, no_sheet, read_sheet_of}
use Rattle.sheet_file.specs.File.{Answer, Onward, stopped, counted, ended_as, last_turn, passing, passed, full_turn}
use Rattle.sheet_file.specs.File.{turned, window_after, Told}
use Rattle.sheet_file.specs.declared.NoTotal.{NoTotal}
use Rattle.sheet_file.proofs.Passing.{later, ends_append, all_behind, read_behind, passing_none, passing_closed}

-- ---- a turn

-- where no read is to follow, the window is as it was
pub unmoved : (ended : Option Answer) (w : List ℕ) → is_none ended ≡ false → w ≡ window_after ended w
unfolding window_after
unmoved None w e = never refl e
unmoved (Some a) w e = refl

-- none follows the last piece
pub last_is_last : (before : ℕ) (x : Sheet) → is_none (ended_as before x).ended ≡ false
unfolding ended_as stopped
last_is_last before (whole t) = refl
last_is_last before (no_sheet n) = refl

-- how much of a full window goes by, as it was found
pub found_is : (w : List ℕ) {n g : ℕ} → n ≡ piece_end_of false w → drop g (take n w) ≡ from_all_of true (take n w) →
    g ≤ length (take n w) → g ≡ passing w
unfolding passing
found_is w {n} {g} e d h =
    let l : length (take n w) - length (from_all_of true (take n w)) ≡ g =
    omega (arith, ap length d, length-drop g (take n w), h) in
    sym (rw e at l)

module _ (before : ℕ) (w : List ℕ) {g : ℕ} (is : g ≡ passing w) where
  pub none_pass : g ≡ 0 → stopped (Err (NoTotal.TooLong (counted before 1))) ≡ full_turn before w
  unfolding full_turn
  none_pass z = first _ (yes= (sym is ∙ z)) refl

  pub some_pass : (g ≡ 0 → ⊥) → passed before w g ≡ full_turn before w
  unfolding full_turn
  some_pass h = second _ (no= (λ z. h (is ∙ z))) (ap (passed before w) is)

-- ---- what went by

counted_twice : (k n : ℕ) → counted (counted 0 k) n ≡ counted 0 (k + n)
counted_twice k n = omega arith

-- whole lines of which none begins with `all `, so many of them
pub record Gone (before : ℕ) : Type 0 where
  pub bytes : List ℕ
  pub whole : closed bytes ≡ true
  pub none : from_all_of true bytes ≡ []
  pub lines : before ≡ counted 0 (ends bytes)

-- before the first read
pub at_start : Gone 0
unfolding from_all_of ends
at_start = record { bytes = []; whole = closed_none; none = refl; lines = refl }

-- with those of a full window
goes_by : {before : ℕ} → Gone before → (w : List ℕ) → Gone (counted before (ends (take (passing w) w)))
goes_by g w =
    let x = take (passing w) w in
    record {
      bytes = g.bytes ++ x;
      whole = closed_append g.bytes x g.whole (passing_closed w);
      none = all_behind g.bytes x g.whole g.none ∙ passing_none w;
      lines =
          ap (λ n. counted n (ends x)) g.lines
          ∙ counted_twice (ends g.bytes) (ends x)
          ∙ ap (counted 0) (sym (ends_append g.bytes x));
    }

-- what is told at an end is true
abbrev pub ToldAt : Option Answer → Type 0
ToldAt None = Unit
ToldAt (Some a) = Told a

-- the end is told of all bytes
ends_as : {before : ℕ} → (k : ℕ) → before ≡ counted 0 k → (x : Sheet) → ended_as before x ≡ ended_as 0 (later k x)
unfolding ended_as
ends_as k e (whole t) = refl
ends_as k e (no_sheet n) =
    ap (λ m. stopped (Err (NoTotal.Wrong m))) (ap (λ m. counted m n) e ∙ counted_twice k n)

told_as : (bytes : List ℕ) (t : Onward) (x : Sheet) → t ≡ ended_as 0 x → x ≡ read_sheet_of bytes → ToldAt t.ended
unfolding ended_as stopped
told_as bytes t (whole y) e h = rw e (record { bytes = bytes; made = ap (ended_as 0) h })
told_as bytes t (no_sheet n) e h = rw e (record { bytes = bytes; made = ap (ended_as 0) h })

-- ---- from read to read

-- what is told is true, and what is to follow goes on from the lines that went by
pub record Goes (t : Onward) : Type 0 where
  pub told : ToldAt t.ended
  pub gone : is_none t.ended ≡ true → Gone t.before

module _ {before : ℕ} (g : Gone before) where
  goes_last : (s : List ℕ) → Goes (last_turn before s)
  unfolding last_turn
  goes_last s =
      let x = read_sheet_of s in
      record {
        told = told_as (g.bytes ++ s) (ended_as before x) (later (ends g.bytes) x)
            (ends_as (ends g.bytes) g.lines x)
            (sym (read_behind g.bytes s g.whole g.none));
        gone = λ h. never h (last_is_last before x);
      }

  goes_full : (w : List ℕ) → Goes (full_turn before w)
  unfolding full_turn passed stopped pick
  goes_full w =
      by_test (passing w =? 0)
      (λ e. rw e (record { told = tt; gone = λ h. never h refl }))
      (λ e. rw e (record { told = tt; gone = λ h. goes_by g w }))

  -- however far the window was filled
  pub goes_turned : (f : Result Filled NotRead) (w : List ℕ) → Goes (turned f before w)
  unfolding stopped
  goes_turned (Ok (Filled.Ended n)) w = goes_last (take n w)
  goes_turned (Ok Filled.Full) w = goes_full w
  goes_turned (Err e) w = record { told = tt; gone = λ h. never h refl }
