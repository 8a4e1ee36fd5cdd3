-- One line more, by its glance, is one reading more.
use Rattle.report.specs.Peak.{GpsPeak, PressurePeak}
use Rattle.b_record.specs.declared.BRecord.{BRecord}
use Rattle.text.specs.Prelude.{None, Option, Some}
use Rattle.text.specs.Prelude.{ℕ, ◌+◌, ◌<◌, ◌≤◌, ◌≡◌, Bool, true, false, List, [], length, get_or, Res, pick, largest}
use Rattle.text.proofs.Prelude.{arith, refl, sym, ◌∙◌, first, second, is≤}
use Rattle.text.proofs.Steps.{both as holding}
use Rattle.b_record.specs.declared.FixValid.{FixValid}
use Rattle.records.specs.Record.{read_line_of, answered, answer_fix}
use Rattle.records.specs.declared.{Record.Record}
use Rattle.records.proofs.Numbers.{answer_le}
use Rattle.report.specs.Range.{Range, joined, range_of}
use Rattle.report.specs.Counts.{numbers, by_number}
use Rattle.report.specs.Figures.{Figures, earlier, both}
use Rattle.report.specs.Report.{fixes_in, of_fix_of, marked, pressure_at, gps_at, time_at, below_pressure, below_gps, one_of}
use Rattle.report.specs.Report.{room_for, taken_by, is_full_of}
use Rattle.report.proofs.Ranges.{joined_none, range_none, range_one}
use Rattle.report.proofs.Counts.{raised}
use Rattle.report.proofs.Full.{taken_below}
use Rattle.reported.specs.Glance.{is_marked_of, plain_glance, fix_glance, glance_at, glance_of}
use Rattle.reported.specs.Flat.{one_seen, with_pressure, with_gps, with_time_of, one_more, room_by, glanced}
use Rattle.reported.specs.declared.glance.Glance.{Glance}

-- ---- what a glance keeps of a fix

number_kept : (n : ℕ) (m : (Option BRecord)) → (glance_at n m).number ≡ n
unfolding glance_at plain_glance fix_glance
number_kept n None = refl
number_kept n (Some b) = refl

fix_kept : (n : ℕ) (m : (Option BRecord)) → pick (glance_at n m).fix 1 0 ≡ fixes_in m
unfolding glance_at plain_glance fix_glance fixes_in pick
fix_kept n None = refl
fix_kept n (Some b) = refl

module _ {P : Type 0} (below : P → P → Bool) (r : Range P) where
  none_seen : r ≡ joined below r (range_of below [])
  none_seen = rw (range_none below) (sym (joined_none below r))

  marked_seen : (v : FixValid) (p : P) → one_seen below (is_marked_of v) p r ≡ joined below r (range_of below (marked v p))
  unfolding one_seen is_marked_of marked pick
  marked_seen FixValid.Valid p = rw (range_one below p)
  marked_seen FixValid.NavWarning p = none_seen

module _ (p n : ℕ) where
  pressure_kept : (r : Range PressurePeak) (m : (Option BRecord)) → let g = glance_at n m in
      with_pressure g.marked p g.pressure r
      ≡ joined below_pressure r (range_of below_pressure (of_fix_of (pressure_at p) m))
  unfolding with_pressure one_seen glance_at plain_glance fix_glance of_fix_of pressure_at pick
  pressure_kept r None = none_seen below_pressure r
  pressure_kept r (Some b) = marked_seen below_pressure r b.fix_valid _

  gps_kept : (r : Range GpsPeak) (m : (Option BRecord)) → let g = glance_at n m in
      with_gps g.marked p g.gps r ≡ joined below_gps r (range_of below_gps (of_fix_of (gps_at p) m))
  unfolding with_gps one_seen glance_at plain_glance fix_glance of_fix_of gps_at pick
  gps_kept r None = none_seen below_gps r
  gps_kept r (Some b) = marked_seen below_gps r b.fix_valid _

  time_kept : (r : Range ℕ) (m : (Option BRecord)) → let g = glance_at n m in
      with_time_of g.fix g.seconds r ≡ joined earlier r (range_of earlier (of_fix_of (time_at p) m))
  unfolding with_time_of one_seen glance_at plain_glance fix_glance of_fix_of time_at pick
  time_kept r None = none_seen earlier r
  time_kept r (Some b) = rw (range_one earlier)

-- ---- one line more

module _ (f : Figures PressurePeak GpsPeak) (p : ℕ) (m : Res Record) where
  -- what the glance leaves is what the reading leaves
  glanced_is : length f.answers ≡ numbers → glanced f p (glance_of m) ≡ both below_pressure below_gps f (one_of p m)
  unfolding glance_of glanced one_more both one_of by_number
  glanced_is wide =
      let n = answered m in
      let fix = answer_fix m in
      rw (
        number_kept n fix,
        rw wide at (raised f.answers n),
        fix_kept n fix,
        pressure_kept p n f.pressure fix,
        gps_kept p n f.gps fix,
        time_kept p n f.times fix,
      )

  -- and where no count is at its largest the reading is taken
  pub glanced_taken : is_full_of f ≡ false → length f.answers ≡ numbers → glanced f p (glance_of m) ≡ taken_by f p m
  glanced_taken room wide = glanced_is wide ∙ sym (taken_below f room p m)

  -- and it wants the room that the reading wants
  room_is : let g = glance_of m in
      room_by f.lines (get_or f.answers g.number 0) f.fixes g.fix ≡ room_for f m
  unfolding glance_of room_by room_for
  room_is = rw (number_kept (answered m) (answer_fix m), fix_kept (answered m) (answer_fix m))

  module _ {g : Glance} {count : ℕ} {room : Bool} (is : g ≡ glance_of m)
      (counted : count ≡ get_or f.answers g.number 0)
      (has : room ≡ room_by f.lines count f.fixes g.fix) where
    room_told : room ≡ room_for f m
    room_told = has ∙ rw (counted, is) room_is

    -- where every count has room, the line is taken
    pub taken : room ≡ true → length f.answers ≡ numbers → glanced f p g ≡ taken_by f p m
    unfolding taken_by
    taken h wide = first _ (sym room_told ∙ h) (rw is (glanced_is wide))

    -- else nothing changes
    pub kept : room ≡ false → f ≡ taken_by f p m
    unfolding taken_by
    kept h = second _ (sym room_told ∙ h) refl

-- what room says of each count
pub room_says : (lines count fixes : ℕ) (fix : Bool) → room_by lines count fixes fix ≡ true →
    (lines + 1 ≤ largest) × (count + 1 ≤ largest) × (fixes + pick fix 1 0 ≤ largest)
unfolding room_by
room_says lines count fixes fix h =
    let rest = (holding h).1 in
    (is≤ (holding h).0, is≤ (holding rest).0, is≤ (holding rest).1)

-- an answer's number has a count
pub number_small : (s : List ℕ) {g : Glance} → g ≡ glance_of (read_line_of s) → g.number < numbers
unfolding glance_of
number_small s is = rw (is, number_kept (answered (read_line_of s)) (answer_fix (read_line_of s))) (omega (arith, answer_le s))
