-- A count at its largest.
use Rattle.report.specs.Peak.{GpsPeak, PressurePeak}
use Rattle.b_record.specs.declared.BRecord.{BRecord}
use Rattle.text.specs.Prelude.{None, Option, Some}
use Rattle.text.specs.Prelude.{ℕ, zero, suc, ◌+◌, ◌≤◌, ◌<◌, ◌≡◌, Bool, true, false, List, [], ◌∷◌, length, drop, get_or}
use Rattle.text.specs.Prelude.{set, Res, pick, ◌≤?◌, ◌∨?◌, largest}
use native.Mathlib.Numerals.{add-one}
use Rattle.text.proofs.Prelude.{arith, refl, sym, drop-cons, yes≤, no≤, isnt≤, neither, and, first}
use Rattle.records.specs.Record.{answered, answer_fix}
use Rattle.records.specs.declared.{Record.Record}
use Rattle.report.specs.Counts.{one_full_of}
use Rattle.report.specs.Figures.{Figures, both}
use Rattle.report.specs.Report.{fixes_in, below_pressure, below_gps, one_of, room_for, taken_by, is_full_of}

-- ---- one of some counts

module _ (ns : List ℕ) (i : ℕ) (inside : i < length ns) where
  -- the count at i
  pub full_here : largest ≤ get_or ns i 0 → one_full_of (drop i ns) ≡ true
  unfolding one_full_of ◌∨?◌ pick
  full_here h = rw (drop-cons ns i 0 inside, yes≤ h)

  -- or one behind it
  pub full_later : get_or ns i 0 < largest → one_full_of (drop (i + 1) ns) ≡ one_full_of (drop i ns)
  unfolding one_full_of ◌∨?◌ pick
  full_later h = rw (drop-cons ns i 0 inside, no≤ h, add-one)

-- where none is at its largest neither the first is nor one of the others
none_full : (n : ℕ) (ns : List ℕ) → one_full_of (n ∷ ns) ≡ false → ((largest ≤? n) ≡ false) × (one_full_of ns ≡ false)
unfolding one_full_of
none_full n ns e = neither e

-- where none is at its largest each is below it
pub each_below : (ns : List ℕ) (i : ℕ) → one_full_of ns ≡ false → get_or ns i 0 < largest
unfolding one_full_of
each_below [] i e = omega arith
each_below (n ∷ ns) zero e = omega (arith, isnt≤ (none_full n ns e).0)
each_below (n ∷ ns) (suc i) e = each_below ns i (none_full n ns e).1

by_itself : (t : Bool) {u : Bool} → u ≡ false → t ≡ (t ∨? u)
unfolding ◌∨?◌ pick
by_itself true e = refl
by_itself false e = sym e

-- and the other way round
pub none_reached : (ns : List ℕ) → ((i : ℕ) → get_or ns i 0 < largest) → one_full_of ns ≡ false
unfolding one_full_of ◌∨?◌ pick
none_reached [] below = refl
none_reached (n ∷ ns) below = rw (no≤ (below 0)) (none_reached ns (λ i. below (suc i)))

-- with another count in the place of one, that one alone can be
pub full_set : (ns : List ℕ) (i c : ℕ) → i < length ns → one_full_of ns ≡ false → (largest ≤? c) ≡ one_full_of (set ns i c)
unfolding one_full_of ◌∨?◌ pick
full_set [] i c h e = let no : ⊥ = omega arith in absurd no
full_set (n ∷ ns) zero c h e = by_itself (largest ≤? c) (none_full n ns e).1
full_set (n ∷ ns) (suc i) c h e =
    let others = none_full n ns e in rw others.0 (full_set ns i c (omega arith) others.1)

-- ---- a report

-- a reading is one fix at most
pub one_fix : (m : (Option BRecord)) → fixes_in m ≤ 1
unfolding fixes_in
one_fix (Some b) = omega arith
one_fix None = omega arith

module _ (f : Figures PressurePeak GpsPeak) (room : is_full_of f ≡ false) where
  -- where no count is at its largest each is below it
  pub lines_below : f.lines < largest
  unfolding is_full_of
  lines_below = omega (arith, isnt≤ (neither room).0)

  pub fixes_below : f.fixes < largest
  unfolding is_full_of
  fixes_below = omega (arith, isnt≤ (neither (neither room).1).0)

  pub no_answer_full : one_full_of f.answers ≡ false
  unfolding is_full_of
  no_answer_full = (neither (neither room).1).1

  pub answers_below : (n : ℕ) → get_or f.answers n 0 < largest
  answers_below n = each_below f.answers n no_answer_full

  -- and every reading is taken
  pub taken_below : (p : ℕ) (m : Res Record) → taken_by f p m ≡ both below_pressure below_gps f (one_of p m)
  unfolding taken_by room_for
  taken_below p m =
      sym (first _ (and (yes≤ (omega (arith, lines_below))) (and (yes≤ (omega (arith, answers_below (answered m))))
      (yes≤ (omega (arith, fixes_below, one_fix (answer_fix m)))))) refl)
