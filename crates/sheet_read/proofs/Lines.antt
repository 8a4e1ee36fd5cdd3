-- Where lines of a sheet end, and where the block of all logs begins.
use Rattle.text.specs.Prelude.{ℕ, ◌+◌, ◌-◌, ◌≤◌, ◌<◌, ◌≡◌, Bool, true, false, List, [], ◌∷◌, length, take, drop, pick}
use Rattle.text.specs.Prelude.{◌=?◌, ◌∧?◌, byte, LF}
use Rattle.text.proofs.Prelude.{arith, refl, ap, ◌∙◌, length-drop, length-take, drop_of_length-le, first}
use Rattle.text.proofs.Prelude.{second, yes=, no=, by_test, never, and, take_all}
use Rattle.text.specs.Spelt.{spelt}
use Rattle.total.specs.Total.{Totals}
use Rattle.block_read.specs.Read.{Read, got, wrong, next, starts_with}
use Rattle.block_read.specs.Block.{Block, read_all, block_in, block_of}
use Rattle.block_read.proofs.Words.{drop_byte}
use Rattle.block_read.proofs.Leaving.{Leaves, leaves_all}
use Rattle.sheet_read.specs.Sheet.{from_all_of, ends, line_at, whole, no_sheet, sheet_of, read_sheet_of}

-- ---- lines that end

-- a turn of the loop that counts: n lines end before i
module _ (s : List ℕ) (n i : ℕ) (inside : i < length s) (inv : n + ends (drop i s) ≡ ends s) where
  cell : n + (pick (byte i s =? LF) 1 0 + ends (drop (i + 1) s)) ≡ ends s
  unfolding ends
  cell = rw (drop_byte s i inside) at inv

  pub end_here : byte i s ≡ LF → n + 1 + ends (drop (i + 1) s) ≡ ends s
  unfolding pick
  end_here h = omega (arith, rw (yes= h) at cell)

  pub no_end_here : (byte i s ≡ LF → ⊥) → n + ends (drop (i + 1) s) ≡ ends s
  unfolding pick
  no_end_here h = omega (arith, rw (no= h) at cell)

pub ends_counted : (s : List ℕ) (n i : ℕ) → length s ≤ i → n + ends (drop i s) ≡ ends s → n ≡ ends s
unfolding ends
ends_counted s n i h inv = omega (arith, rw (drop_of_length-le s h) at inv)

-- ---- the first line that begins with `all `

-- a text from a place on, as the code cuts it
pub rest_of : (s : List ℕ) (i : ℕ) → take (length s - i) (drop i s) ≡ drop i s
rest_of s i = take_all (length s - i) (drop i s) (omega (arith, length-drop i s))

-- a turn of the loop that looks for it: from i on it is e
module _ (s : List ℕ) (i : ℕ) (start : Bool) {e : List ℕ} (inside : i < length s)
    (inv : from_all_of start (drop i s) ≡ e) where
  line : pick (start ∧? starts_with (spelt "all ") (drop i s)) (drop i s) (from_all_of (byte i s =? LF) (drop (i + 1) s))
      ≡ e
  unfolding from_all_of
  line = rw (drop_byte s i inside) (rw (drop_byte s i inside) at inv)

  pub all_here : start ≡ true → starts_with (spelt "all ") (drop i s) ≡ true → drop i s ≡ e
  unfolding pick
  all_here t h = rw (and t h) at line

  pub not_here : (start ∧? starts_with (spelt "all ") (drop i s)) ≡ false →
      from_all_of (byte i s =? LF) (drop (i + 1) s) ≡ e
  unfolding pick
  not_here h = rw h at line

pub none_here : (s : List ℕ) (i : ℕ) (start : Bool) {e : List ℕ} → length s ≤ i → from_all_of start (drop i s) ≡ e →
    drop i s ≡ e
unfolding from_all_of
none_here s i start h inv = rw (drop_of_length-le s h) (rw (drop_of_length-le s h) at inv)

-- ---- the verdict

ends_le : (s : List ℕ) → ends s ≤ length s
unfolding ends pick
ends_le [] = omega arith
ends_le (b ∷ s) = by_test (b =? LF) (λ e. rw e (omega (arith, ends_le s))) (λ e. rw e (omega (arith, ends_le s)))

pub ends_part : (k : ℕ) (s : List ℕ) → ends (take k s) ≤ length s
ends_part k s = omega (arith, ends_le (take k s), length-take k s)

-- the block of all logs begins at `at`, and was read up to `stop`
module _ (text : List ℕ) (at : ℕ) (inside : at ≤ length text) where
  line_at_lem : (r : List ℕ) → length r ≤ length (drop at text) →
      at + (length (drop at text) - length r) ≡ length text - length r
  line_at_lem r h = omega (arith, length-drop at text, inside, h)

  -- by what was read of it
  verdict_whole : (m : Read Totals) → Leaves (length (drop at text)) m → {t : Totals} {n : ℕ} →
      record { total = t; end = n; good = true } ≡ block_in (drop at text) m → at + n ≡ length text →
      whole t ≡ sheet_of text (next m (λ t r. pick (length r =? 0) (got t r) (wrong r)))
  unfolding block_in sheet_of next
  verdict_whole (got u r) l e z =
      let end = ap (λ (b : Block). b.end) e in
      let empty : length r ≡ 0 = omega (arith, l.most, end, z, length-drop at text, inside) in
      ap whole (ap (λ (b : Block). b.total) e) ∙ ap (sheet_of text) (first _ (yes= empty) (refl {a = got u r}))
  verdict_whole (wrong r) l e z = never refl (ap (λ (b : Block). b.good) e)

  verdict_line : (m : Read Totals) → Leaves (length (drop at text)) m → {t : Totals} {n : ℕ} {good : Bool} →
      record { total = t; end = n; good = good } ≡ block_in (drop at text) m →
      (good ≡ true → at + n ≡ length text → ⊥) →
      no_sheet (ends (take (at + n) text) + 1) ≡
      sheet_of text (next m (λ t r. pick (length r =? 0) (got t r) (wrong r)))
  unfolding block_in sheet_of next line_at
  verdict_line (got u r) l e h =
      let n = ap (λ (b : Block). b.end) e in
      let some : length r ≡ 0 → ⊥ = λ z.
      h (ap (λ (b : Block). b.good) e) (omega (arith, z, n, length-drop at text, inside)) in
      rw (n, line_at_lem r l.most) (ap (sheet_of text) (second _ (no= some) (refl {a = wrong r})))
  verdict_line (wrong r) l e h = rw (ap (λ (b : Block). b.end) e, line_at_lem r l.most)

  module _ (begins : drop at text ≡ from_all_of true text) {t : Totals} {n : ℕ} where
    pub sheet_whole : record { total = t; end = n; good = true } ≡ block_of (drop at text) → at + n ≡ length text →
        whole t ≡ read_sheet_of text
    unfolding read_sheet_of block_of
    sheet_whole e z =
        rw (← begins) (verdict_whole (read_all (drop at text)) (leaves_all (drop at text) (omega arith)) e z)

    pub sheet_stopped : {good : Bool} → record { total = t; end = n; good = good } ≡ block_of (drop at text) →
        (good ≡ true → at + n ≡ length text → ⊥) → no_sheet (ends (take (at + n) text) + 1) ≡ read_sheet_of text
    unfolding read_sheet_of block_of
    sheet_stopped e h =
        rw (← begins) (verdict_line (read_all (drop at text)) (leaves_all (drop at text) (omega arith)) e h)

    -- what was read lies inside
    inside_by : (m : Read Totals) {good : Bool} →
        record { total = t; end = n; good = good } ≡ block_in (drop at text) m → at + n ≤ length text
    unfolding block_in
    inside_by (got u r) e = omega (arith, ap (λ (b : Block). b.end) e, length-drop at text, inside)
    inside_by (wrong r) e = omega (arith, ap (λ (b : Block). b.end) e, length-drop at text, inside)

    pub stop_inside : {good : Bool} → record { total = t; end = n; good = good } ≡ block_of (drop at text) →
        at + n ≤ length text
    unfolding block_of
    stop_inside e = inside_by (read_all (drop at text)) e
