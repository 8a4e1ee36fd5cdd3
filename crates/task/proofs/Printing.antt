-- A sheet printed: three laws for its printers, and what a declaration's count tells of it.
use Rattle.text.specs.Prelude.{no, ok}
use Rattle.text.specs.Prelude.{ℕ, ◌+◌, ◌≤◌, ◌<◌, ◌≡◌, List, ◌++◌, length, drop, ℤ, pos, negsuc, pick, ◌≤?◌}
use native.Mathlib.Omega.{arith}
use mathlib.Core.Path.{refl, sym, ◌∙◌}
use borrow.Author.Tests.{le-leb, lt-leb}
use native.Mathlib.Nat.{zero-add}
use lib.Seq.{sets-eq, sets}
use Rattle.put.specs.Put.{Wrote}
use Rattle.task_line.specs.Lines.{TaskLine}
use Rattle.task.specs.Sheet.{Sheet, sheet, refused, declared, sheet_from, sheet_after, size_of, answer_to, left_by}
use Rattle.task.specs.Sheet.{PrintsSheet}
use Rattle.task.specs.declared.{TaskRefusal.TaskRefusal}

-- there is no sheet
pub none : {m : Sheet} {n : TaskRefusal} (b : List ℕ) → refused n ≡ m → PrintsSheet m b b (no n)
unfolding answer_to left_by
none b e = rw (sym e) (record { answer = refl; left = refl })

-- the text t, tried on other bytes, ends at n: there is no room for it
pub no_room : {e e' b t : List ℕ} {m : Sheet} {n : ℕ} → sheet t ≡ m → Wrote e 0 t e' n → length b < n →
    PrintsSheet m b b (no TaskRefusal.NoRoom)
unfolding answer_to left_by pick ◌≤?◌
no_room {b} {t} o d h =
    let k : length b < length t = omega (arith, d.next) in
    rw (sym o) (record { answer = rw (lt-leb _ _ k); left = rw (lt-leb _ _ k) })

-- there is, and t was written from the start on
pub written : {e e' b b' t : List ℕ} {m : Sheet} {n r : ℕ} → sheet t ≡ m → Wrote e 0 t e' n → n ≤ length b →
    Wrote b 0 t b' r → PrintsSheet m b b' (ok r)
unfolding answer_to left_by pick ◌≤?◌
written {b} {t} {r} o d h w =
    let k : length t ≤ length b = omega (arith, d.next, w.short) in
    let z : r ≡ length t = omega (arith, w.next, w.short) in
    let s : sets b 0 t ≡ t ++ drop (length t) b = sets-eq t b 0 (omega arith) ∙ rw zero-add in
    rw (sym o) (record { answer = rw (le-leb _ _ k, z); left = rw (le-leb _ _ k) (w.content ∙ s) })

module _ (labels : List ℕ) (later : List TaskLine) where
  -- the count is negative
  pub negative : (z : ℤ) {n : TaskRefusal} → no n ≡ size_of z → refused n ≡ sheet_after labels (declared z later)
  unfolding size_of sheet_after
  negative (pos n) e = let z : ◌≡◌ {A = ℕ} 0 1 = cc in absurd (omega arith)
  negative (negsuc k) {n} e = let h : n ≡ TaskRefusal.NegativeCount = cc in rw h

  -- it asks for k points
  pub asked : (z : ℤ) {k : ℕ} → ok k ≡ size_of z → sheet_from labels k later ≡ sheet_after labels (declared z later)
  unfolding size_of sheet_after
  asked (pos n) {k} e = let h : k ≡ n + 4 = cc in rw h
  asked (negsuc n) e = let z : ◌≡◌ {A = ℕ} 0 1 = cc in absurd (omega arith)
