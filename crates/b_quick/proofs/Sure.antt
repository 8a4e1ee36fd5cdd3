-- A fix of the quick way is the line's.
use Rattle.text.specs.Prelude.{None, Some}
use Rattle.text.specs.Prelude.{ℕ, ◌≡◌, Bool, true, false, List, Res, ok, no, pick}
use Rattle.text.proofs.Prelude.{arith}
use Rattle.b_record.specs.BRecord.{read_b}
use Rattle.b_record.specs.declared.BRecord.{BRecord}
use Rattle.b_quick.specs.Quick.{is_plain, fix_read, quick_of}

-- only the first of the two can be a fix
fix_is_read : (t : Bool) (m : Res BRecord) {b : BRecord} → Some b ≡ pick t (fix_read m) None → ok b ≡ m
unfolding pick fix_read
fix_is_read true (ok a) e = cc
fix_is_read true (no n) e = let z : ◌≡◌ {A = ℕ} 0 1 = cc in absurd (omega arith)
fix_is_read false m e = let z : ◌≡◌ {A = ℕ} 0 1 = cc in absurd (omega arith)

-- for callers: the line is read as that fix
pub quick_is_read : (s : List ℕ) {b : BRecord} → Some b ≡ quick_of s → ok b ≡ read_b s
unfolding quick_of
quick_is_read s e = fix_is_read (is_plain s) (read_b s) e
