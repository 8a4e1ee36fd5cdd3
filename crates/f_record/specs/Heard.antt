-- What the set of an F line's record says of the list in that line.
use Rattle.std.specs.Prelude.{◌≡◌}
use Rattle.text.specs.Prelude.{ℕ, List, drop, ok}
use Rattle.satellites.specs.Satellites.{occurs, different, numbers, has_number, count_of}
use Rattle.f_record.specs.FRecord.{read_f}
use Rattle.f_record.specs.declared.FRecord.{FRecord}

-- The numbers that an F line lists, from column 7 on.
abbrev pub listed : List ℕ → List ℕ
listed s = numbers (drop 7 s)

-- The set of an accepted F line has the numbers that the line lists and no other, and counts the different ones.
pub record Heard (s : List ℕ) (r : FRecord) : Type 0 where
  pub has : (n : ℕ) → has_number n r.satellites ≡ occurs n (listed s)
  pub count : count_of r.satellites ≡ different (listed s)

-- That holds of every line.
abbrev pub EveryHeard : Type 0
EveryHeard = (s : List ℕ) (r : FRecord) → read_f s ≡ ok r → Heard s r
