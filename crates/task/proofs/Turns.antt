-- What the line that is seen at a place tells of the first declaration, and of the points that are left.
use Rattle.text.specs.Prelude.{ℕ, zero, suc, ◌≤◌, ◌<◌, ◌≡◌, true, false, List, [], ◌∷◌, length, drop, ℤ}
use native.Mathlib.Omega.{arith}
use mathlib.Core.Path.{refl}
use lib.ListN.{drop_of_length-le}
use Rattle.c_turnpoint_record.specs.declared.CRecordTurnpoint.{CRecordTurnpoint}
use Rattle.igc_log.specs.Log.{chunks, read_from, readings}
use Rattle.task_line.specs.Lines.{TaskLine, line_of, task_lines, Sees}
use Rattle.task_line.specs.declared.{Kind.Kind, Seen.Seen}
use Rattle.task.specs.Sheet.{missing, declared, first_declaration, are_points_of}

-- past the end no line is left
none_past : (s : List ℕ) (p : ℕ) → length s ≤ p → task_lines (drop p s) ≡ []
unfolding task_lines readings read_from chunks
none_past s p h = rw (drop_of_length-le s h)

-- ---- the first declaration

-- a line that is none is passed
passed : (k : Kind) (l : List ℕ) (ls : List TaskLine) → ((n : ℤ) → k ≡ Kind.Declaration n → ⊥) →
    first_declaration ls ≡ first_declaration (line_of k l ∷ ls)
unfolding first_declaration line_of
passed (Kind.Declaration count) l ls h = absurd (h count refl)
passed (Kind.Point r) l ls h = refl
passed Kind.Other l ls h = refl

module _ (s : List ℕ) (p : ℕ) where
  pub no_declaration : length s ≤ p → missing ≡ first_declaration (task_lines (drop p s))
  unfolding first_declaration
  no_declaration h = rw (none_past s p h)

  module _ {x : Seen} (a : Sees s p x) (h : p < length s) where
    pub declared_here : {count : ℤ} → x.kind ≡ Kind.Declaration count →
        declared count (task_lines (drop x.next s)) ≡ first_declaration (task_lines (drop p s))
    unfolding first_declaration line_of
    declared_here j = rw (a.first h, j)

    pub declared_later : ((n : ℤ) → x.kind ≡ Kind.Declaration n → ⊥) →
        first_declaration (task_lines (drop x.next s)) ≡ first_declaration (task_lines (drop p s))
    declared_later j = rw (a.first h) (passed x.kind _ _ j)

-- ---- points

-- a line that is none interrupts them
interrupted : (n : ℕ) (k : Kind) (l : List ℕ) (ls : List TaskLine) →
    ((r : CRecordTurnpoint) → k ≡ Kind.Point r → ⊥) → false ≡ are_points_of (suc n) (line_of k l ∷ ls)
unfolding are_points_of line_of
interrupted n (Kind.Declaration count) l ls h = refl
interrupted n (Kind.Point r) l ls h = absurd (h r refl)
interrupted n Kind.Other l ls h = refl

pub all_points : (n : ℕ) (ls : List TaskLine) → n ≡ 0 → true ≡ are_points_of n ls
unfolding are_points_of
all_points n ls h = rw h

module _ (s : List ℕ) (p : ℕ) where
  pub too_few : (n : ℕ) → 0 < n → length s ≤ p → false ≡ are_points_of n (task_lines (drop p s))
  unfolding are_points_of
  too_few zero h q = absurd (omega arith)
  too_few (suc n) h q = rw (none_past s p q)

  module _ {x : Seen} (a : Sees s p x) (h : p < length s) where
    pub no_point : (n : ℕ) → 0 < n → ((r : CRecordTurnpoint) → x.kind ≡ Kind.Point r → ⊥) →
        false ≡ are_points_of n (task_lines (drop p s))
    no_point zero m j = absurd (omega arith)
    no_point (suc n) m j = rw (a.first h) (interrupted n x.kind _ _ j)

    pub a_point : (n m : ℕ) {r : CRecordTurnpoint} → n ≡ suc m → x.kind ≡ Kind.Point r →
        are_points_of m (task_lines (drop x.next s)) ≡ are_points_of n (task_lines (drop p s))
    unfolding are_points_of line_of
    a_point n m z j = rw (z, a.first h, j)
