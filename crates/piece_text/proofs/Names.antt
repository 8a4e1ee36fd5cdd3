-- The names asked for: how many they are, and each of them.
use Rattle.text.specs.Prelude.{ℕ, zero, suc, ◌+◌, ◌*◌, ◌/◌, ◌≤◌, ◌<◌, min, ◌≡◌, List, [], ◌∷◌}
use Rattle.text.specs.Prelude.{length, drop, get_or}
use Rattle.text.proofs.Prelude.{arith, refl, ap, ◌∙◌, length-take, drop-cons, get_or-take, first, second, yes≤, no≤}
use native.Mathlib.Nat.{suc-add}
use Rattle.table.specs.Table.{empty, defs_of}
use Rattle.extension.specs.declared.Extension.{Extension}
use Rattle.table.specs.declared.Table.{Table}
use Rattle.held.specs.declared.Held.{Held}
use Rattle.piece_text.specs.Value.{names_of, table_names, names_in, asked_for}

-- ---- the names given

-- as many as there are threes of bytes
pub in_threes : (s : List ℕ) → length (names_in s) ≡ length s / 3
unfolding names_in
in_threes [] = refl
in_threes (a ∷ []) = refl
in_threes (a ∷ (b ∷ [])) = refl
in_threes (a ∷ (b ∷ (c ∷ s))) = omega (arith, in_threes s)

-- the i-th is the i-th three of bytes
pub name_at : (s : List ℕ) (i : ℕ) → i < length (names_in s)
    → drop i (names_in s) ≡ record { 0 = get_or s (3 * i) 0; 1 = get_or s (3 * i + 1) 0; 2 = get_or s (3 * i + 2) 0 } ∷ drop
    (suc i) (names_in s)
unfolding names_in
name_at [] i h = absurd (omega arith)
name_at (a ∷ []) i h = absurd (omega arith)
name_at (a ∷ (b ∷ [])) i h = absurd (omega arith)
name_at (a ∷ (b ∷ (c ∷ s))) zero h = refl
name_at (a ∷ (b ∷ (c ∷ s))) (suc i) h =
    let z : 3 * suc i ≡ suc (suc (suc (3 * i))) = omega arith in
    simp (z, suc-add) (name_at s i (omega arith))

-- ---- the definitions of a table

-- no more than there are slots
pub count_defs : (t : Table) → length (defs_of t) ≡ min t.count (length t.defs)
unfolding defs_of
count_defs t = length-take t.count t.defs

-- the i-th is that of the i-th slot
pub definition_at : (t : Table) (i : ℕ) → i < length (defs_of t) →
    drop i (defs_of t) ≡ get_or t.defs i empty ∷ drop (suc i) (defs_of t)
unfolding defs_of
definition_at t i more = drop-cons (defs_of t) i empty more
    ∙ rw (get_or-take t.count t.defs i empty (omega (arith, count_defs t)))

-- ---- the names of the table in force

length_names : (l : List Extension) → length (names_of l) ≡ length l
unfolding names_of
length_names [] = refl
length_names (e ∷ l) = ap suc (length_names l)

drop_names : (l : List Extension) (i : ℕ) → drop i (names_of l) ≡ names_of (drop i l)
unfolding names_of
drop_names l zero = refl
drop_names [] (suc i) = refl
drop_names (e ∷ l) (suc i) = drop_names l i

module _ (t : Table) where
  -- one for each definition
  pub count_names : length (table_names (Held.Set t)) ≡ length (defs_of t)
  unfolding table_names
  count_names = length_names (defs_of t)

  -- the i-th is that of the i-th definition
  pub named : (i : ℕ) → i < length (table_names (Held.Set t)) →
      drop i (table_names (Held.Set t)) ≡ (get_or t.defs i empty).mnemonic ∷ drop (suc i) (table_names (Held.Set t))
  unfolding table_names names_of
  named i more =
      let k : i < length (defs_of t) = omega (arith, length_names (defs_of t)) in
      rw (drop_names, drop_names, definition_at t i k)

-- ---- the names asked for

module _ (h : Held) (names : List ℕ) where
  pub given : 3 ≤ length names → names_in names ≡ asked_for h names
  unfolding asked_for
  given some = first _ (yes≤ some) refl

  pub of_table : length names < 3 → table_names h ≡ asked_for h names
  unfolding asked_for
  of_table none = second _ (no≤ none) refl
