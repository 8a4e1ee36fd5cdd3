-- What a line leaves of the two letters' tables.
use Rattle.text.specs.Prelude.{ℕ, ◌≡◌, true, false, List, pick, begins}
use Rattle.text.proofs.Prelude.{arith, sym, ◌∙◌, is=, no=, both, holds}
use Rattle.table.specs.Table.{read_table}
use Rattle.held.specs.Held.{set_by_of, held_after}
use Rattle.held.specs.Tables.{tables_after}
use Rattle.held.specs.declared.{Held.Held, tables.Tables.Tables}

module _ (t : Tables) (s : List ℕ) where
  -- a line begins with one letter alone
  i_not_j : begins 73 s ≡ true → begins 74 s ≡ false
  unfolding begins
  i_not_j b = let i = is= (both b).1 in holds (both b).0 (no= (λ j. omega (arith, sym i ∙ j)))

  -- an I line sets the one table, or spoils it
  pub i_line : {h : Held} → begins 73 s ≡ true → h ≡ set_by_of (read_table s) →
      ◌≡◌ {A = Tables} (record { i = h; j = t.j }) (tables_after t s)
  unfolding tables_after held_after pick
  i_line i e = rw (i, i_not_j i, e)

  -- a J line the other
  pub j_line : {h : Held} → begins 73 s ≡ false → begins 74 s ≡ true → h ≡ set_by_of (read_table s) →
      ◌≡◌ {A = Tables} (record { i = t.i; j = h }) (tables_after t s)
  unfolding tables_after held_after pick
  j_line i j e = rw (i, j, e)

  -- no other touches either
  pub other_line : begins 73 s ≡ false → begins 74 s ≡ false → t ≡ tables_after t s
  unfolding tables_after held_after pick
  other_line i j = rw (i, j)
