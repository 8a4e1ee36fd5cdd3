use Rattle.text.specs.Prelude.{ℕ, ◌+◌, ◌*◌, ◌<◌, ◌≤◌, ◌≡◌, List, length}
use Rattle.text.proofs.Prelude.{rules, arith}
use Rattle.table.proofs.Defs.{long_under}
use Rattle.held.specs.declared.Held.{Held}
use Rattle.piece_text.specs.Value.{table_names, names_in, asked_for}
use Rattle.piece_text.proofs.Names.{in_threes, name_at, count_defs, count_names, named, given, of_table}
use Rattle.piece_text.proofs.value.asked_at.Goals as goal

module _ (h : Held) (names : List ℕ) (i : ℕ) (more : i < length (asked_for h names)) where
  -- where no names are given, one asked for is of the table
  in_table : {k : Held} → length names < 3 → h ≡ k → i < length (table_names k)
  in_table none is = rw (← of_table h names none, is) at more

  -- where some are, it is one of those
  in_given : 3 ≤ length names → 3 * i + 2 < length names
  in_given some =
      let k : i < length (names_in names) = rw (← given h names some) at more in
      omega (arith, in_threes names)

pub bounds-table-i : goal.bounds-table-i
bounds-table-i c =
    let t = c.in-Set.table in
    let l : length t.defs ≡ 99 = search (rules, long_under) in
    let k = in_table _ _ _ c.requires (omega arith) c.in-Set.is in
    omega (arith, count_names t, count_defs t)

pub offset_bounds-table-i : goal.offset_bounds-table-i
offset_bounds-table-i c = let k = bounds-table-i c in search rules

pub returns-in-Never : goal.returns-in-Never
unfolding table_names
returns-in-Never c =
    let k = in_table _ _ _ c.requires (omega arith) c.in-Never.is in absurd (omega arith)

pub returns-in-Spoiled : goal.returns-in-Spoiled
unfolding table_names
returns-in-Spoiled c =
    let k = in_table _ _ _ c.requires (omega arith) c.in-Spoiled.is in absurd (omega arith)

pub returns-in-Set : goal.returns-in-Set
returns-in-Set c =
    let k = in_table _ _ _ c.requires (omega arith) c.in-Set.is in
    rw (← of_table c.args.held c.args.names.now (omega arith), c.in-Set.is) (named _ _ k)

pub overflow_mul-a : goal.overflow_mul-a
overflow_mul-a c = let k = in_given _ _ _ c.requires (omega arith) in search rules

pub bounds-names-a : goal.bounds-names-a
bounds-names-a c = let k = in_given _ _ _ c.requires (omega arith) in omega arith

pub overflow_add-result : goal.overflow_add-result
overflow_add-result c = let k = in_given _ _ _ c.requires (omega arith) in search rules

pub bounds-names-a-2 : goal.bounds-names-a-2
bounds-names-a-2 c = let k = in_given _ _ _ c.requires (omega arith) in omega arith

pub overflow_add-result-2 : goal.overflow_add-result-2
overflow_add-result-2 c = let k = in_given _ _ _ c.requires (omega arith) in search rules

pub bounds-names-a-3 : goal.bounds-names-a-3
bounds-names-a-3 c = in_given _ _ _ c.requires (omega arith)

pub returns : goal.returns
returns c =
    let k = rw (← given c.args.held c.args.names.now (omega arith)) at c.requires in
    rw (← given c.args.held c.args.names.now (omega arith)) (name_at c.args.names.now c.args.i k)
