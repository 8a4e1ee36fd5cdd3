-- What the lines of one letter leave in force, and lookup by name.
use Rattle.std.specs.Prelude.{◌∷◌}
use Rattle.text.specs.Prelude.{ℕ, Bool, true, false, List, [], Res, ok, no, bind, guard, pick, ◌≤?◌, ◌=?◌}
use Rattle.text.specs.Prelude.{◌∧?◌, begins}
use Rattle.text.specs.declared.refusal.Refusal.TheVariants.{NoTable, SpoiledTable, NotDefined}
use Rattle.part.specs.declared.Part.{Part}
use Rattle.field.specs.declared.Mnemonic.{Mnemonic}
use Rattle.table.specs.Table.{table_of, read_table, defs_of}
use Rattle.extension.specs.Value.{find_value}
use Rattle.extension.specs.declared.Extension.{Extension}
use Rattle.table.specs.declared.Table.{Table}
use Rattle.held.specs.declared.Held.{Held}

-- A table is in force.
unfoldable pub is_set : Held → Bool
is_set Held.Never = false
is_set Held.Spoiled = false
is_set (Held.Set t) = true

-- No line of the letter so far.
abbrev pub no_table : Held
no_table = Held.Never

-- The last line of the letter was refused.
abbrev pub spoiled : Held
spoiled = Held.Spoiled

-- What a line of the letter leaves: its table, or where it is refused none, and the mark of that.
unfoldable pub set_by_of : Res (List Extension) → Held
set_by_of (ok ds) = Held.Set (table_of ds)
set_by_of (no n) = spoiled

-- What is held after a line: an accepted line of the letter replaces the table, a refused one spoils it, also where
-- there was none, and no other touches it.
unfoldable pub held_after : ℕ → Held → List ℕ → Held
held_after letter h s = pick (begins letter s) (set_by_of (read_table s)) h

-- The same three bytes.
unfoldable pub same_name : Mnemonic → Mnemonic → Bool
same_name a b = (a.0 =? b.0) ∧? (a.1 =? b.1) ∧? (a.2 =? b.2)

-- The first definition of that name; 15 where there is none.
unfoldable pub first_named_of : Mnemonic → List Extension → Res Extension
first_named_of name [] = no NotDefined
first_named_of name (e ∷ es) = pick (same_name e.mnemonic name) (ok e) (first_named_of name es)

-- The table in force: 13 where no line of the letter came so far, 14 where the last one was refused.
unfoldable pub in_force : Held → Res Table
in_force Held.Never = no NoTable
in_force Held.Spoiled = no SpoiledTable
in_force (Held.Set t) = ok t

-- The definition in force of that name: 13 or 14 where there is no table; a count over 99, or no such name, is 15.
unfoldable pub define : Held → Mnemonic → Res Extension
define h name =
    bind (in_force h) (λ t.
    guard (t.count ≤? 99) NotDefined
    (first_named_of name (defs_of t)))

-- Lookup by name: 13, 14 or 15, which the state and the name decide alone, before what the definition's value answers,
-- which is 9, 5 or 6, or the part of the line.
unfoldable pub look_up : ℕ → Part → Held → Mnemonic → List ℕ → Res Part
look_up base rest h name s = bind (define h name) (λ e. find_value base rest e s)
