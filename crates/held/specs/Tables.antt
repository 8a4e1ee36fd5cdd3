-- What the lines of a log leave in force, each letter apart: the table of I lines, which names columns of B lines, and
-- that of J lines, which names columns of K lines.
use Rattle.text.specs.Prelude.{code, List, ℕ}
use Rattle.held.specs.Held.{no_table, held_after}
use Rattle.held.specs.declared.tables.Tables.{Tables}

-- No table of either letter.
unfoldable pub no_tables : Tables
no_tables = record { i = no_table; j = no_table }

-- What is held after a line: I lines set or spoil the one table, J lines the other.
unfoldable pub tables_after : Tables → List ℕ → Tables
tables_after t s = record { i = held_after (code "I") t.i s; j = held_after (code "J") t.j s }
