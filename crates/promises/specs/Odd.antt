-- The lines that print otherwise than they were written: an A line in letter form; a number written with `+`; a height
-- `-0000`; a count `-0`. All of them are seen in the line's bytes.
use Rattle.std.specs.Prelude.{◌+◌, ◌-◌, ◌/◌}
use Rattle.text.specs.Prelude.{ℕ, zero, suc, code, Bool, false, List, length, drop, pick, ◌=?◌, ◌∨?◌}
use Rattle.text.specs.Prelude.{byte, cut, plus}
use Rattle.text.specs.Number.{minus_zero}
use Rattle.a_record.specs.ARecord.{letter_form}
use Rattle.c_record.specs.CRecord.{turns}

-- ---- fields

-- A time or a date: one of its three numbers was written with a plus.
unfoldable pub three_plus : List ℕ → Bool
three_plus s = plus (cut 0 2 s) ∨? plus (cut 2 4 s) ∨? plus (cut 4 6 s)

-- A coordinate of d characters of degrees: its degrees or its thousandths were written with a plus.
unfoldable pub coord_plus : ℕ → List ℕ → Bool
coord_plus d s = plus (cut 0 d s) ∨? plus (cut d (d + 5) s)

-- A position: its latitude or its longitude was written with a plus.
unfoldable pub position_plus : List ℕ → Bool
position_plus s = coord_plus 2 (cut 0 8 s) ∨? coord_plus 3 (cut 8 17 s)

-- A height or a count: it was written with a plus, or was `-0000` or `-0`.
unfoldable pub signed_odd : List ℕ → Bool
signed_odd s = plus s ∨? minus_zero s

-- A definition: its start or its end was written with a plus.
unfoldable pub definition_plus : List ℕ → Bool
definition_plus s = plus (cut 0 2 s) ∨? plus (cut 2 4 s)

-- One of k definitions in turn, of seven characters each.
unfoldable pub defs_plus : ℕ → List ℕ → Bool
defs_plus zero s = false
defs_plus (suc k) s = definition_plus (cut 0 7 s) ∨? defs_plus k (drop 7 s)

-- ---- lines

-- B: the time 1-7, the position 7-24, the pressure height 25-30 or the GPS height 30-35.
unfoldable pub fix_odd : List ℕ → Bool
fix_odd s = three_plus (cut 1 7 s) ∨? position_plus (cut 7 24 s) ∨? signed_odd (cut 25 30 s) ∨? signed_odd (cut 30 35 s)

-- A declaration: the date 1-7, the time 7-13, the flight date 13-19, the task 19-23 or the count 23-25.
unfoldable pub declaration_odd : List ℕ → Bool
declaration_odd s = three_plus (cut 1 7 s) ∨? three_plus (cut 7 13 s) ∨? three_plus (cut 13 19 s) ∨? plus (cut 19 23 s)
    ∨? signed_odd (cut 23 25 s)

-- A turnpoint: the position 1-18.
unfoldable pub turnpoint_odd : List ℕ → Bool
turnpoint_odd s = position_plus (cut 1 18 s)

-- I and J: the count 1-3, or one of the definitions.
unfoldable pub table_odd : List ℕ → Bool
table_odd s = plus (cut 1 3 s) ∨? defs_plus ((length s - 3) / 7) (drop 3 s)

-- E, F and K: the time 1-7.
unfoldable pub timed_odd : List ℕ → Bool
timed_odd s = three_plus (cut 1 7 s)

-- A line, by its first byte. D, G, H and L lines, and lines that are not recognised, are never odd.
unfoldable pub line_odd : List ℕ → Bool
line_odd s =
    pick (byte 0 s =? code "A") (letter_form s)
    (pick (byte 0 s =? code "B") (fix_odd s)
    (pick (byte 0 s =? code "C") (pick (turns s) (turnpoint_odd s) (declaration_odd s))
    (pick ((byte 0 s =? code "I") ∨? (byte 0 s =? code "J")) (table_odd s)
    (pick ((byte 0 s =? code "E") ∨? (byte 0 s =? code "F") ∨? (byte 0 s =? code "K")) (timed_odd s)
    false))))

-- The first bytes of lines that always come back: D, G, H and L.
unfoldable pub comes_always : ℕ → Bool
comes_always b = (b =? code "D") ∨? (b =? code "G") ∨? (b =? code "H") ∨? (b =? code "L")
