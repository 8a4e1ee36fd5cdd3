-- C lines: a turnpoint of a task.
use Rattle.std.specs.Prelude.{◌∷◌, ◌++◌}
use Rattle.text.specs.Prelude.{ℕ, code, Bool, List, [], length, Res, ok, bind, guard, ◌≤?◌, ◌=?◌}
use Rattle.text.specs.Prelude.{byte, cut, columns}
use Rattle.part.specs.Part.{name_from, maybe_text, maybe_bytes}
use Rattle.text.specs.declared.refusal.Refusal.TheVariants.{Syntax}
use Rattle.field.specs.Field.{ascii_in}
use Rattle.position.specs.Position.{read_position, position_text, position_book}
use Rattle.c_turnpoint_record.specs.declared.{CRecordTurnpoint.CRecordTurnpoint}

-- 18 bytes (1), the first C (1), those ASCII (2), position 1-18, name; an empty name is none.
unfoldable pub read_turnpoint : List ℕ → Res CRecordTurnpoint
read_turnpoint s =
    guard (18 ≤? length s) Syntax
    (guard (byte 0 s =? code "C") Syntax
    (ascii_in (cut 0 18 s)
    (bind (columns 1 18 read_position s) (λ pos.
    ok (record { position = pos; turnpoint_name = name_from 18 s })))))

-- The letter, the position, the name.
unfoldable pub turnpoint_body : CRecordTurnpoint → List ℕ → List ℕ
turnpoint_body r name = (code "C" ∷ []) ++ (position_text r.position ++ name)

-- The same with the parts that the line has; one that lies outside is left out.
abbrev pub turnpoint_piece : CRecordTurnpoint → List ℕ → List ℕ
turnpoint_piece r s = turnpoint_body r (maybe_bytes r.turnpoint_name s)

-- The text of a turnpoint beside its line; 9 where the name lies outside.
unfoldable pub turnpoint_text : CRecordTurnpoint → List ℕ → Res (List ℕ)
turnpoint_text r s = bind (maybe_text r.turnpoint_name s) (λ name. ok (turnpoint_body r name))

-- By the book: its position is.
unfoldable pub turnpoint_book : CRecordTurnpoint → Bool
turnpoint_book r = position_book r.position
