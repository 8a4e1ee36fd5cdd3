-- What definitions and proofs of every crate open: numbers, lists, tests, answers, columns of a line, numbers as text.
pub use Rattle.std.specs.Prelude.{ℕ, zero, suc, ◌+◌, ◌-◌, ◌*◌, ◌/◌, ◌%◌, ◌^◌, ◌≤◌, ◌<◌, min, max, ◌≡◌, Bool, true, false, List, [], ◌∷◌, ℤ, pos, negsuc}
pub use Prim.Native.Char.{code}
pub use Prim.Native.String.{String, char_at}
unfoldable pub use Rattle.std.proofs.Math.Bool.{not}
unfoldable pub use mathlib.Core.List.{◌++◌, map}
unfoldable pub use Rattle.std.proofs.Math.ListN.{length, take, drop, get_or, set, replicate}
pub use Rattle.std.specs.Borrow.{Bor, MutBor}
pub use Rattle.text.specs.Res.{Res, ok, no}
pub use Rattle.std.specs.Prelude.{Option, Some, None}
unfoldable pub use Rattle.text.specs.Res.{bind, moved, guard, pick, number_of, place_of, placed, moved_by, ◌≤?◌}
unfoldable pub use Rattle.text.specs.Res.{◌=?◌, ◌∧?◌, ◌∨?◌}
unfoldable pub use Rattle.text.specs.Line.{LF, CR, byte, cut, columns, begins}
unfoldable pub use Rattle.text.specs.Word.{largest}
unfoldable pub use Rattle.text.specs.Number.{read_nat_of, read_int_of, read_digits_of, is_digit_of, all_digits_of, first_other_of, zeros}
unfoldable pub use Rattle.text.specs.Number.{plus}
unfoldable pub use Rattle.text.specs.Number.{padded, signed, digits, places_of, value_from}
