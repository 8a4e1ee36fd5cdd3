-- What proofs of every crate open: the searches, equality, steps over answers, and what tests say.
pub use borrow.Author.Rules.{rules}
pub use native.Mathlib.Omega.{arith}
pub use mathlib.Core.Path.{refl, sym, ap, ◌∙◌, subst}
pub use mathlib.Core.List.{append-nil, append_assoc}
pub use lib.ListN.{length-drop, length-take, length-append, drop_of_length-le}
pub use lib.Seq.{sets, take_all, drop-cons, drop-drop, drop-length, length-take-le, get_or-drop, get_or-take, take_at}
pub use Rattle.text.proofs.Steps.{
  came,
  on,
  off,
  found_in,
  refused_in,
  counted,
  moved_twice,
  moved_bind,
  pass,
  stop,
  first,
  second,
  yes≤,
  no≤,
  yes=,
  no=,
  is≤,
  isnt≤,
  is=,
}
pub use Rattle.text.proofs.Steps.{holds, fails, so_true, so_false, both, neither, by_test, never, tested, and}
