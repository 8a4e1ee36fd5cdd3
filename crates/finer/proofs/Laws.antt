-- What holds of finer positions, over any number of digits.
use Rattle.finer.specs.Laws.{Laws}
use Rattle.finer.proofs.Small.{fits}
use Rattle.finer.proofs.Plain.{no_digits_plain}
use Rattle.finer.proofs.Digits.{drops, exact, directed}
use Rattle.finer.proofs.Gives.{given, some}
use Rattle.finer.proofs.Refused.{refused}

pub laws : Laws
laws = record {
  fits = fits;
  plain = no_digits_plain;
  drops = drops;
  exact = exact;
  directed = directed;
  given = given;
  some = some;
  refused = refused;
}
