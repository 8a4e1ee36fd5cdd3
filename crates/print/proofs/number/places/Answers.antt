use Rattle.text.proofs.Prelude.{arith}
use Rattle.text.proofs.Decimal.{places_small, places_large}
use Rattle.print.proofs.number.places.Goals as goal

pub loop-rest-preserved : goal.loop-rest-preserved
loop-rest-preserved c = record {
  counted = omega (arith, places_large c.loop-rest.rest c.loop-rest-test.true);
  small = omega arith;
}

pub returns : goal.returns
returns c = omega (arith, places_small c.loop-rest.rest c.loop-rest-test.false)
