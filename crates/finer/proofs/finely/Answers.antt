use Rattle.text.specs.Prelude.{◌+◌, ◌*◌, ◌^◌, ◌<◌}
use Rattle.text.proofs.Prelude.{arith}
use mir.Facts.{to_z-of_z}
use Rattle.finer.specs.Finer.{finely}
use Rattle.finer.proofs.Small.{fits, toward_fits}
use Rattle.finer.proofs.finely.Goals as goal
use Rattle.finer.proofs.finely.Goals.{After-thousandths}

-- the number fits
small : (c : After-thousandths) → c.thousandths.result * c.pow-parts.result + c.args.d < 10 ^ 13
small c =
    rw (c.thousandths.ensures, c.pow-parts.ensures)
    (fits c.args.c c.args.n c.args.d (omega arith) (omega arith) c.requires.0 c.requires.1)

pub overflow_mul-thousandths : goal.overflow_mul-thousandths
overflow_mul-thousandths c = omega (arith, small (goal.at.overflow_mul-thousandths c).After-thousandths)

pub overflow_add-thousandths : goal.overflow_add-thousandths
overflow_add-thousandths c = omega (arith, small (goal.at.overflow_add-thousandths c).After-thousandths)

pub toward-requires : goal.toward-requires
toward-requires c = small (goal.at.toward-requires c).After-thousandths

pub returns : goal.returns
unfolding finely
returns c =
    rw (
      c.toward.ensures,
      to_z-of_z (toward_fits c.args.c.sign (small (goal.at.returns c).After-thousandths)),
      c.thousandths.ensures,
      c.pow-parts.ensures,
    )
