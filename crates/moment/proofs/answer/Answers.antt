use Rattle.text.proofs.Prelude.{sym}
use Rattle.moment.specs.Moment.{found_by, found, asked, by_index}
use Rattle.moment.proofs.answer.Goals as goal

pub returns-in-Err : goal.returns-in-Err
unfolding by_index asked
returns-in-Err c = rw c.in-Err.is

pub returns-in-None : goal.returns-in-None
unfolding by_index asked found_by found
returns-in-None c = rw (c.in-Ok.is, sym c.first_in.ensures, c.in-None.is)

pub returns-in-Some : goal.returns-in-Some
unfolding by_index asked found_by found
returns-in-Some c = rw (c.in-Ok.is, sym c.first_in.ensures, c.in-Some.is) c.search.ensures
