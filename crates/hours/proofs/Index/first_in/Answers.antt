use Rattle.text.specs.Prelude.{◌≡◌, length}
use Rattle.text.proofs.Prelude.{rules, arith, refl, sym, ap}
use lib.ListN.{get_or-eq_default}
use Rattle.table.proofs.Defs.{long_under}
use Rattle.hours.specs.Hours.{held, held_for}
use Rattle.hours.specs.declared.Hour.{Hour}
use Rattle.hours.proofs.Index.first_in.Goals as goal

pub returns-then-hour-lt25 : goal.returns-then-hour-lt25
unfolding held_for held
returns-then-hour-lt25 c = refl

pub returns : goal.returns
unfolding held_for held
returns c =
    let hours = c.args.self.hours in
    let n : length hours ≡ 25 = search (rules, long_under) in
    ap (λ (x : Hour). x.first) (sym (get_or-eq_default hours _ (omega arith)))
