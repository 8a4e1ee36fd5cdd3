use Rattle.text.specs.Prelude.{◌≡◌, length}
use Rattle.text.proofs.Prelude.{rules, arith}
use Rattle.table.proofs.Defs.{long_under}
use Rattle.piece_text.proofs.Names.{count_defs}
use Rattle.piece_text.proofs.value.definition_count.Goals as goal

pub returns-then-table-gt99 : goal.returns-then-table-gt99
returns-then-table-gt99 c =
    let slots : length c.args.table.defs ≡ 99 = search (rules, long_under) in
    omega (arith, count_defs c.args.table)

pub returns : goal.returns
returns c =
    let slots : length c.args.table.defs ≡ 99 = search (rules, long_under) in
    omega (arith, count_defs c.args.table)
