use Rattle.text.proofs.Prelude.{rules, arith, sym, ◌∙◌}
use Rattle.report.proofs.Taking.{counted, lines_full, answer_full, fixes_full, taken_other, taken_fix}
use Rattle.report.proofs.Report.after.Goals as goal

pub returns-then-self-eq18446744073709551615 : goal.returns-then-self-eq18446744073709551615
returns-then-self-eq18446744073709551615 c = lines_full _ _ _ (omega arith)

pub returns-then-count : goal.returns-then-count
returns-then-count c =
    let count = rw c.answer_number-number.ensures at c.count_of-count.ensures in
    answer_full _ _ _ count (omega arith) (omega arith)

pub returns-in_default : goal.returns-in_default
returns-in_default c =
    let count = rw c.answer_number-number.ensures at c.count_of-count.ensures in
    let one_more = counted _ _ c.answer_number-number.ensures count c.with_count.ensures (search rules) (omega arith) (omega arith) in
    taken_other _ _ _ one_more (sym c.in_default.is ∙ c.fix_in.ensures) (search rules)

pub returns-then-self-eq18446744073709551615-2 : goal.returns-then-self-eq18446744073709551615-2
returns-then-self-eq18446744073709551615-2 c =
    let count = rw c.answer_number-number.ensures at c.count_of-count.ensures in
    let one_more = counted _ _ c.answer_number-number.ensures count c.with_count.ensures (search rules) (omega arith) (omega arith) in
    fixes_full _ _ _ one_more (sym c.in-Some.is ∙ c.fix_in.ensures) (omega arith)

pub returns : goal.returns
returns c =
    let count = rw c.answer_number-number.ensures at c.count_of-count.ensures in
    let one_more = counted _ _ c.answer_number-number.ensures count c.with_count.ensures (search rules) (omega arith) (omega arith) in
    c.with_fix.ensures ∙ taken_fix _ _ _ one_more (sym c.in-Some.is ∙ c.fix_in.ensures) (omega arith)
