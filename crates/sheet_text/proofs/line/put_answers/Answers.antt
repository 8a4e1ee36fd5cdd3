use Rattle.std.proofs.Common.{rules, ◌≡◌, length}
use Rattle.text.proofs.Prelude.{arith, take_all}
use Rattle.put.proofs.Writing.{wrote_nothing}
use Rattle.sheet_text.specs.Sheet.{answer_lines}
use Rattle.sheet_text.proofs.Rows.{in_turn}
use Rattle.sheet_text.proofs.line.put_answers.Goals as goal

pub loop-i-init : goal.loop-i-init
unfolding answer_lines
loop-i-init c = wrote_nothing _ _ (omega arith) (omega arith)

pub loop-i-preserved : goal.loop-i-preserved
loop-i-preserved c =
    let wide : length c.args.answers ≡ 13 = search rules in
    in_turn c.loop-i.i _ (omega (arith, wide)) c.loop-i.invariant c.put_answer-next.ensures

pub returns : goal.returns
returns c =
    let wide : length c.args.answers ≡ 13 = search rules in
    rw (take_all c.loop-i.i c.args.answers (omega (arith, wide))) at c.loop-i.invariant
