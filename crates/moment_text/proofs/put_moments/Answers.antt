use Rattle.text.specs.Prelude.{◌+◌, ◌-◌, ◌*◌, ◌≡◌, take, drop}
use Rattle.text.proofs.Prelude.{arith, take_all}
use Rattle.put.proofs.Writing.{wrote_nothing}
use Rattle.igc_log.specs.Fold.{texts}
use Rattle.piece_text.proofs.Rows.{in_turn}
use Rattle.moment_text.specs.Answers.{words_in, answer_line, moments_text}
use Rattle.moment_text.proofs.Words.{length_words, word_at, own_answer}
use Rattle.moment_text.proofs.put_moments.Goals as goal

pub loop-i-init : goal.loop-i-init
unfolding texts
loop-i-init c = wrote_nothing _ _ (omega arith) (omega arith)

-- a word more, answered by the log's own index
pub loop-i-preserved : goal.loop-i-preserved
loop-i-preserved c =
    let i = c.loop-i.i in
    let a = c.args in
    let six : 6 * i + 6 - 6 * i ≡ 6 = omega arith in
    in_turn (answer_line a.log.now) (words_in a.words.now) i (word_at a.words.now i (omega arith)) c.loop-i.invariant
    (rw (six, own_answer a.log.now (take 6 (drop (6 * i) a.words.now)) c.index_of-index.ensures)
    at c.put_answer-end.ensures)

pub returns : goal.returns
unfolding moments_text
returns c =
    let words = c.args.words.now in
    rw (take_all c.loop-i.i (words_in words) (omega (arith, length_words words))) at c.loop-i.invariant
