use Rattle.moment_text.proofs.put_answer.Goals as goal

-- the answer is the one to the time that was read
pub returns : goal.returns
returns c = rw (← c.parse.ensures, ← c.answer-found.ensures) c.put_line.ensures
