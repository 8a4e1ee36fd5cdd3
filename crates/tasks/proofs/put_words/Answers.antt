use Rattle.text.specs.Spelt.{spelt_from, spelt}
use Rattle.tasks.specs.Answer.{words_of}
use Rattle.tasks.proofs.put_words.Goals as goal

pub returns-in-NoDeclaration : goal.returns-in-NoDeclaration
unfolding words_of spelt spelt_from
returns-in-NoDeclaration c = rw c.in-NoDeclaration.is c.put_bytes.ensures

pub returns-in-NegativeCount : goal.returns-in-NegativeCount
unfolding words_of spelt spelt_from
returns-in-NegativeCount c = rw c.in-NegativeCount.is c.put_bytes-in-NegativeCount.ensures

pub returns-in-Interrupted : goal.returns-in-Interrupted
unfolding words_of spelt spelt_from
returns-in-Interrupted c = rw c.in-Interrupted.is c.put_bytes-in-Interrupted.ensures

pub returns-in-NoRoom : goal.returns-in-NoRoom
unfolding words_of spelt spelt_from
returns-in-NoRoom c = rw c.in-NoRoom.is c.put_bytes-in-NoRoom.ensures
