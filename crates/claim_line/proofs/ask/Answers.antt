use Rattle.text.proofs.Prelude.{tested}
use Rattle.claim_line.specs.Asked.{asked_of}
use Rattle.claim_line.proofs.ask.Goals as goal

pub returns : goal.returns
unfolding asked_of
returns c =
    rw (
      c.begins.ensures,
      c.begins-2.ensures,
      c.begins-3.ensures,
      c.begins-4.ensures,
      c.is_accepted.ensures,
      c.is_book.ensures,
      c.second_in.ensures,
      tested _ 76,
    )
