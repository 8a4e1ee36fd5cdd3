use Rattle.text.specs.Prelude.{◌≡◌, no}
use Rattle.text.proofs.Prelude.{rules, came, off}
use Rattle.part.specs.Part.{part_text, text_of}
use Rattle.part.proofs.Parts.{text_found}
use Rattle.print.proofs.Printing.{refused_as, prints_found}
use Rattle.print.proofs.printed.print_part.Goals as goal

pub returns-in_err-find : goal.returns-in_err-find
unfolding part_text text_of
returns-in_err-find c =
    let left : c.from_residual.result ≡ no c.in_err-find.field-0.0 = search rules in
    refused_as _ left (off _ (came c.in_err-find.was c.find.ensures))

pub returns : goal.returns
unfolding part_text
returns c = prints_found (text_found _ (came c.in_ok-find.was c.find.ensures)) c.print_beside.ensures
