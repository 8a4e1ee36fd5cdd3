use Rattle.text.specs.Prelude.{◌≡◌, no}
use Rattle.text.proofs.Prelude.{rules, refl, came, on, off}
use Rattle.part.specs.Part.{part_text, maybe_text, text_of}
use Rattle.part.proofs.Parts.{text_found}
use Rattle.print.proofs.Printing.{refused_as, prints_found}
use Rattle.l_record.specs.LRecord.{l_text}
use Rattle.l_record.proofs.LRecord.print.Goals as goal

pub returns-in_err-find : goal.returns-in_err-find
unfolding l_text part_text text_of
returns-in_err-find c =
    let left : c.from_residual.result ≡ no c.in_err-find.field-0.0 = search rules in
    refused_as _ left (off _ (off _ (came c.in_err-find.was c.find.ensures)))

pub returns-in_err-find-2 : goal.returns-in_err-find-2
unfolding l_text part_text maybe_text text_of
returns-in_err-find-2 c =
    let left : c.from_residual-in_err-find-2.result ≡ no c.in_err-find-2.field-0.0 = search rules in
    let source = text_found _ (came c.in_ok-find.was c.find.ensures) in
    refused_as _ left (on _ source (off _ (off _ (came c.in_err-find-2.was c.find-2.ensures))))

pub returns : goal.returns
unfolding l_text part_text maybe_text text_of
returns c =
    let source = text_found _ (came c.in_ok-find.was c.find.ensures) in
    let text = text_found _ (came c.in_ok-find-2.was c.find-2.ensures) in
    prints_found (on _ source (on _ text refl)) c.print_beside.ensures
