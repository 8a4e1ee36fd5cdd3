use Rattle.text.specs.Prelude.{◌≡◌, no}
use Rattle.text.proofs.Prelude.{rules, refl, came, on, off}
use Rattle.part.specs.Part.{part_text, maybe_text, text_of}
use Rattle.part.proofs.Parts.{text_found}
use Rattle.print.proofs.Printing.{refused_as, prints_found}
use Rattle.h_record.specs.HRecord.{h_text}
use Rattle.h_record.proofs.HRecord.print.Goals as goal

pub returns-in_err-find : goal.returns-in_err-find
unfolding h_text part_text text_of
returns-in_err-find c =
    let left : c.from_residual.result ≡ no c.in_err-find.field-0.0 = search rules in
    refused_as _ left (off _ (off _ (came c.in_err-find.was c.find.ensures)))

pub returns-in_err-find-2 : goal.returns-in_err-find-2
unfolding h_text part_text maybe_text text_of
returns-in_err-find-2 c =
    let left : c.from_residual-in_err-find-2.result ≡ no c.in_err-find-2.field-0.0 = search rules in
    let mnemonic = text_found _ (came c.in_ok-find.was c.find.ensures) in
    refused_as _ left (on _ mnemonic (off _ (off _ (came c.in_err-find-2.was c.find-2.ensures))))

pub returns-in_err-find-3 : goal.returns-in_err-find-3
unfolding h_text part_text maybe_text text_of
returns-in_err-find-3 c =
    let left : c.from_residual-in_err-find-3.result ≡ no c.in_err-find-3.field-0.0 = search rules in
    let mnemonic = text_found _ (came c.in_ok-find.was c.find.ensures) in
    let name = text_found _ (came c.in_ok-find-2.was c.find-2.ensures) in
    refused_as _ left (on _ mnemonic (on _ name (off _ (off _ (came c.in_err-find-3.was c.find-3.ensures)))))

pub returns : goal.returns
unfolding h_text part_text maybe_text
returns c =
    let mnemonic = text_found _ (came c.in_ok-find.was c.find.ensures) in
    let name = text_found _ (came c.in_ok-find-2.was c.find-2.ensures) in
    let rest = text_found _ (came c.in_ok-find-3.was c.find-3.ensures) in
    prints_found (on _ mnemonic (on _ name (on _ rest refl))) c.print_beside.ensures
