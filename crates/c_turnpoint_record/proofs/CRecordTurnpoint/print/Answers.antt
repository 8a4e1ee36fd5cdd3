use Rattle.text.specs.Prelude.{◌≡◌, no}
use Rattle.text.proofs.Prelude.{rules, refl, came, on, off}
use Rattle.part.specs.Part.{maybe_text, text_of}
use Rattle.part.proofs.Parts.{text_found}
use Rattle.print.proofs.Printing.{refused_as, prints_found}
use Rattle.c_turnpoint_record.specs.CTurnpoint.{turnpoint_text}
use Rattle.c_turnpoint_record.proofs.CRecordTurnpoint.print.Goals as goal

pub returns-in_err-find : goal.returns-in_err-find
unfolding turnpoint_text maybe_text text_of
returns-in_err-find c =
    let left : c.from_residual.result ≡ no c.in_err-find.field-0.0 = search rules in
    refused_as _ left (off _ (off _ (came c.in_err-find.was c.find.ensures)))

pub returns : goal.returns
unfolding turnpoint_text maybe_text
returns c = prints_found (on _ (text_found _ (came c.in_ok-find.was c.find.ensures)) refl) c.print_beside.ensures
