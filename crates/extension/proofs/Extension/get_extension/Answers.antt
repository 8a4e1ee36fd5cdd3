use Rattle.text.proofs.Prelude.{refl, sym, came}
use Rattle.part.specs.Part.{shown, bytes_of}
use Rattle.extension.proofs.Values.{value_shown_lem}
use Rattle.extension.proofs.Extension.get_extension.Goals as goal

pub returns-in-Ok : goal.returns-in-Ok
returns-in-Ok c = rw (value_shown_lem _ _ _ _ (came c.in-Ok.is c.find.ensures)) at c.view.ensures

pub returns-in-Err : goal.returns-in-Err
unfolding shown bytes_of
returns-in-Err c = rw (sym (came c.in-Err.is c.find.ensures)) (record { bytes = refl; lies = refl })
