use Rattle.text.specs.Prelude.{bind}
use Rattle.text.proofs.Prelude.{refl, sym, came}
use Rattle.part.specs.Part.{shown, bytes_of}
use Rattle.held.specs.Held.{look_up}
use Rattle.held.proofs.Held.get.Goals as goal

pub returns-in-Ok : goal.returns-in-Ok
unfolding look_up bind
returns-in-Ok c = rw (sym (came c.in-Ok.is c.define.ensures)) c.get_extension.ensures

pub returns-in-Err : goal.returns-in-Err
unfolding look_up bind shown bytes_of
returns-in-Err c = rw (sym (came c.in-Err.is c.define.ensures)) (record { bytes = refl; lies = refl })
