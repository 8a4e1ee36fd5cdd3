use Rattle.text.specs.Prelude.{[], ◌∷◌}
use Rattle.text.proofs.Prelude.{rules}
use Rattle.field.proofs.Ascii.{Word, one_byte, byte_below}
use Rattle.field.proofs.low8.Goals as goal

pub returns : goal.returns
returns c =
    let x = c.args in
    let w : Word c.join-6.result (x.a ∷ x.b ∷ x.c ∷ x.d ∷ x.e ∷ x.f ∷ x.g ∷ x.h ∷ []) =
    search (rules, one_byte, byte_below) depth 10 in
    w.masked
