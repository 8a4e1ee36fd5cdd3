use Rattle.text.specs.Prelude.{◌≡◌, ok, no}
use Rattle.text.proofs.Prelude.{rules, arith, refl, sym, came}
use native.Mathlib.Nat.{add-sub_cancel_left}
use Rattle.part.specs.Part.{find_part, bytes_of, shown}
use Rattle.part.proofs.Parts.{inside}
use Rattle.part.proofs.PartInLine.view.Statement.{statement}
use Rattle.part.proofs.PartInLine.view.Tie as tie

found : (c : tie.In-Ok) → ok c.in-Ok.p ≡ find_part c.before.before.before.args.self
    (c.before.before.before.args.line.now)
found c = came c.in-Ok.is c.before.find.ensures

at : tie.Need-returns-in-Ok
unfolding shown bytes_of
at c = rw (sym (found (search rules))) (record { bytes = simp add-sub_cancel_left; lies = refl })

refused : (c : tie.In-Err) → no c.in-Err._no ≡ find_part c.before.before.before.args.self
    (c.before.before.before.args.line.now)
refused c = came c.in-Err.is c.before.find.ensures

outside : tie.Need-returns-in-Err
unfolding shown bytes_of
outside c = rw (sym (refused (search rules))) (record { bytes = refl; lies = refl })

pub view_spec : {M : Type 1} → statement M
view_spec =
    tie.close
    (tie.spec
    (search rules) (search rules)
    (λ c. let k = inside _ _ (found (search rules)) in omega (arith, k.ends))
    (search rules) (search rules)
    (λ c. let k = inside _ _ (found (search rules)) in omega (arith, k.ends))
    (search rules) (search rules) (search rules) (search rules)
    at
    outside)
