use Rattle.text.specs.Prelude.{◌≡◌}
use Rattle.text.proofs.Prelude.{arith, rules, refl, sym, ◌∙◌}
use Rattle.files.specs.Call.{is_errno}
use Rattle.files.proofs.Calls.{number_is, number_isnt, again, closed, failed}
use Rattle.files.proofs.call.CallErrorFromIoError.from.Goals as goal
use mir.Syntax.{w32}
use mir.Val.{SFits, of_z}

pub returns-in-Some-eq4 : goal.returns-in-Some-eq4
returns-in-Some-eq4 c =
    let e = sym c.in-Some-eq4.is ∙ c.raw_os_error.ensures in
    let t : of_z w32 c.in-Some-eq4.field-0 ≡ 4 = omega arith in
    let f : SFits w32 c.in-Some-eq4.field-0 = search rules in
    again c.args.why e (number_is _ f (omega arith) t)

pub returns-in-Some-eq32 : goal.returns-in-Some-eq32
returns-in-Some-eq32 c =
    let e = sym c.in-Some-eq32.is ∙ c.raw_os_error.ensures in
    let t : of_z w32 c.in-Some-eq32.field-0 ≡ 32 = omega arith in
    let f : SFits w32 c.in-Some-eq32.field-0 = search rules in
    closed c.args.why e (number_isnt _ (λ k. omega arith)) (number_is _ f (omega arith) t)

pub returns-in_default : goal.returns-in_default
returns-in_default c =
    let e = sym c.in_default.is ∙ c.raw_os_error.ensures in
    let not_again : of_z w32 c.in_default.field-0 ≡ 4 → ⊥ = search rules in
    let not_closed : of_z w32 c.in_default.field-0 ≡ 32 → ⊥ = grind arith in
    failed c.args.why e (number_isnt _ not_again) (number_isnt _ not_closed)

pub returns-in_default-2 : goal.returns-in_default-2
unfolding is_errno
returns-in_default-2 c =
    let e = sym c.in_default.is ∙ c.raw_os_error.ensures in
    failed c.args.why e refl refl
