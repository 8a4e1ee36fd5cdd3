use Rattle.text.specs.Prelude.{ℕ, code, ◌≤◌, ◌≡◌, true, List, length, Res, no, guard, ◌≤?◌, ◌=?◌, byte, cut, columns}
use Rattle.text.proofs.Prelude.{rules, ◌∙◌, came, on, off, counted, pass, stop, yes≤, no≤, yes=, no=, so_true}
use Rattle.text.proofs.Prelude.{so_false}
use Rattle.field.specs.Field.{is_ascii_of, ascii_in}
use Rattle.text.specs.declared.refusal.Refusal.TheVariants.{Syntax}
use mir.Syntax.{w8}
use mir.Val.{to_z, of_z}
use Rattle.c_record.specs.declared.CRecordDeclaration.{CRecordDeclaration}
use Rattle.c_record.specs.CRecord.{read_declaration}
use Rattle.c_record.proofs.CRecordDeclaration.parse.Goals as goal

-- past the tests of length, letter and ASCII
past : (s : List ℕ) {r x : Res CRecordDeclaration} → 25 ≤ length s → byte 0 s ≡ code "C" →
    is_ascii_of (cut 0 25 s) ≡ true → x ≡ r →
    x ≡ guard (25 ≤? length s) Syntax (guard (byte 0 s =? code "C") Syntax (ascii_in (cut 0 25 s) r))
unfolding ascii_in
past s l c a h = pass _ (yes≤ l) (pass _ (yes= c) (pass _ a h))

pub returns-then-line-lt25 : goal.returns-then-line-lt25
unfolding read_declaration
returns-then-line-lt25 c = stop _ (no≤ (search rules))

pub returns-then-line-ne67 : goal.returns-then-line-ne67
unfolding read_declaration
returns-then-line-ne67 c = pass _ (yes≤ (search rules)) (stop _ (no= c.if-line-ne67.true))

pub returns-then-not-is_ascii : goal.returns-then-not-is_ascii
unfolding read_declaration ascii_in cut
returns-then-not-is_ascii c =
    pass _ (yes≤ (search rules))
    (pass _ (yes= c.if-line-ne67.false) (stop _ (so_false c.is_ascii.ensures c.if-not-is_ascii.true)))

pub returns-in_err-date : goal.returns-in_err-date
unfolding read_declaration columns cut
returns-in_err-date c =
    let left : c.from_residual.result ≡ no c.in_err-date.field-0.0 = search rules in
    let date = came c.in_err-date.was (counted 1 c.counted_from.ensures c.parse.ensures) in
    past c.args.line.now (search rules) c.if-line-ne67.false (so_true c.is_ascii.ensures c.if-not-is_ascii.false)
    (left ∙ off _ date)

pub returns-in_err-time : goal.returns-in_err-time
unfolding read_declaration columns cut
returns-in_err-time c =
    let left : c.from_residual-in_err-time.result ≡ no c.in_err-time.field-0.0 = search rules in
    let date = came c.in_ok-date.was (counted 1 c.counted_from.ensures c.parse.ensures) in
    let time = came c.in_err-time.was (counted 7 c.counted_from-2.ensures c.parse-2.ensures) in
    past c.args.line.now (search rules) c.if-line-ne67.false (so_true c.is_ascii.ensures c.if-not-is_ascii.false)
    (left ∙ on _ date (off _ time))

pub returns-in_err-flight_date : goal.returns-in_err-flight_date
unfolding read_declaration columns cut
returns-in_err-flight_date c =
    let left : c.from_residual-in_err-flight_date.result ≡ no c.in_err-flight_date.field-0.0 = search rules in
    let date = came c.in_ok-date.was (counted 1 c.counted_from.ensures c.parse.ensures) in
    let time = came c.in_ok-time.was (counted 7 c.counted_from-2.ensures c.parse-2.ensures) in
    let flight_date = came c.in_err-flight_date.was (counted 13 c.counted_from-3.ensures c.read_flight.ensures) in
    past c.args.line.now (search rules) c.if-line-ne67.false (so_true c.is_ascii.ensures c.if-not-is_ascii.false)
    (left ∙ on _ date (on _ time (off _ flight_date)))

pub returns-in_err-task : goal.returns-in_err-task
unfolding read_declaration columns cut
returns-in_err-task c =
    let left : c.from_residual-in_err-task.result ≡ no c.in_err-task.field-0.0 = search rules in
    let date = came c.in_ok-date.was (counted 1 c.counted_from.ensures c.parse.ensures) in
    let time = came c.in_ok-time.was (counted 7 c.counted_from-2.ensures c.parse-2.ensures) in
    let flight_date = came c.in_ok-flight_date.was (counted 13 c.counted_from-3.ensures c.read_flight.ensures) in
    let task = came c.in_err-task.was c.read_task.ensures in
    past c.args.line.now (search rules) c.if-line-ne67.false (so_true c.is_ascii.ensures c.if-not-is_ascii.false)
    (left ∙ on _ date (on _ time (on _ flight_date (off _ task))))

-- the count as the machine holds it
pub returns : goal.returns
unfolding read_declaration columns cut
returns c =
    let date = came c.in_ok-date.was (counted 1 c.counted_from.ensures c.parse.ensures) in
    let time = came c.in_ok-time.was (counted 7 c.counted_from-2.ensures c.parse-2.ensures) in
    let flight_date = came c.in_ok-flight_date.was (counted 13 c.counted_from-3.ensures c.read_flight.ensures) in
    let task = came c.in_ok-task.was c.read_task.ensures in
    let back : to_z w8 (of_z w8 c.in_ok-task.task.count) ≡ c.in_ok-task.task.count = search rules in
    past c.args.line.now (search rules) c.if-line-ne67.false (so_true c.is_ascii.ensures c.if-not-is_ascii.false)
    (on _ date (on _ time (on _ flight_date (on _ task (rw (back, c.from_column_or_none.ensures))))))
