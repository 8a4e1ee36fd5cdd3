use Rattle.text.specs.Prelude.{ℕ, ◌-◌, ◌%◌, ◌≤◌, ◌≡◌, true, List, length, no, cut, columns, Res}
use Rattle.text.proofs.Prelude.{rules, ◌∙◌, length-drop, came, on, off, counted, pass, stop, yes≤, no≤, yes=, no=}
use Rattle.text.proofs.Prelude.{so_true, so_false}
use Rattle.field.specs.Field.{is_ascii_of, ascii, ascii_in}
use Rattle.field.proofs.Fields.{cut_of_ascii}
use Rattle.time.specs.Time.{read_time_of, time_in}
use Rattle.satellites.specs.Satellites.{in_pairs}
use Rattle.f_record.specs.FRecord.{read_heard, read_f}
use Rattle.f_record.specs.declared.FRecord.{FRecord}
use Rattle.f_record.proofs.FRecord.parse.Goals as goal

-- past the tests the line is read by its time and its list
past : (s : List ℕ) {x : Res FRecord} → 7 ≤ length s → (length s - 7) % 2 ≡ 0 → is_ascii_of s ≡ true →
    x ≡ read_heard s → x ≡ read_f s
unfolding read_f in_pairs ascii ascii_in
past s l e a h = pass _ (yes≤ l) (pass _ (yes= (rw (length-drop 7 _) e)) (pass _ a h))

pub returns-then-line-lt7 : goal.returns-then-line-lt7
unfolding read_f
returns-then-line-lt7 c = stop _ (no≤ (search rules))

pub returns-then-line-ne0 : goal.returns-then-line-ne0
unfolding read_f in_pairs
returns-then-line-ne0 c = pass _ (yes≤ (search rules)) (stop _ (no= (rw (length-drop 7 _) (search rules))))

pub returns-then-not-is_ascii : goal.returns-then-not-is_ascii
unfolding read_f in_pairs ascii ascii_in
returns-then-not-is_ascii c =
    pass _ (yes≤ (search rules))
    (pass _ (yes= (rw (length-drop 7 _) c.if-line-ne0.false))
    (stop _ (so_false c.is_ascii.ensures c.if-not-is_ascii.true)))

-- in an ASCII line the field's own test says nothing
pub returns-in_err-time : goal.returns-in_err-time
unfolding read_heard columns cut time_in read_time_of
returns-in_err-time c =
    let left : c.from_residual.result ≡ no c.in_err-time.field-0.0 = search rules in
    let plain = so_true c.is_ascii.ensures c.if-not-is_ascii.false in
    let read = c.parse_ascii.ensures ∙ cut_of_ascii 1 7 6 _ _ plain in
    let time = came c.in_err-time.was (counted 1 c.counted_from.ensures read) in
    past c.args.line.now (search rules) c.if-line-ne0.false plain (left ∙ off _ time)

pub returns-in_err-satellites : goal.returns-in_err-satellites
unfolding read_heard columns cut time_in read_time_of
returns-in_err-satellites c =
    let left : c.from_residual-in_err-satellites.result ≡ no c.in_err-satellites.field-0.0 = search rules in
    let plain = so_true c.is_ascii.ensures c.if-not-is_ascii.false in
    let read = c.parse_ascii.ensures ∙ cut_of_ascii 1 7 6 _ _ plain in
    let time = came c.in_ok-time.was (counted 1 c.counted_from.ensures read) in
    let list = came c.in_err-satellites.was (counted 7 c.counted_from-2.ensures c.parse.ensures) in
    past c.args.line.now (search rules) c.if-line-ne0.false plain (left ∙ on _ time (off _ list))

pub returns : goal.returns
unfolding read_heard columns cut time_in read_time_of
returns c =
    let plain = so_true c.is_ascii.ensures c.if-not-is_ascii.false in
    let read = c.parse_ascii.ensures ∙ cut_of_ascii 1 7 6 _ _ plain in
    let time = came c.in_ok-time.was (counted 1 c.counted_from.ensures read) in
    let list = came c.in_ok-satellites.was (counted 7 c.counted_from-2.ensures c.parse.ensures) in
    past c.args.line.now (search rules) c.if-line-ne0.false plain (on _ time (on _ list (rw c.from_column.ensures)))
