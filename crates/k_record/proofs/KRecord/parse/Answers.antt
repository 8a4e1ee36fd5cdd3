use Rattle.text.specs.Prelude.{◌≡◌, no, cut, columns}
use Rattle.text.proofs.Prelude.{rules, ◌∙◌, came, on, off, counted, pass, stop, yes≤, no≤, yes=, no=, so_true, so_false}
use Rattle.field.specs.Field.{ascii, ascii_in}
use Rattle.field.proofs.Fields.{cut_of_ascii}
use Rattle.time.specs.Time.{read_time_of, time_in}
use Rattle.k_record.specs.KRecord.{read_timed, read_k}
use Rattle.k_record.proofs.KRecord.parse.Goals as goal

pub returns-then-line-lt-BASE_LENGTH : goal.returns-then-line-lt-BASE_LENGTH
unfolding read_k
returns-then-line-lt-BASE_LENGTH c = stop _ (no≤ (search rules))

pub returns-then-line-ne75 : goal.returns-then-line-ne75
unfolding read_k
returns-then-line-ne75 c = pass _ (yes≤ (search rules)) (stop _ (no= c.if-line-ne75.true))

pub returns-then-not-is_ascii : goal.returns-then-not-is_ascii
unfolding read_k ascii ascii_in
returns-then-not-is_ascii c =
    pass _ (yes≤ (search rules))
    (pass _ (yes= c.if-line-ne75.false) (stop _ (so_false c.is_ascii.ensures c.if-not-is_ascii.true)))

-- in an ASCII line the field's own test says nothing
pub returns-in_err-time : goal.returns-in_err-time
unfolding read_k read_timed ascii ascii_in columns cut time_in read_time_of
returns-in_err-time c =
    let left : c.from_residual.result ≡ no c.in_err-time.field-0.0 = search rules in
    let plain = so_true c.is_ascii.ensures c.if-not-is_ascii.false in
    let read = c.parse_ascii.ensures ∙ cut_of_ascii 1 7 6 _ _ plain in
    let time = came c.in_err-time.was (counted 1 c.counted_from.ensures read) in
    pass _ (yes≤ (search rules)) (pass _ (yes= c.if-line-ne75.false) (pass _ plain (left ∙ off _ time)))

pub returns : goal.returns
unfolding read_k read_timed ascii ascii_in columns cut time_in read_time_of
returns c =
    let plain = so_true c.is_ascii.ensures c.if-not-is_ascii.false in
    let read = c.parse_ascii.ensures ∙ cut_of_ascii 1 7 6 _ _ plain in
    let time = came c.in_ok-time.was (counted 1 c.counted_from.ensures read) in
    pass _ (yes≤ (search rules))
    (pass _ (yes= c.if-line-ne75.false) (pass _ plain (on _ time (rw c.from_column.ensures))))
