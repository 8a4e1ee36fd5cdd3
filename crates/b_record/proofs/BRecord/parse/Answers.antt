use Rattle.text.specs.Prelude.{ℕ, ◌≡◌, ◌≤◌, true, List, length, Res, no, cut, columns}
use Rattle.text.proofs.Prelude.{rules, ◌∙◌, came, on, off, counted, pass, stop, yes≤, no≤, so_true, so_false}
use Rattle.field.specs.Field.{is_ascii_of, ascii, ascii_in}
use Rattle.field.proofs.Fields.{cut_of_ascii}
use Rattle.time.specs.Time.{read_time_of, time_in}
use Rattle.position.specs.Position.{read_position, position_in}
use Rattle.b_record.specs.BRecord.{read_fix, read_b}
use Rattle.time.specs.declared.Time.{Time}
use Rattle.position.specs.declared.RawPosition.{RawPosition}
use Rattle.b_record.specs.declared.BRecord.{BRecord}
use Rattle.b_record.proofs.BRecord.parse.Goals as goal

-- a line that is long enough and ASCII is read by its fields
by_fields : (s : List ℕ) {x : Res BRecord} → 35 ≤ length s → is_ascii_of s ≡ true → x ≡ read_fix s → x ≡ read_b s
unfolding read_b ascii ascii_in
by_fields s long plain h = pass _ (yes≤ long) (pass _ plain h)

-- in an ASCII line a field's own test says nothing
time_read : (s : List ℕ) {x : Res Time} → is_ascii_of s ≡ true → x ≡ time_in (cut 1 7 s) → x ≡ read_time_of (cut 1 7 s)
unfolding cut time_in read_time_of
time_read s plain h = h ∙ cut_of_ascii 1 7 6 _ _ plain

place_read : (s : List ℕ) {x : Res RawPosition} → is_ascii_of s ≡ true → x ≡ position_in (cut 7 24 s)
    → x ≡ read_position (cut 7 24 s)
unfolding cut position_in read_position
place_read s plain h = h ∙ cut_of_ascii 7 24 17 _ _ plain

pub returns-then-line-lt-BASE_LENGTH : goal.returns-then-line-lt-BASE_LENGTH
unfolding read_b
returns-then-line-lt-BASE_LENGTH c = stop _ (no≤ c.if-line-lt-BASE_LENGTH.true)

pub returns-then-not-is_ascii : goal.returns-then-not-is_ascii
unfolding read_b ascii ascii_in
returns-then-not-is_ascii c =
    pass _ (yes≤ c.if-line-lt-BASE_LENGTH.false) (stop _ (so_false c.is_ascii.ensures c.if-not-is_ascii.true))

pub returns-in_err-timestamp : goal.returns-in_err-timestamp
unfolding read_fix columns cut
returns-in_err-timestamp c =
    let plain = so_true c.is_ascii.ensures c.if-not-is_ascii.false in
    let left : c.from_residual.result ≡ no c.in_err-timestamp.field-0.0 = search rules in
    let time = came c.in_err-timestamp.was (counted 1 c.counted_from.ensures (time_read _ plain c.parse_ascii.ensures)) in
    by_fields _ c.if-line-lt-BASE_LENGTH.false plain (left ∙ off _ time)

pub returns-in_err-pos : goal.returns-in_err-pos
unfolding read_fix columns cut
returns-in_err-pos c =
    let plain = so_true c.is_ascii.ensures c.if-not-is_ascii.false in
    let left : c.from_residual-in_err-pos.result ≡ no c.in_err-pos.field-0.0 = search rules in
    let time = came c.in_ok-timestamp.was (counted 1 c.counted_from.ensures (time_read _ plain c.parse_ascii.ensures)) in
    let place = came c.in_err-pos.was (counted 7 c.counted_from-2.ensures (place_read _ plain c.parse_ascii-2.ensures)) in
    by_fields _ c.if-line-lt-BASE_LENGTH.false plain (left ∙ on _ time (off _ place))

pub returns-in_err-fix_valid : goal.returns-in_err-fix_valid
unfolding read_fix columns cut
returns-in_err-fix_valid c =
    let plain = so_true c.is_ascii.ensures c.if-not-is_ascii.false in
    let left : c.from_residual-in_err-fix_valid.result ≡ no c.in_err-fix_valid.field-0.0 = search rules in
    let time = came c.in_ok-timestamp.was (counted 1 c.counted_from.ensures (time_read _ plain c.parse_ascii.ensures)) in
    let place = came c.in_ok-pos.was (counted 7 c.counted_from-2.ensures (place_read _ plain c.parse_ascii-2.ensures)) in
    let valid = came c.in_err-fix_valid.was c.from_letter.ensures in
    by_fields _ c.if-line-lt-BASE_LENGTH.false plain (left ∙ on _ time (on _ place (off _ valid)))

pub returns-in_err-heights : goal.returns-in_err-heights
unfolding read_fix columns cut
returns-in_err-heights c =
    let plain = so_true c.is_ascii.ensures c.if-not-is_ascii.false in
    let left : c.from_residual-in_err-heights.result ≡ no c.in_err-heights.field-0.0 = search rules in
    let time = came c.in_ok-timestamp.was (counted 1 c.counted_from.ensures (time_read _ plain c.parse_ascii.ensures)) in
    let place = came c.in_ok-pos.was (counted 7 c.counted_from-2.ensures (place_read _ plain c.parse_ascii-2.ensures)) in
    let valid = came c.in_ok-fix_valid.was c.from_letter.ensures in
    let heights = came c.in_err-heights.was c.read_heights.ensures in
    by_fields _ c.if-line-lt-BASE_LENGTH.false plain (left ∙ on _ time (on _ place (on _ valid (off _ heights))))

pub returns : goal.returns
unfolding read_fix columns cut
returns c =
    let plain = so_true c.is_ascii.ensures c.if-not-is_ascii.false in
    let time = came c.in_ok-timestamp.was (counted 1 c.counted_from.ensures (time_read _ plain c.parse_ascii.ensures)) in
    let place = came c.in_ok-pos.was (counted 7 c.counted_from-2.ensures (place_read _ plain c.parse_ascii-2.ensures)) in
    let valid = came c.in_ok-fix_valid.was c.from_letter.ensures in
    let heights = came c.in_ok-heights.was c.read_heights.ensures in
    by_fields _ c.if-line-lt-BASE_LENGTH.false plain
    (on _ time (on _ place (on _ valid (on _ heights (rw c.from_column.ensures)))))
