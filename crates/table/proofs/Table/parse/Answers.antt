use Rattle.text.specs.Prelude.{◌≡◌, no, cut, columns}
use Rattle.text.proofs.Prelude.{rules, arith, refl, ap, ◌∙◌, length-drop, length-take, came, on, off, counted}
use Rattle.text.proofs.Prelude.{pass, stop, yes≤, no≤, yes=, no=, so_true, so_false}
use Rattle.field.specs.Field.{ascii_in, ascii}
use Rattle.table.specs.Table.{read_body, read_table, table_read}
use Rattle.table.proofs.Counts.{two_columns}
use Rattle.table.proofs.Table.parse.Goals as goal

pub returns-then-line-lt3 : goal.returns-then-line-lt3
unfolding read_table table_read
returns-then-line-lt3 c = off _ (stop _ (no≤ c.if-line-lt3.true))

pub returns-then-not-is_table : goal.returns-then-not-is_table
unfolding read_table table_read
returns-then-not-is_table c =
    off _ (pass _ (yes≤ c.if-line-lt3.false) (stop _ (so_false c.is_table.ensures c.if-not-is_table.true)))

pub returns-then-not-is_ascii : goal.returns-then-not-is_ascii
unfolding read_table table_read ascii ascii_in
returns-then-not-is_ascii c =
    off _ (pass _ (yes≤ c.if-line-lt3.false)
    (pass _ (so_true c.is_table.ensures c.if-not-is_table.false)
    (stop _ (so_false c.is_ascii.ensures c.if-not-is_ascii.true))))

pub returns-in_err-count : goal.returns-in_err-count
unfolding read_table table_read read_body ascii ascii_in columns cut
returns-in_err-count c =
    let left : c.from_residual.result ≡ no c.in_err-count.field-0.0 = search rules in
    let count = came c.in_err-count.was (counted 1 c.counted_from.ensures c.read_u8.ensures) in
    left ∙ off _ (pass _ (yes≤ c.if-line-lt3.false)
    (pass _ (so_true c.is_table.ensures c.if-not-is_table.false)
    (pass _ (so_true c.is_ascii.ensures c.if-not-is_ascii.false) (off _ count))))

pub returns-then-line-count : goal.returns-then-line-count
unfolding read_table table_read read_body ascii ascii_in columns cut
returns-then-line-count c =
    let count = came c.in_ok-count.was (counted 1 c.counted_from.ensures c.read_u8.ensures) in
    off _ (pass _ (yes≤ c.if-line-lt3.false)
    (pass _ (so_true c.is_table.ensures c.if-not-is_table.false)
    (pass _ (so_true c.is_ascii.ensures c.if-not-is_ascii.false)
    (on _ count (stop _ (no= c.if-line-count.true))))))

pub returns : goal.returns
unfolding read_table read_body ascii ascii_in columns cut
returns c =
    let count = came c.in_ok-count.was (counted 1 c.counted_from.ensures c.read_u8.ensures) in
    c.parse_defs.ensures ∙ ap table_read (pass _ (yes≤ c.if-line-lt3.false)
    (pass _ (so_true c.is_table.ensures c.if-not-is_table.false)
    (pass _ (so_true c.is_ascii.ensures c.if-not-is_ascii.false)
    (on _ count (pass _ (yes= c.if-line-count.false) refl)))))

pub parse_defs-requires : goal.parse_defs-requires
unfolding cut
parse_defs-requires c =
    let count = came c.in_ok-count.was (counted 1 c.counted_from.ensures c.read_u8.ensures) in
    (two_columns 1 255 _ (simp (length-take, length-drop) (omega arith)) count, c.if-line-count.false)
