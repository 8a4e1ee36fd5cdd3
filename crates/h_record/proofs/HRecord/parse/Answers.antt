use Rattle.text.specs.Prelude.{◌+◌, ◌-◌, ◌≡◌, cut, drop, ok}
use Rattle.text.proofs.Prelude.{rules, arith, ap, pass, stop, first, second, yes≤, no≤, yes=, no=, so_true, so_false}
use Rattle.text.proofs.Prelude.{came, length-drop}
use Rattle.text.proofs.Lines.{cut_rest}
use Rattle.field.specs.Field.{ascii_in}
use Rattle.h_record.specs.HRecord.{named, read_h}
use Rattle.h_record.proofs.Colons.{colon_found, colon_missing}
use Rattle.h_record.proofs.HRecord.parse.Goals as goal
use Rattle.h_record.proofs.HRecord.parse.Goals.{in-None, in-Some}

pub returns-then-line-lt6 : goal.returns-then-line-lt6
unfolding read_h
returns-then-line-lt6 c = stop _ (no≤ (search rules))

pub returns-then-line-ne72 : goal.returns-then-line-ne72
unfolding read_h
returns-then-line-ne72 c = pass _ (yes≤ (search rules)) (stop _ (no= c.if-line-ne72.true))

pub returns-then-not-is_ascii : goal.returns-then-not-is_ascii
unfolding read_h ascii_in cut
returns-then-not-is_ascii c =
    pass _ (yes≤ (search rules))
    (pass _ (yes= c.if-line-ne72.false) (stop _ (so_false c.is_ascii.ensures c.if-not-is_ascii.true)))

pub returns : goal.returns
unfolding read_h ascii_in cut named
returns c =
    let s = c.args.line.now in
    let searched = rw cut_rest at c.colon.ensures in
    pass _ (yes≤ (search rules))
    (pass _ (yes= c.if-line-ne72.false)
    (pass _ (so_true c.is_ascii.ensures c.if-not-is_ascii.false)
    (ap ok (elim c.match-colon.branch [
      | in-None w ↦
          let missing = colon_missing (drop 5 s) (came w.in-None.is searched) in
          first _ (yes= (omega (arith, missing, length-drop 5 s)))
          (rw (w.friendly_name-is, w.from_column.ensures, c.from_byte.ensures))
      | in-Some w ↦
          let found = colon_found (drop 5 s) (came w.in-Some.is searched) in
          let width : 5 + w.in-Some.n - 5 ≡ w.in-Some.n = omega arith in
          second _ (no= (λ e. omega (arith, found.0, found.1, length-drop 5 s)))
          (rw (w.friendly_name-is, w.from_column-in-Some.ensures, c.from_byte.ensures, found.1, width))
    ]))))
