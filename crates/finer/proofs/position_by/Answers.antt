use Rattle.text.proofs.Prelude.{rules, sym, ◌∙◌, first, second}
use Rattle.finer.specs.Finer.{position_by_of}
use Rattle.finer.proofs.Plain.{none_lies, none_read}
use Rattle.finer.proofs.position_by.Goals as goal

pub both-requires : goal.both-requires
both-requires c = search (rules, none_lies)

pub returns-then-is_plain : goal.returns-then-is_plain
unfolding position_by_of
returns-then-is_plain c =
    first _ (sym c.is_plain.ensures ∙ c.if-is_plain.true)
    (rw (c.both.ensures, none_read c.args.pos.lat.0 c.args.line.now, none_read c.args.pos.lon.0 c.args.line.now))

pub returns : goal.returns
unfolding position_by_of
returns c = second _ (sym c.is_plain.ensures ∙ c.if-is_plain.false) c.both-2.ensures
