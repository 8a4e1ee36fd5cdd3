use Rattle.text.proofs.Prelude.{rules}
use mir.Syntax.{w16}
use mir.Val.{SFits}
use mir.Facts.{to_z-of_z}
use Rattle.text.specs.Spelt.{spelt_from, spelt}
use Rattle.block_read.specs.Block.{read_spot_of}
use Rattle.block_read.proofs.Coming.{then, done}
use Rattle.block_read.proofs.number.read_spot.Statement.{statement}
use Rattle.block_read.proofs.number.read_spot.Tie as tie

spot : tie.Need-returns
unfolding read_spot_of spelt spelt_from
spot c =
    let w : tie.After-read_words-at_height = search rules in
    let h : tie.After-read_height-height = search rules in
    let a : tie.After-read_words-at_log = search rules in
    let l : tie.After-read_number-log = search rules in
    let o : tie.After-read_number-offset = search rules in
    let f : SFits w16 h.read_height-height.result.value = search rules in
    rw (to_z-of_z f)
    (then _ w.read_words-at_height.ensures
    (then _ h.read_height-height.ensures
    (then _ a.read_words-at_log.ensures
    (then _ l.read_number-log.ensures.0
    (then _ o.read_number-offset.ensures.0 (done o.read_number-offset.ensures.0.inside))))))

pub read_spot_spec : {M : Type 1} → statement M
read_spot_spec =
    tie.close
    (tie.spec
    (search rules) (search rules) (search rules) (search rules) (search rules)
    spot)
