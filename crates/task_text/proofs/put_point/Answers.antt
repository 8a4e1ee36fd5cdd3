use native.Mathlib.Omega.{arith}
use Rattle.put.proofs.Writing.{then, wrote_nothing}
use Rattle.caption.specs.Caption.{caption_text}
use Rattle.task_line.specs.Lines.{line_of}
use Rattle.task_text.specs.Points.{point_text}
use Rattle.task_text.proofs.Putting.{no_point_text}
use Rattle.task_text.proofs.put_point.Goals as goal

pub returns-in_default : goal.returns-in_default
returns-in_default c = rw (no_point_text _ _ _ _ c.in_default.not-Point) (wrote_nothing _ _ (omega arith) (omega arith))

pub returns : goal.returns
unfolding point_text line_of caption_text
returns c =
    rw c.in-Point.is
    (then (rw c.caption-shown.ensures.bytes at c.put_bytes-at_space.ensures)
    (then c.put_byte-at_position.ensures (then c.put-at_end.ensures c.put_byte.ensures)))
