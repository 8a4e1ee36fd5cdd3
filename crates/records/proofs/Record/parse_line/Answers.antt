use Rattle.text.specs.Prelude.{ℕ, ◌≤◌, ◌≡◌, List, length, Res, pick, ◌=?◌, byte}
use Rattle.text.proofs.Prelude.{arith, ap, pass, stop, yes≤, no≤, no=}
use Rattle.records.specs.declared.Record.{Record}
use Rattle.records.specs.Record.{kind_of, read_kind, read_line_of}
use Rattle.records.specs.Record as kind
use Rattle.records.proofs.Record.parse_line.Goals as goal

-- a line with something in it is of the kind that its first byte chose
chose : (s : List ℕ) {k : kind.Kind} {x : Res Record} → 1 ≤ length s → kind_of (byte 0 s) ≡ k → x ≡ read_kind k s →
    x ≡ read_line_of s
unfolding read_line_of
chose s some e h = pass _ (yes≤ some) (rw e h)

pub returns-then-line-eq0 : goal.returns-then-line-eq0
unfolding read_line_of
returns-then-line-eq0 c = stop _ (no≤ (omega arith))

pub returns-in-65 : goal.returns-in-65
unfolding kind_of read_kind pick ◌=?◌
returns-in-65 c = chose _ (omega arith) (ap kind_of c.in-65.is) c.parse_a.ensures

pub returns-in-66 : goal.returns-in-66
unfolding kind_of read_kind pick ◌=?◌
returns-in-66 c = chose _ (omega arith) (ap kind_of c.in-66.is) c.parse_b.ensures

pub returns-in-67 : goal.returns-in-67
unfolding kind_of read_kind pick ◌=?◌
returns-in-67 c = chose _ (omega arith) (ap kind_of c.in-67.is) c.parse_c.ensures

pub returns-in-68 : goal.returns-in-68
unfolding kind_of read_kind pick ◌=?◌
returns-in-68 c = chose _ (omega arith) (ap kind_of c.in-68.is) c.parse_d.ensures

pub returns-in-69 : goal.returns-in-69
unfolding kind_of read_kind pick ◌=?◌
returns-in-69 c = chose _ (omega arith) (ap kind_of c.in-69.is) c.parse_e.ensures

pub returns-in-70 : goal.returns-in-70
unfolding kind_of read_kind pick ◌=?◌
returns-in-70 c = chose _ (omega arith) (ap kind_of c.in-70.is) c.parse_f.ensures

pub returns-in-71 : goal.returns-in-71
unfolding kind_of read_kind pick ◌=?◌
returns-in-71 c = chose _ (omega arith) (ap kind_of c.in-71.is) c.parse_g.ensures

pub returns-in-72 : goal.returns-in-72
unfolding kind_of read_kind pick ◌=?◌
returns-in-72 c = chose _ (omega arith) (ap kind_of c.in-72.is) c.parse_h.ensures

pub returns-in-73 : goal.returns-in-73
unfolding kind_of read_kind pick ◌=?◌
returns-in-73 c = chose _ (omega arith) (ap kind_of c.in-73.is) c.parse_table.ensures

pub returns-in-74 : goal.returns-in-74
unfolding kind_of read_kind pick ◌=?◌
returns-in-74 c = chose _ (omega arith) (ap kind_of c.in-74.is) c.parse_table-in-74.ensures

pub returns-in-75 : goal.returns-in-75
unfolding kind_of read_kind pick ◌=?◌
returns-in-75 c = chose _ (omega arith) (ap kind_of c.in-75.is) c.parse_k.ensures

pub returns-in-76 : goal.returns-in-76
unfolding kind_of read_kind pick ◌=?◌
returns-in-76 c = chose _ (omega arith) (ap kind_of c.in-76.is) c.parse_l.ensures

-- past all the arms
pub returns-in_default : goal.returns-in_default
unfolding kind_of read_kind pick
returns-in_default c =
    let r = c.in_default.in_default-own.rest in
    let other : kind_of (byte 0 c.args.line.now) ≡ kind.Other = rw (
      no= r.0.0.0.0.0.0.0.0.0.0.0.1,
      no= r.0.0.0.0.0.0.0.0.0.0.1,
      no= r.0.0.0.0.0.0.0.0.0.1,
      no= r.0.0.0.0.0.0.0.0.1,
      no= r.0.0.0.0.0.0.0.1,
      no= r.0.0.0.0.0.0.1,
      no= r.0.0.0.0.0.1,
      no= r.0.0.0.0.1,
      no= r.0.0.0.1,
      no= r.0.0.1,
      no= r.0.1,
      no= r.1,
    ) in
    chose _ (omega arith) other (rw c.whole_line.ensures)
