use Rattle.text.specs.Prelude.{take}
use Rattle.put.specs.Put.{Wrote}
use Rattle.igc_log.specs.Fold.{texts}
use Rattle.table.specs.Table.{defs_of}
use Rattle.record_text.specs.Record.{definition_shown}
use Rattle.record_text.proofs.record.show_definitions.Given as goal

-- the first i definitions are written
abbrev pub invariant-loop-i : goal.invariant-loop-i
invariant-loop-i l = Wrote l.initial.buf l.at (texts definition_shown (take l.i (defs_of l.table))) l.buf l.next
