use Rattle.text.specs.Prelude.{◌≡◌, List, Res, ok, no, bind}
use Rattle.text.specs.declared.refusal.Refusal.{Refusal}
use Rattle.text.proofs.Prelude.{refl, came}
use Rattle.extension.specs.declared.Extension.{Extension}
use Rattle.table.specs.Table.{table_read}
use Rattle.table.specs.declared.Table.{Table}
use Rattle.held.specs.Held.{set_by_of}
use Rattle.held.specs.declared.Held.{Held}
use Rattle.held.proofs.Held.set_by.Goals as goal

-- a table that was read is in force
kept : (m : Res (List Extension)) {t : Table} → ok t ≡ table_read m → Held.Set t ≡ set_by_of m
unfolding table_read set_by_of bind
kept (ok ds) {t} p = cc
kept (no n) {t} p = cc

-- after a refusal none is
lost : (m : Res (List Extension)) {n : Refusal} → no n ≡ table_read m → Held.Spoiled ≡ set_by_of m
unfolding table_read set_by_of bind
lost (ok ds) {n} p = cc
lost (no k) {n} p = refl

pub returns-in-Ok : goal.returns-in-Ok
returns-in-Ok c = kept _ (came c.in-Ok.is c.parse.ensures)

pub returns-in-Err : goal.returns-in-Err
returns-in-Err c = lost _ (came c.in-Err.is c.parse.ensures)
