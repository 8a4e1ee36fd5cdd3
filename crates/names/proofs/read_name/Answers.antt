use Rattle.text.specs.Prelude.{ℕ, ◌*◌, ◌≡◌, List, length}
use Rattle.put.specs.Put.{Wrote}
use Rattle.text.proofs.Prelude.{rules}
use Rattle.names.specs.Names.{Named}
use Rattle.names.proofs.read_name.Goals as goal

-- three bytes that were put where the name has its place
put_there : (i : ℕ) {b t b' : List ℕ} {r : ℕ} → Wrote b (3 * i) t b' r → length t ≡ 3 → Named i b b'
put_there i {t} w l = record { word = t; three = l; content = w.content }

pub returns : goal.returns
returns c = put_there _ c.put_bytes.ensures (search rules)
