-- D lines: differential GPS, and its station.
use Rattle.std.specs.Prelude.{◌∷◌, ◌++◌}
use Rattle.text.specs.Prelude.{ℕ, code, List, [], length, Res, ok, no, bind, guard, pick, ◌=?◌, byte}
use Rattle.text.specs.declared.refusal.Refusal.TheVariants.{Syntax}
use Rattle.part.specs.Part.{part_text, part_bytes}
use Rattle.field.specs.Field.{ascii}
use Rattle.d_record.specs.declared.{GpsQualifier.GpsQualifier}
use Rattle.d_record.specs.declared.{DRecord.DRecord}
use Rattle.d_record.specs.declared.GpsQualifier.TheVariants.{Gps, DGps}

-- The byte of a qualifier.
unfoldable pub qualifier_letter : GpsQualifier → ℕ
qualifier_letter Gps = code "1"
qualifier_letter DGps = code "2"

-- The qualifier of a byte, 1 or 2; 1 else.
unfoldable pub qualifier_of : ℕ → Res GpsQualifier
qualifier_of b =
    pick (b =? qualifier_letter Gps) (ok Gps)
    (pick (b =? qualifier_letter DGps) (ok DGps)
    (no Syntax))

-- The qualifier in column 1, and the station 2-6.
unfoldable pub read_station : List ℕ → Res DRecord
read_station s =
    bind (qualifier_of (byte 1 s)) (λ q.
    ok (record { qualifier = q; station_id = record { start = 2; len = 4 } }))

-- A length other than 6 is 1; a first byte other than D 1; the whole line ASCII (2); then qualifier and station.
unfoldable pub read_d : List ℕ → Res DRecord
read_d s = guard (length s =? 6) Syntax (guard (byte 0 s =? code "D") Syntax (ascii read_station s))

-- The letter, the qualifier, the station.
unfoldable pub d_body : DRecord → List ℕ → List ℕ
d_body r station = (code "D" ∷ []) ++ ((qualifier_letter r.qualifier ∷ []) ++ station)

-- The same with the part that the line has; one that lies outside is left out.
abbrev pub d_piece : DRecord → List ℕ → List ℕ
d_piece r s = d_body r (part_bytes r.station_id s)

-- The text of a record beside its line; 9 where the station lies outside.
unfoldable pub d_text : DRecord → List ℕ → Res (List ℕ)
d_text r s = bind (part_text r.station_id s) (λ station. ok (d_body r station))
