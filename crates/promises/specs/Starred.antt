-- The starred readings of document 01, "Readings at the edges", one after the other as one list.
use Rattle.std.specs.Prelude.{◌≡◌}
use Rattle.text.specs.Prelude.{code, ok, no, bind, read_int_of, signed, None, Some}
use Rattle.part.specs.Part.{text_of}
use Rattle.text.specs.declared.refusal.Refusal.TheVariants.{Syntax, UnreadableNumber, OutOfRange, BadExtension}
use Rattle.time.specs.Time.{read_time_of, seconds_of_lem}
use Rattle.coord.specs.Coord.{read_latitude}
use Rattle.raw_coord.specs.declared.Compass.TheVariants.{North}
use Rattle.manufacturer.specs.declared.Manufacturer.TheVariants.{UnknownSingle}
use Rattle.extension.specs.Value.{find_value}
use Rattle.c_record.specs.CRecord.{read_declaration}
use Rattle.h_record.specs.declared.DataSource.TheVariants.{FVU}
use Rattle.records.specs.Record.{read_line_of}
use Rattle.records.specs.declared.Record.{Record}
use Rattle.record_print.specs.Printed.{reprinted}
use Rattle.text.specs.Spelt.{spelt}

-- Each of them.
pub record Starred : Type 0 where
  -- Empty line: 1. `HFFTY`: 1; `HFFTY:` has an empty name and empty data.
  pub line_empty : read_line_of (spelt "") ≡ no Syntax
  pub line_hffty : read_line_of (spelt "HFFTY") ≡ no Syntax
  pub line_hffty_colon :
      read_line_of (spelt "HFFTY:") ≡ ok (Record.H (record {
        data_source = FVU;
        mnemonic = record { start = 2; len = 3 };
        friendly_name = Some (record { start = 5; len = 0 });
        «data» = record { start = 6; len = 0 };
      }))
  -- `AC00069` prints `ACAM00069`. `AX12345` prints `A12345`, which reads as 1. `AX123456` prints `A123456`, which reads
  -- as maker `1`, id 23456.
  pub line_ac00069 : reprinted (spelt "AC00069") ≡ ok (spelt "ACAM00069")
  pub line_ax12345 : reprinted (spelt "AX12345") ≡ ok (spelt "A12345")
  pub line_a12345 : read_line_of (spelt "A12345") ≡ no Syntax
  pub line_ax123456 : reprinted (spelt "AX123456") ≡ ok (spelt "A123456")
  pub line_a123456 :
      read_line_of (spelt "A123456")
      ≡ ok (Record.A (record {
        manufacturer = UnknownSingle (code "1");
        unique_id = record { start = 2; len = 5 };
        id_extension = None;
      }))
  -- Time 246060 is accepted, 90060 seconds; 250000 is 4.
  pub time_246060 : read_time_of (spelt "246060") ≡ ok (record { hours = 24; minutes = 60; seconds = 60 })
  pub seconds_246060 : bind (read_time_of (spelt "246060")) (λ t. ok (seconds_of_lem t)) ≡ ok 90060
  pub time_250000 : read_time_of (spelt "250000") ≡ no OutOfRange
  -- `9060000N` accepted; `9060001N` 4; `9065536N` 3, at the first byte of the thousandths.
  pub latitude_9060000_n : read_latitude (spelt "9060000N")
      ≡ ok (record { 0 = record { degrees = 90; minute_thousandths = 60000; sign = North } })
  pub latitude_9060001_n : read_latitude (spelt "9060001N") ≡ no OutOfRange
  pub latitude_9065536_n : read_latitude (spelt "9065536N") ≡ no (UnreadableNumber 2)
  -- `C230718092044+0+0+0000204` has a flight date, and prints `C230718092044000000000204`, which has none.
  pub flight_of_pluses : bind (read_declaration (spelt "C230718092044+0+0+0000204")) (λ r. ok r.flight_date)
      ≡ ok (Some (record { day = 0; month = 0; year = 0 }))
  pub pluses_printed : reprinted (spelt "C230718092044+0+0+0000204") ≡ ok (spelt "C230718092044000000000204")
  pub flight_of_zeros : bind (read_declaration (spelt "C230718092044000000000204")) (λ r. ok r.flight_date)
      ≡ ok None
  -- Heights: `-0000` prints `00000`.
  pub height_minus_0000 : bind (read_int_of 32767 (spelt "-0000")) (λ z. ok (signed 5 z)) ≡ ok (spelt "00000")
  -- `I013836FXA` 5.
  pub line_i013836_fxa : read_line_of (spelt "I013836FXA") ≡ no BadExtension
  -- Rest `035`: 36 to 38 gives `035`.
  pub value_36_38 :
      text_of
      (find_value 35 (record { start = 0; len = 3 })
      (record { start_byte = 36; end_byte = 38; mnemonic = record { 0 = code "F"; 1 = code "X"; 2 = code "A" } })
      (spelt "035"))
      (spelt "035")
      ≡ ok (spelt "035")
