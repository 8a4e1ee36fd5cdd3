-- The starred readings hold, by computation.
use Rattle.text.specs.Prelude.{bind, moved, guard, pick, placed, moved_by, ◌≤?◌, ◌=?◌, ◌∧?◌, ◌∨?◌, cut, columns, read_nat_of}
use Rattle.text.specs.Prelude.{read_int_of, read_digits_of}
use Rattle.text.specs.Prelude.{is_digit_of, all_digits_of, first_other_of, zeros, padded, signed, digits, places_of, value_from}
use Rattle.text.proofs.Prelude.{refl}
use Rattle.part.specs.Part.{bytes_of, find_part, find_maybe, text_of, part_text, maybe_text, rest_from, name_from}
use Rattle.text.specs.Number.{places_in}
use Rattle.field.specs.Field.{is_ascii_of, sized, ascii_in, ascii, field, mnemonic_text}
use Rattle.three.specs.Three.{read_three_of, three_text}
use Rattle.time.specs.Time.{time_of, read_time_of, time_text, seconds_of_lem}
use Rattle.date.specs.Date.{date_of, read_date, date_text}
use Rattle.raw_coord.specs.Coord.{compass_letter, sign_of, coord_of, lettered, read_coord}
use Rattle.coord.specs.Coord.{latitude, read_latitude}
use Rattle.manufacturer.specs.Maker as maker
use Rattle.extension.specs.Extension.{read_definition, read_extension}
use Rattle.table.specs.Table.{read_defs, read_body, is_table_of, read_table}
use Rattle.extension.specs.Value.{find_value}
use Rattle.a_record.specs.ARecord.{a_new, a_of, letter_form, long_form, read_triple, read_a, triple_text, a_body, a_text}
use Rattle.c_record.specs.CRecord.{turns, read_flight_of, read_task_of, read_declaration, flight_text, task_text, declaration_body}
use Rattle.c_record.specs.CRecord.{declaration_text}
use Rattle.h_record.specs.HRecord.{source_byte, source_of, colon_in, named, read_h}
use Rattle.records.specs.Record.{kind_of, whole, read_c, read_kind, read_line_of, record_table}
use Rattle.record_print.specs.Printed.{record_text, answer_printed, reprinted}
use Rattle.text.specs.Spelt.{spelt_from, spelt}
use Rattle.promises.specs.Starred.{Starred}

pub starred : Starred
unfolding
    bind moved guard pick placed moved_by ◌≤?◌ ◌=?◌ ◌∧?◌ ◌∨?◌ bytes_of find_part find_maybe text_of part_text maybe_text
    rest_from name_from is_digit_of
    all_digits_of first_other_of value_from read_digits_of read_nat_of read_int_of digits places_in places_of padded signed zeros is_ascii_of
    cut columns
    sized ascii_in ascii field mnemonic_text read_three_of three_text time_of read_time_of time_text seconds_of_lem date_of read_date
    date_text compass_letter sign_of coord_of lettered read_coord latitude read_latitude maker.letter_of_lem
    maker.triple_of maker.first_of maker.is_letter maker.is_triple maker.letter_maker maker.triple_maker
    read_definition read_extension read_defs read_body is_table_of read_table find_value a_new a_of letter_form long_form
    read_triple read_a triple_text a_body a_text turns read_flight_of read_task_of read_declaration flight_text task_text
    declaration_body declaration_text source_byte source_of colon_in named read_h kind_of whole read_c read_kind
    read_line_of record_text record_table answer_printed reprinted spelt_from spelt
starred = record {
  line_empty = refl;
  line_hffty = refl;
  line_hffty_colon = refl;
  line_ac00069 = refl;
  line_ax12345 = refl;
  line_a12345 = refl;
  line_ax123456 = refl;
  line_a123456 = refl;
  time_246060 = refl;
  seconds_246060 = refl;
  time_250000 = refl;
  latitude_9060000_n = refl;
  latitude_9060001_n = refl;
  latitude_9065536_n = refl;
  flight_of_pluses = refl;
  pluses_printed = refl;
  flight_of_zeros = refl;
  height_minus_0000 = refl;
  line_i013836_fxa = refl;
  value_36_38 = refl;
}
