-- Each exception is needed, by computation.
use Rattle.text.specs.Prelude.{bind, moved, guard, pick, placed, moved_by, ◌≤?◌, ◌=?◌, ◌∧?◌, ◌∨?◌, cut, columns, read_nat_of}
use Rattle.text.specs.Prelude.{read_int_of, read_digits_of}
use Rattle.text.specs.Prelude.{is_digit_of, all_digits_of, first_other_of, zeros, padded, signed, digits, places_of, value_from}
use Rattle.text.proofs.Prelude.{refl}
use Rattle.part.specs.Part.{bytes_of, find_part, find_maybe, text_of, part_text, maybe_text, rest_from, name_from}
use Rattle.text.specs.Number.{places_in}
use Rattle.field.specs.Field.{is_ascii_of, sized, ascii_in, ascii, field, mnemonic_text}
use Rattle.three.specs.Three.{read_three_of, three_text}
use Rattle.time.specs.Time.{time_of, read_time_of, time_text}
use Rattle.date.specs.Date.{date_of, read_date, date_text}
use Rattle.raw_coord.specs.Coord as raw
use Rattle.coord.specs.Coord as coord
use Rattle.position.specs.Position as position
use Rattle.manufacturer.specs.Maker as maker
use Rattle.extension.specs.Extension.{read_definition, read_extension, extension_text}
use Rattle.table.specs.Table.{table_of, read_defs, read_body, is_table_of, read_table, defs_of, defs_text, table_body, table_text}
use Rattle.a_record.specs.ARecord.{a_new, a_of, letter_form, read_a, triple_text, a_body, a_text}
use Rattle.b_record.specs.BRecord.{valid_letter, valid_of, read_heights_of, read_fix, read_b, tail_text, b_body, b_text}
use Rattle.c_record.specs.CRecord.{turns, read_flight_of, read_task_of, read_declaration, flight_text, task_text, declaration_body}
use Rattle.c_record.specs.CRecord.{declaration_text}
use Rattle.c_turnpoint_record.specs.CTurnpoint.{read_turnpoint, turnpoint_body, turnpoint_text}
use Rattle.satellites.specs.Satellites.{occurs, in_pairs, numbers, read_numbers, words_of, set_of, read_satellites}
use Rattle.e_record.specs.ERecord.{read_e, e_body, e_text}
use Rattle.f_record.specs.FRecord.{read_heard, read_f, f_body, f_text}
use Rattle.k_record.specs.KRecord.{read_timed, read_k, k_body, k_text}
use Rattle.records.specs.Record.{kind_of, read_c, read_kind, read_line_of, record_table, table_left}
use Rattle.record_print.specs.Printed.{record_text, answer_printed, reprinted}
use Rattle.text.specs.Spelt.{spelt_from, spelt}
use Rattle.promises.specs.Back.{Needed}

pub needed : Needed
unfolding
    bind moved guard pick placed moved_by ◌≤?◌ ◌=?◌ ◌∧?◌ ◌∨?◌ bytes_of find_part find_maybe text_of part_text maybe_text
    rest_from name_from
    is_digit_of all_digits_of first_other_of value_from read_digits_of read_nat_of read_int_of digits places_in places_of padded signed zeros
    is_ascii_of cut
    columns sized ascii_in ascii field mnemonic_text read_three_of three_text time_of read_time_of time_text date_of read_date
    date_text raw.compass_letter raw.sign_of raw.coord_of raw.lettered raw.read_coord raw.coord_text
    coord.latitude coord.longitude coord.latitude_in coord.longitude_in position.read_both position.read_position
    position.position_text maker.letter_of_lem maker.triple_of maker.first_of maker.is_letter
    maker.letter_maker read_definition read_extension extension_text table_of read_defs read_body is_table_of read_table defs_of
    defs_text table_body table_text table_left a_new a_of letter_form read_a triple_text a_body a_text valid_letter valid_of
    read_heights_of read_fix read_b tail_text b_body b_text turns read_flight_of read_task_of read_declaration flight_text task_text
    declaration_body declaration_text read_turnpoint turnpoint_body turnpoint_text
    occurs in_pairs numbers read_numbers words_of set_of read_satellites read_e e_body e_text read_heard read_f f_body f_text
    read_timed read_k k_body k_text kind_of read_c read_kind read_line_of record_text record_table answer_printed reprinted
    spelt_from spelt
needed = record {
  letter_form_lem = refl;
  time = refl;
  latitude = refl;
  longitude = refl;
  pressure_height = refl;
  gps_height = refl;
  turnpoint = refl;
  date = refl;
  declaration_time = refl;
  flight_date = refl;
  task = refl;
  count = refl;
  definitions = refl;
  start = refl;
  end = refl;
  data_time = refl;
  event_time = refl;
  satellites_time = refl;
  pressure_zero = refl;
  gps_zero = refl;
  count_zero = refl;
}
