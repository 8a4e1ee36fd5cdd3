-- Each exception to printing that settles is needed, by computation.
use Rattle.text.specs.Prelude.{bind, moved, guard, pick, placed, moved_by, ◌≤?◌, ◌=?◌, ◌∧?◌, ◌∨?◌, cut, columns, read_nat_of}
use Rattle.text.specs.Prelude.{read_int_of, read_digits_of, is_digit_of, all_digits_of, first_other_of, zeros, padded, signed, digits}
use Rattle.text.specs.Prelude.{places_of, value_from}
use Rattle.text.specs.Number.{places_in}
use Rattle.text.specs.Spelt.{spelt_from, spelt}
use Rattle.text.proofs.Prelude.{refl}
use Rattle.part.specs.Part.{bytes_of, find_part, find_maybe, text_of, part_text, maybe_text, name_from, rest_from}
use Rattle.field.specs.Field.{is_ascii_of, sized, ascii_in, ascii, field, mnemonic_text}
use Rattle.three.specs.Three.{read_three_of, three_text}
use Rattle.time.specs.Time.{time_of, read_time_of, time_text}
use Rattle.date.specs.Date.{date_of, read_date, date_text}
use Rattle.manufacturer.specs.Maker as maker
use Rattle.a_record.specs.ARecord.{a_new, a_of, letter_form, long_form, read_triple, read_a, triple_text, a_body, a_text}
use Rattle.c_record.specs.CRecord.{turns, read_flight_of, read_task_of, read_declaration, flight_text, task_text, declaration_body}
use Rattle.c_record.specs.CRecord.{declaration_text}
use Rattle.records.specs.Record.{kind_of, read_c, read_kind, read_line_of, record_table}
use Rattle.record_print.specs.Printed.{record_text, answer_printed, reprinted}
use Rattle.promises.specs.Settle.{SettlesLate}

pub settles_late : SettlesLate
unfolding
    bind moved guard pick placed moved_by ◌≤?◌ ◌=?◌ ◌∧?◌ ◌∨?◌ bytes_of find_part find_maybe text_of part_text maybe_text
    rest_from name_from is_digit_of all_digits_of first_other_of value_from read_digits_of read_nat_of read_int_of digits places_in places_of padded
    signed zeros is_ascii_of cut columns sized ascii_in ascii field mnemonic_text read_three_of three_text time_of read_time_of time_text
    date_of read_date date_text maker.letter_of_lem maker.triple_of maker.first_of maker.is_letter
    maker.is_triple maker.letter_maker maker.triple_maker a_new a_of letter_form long_form read_triple read_a triple_text a_body
    a_text turns read_flight_of read_task_of read_declaration flight_text task_text declaration_body declaration_text kind_of read_c
    read_kind read_line_of record_text record_table answer_printed reprinted spelt_from spelt
settles_late = record { refused = (refl, refl); another = (refl, refl); again = refl; flight = (refl, refl, refl) }
