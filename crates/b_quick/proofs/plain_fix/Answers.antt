use Rattle.text.specs.Prelude.{None, ℕ, ◌≤◌, ◌≡◌, true, Bool, List, length, pick, cut, columns}
use Rattle.text.proofs.Prelude.{arith, refl, ◌∙◌, on, first, second, so_true, so_false}
use Rattle.field.specs.Field.{is_ascii_of}
use Rattle.time.specs.Time.{read_time_of}
use Rattle.b_record.specs.BRecord.{read_fix}
use Rattle.b_quick.specs.Quick.{plain_digits, fix_read}
use Rattle.b_quick.proofs.Numbers.{Numbers, plain_numbers, at_most_five, digits_written, number_within, two_digits_fit}
use Rattle.b_quick.proofs.Numbers.{latitude_of, longitude_of, time_at_lem, latitude_at, longitude_at, position_at}
use Rattle.b_quick.proofs.Numbers.{heights_at}
use Rattle.b_quick.proofs.Refusing.{Refuses, none_refuses, some_read, fix_found, fix_refused, no_time, no_latitude}
use Rattle.b_quick.proofs.Refusing.{no_longitude, no_letter, pressure_over_lem, gps_over_lem, lat_minutes_over}
use Rattle.b_quick.proofs.Refusing.{lon_degrees_over, lon_minutes_over}
use Rattle.b_quick.proofs.plain_fix.Goals as goal
use Rattle.b_quick.proofs.plain_fix.Goals.{After-from_hms, After-lettered, After-lettered-2}

-- ---- a line of plain digits, by what `plain` says of it

module _ (s : List ℕ) where
  -- each of its numbers is of digits
  digits : {t : Bool} → (35 ≤ length s) × (is_ascii_of s ≡ true) → t ≡ plain_digits s → t ≡ true → Numbers s
  digits w e p = plain_numbers s w.0 (so_true e p)

  -- None is right where the fix's reading refuses
  refused : {t : Bool} → t ≡ plain_digits s → t ≡ true → Refuses (read_fix s) →
      None ≡ pick (plain_digits s) (fix_read (read_fix s)) None
  refused e p r = first _ (so_true e p) (fix_refused r)

pub returns-then-not-plain : goal.returns-then-not-plain
returns-then-not-plain c = second _ (so_false c.plain.ensures c.if-not-plain.true) refl

-- ---- the numbers that are tested

pub value-lat_minutes-requires : goal.value-lat_minutes-requires
unfolding cut
value-lat_minutes-requires c =
    at_most_five (digits _ c.requires c.plain.ensures c.if-not-plain.false).lat_minutes (omega arith)

pub value-lon_degrees-requires : goal.value-lon_degrees-requires
unfolding cut
value-lon_degrees-requires c =
    at_most_five (digits _ c.requires c.plain.ensures c.if-not-plain.false).lon_degrees (omega arith)

pub value-lon_minutes-requires : goal.value-lon_minutes-requires
unfolding cut
value-lon_minutes-requires c =
    at_most_five (digits _ c.requires c.plain.ensures c.if-not-plain.false).lon_minutes (omega arith)

pub value-pressure-requires : goal.value-pressure-requires
unfolding cut
value-pressure-requires c =
    at_most_five (digits _ c.requires c.plain.ensures c.if-not-plain.false).pressure (omega arith)

pub value-gps-requires : goal.value-gps-requires
unfolding cut
value-gps-requires c =
    at_most_five (digits _ c.requires c.plain.ensures c.if-not-plain.false).gps (omega arith)

pub returns-then-lat_minutes-gt65535 : goal.returns-then-lat_minutes-gt65535
unfolding cut
returns-then-lat_minutes-gt65535 c =
    let d = digits _ c.requires c.plain.ensures c.if-not-plain.false in
    refused _ c.plain.ensures c.if-not-plain.false
    (lat_minutes_over _ (digits_written d.lat_minutes c.value-lat_minutes.ensures) c.if-lat_minutes-gt65535.true)

pub returns-then-lon_degrees-gt255 : goal.returns-then-lon_degrees-gt255
unfolding cut
returns-then-lon_degrees-gt255 c =
    let d = digits _ c.requires c.plain.ensures c.if-not-plain.false in
    refused _ c.plain.ensures c.if-not-plain.false
    (lon_degrees_over _ (digits_written d.lon_degrees c.value-lon_degrees.ensures) c.if-lon_degrees-gt255.true)

pub returns-then-lon_minutes-gt65535 : goal.returns-then-lon_minutes-gt65535
unfolding cut
returns-then-lon_minutes-gt65535 c =
    let d = digits _ c.requires c.plain.ensures c.if-not-plain.false in
    refused _ c.plain.ensures c.if-not-plain.false
    (lon_minutes_over _ (digits_written d.lon_minutes c.value-lon_minutes.ensures) c.if-lon_minutes-gt65535.true)

pub returns-then-pressure-gt32767 : goal.returns-then-pressure-gt32767
unfolding cut
returns-then-pressure-gt32767 c =
    let d = digits _ c.requires c.plain.ensures c.if-not-plain.false in
    refused _ c.plain.ensures c.if-not-plain.false
    (pressure_over_lem _ (digits_written d.pressure c.value-pressure.ensures) c.if-pressure-gt32767.true)

pub returns-then-gps-gt32767 : goal.returns-then-gps-gt32767
unfolding cut
returns-then-gps-gt32767 c =
    let d = digits _ c.requires c.plain.ensures c.if-not-plain.false in
    refused _ c.plain.ensures c.if-not-plain.false
    (gps_over_lem _ (digits_written d.gps c.value-gps.ensures) c.if-gps-gt32767.true)

-- ---- those of two digits, which fit

pub value-hours-requires : goal.value-hours-requires
unfolding cut
value-hours-requires c =
    at_most_five (digits _ c.requires c.plain.ensures c.if-not-plain.false).hours (omega arith)

pub overflow_cast-hours : goal.overflow_cast-hours
unfolding cut
overflow_cast-hours c =
    let d = digits _ c.requires c.plain.ensures c.if-not-plain.false in
    omega (arith, (two_digits_fit d.hours c.value-hours.ensures (omega arith)).fits)

pub value-minutes-requires : goal.value-minutes-requires
unfolding cut
value-minutes-requires c =
    at_most_five (digits _ c.requires c.plain.ensures c.if-not-plain.false).minutes (omega arith)

pub overflow_cast-minutes : goal.overflow_cast-minutes
unfolding cut
overflow_cast-minutes c =
    let d = digits _ c.requires c.plain.ensures c.if-not-plain.false in
    omega (arith, (two_digits_fit d.minutes c.value-minutes.ensures (omega arith)).fits)

pub value-seconds-requires : goal.value-seconds-requires
unfolding cut
value-seconds-requires c =
    at_most_five (digits _ c.requires c.plain.ensures c.if-not-plain.false).seconds (omega arith)

pub overflow_cast-seconds : goal.overflow_cast-seconds
unfolding cut
overflow_cast-seconds c =
    let d = digits _ c.requires c.plain.ensures c.if-not-plain.false in
    omega (arith, (two_digits_fit d.seconds c.value-seconds.ensures (omega arith)).fits)

pub value-lat_degrees-requires : goal.value-lat_degrees-requires
unfolding cut
value-lat_degrees-requires c =
    at_most_five (digits _ c.requires c.plain.ensures c.if-not-plain.false).lat_degrees (omega arith)

pub overflow_cast-lat_degrees : goal.overflow_cast-lat_degrees
unfolding cut
overflow_cast-lat_degrees c =
    let d = digits _ c.requires c.plain.ensures c.if-not-plain.false in
    omega (arith, (two_digits_fit d.lat_degrees c.value-lat_degrees.ensures (omega arith)).fits)

-- ---- its fields, as they are read

time : (c : After-from_hms) → c.from_hms.result ≡ columns 1 7 read_time_of c.args.line.now
unfolding cut
time c =
    let d = digits _ c.requires c.plain.ensures c.if-not-plain.false in
    c.from_hms.ensures
    ∙ time_at_lem _ c.requires
    (two_digits_fit d.hours c.value-hours.ensures (omega arith))
    (two_digits_fit d.minutes c.value-minutes.ensures (omega arith))
    (two_digits_fit d.seconds c.value-seconds.ensures (omega arith))

latitude : (c : After-lettered) → c.lettered.result ≡ latitude_of c.args.line.now
unfolding cut
latitude c =
    let d = digits _ c.requires c.plain.ensures c.if-not-plain.false in
    c.lettered.ensures
    ∙ latitude_at _ c.requires
    (two_digits_fit d.lat_degrees c.value-lat_degrees.ensures (omega arith))
    (number_within (digits_written d.lat_minutes c.value-lat_minutes.ensures) c.if-lat_minutes-gt65535.false)

longitude : (c : After-lettered-2) → c.lettered-2.result ≡ longitude_of c.args.line.now
unfolding cut
longitude c =
    let d = digits _ c.requires c.plain.ensures c.if-not-plain.false in
    c.lettered-2.ensures
    ∙ longitude_at _ c.requires
    (number_within (digits_written d.lon_degrees c.value-lon_degrees.ensures) c.if-lon_degrees-gt255.false)
    (number_within (digits_written d.lon_minutes c.value-lon_minutes.ensures) c.if-lon_minutes-gt65535.false)

-- ---- where one is refused, the fix is

pub returns-in_err-timestamp : goal.returns-in_err-timestamp
returns-in_err-timestamp c =
    let read = time (goal.at.returns-in_err-timestamp c).After-from_hms in
    c.from_residual.ensures
    ∙ refused _ c.plain.ensures c.if-not-plain.false
    (no_time _ (none_refuses c.in_err-timestamp.was c.ok.ensures.value read))

pub returns-in_err-lat : goal.returns-in_err-lat
returns-in_err-lat c =
    let read = latitude (goal.at.returns-in_err-lat c).After-lettered in
    c.from_residual-in_err-lat.ensures
    ∙ refused _ c.plain.ensures c.if-not-plain.false
    (no_latitude _ (none_refuses c.in_err-lat.was c.ok-2.ensures.value read))

pub returns-in_err-lon : goal.returns-in_err-lon
returns-in_err-lon c =
    let read = longitude (goal.at.returns-in_err-lon c).After-lettered-2 in
    c.from_residual-in_err-lon.ensures
    ∙ refused _ c.plain.ensures c.if-not-plain.false
    (no_longitude _ (none_refuses c.in_err-lon.was c.ok-3.ensures.value read))

pub returns-in_err-fix_valid : goal.returns-in_err-fix_valid
returns-in_err-fix_valid c =
    let read = c.from_letter.ensures in
    c.from_residual-in_err-fix_valid.ensures
    ∙ refused _ c.plain.ensures c.if-not-plain.false
    (no_letter _ (none_refuses c.in_err-fix_valid.was c.ok-4.ensures.value read))

-- ---- and where all are found, it is of them

pub returns : goal.returns
unfolding cut read_fix
returns c =
    let d = digits _ c.requires c.plain.ensures c.if-not-plain.false in
    let way = goal.at.returns c in
    let at_time = some_read c.in_ok-timestamp.was c.ok.ensures.value (time way.After-from_hms) in
    let north = some_read c.in_ok-lat.was c.ok-2.ensures.value (latitude way.After-lettered) in
    let east = some_read c.in_ok-lon.was c.ok-3.ensures.value (longitude way.After-lettered-2) in
    let letter = some_read c.in_ok-fix_valid.was c.ok-4.ensures.value c.from_letter.ensures in
    let heights =
    heights_at (number_within (digits_written d.pressure c.value-pressure.ensures) c.if-pressure-gt32767.false)
    (number_within (digits_written d.gps c.value-gps.ensures) c.if-gps-gt32767.false)
    in
    first _ (so_true c.plain.ensures c.if-not-plain.false)
    (fix_found
    (on _ at_time
    (on _ (position_at _ c.requires north east) (on _ letter (on _ heights (rw c.from_column.ensures))))))
