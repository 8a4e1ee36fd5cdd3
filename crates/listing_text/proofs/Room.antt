-- The listing of a log has room: 38 characters for each of its lines, 65 for the trailer.
use Rattle.text.specs.Prelude.{ℕ, ◌+◌, ◌≤◌, ◌≡◌, List, [], ◌∷◌, length, Res, ok, no, number_of, byte, cut, columns}
use Rattle.text.specs.Prelude.{largest, signed}
use Rattle.text.proofs.Prelude.{arith, refl, length-append, is≤}
use Rattle.text.specs.declared.refusal.Refusal.{Refusal}
use Rattle.text.proofs.Finds.{Finds, finds_any, finds_ok, finds_bind, finds_moved, finds_guard, finds_pick}
use Rattle.text.proofs.RoundTrip.{int_columns}
use Rattle.text.proofs.Lines.{cut_length}
use Rattle.field.specs.Field.{ascii_in, ascii}
use Rattle.b_record.specs.BRecord.{read_heights_of, read_fix, read_b}
use Rattle.records.specs.Record.{kind_of, read_c, read_kind, read_line_of, record_fix, answer_fix, accepted_as, answered}
use Rattle.records.specs.declared.Record.{Record}
use Rattle.igc_log.specs.Line.{line_text}
use Rattle.igc_log.specs.Log.{chunks, read_from, readings}
use Rattle.igc_log.specs.Fold.{over, texts, Carried, fresh, past_line}
use Rattle.igc_log.proofs.Chunks.{total, total_chunks, chunks_le}
use Rattle.held.specs.declared.tables.Tables.{Tables}
use Rattle.walk.specs.Readings.{reader}
use Rattle.trailer_text.specs.Trailer.{nothing, count_step, offset_text, trailer_text_of}
use Rattle.trailer_text.specs.declared.Trailer.{Trailer}
use Rattle.trailer_text.proofs.Room.{plain_le, picked_has, Fits, trailer_le, line_fits}
use Rattle.listing_text.specs.Line.{answer_text, head_text, fix_heights, heights_of, listing_line}
use Rattle.listing_text.specs.Listing.{line_of, listed, listing_text_of, room_for, HasRoom}

-- ---- the answer to a line, and its heights

-- An answer of at most two characters, and heights of at most twelve.
abbrev Short : Res Record → Type 0
Short m = (answered m ≤ 15) × (length (heights_of (answer_fix m)) ≤ 12)

-- the heights of a line have 5 characters each
heights_columns : (s : List ℕ) → 35 ≤ length s
    → Finds (read_heights_of s) (λ h. length (signed 5 h.pressure.0) + length (signed 5 h.gps.0) ≡ 10)
unfolding read_heights_of columns
heights_columns s l =
    finds_bind (finds_moved 25 (int_columns 32767 5 (cut 25 30 s) (cut_length 25 5 s (omega arith)))) (λ p ep.
    finds_bind (finds_moved 30 (int_columns 32767 5 (cut 30 35 s) (cut_length 30 5 s l))) (λ g eg.
    finds_ok (omega arith)))

-- a fix is short: each of its heights has a space in front
fix_short : (s : List ℕ) → Finds (read_b s) (λ r. Short (ok (Record.B r)))
unfolding read_b ascii ascii_in read_fix answered accepted_as answer_fix record_fix heights_of fix_heights
fix_short s =
    finds_guard _ (λ long. finds_guard _ (λ _.
    finds_bind finds_any (λ _ _. finds_bind finds_any (λ _ _. finds_bind finds_any (λ _ _.
    finds_bind (heights_columns s (is≤ long)) (λ h e. finds_ok (omega arith, simp length-append (omega arith))))))))

-- a record of any kind is short: only a fix has heights
kind_short : (b : ℕ) (s : List ℕ) → Finds (read_kind (kind_of b) s) (λ r. Short (ok r))
unfolding kind_of read_kind read_c answered accepted_as answer_fix record_fix heights_of
kind_short b s =
    let P : _ → Type 0 = λ k. Finds (read_kind k s) (λ r. Short (ok r)) in
    picked_has P _ (finds_bind finds_any (λ _ _. finds_ok (omega arith)))
    (picked_has P _ (finds_bind (fix_short s) (λ r h. finds_ok h))
    (picked_has P _
    (finds_guard _ (λ _.
    finds_pick
    (λ _. finds_bind finds_any (λ _ _. finds_ok (omega arith)))
    (λ _. finds_bind finds_any (λ _ _. finds_ok (omega arith)))))
    (picked_has P _ (finds_bind finds_any (λ _ _. finds_ok (omega arith)))
    (picked_has P _ (finds_bind finds_any (λ _ _. finds_ok (omega arith)))
    (picked_has P _ (finds_bind finds_any (λ _ _. finds_ok (omega arith)))
    (picked_has P _ (finds_bind finds_any (λ _ _. finds_ok (omega arith)))
    (picked_has P _ (finds_bind finds_any (λ _ _. finds_ok (omega arith)))
    (picked_has P _ (finds_bind finds_any (λ _ _. finds_ok (omega arith)))
    (picked_has P _ (finds_bind finds_any (λ _ _. finds_ok (omega arith)))
    (picked_has P _ (finds_bind finds_any (λ _ _. finds_ok (omega arith)))
    (picked_has P _ (finds_bind finds_any (λ _ _. finds_ok (omega arith)))
    (finds_ok (omega arith)))))))))))))

-- a refusal has a number of at most two characters
refusal_le : (n : Refusal) → number_of n ≤ 15
refusal_le Refusal.Syntax = omega arith
refusal_le Refusal.NotAscii = omega arith
refusal_le (Refusal.UnreadableNumber place) = omega arith
refusal_le Refusal.OutOfRange = omega arith
refusal_le Refusal.BadExtension = omega arith
refusal_le Refusal.MissingExtension = omega arith
refusal_le Refusal.WrongLength = omega arith
refusal_le Refusal.OutsideLine = omega arith
refusal_le Refusal.NoRoom = omega arith
refusal_le Refusal.NoTable = omega arith
refusal_le Refusal.SpoiledTable = omega arith
refusal_le Refusal.NotDefined = omega arith

-- an answer is short where what it finds is
found_short : (m : Res Record) → Finds m (λ r. Short (ok r)) → Short m
unfolding answered answer_fix heights_of
found_short (ok r) f = f.found r refl
found_short (no n) f = (refusal_le n, omega arith)

-- a line of the listing has at most 38 characters
line_le : (n : ℕ) (s : List ℕ) → n ≤ largest → length (listing_line n s (read_line_of s)) ≤ 38
unfolding read_line_of listing_line head_text answer_text
line_le n s h =
    let m = found_short (read_line_of s) (finds_guard _ (λ _. kind_short (byte 0 s) s)) in
    simp length-append (omega (arith, plain_le 19 n (omega arith), plain_le 1 (answered (read_line_of s)) (omega arith)))

-- ---- the listing

-- what is listed from some line on has room
rest_le : (c : Carried Tables Trailer) (ks : List (List ℕ)) → Fits c
    → c.number + length ks ≤ largest → c.place + total ks ≤ largest
    → let xs = read_from reader c.number c.place c.held ks in
    length (texts line_of xs) + length (trailer_text_of (over count_step c.made xs)) ≤ room_for (length ks)
unfolding read_from texts over line_of room_for past_line
rest_le c [] f n p = omega (arith, trailer_le f (omega arith))
rest_le c (k ∷ ks) f n p =
    let line = line_le (c.number + 1) (line_text k) (omega arith) in
    let next = past_line reader count_step c (line_text k) (length k) in
    let rest = rest_le next ks (line_fits k f (omega arith)) (omega arith) (omega arith) in
    simp length-append (omega arith)

-- no log that a machine can hold has a longer listing
pub has_room : HasRoom
unfolding listing_text_of listed readings nothing offset_text room_for
has_room log h =
    let few = chunks_le log in
    let bytes = total_chunks log in
    let all = rest_le (fresh reader nothing) (chunks log) (omega arith) (omega arith) (omega arith) in
    simp length-append (omega arith)
