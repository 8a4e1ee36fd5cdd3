-- C lines come back.
use Rattle.text.specs.Prelude.{ℕ, ◌≤◌, ◌≡◌, true, List, [], ◌∷◌, ◌++◌, length, drop, replicate, pick, ◌=?◌, ◌∨?◌, byte}
use Rattle.text.specs.Prelude.{cut, zeros, plus, padded, signed}
use Rattle.text.proofs.Prelude.{arith, refl, sym, ap, ◌∙◌, on, is≤, is=, both}
use Rattle.text.proofs.Finds.{Finds, finds_ok, finds_bind, finds_guard, finds_pick}
use Rattle.field.specs.Field.{ascii_in}
use Rattle.text.proofs.Lines.{cut_length}
use Rattle.c_record.specs.CRecord.{read_flight_of, flight_text, read_task_of, task_text, read_declaration, declaration_body}
use Rattle.c_record.specs.CRecord.{declaration_text}
use Rattle.c_turnpoint_record.specs.CTurnpoint.{read_turnpoint, turnpoint_body, turnpoint_text}
use Rattle.promises.specs.Odd.{three_plus, signed_odd, declaration_odd, turnpoint_odd}
use Rattle.promises.proofs.Columns.{finds_columns}
use Rattle.promises.proofs.Copies.{Copy, copy_itself, copy_columns, copy_rest, copy_letter}
use Rattle.promises.proofs.Parts.{name_text_lem, Again, printed_again}
use Rattle.promises.proofs.Numbers.{nat_copy, int_copy}
use Rattle.promises.proofs.Times.{time_copy, date_copy}
use Rattle.promises.proofs.Coords.{position_copy}

-- ---- declarations

zeros_all : (s : List ℕ) → zeros s ≡ true → replicate (length s) 48 ≡ s
unfolding zeros
zeros_all [] z = refl
zeros_all (b ∷ s) z = let k = both z in rw (is= k.0, zeros_all s k.1)

-- no flight date was written as it prints
none_copy : (s : List ℕ) → 48 ∷ 48 ∷ 48 ∷ 48 ∷ 48 ∷ 48 ∷ [] ≡ s →
    Copy (three_plus s) s (48 ∷ 48 ∷ 48 ∷ 48 ∷ 48 ∷ 48 ∷ [])
unfolding three_plus plus cut ◌=?◌ ◌∨?◌ pick
none_copy s e = rw (← e) (copy_itself _)

flight_copy : (s : List ℕ) → length s ≡ 6 → Finds (read_flight_of s) (λ f. Copy (three_plus s) s (flight_text f))
unfolding read_flight_of flight_text
flight_copy s l =
    finds_pick
    (λ z. finds_ok (none_copy s (ap (λ n. replicate n 48) (sym l) ∙ zeros_all s z)))
    (λ _. finds_bind (date_copy s) (λ d c. finds_ok c))

task_copy : (s : List ℕ) → 25 ≤ length s
    → Finds (read_task_of s)
    (λ k. Copy (plus (cut 19 23 s) ∨? signed_odd (cut 23 25 s)) (drop 19 s)
    (padded 4 k.id ++ (signed 2 k.count ++ drop 25 s)))
unfolding read_task_of
task_copy s l =
    finds_bind (nat_copy 19 4 65535 s (omega arith)) (λ id ci.
    finds_bind (int_copy 23 2 127 s (omega arith)) (λ count cc.
    finds_ok (copy_columns s 19 4 ci (copy_rest s 23 2 cc))))

pub declaration_again_lem : (s : List ℕ) → byte 0 s ≡ 67 →
    Finds (read_declaration s) (λ r. Again (declaration_odd s) s (declaration_text r s))
unfolding read_declaration ascii_in declaration_odd declaration_text declaration_body task_text
declaration_again_lem s b =
    finds_guard _ (λ long. let l : 25 ≤ length s = is≤ long in
    finds_guard _ (λ _. finds_guard _ (λ _.
    finds_bind (finds_columns _ s 1 7 (date_copy (cut 1 7 s))) (λ date cd.
    finds_bind (finds_columns _ s 7 13 (time_copy (cut 7 13 s))) (λ time ct.
    finds_bind (finds_columns _ s 13 19 (flight_copy (cut 13 19 s) (cut_length 13 6 s (omega arith)))) (λ flight cf.
    finds_bind (task_copy s l) (λ task ck.
    finds_ok (printed_again (on _ (name_text_lem 25 s l) refl)
    (copy_letter s 0 67 (omega arith) (sym b)
    (copy_columns s 1 6 cd (copy_columns s 7 6 ct (copy_columns s 13 6 cf ck))))))))))))

-- ---- turnpoints

pub turnpoint_again : (s : List ℕ) → byte 0 s ≡ 67 →
    Finds (read_turnpoint s) (λ r. Again (turnpoint_odd s) s (turnpoint_text r s))
unfolding read_turnpoint ascii_in turnpoint_odd turnpoint_text turnpoint_body
turnpoint_again s b =
    finds_guard _ (λ long. let l : 18 ≤ length s = is≤ long in
    finds_guard _ (λ _. finds_guard _ (λ _.
    finds_bind (finds_columns _ s 1 18 (position_copy (cut 1 18 s))) (λ pos cp.
    finds_ok (printed_again (on _ (name_text_lem 18 s l) refl)
    (copy_letter s 0 67 (omega arith) (sym b) (copy_rest s 1 17 cp)))))))
