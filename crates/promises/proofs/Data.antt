-- E, F and K lines come back exactly where no number of their time has a plus.
use Rattle.text.specs.Prelude.{ℕ, ◌≤◌, ◌≡◌, List, [], ◌∷◌, ◌++◌, length, drop, Res, ok, byte, cut}
use Rattle.text.proofs.Prelude.{arith, refl, sym, on, is≤}
use Rattle.text.proofs.Finds.{Finds, finds_any, finds_ok, finds_bind, finds_guard}
use Rattle.field.specs.Field.{ascii_in, ascii}
use Rattle.e_record.specs.ERecord.{read_e, e_body, e_text}
use Rattle.f_record.specs.FRecord.{read_heard, read_f, f_body, f_text}
use Rattle.k_record.specs.KRecord.{read_timed, read_k, k_body, k_text}
use Rattle.promises.specs.Odd.{timed_odd}
use Rattle.promises.proofs.Columns.{cut_joined, finds_columns}
use Rattle.promises.proofs.Copies.{Copy, copy_rest, copy_letter}
use Rattle.promises.proofs.Parts.{part_text_lem, rest_text, name_text_lem, Again, printed_again}
use Rattle.promises.proofs.Times.{time_copy}

-- the letter, what is printed for the time, and all from column 7 on
timed_again : (s : List ℕ) (b : ℕ) {t : List ℕ} {m : Res (List ℕ)} → 7 ≤ length s → byte 0 s ≡ b →
    Copy (timed_odd s) (cut 1 7 s) t → ok ((b ∷ []) ++ (t ++ drop 7 s)) ≡ m → Again (timed_odd s) s m
timed_again s b l e c p = printed_again p (copy_letter s 0 b (omega arith) (sym e) (copy_rest s 1 6 c))

pub e_again : (s : List ℕ) → byte 0 s ≡ 69 → Finds (read_e s) (λ r. Again (timed_odd s) s (e_text r s))
unfolding read_e ascii_in timed_odd e_text e_body
e_again s b =
    finds_guard _ (λ long. let l : 10 ≤ length s = is≤ long in
    finds_guard _ (λ _. finds_guard _ (λ _.
    finds_bind (finds_columns _ s 1 7 (time_copy (cut 1 7 s))) (λ time ct.
    finds_ok (timed_again s 69 (omega arith) b ct
    (on _ (part_text_lem 7 s 3 l) (on _ (name_text_lem 10 s l) (rw (cut_joined 7 3 s)))))))))

pub f_again : (s : List ℕ) → byte 0 s ≡ 70 → Finds (read_f s) (λ r. Again (timed_odd s) s (f_text r s))
unfolding read_f ascii ascii_in read_heard timed_odd f_text f_body
f_again s b =
    finds_guard _ (λ long. let l : 7 ≤ length s = is≤ long in
    finds_guard _ (λ _. finds_guard _ (λ _.
    finds_bind (finds_columns _ s 1 7 (time_copy (cut 1 7 s))) (λ time ct.
    finds_bind finds_any (λ heard _.
    finds_ok (timed_again s 70 l b ct (on _ (rest_text 7 s l) refl)))))))

pub k_again : (s : List ℕ) → byte 0 s ≡ 75 → Finds (read_k s) (λ r. Again (timed_odd s) s (k_text r s))
unfolding read_k ascii ascii_in read_timed timed_odd k_text k_body
k_again s b =
    finds_guard _ (λ long. let l : 7 ≤ length s = is≤ long in
    finds_guard _ (λ _. finds_guard _ (λ _.
    finds_bind (finds_columns _ s 1 7 (time_copy (cut 1 7 s))) (λ time ct.
    finds_ok (timed_again s 75 l b ct (on _ (rest_text 7 s l) refl))))))
