-- Lines of every kind come back, exactly where they are not odd.
use Rattle.text.specs.Prelude.{ℕ, ◌≡◌, true, false, List, length, Res, ok, bind, guard, pick, ◌=?◌, ◌∨?◌, byte}
use Rattle.text.proofs.Prelude.{arith, refl, sym, ap, ◌∙◌, take_all, on, pass, yes≤, no≤, is=, never, by_test}
use native.Mathlib.Nat.{le_refl}
use Rattle.part.specs.Part.{bytes_of, find_part, text_of, part_text}
use Rattle.text.proofs.Finds.{Finds, finds_ok, finds_bind, finds_guard}
use Rattle.print.specs.Print.{answer_to, left_by}
use Rattle.table.specs.Table.{read_table, table_text}
use Rattle.table.specs.declared.Table.{Table}
use Rattle.c_record.specs.CRecord.{turns}
use Rattle.records.specs.Record.{table_left, kind_of, whole, read_c, read_kind, read_line_of}
use Rattle.record_print.specs.Printed.{record_text}
use Rattle.promises.specs.Odd.{declaration_odd, turnpoint_odd, table_odd, line_odd, comes_always}
use Rattle.promises.specs.Back.{Back, Reprints, ComesBack}
use Rattle.promises.proofs.Parts.{Again, printed_always}
use Rattle.promises.proofs.Recorders.{a_again}
use Rattle.promises.proofs.Fixes.{b_again}
use Rattle.promises.proofs.Tasks.{declaration_again_lem, turnpoint_again}
use Rattle.promises.proofs.Headers.{h_again}
use Rattle.promises.proofs.Data.{e_again, f_again, k_again}
use Rattle.promises.proofs.Others.{d_again, g_again, l_again}
use Rattle.promises.proofs.Tables.{table_again}

module _ (s : List ℕ) where
  -- the table that is handed over beside the record
  abbrev t : Table
  t = table_left (read_table s)

  c_again : byte 0 s ≡ 67 →
      Finds (read_c s) (λ r. Again (pick (turns s) (turnpoint_odd s) (declaration_odd s)) s (record_text r t s))
  unfolding read_c record_text pick
  c_again h =
      finds_guard _ (λ _. by_test (turns s)
      (λ e. rw e (finds_bind (turnpoint_again s h) (λ r a. finds_ok a)))
      (λ e. rw e (finds_bind (declaration_again_lem s h) (λ r a. finds_ok a))))

  table_line : (b : ℕ) → byte 0 s ≡ b → Finds (read_table s) (λ _. Again (table_odd s) s (table_text b t))
  unfolding table_left
  table_line b h = record { found = λ ds e. rw (ap (λ m. table_left m) e) ((table_again s b h).found ds e) }

  whole_text : ok s ≡ part_text (whole s) s
  unfolding whole part_text text_of find_part bytes_of
  whole_text = on _ (pass _ (yes≤ (omega arith)) refl) (ap ok (sym (take_all (length s) s (le_refl (length s)))))

  -- by whether the line begins with the letter b
  pub begins : {A : Type 0} (b : ℕ) → (byte 0 s ≡ b → A) → ((byte 0 s =? b) ≡ false → A) → A
  begins b p q = by_test (byte 0 s =? b) (λ e. p (is= e)) q

  kind_again : Finds (read_kind (kind_of (byte 0 s)) s) (λ r. Again (line_odd s) s (record_text r t s))
  unfolding kind_of read_kind line_odd record_text pick ◌=?◌ ◌∨?◌
  kind_again =
      begins 65 (λ h. rw h (finds_bind (a_again s h) (λ r a. finds_ok a))) (λ na.
      begins 66 (λ h. rw h (finds_bind (b_again s h) (λ r a. finds_ok a))) (λ nb.
      begins 67 (λ h. rw h (c_again h)) (λ nc.
      begins 68 (λ h. rw h (finds_bind (d_again s h) (λ r a. finds_ok a))) (λ nd.
      begins 69 (λ h. rw h (finds_bind (e_again s h) (λ r a. finds_ok a))) (λ ne.
      begins 70 (λ h. rw h (finds_bind (f_again s h) (λ r a. finds_ok a))) (λ nf.
      begins 71 (λ h. rw h (finds_bind (g_again s h) (λ r a. finds_ok a))) (λ ng.
      begins 72 (λ h. rw h (finds_bind (h_again s h) (λ r a. finds_ok a))) (λ nh.
      begins 73 (λ h. rw h (finds_bind (table_line 73 h) (λ ds a. finds_ok a))) (λ ni.
      begins 74 (λ h. rw h (finds_bind (table_line 74 h) (λ ds a. finds_ok a))) (λ nj.
      begins 75 (λ h. rw h (finds_bind (k_again s h) (λ r a. finds_ok a))) (λ nk.
      begins 76 (λ h. rw h (finds_bind (l_again s h) (λ r a. finds_ok a))) (λ nl.
      rw (na, nb, nc, nd, ne, nf, ng, nh, ni, nj, nk, nl) (finds_ok (printed_always whole_text))))))))))))))

  pub line_again : Finds (read_line_of s) (λ r. Again (line_odd s) s (record_text r t s))
  unfolding read_line_of
  line_again = finds_guard _ (λ _. kind_again)

-- ---- the programs

back_text : {s : List ℕ} {m : Res (List ℕ)} → m ≡ ok s → Back s m
unfolding answer_to left_by bind guard pick
back_text e = record {
  text = e;
  room = λ b b' p x h. (x.answer ∙ rw (e, yes≤ h), x.left ∙ rw (e, yes≤ h));
  no_room = λ b b' p x h. (x.answer ∙ rw (e, no≤ h), x.left ∙ rw (e, no≤ h));
}

-- a line of a kind that always comes back is never odd
always_plain : (s : List ℕ) → comes_always (byte 0 s) ≡ true → line_odd s ≡ false
unfolding line_odd comes_always pick ◌=?◌ ◌∨?◌
always_plain s h =
    begins s 68 (λ e. rw e) (λ nd.
    begins s 71 (λ e. rw e) (λ ng.
    begins s 72 (λ e. rw e) (λ nh.
    begins s 76 (λ e. rw e) (λ nl. never h (rw (nd, ng, nh, nl))))))

reprints : {s : List ℕ} {m : Res (List ℕ)} → Again (line_odd s) s m → Reprints s m
reprints {s} {m} a =
    let back : line_odd s ≡ false → Back s m = λ o. back_text (sym a.prints ∙ ap ok (a.same o)) in
    record {
      printed_accepted = (a.text, sym a.prints);
      back = back;
      odd = λ o e. let q : a.text ≡ s = cc (a.prints, e) in never o (a.only q);
      always = λ h. back (always_plain s h);
    }

pub comes_back : ComesBack
comes_back s r t k = reprints (rw k.table ((line_again s).found r (sym k.answer)))
