-- Printing settles, of lines of every kind.
use Rattle.text.specs.Prelude.{ℕ, ◌≤◌, ◌≡◌, Bool, true, false, List, [], ◌∷◌, length, take, drop, Res, ok, no, bind}
use Rattle.text.specs.Prelude.{guard, pick, ◌≤?◌, ◌=?◌, ◌∨?◌, byte}
use Rattle.text.specs.declared.refusal.Refusal.TheVariants.{NoRoom}
use Rattle.text.proofs.Prelude.{arith, refl, sym, ap, ◌∙◌, take_at, pass, yes≤, is≤, by_test, never}
use Rattle.text.proofs.Finds.{Finds, finds_any, finds_map, finds_ok, finds_bind, finds_guard, finds_pick}
use Rattle.print.specs.Print.{answer_to, left_by, Prints}
use Rattle.table.specs.Table.{read_table, table_read, table_text}
use Rattle.table.specs.declared.Table.{Table}
use Rattle.a_record.specs.ARecord.{letter_form, read_a}
use Rattle.c_record.specs.CRecord.{turns, read_declaration}
use Rattle.c_turnpoint_record.specs.CTurnpoint.{read_turnpoint}
use Rattle.d_record.specs.DRecord.{read_d}
use Rattle.g_record.specs.GRecord.{read_g}
use Rattle.h_record.specs.HRecord.{read_h}
use Rattle.l_record.specs.LRecord.{read_l}
use Rattle.records.specs.Record.{table_left, kind_of, read_c, read_kind, read_line_of}
use Rattle.records.specs.declared.Record.{Record}
use Rattle.record_print.specs.Printed.{record_text}
use Rattle.promises.specs.Odd.{declaration_odd, turnpoint_odd, table_odd, line_odd}
use Rattle.promises.specs.Settle.{unknown_maker, recorder_again, read_again, texts_of, bytes_in, Settles}
use Rattle.promises.specs.Settle.{PrintingSettles}
use Rattle.promises.proofs.Lines.{begins, comes_back}
use Rattle.promises.proofs.Settling.{Kept, finds_itself}
use Rattle.promises.proofs.SettlesRecorder.{a_kept}
use Rattle.promises.proofs.SettlesFix.{b_kept}
use Rattle.promises.proofs.SettlesTask.{declaration_kept, turnpoint_kept}
use Rattle.promises.proofs.SettlesTurns.{declaration_turns, turnpoint_turns}
use Rattle.promises.proofs.SettlesTable.{table_kept}
use Rattle.promises.proofs.SettlesTimed.{e_kept, f_kept, k_kept}

-- ---- a line that settles

-- the table that is handed over beside a line's record
abbrev table_beside : List ℕ → Table
table_beside s = table_left (read_table s)

-- I or J
abbrev tabled : List ℕ → Bool
tabled s = (byte 0 s =? 73) ∨? (byte 0 s =? 74)

-- a text that is accepted and is not odd prints as itself
settled : {s x : List ℕ} {r : Record} → read_line_of x ≡ ok (read_again s r) → line_odd x ≡ false →
    bytes_in x (texts_of (read_again s r)) ≡ bytes_in s (texts_of r) →
    (tabled s ≡ true → table_read (read_table x) ≡ table_read (read_table s)) → Settles s r x
settled {s} {x} {r} e o t d = record {
  accepted = e;
  texts = t;
  definitions = d;
  same = (comes_back x (read_again s r) (table_left (read_table x)) (record { answer = sym e; table = refl })).back o;
}

-- the printed text of the line s, where that was read as r, settles
abbrev TextSettles : List ℕ → Record → Type 0
TextSettles s r = read_line_of s ≡ ok r → (x : List ℕ) → ok x ≡ record_text r (table_beside s) s → Settles s r x

-- a line that is not odd is its own text
plain_settles : {s : List ℕ} {r : Record} → line_odd s ≡ false → read_again s r ≡ r → TextSettles s r
plain_settles {s} {r} o a e x p =
    let itself = ((comes_back s r (table_left (read_table s)) (record { answer = sym e; table = refl })).back o).text in
    let same : x ≡ s = cc (p, itself) in
    rw same (settled (e ∙ ap ok (sym a)) o (rw a) (λ _. refl))

-- ---- a line of a kind

-- a line that begins with the letter is read by that reader, and is odd by that test
record Chosen {R : Type 0} (read : List ℕ → Res R) (odd : List ℕ → Bool) (letter : ℕ) (wrap : R → Record) : Type 0 where
  line : (x : List ℕ) (v : R) → byte 0 x ≡ letter → read x ≡ ok v → read_line_of x ≡ ok (wrap v)
  plain : (x : List ℕ) (v : R) → byte 0 x ≡ letter → read x ≡ ok v → odd x ≡ false → line_odd x ≡ false

begun : (x : List ℕ) (b : ℕ) → 1 ≤ b → byte 0 x ≡ b → read_line_of x ≡ read_kind (kind_of b) x
unfolding read_line_of
begun [] b l h = absurd (omega arith)
begun (c ∷ x) b l h = sym (pass _ (yes≤ (omega arith)) (rw h))

-- of every letter but C
chosen : {R : Type 0} {read : List ℕ → Res R} {odd : List ℕ → Bool} {letter : ℕ} {wrap : R → Record} → 1 ≤ letter →
    ((x : List ℕ) → read_kind (kind_of letter) x ≡ bind (read x) (λ v. ok (wrap v))) →
    ((x : List ℕ) → byte 0 x ≡ letter → line_odd x ≡ odd x) → Chosen read odd letter wrap
unfolding bind
chosen {letter} l reads odds = record {
  line = λ x v h e. begun x letter l h ∙ reads x ∙ rw e;
  plain = λ x v h e o. odds x h ∙ o;
}

module _ {R : Type 0} {read : List ℕ → Res R} {odd : List ℕ → Bool} {letter : ℕ} {wrap : R → Record}
    (c : Chosen read odd letter wrap) {s : List ℕ} {r again : R} {m : Res (List ℕ)} where
  kept_settles : read_again s (wrap r) ≡ wrap again →
      (tabled s ≡ true → (x : List ℕ) → read x ≡ ok again → table_read (read_table x) ≡ table_read (read_table s)) →
      Kept read odd letter wrap s r again m → (x : List ℕ) → ok x ≡ m → Settles s (wrap r) x
  kept_settles a d k x p =
      let y = k.text in
      let same : x ≡ y = cc (p, k.prints) in
      rw same (settled (c.line y again k.first k.reads ∙ ap ok (sym a))
      (c.plain y again k.first k.reads k.plain) (rw a k.same) (λ t. d t y k.reads))

-- ---- C lines, by column 8

turnpoint_long : (x : List ℕ) → Finds (read_turnpoint x) (λ _. 9 ≤ length x)
unfolding read_turnpoint
turnpoint_long x = finds_guard _ (λ l. finds_map finds_any (λ _ _. omega (arith, is≤ l)))

declaration_long : (x : List ℕ) → Finds (read_declaration x) (λ _. 9 ≤ length x)
unfolding read_declaration
declaration_long x = finds_guard _ (λ l. finds_map finds_any (λ _ _. omega (arith, is≤ l)))

-- a reader of one of the two, and what column 8 says of all that it accepts
c_chosen : {R : Type 0} {read : List ℕ → Res R} {odd : List ℕ → Bool} {wrap : R → Record} (t : Bool) →
    ((x : List ℕ) → Finds (read x) (λ _. 9 ≤ length x)) → ((x : List ℕ) → Finds (read x) (λ _. turns x ≡ t)) →
    ((x : List ℕ) → pick t (bind (read_turnpoint x) (λ r. ok (Record.CTurnpoint r)))
    (bind (read_declaration x) (λ r. ok (Record.CDeclaration r))) ≡ bind (read x) (λ r. ok (wrap r))) →
    ((x : List ℕ) → pick t (turnpoint_odd x) (declaration_odd x) ≡ odd x) → Chosen read odd 67 wrap
unfolding kind_of read_kind read_c line_odd bind pick ◌=?◌ ◌∨?◌
c_chosen t long turned reads odds = record {
  line = λ x v h e.
      begun x 67 (omega arith) h
      ∙ sym (pass _ (yes≤ ((long x).found v e)) (rw ((turned x).found v e) (sym (reads x ∙ rw e))));
  plain = λ x v h e o. rw (h, (turned x).found v e) (odds x ∙ o);
}

-- ---- lines of every kind

module _ (s : List ℕ) where
  -- a line in letter form, or one that comes back
  a_settles : byte 0 s ≡ 65 → unknown_maker s ≡ false → Finds (read_a s) (λ r. TextSettles s (Record.A r))
  unfolding kind_of read_kind line_odd record_text read_again recorder_again pick ◌=?◌ ◌∨?◌
  a_settles h u = by_test (letter_form s)
      (λ form. finds_map (a_kept s h u form) (λ r k e.
      kept_settles (chosen (omega arith) (λ x. refl) (λ x b. rw b)) refl (λ t. never t (rw h)) k))
      (λ form. finds_map finds_any (λ r _. plain_settles (rw (h, form)) (rw form)))

  c_settles : byte 0 s ≡ 67 → Finds (read_c s) (TextSettles s)
  unfolding read_c record_text read_again pick ◌=?◌ ◌∨?◌
  c_settles h =
      finds_guard _ (λ _. finds_pick {t = turns s}
      (λ _. finds_bind (turnpoint_kept s) (λ r k.
      finds_ok (λ _. kept_settles (c_chosen true turnpoint_long turnpoint_turns (λ x. refl) (λ x. refl)) refl
      (λ t. never t (rw h)) k)))
      (λ _. finds_bind (declaration_kept s) (λ r k.
      finds_ok (λ _. kept_settles (c_chosen false declaration_long declaration_turns (λ x. refl) (λ x. refl)) refl
      (λ t. never t (rw h)) k))))

  -- a kind whose record is read again as it was
  kept_line : {R : Type 0} {read : List ℕ → Res R} {odd : List ℕ → Bool} {b : ℕ} {wrap : R → Record}
      {text : R → Res (List ℕ)} → Finds (read s) (λ r. Kept read odd b wrap s r r (text r)) → tabled s ≡ false →
      Chosen read odd b wrap → ((r : R) → text r ≡ record_text (wrap r) (table_beside s) s) →
      ((r : R) → read_again s (wrap r) ≡ wrap r) → Finds (bind (read s) (λ r. ok (wrap r))) (TextSettles s)
  kept_line f n c t a =
      finds_bind f (λ r k. finds_ok (λ _ x p. kept_settles c (a r) (λ y. never y n) k x (p ∙ sym (t r))))

  -- I and J
  table_line : (b : ℕ) (w : Record) → byte 0 s ≡ b → texts_of w ≡ [] → Chosen read_table table_odd b (λ _. w) →
      table_text b (table_beside s) ≡ record_text w (table_beside s) s → read_again s w ≡ w →
      Finds (bind (read_table s) (λ _. ok w)) (TextSettles s)
  unfolding table_read table_left bind
  table_line b w h none c t a =
      finds_bind finds_itself (λ ds e.
      finds_ok (λ _ x p. kept_settles c a (λ _ y q. rw (q, e)) ((table_kept s b w h none).found ds e) x
      (p ∙ sym t ∙ ap (λ m. table_text b (table_left m)) e)))

  -- a kind that always comes back
  plain_line : {R : Type 0} (m : Res R) (wrap : R → Record) → line_odd s ≡ false →
      ((r : R) → read_again s (wrap r) ≡ wrap r) → Finds (bind m (λ r. ok (wrap r))) (TextSettles s)
  plain_line m wrap o a = finds_bind finds_any (λ r _. finds_ok (plain_settles o (a r)))

  kind_settles : unknown_maker s ≡ false → Finds (read_kind (kind_of (byte 0 s)) s) (TextSettles s)
  unfolding kind_of read_kind line_odd record_text read_again texts_of pick ◌=?◌ ◌∨?◌
  kind_settles u =
      begins s 65 (λ h. rw h (finds_bind (a_settles h u) (λ r k. finds_ok k))) (λ na.
      begins s 66 (λ h. rw h (kept_line (b_kept s) (rw h) (chosen (omega arith) (λ x. refl) (λ x b. rw b)) (λ r. refl)
      (λ r. refl))) (λ nb.
      begins s 67 (λ h. rw h (c_settles h)) (λ nc.
      begins s 68 (λ h. rw h (plain_line (read_d s) Record.D (rw h) (λ r. refl))) (λ nd.
      begins s 69 (λ h. rw h (kept_line (e_kept s) (rw h) (chosen (omega arith) (λ x. refl) (λ x b. rw b)) (λ r. refl)
      (λ r. refl))) (λ ne.
      begins s 70 (λ h. rw h (kept_line (f_kept s) (rw h) (chosen (omega arith) (λ x. refl) (λ x b. rw b)) (λ r. refl)
      (λ r. refl))) (λ nf.
      begins s 71 (λ h. rw h (plain_line (read_g s) Record.G (rw h) (λ r. refl))) (λ ng.
      begins s 72 (λ h. rw h (plain_line (read_h s) Record.H (rw h) (λ r. refl))) (λ nh.
      begins s 73 (λ h. rw h (table_line 73 Record.I h refl (chosen (omega arith) (λ x. refl) (λ x b. rw b)) refl refl))
      (λ ni.
      begins s 74 (λ h. rw h (table_line 74 Record.J h refl (chosen (omega arith) (λ x. refl) (λ x b. rw b)) refl refl))
      (λ nj.
      begins s 75 (λ h. rw h (kept_line (k_kept s) (rw h) (chosen (omega arith) (λ x. refl) (λ x b. rw b)) (λ r. refl)
      (λ r. refl))) (λ nk.
      begins s 76 (λ h. rw h (plain_line (read_l s) Record.L (rw h) (λ r. refl))) (λ nl.
      rw (na, nb, nc, nd, ne, nf, ng, nh, ni, nj, nk, nl)
      (finds_ok (plain_settles (rw (na, nb, nc, ne, nf, ni, nj, nk)) refl))))))))))))))

  line_settles : unknown_maker s ≡ false → Finds (read_line_of s) (TextSettles s)
  unfolding read_line_of
  line_settles u = finds_guard _ (λ _. kind_settles u)

-- ---- the programs

-- what was written is the text
written_text : {m : Res (List ℕ)} {b b' x : List ℕ} {p : Res ℕ} {n : ℕ} → Prints m b b' p → p ≡ ok n →
    m ≡ ok x → take n b' ≡ x
unfolding answer_to left_by bind guard pick
written_text {b} {x} {n} w e t =
    by_test (length x ≤? length b)
    (λ h. let k : ok n ≡ ok (length x) = rw (e, t, h) at w.answer in
    let same : n ≡ length x = cc in
    rw (w.left, t, h) (take_at x (drop (length x) b) n (sym same)))
    (λ h. let k : ok n ≡ no NoRoom = rw (e, t, h) at w.answer in
    let z : ◌≡◌ {A = ℕ} 0 1 = cc in absurd (omega arith))

pub printing_settles : PrintingSettles
printing_settles s r t k u b b' p n w e =
    let found = (comes_back s r t k).printed_accepted in
    let read : read_line_of s ≡ ok r = sym k.answer in
    rw (written_text w e found.1)
    ((line_settles s u).found r read read found.0
    (sym found.1 ∙ ap (λ y. record_text r y s) k.table))
