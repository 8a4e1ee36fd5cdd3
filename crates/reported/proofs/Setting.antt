-- An I or a J line, read once for its answer and for its table.
use Rattle.text.specs.Prelude.{ℕ, code, ◌≡◌, Bool, true, false, List, Res, ok, no, bind, pick, ◌=?◌, ◌∨?◌, byte, begins}
use Rattle.text.proofs.Prelude.{refl, ap, ◌∙◌, pass, is=, both, by_test}
use Rattle.extension.specs.declared.Extension.{Extension}
use Rattle.table.specs.Table.{read_table, table_read}
use Rattle.table.specs.declared.Table.{Table}
use Rattle.records.specs.Record.{kind_of, read_kind, read_line_of, accepted_as, answered, record_fix, answer_fix}
use Rattle.records.specs.declared.Record.{Record}
use Rattle.held.specs.Held.{set_by_of}
use Rattle.reported.specs.Glance.{plain_glance, glance_at, glance_of, table_number}
use Rattle.reported.specs.End.{sets_table_of, left_of}

-- the number of what was read is the answer's
i_number : (m : Res (List Extension)) →
    plain_glance (table_number (table_read m)) ≡ glance_of (bind m (λ ds. ok Record.I))
unfolding table_read table_number glance_of glance_at answered answer_fix accepted_as record_fix bind
i_number (ok ds) = refl
i_number (no n) = refl

j_number : (m : Res (List Extension)) →
    plain_glance (table_number (table_read m)) ≡ glance_of (bind m (λ ds. ok Record.J))
unfolding table_read table_number glance_of glance_at answered answer_fix accepted_as record_fix bind
j_number (ok ds) = refl
j_number (no n) = refl

-- what is held of a line that was read so
kept : (m : Res (List Extension)) → left_of (table_read m) ≡ set_by_of m
unfolding table_read set_by_of left_of bind
kept (ok ds) = refl
kept (no n) = refl

-- of two letters it is the second where it is not the first
other_letter : {a b : Bool} → (a ∨? b) ≡ true → a ≡ false → b ≡ true
unfolding ◌∨?◌ pick
other_letter h n = rw n at h

module _ (s : List ℕ) where
  -- a line that begins with I is read as one
  i_read : begins (code "I") s ≡ true → bind (read_table s) (λ ds. ok Record.I) ≡ read_line_of s
  unfolding begins read_line_of kind_of read_kind pick ◌=?◌
  i_read h = let b : byte 0 s ≡ code "I" = is= (both h).1 in pass _ (both h).0 (rw b)

  -- and so is one that begins with J
  j_read : begins (code "J") s ≡ true → bind (read_table s) (λ ds. ok Record.J) ≡ read_line_of s
  unfolding begins read_line_of kind_of read_kind pick ◌=?◌
  j_read h = let b : byte 0 s ≡ code "J" = is= (both h).1 in pass _ (both h).0 (rw b)

  -- a line that sets a table and is no I line is a J line
  pub is_j : sets_table_of s ≡ true → begins (code "I") s ≡ false → begins (code "J") s ≡ true
  unfolding sets_table_of
  is_j h n = other_letter h n

  module _ {r : Res Table} (read : r ≡ table_read (read_table s)) where
    -- the glance at such a line
    pub table_seen : sets_table_of s ≡ true → plain_glance (table_number r) ≡ glance_of (read_line_of s)
    table_seen h =
        by_test (begins (code "I") s)
        (λ i. rw read (i_number (read_table s) ∙ ap glance_of (i_read i)))
        (λ n. rw read (j_number (read_table s) ∙ ap glance_of (j_read (is_j h n))))

    -- and what it leaves of its letter
    pub table_kept : left_of r ≡ set_by_of (read_table s)
    table_kept = rw read (kept (read_table s))
