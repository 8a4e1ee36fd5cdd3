-- Demand 3 holds for this reader: what `log` proves of any, and what it says of extension values and lookups.
use Rattle.text.specs.Prelude.{ℕ, ◌≡◌, Bool, true, false, not, List, [], ◌∷◌, ◌++◌, length, Res, ok, no, bind, pick}
use Rattle.text.specs.Prelude.{◌=?◌, ◌∨?◌, byte, begins}
use Rattle.text.proofs.Prelude.{refl, sym, ap, ◌∙◌, on, pass, first, second, is=, both, by_test}
use Rattle.table.specs.Table.{read_table}
use Rattle.extension.specs.declared.Extension.{Extension}
use Rattle.records.specs.Record.{kind_of, read_kind, read_line_of}
use Rattle.records.specs.declared.Record.{Record}
use Rattle.igc_log.specs.Line.{line_text}
use Rattle.igc_log.specs.Log.{chunks, readings}
use Rattle.igc_log.specs.Demand.{Moved, Each, some, Kept, Leaves, Turns, Replaced}
use Rattle.igc_log.proofs.Replaced.{demand_3}
use Rattle.held.specs.Held.{no_table, spoiled, set_by_of}
use Rattle.held.specs.Tables.{no_tables}
use Rattle.held.proofs.Lookups.{look_never, look_spoiled, refused_spoils}
use Rattle.walk.specs.Readings.{reader, LineReading}
use Rattle.promises.specs.Demand3.{Extended, i_on_b, j_on_k, ValuesStay, NoValues, NoneAccepted, Values, after_run}
use Rattle.promises.specs.Demand3.{Demand3}

-- ---- one letter, and the values that its lines name: they are read as tables, an accepted table is an accepted line,
-- and a fresh walk has none

module _ {R : Type 0} (E : Extended R) (leaves : (s : List ℕ) → E.named.leaves s ≡ set_by_of (read_table s))
    (line : Record)
    (accepted : (s : List ℕ) (ds : List Extension) → E.named.begins s ≡ true → read_table s ≡ ok ds →
    read_line_of s ≡ ok line)
    (fresh-none : E.named.view no_tables ≡ no_table) where
  -- the table and the text agree, so each lookup does
  values_stay : (n₁ n₂ p₁ p₂ : ℕ) (same : Bool) (xs ys : List LineReading) →
      Each reader (Moved reader n₁ n₂ p₁ p₂) xs ys →
      Kept reader E.named same xs ys → ValuesStay E same xs ys
  values_stay n₁ n₂ p₁ p₂ same [] [] m k = tt
  values_stay n₁ n₂ p₁ p₂ same [] (y ∷ ys) m k = m
  values_stay n₁ n₂ p₁ p₂ same (x ∷ xs) [] m k = m
  values_stay n₁ n₂ p₁ p₂ same (x ∷ xs) (y ∷ ys) m k = (
    (λ e r name a. rw (k.0 e, m.0.line)),
    values_stay n₁ n₂ p₁ p₂ (same ∨? E.named.begins x.line) xs ys m.1 k.1,
  )

  -- a line that is not accepted spoils the table
  spoils : (s : List ℕ) → ((r : Record) → read_line_of s ≡ ok r → ⊥) → E.named.begins s ≡ true →
      E.named.leaves s ≡ spoiled
  spoils s h b = leaves s ∙ by (read_table s) refl
    where
      by : (m : Res (List Extension)) → read_table s ≡ m → set_by_of (read_table s) ≡ spoiled
      by (ok ds) e = absurd (h line (accepted s ds b e))
      by (no n) e = refused_spoils n (read_table s) e

  all_spoil : (cs : List (List ℕ)) → NoneAccepted E cs → Leaves reader E.named spoiled cs
  all_spoil [] h = tt
  all_spoil (c ∷ cs) h = ((λ b. spoils (line_text c) (h.0 b) b), all_spoil cs h.1)

  -- where nothing or what a refused line leaves is in force, every lookup is 13 or 14
  no_values : (seen : Bool) (xs : List LineReading) → Turns reader E.named spoiled seen xs → NoValues E seen xs
  no_values seen [] h = tt
  no_values seen (x ∷ xs) h =
      let b = seen ∨? E.named.begins x.line in (
        (λ r name a. by_test b
            (λ e. look_spoiled E.base (E.rest r) (E.named.view x.held) name x.line
            (h.0 ∙ sym (first _ e refl)) ∙ ap no (first _ e refl))
            (λ e. look_never E.base (E.rest r) (E.named.view x.held) name x.line
            (h.0 ∙ sym (second _ e refl) ∙ fresh-none) ∙ ap no (second _ e refl))),
        no_values b xs h.1,
      )

  values : (pre old new post : List ℕ) → Replaced reader pre old new post → Values E pre old new post
  values pre old new post d = record {
    stay =
        values_stay (length (chunks new)) (length (chunks old)) (length new) (length old)
        (not (some reader E.named (chunks new) ∨? some reader E.named (chunks old)))
        (after_run pre new post) (after_run pre old post) d.later (d.tables E.named);
    refused = λ a b c.
        let after = all_spoil (chunks post) c in
        no_values false (readings reader (pre ++ (new ++ post)))
        (d.removed E.named spoiled (all_spoil (chunks pre) a) (all_spoil (chunks new) b) after);
  }

-- ---- both letters

-- a line that begins with the letter b, whose kind is that of a table, is accepted where its table is
table_accepted : (b : ℕ) (r : Record) (s : List ℕ) (ds : List Extension) →
    read_kind (kind_of b) s ≡ bind (read_table s) (λ _. ok r) → begins b s ≡ true → read_table s ≡ ok ds →
    read_line_of s ≡ ok r
unfolding begins read_line_of
table_accepted b r s ds k h e =
    let i : byte 0 s ≡ b = is= (both h).1 in sym (pass _ (both h).0 (rw (i, k) (on _ (sym e) refl)))

pub replaced : Demand3
unfolding kind_of read_kind pick ◌=?◌ no_tables
replaced pre old new post p o n =
    let d = demand_3 reader pre old new post p o n in
    record {
      before = d.before;
      later = d.later;
      on_b = values i_on_b (λ s. refl) Record.I (λ s ds. table_accepted 73 Record.I s ds refl) refl pre old new post d;
      on_k = values j_on_k (λ s. refl) Record.J (λ s ds. table_accepted 74 Record.J s ds refl) refl pre old new post d;
    }
