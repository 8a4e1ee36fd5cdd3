-- A text and what is printed for it, put together column by column: one law for each way of putting texts together, so
-- that a proof has the shape of its printer.
use Rattle.text.specs.Prelude.{ℕ, ◌+◌, ◌<◌, ◌≡◌, Bool, false, List, [], ◌∷◌, ◌++◌, length, take, drop, Res, pick, ◌∨?◌}
use Rattle.text.specs.Prelude.{byte, cut}
use Rattle.text.proofs.Prelude.{arith, refl, sym, ap, ◌∙◌, length-append, take_at, neither}
use lib.Seq.{drop_at}
use Rattle.text.proofs.Finds.{Finds, finds_map}
use Rattle.promises.proofs.Columns.{cut_joined, joined_byte, to_end}

-- t is printed for the text s: it has the length of s, and is s itself exactly where s is not odd
pub record Copy (odd : Bool) (s t : List ℕ) : Type 0 where
  pub long : length t ≡ length s
  pub same : odd ≡ false → t ≡ s
  pub only : t ≡ s → odd ≡ false

pub neither_odd : {a b : Bool} → a ≡ false → b ≡ false → (a ∨? b) ≡ false
unfolding ◌∨?◌ pick
neither_odd p q = rw (p, q)

-- a text that stays as it is
pub copy_itself : (s : List ℕ) → Copy false s s
copy_itself s = record { long = refl; same = λ _. refl; only = λ _. refl }

-- one text behind the other: the lengths tell where the first ends
pub copy_append : {o p : Bool} {s t u v : List ℕ} → Copy o s t → Copy p u v → Copy (o ∨? p) (s ++ u) (t ++ v)
copy_append {s} {t} {u} {v} c d = record {
  long = simp length-append (omega (arith, c.long, d.long));
  same = λ e. let n = neither e in rw (c.same n.0, d.same n.1);
  only = λ e.
      neither_odd
      (c.only (sym (take_at t v (length s) c.long) ∙ ap (take (length s)) e ∙ take_at s u (length s) refl))
      (d.only (sym (drop_at t v (length s) c.long) ∙ ap (drop (length s)) e ∙ drop_at s u (length s) refl));
}

-- ---- all columns from a on

module _ (s : List ℕ) (a : ℕ) {o : Bool} {t : List ℕ} where
  -- w columns, and then those behind them
  pub copy_columns : (w : ℕ) {p : Bool} {u : List ℕ} → Copy o (cut a (a + w) s) t → Copy p (drop (a + w) s) u →
      Copy (o ∨? p) (drop a s) (t ++ u)
  copy_columns w c d = rw cut_joined at (copy_append c d)

  -- w columns, and the rest as it stands
  pub copy_rest : (w : ℕ) → Copy o (cut a (a + w) s) t → Copy o (drop a s) (t ++ drop (a + w) s)
  copy_rest w c = let d = copy_columns w c (copy_itself (drop (a + w) s)) in
      record { long = d.long; same = λ e. d.same (neither_odd e refl); only = λ e. (neither (d.only e)).0 }

  -- the last columns
  pub copy_last : (b : ℕ) → length s ≡ b → Copy o (cut a b s) t → Copy o (drop a s) t
  copy_last b l c = rw to_end at c

  -- a letter that stays, and then the columns behind it
  pub copy_letter : (l : ℕ) → a < length s → l ≡ byte a s → Copy o (drop (a + 1) s) t → Copy o (drop a s)
      ((l ∷ []) ++ t)
  unfolding ◌∨?◌ pick
  copy_letter l h e c = let j : (l ∷ []) ++ drop (a + 1) s ≡ drop a s = rw e (joined_byte a s h) in
      rw j at (copy_append (copy_itself (l ∷ [])) c)

-- whatever is found has the text u, and u is printed for s
pub finds_copy : {A : Type 0} {m : Res A} (text : A → List ℕ) {o : Bool} {s u : List ℕ} → Finds m (λ v. text v ≡ u) →
    Copy o s u → Finds m (λ v. Copy o s (text v))
finds_copy text f c = finds_map f (λ v e. rw e c)
