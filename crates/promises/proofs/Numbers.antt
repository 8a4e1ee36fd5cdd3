-- Numbers come back: what is read from w columns prints in w columns, and as it was written exactly where it was
-- written with no plus and is not minus zero.
use Rattle.text.specs.Prelude.{ℕ, suc, ◌+◌, ◌-◌, ◌≤◌, ◌≡◌, false, List, length, ℤ, pos, negsuc, pick, ◌=?◌, ◌∧?◌, cut}
use Rattle.text.specs.Prelude.{columns, read_nat_of, read_int_of, zeros, plus, padded, signed}
use Rattle.text.proofs.Prelude.{arith, refl, sym, ap, ◌∙◌, fails, neither, by_test}
use Rattle.text.specs.Number.{minus_zero}
use Rattle.text.proofs.Finds.{Finds}
use Rattle.text.proofs.Decimal.{value_padded, zeros_value}
use Rattle.text.proofs.RoundTrip.{first_padded, padded_read, signed_read, nat_columns, int_columns}
use Rattle.text.proofs.Lines.{cut_length}
use Rattle.promises.specs.Odd.{signed_odd}
use Rattle.promises.proofs.Columns.{finds_columns}
use Rattle.promises.proofs.Copies.{Copy, neither_odd}

-- ---- a printed number is not odd

pub not_zeros : (w n : ℕ) → zeros (padded w (suc n)) ≡ false
not_zeros w n = by_test (zeros (padded w (suc n)))
    (λ e. absurd (omega (arith, zeros_value (padded w (suc n)) e, value_padded w (suc n)))) (λ e. e)

pub plain_padded : (w n : ℕ) → plus (padded w n) ≡ false
unfolding plus
plain_padded w n = first_padded w n 43 (omega arith)

pub plain_signed : (w : ℕ) (z : ℤ) → signed_odd (signed w z) ≡ false
unfolding signed signed_odd plus minus_zero ◌=?◌ ◌∧?◌ pick
plain_signed w (pos n) = neither_odd (plain_padded w n) (fails _ (first_padded w n 45 (omega arith)))
plain_signed w (negsuc n) = neither_odd refl (not_zeros (w - 1) n)

-- ---- in columns of a line

module _ (a w most : ℕ) (s : List ℕ) (inside : a + w ≤ length s) where
  abbrev c : List ℕ
  c = cut a (a + w) s

  pub nat_copy : Finds (columns a (a + w) (read_nat_of most) s) (λ v. Copy (plus c) c (padded w v))
  nat_copy =
      let l = cut_length a w s inside in
      finds_columns _ s a (a + w) (record {
        found = λ v e. record {
          long = (nat_columns most w c l).found v e ∙ sym l;
          same = λ p. (padded_read most w c l p).found v e;
          only = λ q. ap plus (sym q) ∙ plain_padded w v;
        };
      })

  pub int_copy : Finds (columns a (a + w) (read_int_of most) s) (λ z. Copy (signed_odd c) c (signed w z))
  unfolding signed_odd
  int_copy =
      let l = cut_length a w s inside in
      finds_columns _ s a (a + w) (record {
        found = λ z e. record {
          long = (int_columns most w c l).found z e ∙ sym l;
          same = λ p. let n = neither p in (signed_read most w c l n.0 n.1).found z e;
          only = λ q. ap signed_odd (sym q) ∙ plain_signed w z;
        };
      })
