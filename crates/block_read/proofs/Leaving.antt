-- A reader leaves no more of a text than there was.
use Rattle.text.specs.Prelude.{ℕ, zero, suc, ◌+◌, ◌≤◌, Bool, true, false, List, length, drop, pick, ◌≤?◌, ◌=?◌, byte}
use Rattle.text.proofs.Prelude.{arith, length-drop}
use Rattle.text.specs.Spelt.{spelt}
use Rattle.sheet_text.specs.Sheet.{none_line}
use Rattle.block_read.specs.Read.{Read, got, wrong, next, starts_with, front_from, read_words_of, read_number_of, read_minus}
use Rattle.block_read.specs.Read.{read_height_of, read_line_of}
use Rattle.block_read.specs.Block.{read_count, read_answer_of, read_answers_of, read_spot_of, read_pressure, read_gps, read_range}
use Rattle.block_read.specs.Block.{read_time_of, read_times_of, read_all}

abbrev pub rest_of : {A : Type 0} → Read A → List ℕ
rest_of (got a r) = r
rest_of (wrong r) = r

pub record Leaves {A : Type 0} (n : ℕ) (x : Read A) : Type 0 where
  pub most : length (rest_of x) ≤ n

pub leaves_next : {A B : Type 0} {n : ℕ} (x : Read A) (f : A → List ℕ → Read B) → Leaves n x →
    ((a : A) (r : List ℕ) → length r ≤ n → Leaves n (f a r)) → Leaves n (next x f)
unfolding next
leaves_next (got a r) f h k = k a r h.most
leaves_next (wrong r) f h k = record { most = h.most }

pub leaves_pick : {A : Type 0} {n : ℕ} (t : Bool) {x y : Read A} → Leaves n x → Leaves n y → Leaves n (pick t x y)
unfolding pick
leaves_pick true h k = h
leaves_pick false h k = k

pub leaves_got : {A : Type 0} {n : ℕ} (a : A) (r : List ℕ) → length r ≤ n → Leaves n (got a r)
leaves_got a r h = record { most = h }

pub leaves_wrong : {A : Type 0} {n : ℕ} (r : List ℕ) → length r ≤ n → Leaves {A = A} n (wrong r)
leaves_wrong r h = record { most = h }

-- what is dropped does not count
dropped : {n : ℕ} (k : ℕ) (s : List ℕ) → length s ≤ n → length (drop k s) ≤ n
dropped k s h = omega (arith, length-drop k s, h)

module _ {n : ℕ} where
  leaves_words : (ws s : List ℕ) → length s ≤ n → Leaves n (read_words_of ws s)
  unfolding read_words_of
  leaves_words ws s h = leaves_pick (starts_with ws s) (leaves_got _ _ (dropped (length ws) s h)) (leaves_wrong s h)

  leaves_number : (most c : ℕ) (s : List ℕ) → length s ≤ n → Leaves n (read_number_of most c s)
  unfolding read_number_of
  leaves_number most c s h =
      leaves_pick (front_from 0 s ≤? most)
      (leaves_next (read_words_of _ s) _ (leaves_words _ s h) (λ _ r. leaves_got _ r))
      (leaves_wrong s h)

  leaves_minus : (s : List ℕ) → length s ≤ n → Leaves n (read_minus s)
  unfolding read_minus
  leaves_minus s h =
      leaves_next (read_number_of 32768 32 (drop 1 s)) _ (leaves_number _ _ _ (dropped 1 s h)) (λ v r k.
      leaves_pick (v =? 0) (leaves_wrong _ (dropped 1 s h)) (leaves_got _ r k))

  leaves_height : (s : List ℕ) → length s ≤ n → Leaves n (read_height_of s)
  unfolding read_height_of
  leaves_height s h =
      leaves_pick (byte 0 s =? 45) (leaves_minus s h)
      (leaves_next (read_number_of 32767 32 s) _ (leaves_number _ _ s h) (λ v r. leaves_got _ r))

  leaves_line : (ws s : List ℕ) → length s ≤ n → Leaves n (read_line_of ws s)
  unfolding read_line_of
  leaves_line ws s h = leaves_next (read_words_of ws s) _ (leaves_words ws s h) (λ _ r. leaves_number _ _ r)

  leaves_count : (s : List ℕ) → length s ≤ n → Leaves n (read_count s)
  unfolding read_count
  leaves_count s h =
      leaves_next (read_number_of _ _ s) _ (leaves_number _ _ s h) (λ v r k.
      leaves_pick (v =? 0) (leaves_wrong s h) (leaves_got _ r k))

  leaves_answer : (i : ℕ) (s : List ℕ) → length s ≤ n → Leaves n (read_answer_of i s)
  unfolding read_answer_of
  leaves_answer i s h =
      leaves_pick (starts_with (spelt "answer ") s)
      (leaves_next (read_number_of _ _ (drop 7 s)) _ (leaves_number _ _ _ (dropped 7 s h)) (λ j r k.
      leaves_pick (j =? i) (leaves_count r k) (leaves_got _ s h)))
      (leaves_got _ s h)

  leaves_answers : (k i : ℕ) (s : List ℕ) → length s ≤ n → Leaves n (read_answers_of k i s)
  unfolding read_answers_of
  leaves_answers zero i s h = leaves_got _ s h
  leaves_answers (suc k) i s h =
      leaves_next (read_answer_of i s) _ (leaves_answer i s h) (λ m r h'.
      leaves_next (read_answers_of k (i + 1) r) _ (leaves_answers k (i + 1) r h') (λ ms q. leaves_got _ q))

  leaves_spot : (ws s : List ℕ) → length s ≤ n → Leaves n (read_spot_of ws s)
  unfolding read_spot_of
  leaves_spot ws s h =
      leaves_next (read_words_of ws s) _ (leaves_words ws s h) (λ _ r h₁.
      leaves_next (read_height_of r) _ (leaves_height r h₁) (λ z q h₂.
      leaves_next (read_words_of _ q) _ (leaves_words _ q h₂) (λ _ p h₃.
      leaves_next (read_number_of _ _ p) _ (leaves_number _ _ p h₃) (λ log o h₄.
      leaves_next (read_number_of _ _ o) _ (leaves_number _ _ o h₄) (λ place e. leaves_got _ e)))))

  leaves_pressure : (ws s : List ℕ) → length s ≤ n → Leaves n (read_pressure ws s)
  unfolding read_pressure
  leaves_pressure ws s h = leaves_next (read_spot_of ws s) _ (leaves_spot ws s h) (λ x r. leaves_got _ r)

  leaves_gps : (ws s : List ℕ) → length s ≤ n → Leaves n (read_gps ws s)
  unfolding read_gps
  leaves_gps ws s h = leaves_next (read_spot_of ws s) _ (leaves_spot ws s h) (λ x r. leaves_got _ r)

  leaves_range : {P : Type 0} (line : List ℕ → List ℕ → Read P) →
      ((ws s : List ℕ) → length s ≤ n → Leaves n (line ws s)) → (datum s : List ℕ) → length s ≤ n →
      Leaves n (read_range line datum s)
  unfolding read_range
  leaves_range line of datum s h =
      leaves_pick (starts_with (none_line datum) s) (leaves_got _ _ (dropped (length (none_line datum)) s h))
      (leaves_next (line _ s) _ (of _ s h) (λ high r h₁.
      leaves_next (line _ r) _ (of _ r h₁) (λ low q. leaves_got _ q)))

  leaves_time : (ws s : List ℕ) → length s ≤ n → Leaves n (read_time_of ws s)
  unfolding read_time_of
  leaves_time ws s h = leaves_next (read_words_of ws s) _ (leaves_words ws s h) (λ _ r. leaves_number _ _ r)

  leaves_times : (s : List ℕ) → length s ≤ n → Leaves n (read_times_of s)
  unfolding read_times_of
  leaves_times s h =
      leaves_pick (starts_with (none_line (spelt "time")) s)
      (leaves_got _ _ (dropped (length (none_line (spelt "time"))) s h))
      (leaves_next (read_time_of _ s) _ (leaves_time _ s h) (λ early r h₁.
      leaves_next (read_time_of _ r) _ (leaves_time _ r h₁) (λ late q. leaves_got _ q)))

  pub leaves_all : (s : List ℕ) → length s ≤ n → Leaves n (read_all s)
  unfolding read_all
  leaves_all s h =
      leaves_next (read_line_of _ s) _ (leaves_line _ s h) (λ logs s₁ h₁.
      leaves_next (read_line_of _ s₁) _ (leaves_line _ s₁ h₁) (λ lines s₂ h₂.
      leaves_next (read_answers_of _ _ s₂) _ (leaves_answers _ _ s₂ h₂) (λ answers s₃ h₃.
      leaves_next (read_line_of _ s₃) _ (leaves_line _ s₃ h₃) (λ fixes s₄ h₄.
      leaves_next (read_range read_pressure _ s₄) _ (leaves_range read_pressure leaves_pressure _ s₄ h₄) (λ p s₅ h₅.
      leaves_next (read_range read_gps _ s₅) _ (leaves_range read_gps leaves_gps _ s₅ h₅) (λ g s₆ h₆.
      leaves_next (read_times_of s₆) _ (leaves_times s₆ h₆) (λ times s₇. leaves_got _ s₇)))))))
