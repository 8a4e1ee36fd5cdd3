-- Times and dates come back.
use Rattle.text.specs.Prelude.{ℕ, ◌≡◌, List, length, Res}
use Rattle.text.proofs.Prelude.{arith, refl}
use Rattle.text.proofs.Finds.{Finds, finds_ok, finds_bind, finds_guard}
use Rattle.three.specs.Three.{read_three_of, three_text}
use Rattle.time.specs.Time.{time_of, read_time_of, time_text}
use Rattle.date.specs.Date.{date_of, read_date, date_text}
use Rattle.promises.specs.Odd.{three_plus}
use Rattle.promises.proofs.Columns.{finds_field}
use Rattle.promises.proofs.Copies.{Copy, copy_columns, copy_last, finds_copy}
use Rattle.promises.proofs.Numbers.{nat_copy}

-- three numbers, and the text of what is made of them
three_copy : {A : Type 0} (make : ℕ → ℕ → ℕ → Res A) (text : A → List ℕ)
    → ((a b c : ℕ) → Finds (make a b c) (λ v. text v ≡ three_text a b c))
    → (s : List ℕ) → length s ≡ 6 → Finds (read_three_of make s) (λ v. Copy (three_plus s) s (text v))
unfolding read_three_of three_plus three_text
three_copy make text makes s l =
    finds_bind (nat_copy 0 2 255 s (omega arith)) (λ a ca.
    finds_bind (nat_copy 2 2 255 s (omega arith)) (λ b cb.
    finds_bind (nat_copy 4 2 255 s (omega arith)) (λ c cc.
    finds_copy text (makes a b c) (copy_columns s 0 2 ca (copy_columns s 2 2 cb (copy_last s 4 6 l cc))))))

pub time_makes : (h m s : ℕ) → Finds (time_of h m s) (λ t. time_text t ≡ three_text h m s)
unfolding time_of time_text
time_makes h m s = finds_guard _ (λ _. finds_ok refl)

pub date_makes : (d m y : ℕ) → Finds (date_of d m y) (λ t. date_text t ≡ three_text d m y)
unfolding date_of date_text
date_makes d m y = finds_guard _ (λ _. finds_ok refl)

pub time_copy : (s : List ℕ) → Finds (read_time_of s) (λ t. Copy (three_plus s) s (time_text t))
unfolding read_time_of
time_copy s = finds_field _ s 6 (three_copy time_of time_text time_makes s)

pub date_copy : (s : List ℕ) → Finds (read_date s) (λ d. Copy (three_plus s) s (date_text d))
unfolding read_date
date_copy s = finds_field _ s 6 (three_copy date_of date_text date_makes s)
