-- Words of six bytes each, and that the log's own index answers them as the plain walk does.
use Rattle.text.specs.Prelude.{ℕ, zero, suc, ◌+◌, ◌*◌, ◌/◌, ◌≤◌, ◌<◌, ◌≡◌, List, ◌∷◌, length, take, drop}
use Rattle.text.proofs.Prelude.{arith, refl, ap, ◌∙◌, drop-drop}
use Rattle.text.proofs.Finds.{Finds, finds_any, finds_bind, finds_guard}
use Rattle.text.specs.declared.refusal.Refusal.TheVariants.{NotAscii, WrongLength}
use Rattle.field.specs.Field.{sized, ascii_in, ascii, field}
use Rattle.three.specs.Three.{read_three_of}
use Rattle.time.specs.Time.{read_time_of}
use Rattle.hours.specs.declared.Index.{Index}
use Rattle.moment.specs.Moment.{index_of, by_index}
use Rattle.moment.proofs.Laws.{hours_fit, moments}
use Rattle.moment_text.specs.Answers.{moment_line, sixes, words_in, answer_line}

-- ---- words

length_sixes : (k : ℕ) (s : List ℕ) → length (sixes k s) ≡ k
unfolding sixes
length_sixes zero s = refl
length_sixes (suc k) s = ap suc (length_sixes k (drop 6 s))

pub length_words : (s : List ℕ) → length (words_in s) ≡ length s / 6
unfolding words_in
length_words s = length_sixes (length s / 6) s

six_at : (k : ℕ) (s : List ℕ) (i : ℕ) → i < k →
    drop i (sixes k s) ≡ take 6 (drop (6 * i) s) ∷ drop (suc i) (sixes k s)
unfolding sixes
six_at zero s i h = absurd (omega arith)
six_at (suc k) s zero h = refl
six_at (suc k) s (suc i) h =
    let e : 6 + 6 * i ≡ 6 * suc i = omega arith in
    six_at k (drop 6 s) i (omega arith) ∙ rw (drop-drop (6 * i) 6 s, e)

-- the i-th is the i-th six of bytes
pub word_at : (s : List ℕ) (i : ℕ) → i < length s / 6 →
    drop i (words_in s) ≡ take 6 (drop (6 * i) s) ∷ drop (suc i) (words_in s)
unfolding words_in
word_at s i h = six_at (length s / 6) s i h

-- ---- answers

-- the hours of a time that was read are at most 24
hours_read : (word : List ℕ) → Finds (read_time_of word) (λ t. t.hours ≤ 24)
unfolding read_time_of field sized ascii ascii_in read_three_of
hours_read word =
    finds_guard WrongLength (λ e. finds_guard NotAscii (λ f.
    finds_bind finds_any (λ h u. finds_bind finds_any (λ m v. finds_bind finds_any (λ s w. hours_fit h m s)))))

pub own_answer : (log word : List ℕ) {i : Index} → i ≡ index_of log →
    moment_line word (by_index i log (read_time_of word)) ≡ answer_line log word
unfolding answer_line
own_answer log word e = rw e (ap (moment_line word) (moments.own_hour log (read_time_of word) (hours_read word).found))
