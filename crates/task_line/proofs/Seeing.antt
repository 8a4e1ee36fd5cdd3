-- The lines of a log from a place on: the one that is seen there, and those from the next place on.
use Rattle.records.specs.declared.Record.{Record}
use Rattle.text.specs.Prelude.{Res}
use Rattle.text.specs.Prelude.{ℕ, ◌+◌, ◌<◌, ◌≡◌, List, [], ◌∷◌, map, length, drop}
use mathlib.Core.Path.{refl, ap, ◌∙◌}
use Rattle.part.specs.Part.{part_bytes}
use Rattle.records.specs.Record.{read_line_of}
use Rattle.igc_log.specs.Line.{line_text}
use Rattle.igc_log.specs.Log.{chunks, read_from, readings}
use Rattle.igc_log.specs.declared.Cut.{Cut}
use Rattle.ahead.specs.Ahead.{Ahead}
use Rattle.held.specs.Tables.{tables_after}
use Rattle.held.specs.declared.tables.Tables.{Tables}
use Rattle.walk.specs.Readings.{LineReading, reader}
use Rattle.task_line.specs.Lines.{TaskLine, answer_kind, line_of, task_lines, seen_at, Sees}
use Rattle.task_line.specs.declared.{Kind.Kind}

abbrev pub seen : LineReading → TaskLine
seen x = line_of (answer_kind x.answer) x.line

-- a task looks at no line's number, at no place and at no table
pub alike : (n n' p p' : ℕ) (t t' : Tables) (cs : List (List ℕ)) →
    map seen (read_from reader n p t cs) ≡ map seen (read_from reader n' p' t' cs)
unfolding read_from
alike n n' p p' t t' [] = refl
alike n n' p p' t t' (c ∷ cs) =
    rw (alike (n + 1) (n' + 1) (p + length c) (p' + length c) (tables_after t (line_text c))
    (tables_after t' (line_text c)) cs)

-- a line and then others are left
one_left : (s r : List ℕ) {c : List ℕ} → chunks s ≡ c ∷ chunks r →
    task_lines s ≡ line_of (answer_kind (read_line_of (line_text c))) (line_text c) ∷ task_lines r
unfolding task_lines readings read_from
one_left s r {c} e =
    rw e (ap (λ ls. line_of (answer_kind (read_line_of (line_text c))) (line_text c) ∷ ls)
    (alike (0 + 1) 0 (0 + length c) 0 (tables_after reader.start (line_text c)) reader.start (chunks r)))

module _ (s : List ℕ) (at : ℕ) {c : Cut} {l : List ℕ} {k : Kind} (m : (Res Record)) (a : Ahead s at c)
    (v : l ≡ part_bytes c.line s) (r : m ≡ read_line_of l) (i : k ≡ answer_kind m) where
  kind_is : k ≡ answer_kind (read_line_of (part_bytes c.line s))
  kind_is = i ∙ rw (r, v)

  first_seen : at < length s →
      task_lines (drop at s) ≡ line_of k (part_bytes c.line s) ∷ task_lines (drop c.next s)
  first_seen h = rw (kind_is, a.text h) (one_left _ _ (a.first h))

  pub sees : Sees s at (record { kind = k; line = c.line; next = c.next })
  unfolding seen_at
  sees = record {
    seen = rw (kind_is, a.cut);
    first = first_seen;
    next = a.next;
  }
