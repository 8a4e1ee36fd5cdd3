-- The set of an accepted F line has the numbers that the line lists, and counts the different ones.
use Rattle.text.specs.Prelude.{List, ℕ, length, cut, columns}
use Rattle.text.proofs.Finds.{Finds, finds_any, finds_ok, finds_bind, finds_moved, finds_guard}
use Rattle.text.proofs.Lines.{cut_rest}
use Rattle.field.specs.Field.{ascii, ascii_in}
use Rattle.satellites.specs.Satellites.{read_satellites}
use Rattle.satellites.proofs.Reading.{Tells, read_tells}
use Rattle.f_record.specs.FRecord.{read_heard, read_f}
use Rattle.f_record.specs.Heard.{listed, Heard, EveryHeard}

list_read : (s : List ℕ) → Finds (columns 7 (length s) read_satellites s) (Tells (listed s))
unfolding columns cut
list_read s = finds_moved 7 (rw (cut_rest s 7) (read_tells _))

heard : (s : List ℕ) → Finds (read_f s) (Heard s)
unfolding read_f ascii ascii_in read_heard
heard s =
    finds_guard _ (λ _. finds_guard _ (λ _. finds_guard _ (λ _.
    finds_bind finds_any (λ _ _.
    finds_bind (list_read s) (λ _ t. finds_ok (record { has = t.has; count = t.count }))))))

pub every_heard : EveryHeard
every_heard s r e = (heard s).found r e
