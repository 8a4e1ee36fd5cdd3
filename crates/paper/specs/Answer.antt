-- What the paper's program writes.
use Rattle.std.specs.Prelude.{◌≤◌, ◌≡◌, Result, Ok, Err}
use Rattle.text.specs.Prelude.{ℕ, List, [], length, take}
use Rattle.listing_text.specs.Paper.{paper_text}
use Rattle.files.specs.declared.input.{Filled.Filled, NotRead.NotRead}

-- The text of all that was read; bytes that are full are more than a log may have; where a read failed, nothing.
abbrev pub written_answer : Result Filled NotRead → List ℕ → List ℕ
written_answer (Ok (Filled.Ended n)) log = paper_text (take n log)
written_answer (Ok Filled.Full) log = paper_text log
written_answer (Err e) log = []

-- The first r of some bytes are the text.
abbrev pub Begins : ℕ → List ℕ → List ℕ → Type 0
Begins r b t = (r ≤ length b) × (take r b ≡ t)
