-- What the program writes, by how far the bytes for the log were filled.
use Rattle.std.specs.Prelude.{Result, Ok, Err}
use Rattle.text.specs.Prelude.{ℕ, Bool, true, false, List, [], take}
use Rattle.files.specs.declared.{input.Filled.Filled, input.NotRead.NotRead}
use Rattle.moment_text.specs.Answers.{moments_text}

-- The log was read to its end: it did not fill all bytes, and no read failed.
abbrev pub was_read_of : Result Filled NotRead → Bool
was_read_of (Ok (Filled.Ended n)) = true
was_read_of (Ok Filled.Full) = false
was_read_of (Err e) = false

-- The answers of a log that was read to its end; a log that filled them all, or could not be read, has none.
abbrev pub answers_of : Result Filled NotRead → List ℕ → List ℕ → List ℕ
answers_of (Ok (Filled.Ended n)) log times = moments_text (take n log) times
answers_of (Ok Filled.Full) log times = []
answers_of (Err e) log times = []
