-- Lent bytes that are filled by calls of `read`. Which bytes these bring no contract says.
use Rattle.std.specs.Prelude.{◌+◌, ◌≤◌, ◌<◌, ◌≡◌, Option, Result, Ok, Err}
use Rattle.text.specs.Prelude.{ℕ, code, Bool, List, length, take, ◌=?◌, ◌∧?◌, byte}
use Rattle.files.specs.Call.{NoMoreThan}
use Rattle.files.specs.declared.input.{Filled.Filled, Came.Came, NotRead.NotRead}

-- The name that stands for standard input.
unfoldable pub is_dash_of : List ℕ → Bool
is_dash_of s = (length s =? 1) ∧? (byte 0 s =? code "-")

-- The first `at` of the lent bytes stay.
pub record CameBehind (at : ℕ) (b b' : List ℕ) (r : Result (Option ℕ) NotRead) : Type 0 where
  pub long : length b' ≡ length b
  pub front : take at b' ≡ take at b
  pub room : NoMoreThan at b r

-- Where the input ended is inside.
abbrev pub Within : Result Filled NotRead → List ℕ → Type 0
Within (Ok (Filled.Ended n)) b = n ≤ length b
Within (Ok Filled.Full) b = Unit
Within (Err e) b = Unit

-- Where the input ended, that is behind the first bytes and inside.
abbrev pub Ends : ℕ → List ℕ → Result Filled NotRead → Type 0
Ends from b (Ok (Filled.Ended n)) = (from ≤ n) × (n ≤ length b)
Ends from b (Ok Filled.Full) = Unit
Ends from b (Err e) = Unit

-- The first `from` of the lent bytes stay.
pub record FilledBehind (from : ℕ) (b b' : List ℕ) (r : Result Filled NotRead) : Type 0 where
  pub long : length b' ≡ length b
  pub front : take from b' ≡ take from b
  pub inside : Ends from b r

-- Bytes that came are one or more and have room behind the first ones, and so would any where the input ended; where
-- none have none came.
abbrev pub Behind : ℕ → List ℕ → Result Came NotRead → Type 0
Behind from b (Ok (Came.Bytes n)) = (0 < n) × (from + n ≤ length b)
Behind from b (Ok Came.Ended) = from < length b
Behind from b (Ok Came.NoRoom) = length b ≤ from
Behind from b (Err e) = Unit

-- The first `from` of the lent bytes stay.
pub record MoreBehind (from : ℕ) (b b' : List ℕ) (r : Result Came NotRead) : Type 0 where
  pub long : length b' ≡ length b
  pub front : take from b' ≡ take from b
  pub inside : Behind from b r
