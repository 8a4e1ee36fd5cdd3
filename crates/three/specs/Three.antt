-- What times and dates share: three numbers of two characters each.
use Rattle.std.specs.Prelude.{◌++◌}
use Rattle.text.specs.Prelude.{ℕ, List, Res, ok, bind, columns, read_nat_of, padded}
use Rattle.three.specs.declared.{Three.Three}

-- Three numbers one after the other, all read before anything is made of them.
unfoldable pub read_three_of : {A : Type 0} → (ℕ → ℕ → ℕ → Res A) → List ℕ → Res A
read_three_of make s =
    bind (columns 0 2 (read_nat_of 255) s) (λ a.
    bind (columns 2 4 (read_nat_of 255) s) (λ b.
    bind (columns 4 6 (read_nat_of 255) s) (λ c.
    make a b c)))

-- The same three, each in width 2.
unfoldable pub three_text : ℕ → ℕ → ℕ → List ℕ
three_text a b c = padded 2 a ++ (padded 2 b ++ padded 2 c)

-- ---- the answers of the code

-- The three numbers as the code holds them.
abbrev pub together : ℕ → ℕ → ℕ → Res Three
together a b c = ok (record { 0 = a; 1 = b; 2 = c })
