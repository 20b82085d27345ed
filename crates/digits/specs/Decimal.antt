-- A number in decimal, as ASCII. Assumes nothing.
use Rattle.std.specs.Prelude.{ℕ, zero, suc, ◌+◌, ◌/◌, ◌%◌, cond, List, [], ◌∷◌, ◌++◌, ltb}

-- The character of a digit; `0` is 48.
abbrev pub digit : ℕ → ℕ
digit d = 48 + d

-- The digits of n, the most significant first, where `most` of them are enough.
unfoldable pub digits : ℕ → ℕ → List ℕ
digits zero n = []
digits (suc most) n =
    let more = digits most (n / 10) ++ (digit (n % 10) ∷ []) in
    cond (ltb n 10) (digit n ∷ []) more

-- The decimal digits of n, with no zeros in front; `0` for 0. No number has more digits than one more than itself.
unfoldable pub decimal : ℕ → List ℕ
decimal n = digits (suc n) n
