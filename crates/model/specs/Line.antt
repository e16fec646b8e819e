-- The line that the gate program prints. "The gate program reads standard input and prints one line: `accepted`, instructions, doors;
-- or `refused`, number, place. Numbers are decimal, with one space between and one newline at the end." Assumes nothing.
use Rattle.std.specs.Prelude.{ℕ, zero, suc, ◌+◌, ◌/◌, ◌%◌, ◌≡◌, cond, List, [], ◌∷◌, ◌++◌, ltb, length, drop}
use Rattle.model.specs.Answers.{Judgement, accepted, refused}

-- the byte of a digit
abbrev pub digit : ℕ → ℕ
digit d = 48 + d

-- the digits of a number, as long as there are no more of them than `most`
unfoldable pub decimal_within : ℕ → ℕ → List ℕ
decimal_within zero n = []
decimal_within (suc most) n = cond (ltb n 10) (digit n ∷ []) (decimal_within most (n / 10) ++ (digit (n % 10) ∷ []))

-- "Numbers are decimal": all the digits of a number, the most significant first. A number from ten on is more than its tenth, so it has
-- at most as many digits as its successor says (`DecimalKnown`, in Promises, says the same without a bound).
unfoldable pub decimal : ℕ → List ℕ
decimal n = decimal_within (suc n) n

-- "with one space between and one newline at the end"
abbrev pub line_with : List ℕ → ℕ → ℕ → List ℕ
line_with word first second = word ++ (32 ∷ decimal first) ++ (32 ∷ decimal second) ++ (10 ∷ [])

-- "`accepted`, instructions, doors; or `refused`, number, place"
unfoldable pub line_of : Judgement → List ℕ
line_of (accepted n k) = line_with (97 ∷ 99 ∷ 99 ∷ 101 ∷ 112 ∷ 116 ∷ 101 ∷ 100 ∷ []) n k
line_of (refused f) = line_with (114 ∷ 101 ∷ 102 ∷ 117 ∷ 115 ∷ 101 ∷ 100 ∷ []) f.number f.place

-- a buffer after the line of a judgement was written into it: the line, and past it what it held before
pub record LinePost (j : Judgement) (before after : List ℕ) (written : ℕ) : Type 0 where
  pub count : written ≡ length (line_of j)
  pub buffer : after ≡ line_of j ++ drop (length (line_of j)) before
