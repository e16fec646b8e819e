-- What `write` says of its answer and of the buffer's bytes. That the answer is the right one, and so are the bytes that are written, is not said here: the comparison with the other implementation tests it.
use Rattle.std.specs.Prelude.{◌≡◌, ℕ, ◌<◌, ◌≤◌, List, length, Result, MatchResult}
use Rattle.reference.specs.declared.answer.Refusal.{Refusal}
use Rattle.reference.specs.Numbers.{rule_number}
use Rattle.reference.specs.Verdicts.{Held}

-- A refusal's number is 3, 5, 6, 7 or 16. The place of 6 is the index of one of the n instructions, that of 7 the number of one of the k doors, and that of 16 is 0.
pub record Unwritten (n k : ℕ) (r : Refusal) : Type 0 where
  pub least : 3 ≤ rule_number r.rule
  pub unlisted : rule_number r.rule ≡ 4 → ⊥
  pub most : 7 < rule_number r.rule → rule_number r.rule ≡ 16
  pub code : rule_number r.rule ≡ 6 → r.place < n
  pub doors : rule_number r.rule ≡ 7 → r.place < k
  pub space : rule_number r.rule ≡ 16 → r.place ≡ 0

-- The file's length is that of its three fields, which hold n instructions and k doors, and the buffer has at least so many bytes.
pub record Filled (n k bytes size : ℕ) : Type 0 where
  pub held : Held size n k
  pub within : size ≤ bytes

-- A refusal leaves every byte of the buffer as it was. A buffer that is written to keeps its length.
abbrev pub WriteSaid : ℕ → ℕ → List ℕ → List ℕ → Result ℕ Refusal → Type 0
WriteSaid n k before after r = MatchResult r (λ size. Filled n k (length before) size × (length after ≡ length before)) (λ e. Unwritten n k e × (after ≡ before))
