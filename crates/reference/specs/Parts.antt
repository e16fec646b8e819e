-- What the parts of the verifier, the machine and the writer say of their answers. None of this says that an answer is the right one.
use Rattle.std.specs.Prelude.{◌≡◌, ℕ, ◌+◌, ◌*◌, ◌%◌, ◌<◌, ◌≤◌, ◌≢◌}
use Rattle.reference.specs.declared.answer.Ending.{Ending}
use Rattle.reference.specs.declared.answer.Ending.TheVariants.{Spent}
use Rattle.reference.specs.declared.answer.Refusal.{Refusal}
use Rattle.reference.specs.declared.answer.Rule.{Rule}
use Rattle.reference.specs.declared.device.Limits.{Limits}
use Rattle.reference.specs.Numbers.{rule_number}
use Rattle.reference.specs.Verdicts.{Held, Refused, Within}

-- A field's bytes are whole pieces of this size, at least one and at most so many.
pub record Pieces (size most bytes : ℕ) : Type 0 where
  pub whole : bytes % size ≡ 0
  pub some : 0 < bytes
  pub few : bytes ≤ size * most

-- The lengths listed for the code, tag 2, and the doors, tag 3.
pub record Listed (tag bytes : ℕ) : Type 0 where
  pub code : tag ≡ 2 → Pieces 8 4096 bytes
  pub doors : tag ≡ 3 → Pieces 68 256 bytes

-- A field's value has a listed length and lies in the file.
pub record FieldFound (bytes start tag size : ℕ) : Type 0 where
  pub short : size < 65536
  pub within : start + 3 + size ≤ bytes
  pub listed : Listed tag size

-- A field's refusal is 1 to 3.
pub record Unfound (e : Refusal) : Type 0 where
  pub some : 1 ≤ rule_number e.rule
  pub most : rule_number e.rule ≤ 3

-- Refusals 1 to 5.
pub record Misshapen (e : Refusal) : Type 0 where
  pub some : 1 ≤ rule_number e.rule
  pub most : rule_number e.rule ≤ 5

-- Refusal 6 is at one of the n instructions, 7 at one of the k doors.
pub record Unread (n k : ℕ) (e : Refusal) : Type 0 where
  pub least : 6 ≤ rule_number e.rule
  pub most : rule_number e.rule ≤ 7
  pub code : rule_number e.rule ≡ 6 → e.place < n
  pub doors : rule_number e.rule ≡ 7 → e.place < k

-- Refusals 1 to 7, and 17.
pub record Unheld (l : Limits) (e : Refusal) : Type 0 where
  pub refused : Refused l e
  pub few : 7 < rule_number e.rule → rule_number e.rule ≡ 17

-- A module that was read has the file's length, and the device holds it.
pub record ReadIn (l : Limits) (bytes n k : ℕ) : Type 0 where
  pub held : Held bytes n k
  pub within : Within l n k

-- A demand that fails at an index is numbered 8 to 13.
pub record Demand (rule : Rule) : Type 0 where
  pub most : rule_number rule ≤ 13
  pub least : 8 ≤ rule_number rule

-- A failed demand is at one of the n instructions.
pub record DemandAt (n : ℕ) (e : Refusal) : Type 0 where
  pub demand : Demand e.rule
  pub index : e.place < n

-- No step ends a run as spent.
abbrev pub Unspent : Ending → Type 0
Unspent ending = ending ≢ Spent

-- Tables of n instructions and k doors are refused by 3, 5, 6 or 7: 6 is at an instruction, 7 at a door.
pub record Untabled (n k : ℕ) (e : Refusal) : Type 0 where
  pub least : 3 ≤ rule_number e.rule
  pub unlisted : rule_number e.rule ≡ 4 → ⊥
  pub most : rule_number e.rule ≤ 7
  pub code : rule_number e.rule ≡ 6 → e.place < n
  pub doors : rule_number e.rule ≡ 7 → e.place < k
