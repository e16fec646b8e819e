-- What `verify` says of its answer. That the answer is the right one is not said here: the comparison with the other implementation tests it.
use Rattle.std.specs.Prelude.{◌≡◌, ℕ, ◌+◌, ◌*◌, ◌<◌, ◌≤◌, ◌≢◌, Result, MatchResult}
use Rattle.reference.specs.declared.answer.Counts.{Counts}
use Rattle.reference.specs.declared.answer.Refusal.{Refusal}
use Rattle.reference.specs.declared.device.Limits.{Limits}
use Rattle.reference.specs.Numbers.{rule_number}

-- A file of this many bytes is three fields and nothing more: n instructions, 1 to 4,096, and k doors, 1 to 256.
pub record Held (bytes n k : ℕ) : Type 0 where
  pub some_code : 1 ≤ n
  pub most_code : n ≤ 4096
  pub some_doors : 1 ≤ k
  pub most_doors : k ≤ 256
  pub whole : bytes ≡ 21 + 8 * n + 68 * k

-- The device holds so many instructions and doors.
pub record Within (l : Limits) (n k : ℕ) : Type 0 where
  pub code : n ≤ l.instructions
  pub doors : k ≤ l.doors

-- The place of 17 is 0. Limits that no file can pass, as the box's, never give it.
pub record Over (l : Limits) (r : Refusal) : Type 0 where
  pub place : r.place ≡ 0
  pub passed : 4096 ≤ l.instructions → l.doors < 256

-- From 6 on a refusal's place is an index below 4,096, and a door's number below 256 for refusal 7.
pub record Placed (r : Refusal) : Type 0 where
  pub index : 6 ≤ rule_number r.rule → (rule_number r.rule ≢ 7) → r.place < 4096
  pub door : rule_number r.rule ≡ 7 → r.place < 256

-- A refusal's number is 1 to 13, or 17.
pub record Refused (l : Limits) (r : Refusal) : Type 0 where
  pub some : 1 ≤ rule_number r.rule
  pub most : 13 < rule_number r.rule → rule_number r.rule ≡ 17
  pub placed : Placed r
  pub over : rule_number r.rule ≡ 17 → Over l r

-- An acceptance counts instructions and doors: they are all that the file holds, and the device holds them.
pub record Accepted (l : Limits) (bytes : ℕ) (c : Counts) : Type 0 where
  pub held : Held bytes c.instructions c.doors
  pub within : Within l c.instructions c.doors

abbrev pub VerifySaid : Limits → ℕ → Result Counts Refusal → Type 0
VerifySaid l bytes r = MatchResult r (λ c. Accepted l bytes c) (λ e. Refused l e)
