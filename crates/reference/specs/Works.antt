-- What `work_out` says of its answer and of the file's bytes. That the answer is the right one, and so are the claims that are written, is not said here: the comparison with the other implementation tests it.
use Rattle.std.specs.Prelude.{◌≡◌, ℕ, List, length, Result, MatchResult}
use Rattle.reference.specs.declared.answer.Counts.{Counts}
use Rattle.reference.specs.declared.answer.Refusal.{Refusal}
use Rattle.reference.specs.declared.device.Limits.{Limits}
use Rattle.reference.specs.Verdicts.{Refused, Accepted}

-- A refusal leaves every byte of the file as it was. A file that is accepted keeps its length, and its counts are all that it holds, and within the device's limits.
abbrev pub WorkSaid : Limits → List ℕ → List ℕ → Result Counts Refusal → Type 0
WorkSaid l before after r = MatchResult r (λ c. Accepted l (length before) c × (length after ≡ length before)) (λ e. Refused l e × (after ≡ before))
