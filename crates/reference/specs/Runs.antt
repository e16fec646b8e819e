-- What `run` says of its answer. That the steps are the listed ones and that the answer is the right one is not said here: the comparison with the other implementation tests it.
use Rattle.std.specs.Prelude.{◌≡◌, ℕ, ◌<◌, ◌≤◌, List, ◌≢◌, MatchResult}
use Rattle.reference.specs.declared.answer.Ran.{Ran}
use Rattle.reference.specs.declared.answer.Ending.{Ending}
use Rattle.reference.specs.declared.answer.Ending.TheVariants.{Spent}
use Rattle.reference.specs.declared.answer.Refusal.{Refusal}
use Rattle.reference.specs.declared.device.Limits.{Limits}
use Rattle.reference.specs.Numbers.{rule_number, ending_number}
use Rattle.reference.specs.Verdicts.{Over}

-- A run's refusal is numbered 1 to 7, 14, 15 or 17. The place of the last three is 0.
pub record RunRefused (l : Limits) (r : Refusal) : Type 0 where
  pub some : 1 ≤ rule_number r.rule
  pub most : 15 < rule_number r.rule → rule_number r.rule ≡ 17
  pub between : 7 < rule_number r.rule → 14 ≤ rule_number r.rule
  pub place : 7 < rule_number r.rule → r.place ≡ 0
  pub over : rule_number r.rule ≡ 17 → Over l r

-- No step, with registers and place as they were.
pub record Kept (given : List ℕ) (stood : ℕ) (r : Ran) : Type 0 where
  pub steps : r.steps ≡ 0
  pub registers : r.registers ≡ given
  pub place : r.place ≡ stood

-- A refused run leaves registers, place and every byte of memory as they were.
pub record Unmoved (l : Limits) (registers : List ℕ) (place : ℕ) (before after : List ℕ) (r : Ran) (refusal : Refusal) : Type 0 where
  pub refused : RunRefused l refusal
  pub kept : Kept registers place r
  pub memory : after ≡ before

-- A run makes at most its budget of steps and has an ending of 0 to 4. It is spent, ending 4, after just its budget, and has any other ending after at least one step.
pub record Ended (budget : ℕ) (r : Ran) (reached : Ending) : Type 0 where
  pub steps : r.steps ≤ budget
  pub ending : ending_number reached ≤ 4
  pub spent : reached ≡ Spent → r.steps ≡ budget
  pub made : (reached ≢ Spent) → 1 ≤ r.steps

abbrev pub RunSaid : Limits → List ℕ → ℕ → ℕ → List ℕ → List ℕ → Ran → Type 0
RunSaid l registers place budget before after r = MatchResult r.outcome (λ ending. Ended budget r ending) (λ e. Unmoved l registers place before after r e)
