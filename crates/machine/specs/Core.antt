-- What the machine's parts answer, in the model's terms. Assumes nothing.
use Rattle.std.specs.Prelude.{◌≡◌, ℕ, ◌+◌, ◌-◌, cond, List, length, nat_lt, slice_set, Option, None, Some, Result, Ok, Err}
use Rattle.model.specs.declared.Answer.{Answer}
use Rattle.model.specs.declared.Ending.{Ending}
use Rattle.model.specs.declared.Ending.TheVariants.{Trapped, Violated}
use Rattle.model.specs.declared.Layout.{Layout}
use Rattle.model.specs.declared.LoadWidth.{LoadWidth}
use Rattle.model.specs.declared.Machine.{Machine}
use Rattle.model.specs.declared.Outcome.{Outcome}
use Rattle.model.specs.declared.Refusal.{Refusal}
use Rattle.model.specs.declared.Width.{Width}
use Rattle.model.specs.Answers.{report_of}
use Rattle.model.specs.Program.{Program, is_target, is_indirect}
use Rattle.model.specs.Instructions.{bytes_of}
use Rattle.model.specs.Step.{in_region, in_zones, Effect, goes_on, loading, storing, Step, settle}
use Rattle.model.specs.Run.{Run, steps, Seen}

-- where the bytes of an access lie: at an offset of the region, or how the run ends
unfoldable pub reach_of : Layout → ℕ → Width → Result ℕ Ending
reach_of l at w =
    cond (in_region l at (bytes_of w)) (Ok (at - l.base)) (Err (cond (in_zones l at (bytes_of w)) Trapped Violated))

-- places
unfoldable pub onward_of : Program → ℕ → Result ℕ Ending
onward_of p pc = cond (nat_lt (pc + 1) (length p.code)) (Ok (pc + 1)) (Err Violated)

unfoldable pub jump_of : Program → ℕ → Result ℕ Ending
jump_of p to = cond (is_target p.targets to) (Ok to) (Err Violated)

unfoldable pub jump_via_of : Program → ℕ → Result ℕ Ending
jump_via_of p to = cond (is_indirect p.targets to) (Ok to) (Err Violated)

-- ---- a step

-- where the model's step goes, or how it ends the run
abbrev pub next_for : ℕ → Option Ending → Result ℕ Ending
next_for pc None = Ok pc
next_for pc (Some e) = Err e

-- what the core answers and leaves is the model's step
pub record StepPost (s : Step) (next : Result ℕ Ending) (rs bs : List ℕ) : Type 0 where
  pub goes : next ≡ next_for s.machine.pc s.ending
  pub registers : rs ≡ s.machine.registers
  pub region : bs ≡ s.region

-- what the core answers and leaves is what the model makes of an effect that goes on or ends
abbrev pub Settles : Program → Machine → List ℕ → Effect → Result ℕ Ending → List ℕ → List ℕ → Type 0
Settles p m bs does next rs' bs' = (reached : List ℕ) → StepPost (settle p m bs reached does) next rs' bs'

-- a value is assigned, whatever the region's bytes are
abbrev pub AssignPost : Program → Machine → ℕ → ℕ → Result ℕ Ending → List ℕ → Type 0
AssignPost p m a value next rs' = (bs : List ℕ) → Settles p m bs (goes_on (slice_set m.registers a value) bs) next rs' bs

-- a load from an address
abbrev pub LoadPost : Program → Machine → List ℕ → ℕ → LoadWidth → ℕ → Result ℕ Ending → List ℕ → Type 0
LoadPost p m bs a v at next rs' = Settles p m bs (loading p.layout at v a m.registers bs) next rs' bs

-- a store to an address, whatever the registers are
abbrev pub StorePost : Program → ℕ → List ℕ → ℕ → Width → ℕ → Result ℕ Ending → List ℕ → Type 0
StorePost p pc bs value w at next bs' =
    (rs : List ℕ) → Settles p (record { registers = rs; pc = pc }) bs (storing p.layout at w value rs bs) next rs bs'

-- ---- a run

-- what the loop answers and leaves is the model's run
pub record LoopPost (r : Run) (o : Outcome) (bs : List ℕ) : Type 0 where
  pub machine : o.machine ≡ r.machine
  pub completion : o.answer.completion ≡ Ok r.ending
  pub count : o.answer.steps ≡ steps r
  pub region : bs ≡ r.region

-- a refused run makes no steps, and leaves the machine as it was
unfoldable pub outcome_of : Machine → Result Outcome Refusal → Outcome
outcome_of m (Ok o) = o
outcome_of m (Err r) = record { machine = m; answer = record { completion = Err r; steps = 0 } }

-- what the host sees of a call
unfoldable pub seen_of : Answer → Machine → List ℕ → Seen
seen_of a m memory = record { report = report_of a; machine = m; memory = memory }

-- and what it will see of a run or a refusal
abbrev pub seen_by : Machine → Result Outcome Refusal → List ℕ → Seen
seen_by m result memory = seen_of (outcome_of m result).answer (outcome_of m result).machine memory
