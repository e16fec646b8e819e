-- Demand 3, stated: "a single claim about the whole list, not one for each run". Assumes nothing.
use Rattle.std.specs.Prelude.{ℕ, ◌+◌, ◌≤◌, ◌<◌, ◌≡◌, true, ◌⊎◌, length, get_or, None, Some}
use mathlib.Core.List.{List, Memᴰ}
use Rattle.model.specs.declared.Ending.TheVariants.{Violated}
use Rattle.model.specs.declared.Layout.{Layout}
use Rattle.model.specs.declared.Limits.{Limits}
use Rattle.model.specs.declared.Machine.{Machine}
use Rattle.model.specs.declared.Target.{Target}
use Rattle.model.specs.Words.{modulus}
use Rattle.model.specs.Answers.{ended}
use Rattle.model.specs.Ranges.{low, high}
use Rattle.model.specs.Program.{Program, target_at, is_target, is_indirect}
use Rattle.model.specs.Instructions.{reg}
use Rattle.model.specs.Step.{Step, Landing, nowhere, named, via_register}
use Rattle.model.specs.File.{byte_at, program_in}
use Rattle.model.specs.Judgement.{first_broken}
use Rattle.model.specs.Run.{splice, Seen}
use Rattle.model.specs.Walk.{Call, Walked, walk, seen_in, log_in, total_steps, Called}

-- ---- what the walk is fed

-- eight registers of 32 bits
pub record EightWords (rs : List ℕ) : Type 0 where
  pub eight : length rs ≡ 8
  pub small : (r : ℕ) → reg rs r < modulus

-- n bytes
pub record Bytes (n : ℕ) (bs : List ℕ) : Type 0 where
  pub long : length bs ≡ n
  pub small : (i : ℕ) → get_or bs i 0 < 256

-- "It is fed an accepted module, a record at an open door with any registers, a lent memory and a list of items, perhaps none."
pub record Fed (limits : Limits) (file : List ℕ) (m : Machine) (calls : List Call) : Type 0 where
  pub bytes : (i : ℕ) → byte_at file i < 256
  pub accepted : first_broken limits file ≡ None
  pub at_indirect : is_indirect (program_in file).targets m.pc ≡ true
  pub registers : EightWords m.registers
  pub written : (c : Call) → Memᴰ c calls → Bytes (program_in file).layout.size c.bytes

-- ---- what is demanded of a step

-- an address "in the region or the trapping guard zones beside it"
pub record InZones (l : Layout) (at : ℕ) : Type 0 where
  pub above : l.base ≤ at + l.guard
  pub below : at < l.base + l.size + l.guard

-- "Permitted is any door for the first two, an open one for jumpr."
abbrev pub Permitted : Program → Landing → Type 0
Permitted p nowhere = Unit {0}
Permitted p (named to) = is_target p.targets to ≡ true
Permitted p (via_register to) = is_indirect p.targets to ≡ true

-- "A record is at a door when its place is a door's index": there its registers lie within the claim
pub record ClaimKept (p : Program) (m : Machine) : Type 0 where
  pub kept : (t : Target) → target_at p.targets m.pc ≡ Some t → (r : ℕ) → r < 8
      → (low t.claim r ≤ reg m.registers r) × (reg m.registers r ≤ high t.claim r)

-- "every byte reached for lies in the region or the trapping guard zones beside it, every jump has landed on a permitted door, the
-- registers at each door lie within its claim, nothing has strayed"
pub record StepSafe (p : Program) (s : Step) : Type 0 where
  pub reached : (at : ℕ) → Memᴰ at s.reached → InZones p.layout at
  pub landing : Permitted p s.landing
  pub claim : ClaimKept p s.machine
  pub inside : s.ending ≡ Some Violated → ⊥

-- ---- what is demanded of a call

-- an offset in the call's region, in a memory of n bytes; a refused call "has no region"
pub record InRegionOf (p : Program) (n : ℕ) (c : Call) (at : ℕ) : Type 0 where
  pub fits : c.offset + p.layout.size ≤ n
  pub from : c.offset ≤ at
  pub to : at < c.offset + p.layout.size

-- "One may look at the start, at the end of each item and, in the walk, at the end of each step.": the memories of a call
abbrev pub MemoryOf : Program → Walked → List ℕ → Type 0
MemoryOf p w memory =
    ((s : Step) × Memᴰ s w.log × (memory ≡ splice w.call.offset p.layout.size w.before s.region))
    ⊎ (memory ≡ w.seen.memory)

-- "no run has changed memory outside its region, and what lay in no run's region is as at the start"
pub record CallSafe (p : Program) (start : List ℕ) (calls : List Call) (w : Walked) : Type 0 where
  pub steps : (s : Step) → Memᴰ s w.log → StepSafe p s
  -- "nothing has strayed", said of the answers too: no call answers that its run strayed
  pub answer : (n : ℕ) → w.seen.report ≡ ended Violated n → ⊥
  pub length_kept : (memory : List ℕ) → MemoryOf p w memory → length memory ≡ length start
  -- outside the call's region the memory is as before the call
  pub own : (memory : List ℕ) → MemoryOf p w memory → (at : ℕ) → (InRegionOf p (length start) w.call at → ⊥)
      → get_or memory at 0 ≡ get_or w.before at 0
  -- what lies in no call's region is as at the start
  pub others : (memory : List ℕ) → MemoryOf p w memory → (at : ℕ)
      → ((c : Call) → Memᴰ c calls → InRegionOf p (length start) c at → ⊥) → get_or memory at 0 ≡ get_or start at 0

-- ---- the whole list

-- "every answer, refused ones too, with the record and all memory after it, is the walk's, the counts add up to the length of
-- the log, and every logged step is as the demand says"
pub record Safe (p : Program) (m : Machine) (start : List ℕ) (calls : List Call) (seen : List Seen) : Type 0 where
  pub answers : seen ≡ seen_in (walk p m start calls)
  pub counts : total_steps seen ≡ length (log_in (walk p m start calls))
  pub at_start : ClaimKept p m
  pub each_call : (w : Walked) → Memᴰ w (walk p m start calls) → CallSafe p start calls w

-- Demand 3, on any device. Document 02, ticket 8: "The rules and the safety of runs are stated once with the limits open." Proved in the
-- crate safety.
pub record Safety : Type 0 where
  pub safe : (limits : Limits) (file : List ℕ) (m : Machine) (memory : List ℕ) (calls : List Call) (seen : List Seen)
      → Fed limits file m calls
      → Called limits file m memory calls seen
      → Safe (program_in file) m memory calls seen
