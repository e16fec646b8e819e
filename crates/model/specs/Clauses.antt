-- Demand 3 for a list of two calls, clause by clause, with nothing folded away: what `Safety` says of any list, written out.
-- Assumes nothing.
use Rattle.std.specs.Prelude.{ℕ, ◌+◌, ◌≤◌, ◌<◌, ◌≡◌, true, length, get_or, Some}
use mathlib.Core.List.{List, [], ◌∷◌, ◌++◌, Memᴰ}
use Rattle.model.specs.declared.Ending.TheVariants.{Violated}
use Rattle.model.specs.declared.Limits.{Limits}
use Rattle.model.specs.declared.Machine.{Machine}
use Rattle.model.specs.declared.Target.{Target}
use Rattle.model.specs.Answers.{ended, steps_in}
use Rattle.model.specs.Ranges.{low, high}
use Rattle.model.specs.Program.{Program, target_at, is_target, is_indirect}
use Rattle.model.specs.Instructions.{reg}
use Rattle.model.specs.Step.{Step, named, via_register}
use Rattle.model.specs.File.{program_in}
use Rattle.model.specs.Run.{Seen, splice}
use Rattle.model.specs.Walk.{Call, Walked, walk_call, Called}
use Rattle.model.specs.Safety.{Fed}

-- an offset that a call's region does not have: it is refused, or the offset lies below or above
abbrev pub Outside : Program → List ℕ → Call → ℕ → Type 0
Outside p memory c at =
    c.offset + p.layout.size ≤ length memory → c.offset ≤ at → at < c.offset + p.layout.size → ⊥

-- the registers lie within the claim of the target that a record is at, if it is at one
abbrev pub WithinClaim : Program → Machine → Type 0
WithinClaim p m = (t : Target) → target_at p.targets m.pc ≡ Some t → (r : ℕ) → r < 8
    → (low t.claim r ≤ reg m.registers r) × (reg m.registers r ≤ high t.claim r)

-- the two calls of the walk
abbrev pub walk_first : Program → Machine → List ℕ → Call → Walked
walk_first p m start c = walk_call p m start c

abbrev pub walk_second : Program → Machine → List ℕ → Call → Call → Walked
walk_second p m start c d = walk_call p (walk_first p m start c).seen.machine (walk_first p m start c).seen.memory d

abbrev pub LoggedIn : Walked → Walked → Step → Type 0
LoggedIn w v s = Memᴰ s (w.log ++ v.log)

pub record TwoSafe (p : Program) (m : Machine) (start : List ℕ) (c d : Call) (s t : Seen) (w v : Walked) : Type 0 where
  -- "Every answer, and record and memory after it, are exactly those of the walk in document 01"
  pub first_answer : s ≡ w.seen
  pub second_answer : t ≡ v.seen
  -- "and the counts add up to its steps"
  pub counts : steps_in s.report + steps_in t.report ≡ length w.log + length v.log
  -- "every byte reached for lies in the region or the trapping guard zones beside it"
  pub reached : (x : Step) → LoggedIn w v x → (at : ℕ) → Memᴰ at x.reached
      → (p.layout.base ≤ at + p.layout.guard) × (at < p.layout.base + p.layout.size + p.layout.guard)
  -- "every jump has landed on a permitted door"
  pub landed : (x : Step) → LoggedIn w v x → (to : ℕ) → x.landing ≡ named to → is_target p.targets to ≡ true
  pub landed_via : (x : Step) → LoggedIn w v x → (to : ℕ) → x.landing ≡ via_register to → is_indirect p.targets to ≡ true
  -- "the registers at each door lie within its claim"
  pub claim_at_start : WithinClaim p m
  pub claim : (x : Step) → LoggedIn w v x → WithinClaim p x.machine
  -- "nothing has strayed"
  pub inside : (x : Step) → LoggedIn w v x → x.ending ≡ Some Violated → ⊥
  pub first_inside : (n : ℕ) → s.report ≡ ended Violated n → ⊥
  pub second_inside : (n : ℕ) → t.report ≡ ended Violated n → ⊥
  -- "no run has changed memory outside its region": at the end of each step, and of each call
  pub first_steps : (x : Step) → Memᴰ x w.log → (at : ℕ) → Outside p start c at
      → get_or (splice c.offset p.layout.size start x.region) at 0 ≡ get_or start at 0
  pub second_steps : (x : Step) → Memᴰ x v.log → (at : ℕ) → Outside p start d at
      → get_or (splice d.offset p.layout.size s.memory x.region) at 0 ≡ get_or s.memory at 0
  pub first_memory : (at : ℕ) → Outside p start c at → get_or s.memory at 0 ≡ get_or start at 0
  pub second_memory : (at : ℕ) → Outside p start d at → get_or t.memory at 0 ≡ get_or s.memory at 0
  -- "what lay in no run's region is as at the start": at the end of each step of the second call, and of the call
  pub untouched_steps : (x : Step) → Memᴰ x v.log → (at : ℕ) → Outside p start c at → Outside p start d at
      → get_or (splice d.offset p.layout.size s.memory x.region) at 0 ≡ get_or start at 0
  pub untouched : (at : ℕ) → Outside p start c at → Outside p start d at → get_or t.memory at 0 ≡ get_or start at 0
  pub lengths : (length s.memory ≡ length start) × (length t.memory ≡ length start)

pub record TwoCalls : Type 0 where
  pub clauses : (limits : Limits) (file : List ℕ) (m : Machine) (start : List ℕ) (c d : Call) (s t : Seen)
      → Fed limits file m (c ∷ d ∷ [])
      → Called limits file m start (c ∷ d ∷ []) (s ∷ t ∷ [])
      → TwoSafe (program_in file) m start c d s t (walk_first (program_in file) m start c) (walk_second (program_in file) m start c d)
