-- Where a step goes: to the next index, or to a target that the lookup found, by the tests of the definitions. Assumes nothing.
use Rattle.std.specs.Prelude.{◌≡◌, ℕ, ◌+◌, ◌-◌, ◌<◌, ◌≤◌, Bool, false, eqb, List, Option, None, Some, Ok, Err, MatchOption}
use native.Mathlib.Omega.{arith}
use borrow.Author.Tests.{lt-ltb, le-ltb}
use Rattle.model.specs.declared.Ending.TheVariants.{Violated}
use Rattle.model.specs.Quantifiers.{any_of}
use Rattle.model.specs.File.{target_in, target_kind}
use Rattle.lookup.specs.Found.{target_found}
use Rattle.reader.specs.declared.module.Module.{Module}
use Rattle.machine.specs.Core.{onward_of}
use Rattle.reader.specs.Readings.{program}
use Rattle.machine.proofs.Modules.{program_count}

module _ (m : Module) (pc : ℕ) where
  pub goes_onward : pc < m.held.instructions - 1 → Ok (pc + 1) ≡ onward_of (program m) pc
  unfolding onward_of
  goes_onward below = rw (program_count m, lt-ltb (pc + 1) m.held.instructions (omega arith))

  pub strays_onward : m.held.instructions - 1 ≤ pc → Err Violated ≡ onward_of (program m) pc
  unfolding onward_of
  strays_onward past = rw (program_count m, le-ltb (pc + 1) m.held.instructions (omega arith))

-- that a lookup found an indirect target
pub found_indirect : (targets : List ℕ) (found : Option ℕ) (r : Bool) (asked : ℕ → Type 0)
    → MatchOption found (r ≡ false) asked → ((j : ℕ) → asked j → r ≡ eqb (target_kind targets j) 1)
    → r ≡ any_of (target_found targets found) (λ t. t.indirect)
unfolding target_found target_in
found_indirect targets None r asked is told = is
found_indirect targets (Some j) r asked is told = told j is
