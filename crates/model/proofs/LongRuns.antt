-- A loop of two instructions is accepted, by computation, and is spent after just its budget of steps, by induction on the budget: each
-- step goes from one of the two to the other. Assumes nothing.
use Prim.Native.Nat.{ℕ, zero, suc, ◌≤◌}
use mathlib.Core.Path.{◌≡◌, refl, ap, ◌∙◌}
use mathlib.Core.Bool.{true}
use mathlib.Core.List.{List, [], ◌∷◌}
use Rattle.std.specs.Prelude.{None}
use native.Mathlib.Omega.{arith}
use lib.IntN.{pos}
use lib.ListN.{length, length-replicate}
use Rattle.model.specs.declared.Ending.TheVariants.{OutOfBudget}
use Rattle.model.specs.declared.Instruction.TheVariants.{Addi, Jump}
use Rattle.model.specs.declared.Machine.{Machine}
use Rattle.model.specs.Answers.{ended}
use Rattle.model.specs.Ranges.{unknown}
use Rattle.model.specs.Program.{Program, target_at}
use Rattle.model.specs.Instructions.{shape}
use Rattle.model.specs.Step.{effect, settle, step_of, step}
use Rattle.model.specs.File.{program_in}
use Rattle.model.specs.Limits.{box_limits}
use Rattle.model.specs.Judgement.{first_broken}
use Rattle.model.specs.Rules.{Runnable}
use Rattle.model.specs.Run.{Run, run, steps, Seen, run_on}
use Rattle.model.specs.Counts.{step_bits, earlier_step_bits, count_in, run_in}
use Rattle.model.specs.Loop.{start, zeros, counting}
use Rattle.model.specs.Promises.{LongRuns}
use Rattle.model.proofs.Accepted.{accepted_iff}
use Rattle.model.proofs.Joining.{Continues, continues_step}
use Rattle.model.proofs.JoiningCalls.{run_on_runs}
use Rattle.model.proofs.Verdicts.{verdict}

-- ---- its steps

abbrev looped : Program
looped = record {
  layout = record { base = 0x2000_0000; size = 256; guard = 0 };
  code = Addi 0 (pos 1) ∷ Jump 0 ∷ [];
  targets = record { index = 0; indirect = true; claim = unknown } ∷ [];
}

abbrev at : List ℕ → ℕ → Machine
at registers pc = record { registers = registers; pc = pc }

record Spent (budget : ℕ) (r : Run) : Type 0 where
  ending : r.ending ≡ OutOfBudget
  count : steps r ≡ budget

one_more : {budget : ℕ} {r rest : Run} → Continues r rest 1 → Spent budget rest → Spent (suc budget) r
one_more goes_on_lem spent = record { ending = goes_on_lem.ending ∙ spent.ending; count = omega (arith, goes_on_lem.count, spent.count) }

spins : (budget : ℕ) (registers bytes : List ℕ)
    → Spent budget (run looped budget (at registers 0) bytes) × Spent budget (run looped budget (at registers 1) bytes)
unfolding run step step_of settle effect shape target_at
spins zero registers bytes = (record { ending = refl; count = refl }, record { ending = refl; count = refl })
spins (suc budget) registers bytes = (
  one_more (continues_step looped budget (at registers 0) bytes refl) (spins budget (step looped (at registers 0) bytes).machine.registers bytes).1,
  one_more (continues_step looped budget (at registers 1) bytes refl) (spins budget registers bytes).0,
)

-- ---- its calls

decoded : program_in counting ≡ looped
unfolding counting verdict
decoded = refl

counting_accepted : first_broken box_limits counting ≡ None
unfolding counting verdict
counting_accepted = refl

runs : (registers memory : List ℕ) → 256 ≤ length memory → Runnable box_limits counting (at registers 0) memory 0
unfolding counting verdict
runs registers memory room = record {
  file_rules = ((accepted_iff box_limits counting).0 counting_accepted).file_rules;
  held = ((accepted_iff box_limits counting).0 counting_accepted).held;
  pc_inside = omega arith;
  fits = omega (arith, room);
}

counts : (registers memory : List ℕ) (budget : ℕ) → 256 ≤ length memory
    → (run_on box_limits counting (at registers 0) memory 0 budget).report ≡ ended OutOfBudget budget
counts registers memory budget room =
    ap (λ (s : Seen). s.report) (run_on_runs box_limits counting (at registers 0) memory 0 budget (runs registers memory room))
    ∙ rw decoded (let spent = (spins budget registers _).0 in λ i. ended (spent.ending i) (spent.count i))

from_start : (budget : ℕ) → (run_on box_limits counting start zeros 0 budget).report ≡ ended OutOfBudget budget
from_start budget = counts start.registers zeros budget (omega (arith, length-replicate {A = ℕ} 4096 0))

pub long_runs : LongRuns
unfolding counting verdict run_in
long_runs = record {
  verdict = refl;
  counts = counts;
  cut = λ i. count_in earlier_step_bits (from_start 2 i) ∷ count_in step_bits (from_start 0x1_0000_0002 i) ∷ [];
}
