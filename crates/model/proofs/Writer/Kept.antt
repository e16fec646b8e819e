-- Tables that keep 3, 5, 6 and 7: what is judged of tables is met exactly if they are kept; they are kept wherever the rows are the
-- same; and then the file's bytes can hold every row. Assumes nothing.
use Prim.Native.Nat.{ℕ, suc, ◌≤◌, ◌<◌}
use mathlib.Core.Path.{◌≡◌}
use mathlib.Core.Logic.Iff
use mathlib.Core.Logic.{◌↔◌}
use Rattle.std.specs.Prelude.{Option, None}
use native.Mathlib.Omega.{arith}
use lib.ListN.{length}
use Rattle.model.specs.declared.Instruction.{Instruction}
use Rattle.model.specs.declared.Layout.{Layout}
use Rattle.model.specs.Obligations.{first_fault}
use Rattle.model.specs.File.{most_instructions, most_targets, decoded, TargetRow}
use Rattle.model.specs.Rules.{LayoutKept, TargetKept}
use Rattle.model.specs.Writer.{Tables, instruction_row_at, target_row_at, is_count, tables_owed}
use Rattle.model.specs.Promises.{AreTables}
use Rattle.model.proofs.Obligations.{none_iff_met}
use Rattle.model.proofs.Reflection.{Reflects, le_reflects, and_reflects}
use Rattle.model.proofs.FileRules.{target_reflects}
use Rattle.model.proofs.Accepted.{TablesHold, tables_iff}
use Rattle.model.proofs.Values.{least_size, most_size}
use Rattle.model.proofs.Writer.Entries.{LayoutFits, RowFits, TargetFits}
use Rattle.model.proofs.Writer.Rows.{decoded_bytes}

pub record TablesKept (t : Tables) : Type 0 where
  pub some_instruction : 1 ≤ length t.instructions
  pub few_instructions : length t.instructions ≤ most_instructions
  pub some_target : 1 ≤ length t.targets
  pub few_targets : length t.targets ≤ most_targets
  pub rules : TablesHold TargetKept t.layout
      (length t.instructions) (λ i. decoded (instruction_row_at t i)) (length t.targets) (target_row_at t)

pub count_reflects : (most n : ℕ) → Reflects (is_count most n) ((1 ≤ n) × (n ≤ most))
count_reflects most n = and_reflects (le_reflects 1 n) (le_reflects n most)

pub owed_iff : (t : Tables) → (first_fault (tables_owed t) ≡ None) ↔ TablesKept t
unfolding tables_owed
owed_iff t =
    Iff.trans (none_iff_met (tables_owed t)) (
      λ h.
          let n = instructions_part.0 h.0 in
          let k = targets_part.0 h.1.0 in
          record {
            some_instruction = n.0;
            few_instructions = n.1;
            some_target = k.0;
            few_targets = k.1;
            rules = (tables_iff target_reflects _ _ _ _ _).0 h.1.1;
          },
      λ k. (
        instructions_part.1 (k.some_instruction, k.few_instructions),
        (targets_part.1 (k.some_target, k.few_targets), (tables_iff target_reflects _ _ _ _ _).1 k.rules),
      ),
    )
  where
    instructions_part : Reflects (is_count most_instructions (length t.instructions))
        ((1 ≤ length t.instructions) × (length t.instructions ≤ most_instructions))
    instructions_part = count_reflects most_instructions (length t.instructions)

    targets_part : Reflects (is_count most_targets (length t.targets)) ((1 ≤ length t.targets) × (length t.targets ≤ most_targets))
    targets_part = count_reflects most_targets (length t.targets)

-- ---- where the rows are the same

target_same : (n : ℕ) (f g : ℕ → TargetRow) (j : ℕ) → ((i : ℕ) → i ≤ j → f i ≡ g i) → TargetKept n f j → TargetKept n g j
target_same n f g j same kept =
    let here : f j ≡ g j = same j (omega arith) in
    let was = kept.placed in
    record {
      placed = record {
        inside = rw (← here) was.inside;
        kind = rw (← here) was.kind;
        zero_byte = rw (← here) was.zero_byte;
        indirect = rw (← here) was.indirect;
        first = λ z. rw (← same 0 (omega arith)) (was.first z);
        rising = λ i e. rw (← same i (omega arith), ← same (suc i) (omega arith)) (was.rising i e);
      };
      ordered = rw (← here) kept.ordered;
    }

module _ {l : Layout} {n k : ℕ} {decodes decodes' : ℕ → Option Instruction} {target target' : ℕ → TargetRow}
    (rows : (i : ℕ) → i < n → decodes i ≡ decodes' i) (targets : (j : ℕ) → j < k → target j ≡ target' j) where
  pub hold_same : TablesHold TargetKept l n decodes k target → TablesHold TargetKept l n decodes' k target'
  hold_same holds = record {
    layout = holds.layout;
    each_instruction = λ i below. rw (← rows i below) (holds.each_instruction i below);
    each_target = λ j below. target_same n target target' j (λ i before. targets i (omega arith)) (holds.each_target j below);
  }

-- ---- what the file's bytes can hold

pub layout_fits : (l : Layout) → LayoutKept l → LayoutFits l
layout_fits l kept = record {
  base = omega (arith, kept.above, least_size kept);
  size = omega (arith, most_size kept);
  guard = omega (arith, kept.guard);
}

module _ (t : Tables) (are : AreTables t) (kept : TablesKept t) where
  pub rows_fit : (i : ℕ) → i < length t.instructions → RowFits (instruction_row_at t i)
  rows_fit i below =
      let x = kept.rules.each_instruction i below in
      let small = decoded_bytes _ _ _ _ _ x.0 x.1 in
      record { op = small.0; a = small.1; b = small.2; w = small.3; imm = are.imm i }

  pub targets_fit : (j : ℕ) → j < length t.targets → TargetFits (target_row_at t j)
  targets_fit j below =
      let placed = (kept.rules.each_target j below).placed in
      record {
        index = omega (arith, placed.inside, kept.few_instructions);
        kind = omega (arith, placed.kind);
        zero_byte = omega (arith, placed.zero_byte);
        lows = are.lows j;
        highs = are.highs j;
      }
