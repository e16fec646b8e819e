-- One check after another, over the whole file: the indexes that a loop judges, what a finding names, and the file's parts in their
-- order. By the laws of first faults. Assumes nothing.
use Prim.Native.Nat.{ℕ, ◌+◌, ◌-◌, ◌≤◌, ◌<◌}
use mathlib.Core.Path.{◌≡◌, sym, ◌∙◌}
use mathlib.Core.Bool.{Bool, true, false}
use mathlib.Core.List.{List, [], ◌∷◌}
use Rattle.std.specs.Prelude.{Option, None, Some, Result, Ok, Err}
use borrow.Author.Tests.{eq-eqb, ne_eqb}
use lib.Dec.{eqb}
use lib.ListN.{length}
use Rattle.model.specs.declared.Instruction.{Instruction}
use Rattle.model.specs.declared.Layout.{Layout}
use Rattle.model.specs.declared.Refusal.{Refusal}
use Rattle.model.specs.Answers.{fault_of}
use Rattle.model.specs.Obligations.{Fault, fault, owes, first_fault, each_from, each}
use Rattle.model.specs.File.{field_end, field, code_start, targets_at, code_in, targets_in, instruction_count, target_count, layout_in, TargetRow, is_layout, instruction_rules, target_rules, table_rules, module_rules, readable_by}
use Rattle.model.proofs.Faults.{head_met, head_unmet, one_met, append_faultless, append_faulty, index_faultless, index_faulty, indexes_done, indexes_start}
use Rattle.reader.specs.Findings.{fault_in}
use Rattle.reader.specs.Readings.{asked, holds, refused, reading_by}

-- the first fault where every index below n owes a test by a rule
abbrev pub fault_below : ℕ → (ℕ → Bool) → ℕ → Option Fault
fault_below rule test n = first_fault (each n (λ k. owes rule k (test k) ∷ []))

-- a loop over them that has come to i: the first fault from there on is the first of all
abbrev pub Judges : ℕ → (ℕ → Bool) → ℕ → ℕ → Type 0
Judges rule test n i = first_fault (each_from i (n - i) (λ k. owes rule k (test k) ∷ [])) ≡ fault_below rule test n

pub indexes_begin : (rule : ℕ) (test : ℕ → Bool) (n : ℕ) → Judges rule test n 0
indexes_begin rule test n = indexes_start _ n

module _ (rule : ℕ) (test : ℕ → Bool) (n i : ℕ) (so_far : Judges rule test n i) where
  pub index_fails : i < n → test i ≡ false → Some (fault rule i) ≡ fault_below rule test n
  index_fails below failed = sym (index_faulty _ i n _ below (head_unmet _ _ failed)) ∙ so_far

  pub index_passes : i < n → test i ≡ true → Judges rule test n (i + 1)
  index_passes below passed = sym (index_faultless _ i n below (one_met _ passed)) ∙ so_far

  pub indexes_pass : n ≤ i → None ≡ fault_below rule test n
  indexes_pass past = sym (indexes_done _ i n past) ∙ so_far

-- what an answer names
module _ {A : Type 0} {r : Result A Refusal} {named : Option Fault} (is : fault_in r ≡ named) where
  pub ok_names : (x : A) → r ≡ Ok x → named ≡ None
  unfolding fault_in
  ok_names x ok = sym (rw ok at is)

  pub err_names : (x : Refusal) → r ≡ Err x → named ≡ Some (fault_of x)
  unfolding fault_in
  err_names x err = sym (rw err at is)

-- 5, 6 and 7, one after another
module _ (good : ℕ → (ℕ → TargetRow) → ℕ → Bool) (l : Layout) (n : ℕ) (decodes : ℕ → Option Instruction) (k : ℕ) (target : ℕ → TargetRow) where
  pub layout_refused : is_layout l ≡ false → Some (fault 5 0) ≡ first_fault (table_rules good l n decodes k target)
  layout_refused failed = sym (head_unmet _ _ failed)

  module _ (passed : is_layout l ≡ true) where
    pub instruction_refused : (f : Fault) → first_fault (instruction_rules n decodes) ≡ Some f → Some f ≡ first_fault (table_rules good l n decodes k target)
    instruction_refused f named = sym (head_met _ _ passed ∙ append_faulty _ _ f named)

    pub targets_left : first_fault (instruction_rules n decodes) ≡ None
        → first_fault (target_rules k (good n target)) ≡ first_fault (table_rules good l n decodes k target)
    targets_left none_named = sym (head_met _ _ passed ∙ append_faultless _ _ none_named)

-- the three fields stand whole
pub record FieldsStand (file : List ℕ) : Type 0 where
  pub layout_field : None ≡ first_fault (field file 0 1)
  pub code_field : None ≡ first_fault (field file code_start 2)
  pub targets_field : None ≡ first_fault (field file (targets_at file) 3)

-- the whole file: the three fields, one after another
module _ (claims : Bool) (file : List ℕ) where
  refused_reads : (f : Fault) → first_fault (readable_by (asked claims) file) ≡ Some f → refused f ≡ reading_by claims file
  unfolding reading_by
  refused_reads f named = rw named

  module _ (f : Fault) where
    pub first_refused : Some f ≡ first_fault (field file 0 1) → refused f ≡ reading_by claims file
    unfolding readable_by
    first_refused named = refused_reads f (append_faulty _ _ f (sym named))

    module _ (first : None ≡ first_fault (field file 0 1)) where
      pub second_refused : Some f ≡ first_fault (field file code_start 2) → refused f ≡ reading_by claims file
      unfolding readable_by
      second_refused named = refused_reads f (append_faultless _ _ (sym first) ∙ append_faulty _ _ f (sym named))

      pub third_refused : None ≡ first_fault (field file code_start 2) → Some f ≡ first_fault (field file (targets_at file) 3)
          → refused f ≡ reading_by claims file
      unfolding readable_by
      third_refused second named =
          refused_reads f (append_faultless _ _ (sym first) ∙ append_faultless _ _ (sym second) ∙ append_faulty _ _ f (sym named))

  -- behind them 4, at the end of the third, and then the module
  module _ (stand : FieldsStand file) {end : ℕ} (is-end : end ≡ field_end file (targets_at file)) where
    behind_fields : first_fault (readable_by (asked claims) file)
        ≡ first_fault (owes 4 (field_end file (targets_at file)) (eqb (length file) (field_end file (targets_at file)))
        ∷ module_rules (asked claims) (layout_in file) (code_in file) (targets_in file))
    unfolding readable_by
    behind_fields =
        append_faultless _ _ (sym stand.layout_field) ∙ append_faultless _ _ (sym stand.code_field) ∙ append_faultless _ _ (sym stand.targets_field)

    pub bytes_left : (length file ≡ end → ⊥) → refused (fault 4 end) ≡ reading_by claims file
    bytes_left longer =
        rw is-end (refused_reads _ (behind_fields ∙ head_unmet _ _ (ne_eqb _ _ (λ e. longer (e ∙ sym is-end)))))

    -- the module's three parts, and what was found of them, which is all that is left
    module _ (ends : length file ≡ end) {l : Layout} {code targets : List ℕ} (same_layout : l ≡ layout_in file) (is_code : code ≡ code_in file)
        (is_targets : targets ≡ targets_in file) where
      left : first_fault (module_rules (asked claims) l code targets) ≡ first_fault (readable_by (asked claims) file)
      left = rw (same_layout, is_code, is_targets) (sym (behind_fields ∙ head_met _ _ (eq-eqb _ _ (ends ∙ is-end))))

      pub module_refused : (f : Fault) → Some f ≡ first_fault (module_rules (asked claims) l code targets) → refused f ≡ reading_by claims file
      module_refused f named = refused_reads f (sym (named ∙ left))

      pub module_holds : None ≡ first_fault (module_rules (asked claims) l code targets)
          → holds l (instruction_count code) (target_count targets) ≡ reading_by claims file
      unfolding reading_by
      module_holds none = rw (← none ∙ left, same_layout, is_code, is_targets)
