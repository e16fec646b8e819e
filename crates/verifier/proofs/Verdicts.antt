-- The verdict on a file: from what the reader and the check of the code answer to the judgement. By the laws of first faults.
-- Assumes nothing.
use Prim.Native.Nat.{ℕ}
use mathlib.Core.Path.{◌≡◌, sym, ◌∙◌}
use mathlib.Core.Bool.{true}
use mathlib.Core.List.{List}
use Rattle.std.specs.Prelude.{None, Some, Ok, Err}
use Rattle.model.specs.declared.Limits.{Limits}
use Rattle.model.specs.declared.Refusal.{Refusal}
use Rattle.model.specs.Obligations.{first_fault}
use Rattle.model.specs.Answers.{fault_of, judgement_of}
use Rattle.model.specs.File.{code_in, targets_in, program_in}
use Rattle.model.specs.Limits.{loadable}
use Rattle.model.specs.Judgement.{verified, obligations, first_broken, judgement}
use Rattle.model.proofs.Faults.{append_faultless, append_faulty}
use Rattle.reader.specs.declared.module.Module.{Module}
use Rattle.reader.proofs.Passes.{LoadFacts}
use Rattle.reader.specs.Readings.{program}

module _ (limits : Limits) (file : List ℕ) where
  -- a fault that is judged is the verdict
  refused_with : (x : Refusal) → first_broken limits file ≡ Some (fault_of x) → judgement_of (Err x) ≡ judgement limits file
  unfolding judgement_of judgement
  refused_with x first = rw first

  -- 1 to 7 and 17
  pub unloadable : (x : Refusal) → first_fault (loadable limits file) ≡ Some (fault_of x) → judgement_of (Err x) ≡ judgement limits file
  unfolding first_broken obligations
  unloadable x first = refused_with x (append_faulty (loadable limits file) (verified (program_in file)) (fault_of x) first)

  module _ (m : Module) (facts : LoadFacts true limits file m.layout m.held.instructions m.held.targets)
      (is_code : m.code.now ≡ code_in file) (is_targets : m.targets.now ≡ targets_in file) where
    -- behind these the first fault is that of the code
    code_decides : first_broken limits file ≡ first_fault (verified (program m))
    unfolding first_broken obligations
    code_decides =
        append_faultless (loadable limits file) (verified (program_in file)) facts.found
        ∙ rw (facts.read.same_layout, is_code, is_targets)

    pub code_accepted : None ≡ first_fault (verified (program m)) → judgement_of (Ok m.held) ≡ judgement limits file
    unfolding judgement_of judgement
    code_accepted met =
        let no-fault : first_broken limits file ≡ None = code_decides ∙ sym met in
        rw (no-fault, facts.read.count_is, facts.read.is_targets)

    -- 8 to 13
    pub code_refused : (x : Refusal) → Some (fault_of x) ≡ first_fault (verified (program m)) → judgement_of (Err x) ≡ judgement limits file
    code_refused x unmet = refused_with x (code_decides ∙ sym unmet)
