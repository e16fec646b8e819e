-- What a reading tells: where a module is held, its file keeps rules 1 to 7, and its stretches are what machine and verifier go on
-- with; and a refusal is the first fault. Assumes nothing.
use Prim.Native.Nat.{ℕ}
use mathlib.Core.Path.{◌≡◌, refl, sym, ap, ◌∙◌}
use mathlib.Core.Logic.{◌↔◌}
use mathlib.Core.Bool.{Bool, true, false}
use mathlib.Core.List.{List}
use Rattle.std.specs.Prelude.{Option, None, Some, Result, Ok, Err}
use native.Mathlib.Omega.{arith}
use Rattle.model.specs.declared.Layout.{Layout}
use Rattle.model.specs.declared.Limits.{Limits}
use Rattle.model.specs.declared.Refusal.{Refusal}
use Rattle.model.specs.Answers.{fault_of}
use Rattle.model.specs.Obligations.{Fault, first_fault}
use Rattle.model.specs.File.{code_in, targets_in, instruction_count, target_count, layout_in, TargetRow, readable_by}
use Rattle.model.specs.Limits.{limit_rules, loadable_by}
use Rattle.model.specs.Rules.{TargetPlaced, TargetKept, ModuleHolds, ModulePlaced, FileHolds, HeldBy}
use Rattle.model.proofs.Obligations.{append_fault}
use Rattle.model.proofs.Faults.{append_faultless, append_faulty}
use Rattle.model.proofs.Accepted.{readable_iff, placed_iff, limits_iff}
use Rattle.model.proofs.Targets.{module_placed}
use Rattle.model.proofs.Stretches.{code_whole, targets_whole}
use Rattle.reader.specs.declared.module.Module.{Module}
use Rattle.reader.specs.Readings.{holds, refused, asked, read_report, reading_by, loading_by, reading_of}
use Rattle.reader.specs.Loading.{Loaded}

-- what is asked of a target, in the rules' terms
abbrev pub Asked : Bool → ℕ → (ℕ → TargetRow) → ℕ → Type 0
Asked true = TargetKept
Asked false = TargetPlaced

pub record ReadFacts (claims : Bool) (file : List ℕ) (l : Layout) (n k : ℕ) : Type 0 where
  pub kept : FileHolds (Asked claims) file
  pub same_layout : l ≡ layout_in file
  pub count_is : n ≡ instruction_count (code_in file)
  pub is_targets : k ≡ target_count (targets_in file)
  pub loaded : Loaded l (code_in file) (targets_in file) n k
  pub faultless : first_fault (readable_by (asked claims) file) ≡ None

pub record LoadFacts (claims : Bool) (limits : Limits) (file : List ℕ) (l : Layout) (n k : ℕ) : Type 0 where
  pub read : ReadFacts claims file l n k
  pub held : HeldBy limits file
  pub found : first_fault (loadable_by (asked claims) limits file) ≡ None

asked_iff : (claims : Bool) (file : List ℕ) → (first_fault (readable_by (asked claims) file) ≡ None) ↔ FileHolds (Asked claims) file
asked_iff true = readable_iff
asked_iff false = placed_iff

still_placed : (claims : Bool) {l : Layout} {code targets : List ℕ} → ModuleHolds (Asked claims) l code targets → ModulePlaced l code targets
still_placed true kept = module_placed kept
still_placed false kept = kept

module _ (claims : Bool) (file : List ℕ) where
  -- a file that keeps rules 1 to 7, or these but for the order of claims' ends
  kept_loaded : FileHolds (Asked claims) file
      → Loaded (layout_in file) (code_in file) (targets_in file) (instruction_count (code_in file)) (target_count (targets_in file))
  kept_loaded kept =
      let code = code_whole file kept in
      let targets = targets_whole file kept in
      record {
        kept = still_placed claims kept.holds;
        code_whole = omega (arith, code.3);
        targets_whole = omega (arith, targets.3);
        n_some = omega (arith, code.1, code.3);
        n_most = omega (arith, code.2, code.3);
        k_some = omega (arith, targets.1, targets.3);
        k_most = omega (arith, targets.2, targets.3);
      }

  -- a report of layout and counts, or of a fault, tells what was found
  report_holds : {l : Layout} {n k : ℕ} (found : Option Fault) → read_report file found ≡ holds l n k
      → (found ≡ None) × (l ≡ layout_in file) × (n ≡ instruction_count (code_in file)) × (k ≡ target_count (targets_in file))
  report_holds None same = (refl, cc, cc, cc)
  report_holds (Some f) same = absurd (let z : ◌≡◌ {A = ℕ} 0 1 = cc in omega arith)

  report_refuses : (f : Fault) (found : Option Fault) → read_report file found ≡ refused f → found ≡ Some f
  report_refuses f None same = absurd (let z : ◌≡◌ {A = ℕ} 0 1 = cc in omega arith)
  report_refuses f (Some g) same = let this : g ≡ f = cc in ap Some this

  facts_of : (l : Layout) (n k : ℕ) → first_fault (readable_by (asked claims) file) ≡ None → l ≡ layout_in file
      → n ≡ instruction_count (code_in file) → k ≡ target_count (targets_in file) → ReadFacts claims file l n k
  facts_of l n k passed same_layout is-n is-k =
      let kept : FileHolds (Asked claims) file = (asked_iff claims file).0 passed in
      record {
        kept = kept;
        same_layout = same_layout;
        count_is = is-n;
        is_targets = is-k;
        loaded = rw (same_layout, is-n, is-k) (kept_loaded kept);
        faultless = passed;
      }

  pub read_holds : (l : Layout) (n k : ℕ) → reading_by claims file ≡ holds l n k → ReadFacts claims file l n k
  unfolding reading_by
  read_holds l n k is = let (passed, layout, is-n, is-k) = report_holds _ is in facts_of l n k passed layout is-n is-k

  -- and where the stretches of its code and targets are held by themselves
  pub module_loaded : {l : Layout} {code targets : List ℕ} → code ≡ code_in file → targets ≡ targets_in file
      → holds l (instruction_count code) (target_count targets) ≡ reading_by claims file
      → Loaded l code targets (instruction_count code) (target_count targets)
  module_loaded {l} {code} {targets} is_code is_targets held =
      let read : reading_by claims file ≡ holds l (instruction_count code) (target_count targets) = sym held in
      rw (is_code, is_targets) (read_holds _ _ _ (rw (is_code, is_targets) at read)).loaded

  pub read_refuses : (f : Fault) → reading_by claims file ≡ refused f → first_fault (readable_by (asked claims) file) ≡ Some f
  unfolding reading_by
  read_refuses f is = report_refuses f _ is

  -- and the same of what the reader answers
  module _ (p : Result Module Refusal) (answers : reading_of p ≡ reading_by claims file) where
    pub module_read : (m : Module) → p ≡ Ok m → ReadFacts claims file m.layout m.held.instructions m.held.targets
    unfolding reading_of
    module_read m is = read_holds m.layout m.held.instructions m.held.targets (sym answers ∙ ap reading_of is)

    pub file_refused : (x : Refusal) → p ≡ Err x → first_fault (readable_by (asked claims) file) ≡ Some (fault_of x)
    unfolding reading_of
    file_refused x is = read_refuses (fault_of x) (sym answers ∙ ap reading_of is)

  -- ---- on a device

  module _ (limits : Limits) where
    pub load_holds : (l : Layout) (n k : ℕ) → loading_by claims limits file ≡ holds l n k → LoadFacts claims limits file l n k
    unfolding loading_by loadable_by
    load_holds l n k is =
        let (passed, layout, is-n, is-k) = report_holds _ is in
        let both = (append_fault (readable_by (asked claims) file) _).0 passed in
        record {
          read = facts_of l n k both.0 layout is-n is-k;
          held = (limits_iff limits _ _).0 both.1;
          found = passed;
        }

    module _ (p : Result Module Refusal) (answers : reading_of p ≡ loading_by claims limits file) where
      pub module_load : (m : Module) → p ≡ Ok m → LoadFacts claims limits file m.layout m.held.instructions m.held.targets
      unfolding reading_of
      module_load m is = load_holds m.layout m.held.instructions m.held.targets (sym answers ∙ ap reading_of is)

      pub load_refused : (x : Refusal) → p ≡ Err x → first_fault (loadable_by (asked claims) limits file) ≡ Some (fault_of x)
      unfolding reading_of loading_by
      load_refused x is = report_refuses (fault_of x) _ (sym answers ∙ ap reading_of is)

    -- what is answered of a file that is not readable, of one that is over the limits, and of one that is within them
    pub load_unread : (x : Refusal) → first_fault (readable_by (asked claims) file) ≡ Some (fault_of x) → reading_of (Err x) ≡ loading_by claims limits file
    unfolding reading_of loading_by loadable_by
    load_unread x named = sym (ap (read_report file) (append_faulty (readable_by (asked claims) file) _ (fault_of x) named))

    module _ {l : Layout} {n k : ℕ} (read : ReadFacts claims file l n k) where
      pub load_over : (x : Refusal) → Some (fault_of x) ≡ first_fault (limit_rules limits n k) → reading_of (Err x) ≡ loading_by claims limits file
      unfolding reading_of loading_by loadable_by
      load_over x over =
          sym (ap (read_report file) (append_faultless (readable_by (asked claims) file) _ read.faultless ∙ sym (rw (read.count_is, read.is_targets) at over)))

      pub load_within : None ≡ first_fault (limit_rules limits n k) → holds l n k ≡ loading_by claims limits file
      unfolding loading_by loadable_by
      load_within within =
          rw (read.same_layout, read.count_is, read.is_targets)
          (sym (ap (read_report file) (append_faultless (readable_by (asked claims) file) _ read.faultless ∙ sym (rw (read.count_is, read.is_targets) at within))))
