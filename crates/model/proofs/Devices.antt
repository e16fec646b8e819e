-- Document 02, ticket 8: what a device's limits make of a verdict, of a run and of claims that are worked out. A file that is not readable
-- gets what it gets anyway, one that is over the limits 17, and any other what it would get without limits. Assumes nothing.
use Prim.Native.Nat.{ℕ}
use mathlib.Core.Path.{◌≡◌, refl, sym, ap, ◌∙◌}
use mathlib.Core.Bool.{Bool}
use mathlib.Core.List.{List, ◌++◌}
use Rattle.std.specs.Prelude.{Option, None, Some}
use native.Mathlib.Omega.{arith}
use Rattle.model.specs.declared.Limits.{Limits}
use Rattle.model.specs.declared.Machine.{Machine}
use Rattle.model.specs.Obligations.{Fault, fault, Obligation, first_fault}
use Rattle.model.specs.Answers.{refused}
use Rattle.model.specs.File.{TargetRow, is_placed_target, is_good_target, readable_by, readable, program_in}
use Rattle.model.specs.Limits.{box_limits, plate_limits, loadable_by, loadable, sweepable}
use Rattle.model.specs.Judgement.{verified, obligations, first_broken, concluded, judgement}
use Rattle.model.specs.Rules.{FileHolds, FileKept, FilePlaced, HeldBy}
use Rattle.model.specs.Run.{unchanged, runnable, run_on}
use Rattle.model.specs.Claims.{finished_file, work_out}
use Rattle.model.specs.Promises.{LimitsNamed, BoxHoldsAll, OverLimits, SameWithin}
use Rattle.model.proofs.Faults.{append_alike, append_faultless, append_faulty}
use Rattle.model.proofs.Numbers.{Numbered, append_numbered, first_numbered, readable_numbered, verified_numbered, refused_judged, accepted_judged, told}
use Rattle.model.proofs.Accepted.{limits_iff, limits_over, readable_iff, placed_iff, accepted_iff, sweepable_iff}
use Rattle.model.proofs.Stretches.{code_whole, targets_whole}
use Rattle.model.proofs.Claims.Answering.{early_answer, judged_answer, refused_numbered, finished_held}

-- ---- what is found of a file before anything else, whatever is asked of a target

module _ (good : ℕ → (ℕ → TargetRow) → ℕ → Bool) (limits : Limits) (file : List ℕ) where
  found_unread : (f : Fault) → first_fault (readable_by good file) ≡ Some f → first_fault (loadable_by good limits file) ≡ Some f
  unfolding loadable_by
  found_unread f named = append_faulty (readable_by good file) _ f named

  found_over : first_fault (readable_by good file) ≡ None → (HeldBy limits file → ⊥) → first_fault (loadable_by good limits file) ≡ Some (fault 17 0)
  unfolding loadable_by
  found_over reads over = append_faultless (readable_by good file) _ reads ∙ limits_over limits _ _ over

  found_none : first_fault (readable_by good file) ≡ None → HeldBy limits file → first_fault (loadable_by good limits file) ≡ None
  unfolding loadable_by
  found_none reads held = append_faultless (readable_by good file) _ reads ∙ (limits_iff limits _ _).1 held

  -- as without limits
  found_held : (first_fault (readable_by good file) ≡ None → HeldBy limits file)
      → first_fault (loadable_by good limits file) ≡ first_fault (readable_by good file)
  found_held held = by_found (first_fault (readable_by good file)) refl
    where
      by_found : (found : Option Fault) → first_fault (readable_by good file) ≡ found
          → first_fault (loadable_by good limits file) ≡ first_fault (readable_by good file)
      by_found None reads = found_none reads (held reads) ∙ sym reads
      by_found (Some f) named = found_unread f named ∙ sym named

-- ---- verdicts and runs, of what is found first

module _ (limits : Limits) (file : List ℕ) where
  verdict_found : (f : Fault) → first_fault (loadable limits file) ≡ Some f → judgement limits file ≡ refused f
  unfolding judgement first_broken obligations
  verdict_found f named = ap (concluded file) (append_faulty (loadable limits file) _ f named)

  run_found : (m : Machine) (memory : List ℕ) (offset budget : ℕ) (f : Fault) → first_fault (loadable limits file) ≡ Some f
      → run_on limits file m memory offset budget ≡ unchanged m memory f
  unfolding run_on runnable
  run_found m memory offset budget f named = rw (append_faulty (loadable limits file) _ f named)

module _ (one other : Limits) (file : List ℕ) (same : first_fault (loadable one file) ≡ first_fault (loadable other file)) where
  verdict_same : judgement one file ≡ judgement other file
  unfolding judgement first_broken obligations
  verdict_same = ap (concluded file) (append_alike (loadable one file) (loadable other file) _ same)

  run_same : (m : Machine) (memory : List ℕ) (offset budget : ℕ) → run_on one file m memory offset budget ≡ run_on other file m memory offset budget
  unfolding run_on runnable
  run_same m memory offset budget = rw (append_alike (loadable one file) (loadable other file) _ same)

-- ---- within both limits, or not readable

same_found : (good : ℕ → (ℕ → TargetRow) → ℕ → Bool) (one other : Limits) (file : List ℕ)
    → (first_fault (readable_by good file) ≡ None → HeldBy one file × HeldBy other file)
    → first_fault (loadable_by good one file) ≡ first_fault (loadable_by good other file)
same_found good one other file held =
    found_held good one file (λ reads. (held reads).0) ∙ sym (found_held good other file (λ reads. (held reads).1))

same_verdict : (one other : Limits) (file : List ℕ) → (FileKept file → HeldBy one file × HeldBy other file)
    → judgement one file ≡ judgement other file
same_verdict one other file held =
    verdict_same one other file (same_found is_good_target one other file (λ reads. held ((readable_iff file).0 reads)))

-- and so of the finished file, which has as many instructions and targets
same_worked_out : (one other : Limits) (file : List ℕ) → (FilePlaced file → HeldBy one file × HeldBy other file)
    → work_out one file ≡ work_out other file
same_worked_out one other file held = by_found (first_fault (sweepable one file)) refl
  where
    same : first_fault (sweepable one file) ≡ first_fault (sweepable other file)
    same = same_found is_placed_target one other file (λ reads. held ((placed_iff file).0 reads))

    by_found : (found : Option Fault) → first_fault (sweepable one file) ≡ found → work_out one file ≡ work_out other file
    by_found None passes =
        let placed = ((sweepable_iff one file).0 passes).0 in
        let finished : judgement one (finished_file file) ≡ judgement other (finished_file file) =
        same_verdict one other (finished_file file)
        (λ _. (finished_held one file placed (held placed).0, finished_held other file placed (held placed).1)) in
        judged_answer one file passes _ finished ∙ sym (judged_answer other file (sym same ∙ passes) _ refl)
    by_found (Some f) named = early_answer one file f named ∙ sym (early_answer other file f (sym same ∙ named))

-- ---- the box

-- it holds as much as a file can have
module _ {Good : ℕ → (ℕ → TargetRow) → ℕ → Type 0} (file : List ℕ) (kept : FileHolds Good file) where
  box_holds : HeldBy box_limits file
  box_holds =
      let code = code_whole file kept in
      let targets = targets_whole file kept in
      record { instructions = omega (arith, code.2, code.3); targets = omega (arith, targets.2, targets.3) }

abbrev Not17 : ℕ → Type 0
Not17 n = n ≡ 17 → ⊥

readable_not_17 : (good : ℕ → (ℕ → TargetRow) → ℕ → Bool) (file : List ℕ) → Numbered Not17 (readable_by good file)
readable_not_17 = readable_numbered Not17 (λ n _ most over. omega (arith, most, over))

-- of what is judged behind 1 to 7 and 17
box_found : (file : List ℕ) (later : List Obligation) (f : Fault) → Numbered Not17 later
    → first_fault (loadable box_limits file ++ later) ≡ Some f → f.number ≡ 17 → ⊥
box_found file later f numbered named =
    first_numbered Not17 (readable file ++ later) f (append_numbered Not17 (readable file) later (readable_not_17 is_good_target file) numbered)
    (append_alike (readable file) (loadable box_limits file) later
    (sym (found_held is_good_target box_limits file (λ reads. box_holds file ((readable_iff file).0 reads))))
    ∙ named)

box_broken : (file : List ℕ) (f : Fault) → first_broken box_limits file ≡ Some f → f.number ≡ 17 → ⊥
unfolding first_broken obligations
box_broken file f named =
    box_found file (verified (program_in file)) f
    (verified_numbered Not17 (λ n _ most over. omega (arith, most, over)) (program_in file)) named

box_runs : (file : List ℕ) (m : Machine) (memory : List ℕ) (offset : ℕ) (f : Fault)
    → first_fault (runnable box_limits file m memory offset) ≡ Some f → f.number ≡ 17 → ⊥
unfolding runnable
box_runs file m memory offset f named = box_found file _ f (λ over. omega (arith, over), (λ over. omega (arith, over), tt)) named

pub box_holds_all : BoxHoldsAll
box_holds_all = record {
  held = box_holds;
  placed = box_holds;
  verdict = λ file f is. box_broken file f (refused_judged box_limits file f is);
  run = λ file m memory offset budget f n is. box_runs file m memory offset f (told box_limits file m memory offset budget f n is).fault;
  worked_out = λ file.
      refused_numbered box_limits file Not17
      (λ f named. first_numbered Not17 (readable_by is_placed_target file) f (readable_not_17 is_placed_target file)
      (sym (found_held is_placed_target box_limits file (λ reads. box_holds file ((placed_iff file).0 reads))) ∙ named))
      (λ f _ broken. box_broken (finished_file file) f broken);
}

-- ---- the other promises

pub limits_named : LimitsNamed
limits_named = record { box = refl; plate = refl }

pub over_limits : OverLimits
over_limits = record {
  verdict = λ limits file kept over. verdict_found limits file _ (found_over is_good_target limits file ((readable_iff file).1 kept) over);
  run = λ limits file m memory offset budget kept over.
      run_found limits file m memory offset budget _ (found_over is_good_target limits file ((readable_iff file).1 kept) over);
  worked_out = λ limits file placed over.
      early_answer limits file _ (found_over is_placed_target limits file ((placed_iff file).1 placed) over);
  unreadable = λ limits file f named. verdict_found limits file f (found_unread is_good_target limits file f named);
  unreadable_run = λ limits file m memory offset budget f named.
      run_found limits file m memory offset budget f (found_unread is_good_target limits file f named);
  unplaced = λ limits file f named. early_answer limits file f (found_unread is_placed_target limits file f named);
}

pub same_within : SameWithin
same_within = record {
  verdict = same_verdict;
  run = λ one other file m memory offset budget held.
      run_same one other file (same_found is_good_target one other file (λ reads. held ((readable_iff file).0 reads))) m memory offset budget;
  worked_out = same_worked_out;
  from_plate = λ file n k is.
      let held = ((accepted_iff plate_limits file).0 (accepted_judged plate_limits file n k is)).held in
      sym (same_verdict plate_limits box_limits file (λ kept. (held, box_holds file kept))) ∙ is;
}
