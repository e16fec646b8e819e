-- The numbers of faults: what holds of the number of every obligation of a list holds of its first fault's, and so which numbers the
-- verifier's and a run's refusals have. Assumes nothing.
use Prim.Native.Nat.{ℕ, zero, suc, ◌≤◌}
use mathlib.Core.Path.{◌≡◌, refl, sym, ap}
use mathlib.Core.Bool.{Bool, true, false}
use mathlib.Core.Logic.{◌⊎◌, inl, inr}
use mathlib.Core.List.{List, [], ◌∷◌, ◌++◌}
use Rattle.std.specs.Prelude.{Option, None, Some}
use Rattle.std.proofs.lemmas.Option.{none-some, same_Some}
use native.Mathlib.Omega.{arith}
use Rattle.model.specs.declared.Instruction.{Instruction}
use Rattle.model.specs.declared.Layout.{Layout}
use Rattle.model.specs.declared.Limits.{Limits}
use Rattle.model.specs.declared.Machine.{Machine}
use Rattle.model.specs.Obligations.{Fault, Obligation, fault_unless, first_fault, each_from}
use Rattle.model.specs.Answers.{accepted, refused, rejected}
use Rattle.model.specs.File.{code_start, targets_at, code_in, targets_in, instruction_count, target_count, instruction_in, TargetRow, target_row_in, instruction_rules, table_rules, field, layout_in, readable_by, readable, program_in}
use Rattle.model.specs.Limits.{limit_rules, loadable_by, loadable, sweepable}
use Rattle.model.specs.Program.{Program}
use Rattle.model.specs.Judgement.{before_next, at_index, verified, obligations, first_broken, concluded, judgement}
use Rattle.model.specs.Run.{Run, run, stretch, Seen, finished, runnable, unless_refused, run_on}
use Rattle.model.specs.Promises.{RefusalsListed, RefusalKeeps}

module _ (P : ℕ → Type 0) where
  abbrev pub Numbered : List Obligation → Type 0
  Numbered [] = Unit {0}
  Numbered (o ∷ os) = P o.fault.number × Numbered os

  pub append_numbered : (xs ys : List Obligation) → Numbered xs → Numbered ys → Numbered (xs ++ ys)
  append_numbered [] ys hx hy = hy
  append_numbered (x ∷ xs) ys hx hy = (hx.0, append_numbered xs ys hx.1 hy)

  each_numbered : (i n : ℕ) (f : ℕ → List Obligation) → ((j : ℕ) → Numbered (f j)) → Numbered (each_from i n f)
  unfolding each_from
  each_numbered i zero f h = tt
  each_numbered i (suc n) f h = append_numbered (f i) (each_from (suc i) n f) (h i) (each_numbered (suc i) n f h)

  pub first_numbered : (os : List Obligation) (f : Fault) → Numbered os → first_fault os ≡ Some f → P f.number
  unfolding first_fault
  first_numbered [] f h e = absurd (none-some f e)
  first_numbered (o ∷ os) f h e = by_head o.met (λ r. first_numbered os f h.1 r) e
    where
      by_head : (met : Bool) → (first_fault os ≡ Some f → P f.number) → fault_unless met o.fault (first_fault os) ≡ Some f
          → P f.number
      by_head true later r = later r
      by_head false later r = rw (same_Some o.fault f r) at h.0

  -- 5, 6 and 7
  module _ (layout : P 5) (instruction : P 6) (target : P 7) where
    pub tables_numbered : (good : ℕ → (ℕ → TargetRow) → ℕ → Bool) (l : Layout) (n : ℕ) (decodes : ℕ → Option Instruction)
        (k : ℕ) (targets : ℕ → TargetRow) → Numbered (table_rules good l n decodes k targets)
    tables_numbered good l n decodes k targets = (
      layout,
      append_numbered (instruction_rules n decodes) _ (each_numbered 0 n _ (λ i. (instruction, tt)))
          (each_numbered 0 k _ (λ j. (target, tt))),
    )

  -- refusals 1 to 7
  module _ (low : (n : ℕ) → 1 ≤ n → n ≤ 7 → P n) where
    field_numbered : (file : List ℕ) (at tag : ℕ) → Numbered (field file at tag)
    unfolding field
    field_numbered file at tag =
        (low 1 (omega arith) (omega arith), (low 2 (omega arith) (omega arith), (low 3 (omega arith) (omega arith), (low 1 (omega arith) (omega arith), tt))))

    pub readable_numbered : (good : ℕ → (ℕ → TargetRow) → ℕ → Bool) (file : List ℕ) → Numbered (readable_by good file)
    unfolding readable_by
    readable_numbered good file =
        append_numbered (field file 0 1) _ (field_numbered file 0 1)
        (append_numbered (field file code_start 2) _ (field_numbered file code_start 2)
        (append_numbered (field file (targets_at file) 3) _ (field_numbered file (targets_at file) 3) (
          low 4 (omega arith) (omega arith),
          tables_numbered (low 5 (omega arith) (omega arith)) (low 6 (omega arith) (omega arith)) (low 7 (omega arith) (omega arith))
              good (layout_in file) (instruction_count (code_in file)) (instruction_in (code_in file)) (target_count (targets_in file))
              (target_row_in (targets_in file)),
        )))

    -- and 17
    pub loadable_numbered : (good : ℕ → (ℕ → TargetRow) → ℕ → Bool) (limits : Limits) (file : List ℕ) → P 17 → Numbered (loadable_by good limits file)
    unfolding loadable_by limit_rules
    loadable_numbered good limits file over = append_numbered (readable_by good file) _ (readable_numbered good file) (over, tt)

  -- refusals 8 to 13
  module _ (code : (n : ℕ) → 8 ≤ n → n ≤ 13 → P n) where
    index_numbered : P 12 → P 9 → P 10 → P 8 → P 13 → P 11 → (p : Program) (i : ℕ) → Numbered (at_index p i)
    unfolding at_index before_next
    index_numbered unreachable unchecked wild no_target falls_off broken p i =
        (unreachable, (unchecked, (wild, (no_target, (falls_off, (broken, (broken, tt)))))))

    pub verified_numbered : (p : Program) → Numbered (verified p)
    unfolding verified
    verified_numbered p =
        each_numbered 0 _ (at_index p)
        (index_numbered (code 12 (omega arith) (omega arith)) (code 9 (omega arith) (omega arith)) (code 10 (omega arith) (omega arith))
        (code 8 (omega arith) (omega arith)) (code 13 (omega arith) (omega arith)) (code 11 (omega arith) (omega arith)) p)

-- the verifier's, 1 to 13 and 17
abbrev pub ForVerdict : ℕ → Type 0
ForVerdict n = ((1 ≤ n) × (n ≤ 13)) ⊎ (n ≡ 17)

obligations_numbered : (limits : Limits) (file : List ℕ) → Numbered ForVerdict (obligations limits file)
unfolding obligations
obligations_numbered limits file =
    append_numbered ForVerdict (loadable limits file) _
    (loadable_numbered ForVerdict (λ n least most. inl (least, omega arith)) _ limits file (inr refl))
    (verified_numbered ForVerdict (λ n least most. inl (omega arith, most)) (program_in file))

-- a run's, 1 to 7, 14, 15 and 17
abbrev pub ForRun : ℕ → Type 0
ForRun n = (((1 ≤ n) × (n ≤ 7)) ⊎ ((14 ≤ n) × (n ≤ 15))) ⊎ (n ≡ 17)

runnable_numbered : (limits : Limits) (file : List ℕ) (m : Machine) (memory : List ℕ) (offset : ℕ)
    → Numbered ForRun (runnable limits file m memory offset)
unfolding runnable
runnable_numbered limits file m memory offset =
    append_numbered ForRun (loadable limits file) _
    (loadable_numbered ForRun (λ n least most. inl (inl (least, most))) _ limits file (inr refl))
    (inl (inr (omega arith)), (inl (inr (omega arith)), tt))

-- what is named is one of them
pub readable_listed : (file : List ℕ) (f : Fault) → first_fault (readable file) ≡ Some f → 1 ≤ f.number
readable_listed file f named = first_numbered (λ n. 1 ≤ n) (readable file) f (readable_numbered (λ n. 1 ≤ n) (λ n least most. least) _ file) named

-- before any sweep: 1 to 7 and 17
abbrev pub ForSweeps : ℕ → Type 0
ForSweeps n = ((1 ≤ n) × (n ≤ 7)) ⊎ (n ≡ 17)

pub sweepable_listed : (limits : Limits) (file : List ℕ) (f : Fault) → first_fault (sweepable limits file) ≡ Some f → ForSweeps f.number
sweepable_listed limits file f named =
    first_numbered ForSweeps (sweepable limits file) f
    (loadable_numbered ForSweeps (λ n least most. inl (least, most)) _ limits file (inr refl)) named

pub judged_listed : (limits : Limits) (file : List ℕ) (f : Fault) → first_broken limits file ≡ Some f → ForVerdict f.number
unfolding first_broken
judged_listed limits file f named = first_numbered ForVerdict (obligations limits file) f (obligations_numbered limits file) named

pub runnable_listed : (limits : Limits) (file : List ℕ) (m : Machine) (memory : List ℕ) (offset : ℕ) (f : Fault)
    → first_fault (runnable limits file m memory offset) ≡ Some f → ForRun f.number
runnable_listed limits file m memory offset f named =
    first_numbered ForRun (runnable limits file m memory offset) f (runnable_numbered limits file m memory offset) named

pub refused_judged : (limits : Limits) (file : List ℕ) (f : Fault) → judgement limits file ≡ refused f → first_broken limits file ≡ Some f
unfolding judgement
refused_judged limits file f is = by_fault (first_broken limits file) is
  where
    by_fault : (o : Option Fault) → concluded file o ≡ refused f → o ≡ Some f
    by_fault None same = absurd (let impossible : ◌≡◌ {A = ℕ} 0 1 = cc in omega arith)
    by_fault (Some g) same = cc

pub accepted_judged : (limits : Limits) (file : List ℕ) (n k : ℕ) → judgement limits file ≡ accepted n k → first_broken limits file ≡ None
unfolding judgement
accepted_judged limits file n k is = by_fault (first_broken limits file) is
  where
    by_fault : (o : Option Fault) → concluded file o ≡ accepted n k → o ≡ None
    by_fault None same = refl
    by_fault (Some f) same = absurd (let impossible : ◌≡◌ {A = ℕ} 0 1 = cc in omega arith)

-- what a report of a refusal tells: the fault, no steps, and that nothing is changed
pub record Told (os : Option Fault) (m : Machine) (memory : List ℕ) (f : Fault) (n : ℕ) (seen : Seen) : Type 0 where
  pub fault : os ≡ Some f
  pub steps : n ≡ 0
  pub machine_kept : seen.machine ≡ m
  pub memory_kept : seen.memory ≡ memory

pub told : (limits : Limits) (file : List ℕ) (m : Machine) (memory : List ℕ) (offset budget : ℕ) (f : Fault) (n : ℕ)
    → (run_on limits file m memory offset budget).report ≡ rejected f n
    → Told (first_fault (runnable limits file m memory offset)) m memory f n (run_on limits file m memory offset budget)
unfolding run_on
told limits file m memory offset budget f n is =
    by_fault (run (program_in file) budget m (stretch offset size memory)) (first_fault (runnable limits file m memory offset)) is
  where
    size : ℕ
    size = (layout_in file).size

    by_fault : (r : Run) (o : Option Fault) → (unless_refused m memory (finished offset size memory r) o).report ≡ rejected f n
        → Told o m memory f n (unless_refused m memory (finished offset size memory r) o)
    by_fault r None same = absurd (let impossible : ◌≡◌ {A = ℕ} 0 1 = cc in omega arith)
    by_fault r (Some g) same =
        let fault : ◌≡◌ {A = Fault} g f = cc in
        let steps : ◌≡◌ {A = ℕ} 0 n = cc in
        record { fault = ap Some fault; steps = sym steps; machine_kept = refl; memory_kept = refl }

pub refusals_listed : RefusalsListed
refusals_listed = record {
  verdict = λ limits file f is. judged_listed limits file f (refused_judged limits file f is);
  run = λ limits file m memory offset budget f n is.
      runnable_listed limits file m memory offset f (told limits file m memory offset budget f n is).fault;
}

pub refusal_keeps : RefusalKeeps
refusal_keeps = record {
  run = λ limits file m memory offset budget f n is.
      let t = told limits file m memory offset budget f n is in (t.steps, t.machine_kept, t.memory_kept);
}
