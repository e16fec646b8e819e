-- What every step and every run of any program keep, verified or not: the pc inside the code, the number of registers and
-- of the region's bytes; and a step that ends the run changes nothing. Assumes nothing.
use Prim.Native.Nat.{ℕ, zero, suc, ◌+◌, ◌/◌, ◌%◌, ◌<◌}
use mathlib.Core.Path.{◌≡◌, refl, ◌∙◌}
use mathlib.Core.Bool.{Bool, true, false≢true}
use mathlib.Core.List.{List}
use Rattle.std.specs.Prelude.{Option, None, Some}
use native.Mathlib.Omega.{arith}
use lib.Dec.{ltb}
use lib.ListN.{length, set, length-set}
use borrow.Author.Tests.{ltb-true}
use Rattle.model.specs.declared.Ending.{Ending}
use Rattle.model.specs.declared.Ending.TheVariants.{Halted, Trapped, Denied, Violated, OutOfBudget}
use Rattle.model.specs.declared.Layout.{Layout}
use Rattle.model.specs.declared.Machine.{Machine}
use Rattle.model.specs.declared.Target.{Target}
use Rattle.model.specs.declared.Width.{Width}
use Rattle.model.specs.Words.{write_bytes}
use Rattle.model.specs.Quantifiers.{any_of}
use Rattle.model.specs.Program.{Program, target_at, is_target, is_indirect}
use Rattle.model.specs.Instructions.{bytes_of, width_read, holds, reg, load_access, Shape, stops, assigns, loads, stores, jumps, branches, checks, jumps_via}
use Rattle.model.specs.Step.{address, in_region, in_zones, Effect, goes_on, goes_to, goes_via, ends, accessing, effect, Landing, Step, stays, moves, settle, shape_at, step_of, step}
use Rattle.model.specs.Run.{Run, followed, run}
use Rattle.model.proofs.Tests.{by_cond}

-- the targets lie inside the code
abbrev pub TargetsInside : Program → Type 0
TargetsInside p = (i : ℕ) (t : Target) → target_at p.targets i ≡ Some t → i < length p.code

-- what a step keeps
pub record Steady (p : Program) (m : Machine) (bs : List ℕ) (s : Step) : Type 0 where
  pub pc_inside : s.machine.pc < length p.code
  pub registers_length : length s.machine.registers ≡ length m.registers
  pub region_length : length s.region ≡ length bs
  pub ending_keeps : (e : Ending) → s.ending ≡ Some e → (s.machine ≡ m) × (s.region ≡ bs)

-- what a run keeps
pub record RunSteady (p : Program) (m : Machine) (bs : List ℕ) (r : Run) : Type 0 where
  pub pc_inside : r.machine.pc < length p.code
  pub registers_length : length r.machine.registers ≡ length m.registers
  pub region_length : length r.region ≡ length bs

-- an ending that a step may have: none, or any but that the budget is used up
abbrev pub StepEnding : Option Ending → Type 0
StepEnding None = Unit {0}
StepEnding (Some Halted) = Unit {0}
StepEnding (Some Trapped) = Unit {0}
StepEnding (Some Denied) = Unit {0}
StepEnding (Some Violated) = Unit {0}
StepEnding (Some OutOfBudget) = ⊥

-- ---- what an instruction does

-- writing keeps the length
pub write_bytes-length : (n x : ℕ) (bytes : List ℕ) (at : ℕ) → length (write_bytes n x bytes at) ≡ length bytes
unfolding write_bytes
write_bytes-length zero x bytes at = refl
write_bytes-length (suc n) x bytes at =
    write_bytes-length n (x / 256) (set bytes at (x % 256)) (suc at) ∙ length-set bytes at (x % 256)

-- it keeps the number of registers and bytes, or ends the run as a step may
abbrev Moderate : List ℕ → List ℕ → Effect → Type 0
Moderate rs bs (goes_on rs' bs') = (length rs' ≡ length rs) × (length bs' ≡ length bs)
Moderate rs bs (goes_to to) = Unit {0}
Moderate rs bs (goes_via to) = Unit {0}
Moderate rs bs (ends e) = StepEnding (Some e)

accessing_moderate : (l : Layout) (at : ℕ) (w : Width) (rs bs : List ℕ) (done : Effect)
    → Moderate rs bs done → Moderate rs bs (accessing l at w done)
unfolding accessing
accessing_moderate l at w rs bs done moderate =
    by_cond (Moderate rs bs) (in_region l at (bytes_of w)) (λ _. moderate)
    (λ _. by_cond (λ (e : Ending). StepEnding (Some e)) (in_zones l at (bytes_of w)) (λ _. tt) (λ _. tt))

effect_moderate : (l : Layout) (ts : List Target) (sh : Shape) (rs bs : List ℕ) → Moderate rs bs (effect l ts sh rs bs)
unfolding effect
effect_moderate l ts stops rs bs = tt
effect_moderate l ts (assigns a value ranged) rs bs = (length-set rs a (value l rs), refl)
effect_moderate l ts (loads a b v imm) rs bs =
    accessing_moderate l (address (load_access b v imm) rs) (width_read v) rs bs _ (length-set rs a _, refl)
effect_moderate l ts (stores a ac) rs bs =
    accessing_moderate l (address ac rs) ac.width rs bs _ (refl, write_bytes-length (bytes_of ac.width) (reg rs a) bs _)
effect_moderate l ts (jumps to) rs bs = tt
effect_moderate l ts (branches test a b to) rs bs =
    by_cond (Moderate rs bs) (holds test (reg rs a) (reg rs b)) (λ _. tt) (λ _. (refl, refl))
effect_moderate l ts (checks a) rs bs = by_cond (Moderate rs bs) (is_indirect ts (reg rs a)) (λ _. (refl, refl)) (λ _. tt)
effect_moderate l ts (jumps_via a) rs bs = tt

-- ---- a step's ending

settle_ending : (p : Program) (m : Machine) (bs reached : List ℕ) (does : Effect)
    → Moderate m.registers bs does → StepEnding (settle p m bs reached does).ending
unfolding settle
settle_ending p m bs reached (goes_on rs' bs') moderate =
    by_cond (λ (s : Step). StepEnding s.ending) (ltb (m.pc + 1) (length p.code)) (λ _. tt) (λ _. tt)
settle_ending p m bs reached (goes_to to) moderate =
    by_cond (λ (s : Step). StepEnding s.ending) (is_target p.targets to) (λ _. tt) (λ _. tt)
settle_ending p m bs reached (goes_via to) moderate =
    by_cond (λ (s : Step). StepEnding s.ending) (is_indirect p.targets to) (λ _. tt) (λ _. tt)
settle_ending p m bs reached (ends e) moderate = moderate

-- a step goes on or ends the run, and never by using the budget up
pub step_ending : (p : Program) (m : Machine) (bs : List ℕ) → StepEnding (step p m bs).ending
unfolding step step_of
step_ending p m bs =
    settle_ending p m bs _ _ (effect_moderate p.layout p.targets (shape_at p m.pc) m.registers bs)

-- ---- what a step keeps

-- a test of the target at an index is passed only where there is one, and so inside the code
passed_inside : (p : Program) → TargetsInside p → (to : ℕ) (test : Target → Bool) (found : Option Target)
    → target_at p.targets to ≡ found → any_of found test ≡ true → to < length p.code
passed_inside p inside to test None lookup passed = absurd (false≢true passed)
passed_inside p inside to test (Some t) lookup passed = inside to t lookup

no_ending : (e : Ending) → ◌≡◌ {A = Option Ending} None (Some e) → ⊥
no_ending e same = let impossible : ◌≡◌ {A = ℕ} 0 1 = cc in omega arith

stays_steady : (p : Program) (m : Machine) (bs reached : List ℕ) (landing : Landing) (e : Ending)
    → m.pc < length p.code → Steady p m bs (stays m bs reached landing e)
stays_steady p m bs reached landing e starts-inside =
    record { pc_inside = starts-inside; registers_length = refl; region_length = refl; ending_keeps = λ _ _. (refl, refl) }

moves_steady : (p : Program) (m : Machine) (bs rs' bs' reached : List ℕ) (landing : Landing) (to : ℕ)
    → to < length p.code → Moderate m.registers bs (goes_on rs' bs') → Steady p m bs (moves rs' bs' reached landing to)
moves_steady p m bs rs' bs' reached landing to lands-inside moderate = record {
  pc_inside = lands-inside;
  registers_length = moderate.0;
  region_length = moderate.1;
  ending_keeps = λ e same. absurd (no_ending e same);
}

settle_steady : (p : Program) → TargetsInside p → (m : Machine) (bs reached : List ℕ) (does : Effect)
    → m.pc < length p.code → Moderate m.registers bs does → Steady p m bs (settle p m bs reached does)
unfolding settle
settle_steady p inside m bs reached (goes_on rs' bs') starts-inside moderate =
    by_cond (Steady p m bs) (ltb (m.pc + 1) (length p.code))
    (λ next. moves_steady p m bs rs' bs' reached _ _ (ltb-true _ _ next) moderate)
    (λ _. stays_steady p m bs reached _ _ starts-inside)
settle_steady p inside m bs reached (goes_to to) starts-inside moderate =
    by_cond (Steady p m bs) (is_target p.targets to)
    (λ passed. moves_steady p m bs m.registers bs reached _ to
    (passed_inside p inside to (λ _. true) (target_at p.targets to) refl passed) (refl, refl))
    (λ _. stays_steady p m bs reached _ _ starts-inside)
settle_steady p inside m bs reached (goes_via to) starts-inside moderate =
    by_cond (Steady p m bs) (is_indirect p.targets to)
    (λ passed. moves_steady p m bs m.registers bs reached _ to
    (passed_inside p inside to (λ t. t.indirect) (target_at p.targets to) refl passed) (refl, refl))
    (λ _. stays_steady p m bs reached _ _ starts-inside)
settle_steady p inside m bs reached (ends e) starts-inside moderate = stays_steady p m bs reached _ _ starts-inside

-- any step keeps the pc inside the code, the number of registers and bytes, and all there is if it ends the run
pub step_steady : (p : Program) → TargetsInside p → (m : Machine) (bs : List ℕ)
    → m.pc < length p.code → Steady p m bs (step p m bs)
unfolding step step_of
step_steady p inside m bs starts-inside =
    settle_steady p inside m bs _ _ starts-inside
    (effect_moderate p.layout p.targets (shape_at p m.pc) m.registers bs)

-- ---- what a run keeps

followed_steady : (p : Program) (m : Machine) (bs : List ℕ) (s : Step) (rest : Run) (ending : Option Ending)
    → Steady p m bs s → RunSteady p s.machine s.region rest → RunSteady p m bs (followed s rest ending)
followed_steady p m bs s rest None first others = record {
  pc_inside = others.pc_inside;
  registers_length = others.registers_length ∙ first.registers_length;
  region_length = others.region_length ∙ first.region_length;
}
followed_steady p m bs s rest (Some e) first others = record {
  pc_inside = first.pc_inside;
  registers_length = first.registers_length;
  region_length = first.region_length;
}

-- any run keeps the pc inside the code and the number of registers and bytes
pub run_steady : (p : Program) → TargetsInside p → (budget : ℕ) (m : Machine) (bs : List ℕ)
    → m.pc < length p.code → RunSteady p m bs (run p budget m bs)
unfolding run
run_steady p inside zero m bs starts-inside = record { pc_inside = starts-inside; registers_length = refl; region_length = refl }
run_steady p inside (suc budget) m bs starts-inside =
    let s : Step = step p m bs in
    let first : Steady p m bs s = step_steady p inside m bs starts-inside in
    followed_steady p m bs s (run p budget s.machine s.region) s.ending first
    (run_steady p inside budget s.machine s.region first.pc_inside)
