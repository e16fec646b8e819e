-- The promises of demands 1 and 2, and what holds demand 3's terms to the step and the run: each shown to hold. Assumes nothing.
use Prim.Native.Nat.{ℕ, ◌+◌, ◌-◌, ◌*◌, ◌≤◌}
use mathlib.Core.Path.{◌≡◌, refl}
use mathlib.Core.Bool.{true}
use mathlib.Core.Logic.Iff
use mathlib.Core.Logic.{◌↔◌}
use mathlib.Core.List.{List, [], ◌∷◌}
use Rattle.std.specs.Prelude.{Option, None, Some}
use native.Mathlib.Omega.{arith}
use native.Mathlib.Nat.{mul-le-mul_left}
use lib.Dec.{ltb}
use lib.ListN.{length}
use Rattle.model.specs.declared.Ending.{Ending}
use Rattle.model.specs.declared.Layout.{Layout}
use Rattle.model.specs.declared.Limits.{Limits}
use Rattle.model.specs.declared.Machine.{Machine}
use Rattle.model.specs.Program.{Program, is_target, is_indirect}
use Rattle.model.specs.Step.{Effect, goes_on, goes_to, goes_via, ends, in_region, in_zones, Step, settle, step_of, step}
use Rattle.model.specs.File.{most_instructions, most_targets, code_start, program_in}
use Rattle.model.specs.Rules.{SomeOf}
use Rattle.model.specs.Run.{Seen, RunPost, run_on}
use Rattle.model.specs.Walk.{Call, host_writes, Called, done, call}
use Rattle.model.specs.Safety.{InZones}
use Rattle.model.specs.Outcomes as Outcomes
use Rattle.model.specs.Walks as Walks
use Rattle.model.specs.Worked as Worked
use Rattle.model.specs.Wrote as Wrote
use Rattle.model.specs.Promises.{AcceptedIff, RunIff, RefusalFirst, LongFiles, StepsSteady, CallsJoin, KnownOutcomes, KnownRequests, ZonesAgree, CallsAnswer, KnownWalks}
use Rattle.model.proofs.Tests.{by_cond}
use Rattle.model.proofs.Reflection.{Reflects, le_reflects, and_reflects}
use Rattle.model.proofs.Accepted.{accepted_iff, runnable_iff, refusal_first, run_refusal_first}
use Rattle.model.proofs.Targets.{code_length, module_placed, readable_steady}
use Rattle.model.proofs.JoiningCalls.{joining_calls, runs_join}
use Rattle.model.proofs.LongFiles.{long_file}
use Rattle.model.proofs.Stretches.{value_length, code_listed, code_whole, file_length}
use Rattle.model.proofs.Rows.{agrees, every, all_agree}

pub accepted_exactly : AcceptedIff
accepted_exactly = record { iff = accepted_iff }

pub run_exactly : RunIff
run_exactly = record { iff = runnable_iff }

pub refusals_first : RefusalFirst
refusals_first = record { verdict = refusal_first; run = run_refusal_first }

-- a number of units has at most as many bytes as the most of them
units_most : (unit most len : ℕ) → SomeOf unit most len → len ≤ unit * most
units_most unit most len (n, least, few, is) = rw is (mul-le-mul_left unit few)

pub long_files : LongFiles
long_files = record {
  longest = λ limits file passes.
      let kept = ((accepted_iff limits file).0 passes).file_rules in
      omega (
        arith,
        kept.no_tail,
        units_most 8 most_instructions _ kept.code_field.listed,
        units_most 68 most_targets _ kept.targets_field.listed,
      );
  held = λ limits file passes.
      let kept = (accepted_iff limits file).0 passes in
      let code = code_whole file kept.file_rules in
      let as_long = value_length file code_start 2 code_listed kept.file_rules.code_field in
      omega (arith, file_length file kept.file_rules, code.3, as_long, kept.held.instructions, kept.held.targets);
  front = λ limits file m long inside. long_file file m long inside limits;
}

-- a step that ends the run leaves all as it was
module _ (p : Program) (m : Machine) (bs reached : List ℕ) where
  abbrev Keeps : Step → Type 0
  Keeps s = (e : Ending) → s.ending ≡ Some e → (s.machine ≡ m) × (s.region ≡ bs)

  moved : {e : Ending} {A : Type 0} → ◌≡◌ {A = Option Ending} None (Some e) → A
  moved same = absurd (let impossible : ◌≡◌ {A = ℕ} 0 1 = cc in omega arith)

  settle_keeps : (does : Effect) → Keeps (settle p m bs reached does)
  unfolding settle
  settle_keeps (goes_on rs' bs') = by_cond Keeps (ltb (m.pc + 1) (length p.code)) (λ _ e same. moved same) (λ _ e same. (refl, refl))
  settle_keeps (goes_to to) = by_cond Keeps (is_target p.targets to) (λ _ e same. moved same) (λ _ e same. (refl, refl))
  settle_keeps (goes_via to) = by_cond Keeps (is_indirect p.targets to) (λ _ e same. moved same) (λ _ e same. (refl, refl))
  settle_keeps (ends ending) = λ e same. (refl, refl)

step_keeps : (p : Program) (m : Machine) (bs : List ℕ) (e : Ending) → (step p m bs).ending ≡ Some e
    → ((step p m bs).machine ≡ m) × ((step p m bs).region ≡ bs)
unfolding step step_of
step_keeps p m bs e same = settle_keeps p m bs _ _ e same

pub steps_steady : StepsSteady
steps_steady = record {
  ending = step_keeps;
  inside = λ file kept m bs below.
      let steady = (readable_steady (module_placed kept.holds) m bs below).0 in
      (rw code_length at steady.pc_inside, steady.registers_length, steady.region_length);
}

pub calls_join : CallsJoin
calls_join = record { join = joining_calls; runs = runs_join }

pub known_outcomes : KnownOutcomes
unfolding Outcomes.table Outcomes.numbers every agrees
known_outcomes = record { compares = λ n given expected same. same; agree = all_agree Outcomes.table refl; complete = refl }

pub known_requests : KnownRequests
unfolding Outcomes.requests Worked.table Wrote.table Outcomes.numbers every agrees
known_requests = record {
  agree = all_agree Outcomes.requests refl;
  complete = refl;
  worked = all_agree Worked.table refl;
  worked_complete = refl;
  written = all_agree Wrote.table refl;
  written_complete = refl;
}

-- ---- demand 3's terms

zones_agree_at : (l : Layout) (at : ℕ) → InZones l at ↔ (in_zones l at 1 ≡ true)
unfolding in_zones
zones_agree_at l at =
    Iff.trans (λ z. (omega (arith, z.above), omega (arith, z.below)), λ h. record { above = omega (arith, h.0); below = omega (arith, h.1) })
    (Iff.symm (and_reflects (le_reflects (l.base - l.guard) at) (le_reflects (at + 1) (l.base + l.size + l.guard))))

region_reflects : (l : Layout) (address : ℕ) → Reflects (in_region l address 1) ((l.base ≤ address) × (address + 1 ≤ l.base + l.size))
unfolding in_region
region_reflects l address = and_reflects (le_reflects l.base address) (le_reflects (address + 1) (l.base + l.size))

pub zones_agree : ZonesAgree
zones_agree = record {
  zones = zones_agree_at;
  region = λ p n c at. (
    λ r.
        let address : ℕ = p.layout.base + (at - c.offset) in
        (r.fits, (address, (region_reflects p.layout address).1 (omega arith, omega (arith, r.from, r.to)), omega (arith, r.from))),
    λ h.
        let inside = (region_reflects p.layout h.1.0).0 h.1.1 in
        record { fits = h.0; from = omega (arith, inside.0, h.1.2); to = omega (arith, inside.1, h.1.2) },
  );
}

-- each call answers what the model says
answer_all : (limits : Limits) (file : List ℕ) (m : Machine) (memory : List ℕ) (calls : List Call)
    → (seen : List Seen) × Called limits file m memory calls seen
answer_all limits file m memory [] = ([], done)
answer_all limits file m memory (c ∷ cs) =
    let s : Seen = run_on limits file m (host_writes (program_in file) memory c) c.offset c.budget in
    let rest = answer_all limits file s.machine s.memory cs in
    let met : RunPost limits file m (host_writes (program_in file) memory c) c.offset c.budget s = record { is = refl } in
    (s ∷ rest.0, call met rest.1)

pub calls_answer : CallsAnswer
calls_answer = record { answers = answer_all }

pub known_walks : KnownWalks
unfolding Walks.table Outcomes.numbers every agrees
known_walks = record { agree = all_agree Walks.table refl; complete = refl }
