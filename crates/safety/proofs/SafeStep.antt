-- A step of an accepted module from a machine with the invariant, whatever the region's bytes are: the invariant holds again, and
-- the step is as demand 3 says. Assumes nothing.
use Prim.Native.Nat.{ℕ, ◌+◌}
use mathlib.Core.Path.{◌≡◌, refl, sym, ◌∙◌}
use mathlib.Core.Bool.{true, true≢false}
use mathlib.Core.List.Memᴰ
use mathlib.Core.List.{List, Memᴰ}
use Rattle.std.specs.Prelude.{None, Some}
use Rattle.std.proofs.lemmas.Option.{same_Some}
use native.Mathlib.Omega.{arith}
use lib.Dec.{ltb}
use lib.ListN.{length}
use borrow.Author.Tests.{ltb-false}
use Rattle.model.specs.declared.Ending.TheVariants.{Violated}
use Rattle.model.specs.declared.Layout.{Layout}
use Rattle.model.specs.declared.Limits.{Limits}
use Rattle.model.specs.declared.Machine.{Machine}
use Rattle.model.specs.declared.Ranges.{Ranges}
use Rattle.model.specs.Program.{Program, is_target, is_indirect}
use Rattle.model.specs.Instructions.{Access, load_access, Shape, stops, assigns, loads, stores, jumps, branches, checks, jumps_via, traits}
use Rattle.model.specs.Step.{Effect, goes_on, goes_to, goes_via, ends, reaches, Landing, nowhere, named, via_register, Step, moves, settle, shape_at, step_of, step}
use Rattle.model.specs.File.{program_in}
use Rattle.model.specs.Judgement.{known_at}
use Rattle.model.specs.Rules.{LayoutKept}
use Rattle.model.specs.Safety.{Bytes, InZones, Permitted, StepSafe}
use Rattle.model.specs.Accuracy.{Within, AccessAllowed}
use Rattle.model.proofs.Tests.{by_cond}
use Rattle.model.proofs.Containment.{contained_in_zones, reached_in_zones}
use Rattle.model.proofs.Sound.{SoundAccess, Sound}
use Rattle.model.proofs.Accuracy.{Accurate, effect_accurate}
use Rattle.safety.proofs.Invariant.{Invariant, Accepted, claim_kept, at_indirect, at_named, at_next}

-- what holds after a step
pub record StepKept (p : Program) (s : Step) : Type 0 where
  pub invariant : Invariant p s.machine
  pub bytes : Bytes p.layout.size s.region
  pub safe : StepSafe p s

-- ---- what a step reaches for

abbrev AllInZones : Layout → List ℕ → Type 0
AllInZones l reached = (at : ℕ) → Memᴰ at reached → InZones l at

module _ {l : Layout} (kept : LayoutKept l) {k : Ranges} {rs : List ℕ} (within : Within k rs) where
  access_reaches : (s : Shape) (a : ℕ) (ac : Access) → SoundAccess a ac → AccessAllowed l s k → (traits s).access ≡ Some ac
      → AllInZones l (reaches (Some ac) rs)
  access_reaches s a ac sound allowed has =
      reached_in_zones (contained_in_zones kept within sound.pointer sound.displacement (allowed ac has))

  -- an instruction whose access is allowed reaches only for what is in the region or guard zones
  reaches_zones : (s : Shape) → Sound l s → AccessAllowed l s k → AllInZones l (reaches (traits s).access rs)
  reaches_zones stops sound allowed at among = absurd (Memᴰ.not-nil among)
  reaches_zones (assigns a value ranged) sound allowed at among = absurd (Memᴰ.not-nil among)
  reaches_zones (loads a b v imm) sound allowed at among =
      access_reaches (loads a b v imm) a (load_access b v imm) sound allowed refl at among
  reaches_zones (stores a ac) sound allowed at among = access_reaches (stores a ac) a ac sound allowed refl at among
  reaches_zones (jumps to) sound allowed at among = absurd (Memᴰ.not-nil among)
  reaches_zones (branches test a b to) sound allowed at among = absurd (Memᴰ.not-nil among)
  reaches_zones (checks a) sound allowed at among = absurd (Memᴰ.not-nil among)
  reaches_zones (jumps_via a) sound allowed at among = absurd (Memᴰ.not-nil among)

-- ---- the step

-- a step that goes on has no ending
not_ended : None ≡ Some Violated → ⊥
not_ended same = let impossible : ◌≡◌ {A = ℕ} 0 1 = cc in omega arith

module _ {limits : Limits} {file : List ℕ} (accepted : Accepted limits file) {m : Machine} {bs : List ℕ} (invariant : Invariant (program_in file) m)
    (bytes : Bytes (program_in file).layout.size bs) where
  abbrev p : Program
  p = program_in file

  abbrev instruction : Shape
  instruction = shape_at p m.pc

  abbrev known : Ranges
  known = known_at p m.pc

  sound : Sound p.layout instruction
  sound = accepted.sound m.pc

  allowed : AccessAllowed p.layout instruction known
  allowed = (accepted.rules m.pc invariant.inside).contained

  module _ (reached : List ℕ) (in-zones : AllInZones p.layout reached) where
    moves_kept : (rs' bs' : List ℕ) (landing : Landing) (to : ℕ) → Permitted p landing
        → Invariant p (record { registers = rs'; pc = to }) → Bytes p.layout.size bs'
        → StepKept p (moves rs' bs' reached landing to)
    moves_kept rs' bs' landing to permitted after bytes' = record {
      invariant = after;
      bytes = bytes';
      safe = record { reached = in-zones; landing = permitted; claim = claim_kept after; inside = not_ended };
    }

    -- the next place, where the ranges are accurate
    settle_kept : (e : Effect) → Accurate p.layout p.targets instruction known m.registers e
        → StepKept p (settle p m bs reached e)
    unfolding settle
    settle_kept (goes_on rs' bs') accurate =
        let next = accurate allowed in
        let (inside, after) = at_next accepted invariant rs' bs' next in
        by_cond (StepKept p) (ltb (m.pc + 1) (length p.code))
        (λ _. moves_kept rs' bs' nowhere (m.pc + 1) tt after next.bytes)
        (λ outside. absurd (omega (arith, ltb-false (m.pc + 1) (length p.code) outside)))
    settle_kept (goes_to to) taken =
        let (target_is, after) = at_named accepted invariant to taken in
        by_cond (StepKept p) (is_target p.targets to)
        (λ _. moves_kept m.registers bs (named to) to target_is after bytes)
        (λ not-target. absurd (true≢false (sym target_is ∙ not-target)))
    settle_kept (goes_via to) via =
        let indirect : is_indirect p.targets to ≡ true = rw via.held (invariant.checked via.register via.by) in
        let after = at_indirect accepted to m.registers indirect invariant.words in
        by_cond (StepKept p) (is_indirect p.targets to)
        (λ _. moves_kept m.registers bs (via_register to) to indirect after bytes)
        (λ not-indirect. absurd (true≢false (sym indirect ∙ not-indirect)))
    settle_kept (ends e) ending = record {
      invariant = invariant;
      bytes = bytes;
      safe = record {
        reached = in-zones;
        landing = tt;
        claim = claim_kept invariant;
        inside = λ violated. true≢false (rw (same_Some e Violated violated) at (ending allowed));
      };
    }

  -- one step keeps the invariant and is safe
  pub step_kept : StepKept p (step p m bs)
  unfolding step step_of
  step_kept =
      settle_kept _ (reaches_zones accepted.layout invariant.within instruction sound allowed) _
      (effect_accurate accepted.layout p.targets invariant.within invariant.words bytes instruction sound)
