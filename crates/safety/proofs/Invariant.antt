-- The invariant of an accepted module's runs, and that it holds wherever the rules let a step arrive: at a target with registers
-- within its claim, at an indirect target with any registers, at the next index. Assumes nothing.
use Prim.Native.Nat.{ℕ, zero, suc, ◌+◌, ◌<◌}
use mathlib.Core.Path.{◌≡◌, refl, ap}
use mathlib.Core.Bool.{Bool, true, true≢false, false≢true}
use mathlib.Core.List.{List}
use Rattle.std.specs.Prelude.{Option, None, Some}
use native.Mathlib.Omega.{arith}
use native.Mathlib.Numerals.{add-one}
use lib.ListN.{length, get_or-replicate}
use Rattle.model.specs.declared.Limits.{Limits}
use Rattle.model.specs.declared.Machine.{Machine}
use Rattle.model.specs.declared.Ranges.{Ranges}
use Rattle.model.specs.declared.Target.{Target}
use Rattle.model.specs.Words.{top}
use Rattle.model.specs.Quantifiers.{any_of}
use Rattle.model.specs.Program.{Program, target_at, is_target, is_indirect}
use Rattle.model.specs.Instructions.{reg, after_next}
use Rattle.model.specs.Ranges.{region_range}
use Rattle.model.specs.Step.{shape_at}
use Rattle.model.specs.File.{byte_at, program_of, program_in}
use Rattle.model.specs.Judgement.{traits_at, starting_ranges, claim_or, known_at, first_broken}
use Rattle.model.specs.Rules.{LayoutKept, LiesWithin, FileKept, HeldBy, IndexKept, KeepsEveryRule}
use Rattle.model.specs.Safety.{EightWords, ClaimKept}
use Rattle.model.specs.Accuracy.{Within}
use Rattle.model.proofs.Accepted.{accepted_iff}
use Rattle.model.proofs.Targets.{module_placed, TargetFacts, target_facts}
use Rattle.model.proofs.Sound.{Sound}
use Rattle.model.proofs.Accuracy.{NextAccurate, TakenAccurate, file_sound}

-- what holds before each step
pub record Invariant (p : Program) (m : Machine) : Type 0 where
  pub inside : m.pc < length p.code
  pub words : EightWords m.registers
  pub within : Within (known_at p m.pc) m.registers
  -- a jump through a register comes only after its check
  pub checked : (a : ℕ) → (traits_at p m.pc).goes_by ≡ Some a → is_indirect p.targets (reg m.registers a) ≡ true

-- what acceptance says of a file's module
pub record Accepted (limits : Limits) (file : List ℕ) : Type 0 where
  pub file_rules : FileKept file
  pub held : HeldBy limits file
  pub layout : LayoutKept (program_in file).layout
  pub sound : (i : ℕ) → Sound (program_in file).layout (shape_at (program_in file) i)
  pub target : (i : ℕ) (t : Target) → target_at (program_in file).targets i ≡ Some t → TargetFacts (length (program_in file).code) i t
  pub rules : (i : ℕ) → i < length (program_in file).code → IndexKept (program_in file) i

-- an accepted file of bytes is such a file
pub accepted_file : (limits : Limits) (file : List ℕ) → ((i : ℕ) → byte_at file i < 256) → first_broken limits file ≡ None → Accepted limits file
unfolding program_of
accepted_file limits file bytes passes =
    let kept : KeepsEveryRule limits file = (accepted_iff limits file).0 passes in
    record {
      file_rules = kept.file_rules;
      held = kept.held;
      layout = kept.file_rules.holds.layout;
      sound = file_sound file bytes kept.file_rules;
      target = target_facts (module_placed kept.file_rules.holds);
      rules = kept.code_rules;
    }

-- ---- what is known at a target

-- at a target its claim is what is known
known_at_target : (p : Program) (i : ℕ) (t : Target) → target_at p.targets i ≡ Some t → known_at p i ≡ t.claim
unfolding known_at
known_at_target p zero t lookup = ap (claim_or starting_ranges) lookup
known_at_target p (suc i) t lookup = ap (claim_or (after_next (region_range p.layout) (shape_at p i) (known_at p i))) lookup

-- so a machine with the invariant keeps the claim of the target that it is at
pub claim_kept : {p : Program} {m : Machine} → Invariant p m → ClaimKept p m
claim_kept {p} {m} invariant = record {
  kept = λ t lookup r below.
      let within : Within t.claim m.registers = rw (known_at_target p m.pc t lookup) at invariant.within in
      (within.low r below, within.high r below);
}

-- a test of what is looked up is passed only where something is there
passed_by : (test : Target → Bool) (found : Option Target) → any_of found test ≡ true
    → (t : Target) × (found ≡ Some t) × (test t ≡ true)
passed_by test None passed = absurd (false≢true passed)
passed_by test (Some t) passed = (t, refl, passed)

module _ {limits : Limits} {file : List ℕ} (accepted : Accepted limits file) where
  abbrev p : Program
  p = program_in file

  -- registers within ranges that lie within a target's claim are within the claim
  within_claim : {k : Ranges} {rs : List ℕ} (to : ℕ) (t : Target) → target_at p.targets to ≡ Some t → LiesWithin k t.claim
      → Within k rs → Within t.claim rs
  within_claim to t lookup lies within =
      let facts : TargetFacts (length p.code) to t = accepted.target to t lookup in
      record {
        lows8 = facts.lows8;
        highs8 = facts.highs8;
        low = λ r below. omega (arith, lies r below, within.low r below);
        high = λ r below. omega (arith, lies r below, within.high r below);
      }

  -- arriving at a target with registers within its claim
  pub at_target : (to : ℕ) (t : Target) (rs : List ℕ) → target_at p.targets to ≡ Some t → EightWords rs → Within t.claim rs
      → Invariant p (record { registers = rs; pc = to })
  at_target to t rs lookup words within = record {
    inside = inside;
    words = words;
    within = rw (known_at_target p to t lookup) within;
    checked = λ a goes. absurd (true≢false (rw lookup at ((accepted.rules to inside).checked a goes).1));
  }
    where
      inside : to < length p.code
      inside = (accepted.target to t lookup).inside

  -- arriving at an indirect target with any registers
  pub at_indirect : (to : ℕ) (rs : List ℕ) → is_indirect p.targets to ≡ true → EightWords rs
      → Invariant p (record { registers = rs; pc = to })
  at_indirect to rs passed words =
      let (t, lookup, indirect) = passed_by (λ t. t.indirect) (target_at p.targets to) passed in
      let facts : TargetFacts (length p.code) to t = accepted.target to t lookup in
      at_target to t rs lookup words (record {
        lows8 = facts.lows8;
        highs8 = facts.highs8;
        low = λ r below. omega (arith, facts.indirect indirect r below, get_or-replicate {A = ℕ} 8 r 0 0 below);
        high = λ r below. omega (arith, facts.indirect indirect r below, get_or-replicate {A = ℕ} 8 r top 0 below, words.small r);
      })

  module _ {m : Machine} (invariant : Invariant p m) where
    rules_at_pc : IndexKept p m.pc
    rules_at_pc = accepted.rules m.pc invariant.inside

    -- going to the index that a jump or branch names: it is a target
    pub at_named : (to : ℕ) → TakenAccurate (shape_at p m.pc) (known_at p m.pc) m.registers to
        → (is_target p.targets to ≡ true) × Invariant p (record { registers = m.registers; pc = to })
    at_named to taken =
        let target_is : is_target p.targets to ≡ true = rules_at_pc.to_target to taken.named in
        let (t, lookup, _) = passed_by (λ _. true) (target_at p.targets to) target_is in (
          target_is,
          at_target to t m.registers lookup invariant.words
              (within_claim to t lookup (rules_at_pc.taken to taken.named t lookup) taken.within),
        )

    -- going on to the next index: it is inside the code
    pub at_next : (rs bs : List ℕ) → NextAccurate p.layout p.targets (shape_at p m.pc) (known_at p m.pc) rs bs
        → (m.pc + 1 < length p.code) × Invariant p (record { registers = rs; pc = m.pc + 1 })
    unfolding known_at
    at_next rs bs next =
        rw add-one (
          inside,
          record {
            inside = inside;
            words = next.words;
            within = claim_or_after (target_at p.targets (suc i)) refl;
            checked = λ a goes. next.checked a ((accepted.rules (suc i) inside).checked a goes).0;
          },
        )
      where
        i : ℕ
        i = m.pc

        inside : suc i < length p.code
        inside =
            let not_last : i + 1 ≡ length p.code → ⊥ = rules_at_pc.inside next.falls in
            omega (arith, invariant.inside)

        claim_or_after : (found : Option Target) → target_at p.targets (suc i) ≡ found
            → Within (claim_or (after_next (region_range p.layout) (shape_at p i) (known_at p i)) found) rs
        claim_or_after None lookup = next.within
        claim_or_after (Some t) lookup =
            within_claim (suc i) t lookup (rules_at_pc.next next.falls t (rw (add-one i) lookup)) next.within
