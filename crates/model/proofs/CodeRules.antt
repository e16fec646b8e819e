-- Rules 8 to 13: what is judged at an index is met exactly if the rule is kept there. Assumes nothing.
use Prim.Native.Nat.{ℕ, zero, suc, ◌+◌}
use mathlib.Core.Path.{◌≡◌, refl}
use mathlib.Core.Logic.Iff
use mathlib.Core.Logic.{◌↔◌}
use Rattle.std.specs.Prelude.{Some}
use native.Mathlib.Omega.{arith}
use lib.IntN.{ℤ}
use lib.ListN.{length}
use Rattle.model.specs.declared.Layout.{Layout}
use Rattle.model.specs.declared.Range.{Range}
use Rattle.model.specs.declared.Ranges.{Ranges}
use Rattle.model.specs.declared.Target.{Target}
use Rattle.model.specs.declared.Width.{Width}
use Rattle.model.specs.Obligations.{AllMet}
use Rattle.model.specs.Ranges.{range_of, lies_within}
use Rattle.model.specs.Program.{Program, target_at, is_target}
use Rattle.model.specs.Judgement.{traits_at, known_at, next_ranges, taken_ranges, is_reachable, checked_before, is_checked, is_contained, access_contained, jumps_to_target, stays_inside, meets_claim, taken_kept, next_kept, before_next, at_index}
use Rattle.model.specs.Rules.{Reachable, Checked, Contained, AccessContained, JumpsToTarget, StaysInside, LiesWithin, TakenKept, NextKept, IndexKept}
use Rattle.model.proofs.Reflection.{Reflects, le_reflects, eq_reflects, le_z_reflects, and_reflects, not_reflects, implies_reflects, false_reflects, unless_reflects, all_below_reflects, all_of_reflects, any_of_reflects}

-- rule 12
reachable_reflects : (p : Program) (i : ℕ) → Reflects (is_reachable p i) (Reachable p i)
unfolding is_reachable
reachable_reflects p zero = (λ e j q. absurd (omega arith), λ h. refl)
reachable_reflects p (suc i) =
    Iff.trans (unless_reflects (traits_at p i).falls (is_target p.targets (suc i)))
    (λ h j q. let same : i ≡ j = omega arith in rw same at h, λ h. h i refl)

-- rule 9
checked_reflects : (p : Program) (i : ℕ) → Reflects (is_checked p i) (Checked p i)
unfolding is_checked
checked_reflects p i =
    all_of_reflects (traits_at p i).goes_by
    (λ a. and_reflects (any_of_reflects (checked_before p i) a) (false_reflects (is_target p.targets i)))

-- rule 10
contained_reflects : (l : Layout) (x : Range) (w : Width) (imm : ℤ) → Reflects (is_contained l x w imm) (Contained l x w imm)
unfolding is_contained
contained_reflects l x w imm =
    Iff.trans (and_reflects (le_z_reflects _ _) (le_z_reflects _ _))
    (λ h. record { lowest = h.0; highest = h.1 }, λ c. (c.lowest, c.highest))

access_reflects : (p : Program) (i : ℕ) → Reflects (access_contained p i) (AccessContained p i)
unfolding access_contained
access_reflects p i =
    all_of_reflects (traits_at p i).access
    (λ ac. contained_reflects p.layout (range_of (known_at p i) ac.pointer) ac.width ac.displacement)

-- rule 8
jump_reflects : (p : Program) (i : ℕ) → Reflects (jumps_to_target p i) (JumpsToTarget p i)
unfolding jumps_to_target
jump_reflects p i = all_of_reflects (traits_at p i).names (λ to. Iff.rfl)

-- rule 13
inside_reflects : (p : Program) (i : ℕ) → Reflects (stays_inside p i) (StaysInside p i)
unfolding stays_inside
inside_reflects p i =
    Iff.trans (not_reflects (and_reflects Iff.rfl (eq_reflects (i + 1) (length p.code))))
    (λ h f e. h (f, e), λ h b. h b.0 b.1)

-- rule 11
within_reflects : (k claim : Ranges) → Reflects (lies_within k claim) (LiesWithin k claim)
unfolding lies_within
within_reflects k claim = all_below_reflects 8 (λ r. and_reflects (le_reflects _ _) (le_reflects _ _))

module _ (p : Program) where
  meets_reflects : (to : ℕ) (k : Ranges)
      → Reflects (meets_claim p to k) ((t : Target) → target_at p.targets to ≡ Some t → LiesWithin k t.claim)
  meets_reflects to k = all_of_reflects (target_at p.targets to) (λ t. within_reflects k t.claim)

  taken_reflects : (i : ℕ) → Reflects (taken_kept p i) (TakenKept p i)
  unfolding taken_kept
  taken_reflects i = all_of_reflects (traits_at p i).names (λ to. meets_reflects to (taken_ranges p i))

  next_reflects : (i : ℕ) → Reflects (next_kept p i) (NextKept p i)
  unfolding next_kept
  next_reflects i = implies_reflects Iff.rfl (meets_reflects (i + 1) (next_ranges p i))

-- rules 8 to 13 at an index
pub index_kept : (p : Program) (i : ℕ) → AllMet (at_index p i) ↔ IndexKept p i
unfolding at_index before_next
index_kept p i = (
  λ h. record {
    reachable = (reachable_reflects p i).0 h.0;
    checked = (checked_reflects p i).0 h.1.0;
    contained = (access_reflects p i).0 h.1.1.0;
    to_target = (jump_reflects p i).0 h.1.1.1.0;
    inside = (inside_reflects p i).0 h.1.1.1.1.0;
    taken = (taken_reflects p i).0 h.1.1.1.1.1.0;
    next = (next_reflects p i).0 h.1.1.1.1.1.1.0;
  },
  λ k. (
    (reachable_reflects p i).1 k.reachable,
    (
      (checked_reflects p i).1 k.checked,
      (
        (access_reflects p i).1 k.contained,
        (
          (jump_reflects p i).1 k.to_target,
          ((inside_reflects p i).1 k.inside, ((taken_reflects p i).1 k.taken, ((next_reflects p i).1 k.next, tt))),
        ),
      ),
    ),
  ),
)
