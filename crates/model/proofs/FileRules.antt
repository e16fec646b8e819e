-- Rules 1 to 7: what is judged of a file is met exactly if the rule is kept. Assumes nothing.
use Prim.Native.Nat.{ℕ, zero, suc, ◌+◌, ◌-◌, ◌*◌, ◌/◌, ◌%◌, ◌^◌, ◌≤◌, ◌<◌}
use mathlib.Core.Path.{◌≡◌, refl, ap, ◌∙◌}
use mathlib.Core.Logic.Iff
use mathlib.Core.Logic.{◌↔◌}
use mathlib.Core.Bool.{false≢true}
use mathlib.Core.List.{List}
use Rattle.std.specs.Prelude.{Option, None, Some}
use Rattle.std.proofs.lemmas.Option.{none-some}
use native.Mathlib.Omega.{arith}
use native.Mathlib.Nat.{div-add-mod', mul-mod_left}
use Rattle.model.specs.declared.Instruction.{Instruction}
use Rattle.model.specs.declared.Layout.{Layout}
use Rattle.model.specs.Words.{modulus}
use Rattle.model.specs.Obligations.{AllMet}
use Rattle.model.specs.Ranges.{low, high}
use Rattle.model.specs.File.{is_listed, field, field_length, is_layout, is_instruction, TargetRow, is_in_order, is_placed_target, is_good_target}
use Rattle.model.specs.Rules.{FieldKept, LayoutKept, InstructionKept, TargetPlaced, TargetKept}
use Rattle.model.proofs.Reflection.{Reflects, le_reflects, lt_reflects, eq_reflects, and_reflects, implies_reflects, all_below_reflects, any_below_reflects}

-- rules 1, 2, 3 of a field
pub field_kept : (file : List ℕ) (at tag : ℕ) {Listed : ℕ → Type 0} → ((n : ℕ) → Reflects (is_listed tag n) (Listed n))
    → AllMet (field file at tag) ↔ FieldKept file at tag Listed
unfolding field
field_kept file at tag listed = (
  λ h. record {
    header = (le_reflects _ _).0 h.0;
    tagged = (eq_reflects _ _).0 h.1.0;
    listed = (listed (field_length file at)).0 h.1.1.0;
    value = (le_reflects _ _).0 h.1.1.1.0;
  },
  λ k. (
    (le_reflects _ _).1 k.header,
    ((eq_reflects _ _).1 k.tagged, ((listed (field_length file at)).1 k.listed, ((le_reflects _ _).1 k.value, tt))),
  ),
)

-- rule 5
pub layout_reflects : (l : Layout) → Reflects (is_layout l) (LayoutKept l)
unfolding is_layout
layout_reflects l =
    Iff.trans
    (and_reflects (and_reflects (and_reflects (and_reflects
    (any_below_reflects 9 (λ k. eq_reflects l.size (2 ^ (8 + k))))
    (le_reflects l.guard 4096))
    (eq_reflects (l.base % l.size) 0))
    (le_reflects l.guard l.base))
    (le_reflects (l.base + l.size + l.guard) modulus)) (
      λ h. record {
        power = (8 + h.0.0.0.0.0, omega arith, omega (arith, h.0.0.0.0.1), h.0.0.0.0.2);
        guard = h.0.0.0.1;
        aligned = (l.base / l.size, omega (arith, div-add-mod' l.base l.size, h.0.0.1));
        below = h.0.1;
        above = h.1;
      },
      λ k. ((((shift k.power, k.guard), divides k.aligned), k.below), k.above),
    )
  where
    shift : (k : ℕ) × (8 ≤ k) × (k ≤ 16) × (l.size ≡ 2 ^ k) → (k : ℕ) × (k < 9) × (l.size ≡ 2 ^ (8 + k))
    shift (k, least, most, e) =
        let back : k ≡ 8 + (k - 8) = omega arith in
        (k - 8, omega arith, e ∙ ap (λ (x : ℕ). 2 ^ x) back)

    divides : (q : ℕ) × (l.base ≡ q * l.size) → l.base % l.size ≡ 0
    divides (q, e) = ap (λ (x : ℕ). x % l.size) e ∙ mul-mod_left q l.size

-- rule 6
pub instruction_reflects : (decodes : Option Instruction) → Reflects (is_instruction decodes) (InstructionKept decodes)
instruction_reflects None = (λ e. absurd (false≢true e), λ w. absurd (none-some w.0 w.1))
instruction_reflects (Some x) = (λ e. (x, refl), λ w. refl)

-- rule 7
order_reflects : (target : ℕ → TargetRow) (j : ℕ)
    → Reflects (is_in_order target j)
    ((j ≡ 0 → ((target 0).index ≡ 0) × ((target 0).kind ≡ 1)) × ((i : ℕ) → j ≡ suc i → (target i).index < (target (suc i)).index))
order_reflects target zero =
    Iff.trans (and_reflects (eq_reflects _ _) (eq_reflects _ _))
    (λ h. (λ _. h, λ i q. absurd (omega arith)), λ h. h.0 refl)
order_reflects target (suc j) =
    Iff.trans (lt_reflects _ _)
    (λ h. (λ q. absurd (omega arith), λ i q. let same : j ≡ i = omega arith in rw same at h), λ h. h.1 j refl)

pub placed_reflects : (n : ℕ) (target : ℕ → TargetRow) (j : ℕ) → Reflects (is_placed_target n target j) (TargetPlaced n target j)
unfolding is_placed_target
placed_reflects n target j =
    Iff.trans
    (and_reflects (and_reflects (and_reflects (and_reflects
    (lt_reflects (target j).index n)
    (lt_reflects (target j).kind 2))
    (eq_reflects (target j).zero_byte 0))
    (implies_reflects (eq_reflects (target j).kind 1) (all_below_reflects 8 (λ r. and_reflects (eq_reflects _ _) (eq_reflects _ _)))))
    (order_reflects target j)) (
      λ h. record {
        inside = h.0.0.0.0;
        kind = h.0.0.0.1;
        zero_byte = h.0.0.1;
        indirect = h.0.1;
        first = h.1.0;
        rising = h.1.1;
      },
      λ k. ((((k.inside, k.kind), k.zero_byte), k.indirect), (k.first, k.rising)),
    )

pub target_reflects : (n : ℕ) (target : ℕ → TargetRow) (j : ℕ) → Reflects (is_good_target n target j) (TargetKept n target j)
unfolding is_good_target
target_reflects n target j =
    Iff.trans
    (and_reflects (placed_reflects n target j)
    (all_below_reflects 8 (λ r. le_reflects (low (target j).claim r) (high (target j).claim r))))
    (λ h. record { placed = h.0; ordered = h.1 }, λ k. (k.placed, k.ordered))
