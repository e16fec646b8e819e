-- What the verifier demands: rules 8 to 13 at each instruction, and the whole judgement of a file by a device. Assumes nothing.
use Rattle.std.specs.Prelude.{ℕ, zero, suc, ◌+◌, ◌-◌, Bool, true, not, ◌&&◌, ◌||◌, List, [], ◌∷◌, ◌++◌, eqb, ℤ, pos, ◌+ℤ◌, length, Option, None, Some}
use Rattle.std.specs.Int.Signed.{le_z}
use Rattle.model.specs.declared.Layout.{Layout}
use Rattle.model.specs.declared.Limits.{Limits}
use Rattle.model.specs.declared.Range.{Range}
use Rattle.model.specs.declared.Ranges.{Ranges}
use Rattle.model.specs.declared.Target.{Target}
use Rattle.model.specs.declared.Width.{Width}
use Rattle.model.specs.Quantifiers.{all_of, any_of}
use Rattle.model.specs.Obligations.{Fault, Obligation, owes, first_fault, each}
use Rattle.model.specs.Answers.{Judgement, accepted, refused}
use Rattle.model.specs.Ranges.{range_of, unknown, region_range, lies_within}
use Rattle.model.specs.Program.{Program, target_at, is_target}
use Rattle.model.specs.Instructions.{bytes_of, Traits, traits, after_next, after_taken}
use Rattle.model.specs.Step.{shape_at}
use Rattle.model.specs.File.{code_in, targets_in, instruction_count, target_count, program_in}
use Rattle.model.specs.Limits.{loadable}

abbrev pub traits_at : Program → ℕ → Traits
traits_at p i = traits (shape_at p i)

-- ---- what is known: "It goes through the instructions upward, starting with anything. At a door it takes the claim."

abbrev pub starting_ranges : Ranges
starting_ranges = unknown

abbrev pub claim_or : Ranges → Option Target → Ranges
claim_or k None = k
claim_or k (Some t) = t.claim

unfoldable pub known_at : Program → ℕ → Ranges
known_at p zero = claim_or starting_ranges (target_at p.targets 0)
known_at p (suc i) = claim_or (after_next (region_range p.layout) (shape_at p i) (known_at p i)) (target_at p.targets (suc i))

-- the ranges along an instruction's edges, from what is known before it
abbrev pub next_ranges : Program → ℕ → Ranges
next_ranges p i = after_next (region_range p.layout) (shape_at p i) (known_at p i)

abbrev pub taken_ranges : Program → ℕ → Ranges
taken_ranges p i = after_taken (shape_at p i) (known_at p i)

-- ---- the rules, each at an index

-- 12, no way in: "after halt, jump or jumpr and no door"
unfoldable pub is_reachable : Program → ℕ → Bool
is_reachable p zero = true
is_reachable p (suc i) = (traits_at p i).falls || is_target p.targets (suc i)

-- 9, unchecked jump: "jumpr without check of the same register just before it, or itself a door"
abbrev pub checked_before : Program → ℕ → Option ℕ
checked_before p zero = None
checked_before p (suc i) = (traits_at p i).looks_at

unfoldable pub is_checked : Program → ℕ → Bool
is_checked p i = all_of (traits_at p i).goes_by (λ a. any_of (checked_before p i) (eqb a) && not (is_target p.targets i))

-- 10, wild access: "exact lowest b + imm must be at least DB − guard and exact highest b + imm + w − 1 at most DL + guard"
unfoldable pub is_contained : Layout → Range → Width → ℤ → Bool
is_contained l x w imm =
    le_z (pos (l.base - l.guard)) (pos x.low +ℤ imm)
    && le_z (pos x.high +ℤ imm +ℤ pos (bytes_of w - 1)) (pos (l.base + l.size - 1 + l.guard))

unfoldable pub access_contained : Program → ℕ → Bool
access_contained p i =
    all_of (traits_at p i).access
    (λ ac. is_contained p.layout (range_of (known_at p i) ac.pointer) ac.width ac.displacement)

-- 8, no door: "target of jump or branch is no door"
unfoldable pub jumps_to_target : Program → ℕ → Bool
jumps_to_target p i = all_of (traits_at p i).names (is_target p.targets)

-- 13, runs off: "the last instruction isn't halt, jump or jumpr"
unfoldable pub stays_inside : Program → ℕ → Bool
stays_inside p i = not ((traits_at p i).falls && eqb (i + 1) (length p.code))

-- 11, broken claim: "the ranges on each edge to a door, taken or next, must lie within its claim"
abbrev pub meets_claim : Program → ℕ → Ranges → Bool
meets_claim p to k = all_of (target_at p.targets to) (λ t. lies_within k t.claim)

unfoldable pub taken_kept : Program → ℕ → Bool
taken_kept p i = all_of (traits_at p i).names (λ to. meets_claim p to (taken_ranges p i))

unfoldable pub next_kept : Program → ℕ → Bool
next_kept p i = not (traits_at p i).falls || meets_claim p (i + 1) (next_ranges p i)

-- ---- the judgement

-- "At one instruction the order is: 12, 9, 10, 8, 13, 11", which is asked of the edge taken and then of the edge to the next index
unfoldable pub before_next : Program → ℕ → List Obligation
before_next p i =
    owes 12 i (is_reachable p i)
    ∷ owes 9 i (is_checked p i)
    ∷ owes 10 i (access_contained p i)
    ∷ owes 8 i (jumps_to_target p i)
    ∷ owes 13 i (stays_inside p i)
    ∷ owes 11 i (taken_kept p i)
    ∷ []

unfoldable pub at_index : Program → ℕ → List Obligation
at_index p i = before_next p i ++ (owes 11 i (next_kept p i) ∷ [])

unfoldable pub verified : Program → List Obligation
verified p = each (length p.code) (at_index p)

-- "The verifier goes on with 8 to 13.", on a device with such limits
unfoldable pub obligations : Limits → List ℕ → List Obligation
obligations limits file = loadable limits file ++ verified (program_in file)

unfoldable pub first_broken : Limits → List ℕ → Option Fault
first_broken limits file = first_fault (obligations limits file)

-- the verifier's answer
abbrev pub concluded : List ℕ → Option Fault → Judgement
concluded file None = accepted (instruction_count (code_in file)) (target_count (targets_in file))
concluded file (Some f) = refused f

unfoldable pub judgement : Limits → List ℕ → Judgement
judgement limits file = concluded file (first_broken limits file)
