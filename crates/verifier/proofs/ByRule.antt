-- Each rule at an index, from what stands there and what its calls answer. Assumes nothing.
use Prim.Native.Nat.{ℕ, zero, suc, ◌+◌, ◌-◌}
use mathlib.Core.Path.{◌≡◌, refl, sym, ap, ap₂, ◌∙◌}
use mathlib.Core.Bool.{Bool, true, false, not, ◌&&◌, ◌||◌}
use mathlib.Core.List.{List}
use Rattle.std.specs.Prelude.{Option, None, Some, is_some, option_and_then, MatchOption, IsTrue}
use Rattle.std.proofs.Props.{props}
use Rattle.std.proofs.Math.Logic.{∥∥₁_elim}
use native.Mathlib.Omega.{arith}
use lib.Dec.{eqb}
use Rattle.model.specs.declared.Instruction.{Instruction}
use Rattle.model.specs.declared.Layout.{Layout}
use Rattle.model.specs.declared.Ranges.{Ranges}
use Rattle.model.specs.declared.Target.{Target}
use Rattle.model.specs.Quantifiers.{all_of, any_of}
use Rattle.model.specs.Ranges.{range_of, lies_within}
use Rattle.model.specs.Program.{Program, code_at, target_at, is_target}
use Rattle.model.specs.Instructions.{shape, traits, after_taken}
use Rattle.model.specs.Lookup.{number_at}
use Rattle.model.specs.File.{claim_in, target_in, program_of}
use Rattle.model.specs.Judgement.{traits_at, next_ranges, taken_ranges, checked_before, is_reachable, is_checked, is_contained, access_contained, jumps_to_target, stays_inside, taken_kept, next_kept}
use Rattle.reader.specs.Decoding.{Fetches}
use Rattle.reader.specs.Loading.{Loaded}
use Rattle.lookup.specs.Found.{target_found}
use Rattle.reader.proofs.Fetching.{fetched, program_count}
use Rattle.lookup.proofs.Listed.{found_target, found_some}
use Rattle.verifier.specs.Standing.{arrives_at, target_named}
use Rattle.reader.specs.Readings.{program}
use Rattle.verifier.specs.declared.rules.Place.{Place}

-- what is found at a named index is the module's target there
pub named_target : {l : Layout} {code targets : List ℕ} {n k : ℕ} → Loaded l code targets n k → (to found : Option ℕ)
    → found ≡ option_and_then (number_at (program_of l code targets).targets) to → target_found targets found ≡ target_named (program_of l code targets).targets to
unfolding target_found
named_target loaded None found is = rw is
named_target loaded (Some to) found is = found_target loaded to found is

-- where a test is made of what is found, if anything is
pub kept_or_none : (o : Option ℕ) (f : ℕ → Bool) {result : Bool} {P : ℕ → Type 0} → MatchOption o (IsTrue result) P
    → ((j : ℕ) → P j → result ≡ f j) → result ≡ all_of o f
kept_or_none None f holds told = holds
kept_or_none (Some j) f holds told = told j holds

claims_found : (targets : List ℕ) (k : Ranges) (o : Option ℕ)
    → all_of o (λ j. lies_within k (claim_in targets j)) ≡ all_of (target_found targets o) (λ t. lies_within k t.claim)
unfolding target_found target_in
claims_found targets k None = refl
claims_found targets k (Some j) = refl

-- 12
by_place : (p : Program) (i : ℕ) → (arrives_at p i || is_target p.targets i) ≡ is_reachable p i
unfolding is_reachable
by_place p zero = refl
by_place p (suc i) = refl

either_order : (o : Option ℕ) (t : Bool) (f : ℕ → Bool) → all_of o (λ a. t && f a) ≡ all_of o (λ a. f a && t)
either_order None t f = refl
either_order (Some a) t f = swap t (f a)
  where
    swap : (t u : Bool) → (t && u) ≡ (u && t)
    swap true true = refl
    swap true false = refl
    swap false true = refl
    swap false false = refl

module _ (at : Place) where
  pub reachable_is : {before : Bool} → at.arrives ≡ before → (before || at.marked) ≡ is_reachable (program at.within.now) at.i
  reachable_is is = rw (← is, at.standing.is_arrives, at.standing.is-marked) (by_place (program at.within.now) at.i)

  -- 9: the instruction before, where there is one
  pub looks_before : (at.i ≡ 0 → ⊥) → {before : Instruction} → Fetches at.within.now.code.now (at.i - 1) before
      → (traits (shape before)).looks_at ≡ checked_before (program at.within.now) at.i
  looks_before later {before} fetches = ∥∥₁_elim at.within.now.loaded (hlevel props) (λ loaded.
      behind at.i later (fetched loaded (at.i - 1) (omega (arith, at.standing.below, later)) before fetches))
    where
      behind : (i : ℕ) → (i ≡ 0 → ⊥) → before ≡ code_at (program at.within.now) (i - 1)
          → (traits (shape before)).looks_at ≡ checked_before (program at.within.now) i
      behind zero later is-before = absurd (later refl)
      behind (suc i) later is-before = let less : suc i - 1 ≡ i = omega arith in rw (is-before, less)

  -- of each kind of instruction
  module _ {x : Instruction} (is : at.instruction ≡ x) where
    same : x ≡ code_at (program at.within.now) at.i
    same = sym is ∙ at.standing.instruction_is

    pub checked_is : all_of (traits (shape x)).goes_by (λ a. not at.marked && any_of (checked_before (program at.within.now) at.i) (eqb a))
        ≡ is_checked (program at.within.now) at.i
    unfolding is_checked
    checked_is = rw (same, at.standing.is-marked) (either_order (traits_at (program at.within.now) at.i).goes_by
        (not (is_target (program at.within.now).targets at.i)) (λ a. any_of (checked_before (program at.within.now) at.i) (eqb a)))

    -- 10
    pub contained_is : all_of (traits (shape x)).access
        (λ ac. is_contained at.within.now.layout (range_of at.known ac.pointer) ac.width ac.displacement)
        ≡ access_contained (program at.within.now) at.i
    unfolding access_contained program_of
    contained_is = rw (same, at.standing.is_known)

  -- 13
  pub inside_is : {falls : Bool} → falls ≡ (traits (shape at.instruction)).falls
      → not (falls && eqb (at.i + 1) at.within.now.held.instructions) ≡ stays_inside (program at.within.now) at.i
  unfolding stays_inside
  inside_is is = ∥∥₁_elim at.within.now.loaded (hlevel props) (λ loaded. rw (is, at.standing.instruction_is, program_count loaded))

  -- 8 and 11 on the edge taken, of the target that is named
  named_is : ∥ target_found at.within.now.targets.now at.named ≡ target_named (program at.within.now).targets (traits_at (program at.within.now) at.i).names ∥₁
  named_is = ∥∥₁_elim at.within.now.loaded (hlevel props) (λ loaded.
      ∣ named_target loaded (traits_at (program at.within.now) at.i).names at.named at.standing.is_named ∣₁)

  pub jumps_is : {x : Instruction} → at.instruction ≡ x
      → all_of (traits (shape x)).names (λ to. is_some at.named) ≡ jumps_to_target (program at.within.now) at.i
  unfolding jumps_to_target
  jumps_is is = ∥∥₁_elim named_is (hlevel props) (λ found.
      ap (λ (y : Instruction). all_of (traits (shape y)).names (λ to. is_some at.named)) (sym is ∙ at.standing.instruction_is)
      ∙ by_name (traits_at (program at.within.now) at.i).names (found_some at.within.now.targets.now at.named ∙ ap (λ (o : Option Target). any_of o (λ t. true)) found))
    where
      by_name : (names : Option ℕ) → is_some at.named ≡ any_of (target_named (program at.within.now).targets names) (λ t. true)
          → all_of names (λ to. is_some at.named) ≡ all_of names (is_target (program at.within.now).targets)
      by_name None is = refl
      by_name (Some to) is = is

  pub taken_is : {o : Option ℕ} → at.named ≡ o
      → all_of o (λ j. lies_within (after_taken (shape at.instruction) at.known) (claim_in at.within.now.targets.now j))
      ≡ taken_kept (program at.within.now) at.i
  unfolding taken_kept
  taken_is is = ∥∥₁_elim named_is (hlevel props) (λ found.
      rw (← is) (claims_found at.within.now.targets.now _ at.named
      ∙ ap₂ (λ (o : Option Target) (k : Ranges). all_of o (λ t. lies_within k t.claim)) found
      (ap₂ (λ (x : Instruction) (k : Ranges). after_taken (shape x) k) at.standing.instruction_is at.standing.is_known)
      ∙ by_name (traits_at (program at.within.now) at.i).names))
    where
      by_name : (names : Option ℕ) → all_of (target_named (program at.within.now).targets names) (λ t. lies_within (taken_ranges (program at.within.now) at.i) t.claim)
          ≡ all_of names (λ to. all_of (target_at (program at.within.now).targets to) (λ t. lies_within (taken_ranges (program at.within.now) at.i) t.claim))
      by_name None = refl
      by_name (Some to) = refl

-- 11 on the edge to the next index
pub next_is : (p : Program) (i : ℕ) {falls : Bool} {next : Ranges} → falls ≡ (traits_at p i).falls → next ≡ next_ranges p i
    → (targets : List ℕ) (there : Option ℕ) → target_found targets there ≡ target_at p.targets (i + 1)
    → (not falls || all_of there (λ j. lies_within next (claim_in targets j))) ≡ next_kept p i
unfolding next_kept
next_is p i {falls} {next} is_falls is_next targets there is_there =
    ap (λ (b : Bool). not falls || b) (claims_found targets next there) ∙ rw (is_falls, is_next, is_there)
