-- One pass over the instructions: what holds before each turn, that what a turn is given is the module's, and so what holds after it.
-- Assumes nothing.
use Prim.Native.Nat.{ℕ, zero, suc, ◌+◌, ◌-◌, ◌≤◌, ◌<◌}
use mathlib.Core.Path.{◌≡◌, refl, sym, ap, ◌∙◌}
use mathlib.Core.Bool.{Bool, true, false}
use mathlib.Core.List.{List}
use Rattle.std.specs.Prelude.{Option, None, Some, is_some, option_and_then}
use native.Mathlib.Numerals.{add-one}
use Rattle.model.specs.declared.Instruction.{Instruction}
use Rattle.model.specs.declared.Range.{Range}
use Rattle.model.specs.declared.Ranges.{Ranges}
use Rattle.model.specs.declared.Target.{Target}
use Rattle.model.specs.Obligations.{Fault, fault, first_fault, each_from}
use Rattle.model.specs.Program.{Program, code_at, target_at}
use Rattle.model.specs.Quantifiers.{any_of}
use Rattle.model.specs.Instructions.{shape, traits, after_next}
use Rattle.model.specs.Lookup.{number_at}
use Rattle.model.specs.File.{claim_in, target_in, program_of}
use Rattle.model.specs.Judgement.{traits_at, starting_ranges, claim_or, known_at, next_ranges, next_kept, before_next, at_index, verified}
use Rattle.model.proofs.Faults.{index_faultless, index_faulty, indexes_done, indexes_start}
use Rattle.reader.specs.declared.module.Module.{Module}
use Rattle.reader.specs.Loading.{Loaded}
use Rattle.lookup.specs.Found.{target_found}
use Rattle.lookup.proofs.Listed.{found_target, found_some}
use Rattle.reader.proofs.Fetching.{program_count}
use Rattle.verifier.specs.Standing.{arrives_at, arriving_at, wrapped_region, Standing}
use Rattle.reader.specs.Readings.{program}
use Rattle.verifier.proofs.Zones.{unwrapped}
use Rattle.verifier.proofs.Order.{broken_next_claim, next_claim_kept, broken_before}

known_is : (p : Program) (i : ℕ) → claim_or (arriving_at p i) (target_at p.targets i) ≡ known_at p i
unfolding known_at
known_is p zero = refl
known_is p (suc i) = refl

-- before a turn no rule is broken at an index below i
pub record Pass (m : Module) (arriving : Ranges) (arrives : Bool) (here : Option ℕ) (i : ℕ) : Type 0 where
  pub is_arriving : arriving ≡ arriving_at (program m) i
  pub is_arrives : arrives ≡ arrives_at (program m) i
  pub is_here : here ≡ number_at (program m).targets i
  pub rest : first_fault (each_from i (m.held.instructions - i) (at_index (program m))) ≡ first_fault (verified (program m))

-- at a target its claim is taken, and elsewhere nothing
module _ (targets : List ℕ) (arriving : Ranges) {here : Option ℕ} {known : Ranges} where
  pub takes_claim : {j : ℕ} {claim : Ranges} → here ≡ Some j → claim ≡ claim_in targets j → known ≡ claim
      → known ≡ claim_or arriving (target_found targets here)
  unfolding target_found target_in
  takes_claim at is-claim is = rw at (is ∙ is-claim)

  pub takes_nothing : here ≡ None → known ≡ arriving → known ≡ claim_or arriving (target_found targets here)
  unfolding target_found
  takes_nothing nowhere is = rw nowhere is

-- a pass is one whatever the target here is called
pub pass_with : {m : Module} {arriving : Ranges} {arrives : Bool} {here here' : Option ℕ} {i : ℕ} → here' ≡ here
    → Pass m arriving arrives here i → Pass m arriving arrives here' i
pass_with same pass = rw same pass

module _ (m : Module) (loaded : Loaded m.layout m.code.now m.targets.now m.held.instructions m.held.targets) where
  pub pass_starts : {arriving : Ranges} {here : Option ℕ} → arriving ≡ starting_ranges → here ≡ number_at (program m).targets 0 → Pass m arriving true here 0
  unfolding verified
  pass_starts starting is_here = record {
    is_arriving = starting;
    is_arrives = refl;
    is_here = is_here;
    rest = rw (program_count loaded) (indexes_start (at_index (program m)) m.held.instructions);
  }

  module _ {arriving : Ranges} {arrives : Bool} {here : Option ℕ} {i : ℕ} (pass : Pass m arriving arrives here i) where
    pub pass_ends : m.held.instructions ≤ i → None ≡ first_fault (verified (program m))
    pass_ends done = sym (indexes_done (at_index (program m)) i m.held.instructions done) ∙ pass.rest

    module _ (below : i < m.held.instructions) where
      found_here : target_found m.targets.now here ≡ target_at (program m).targets i
      found_here = found_target loaded i here pass.is_here

      pub rules_refuse : {f : Fault} → Some f ≡ first_fault (before_next (program m) i) → Some f ≡ first_fault (verified (program m))
      rules_refuse {f} broken =
          sym (index_faulty (at_index (program m)) i m.held.instructions f below (broken_before (program m) i f broken)) ∙ pass.rest

      module _ {known : Ranges} (enters : known ≡ claim_or arriving (target_found m.targets.now here)) {x : Instruction} (fetched : x ≡ code_at (program m) i) where
        -- what the rules are given is the module's
        pub standing : {marked : Bool} → marked ≡ is_some here → {named : Option ℕ}
            → named ≡ option_and_then (number_at (program m).targets) (traits (shape x)).names → Standing m i arrives marked x named known
        standing is-marked is_named = record {
          below = below;
          is_arrives = pass.is_arrives;
          is-marked = is-marked ∙ found_some m.targets.now here ∙ ap (λ (o : Option Target). any_of o (λ t. true)) found_here;
          instruction_is = fetched;
          is_named = is_named ∙ ap (λ (y : Instruction). option_and_then (number_at (program m).targets) (traits (shape y)).names) fetched;
          is_known = enters ∙ rw (found_here, pass.is_arriving) (known_is (program m) i);
        }

        module _ (met : None ≡ first_fault (before_next (program m) i)) {falls : Bool} (falling : falls ≡ (traits (shape x)).falls)
            {region : Range} (is_region : region ≡ wrapped_region m.layout)
            {next : Ranges} (goes : next ≡ after_next region (shape x) known)
            {there : Option ℕ} (is_there : there ≡ number_at (program m).targets (i + 1)) where
          -- what the edge to the next index is given is the module's, and so is what the test of it answers
          is_falls : falls ≡ (traits_at (program m) i).falls
          is_falls = falling ∙ ap (λ (y : Instruction). (traits (shape y)).falls) fetched

          is_next : next ≡ next_ranges (program m) i
          unfolding program_of
          is_next = goes ∙ rw (is_region, unwrapped loaded.kept.layout, fetched, enters, found_here, pass.is_arriving, known_is (program m) i)

          found_there : target_found m.targets.now there ≡ target_at (program m).targets (i + 1)
          found_there = found_target loaded (i + 1) there is_there

          module _ {kept : Bool} (answers : (i : ℕ) → falls ≡ (traits_at (program m) i).falls → next ≡ next_ranges (program m) i
              → target_found m.targets.now there ≡ target_at (program m).targets (i + 1) → kept ≡ next_kept (program m) i) where
            tested : kept ≡ next_kept (program m) i
            tested = answers i is_falls is_next found_there

            pub next_refuses : kept ≡ false → Some (fault 11 i) ≡ first_fault (verified (program m))
            next_refuses broken =
                sym (index_faulty (at_index (program m)) i m.held.instructions (fault 11 i) below
                (sym (broken_next_claim (program m) i met (sym tested ∙ broken)))) ∙ pass.rest

            -- what is left where nothing is refused
            pub turn_passes : kept ≡ true → Pass m next falls there (i + 1)
            turn_passes keeps = record {
              is_arriving = rw (add-one i) is_next;
              is_arrives = rw (add-one i) is_falls;
              is_here = is_there;
              rest =
                  sym (index_faultless (at_index (program m)) i m.held.instructions below
                  (next_claim_kept (program m) i met (sym tested ∙ keeps)))
                  ∙ pass.rest;
            }
