-- The plain list of a module's targets: indexes rise, and what a number in it is the number of. Assumes nothing.
use Prim.Native.Nat.{ℕ, zero, suc, ◌+◌, ◌/◌, ◌≤◌, ◌<◌}
use mathlib.Core.Path.{◌≡◌, refl, sym, ap, ◌∙◌}
use mathlib.Core.Bool.{Bool, true, false}
use mathlib.Core.List.{List}
use Rattle.std.specs.Prelude.{Option, None, Some, is_some, option_map, slice_get}
use Rattle.std.proofs.lemmas.Option.{none-some, same_Some}
use native.Mathlib.Nat.{add-zero, zero-add}
use native.Mathlib.Decide.{ℕ_discrete}
use native.Mathlib.Omega.{arith}
use borrow.Author.Tests.{eqb-true, eqb-false}
use lib.Dec.{eqb}
use lib.ListN.{length, get_or}
use Rattle.model.specs.declared.Layout.{Layout}
use Rattle.model.specs.declared.Target.{Target}
use Rattle.model.specs.Program.{target_at}
use Rattle.model.specs.File.{tabulate, target_count, target_index, target_in, program_of}
use Rattle.model.specs.Lookup.{number_at, target_numbered, Rising}
use Rattle.model.specs.Quantifiers.{any_of}
use Rattle.model.specs.Rules.{ModulePlaced}
use Rattle.model.proofs.Lookup.{numbered as numbered_target}
use Rattle.model.proofs.Tabulate.{table_at, length-tabulate}
use Rattle.reader.specs.Loading.{Loaded}
use Rattle.lookup.specs.Found.{target_found}

-- what a number tells of a table of targets: its target has the index, and none before it has
record Numbered (f : ℕ → Target) (from count to j : ℕ) : Type 0 where
  pub below : j < count
  pub here : (f (from + j)).index ≡ to
  pub first : (i : ℕ) → i < j → (f (from + i)).index ≡ to → ⊥

module _ (f : ℕ → Target) (to : ℕ) where
  numbered : (from count j : ℕ) → number_at (tabulate from count f) to ≡ Some j → Numbered f from count to j
  unfolding number_at tabulate
  numbered from zero j is = absurd (none-some j is)
  numbered from (suc count) j is =
      by_test (numbered (suc from) count) (eqb (f from).index to) refl (number_at (tabulate (suc from) count f) to) refl is
    where
      by_test : ((j : ℕ) → number_at (tabulate (suc from) count f) to ≡ Some j → Numbered f (suc from) count to j)
          → (b : Bool) → eqb (f from).index to ≡ b → (o : Option ℕ) → number_at (tabulate (suc from) count f) to ≡ o
          → elim b as (λ _. Option ℕ) [ true ↦ Some 0 | false ↦ option_map suc o ] ≡ Some j → Numbered f from (suc count) to j
      by_test later true same o rest at =
          let zeroth : 0 ≡ j = same_Some 0 j at in
          record {
            below = omega arith;
            here = rw (← zeroth, add-zero from) (eqb-true _ _ same);
            first = λ i before. absurd (omega arith);
          }
      by_test later false other None rest at = absurd (none-some j at)
      by_test later false other (Some i) rest at =
          let next : suc i ≡ j = same_Some (suc i) j at in
          let behind = later i rest in
          record {
            below = omega (arith, behind.below);
            here = let moved : from + j ≡ suc from + i = omega arith in rw moved behind.here;
            first = λ m before. by_place m before (ℕ_discrete m 0) next behind;
          }
        where
          by_place : (m : ℕ) → m < j → Dec (m ≡ 0) → suc i ≡ j → Numbered f (suc from) count to i → (f (from + m)).index ≡ to → ⊥
          by_place zero before here next behind = rw (add-zero from) (eqb-false _ _ other)
          by_place (suc m) before here next behind =
              let moved : from + suc m ≡ suc from + m = omega arith in rw moved (behind.first m (omega arith))

-- the target of a number in a table of targets
target_there : (f : ℕ → Target) (from count j : ℕ) → j < count → slice_get (tabulate from count f) j ≡ Some (f (from + j))
unfolding tabulate
target_there f from zero j below = absurd (omega arith)
target_there f from (suc count) zero below = ap (λ (i : ℕ). Some (f i)) (sym (add-zero from))
target_there f from (suc count) (suc j) below =
    target_there f (suc from) count j (omega arith)
    ∙ ap (λ (i : ℕ). Some (f i)) (let moved : suc from + j ≡ from + suc j = omega arith in moved)

-- and so of the first k targets of the targets' bytes
module _ (targets : List ℕ) (k : ℕ) where
  pub record Listed (to j : ℕ) : Type 0 where
    pub below : j < k
    pub here : target_index targets j ≡ to
    pub first : (i : ℕ) → i < j → target_index targets i ≡ to → ⊥

  pub number_tells : (to j : ℕ) → Some j ≡ number_at (tabulate 0 k (target_in targets)) to → Listed to j
  unfolding target_in
  number_tells to j is =
      let facts = numbered (target_in targets) to 0 k j (sym is) in
      record {
        below = facts.below;
        here = rw zero-add at facts.here;
        first = λ i before same. facts.first i before (rw zero-add same);
      }

  pub found_listed : (to : ℕ) (found : Option ℕ) → found ≡ number_at (tabulate 0 k (target_in targets)) to
      → target_found targets found ≡ target_at (tabulate 0 k (target_in targets)) to
  unfolding target_found
  found_listed to None is =
      ap (target_numbered (tabulate 0 k (target_in targets))) is ∙ numbered_target (tabulate 0 k (target_in targets)) to
  found_listed to (Some j) is =
      ap (λ (i : ℕ). Some (target_in targets i)) (sym (zero-add j))
      ∙ sym (target_there (target_in targets) 0 k j (number_tells to j is).below)
      ∙ ap (target_numbered (tabulate 0 k (target_in targets))) is ∙ numbered_target (tabulate 0 k (target_in targets)) to

-- that a lookup found a target, in the bytes
pub found_some : (targets : List ℕ) (found : Option ℕ) → is_some found ≡ any_of (target_found targets found) (λ t. true)
unfolding target_found
found_some targets None = refl
found_some targets (Some j) = refl

-- rule 7 has indexes rise
kept_rises : {l : Layout} {code targets : List ℕ} → ModulePlaced l code targets → (i j : ℕ) → i < j → j < target_count targets
    → target_index targets i < target_index targets j
kept_rises kept i zero before below = absurd (omega arith)
kept_rises {targets = targets} kept i (suc j) before below =
    let next : target_index targets j < target_index targets (suc j) = (kept.each_target (suc j) below).rising j refl in
    same_or_before (ℕ_discrete i j) (λ earlier. kept_rises kept i j earlier (omega arith)) next
  where
    same_or_before : Dec (i ≡ j) → (i < j → target_index targets i < target_index targets j)
        → target_index targets j < target_index targets (suc j) → target_index targets i < target_index targets (suc j)
    same_or_before (yes same) rises next = rw same next
    same_or_before (no other) rises next = let lower : target_index targets i < target_index targets j = rises (omega arith) in omega arith

module _ {l : Layout} {code targets : List ℕ} {n k : ℕ} (loaded : Loaded l code targets n k) where
  counted : target_count targets ≡ k
  counted = omega (arith, loaded.targets_whole)

  -- the module's targets are the first k
  pub table_is : (program_of l code targets).targets ≡ tabulate 0 k (target_in targets)
  unfolding program_of
  table_is = rw counted

  index_is : (d : Target) (j : ℕ) → j < k → (get_or (tabulate 0 k (target_in targets)) j d).index ≡ target_index targets j
  unfolding target_in
  index_is d j below = ap (λ (t : Target). t.index) (table_at (target_in targets) d k j below)

  index_below : (j : ℕ) → j < k → target_index targets j < n
  index_below j below =
      omega (arith, (loaded.kept.each_target j (rw counted below)).inside, loaded.code_whole)

  -- and so its index is of a group that the tables have
  pub group_below : (j : ℕ) → j < k → target_index targets j / 64 < 64
  group_below j below = omega (arith, index_below j below, loaded.n_most)

  pub rising : Rising n (program_of l code targets).targets
  rising = rw table_is (record {
    rise = λ i j d before below.
        let inside : j < k = rw (length-tabulate 0 k (target_in targets)) at below in
        rw (index_is d i (omega arith), index_is d j inside) (kept_rises loaded.kept i j before (rw counted inside));
    below = λ j d below.
        let inside : j < k = rw (length-tabulate 0 k (target_in targets)) at below in rw (index_is d j inside) (index_below j inside);
  })

  -- what is found by a number is the target that the module has
  pub found_target : (to : ℕ) (found : Option ℕ) → found ≡ number_at (program_of l code targets).targets to
      → target_found targets found ≡ target_at (program_of l code targets).targets to
  found_target to found is = rw table_is (found_listed targets k to found (rw table_is at is))

  -- at most 256
  pub targets_most : length (program_of l code targets).targets ≤ 256
  targets_most = rw (table_is, length-tabulate 0 k (target_in targets)) loaded.k_most
