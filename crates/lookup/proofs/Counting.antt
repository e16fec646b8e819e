-- The counts of the groups, as they are filled in one after another. Assumes nothing.
use Prim.Native.Nat.{ℕ, suc, ◌+◌, ◌*◌, ◌≤◌, ◌<◌}
use mathlib.Core.Path.{◌≡◌, refl, sym, ap, ◌∙◌}
use mathlib.Core.Bool.{Bool, true, false, cond}
use mathlib.Core.List.{List, [], ◌∷◌}
use Rattle.std.specs.Prelude.{count_ones}
use Rattle.std.specs.Int.{div_ceil}
use Rattle.std.proofs.Math.ListN.{length, get_or, set, replicate, length-replicate, get_or-replicate}
use Rattle.std.proofs.lemmas.List.{get_or-set_same, get_or-set_other, length-set}
use native.Mathlib.Decide.{ℕ_discrete}
use native.Mathlib.Omega.{arith}
use borrow.Author.Tests.{lt-ltb, le-ltb, ltb-true, ltb-false}
use lib.Dec.{ltb}
use lib.Seq.{ext_get_or}
use Rattle.model.specs.declared.Target.{Target}
use Rattle.model.specs.File.{tabulate}
use Rattle.model.specs.Lookup.{targets_below, Rising, bits_of_group, bit_table, count_table}
use Rattle.model.proofs.Lookup.{places_further}
use Rattle.model.proofs.Tabulate.{table_at, tabulate_same, tabulate_is, length-tabulate}

-- no more stand below an index than there are
pub below_most : (ts : List Target) (i : ℕ) → targets_below ts i ≤ length ts
unfolding targets_below
below_most [] i = omega arith
below_most (t ∷ ts) i = one_or_none (ltb t.index i) (below_most ts i)
  where
    one_or_none : (b : Bool) → targets_below ts i ≤ length ts → cond b 1 0 + targets_below ts i ≤ suc (length ts)
    one_or_none true most = omega arith
    one_or_none false most = omega arith

-- and none below index 0
pub none_before : (ts : List Target) → 0 ≡ targets_below ts 0
unfolding targets_below
none_before [] = refl
none_before (t ∷ ts) = rw (le-ltb t.index 0 (omega arith)) (omega (arith, none_before ts))

-- the groups that n instructions have
pub groups_end : (n g : ℕ) → (g < div_ceil n 64 → 64 * g < n) × (div_ceil n 64 ≤ g → n ≤ 64 * g)
groups_end n g = (λ below. omega arith, λ past. omega arith)

-- and these are groups that the tables have
pub group_inside : {n g : ℕ} → n ≤ 4096 → g < div_ceil n 64 → g < 64
group_inside few below = omega arith

module _ (ts : List Target) where
  -- of the groups below a number, and 0 from there on
  abbrev pub count_to : ℕ → ℕ → ℕ
  count_to to g = cond (ltb g to) (targets_below ts (64 * g)) 0

  abbrev pub counts_to : ℕ → List ℕ
  counts_to to = tabulate 0 64 (count_to to)

  pub none_counted : replicate 64 0 ≡ counts_to 0
  none_counted = sym (tabulate_is (count_to 0) 0 64 (replicate 64 0) (length-replicate {A = ℕ} 64 0) (λ g below.
      rw (le-ltb g 0 (omega arith)) (sym (get_or-replicate {A = ℕ} 64 g 0 0 below))))

  pub one_counted : (g : ℕ) → g < 64 → set (counts_to g) g (targets_below ts (64 * g)) ≡ counts_to (g + 1)
  one_counted g inside =
      ext_get_or 0 _ _ (length-set (counts_to g) g _ ∙ length-tabulate 0 64 (count_to g) ∙ sym (length-tabulate 0 64 (count_to (g + 1))))
      (λ h below. at_group h (rw (length-set (counts_to g) g (targets_below ts (64 * g)), length-tabulate 0 64 (count_to g)) at below) (ℕ_discrete h g))
    where
      kept : (h : ℕ) → (h ≡ g → ⊥) → count_to g h ≡ count_to (g + 1) h
      kept h other = by_test (ltb h g) refl
        where
          by_test : (b : Bool) → ltb h g ≡ b → count_to g h ≡ count_to (g + 1) h
          by_test true below = rw (below, lt-ltb h (g + 1) (let lower = ltb-true h g below in omega arith)) refl
          by_test false above = rw (above, le-ltb h (g + 1) (let upper = ltb-false h g above in omega arith)) refl

      at_group : (h : ℕ) → h < 64 → Dec (h ≡ g) → get_or (set (counts_to g) g (targets_below ts (64 * g))) h 0 ≡ get_or (counts_to (g + 1)) h 0
      at_group h below (yes here) = rw here
          (get_or-set_same (counts_to g) g (targets_below ts (64 * g)) 0 (rw (length-tabulate 0 64 (count_to g)) inside)
          ∙ sym (table_at (count_to (g + 1)) 0 64 g inside ∙ ap (λ (b : Bool). cond b (targets_below ts (64 * g)) 0) (lt-ltb g (g + 1) (omega arith))))
      at_group h below (no other) =
          get_or-set_other (counts_to g) g h (targets_below ts (64 * g)) 0 other
          ∙ table_at (count_to g) 0 64 h below ∙ kept h other ∙ sym (table_at (count_to (g + 1)) 0 64 h below)

  -- the groups of n instructions
  pub all_counted : (n to : ℕ) → ((g : ℕ) → (g < to → 64 * g < n) × (to ≤ g → n ≤ 64 * g)) → counts_to to ≡ count_table n ts
  unfolding count_table
  all_counted n to groups = tabulate_same (count_to to) (λ g. cond (ltb (64 * g) n) (targets_below ts (64 * g)) 0) 0 64 (λ g _ _. by_test g (ltb g to) refl)
    where
      by_test : (g : ℕ) (b : Bool) → ltb g to ≡ b → count_to to g ≡ cond (ltb (64 * g) n) (targets_below ts (64 * g)) 0
      by_test g true below = rw (below, lt-ltb (64 * g) n ((groups g).0 (ltb-true g to below))) refl
      by_test g false above = rw (above, le-ltb (64 * g) n ((groups g).1 (ltb-false g to above))) refl

  -- one group further, as many targets more as it has bits
  pub group_further : {n : ℕ} → Rising n ts → (g : ℕ) → g < 64
      → targets_below ts (64 * (g + 1)) ≡ targets_below ts (64 * g) + count_ones (get_or (bit_table ts) g 0)
  unfolding bit_table
  group_further rising g inside =
      let moved : 64 * (g + 1) ≡ 64 * g + 64 = omega arith in
      rw (moved, table_at (bits_of_group ts) 0 64 g inside) (places_further ts rising (64 * g) 64)
