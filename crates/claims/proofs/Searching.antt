-- A table of entries: what stands at an index is the entry of the target there, and reaching it, and giving anything to the lowest
-- unreached one, change just the entries that the definitions change. Assumes nothing.
use Rattle.std.proofs.Common.{◌≡◌, ℕ, zero, suc, ◌+◌, ◌≤◌, ◌<◌, Bool, true, false, eqb, List, ◌∷◌, refl, sym, ap, ◌∙◌, arith}
use Rattle.std.specs.Prelude.{Some, None, option_map}
use native.Mathlib.Decide.{ℕ_discrete}
use borrow.Author.Tests.{eq-eqb, ne_eqb}
use Rattle.model.specs.declared.Ranges.{Ranges}
use Rattle.model.specs.declared.Target.{Target}
use Rattle.model.specs.Program.{target_at}
use Rattle.model.specs.Ranges.{unknown}
use Rattle.model.specs.File.{tabulate}
use Rattle.model.specs.Claims.{Entry, fresh, entry_at, reached, reach_at, given_or, given}
use Rattle.model.proofs.Tabulate.{tabulate_same}

-- what a search through a table comes to, where it stops at number j
module _ {R : Type 0} (F : List Entry → R) (f : ℕ → Entry) (j : ℕ) (to : ℕ → ℕ → R) where
  found : ((n : ℕ) → F (tabulate j (suc n) f) ≡ to j (suc n))
      → ((i n : ℕ) → i < j → F (tabulate (suc i) n f) ≡ to (suc i) n → F (tabulate i (suc n) f) ≡ to i (suc n))
      → (i n : ℕ) → i ≤ j → j < i + n → F (tabulate i n f) ≡ to i n
  found here later i zero least most = absurd (omega arith)
  found here later i (suc n) least most = first_or_later (ℕ_discrete i j) (λ past. found here later (suc i) n past (omega arith))
    where
      first_or_later : Dec (i ≡ j) → (suc i ≤ j → F (tabulate (suc i) n f) ≡ to (suc i) n) → F (tabulate i (suc n) f) ≡ to i (suc n)
      first_or_later (yes first) rest = rw first (here n)
      first_or_later (no other) rest = later i n (omega arith) (rest (omega arith))

-- where an index is looked for
module _ (f : ℕ → Entry) (index : ℕ) where
  -- no target there, no entry
  pub entry_missing : (g : ℕ → Target) → ((j : ℕ) → (f j).index ≡ (g j).index) → (i n : ℕ) → target_at (tabulate i n g) index ≡ None
      → entry_at (tabulate i n f) index ≡ None
  unfolding target_at entry_at tabulate
  entry_missing g same i zero missing = refl
  entry_missing g same i (suc n) missing = by_test (eqb (g i).index index) refl (λ rest. entry_missing g same (suc i) n rest)
    where
      by_test : (t : Bool) → eqb (g i).index index ≡ t
          → (target_at (tabulate (suc i) n g) index ≡ None → entry_at (tabulate (suc i) n f) index ≡ None)
          → entry_at (tabulate i (suc n) f) index ≡ None
      by_test true there rest = let none : Some (g i) ≡ None = rw (there, target_at) at missing in absurd (cc)
      by_test false elsewhere rest = rw (same i, elsewhere, entry_at) (rest (rw (elsewhere, target_at) at missing))

  -- the first entry with the index is found, and reached
  module _ (j : ℕ) (here : (f j).index ≡ index) (before : (i : ℕ) → i < j → (f i).index ≡ index → ⊥) where
    pub entry_found : (n : ℕ) → j < n → entry_at (tabulate 0 n f) index ≡ Some (f j)
    unfolding entry_at tabulate
    entry_found n inside =
        found (λ es. entry_at es index) f j (λ i n. Some (f j))
        (λ n. rw (eq-eqb (f j).index index here, entry_at))
        (λ i n below rest. rw (ne_eqb (f i).index index (before i below), entry_at) rest)
        0 n (omega arith) (omega arith)

    pub entry_reached : (ranges : Ranges) (g : ℕ → Entry) → g j ≡ reached (f j) (f j).claim ranges → ((i : ℕ) → (i ≡ j → ⊥) → g i ≡ f i)
        → (n : ℕ) → j < n → reach_at (tabulate 0 n f) index ranges ≡ tabulate 0 n g
    unfolding reach_at tabulate
    entry_reached ranges g now still n inside =
        found (λ es. reach_at es index ranges) f j (λ i n. tabulate i n g)
        (λ n. rw (eq-eqb (f j).index index here, reach_at, now, tabulate_same f g (suc j) n (λ i after _. sym (still i (omega arith)))))
        (λ i n below rest. rw (ne_eqb (f i).index index (before i below), reach_at, rest, still i (omega arith)))
        0 n (omega arith) (omega arith)

-- the lowest unreached target
module _ (f : ℕ → Entry) where
  abbrev Reached : ℕ → Type 0
  Reached i = (k : Ranges) × ((f i).claim ≡ Some k)

  pub none_unreached : (i n : ℕ) → ((m : ℕ) → m < i + n → Reached m) → given (tabulate i n f) ≡ None
  unfolding given tabulate
  none_unreached i zero all = refl
  none_unreached i (suc n) all = rw ((all i (omega arith)).1, given, none_unreached (suc i) n (λ m below. all m (omega arith)))

  pub lowest_given : (j : ℕ) → (f j).claim ≡ None → ((i : ℕ) → i < j → Reached i)
      → (g : ℕ → Entry) → g j ≡ fresh (f j).index (f j).indirect (Some unknown) → ((i : ℕ) → (i ≡ j → ⊥) → g i ≡ f i)
      → (n : ℕ) → j < n → given (tabulate 0 n f) ≡ Some (tabulate 0 n g)
  unfolding given tabulate
  lowest_given j unreached before g now still n inside =
      found given f j (λ i n. Some (tabulate i n g))
      (λ n. rw (unreached, given, now, tabulate_same f g (suc j) n (λ i after _. sym (still i (omega arith)))))
      (λ i n below rest.
      ap (λ claim. given_or (f i) (tabulate (suc i) n f) claim (given (tabulate (suc i) n f))) (before i below).1
      ∙ ap (option_map (λ es. f i ∷ es)) rest ∙ rw (still i (omega arith)))
      0 n (omega arith) (omega arith)
