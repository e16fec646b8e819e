-- The test of all eight registers, by what its chain says of each. Assumes nothing.
use Rattle.std.proofs.Common.{◌≡◌, ℕ, ◌<◌, ◌↔◌, Bool, true, false, ◌&&◌, leb, refl, sym}
use Rattle.model.specs.declared.Ranges.{Ranges}
use Rattle.model.specs.Ranges.{low, high, lies_within}
use Rattle.model.proofs.Reflection.{all_below_reflects}

-- one register's range lies within the claim's
abbrev pub inside : Ranges → Ranges → ℕ → Bool
inside k claim r = leb (low claim r) (low k r) && leb (high k r) (high claim r)

same_truth : (a b : Bool) → (a ≡ true → b ≡ true) → (b ≡ true → a ≡ true) → a ≡ b
same_truth true b there back = sym (there refl)
same_truth false true there back = back refl
same_truth false false there back = refl

pub lies_within_is : (k claim : Ranges) (b : Bool) → (b ≡ true) ↔ ((r : ℕ) → r < 8 → inside k claim r ≡ true)
    → b ≡ lies_within k claim
unfolding lies_within
lies_within_is k claim b each =
    let all = all_below_reflects 8 {P = λ r. inside k claim r ≡ true} (λ r. (λ e. e, λ e. e)) in
    same_truth b (lies_within k claim) (λ e. all.1 (each.0 e)) (λ e. each.1 (all.0 e))
