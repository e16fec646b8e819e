-- A claim written over that of a target, register by register: it is the claim's bytes stored. Assumes nothing.
use Prim.Native.Nat.{ℕ, zero, suc, ◌+◌, ◌*◌, ◌≤◌}
use mathlib.Core.Path.{◌≡◌, refl, sym, ap, ◌∙◌}
use mathlib.Core.Bool.{cond}
use mathlib.Core.List.{List, [], ◌∷◌, ◌++◌, flat_map, append_assoc}
use native.Mathlib.Nat.{add-zero, zero-add}
use native.Mathlib.Omega.{arith}
use borrow.Author.Tests.{le-leb}
use lib.Dec.{leb}
use lib.ListN.{length, set, length-append}
use lib.Seq.{sets}
use Rattle.model.specs.declared.Ranges.{Ranges}
use Rattle.model.specs.Words.{write_bytes}
use Rattle.model.specs.Ranges.{low, high}
use Rattle.model.specs.File.{tabulate}
use Rattle.model.specs.Claims.{write_ranges}
use Rattle.model.specs.Writer.{word, claim_bytes}
use Rattle.model.proofs.Tabulate.{length-tabulate}
use Rattle.model.proofs.Tests.{cond_true}
use Rattle.model.proofs.Writer.Bytes.{low_length}
use Rattle.model.proofs.Writer.Units.{units_length}
use Rattle.model.proofs.Writer.Entries.{range_length}
use Rattle.writer.proofs.Storing.{after-1, after-2, after-3, sets_behind, number_stored, flat_more, stored_length}

-- the ranges of the first n registers, as bytes
abbrev range_bytes : Ranges → ℕ → List ℕ
range_bytes k r = word (low k r) ++ word (high k r)

abbrev first_ranges : Ranges → ℕ → List ℕ
first_ranges k n = flat_map (range_bytes k) (tabulate 0 n (λ r. r))

first_length : (k : Ranges) (n : ℕ) → length (first_ranges k n) ≡ 8 * n
first_length k n = units_length 8 (range_bytes k) (range_length k) (tabulate 0 n (λ r. r)) ∙ ap (λ (m : ℕ). 8 * m) (length-tabulate 0 n (λ r. r))

tabulate_more : (i n : ℕ) → tabulate i (suc n) (λ r. r) ≡ tabulate i n (λ r. r) ++ ((i + n) ∷ [])
unfolding tabulate
tabulate_more i zero = rw add-zero
tabulate_more i (suc n) = let moved : i + suc n ≡ suc i + n = omega arith in rw moved (ap {B = List ℕ} (λ (l : List ℕ). i ∷ l) (tabulate_more (suc i) n))

one_more : (k : Ranges) (n : ℕ) → first_ranges k n ++ range_bytes k n ≡ first_ranges k (suc n)
one_more k n =
    sym (flat_more (range_bytes k) (tabulate 0 n (λ r. r)) n)
    ∙ ap (flat_map (range_bytes k)) (sym (tabulate_more 0 n ∙ rw zero-add))

-- written register by register, they are stored behind the target's head
ranges_stored : (n at : ℕ) (k : Ranges) (l : List ℕ) → write_ranges n at k l ≡ sets l (at + 4) (first_ranges k n)
unfolding write_ranges flat_map tabulate
ranges_stored zero at k l = refl
ranges_stored (suc n) at k l =
    let low-at : at + 4 + 8 * n ≡ at + 4 + length (first_ranges k n) = rw (first_length k n) in
    let high-at : at + 8 + 8 * n ≡ at + 4 + length (first_ranges k n ++ word (low k n)) =
    omega (arith, length-append (first_ranges k n) (word (low k n)), first_length k n, low_length 4 (low k n)) in
    let lowest : write_bytes 4 (low k n) (write_ranges n at k l) (at + 4 + 8 * n) ≡ sets l (at + 4) (first_ranges k n ++ word (low k n)) =
    number_stored 4 (low k n) (write_ranges n at k l) (at + 4 + 8 * n)
    ∙ rw (ranges_stored n at k l, low-at) (sets_behind l (at + 4) (first_ranges k n) (word (low k n))) in
    number_stored 4 (high k n) _ (at + 8 + 8 * n)
    ∙ rw (lowest, high-at) (sets_behind l (at + 4) (first_ranges k n ++ word (low k n)) (word (high k n)))
    ∙ ap (sets l (at + 4)) (append_assoc (first_ranges k n) (word (low k n)) (word (high k n)) ∙ one_more k n)

pub claim_stored : (at : ℕ) (k : Ranges) (l : List ℕ) → write_ranges 8 at k l ≡ sets l (at + 4) (claim_bytes k)
unfolding claim_bytes
claim_stored at k l = ranges_stored 8 at k l

-- and so a claim behind four bytes
pub claim_behind : (l : List ℕ) (at p q r s : ℕ) {claim k : Ranges} → claim ≡ k → at + 68 ≤ length l → {after : List ℕ}
    → let head = set (set (set (set l at p) (at + 1) q) (at + 2) r) (at + 3) s in
    after ≡ cond (leb (at + 68) (length head)) (write_ranges 8 at claim head) head → after ≡ sets l at (p ∷ q ∷ r ∷ s ∷ claim_bytes k)
claim_behind l at p q r s {claim} {k} is-claim room is_after =
    let head = set (set (set (set l at p) (at + 1) q) (at + 2) r) (at + 3) s in
    let head-is : head ≡ sets l at (p ∷ q ∷ r ∷ s ∷ []) = rw (after-1, after-2, after-3) refl in
    let as_long : length head ≡ length l = stored_length l at (p ∷ q ∷ r ∷ s ∷ []) head-is in
    is_after
    ∙ cond_true (leb (at + 68) (length head)) _ _ (le-leb (at + 68) (length head) (omega arith))
    ∙ claim_stored at claim head
    ∙ rw (head-is, is-claim) (sets_behind l at (p ∷ q ∷ r ∷ s ∷ []) (claim_bytes k))
