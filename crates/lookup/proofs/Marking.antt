-- The bits of a list of targets, as they are set one after another. Assumes nothing.
use Prim.Native.Nat.{ℕ, zero, suc, ◌+◌, ◌*◌, ◌/◌, ◌%◌, ◌^◌, ◌<◌, max}
use mathlib.Core.Path.{◌≡◌, refl, sym, ap, ◌∙◌}
use mathlib.Core.Bool.{Bool, true, false, cond, ◌||◌, or-false}
use mathlib.Core.List.{List, []}
use Rattle.std.proofs.Math.ListN.{get_or, set, replicate, length-replicate, get_or-replicate}
use Rattle.std.proofs.lemmas.List.{get_or-set_same, get_or-set_other, length-set}
use native.Mathlib.Nat.{add-zero}
use native.Mathlib.Decide.{ℕ_discrete}
use native.Mathlib.Omega.{arith}
use borrow.Author.Tests.{eq-eqb, ne_eqb}
use lib.Bits.{bit_or, or_lt}
use lib.Dec.{eqb}
use lib.Lanes.{mask_l}
use Rattle.std.specs.Int.{bit_at}
use Rattle.std.specs.Prelude.{None, Some}
use Rattle.model.specs.Quantifiers.{any_of}
use lib.Seq.{ext_get_or}
use Rattle.std.proofs.lemmas.Nat.{pow_below}
use Rattle.std.proofs.lemmas.Nat.Bits.{bit_at-lt, bit_at_or, bit_at-pow_same, bit_at-pow_other, bit_at-zero, same_from_bits, same_from_bits_below}
use Rattle.std.proofs.lemmas.Simd.{mask_l-lt, bit_mask_l}
use Rattle.model.specs.declared.Target.{Target}
use Rattle.model.specs.Program.{target_at, is_target}
use Rattle.model.specs.File.{tabulate}
use Rattle.model.specs.Lookup.{bits_of_group, bit_table}
use Rattle.model.proofs.Lookup.{bit_of}
use Rattle.model.proofs.Tabulate.{table_at, tabulate_same, tabulate_is, tabulate_everywhere, length-tabulate}

-- the bits of a table of tests
module _ (f : ℕ → Bool) (m w : ℕ) where
  mask_small : mask_l (tabulate m w f) < 2 ^ w
  mask_small = let small = mask_l-lt (tabulate m w f) in rw (length-tabulate m w f) at small

  -- one that is set besides
  bit_set : (g : ℕ → Bool) (b : ℕ) → b < w → ((x : ℕ) → g x ≡ f x || eqb (m + b) x)
      → bit_or (mask_l (tabulate m w f)) (2 ^ b) ≡ mask_l (tabulate m w g)
  bit_set g b below besides =
      same_from_bits_below w _ _ (or_lt w _ _ mask_small (pow_below b w below)) (let small = mask_l-lt (tabulate m w g) in rw (length-tabulate m w g) at small)
      (λ i inside.
      bit_at_or (mask_l (tabulate m w f)) (2 ^ b) i
      ∙ ap (λ (r : ℕ). max r (bit_at (2 ^ b) i)) (bit_of f m w i inside)
      ∙ by_place i (f (m + i)) refl (ℕ_discrete i b)
      ∙ sym (bit_of g m w i inside))
    where
      by_place : (i : ℕ) (t : Bool) → f (m + i) ≡ t → Dec (i ≡ b) → max (cond (f (m + i)) 1 0) (bit_at (2 ^ b) i) ≡ cond (g (m + i)) 1 0
      by_place i true was place = rw (besides (m + i), was) (omega (arith, bit_at-lt (2 ^ b) i))
      by_place i false was (yes here) = rw (besides (m + i), was, here, bit_at-pow_same b, eq-eqb (m + b) (m + b) refl) refl
      by_place i false was (no other) =
          rw (besides (m + i), was, bit_at-pow_other b i other, ne_eqb (m + b) (m + i) (λ same. other (omega arith))) refl

-- one target more at the end of a table of targets is found besides
one_more : (f : ℕ → Target) (x from count : ℕ)
    → is_target (tabulate from (suc count) f) x ≡ is_target (tabulate from count f) x || eqb (f (from + count)).index x
unfolding target_at tabulate
one_more f x from zero = rw (add-zero from) (by_test (eqb (f from).index x))
  where
    by_test : (b : Bool) → any_of (elim b [ true ↦ Some (f from) | false ↦ None ]) (λ t. true) ≡ b
    by_test true = refl
    by_test false = refl
one_more f x from (suc count) =
    let moved : from + suc count ≡ suc from + count = omega arith in
    rw moved (by_test (one_more f x (suc from) count) (eqb (f from).index x))
  where
    by_test : is_target (tabulate (suc from) (suc count) f) x ≡ is_target (tabulate (suc from) count f) x || eqb (f (suc from + count)).index x
        → (b : Bool)
        → any_of (elim b [ true ↦ Some (f from) | false ↦ target_at (tabulate (suc from) (suc count) f) x ]) (λ t. true)
        ≡ any_of (elim b [ true ↦ Some (f from) | false ↦ target_at (tabulate (suc from) count f) x ]) (λ t. true) || eqb (f (suc from + count)).index x
    by_test later true = refl
    by_test later false = later

-- with it, its bit is set
pub bit_marked : (ts ts' : List Target) (i : ℕ) → i / 64 < 64 → ((x : ℕ) → is_target ts' x ≡ is_target ts x || eqb i x)
    → set (bit_table ts) (i / 64) (bit_or (get_or (bit_table ts) (i / 64) 0) (2 ^ (i % 64))) ≡ bit_table ts'
unfolding bit_table
bit_marked ts ts' i inside besides =
    ext_get_or 0 _ _ (length-set (tabulate 0 64 (bits_of_group ts)) (i / 64) _ ∙ length-tabulate 0 64 (bits_of_group ts) ∙ sym (length-tabulate 0 64 (bits_of_group ts')))
    (λ g below. at_group g (rw (length-set (tabulate 0 64 (bits_of_group ts)) (i / 64) _, length-tabulate 0 64 (bits_of_group ts)) at below) (ℕ_discrete g (i / 64)))
  where
    place : 64 * (i / 64) + i % 64 ≡ i
    place = omega arith

    at_group : (g : ℕ) → g < 64 → Dec (g ≡ i / 64)
        → get_or (set (tabulate 0 64 (bits_of_group ts)) (i / 64) (bit_or (get_or (tabulate 0 64 (bits_of_group ts)) (i / 64) 0) (2 ^ (i % 64)))) g 0
        ≡ get_or (tabulate 0 64 (bits_of_group ts')) g 0
    at_group g below (yes here) = rw here
        (get_or-set_same (tabulate 0 64 (bits_of_group ts)) (i / 64) _ 0 (rw (length-tabulate 0 64 (bits_of_group ts)) inside)
        ∙ ap (λ (word : ℕ). bit_or word (2 ^ (i % 64))) (table_at (bits_of_group ts) 0 64 (i / 64) inside)
        ∙ bit_set (is_target ts) (64 * (i / 64)) 64 (is_target ts') (i % 64) (omega arith) (rw place besides)
        ∙ sym (table_at (bits_of_group ts') 0 64 (i / 64) inside))
    at_group g below (no other) =
        get_or-set_other (tabulate 0 64 (bits_of_group ts)) (i / 64) g _ 0 other
        ∙ table_at (bits_of_group ts) 0 64 g below
        ∙ ap mask_l (tabulate_same (is_target ts) (is_target ts') (64 * g) 64 (λ x from till.
        sym (besides x ∙ rw (ne_eqb i x (λ same. other (omega arith))) (or-false (is_target ts x)))))
        ∙ sym (table_at (bits_of_group ts') 0 64 g below)

-- before the first, none is
pub none_marked : replicate 64 0 ≡ bit_table []
unfolding bit_table target_at
none_marked = sym (tabulate_is (bits_of_group []) 0 64 (replicate 64 0) (length-replicate {A = ℕ} 64 0) (λ g below.
    unmarked (64 * g) 64 ∙ sym (get_or-replicate {A = ℕ} 64 g 0 0 below)))
  where
    unmarked : (m w : ℕ) → mask_l (tabulate m w (λ i. false)) ≡ 0
    unmarked m w = same_from_bits (mask_l (tabulate m w (λ i. false))) 0 (λ i.
        bit_mask_l (tabulate m w (λ i. false)) i
        ∙ ap (λ (b : Bool). cond b 1 0) (tabulate_everywhere (λ b. b ≡ false) (λ i. false) false (λ i. refl) refl m w i)
        ∙ sym (bit_at-zero i))

-- the next of a table of targets is marked
pub target_marked : (f : ℕ → Target) (j i : ℕ) → i ≡ (f j).index → i / 64 < 64
    → set (bit_table (tabulate 0 j f)) (i / 64) (bit_or (get_or (bit_table (tabulate 0 j f)) (i / 64) 0) (2 ^ (i % 64)))
    ≡ bit_table (tabulate 0 (suc j) f)
target_marked f j i is inside =
    bit_marked (tabulate 0 j f) (tabulate 0 (suc j) f) i inside (λ x.
    let same : 0 + j ≡ j = omega arith in rw is (rw same at (one_more f x 0 j)))
