-- Targets found at once: where indexes rise, the number of a target is how many stand below it, these are what the tables count, and so
-- what is found by the tables is what the plain list has. Assumes nothing.
use Prim.Native.Nat.{ℕ, zero, suc, ◌+◌, ◌*◌, ◌/◌, ◌%◌, ◌^◌, ◌≤◌, ◌<◌}
use mathlib.Core.Path.{◌≡◌, refl, sym, ap, ◌∙◌}
use mathlib.Core.Bool.{Bool, true, false, cond, false≢true}
use mathlib.Core.List.{List, [], ◌∷◌}
use Rattle.std.specs.Prelude.{Option, None, Some, is_some, option_map, count_ones, All}
use native.Mathlib.Nat.{zero-div}
use native.Mathlib.Numerals.{add-one, unary_clauses}
use native.Mathlib.Omega.{arith}
use native.Mathlib.Decide.{ℕ_discrete}
use borrow.Author.Tests.{ltb-true, ltb-false, lt-ltb, le-ltb, eq-eqb, ne_eqb, eqb-true}
use lib.Dec.{ltb, eqb}
use lib.Lanes.{mask_l}
use Rattle.std.specs.Int.{bit_at}
use lib.ListN.{length, get_or}
use Rattle.std.proofs.lemmas.Nat.{mod-pow-add}
use Rattle.std.proofs.lemmas.Simd.{bit_mask_l, ones-mask_l_cons}
use Rattle.model.specs.declared.Target.{Target}
use Rattle.model.specs.Quantifiers.{any_of}
use Rattle.model.specs.Program.{target_at, is_target}
use Rattle.model.specs.File.{tabulate, most_instructions}
use Rattle.model.specs.Lookup.{number_at, target_numbered, targets_below, Rising, bits_of_group, bit_table, count_table, word_at, is_set, set_below, found_by, found_at}
use Rattle.model.specs.Promises.{FoundAtOnce}
use Rattle.std.proofs.Math.ListN.{get_or-eq_default}
use Rattle.model.proofs.Tests.{cond_true, cond_false}
use Rattle.model.proofs.Tabulate.{tabulate_at, table_at, length-tabulate}

-- ---- a list whose indexes rise

-- what is asked of the targets behind the first
module _ {n : ℕ} {t : Target} {ts : List Target} (rising : Rising n (t ∷ ts)) where
  later_rise : Rising n ts
  later_rise = record {
    rise = λ i j d before below. rising.rise (suc i) (suc j) d (omega arith) (omega arith);
    below = λ i d below. rising.below (suc i) d (omega arith);
  }

  first_below : t.index < n
  first_below = rising.below 0 t (omega arith)

  first_lowest : All (λ (u : Target). t.index < u.index) ts
  first_lowest i d below = rising.rise 0 (suc i) d (omega arith) (omega arith)

-- whether a target stands at an index, by the first and by the others
module _ (t : Target) (ts : List Target) (i : ℕ) where
  by_first : (b : Bool) → eqb t.index i ≡ b → is_target (t ∷ ts) i ≡ cond b true (is_target ts i)
  unfolding target_at
  by_first true same = ap (λ (b : Bool). any_of (elim b [ true ↦ Some t | false ↦ target_at ts i ]) (λ u. true)) same
  by_first false other = ap (λ (b : Bool). any_of (elim b [ true ↦ Some t | false ↦ target_at ts i ]) (λ u. true)) other

  is_first : t.index ≡ i → is_target (t ∷ ts) i ≡ true
  is_first same = by_first true (eq-eqb t.index i same)

  is_later : (t.index ≡ i → ⊥) → is_target (t ∷ ts) i ≡ is_target ts i
  is_later other = by_first false (ne_eqb t.index i other)

-- none stands at an index below all, nor below it
module _ (i : ℕ) where
  abbrev Past : List Target → Type 0
  Past ts = All (λ (u : Target). i < u.index) ts

  past_later : (t : Target) (ts : List Target) → Past (t ∷ ts) → Past ts
  past_later t ts past j d below = past (suc j) d (omega arith)

  past_here : (t : Target) (ts : List Target) → Past (t ∷ ts) → i < t.index
  past_here t ts past = past 0 t (omega arith)

  none_here : (ts : List Target) → Past ts → is_target ts i ≡ false
  unfolding target_at
  none_here [] past = refl
  none_here (t ∷ ts) past =
      is_later t ts i (λ same. omega (arith, past_here t ts past)) ∙ none_here ts (past_later t ts past)

  none_below : (ts : List Target) → Past ts → targets_below ts i ≡ 0
  unfolding targets_below
  none_below [] past = refl
  none_below (t ∷ ts) past =
      rw (le-ltb t.index i (omega (arith, past_here t ts past))) (omega (arith, none_below ts (past_later t ts past)))

-- where the first target stands to an index
data Stands (t i : ℕ) : Type 0 where
  lower : t < i → Stands t i
  here : t ≡ i → Stands t i
  upper : i < t → Stands t i

stands : (t i : ℕ) → Stands t i
stands t i = by_place (ℕ_discrete t i) (ltb t i) refl
  where
    by_place : Dec (t ≡ i) → (b : Bool) → ltb t i ≡ b → Stands t i
    by_place (yes same) b tested = here same
    by_place (no other) true tested = lower (ltb-true t i tested)
    by_place (no other) false tested = let least = ltb-false t i tested in upper (omega arith)

-- one index further, one target more if one stands there
one_further : {n : ℕ} (ts : List Target) → Rising n ts → (i : ℕ)
    → targets_below ts (suc i) ≡ targets_below ts i + cond (is_target ts i) 1 0
unfolding targets_below target_at
one_further [] rising i = refl
one_further (t ∷ ts) rising i = by_place (one_further ts (later_rise rising) i) (stands t.index i)
  where
    past : t.index ≡ i → All (λ (u : Target). i < u.index) ts
    past same = rw (← same) (first_lowest rising)

    by_place : targets_below ts (suc i) ≡ targets_below ts i + cond (is_target ts i) 1 0 → Stands t.index i
        → targets_below (t ∷ ts) (suc i) ≡ targets_below (t ∷ ts) i + cond (is_target (t ∷ ts) i) 1 0
    by_place rest (lower below) =
        rw (lt-ltb t.index i below, lt-ltb t.index (suc i) (omega arith), is_later t ts i (λ same. omega arith)) (omega (arith, rest))
    by_place rest (here same) =
        rw (le-ltb t.index i (omega arith), lt-ltb t.index (suc i) (omega arith), is_first t ts i same)
        (omega (arith, none_below i ts (past same), rw (none_here i ts (past same)) at rest))
    by_place rest (upper above) =
        rw (le-ltb t.index i (omega arith), le-ltb t.index (suc i) (omega arith), is_later t ts i (λ same. omega arith)) (omega (arith, rest))

-- the number of a target is how many stand below it
number_is : {n : ℕ} (ts : List Target) → Rising n ts → (i : ℕ) → number_at ts i ≡ cond (is_target ts i) (Some (targets_below ts i)) None
unfolding number_at targets_below target_at
number_is [] rising i = refl
number_is (t ∷ ts) rising i = by_place (number_is ts (later_rise rising) i) (stands t.index i)
  where
    by_number : (b : Bool) → eqb t.index i ≡ b
        → number_at (t ∷ ts) i ≡ elim b [ true ↦ Some 0 | false ↦ option_map suc (number_at ts i) ]
    by_number b tested = ap (λ (b : Bool). elim b [ true ↦ Some 0 | false ↦ option_map suc (number_at ts i) ]) tested

    is_next : (t.index ≡ i → ⊥) → number_at (t ∷ ts) i ≡ option_map suc (number_at ts i)
    is_next other = by_number false (ne_eqb t.index i other)

    one_up : (b : Bool) → option_map suc (cond b (Some (targets_below ts i)) None) ≡ cond b (Some (1 + targets_below ts i)) None
    one_up true = ap (λ (j : ℕ). Some j) (let up : suc (targets_below ts i) ≡ 1 + targets_below ts i = omega arith in up)
    one_up false = refl

    by_place : number_at ts i ≡ cond (is_target ts i) (Some (targets_below ts i)) None → Stands t.index i
        → number_at (t ∷ ts) i ≡ cond (is_target (t ∷ ts) i) (Some (targets_below (t ∷ ts) i)) None
    by_place rest (lower below) =
        rw (lt-ltb t.index i below, is_later t ts i (λ same. omega arith)) (is_next (λ same. omega arith) ∙ rw rest (one_up (is_target ts i)))
    by_place rest (here same) =
        rw (le-ltb t.index i (omega arith), is_first t ts i same, none_below i ts (rw (← same) (first_lowest rising)))
        (by_number true (eq-eqb t.index i same))
    by_place rest (upper above) =
        let past = none_here i ts (λ j d below. let later = first_lowest rising j d below in omega arith) in
        rw (is_later t ts i (λ same. omega arith), past) (is_next (λ same. omega arith) ∙ rw (rest, past) refl)

-- ---- the bits of a group

module _ (f : ℕ → Bool) where
  -- a bit is what it stands for
  pub bit_of : (m w b : ℕ) → b < w → bit_at (mask_l (tabulate m w f)) b ≡ cond (f (m + b)) 1 0
  bit_of m w b below = bit_mask_l (tabulate m w f) b ∙ ap (λ (t : Bool). cond t 1 0) (tabulate_at f false m w b below)

  bit_is : (m w b : ℕ) → b < w → is_set (mask_l (tabulate m w f)) b ≡ f (m + b)
  bit_is m w b below = ap (λ (r : ℕ). eqb r 1) (bit_of m w b below) ∙ by_bit (f (m + b))
    where
      by_bit : (t : Bool) → eqb (cond t 1 0) 1 ≡ t
      by_bit true = refl
      by_bit false = refl

  -- the lowest bits are those of the first places
  low_bits : (m w b : ℕ) → b ≤ w → mask_l (tabulate m w f) % 2 ^ b ≡ mask_l (tabulate m b f)
  unfolding tabulate
  low_bits m w zero below = omega arith
  low_bits m zero (suc b) below = absurd (omega arith)
  low_bits m (suc w) (suc b) below =
      shifted (cond (f m) 1 0) _ _ (bit_small (f m)) (low_bits (suc m) w b (omega arith))
    where
      bit_small : (t : Bool) → cond t 1 0 < 2
      bit_small true = omega arith
      bit_small false = omega arith

      shifted : (c x y : ℕ) → c < 2 → x % 2 ^ b ≡ y → (c + 2 * x) % 2 ^ suc b ≡ c + 2 * y
      shifted c x y small is =
          let half : (c + 2 * x) / 2 ≡ x = omega arith in
          let odd : (c + 2 * x) % 2 ≡ c = omega arith in
          let split : (c + 2 * x) % 2 ^ (b + 1) ≡ ((c + 2 * x) / 2 ^ 1 % 2 ^ b) * 2 ^ 1 + (c + 2 * x) % 2 ^ 1 = mod-pow-add (c + 2 * x) b 1 in
          rw (← add-one b) (split ∙ rw (half, odd, is) (omega arith))

-- so many places further, as many targets more as these places have
pub places_further : {n : ℕ} (ts : List Target) → Rising n ts → (m w : ℕ)
    → targets_below ts (m + w) ≡ targets_below ts m + count_ones (mask_l (tabulate m w (is_target ts)))
unfolding tabulate lib.Count.ones
places_further ts rising m zero = simp unary_clauses refl
places_further ts rising m (suc w) =
    let moved : m + suc w ≡ suc m + w = omega arith in
    rw (moved, ones-mask_l_cons (is_target ts m) (tabulate (suc m) w (is_target ts)))
    (let rest = places_further ts rising (suc m) w in let one = one_further ts rising m in omega arith)

-- what stands at an index stands below n
index_below : {n : ℕ} (ts : List Target) → Rising n ts → (i : ℕ) → is_target ts i ≡ true → i < n
unfolding target_at
index_below [] rising i there = absurd (false≢true there)
index_below {n} (t ∷ ts) rising i there = by_test (index_below ts (later_rise rising) i) (eqb t.index i) refl
  where
    by_test : (is_target ts i ≡ true → i < n) → (b : Bool) → eqb t.index i ≡ b → i < n
    by_test rest true same = rw (← eqb-true t.index i same) (first_below rising)
    by_test rest false other = rest (sym (by_first t ts i false other) ∙ there)

-- ---- the lookup

-- past the end of the bits none is set
pub none_past : (bits counts : List ℕ) (i : ℕ) → length bits ≤ i / 64 → found_by bits counts i ≡ None
unfolding found_by
none_past bits counts i past =
    cond_false _ _ _ (ap (λ (w : ℕ). is_set w (i % 64)) (get_or-eq_default bits 0 past) ∙ unset)
  where
    unset : is_set 0 (i % 64) ≡ false
    unset = ap (λ (r : ℕ). eqb r 1) (let clear : 0 / 2 ^ (i % 64) % 2 ≡ 0 = rw (zero-div (2 ^ (i % 64))) refl in clear)

module _ {n : ℕ} (few : n ≤ most_instructions) (ts : List Target) (rising : Rising n ts) (i : ℕ) where
  abbrev listed : Option ℕ
  listed = cond (is_target ts i) (Some (targets_below ts i)) None

  -- an index of a group that the tables have
  module _ (inside : i / 64 < 64) where
    word : word_at (bit_table ts) i ≡ bits_of_group ts (i / 64)
    unfolding bit_table
    word = table_at (bits_of_group ts) 0 64 (i / 64) inside

    place : 64 * (i / 64) + i % 64 ≡ i
    place = omega arith

    tested : is_set (word_at (bit_table ts) i) (i % 64) ≡ is_target ts i
    tested = rw word (bit_is (is_target ts) (64 * (i / 64)) 64 (i % 64) (omega arith) ∙ ap (is_target ts) place)

    counted : is_target ts i ≡ true
        → get_or (count_table n ts) (i / 64) 0 + set_below (word_at (bit_table ts) i) (i % 64) ≡ targets_below ts i
    unfolding count_table
    counted there =
        let below : i < n = index_below ts rising i there in
        let count : get_or (count_table n ts) (i / 64) 0 ≡ targets_below ts (64 * (i / 64)) =
        table_at (λ g. cond (ltb (64 * g) n) (targets_below ts (64 * g)) 0) 0 64 (i / 64) inside
        ∙ cond_true (ltb (64 * (i / 64)) n) _ _ (lt-ltb (64 * (i / 64)) n (omega arith)) in
        let set : set_below (word_at (bit_table ts) i) (i % 64) ≡ count_ones (mask_l (tabulate (64 * (i / 64)) (i % 64) (is_target ts))) =
        rw word (ap count_ones (low_bits (is_target ts) (64 * (i / 64)) 64 (i % 64) (omega arith))) in
        rw (count, set) (sym (places_further ts rising (64 * (i / 64)) (i % 64)) ∙ ap (targets_below ts) place)

    found_inside : found_by (bit_table ts) (count_table n ts) i ≡ listed
    unfolding found_by
    found_inside = by_test (is_target ts i) refl
      where
        by_test : (b : Bool) → is_target ts i ≡ b → found_by (bit_table ts) (count_table n ts) i ≡ listed
        by_test true there =
            cond_true _ _ _ (tested ∙ there) ∙ ap (λ (j : ℕ). Some j) (counted there) ∙ sym (cond_true _ _ _ there)
        by_test false free = cond_false _ _ _ (tested ∙ free) ∙ sym (cond_false _ _ _ free)

  -- an index past them all
  found_past : 64 ≤ i / 64 → found_by (bit_table ts) (count_table n ts) i ≡ listed
  unfolding bit_table
  found_past past =
      none_past (bit_table ts) (count_table n ts) i (rw (length-tabulate 0 64 (bits_of_group ts)) past) ∙ sym (cond_false _ _ _ free)
    where
      free : is_target ts i ≡ false
      free = by_test (is_target ts i) refl
        where
          by_test : (b : Bool) → is_target ts i ≡ b → is_target ts i ≡ false
          by_test true there = let below = index_below ts rising i there in absurd (omega arith)
          by_test false there = there

  pub tables_find : found_by (bit_table ts) (count_table n ts) i ≡ number_at ts i
  tables_find = by_group (ltb (i / 64) 64) refl ∙ sym (number_is ts rising i)
    where
      by_group : (b : Bool) → ltb (i / 64) 64 ≡ b → found_by (bit_table ts) (count_table n ts) i ≡ listed
      by_group true inside = found_inside (ltb-true (i / 64) 64 inside)
      by_group false past = found_past (ltb-false (i / 64) 64 past)

-- of the plain list, whatever it is, the target at an index is that of the number
pub numbered : (ts : List Target) (i : ℕ) → target_numbered ts (number_at ts i) ≡ target_at ts i
unfolding number_at target_at
numbered [] i = refl
numbered (t ∷ ts) i = by_test (numbered ts i) (eqb t.index i)
  where
    by_number : (o : Option ℕ) → target_numbered (t ∷ ts) (option_map suc o) ≡ target_numbered ts o
    by_number None = refl
    by_number (Some j) = refl

    by_test : target_numbered ts (number_at ts i) ≡ target_at ts i → (b : Bool)
        → target_numbered (t ∷ ts) (elim b [ true ↦ Some 0 | false ↦ option_map suc (number_at ts i) ])
        ≡ elim b [ true ↦ Some t | false ↦ target_at ts i ]
    by_test rest true = refl
    by_test rest false = by_number (number_at ts i) ∙ rest

-- there is a number where there is a target
there_is : (b : Bool) (j : ℕ) → is_some (cond b (Some j) None) ≡ b
there_is true j = refl
there_is false j = refl

pub found_at_once : FoundAtOnce
found_at_once = record {
  found = λ n few ts rising i.
      let number : found_at n ts i ≡ number_at ts i = tables_find few ts rising i in
      let target : target_numbered ts (found_at n ts i) ≡ target_at ts i = ap (target_numbered ts) number ∙ numbered ts i in
      record {
        there = ap is_some (number ∙ number_is ts rising i) ∙ there_is (is_target ts i) (targets_below ts i);
        number = number;
        target = target;
        indirect = ap (λ (o : Option Target). any_of o (λ t. t.indirect)) target;
      };
}
