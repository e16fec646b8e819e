-- One target's entry, when it is reached by ranges that it does not cover: what holds of it is kept, and its room for growth
-- falls. Assumes nothing.
use Prim.Native.Nat.{ℕ, zero, suc, ◌+◌, ◌≤◌, ◌<◌}
use mathlib.Core.Path.{◌≡◌, refl, sym, ap, ◌∙◌}
use mathlib.Core.Bool.{Bool, true, false, not, ◌||◌, true≢false, or-false}
use Rattle.std.specs.Prelude.{Option, None, Some}
use Rattle.std.proofs.lemmas.Option.{none-some}
use native.Mathlib.Omega.{arith}
use lib.Dec.{ltb}
use lib.ListN.{get_or}
use borrow.Author.Tests.{ltb-true, ltb-false, le-ltb, le-leb}
use Rattle.model.specs.declared.Range.{Range}
use Rattle.model.specs.declared.Ranges.{Ranges}
use Rattle.model.specs.Words.{top}
use Rattle.model.specs.Quantifiers.{any_of}
use Rattle.model.specs.Ranges.{anything, low, high, range_of, lies_within}
use Rattle.model.specs.File.{tabulate}
use Rattle.model.specs.Claims.{Entry, fresh, within, widened, grow, reached, covers, bit, growth}
use Rattle.model.proofs.Tests.{by_cond, cond_false}
use Rattle.model.proofs.Tabulate.{length-tabulate, tabulate_everywhere}
use Rattle.model.proofs.Claims.Each.{IfThere}
use Rattle.model.proofs.Claims.Bounds.{Bounded, Proper, bounded_at}
use Rattle.model.proofs.Claims.Sums.{sum_mono, sum_strict, neither, fails_below}
use Rattle.model.proofs.Claims.Entries.{Held, Good, Clear, room_at, room_if, room, reached_room, fresh_good, eight_at}

-- two tables, one nowhere above the other
tabulate_ordered : (f g : ℕ → ℕ) → ((i : ℕ) → f i ≤ g i) → (i n j : ℕ) → get_or (tabulate i n f) j 0 ≤ get_or (tabulate i n g) j 0
unfolding tabulate
tabulate_ordered f g le i zero j = omega arith
tabulate_ordered f g le i (suc n) zero = le i
tabulate_ordered f g le i (suc n) (suc j) = tabulate_ordered f g le (suc i) n j

-- a widened range is proper
widened_proper : (g : ℕ) (claim x : Range) → Proper claim → Proper x → Proper (widened g claim x)
unfolding widened
widened_proper g claim x proper x-proper =
    by_cond Proper (within x claim) (λ _. proper)
    (λ _. by_cond Proper (ltb g 8) (λ _. omega (arith, proper.ordered, proper.small, x-proper.small)) (λ _. omega arith))

-- one that is grown enough is anything
widened_full : (g : ℕ) (claim x : Range) → within x claim ≡ false → 8 ≤ g → widened g claim x ≡ anything
unfolding widened
widened_full g claim x grows enough = cond_false (within x claim) _ _ grows ∙ cond_false (ltb g 8) _ _ (le-ltb g 8 enough)

widened_same : (g : ℕ) (claim x : Range) → within x claim ≡ true → widened g claim x ≡ claim
unfolding widened
widened_same g claim x inside = rw inside

bit_or : (a b : Bool) → bit a ≤ bit (a || b)
bit_or true b = omega arith
bit_or false b = omega arith

bit_at_most : (a : Bool) → bit a ≤ 1
bit_at_most true = omega arith
bit_at_most false = omega arith

module _ (e : Entry) (claim k : Ranges) where
  abbrev count : ℕ → ℕ
  count r = get_or e.grown r 0

  abbrev inside : ℕ → Bool
  inside r = within (range_of k r) (range_of claim r)

  abbrev after : ℕ → Range
  after r = widened (count r) (range_of claim r) (range_of k r)

  abbrev claim' : Ranges
  claim' = record { lows = tabulate 0 8 (λ r. (after r).low); highs = tabulate 0 8 (λ r. (after r).high) }

  -- register by register
  module _ (r : ℕ) (r8 : r < 8) where
    grow_growth : growth (grow e claim k) r ≡ count r + bit (get_or e.grows r false || not (inside r))
    unfolding grow
    grow_growth = ap (λ (b : Bool). count r + bit b) (eight_at (λ s. get_or e.grows s false || not (inside s)) false r r8)

    -- no register's growth falls
    growth_rises : growth e r ≤ growth (grow e claim k) r
    growth_rises = omega (arith, grow_growth, bit_or (get_or e.grows r false) (not (inside r)))

    -- that of a register whose claim covers the range stays
    growth_stays : inside r ≡ true → growth (grow e claim k) r ≡ growth e r
    growth_stays same = grow_growth ∙ rw same (ap (λ (b : Bool). count r + bit b) (or-false (get_or e.grows r false)))

    -- any is at most one more than it was when the sweep began
    growth_most : growth (grow e claim k) r ≤ suc (count r)
    growth_most = omega (arith, grow_growth, bit_at_most (get_or e.grows r false || not (inside r)))

    -- a register that grows, and has not yet in this sweep, has grown in one sweep more
    growth_counts : get_or e.grows r false ≡ false → inside r ≡ false → growth (grow e claim k) r ≡ suc (growth e r)
    growth_counts still grows =
        grow_growth ∙ rw (still, grows) (let one : count r + 1 ≡ suc (count r + 0) = omega arith in one)

  -- what held of the claim holds of the widened one
  grow_held : Held e claim → Bounded k → Held (grow e claim k) claim'
  grow_held h b = record {
    bounded = record {
      lows8 = length-tabulate 0 8 _;
      highs8 = length-tabulate 0 8 _;
      ordered = tabulate_ordered (λ s. (after s).low) (λ s. (after s).high) (λ s. (after_proper s).ordered) 0 8;
      small = tabulate_everywhere (λ (x : ℕ). x ≤ top) (λ s. (after s).high) 0 (λ s. (after_proper s).small) (omega arith) 0 8;
    };
    full = λ r r8 nine. full_if r r8 nine (inside r) refl;
  }
    where
      after_proper : (s : ℕ) → Proper (after s)
      after_proper s = widened_proper (count s) (range_of claim s) (range_of k s) (bounded_at h.bounded s) (bounded_at b s)

      is_after : (r : ℕ) → r < 8 → {x : Range} → after r ≡ x → (low claim' r ≡ x.low) × (high claim' r ≡ x.high)
      is_after r r8 same = (
        eight_at (λ s. (after s).low) 0 r r8 ∙ ap (λ (y : Range). y.low) same,
        eight_at (λ s. (after s).high) 0 r r8 ∙ ap (λ (y : Range). y.high) same,
      )

      full_if : (r : ℕ) → r < 8 → 9 ≤ growth (grow e claim k) r → (t : Bool) → inside r ≡ t
          → (low claim' r ≡ 0) × (high claim' r ≡ top)
      full_if r r8 nine true same =
          let was = h.full r r8 (omega (arith, growth_stays r r8 same)) in
          let is = is_after r r8 (widened_same (count r) (range_of claim r) (range_of k r) same) in
          (is.0 ∙ was.0, is.1 ∙ was.1)
      full_if r r8 nine false grows =
          is_after r r8 (widened_full (count r) (range_of claim r) (range_of k r) grows (omega (arith, growth_most r r8)))

  -- the room falls: not at all for a register that has already grown in this sweep, by one for a register that has not
  grow_room : room_if (grow e claim k) (Some claim') ≤ room_if e (Some claim)
  grow_room = sum_mono 8 (room_at (grow e claim k)) (room_at e) (λ r r8. omega (arith, growth_rises r r8))

  module _ (h : Held e claim) (b : Bounded k) where
    has_room : (r : ℕ) → r < 8 → inside r ≡ false → growth e r < 9
    has_room r r8 grows = by_test (ltb (growth e r) 9) refl
      where
        anything_holds : (low claim r ≡ 0) × (high claim r ≡ top) → inside r ≡ true
        anything_holds any =
            rw (le-leb (low claim r) (low k r) (omega arith)) (le-leb (high k r) (high claim r) (omega (arith, b.small r)))

        by_test : (t : Bool) → ltb (growth e r) 9 ≡ t → growth e r < 9
        by_test true t = ltb-true _ _ t
        by_test false t = absurd (true≢false (sym (anything_holds (h.full r r8 (ltb-false _ _ t))) ∙ grows))

    grow_few : ((r : ℕ) → r < 8 → growth e r ≤ 9) → (r : ℕ) → r < 8 → growth (grow e claim k) r ≤ 9
    grow_few few r r8 = by_test (inside r) refl
      where
        by_test : (t : Bool) → inside r ≡ t → growth (grow e claim k) r ≤ 9
        by_test true same = omega (arith, growth_stays r r8 same, few r r8)
        by_test false grows = omega (arith, growth_most r r8, has_room r r8 grows)

    grow_falls : Clear e → lies_within k claim ≡ false → room_if (grow e claim k) (Some claim') < room_if e (Some claim)
    unfolding lies_within
    grow_falls clear outside =
        let w = fails_below 8 inside outside in
        sum_strict 8 (room_at (grow e claim k)) (room_at e) (λ r r8. omega (arith, growth_rises r r8)) w.0 w.1
        (omega (arith, has_room w.0 w.1 w.2, growth_counts w.0 w.1 (clear.still w.0 w.1) w.2))

-- ---- any entry that is reached by ranges which it does not cover

-- it was e, with so much room, and is e'
pub record Widens (e : Entry) (had : ℕ) (e' : Entry) : Type 0 where
  pub good : Good e'
  pub lighter : room e' ≤ had
  pub falls : Clear e → room e' < had

pub reached_widens : (e : Entry) (k : Ranges) → Good e → Bounded k → covers k e ≡ false → Widens e (room e) (reached e e.claim k)
unfolding grow
reached_widens e k g b outside = by_claim e.claim g.held (neither e.indirect _ outside).1
  where
    inner : {A : Type 0} → e.indirect ≡ true → A
    inner is = absurd (true≢false (sym is ∙ (neither e.indirect _ outside).0))

    by_claim : (claim : Option Ranges) → IfThere (Held e) claim → any_of claim (lies_within k) ≡ false
        → Widens e (room_if e claim) (reached e claim k)
    by_claim None h out =
        let less = reached_room (fresh e.index e.indirect (Some k)) in
        record {
          good = fresh_good e.index e.indirect (Some k) (λ is. inner is) b;
          lighter = omega arith;
          falls = λ clear. less;
        }
    by_claim (Some claim) h out = record {
      good = record {
        fixed = λ is. inner is;
        grown8 = g.grown8;
        grows8 = length-tabulate 0 8 _;
        few = grow_few e claim k h b g.few;
        untouched = λ none_there. absurd (none-some _ (sym none_there));
        held = grow_held e claim k h b;
      };
      lighter = grow_room e claim k;
      falls = λ clear. grow_falls e claim k h b clear out;
    }
