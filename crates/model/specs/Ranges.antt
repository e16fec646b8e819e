-- Ranges of registers, and document 01's rule W, cuts and rule B. Assumes nothing.
use Rattle.std.specs.Prelude.{ℕ, suc, ◌+◌, ◌-◌, ◌/◌, ◌^◌, min, max, Bool, true, false, cond, ◌&&◌, ◌||◌, leb, ltb, eqb, ℤ, pos, negsuc, get_or, set, replicate}
use Rattle.model.specs.declared.Layout.{Layout}
use Rattle.model.specs.declared.Pair.{Pair}
use Rattle.model.specs.declared.Range.{Range}
use Rattle.model.specs.declared.Ranges.{Ranges}
use Rattle.model.specs.declared.Test.{Test}
use Rattle.model.specs.declared.Test.TheVariants.{Equal, Below, SignedBelow}
use Rattle.model.specs.Quantifiers.{all_below}
use Rattle.model.specs.Words.{modulus, top, arithmetic_shift}

abbrev pub range : ℕ → ℕ → Range
range l h = record { low = l; high = h }

-- "'anything', 0 to 2^32 − 1"
abbrev pub anything : Range
anything = range 0 top

-- "The verifier's knowledge is a record of eight ranges, one for each register."
abbrev pub low : Ranges → ℕ → ℕ
low k r = get_or k.lows r 0

abbrev pub high : Ranges → ℕ → ℕ
high k r = get_or k.highs r 0

abbrev pub range_of : Ranges → ℕ → Range
range_of k r = range (low k r) (high k r)

abbrev pub put : Ranges → ℕ → Range → Ranges
put k r x = record { lows = set k.lows r x.low; highs = set k.highs r x.high }

-- nothing is known of any register
abbrev pub unknown : Ranges
unknown = record { lows = replicate 8 0; highs = replicate 8 top }

-- "Rule W: take both ends as exact whole numbers. If both lie in 0 to 2^32 − 1, keep them. If both are negative, add 2^32.
-- If both are 2^32 or more, subtract it. Else anything."
unfoldable pub rule_w : ℤ → ℤ → Range
rule_w (pos l) (pos h) =
    cond (ltb l modulus && ltb h modulus) (range l h)
    (cond (leb modulus l && leb modulus h) (range (l - modulus) (h - modulus)) anything)
rule_w (pos l) (negsuc h) = anything
rule_w (negsuc l) (pos h) = anything
rule_w (negsuc l) (negsuc h) = range (modulus - suc l) (modulus - suc h)

-- DB to DL: "The region is DB = base to DL = base + size − 1."
abbrev pub region_range : Layout → Range
region_range l = range l.base (l.base + l.size - 1)

-- guard: "unchanged if inside the region, else DB to DL"
unfoldable pub guard_range : Range → Range → Range
guard_range region x = cond (leb region.low x.low && leb x.high region.high) x region

-- shr: "both ends shifted"
abbrev pub shr_range : Range → ℕ → Range
shr_range x w = range (x.low / 2 ^ w) (x.high / 2 ^ w)

-- sar: "both ends shifted if both lie on one side of 2^31, else anything"
unfoldable pub sar_range : Range → ℕ → Range
sar_range x w =
    cond (ltb x.high 0x8000_0000 || leb 0x8000_0000 x.low)
    (range (arithmetic_shift x.low w) (arithmetic_shift x.high w))
    anything

-- what two ranges have in common; it is empty if its lowest exceeds its highest
abbrev pub common : Range → Range → Range
common x y = range (max x.low y.low) (min x.high y.high)

abbrev pub is_empty : Range → Bool
is_empty x = ltb x.high x.low

-- "if any cut would leave an empty range, none of that cut is made": a range is cut to another
unfoldable pub cut : Range → Range → Range
cut x to = cond (is_empty (common x to)) x (common x to)

-- and two ranges at once, x to p and y to q
abbrev pub pair : Range → Range → Pair
pair x y = record { first = x; second = y }

unfoldable pub cut_both : Range → Range → Range → Range → Pair
cut_both x p y q = cond (is_empty (common x p) || is_empty (common y q)) (pair x y) (pair (common x p) (common y q))

-- the natural numbers from one whole number to another, as rule N cuts to: an end is compared as it is and never wrapped. None lies
-- below 0, so that the range is empty where the last number is negative.
abbrev pub or_zero : ℤ → ℕ
or_zero (pos n) = n
or_zero (negsuc n) = 0

unfoldable pub between : ℤ → ℤ → Range
between first (pos last) = range (or_zero first) last
between first (negsuc last) = range 1 0

-- "Rule B: where a and b are the same register, or w is 2, nothing is cut. Equal and taken: each is cut to the common part.
-- Equal and not taken: nothing. Unsigned and taken: a at most highest b − 1, b at least lowest a + 1. Unsigned and not taken:
-- a at least lowest b, b at most highest a. Bounds come from the ranges before the branch.", x of a and y of b
-- (Where highest b is 0, nothing lies below it: then b's own cut is empty too, so that none is made.)
abbrev pub cut_for : Test → Bool → Range → Range → Pair
cut_for Equal true x y = cut_both x y y x
cut_for Equal false x y = pair x y
cut_for Below true x y = cut_both x (range 0 (y.high - 1)) y (range (x.low + 1) top)
cut_for Below false x y = cut_both x (range y.low top) y (range 0 x.high)
cut_for SignedBelow taken x y = pair x y

abbrev pub put_both : Ranges → ℕ → ℕ → Pair → Ranges
put_both k a b xs = put (put k a xs.first) b xs.second

unfoldable pub rule_b : Test → Bool → ℕ → ℕ → Ranges → Ranges
rule_b test taken a b k = cond (eqb a b) k (put_both k a b (cut_for test taken (range_of k a) (range_of k b)))

-- "the ranges .. must lie within its claim", register by register
unfoldable pub lies_within : Ranges → Ranges → Bool
lies_within k claim = all_below 8 (λ r. leb (low claim r) (low k r) && leb (high k r) (high claim r))
