-- Targets: what is read at a target's start is what the definitions read, and the test of a claim that is anything. Assumes nothing.
use Prim.Native.Nat.{ℕ, ◌+◌, ◌*◌, ◌<◌}
use mathlib.Core.Path.{◌≡◌, ◌∙◌}
use mathlib.Core.Bool.{Bool, true, false, ◌&&◌}
use mathlib.Core.List.{List}
use borrow.Author.Tests.{eq-eqb, ne_eqb}
use lib.Dec.{leb, eqb}
use lib.ListN.{get_or, get_or-replicate}
use Rattle.model.specs.Ranges.{low, high}
use Rattle.model.specs.Words.{top, read_bytes}
use Rattle.model.specs.File.{tabulate, target_start, claim_in, indirect_claim}

-- the claim is read where the target begins
pub claim_is : (targets : List ℕ) (j start : ℕ) (lows highs : List ℕ) → start ≡ target_start j
    → lows ≡ tabulate 0 8 (λ r. read_bytes 4 targets (start + 4 + 8 * r))
    → highs ≡ tabulate 0 8 (λ r. read_bytes 4 targets (start + 8 + 8 * r))
    → record { lows = lows; highs = highs } ≡ claim_in targets j
unfolding claim_in
claim_is targets j start lows highs at lowest highest = rw (lowest, highest, at)

-- "No lowest exceeds its highest.", of a register
abbrev pub ordered_at : List ℕ → List ℕ → ℕ → Bool
ordered_at lows highs r = leb (get_or lows r 0) (get_or highs r 0)

-- "An open door claims 'anything'", of a register
abbrev pub anything_at : List ℕ → List ℕ → ℕ → Bool
anything_at lows highs r = eqb (get_or lows r 0) (low indirect_claim r) && eqb (get_or highs r 0) (high indirect_claim r)

module _ (lows highs : List ℕ) (r : ℕ) (below : r < 8) where
  anything_is : anything_at lows highs r ≡ (eqb (get_or lows r 0) 0 && eqb (get_or highs r 0) top)
  anything_is = rw (get_or-replicate {A = ℕ} 8 r 0 0 below, get_or-replicate {A = ℕ} 8 r top 0 below)

  pub low_claimed : (get_or lows r 0 ≡ 0 → ⊥) → anything_at lows highs r ≡ false
  low_claimed some-low = anything_is ∙ rw (ne_eqb (get_or lows r 0) 0 some-low)

  module _ (least : get_or lows r 0 ≡ 0) where
    pub high_claimed : (get_or highs r 0 ≡ top → ⊥) → anything_at lows highs r ≡ false
    high_claimed some-high = anything_is ∙ rw (eq-eqb (get_or lows r 0) 0 least, ne_eqb (get_or highs r 0) top some-high)

    pub nothing_claimed : get_or highs r 0 ≡ top → anything_at lows highs r ≡ true
    nothing_claimed most = anything_is ∙ rw (eq-eqb (get_or lows r 0) 0 least, eq-eqb (get_or highs r 0) top most)
