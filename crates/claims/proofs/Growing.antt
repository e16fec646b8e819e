-- A row that grows: each register's range and growth, register by register, are the definition's. Assumes nothing.
use Rattle.std.proofs.Common.{◌≡◌, ℕ, ◌+◌, Bool, false, not, ◌||◌, List, map, length, get_or, sym}
use Rattle.std.proofs.Math.ListN.{get_or-map, length-map}
use Rattle.std.specs.Prelude.{Some}
use Rattle.model.specs.declared.Range.{Range}
use Rattle.model.specs.declared.Ranges.{Ranges}
use Rattle.model.specs.Ranges.{range_of}
use Rattle.model.specs.File.{tabulate}
use Rattle.model.specs.Claims.{within, widened, grow, bit, counted}
use Rattle.model.proofs.Tabulate.{tabulate_is}
use Rattle.claims.specs.declared.entry.Growth.{Growth}
use Rattle.claims.specs.declared.entry.Row.{Row}
use Rattle.claims.specs.Rows.{entry_of}

abbrev pub none_yet : Growth
none_yet = record { earlier = 0; now = false }

abbrev pub nothing : Range
nothing = record { low = 0; high = 0 }

module _ (row : Row) where
  abbrev at : ℕ → Growth
  at r = get_or row.growth r none_yet

  earlier_at : (r : ℕ) → get_or (map (λ (g : Growth). g.earlier) row.growth) r 0 ≡ (at r).earlier
  earlier_at r = get_or-map (λ (g : Growth). g.earlier) row.growth r none_yet

  now_at : (r : ℕ) → get_or (map (λ (g : Growth). g.now) row.growth) r false ≡ (at r).now
  now_at r = get_or-map (λ (g : Growth). g.now) row.growth r none_yet

  -- every register counted
  abbrev pub counted_at : ℕ → Growth
  counted_at r = record { earlier = (at r).earlier + bit (at r).now; now = false }

  pub counted_row : {growth : List Growth} → growth ≡ tabulate 0 8 counted_at
      → (i : ℕ) (indirect : Bool) → entry_of i indirect (record { claim = row.claim; growth = growth }) ≡ counted (entry_of i indirect row)
  unfolding counted tabulate
  counted_row made i indirect = rw made (simp (earlier_at, now_at))

  -- every register widened, and whether it grows
  module _ (claim ranges : Ranges) where
    abbrev pub widened_at : ℕ → Range
    widened_at r = widened (at r).earlier (range_of claim r) (range_of ranges r)

    abbrev pub grown_at : ℕ → Growth
    grown_at r = record { earlier = (at r).earlier; now = (at r).now || not (within (range_of ranges r) (range_of claim r)) }

    pub grown_row : length row.growth ≡ 8 → {after : List Range} {lows highs : List ℕ} {growth : List Growth} → after ≡ tabulate 0 8 widened_at
        → lows ≡ tabulate 0 8 (λ r. (get_or after r nothing).low) → highs ≡ tabulate 0 8 (λ r. (get_or after r nothing).high)
        → growth ≡ tabulate 0 8 grown_at
        → (i : ℕ) (indirect : Bool) → entry_of i indirect (record { claim = Some (record { lows = lows; highs = highs }); growth = growth })
        ≡ grow (entry_of i indirect row) claim ranges
    unfolding grow tabulate
    grown_row long are_ranges are-lows are_highs grows i indirect =
        let kept : map (λ (g : Growth). g.earlier) row.growth ≡ tabulate 0 8 (λ r. (at r).earlier) =
        sym (tabulate_is (λ r. (at r).earlier) 0 8 _ (simp length-map long) (λ r _. sym (earlier_at r))) in
        rw (are-lows, are_highs, are_ranges, grows) (simp now_at (rw kept))
