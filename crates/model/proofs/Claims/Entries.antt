-- What holds of a target's entry, and how much room it has for growth: of a fresh one, and of one whose sweep is over.
-- Assumes nothing.
use Prim.Native.Nat.{ℕ, ◌+◌, ◌-◌, ◌≤◌, ◌<◌}
use mathlib.Core.Path.{◌≡◌, refl, ap, ◌∙◌}
use mathlib.Core.Bool.{Bool, true, false}
use Rattle.std.specs.Prelude.{Option, None, Some}
use native.Mathlib.Omega.{arith}
use native.Mathlib.Nat.{zero-add}
use lib.ListN.{length, get_or, get_or-replicate}
use Rattle.model.specs.declared.Ranges.{Ranges}
use Rattle.model.specs.Words.{top}
use Rattle.model.specs.Ranges.{low, high, unknown}
use Rattle.model.specs.File.{tabulate}
use Rattle.model.specs.Claims.{Entry, fresh, growth, counted}
use Rattle.model.proofs.Tabulate.{length-tabulate, tabulate_at}
use Rattle.model.proofs.Claims.Each.{IfThere}
use Rattle.model.proofs.Claims.Bounds.{Bounded}
use Rattle.model.proofs.Claims.Sums.{sum_below, sum_at_most, sum_mono}

-- ---- what holds of an entry

-- a reached claim is of eight proper ranges, and a register that has grown in nine sweeps is anything
pub record Held (e : Entry) (claim : Ranges) : Type 0 where
  pub bounded : Bounded claim
  pub full : (r : ℕ) → r < 8 → 9 ≤ growth e r → (low claim r ≡ 0) × (high claim r ≡ top)

pub record Good (e : Entry) : Type 0 where
  pub fixed : e.indirect ≡ true → e.claim ≡ Some unknown
  pub grown8 : length e.grown ≡ 8
  pub grows8 : length e.grows ≡ 8
  pub few : (r : ℕ) → r < 8 → growth e r ≤ 9
  -- before it is reached nothing has grown
  pub untouched : e.claim ≡ None → (r : ℕ) → r < 8 → growth e r ≡ 0
  pub held : IfThere (Held e) e.claim

-- no register has grown in this sweep
pub record Clear (e : Entry) : Type 0 where
  pub still : (r : ℕ) → r < 8 → get_or e.grows r false ≡ false

-- ---- its room for growth: 73, for the first reaching and nine sweeps of growth for each register

abbrev pub room_at : Entry → ℕ → ℕ
room_at e r = 9 - growth e r

abbrev pub room_if : Entry → Option Ranges → ℕ
room_if e None = 73
room_if e (Some claim) = sum_below 8 (room_at e)

abbrev pub room : Entry → ℕ
room e = room_if e e.claim

-- a reached entry has less than an unreached one
pub reached_room : (e : Entry) → sum_below 8 (room_at e) < 73
reached_room e = omega (arith, sum_at_most 8 (room_at e) (λ r h. omega arith))

pub room_at_most : (e : Entry) → room e ≤ 73
room_at_most e = by_claim e.claim
  where
    by_claim : (claim : Option Ranges) → room_if e claim ≤ 73
    by_claim None = omega arith
    by_claim (Some claim) = omega (arith, reached_room e)

-- ---- a fresh entry

fresh_growth : (i : ℕ) (indirect : Bool) (claim : Option Ranges) (r : ℕ) → r < 8 → growth (fresh i indirect claim) r ≡ 0
fresh_growth i indirect claim r h = rw (get_or-replicate {A = ℕ} 8 r 0 0 h, get_or-replicate 8 r false false h)

pub fresh_clear : (i : ℕ) (indirect : Bool) (claim : Option Ranges) → Clear (fresh i indirect claim)
fresh_clear i indirect claim = record { still = λ r h. get_or-replicate 8 r false false h }

pub fresh_good : (i : ℕ) (indirect : Bool) (claim : Option Ranges) → (indirect ≡ true → claim ≡ Some unknown) → IfThere Bounded claim
    → Good (fresh i indirect claim)
fresh_good i indirect claim fixed b = record {
  fixed = fixed;
  grown8 = refl;
  grows8 = refl;
  few = λ r h. omega (arith, fresh_growth i indirect claim r h);
  untouched = λ _ r h. fresh_growth i indirect claim r h;
  held = by_claim claim b;
}
  where
    by_claim : (c : Option Ranges) → IfThere Bounded c → IfThere (Held (fresh i indirect claim)) c
    by_claim None b' = tt
    by_claim (Some c) b' =
        record { bounded = b'; full = λ r h nine. absurd (omega (arith, fresh_growth i indirect claim r h)) }

-- ---- an entry when its sweep is over

-- the entry of a table of eight
pub eight_at : {A : Type 0} (f : ℕ → A) (d : A) (r : ℕ) → r < 8 → get_or (tabulate 0 8 f) r d ≡ f r
eight_at f d r h = tabulate_at f d 0 8 r h ∙ ap f (zero-add r)

counted_growth : (e : Entry) (r : ℕ) → r < 8 → growth (counted e) r ≡ growth e r
unfolding counted
counted_growth e r h =
    rw (eight_at (growth e) 0 r h, get_or-replicate 8 r false false h) (let none-new : growth e r + 0 ≡ growth e r = omega arith in none-new)

pub counted_good : (e : Entry) → Good e → Good (counted e)
unfolding counted
counted_good e g = record {
  fixed = g.fixed;
  grown8 = length-tabulate 0 8 (growth e);
  grows8 = refl;
  few = λ r h. omega (arith, counted_growth e r h, g.few r h);
  untouched = λ is r h. counted_growth e r h ∙ g.untouched is r h;
  held = by_claim e.claim g.held;
}
  where
    by_claim : (claim : Option Ranges) → IfThere (Held e) claim → IfThere (Held (counted e)) claim
    by_claim None h = tt
    by_claim (Some claim) h =
        record { bounded = h.bounded; full = λ r r8 nine. h.full r r8 (omega (arith, counted_growth e r r8)) }

pub counted_room : (e : Entry) → room (counted e) ≤ room e
unfolding counted
counted_room e = by_claim e.claim
  where
    by_claim : (claim : Option Ranges) → room_if (counted e) claim ≤ room_if e claim
    by_claim None = omega arith
    by_claim (Some claim) = sum_mono 8 (room_at (counted e)) (room_at e) (λ r r8. omega (arith, counted_growth e r r8))
