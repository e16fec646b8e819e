-- A sweep that changes nothing: none of its edges would widen a claim, and its entries are at every index those that it began with.
-- Assumes nothing.
use Prim.Native.Nat.{ℕ, zero, suc, ◌+◌, ◌≤◌}
use mathlib.Core.Path.{◌≡◌, refl, sym, ap, ◌∙◌, subst}
use mathlib.Core.Bool.{Bool, true, false, true≢false, false≢true}
use mathlib.Core.List.{List}
use Rattle.std.specs.Prelude.{Option, None, Some}
use Rattle.std.proofs.lemmas.Option.{none-some, same_Some}
use native.Mathlib.Omega.{arith}
use native.Mathlib.Decide.{ℕ_discrete}
use Rattle.model.specs.declared.Ranges.{Ranges}
use Rattle.model.specs.Quantifiers.{all_of}
use Rattle.model.specs.Ranges.{region_range}
use Rattle.model.specs.Program.{Program}
use Rattle.model.specs.Instructions.{after_next, after_taken}
use Rattle.model.specs.Step.{shape_at}
use Rattle.model.specs.Judgement.{traits_at}
use Rattle.model.specs.Claims.{Entry, entry_at, covers, Table, arrive, claim_else, along_taken, along_next, visit, sweep}
use Rattle.model.proofs.Claims.Each.{IfThere}

-- the ranges along an instruction's edges, from those before it
abbrev pub on_taken : Program → ℕ → Ranges → Ranges
on_taken p i k = after_taken (shape_at p i) k

abbrev pub on_next : Program → ℕ → Ranges → Ranges
on_next p i k = after_next (region_range p.layout) (shape_at p i) k

-- ranges that arrive at an index would widen no claim
abbrev pub Covered : List Entry → ℕ → Ranges → Type 0
Covered es to k = all_of (entry_at es to) (covers k) ≡ true

arrive_still : (to : ℕ) (k : Ranges) (t : Table) → (arrive to k t).changed ≡ false
    → Covered t.entries to k × (arrive to k t ≡ t)
unfolding arrive
arrive_still to k t still = by_test (all_of (entry_at t.entries to) (covers k)) refl
  where
    by_test : (c : Bool) → all_of (entry_at t.entries to) (covers k) ≡ c
        → Covered t.entries to k × (arrive to k t ≡ t)
    by_test true e = (e, rw (e, arrive))
    by_test false e = absurd (true≢false (rw (e, arrive) at still))

-- no edge of an instruction would widen a claim
pub record EdgesCovered (p : Program) (es : List Entry) (i : ℕ) (k : Ranges) : Type 0 where
  pub taken : (to : ℕ) → (traits_at p i).names ≡ Some to → Covered es to (on_taken p i k)
  pub next : (traits_at p i).falls ≡ true → Covered es (i + 1) (on_next p i k)

module _ (p : Program) (i : ℕ) (k : Ranges) where
  taken_still : (to : Option ℕ) (t : Table) → (along_taken p i k to t).changed ≡ false
      → ((o : ℕ) → to ≡ Some o → Covered t.entries o (on_taken p i k))
      × (along_taken p i k to t ≡ t)
  taken_still None t still = (λ o e. absurd (none-some o e), refl)
  taken_still (Some to) t still =
      let a = arrive_still to (on_taken p i k) t still in
      (λ o e. subst (λ (x : ℕ). Covered t.entries x (on_taken p i k)) (same_Some to o e) a.0, a.1)

  next_still : (falls : Bool) (t : Table) → (along_next p i k falls t).table.changed ≡ false
      → (falls ≡ true → Covered t.entries (i + 1) (on_next p i k))
      × ((along_next p i k falls t).table ≡ t)
  next_still false t still = (λ e. absurd (false≢true e), refl)
  next_still true t still =
      let a = arrive_still (i + 1) (on_next p i k) t still in (λ e. a.0, a.1)

pub visit_still : (p : Program) (i : ℕ) (k : Option Ranges) (t : Table) → (visit p i k t).table.changed ≡ false
    → ((visit p i k t).table ≡ t) × IfThere (EdgesCovered p t.entries i) k
unfolding visit
visit_still p i None t still = (refl, tt)
visit_still p i (Some k) t still =
    let t' : Table = along_taken p i k (traits_at p i).names t in
    let n = next_still p i k (traits_at p i).falls t' still in
    let same : (along_next p i k (traits_at p i).falls t').table ≡ t' = n.1 in
    let still' : t'.changed ≡ false = sym (ap (λ (x : Table). x.changed) same) ∙ still in
    let a = taken_still p i k (traits_at p i).names t still' in (
      same ∙ a.1,
      record {
        taken = a.0;
        next = λ f. subst (λ (x : Table). Covered x.entries (i + 1) (on_next p i k)) a.1 (n.0 f);
      },
    )

module _ (p : Program) (es : List Entry) where
  abbrev pub start : Table
  start = record { entries = es; changed = false }

  -- what the sweep knows at an index, if anything
  abbrev pub here : ℕ → Option Ranges
  here i = claim_else (sweep p es i).known (entry_at (sweep p es i).table.entries i)

  step_still : (i : ℕ) → (sweep p es (suc i)).table.changed ≡ false → (sweep p es (suc i)).table ≡ (sweep p es i).table
  unfolding sweep
  step_still i still = (visit_still p i (here i) (sweep p es i).table still).0

  pub still_before : (n i : ℕ) → i ≤ n → (sweep p es n).table.changed ≡ false → (sweep p es i).table.changed ≡ false
  still_before zero i le still = let e : i ≡ 0 = omega arith in rw e still
  still_before (suc n) i le still = last_or_before (ℕ_discrete i (suc n))
      (λ h. still_before n i h (sym (ap (λ (x : Table). x.changed) (step_still n still)) ∙ still))
    where
      last_or_before : Dec (i ≡ suc n) → (i ≤ n → (sweep p es i).table.changed ≡ false) → (sweep p es i).table.changed ≡ false
      last_or_before (yes e) before = rw e still
      last_or_before (no e) before = before (omega arith)

  pub still_same : (i : ℕ) → (sweep p es i).table.changed ≡ false → (sweep p es i).table ≡ start
  unfolding sweep
  still_same zero still = refl
  still_same (suc i) still =
      let same : (sweep p es (suc i)).table ≡ (sweep p es i).table = step_still i still in
      same ∙ still_same i (sym (ap (λ (x : Table). x.changed) same) ∙ still)
