-- One sweep, index by index: what is known, the table and whether it is changed are the definition's. Assumes nothing.
use Rattle.std.proofs.Common.{◌≡◌, ℕ, ◌+◌, Bool, false, List, Option, Some, None, sym, ap, ◌∙◌, add-one}
use Rattle.model.specs.declared.Ranges.{Ranges}
use Rattle.model.specs.Ranges.{unknown}
use Rattle.model.specs.Program.{Program}
use Rattle.model.specs.Lookup.{number_at}
use Rattle.model.specs.Claims.{Entry, entry_at, Sweep, claim_else, visit, sweep}
use Rattle.claims.specs.declared.entry.Row.{Row}
use Rattle.claims.specs.Tables.{row_at, entries_in, table_in, sweep_in, listed}
use Rattle.claims.proofs.Arriving.{entry_there, no_entry}

-- the sweep over the first i instructions, once more; and with what the target at the next index claims
pub record So (p : Program) (targets : List ℕ) (es : List Entry) (known : Option Ranges) (rows : List Row) (changed : Bool) (i : ℕ) : Type 0 where
  pub is : sweep_in targets known rows changed ≡ sweep p es i

pub record Entered (p : Program) (targets : List ℕ) (es : List Entry) (known : Option Ranges) (rows : List Row) (changed : Bool) (i : ℕ) : Type 0 where
  pub is : visit p i (known) (table_in targets rows changed) ≡ sweep p es (i + 1)

module _ {p : Program} {targets : List ℕ} where
  pub sweep_starts : (rows : List Row) {known : Ranges} → known ≡ unknown → So p targets (entries_in targets rows) (Some known) rows false 0
  unfolding sweep
  sweep_starts rows nothing = record { is = rw nothing }

  module _ {es : List Entry} {known : Option Ranges} {rows : List Row} {changed : Bool} {i : ℕ} (so : So p targets es known rows changed i) where
    enters : {known' : Option Ranges} → known' ≡ claim_else (known) (entry_at (entries_in targets rows) i) → Entered p targets es known' rows changed i
    unfolding sweep
    enters told = record {
      is = rw add-one
          (ap (λ (c : Option Ranges). visit p i c (table_in targets rows changed)) told
          ∙ ap (λ (s : Sweep). visit p i (claim_else s.known (entry_at s.table.entries i)) s.table) so.is);
    }

    pub takes_claim : (j : ℕ) → Some j ≡ number_at (listed targets rows) i → {known' : Option Ranges} → known' ≡ (row_at rows j).claim
        → Entered p targets es known' rows changed i
    takes_claim j finds is = enters (rw is (sym (ap (claim_else (known)) (entry_there targets rows i j finds))))

    pub takes_nothing : None ≡ number_at (listed targets rows) i → {known' : Option Ranges} → known' ≡ known → Entered p targets es known' rows changed i
    takes_nothing finds same = enters (rw same (sym (ap (claim_else (known)) (no_entry targets rows i finds))))

  module _ {es : List Entry} {known : Option Ranges} {rows : List Row} {changed : Bool} {i : ℕ} (entered : Entered p targets es known rows changed i) where
    pub sweep_visits : {before : Ranges} → known ≡ Some before → {known' : Option Ranges} {rows' : List Row} {changed' : Bool}
        → sweep_in targets known' rows' changed' ≡ visit p i (Some before) (table_in targets rows changed) → So p targets es known' rows' changed' (i + 1)
    sweep_visits is visited = record { is = visited ∙ (rw is at entered.is) }

    pub sweep_passes : known ≡ None → So p targets es known rows changed (i + 1)
    unfolding visit
    sweep_passes is = record { is = rw is (rw is at entered.is) }
