-- The ranges of an edge arrive at its end: what the code finds there and puts there is what the definition reaches. Assumes nothing.
use Rattle.std.specs.Prelude.{Option, Some, None, option_and_then}
use Rattle.std.proofs.lemmas.Option.{none-some}
use Rattle.std.proofs.Common.{◌≡◌, ℕ, ◌<◌, Bool, true, false, eqb, List, length, set, refl, sym, ap, ◌∙◌}
use Rattle.std.proofs.lemmas.List.{get_or-set_same, get_or-set_other, length-set}
use Rattle.model.specs.declared.Ranges.{Ranges}
use Rattle.model.specs.declared.Target.{Target}
use Rattle.model.specs.Quantifiers.{all_of}
use Rattle.model.specs.Lookup.{number_at}
use Rattle.model.specs.File.{target_index, target_kind, target_in}
use Rattle.model.specs.Claims.{Entry, entry_at, reached, reach_at, covers, Table, arrive}
use Rattle.lookup.specs.Found.{target_found}
use Rattle.lookup.proofs.Listed.{number_tells, found_listed, table_is}
use Rattle.reader.specs.Readings.{program}
use Rattle.reader.specs.declared.module.Module.{Module}
use Rattle.claims.specs.declared.entry.Row.{Row}
use Rattle.claims.specs.Rows.{entry_of}
use Rattle.claims.specs.Tables.{row_at, entry_in, entries_in, table_in, along, listed, HasRows}
use Rattle.claims.proofs.Searching.{entry_missing, entry_found, entry_reached}

-- what is found is one of the targets
pub named_below : (targets : List ℕ) (rows : List Row) (to : Option ℕ) {there : Option ℕ} → there ≡ option_and_then (number_at (listed targets rows)) to
    → (j : ℕ) → there ≡ Some j → j < length rows
named_below targets rows None nowhere j is = absurd (none-some j (sym nowhere ∙ is))
named_below targets rows (Some to) finds j is = (number_tells targets (length rows) to j (sym is ∙ finds)).below

-- what is found of a module's targets is found of those that the table has rows for
pub named_listed : (m : Module) (rows : List Row) → HasRows m rows → (to : Option ℕ) {there : Option ℕ}
    → there ≡ option_and_then (number_at (program m).targets) to → there ≡ option_and_then (number_at (listed m.targets.now rows)) to
named_listed m rows has to found =
    let same : (program m).targets ≡ listed m.targets.now rows = rw (has.1) (table_is has.0) in
    found ∙ ap (λ (ts : List Target). option_and_then (number_at ts) to) same

module _ (targets : List ℕ) (rows : List Row) where
  -- the target's entry, where one is found
  pub entry_there : (to j : ℕ) → Some j ≡ number_at (listed targets rows) to → entry_at (entries_in targets rows) to ≡ Some (entry_in targets rows j)
  entry_there to j finds =
      let at = number_tells targets (length rows) to j finds in entry_found (entry_in targets rows) to j at.here at.first (length rows) at.below

  pub no_entry : (to : ℕ) → None ≡ number_at (listed targets rows) to → entry_at (entries_in targets rows) to ≡ None
  unfolding target_found target_in
  no_entry to finds = entry_missing (entry_in targets rows) to (target_in targets) (λ j. refl) 0 (length rows) (sym (found_listed targets (length rows) to None finds))

  module _ (ranges : Ranges) (changed : Bool) where
    abbrev now : Table
    now = table_in targets rows changed

    arrived : (to : ℕ) (o : Option Entry) → entry_at (entries_in targets rows) to ≡ o → (covered : Bool) → all_of o (covers ranges) ≡ covered
        → arrive to ranges now ≡ elim covered [ true ↦ now | false ↦ record { entries = reach_at (entries_in targets rows) to ranges; changed = true } ]
    unfolding arrive
    arrived to o is covered tested =
        ap (λ (b : Bool). elim b [ true ↦ now | false ↦ record { entries = reach_at (entries_in targets rows) to ranges; changed = true } ])
        (ap (λ (e : Option Entry). all_of e (covers ranges)) is ∙ tested)

    -- nothing is to be widened
    pub arrives_nowhere : (to : Option ℕ) → None ≡ option_and_then (number_at (listed targets rows)) to → now ≡ along to ranges now
    arrives_nowhere None found = refl
    arrives_nowhere (Some to) finds = sym (arrived to None (no_entry to finds) true refl)

    module _ (j : ℕ) {covered : Bool} (tested : (i : ℕ) → covered ≡ covers ranges (entry_of i (eqb (target_kind targets j) 1) (row_at rows j))) where
      pub arrives_covered : covered ≡ true → (to : Option ℕ) → Some j ≡ option_and_then (number_at (listed targets rows)) to → now ≡ along to ranges now
      arrives_covered is None found = absurd (none-some j (sym found))
      arrives_covered is (Some to) finds =
          sym (arrived to (Some (entry_in targets rows j)) (entry_there to j finds) true (sym (tested (target_index targets j)) ∙ is))

      -- the row is put, and with it the entry is reached
      pub arrives_reached : covered ≡ false → (row : Row)
          → ((i : ℕ) (indirect : Bool) → entry_of i indirect row ≡ reached (entry_of i indirect (row_at rows j)) ((row_at rows j).claim) ranges)
          → (to : Option ℕ) → Some j ≡ option_and_then (number_at (listed targets rows)) to → table_in targets (set rows j row) true ≡ along to ranges now
      arrives_reached is row wider None found = absurd (none-some j (sym found))
      arrives_reached is row wider (Some to) finds =
          let at = number_tells targets (length rows) to j finds in
          let inside : j < length rows = at.below in
          simp length-set (ap (λ (es : List Entry). record { entries = es; changed = true })
          (sym (entry_reached (entry_in targets rows) to j at.here at.first ranges (entry_in targets (set rows j row))
          (rw get_or-set_same (wider (target_index targets j) (eqb (target_kind targets j) 1)))
          (λ i other. rw get_or-set_other)
          (length rows) inside))
          ∙ sym (arrived to (Some (entry_in targets rows j)) (entry_there to j finds) false (sym (tested (target_index targets j)) ∙ is)))
