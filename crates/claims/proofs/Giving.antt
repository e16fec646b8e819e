-- The lowest unreached target is given anything, if there is one. Assumes nothing.
use Rattle.std.proofs.Common.{◌≡◌, ℕ, ◌<◌, ◌≤◌, Bool, true, false, eqb, List, length, set, Option, Some, None, is_none, refl, sym, ◌∙◌, arith}
use Rattle.std.specs.List.{position, position_or_len}
use Rattle.std.proofs.lemmas.Grind.{common_steps}
use Rattle.std.proofs.lemmas.List.{get_or-set_same, get_or-set_other, length-set}
use Rattle.std.proofs.lemmas.List.Quantifiers.{position-Some}
use Rattle.std.proofs.lemmas.List.Sums.{fails_before_first}
use Rattle.model.specs.declared.Ranges.{Ranges}
use Rattle.model.specs.Ranges.{unknown}
use Rattle.model.specs.File.{target_index, target_kind}
use Rattle.model.specs.Claims.{fresh, given}
use Rattle.claims.specs.declared.entry.Row.{Row}
use Rattle.claims.specs.Rows.{entry_of}
use Rattle.claims.specs.Tables.{row_at, entry_in, entries_in}
use Rattle.claims.proofs.Searching.{none_unreached, lowest_given}

abbrev is_unreached : Row → Bool
is_unreached row = is_none row.claim

claimed : (o : Option Ranges) → is_none o ≡ false → (k : Ranges) × (o ≡ Some k)
claimed (Some k) has = (k, refl)
claimed None has = absurd (cc)

unclaimed : (o : Option Ranges) → is_none o ≡ true → o ≡ None
unclaimed (Some k) has = absurd (cc)
unclaimed None has = refl

module _ (rows : List Row) (targets : List ℕ) where
  pub gives_none : {lowest : Option ℕ} → lowest ≡ None → lowest ≡ position is_unreached rows → given (entries_in targets rows) ≡ None
  gives_none none found =
      let past : length rows ≤ position_or_len is_unreached rows = grind (arith, common_steps) in
      none_unreached (entry_in targets rows) 0 (length rows)
      (λ i below. claimed (row_at rows i).claim (fails_before_first is_unreached rows i _ (omega arith)))

  pub gives_lowest : {lowest : Option ℕ} {j : ℕ} → lowest ≡ Some j → lowest ≡ position is_unreached rows → (row : Row) {anything : Ranges} → anything ≡ unknown
      → ((i : ℕ) (indirect : Bool) → entry_of i indirect row ≡ fresh i indirect (Some anything))
      → given (entries_in targets rows) ≡ Some (entries_in targets (set rows j row))
  gives_lowest {lowest} {j} some found row is-anything made =
      let there = position-Some is_unreached rows j _ (sym found ∙ some) in
      let inside : j < length rows = there.0 in
      simp length-set
      (lowest_given (entry_in targets rows) j (unclaimed (row_at rows j).claim there.1) (λ i below. claimed (row_at rows i).claim (there.2 i below))
      (entry_in targets (set rows j row))
      (rw get_or-set_same (rw is-anything at (made (target_index targets j) (eqb (target_kind targets j) 1))))
      (λ i other. rw get_or-set_other)
      (length rows) inside)
