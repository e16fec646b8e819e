-- A loop that puts one row after another into the table: those that it has passed are done, the others as they were. So the table of a
-- module's targets begins as the definition says, and is counted as it says. Assumes nothing.
use Rattle.std.specs.Prelude.{Some, None}
use Rattle.std.proofs.Common.{◌≡◌, ℕ, ◌+◌, ◌≤◌, ◌<◌, Bool, true, false, cond, eqb, List, map, length, set, refl, sym, ap, ◌∙◌, arith, below_more}
use Rattle.std.proofs.lemmas.List.{get_or-set_same, get_or-set_other}
use Rattle.std.specs.Bool.{then_some}
use borrow.Author.Tests.{eqb-true}
use Rattle.model.specs.declared.Layout.{Layout}
use Rattle.model.specs.declared.Ranges.{Ranges}
use Rattle.model.specs.Ranges.{unknown}
use Rattle.model.specs.File.{target_index, target_kind, claim_in, target_in, program_of}
use Rattle.model.specs.Claims.{fresh, begun, counted}
use Rattle.model.proofs.Tabulate.{tabulate_same, map-tabulate}
use Rattle.model.proofs.Tests.{by_cond}
use Rattle.model.proofs.Claims.FromFile.{claim_unknown}
use Rattle.reader.specs.Loading.{Loaded}
use Rattle.lookup.proofs.Listed.{table_is}
use Rattle.claims.specs.declared.entry.Row.{Row}
use Rattle.claims.specs.Rows.{entry_of}
use Rattle.claims.specs.Tables.{row_at, entry_in, entries_in}

-- the rows below j are done, in a table that began as another
pub record Filled (Done : ℕ → Row → Type 0) (before rows : List Row) (j : ℕ) : Type 0 where
  pub done : (i : ℕ) → i < j → Done i (row_at rows i)
  pub left : (i : ℕ) → j ≤ i → row_at rows i ≡ row_at before i

-- the next one
pub fills : {Done : ℕ → Row → Type 0} {before rows : List Row} {j : ℕ} → Filled Done before rows j → j < length rows → (row : Row) → Done j row
    → Filled Done before (set rows j row) (j + 1)
fills {Done} {before} {rows} {j} filled inside row is-done = record {
  done = below_more (λ i. Done i (row_at (set rows j row) i)) j
      (λ i below. let other : i ≡ j → ⊥ = omega arith in rw get_or-set_other (filled.done i below))
      (rw get_or-set_same is-done);
  left = λ i from. let other : i ≡ j → ⊥ = omega arith in rw get_or-set_other (filled.left i (omega arith));
}

-- the table that the sweeping begins with
abbrev pub Begun : List ℕ → ℕ → Row → Type 0
Begun targets j row =
    (i : ℕ) (indirect : Bool) → entry_of i indirect row ≡ fresh i indirect (cond (eqb (target_kind targets j) 1) (Some unknown) None)

pub claim_begun : (b : Bool) (k : Ranges) → (then_some b k) ≡ cond b (Some k) None
claim_begun true k = refl
claim_begun false k = refl

pub all_begun : {l : Layout} {code targets : List ℕ} {n k : ℕ} → Loaded l code targets n k → {before rows : List Row} {j : ℕ} → length rows ≡ k → k ≤ j
    → Filled (Begun targets) before rows j → entries_in targets rows ≡ map begun (program_of l code targets).targets
unfolding target_in
all_begun {l} {code} {targets} {n} {k} loaded {before} {rows} long past filled =
    rw long (tabulate_same (entry_in targets rows) (λ i. begun (target_in targets i)) 0 k
    (λ i _ below. filled.done i (omega arith) (target_index targets i) (eqb (target_kind targets i) 1) ∙ begins i (omega arith))
    ∙ sym (ap (map begun) (table_is loaded) ∙ map-tabulate begun (target_in targets) 0 k))
  where
    -- the fixed claim of an indirect target is the one in the bytes
    begins : (i : ℕ) → i < k → fresh (target_index targets i) (eqb (target_kind targets i) 1) (cond (eqb (target_kind targets i) 1) (Some unknown) None)
        ≡ begun (target_in targets i)
    begins i below = ap (fresh (target_index targets i) (eqb (target_kind targets i) 1))
        (by_cond (λ c. c ≡ cond (eqb (target_kind targets i) 1) (Some (claim_in targets i)) None) (eqb (target_kind targets i) 1)
        (λ indirect. rw indirect (ap (λ k. Some k)
        (sym (claim_unknown targets i ((loaded.kept.each_target i (omega (arith, loaded.targets_whole))).indirect (eqb-true _ _ indirect))))))
        (λ direct. rw direct))

-- the table when a sweep is over
abbrev pub Counted : List Row → ℕ → Row → Type 0
Counted before j row = (i : ℕ) (indirect : Bool) → entry_of i indirect row ≡ counted (entry_of i indirect (row_at before j))

pub all_counted : {before rows : List Row} {j : ℕ} → length rows ≡ length before → length before ≤ j → Filled (Counted before) before rows j
    → (targets : List ℕ) → entries_in targets rows ≡ map counted (entries_in targets before)
all_counted {before} {rows} long past filled targets =
    rw long (tabulate_same (entry_in targets rows) (λ i. counted (entry_in targets before i)) 0 (length before)
    (λ i _ below. filled.done i (omega arith) (target_index targets i) (eqb (target_kind targets i) 1))
    ∙ sym (map-tabulate counted (entry_in targets before) 0 (length before)))
