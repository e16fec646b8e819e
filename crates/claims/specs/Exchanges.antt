-- Claims in a table, and the targets' bytes that they are exchanged with, in the model's terms. Assumes nothing.
use Rattle.std.specs.Prelude.{ℕ, ◌<◌, ◌≡◌, false, List, eqb, unwrap_or}
use Rattle.model.specs.declared.Ranges.{Ranges}
use Rattle.model.specs.declared.Target.{Target}
use Rattle.model.specs.Ranges.{unknown}
use Rattle.model.specs.File.{tabulate, target_index, target_kind, claim_in}
use Rattle.model.specs.Claims.{write_claims}
use Rattle.claims.specs.declared.entry.Row.{Row}
use Rattle.claims.specs.Tables.{row_at}

-- the claim of a number in the table
abbrev pub claim_at : List Row → ℕ → Ranges
claim_at rows j = unwrap_or (row_at rows j).claim unknown

-- the first k targets of the bytes, with the table's claims
abbrev pub target_with : List ℕ → List Row → ℕ → Target
target_with bytes rows j = record { index = target_index bytes j; indirect = eqb (target_kind bytes j) 1; claim = claim_at rows j }

abbrev pub targets_with : ℕ → List ℕ → List Row → List Target
targets_with k bytes rows = tabulate 0 k (target_with bytes rows)

-- the table's claims are written over those of the direct targets, and theirs are in the table
pub record Exchanged (k : ℕ) (bytes : List ℕ) (rows : List Row) (bytes' : List ℕ) (rows' : List Row) : Type 0 where
  pub written : bytes' ≡ write_claims 0 (targets_with k bytes rows) bytes
  pub came : (j : ℕ) → j < k → eqb (target_kind bytes j) 1 ≡ false → claim_at rows' j ≡ claim_in bytes j
