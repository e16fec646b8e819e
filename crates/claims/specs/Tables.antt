-- The table, a row for each of a module's targets, in the model's terms. Assumes nothing.
use Rattle.std.specs.Prelude.{Some, ℕ, ◌≡◌, Bool, List, [], eqb, length, get_or, Option, None}
use Rattle.model.specs.declared.Ranges.{Ranges}
use Rattle.model.specs.declared.Target.{Target}
use Rattle.model.specs.File.{tabulate, target_index, target_kind, target_in}
use Rattle.model.specs.Claims.{Entry, Table, arrive, Sweep}
use Rattle.reader.specs.declared.module.Module.{Module}
use Rattle.reader.specs.Loading.{Loaded}
use Rattle.claims.specs.declared.entry.Row.{Row}
use Rattle.claims.specs.Rows.{entry_of}

-- the table has a row for each target of a module that was read
abbrev pub HasRows : Module → List Row → Type 0
HasRows m rows = Loaded m.layout m.code.now m.targets.now m.held.instructions m.held.targets × (length rows ≡ m.held.targets)

-- the targets that the table has rows for
abbrev pub listed : List ℕ → List Row → List Target
listed targets rows = tabulate 0 (length rows) (target_in targets)

-- the row of a number; past the end there is none, and its growth is empty
abbrev pub row_at : List Row → ℕ → Row
row_at rows j = get_or rows j (record { claim = None; growth = [] })

-- the entry of a target of the targets' bytes, and all of them
abbrev pub entry_in : List ℕ → List Row → ℕ → Entry
entry_in targets rows j = entry_of (target_index targets j) (eqb (target_kind targets j) 1) (row_at rows j)

abbrev pub entries_in : List ℕ → List Row → List Entry
entries_in targets rows = tabulate 0 (length rows) (entry_in targets rows)

-- with whether a sweep has changed any, and with what is known then
abbrev pub table_in : List ℕ → List Row → Bool → Table
table_in targets rows changed = record { entries = entries_in targets rows; changed = changed }

abbrev pub sweep_in : List ℕ → Option Ranges → List Row → Bool → Sweep
sweep_in targets known rows changed = record { known = known; table = table_in targets rows changed }

-- the ranges of an edge arrive at its end, where it has one
abbrev pub along : Option ℕ → Ranges → Table → Table
along None ranges t = t
along (Some to) ranges t = arrive to ranges t
