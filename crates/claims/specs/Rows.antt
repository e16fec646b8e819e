-- A row of the table, in the model's terms. Assumes nothing.
use Rattle.std.specs.Prelude.{ℕ, ◌≤◌, ◌<◌, Bool, false, List, map, get_or}
use Rattle.model.specs.Claims.{Entry, entry}
use Rattle.claims.specs.declared.entry.Growth.{Growth}
use Rattle.claims.specs.declared.entry.Row.{Row}

-- the row of a target that stands at an index, indirect or not
abbrev pub entry_of : ℕ → Bool → Row → Entry
entry_of i indirect e = entry i indirect (e.claim) (map (λ (g : Growth). g.earlier) e.growth) (map (λ (g : Growth). g.now) e.growth)

-- no register has grown in more than nine sweeps
abbrev pub FewGrown : List Growth → Type 0
FewGrown growth = (r : ℕ) → r < 8 → (get_or growth r (record { earlier = 0; now = false })).earlier ≤ 9
