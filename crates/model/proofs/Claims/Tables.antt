-- All entries together: what reaches one keeps what holds of all, and their room falls; a sweep that has changed something has
-- taken room, one that has not has left every entry as it was. Assumes nothing.
use Prim.Native.Nat.{ℕ, ◌+◌, ◌≤◌, ◌<◌}
use mathlib.Core.Path.{◌≡◌, refl}
use mathlib.Core.Bool.{Bool, true, false, true≢false}
use mathlib.Core.List.{List, [], ◌∷◌}
use native.Mathlib.Omega.{arith}
use lib.Dec.{eqb}
use Rattle.model.specs.declared.Ranges.{Ranges}
use Rattle.model.specs.Quantifiers.{all_of}
use Rattle.model.specs.Claims.{Entry, entry_at, reached, reach_at, covers, Table, arrive}
use Rattle.model.proofs.Claims.Each.{All, IfThere}
use Rattle.model.proofs.Claims.Bounds.{Bounded}
use Rattle.model.proofs.Claims.Entries.{Good, Clear, room}
use Rattle.model.proofs.Claims.Widening.{Widens, reached_widens}

-- what holds of every entry holds of the one at an index, if there is one
pub found : (P : Entry → Type 0) (es : List Entry) → All P es → (i : ℕ) → IfThere P (entry_at es i)
unfolding entry_at
found P [] all i = tt
found P (e ∷ es) all i = by_index (eqb e.index i) refl (found P es all.1 i)
  where
    by_index : (t : Bool) → eqb e.index i ≡ t → IfThere P (entry_at es i) → IfThere P (entry_at (e ∷ es) i)
    by_index true same rest = rw (same, entry_at) all.0
    by_index false other rest = rw (other, entry_at) rest

-- the room of all entries
unfoldable pub rooms : List Entry → ℕ
rooms [] = 0
rooms (e ∷ es) = room e + rooms es

-- ---- one entry is reached

pub record AllWiden (es es' : List Entry) : Type 0 where
  pub good : All Good es'
  pub lighter : rooms es' ≤ rooms es
  pub falls : All Clear es → rooms es' < rooms es

pub all_widen : (to : ℕ) (k : Ranges) → Bounded k → (es : List Entry) → All Good es → all_of (entry_at es to) (covers k) ≡ false
    → AllWiden es (reach_at es to k)
unfolding entry_at reach_at rooms
all_widen to k b [] good outside = absurd (true≢false outside)
all_widen to k b (e ∷ es) good outside = by_index (eqb e.index to) refl (λ out. all_widen to k b es good.1 out)
  where
    here : covers k e ≡ false → AllWiden (e ∷ es) (reached e e.claim k ∷ es)
    here out =
        let w : Widens e (room e) (reached e e.claim k) = reached_widens e k good.0 b out in
        record {
          good = (w.good, good.1);
          lighter = omega (arith, w.lighter);
          falls = λ clear. omega (arith, w.falls clear.0);
        }

    later : AllWiden es (reach_at es to k) → AllWiden (e ∷ es) (e ∷ reach_at es to k)
    later w = record {
      good = (good.0, w.good);
      lighter = omega (arith, w.lighter);
      falls = λ clear. omega (arith, w.falls clear.1);
    }

    by_index : (t : Bool) → eqb e.index to ≡ t
        → (all_of (entry_at es to) (covers k) ≡ false → AllWiden es (reach_at es to k)) → AllWiden (e ∷ es) (reach_at (e ∷ es) to k)
    by_index true same rest = rw (same, reach_at) (here (rw (same, entry_at) at outside))
    by_index false other rest = rw (other, reach_at) (later (rest (rw (other, entry_at) at outside)))

-- ---- in a sweep

-- the entries now, against those that the sweep began with
abbrev pub Moved : List Entry → Bool → List Entry → Type 0
Moved from false es = es ≡ from
Moved from true es = rooms es < rooms from

pub record Swept (from : List Entry) (t : Table) : Type 0 where
  pub good : All Good t.entries
  pub moved : Moved from t.changed t.entries

module _ (from : List Entry) (clear : All Clear from) where
  moves_on : (changed : Bool) (es es' : List Entry) → Moved from changed es → AllWiden es es' → rooms es' < rooms from
  moves_on false es es' m w = let less : rooms es' < rooms es = w.falls (rw m clear) in rw (← m) less
  moves_on true es es' m w = omega (arith, w.lighter)

  -- ranges arrive at the end of an edge
  pub arrive_swept : (to : ℕ) (k : Ranges) → Bounded k → (t : Table) → Swept from t → Swept from (arrive to k t)
  unfolding arrive
  arrive_swept to k b t s = by_test (all_of (entry_at t.entries to) (covers k)) refl
    where
      by_test : (c : Bool) → all_of (entry_at t.entries to) (covers k) ≡ c → Swept from (arrive to k t)
      by_test true e = rw (e, arrive) s
      by_test false e =
          let w : AllWiden t.entries (reach_at t.entries to k) = all_widen to k b t.entries s.good e in
          rw (e, arrive) (record { good = w.good; moved = moves_on t.changed t.entries (reach_at t.entries to k) s.moved w })
