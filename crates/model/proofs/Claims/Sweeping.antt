-- A sweep over the code keeps what holds of the entries, and takes room if it changes any; so does giving anything to the lowest
-- unreached target; and so the sweeping ends. Assumes nothing.
use Prim.Native.Nat.{ℕ, zero, suc, ◌+◌, ◌≤◌, ◌<◌}
use mathlib.Core.Path.{◌≡◌, refl, ap, subst}
use mathlib.Core.Bool.{Bool, true, false}
use mathlib.Core.List.{List, [], ◌∷◌, map}
use Rattle.std.specs.Prelude.{Option, None, Some}
use native.Mathlib.Omega.{arith}
use lib.ListN.{length, get_or-replicate}
use Rattle.model.specs.declared.Ranges.{Ranges}
use Rattle.model.specs.Ranges.{unknown, region_range}
use Rattle.model.specs.Program.{Program}
use Rattle.model.specs.Step.{shape_at}
use Rattle.model.specs.Judgement.{traits_at}
use Rattle.model.specs.Claims.{Entry, fresh, entry_at, Table, Sweep, claim_else, along_taken, along_next, visit, sweep, swept, counted, given_or, given, WorkedOut, sweeping}
use Rattle.model.proofs.Claims.Each.{All, IfThere}
use Rattle.model.proofs.Claims.Bounds.{Bounded, Modest, bounded_unknown, bounded_next, bounded_taken}
use Rattle.model.proofs.Claims.Entries.{Held, Good, Clear, room_if, room, reached_room, fresh_good, fresh_clear, counted_good, counted_room}
use Rattle.model.proofs.Claims.Tables.{found, rooms, Moved, Swept, arrive_swept}

-- ---- a sweep

-- every instruction keeps the ranges proper
abbrev pub ModestCode : Program → Type 0
ModestCode p = (i : ℕ) → Modest (region_range p.layout) (shape_at p i)

-- what is known at an index, if anything: a claim, or what is known along the edge to it
pub claim_bounded : (k : Option Ranges) → IfThere Bounded k → (o : Option Entry) → IfThere Good o → IfThere Bounded (claim_else k o)
claim_bounded k b None g = b
claim_bounded k b (Some e) g = by_claim e.claim g.held
  where
    by_claim : (claim : Option Ranges) → IfThere (Held e) claim → IfThere Bounded claim
    by_claim None h = tt
    by_claim (Some claim) h = h.bounded

pub record SweptTo (from : List Entry) (s : Sweep) : Type 0 where
  pub known : IfThere Bounded s.known
  pub table : Swept from s.table

module _ (p : Program) (modest : ModestCode p) (from : List Entry) (clear : All Clear from) where
  pub taken_swept : (i : ℕ) (k : Ranges) → Bounded k → (to : Option ℕ) (t : Table) → Swept from t → Swept from (along_taken p i k to t)
  taken_swept i k b None t s = s
  taken_swept i k b (Some to) t s = arrive_swept from clear to _ (bounded_taken (shape_at p i) b) t s

  pub next_swept : (i : ℕ) (k : Ranges) → Bounded k → (falls : Bool) (t : Table) → Swept from t → SweptTo from (along_next p i k falls t)
  next_swept i k b false t s = record { known = tt; table = s }
  next_swept i k b true t s =
      let next = bounded_next (region_range p.layout) (shape_at p i) (modest i) b in
      record { known = next; table = arrive_swept from clear (i + 1) _ next t s }

  pub visit_swept : (i : ℕ) (k : Option Ranges) → IfThere Bounded k → (t : Table) → Swept from t → SweptTo from (visit p i k t)
  unfolding visit
  visit_swept i None b t s = record { known = tt; table = s }
  visit_swept i (Some k) b t s = next_swept i k b (traits_at p i).falls _ (taken_swept i k b (traits_at p i).names t s)

  pub sweep_swept : All Good from → (i : ℕ) → SweptTo from (sweep p from i)
  unfolding sweep
  sweep_swept good zero = record { known = bounded_unknown; table = record { good = good; moved = refl } }
  sweep_swept good (suc i) =
      let before : SweptTo from (sweep p from i) = sweep_swept good i in
      let s : Sweep = sweep p from i in
      visit_swept i (claim_else s.known (entry_at s.table.entries i))
      (claim_bounded s.known before.known (entry_at s.table.entries i) (found Good s.table.entries before.table.good i))
      s.table before.table

-- ---- the end of a sweep

-- entries between two sweeps
pub record Ready (es : List Entry) : Type 0 where
  pub good : All Good es
  pub clear : All Clear es

all_counted : (es : List Entry) → All Good es → Ready (map counted es) × (rooms (map counted es) ≤ rooms es)
unfolding rooms counted
all_counted [] good = (record { good = tt; clear = tt }, omega arith)
all_counted (e ∷ es) good =
    let rest = all_counted es good.1 in (
      record {
        good = (counted_good e good.0, rest.0.good);
        clear = (record { still = λ r h. get_or-replicate 8 r false false h }, rest.0.clear);
      },
      omega (arith, counted_room e, rest.1),
    )

-- ---- the lowest unreached target

pub record Reached (e : Entry) : Type 0 where
  pub claim : Ranges
  pub is : e.claim ≡ Some claim

pub record Gives (es es' : List Entry) : Type 0 where
  pub ready : Ready es'
  pub falls : rooms es' < rooms es

abbrev pub GivenIf : List Entry → Option (List Entry) → Type 0
GivenIf es None = All Reached es
GivenIf es (Some es') = Gives es es'

pub given_falls : (es : List Entry) → Ready es → GivenIf es (given es)
unfolding given rooms
given_falls [] r = tt
given_falls (e ∷ es) r =
    by_claim e.claim refl (given es) (given_falls es (record { good = r.good.1; clear = r.clear.1 }))
  where
    by_claim : (claim : Option Ranges) → e.claim ≡ claim → (later : Option (List Entry)) → GivenIf es later
        → GivenIf (e ∷ es) (given_or e es claim later)
    by_claim None is later rest =
        let full : room e ≡ 73 = ap (room_if e) is in
        record {
          ready = record {
            good = (fresh_good e.index e.indirect (Some unknown) (λ _. refl) bounded_unknown, r.good.1);
            clear = (fresh_clear e.index e.indirect (Some unknown), r.clear.1);
          };
          falls = omega (arith, reached_room (fresh e.index e.indirect (Some unknown)));
        }
    by_claim (Some claim) is None rest = (record { claim = claim; is = is }, rest)
    by_claim (Some claim) is (Some es') rest = record {
      ready = record { good = (r.good.0, rest.ready.good); clear = (r.clear.0, rest.ready.clear) };
      falls = omega (arith, rest.falls);
    }

-- where all are reached, none is left to be given anything
pub none_given : (es : List Entry) → All Reached es → given es ≡ None
unfolding given
none_given [] all = refl
none_given (e ∷ es) all = rw (all.0.is, none_given es all.1)

-- ---- one sweep and then the next

-- the sweeping has ended: one more sweep changes nothing, and every target is reached
pub record Ended (p : Program) (es : List Entry) : Type 0 where
  pub good : All Good es
  pub clear : All Clear es
  pub unchanged : (swept p es).changed ≡ false
  pub reached : All Reached es

-- the entries that the next sweep begins with; none where there is no next
unfoldable pub following : Program → List Entry → Option (List Entry)
following p es = elim (swept p es).changed [ true ↦ Some (map counted (swept p es).entries) | false ↦ given es ]

abbrev pub gone_on : Program → ℕ → ℕ → List Entry → Option (List Entry) → WorkedOut
gone_on p most made es None = record { entries = es; sweeps = suc made }
gone_on p most made es (Some es') = sweeping p most (suc made) es'

pub sweeping_goes_on : (p : Program) (most made : ℕ) (es : List Entry)
    → sweeping p (suc most) made es ≡ gone_on p most made es (following p es)
unfolding sweeping following
sweeping_goes_on p most made es = by_change (swept p es).changed refl
  where
    by_given : (next : Option (List Entry)) → (swept p es).changed ≡ false → given es ≡ next
        → sweeping p (suc most) made es ≡ gone_on p most made es (following p es)
    by_given None e q = rw (e, q, sweeping, following)
    by_given (Some es') e q = rw (e, q, sweeping, following)

    by_change : (changed : Bool) → (swept p es).changed ≡ changed
        → sweeping p (suc most) made es ≡ gone_on p most made es (following p es)
    by_change true e = rw (e, sweeping, following)
    by_change false e = by_given (given es) e refl

abbrev pub Follows : Program → List Entry → Option (List Entry) → Type 0
Follows p es None = Ended p es
Follows p es (Some es') = Gives es es'

module _ (p : Program) (modest : ModestCode p) where
  -- what a sweep that changes something leaves
  pub swept_falls : (es : List Entry) → Ready es → (swept p es).changed ≡ true → Gives es (map counted (swept p es).entries)
  swept_falls es r changed =
      let s : Swept es (swept p es) = (sweep_swept p modest es r.clear r.good (length p.code)).table in
      let c = all_counted (swept p es).entries s.good in
      let fell : rooms (swept p es).entries < rooms es =
      subst (λ (b : Bool). Moved es b (swept p es).entries) changed s.moved in
      record { ready = c.0; falls = omega (arith, c.1) }

  pub follows : (es : List Entry) → Ready es → Follows p es (following p es)
  unfolding following
  follows es r = by_change (swept p es).changed refl
    where
      by_given : (next : Option (List Entry)) → (swept p es).changed ≡ false → GivenIf es next → Follows p es next
      by_given None e all = record { good = r.good; clear = r.clear; unchanged = e; reached = all }
      by_given (Some es') e g = g

      by_change : (changed : Bool) → (swept p es).changed ≡ changed → Follows p es (following p es)
      by_change true e = rw (e, following) (swept_falls es r e)
      by_change false e = rw (e, following) (by_given (given es) e (given_falls es r))

  -- with as many sweeps as there is room, and one more, the end is reached
  pub sweeping_ends : (most made : ℕ) (es : List Entry) → Ready es → rooms es < most → Ended p (sweeping p most made es).entries
  sweeping_ends zero made es r enough = absurd (omega arith)
  sweeping_ends (suc most) made es r enough =
      rw (sweeping_goes_on p most made es)
      (by_next (following p es) (follows es r) (λ es' g. sweeping_ends most (suc made) es' g.ready (omega (arith, g.falls))))
    where
      by_next : (next : Option (List Entry)) → Follows p es next
          → ((es' : List Entry) → Gives es es' → Ended p (sweeping p most (suc made) es').entries)
          → Ended p (gone_on p most made es next).entries
      by_next None end rest = end
      by_next (Some es') g rest = rest es' g

  -- and more sweeps would be none: allowing for more gives the same
  pub enough_is_enough : (most most' made : ℕ) (es : List Entry) → Ready es → rooms es < most → rooms es < most'
      → sweeping p most made es ≡ sweeping p most' made es
  enough_is_enough zero most' made es r enough enough' = absurd (omega arith)
  enough_is_enough (suc most) zero made es r enough enough' = absurd (omega arith)
  enough_is_enough (suc most) (suc most') made es r enough enough' =
      rw (sweeping_goes_on p most made es, sweeping_goes_on p most' made es)
      (by_next (following p es) (follows es r)
      (λ es' g. enough_is_enough most most' (suc made) es' g.ready (omega (arith, g.falls)) (omega (arith, g.falls))))
    where
      by_next : (next : Option (List Entry)) → Follows p es next
          → ((es' : List Entry) → Gives es es' → sweeping p most (suc made) es' ≡ sweeping p most' (suc made) es')
          → gone_on p most made es next ≡ gone_on p most' made es next
      by_next None end rest = refl
      by_next (Some es') g rest = rest es' g
