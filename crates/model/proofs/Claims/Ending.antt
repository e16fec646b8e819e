-- Document 02, ticket 3: "with none left it ends". From rules 5, 6 and 7, without the inner claims, the sweeping of a module ends within
-- the sweeps that its definition allows for, and the claims are as rule 7 wants them. Assumes nothing.
use Prim.Native.Nat.{ℕ, ◌*◌, ◌≤◌, ◌<◌}
use mathlib.Core.Path.{◌≡◌, refl, ap}
use mathlib.Core.Bool.{Bool, true, false, cond, false≢true}
use mathlib.Core.List.{List, [], ◌∷◌, map}
use Rattle.std.specs.Prelude.{Option, None, Some, unwrap_or}
use native.Mathlib.Omega.{arith}
use lib.ListN.{length}
use Rattle.model.specs.declared.Ranges.{Ranges}
use Rattle.model.specs.declared.Target.{Target}
use Rattle.model.specs.Ranges.{unknown}
use Rattle.model.specs.Program.{Program, code_at}
use Rattle.model.specs.Rules.{LayoutKept}
use Rattle.model.specs.Claims.{Entry, fresh, begun, finished, given, sweeping, most_sweeps, code_of, worked_out, with_claims}
use Rattle.model.proofs.Claims.Each.{All, IfThere}
use Rattle.model.proofs.Claims.Bounds.{Bounded, bounded_unknown, Operands, modest}
use Rattle.model.proofs.Claims.Entries.{Held, Good, room_at_most, fresh_good, fresh_clear}
use Rattle.model.proofs.Claims.Tables.{rooms}
use Rattle.model.proofs.Claims.Sweeping.{ModestCode, Ready, Reached, none_given, Ended, sweeping_ends, enough_is_enough}

-- an indirect target claims anything (rule 7)
abbrev pub OpenClaim : Target → Type 0
OpenClaim t = t.indirect ≡ true → t.claim ≡ unknown

abbrev pub OpenClaims : List Target → Type 0
OpenClaims = All OpenClaim

-- what rules 5, 6 and 7 say of a module, apart from the inner claims
pub record Fit (p : Program) : Type 0 where
  pub layout : LayoutKept p.layout
  pub operands : (i : ℕ) → Operands (code_at p i)
  pub open_claims : OpenClaims p.targets

-- ---- where the sweeping begins

begun_good : (t : Target) → OpenClaim t → Good (begun t)
begun_good t open_claim = by_kind t.indirect open_claim
  where
    by_kind : (indirect : Bool) → (indirect ≡ true → t.claim ≡ unknown)
        → Good (fresh t.index indirect (cond indirect (Some t.claim) None))
    by_kind false o = fresh_good t.index false None (λ is. absurd (false≢true is)) tt
    by_kind true o = fresh_good t.index true (Some t.claim) (λ is. ap Some (o refl)) (rw (o refl) bounded_unknown)

begun_ready : (ts : List Target) → OpenClaims ts → Ready (map begun ts) × (rooms (map begun ts) ≤ 73 * length ts)
unfolding rooms
begun_ready [] o = (record { good = tt; clear = tt }, omega arith)
begun_ready (t ∷ ts) o =
    let rest = begun_ready ts o.1 in (
      record {
        good = (begun_good t o.0, rest.0.good);
        clear = (fresh_clear t.index t.indirect (cond t.indirect (Some t.claim) None), rest.0.clear);
      },
      omega (arith, room_at_most (begun t), rest.1),
    )

-- ---- the claims at the end

pub record ProperTarget (t : Target) : Type 0 where
  pub bounded : Bounded t.claim
  pub open_claim : OpenClaim t

abbrev pub AllProper : List Target → Type 0
AllProper = All ProperTarget

all_proper : (es : List Entry) → All Good es → All Reached es → AllProper (map finished es)
all_proper [] good all = tt
all_proper (e ∷ es) good all = (
  record {
    bounded = by_claim e.claim good.0.held;
    open_claim = λ is. ap (λ (c : Option Ranges). unwrap_or c unknown) (good.0.fixed is);
  },
  all_proper es good.1 all.1,
)
  where
    by_claim : (claim : Option Ranges) → IfThere (Held e) claim → Bounded (unwrap_or claim unknown)
    by_claim None h = bounded_unknown
    by_claim (Some claim) h = h.bounded

-- ---- the law

module _ (p : Program) (fit : Fit p) where
  pub code_modest : ModestCode (code_of p)
  code_modest i = modest p.layout fit.layout (code_at p i) (fit.operands i)

  -- it begins with less room than there are sweeps allowed for
  pub begins_ready : Ready (map begun p.targets) × (rooms (map begun p.targets) < most_sweeps p)
  begins_ready = let begins = begun_ready p.targets fit.open_claims in (begins.0, omega (arith, begins.1))

  -- one more sweep would change nothing, and every target is reached
  pub ends : Ended (code_of p) (worked_out p).entries
  unfolding worked_out
  ends = sweeping_ends (code_of p) code_modest (most_sweeps p) 0 (map begun p.targets) begins_ready.0 begins_ready.1

  pub none_left : given (worked_out p).entries ≡ None
  none_left = none_given (worked_out p).entries ends.reached

  -- allowing for more sweeps would give the same, and the same count of them
  pub cuts_nothing : (most : ℕ) → most_sweeps p ≤ most → sweeping (code_of p) most 0 (map begun p.targets) ≡ worked_out p
  unfolding worked_out
  cuts_nothing most more =
      enough_is_enough (code_of p) code_modest most (most_sweeps p) 0 (map begun p.targets) begins_ready.0
      (omega (arith, begins_ready.1)) begins_ready.1

  -- the claims at the end are of eight proper ranges, as rule 7 wants them, and the indirect ones say nothing
  pub claims_proper : AllProper (with_claims p).targets
  unfolding with_claims
  claims_proper = all_proper (worked_out p).entries ends.good ends.reached
