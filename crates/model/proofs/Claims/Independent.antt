-- Document 02, ticket 3: "ignores its inner doors' claims". What is worked out does not depend on the inner claims that came in; so
-- to work out the claims of a module that has them worked out gives the same. Assumes nothing.
use Prim.Native.Nat.{ℕ, zero, suc, ◌+◌, ◌*◌}
use mathlib.Core.Path.{◌≡◌, refl, sym, ap, ◌∙◌}
use mathlib.Core.Bool.{Bool, true, false, cond}
use mathlib.Core.List.{List, [], ◌∷◌, map, map-map}
use Rattle.std.specs.Prelude.{Option, None, Some, unwrap_or}
use lib.Dec.{eqb}
use lib.ListN.{length, length-map}
use Rattle.model.specs.declared.Ranges.{Ranges}
use Rattle.model.specs.declared.Target.{Target}
use Rattle.model.specs.Quantifiers.{all_of}
use Rattle.model.specs.Ranges.{unknown}
use Rattle.model.specs.Program.{Program}
use Rattle.model.specs.Judgement.{traits_at}
use Rattle.model.specs.Claims.{Entry, fresh, begun, finished, entry_at, grow, reached, reach_at, covers, Table, arrive, along_taken, along_next, visit, sweep, swept, counted, given_or, given, WorkedOut, sweeping, most_sweeps, code_of, worked_out, with_claims}
use Rattle.model.proofs.Claims.Each.{IfThere}
use Rattle.model.proofs.Claims.Sums.{neither}
use Rattle.model.proofs.Claims.Sweeping.{following, gone_on, sweeping_goes_on}

-- ---- the inner claims that came in

-- two targets that differ in an inner claim at most
pub record Alike (t t' : Target) : Type 0 where
  pub index : t.index ≡ t'.index
  pub indirect : t.indirect ≡ t'.indirect
  pub claim : t.indirect ≡ true → t.claim ≡ t'.claim

abbrev pub AllAlike : List Target → List Target → Type 0
AllAlike [] [] = Unit {0}
AllAlike [] (t ∷ ts) = ⊥
AllAlike (t ∷ ts) [] = ⊥
AllAlike (t ∷ ts) (t' ∷ ts') = Alike t t' × AllAlike ts ts'

begun_alike : (t t' : Target) → Alike t t' → begun t ≡ begun t'
begun_alike t t' a = rw (← a.index, ← a.indirect) (by_kind t.indirect a.claim)
  where
    by_kind : (b : Bool) → (b ≡ true → t.claim ≡ t'.claim)
        → fresh t.index b (cond b (Some t.claim) None) ≡ fresh t.index b (cond b (Some t'.claim) None)
    by_kind true same = rw (same refl)
    by_kind false same = refl

all_begun_alike : (ts ts' : List Target) → AllAlike ts ts' → map begun ts ≡ map begun ts'
all_begun_alike [] [] a = refl
all_begun_alike [] (t ∷ ts) a = absurd a
all_begun_alike (t ∷ ts) [] a = absurd a
all_begun_alike (t ∷ ts) (t' ∷ ts') a = let e = begun_alike t t' a.0 in let es = all_begun_alike ts ts' a.1 in cc

-- all from the code and the entries that it begins with
from_entries : Program → List Entry → WorkedOut
from_entries code es = sweeping code (73 * length es + 1) 0 es

worked_from : (p : Program) → worked_out p ≡ from_entries (code_of p) (map begun p.targets)
unfolding worked_out from_entries
worked_from p = rw (length-map p.targets begun)

module _ (p p' : Program) (layouts : p.layout ≡ p'.layout) (codes : p.code ≡ p'.code) where
  same_code : code_of p ≡ code_of p'
  same_code = cc

  same_begun : map begun p.targets ≡ map begun p'.targets → worked_out p ≡ worked_out p'
  same_begun begins =
      worked_from p
      ∙ ap (from_entries (code_of p)) begins
      ∙ ap (λ (code : Program). from_entries code (map begun p'.targets)) same_code
      ∙ sym (worked_from p')

  -- it depends on the layout, the code, the indexes and kinds of the targets, and the indirect ones' claims only
  pub ignores_inner : AllAlike p.targets p'.targets → worked_out p ≡ worked_out p'
  ignores_inner alike = same_begun (all_begun_alike p.targets p'.targets alike)

-- ---- once more

-- an entry's target, to begin with again
abbrev again : Entry → Entry
again e = begun (finished e)

-- some entries begin again as others do
abbrev AgainAs : List Entry → List Entry → Type 0
AgainAs es es' = map again es' ≡ map again es

-- an inner entry begins again as it began, whatever its claim
again_inner : (i : ℕ) (b : Bool) (c c' : Ranges) → b ≡ false → fresh i b (cond b (Some c) None) ≡ fresh i b (cond b (Some c') None)
again_inner i b c c' inner = rw inner

again_reached : (e : Entry) (k : Ranges) → covers k e ≡ false → again (reached e e.claim k) ≡ again e
unfolding grow
again_reached e k outside = by_claim e.claim
  where
    inner : e.indirect ≡ false
    inner = (neither e.indirect _ outside).0

    by_claim : (claim : Option Ranges) → again (reached e claim k) ≡ again e
    by_claim None = again_inner e.index e.indirect k (unwrap_or e.claim unknown) inner
    by_claim (Some claim) = again_inner e.index e.indirect _ (unwrap_or e.claim unknown) inner

again_reach_at : (es : List Entry) (to : ℕ) (k : Ranges) → all_of (entry_at es to) (covers k) ≡ false → AgainAs es (reach_at es to k)
unfolding entry_at reach_at
again_reach_at [] to k outside = refl
again_reach_at (e ∷ es) to k outside = by_index (eqb e.index to) refl (λ out. again_reach_at es to k out)
  where
    by_index : (t : Bool) → eqb e.index to ≡ t
        → (all_of (entry_at es to) (covers k) ≡ false → AgainAs es (reach_at es to k)) → AgainAs (e ∷ es) (reach_at (e ∷ es) to k)
    by_index true same rest =
        rw (same, reach_at) (ap (λ (x : Entry). x ∷ map again es) (again_reached e k (rw (same, entry_at) at outside)))
    by_index false other rest =
        rw (other, reach_at) (ap (λ (xs : List Entry). again e ∷ xs) (rest (rw (other, entry_at) at outside)))

again_arrive : (to : ℕ) (k : Ranges) (t : Table) → AgainAs t.entries (arrive to k t).entries
unfolding arrive
again_arrive to k t = by_test (all_of (entry_at t.entries to) (covers k)) refl
  where
    by_test : (c : Bool) → all_of (entry_at t.entries to) (covers k) ≡ c → AgainAs t.entries (arrive to k t).entries
    by_test true e = rw (e, arrive)
    by_test false e = rw (e, arrive) (again_reach_at t.entries to k e)

again_taken : (p : Program) (i : ℕ) (k : Ranges) (to : Option ℕ) (t : Table) → AgainAs t.entries (along_taken p i k to t).entries
again_taken p i k None t = refl
again_taken p i k (Some to) t = again_arrive to _ t

again_next : (p : Program) (i : ℕ) (k : Ranges) (falls : Bool) (t : Table)
    → AgainAs t.entries (along_next p i k falls t).table.entries
again_next p i k false t = refl
again_next p i k true t = again_arrive (i + 1) _ t

again_visit : (p : Program) (i : ℕ) (k : Option Ranges) (t : Table) → AgainAs t.entries (visit p i k t).table.entries
unfolding visit
again_visit p i None t = refl
again_visit p i (Some k) t =
    again_next p i k (traits_at p i).falls (along_taken p i k (traits_at p i).names t) ∙ again_taken p i k (traits_at p i).names t

again_sweep : (p : Program) (es : List Entry) (i : ℕ) → AgainAs es (sweep p es i).table.entries
unfolding sweep
again_sweep p es zero = refl
again_sweep p es (suc i) = again_visit p i _ (sweep p es i).table ∙ again_sweep p es i

again_counted : (es : List Entry) → AgainAs es (map counted es)
unfolding counted
again_counted es = map-map again counted es

again_given : (es : List Entry) → IfThere (AgainAs es) (given es)
unfolding given
again_given [] = tt
again_given (e ∷ es) = by_claim e.claim refl (given es) (again_given es)
  where
    by_claim : (claim : Option Ranges) → e.claim ≡ claim → (later : Option (List Entry)) → IfThere (AgainAs es) later
        → IfThere (AgainAs (e ∷ es)) (given_or e es claim later)
    by_claim None is later rest =
        ap (λ (c : Option Ranges). fresh e.index e.indirect (cond e.indirect (Some (unwrap_or c unknown)) None) ∷ map again es) (sym is)
    by_claim (Some claim) is None rest = tt
    by_claim (Some claim) is (Some es') rest = ap (λ (xs : List Entry). again e ∷ xs) rest

again_following : (p : Program) (es : List Entry) → IfThere (AgainAs es) (following p es)
unfolding following
again_following p es = by_change (swept p es).changed refl
  where
    by_change : (changed : Bool) → (swept p es).changed ≡ changed → IfThere (AgainAs es) (following p es)
    by_change true e = rw (e, following) (again_counted (swept p es).entries ∙ again_sweep p es (length p.code))
    by_change false e = rw (e, following) (again_given es)

again_sweeping : (p : Program) (most made : ℕ) (es : List Entry) → AgainAs es (sweeping p most made es).entries
unfolding sweeping
again_sweeping p zero made es = refl
again_sweeping p (suc most) made es =
    rw (sweeping_goes_on p most made es)
    (by_next (following p es) (again_following p es) (λ es'. again_sweeping p most (suc made) es'))
  where
    by_next : (next : Option (List Entry)) → IfThere (AgainAs es) next
        → ((es' : List Entry) → AgainAs es' (sweeping p most (suc made) es').entries) → AgainAs es (gone_on p most made es next).entries
    by_next None same rest = refl
    by_next (Some es') same rest = rest es' ∙ same

again_begun : (ts : List Target) → map again (map begun ts) ≡ map begun ts
again_begun [] = refl
again_begun (t ∷ ts) = let e = by_kind t.indirect in let es = again_begun ts in cc
  where
    by_kind : (b : Bool) → fresh t.index b (cond b (Some (unwrap_or (cond b (Some t.claim) None) unknown)) None)
        ≡ fresh t.index b (cond b (Some t.claim) None)
    by_kind true = refl
    by_kind false = refl

-- the targets begin again as they began: their indexes, their kinds and the indirect ones' claims are kept
pub begins_again : (p : Program) → map begun (with_claims p).targets ≡ map begun p.targets
unfolding with_claims worked_out
begins_again p =
    map-map begun finished (worked_out p).entries
    ∙ again_sweeping (code_of p) (most_sweeps p) 0 (map begun p.targets)
    ∙ again_begun p.targets
