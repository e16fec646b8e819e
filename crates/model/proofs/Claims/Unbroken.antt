-- Document 02, ticket 3: "11 never occurs here". Where one more sweep changes nothing and every target is reached, what that sweep
-- knows at an index is what the verifier knows there, as long as 12 has not occurred; and no edge would widen a claim.
-- Assumes nothing.
use Prim.Native.Nat.{ℕ, zero, suc, ◌+◌, ◌≤◌, ◌<◌}
use mathlib.Core.Path.{◌≡◌, refl, sym, ap, ◌∙◌, subst}
use mathlib.Core.Bool.{Bool, true, false, not, ◌||◌, or-false}
use mathlib.Core.List.{List, [], ◌∷◌, map}
use Rattle.std.specs.Prelude.{option_map, unwrap_or, Option, None, Some}
use Rattle.std.proofs.lemmas.Option.{none-some, same_Some}
use native.Mathlib.Omega.{arith}
use native.Mathlib.Decide.{ℕ_discrete}
use lib.Dec.{eqb}
use lib.ListN.{length, get_or-replicate}
use Rattle.model.specs.declared.Ranges.{Ranges}
use Rattle.model.specs.declared.Target.{Target}
use Rattle.model.specs.Words.{top}
use Rattle.model.specs.Quantifiers.{all_of}
use Rattle.model.specs.Obligations.{Fault, fault, fault_unless, first_fault, each_from}
use Rattle.model.specs.Ranges.{low, high, unknown, region_range, lies_within}
use Rattle.model.specs.Program.{Program, target_at}
use Rattle.model.specs.Step.{shape_at}
use Rattle.model.specs.Judgement.{traits_at, starting_ranges, claim_or, known_at, next_ranges, taken_ranges, is_reachable, is_checked, access_contained, jumps_to_target, stays_inside, meets_claim, taken_kept, next_kept, before_next, at_index, verified}
use Rattle.model.specs.Claims.{Entry, finished, entry_at, covers, Table, claim_else, along_taken, along_next, visit, sweep, code_of, worked_out, with_claims}
use Rattle.model.proofs.Reflection.{all_below_reflects, and_reflects, le_reflects}
use Rattle.model.proofs.Claims.Each.{IfThere}
use Rattle.model.proofs.Claims.Bounds.{Bounded, bounded_next, bounded_taken}
use Rattle.model.proofs.Claims.Entries.{Good}
use Rattle.model.proofs.Claims.Tables.{found}
use Rattle.model.proofs.Claims.Sweeping.{ModestCode, claim_bounded, SweptTo, sweep_swept, Reached, Ended}
use Rattle.model.proofs.Claims.Ending.{Fit, code_modest, ends}
use Rattle.model.proofs.Claims.Still.{on_next, Covered, EdgesCovered, visit_still, start, here, still_before, still_same}

-- ---- what the verifier finds in the finished targets

targets_found : (es : List Entry) (i : ℕ) → target_at (map finished es) i ≡ option_map finished (entry_at es i)
unfolding target_at entry_at
targets_found [] i = refl
targets_found (e ∷ es) i = by_index (eqb e.index i) refl (targets_found es i)
  where
    by_index : (t : Bool) → eqb e.index i ≡ t → target_at (map finished es) i ≡ option_map finished (entry_at es i)
        → target_at (map finished (e ∷ es)) i ≡ option_map finished (entry_at (e ∷ es) i)
    by_index true same rest = rw (same, target_at, entry_at)
    by_index false other rest = rw (other, target_at, entry_at) rest

-- at an index both take the claim, or what is known along the edge to it
same_known : (k : Option Ranges) (k' : Ranges) (o : Option Entry) → IfThere Reached o → (o ≡ None → k ≡ Some k')
    → claim_else k o ≡ Some (claim_or k' (option_map finished o))
same_known k k' None r along = along refl
same_known k k' (Some e) r along = r.is ∙ ap (λ (c : Option Ranges). Some (unwrap_or c unknown)) (sym r.is)

-- an edge that would not widen a claim keeps it
within_unknown : (k : Ranges) → Bounded k → lies_within k unknown ≡ true
unfolding lies_within
within_unknown k b =
    (all_below_reflects 8 (λ r. and_reflects (le_reflects (low unknown r) (low k r)) (le_reflects (high k r) (high unknown r)))).1
    (λ r r8. (omega (arith, get_or-replicate {A = ℕ} 8 r 0 0 r8), omega (arith, get_or-replicate {A = ℕ} 8 r top 0 r8, b.small r)))

claim_kept : (k : Ranges) → Bounded k → (o : Option Entry) → IfThere Good o → IfThere Reached o → all_of o (covers k) ≡ true
    → all_of (option_map finished o) (λ t. lies_within k t.claim) ≡ true
claim_kept k b None g r c = refl
claim_kept k b (Some e) g r c = by_kind e.indirect refl
  where
    by_kind : (indirect : Bool) → e.indirect ≡ indirect → lies_within k (unwrap_or e.claim unknown) ≡ true
    by_kind true is = rw (g.fixed is) (within_unknown k b)
    by_kind false is = rw r.is (rw (is, r.is) at c)

-- ---- the finished module

-- the instructions up to an index have a way in
abbrev ReachableTo : Program → ℕ → Type 0
ReachableTo p i = (j : ℕ) → j ≤ i → is_reachable p j ≡ true

module _ (p : Program) (modest : ModestCode p) (es : List Entry) (end : Ended p es) where
  abbrev p' : Program
  p' = record { layout = p.layout; code = p.code; targets = map finished es }

  abbrev count : ℕ
  count = length p.code

  module _ (i : ℕ) (le : i ≤ count) where
    at_start : (sweep p es i).table ≡ start p es
    at_start = still_same p es i (still_before p es count i le end.unchanged)

    here_is : here p es i ≡ claim_else (sweep p es i).known (entry_at es i)
    here_is = ap (λ (t : Table). claim_else (sweep p es i).known (entry_at t.entries i)) at_start

    -- where nothing is reached but as the verifier wants it, the sweep knows what the verifier knows
    known_from : (k' : Ranges) → (entry_at es i ≡ None → (sweep p es i).known ≡ Some k')
        → here p es i ≡ Some (claim_or k' (target_at (map finished es) i))
    known_from k' along =
        here_is ∙ same_known (sweep p es i).known k' (entry_at es i) (found Reached es end.reached i) along
        ∙ ap (λ (o : Option Target). Some (claim_or k' o)) (sym (targets_found es i))

  -- where the sweep knows something and goes on, it knows what the verifier makes of it
  step_known : (i : ℕ) (k : Ranges) → here p es i ≡ Some k → (traits_at p i).falls ≡ true
      → (sweep p es (suc i)).known ≡ Some (on_next p i k)
  unfolding sweep visit
  step_known i k is falls =
      ap (λ (o : Option Ranges). (visit p i o (sweep p es i).table).known) is
      ∙ ap (λ (f : Bool). (along_next p i k f (along_taken p i k (traits_at p i).names (sweep p es i).table)).known) falls

  zero_known : (sweep p es 0).known ≡ Some starting_ranges
  unfolding sweep
  zero_known = refl

  -- a way in that is no target is a fall
  fell : (i : ℕ) → is_reachable p' (suc i) ≡ true → entry_at es (suc i) ≡ None → (traits_at p i).falls ≡ true
  unfolding is_reachable
  fell i reachable free =
      let no_target : target_at (map finished es) (suc i) ≡ None = targets_found es (suc i) ∙ rw free in
      sym (or-false (traits_at p i).falls) ∙ rw no_target at reachable

  known_is : (i : ℕ) → i ≤ count → ReachableTo p' i → here p es i ≡ Some (known_at p' i)
  unfolding known_at
  known_is zero le passed = known_from zero le starting_ranges (λ _. zero_known)
  known_is (suc i) le passed =
      let before : here p es i ≡ Some (known_at p' i) = known_is i (omega arith) (λ j h. passed j (omega arith)) in
      known_from (suc i) le (on_next p i (known_at p' i))
      (λ free. step_known i (known_at p' i) before (fell i (passed (suc i) (omega arith)) free))

  edges_covered : (i : ℕ) → i < count → IfThere (EdgesCovered p es i) (here p es i)
  unfolding sweep
  edges_covered i below =
      let still : (sweep p es (suc i)).table.changed ≡ false = still_before p es count (suc i) below end.unchanged in
      subst (λ (t : Table). IfThere (EdgesCovered p t.entries i) (here p es i)) (at_start i (omega arith))
      (visit_still p i (here p es i) (sweep p es i).table still).1

  here_bounded : (i : ℕ) → IfThere Bounded (here p es i)
  here_bounded i =
      let s : SweptTo es (sweep p es i) = sweep_swept p modest es end.clear end.good i in
      claim_bounded (sweep p es i).known s.known (entry_at (sweep p es i).table.entries i)
      (found Good (sweep p es i).table.entries s.table.good i)

  meets : (to : ℕ) (k : Ranges) → Bounded k → Covered es to k → meets_claim p' to k ≡ true
  meets to k b covered =
      rw (targets_found es to) (claim_kept k b (entry_at es to) (found Good es end.good to) (found Reached es end.reached to) covered)

  -- rule 11 at an index, if 12 has been kept so far
  kept : (i : ℕ) → i < count → ReachableTo p' i → (taken_kept p' i ≡ true) × (next_kept p' i ≡ true)
  unfolding taken_kept next_kept
  kept i below passed = (along_taken_lem (traits_at p i).names edges.taken, along_next_lem (traits_at p i).falls edges.next)
    where
      known : here p es i ≡ Some (known_at p' i)
      known = known_is i (omega arith) passed

      edges : EdgesCovered p es i (known_at p' i)
      edges = subst (IfThere (EdgesCovered p es i)) known (edges_covered i below)

      bounded : Bounded (known_at p' i)
      bounded = subst (IfThere Bounded) known (here_bounded i)

      along_taken_lem : (to : Option ℕ) → ((o : ℕ) → to ≡ Some o → Covered es o (taken_ranges p' i))
          → all_of to (λ o. meets_claim p' o (taken_ranges p' i)) ≡ true
      along_taken_lem None covered = refl
      along_taken_lem (Some to) covered = meets to (taken_ranges p' i) (bounded_taken (shape_at p i) bounded) (covered to refl)

      along_next_lem : (falls : Bool) → (falls ≡ true → Covered es (i + 1) (next_ranges p' i))
          → (not falls || meets_claim p' (i + 1) (next_ranges p' i)) ≡ true
      along_next_lem false covered = refl
      along_next_lem true covered =
          meets (i + 1) (next_ranges p' i) (bounded_next (region_range p.layout) (shape_at p i) (modest i) bounded) (covered refl)

-- ---- the answer

-- the answer is no refusal by 11
abbrev pub Unbroken : Option Fault → Type 0
Unbroken answer = (f : Fault) → answer ≡ Some f → f.number ≡ 11 → ⊥

pub other_rule : (number place : ℕ) (met : Bool) (later : Option Fault) → (number ≡ 11 → ⊥) → (met ≡ true → Unbroken later)
    → Unbroken (fault_unless met (fault number place) later)
other_rule number place true later other rest = rest refl
other_rule number place false later other rest = λ f e eleven.
    other (ap (λ (x : Fault). x.number) (same_Some (fault number place) f e) ∙ eleven)

module _ (p : Program) (keeps : (i : ℕ) → i < length p.code → ReachableTo p i → (taken_kept p i ≡ true) × (next_kept p i ≡ true)) where
  unbroken_from : (i m : ℕ) → i + m ≡ length p.code → ((j : ℕ) → j < i → is_reachable p j ≡ true)
      → Unbroken (first_fault (each_from i m (at_index p)))
  unfolding first_fault each_from at_index before_next
  unbroken_from i zero all passed = λ f e eleven. none-some f e
  unbroken_from i (suc m) all passed =
      other_rule 12 i (is_reachable p i) _ (omega arith)
      (λ reachable. other_rule 9 i (is_checked p i) _ (omega arith)
      (λ _. other_rule 10 i (access_contained p i) _ (omega arith)
      (λ _. other_rule 8 i (jumps_to_target p i) _ (omega arith)
      (λ _. other_rule 13 i (stays_inside p i) _ (omega arith)
      (λ _. eleven_met (up_to reachable) (unbroken_from (suc i) m (omega arith) (λ j h. up_to reachable j (omega arith))))))))
    where
      up_to : is_reachable p i ≡ true → ReachableTo p i
      up_to reachable j h = last_or_before (ℕ_discrete j i)
        where
          last_or_before : Dec (j ≡ i) → is_reachable p j ≡ true
          last_or_before (yes e) = rw e reachable
          last_or_before (no e) = passed j (omega arith)

      eleven_met : ReachableTo p i → Unbroken (first_fault (each_from (suc i) m (at_index p)))
          → Unbroken (fault_unless (taken_kept p i) (fault 11 i)
          (fault_unless (next_kept p i) (fault 11 i) (first_fault (each_from (suc i) m (at_index p)))))
      eleven_met reachable rest = let met = keeps i (omega arith) reachable in rw (met.0, met.1) rest

-- "11 never occurs here"
pub never_broken : (p : Program) → Fit p → Unbroken (first_fault (verified (with_claims p)))
unfolding verified with_claims
never_broken p fit =
    unbroken_from (with_claims p) (kept (code_of p) (code_modest p fit) (worked_out p).entries (ends p fit)) 0 (length p.code) (omega arith)
    (λ j h. absurd (omega arith))
