-- The first fault at an index: those before the edge to the next, then 11 on that edge. Assumes nothing.
use Prim.Native.Nat.{ℕ}
use mathlib.Core.Path.{◌≡◌, sym, ◌∙◌}
use mathlib.Core.Bool.{true, false}
use Rattle.std.specs.Prelude.{None, Some}
use mathlib.Core.List.{[], ◌∷◌}
use Rattle.model.specs.Obligations.{Fault, fault, owes, first_fault}
use Rattle.model.specs.Program.{Program}
use Rattle.model.specs.Judgement.{next_kept, before_next, at_index}
use Rattle.model.proofs.Faults.{append_faultless, append_faulty}

-- 11 on the edge to the next index, where nothing before it is broken
module _ (p : Program) (i : ℕ) (met : None ≡ first_fault (before_next p i)) where
  next_decides : first_fault (at_index p i) ≡ first_fault (owes 11 i (next_kept p i) ∷ [])
  unfolding at_index
  next_decides = append_faultless (before_next p i) _ (sym met)

  pub broken_next_claim : next_kept p i ≡ false → Some (fault 11 i) ≡ first_fault (at_index p i)
  unfolding first_fault
  broken_next_claim fails = sym (next_decides ∙ rw fails)

  pub next_claim_kept : next_kept p i ≡ true → first_fault (at_index p i) ≡ None
  unfolding first_fault
  next_claim_kept keeps = next_decides ∙ rw keeps

-- a fault before it is the index's
pub broken_before : (p : Program) (i : ℕ) (f : Fault) → Some f ≡ first_fault (before_next p i) → first_fault (at_index p i) ≡ Some f
unfolding at_index
broken_before p i f broken = append_faulty (before_next p i) _ f (sym broken)
