-- What is judged, in which order, and what the answer is: "the refusal names the first rule broken and where".
-- Everything that is judged, from a field's header to an edge's ranges, is an obligation; the lists of them, in File,
-- Judgement and Run, are document 01's order. Assumes nothing.
use Rattle.std.specs.Prelude.{ℕ, zero, suc, ◌≡◌, Bool, true, false, List, [], ◌∷◌, ◌++◌, Option, None, Some}

-- a refusal in document 01's terms: the number of its table, and the place
pub record Fault : Type 0 where
  pub number : ℕ
  pub place : ℕ

abbrev pub fault : ℕ → ℕ → Fault
fault number place = record { number = number; place = place }

-- what is judged: the fault it would be, and whether it is met
pub record Obligation : Type 0 where
  pub fault : Fault
  pub met : Bool

abbrev pub owes : ℕ → ℕ → Bool → Obligation
owes number place met = record { fault = fault number place; met = met }

-- the fault of the first obligation that is not met; none where all are met
abbrev pub fault_unless : Bool → Fault → Option Fault → Option Fault
fault_unless true f later = later
fault_unless false f later = Some f

unfoldable pub first_fault : List Obligation → Option Fault
first_fault [] = None
first_fault (o ∷ os) = let later = first_fault os in fault_unless o.met o.fault later

-- the obligations of f i, then of f (i + 1), and so on, for n indexes
unfoldable pub each_from : ℕ → ℕ → (ℕ → List Obligation) → List Obligation
each_from i zero f = []
each_from i (suc n) f = f i ++ each_from (suc i) n f

-- those of every index below n, upward
abbrev pub each : ℕ → (ℕ → List Obligation) → List Obligation
each n f = each_from 0 n f

-- every obligation of a list is met
abbrev pub AllMet : List Obligation → Type 0
AllMet [] = Unit {0}
AllMet (o ∷ os) = (o.met ≡ true) × AllMet os

-- the fault is that of an obligation that is not met, and everything judged earlier is met
pub record FirstUnmet (os : List Obligation) (f : Fault) : Type 0 where
  pub earlier : List Obligation
  pub unmet : Obligation
  pub later : List Obligation
  pub order : os ≡ earlier ++ (unmet ∷ later)
  pub passed : AllMet earlier
  pub fails : unmet.met ≡ false
  pub fault : unmet.fault ≡ f
