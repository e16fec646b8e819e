-- Document 02, ticket 3, "Work out the claims for us": sweep after sweep over the code, and what is answered of a file.
-- Assumes nothing.
use Rattle.std.specs.Prelude.{ℕ, zero, suc, ◌+◌, ◌*◌, min, max, Bool, true, false, cond, not, ◌&&◌, ◌||◌, List, [], ◌∷◌, ◌++◌, map, leb, ltb, eqb, length, get_or, replicate, take, drop, option_map, unwrap_or, Option, None, Some}
use Rattle.model.specs.declared.Limits.{Limits}
use Rattle.model.specs.declared.Range.{Range}
use Rattle.model.specs.declared.Ranges.{Ranges}
use Rattle.model.specs.declared.Target.{Target}
use Rattle.model.specs.Quantifiers.{all_of, any_of}
use Rattle.model.specs.Words.{write_bytes}
use Rattle.model.specs.Obligations.{Fault, first_fault}
use Rattle.model.specs.Answers.{Judgement, accepted, refused}
use Rattle.model.specs.Ranges.{range, low, high, anything, range_of, unknown, region_range, lies_within}
use Rattle.model.specs.Program.{Program}
use Rattle.model.specs.Instructions.{after_next, after_taken}
use Rattle.model.specs.Step.{shape_at}
use Rattle.model.specs.File.{tabulate, value_at, targets_at, target_start, program_in}
use Rattle.model.specs.Limits.{sweepable}
use Rattle.model.specs.Judgement.{traits_at, starting_ranges, judgement}

-- ---- the targets (doors), while their claims are worked out

-- a target: its claim, if it is reached, and of each register in how many earlier sweeps it has grown and whether it has in this one
pub record Entry : Type 0 where
  pub index : ℕ
  pub indirect : Bool
  pub claim : Option Ranges
  pub grown : List ℕ
  pub grows : List Bool

abbrev pub entry : ℕ → Bool → Option Ranges → List ℕ → List Bool → Entry
entry i indirect claim grown grows = record { index = i; indirect = indirect; claim = claim; grown = grown; grows = grows }

-- one that has not grown
abbrev pub fresh : ℕ → Bool → Option Ranges → Entry
fresh i indirect claim = entry i indirect claim (replicate 8 0) (replicate 8 false)

-- "Open doors are reached with their fixed claim; inner ones begin unreached.": the claims of inner ones are ignored
abbrev pub begun : Target → Entry
begun t = fresh t.index t.indirect (cond t.indirect (Some t.claim) None)

-- the target at the end, when all are reached
abbrev pub finished : Entry → Target
finished e = record { index = e.index; indirect = e.indirect; claim = unwrap_or e.claim unknown }

unfoldable pub entry_at : List Entry → ℕ → Option Entry
entry_at [] i = None
entry_at (e ∷ es) i = elim (eqb e.index i) [ true ↦ Some e | false ↦ entry_at es i ]

-- ---- an edge: "widens the inner door at the end of each edge to the smallest covering range, at once"

abbrev pub within : Range → Range → Bool
within x claim = leb claim.low x.low && leb x.high claim.high

abbrev pub covering : Range → Range → Range
covering x y = range (min x.low y.low) (max x.high y.high)

-- "A register of a door that has grown in eight sweeps becomes anything in the ninth in which it grows"
unfoldable pub widened : ℕ → Range → Range → Range
widened grown claim x = cond (within x claim) claim (cond (ltb grown 8) (covering claim x) anything)

unfoldable pub grow : Entry → Ranges → Ranges → Entry
grow e claim k =
    let after : ℕ → Range = λ r. widened (get_or e.grown r 0) (range_of claim r) (range_of k r) in
    entry e.index e.indirect
    (Some (record { lows = tabulate 0 8 (λ r. (after r).low); highs = tabulate 0 8 (λ r. (after r).high) }))
    e.grown
    (tabulate 0 8 (λ r. get_or e.grows r false || not (within (range_of k r) (range_of claim r))))

-- "the first reaching of its door is no growth, but a later widening in that same sweep is"
abbrev pub reached : Entry → Option Ranges → Ranges → Entry
reached e None k = fresh e.index e.indirect (Some k)
reached e (Some claim) k = grow e claim k

unfoldable pub reach_at : List Entry → ℕ → Ranges → List Entry
reach_at [] to k = []
reach_at (e ∷ es) to k = elim (eqb e.index to) [ true ↦ reached e e.claim k ∷ es | false ↦ e ∷ reach_at es to k ]

-- nothing is to be widened: an open door's claim is fixed, and an inner one's covers the ranges already
abbrev pub covers : Ranges → Entry → Bool
covers k e = e.indirect || any_of e.claim (lies_within k)

-- the entries in a sweep, and whether it has changed any
pub record Table : Type 0 where
  pub entries : List Entry
  pub changed : Bool

-- the ranges of an edge arrive at its end; "Edges to what is no door are passed over"
unfoldable pub arrive : ℕ → Ranges → Table → Table
arrive to k t =
    elim (all_of (entry_at t.entries to) (covers k)) [ true ↦ t | false ↦ record { entries = reach_at t.entries to k; changed = true } ]

-- ---- a sweep: "Each sweep goes upward through the code"

-- what is known before an index, where anything is, and the entries then
pub record Sweep : Type 0 where
  pub known : Option Ranges
  pub table : Table

-- "At a door it takes the claim."; none is at an unreached one
abbrev pub claim_else : Option Ranges → Option Entry → Option Ranges
claim_else k None = k
claim_else k (Some e) = e.claim

-- "A branch's taken edge comes before its next one. The verifier's rules N and B apply."
abbrev pub along_taken : Program → ℕ → Ranges → Option ℕ → Table → Table
along_taken p i k None t = t
along_taken p i k (Some to) t = arrive to (after_taken (shape_at p i) k) t

abbrev pub along_next : Program → ℕ → Ranges → Bool → Table → Sweep
along_next p i k false t = record { known = None; table = t }
along_next p i k true t =
    let next = after_next (region_range p.layout) (shape_at p i) k in record { known = Some next; table = arrive (i + 1) next t }

-- passed over are "instructions with no way in or behind an unreached door"
unfoldable pub visit : Program → ℕ → Option Ranges → Table → Sweep
visit p i None t = record { known = None; table = t }
visit p i (Some k) t = along_next p i k (traits_at p i).falls (along_taken p i k (traits_at p i).names t)

-- the sweep over the first i instructions, "starting with anything"
unfoldable pub sweep : Program → List Entry → ℕ → Sweep
sweep p es zero = record { known = Some starting_ranges; table = record { entries = es; changed = false } }
sweep p es (suc i) =
    let before = sweep p es i in
    visit p i (claim_else before.known (entry_at before.table.entries i)) before.table

abbrev pub swept : Program → List Entry → Table
swept p es = (sweep p es (length p.code)).table

-- ---- sweep after sweep

abbrev pub bit : Bool → ℕ
bit true = 1
bit false = 0

-- in how many sweeps a register has grown, this one included
abbrev pub growth : Entry → ℕ → ℕ
growth e r = get_or e.grown r 0 + bit (get_or e.grows r false)

-- an entry when its sweep is over
unfoldable pub counted : Entry → Entry
counted e = entry e.index e.indirect e.claim (tabulate 0 8 (growth e)) (replicate 8 false)

-- "the lowest unreached door is given anything"; none where none is left
abbrev pub given_or : Entry → List Entry → Option Ranges → Option (List Entry) → Option (List Entry)
given_or e es None later = Some (fresh e.index e.indirect (Some unknown) ∷ es)
given_or e es (Some claim) later = option_map (λ (es' : List Entry). e ∷ es') later

unfoldable pub given : List Entry → Option (List Entry)
given [] = None
given (e ∷ es) = given_or e es e.claim (given es)

-- the entries at the end, and the sweeps made
pub record WorkedOut : Type 0 where
  pub entries : List Entry
  pub sweeps : ℕ

-- "When a sweep changes nothing, the lowest unreached door is given anything and sweeping goes on; with none left it ends.":
-- at most the given number of sweeps, after those already made
unfoldable pub sweeping : Program → ℕ → ℕ → List Entry → WorkedOut
sweeping p zero made es = record { entries = es; sweeps = made }
sweeping p (suc most) made es = elim (swept p es).changed [
  | true ↦ sweeping p most (suc made) (map counted (swept p es).entries)
  | false ↦ elim (given es) [
    | None ↦ record { entries = es; sweeps = suc made }
    | Some es' ↦ sweeping p most (suc made) es'
  ]
]

-- so many are never too few (`SweepsEnd` in Promises)
abbrev pub most_sweeps : Program → ℕ
most_sweeps p = 73 * length p.targets + 1

-- the sweeps look at the code and the entries only
abbrev pub code_of : Program → Program
code_of p = record { layout = p.layout; code = p.code; targets = [] }

unfoldable pub worked_out : Program → WorkedOut
worked_out p = sweeping (code_of p) (most_sweeps p) 0 (map begun p.targets)

-- the module with its claims worked out
unfoldable pub with_claims : Program → Program
with_claims p = record { layout = p.layout; code = p.code; targets = map finished (worked_out p).entries }

-- ---- the file: "writes new ones over them"

-- the first n ranges of a claim, over the bytes of the target that starts at an offset
unfoldable pub write_ranges : ℕ → ℕ → Ranges → List ℕ → List ℕ
write_ranges zero at k bytes = bytes
write_ranges (suc n) at k bytes =
    write_bytes 4 (high k n) (write_bytes 4 (low k n) (write_ranges n at k bytes) (at + 4 + 8 * n)) (at + 8 + 8 * n)

-- over the inner doors' claims, in the targets' bytes, from the target of a number on
unfoldable pub write_claims : ℕ → List Target → List ℕ → List ℕ
write_claims j [] bytes = bytes
write_claims j (t ∷ ts) bytes = write_claims (suc j) ts (cond t.indirect bytes (write_ranges 8 (target_start j) t.claim bytes))

-- the file with other claims over those of its inner doors
unfoldable pub claimed : List Target → List ℕ → List ℕ
claimed ts file = let at = value_at (targets_at file) in take at file ++ write_claims 0 ts (drop at file)

-- a target with another claim, which is given by its index
abbrev pub reclaimed : (ℕ → Ranges) → Target → Target
reclaimed other t = record { index = t.index; indirect = t.indirect; claim = other t.index }

unfoldable pub finished_file : List ℕ → List ℕ
finished_file file = claimed (with_claims (program_in file)).targets file

-- what is answered, and the bytes afterwards
pub record Answered : Type 0 where
  pub judgement : Judgement
  pub bytes : List ℕ

-- "The verifier then judges the finished module, and its answer is the answer."; "a refusal leaves the bytes as they came"
abbrev pub judged_as : List ℕ → List ℕ → Judgement → Answered
judged_as file after (accepted n k) = record { judgement = accepted n k; bytes = after }
judged_as file after (refused f) = record { judgement = refused f; bytes = file }

abbrev pub after_sweeping : Limits → List ℕ → Option Fault → Answered
after_sweeping limits file None = judged_as file (finished_file file) (judgement limits (finished_file file))
after_sweeping limits file (Some f) = record { judgement = refused f; bytes = file }

unfoldable pub work_out : Limits → List ℕ → Answered
work_out limits file = after_sweeping limits file (first_fault (sweepable limits file))
