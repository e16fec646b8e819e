-- The known outcomes that are proved, P1 to P12 and those of document 02's tickets: what the definitions give, and what the documents
-- say. The claims that the two agree in every row are `KnownOutcomes` and `KnownRequests` in Promises. Assumes nothing.
use Rattle.std.specs.Prelude.{ℕ, zero, suc, ◌+◌, ◌-◌, true, false, List, [], ◌∷◌, ◌++◌, map, ℤ, pos, negsuc, get_or, replicate, Option, None, Some}
use Rattle.std.proofs.Math.IntN.{suc_ℤ, pred_ℤ}
use Rattle.model.specs.declared.Ending.{Ending}
use Rattle.model.specs.declared.Instruction.{Instruction}
use Rattle.model.specs.declared.Instruction.TheVariants.{Halt, Set, Addi, Guard, Sar, Load, Jump, Branch}
use Rattle.model.specs.declared.Layout.{Layout}
use Rattle.model.specs.declared.Limits.{Limits}
use Rattle.model.specs.declared.LoadWidth.{LoadWidth}
use Rattle.model.specs.declared.LoadWidth.TheVariants.{Unsigned, SignedOne, SignedTwo}
use Rattle.model.specs.declared.Machine.{Machine}
use Rattle.model.specs.declared.Range.{Range}
use Rattle.model.specs.declared.Ranges.{Ranges}
use Rattle.model.specs.declared.Target.{Target}
use Rattle.model.specs.declared.Test.TheVariants.{Below}
use Rattle.model.specs.declared.Width.TheVariants.{One, Two, Four}
use Rattle.model.specs.Quantifiers.{all_below}
use Rattle.model.specs.Words.{top, wrap, signed, signed_from, arithmetic_shift, read_bytes}
use Rattle.model.specs.Obligations.{Fault, first_fault, each_from}
use Rattle.model.specs.Answers.{ending_number, Judgement, accepted, refused}
use Rattle.model.specs.Ranges.{range, anything, low, high, put, unknown, region_range, rule_w, guard_range, sar_range, cut, between, cut_both, rule_b, lies_within}
use Rattle.model.specs.Program.{Program, target_at}
use Rattle.model.specs.Instructions.{bytes_of, carried, guarded, Access, shape, traits, rule_n, after_next, after_taken}
use Rattle.model.specs.Step.{in_region, in_zones, accessing, effect, addresses_from, settle, step_of, step}
use Rattle.model.specs.File.{is_listed, field, rows, decode, tabulate, field_value, readable_by, program_of}
use Rattle.model.specs.Limits.{box_limits, plate_limits, limit_rules, loadable_by}
use Rattle.model.specs.Judgement.{known_at, is_reachable, is_checked, is_contained, access_contained, jumps_to_target, stays_inside, taken_kept, next_kept, before_next, at_index, verified, obligations, first_broken, judgement}
use Rattle.model.specs.Run.{run, steps}

-- a row: the outcome's number, what the definitions give, and what the document says
pub record Row : Type 0 where
  pub number : ℕ
  pub given : List ℕ
  pub expected : List ℕ

abbrev pub row : ℕ → List ℕ → List ℕ → Row
row n g e = record { number = n; given = g; expected = e }

-- "Base 20000000 hex, size 4,096, guard 256 unless said."
abbrev pub layout : Layout
layout = record { base = 0x2000_0000; size = 4096; guard = 256 }

-- the one target that a module must have
abbrev pub entry : Target
entry = record { index = 0; indirect = true; claim = unknown }

-- a module of one instruction and a halt
abbrev pub only : Layout → Instruction → Program
only l i = record { layout = l; code = i ∷ Halt ∷ []; targets = entry ∷ [] }

-- a machine with x in r0 and r1, and a region of zeros
abbrev pub holding : ℕ → Machine
holding x = record { registers = x ∷ x ∷ 0 ∷ 0 ∷ 0 ∷ 0 ∷ 0 ∷ 0 ∷ []; pc = 0 }

abbrev pub zeros : List ℕ
zeros = replicate 4096 0

-- how a step ended, as a number; `running` where the run could go on
abbrev pub ending_or : ℕ → Option Ending → ℕ
ending_or n None = n
ending_or n (Some e) = ending_number e

abbrev pub running : ℕ
running = 9

abbrev pub trapped : ℕ
trapped = 1

abbrev pub strayed : ℕ
strayed = 3

abbrev pub spent : ℕ
spent = 4

-- one step from r0 = r1 = x: r0 after it, and how it ended
unfoldable pub stepped_in : Layout → Instruction → ℕ → List ℕ
unfolding step step_of settle effect accessing carried shape guarded wrap in_region in_zones read_bytes addresses_from target_at ending_number
stepped_in l i x = let s = step (only l i) (holding x) zeros in get_or s.machine.registers 0 0 ∷ ending_or running s.ending ∷ []

abbrev pub stepped : Instruction → ℕ → List ℕ
stepped = stepped_in layout

-- r0's and r1's ranges
abbrev pub knowing : Range → Range → Ranges
knowing x y = put (put unknown 0 x) 1 y

abbrev pub shown : Ranges → List ℕ
shown k = low k 0 ∷ high k 0 ∷ low k 1 ∷ high k 1 ∷ []

-- their ranges after an instruction: on the way to the next index, and along the taken edge
unfoldable pub next_in : Layout → Instruction → Range → Range → List ℕ
unfolding after_next shape rule_w sar_range arithmetic_shift signed wrap rule_n cut between rule_b cut_both
next_in l i x y = shown (after_next (region_range l) (shape i) (knowing x y))

abbrev pub next : Instruction → Range → Range → List ℕ
next = next_in layout

unfoldable pub taken : Instruction → Range → Range → List ℕ
unfolding after_taken shape rule_b cut_both
taken i x y = shown (after_taken (shape i) (knowing x y))

-- the judgement of code and of the targets after the first: 0 where it is kept, or the refusal's number and place
abbrev pub fault_told : Option Fault → List ℕ
fault_told None = 0 ∷ []
fault_told (Some f) = f.number ∷ f.place ∷ []

unfoldable pub judged : List Instruction → List Target → List ℕ
unfolding all_below verified each_from first_fault at_index before_next is_reachable is_checked access_contained is_contained jumps_to_target stays_inside taken_kept next_kept lies_within known_at target_at shape after_next after_taken rule_n rule_w guard_range cut between
judged code targets = fault_told (first_fault (verified (record { layout = layout; code = code; targets = entry ∷ targets })))

-- of a load through r1, which a guard has put in DB to DL
abbrev pub accessed : LoadWidth → ℤ → List ℕ
accessed v imm = judged (Guard 1 ∷ Load 0 1 v imm ∷ Halt ∷ []) []

-- at a displacement, and at the next one above or below
abbrev pub and_above : LoadWidth → ℤ → List ℕ
and_above v imm = accessed v imm ++ accessed v (suc_ℤ imm)

abbrev pub and_below : LoadWidth → ℤ → List ℕ
and_below v imm = accessed v imm ++ accessed v (pred_ℤ imm)

abbrev pub load : LoadWidth → Instruction
load v = Load 0 1 v (pos 0)

-- a run of no steps: its ending and its count
unfoldable pub ran : ℕ → List ℕ
unfolding run ending_number
ran budget = let r = run (only layout Halt) budget (holding 0) zeros in ending_number r.ending ∷ steps r ∷ []

-- a judgement: 0 and the counts, or the refusal's number and place
abbrev pub verdict_told : Judgement → List ℕ
verdict_told (accepted n k) = 0 ∷ n ∷ k ∷ []
verdict_told (refused f) = f.number ∷ f.place ∷ []

unfoldable pub verdict_on : List ℕ → List ℕ
unfolding judgement first_broken obligations loadable_by readable_by verified program_of field_value is_listed field tabulate each_from first_fault read_bytes
verdict_on file = verdict_told (judgement box_limits file)

abbrev pub below : Instruction
below = Branch 0 1 Below 0

unfoldable pub table : List Row
unfolding stepped_in next_in taken judged ran verdict_on
table =
    row 1 (stepped (Guard 0) 0) (0x2000_0000 ∷ running ∷ [])
    ∷ row 2 (stepped (Guard 0) 0xFFFF_FFFF) (0x2000_0FFF ∷ running ∷ [])
    ∷ row 3 (next (Addi 0 (pos 16)) (range 0xFFFF_FFF0 top) (range 0 top)) (0 ∷ 15 ∷ 0 ∷ top ∷ [])
    ∷ row 4 (next (Addi 0 (pos 8)) (range 0xFFFF_FFF0 top) (range 0 top)) (0 ∷ top ∷ 0 ∷ top ∷ [])
    ∷ row 5 (next (Sar 0 4) (range 0x8000_0000 top) (range 0 top)) (0xF800_0000 ∷ top ∷ 0 ∷ top ∷ [])
    ∷ row 6 (taken below (range 0 100) (range 10 10)) (0 ∷ 9 ∷ 10 ∷ 10 ∷ [])
    ∷ row 6 (next below (range 0 100) (range 10 10)) (10 ∷ 100 ∷ 10 ∷ 10 ∷ [])
    ∷ row 7 (taken below (range 10 20) (range 5 5)) (10 ∷ 20 ∷ 5 ∷ 5 ∷ [])
    ∷ row 8 (and_above (Unsigned Four) (pos 253)) (0 ∷ 10 ∷ 1 ∷ [])
    ∷ row 8 (and_below (Unsigned Four) (negsuc 255)) (0 ∷ 10 ∷ 1 ∷ [])
    ∷ row 9 (let at : ℕ = 0x2000_0FFC in stepped (load (Unsigned Four)) at ++ stepped (load (Unsigned Four)) (at + 1)) (0 ∷ running ∷ 0x2000_0FFD ∷ trapped ∷ [])
    ∷ row 10 (let at : ℕ = 0x1FFF_FF00 in stepped (load (Unsigned One)) at ++ stepped (load (Unsigned One)) (at - 1))
    (0x1FFF_FF00 ∷ trapped ∷ 0x1FFF_FEFF ∷ strayed ∷ [])
    ∷ row 11 (ran 0) (spent ∷ 0 ∷ [])
    ∷ row 12 (verdict_on []) (1 ∷ 0 ∷ [])
    ∷ []

-- ---- document 02: each row has its ticket's number

-- a direct target, and what it claims of r1 and of r2
abbrev pub claiming : ℕ → Range → Range → Target
claiming i x y = record { index = i; indirect = false; claim = put (put unknown 1 x) 2 y }

-- the region's first and last address
abbrev pub DB : ℕ
DB = (region_range layout).low

abbrev pub DL : ℕ
DL = (region_range layout).high

-- "loads the left sample at imm 0 and the right one at imm 2", and again, four bytes further
abbrev pub stereo : List ℕ
stereo =
    judged (Guard 1 ∷ Load 0 1 (Unsigned Two) (pos 0) ∷ Load 2 1 (Unsigned Two) (pos 2) ∷ Addi 1 (pos 4) ∷ Jump 1 ∷ [])
    (claiming 1 (range DB (DL + 1)) anything ∷ [])

-- "Pointers that are only ever used with imm other than 0"
abbrev pub only_right : List ℕ
only_right = judged (Guard 1 ∷ Load 0 1 (Unsigned Two) (pos 2) ∷ Addi 1 (pos 4) ∷ Jump 1 ∷ []) (claiming 1 (range DB (DL + 4)) anything ∷ [])

-- "a module can also turn to refused where a cut is now empty and so not made": a cut of rule N, and one of rule B
abbrev pub empty_by_n : List ℕ
empty_by_n =
    judged (Set 1 (DL - 1) ∷ Load 0 1 (Unsigned Four) (pos 0) ∷ Halt ∷ [])
    (claiming 1 (range (DL - 1) (DL + 100)) anything ∷ claiming 2 (range (DL - 1) DL) anything ∷ [])

abbrev pub empty_by_b : List ℕ
empty_by_b =
    judged (Set 1 DL ∷ Set 2 DL ∷ Load 0 1 (Unsigned One) (pos 1) ∷ Branch 1 2 Below 0 ∷ Halt ∷ [])
    (claiming 2 (range (DL - 5) (DL + 50)) (range DL (DL + 1)) ∷ claiming 4 (range DL (DL + 50)) anything ∷ [])

-- an access that breaks 10, in a region that ends at the last address: from r1 = 0 its wrapped address lies in the region, so that it
-- is done; by exact sums r1 is FFFFF010 hex at least. So ranges are right "only where the access keeps 10".
abbrev pub highest : Layout
highest = record { base = 0xFFFF_F000; size = 4096; guard = 0 }

abbrev pub wrapping : Instruction
wrapping = Load 0 1 (Unsigned Four) (negsuc 15)

-- ticket 2: what a load makes of the numbers that it reads
unfoldable pub carried_of : LoadWidth → List ℕ → List ℕ
unfolding carried signed_from wrap
carried_of v raws = map (carried v) raws

-- each w that rule 6 lets an opcode have, with r0 and r1, and how many bytes the access then has
abbrev pub bytes_told : ℕ → Option Instruction → List ℕ
bytes_told w None = []
bytes_told w (Some i) = access_told (traits (shape i)).access
  where
    access_told : Option Access → List ℕ
    access_told None = []
    access_told (Some ac) = w ∷ bytes_of ac.width ∷ []

unfoldable pub widths_below : ℕ → ℕ → List ℕ
unfolding decode rows shape
widths_below zero op = []
widths_below (suc w) op = widths_below w op ++ bytes_told w (decode op 0 1 w 0)

-- ticket 8: of so many instructions and targets
unfoldable pub over : Limits → ℕ → ℕ → List ℕ
unfolding limit_rules first_fault
over limits n k = fault_told (first_fault (limit_rules limits n k))

unfoldable pub requests : List Row
unfolding stepped_in next_in judged carried_of widths_below over
requests =
    row 1 stereo (0 ∷ [])
    ∷ row 1 only_right (0 ∷ [])
    ∷ row 1 empty_by_n (11 ∷ 1 ∷ [])
    ∷ row 1 empty_by_b (11 ∷ 3 ∷ [])
    ∷ row 1 (stepped_in highest wrapping 0) (0 ∷ running ∷ [])
    ∷ row 1 (next_in highest wrapping anything anything) (0 ∷ top ∷ 0xFFFF_F010 ∷ top ∷ [])
    ∷ row 2 (carried_of SignedOne (0 ∷ 0x7F ∷ 0x80 ∷ 0xFF ∷ [])) (0 ∷ 0x7F ∷ 0xFFFF_FF80 ∷ 0xFFFF_FFFF ∷ [])
    ∷ row 2 (carried_of SignedTwo (0 ∷ 0x7FFF ∷ 0x8000 ∷ 0xFFFF ∷ [])) (0 ∷ 0x7FFF ∷ 0xFFFF_8000 ∷ 0xFFFF_FFFF ∷ [])
    ∷ row 2 (widths_below 256 10) (1 ∷ 1 ∷ 2 ∷ 2 ∷ 4 ∷ 4 ∷ 129 ∷ 1 ∷ 130 ∷ 2 ∷ [])
    ∷ row 2 (widths_below 256 11) (1 ∷ 1 ∷ 2 ∷ 2 ∷ 4 ∷ 4 ∷ [])
    ∷ row 2 (next (load SignedOne) anything anything) (0 ∷ top ∷ DB ∷ DL ∷ [])
    ∷ row 2 (next (load SignedTwo) anything anything) (0 ∷ top ∷ DB ∷ (DL - 1) ∷ [])
    ∷ row 2 (and_above SignedOne (pos 256)) (0 ∷ 10 ∷ 1 ∷ [])
    ∷ row 2 (and_above SignedTwo (pos 255)) (0 ∷ 10 ∷ 1 ∷ [])
    ∷ row 8 (over plate_limits 512 32) (0 ∷ [])
    ∷ row 8 (over plate_limits 513 32 ++ over plate_limits 512 33) (17 ∷ 0 ∷ 17 ∷ 0 ∷ [])
    ∷ row 8 (over box_limits 513 32 ++ over box_limits 512 33) (0 ∷ 0 ∷ [])
    ∷ row 8 (over box_limits 4096 256) (0 ∷ [])
    ∷ []

-- the outcomes' numbers, in order
unfoldable pub numbers : List Row → List ℕ
numbers [] = []
numbers (r ∷ rs) = r.number ∷ numbers rs
