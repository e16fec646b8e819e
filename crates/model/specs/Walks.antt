-- Small walks: what the definition logs and leaves, and what document 01 says, entry by entry. The claim that the two agree in every
-- row is `KnownWalks` in Promises. Assumes nothing.
use Rattle.std.specs.Prelude.{ℕ, ◌+◌, true, false, List, [], ◌∷◌, ◌++◌, pos, get_or, replicate}
use Rattle.model.specs.declared.Instruction.{Instruction}
use Rattle.model.specs.declared.Instruction.TheVariants.{Halt, Load, Store, Jump, Branch, Check, Jumpr}
use Rattle.model.specs.declared.Layout.{Layout}
use Rattle.model.specs.declared.LoadWidth.{LoadWidth}
use Rattle.model.specs.declared.LoadWidth.TheVariants.{Unsigned, SignedOne, SignedTwo}
use Rattle.model.specs.declared.Machine.{Machine}
use Rattle.model.specs.declared.Target.{Target}
use Rattle.model.specs.declared.Test.TheVariants.{Equal}
use Rattle.model.specs.declared.Width.TheVariants.{Two, Four}
use Rattle.model.specs.Words.{wrap, signed_from, read_bytes, write_bytes}
use Rattle.model.specs.Answers.{ending_number, Report, ended, rejected}
use Rattle.model.specs.Ranges.{unknown}
use Rattle.model.specs.Program.{Program, target_at}
use Rattle.model.specs.Instructions.{carried, holds, shape}
use Rattle.model.specs.Step.{in_region, in_zones, accessing, effect, addresses_from, Landing, nowhere, named, via_register, Step, settle, step_of, step}
use Rattle.model.specs.Run.{run, splice}
use Rattle.model.specs.Walk.{Call, Walked, host_writes, walk_call, walk}
use Rattle.model.specs.Outcomes.{Row, row, running, ending_or, trapped, strayed, spent}

-- ---- what is walked: a region of 256 bytes with guard zones of 16, in a memory of 300 bytes that are all 9

abbrev pub layout : Layout
layout = record { base = 0x2000_0000; size = 256; guard = 16 }

-- a target at 0 that is indirect, and perhaps a direct one at 1
abbrev pub one : List Target
one = record { index = 0; indirect = true; claim = unknown } ∷ []

abbrev pub two : List Target
two = one ++ (record { index = 1; indirect = false; claim = unknown } ∷ [])

abbrev pub first : Instruction → List Target → Program
first i ts = record { layout = layout; code = i ∷ Halt ∷ []; targets = ts }

abbrev pub from : ℕ → ℕ → Machine
from r0 r1 = record { registers = r0 ∷ r1 ∷ 0 ∷ 0 ∷ 0 ∷ 0 ∷ 0 ∷ 0 ∷ []; pc = 0 }

abbrev pub nines : List ℕ
nines = replicate 300 9

-- a call at an offset with a budget, before which the host writes 1, 2, 3, 4 and zeros
abbrev pub at : ℕ → ℕ → Call
at offset budget = record { offset = offset; budget = budget; bytes = 1 ∷ 2 ∷ 3 ∷ 4 ∷ replicate 252 0 }

-- ---- what is told of a walk

-- the byte below offset 10, the four there, the last one of a region there, and the one above it
abbrev pub shown : List ℕ → List ℕ
shown memory =
    get_or memory 9 0 ∷ get_or memory 10 0 ∷ get_or memory 11 0 ∷ get_or memory 12 0 ∷ get_or memory 13 0 ∷ get_or memory 265 0 ∷ get_or memory 266 0 ∷ []

abbrev pub record_told : Machine → List ℕ
record_told m = get_or m.registers 0 0 ∷ get_or m.registers 1 0 ∷ m.pc ∷ []

abbrev pub landing_told : Landing → List ℕ
landing_told nowhere = 0 ∷ []
landing_told (named to) = 1 ∷ to ∷ []
landing_told (via_register to) = 2 ∷ to ∷ []

-- "the bytes it reaches for, the index it lands on, its ending if any, and the record after it", and the memory then
abbrev pub step_told : Call → List ℕ → Step → List ℕ
step_told c before s =
    s.reached ++ (landing_told s.landing
    ++ (ending_or running s.ending ∷ (record_told s.machine ++ shown (splice c.offset 256 before s.region))))

abbrev pub log_told : Call → List ℕ → List Step → List ℕ
log_told c before [] = []
log_told c before (s ∷ ss) = step_told c before s ++ log_told c before ss

abbrev pub report_told : Report → List ℕ
report_told (ended e steps) = ending_number e ∷ steps ∷ []
report_told (rejected f steps) = f.number ∷ f.place ∷ steps ∷ []

-- of each call: the answer, the record and memory after it, and its log
unfoldable pub told : List Walked → List ℕ
told [] = []
told (w ∷ ws) =
    report_told w.seen.report ++ (record_told w.seen.machine ++ (shown w.seen.memory
    ++ (log_told w.call w.before w.log ++ told ws)))

unfoldable pub walked : Program → Machine → List Call → List ℕ
unfolding told walk walk_call host_writes run step step_of settle effect accessing carried signed_from shape holds wrap in_region in_zones read_bytes write_bytes addresses_from target_at splice ending_number
walked p m calls = told (walk p m nines calls)

-- ---- what document 01 says

abbrev pub halted : ℕ
halted = 0

abbrev pub turned_away : ℕ
turned_away = 2

-- the memory: as at the start, and after the host's bytes
abbrev pub as_before : List ℕ
as_before = 9 ∷ 9 ∷ 9 ∷ 9 ∷ 9 ∷ 9 ∷ 9 ∷ []

abbrev pub as_written : List ℕ
as_written = 9 ∷ 1 ∷ 2 ∷ 3 ∷ 4 ∷ 0 ∷ 9 ∷ []

abbrev pub four : ℕ → List ℕ
four x = x ∷ (x + 1) ∷ (x + 2) ∷ (x + 3) ∷ []

-- one step: what it reaches for, where it lands, its ending, r0, r1 and the place after it, and the memory then
abbrev pub step_is : List ℕ → List ℕ → ℕ → ℕ → ℕ → ℕ → List ℕ → List ℕ
step_is reached landing ending r0 r1 place memory = reached ++ (landing ++ (ending ∷ r0 ∷ r1 ∷ place ∷ memory))

-- a call: its ending and count, r0, r1 and the place after it, the memory then, and its steps
abbrev pub call_is : ℕ → ℕ → ℕ → ℕ → ℕ → List ℕ → List ℕ → List ℕ
call_is ending count r0 r1 place memory steps = ending ∷ count ∷ r0 ∷ r1 ∷ place ∷ (memory ++ steps)

-- the halt at index 1 that follows a step
abbrev pub then_halts : ℕ → ℕ → List ℕ → List ℕ
then_halts r0 r1 memory = step_is [] (0 ∷ []) halted r0 r1 1 memory

-- a call of one step that is done, whatever it reaches for, and the halt behind it
abbrev pub done_then_halts : List ℕ → ℕ → ℕ → List ℕ → List ℕ
done_then_halts reached r0 r1 memory =
    call_is halted 2 r0 r1 1 memory (step_is reached (0 ∷ []) running r0 r1 1 memory ++ then_halts r0 r1 memory)

-- a call of one step that ends the run and changes nothing
abbrev pub ends_at_once : ℕ → List ℕ → List ℕ → ℕ → ℕ → List ℕ
ends_at_once ending reached landing r0 r1 =
    call_is ending 1 r0 r1 0 as_written (step_is reached landing ending r0 r1 0 as_written)

abbrev pub load_of : LoadWidth → Program
load_of v = first (Load 0 1 v (pos 0)) one

abbrev pub load : Program
load = load_of (Unsigned Four)

-- document 02, ticket 2: samples that the host has written
abbrev pub samples : Call
samples = record { offset = 10; budget = 9; bytes = 0x01 ∷ 0x80 ∷ 0xFF ∷ 0x7F ∷ replicate 252 0 }

abbrev pub as_sampled : List ℕ
as_sampled = 9 ∷ 0x01 ∷ 0x80 ∷ 0xFF ∷ 0x7F ∷ 0 ∷ 9 ∷ []

abbrev pub store : Program
store = first (Store 0 1 Two (pos 0)) one

unfoldable pub table : List Row
unfolding walked
table =
    -- a load that is done, one that is trapped, one that strays: "done or not" it reaches for its bytes
    row 1 (walked load (from 5 0x2000_0000) (at 10 9 ∷ []))
    (done_then_halts (four 0x2000_0000) 0x0403_0201 0x2000_0000 as_written)
    ∷ row 2 (walked load (from 5 0x2000_00FD) (at 10 9 ∷ []))
    (ends_at_once trapped (four 0x2000_00FD) (0 ∷ []) 5 0x2000_00FD)
    ∷ row 3 (walked load (from 5 0x2000_010D) (at 10 9 ∷ []))
    (ends_at_once strayed (four 0x2000_010D) (0 ∷ []) 5 0x2000_010D)
    -- a store: the memory at the end of each step
    ∷ row 4 (walked store (from 0x0D0C_0B0A 0x2000_0001) (at 10 9 ∷ []))
    (done_then_halts (0x2000_0001 ∷ 0x2000_0002 ∷ []) 0x0D0C_0B0A 0x2000_0001 (9 ∷ 1 ∷ 0x0A ∷ 0x0B ∷ 4 ∷ 0 ∷ 9 ∷ []))
    -- a jump that goes, and one that strays: it "lands on the index it goes to, even where it strays"
    ∷ row 5 (walked (first (Jump 1) two) (from 5 6) (at 10 9 ∷ []))
    (call_is halted 2 5 6 1 as_written (step_is [] (1 ∷ 1 ∷ []) running 5 6 1 as_written ++ then_halts 5 6 as_written))
    ∷ row 6 (walked (first (Jump 1) one) (from 5 6) (at 10 9 ∷ [])) (ends_at_once strayed [] (1 ∷ 1 ∷ []) 5 6)
    -- a taken branch that goes, one that strays, and one that is not taken
    ∷ row 7 (walked (first (Branch 0 1 Equal 1) two) (from 5 5) (at 10 9 ∷ []))
    (call_is halted 2 5 5 1 as_written (step_is [] (1 ∷ 1 ∷ []) running 5 5 1 as_written ++ then_halts 5 5 as_written))
    ∷ row 8 (walked (first (Branch 0 1 Equal 7) two) (from 5 5) (at 10 9 ∷ [])) (ends_at_once strayed [] (1 ∷ 7 ∷ []) 5 5)
    ∷ row 9 (walked (first (Branch 0 1 Equal 7) two) (from 5 6) (at 10 9 ∷ []))
    (done_then_halts [] 5 6 as_written)
    -- a jumpr that goes to an open door, and one that strays at an inner one; a check that turns away
    ∷ row 10 (walked (first (Jumpr 0) two) (from 0 6) (at 10 1 ∷ []))
    (call_is spent 1 0 6 0 as_written (step_is [] (2 ∷ 0 ∷ []) running 0 6 0 as_written))
    ∷ row 11 (walked (first (Jumpr 0) two) (from 1 6) (at 10 9 ∷ [])) (ends_at_once strayed [] (2 ∷ 1 ∷ []) 1 6)
    ∷ row 12 (walked (first (Check 0) two) (from 1 6) (at 10 9 ∷ [])) (ends_at_once turned_away [] (0 ∷ []) 1 6)
    -- a call that is refused: "15 at 0, 0 steps, nothing changed"; the largest offset that is not
    ∷ row 13 (walked load (from 5 6) (at 45 9 ∷ [])) (15 ∷ 0 ∷ 0 ∷ 5 ∷ 6 ∷ 0 ∷ as_before)
    ∷ row 14 (walked load (from 5 6) (at 44 0 ∷ [])) (call_is spent 0 5 6 0 (9 ∷ 9 ∷ 9 ∷ 9 ∷ 9 ∷ 0 ∷ 0 ∷ []) [])
    -- a call with budget 0: its bytes are written all the same
    ∷ row 15 (walked load (from 5 6) (at 10 0 ∷ [])) (call_is spent 0 5 6 0 as_written [])
    -- two calls, each on the record and memory that the last one left
    ∷ row 16 (walked load (from 5 0x2000_0000) (at 10 1 ∷ at 10 1 ∷ []))
    (call_is spent 1 0x0403_0201 0x2000_0000 1 as_written
    (step_is (four 0x2000_0000) (0 ∷ []) running 0x0403_0201 0x2000_0000 1 as_written)
    ++ call_is halted 1 0x0403_0201 0x2000_0000 1 as_written (then_halts 0x0403_0201 0x2000_0000 as_written))
    -- signed loads, of a negative byte, of two bytes with a sign and without, and one that is trapped: each reaches for one byte or two
    ∷ row 17 (walked (load_of SignedOne) (from 5 0x2000_0001) (samples ∷ []))
    (done_then_halts (0x2000_0001 ∷ []) 0xFFFF_FF80 0x2000_0001 as_sampled)
    ∷ row 18 (walked (load_of SignedTwo) (from 5 0x2000_0000) (samples ∷ []))
    (done_then_halts (0x2000_0000 ∷ 0x2000_0001 ∷ []) 0xFFFF_8001 0x2000_0000 as_sampled)
    ∷ row 19 (walked (load_of SignedTwo) (from 5 0x2000_0002) (samples ∷ []))
    (done_then_halts (0x2000_0002 ∷ 0x2000_0003 ∷ []) 0x7FFF 0x2000_0002 as_sampled)
    ∷ row 20 (walked (load_of SignedTwo) (from 5 0x2000_00FF) (at 10 9 ∷ []))
    (ends_at_once trapped (0x2000_00FF ∷ 0x2000_0100 ∷ []) (0 ∷ []) 5 0x2000_00FF)
    ∷ []
