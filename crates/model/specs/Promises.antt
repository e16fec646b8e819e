-- What is promised, in the order of the demands. Each promise is a type here; proofs/ (and the crate safety for demand 3, whose
-- statement is in Safety) only show that each holds, so nothing there need be read. Assumes nothing.
use Rattle.std.specs.Prelude.{ℕ, ◌+◌, ◌*◌, ◌/◌, ◌%◌, ◌^◌, ◌≤◌, ◌<◌, ◌≡◌, true, false, ◌↔◌, ◌⊎◌, length, take, drop, replicate, None, Some}
use mathlib.Core.List.{List, [], ◌∷◌, ◌++◌, map, Memᴰ}
use Rattle.model.specs.declared.Ending.{Ending}
use Rattle.model.specs.declared.Ending.TheVariants.{OutOfBudget}
use Rattle.model.specs.declared.Instruction.{Instruction}
use Rattle.model.specs.declared.Layout.{Layout}
use Rattle.model.specs.declared.Limits.{Limits}
use Rattle.model.specs.declared.LoadWidth.TheVariants.{SignedOne, SignedTwo}
use Rattle.model.specs.declared.Machine.{Machine}
use Rattle.model.specs.declared.Ranges.{Ranges}
use Rattle.model.specs.declared.TheConstants.{STEP_BITS}
use Rattle.model.specs.declared.TheConstants.Limits.{BOX, PLATE}
use Rattle.model.specs.Words.{modulus, signed, signed_from}
use Rattle.model.specs.Instructions.{carried}
use Rattle.model.specs.Obligations.{Fault, fault, first_fault, FirstUnmet}
use Rattle.model.specs.Answers.{accepted, refused, ended, rejected, steps_in}
use Rattle.model.specs.declared.Target.{Target}
use Rattle.model.specs.Program.{Program}
use Rattle.model.specs.Step.{in_region, in_zones, step}
use Rattle.model.specs.File.{byte_at, most_instructions, code_in, instruction_count, InstructionRow, decoded, is_placed_target, readable_by, readable, program_in}
use Rattle.model.specs.Limits.{box_limits, plate_limits}
use Rattle.model.specs.Judgement.{obligations, first_broken, judgement}
use Rattle.model.specs.Claims.{begun, swept, given, sweeping, most_sweeps, code_of, worked_out, with_claims, reclaimed, claimed, finished_file, work_out}
use Rattle.model.specs.Rules.{FileKept, FilePlaced, HeldBy, KeepsEveryRule, Runnable}
use Rattle.model.specs.Run.{Seen, unchanged, runnable, run_on, RunPost, seen_after}
use Rattle.model.specs.Counts.{step_bits, earlier_step_bits, run_in}
use Rattle.model.specs.Lookup.{Rising, found_at, AsListed}
use Rattle.model.specs.Walk.{Call, walk, seen_in, Called}
use Rattle.model.specs.Safety.{Fed, EightWords, InZones, InRegionOf}
use Rattle.model.specs.Writer.{Tables, instruction_row_at, target_row_at, encoded, program_from, tables_in, file_of, tables_owed, writable, tables_judged, wrote, unwritten, write}
use Rattle.model.specs.Outcomes as Outcomes
use Rattle.model.specs.Outcomes.{Row, row, numbers}
use Rattle.model.specs.Loop.{loop_with, loop, start, zeros, calling, counting}
use Rattle.model.specs.Walks as Walks
use Rattle.model.specs.Worked as Worked
use Rattle.model.specs.Wrote as Wrote
use Rattle.model.specs.Line.{digit, decimal, line_of}

-- ---- demand 1: "gets the result or one of the fifteen listed refusals"; document 02, ticket 5: "This number and all later new ones join
-- demand 1's list."

-- the verifier's refusals are numbered 1 to 13 and 17, a run's 1 to 7, 14, 15 and 17, of which the box never has the last (`BoxHoldsAll`);
-- the writer's are in `WriterRefuses`
pub record RefusalsListed : Type 0 where
  pub verdict : (limits : Limits) (file : List ℕ) (f : Fault) → judgement limits file ≡ refused f
      → ((1 ≤ f.number) × (f.number ≤ 13)) ⊎ (f.number ≡ 17)
  pub run : (limits : Limits) (file : List ℕ) (m : Machine) (memory : List ℕ) (offset budget : ℕ) (f : Fault) (n : ℕ)
      → (run_on limits file m memory offset budget).report ≡ rejected f n
      → (((1 ≤ f.number) × (f.number ≤ 7)) ⊎ ((14 ≤ f.number) × (f.number ≤ 15))) ⊎ (f.number ≡ 17)

-- "record and memory then hold just what they held before"; "A refused run reports 0 steps."
pub record RefusalKeeps : Type 0 where
  pub run : (limits : Limits) (file : List ℕ) (m : Machine) (memory : List ℕ) (offset budget : ℕ) (f : Fault) (n : ℕ)
      → (run_on limits file m memory offset budget).report ≡ rejected f n
      → (n ≡ 0) × ((run_on limits file m memory offset budget).machine ≡ m) × ((run_on limits file m memory offset budget).memory ≡ memory)

-- ---- demand 2

-- "A module is accepted if and only if it keeps every rule in document 01", and the device holds it
pub record AcceptedIff : Type 0 where
  pub iff : (limits : Limits) (file : List ℕ) → (first_broken limits file ≡ None) ↔ KeepsEveryRule limits file

-- and a run is made if and only if it has what it asks for
pub record RunIff : Type 0 where
  pub iff : (limits : Limits) (file : List ℕ) (m : Machine) (memory : List ℕ) (offset : ℕ)
      → (first_fault (runnable limits file m memory offset) ≡ None) ↔ Runnable limits file m memory offset

-- "Otherwise the refusal names the first rule broken and where."
pub record RefusalFirst : Type 0 where
  pub verdict : (limits : Limits) (file : List ℕ) (f : Fault) → first_broken limits file ≡ Some f → FirstUnmet (obligations limits file) f
  pub run : (limits : Limits) (file : List ℕ) (m : Machine) (memory : List ℕ) (offset : ℕ) (f : Fault)
      → first_fault (runnable limits file m memory offset) ≡ Some f → FirstUnmet (runnable limits file m memory offset) f

-- "The longest module has 50,197 bytes."; and any longer file is judged by its first bytes
pub record LongFiles : Type 0 where
  pub longest : (limits : Limits) (file : List ℕ) → first_broken limits file ≡ None → length file ≤ 50197
  -- what a device's limits leave of it: on the plate 6,293 bytes
  pub held : (limits : Limits) (file : List ℕ) → first_broken limits file ≡ None
      → length file ≤ 21 + 8 * limits.instructions + 68 * limits.targets
  pub front : (limits : Limits) (file : List ℕ) (m : ℕ) → 50198 ≤ m → m ≤ length file → judgement limits (take m file) ≡ judgement limits file

-- "A step that traps, is turned away or strays changes nothing; halt leaves the place as it is."; and in a file that keeps rules
-- 1 to 7 every step stays inside the code and keeps the number of registers and of the region's bytes
pub record StepsSteady : Type 0 where
  pub ending : (p : Program) (m : Machine) (bs : List ℕ) (e : Ending) → (step p m bs).ending ≡ Some e
      → ((step p m bs).machine ≡ m) × ((step p m bs).region ≡ bs)
  pub inside : (file : List ℕ) → FileKept file → (m : Machine) (bs : List ℕ) → m.pc < instruction_count (code_in file)
      → ((step (program_in file) m bs).machine.pc < instruction_count (code_in file))
      × (length (step (program_in file) m bs).machine.registers ≡ length m.registers)
      × (length (step (program_in file) m bs).region ≡ length bs)

-- "A run of p steps that is spent, then one of q at the same offset with nothing changed between, ends as one of p + q does, in
-- ending, record and memory, and the two counts add up to its count"
pub record CallsJoin : Type 0 where
  pub join : (limits : Limits) (file : List ℕ) (m : Machine) (memory : List ℕ) (offset first more made : ℕ)
      → (run_on limits file m memory offset first).report ≡ ended OutOfBudget made
      → run_on limits file m memory offset (first + more)
      ≡ seen_after made
      (run_on limits file (run_on limits file m memory offset first).machine (run_on limits file m memory offset first).memory offset more)
  -- and so of whatever three calls answered and left, each being anything that the promise of run allows: one with the first budget,
  -- one that goes on from what it left, and one with both budgets
  pub runs : (limits : Limits) (file : List ℕ) (m : Machine) (memory : List ℕ) (offset first more made : ℕ) (before after one : Seen)
      → RunPost limits file m memory offset first before → before.report ≡ ended OutOfBudget made
      → RunPost limits file before.machine before.memory offset more after
      → RunPost limits file m memory offset (first + more) one
      → one ≡ seen_after made after

-- document 02, ticket 6: "Every 32-bit count carried over means the same number, and every earlier run gives its earlier answer."
pub record CountsCarried : Type 0 where
  -- "Make budget and step count 64 bits wide in the machine and the answer.": the code's type of both, `Steps`, has the width that is
  -- spoken of here
  pub width : STEP_BITS ≡ step_bits
  -- a run makes at most its budget of steps, so a count fits wherever its budget does
  pub within : (limits : Limits) (file : List ℕ) (m : Machine) (memory : List ℕ) (offset budget : ℕ)
      → steps_in (run_on limits file m memory offset budget).report ≤ budget
  -- and in a width that holds the budget nothing of either is lost
  pub kept : (bits : ℕ) (limits : Limits) (file : List ℕ) (m : Machine) (memory : List ℕ) (offset budget : ℕ) → budget < 2 ^ bits
      → run_in bits limits file m memory offset budget ≡ run_on limits file m memory offset budget
  -- so whatever run answers and leaves, by its promise, with a budget below 2^32, is what it was with 32 bits
  pub earlier : (limits : Limits) (file : List ℕ) (m : Machine) (memory : List ℕ) (offset budget : ℕ) (seen : Seen)
      → budget < 2 ^ earlier_step_bits
      → RunPost limits file m memory offset budget seen → seen ≡ run_in earlier_step_bits limits file m memory offset budget
  -- "The joining of p and q steps now holds up to the wider limit.": in every width, as far as it holds their sum
  pub join : (bits : ℕ) (limits : Limits) (file : List ℕ) (m : Machine) (memory : List ℕ) (offset first more made : ℕ) → first + more < 2 ^ bits
      → (run_in bits limits file m memory offset first).report ≡ ended OutOfBudget made
      → run_in bits limits file m memory offset (first + more)
      ≡ seen_after made
      (run_in bits limits file (run_in bits limits file m memory offset first).machine (run_in bits limits file m memory offset first).memory offset more)

-- "A listening module left on for a week passes four thousand million steps": a loop of two instructions is accepted, and from its start
-- it is spent after just its budget of steps, however great that is; in 32 bits a budget of 2^32 + 2 was one of 2
pub record LongRuns : Type 0 where
  pub verdict : judgement box_limits counting ≡ accepted 2 1
  pub counts : (registers memory : List ℕ) (budget : ℕ) → 256 ≤ length memory
      → (run_on box_limits counting (record { registers = registers; pc = 0 }) memory 0 budget).report ≡ ended OutOfBudget budget
  pub cut : ((run_in earlier_step_bits box_limits counting start zeros 0 0x1_0000_0002).report ∷ (run_in step_bits box_limits counting start zeros 0 0x1_0000_0002).report ∷ [])
      ≡ ended OutOfBudget 2 ∷ ended OutOfBudget 0x1_0000_0002 ∷ []

-- document 02, ticket 7: "For every list whose indexes rise strictly and are below n, and every index, also one at or past n, the answer
-- equals that of the plain list."
pub record FoundAtOnce : Type 0 where
  pub found : (n : ℕ) → n ≤ most_instructions → (ts : List Target) → Rising n ts → (i : ℕ) → AsListed ts i (found_at n ts i)

-- "P1 to P12 are proved as one table by one claim about the definitions.": in every row they give what document 01 says
pub record KnownOutcomes : Type 0 where
  -- a row compares what it was given
  pub compares : (n : ℕ) (given expected : List ℕ) → (row n given expected).given ≡ (row n given expected).expected → given ≡ expected
  pub agree : (r : Row) → Memᴰ r Outcomes.table → r.given ≡ r.expected
  pub complete : numbers Outcomes.table
      ≡ 1 ∷ 2 ∷ 3 ∷ 4 ∷ 5 ∷ 6 ∷ 6 ∷ 7 ∷ 8 ∷ 8 ∷ 9 ∷ 10 ∷ 11 ∷ 12 ∷ []

-- and so does the loop: "The gate program prints `accepted 4 2`. .. With guard 7 accepted, with guard 6 `refused 10 1`. With r1 claimed
-- DB to DL, `refused 11 3`."
pub record LoopJudged : Type 0 where
  pub verdicts : (judgement box_limits loop
      ∷ judgement box_limits (loop_with 7 0x2000_1003) ∷ judgement box_limits (loop_with 6 0x2000_1003)
      ∷ judgement box_limits (loop_with 256 0x2000_0FFF) ∷ [])
      ≡ (accepted 4 2 ∷ accepted 4 2 ∷ refused (fault 10 1) ∷ refused (fault 11 3) ∷ [])

-- and in every row of document 02's tickets they give what it says
pub record KnownRequests : Type 0 where
  pub agree : (r : Row) → Memᴰ r Outcomes.requests → r.given ≡ r.expected
  pub complete : numbers Outcomes.requests
      ≡ 1 ∷ 1 ∷ 1 ∷ 1 ∷ 1 ∷ 1 ∷ 2 ∷ 2 ∷ 2 ∷ 2 ∷ 2 ∷ 2 ∷ 2 ∷ 2 ∷ 8 ∷ 8 ∷ 8 ∷ 8 ∷ []
  pub worked : (r : Row) → Memᴰ r Worked.table → r.given ≡ r.expected
  pub worked_complete : numbers Worked.table ≡ 3 ∷ 3 ∷ 3 ∷ 3 ∷ 3 ∷ 3 ∷ 3 ∷ 3 ∷ 3 ∷ 3 ∷ 3 ∷ 8 ∷ 8 ∷ 8 ∷ 8 ∷ 8 ∷ []
  pub written : (r : Row) → Memᴰ r Wrote.table → r.given ≡ r.expected
  pub written_complete : numbers Wrote.table
      ≡ 5 ∷ 5 ∷ 5 ∷ 5 ∷ 5 ∷ 5 ∷ 5 ∷ 5 ∷ 5 ∷ 5 ∷ 5 ∷ 5 ∷ 5 ∷ 5 ∷ 5 ∷ 5 ∷ []

-- document 02, ticket 2: "carry the sign up through 32 bits": the signed reading of what a load carries is that of the sample, for
-- every sample of one byte and of two; and of a word `signed_from` is document 01's signed reading
pub record SignCarried : Type 0 where
  pub one : (raw : ℕ) → raw < 0x100 → signed (carried SignedOne raw) ≡ signed_from 0x80 raw
  pub two : (raw : ℕ) → raw < 0x1_0000 → signed (carried SignedTwo raw) ≡ signed_from 0x8000 raw
  pub word : (x : ℕ) → x < modulus → signed_from 0x8000_0000 x ≡ signed x

-- "Numbers are decimal": a number below ten is its digit, and any other has the digits of its tenth and then its last
pub record DecimalKnown : Type 0 where
  pub small : (n : ℕ) → n < 10 → decimal n ≡ digit n ∷ []
  pub more : (n : ℕ) → 10 ≤ n → decimal n ≡ decimal (n / 10) ++ (digit (n % 10) ∷ [])

-- and the lines `accepted 4 2`, `refused 10 1`, `refused 1 0` and `accepted 4096 256`, byte by byte
pub record LineKnown : Type 0 where
  pub lines : (line_of (accepted 4 2)
      ∷ line_of (refused (fault 10 1)) ∷ line_of (refused (fault 1 0)) ∷ line_of (accepted 4096 256) ∷ [])
      ≡ ((97 ∷ 99 ∷ 99 ∷ 101 ∷ 112 ∷ 116 ∷ 101 ∷ 100 ∷ 32 ∷ 52 ∷ 32 ∷ 50 ∷ 10 ∷ [])
      ∷ (114 ∷ 101 ∷ 102 ∷ 117 ∷ 115 ∷ 101 ∷ 100 ∷ 32 ∷ 49 ∷ 48 ∷ 32 ∷ 49 ∷ 10 ∷ [])
      ∷ (114 ∷ 101 ∷ 102 ∷ 117 ∷ 115 ∷ 101 ∷ 100 ∷ 32 ∷ 49 ∷ 32 ∷ 48 ∷ 10 ∷ [])
      ∷ (97 ∷ 99 ∷ 99 ∷ 101 ∷ 112 ∷ 116 ∷ 101 ∷ 100 ∷ 32 ∷ 52 ∷ 48 ∷ 57 ∷ 54 ∷ 32 ∷ 50 ∷ 53 ∷ 54 ∷ 10 ∷ [])
      ∷ [])

-- ---- demand 3 is `Safety`; these hold its terms to the step and the run

-- the zones of the demand are those that a step's access is judged by
pub record ZonesAgree : Type 0 where
  pub zones : (l : Layout) (at : ℕ) → InZones l at ↔ (in_zones l at 1 ≡ true)
  -- and a call's region is where the region's addresses lie in memory: "The address base is the first byte of the lent stretch"
  pub region : (p : Program) (n : ℕ) (c : Call) (at : ℕ)
      → InRegionOf p n c at
      ↔ ((c.offset + p.layout.size ≤ n)
      × ((address : ℕ) × (in_region p.layout address 1 ≡ true) × (at + p.layout.base ≡ c.offset + address)))

-- whatever is fed, there is something that the calls answered and left: so demand 3 is never empty
pub record CallsAnswer : Type 0 where
  pub answers : (limits : Limits) (file : List ℕ) (m : Machine) (memory : List ℕ) (calls : List Call)
      → (seen : List Seen) × Called limits file m memory calls seen

-- small walks, whose logs are compared entry by entry with what document 01 says
pub record KnownWalks : Type 0 where
  pub agree : (r : Row) → Memᴰ r Walks.table → r.given ≡ r.expected
  pub complete : numbers Walks.table
      ≡ 1 ∷ 2 ∷ 3 ∷ 4 ∷ 5 ∷ 6 ∷ 7 ∷ 8 ∷ 9 ∷ 10 ∷ 11 ∷ 12 ∷ 13 ∷ 14 ∷ 15 ∷ 16 ∷ 17 ∷ 18 ∷ 19 ∷ 20 ∷ []

-- two calls of the loop, of budgets 3 and 2: it can be fed to the walk, and each call is answered so
pub record LoopWalked : Type 0 where
  pub fed : Fed box_limits loop start (calling 3 ∷ calling 2 ∷ [])
  pub reports : map (λ (s : Seen). s.report) (seen_in (walk (program_in loop) start zeros (calling 3 ∷ calling 2 ∷ [])))
      ≡ ended OutOfBudget 3 ∷ ended OutOfBudget 2 ∷ []
  -- guard, load, addi; then jump, load: r1 is one word further, and the next instruction is the addi
  pub machines : map (λ (s : Seen). s.machine) (seen_in (walk (program_in loop) start zeros (calling 3 ∷ calling 2 ∷ [])))
      ≡ record { registers = 0 ∷ 0x2000_0004 ∷ replicate 6 0; pc = 3 } ∷ record { registers = 0 ∷ 0x2000_0004 ∷ replicate 6 0; pc = 2 } ∷ []

-- ---- document 02, ticket 3: claims that are worked out, for any file of bytes

abbrev pub AreBytes : List ℕ → Type 0
AreBytes file = (i : ℕ) → byte_at file i < 256

-- "with none left it ends": no claim changes any more, every target is reached, and more sweeps would be none
pub record SweepsEnd : Type 0 where
  pub unchanged : (file : List ℕ) → AreBytes file → FilePlaced file
      → (swept (code_of (program_in file)) (worked_out (program_in file)).entries).changed ≡ false
  pub none_left : (file : List ℕ) → AreBytes file → FilePlaced file → given (worked_out (program_in file)).entries ≡ None
  pub enough : (file : List ℕ) → AreBytes file → FilePlaced file → (most : ℕ) → most_sweeps (program_in file) ≤ most
      → sweeping (code_of (program_in file)) most 0 (map begun (program_in file).targets) ≡ worked_out (program_in file)

-- "The verifier then judges the finished module, and its answer is the answer."
pub record WorkedOutJudged : Type 0 where
  -- the file that is judged holds the module with the worked-out claims, and keeps 1 to 7
  pub finished : (file : List ℕ) → AreBytes file → FilePlaced file
      → FileKept (finished_file file) × (program_in (finished_file file) ≡ with_claims (program_in file))
  -- what is accepted is accepted by the verifier, so that "Safety covers these modules like any others."
  pub stands : (limits : Limits) (file : List ℕ) (n k : ℕ) → (work_out limits file).judgement ≡ accepted n k
      → judgement limits (work_out limits file).bytes ≡ accepted n k
  -- "a refusal leaves the bytes as they came"
  pub kept : (limits : Limits) (file : List ℕ) (f : Fault) → (work_out limits file).judgement ≡ refused f → (work_out limits file).bytes ≡ file
  -- "no new number"; "11 never occurs here"
  pub numbered : (limits : Limits) (file : List ℕ) (f : Fault) → (work_out limits file).judgement ≡ refused f
      → ((1 ≤ f.number) × (f.number ≤ 13)) ⊎ (f.number ≡ 17)
  pub never_11 : (limits : Limits) (file : List ℕ) → AreBytes file → (f : Fault) → (work_out limits file).judgement ≡ refused f
      → f.number ≡ 11 → ⊥

-- "ignores its inner doors' claims": with any others over them a file is answered as before, and what is accepted is the same file; so
-- working out twice is working out once
pub record InnerIgnored : Type 0 where
  pub ignored : (limits : Limits) (file : List ℕ) → FilePlaced file → (other : ℕ → Ranges)
      → let garbled = claimed (map (reclaimed other) (program_in file).targets) file in
      ((work_out limits garbled).judgement ≡ (work_out limits file).judgement)
      × ((n k : ℕ) → (work_out limits file).judgement ≡ accepted n k → (work_out limits garbled).bytes ≡ (work_out limits file).bytes)
  pub twice : (limits : Limits) (file : List ℕ) (n k : ℕ) → (work_out limits file).judgement ≡ accepted n k
      → work_out limits (work_out limits file).bytes ≡ work_out limits file

-- ---- document 02, ticket 5: files that are written

-- a row that decodes is the row of what it decodes to, so an instruction that is decoded has one row and is what that decodes to
pub record RowsDecoded : Type 0 where
  pub one : (x : InstructionRow) (i : Instruction) → x.imm < modulus → decoded x ≡ Some i → encoded i ≡ x
  pub back : (x : InstructionRow) (i : Instruction) → x.imm < modulus → decoded x ≡ Some i → decoded (encoded i) ≡ Some i

-- what a host can hand over: each imm and each end of a claim is a word, each claim has eight ranges, and a target has no more than
-- index, kind and claim
pub record AreTables (t : Tables) : Type 0 where
  pub imm : (i : ℕ) → (instruction_row_at t i).imm < modulus
  pub zero_byte : (j : ℕ) → (target_row_at t j).zero_byte ≡ 0
  pub lows : (j : ℕ) → EightWords (target_row_at t j).claim.lows
  pub highs : (j : ℕ) → EightWords (target_row_at t j).claim.highs

-- "Each set of tables that the reader accepts has one file, the reader gives back those tables from it, and writing what was read yields
-- the file that was read."
pub record FilesWritten : Type 0 where
  -- tables that keep 3, 5, 6 and 7 have a file that the reader accepts, and it gives back those tables, as rows and decoded
  pub some_file : (t : Tables) → AreTables t → first_fault (tables_owed t) ≡ None
      → AreBytes (file_of t) × FileKept (file_of t) × (tables_in (file_of t) ≡ t) × (program_in (file_of t) ≡ program_from t)
  -- the tables of any file that the reader accepts keep them, and the file of these tables is that file: no other has them
  pub one_file : (file : List ℕ) → AreBytes file → FileKept file
      → AreTables (tables_in file) × (first_fault (tables_owed (tables_in file)) ≡ None) × (file_of (tables_in file) ≡ file)
  -- nor has any other the same instructions and targets, decoded
  pub one_program : (file other : List ℕ) → AreBytes file → AreBytes other → FileKept file → FileKept other
      → program_in file ≡ program_in other → file ≡ other
  -- what is written is judged as its tables are
  pub judged : (limits : Limits) (t : Tables) → AreTables t → first_fault (tables_owed t) ≡ None
      → judgement limits (file_of t) ≡ tables_judged limits t

-- "the writer's order is 3, 5, 6, 7, 16"; "so does all of it after a refusal"
pub record WriterRefuses : Type 0 where
  pub numbered : (t : Tables) (buffer : List ℕ) (f : Fault) → (write t buffer).report ≡ unwritten f
      → (f.number ≡ 3) ⊎ (((5 ≤ f.number) × (f.number ≤ 7)) ⊎ (f.number ≡ 16))
  pub first : (t : Tables) (buffer : List ℕ) (f : Fault) → (write t buffer).report ≡ unwritten f → FirstUnmet (writable t buffer) f
  pub kept : (t : Tables) (buffer : List ℕ) (f : Fault) → (write t buffer).report ≡ unwritten f → (write t buffer).buffer ≡ buffer
  -- and where it writes, the file has the length that it answers, and no byte past it changes
  pub past : (t : Tables) (buffer : List ℕ) (n : ℕ) → (write t buffer).report ≡ wrote n
      → (n ≡ length (file_of t)) × (n ≤ length buffer) × (take n (write t buffer).buffer ≡ file_of t)
      × (drop n (write t buffer).buffer ≡ drop n buffer)

-- ---- document 02, ticket 8: "The scale plate loads modules too."

-- "Plate and box keep their own limits": the code's are those of which is spoken here
pub record LimitsNamed : Type 0 where
  pub box : BOX ≡ box_limits
  pub plate : PLATE ≡ plate_limits

-- "only for the plate": the box holds every module that is readable, or placed, and never answers 17
pub record BoxHoldsAll : Type 0 where
  pub held : (file : List ℕ) → FileKept file → HeldBy box_limits file
  pub placed : (file : List ℕ) → FilePlaced file → HeldBy box_limits file
  pub verdict : (file : List ℕ) (f : Fault) → judgement box_limits file ≡ refused f → f.number ≡ 17 → ⊥
  pub run : (file : List ℕ) (m : Machine) (memory : List ℕ) (offset budget : ℕ) (f : Fault) (n : ℕ)
      → (run_on box_limits file m memory offset budget).report ≡ rejected f n → f.number ≡ 17 → ⊥
  pub worked_out : (file : List ℕ) (f : Fault) → (work_out box_limits file).judgement ≡ refused f → f.number ≡ 17 → ⊥

-- "when either limit is passed; it comes after 7 and before all later numbers and any sweep"
pub record OverLimits : Type 0 where
  -- a file that keeps 1 to 7 and has more than the device holds is refused so, whatever else is wrong with it or with the call
  pub verdict : (limits : Limits) (file : List ℕ) → FileKept file → (HeldBy limits file → ⊥) → judgement limits file ≡ refused (fault 17 0)
  pub run : (limits : Limits) (file : List ℕ) (m : Machine) (memory : List ℕ) (offset budget : ℕ) → FileKept file → (HeldBy limits file → ⊥)
      → run_on limits file m memory offset budget ≡ unchanged m memory (fault 17 0)
  pub worked_out : (limits : Limits) (file : List ℕ) → FilePlaced file → (HeldBy limits file → ⊥)
      → work_out limits file ≡ record { judgement = refused (fault 17 0); bytes = file }
  -- and one that breaks 1 to 7 gets these, however much it has
  pub unreadable : (limits : Limits) (file : List ℕ) (f : Fault) → first_fault (readable file) ≡ Some f → judgement limits file ≡ refused f
  pub unreadable_run : (limits : Limits) (file : List ℕ) (m : Machine) (memory : List ℕ) (offset budget : ℕ) (f : Fault)
      → first_fault (readable file) ≡ Some f → run_on limits file m memory offset budget ≡ unchanged m memory f
  pub unplaced : (limits : Limits) (file : List ℕ) (f : Fault) → first_fault (readable_by is_placed_target file) ≡ Some f
      → work_out limits file ≡ record { judgement = refused f; bytes = file }

-- "the verdict on a module within both limits is the same for both", and so are its runs and what is worked out. A file that is refused
-- by 1 to 7 is no module and has no counts: its answers are the same on any device.
pub record SameWithin : Type 0 where
  pub verdict : (one other : Limits) (file : List ℕ) → (FileKept file → HeldBy one file × HeldBy other file)
      → judgement one file ≡ judgement other file
  pub run : (one other : Limits) (file : List ℕ) (m : Machine) (memory : List ℕ) (offset budget : ℕ)
      → (FileKept file → HeldBy one file × HeldBy other file)
      → run_on one file m memory offset budget ≡ run_on other file m memory offset budget
  pub worked_out : (one other : Limits) (file : List ℕ) → (FilePlaced file → HeldBy one file × HeldBy other file)
      → work_out one file ≡ work_out other file
  -- so what the plate accepts the box accepts
  pub from_plate : (file : List ℕ) (n k : ℕ) → judgement plate_limits file ≡ accepted n k → judgement box_limits file ≡ accepted n k
