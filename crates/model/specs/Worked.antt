-- Document 02, ticket 3: small modules with their claims worked out, and two files; and ticket 8: files on devices with small limits. In
-- every row the definitions give what is expected: `KnownRequests` in Promises. Assumes nothing.
use Rattle.std.specs.Prelude.{ℕ, false, List, [], ◌∷◌, ◌++◌, pos, set, replicate}
use Rattle.model.specs.declared.Instruction.{Instruction}
use Rattle.model.specs.declared.Instruction.TheVariants.{Halt, Set, Addi, Andi, Guard, Load, Jump, Branch}
use Rattle.model.specs.declared.Layout.{Layout}
use Rattle.model.specs.declared.Limits.{Limits}
use Rattle.model.specs.declared.LoadWidth.TheVariants.{Unsigned}
use Rattle.model.specs.declared.Target.{Target}
use Rattle.model.specs.declared.Test.TheVariants.{Equal, Below}
use Rattle.model.specs.declared.Width.TheVariants.{Four}
use Rattle.model.specs.Quantifiers.{all_below, any_below}
use Rattle.model.specs.Words.{top, signed, read_bytes, low_bytes, write_bytes}
use Rattle.model.specs.Obligations.{first_fault, each_from}
use Rattle.model.specs.Ranges.{low, high, rule_w, guard_range, cut, between, cut_both, rule_b, lies_within}
use Rattle.model.specs.Program.{Program, target_at}
use Rattle.model.specs.Instructions.{shape, rule_n, after_next, after_taken}
use Rattle.model.specs.File.{is_listed, field, is_layout, rows, decode, instruction_in, tabulate, claim_in, target_in, is_placed_target, is_good_target, field_value, readable_by, program_of}
use Rattle.model.specs.Limits.{box_limits, limit_rules, loadable_by}
use Rattle.model.specs.Judgement.{known_at, is_reachable, is_checked, is_contained, access_contained, jumps_to_target, stays_inside, taken_kept, next_kept, before_next, at_index, verified, obligations, first_broken, judgement}
use Rattle.model.specs.Claims.{entry_at, widened, grow, reach_at, arrive, visit, sweep, counted, given, sweeping, worked_out, with_claims, write_ranges, write_claims, claimed, finished_file, work_out}
use Rattle.model.specs.Outcomes.{Row, row, fault_told, verdict_told, entry}
use Rattle.model.specs.Writer.{word, field_of}
use Rattle.model.specs.Loop.{instruction, from_to, anything, target, direct, indirect, loop_with}

-- document 01's layout with a guard, and a direct target, whose claim is to be ignored
abbrev pub guarded_by : ℕ → Layout
guarded_by guard = record { base = 0x2000_0000; size = 4096; guard = guard }

abbrev pub direct_at : ℕ → Target
direct_at i = record { index = i; indirect = false; claim = record { lows = replicate 8 top; highs = replicate 8 0 } }

-- r0's and r1's ranges in each claim but the first
abbrev pub shown : List Target → List ℕ
shown [] = []
shown (t ∷ ts) = low t.claim 0 ∷ high t.claim 0 ∷ low t.claim 1 ∷ high t.claim 1 ∷ shown ts

abbrev pub behind : List Target → List Target
behind [] = []
behind (t ∷ ts) = ts

-- of a module of code and targets behind the first: the sweeps, the verdict, and the claims
unfoldable pub told : ℕ → List Instruction → List Target → List ℕ
unfolding worked_out with_claims sweeping given counted sweep visit arrive reach_at grow widened entry_at tabulate lies_within all_below shape
    after_next after_taken rule_n cut between rule_b cut_both rule_w guard_range verified first_fault each_from at_index before_next is_reachable is_checked
    access_contained is_contained jumps_to_target stays_inside taken_kept next_kept known_at target_at
told guard code targets =
    let p : Program = record { layout = guarded_by guard; code = code; targets = entry ∷ targets } in
    (worked_out p).sweeps ∷ (fault_told (first_fault (verified (with_claims p))) ++ shown (behind (with_claims p).targets))

-- the loop; and a counter up to a limit
abbrev pub loop_code : List Instruction
loop_code = Guard 1 ∷ Load 0 1 (Unsigned Four) (pos 0) ∷ Addi 1 (pos 4) ∷ Jump 1 ∷ []

abbrev pub counter_to : ℕ → List Instruction
counter_to limit = Set 0 0 ∷ Set 1 limit ∷ Branch 0 1 Below 4 ∷ Halt ∷ Addi 0 (pos 1) ∷ Jump 2 ∷ []

-- where the order of a branch's edges shows: the taken one reaches 7 first, and the next one then widens it in the same sweep
abbrev pub taken_first : List Instruction
taken_first =
    Set 0 0 ∷ Andi 1 1 ∷ Set 2 9 ∷ Jump 6 ∷ Addi 1 (pos 1) ∷ Jump 7 ∷ Branch 0 1 Equal 7 ∷ Branch 1 2 Below 4 ∷ Halt ∷ []

-- two unreached targets, of which the lower one reaches the other; and code that nothing leads to
abbrev pub unreached : List Instruction
unreached = Halt ∷ Set 0 5 ∷ Jump 3 ∷ Halt ∷ []

abbrev pub no_way_in : List Instruction
no_way_in = Set 1 0x2000_0000 ∷ Load 0 1 (Unsigned Four) (pos 0) ∷ Halt ∷ Set 1 0 ∷ Jump 1 ∷ []

-- a register that grows twice in each sweep: that is one sweep of growth
abbrev pub grows_twice : List Instruction
grows_twice = Set 0 0 ∷ Set 1 15 ∷ Branch 0 1 Below 4 ∷ Halt ∷ Addi 0 (pos 1) ∷ Branch 1 1 Equal 2 ∷ Addi 0 (pos 1) ∷ Jump 2 ∷ []

-- document 01's loop, r1 claimed from DB to 0: 7 for the verifier
abbrev pub loop_file : ℕ → List ℕ
loop_file guard = loop_with guard 0

-- "7 except for inner claims": target 1 is bad in its claim, and target 2 in the byte that must be zero
unfoldable pub two_bad : List ℕ
unfolding low_bytes
two_bad =
    field_of 1 (word 0x2000_0000 ++ (word 4096 ++ word 4))
    ++ (field_of 2 (instruction 0 0 0 0 0 ++ (instruction 0 0 0 0 0 ++ instruction 0 0 0 0 0))
    ++ field_of 3 (target 0 indirect anything ++ (target 1 direct (from_to 1 0) ++ set (target 2 direct anything) 3 1)))

-- a file whose second instruction nothing leads to, and devices
abbrev pub two_halts : List ℕ
two_halts =
    field_of 1 (word 0x2000_0000 ++ (word 256 ++ word 0))
    ++ (field_of 2 (instruction 0 0 0 0 0 ++ instruction 0 0 0 0 0) ++ field_of 3 (target 0 indirect anything))

abbrev pub holding_only : ℕ → ℕ → Limits
holding_only n k = record { instructions = n; targets = k }

-- a device's verdict on a file as it came, what is answered of it here, and the bytes afterwards
unfoldable pub answered_on : Limits → List ℕ → List ℕ
unfolding work_out finished_file claimed write_claims write_ranges write_bytes worked_out with_claims sweeping given counted sweep visit arrive reach_at
    grow widened entry_at judgement first_broken obligations loadable_by limit_rules readable_by field field_value is_listed is_layout instruction_in decode rows is_placed_target
    is_good_target claim_in target_in program_of tabulate read_bytes signed all_below any_below each_from first_fault verified at_index before_next is_reachable
    is_checked access_contained is_contained jumps_to_target stays_inside taken_kept next_kept lies_within known_at target_at shape after_next after_taken rule_n
    rule_w guard_range cut between low_bytes loop_with two_bad
answered_on limits file = let a = work_out limits file in verdict_told (judgement limits file) ++ (verdict_told a.judgement ++ a.bytes)

abbrev pub answered : List ℕ → List ℕ
answered = answered_on box_limits

unfoldable pub table : List Row
unfolding told answered_on
table =
    row 3 (told 4 loop_code (direct_at 1 ∷ [])) (2 ∷ 0 ∷ 0 ∷ top ∷ 0x2000_0000 ∷ 0x2000_1000 ∷ [])
    ∷ row 3 (told 3 loop_code (direct_at 1 ∷ [])) (2 ∷ 10 ∷ 1 ∷ 0 ∷ top ∷ 0x2000_0000 ∷ 0x2000_1000 ∷ [])
    ∷ row 3 (told 4 (counter_to 8) (direct_at 2 ∷ direct_at 4 ∷ [])) (9 ∷ 0 ∷ 0 ∷ 8 ∷ 8 ∷ 8 ∷ 0 ∷ 7 ∷ 8 ∷ 8 ∷ [])
    ∷ row 3 (told 4 (counter_to 9) (direct_at 2 ∷ direct_at 4 ∷ [])) (10 ∷ 0 ∷ 0 ∷ top ∷ 9 ∷ 9 ∷ 0 ∷ 8 ∷ 9 ∷ 9 ∷ [])
    ∷ row 3 (told 4 taken_first (direct_at 4 ∷ direct_at 6 ∷ direct_at 7 ∷ []))
    (10 ∷ 0 ∷ 0 ∷ 0 ∷ 0 ∷ 8 ∷ 0 ∷ 0 ∷ 0 ∷ 1 ∷ 0 ∷ 0 ∷ 0 ∷ top ∷ [])
    ∷ row 3 (told 4 unreached (direct_at 1 ∷ direct_at 3 ∷ [])) (3 ∷ 0 ∷ 0 ∷ top ∷ 0 ∷ top ∷ 5 ∷ 5 ∷ 0 ∷ top ∷ [])
    ∷ row 3 (told 4 no_way_in (direct_at 1 ∷ [])) (2 ∷ 12 ∷ 3 ∷ 0 ∷ top ∷ 0x2000_0000 ∷ 0x2000_0000 ∷ [])
    ∷ row 3 (told 4 grows_twice (direct_at 2 ∷ direct_at 4 ∷ [])) (9 ∷ 0 ∷ 0 ∷ 16 ∷ 15 ∷ 15 ∷ 0 ∷ 14 ∷ 15 ∷ 15 ∷ [])
    ∷ row 3 (answered (loop_file 4)) (7 ∷ 1 ∷ 0 ∷ 4 ∷ 2 ∷ loop_with 4 0x2000_1000)
    ∷ row 3 (answered (loop_file 3)) (7 ∷ 1 ∷ 10 ∷ 1 ∷ loop_file 3)
    ∷ row 3 (answered two_bad) (7 ∷ 1 ∷ 7 ∷ 2 ∷ two_bad)
    ∷ row 8 (answered_on (holding_only 4 2) (loop_with 4 0x2000_1000)) (0 ∷ 4 ∷ 2 ∷ 0 ∷ 4 ∷ 2 ∷ loop_with 4 0x2000_1000)
    ∷ row 8 (answered_on (holding_only 4 1) (loop_with 4 0x2000_1000)) (17 ∷ 0 ∷ 17 ∷ 0 ∷ loop_with 4 0x2000_1000)
    ∷ row 8 (answered_on (holding_only 2 1) two_halts) (12 ∷ 1 ∷ 12 ∷ 1 ∷ two_halts)
    ∷ row 8 (answered_on (holding_only 1 1) two_halts) (17 ∷ 0 ∷ 17 ∷ 0 ∷ two_halts)
    ∷ row 8 (answered_on (holding_only 1 1) two_bad) (7 ∷ 1 ∷ 7 ∷ 2 ∷ two_bad)
    ∷ []
