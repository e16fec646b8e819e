-- The verdict on a file that is given byte by byte, for proofs by computation: what has to be opened for it, once. Assumes nothing.
use Prim.Native.Nat.{ℕ}
use mathlib.Core.List.{List}
use Rattle.std.specs.Prelude.{Option}
use Rattle.model.specs.declared.Limits.{Limits}
use Rattle.model.specs.Quantifiers.{all_below, any_below}
use Rattle.model.specs.Words.{signed, read_bytes}
use Rattle.model.specs.Obligations.{Fault, first_fault, each_from}
use Rattle.model.specs.Answers.{Judgement}
use Rattle.model.specs.Ranges.{rule_w, guard_range, cut, between, lies_within}
use Rattle.model.specs.Program.{Program, target_at}
use Rattle.model.specs.Instructions.{shape, rule_n, after_next, after_taken}
use Rattle.model.specs.File.{is_listed, field, is_layout, rows, decode, instruction_in, tabulate, claim_in, target_in, is_placed_target, is_good_target, field_value, readable_by, program_of}
use Rattle.model.specs.Limits.{limit_rules, loadable_by, loadable}
use Rattle.model.specs.Judgement.{known_at, is_reachable, is_checked, is_contained, access_contained, jumps_to_target, stays_inside, taken_kept, next_kept, before_next, at_index, verified, obligations, first_broken, judgement}

-- refusals 1 to 7 and 17
unfoldable file_fault : Limits → List ℕ → Option Fault
unfolding loadable_by limit_rules readable_by field field_value is_listed is_layout instruction_in decode rows is_placed_target is_good_target claim_in tabulate read_bytes signed all_below any_below each_from first_fault
file_fault limits file = first_fault (loadable limits file)

-- refusals 8 to 13
unfoldable code_fault : Program → Option Fault
unfolding verified at_index before_next is_reachable is_checked access_contained is_contained jumps_to_target stays_inside taken_kept next_kept lies_within known_at target_at shape after_next after_taken rule_n rule_w guard_range cut between
code_fault p = first_fault (verified p)

-- the whole answer
unfoldable pub verdict : Limits → List ℕ → Judgement
unfolding file_fault code_fault program_of target_in obligations first_broken judgement
verdict limits file = judgement limits file
