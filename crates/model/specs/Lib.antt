-- The definitions: what an auditor reads, and all that need be believed. Each stands under the sentence of document 01 (the scope
-- document), of document 02 (the change requests, ticket by ticket) or of the demands that it says; text in quotation marks is theirs,
-- word for word.
--
-- Reading order, each file after those that it stands on: Words (bytes, words, wrapping, the signed reading); Ranges (rule W, cuts,
-- rule B); Program; Instructions (the table, both columns, one row an opcode; rule N); Step (access, places, the listed step); File
-- (fields, layout, instructions, targets, refusals 1 to 7); Obligations (what is judged, and "the first rule broken and where");
-- Limits (what a device holds, and refusal 17: document 02, ticket 8); Judgement (rules 8 to 13 and the verdict); Lookup (how a target is found: document 02, ticket 7); Claims (claims that are worked
-- out: ticket 3); Writer (files that are written: ticket 5); Rules (every rule again, stated by itself, with no order and no test in
-- it); Answers (numbers of refusals and endings); Run (the run, and 14 and 15); Counts (the width of budgets and counts: ticket 6);
-- Walk; Safety (demand 3); Accuracy (the ranges are right); Clauses (demand 3 for two calls, clause by clause); Outcomes, Walks,
-- Loop, Worked and Wrote (known outcomes); Line (what the gate program prints); Promises (every promise as a type, demand by demand).
-- Quantifiers has four small tests.
--
-- The documents' words and ours: a door is a target, open indirect, inner direct; the machine record is the Machine, its place the pc;
-- turned away is Denied, strayed Violated, spent OutOfBudget; no way in is Unreachable, runs off FallsOff, no ground NoRoom; an item
-- of the walk is a Call. A fault is a refusal in document 01's terms, a number and a place; a refusal (`Refusal`) is the code's, and
-- `fault_of` gives its fault. An obligation is one thing that is judged, with the fault that it would be.
--
-- The language: `abbrev` marks a definition that is seen through everywhere, `unfoldable` one that a proof opens only where it says
-- `unfolding`. The marks change what proofs must say, never what a definition means; an `unfolding` line under a definition of a table
-- only lets the checker compute it. `record { .. }` builds a record, `x.field` reads it. Lists of numbers stand for bytes and words.
--
-- Three places that may surprise:
-- - `MemoryOf` (Safety) puts a step's region into the memory from before the call, because the log has the region's bytes only: what
--   the host wrote lies in the region too, so nothing else differs.
-- - `after_next` of a halt or jump is defined and of no consequence: `traits` says that they do not go on, and what arrives at the next
--   index is asked for only at a target, whose claim replaces it.
-- - `code_at` past the last instruction is a halt, and the module of a file that is refused is whatever its stretches give: neither is
--   reached, because what stands before it is refused.
pub mod Quantifiers
pub mod Words
pub mod Obligations
pub mod Answers
pub mod Ranges
pub mod Program
pub mod Instructions
pub mod Step
pub mod File
pub mod Limits
pub mod Judgement
pub mod Lookup
pub mod Claims
pub mod Writer
pub mod Run
pub mod Counts
pub mod Rules
pub mod Walk
pub mod Safety
pub mod Accuracy
pub mod Outcomes
pub mod Walks
pub mod Loop
pub mod Worked
pub mod Wrote
pub mod Clauses
pub mod Line
pub mod Promises
