-- Demand 3 for whatever a host calls: each entry's contract gives the promise of run, and each verdict that no rule is broken; and by
-- that promise calls join, and are what they were when budgets had 32 bits.
-- Assumes nothing.
use Prim.Native.Nat.{ℕ, ◌+◌}
use mathlib.Core.Path.{◌≡◌, refl, sym, ap, ◌∙◌}
use mathlib.Core.List.{List, [], ◌∷◌}
use Rattle.std.specs.Prelude.{None}
use native.Mathlib.Nat.{mod-eq_of_lt}
use Rattle.model.specs.declared.Limits.{Limits}
use Rattle.model.specs.declared.Machine.{Machine}
use Rattle.model.specs.Answers.{accepted, judgement_of}
use Rattle.model.specs.File.{program_in}
use Rattle.model.specs.Judgement.{first_broken, concluded, judgement}
use Rattle.model.specs.Claims.{Answered, work_out}
use Rattle.model.specs.Run.{Seen, RunPost, run_on}
use Rattle.model.specs.Counts.{step_bits, in_bits}
use Rattle.model.specs.Walk.{Call, host_writes, Called}
use Rattle.model.specs.Walk as Walk
use Rattle.model.proofs.Numbers.{accepted_judged}
use Rattle.model.proofs.Counts.{counts_carried}
use Rattle.model.proofs.JoiningCalls.{runs_join}
use Rattle.model.proofs.Claims.Answering.{worked_out_judged}
use Rattle.safety.proofs.Safety.{safety}
use Rattle.safety.proofs.Entries.{accepted_means}
use Rattle.madsjirn.specs.declared.answers.RunAnswer.{RunAnswer}
use Rattle.madsjirn.specs.declared.answers.VerdictAnswer.{VerdictAnswer}
use Rattle.madsjirn.specs.Numbers.{verdict_numbers, run_numbers, report_in, Leaves}
use Rattle.madsjirn.specs.Entries.{LetIn, verified, verified_by_number, worked_out_file, worked_out_by_number, seen_in, EntryPost, by_value, over_lent, exported, Hosted, done, call, HostedAnswers, HostedEarlier, HostedJoin, HostedSafety}
use Rattle.madsjirn.proofs.Decoding.{report_carried, verdict_passed, worked_passed}

-- what is read back from the numbers of an exported call is the model's
numbers_post : {limits : Limits} {file : List ℕ} {m : Machine} {memory : List ℕ} {offset budget : ℕ} (a : RunAnswer) (m' : Machine) (after : List ℕ)
    → Leaves (run_on limits file m memory offset budget) a m' after → RunPost limits file m memory offset budget (seen_in a m' after)
numbers_post {limits} {file} {m} {memory} {offset} {budget} a m' after left =
    let told : report_in a ≡ (run_on limits file m memory offset budget).report =
    ap report_in left.numbers ∙ report_carried limits file m memory offset budget in
    record { is = λ i. record { report = told i; machine = left.machine_is i; memory = left.memory_is i } }

entry_post : {limits : Limits} {file : List ℕ} {m : Machine} {memory : List ℕ} {offset budget : ℕ} {s : Seen}
    → EntryPost limits file m memory offset budget s → RunPost limits file m memory offset budget s
entry_post (by_value o after post) = post
entry_post (over_lent a m' after post) = post
entry_post (exported a m' after left) = numbers_post a m' after left

called : {limits : Limits} {file : List ℕ} {m : Machine} {memory : List ℕ} {calls : List Call} {seen : List Seen}
    → Hosted limits file m memory calls seen → Called limits file m memory calls seen
called done = Walk.done
called (call answered rest) = Walk.call (entry_post answered) (called rest)

-- an accepted file breaks no rule, and neither does one that claims were worked out for
left_accepted : (limits : Limits) (came : List ℕ) (n k : ℕ) {file : List ℕ} → file ≡ (work_out limits came).bytes
    → (work_out limits came).judgement ≡ accepted n k → first_broken limits file ≡ None
left_accepted limits came n k is accepts =
    rw is (accepted_judged limits (work_out limits came).bytes n k (worked_out_judged.stands limits came n k accepts))

let_in : {limits : Limits} {file : List ℕ} → LetIn limits file → first_broken limits file ≡ None
unfolding judgement_of
let_in {limits} {file} (verified v held meant answered) = accepted_means limits file v held meant answered
let_in {limits} {file} (verified_by_number v numbers zero_number) =
    let passed = verdict_passed limits file (sym (ap (λ (w : VerdictAnswer). w.refusal) numbers) ∙ zero_number) in
    accepted_judged limits file _ _ passed.is
let_in {limits} {file} (worked_out_file came v held meant answered) =
    left_accepted limits came held.instructions held.targets (ap (λ (a : Answered). a.bytes) meant) (sym (ap (λ (a : Answered). a.judgement) meant) ∙ ap judgement_of answered)
let_in {limits} {file} (worked_out_by_number came v left zero_number) =
    let passed = worked_passed limits came (sym (ap (λ (w : VerdictAnswer). w.refusal) left.numbers) ∙ zero_number) in
    left_accepted limits came _ _ left.file_is passed.is

pub hosted_safety : HostedSafety
hosted_safety = record {
  safe = λ limits file m memory calls seen let-in-by bytes at_indirect words written hosted.
      safety.safe limits file m memory calls seen
      (record { bytes = bytes; accepted = let_in let-in-by; at_indirect = at_indirect; registers = words; written = written })
      (called hosted);
}

pub hosted_earlier : HostedEarlier
hosted_earlier = record {
  earlier = λ limits file m memory offset budget seen fits answered.
      counts_carried.earlier limits file m memory offset budget seen fits (entry_post answered);
}

pub hosted_join : HostedJoin
hosted_join = record {
  join = λ limits file m memory offset first more made before after one fits was spent then both.
      let same : in_bits step_bits (first + more) ≡ first + more = mod-eq_of_lt fits in
      runs_join limits file m memory offset first more made before after one (entry_post was) spent (entry_post then)
      (rw same at (entry_post both));
}

let_in_passed : (limits : Limits) (file : List ℕ) → first_broken limits file ≡ None → LetIn limits file
unfolding judgement verdict_numbers
let_in_passed limits file passes =
    verified_by_number (verdict_numbers (judgement limits file)) refl (ap (λ o. (verdict_numbers (concluded file o)).refusal) passes)

-- each call answers the model's numbers
answer_all : (limits : Limits) (file : List ℕ) (m : Machine) (memory : List ℕ) (calls : List Call)
    → (seen : List Seen) × Hosted limits file m memory calls seen
answer_all limits file m memory [] = ([], done)
answer_all limits file m memory (c ∷ cs) =
    let s : Seen = run_on limits file m (host_writes (program_in file) memory c) c.offset c.budget in
    let left : Leaves s (run_numbers s.report) s.machine s.memory = record { numbers = refl; machine_is = refl; memory_is = refl } in
    let rest = answer_all limits file s.machine s.memory cs in
    (seen_in (run_numbers s.report) s.machine s.memory ∷ rest.0, call (exported _ _ _ left) rest.1)

pub hosted_answers : HostedAnswers
hosted_answers = record { let_in = let_in_passed; answers = answer_all }
