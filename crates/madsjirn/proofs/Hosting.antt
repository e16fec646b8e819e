-- What a host has after a run: from what `value::run` and `run_answer` ensure. Assumes nothing.
use Prim.Native.Nat.{ℕ}
use mathlib.Core.Path.{◌≡◌, ap, ◌∙◌}
use mathlib.Core.List.{List}
use Rattle.model.specs.declared.Answer.{Answer}
use Rattle.model.specs.declared.Limits.{Limits}
use Rattle.model.specs.declared.Machine.{Machine}
use Rattle.model.specs.Answers.{report_of}
use Rattle.model.specs.Run.{Seen, run_on, RunPost}
use Rattle.machine.specs.Core.{seen_of}
use Rattle.madsjirn.specs.declared.answers.RunAnswer.{RunAnswer}
use Rattle.madsjirn.specs.Numbers.{run_numbers, Leaves}

pub leaves : (limits : Limits) (file : List ℕ) (m : Machine) (memory : List ℕ) (offset budget : ℕ) (r : Answer) (n : RunAnswer) (m' : Machine) (bytes : List ℕ)
    → RunPost limits file m memory offset budget (seen_of r m' bytes) → n ≡ run_numbers (report_of r)
    → Leaves (run_on limits file m memory offset budget) n m' bytes
unfolding seen_of
leaves limits file m memory offset budget r n m' bytes post carried = record {
  numbers = carried ∙ ap (λ (s : Seen). run_numbers s.report) post.is;
  machine_is = ap (λ (s : Seen). s.machine) post.is;
  memory_is = ap (λ (s : Seen). s.memory) post.is;
}
