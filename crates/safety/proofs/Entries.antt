-- What `verify` ensures of an answer that is accepted, for demand 3. Assumes nothing.
use mathlib.Core.Path.{◌≡◌, sym, ap, ◌∙◌}
use Prim.Native.Nat.{ℕ}
use mathlib.Core.List.{List}
use Rattle.std.specs.Prelude.{None, Result, Ok}
use Rattle.model.specs.declared.Contents.{Contents}
use Rattle.model.specs.declared.Limits.{Limits}
use Rattle.model.specs.declared.Refusal.{Refusal}
use Rattle.model.specs.Answers.{judgement_of}
use Rattle.model.specs.Judgement.{first_broken, judgement}
use Rattle.model.proofs.Numbers.{accepted_judged}

-- a verdict of accepted means that no rule is broken; `meant` is what `verify` ensures of its answer
pub accepted_means : (limits : Limits) (file : List ℕ) (v : Result Contents Refusal) (held : Contents) → judgement_of v ≡ judgement limits file
    → v ≡ Ok held → first_broken limits file ≡ None
unfolding judgement_of
accepted_means limits file v held meant answered = accepted_judged limits file _ _ (sym meant ∙ ap judgement_of answered)
