-- `words::bytes::bytes_at` meets its contract, where not all N are there: the array has what the closure gives at each index.
-- Assumes nothing.
use Rattle.std.proofs.Common.{rules, ◌≡◌, ℕ, ◌+◌, ◌-◌, List, length, take, drop, get_or, arith, ◌∙◌}
use Rattle.std.proofs.lemmas.Grind.{common_steps}
use Rattle.words.proofs.Made.{made_of}
use Rattle.words.proofs.bytes.bytes_at.Goals as goal

pub returns-then-at-bytes : goal.returns-then-at-bytes
returns-then-at-bytes g c = λ i below.
    let rest : List ℕ = take (length c.args.bytes.now - c.args.at) (drop c.args.at c.args.bytes.now) in
    let same : get_or rest i 0 ≡ get_or c.args.bytes.now (c.args.at + i) 0 = grind (arith, common_steps) in
    made_of _ _ (λ j. get_or rest j 0) (λ x r f' called. search rules) _ _ c.from_fn-taken.ensures.items i below ∙ same
