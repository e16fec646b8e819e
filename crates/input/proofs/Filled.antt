-- What stands at the start of a buffer after one read more. Assumes nothing.
use Rattle.std.proofs.Common.{◌≡◌, ℕ, ◌+◌, ◌≤◌, List, ◌++◌, length, take, sym, ap, ◌∙◌, length-take-le}
use lib.Seq.{take-append-add, take-append-le}

pub take_filled : (n got : ℕ) (xs part rest : List ℕ) → n ≤ length xs → got ≤ length part
    → take (n + got) (take n xs ++ (part ++ rest)) ≡ take n xs ++ take got part
take_filled n got xs part rest within fits =
    ap (λ k. take (k + got) (take n xs ++ (part ++ rest))) (sym (length-take-le n xs within))
    ∙ take-append-add (take n xs) (part ++ rest) got
    ∙ ap (λ l. take n xs ++ l) (take-append-le got part rest fits)
