-- What the contracts cite besides the model's definitions. Assumes nothing.
use Rattle.std.specs.Prelude.{ℕ, ◌+◌, ◌≡◌, List, ◌++◌, length, take, drop}

-- a buffer after a text was written into it at a place: the text ends at `end`, and the rest of the buffer is as before
pub record Wrote (before after : List ℕ) (at : ℕ) (text : List ℕ) (end : ℕ) : Type 0 where
  pub ends : end ≡ at + length text
  pub buffer : after ≡ take at before ++ text ++ drop (at + length text) before
