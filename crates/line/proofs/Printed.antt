-- What a program prints: of the buffer, the first bytes, as many as were written, are the line. Assumes nothing.
use Prim.Native.Nat.{ℕ, ◌≤◌}
use mathlib.Core.Path.{◌≡◌, sym}
use mathlib.Core.List.{List}
use native.Mathlib.Omega.{arith}
use lib.ListN.{length, take, length-append}
use lib.Seq.{take_at}
use Rattle.model.specs.Answers.{Judgement}
use Rattle.model.specs.Line.{line_of, LinePost}

module _ {j : Judgement} {before after : List ℕ} {n : ℕ} (post : LinePost j before after n) where
  pub line_first : take n after ≡ line_of j
  line_first = rw post.buffer (take_at (line_of j) _ n (sym post.count))

  pub line_counted : n ≡ length (take n after)
  line_counted = rw line_first post.count

  pub line_inside : n ≤ length after
  line_inside = rw post.buffer (simp length-append (omega (arith, post.count)))
