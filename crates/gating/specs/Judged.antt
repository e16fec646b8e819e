-- What a gate program does. Assumes nothing.
use Rattle.std.specs.Prelude.{ℕ, ◌<◌, List, length, Option}
use Rattle.std.specs.Io.KnownBytes.{Consumes, Appends, IsAtEnd}
use Rattle.model.specs.declared.Limits.{Limits}
use Rattle.model.specs.Judgement.{judgement}
use Rattle.model.specs.Line.{line_of}

-- "The gate program reads standard input and prints one line": all of the input was read, or 65,536 bytes of it at least, and what was
-- written is the line of their judgement. Of input and output it speaks as far as the library knows what is in them.
pub record Judged (limits : Limits) (input input' output output' : Option (List ℕ)) : Type 0 where
  pub file : List ℕ
  pub read : Consumes input input' file
  pub whole : length file < 65536 → IsAtEnd input'
  pub written : Appends output output' (line_of (judgement limits file))
