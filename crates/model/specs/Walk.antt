-- The walk: what a list of calls of an accepted module comes to, step by step. Assumes nothing.
use Rattle.std.specs.Prelude.{ℕ, ◌+◌, cond, List, [], ◌∷◌, ◌++◌, leb, length}
use Rattle.model.specs.declared.Limits.{Limits}
use Rattle.model.specs.declared.Machine.{Machine}
use Rattle.model.specs.Obligations.{fault}
use Rattle.model.specs.Answers.{steps_in}
use Rattle.model.specs.Program.{Program}
use Rattle.model.specs.Step.{Step}
use Rattle.model.specs.File.{program_in}
use Rattle.model.specs.Run.{Run, run, stretch, splice, Seen, unchanged, finished, RunPost}

-- "An item is an offset, a budget and new bytes for the region, as many as its size."
pub record Call : Type 0 where
  pub offset : ℕ
  pub budget : ℕ
  pub bytes : List ℕ

-- a call of the walk: the memory before it, what is seen after it, and the steps that it logged
pub record Walked : Type 0 where
  pub call : Call
  pub before : List ℕ
  pub seen : Seen
  pub log : List Step

-- "The host first writes the item's bytes there, perhaps those it finds."; an item "whose offset + size exceeds the memory
-- .. has no region"
unfoldable pub host_writes : Program → List ℕ → Call → List ℕ
host_writes p memory c =
    cond (leb (c.offset + p.layout.size) (length memory)) (splice c.offset p.layout.size memory c.bytes) memory

-- "Then the listed step is made on record and region until one ends the run or the budget is used; the answer is the ending,
-- spent if none, and the number of steps."
abbrev pub walked_run : Call → ℕ → List ℕ → List ℕ → Run → Walked
walked_run c size before written r =
    record { call = c; before = before; seen = finished c.offset size written r; log = r.log }

-- "An item whose offset + size exceeds the memory is refused: 15 at 0, 0 steps, nothing changed"
abbrev pub walked_refusal : Call → Machine → List ℕ → Walked
walked_refusal c m memory =
    record { call = c; before = memory; seen = unchanged m memory (fault 15 0); log = [] }

unfoldable pub walk_call : Program → Machine → List ℕ → Call → Walked
walk_call p m memory c =
    let size = p.layout.size in
    let written = host_writes p memory c in
    cond (leb (c.offset + size) (length memory))
    (walked_run c size memory written (run p c.budget m (stretch c.offset size written)))
    (walked_refusal c m memory)

-- "Each takes both as the last left them"
unfoldable pub walk : Program → Machine → List ℕ → List Call → List Walked
walk p m memory [] = []
walk p m memory (c ∷ cs) =
    let w = walk_call p m memory c in
    w ∷ walk p w.seen.machine w.seen.memory cs

-- "every answer, refused ones too, with the record and all memory after it"; and the log
unfoldable pub seen_in : List Walked → List Seen
seen_in [] = []
seen_in (w ∷ ws) = w.seen ∷ seen_in ws

unfoldable pub log_in : List Walked → List Step
log_in [] = []
log_in (w ∷ ws) = w.log ++ log_in ws

-- the counts, added up
unfoldable pub total_steps : List Seen → ℕ
total_steps [] = 0
total_steps (s ∷ ss) = steps_in s.report + total_steps ss

-- "The list's runs are called in turn, all of that module, on one record and one memory .. and nobody writes either meanwhile
-- but the host": what the calls answered and left, being anything that the promise of run allows
pub data Called (limits : Limits) (file : List ℕ) : Machine → List ℕ → List Call → List Seen → Type 0 where
  done : {m : Machine} {memory : List ℕ} → Called limits file m memory [] []
  call : {m : Machine} {memory : List ℕ} {c : Call} {cs : List Call} {s : Seen} {ss : List Seen}
      → RunPost limits file m (host_writes (program_in file) memory c) c.offset c.budget s
      → Called limits file s.machine s.memory cs ss
      → Called limits file m memory (c ∷ cs) (s ∷ ss)
