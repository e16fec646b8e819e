-- The loop of document 01, as a file: it is accepted, with a guard of 7 too; with a guard of 6, or with a claim that ends where the
-- region ends, it is refused. So there is a module to feed to the walk, and the verdict is neither always yes nor always no.
-- By computation. Assumes nothing.
use Prim.Native.Nat.{ℕ, zero, suc, ◌<◌}
use mathlib.Core.Path.{◌≡◌, refl, sym, subst}
use mathlib.Core.Bool.{Bool, true, ◌&&◌}
use mathlib.Core.Logic.{⊎_elim}
use mathlib.Core.List.Memᴰ
use mathlib.Core.List.{List, [], ◌∷◌}
use Rattle.std.specs.Prelude.{None}
use native.Mathlib.Omega.{arith}
use lib.Dec.{ltb}
use lib.ListN.{get_or, replicate, length-replicate}
use borrow.Author.Tests.{ltb-true}
use Rattle.model.specs.Words.{wrap}
use Rattle.model.specs.Instructions.{carried, guarded}
use Rattle.model.specs.Step.{in_region, in_zones, accessing, effect, addresses_from, settle, step_of, step}
use Rattle.model.specs.File.{program_in}
use Rattle.model.specs.Limits.{box_limits}
use Rattle.model.specs.Judgement.{first_broken}
use Rattle.model.specs.Run.{run, splice, Seen}
use Rattle.model.specs.Walk.{Call, host_writes, walk_call, walk, seen_in}
use Rattle.model.specs.Safety.{Bytes, Fed}
use Rattle.model.specs.Loop.{loop, start, zeros, calling}
use Rattle.model.specs.Promises.{LoopJudged, LoopWalked}
use Rattle.model.proofs.Tests.{and_left, and_right}
use Rattle.model.proofs.Verdicts.{verdict}

-- ---- its verdicts

pub loop_judged : LoopJudged
unfolding loop verdict
loop_judged = record { verdicts = refl }

loop_accepted : first_broken box_limits loop ≡ None
unfolding loop verdict
loop_accepted = refl

-- ---- two calls of it

unfoldable are_bytes : List ℕ → Bool
are_bytes [] = true
are_bytes (b ∷ bs) = ltb b 256 && are_bytes bs

bytes_below : (bs : List ℕ) → are_bytes bs ≡ true → (i : ℕ) → get_or bs i 0 < 256
unfolding are_bytes
bytes_below [] passes i = omega arith
bytes_below (b ∷ bs) passes zero = ltb-true b 256 (and_left (ltb b 256) (are_bytes bs) passes)
bytes_below (b ∷ bs) passes (suc i) = bytes_below bs (and_right (ltb b 256) (are_bytes bs) passes) i

zero_bytes : (n : ℕ) → Bytes n (replicate n 0)
zero_bytes n = record { long = length-replicate n 0; small = λ i. zero_at n i }
  where
    zero_at : (m i : ℕ) → get_or (replicate m 0) i 0 < 256
    zero_at zero i = omega arith
    zero_at (suc m) zero = omega arith
    zero_at (suc m) (suc i) = zero_at m i

loop_fed : Fed box_limits loop start (calling 3 ∷ calling 2 ∷ [])
unfolding loop verdict are_bytes
loop_fed = record {
  bytes = bytes_below loop refl;
  accepted = loop_accepted;
  at_indirect = refl;
  registers = record { eight = refl; small = λ r. omega (arith, (zero_bytes 8).small r) };
  written = λ c among. ⊎_elim (by_call c 3) (λ later. by_call c 2 (Memᴰ.eq_of_singleton later)) (Memᴰ.cases_cons among);
}
  where
    by_call : (c : Call) (budget : ℕ) → c ≡ calling budget → Bytes 4096 c.bytes
    by_call c budget is = subst (λ (d : Call). Bytes 4096 d.bytes) (sym is) (zero_bytes 4096)

-- the calls' answers
unfoldable walked : List Seen
unfolding loop verdict walk walk_call host_writes run step step_of settle effect accessing carried guarded wrap in_region in_zones addresses_from splice seen_in
walked = seen_in (walk (program_in loop) start zeros (calling 3 ∷ calling 2 ∷ []))

pub loop_walked : LoopWalked
unfolding walked
loop_walked = record { fed = loop_fed; reports = refl; machines = refl }
