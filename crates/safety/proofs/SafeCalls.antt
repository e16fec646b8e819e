-- One call of an accepted module's walk, from a machine with the invariant: the invariant holds after it, its steps are as
-- demand 3 says, its memories differ from the one before it in its region only, and what run answers is the walk's.
-- Assumes nothing.
use Prim.Native.Nat.{ℕ, ◌+◌, ◌≤◌, ◌<◌}
use mathlib.Core.Path.{◌≡◌, refl, ap, ◌∙◌}
use mathlib.Core.Logic.{inl, inr}
use mathlib.Core.List.Memᴰ
use mathlib.Core.List.{List, Memᴰ}
use Rattle.std.specs.Prelude.{Some}
use native.Mathlib.Omega.{arith}
use native.Mathlib.Decide.{dec_lt, dec_le}
use lib.ListN.{length, get_or}
use borrow.Author.Tests.{lt-ltb, le-leb, lt-leb}
use Rattle.model.specs.declared.Ending.TheVariants.{Violated}
use Rattle.model.specs.declared.Limits.{Limits}
use Rattle.model.specs.declared.Machine.{Machine}
use Rattle.model.specs.Obligations.{fault, first_fault}
use Rattle.model.specs.Answers.{ended, steps_in}
use Rattle.model.specs.Program.{Program}
use Rattle.model.specs.Step.{Step}
use Rattle.model.specs.File.{code_in, instruction_count, layout_in, program_of, program_in}
use Rattle.model.specs.Limits.{loadable}
use Rattle.model.specs.Rules.{FileKept, HeldBy, Runnable}
use Rattle.model.specs.Run.{Run, run, stretch, splice, unchanged, finished, runnable, run_on}
use Rattle.model.specs.Safety.{Bytes, StepSafe, InRegionOf, MemoryOf}
use Rattle.model.specs.Walk.{Call, Walked, host_writes, walked_run, walked_refusal, walk_call}
use Rattle.model.proofs.Tests.{cond_true, cond_false}
use Rattle.model.proofs.Faults.{append_faultless}
use Rattle.model.proofs.Accepted.{kept_iff}
use Rattle.model.proofs.Memory.{splice-length, splice_below, splice_above, stretch-splice, splice-splice}
use Rattle.model.proofs.Targets.{code_length}
use Rattle.model.proofs.JoiningCalls.{run_on_runs}
use Rattle.safety.proofs.Invariant.{Invariant, Accepted}
use Rattle.safety.proofs.SafeRun.{RunKept, run_kept}

-- a memory that differs from the one before a call in the call's region only
pub record Framed (p : Program) (before : List ℕ) (c : Call) (now : List ℕ) : Type 0 where
  pub length_kept : length now ≡ length before
  pub outside : (at : ℕ) → (InRegionOf p (length before) c at → ⊥) → get_or now at 0 ≡ get_or before at 0

-- what holds of one call
pub record CallKept (limits : Limits) (file : List ℕ) (m : Machine) (before : List ℕ) (c : Call) (w : Walked) : Type 0 where
  pub call : w.call ≡ c
  pub starts : w.before ≡ before
  pub answer : run_on limits file m (host_writes (program_in file) before c) c.offset c.budget ≡ w.seen
  pub invariant : Invariant (program_in file) w.seen.machine
  pub unviolated : (n : ℕ) → w.seen.report ≡ ended Violated n → ⊥
  pub counts : steps_in w.seen.report ≡ length w.log
  pub steps : (s : Step) → Memᴰ s w.log → StepSafe (program_in file) s
  pub memories : (now : List ℕ) → MemoryOf (program_in file) w now → Framed (program_in file) before c now

-- the size that run reads is the module's
size_in : (file : List ℕ) → (layout_in file).size ≡ (program_in file).layout.size
unfolding program_of
size_in file = refl

-- ---- a call that has no region

-- the refusal of a run that only lacks its region
no_room : (limits : Limits) (file : List ℕ) (m : Machine) (memory : List ℕ) (offset : ℕ) → FileKept file → HeldBy limits file → m.pc < instruction_count (code_in file)
    → length memory < offset + (layout_in file).size → first_fault (runnable limits file m memory offset) ≡ Some (fault 15 0)
unfolding runnable first_fault
no_room limits file m memory offset kept held inside short =
    append_faultless (loadable limits file) _ ((kept_iff limits file).1 (kept, held))
    ∙ rw (lt-ltb _ _ inside, lt-leb _ _ short)

module _ {limits : Limits} {file : List ℕ} (accepted : Accepted limits file) {m : Machine} (invariant : Invariant (program_in file) m)
    (before : List ℕ) (c : Call) where
  abbrev p : Program
  p = program_in file

  abbrev size : ℕ
  size = p.layout.size

  abbrev written : List ℕ
  written = host_writes p before c

  pc_inside : m.pc < instruction_count (code_in file)
  pc_inside = rw code_length at invariant.inside

  module _ (short : length before < c.offset + size) where
    -- the walk refuses it, and so does run
    refused : walk_call p m before c ≡ walked_refusal c m before
    unfolding walk_call
    refused = cond_false _ _ _ (lt-leb _ _ short)

    nothing_written : written ≡ before
    unfolding host_writes
    nothing_written = cond_false _ _ _ (lt-leb _ _ short)

    answered_refusal : run_on limits file m written c.offset c.budget ≡ unchanged m before (fault 15 0)
    unfolding run_on
    answered_refusal =
        rw (nothing_written, no_room limits file m before c.offset accepted.file_rules accepted.held pc_inside (omega (arith, size_in file)))

    refusal_kept : CallKept limits file m before c (walked_refusal c m before)
    refusal_kept = record {
      call = refl;
      starts = refl;
      answer = answered_refusal;
      invariant = invariant;
      unviolated = λ n same. let impossible : ◌≡◌ {A = ℕ} 0 1 = cc in omega arith;
      counts = refl;
      steps = λ s logged. absurd (Memᴰ.not-nil logged);
      memories = of_refusal;
    }
      where
        of_refusal : (now : List ℕ) → MemoryOf p (walked_refusal c m before) now → Framed p before c now
        of_refusal now (inl logged) = absurd (Memᴰ.not-nil logged.1)
        of_refusal now (inr is) = rw is (record { length_kept = refl; outside = λ at out. refl })

  -- ---- a call that is run

  module _ (bytes : Bytes size c.bytes) (fits : c.offset + size ≤ length before) where
    -- a splice of the region is framed
    splice_framed : (bs : List ℕ) → Bytes size bs → Framed p before c (splice c.offset size before bs)
    splice_framed bs bytes' = record {
      length_kept = splice-length c.offset size before fits bs bytes'.long;
      outside = λ at out. below_or_above at out (dec_lt at c.offset) (dec_le (c.offset + size) at);
    }
      where
        below_or_above : (at : ℕ) → (InRegionOf p (length before) c at → ⊥) → Dec (at < c.offset) → Dec (c.offset + size ≤ at)
            → get_or (splice c.offset size before bs) at 0 ≡ get_or before at 0
        below_or_above at out (yes below) above = splice_below c.offset size before fits bs bytes'.long at below
        below_or_above at out (no not-below) (yes above) = splice_above c.offset size before fits bs bytes'.long at above
        below_or_above at out (no not-below) (no not-above) =
            absurd (out (record { fits = fits; from = omega arith; to = omega arith }))

    host_splices : written ≡ splice c.offset size before c.bytes
    unfolding host_writes
    host_splices = cond_true _ _ _ (le-leb _ _ fits)

    abbrev made : Run
    made = run p c.budget m (stretch c.offset size written)

    region_written : stretch c.offset size written ≡ c.bytes
    region_written = rw host_splices (stretch-splice c.offset size before fits c.bytes bytes.long)

    made_kept : RunKept p made
    made_kept = run_kept accepted c.budget m _ invariant (rw region_written bytes)

    -- the walk runs it, and so does run
    runs : walk_call p m before c ≡ walked_run c size before written made
    unfolding walk_call
    runs = cond_true _ _ _ (le-leb _ _ fits)

    asked : Runnable limits file m written c.offset
    asked = record {
      file_rules = accepted.file_rules;
      held = accepted.held;
      pc_inside = pc_inside;
      fits = omega (arith, size_in file, ap length host_splices, splice-length c.offset size before fits c.bytes bytes.long);
    }

    answered_run : run_on limits file m written c.offset c.budget ≡ finished c.offset size written made
    unfolding program_of
    answered_run = run_on_runs limits file m written c.offset c.budget asked

    -- what the host wrote to the region is written over
    written_over : (later : List ℕ) → splice c.offset size written later ≡ splice c.offset size before later
    written_over later = rw host_splices (splice-splice c.offset size before fits c.bytes bytes.long later)

    of_run : (now : List ℕ) → MemoryOf p (walked_run c size before written made) now → Framed p before c now
    of_run now (inl (s, logged, is)) = rw is (splice_framed s.region (made_kept.steps s logged).bytes)
    of_run now (inr is) = rw (is, written_over) (splice_framed made.region made_kept.bytes)

    run_call_kept : CallKept limits file m before c (walked_run c size before written made)
    run_call_kept = record {
      call = refl;
      starts = refl;
      answer = answered_run;
      invariant = made_kept.invariant;
      unviolated = λ n same. made_kept.unviolated (cc);
      counts = refl;
      steps = λ s logged. (made_kept.steps s logged).safe;
      memories = of_run;
    }

  -- one call of the walk
  pub call_kept : Bytes size c.bytes → CallKept limits file m before c (walk_call p m before c)
  call_kept bytes = fits_or_not (dec_le (c.offset + size) (length before))
    where
      fits_or_not : Dec (c.offset + size ≤ length before) → CallKept limits file m before c (walk_call p m before c)
      fits_or_not (yes fits) = rw (runs bytes fits) (run_call_kept bytes fits)
      fits_or_not (no too_long) =
          let short : length before < c.offset + size = omega arith in
          rw (refused short) (refusal_kept short)
