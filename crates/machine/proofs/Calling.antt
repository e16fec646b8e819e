-- A call: what is judged before its steps, and what the host sees of it. Assumes nothing.
use Rattle.std.specs.Prelude.{◌≡◌, ℕ, ◌+◌, ◌-◌, ◌<◌, ◌≤◌, true, List, ◌++◌, length, take, drop, Ok, Err, Some}
use mathlib.Core.Path.{sym, ap, ◌∙◌}
use native.Mathlib.Nat.{add-sub_cancel_left}
use borrow.Author.Tests.{lt-ltb, le-ltb, lt-leb}
use Rattle.model.specs.declared.Layout.{Layout}
use Rattle.model.specs.declared.Limits.{Limits}
use Rattle.model.specs.declared.Machine.{Machine}
use Rattle.model.specs.declared.Outcome.{Outcome}
use Rattle.model.specs.declared.Refusal.{Refusal}
use Rattle.model.specs.Obligations.{fault, first_fault}
use Rattle.model.specs.Answers.{fault_of, reported, report_of}
use Rattle.model.specs.File.{code_in, targets_in, layout_in, program_in}
use Rattle.model.specs.Limits.{loadable}
use Rattle.model.specs.Rules.{Runnable}
use Rattle.model.specs.Run.{run, splice, finished, runnable, run_on, RunPost}
use Rattle.model.proofs.Faults.{head_met, head_unmet, append_faultless, append_faulty}
use Rattle.model.proofs.JoiningCalls.{run_on_runs}
use Rattle.model.proofs.Memory.{stretch-length}
use Rattle.reader.specs.declared.module.Module.{Module}
use Rattle.reader.proofs.Passes.{LoadFacts}
use Rattle.machine.specs.Core.{LoopPost, outcome_of, seen_of, seen_by}
use Rattle.reader.specs.Readings.{program}

-- what the host sees
module _ (limits : Limits) (file : List ℕ) (m : Machine) (memory : List ℕ) (offset budget : ℕ) where
  -- a refusal that is the first fault is what the host sees, with nothing changed
  pub refused_post : (r : Refusal) → first_fault (runnable limits file m memory offset) ≡ Some (fault_of r)
      → RunPost limits file m memory offset budget (seen_by m (Err r) memory)
  unfolding run_on seen_of report_of outcome_of
  refused_post r first = record { is = rw first }

  -- what the loop came to on the lent part is what the host sees
  finished_post : Runnable limits file m memory offset → (o : Outcome) (part : List ℕ) (size : ℕ) → size ≡ (layout_in file).size
      → LoopPost (run (program_in file) budget m (take size (drop offset memory))) o part
      → RunPost limits file m memory offset budget
      (seen_by m (Ok o) (take offset memory ++ (part ++ drop size (drop offset memory))))
  unfolding seen_of report_of splice outcome_of
  finished_post asked o part size is-size post = record {
    is = (λ i. record {
      report = reported (post.completion i) (post.count i);
      machine = post.machine i;
      memory = take offset memory ++ (post.region i ++ drop size (drop offset memory));
    })
        ∙ ap (λ (s : ℕ). finished offset s memory (run (program_in file) budget m (take s (drop offset memory)))) is-size
        ∙ sym (run_on_runs limits file m memory offset budget asked);
  }

-- what is judged before the steps
module _ (limits : Limits) (file : List ℕ) (m : Machine) (memory : List ℕ) (offset : ℕ) where
  -- 1 to 7 and 17: what the reader names
  pub unloadable : (r : Refusal) → first_fault (loadable limits file) ≡ Some (fault_of r)
      → first_fault (runnable limits file m memory offset) ≡ Some (fault_of r)
  unfolding runnable
  unloadable r named = append_faulty (loadable limits file) _ (fault_of r) named

  module _ {l : Layout} {n k : ℕ} (load : LoadFacts true limits file l n k) where
    -- 14
    pub bad_pc : n ≤ m.pc → first_fault (runnable limits file m memory offset) ≡ Some (fault 14 0)
    unfolding runnable
    bad_pc outside =
        append_faultless (loadable limits file) _ load.found ∙ head_unmet _ _ (le-ltb _ _ (rw load.read.count_is at outside))

    module _ (inside : m.pc < n) where
      -- 15
      pub no_room : length memory < offset + l.size → first_fault (runnable limits file m memory offset) ≡ Some (fault 15 0)
      unfolding runnable
      no_room short =
          append_faultless (loadable limits file) _ load.found
          ∙ head_met _ _ (lt-ltb _ _ (rw load.read.count_is at inside))
          ∙ head_unmet _ _ (lt-leb _ _ (rw load.read.same_layout at short))

  -- neither: the run has what it asks for, and so has the loop, on the module and on the part that is lent, from the offset to the
  -- offset plus the size
  module _ (l : Module) (load : LoadFacts true limits file l.layout l.held.instructions l.held.targets) (inside : m.pc < l.held.instructions)
      (fits : offset + l.layout.size ≤ length memory) where
    part_size : offset + l.layout.size - offset ≡ l.layout.size
    part_size = add-sub_cancel_left offset l.layout.size

    asked : Runnable limits file m memory offset
    asked = record {
      file_rules = load.read.kept;
      held = load.held;
      pc_inside = rw load.read.count_is at inside;
      fits = rw load.read.same_layout at fits;
    }

    pub part_room : length (take (offset + l.layout.size - offset) (drop offset memory)) ≡ l.layout.size
    part_room = rw part_size (stretch-length offset l.layout.size memory fits)

    pub ran_post : l.code.now ≡ code_in file → l.targets.now ≡ targets_in file → (budget : ℕ) (o : Outcome) (part : List ℕ)
        → LoopPost (run (program l) budget m (take (offset + l.layout.size - offset) (drop offset memory))) o part
        → RunPost limits file m memory offset budget
        (seen_by m (Ok o) (take offset memory ++ (part ++ drop (offset + l.layout.size - offset) (drop offset memory))))
    ran_post is_code is_targets budget o part post =
        let size : offset + l.layout.size - offset ≡ (layout_in file).size = part_size ∙ ap (λ (x : Layout). x.size) load.read.same_layout in
        let same : program l ≡ program_in file = rw (is_code, is_targets, load.read.same_layout) in
        finished_post limits file m memory offset budget asked o part (offset + l.layout.size - offset) size (rw same at post)
