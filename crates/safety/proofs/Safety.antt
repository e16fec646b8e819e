-- Demand 3, proved: whatever the calls of an accepted module answered and left, it is the walk's, and the walk is safe.
-- Assumes nothing.
use Prim.Native.Nat.{ℕ}
use mathlib.Core.Path.{◌≡◌, refl, sym, ap, ◌∙◌, subst}
use mathlib.Core.Logic.{⊎_elim, inr}
use mathlib.Core.List.Memᴰ
use mathlib.Core.List.{List, ◌∷◌, Memᴰ}
use native.Mathlib.Omega.{arith}
use lib.ListN.{length-append}
use Rattle.model.specs.declared.Limits.{Limits}
use Rattle.model.specs.declared.Machine.{Machine}
use Rattle.model.specs.Program.{Program}
use Rattle.model.specs.File.{program_in}
use Rattle.model.specs.Run.{Seen}
use Rattle.model.specs.Walk.{Call, Walked, walk_call, walk, seen_in, log_in, total_steps, Called, done, call}
use Rattle.model.specs.Safety.{Bytes, CallSafe, Safe, Safety}
use Rattle.safety.proofs.Invariant.{Invariant, Accepted, accepted_file, claim_kept, at_indirect}
use Rattle.safety.proofs.SafeCalls.{Framed, CallKept, call_kept}

module _ {limits : Limits} {file : List ℕ} (accepted : Accepted limits file) where
  abbrev p : Program
  p = program_in file

  -- the host writes as many bytes as the region has
  abbrev AllWritten : List Call → Type 0
  AllWritten calls = (c : Call) → Memᴰ c calls → Bytes p.layout.size c.bytes

  -- the first call of a list
  first_safe : {m : Machine} {start : List ℕ} {c : Call} (cs : List Call) {w : Walked} → CallKept limits file m start c w
      → CallSafe p start (c ∷ cs) w
  first_safe {c = c} cs kept = record {
    steps = kept.steps;
    answer = kept.unviolated;
    length_kept = λ now of. (kept.memories now of).length_kept;
    own = λ now of at out. rw kept.starts ((kept.memories now of).outside at (rw kept.call at out));
    others = λ now of at out. (kept.memories now of).outside at (out c (Memᴰ.head refl));
  }

  -- a later call, where the first changed the memory in its region only
  later_safe : {start : List ℕ} {c : Call} {cs : List Call} {now : List ℕ} {w : Walked} → Framed p start c now → CallSafe p now cs w
      → CallSafe p start (c ∷ cs) w
  later_safe {start} {c} {cs} {now} {w} framed safe = record {
    steps = safe.steps;
    answer = safe.answer;
    length_kept = λ memory of. safe.length_kept memory of ∙ framed.length_kept;
    own = λ memory of at out. safe.own memory of at (rw framed.length_kept out);
    others = λ memory of at out.
        safe.others memory of at (λ d among. rw framed.length_kept (out d (Memᴰ.tail among)))
        ∙ framed.outside at (out c (Memᴰ.head refl));
  }

  -- the first call and those after it
  all_safe : {m : Machine} {start : List ℕ} {c : Call} {cs : List Call} {ss : List Seen} → Invariant p m
      → CallKept limits file m start c (walk_call p m start c)
      → Safe p (walk_call p m start c).seen.machine (walk_call p m start c).seen.memory cs ss
      → Safe p m start (c ∷ cs) ((walk_call p m start c).seen ∷ ss)
  unfolding walk seen_in log_in total_steps
  all_safe {m} {start} {c} {cs} {ss} invariant kept rest = record {
    answers = ap (λ (l : List Seen). w.seen ∷ l) rest.answers;
    counts = omega (arith, kept.counts, rest.counts, length-append w.log (log_in (walk p w.seen.machine w.seen.memory cs)));
    at_start = claim_kept invariant;
    each_call = λ v among.
        ⊎_elim (λ is. subst (CallSafe p start (c ∷ cs)) (sym is) (first_safe cs kept))
        (λ later. later_safe (kept.memories w.seen.memory (inr refl)) (rest.each_call v later))
        (Memᴰ.cases_cons among);
  }
    where
      w : Walked
      w = walk_call p m start c

  -- what the calls answered and left, from a machine with the invariant
  pub calls_safe : {m : Machine} {start : List ℕ} {calls : List Call} {seen : List Seen} → Invariant p m → AllWritten calls
      → Called limits file m start calls seen → Safe p m start calls seen
  unfolding walk seen_in log_in total_steps
  calls_safe invariant bytes done = record {
    answers = refl;
    counts = refl;
    at_start = claim_kept invariant;
    each_call = λ w among. absurd (Memᴰ.not-nil among);
  }
  calls_safe {m} {start} invariant bytes (call {c = c} {cs = cs} {s = s} {ss = ss} promised later) =
      let kept = call_kept accepted invariant start c (bytes c (Memᴰ.head refl)) in
      let answered : s ≡ (walk_call p m start c).seen = promised.is ∙ kept.answer in
      let rest = calls_safe (rw answered kept.invariant) (λ d among. bytes d (Memᴰ.tail among)) later in
      rw answered (all_safe invariant kept (rw answered at rest))

-- the whole list's claim
pub safety : Safety
safety = record {
  safe = λ limits file m start calls seen fed called.
      let accepted : Accepted limits file = accepted_file limits file fed.bytes fed.accepted in
      calls_safe accepted (at_indirect accepted m.pc m.registers fed.at_indirect fed.registers) fed.written called;
}
