-- Demand 3 for two calls, clause by clause: each from the theorem on lists. Assumes nothing.
use Prim.Native.Nat.{ℕ, ◌+◌}
use mathlib.Core.Path.{◌≡◌, refl, sym, ap, ◌∙◌, subst}
use mathlib.Core.Logic.{inl, inr, ⊎_elim}
use mathlib.Core.List.Memᴰ
use mathlib.Core.List.{List, [], ◌∷◌, ◌++◌, Memᴰ}
use native.Mathlib.Omega.{arith}
use lib.Dec.{leb}
use lib.ListN.{length, get_or, length-append}
use Rattle.model.specs.declared.Limits.{Limits}
use Rattle.model.specs.declared.Machine.{Machine}
use Rattle.model.specs.Program.{Program}
use Rattle.model.specs.Step.{Step}
use Rattle.model.specs.File.{program_in}
use Rattle.model.specs.Answers.{steps_in}
use Rattle.model.specs.Run.{Seen, splice}
use Rattle.model.specs.Walk.{Call, Walked, walk_call, walk, seen_in, log_in, total_steps, Called}
use Rattle.model.specs.Safety.{InRegionOf, MemoryOf, StepSafe, CallSafe, Safe, Fed}
use Rattle.model.specs.Clauses.{Outside, LoggedIn, walk_first, walk_second, TwoSafe, TwoCalls}
use Rattle.model.proofs.Tests.{by_cond}
use Rattle.safety.proofs.Safety.{safety}

-- a call's item and the memory before it are those that it was walked with
module _ (p : Program) (m : Machine) (memory : List ℕ) (c : Call) where
  call_is : (walk_call p m memory c).call ≡ c
  unfolding walk_call
  call_is = by_cond (λ (w : Walked). w.call ≡ c) (leb (c.offset + p.layout.size) (length memory)) (λ _. refl) (λ _. refl)

  before_is : (walk_call p m memory c).before ≡ memory
  unfolding walk_call
  before_is = by_cond (λ (w : Walked). w.before ≡ memory) (leb (c.offset + p.layout.size) (length memory)) (λ _. refl) (λ _. refl)

module _ (limits : Limits) (file : List ℕ) (m : Machine) (start : List ℕ) (c d : Call) (s t : Seen)
    (fed : Fed limits file m (c ∷ d ∷ [])) (called : Called limits file m start (c ∷ d ∷ []) (s ∷ t ∷ [])) where
  abbrev p : Program
  p = program_in file

  abbrev w : Walked
  w = walk_first p m start c

  abbrev v : Walked
  v = walk_second p m start c d

  safe : Safe p m start (c ∷ d ∷ []) (s ∷ t ∷ [])
  safe = safety.safe limits file m start (c ∷ d ∷ []) (s ∷ t ∷ []) fed called

  walk_is : walk p m start (c ∷ d ∷ []) ≡ w ∷ v ∷ []
  unfolding walk
  walk_is = refl

  answers : s ∷ t ∷ [] ≡ w.seen ∷ v.seen ∷ []
  unfolding seen_in
  answers = safe.answers ∙ ap seen_in walk_is

  first_answer : s ≡ w.seen
  first_answer = let both = answers in cc

  second_answer : t ≡ v.seen
  second_answer = let both = answers in cc

  first_safe : CallSafe p start (c ∷ d ∷ []) w
  first_safe = safe.each_call w (rw walk_is (Memᴰ.head refl))

  second_safe : CallSafe p start (c ∷ d ∷ []) v
  second_safe = safe.each_call v (rw walk_is (Memᴰ.tail (Memᴰ.head refl)))

  each_step : (x : Step) → LoggedIn w v x → StepSafe p x
  each_step x logged = ⊎_elim (first_safe.steps x) (second_safe.steps x) (Memᴰ.append_cases w.log logged)

  counted : total_steps (s ∷ t ∷ []) ≡ length (log_in (w ∷ v ∷ []))
  counted = safe.counts ∙ ap (λ (ws : List Walked). length (log_in ws)) walk_is

  counts : steps_in s.report + steps_in t.report ≡ length w.log + length v.log
  unfolding total_steps log_in
  counts = let all = counted in omega (arith, all, length-append w.log (v.log ++ []), length-append v.log [])

  -- an offset outside a call's region, in the theorem's terms
  apart : (e : Call) (at : ℕ) → Outside p start e at → InRegionOf p (length start) e at → ⊥
  apart e at outside r = outside r.fits r.from r.to

  module _ (x : Walked) (e : Call) (before : List ℕ) (is_call : x.call ≡ e) (is-before : x.before ≡ before) (kept : CallSafe p start (c ∷ d ∷ []) x) where
    own_memory : (memory : List ℕ) → MemoryOf p x memory → (at : ℕ) → Outside p start e at → get_or memory at 0 ≡ get_or before at 0
    own_memory memory of at outside = kept.own memory of at (rw is_call (apart e at outside)) ∙ ap (λ (l : List ℕ). get_or l at 0) is-before

    own_step : (y : Step) → Memᴰ y x.log → (at : ℕ) → Outside p start e at
        → get_or (splice e.offset p.layout.size before y.region) at 0 ≡ get_or before at 0
    own_step y logged at outside = own_memory (splice e.offset p.layout.size before y.region) (inl (y, logged, rw (is_call, is-before))) at outside

  second_before : v.before ≡ s.memory
  second_before = before_is p w.seen.machine w.seen.memory d ∙ sym (ap (λ (x : Seen). x.memory) first_answer)

  second_call : v.call ≡ d
  second_call = call_is p w.seen.machine w.seen.memory d

  first_memory_is : s.memory ≡ w.seen.memory
  first_memory_is = ap (λ (x : Seen). x.memory) first_answer

  second_memory_is : t.memory ≡ v.seen.memory
  second_memory_is = ap (λ (x : Seen). x.memory) second_answer

  -- an offset in neither call's region lies in no call's
  beside : (at : ℕ) → Outside p start c at → Outside p start d at → (e : Call) → Memᴰ e (c ∷ d ∷ []) → InRegionOf p (length start) e at → ⊥
  beside at of_c of-d e among =
      ⊎_elim (λ is. subst Apart (sym is) (apart c at of_c)) (λ later. subst Apart (sym (Memᴰ.eq_of_singleton later)) (apart d at of-d))
      (Memᴰ.cases_cons among)
    where
      Apart : Call → Type 0
      Apart x = InRegionOf p (length start) x at → ⊥

  two_safe : TwoSafe p m start c d s t w v
  two_safe = record {
    first_answer = first_answer;
    second_answer = second_answer;
    counts = counts;
    reached = λ x logged at among. let zones = (each_step x logged).reached at among in (zones.above, zones.below);
    landed = λ x logged to is. rw is at (each_step x logged).landing;
    landed_via = λ x logged to is. rw is at (each_step x logged).landing;
    claim_at_start = safe.at_start.kept;
    claim = λ x logged. (each_step x logged).claim.kept;
    inside = λ x logged. (each_step x logged).inside;
    first_inside = λ n is. first_safe.answer n (sym (ap (λ (x : Seen). x.report) first_answer) ∙ is);
    second_inside = λ n is. second_safe.answer n (sym (ap (λ (x : Seen). x.report) second_answer) ∙ is);
    first_steps = own_step w c start (call_is p m start c) (before_is p m start c) first_safe;
    second_steps = own_step v d s.memory second_call second_before second_safe;
    first_memory = own_memory w c start (call_is p m start c) (before_is p m start c) first_safe s.memory (inr first_memory_is);
    second_memory = own_memory v d s.memory second_call second_before second_safe t.memory (inr second_memory_is);
    untouched_steps = λ x logged at beside-c beside-d.
        second_safe.others (splice d.offset p.layout.size s.memory x.region) (inl (x, logged, rw (second_call, second_before))) at
        (beside at beside-c beside-d);
    untouched = λ at beside-c beside-d.
        second_safe.others t.memory (inr second_memory_is) at (beside at beside-c beside-d);
    lengths = (first_safe.length_kept s.memory (inr first_memory_is), second_safe.length_kept t.memory (inr second_memory_is));
  }

pub two_calls : TwoCalls
two_calls = record { clauses = two_safe }
