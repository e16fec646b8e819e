-- A file that is longer than any module is judged by its first bytes: what is judged of its three fields looks at bytes that every
-- module has room for, and if all that is met there is a tail. Assumes nothing.
use Prim.Native.Nat.{ℕ, ◌+◌, ◌*◌, ◌≤◌, ◌<◌}
use mathlib.Core.Path.{◌≡◌, refl, sym, ap, ◌∙◌}
use mathlib.Core.Bool.{Bool, true, false}
use mathlib.Core.List.{List, ◌∷◌, ◌++◌}
use Rattle.std.specs.Prelude.{Some}
use native.Mathlib.Omega.{arith}
use native.Mathlib.Nat.{mul-le-mul_left}
use lib.Dec.{leb, eqb}
use lib.ListN.{length, take}
use lib.Seq.{get_or-take, length-take-le}
use borrow.Author.Tests.{le-leb, ne_eqb}
use Rattle.model.specs.declared.Limits.{Limits}
use Rattle.model.specs.Obligations.{Fault, fault, Obligation, owes, first_fault}
use Rattle.model.specs.File.{byte_at, field_length, value_at, field_end, most_instructions, most_targets, is_multiple, is_listed, field, code_start, targets_at, readable_by, readable}
use Rattle.model.specs.Limits.{loadable_by, loadable}
use Rattle.model.specs.Judgement.{obligations, first_broken, concluded, judgement}
use Rattle.model.proofs.Faults.{append_faulty}
use Rattle.model.proofs.Reflection.{eq_reflects, multiple_reflects}
use Rattle.model.proofs.Writing.{same_number}

-- ---- two lists of obligations that are refused with one fault

record RefusedAlike (os os' : List Obligation) : Type 0 where
  fault : Fault
  first : first_fault os ≡ Some fault
  second : first_fault os' ≡ Some fault

-- the same obligation comes first, and if it is met the others are refused alike
next_alike : (number place : ℕ) {met met' : Bool} {os os' : List Obligation} → met ≡ met' → (met ≡ true → RefusedAlike os os')
    → RefusedAlike (owes number place met ∷ os) (owes number place met' ∷ os')
unfolding first_fault
next_alike number place {met} {met'} {os} {os'} same others = rw (sym same) (by_head met others)
  where
    by_head : (met : Bool) → (met ≡ true → RefusedAlike os os')
        → RefusedAlike (owes number place met ∷ os) (owes number place met ∷ os')
    by_head true others = record { fault = (others refl).fault; first = (others refl).first; second = (others refl).second }
    by_head false others = record { fault = fault number place; first = refl; second = refl }

-- what comes after a refusal does not matter
followed_alike : (os os' later later' : List Obligation) → RefusedAlike os os' → RefusedAlike (os ++ later) (os' ++ later')
followed_alike os os' later later' alike = record {
  fault = alike.fault;
  first = append_faulty os later alike.fault alike.first;
  second = append_faulty os' later' alike.fault alike.second;
}

-- ---- lengths, numbers and tails

-- a number of units is at most as long as the most of them
multiple_short : (unit most n : ℕ) → 0 < unit → is_multiple unit most n ≡ true → n ≤ unit * most
multiple_short unit most n positive passes =
    let (count, _, at_most, is) = (multiple_reflects unit most n positive).0 passes in
    rw is (mul-le-mul_left unit at_most)

-- a file that goes on behind its fields has a tail
tail_fault : (bytes : List ℕ) (end : ℕ) (os : List Obligation) → end < length bytes
    → first_fault (owes 4 end (eqb (length bytes) end) ∷ os) ≡ Some (fault 4 end)
unfolding first_fault
tail_fault bytes end os longer = rw (ne_eqb (length bytes) end (λ same. omega arith))

-- ---- a long file and its first bytes

-- 50,198 is one more than the longest module has: 3 + 12, 3 + 8 · 4,096 and 3 + 68 · 256 bytes
module _ (file : List ℕ) (m : ℕ) (long : 50198 ≤ m) (inside : m ≤ length file) where
  abbrev front : List ℕ
  front = take m file

  front_length : length front ≡ m
  front_length = length-take-le m file inside

  same_byte : (i : ℕ) → i < 50198 → byte_at front i ≡ byte_at file i
  same_byte i below = get_or-take m file i 0 (omega arith)

  same_length : (at : ℕ) → value_at at ≤ 50198 → field_length front at ≡ field_length file at
  same_length at header = same_number 2 front file (at + 1) (λ i _ below. same_byte i (omega arith))

  both_hold : (end : ℕ) → end ≤ 50198 → leb end (length front) ≡ leb end (length file)
  both_hold end short = le-leb end (length front) (omega (arith, front_length)) ∙ sym (le-leb end (length file) (omega arith))

  -- a field that every module has room for
  field_alike : (at tag most : ℕ) {os os' : List Obligation} → ((n : ℕ) → is_listed tag n ≡ true → n ≤ most)
      → value_at at + most ≤ 50198 → (field_length front at ≤ most → RefusedAlike os os')
      → RefusedAlike (field front at tag ++ os) (field file at tag ++ os')
  unfolding field
  field_alike at tag most bound room others =
      next_alike 1 at (both_hold (value_at at) (omega arith))
      (λ header. next_alike 2 at (ap (λ (byte : ℕ). eqb byte tag) (same_byte at (omega arith)))
      (λ tagged. next_alike 3 at (ap (is_listed tag) same)
      (λ listed.
      let short : field_length front at ≤ most = bound (field_length front at) listed in
      next_alike 1 at (both_hold (field_end front at) (omega arith) ∙ ap (λ (n : ℕ). leb (value_at at + n) (length file)) same)
      (λ value. others short))))
    where
      same : field_length front at ≡ field_length file at
      same = same_length at (omega arith)

  -- the targets' field, and that there is a tail behind it
  tail_alike : (at at' : ℕ) → at ≡ at' → at ≤ value_at code_start + 8 * most_instructions → (os os' : List Obligation)
      → RefusedAlike (field front at 3 ++ (owes 4 (field_end front at) (eqb (length front) (field_end front at)) ∷ os))
      (field file at' 3 ++ (owes 4 (field_end file at') (eqb (length file) (field_end file at')) ∷ os'))
  unfolding is_listed
  tail_alike at at' is room os os' =
      rw (sym is)
      (field_alike at 3 (68 * most_targets) (λ n. multiple_short 68 most_targets n (omega arith)) (omega arith)
      (λ short. record {
        fault = fault 4 (field_end front at);
        first = tail_fault front (field_end front at) os (omega (arith, front_length));
        second = tail_fault file (field_end file at) os' (omega (arith, same))
            ∙ ap (λ (n : ℕ). Some (fault 4 (value_at at + n))) (sym same);
      }))
    where
      same : field_length front at ≡ field_length file at
      same = same_length at (omega arith)

  read_alike : RefusedAlike (readable front) (readable file)
  unfolding readable_by is_listed
  read_alike =
      field_alike 0 1 12 (λ n listed. omega (arith, (eq_reflects n 12).0 listed)) (omega arith)
      (λ layout. field_alike code_start 2 (8 * most_instructions) (λ n. multiple_short 8 most_instructions n (omega arith)) (omega arith)
      (λ code. tail_alike (targets_at front) (targets_at file)
      (ap (λ (n : ℕ). value_at code_start + n) (same_length code_start (omega arith))) (omega arith) _ _))

  -- and so what is judged after them does not matter
  refused_alike : (limits : Limits) → RefusedAlike (obligations limits front) (obligations limits file)
  unfolding obligations loadable_by
  refused_alike limits =
      followed_alike (loadable limits front) (loadable limits file) _ _ (followed_alike (readable front) (readable file) _ _ read_alike)

  -- the fault is the same, and so is the answer
  pub long_file : (limits : Limits) → judgement limits (take m file) ≡ judgement limits file
  unfolding judgement first_broken
  long_file limits = ap (concluded front) (refused_alike limits).first ∙ sym (ap (concluded file) (refused_alike limits).second)
