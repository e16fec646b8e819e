-- Document 02, ticket 3, for a file of bytes: the sweeps end (`SweepsEnd`), the finished file is judged and 11 never occurs
-- (`WorkedOutJudged`), and the direct targets' claims that came in are ignored (`InnerIgnored`). Assumes nothing.
use Prim.Native.Nat.{ℕ}
use mathlib.Core.Path.{◌≡◌, refl, sym, ap, ◌∙◌}
use mathlib.Core.Logic.{⊎_elim, inl, inr}
use mathlib.Core.List.{List, map, map-map}
use Rattle.std.specs.Prelude.{Option, None, Some}
use native.Mathlib.Omega.{arith}
use Rattle.model.specs.declared.Limits.{Limits}
use Rattle.model.specs.declared.Ranges.{Ranges}
use Rattle.model.specs.declared.Target.{Target}
use Rattle.model.specs.Obligations.{Fault, first_fault}
use Rattle.model.specs.Answers.{Judgement, accepted, refused}
use Rattle.model.specs.Program.{Program}
use Rattle.model.specs.File.{program_in}
use Rattle.model.specs.Limits.{limit_rules, loadable_by, loadable, sweepable}
use Rattle.model.specs.Judgement.{verified, obligations, first_broken, judgement}
use Rattle.model.specs.Rules.{FilePlaced, HeldBy}
use Rattle.model.specs.Claims.{with_claims, reclaimed, claimed, finished_file, Answered, judged_as, after_sweeping, work_out}
use Rattle.model.specs.Promises.{AreBytes, SweepsEnd, WorkedOutJudged, InnerIgnored}
use Rattle.model.proofs.Accepted.{placed_iff, kept_iff, sweepable_iff}
use Rattle.model.proofs.Faults.{append_faultless}
use Rattle.model.proofs.Numbers.{ForVerdict, sweepable_listed, judged_listed, refused_judged}
use Rattle.model.proofs.Claims.Ending.{ends, none_left, cuts_nothing}
use Rattle.model.proofs.Claims.Unbroken.{never_broken}
use Rattle.model.proofs.Claims.AllClaims.{kinds}
use Rattle.model.proofs.Claims.FromFile.{file_fit}
use Rattle.model.proofs.Claims.Claimed.{kinds_worked, claimed_placed, same_counts, claimed_finished}
use Rattle.model.proofs.Claims.Finished.{finished_kept, finished_program}

pub sweeps_end : SweepsEnd
sweeps_end = record {
  unchanged = λ file bytes placed. (ends (program_in file) (file_fit file bytes placed)).unchanged;
  none_left = λ file bytes placed. none_left (program_in file) (file_fit file bytes placed);
  enough = λ file bytes placed. cuts_nothing (program_in file) (file_fit file bytes placed);
}

-- ---- what is answered

module _ (limits : Limits) (file : List ℕ) where
  -- where nothing is refused before sweeping, the finished file is judged
  pub judged_answer : first_fault (sweepable limits file) ≡ None → (j : Judgement) → judgement limits (finished_file file) ≡ j
      → work_out limits file ≡ judged_as file (finished_file file) j
  unfolding work_out
  judged_answer passes j is = ap (after_sweeping limits file) passes ∙ ap (judged_as file (finished_file file)) is

  -- and what is found before sweeping is answered
  pub early_answer : (f : Fault) → first_fault (sweepable limits file) ≡ Some f → work_out limits file ≡ record { judgement = refused f; bytes = file }
  unfolding work_out
  early_answer f found = ap (after_sweeping limits file) found

  -- what holds of a refusal before sweeping, and of either judgement of the finished file, holds of the answer
  by_answer : (P : Answered → Type 0)
      → ((f : Fault) → first_fault (sweepable limits file) ≡ Some f → P (record { judgement = refused f; bytes = file }))
      → ((n k : ℕ) → first_fault (sweepable limits file) ≡ None → judgement limits (finished_file file) ≡ accepted n k
      → P (record { judgement = accepted n k; bytes = finished_file file }))
      → ((f : Fault) → first_fault (sweepable limits file) ≡ None → judgement limits (finished_file file) ≡ refused f
      → P (record { judgement = refused f; bytes = file }))
      → P (work_out limits file)
  unfolding work_out
  by_answer P early accepts refuses = by_first (first_fault (sweepable limits file)) refl
    where
      by_judgement : first_fault (sweepable limits file) ≡ None → (j : Judgement) → judgement limits (finished_file file) ≡ j
          → P (judged_as file (finished_file file) j)
      by_judgement passes (accepted n k) is = accepts n k passes is
      by_judgement passes (refused f) is = refuses f passes is

      by_first : (first : Option Fault) → first_fault (sweepable limits file) ≡ first → P (after_sweeping limits file first)
      by_first None passes = by_judgement passes (judgement limits (finished_file file)) refl
      by_first (Some f) found = early f found

differ : {n k : ℕ} {f : Fault} {A : Type 0} → accepted n k ≡ refused f → A
differ same = absurd (let impossible : ◌≡◌ {A = ℕ} 0 1 = cc in omega arith)

same_fault : {f g : Fault} → refused f ≡ refused g → f ≡ g
same_fault same = cc

-- the finished file has as many instructions and targets as the file
pub finished_held : (limits : Limits) (file : List ℕ) → FilePlaced file → HeldBy limits file → HeldBy limits (finished_file file)
unfolding finished_file
finished_held limits file placed held =
    let (n, k) = same_counts file placed (with_claims (program_in file)).targets (kinds_worked (program_in file)) in
    record { instructions = rw n held.instructions; targets = rw k held.targets }

-- it keeps 1 to 7, and 17 if the file does, so it is judged by its module, which is not refused by 11
judged_by_module : (limits : Limits) (file : List ℕ) → AreBytes file → FilePlaced file → HeldBy limits file
    → first_broken limits (finished_file file) ≡ first_fault (verified (with_claims (program_in file)))
unfolding first_broken obligations
judged_by_module limits file bytes placed held =
    append_faultless (loadable limits (finished_file file)) (verified (program_in (finished_file file)))
    ((kept_iff limits (finished_file file)).1 (finished_kept file bytes placed, finished_held limits file placed held))
    ∙ ap (λ (p : Program). first_fault (verified p)) (finished_program file bytes placed)

-- what holds of a refusal's number, before sweeping and after
pub refused_numbered : (limits : Limits) (file : List ℕ) (P : ℕ → Type 0)
    → ((f : Fault) → first_fault (sweepable limits file) ≡ Some f → P f.number)
    → ((f : Fault) → first_fault (sweepable limits file) ≡ None → first_broken limits (finished_file file) ≡ Some f → P f.number)
    → (f : Fault) → (work_out limits file).judgement ≡ refused f → P f.number
refused_numbered limits file P early late f =
    by_answer limits file (λ a. a.judgement ≡ refused f → P f.number)
    (λ g found same. rw (sym (same_fault same)) (early g found))
    (λ n k _ _ same. differ same)
    (λ g passes judged same. rw (sym (same_fault same)) (late g passes (refused_judged limits (finished_file file) g judged)))

pub worked_out_judged : WorkedOutJudged
worked_out_judged = record {
  finished = λ file bytes placed. (finished_kept file bytes placed, finished_program file bytes placed);
  stands = λ limits file n k.
      by_answer limits file (λ a. a.judgement ≡ accepted n k → judgement limits a.bytes ≡ accepted n k)
      (λ f _ same. differ (sym same)) (λ n' k' _ judged same. judged ∙ same) (λ f _ _ same. differ (sym same));
  kept = λ limits file f.
      by_answer limits file (λ a. a.judgement ≡ refused f → a.bytes ≡ file)
      (λ g _ _. refl) (λ n k _ _ same. differ same) (λ g _ _ _. refl);
  numbered = λ limits file.
      refused_numbered limits file ForVerdict
      (λ f found. ⊎_elim (λ low. inl (low.0, omega (arith, low.1))) inr (sweepable_listed limits file f found))
      (λ f _ broken. judged_listed limits (finished_file file) f broken);
  never_11 = λ limits file bytes.
      refused_numbered limits file (λ n. n ≡ 11 → ⊥)
      (λ f found eleven.
      ⊎_elim (λ low. omega (arith, low.1, eleven)) (λ over. omega (arith, over, eleven)) (sweepable_listed limits file f found))
      (λ f passes broken. let kept = (sweepable_iff limits file).0 passes in
      never_broken (program_in file) (file_fit file bytes kept.0) f (sym (judged_by_module limits file bytes kept.0 kept.1) ∙ broken));
}

-- ---- with other claims over those that came in

module _ (limits : Limits) (file : List ℕ) (placed : FilePlaced file) (ts : List Target) (same : kinds ts ≡ kinds (program_in file).targets) where
  -- the same is found before sweeping
  same_found : first_fault (sweepable limits (claimed ts file)) ≡ first_fault (sweepable limits file)
  unfolding loadable_by
  same_found =
      let (n, k) = same_counts file placed ts same in
      append_faultless _ _ ((placed_iff (claimed ts file)).1 (claimed_placed file placed ts same))
      ∙ (λ i. first_fault (limit_rules limits (n i) (k i)))
      ∙ sym (append_faultless _ _ ((placed_iff file).1 placed))

  -- the finished file is the same, and so is its judgement
  claimed_answer : first_fault (sweepable limits file) ≡ None → (j : Judgement) → judgement limits (finished_file file) ≡ j
      → work_out limits (claimed ts file) ≡ judged_as (claimed ts file) (finished_file file) j
  claimed_answer passes j is =
      judged_answer limits (claimed ts file) (same_found ∙ passes) j (ap (judgement limits) (claimed_finished file placed ts same) ∙ is)
      ∙ ap (λ (b : List ℕ). judged_as (claimed ts file) b j) (claimed_finished file placed ts same)

judged_as_lem : (file after : List ℕ) (j : Judgement) → (judged_as file after j).judgement ≡ j
judged_as_lem file after (accepted n k) = refl
judged_as_lem file after (refused f) = refl

module _ (limits : Limits) (file : List ℕ) (placed : FilePlaced file) (other : ℕ → Ranges) where
  abbrev garbled : List Target
  garbled = map (reclaimed other) (program_in file).targets

  same_kinds : kinds garbled ≡ kinds (program_in file).targets
  same_kinds = map-map (λ (t : Target). t.indirect) (reclaimed other) (program_in file).targets

  module _ (passes : first_fault (sweepable limits file) ≡ None) where
    answer : (j : Judgement) → judgement limits (finished_file file) ≡ j → work_out limits file ≡ judged_as file (finished_file file) j
    answer = judged_answer limits file passes

    garbled_answer : (j : Judgement) → judgement limits (finished_file file) ≡ j
        → work_out limits (claimed garbled file) ≡ judged_as (claimed garbled file) (finished_file file) j
    garbled_answer = claimed_answer limits file placed garbled same_kinds passes

    is_judged : (work_out limits file).judgement ≡ judgement limits (finished_file file)
    is_judged = ap (λ a. a.judgement) (answer _ refl) ∙ judged_as_lem file (finished_file file) _

    same_judgement : (work_out limits (claimed garbled file)).judgement ≡ (work_out limits file).judgement
    same_judgement =
        ap (λ a. a.judgement) (garbled_answer _ refl) ∙ judged_as_lem (claimed garbled file) (finished_file file) _ ∙ sym is_judged

    same_bytes : (n k : ℕ) → (work_out limits file).judgement ≡ accepted n k
        → (work_out limits (claimed garbled file)).bytes ≡ (work_out limits file).bytes
    same_bytes n k is =
        let accepts = sym is_judged ∙ is in
        ap (λ a. a.bytes) (garbled_answer (accepted n k) accepts) ∙ sym (ap (λ a. a.bytes) (answer (accepted n k) accepts))

  abbrev Ignored : Type 0
  Ignored =
      ((work_out limits (claimed garbled file)).judgement ≡ (work_out limits file).judgement)
      × ((n k : ℕ) → (work_out limits file).judgement ≡ accepted n k
      → (work_out limits (claimed garbled file)).bytes ≡ (work_out limits file).bytes)

  ignored : (first : Option Fault) → first_fault (sweepable limits file) ≡ first → Ignored
  ignored None passes = (same_judgement passes, same_bytes passes)
  ignored (Some f) found =
      let was = early_answer limits file f found in
      let is = early_answer limits (claimed garbled file) f (same_found limits file placed garbled same_kinds ∙ found) in (
        ap (λ a. a.judgement) is ∙ sym (ap (λ a. a.judgement) was),
        λ n k accepts. differ (sym accepts ∙ ap (λ (a : Answered). a.judgement) was),
      )

-- the worked-out claims are other claims too
finished_again : (limits : Limits) (file : List ℕ) (n k : ℕ) → first_fault (sweepable limits file) ≡ None
    → judgement limits (finished_file file) ≡ accepted n k
    → work_out limits (finished_file file) ≡ record { judgement = accepted n k; bytes = finished_file file }
unfolding finished_file
finished_again limits file n k passes judged =
    let ts = (with_claims (program_in file)).targets in
    claimed_answer limits file ((sweepable_iff limits file).0 passes).0 ts (kinds_worked (program_in file)) passes (accepted n k) judged

pub inner_ignored : InnerIgnored
inner_ignored = record {
  ignored = λ limits file placed other. ignored limits file placed other (first_fault (sweepable limits file)) refl;
  twice = λ limits file n k.
      by_answer limits file (λ a. a.judgement ≡ accepted n k → work_out limits a.bytes ≡ a)
      (λ f _ same. differ (sym same))
      (λ n' k' passes judged _. finished_again limits file n' k' passes judged)
      (λ f _ _ same. differ (sym same));
}
