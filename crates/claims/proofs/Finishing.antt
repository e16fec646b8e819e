-- A file whose worked-out claims are exchanged with those of its targets' bytes, which are lent: it is the finished file, and exchanged
-- back it is as it came; and what is answered then. Assumes nothing.
use Rattle.std.proofs.Common.{◌≡◌, ℕ, ◌-◌, ◌*◌, ◌≤◌, false, List, ◌++◌, map, length, take, drop, Some, sym, ap, ◌∙◌, arith}
use mathlib.Core.List.{append-nil}
use lib.ListN.{length-append, take-append-drop, drop_of_length-le}
use lib.Seq.{length-take-le, take_all, take_at, drop_at}
use Rattle.model.specs.declared.Layout.{Layout}
use Rattle.model.specs.declared.Limits.{Limits}
use Rattle.model.specs.declared.Refusal.{Refusal}
use Rattle.model.specs.declared.Target.{Target}
use Rattle.model.specs.declared.Contents.{Contents}
use Rattle.std.specs.Prelude.{Result, Ok, Err}
use Rattle.model.specs.Answers.{judgement_of, fault_of, accepted, refused}
use Rattle.model.specs.Obligations.{first_fault}
use Rattle.model.specs.File.{value_at, targets_at, code_in, targets_in, program_of, program_in}
use Rattle.model.specs.Limits.{sweepable}
use Rattle.model.specs.Judgement.{judgement}
use Rattle.model.specs.Claims.{finished, worked_out, with_claims, write_claims, finished_file, work_out}
use Rattle.model.specs.Promises.{AreBytes}
use Rattle.model.proofs.Stretches.{targets_rest, file_length, value_bytes}
use Rattle.model.proofs.Tabulate.{map-tabulate}
use Rattle.model.proofs.Claims.Exchanged.{front}
use Rattle.model.proofs.Claims.Finished.{finished_is}
use Rattle.model.proofs.Claims.Answering.{judged_answer, early_answer}
use Rattle.reader.proofs.Passes.{ReadFacts, LoadFacts}
use Rattle.claims.specs.declared.entry.Row.{Row}
use Rattle.claims.specs.Tables.{entry_in, entries_in}
use Rattle.claims.specs.Exchanges.{targets_with, Exchanged}
use Rattle.claims.proofs.Exchanging.{exchanged_length, exchanged_back}

-- ---- the end of a list, lent

module _ (first rest whole : List ℕ) (at : ℕ) (is : whole ≡ first ++ rest) (ends : length first ≡ at) where
  tail : drop at whole ≡ rest
  tail = ap (drop at) is ∙ drop_at first rest at ends

  long : length rest ≤ length whole - at
  long = omega (arith, ap length is, length-append first rest)

  lent_is : take (length whole - at) (drop at whole) ≡ rest
  lent_is = ap (take (length whole - at)) tail ∙ take_all (length whole - at) rest long

  -- what comes back stands in its place
  back_is : (part : List ℕ) → take at whole ++ (part ++ drop (length whole - at) (drop at whole)) ≡ first ++ part
  back_is part =
      rw (tail, drop_of_length-le rest long, append-nil part)
      (ap (λ (l : List ℕ). l ++ part) (ap (take at) is ∙ take_at first rest at ends))

-- ---- the claims of a table

finished_rows : (targets : List ℕ) (rows : List Row) → map finished (entries_in targets rows) ≡ targets_with (length rows) targets rows
finished_rows targets rows =
    map-tabulate finished (entry_in targets rows) 0 (length rows)

-- ---- the file

module _ {limits : Limits} {file : List ℕ} {l : Layout} {n k : ℕ} (load : LoadFacts false limits file l n k) where
  abbrev read : ReadFacts false file l n k
  read = load.read

  pub targets_fit : 68 * k ≤ length file
  targets_fit = omega (arith, file_length file read.kept, read.is_targets)

  -- its targets' bytes are its last ones
  splits : file ≡ front file ++ targets_in file
  splits =
      sym (take-append-drop (value_at (targets_at file)) file) ∙ ap (λ (b : List ℕ). front file ++ b) (targets_rest file read.kept)

  abbrev start : ℕ
  start = length file - 68 * k

  front_ends : length (front file) ≡ start
  front_ends =
      let whole = file_length file read.kept in
      length-take-le (value_at (targets_at file)) file (omega arith) ∙ omega (arith, read.is_targets)

  lent_targets : take (length file - start) (drop start file) ≡ targets_in file
  lent_targets = lent_is (front file) (targets_in file) file start splits front_ends

  pub lent_long : 68 * k ≤ length (take (length file - start) (drop start file))
  lent_long = omega (arith, ap length lent_targets, read.loaded.targets_whole)

  -- a table's claims, exchanged with those of the lent bytes
  module _ {rows : List Row} {part : List ℕ} {rows' : List Row}
      (there : Exchanged k (take (length file - start) (drop start file)) rows part rows') where
    there_is : Exchanged k (targets_in file) rows part rows'
    there_is = rw lent_targets at there

    abbrev exchanged : List ℕ
    exchanged = take start file ++ (part ++ drop (length file - start) (drop start file))

    put_is : exchanged ≡ front file ++ part
    put_is = back_is (front file) (targets_in file) file start splits front_ends part

    lent_again : take (length exchanged - start) (drop start exchanged) ≡ part
    lent_again = lent_is (front file) part exchanged start put_is front_ends

    pub again_long : 68 * k ≤ length (take (length exchanged - start) (drop start exchanged))
    again_long = omega (arith, ap length lent_again, exchanged_length there_is, read.loaded.targets_whole)

    module _ (bytes : AreBytes file) where
      -- if they are those worked out, the file is the finished one
      pub exchanged_finished : targets_with k (targets_in file) rows ≡ (with_claims (program_in file)).targets
          → exchanged ≡ finished_file file
      exchanged_finished worked =
          put_is
          ∙ ap (λ (b : List ℕ). front file ++ b) (there_is.written ∙ ap (λ (ts : List Target). write_claims 0 ts (targets_in file)) worked)
          ∙ sym (finished_is file bytes read.kept)

      -- lent again and exchanged back, it is as it came
      pub exchanged_restored : {m : ℕ} → m ≡ k → {part' : List ℕ} {rows'' : List Row}
          → Exchanged m (take (length exchanged - start) (drop start exchanged)) rows' part' rows''
          → take start exchanged ++ (part' ++ drop (length exchanged - start) (drop start exchanged)) ≡ file
      exchanged_restored all {part'} back =
          let again = rw all at back in
          back_is (front file) part exchanged start put_is front_ends part'
          ∙ ap (λ (b : List ℕ). front file ++ b)
          (exchanged_back there_is (rw lent_again at again) (value_bytes file (targets_at file) 3 bytes))
          ∙ sym splits

  -- the claims of the table after the sweeps are those worked out
  pub worked_claims : (rows : List Row) → length rows ≡ k → entries_in (targets_in file) rows ≡ (worked_out (program_of l (code_in file) (targets_in file))).entries
      → targets_with k (targets_in file) rows ≡ (with_claims (program_in file)).targets
  unfolding with_claims
  worked_claims rows long worked =
      rw (← long) (sym (finished_rows (targets_in file) rows) ∙ ap (map finished) (rw read.same_layout at worked))

  -- ---- what is answered

  module _ (v : Result Contents Refusal) {judged : List ℕ} (is : judged ≡ finished_file file) (answers : judgement_of v ≡ judgement limits judged) where
    judged_as_lem : judgement limits (finished_file file) ≡ judgement_of v
    judged_as_lem = ap (judgement limits) (sym is) ∙ sym answers

    pub finished_accepted : (held : Contents) → v ≡ Ok held → record { judgement = judgement_of v; bytes = judged } ≡ work_out limits file
    unfolding judgement_of
    finished_accepted held accepts =
        rw (accepts, is) (sym (judged_answer limits file load.found (accepted held.instructions held.targets) (judged_as_lem ∙ ap judgement_of accepts)))

    pub finished_refused : (x : Refusal) → v ≡ Err x → {after : List ℕ} → after ≡ file
        → record { judgement = judgement_of v; bytes = after } ≡ work_out limits file
    unfolding judgement_of
    finished_refused x refuses same =
        rw (refuses, same) (sym (judged_answer limits file load.found (refused (fault_of x)) (judged_as_lem ∙ ap judgement_of refuses)))

-- a file that is refused before sweeping
pub refused_early : (limits : Limits) (file : List ℕ) (x : Refusal) → first_fault (sweepable limits file) ≡ Some (fault_of x)
    → record { judgement = judgement_of (Err x); bytes = file } ≡ work_out limits file
unfolding judgement_of
refused_early limits file x found = sym (early_answer limits file (fault_of x) found)
