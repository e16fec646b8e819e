-- Each set of tables that keeps the rules has one file, it gives back those tables, and it is judged as they are. Assumes nothing.
use Prim.Native.Nat.{ℕ}
use mathlib.Core.Path.{◌≡◌, refl, sym, ap, ◌∙◌}
use mathlib.Core.List.{List, ◌++◌}
use Rattle.std.specs.Prelude.{Option, None, Some}
use lib.ListN.{length}
use Rattle.model.specs.declared.Limits.{Limits}
use Rattle.model.specs.Obligations.{Fault, first_fault}
use Rattle.model.specs.Answers.{accepted}
use Rattle.model.specs.File.{code_in, targets_in, instruction_count, target_count, readable, program_in}
use Rattle.model.specs.Limits.{limit_rules, loadable_by}
use Rattle.model.specs.Judgement.{verified, obligations, first_broken, concluded, judgement}
use Rattle.model.specs.Rules.{FileKept}
use Rattle.model.specs.Writer.{Tables, program_from, tables_in, file_of, tables_owed, concluded_of, tables_judged}
use Rattle.model.specs.Promises.{AreBytes, AreTables, FilesWritten}
use Rattle.model.proofs.Faults.{append_alike, append_faultless}
use Rattle.model.proofs.Accepted.{readable_iff}
use Rattle.model.proofs.Writer.Kept.{owed_iff}
use Rattle.model.proofs.Writer.Read.{rows_counted, targets_counted, program_read, fields_kept, tables_kept, file_kept, tables_words}
use Rattle.model.proofs.Writer.Files.{file_iff, file_bytes}
use Rattle.model.proofs.Writer.Programs.{same_tables}

module _ (t : Tables) (are : AreTables t) (owed : first_fault (tables_owed t) ≡ None) where
  pub some_file : AreBytes (file_of t) × FileKept (file_of t) × (tables_in (file_of t) ≡ t) × (program_in (file_of t) ≡ program_from t)
  some_file =
      let kept = (owed_iff t).0 owed in
      let read = (file_iff (file_of t) (file_bytes t) t are kept).0 refl in
      (file_bytes t, file_kept (file_of t) read.0 (rw read.1 kept), read.1, program_read (file_of t) ∙ ap program_from read.1)

  pub judged : (limits : Limits) → judgement limits (file_of t) ≡ tables_judged limits t
  unfolding judgement first_broken obligations loadable_by tables_judged
  judged limits =
      let written = some_file in
      let n : instruction_count (code_in (file_of t)) ≡ length t.instructions =
      sym (rows_counted (file_of t)) ∙ ap (λ (u : Tables). length u.instructions) written.2 in
      let k : target_count (targets_in (file_of t)) ≡ length t.targets =
      sym (targets_counted (file_of t)) ∙ ap (λ (u : Tables). length u.targets) written.2 in
      ap (concluded (file_of t))
      (append_alike _ _ _ (append_faultless (readable (file_of t)) _ ((readable_iff (file_of t)).1 written.1))
      ∙ (λ i. first_fault (limit_rules limits (n i) (k i) ++ verified (written.3 i)))
      ∙ sym (append_faultless (tables_owed t) _ owed))
      ∙ same_answer _ n k
    where
      same_answer : (found : Option Fault)
          → instruction_count (code_in (file_of t)) ≡ length t.instructions → target_count (targets_in (file_of t)) ≡ length t.targets
          → concluded (file_of t) found ≡ concluded_of t found
      same_answer None n k = λ i. accepted (n i) (k i)
      same_answer (Some f) n k = refl

module _ (file : List ℕ) (bytes : AreBytes file) (kept : FileKept file) where
  pub one_file : AreTables (tables_in file) × (first_fault (tables_owed (tables_in file)) ≡ None) × (file_of (tables_in file) ≡ file)
  one_file =
      let tables = tables_kept file kept in
      let are = tables_words file bytes tables in
      (are, (owed_iff (tables_in file)).1 tables, sym ((file_iff file bytes (tables_in file) are tables).1 (fields_kept file kept, refl)))

-- a file is told from the module that it holds
pub one_program : (file other : List ℕ) → AreBytes file → AreBytes other → FileKept file → FileKept other
    → program_in file ≡ program_in other → file ≡ other
one_program file other bytes bytes' kept kept' same =
    let own = one_file file bytes kept in
    let others = one_file other bytes' kept' in
    let tables =
    same_tables (tables_in file) (tables_in other) own.0 others.0 (tables_kept file kept) (tables_kept other kept')
    (sym (program_read file) ∙ same ∙ program_read other) in
    sym own.2 ∙ ap file_of tables ∙ others.2

pub files_written : FilesWritten
files_written = record { some_file = some_file; one_file = one_file; one_program = one_program; judged = λ limits t are owed. judged t are owed limits }
