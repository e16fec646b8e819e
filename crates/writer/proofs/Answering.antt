-- What is judged before the file is written, in its order: 3 for either count, what is found of 5, 6 and 7, and 16. Assumes nothing.
use Prim.Native.Nat.{ℕ, ◌+◌, ◌*◌, ◌≤◌, ◌<◌}
use mathlib.Core.Path.{◌≡◌, ap, ◌∙◌}
use mathlib.Core.List.{List, [], ◌∷◌, ◌++◌}
use Rattle.std.specs.Prelude.{None, Some}
use native.Mathlib.Nat.{zero-add}
use borrow.Author.Tests.{le-leb, lt-leb}
use lib.Dec.{leb}
use lib.ListN.{length, drop, length-map, get_or-map}
use lib.Seq.{sets, sets-eq}
use Rattle.model.specs.declared.Layout.{Layout}
use Rattle.model.specs.Obligations.{Fault, Obligation, fault, owes, fault_unless, first_fault}
use Rattle.model.specs.File.{most_instructions, most_targets, decoded, tabulate, is_good_target, table_rules}
use Rattle.model.specs.Writer.{Tables, instruction_row_at, target_row_at, file_of, is_count, tables_owed, writable}
use Rattle.model.proofs.Faults.{head_unmet, append_faulty, append_faultless, one_met}
use Rattle.model.proofs.Writer.Files.{written_length}
use Rattle.writer.specs.Rows.{row_of, claim_of, target_row_of, tables_of, decoded_at, targets_at}

module _ (l : Layout) (rows targets : List (List ℕ)) where
  abbrev tables : Tables
  tables = tables_of l rows targets

  abbrev rules : List Obligation
  rules = table_rules is_good_target l (length rows) (decoded_at rows) (length targets) (targets_at targets)

  -- the tables' rows are the rows that are handed over
  same_rules : table_rules is_good_target l (length rows) (λ i. decoded (instruction_row_at tables i)) (length targets) (target_row_at tables) ≡ rules
  unfolding claim_of tabulate
  same_rules = λ k.
      table_rules is_good_target l (length rows) (λ i. decoded (get_or-map row_of rows i [] k)) (length targets)
      (λ j. get_or-map target_row_of targets j [] k)

  pub long : length (file_of tables) ≡ 21 + 8 * length rows + 68 * length targets
  long = written_length tables ∙ rw (length-map rows row_of, length-map targets target_row_of)

  module _ (buffer : List ℕ) where
    abbrev room : List Obligation
    room = owes 16 0 (leb (21 + 8 * length rows + 68 * length targets) (length buffer)) ∷ []

    pub judged : first_fault (writable tables buffer)
        ≡ fault_unless (is_count most_instructions (length rows)) (fault 3 15)
        (fault_unless (is_count most_targets (length targets)) (fault 3 (18 + 8 * length rows)) (first_fault (rules ++ room)))
    unfolding writable tables_owed first_fault
    judged =
        rw (long, length-map rows row_of, length-map targets target_row_of)
        (ap (λ (r : List Obligation).
        fault_unless (is_count most_instructions (length rows)) (fault 3 15)
        (fault_unless (is_count most_targets (length targets)) (fault 3 (18 + 8 * length rows)) (first_fault (r ++ room)))) same_rules)

    pub rule_broken : (f : Fault) → first_fault rules ≡ Some f → first_fault (rules ++ room) ≡ Some f
    rule_broken f broken = append_faulty _ _ f broken

    module _ (kept : first_fault rules ≡ None) where
      pub no_space : length buffer < 21 + 8 * length rows + 68 * length targets → first_fault (rules ++ room) ≡ Some (fault 16 0)
      no_space short = append_faultless _ _ kept ∙ head_unmet _ _ (lt-leb _ _ short)

      pub space : 21 + 8 * length rows + 68 * length targets ≤ length buffer → first_fault (rules ++ room) ≡ None
      space fits = append_faultless _ _ kept ∙ one_met _ (le-leb _ _ fits)

-- the file stored from the start on
pub stored : (file buffer : List ℕ) → length file ≤ length buffer → sets buffer 0 file ≡ file ++ drop (length file) buffer
stored file buffer fits = sets-eq file buffer 0 (rw zero-add fits) ∙ rw zero-add

-- by these the check finds what `writer::write::write` answers
pub ruleset answering = (judged, rule_broken, no_space, space, stored, long)
