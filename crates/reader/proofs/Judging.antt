-- A field's four obligations: each way that judging them can go, from the facts that the reader's tests leave, and where its value
-- lies; and the value of a field that may be refused. Assumes nothing.
use Prim.Native.Nat.{ℕ, ◌+◌, ◌-◌, ◌≤◌, ◌<◌}
use mathlib.Core.Bool.{Bool, true, false}
use mathlib.Core.List.{List, []}
use mathlib.Core.Path.{◌≡◌, sym, ap, ◌∙◌}
use native.Mathlib.Omega.{arith}
use borrow.Author.Tests.{le-leb, lt-leb, eq-eqb, ne_eqb}
use lib.ListN.{length, get_or, take, drop}
use Rattle.std.specs.Prelude.{Option, None, Some, Result, Ok, Err, IfOk}
use Rattle.std.specs.Result.{result_unwrap_or}
use Rattle.std.specs.Borrow.{Bor}
use Rattle.model.specs.declared.Refusal.{Refusal}
use Rattle.model.specs.declared.Rule.TheVariants.{Truncated, WrongTag, BadLength}
use Rattle.model.specs.Answers.{rule_number}
use Rattle.model.specs.Obligations.{Fault, fault, first_fault}
use Rattle.model.specs.Words.{read_bytes}
use Rattle.model.specs.File.{field_length, field_end, is_listed, field, field_value}
use Rattle.reader.specs.Findings.{fault_in}
use Rattle.reader.specs.Fields.{ValuePart}
use Rattle.model.proofs.Faults.{head_met, head_unmet, one_met}

-- the fault that is named, by a rule at the field's offset
module _ (file : List ℕ) (at tag : ℕ) where
  abbrev Named : Option Fault → Type 0
  Named named = named ≡ first_fault (field file at tag)

  pub short_header : length file < at + 3 → Named (Some (fault (rule_number Truncated) at))
  unfolding field rule_number
  short_header short = sym (head_unmet _ _ (lt-leb (at + 3) (length file) short))

  module _ (header : at + 3 ≤ length file) where
    past_header : first_fault (field file at tag) ≡ first_fault (drop 1 (field file at tag))
    unfolding field
    past_header = head_met _ _ (le-leb (at + 3) (length file) header)

    pub wrong_tag : (get_or file at 0 ≡ tag → ⊥) → Named (Some (fault (rule_number WrongTag) at))
    unfolding field rule_number
    wrong_tag other = sym (past_header ∙ head_unmet _ _ (ne_eqb (get_or file at 0) tag other))

    -- n is the length that was read, and listed what the test of it gave
    module _ (tagged : get_or file at 0 ≡ tag) (n : ℕ) (listed : Bool) (read : n ≡ read_bytes 2 file (at + 1))
        (tested : listed ≡ is_listed tag n) where
      past_tag : first_fault (field file at tag) ≡ first_fault (drop 2 (field file at tag))
      unfolding field
      past_tag = past_header ∙ head_met _ _ (eq-eqb (get_or file at 0) tag tagged)

      known : is_listed tag (field_length file at) ≡ listed
      known = ap (is_listed tag) (sym read) ∙ sym tested

      pub bad_length : listed ≡ false → Named (Some (fault (rule_number BadLength) at))
      unfolding field rule_number
      bad_length bad = sym (past_tag ∙ head_unmet _ _ (known ∙ bad))

      module _ (good : listed ≡ true) where
        past_length : first_fault (field file at tag) ≡ first_fault (drop 3 (field file at tag))
        unfolding field
        past_length = past_tag ∙ head_met _ _ (known ∙ good)

        pub short_value : length file - (at + 3) < n → Named (Some (fault (rule_number Truncated) at))
        unfolding field rule_number
        short_value short = sym (past_length ∙ head_unmet _ _ (lt-leb (field_end file at) (length file) (omega arith)))

        pub all_met : n ≤ length file - (at + 3) → Named None
        unfolding field
        all_met fits = sym (past_length ∙ one_met _ (le-leb (field_end file at) (length file) (omega arith)))

        pub value_is : n ≤ length file - (at + 3) → take (at + 3 + n - (at + 3)) (drop (at + 3) file) ≡ field_value file at tag
        unfolding field_value
        value_is fits =
            let long : at + 3 + n - (at + 3) ≡ field_length file at = omega (arith, read) in
            rw (← all_met fits, long)

-- what is handed out where only the value is asked for: the part that was read, and an empty one where the field is refused
pub value_or_none : (file nothing : Bor (List ℕ)) (at tag : ℕ) (r : Result (Bor (List ℕ)) Refusal) → nothing.now ≡ []
    → fault_in r ≡ first_fault (field file.now at tag) → IfOk r (λ part. ValuePart file part at tag)
    → ValuePart file (result_unwrap_or r nothing) at tag
unfolding fault_in field_value
value_or_none file nothing at tag (Ok part) empty judged value = value
value_or_none file nothing at tag (Err x) empty judged value = record {
  bytes = rw (empty, ← judged);
  place = λ met. absurd (let z : ◌≡◌ {A = ℕ} 0 1 = cc in omega arith);
}
