-- Rows of words are tables that a host can hand over: `HandedOver`. Assumes nothing.
use Prim.Native.Nat.{ℕ, ◌+◌, ◌*◌}
use mathlib.Core.Path.{◌≡◌, refl, sym, ap, subst}
use mathlib.Core.List.{List, [], map}
use lib.ListN.{get_or, get_or-map}
use Rattle.model.specs.File.{InstructionRow, TargetRow, tabulate}
use Rattle.model.specs.Safety.{EightWords}
use Rattle.model.specs.Writer.{no_target}
use Rattle.model.proofs.Writer.Read.{eight_words}
use Rattle.writer.specs.Rows.{row_of, claim_of, target_row_of, HandedOver}

-- what holds of every row that is handed over holds of every target
every_target : (P : TargetRow → Type 0) (targets : List (List ℕ)) → ((j : ℕ) → P (target_row_of (get_or targets j [])))
    → (j : ℕ) → P (get_or (map target_row_of targets) j no_target)
unfolding claim_of tabulate
every_target P targets each j = subst P (sym (get_or-map target_row_of targets j [])) (each j)

pub handed_over : HandedOver
unfolding claim_of
handed_over = record {
  tables = λ l instructions targets words words'. record {
    imm = λ i. rw (ap (λ (x : InstructionRow). x.imm) (get_or-map row_of instructions i [])) (words i 4);
    zero_byte = every_target (λ x. x.zero_byte ≡ 0) targets (λ j. refl);
    lows = every_target (λ x. EightWords x.claim.lows) targets (λ j. eight_words _ (λ r. words' j (2 + 2 * r)));
    highs = every_target (λ x. EightWords x.claim.highs) targets (λ j. eight_words _ (λ r. words' j (3 + 2 * r)));
  };
}
