-- The file with the worked-out claims over those of its direct targets: it keeps rules 1 to 7, and its module is the one whose claims
-- were worked out. Assumes nothing.
use Prim.Native.Nat.{ℕ, zero, suc, ◌+◌, ◌≤◌, ◌<◌}
use mathlib.Core.Path.{◌≡◌, sym, ap, ◌∙◌}
use mathlib.Core.Bool.{Bool, true, cond}
use mathlib.Core.List.{List, [], ◌∷◌, ◌++◌, map}
use Rattle.std.specs.Prelude.{None, Some}
use Rattle.std.proofs.lemmas.Option.{same_Some}
use native.Mathlib.Omega.{arith}
use native.Mathlib.Decide.{ℕ_discrete}
use lib.Dec.{eqb}
use lib.ListN.{length, length-map}
use Rattle.model.specs.declared.Layout.{Layout}
use Rattle.model.specs.declared.Target.{Target}
use Rattle.model.specs.File.{code_start, code_in, targets_in, target_count, tabulate, target_kind, target_in, program_of, program_in}
use Rattle.model.specs.Rules.{ModuleKept, ModulePlaced, FileKept, FilePlaced}
use Rattle.model.specs.Claims.{begun, with_claims, write_claims, finished_file}
use Rattle.model.specs.Promises.{AreBytes}
use Rattle.model.proofs.Tabulate.{length-tabulate}
use Rattle.model.proofs.Stretches.{value_bytes}
use Rattle.model.proofs.Claims.Each.{All}
use Rattle.model.proofs.Claims.Ending.{ProperTarget, AllProper, claims_proper}
use Rattle.model.proofs.Claims.Independent.{Alike, AllAlike, begins_again}
use Rattle.model.proofs.Claims.AllClaims.{kinds, claims_length, claims_read}
use Rattle.model.proofs.Claims.Exchanged.{front, exchanged_program, exchanged_holds}
use Rattle.model.proofs.Claims.FromFile.{module_fit}
use Rattle.model.proofs.Claims.Claimed.{kinds_in, kinds_worked, same_count, placed_written, claimed_is}

-- ---- targets that begin alike are alike

alike_begun : (t t' : Target) → begun t ≡ begun t' → Alike t t'
alike_begun t t' same =
    let kind : t.indirect ≡ t'.indirect = ap (λ e. e.indirect) same in
    record {
      index = ap (λ e. e.index) same;
      indirect = kind;
      claim = λ is. fixed t.indirect t'.indirect is (sym kind ∙ is) (ap (λ e. e.claim) same);
    }
  where
    fixed : (b b' : Bool) → b ≡ true → b' ≡ true → cond b (Some t.claim) None ≡ cond b' (Some t'.claim) None
        → t.claim ≡ t'.claim
    fixed b b' is is' q = same_Some t.claim t'.claim (rw (is, is') at q)

all_alike_begun : (ts ts' : List Target) → map begun ts ≡ map begun ts' → AllAlike ts ts'
all_alike_begun [] [] same = tt
all_alike_begun [] (t' ∷ ts') same = absurd (omega (arith, ap length same))
all_alike_begun (t ∷ ts) [] same = absurd (omega (arith, ap length same))
all_alike_begun (t ∷ ts) (t' ∷ ts') same = (alike_begun t t' (cc), all_alike_begun ts ts' (cc))

-- what holds of them all holds of each of a table
all_at : (P : Target → Type 0) (f : ℕ → Target) (i n : ℕ) → All P (tabulate i n f) → (j : ℕ) → i ≤ j → j < i + n → P (f j)
unfolding tabulate
all_at P f i zero all j from below = absurd (omega arith)
all_at P f i (suc n) all j from below = first_or_later (ℕ_discrete j i) (λ h. all_at P f (suc i) n all.1 j h (omega arith))
  where
    first_or_later : Dec (j ≡ i) → (suc i ≤ j → P (f j)) → P (f j)
    first_or_later (yes e) later = rw e all.0
    first_or_later (no e) later = later (omega arith)

-- ---- the module

module _ {l : Layout} {code targets : List ℕ} (bytes : AreBytes code) (placed : ModulePlaced l code targets) where
  abbrev worked : List Target
  worked = (with_claims (program_of l code targets)).targets

  abbrev written : List ℕ
  written = write_claims 0 worked targets

  proper : AllProper worked
  proper = claims_proper (program_of l code targets) (module_fit bytes placed)

  as_many : length worked ≡ target_count targets
  unfolding program_of
  as_many =
      sym (length-map worked begun)
      ∙ ap length (begins_again (program_of l code targets))
      ∙ length-map (program_of l code targets).targets begun
      ∙ length-tabulate 0 (target_count targets) (target_in targets)

  worked_alike : AllAlike worked (tabulate 0 (length worked) (target_in targets))
  unfolding program_of
  worked_alike = rw as_many (all_alike_begun worked (program_of l code targets).targets (begins_again (program_of l code targets)))

  targets_read : tabulate 0 (length worked) (target_in written) ≡ worked
  targets_read = claims_read worked 0 targets (omega (arith, as_many)) worked_alike proper

  same_kinds : kinds worked ≡ tabulate 0 (target_count targets) (λ j. eqb (target_kind targets j) 1)
  same_kinds = kinds_worked (program_of l code targets) ∙ kinds_in l code targets

  count_written : target_count written ≡ length worked
  count_written = same_count worked targets same_kinds ∙ sym as_many

  -- it is the one whose claims were worked out
  pub worked_program : program_of l code written ≡ with_claims (program_of l code targets)
  unfolding program_of with_claims
  worked_program =
      ap (λ (ts : List Target). record { layout = l; code = (program_of l code targets).code; targets = ts })
      (ap (λ (n : ℕ). tabulate 0 n (target_in written)) count_written ∙ targets_read)

  -- and keeps rule 7 with the order of claims' ends
  pub worked_kept : ModuleKept l code written
  unfolding target_in
  worked_kept =
      let still = placed_written worked targets same_kinds placed in
      let each-proper = all_at ProperTarget (target_in written) 0 (length worked) (rw targets_read proper) in
      record {
        layout = still.layout;
        each_instruction = still.each_instruction;
        each_target = λ j below. record {
          placed = still.each_target j below;
          ordered = λ r _. (each-proper j (omega arith) (omega (arith, count_written))).bounded.ordered r;
        };
      }

-- ---- the file

module _ (file : List ℕ) (bytes : AreBytes file) (placed : FilePlaced file) where
  abbrev after : List ℕ
  after = write_claims 0 (with_claims (program_in file)).targets (targets_in file)

  code_bytes : AreBytes (code_in file)
  code_bytes = value_bytes file code_start 2 bytes

  as_long : length after ≡ length (targets_in file)
  as_long = claims_length (with_claims (program_in file)).targets 0 (targets_in file)

  pub finished_is : finished_file file ≡ front file ++ after
  unfolding finished_file
  finished_is = claimed_is file placed (with_claims (program_in file)).targets

  pub finished_kept : FileKept (finished_file file)
  finished_kept = rw finished_is (exchanged_holds file placed after as_long (worked_kept code_bytes placed.holds))

  pub finished_program : program_in (finished_file file) ≡ with_claims (program_in file)
  finished_program = ap program_in finished_is ∙ exchanged_program file placed after as_long ∙ worked_program code_bytes placed.holds
