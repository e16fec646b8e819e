-- A file with other claims over those of its direct targets, whatever they are: the sweeps can still start from it, the same is worked
-- out, and so the finished file is the same. Assumes nothing.
use Prim.Native.Nat.{ℕ, zero, suc, ◌/◌}
use mathlib.Core.Path.{◌≡◌, refl, sym, ap, ◌∙◌}
use mathlib.Core.Bool.{Bool, true}
use mathlib.Core.List.{List, ◌++◌, map, map-map}
use native.Mathlib.Omega.{arith}
use lib.Dec.{eqb}
use lib.ListN.{length}
use Rattle.model.specs.declared.Layout.{Layout}
use Rattle.model.specs.declared.Target.{Target}
use Rattle.model.specs.Program.{Program}
use Rattle.model.specs.File.{code_in, targets_in, instruction_count, target_count, layout_in, tabulate, target_kind, claim_in, target_in, target_row_in, program_of, program_in}
use Rattle.model.specs.Rules.{TargetPlaced, ModulePlaced, FilePlaced}
use Rattle.model.specs.Claims.{Entry, WorkedOut, begun, finished, with_claims, write_claims, claimed, finished_file}
use Rattle.model.proofs.Tabulate.{map-tabulate}
use Rattle.model.proofs.Stretches.{targets_rest}
use Rattle.model.proofs.Claims.Independent.{Alike, AllAlike, ignores_inner, begins_again}
use Rattle.model.proofs.Claims.AllClaims.{kinds, claims_length, claims_head, claims_kept, claims_over}
use Rattle.model.proofs.Claims.Exchanged.{front, same_code, front_same, targets_are, exchanged_program, exchanged_holds}

-- ---- the module

-- which of a module's targets are indirect, by their bytes
abbrev indirect_in : List ℕ → ℕ → Bool
indirect_in targets j = eqb (target_kind targets j) 1

all_alike : (f g : ℕ → Target) (i n : ℕ) → ((j : ℕ) → Alike (f j) (g j)) → AllAlike (tabulate i n f) (tabulate i n g)
unfolding tabulate
all_alike f g i zero each = tt
all_alike f g i (suc n) each = (each i, all_alike f g (suc i) n each)

module _ (ts : List Target) (targets : List ℕ)
    (same : kinds ts ≡ tabulate 0 (target_count targets) (λ j. eqb (target_kind targets j) 1)) where
  abbrev written : List ℕ
  written = write_claims 0 ts targets

  pub same_count : target_count written ≡ target_count targets
  same_count = rw (claims_length ts 0 targets)

  indirect_kept : (j : ℕ) → indirect_in targets j ≡ true → claim_in written j ≡ claim_in targets j
  indirect_kept j is = claims_kept ts 0 (target_count targets) targets (indirect_in targets) same j is

  -- the targets differ in direct claims only
  alike_written : (j : ℕ) → Alike (target_in written j) (target_in targets j)
  unfolding target_in
  alike_written j =
      let head = claims_head ts 0 targets j in
      let kind : indirect_in written j ≡ indirect_in targets j = ap (λ (x : ℕ). eqb x 1) head.kind in
      record { index = head.index; indirect = kind; claim = λ is. indirect_kept j (sym kind ∙ is) }

  target_placed : (n j : ℕ) → TargetPlaced n (target_row_in targets) j → TargetPlaced n (target_row_in written) j
  target_placed n j was =
      let head = claims_head ts 0 targets in
      record {
        inside = omega (arith, was.inside, (head j).index);
        kind = omega (arith, was.kind, (head j).kind);
        zero_byte = (head j).zero_byte ∙ was.zero_byte;
        indirect = λ is r below.
            let is_one : target_kind targets j ≡ 1 = sym (head j).kind ∙ is in
            rw (indirect_kept j (ap (λ (x : ℕ). eqb x 1) is_one)) (was.indirect is_one r below);
        first = λ e. let at_first = was.first e in ((head 0).index ∙ at_first.0, (head 0).kind ∙ at_first.1);
        rising = λ i e. omega (arith, was.rising i e, (head i).index, (head (suc i)).index);
      }

  pub placed_written : {l : Layout} {code : List ℕ} → ModulePlaced l code targets → ModulePlaced l code written
  placed_written placed = record {
    layout = placed.layout;
    each_instruction = placed.each_instruction;
    each_target = λ j below. target_placed _ j (placed.each_target j (omega (arith, same_count)));
  }

  -- so the same is worked out
  pub worked_written : (l : Layout) (code : List ℕ) → with_claims (program_of l code written) ≡ with_claims (program_of l code targets)
  unfolding program_of with_claims
  worked_written l code =
      ap (λ (w : WorkedOut). record { layout = l; code = (program_of l code targets).code; targets = map finished w.entries })
      (ignores_inner (program_of l code written) (program_of l code targets) refl refl
      (rw same_count (all_alike (target_in written) (target_in targets) 0 (target_count targets) alike_written)))

-- which targets are indirect, by the bytes and after working out
pub kinds_in : (l : Layout) (code targets : List ℕ)
    → kinds (program_of l code targets).targets ≡ tabulate 0 (target_count targets) (λ j. eqb (target_kind targets j) 1)
unfolding program_of target_in
kinds_in l code targets = map-tabulate (λ (t : Target). t.indirect) (target_in targets) 0 (target_count targets)

pub kinds_worked : (p : Program) → kinds (with_claims p).targets ≡ kinds p.targets
kinds_worked p =
    let entry-kinds = map-map (λ (e : Entry). e.indirect) begun in
    sym (entry-kinds (with_claims p).targets) ∙ ap (map (λ (e : Entry). e.indirect)) (begins_again p) ∙ entry-kinds p.targets

-- ---- the file

-- its targets' bytes are exchanged
pub claimed_is : (file : List ℕ) → FilePlaced file → (ts : List Target)
    → claimed ts file ≡ front file ++ write_claims 0 ts (targets_in file)
unfolding claimed
claimed_is file placed ts = ap (λ (b : List ℕ). front file ++ write_claims 0 ts b) (targets_rest file placed)

module _ (file : List ℕ) (placed : FilePlaced file) (ts : List Target) (same : kinds ts ≡ kinds (program_in file).targets) where
  abbrev after : List ℕ
  after = write_claims 0 ts (targets_in file)

  as_long : length after ≡ length (targets_in file)
  as_long = claims_length ts 0 (targets_in file)

  same_in : kinds ts ≡ tabulate 0 (target_count (targets_in file)) (λ j. eqb (target_kind (targets_in file) j) 1)
  same_in = same ∙ kinds_in (layout_in file) (code_in file) (targets_in file)

  exchanged_placed : FilePlaced (front file ++ after)
  exchanged_placed = exchanged_holds file placed after as_long (placed_written ts (targets_in file) same_in placed.holds)

  pub claimed_placed : FilePlaced (claimed ts file)
  claimed_placed = rw (claimed_is file placed ts) exchanged_placed

  -- it has as many instructions and targets as before
  pub same_counts : (instruction_count (code_in (claimed ts file)) ≡ instruction_count (code_in file))
      × (target_count (targets_in (claimed ts file)) ≡ target_count (targets_in file))
  same_counts = rw (claimed_is file placed ts) (
    ap instruction_count (same_code file placed after as_long),
    ap target_count (targets_are file placed after as_long) ∙ ap (λ (n : ℕ). n / 68) as_long,
  )

  -- other claims over these are as over those that came in
  claimed_over : (ts' : List Target) → kinds ts' ≡ kinds ts → claimed ts' (claimed ts file) ≡ claimed ts' file
  claimed_over ts' alike =
      ap (claimed ts') (claimed_is file placed ts)
      ∙ claimed_is (front file ++ after) exchanged_placed ts'
      ∙ (λ i. front_same file placed after as_long i ++ write_claims 0 ts' (targets_are file placed after as_long i))
      ∙ ap (λ (b : List ℕ). front file ++ b) (claims_over ts' ts 0 (targets_in file) alike)
      ∙ sym (claimed_is file placed ts')

  claimed_worked : with_claims (program_in (claimed ts file)) ≡ with_claims (program_in file)
  claimed_worked =
      ap (λ (b : List ℕ). with_claims (program_in b)) (claimed_is file placed ts)
      ∙ ap with_claims (exchanged_program file placed after as_long)
      ∙ worked_written ts (targets_in file) same_in (layout_in file) (code_in file)

  -- so the finished file is the same
  pub claimed_finished : finished_file (claimed ts file) ≡ finished_file file
  unfolding finished_file
  claimed_finished =
      ap (λ (p : Program). claimed p.targets (claimed ts file)) claimed_worked
      ∙ claimed_over (with_claims (program_in file)).targets (kinds_worked (program_in file) ∙ sym same)
