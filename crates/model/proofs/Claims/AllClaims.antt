-- Claims written over those of the direct targets, in the targets' bytes: each is read, and all else is as it was; of two writes the later
-- one counts, and the claims that stand there change nothing, so that those that came in, written back, give the bytes as they came.
-- Assumes nothing.
use Prim.Native.Nat.{ℕ, zero, suc, ◌+◌, ◌*◌, ◌≤◌, ◌<◌}
use mathlib.Core.Path.{◌≡◌, refl, sym, ap, ◌∙◌, subst}
use mathlib.Core.Bool.{Bool, true, false, cond, true≢false}
use mathlib.Core.List.{List, [], ◌∷◌, map}
use native.Mathlib.Omega.{arith}
use lib.Dec.{eqb}
use lib.ListN.{length, get_or}
use Rattle.model.specs.declared.Ranges.{Ranges}
use Rattle.model.specs.declared.Target.{Target}
use Rattle.model.specs.Ranges.{low, high}
use Rattle.model.specs.File.{tabulate, target_start, target_kind, claim_in, target_in}
use Rattle.model.specs.Safety.{EightWords}
use Rattle.model.specs.Claims.{write_ranges, write_claims}
use Rattle.model.proofs.Tests.{by_cond}
use Rattle.model.proofs.Tabulate.{table_at, tabulate_same, map-tabulate}
use Rattle.model.proofs.Writing.{write_own, Over, over_counts, over_nothing, over_then, over_number}
use Rattle.model.proofs.Claims.OneClaim.{low_in, high_in, SameHead, same_head, same_target, ranges_length, claim_read, claim_head, claim_elsewhere}
use Rattle.model.proofs.Claims.Ending.{ProperTarget, AllProper}
use Rattle.model.proofs.Claims.Independent.{Alike, AllAlike}

-- which of the targets are indirect
abbrev pub kinds : List Target → List Bool
kinds ts = map (λ (t : Target). t.indirect) ts

-- ---- one target: an indirect one is left alone

abbrev write_one : Target → ℕ → List ℕ → List ℕ
write_one t j bytes = cond t.indirect bytes (write_ranges 8 (target_start j) t.claim bytes)

module _ (t : Target) (j : ℕ) (bytes : List ℕ) where
  -- what holds of the bytes, and of them with the claim written, holds of what is left
  written_or_not : (P : List ℕ → Type 0) → P bytes → P (write_ranges 8 (target_start j) t.claim bytes) → P (write_one t j bytes)
  written_or_not P not_written written = by_cond P t.indirect (λ _. not_written) (λ _. written)

  one_length : length (write_one t j bytes) ≡ length bytes
  one_length = written_or_not (λ b. length b ≡ length bytes) refl (ranges_length t.claim (target_start j) bytes 8)

  one_head : (m : ℕ) → SameHead (write_one t j bytes) bytes m
  one_head m = written_or_not (λ b. SameHead b bytes m) (same_head bytes bytes m (λ i _ _. refl)) (claim_head t.claim j bytes m)

  one_elsewhere : (m : ℕ) → (m ≡ j → ⊥) → claim_in (write_one t j bytes) m ≡ claim_in bytes m
  one_elsewhere m other = written_or_not (λ b. claim_in b m ≡ claim_in bytes m) refl (claim_elsewhere t.claim j bytes m other)

-- ---- all targets, from a number on

pub claims_length : (ts : List Target) (j : ℕ) (bytes : List ℕ) → length (write_claims j ts bytes) ≡ length bytes
unfolding write_claims
claims_length [] j bytes = refl
claims_length (t ∷ ts) j bytes = claims_length ts (suc j) (write_one t j bytes) ∙ one_length t j bytes

-- index and kind of each target are kept
pub claims_head : (ts : List Target) (j : ℕ) (bytes : List ℕ) (m : ℕ) → SameHead (write_claims j ts bytes) bytes m
unfolding write_claims
claims_head [] j bytes m = same_head bytes bytes m (λ i _ _. refl)
claims_head (t ∷ ts) j bytes m =
    let later = claims_head ts (suc j) (write_one t j bytes) m in
    let one = one_head t j bytes m in
    record { index = later.index ∙ one.index; kind = later.kind ∙ one.kind; zero_byte = later.zero_byte ∙ one.zero_byte }

-- and so is each claim that stands before, or is an indirect target's
claims_earlier : (ts : List Target) (j : ℕ) (bytes : List ℕ) (m : ℕ) → m < j → claim_in (write_claims j ts bytes) m ≡ claim_in bytes m
unfolding write_claims
claims_earlier [] j bytes m before = refl
claims_earlier (t ∷ ts) j bytes m before =
    claims_earlier ts (suc j) (write_one t j bytes) m (omega arith) ∙ one_elsewhere t j bytes m (λ here. omega arith)

pub claims_kept : (ts : List Target) (j n : ℕ) (bytes : List ℕ) (indirect : ℕ → Bool) → kinds ts ≡ tabulate j n indirect
    → (m : ℕ) → indirect m ≡ true → claim_in (write_claims j ts bytes) m ≡ claim_in bytes m
unfolding write_claims tabulate
claims_kept [] j n bytes indirect same m is = refl
claims_kept (t ∷ ts) j zero bytes indirect same m is = absurd (omega (arith, ap length same))
claims_kept (t ∷ ts) j (suc n) bytes indirect same m is =
    let here : t.indirect ≡ indirect j = cc in
    let later : kinds ts ≡ tabulate (suc j) n indirect = cc in
    claims_kept ts (suc j) n (write_one t j bytes) indirect later m is
    ∙ by_cond (λ b. claim_in b m ≡ claim_in bytes m) t.indirect (λ _. refl)
    (λ direct. claim_elsewhere t.claim j bytes m (λ e. true≢false (sym is ∙ ap indirect e ∙ sym here ∙ direct)))

-- ---- read back

module _ (t : Target) (j : ℕ) (bytes : List ℕ) where
  one_read : target_start j + 68 ≤ length bytes → Alike t (target_in bytes j) → ProperTarget t → target_in (write_one t j bytes) j ≡ t
  unfolding target_in
  one_read fits alike proper =
      let index = (one_head t j bytes j).index ∙ sym alike.index in
      let indirect = ap (λ (x : ℕ). eqb x 1) (one_head t j bytes j).kind ∙ sym alike.indirect in
      let claim =
      by_cond (λ b. claim_in b j ≡ t.claim) t.indirect (λ is. sym (alike.claim is))
      (λ _. claim_read t.claim j bytes lows highs fits) in
      λ i. record { index = index i; indirect = indirect i; claim = claim i }
    where
      lows : EightWords t.claim.lows
      lows = record {
        eight = proper.bounded.lows8;
        small = λ r. omega (arith, proper.bounded.ordered r, proper.bounded.small r);
      }

      highs : EightWords t.claim.highs
      highs = record { eight = proper.bounded.highs8; small = λ r. omega (arith, proper.bounded.small r) }

-- where index, kind and indirect claims are those that stand there, and each claim is one that a file can hold
pub claims_read : (ts : List Target) (j : ℕ) (bytes : List ℕ) → target_start j + 68 * length ts ≤ length bytes
    → AllAlike ts (tabulate j (length ts) (target_in bytes)) → AllProper ts
    → tabulate j (length ts) (target_in (write_claims j ts bytes)) ≡ ts
unfolding write_claims tabulate
claims_read [] j bytes fits alike proper = refl
claims_read (t ∷ ts) j bytes fits alike proper =
    let one : List ℕ = write_one t j bytes in
    let first : target_in (write_claims (suc j) ts one) j ≡ t =
    same_target (write_claims (suc j) ts one) one j (claims_head ts (suc j) one j) (claims_earlier ts (suc j) one j (omega arith))
    ∙ one_read t j bytes (omega arith) alike.0 proper.0 in
    let unchanged : tabulate (suc j) (length ts) (target_in bytes) ≡ tabulate (suc j) (length ts) (target_in one) =
    tabulate_same (target_in bytes) (target_in one) (suc j) (length ts)
    (λ m from _. sym (same_target one bytes m (one_head t j bytes m) (one_elsewhere t j bytes m (λ e. omega arith)))) in
    let rest : tabulate (suc j) (length ts) (target_in (write_claims (suc j) ts one)) ≡ ts =
    claims_read ts (suc j) one (omega (arith, one_length t j bytes)) (subst (AllAlike ts) unchanged alike.1) proper.1 in
    cc

-- ---- written over

over_ranges : (n at : ℕ) (k k' : Ranges) → Over (λ b. write_ranges n at k b) (λ b. write_ranges n at k' b)
unfolding write_ranges
over_ranges zero at k k' = over_nothing
over_ranges (suc n) at k k' =
    over_then (over_then (over_ranges n at k k') (over_number 4 (low k n) (low k' n) (at + 4 + 8 * n)))
    (over_number 4 (high k n) (high k' n) (at + 8 + 8 * n))

over_one : (t t' : Target) (j : ℕ) → t.indirect ≡ t'.indirect → Over (λ b. write_one t j b) (λ b. write_one t' j b)
over_one t t' j same = rw same (by_kind t'.indirect)
  where
    unless : Bool → Ranges → List ℕ → List ℕ
    unless indirect k b = cond indirect b (write_ranges 8 (target_start j) k b)

    by_kind : (indirect : Bool) → Over (unless indirect t.claim) (unless indirect t'.claim)
    by_kind true = over_nothing
    by_kind false = over_ranges 8 (target_start j) t.claim t'.claim

over_claims : (ts ts' : List Target) (j : ℕ) → kinds ts ≡ kinds ts' → Over (λ b. write_claims j ts b) (λ b. write_claims j ts' b)
unfolding write_claims
over_claims [] [] j same = over_nothing
over_claims [] (t' ∷ ts') j same = absurd (omega (arith, ap length same))
over_claims (t ∷ ts) [] j same = absurd (omega (arith, ap length same))
over_claims (t ∷ ts) (t' ∷ ts') j same = over_then (over_one t t' j (cc)) (over_claims ts ts' (suc j) (cc))

-- of two writes the later one counts
pub claims_over : (ts ts' : List Target) (j : ℕ) (bytes : List ℕ) → kinds ts ≡ kinds ts'
    → write_claims j ts (write_claims j ts' bytes) ≡ write_claims j ts bytes
claims_over ts ts' j bytes same = over_counts (over_claims ts ts' j same) bytes

-- ---- written back

module _ (bytes : List ℕ) (small : (i : ℕ) → get_or bytes i 0 < 256) where
  ranges_own : (j n : ℕ) → n ≤ 8 → write_ranges n (target_start j) (claim_in bytes j) bytes ≡ bytes
  unfolding write_ranges claim_in
  ranges_own j zero few = refl
  ranges_own j (suc n) few =
      let lowest = table_at (low_in bytes (target_start j)) 0 8 n (omega arith) in
      let highest = table_at (high_in bytes (target_start j)) 0 8 n (omega arith) in
      rw (ranges_own j n (omega arith), lowest, highest, write_own 4 bytes (target_start j + 4 + 8 * n) small)
      (write_own 4 bytes (target_start j + 8 + 8 * n) small)

  -- the claims that stand there change nothing
  claims_own : (j n : ℕ) → write_claims j (tabulate j n (target_in bytes)) bytes ≡ bytes
  unfolding write_claims tabulate target_in
  claims_own j zero = refl
  claims_own j (suc n) =
      let own : write_one (target_in bytes j) j bytes ≡ bytes =
      written_or_not (target_in bytes j) j bytes (λ b. b ≡ bytes) refl (ranges_own j 8 (omega arith)) in
      ap (write_claims (suc j) (tabulate (suc j) n (target_in bytes))) own ∙ claims_own (suc j) n

  -- so, written back over others, they give the bytes as they came
  pub claims_restored : (count : ℕ) (ts : List Target) → kinds ts ≡ tabulate 0 count (λ j. eqb (target_kind bytes j) 1)
      → write_claims 0 (tabulate 0 count (target_in bytes)) (write_claims 0 ts bytes) ≡ bytes
  unfolding target_in
  claims_restored count ts same =
      claims_over (tabulate 0 count (target_in bytes)) ts 0 bytes
      (map-tabulate (λ (t : Target). t.indirect) (target_in bytes) 0 count ∙ sym same)
      ∙ claims_own 0 count
