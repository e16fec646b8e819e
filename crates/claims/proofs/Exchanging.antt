-- Claims exchanged with those of the table, target by target; exchanged twice, the bytes are as they were.
-- Assumes nothing.
use Rattle.std.proofs.Common.{◌≡◌, ℕ, zero, suc, ◌+◌, ◌-◌, ◌≤◌, ◌<◌, Bool, true, false, cond, leb, eqb, List, length, get_or, set, Some, refl, sym, ap, ◌∙◌, add-one, arith, below_more}
use Rattle.std.proofs.lemmas.List.{get_or-set_same, get_or-set_other}
use borrow.Author.Tests.{le-leb}
use Rattle.model.specs.declared.Ranges.{Ranges}
use Rattle.model.specs.declared.Target.{Target}
use Rattle.model.specs.File.{tabulate, target_start, target_kind, claim_in, target_in}
use Rattle.model.specs.Claims.{write_ranges, write_claims}
use Rattle.model.proofs.Tabulate.{map-tabulate}
use Rattle.model.proofs.Tests.{cond_true}
use Rattle.model.proofs.Claims.OneClaim.{claim_elsewhere, claim_head}
use Rattle.model.proofs.Claims.AllClaims.{claims_length, claims_head, claims_restored}
use Rattle.claims.specs.declared.entry.Row.{Row}
use Rattle.claims.specs.Exchanges.{claim_at, target_with, targets_with, Exchanged}

-- ---- claims, target by target

-- where the target is all there, its claim is written
pub claim_in_room : (j : ℕ) {start : ℕ} (k : Ranges) (bytes : List ℕ) {after : List ℕ} → start ≡ target_start j → target_start j + 68 ≤ length bytes
    → after ≡ cond (leb (start + 68) (length bytes)) (write_ranges 8 start k bytes) bytes → after ≡ write_ranges 8 (target_start j) k bytes
claim_in_room j {start} k bytes is-start room is_after =
    is_after ∙ cond_true (leb (start + 68) (length bytes)) _ _ (le-leb (start + 68) (length bytes) (omega arith)) ∙ rw is-start

abbrev written : Target → ℕ → List ℕ → List ℕ
written t j bytes = cond t.indirect bytes (write_ranges 8 (target_start j) t.claim bytes)

-- the claims of direct targets are all that counts
claims_same : (f g : ℕ → Target) (j n : ℕ) (bytes : List ℕ) → ((m : ℕ) → (f m).indirect ≡ (g m).indirect)
    → ((m : ℕ) → m < j + n → (g m).indirect ≡ false → (f m).claim ≡ (g m).claim)
    → write_claims j (tabulate j n f) bytes ≡ write_claims j (tabulate j n g) bytes
unfolding write_claims tabulate
claims_same f g j zero bytes kind claim = refl
claims_same f g j (suc n) bytes kind claim =
    claims_same f g (suc j) n (written (f j) j bytes) kind (λ m below direct. claim m (omega arith) direct)
    ∙ ap (write_claims (suc j) (tabulate (suc j) n g)) (one (g j).indirect refl)
  where
    one : (indirect : Bool) → (g j).indirect ≡ indirect → written (f j) j bytes ≡ written (g j) j bytes
    one true is = rw (kind j, is)
    one false is = rw (kind j, is, claim j (omega arith) is)

-- ---- exchanged, and exchanged back

module _ {k : ℕ} {bytes : List ℕ} {rows : List Row} {bytes' : List ℕ} {rows' : List Row} (there : Exchanged k bytes rows bytes' rows') where
  abbrev over : List Target
  over = targets_with k bytes rows

  pub exchanged_length : length bytes' ≡ length bytes
  exchanged_length = ap length there.written ∙ claims_length over 0 bytes

  same_kind : (m : ℕ) → eqb (target_kind bytes' m) 1 ≡ eqb (target_kind bytes m) 1
  same_kind m = ap (λ (b : List ℕ). eqb (target_kind b m) 1) there.written ∙ ap (λ (x : ℕ). eqb x 1) (claims_head over 0 bytes m).kind

  pub exchanged_back : {bytes'' : List ℕ} {rows'' : List Row} → Exchanged k bytes' rows' bytes'' rows'' → ((i : ℕ) → get_or bytes i 0 < 256) → bytes'' ≡ bytes
  unfolding target_in
  exchanged_back back small =
      back.written
      ∙ claims_same (target_with bytes' rows') (target_in bytes) 0 k bytes' same_kind
      (λ m below direct. there.came m (omega arith) direct)
      ∙ ap (write_claims 0 (tabulate 0 k (target_in bytes))) there.written
      ∙ claims_restored bytes small k over (map-tabulate (λ (t : Target). t.indirect) (target_with bytes rows) 0 k)

-- ---- the loop: the first j of k are exchanged, and what is left to be written is as at the start

-- what `came` says of a number
abbrev Came : List ℕ → List Row → ℕ → Type 0
Came bytes rows m = eqb (target_kind bytes m) 1 ≡ false → claim_at rows m ≡ claim_in bytes m

pub record Begun (k j : ℕ) (bytes : List ℕ) (rows : List Row) (bytes' : List ℕ) (rows' : List Row) : Type 0 where
  pub rest : write_claims 0 (targets_with k bytes rows) bytes ≡ write_claims j (tabulate j (k - j) (target_with bytes rows)) bytes'
  pub kind : (m : ℕ) → target_kind bytes' m ≡ target_kind bytes m
  pub came : (m : ℕ) → m < j → Came bytes rows' m
  pub still : (m : ℕ) → j ≤ m → (claim_in bytes' m ≡ claim_in bytes m) × (claim_at rows' m ≡ claim_at rows m)

pub exchange_begins : {k : ℕ} {bytes : List ℕ} {rows : List Row} → Begun k 0 bytes rows bytes rows
exchange_begins {k} = record { rest = let all : k - 0 ≡ k = omega arith in rw all; kind = λ m. refl; came = λ m below. absurd (omega arith); still = λ m from. (refl, refl) }

module _ {k j : ℕ} {bytes : List ℕ} {rows : List Row} {bytes' : List ℕ} {rows' : List Row} (begun : Begun k j bytes rows bytes' rows') where
  pub exchange_ends : k ≤ j → Exchanged k bytes rows bytes' rows'
  unfolding write_claims tabulate
  exchange_ends past = record {
    written = let none : k - j ≡ 0 = omega arith in sym (rw none at begun.rest);
    came = λ m below. begun.came m (omega arith);
  }

  module _ (inside : j < k) where
    one_less : {bytes'' : List ℕ} → bytes'' ≡ written (target_with bytes rows j) j bytes'
        → write_claims 0 (targets_with k bytes rows) bytes ≡ write_claims (j + 1) (tabulate (j + 1) (k - (j + 1)) (target_with bytes rows)) bytes''
    unfolding write_claims tabulate
    one_less is = let left : k - j ≡ suc (k - (j + 1)) = omega arith in rw (is, add-one) (rw (left, add-one) at begun.rest)

    -- an indirect target is left alone
    pub exchange_passes : eqb (target_kind bytes' j) 1 ≡ true → Begun k (j + 1) bytes rows bytes' rows'
    exchange_passes is =
        let indirect : eqb (target_kind bytes j) 1 ≡ true = rw begun.kind at is in
        record {
          rest = one_less (rw indirect);
          kind = begun.kind;
          came = below_more (Came bytes rows') j begun.came (λ direct. absurd (cc));
          still = λ m from. begun.still m (omega arith);
        }

    -- a direct one is exchanged
    pub exchange_turns : eqb (target_kind bytes' j) 1 ≡ false → j < length rows' → (row : Row) {came : Ranges} → row.claim ≡ Some came → came ≡ claim_in bytes' j
        → {bytes'' : List ℕ} → bytes'' ≡ write_ranges 8 (target_start j) (claim_at rows' j) bytes' → Begun k (j + 1) bytes rows bytes'' (set rows' j row)
    exchange_turns is here row is-row is-came is-bytes =
        let direct : eqb (target_kind bytes j) 1 ≡ false = rw begun.kind at is in
        record {
          rest = one_less (is-bytes ∙ rw (direct, (begun.still j (omega arith)).1));
          kind = λ m. ap (λ (b : List ℕ). target_kind b m) is-bytes ∙ (claim_head (claim_at rows' j) j bytes' m).kind ∙ begun.kind m;
          came =
              below_more (Came bytes (set rows' j row)) j
              (λ m below direct. let other : m ≡ j → ⊥ = omega arith in rw get_or-set_other (begun.came m below direct))
              (λ _. rw (get_or-set_same, is-row) (is-came ∙ (begun.still j (omega arith)).0));
          still = λ m from. let other : m ≡ j → ⊥ = omega arith in (
            ap (λ (b : List ℕ). claim_in b m) is-bytes ∙ claim_elsewhere (claim_at rows' j) j bytes' m other ∙ (begun.still m (omega arith)).0,
            rw get_or-set_other (begun.still m (omega arith)).1,
          );
        }
