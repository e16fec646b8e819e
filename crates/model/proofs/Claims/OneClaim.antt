-- A claim written over a target's bytes: it is read there, and the length and all other bytes are kept, so that every index and kind
-- and every other target's claim are as they were. Assumes nothing.
use Prim.Native.Nat.{ℕ, zero, suc, ◌+◌, ◌*◌, ◌≤◌, ◌<◌}
use mathlib.Core.Path.{◌≡◌, refl, ◌∙◌}
use mathlib.Core.Logic.{◌⊎◌, inl, inr}
use mathlib.Core.Bool.{Bool, true, false}
use mathlib.Core.List.{List}
use native.Mathlib.Omega.{arith}
use native.Mathlib.Decide.{ℕ_discrete}
use borrow.Author.Tests.{ltb-true, ltb-false}
use lib.Dec.{ltb, eqb}
use lib.ListN.{length, get_or}
use Rattle.model.specs.declared.Ranges.{Ranges}
use Rattle.model.specs.Words.{modulus, read_bytes, write_bytes}
use Rattle.model.specs.Ranges.{low, high}
use Rattle.model.specs.File.{byte_at, target_start, target_index, target_kind, claim_in, target_in}
use Rattle.model.specs.Safety.{EightWords}
use Rattle.model.specs.Claims.{write_ranges}
use Rattle.model.proofs.Steady.{write_bytes-length}
use Rattle.model.proofs.Tabulate.{tabulate_same, tabulate_is}
use Rattle.model.proofs.Writing.{same_number, write_outside, read_outside, write_read}

-- ---- what is read of a target

-- the numbers of a claim, by register
abbrev pub low_in : List ℕ → ℕ → ℕ → ℕ
low_in bytes at r = read_bytes 4 bytes (at + 4 + 8 * r)

abbrev pub high_in : List ℕ → ℕ → ℕ → ℕ
high_in bytes at r = read_bytes 4 bytes (at + 8 + 8 * r)

module _ (a b : List ℕ) (j : ℕ) where
  -- a claim is read from its bytes
  pub same_claim : ((i : ℕ) → target_start j + 4 ≤ i → i < target_start j + 68 → get_or a i 0 ≡ get_or b i 0) → claim_in a j ≡ claim_in b j
  unfolding claim_in
  same_claim same =
      let lows =
      tabulate_same (low_in a (target_start j)) (low_in b (target_start j)) 0 8 (λ r _ below. number _ (omega arith) (omega arith)) in
      let highs =
      tabulate_same (high_in a (target_start j)) (high_in b (target_start j)) 0 8 (λ r _ below. number _ (omega arith) (omega arith)) in
      λ i. record { lows = lows i; highs = highs i }
    where
      number : (at : ℕ) → target_start j + 4 ≤ at → at + 4 ≤ target_start j + 68 → read_bytes 4 a at ≡ read_bytes 4 b at
      number at from to = same_number 4 a b at (λ i least most. same i (omega arith) (omega arith))

  -- index, kind and the zero byte from the four before it
  pub record SameHead : Type 0 where
    pub index : target_index a j ≡ target_index b j
    pub kind : target_kind a j ≡ target_kind b j
    pub zero_byte : byte_at a (target_start j + 3) ≡ byte_at b (target_start j + 3)

  pub same_head : ((i : ℕ) → target_start j ≤ i → i < target_start j + 4 → get_or a i 0 ≡ get_or b i 0) → SameHead
  same_head same = record {
    index = same_number 2 a b (target_start j) (λ i least most. same i (omega arith) (omega arith));
    kind = same (target_start j + 2) (omega arith) (omega arith);
    zero_byte = same (target_start j + 3) (omega arith) (omega arith);
  }

  pub same_target : SameHead → claim_in a j ≡ claim_in b j → target_in a j ≡ target_in b j
  unfolding target_in
  same_target head claims =
      λ i. record { index = head.index i; indirect = eqb (head.kind i) 1; claim = claims i }

-- ---- the first n ranges of a claim, over the bytes of the target at an offset

module _ (k : Ranges) (at : ℕ) (bytes : List ℕ) where
  pub ranges_length : (n : ℕ) → length (write_ranges n at k bytes) ≡ length bytes
  unfolding write_ranges
  ranges_length zero = refl
  ranges_length (suc n) =
      write_bytes-length 4 (high k n) _ (at + 8 + 8 * n) ∙ write_bytes-length 4 (low k n) _ (at + 4 + 8 * n) ∙ ranges_length n

  pub ranges_outside : (n i : ℕ) → (i < at + 4) ⊎ (at + 4 + 8 * n ≤ i) → get_or (write_ranges n at k bytes) i 0 ≡ get_or bytes i 0
  unfolding write_ranges
  ranges_outside zero i outside = refl
  ranges_outside (suc n) i outside =
      write_outside 4 (high k n) _ (at + 8 + 8 * n) i (off (at + 8 + 8 * n) (omega arith) (omega arith) outside)
      ∙ write_outside 4 (low k n) _ (at + 4 + 8 * n) i (off (at + 4 + 8 * n) (omega arith) (omega arith) outside)
      ∙ ranges_outside n i (before outside)
    where
      off : (to : ℕ) → at + 4 ≤ to → to + 4 ≤ at + 4 + 8 * suc n → (i < at + 4) ⊎ (at + 4 + 8 * suc n ≤ i)
          → (i < to) ⊎ (to + 4 ≤ i)
      off to least most (inl below) = inl (omega arith)
      off to least most (inr above) = inr (omega arith)

      before : (i < at + 4) ⊎ (at + 4 + 8 * suc n ≤ i) → (i < at + 4) ⊎ (at + 4 + 8 * n ≤ i)
      before (inl below) = inl below
      before (inr above) = inr (omega arith)

  read_ranges : ((r : ℕ) → low k r < modulus) → ((r : ℕ) → high k r < modulus)
      → (n : ℕ) → at + 4 + 8 * n ≤ length bytes → (r : ℕ) → r < n
      → (low_in (write_ranges n at k bytes) at r ≡ low k r) × (high_in (write_ranges n at k bytes) at r ≡ high k r)
  unfolding write_ranges
  read_ranges lows highs zero fits r below = absurd (omega arith)
  read_ranges lows highs (suc n) fits r below = last_or_earlier (ℕ_discrete r n) (λ h. read_ranges lows highs n (omega arith) r h)
    where
      before : List ℕ
      before = write_ranges n at k bytes

      half : List ℕ
      half = write_bytes 4 (low k n) before (at + 4 + 8 * n)

      whole : List ℕ
      whole = write_bytes 4 (high k n) half (at + 8 + 8 * n)

      half_length : length half ≡ length bytes
      half_length = write_bytes-length 4 (low k n) before (at + 4 + 8 * n) ∙ ranges_length n

      -- what lies below both numbers
      earlier_read : (place : ℕ) → place + 4 ≤ at + 4 + 8 * n → read_bytes 4 whole place ≡ read_bytes 4 before place
      earlier_read place below =
          read_outside 4 4 (high k n) half (at + 8 + 8 * n) place (inl (omega arith))
          ∙ read_outside 4 4 (low k n) before (at + 4 + 8 * n) place (inl below)

      last_or_earlier : Dec (r ≡ n) → (r < n → (low_in before at r ≡ low k r) × (high_in before at r ≡ high k r))
          → (low_in whole at r ≡ low k r) × (high_in whole at r ≡ high k r)
      last_or_earlier (yes e) earlier = rw e (
        read_outside 4 4 (high k n) half (at + 8 + 8 * n) (at + 4 + 8 * n) (inl (omega arith))
            ∙ write_read 4 (low k n) before (at + 4 + 8 * n) (omega (arith, ranges_length n)) (lows n),
        write_read 4 (high k n) half (at + 8 + 8 * n) (omega (arith, half_length)) (highs n),
      )
      last_or_earlier (no e) earlier =
          let was = earlier (omega arith) in (
            earlier_read (at + 4 + 8 * r) (omega arith) ∙ was.0,
            earlier_read (at + 8 + 8 * r) (omega arith) ∙ was.1,
          )

-- ---- a claim, over that of the target of a number

module _ (k : Ranges) (j : ℕ) (bytes : List ℕ) where
  abbrev after : List ℕ
  after = write_ranges 8 (target_start j) k bytes

  -- what is written is read
  pub claim_read : EightWords k.lows → EightWords k.highs → target_start j + 68 ≤ length bytes
      → claim_in (write_ranges 8 (target_start j) k bytes) j ≡ k
  unfolding claim_in
  claim_read low-words high-words fits =
      let lows = tabulate_is (low_in after (target_start j)) 0 8 k.lows low-words.eight (λ r below. (back r below).0) in
      let highs = tabulate_is (high_in after (target_start j)) 0 8 k.highs high-words.eight (λ r below. (back r below).1) in
      λ i. record { lows = lows i; highs = highs i }
    where
      back : (r : ℕ) → r < 8 → (low_in after (target_start j) r ≡ low k r) × (high_in after (target_start j) r ≡ high k r)
      back = read_ranges k (target_start j) bytes low-words.small high-words.small 8 (omega arith)

  -- all other bytes are kept
  pub claim_outside : (i : ℕ) → (i < target_start j + 4) ⊎ (target_start j + 68 ≤ i)
      → get_or (write_ranges 8 (target_start j) k bytes) i 0 ≡ get_or bytes i 0
  claim_outside i (inl below) = ranges_outside k (target_start j) bytes 8 i (inl below)
  claim_outside i (inr above) = ranges_outside k (target_start j) bytes 8 i (inr (omega arith))

  -- so those of every other target
  elsewhere : (m i : ℕ) → (m ≡ j → ⊥) → target_start m ≤ i → i < target_start m + 68
      → get_or (write_ranges 8 (target_start j) k bytes) i 0 ≡ get_or bytes i 0
  elsewhere m i other from below = claim_outside i (apart (ltb j m) refl)
    where
      apart : (t : Bool) → ltb j m ≡ t → (i < target_start j + 4) ⊎ (target_start j + 68 ≤ i)
      apart true later = let less : j < m = ltb-true j m later in inr (omega arith)
      apart false earlier = let most : m ≤ j = ltb-false j m earlier in inl (omega arith)

  -- and with them its claim, and index and kind of each target
  pub claim_elsewhere : (m : ℕ) → (m ≡ j → ⊥) → claim_in (write_ranges 8 (target_start j) k bytes) m ≡ claim_in bytes m
  claim_elsewhere m other = same_claim after bytes m (λ i from below. elsewhere m i other (omega arith) below)

  pub claim_head : (m : ℕ) → SameHead (write_ranges 8 (target_start j) k bytes) bytes m
  claim_head m = same_head after bytes m (λ i from below. here_or_elsewhere i from below (ℕ_discrete m j))
    where
      here_or_elsewhere : (i : ℕ) → target_start m ≤ i → i < target_start m + 4 → Dec (m ≡ j) → get_or after i 0 ≡ get_or bytes i 0
      here_or_elsewhere i from below (yes here) = claim_outside i (inl (omega arith))
      here_or_elsewhere i from below (no other) = elsewhere m i other from (omega arith)
