-- Document 02, ticket 7: targets (doors) found at once, by two tables beside the list. That they answer as the plain list does is
-- `FoundAtOnce` in Promises. Assumes nothing.
use Rattle.std.specs.Prelude.{ℕ, suc, ◌+◌, ◌*◌, ◌/◌, ◌%◌, ◌^◌, Bool, true, false, cond, List, [], ◌∷◌, ltb, eqb, get_or, count_ones, All, AllPairs, ◌<◌, ◌≡◌, is_some, option_map, option_and_then, slice_get, Option, None, Some}
use Rattle.std.specs.Int.{bit_at}
use lib.Lanes.{mask_l}
use Rattle.model.specs.declared.Target.{Target}
use Rattle.model.specs.Quantifiers.{any_of}
use Rattle.model.specs.Program.{target_at, is_target, is_indirect}
use Rattle.model.specs.File.{tabulate}

-- ---- the plain list

-- the number, counted from 0, of the target at an index
unfoldable pub number_at : List Target → ℕ → Option ℕ
number_at [] i = None
number_at (t ∷ ts) i = elim (eqb t.index i) [ true ↦ Some 0 | false ↦ option_map suc (number_at ts i) ]

-- the target of a number
abbrev pub target_numbered : List Target → Option ℕ → Option Target
target_numbered ts number = option_and_then (slice_get ts) number

-- "indexes rise strictly and are below n"
pub record Rising (n : ℕ) (ts : List Target) : Type 0 where
  pub rise : AllPairs (λ (t u : Target). t.index < u.index) ts
  pub below : All (λ (t : Target). t.index < n) ts

-- how many targets stand below an index
unfoldable pub targets_below : List Target → ℕ → ℕ
targets_below [] i = 0
targets_below (t ∷ ts) i = cond (ltb t.index i) 1 0 + targets_below ts i

-- ---- the tables

-- "one bit for each instruction, set for a door": the bits of a group, the lowest first, as a number
abbrev pub bits_of_group : List Target → ℕ → ℕ
bits_of_group ts g = mask_l (tabulate (64 * g) 64 (is_target ts))

-- as many groups as 4,096 instructions have
abbrev pub group_count : ℕ
group_count = 64

unfoldable pub bit_table : List Target → List ℕ
bit_table ts = tabulate 0 group_count (bits_of_group ts)

-- "for each group of 64 bits the number of doors before it": for the groups that n instructions have, and 0 behind them
unfoldable pub count_table : ℕ → List Target → List ℕ
count_table n ts = tabulate 0 group_count (λ g. cond (ltb (64 * g) n) (targets_below ts (64 * g)) 0)

-- ---- the lookup, in any two tables

-- the bits of an index's group; of a group that is in no table none is set
abbrev pub word_at : List ℕ → ℕ → ℕ
word_at bits i = get_or bits (i / 64) 0

abbrev pub is_set : ℕ → ℕ → Bool
is_set word b = eqb (bit_at word b) 1

-- "the set bits below it in its group"
abbrev pub set_below : ℕ → ℕ → ℕ
set_below word b = count_ones (word % 2 ^ b)

-- "A door's number in the list is then that count plus the set bits below it in its group."
unfoldable pub found_by : List ℕ → List ℕ → ℕ → Option ℕ
found_by bits counts i =
    cond (is_set (word_at bits i) (i % 64)) (Some (get_or counts (i / 64) 0 + set_below (word_at bits i) (i % 64))) None

-- what is found in the tables of a list, in a module of n instructions
abbrev pub found_at : ℕ → List Target → ℕ → Option ℕ
found_at n ts i = found_by (bit_table ts) (count_table n ts) i

-- "the answer equals that of the plain list": there or not, the number, the target, indirect or not
pub record AsListed (ts : List Target) (i : ℕ) (found : Option ℕ) : Type 0 where
  pub there : is_some found ≡ is_target ts i
  pub number : found ≡ number_at ts i
  pub target : target_numbered ts found ≡ target_at ts i
  pub indirect : any_of (target_numbered ts found) (λ t. t.indirect) ≡ is_indirect ts i
