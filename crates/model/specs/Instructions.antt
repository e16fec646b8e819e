-- The sixteen instructions: document 01's table, both columns, and what else the rules ask of an instruction.
-- Assumes nothing.
use Rattle.std.specs.Prelude.{ℕ, ◌+◌, ◌-◌, ◌*◌, ◌/◌, ◌%◌, ◌^◌, min, Bool, true, false, List, ltb, eqb, ℤ, pos, ◌+ℤ◌, ◌-ℤ◌, get_or, Option, None, Some}
use Rattle.std.proofs.Math.IntN.{sub_ℕ}
use Rattle.std.specs.Int.Signed.{lt_z}
use Rattle.model.specs.declared.Instruction.{Instruction}
use Rattle.model.specs.declared.Instruction.TheVariants.{Halt, Set, Copy, Add, Addi, Sub, Andi, Guard, Shr, Sar, Load, Store, Jump, Branch, Check, Jumpr}
use Rattle.model.specs.declared.Layout.{Layout}
use Rattle.model.specs.declared.LoadWidth.{LoadWidth}
use Rattle.model.specs.declared.LoadWidth.TheVariants.{Unsigned, SignedOne, SignedTwo}
use Rattle.model.specs.declared.Range.{Range}
use Rattle.model.specs.declared.Ranges.{Ranges}
use Rattle.model.specs.declared.Test.{Test}
use Rattle.model.specs.declared.Test.TheVariants.{Equal, Below, SignedBelow}
use Rattle.model.specs.declared.Width.{Width}
use Rattle.model.specs.declared.Width.TheVariants.{One, Two, Four}
use Rattle.model.specs.Words.{wrap, signed, signed_from, arithmetic_shift, bitwise_and}
use Rattle.model.specs.Ranges.{range, anything, low, high, range_of, put, rule_w, guard_range, shr_range, sar_range, cut, between, rule_b}

-- "For load and store w is 1, 2 or 4."
abbrev pub bytes_of : Width → ℕ
bytes_of One = 1
bytes_of Two = 2
bytes_of Four = 4

-- document 02, ticket 2: "w 129 and w 130 read one and two bytes and carry the sign up through 32 bits.": the bytes that a load reads
abbrev pub width_read : LoadWidth → Width
width_read (Unsigned w) = w
width_read SignedOne = One
width_read SignedTwo = Two

-- and what it makes of the number read: "zero-extended", or its signed reading of one or two bytes, as a word
unfoldable pub carried : LoadWidth → ℕ → ℕ
carried (Unsigned w) raw = raw
carried SignedOne raw = wrap (signed_from 0x80 raw)
carried SignedTwo raw = wrap (signed_from 0x8000 raw)

-- a load's range after it: "0 to 2^(8w) − 1"; document 02, ticket 2: "Their range afterwards is anything."
abbrev pub load_range : LoadWidth → Range
load_range (Unsigned w) = range 0 (2 ^ (8 * bytes_of w) - 1)
load_range SignedOne = anything
load_range SignedTwo = anything

-- "For branch w is 0 (a = b), 1 (a < b unsigned) or 2 (a < b signed)."
unfoldable pub holds : Test → ℕ → ℕ → Bool
holds Equal x y = eqb x y
holds Below x y = ltb x y
holds SignedBelow x y = lt_z (signed x) (signed y)

-- what a register holds
abbrev pub reg : List ℕ → ℕ → ℕ
reg rs r = get_or rs r 0

-- guard: "a := base + (a mod size)"
unfoldable pub guarded : Layout → ℕ → ℕ
guarded l x = l.base + x % l.size

-- an access: w bytes at b + imm
pub record Access : Type 0 where
  pub pointer : ℕ
  pub width : Width
  pub displacement : ℤ

-- a load's access; document 02, ticket 2: "Access rules, rule N and what the walk says a load reaches for use 1 and 2 as the byte
-- count."
abbrev pub load_access : ℕ → LoadWidth → ℤ → Access
load_access b v imm = record { pointer = b; width = width_read v; displacement = imm }

-- What an instruction is, seen by what it does. `assigns` has both columns of the table: the register's new value, from the
-- layout and the registers before, and its new range, from the region's range and the ranges before. `loads` has a load's operands,
-- register, pointer, width and displacement.
pub data Shape : Type 0 where
  stops : Shape
  assigns : ℕ → (Layout → List ℕ → ℕ) → (Range → Ranges → Range) → Shape
  loads : ℕ → ℕ → LoadWidth → ℤ → Shape
  stores : ℕ → Access → Shape
  jumps : ℕ → Shape
  branches : Test → ℕ → ℕ → ℕ → Shape
  checks : ℕ → Shape
  jumps_via : ℕ → Shape

-- the table
unfoldable pub shape : Instruction → Shape
shape Halt = stops
shape (Set a imm) = assigns a (λ l rs. imm) (λ region k. range imm imm)
shape (Copy a b) = assigns a (λ l rs. reg rs b) (λ region k. range_of k b)
shape (Add a b) =
    assigns a (λ l rs. wrap (pos (reg rs a) +ℤ pos (reg rs b)))
    (λ region k. rule_w (pos (low k a) +ℤ pos (low k b)) (pos (high k a) +ℤ pos (high k b)))
shape (Addi a imm) =
    assigns a (λ l rs. wrap (pos (reg rs a) +ℤ imm)) (λ region k. rule_w (pos (low k a) +ℤ imm) (pos (high k a) +ℤ imm))
shape (Sub a b) =
    assigns a (λ l rs. wrap (sub_ℕ (reg rs a) (reg rs b))) (λ region k. rule_w (sub_ℕ (low k a) (high k b)) (sub_ℕ (high k a) (low k b)))
shape (Andi a imm) = assigns a (λ l rs. bitwise_and 32 (reg rs a) imm) (λ region k. range 0 (min (high k a) imm))
shape (Guard a) = assigns a (λ l rs. guarded l (reg rs a)) (λ region k. guard_range region (range_of k a))
shape (Shr a w) = assigns a (λ l rs. reg rs a / 2 ^ w) (λ region k. shr_range (range_of k a) w)
shape (Sar a w) = assigns a (λ l rs. arithmetic_shift (reg rs a) w) (λ region k. sar_range (range_of k a) w)
shape (Load a b v imm) = loads a b v imm
shape (Store a b w imm) = stores a (record { pointer = b; width = w; displacement = imm })
shape (Jump to) = jumps to
shape (Branch a b test to) = branches test a b to
shape (Check a) = checks a
shape (Jumpr a) = jumps_via a

-- what the rules ask of an instruction: the access it makes, the index that a jump or branch names, the register that a jumpr
-- goes by, the register that a check looks at, and whether it can go on to the next index
pub record Traits : Type 0 where
  pub access : Option Access
  pub names : Option ℕ
  pub goes_by : Option ℕ
  pub looks_at : Option ℕ
  pub falls : Bool

abbrev pub has : Option Access → Option ℕ → Option ℕ → Option ℕ → Bool → Traits
has ac n g k f = record { access = ac; names = n; goes_by = g; looks_at = k; falls = f }

abbrev pub traits : Shape → Traits
traits stops = has None None None None false
traits (assigns a value ranged) = has None None None None true
traits (loads a b v imm) = has (Some (load_access b v imm)) None None None true
traits (stores a ac) = has (Some ac) None None None true
traits (jumps to) = has None (Some to) None None false
traits (branches test a b to) = has None (Some to) None None true
traits (checks a) = has None None None (Some a) true
traits (jumps_via a) = has None None (Some a) None false

-- the pointers from which an access of w bytes at imm lies in the region, by exact sums: from DB − imm to DL − w + 1 − imm, whole
-- numbers that need not be words
abbrev pub pointers_into : Range → Width → ℤ → Range
pointers_into region w imm = between (pos region.low -ℤ imm) (sub_ℕ region.high (bytes_of w - 1) -ℤ imm)

-- document 02, ticket 1: "Rule N shall cut b for every imm and width: exact b + imm lies from DB to DL − w + 1. The rule against
-- empty cuts and the case of a load with a = b remain."
unfoldable pub rule_n : Range → Access → Ranges → Ranges
rule_n region ac k =
    put k ac.pointer (cut (range_of k ac.pointer) (pointers_into region ac.width ac.displacement))

-- the ranges along the edge to the next index ("A load with a = b keeps the loaded range instead."), the region being DB to DL,
-- and along the edge that a jump or taken branch takes
unfoldable pub after_next : Range → Shape → Ranges → Ranges
after_next region stops k = k
after_next region (assigns a value ranged) k = put k a (ranged region k)
after_next region (loads a b v imm) k = put (rule_n region (load_access b v imm) k) a (load_range v)
after_next region (stores a ac) k = rule_n region ac k
after_next region (jumps to) k = k
after_next region (branches test a b to) k = rule_b test false a b k
after_next region (checks a) k = k
after_next region (jumps_via a) k = k

unfoldable pub after_taken : Shape → Ranges → Ranges
after_taken stops k = k
after_taken (assigns a value ranged) k = k
after_taken (loads a b v imm) k = k
after_taken (stores a ac) k = k
after_taken (jumps to) k = k
after_taken (branches test a b to) k = rule_b test true a b k
after_taken (checks a) k = k
after_taken (jumps_via a) k = k
