-- The module file: fields, layout, instructions and targets, and refusals 1 to 7 in their order. Assumes nothing.
use Rattle.std.specs.Prelude.{ℕ, zero, suc, ◌+◌, ◌*◌, ◌/◌, ◌%◌, ◌^◌, Bool, true, false, cond, not, ◌&&◌, ◌||◌, List, [], ◌∷◌, ◌++◌, leb, ltb, eqb, length, get_or, take, drop, option_map, unwrap_or, Option, None, Some}
use Rattle.model.specs.declared.Instruction.{Instruction}
use Rattle.model.specs.declared.Instruction.TheVariants.{Halt, Set, Copy, Add, Addi, Sub, Andi, Guard, Shr, Sar, Load, Store, Jump, Branch, Check, Jumpr}
use Rattle.model.specs.declared.Layout.{Layout}
use Rattle.model.specs.declared.LoadWidth.{LoadWidth}
use Rattle.model.specs.declared.LoadWidth.TheVariants.{Unsigned, SignedOne, SignedTwo}
use Rattle.model.specs.declared.Ranges.{Ranges}
use Rattle.model.specs.declared.Target.{Target}
use Rattle.model.specs.declared.Test.{Test}
use Rattle.model.specs.declared.Test.TheVariants.{Equal, Below, SignedBelow}
use Rattle.model.specs.declared.Width.{Width}
use Rattle.model.specs.declared.Width.TheVariants.{One, Two, Four}
use Rattle.model.specs.Quantifiers.{any_of, all_below, any_below}
use Rattle.model.specs.Words.{modulus, signed, read_bytes}
use Rattle.model.specs.Obligations.{Fault, Obligation, owes, first_fault, each}
use Rattle.model.specs.Ranges.{low, high, unknown}
use Rattle.model.specs.Program.{Program}

-- the byte at an offset; 0 past the end
abbrev pub byte_at : List ℕ → ℕ → ℕ
byte_at file at = get_or file at 0

-- ---- fields: "A field is a one-byte tag, a two-byte length and that many bytes of value."

abbrev pub field_length : List ℕ → ℕ → ℕ
field_length file at = read_bytes 2 file (at + 1)

abbrev pub value_at : ℕ → ℕ
value_at at = at + 3

abbrev pub field_end : List ℕ → ℕ → ℕ
field_end file at = value_at at + field_length file at

-- "n from 1 to 4,096"; "k from 1 to 256"
abbrev pub most_instructions : ℕ
most_instructions = 4096

abbrev pub most_targets : ℕ
most_targets = 256

-- a number of units, from one to the most
abbrev pub is_multiple : ℕ → ℕ → ℕ → Bool
is_multiple unit most n = eqb (n % unit) 0 && leb 1 (n / unit) && leb (n / unit) most

-- the lengths that are listed for a tag: "tag 01 hex, length 12", "tag 02 hex, length 8n", "tag 03 hex, length 68k"
unfoldable pub is_listed : ℕ → ℕ → Bool
is_listed tag n =
    cond (eqb tag 1) (eqb n 12)
    (cond (eqb tag 2) (is_multiple 8 most_instructions n)
    (cond (eqb tag 3) (is_multiple 68 most_targets n) false))

-- "A field is judged 1 (header), 2, 3, 1 (value).", each at the offset of the field
unfoldable pub field : List ℕ → ℕ → ℕ → List Obligation
field file at tag =
    owes 1 at (leb (value_at at) (length file))
    ∷ owes 2 at (eqb (byte_at file at) tag)
    ∷ owes 3 at (is_listed tag (field_length file at))
    ∷ owes 1 at (leb (field_end file at) (length file))
    ∷ []

-- "The field reader hands back the very stretch of module bytes that is the field's value."; none of a field that is refused
abbrev pub unless_fault : Option Fault → List ℕ → List ℕ
unless_fault None bytes = bytes
unless_fault (Some f) bytes = []

unfoldable pub field_value : List ℕ → ℕ → ℕ → List ℕ
field_value file at tag =
    unless_fault (first_fault (field file at tag)) (take (field_length file at) (drop (value_at at) file))

-- "Exactly three fields stand in this order": the instructions' field stands behind the layout's three bytes of header and
-- twelve of value, the targets' field behind the instructions'
abbrev pub code_start : ℕ
code_start = 15

abbrev pub targets_at : List ℕ → ℕ
targets_at file = field_end file code_start

-- the stretches of the three values
abbrev pub layout_bytes : List ℕ → List ℕ
layout_bytes file = field_value file 0 1

abbrev pub code_in : List ℕ → List ℕ
code_in file = field_value file code_start 2

abbrev pub targets_in : List ℕ → List ℕ
targets_in file = field_value file (targets_at file) 3

-- "n instructions", "k doors": of eight bytes each in the one, of 68 in the other
abbrev pub instruction_count : List ℕ → ℕ
instruction_count code = length code / 8

abbrev pub target_count : List ℕ → ℕ
target_count targets = length targets / 68

-- ---- layout: "base, size, guard, 32 bits each"

abbrev pub layout_of : List ℕ → Layout
layout_of bytes = record { base = read_bytes 4 bytes 0; size = read_bytes 4 bytes 4; guard = read_bytes 4 bytes 8 }

abbrev pub layout_in : List ℕ → Layout
layout_in file = layout_of (layout_bytes file)

-- "Size is a power of two from 256 to 65,536."
abbrev pub is_region_size : ℕ → Bool
is_region_size size = any_below 9 (λ k. eqb size (2 ^ (8 + k)))

-- "Guard is 0 to 4,096. Base is a multiple of size, base ≥ guard, and base + size + guard ≤ 2^32."
unfoldable pub is_layout : Layout → Bool
is_layout l =
    is_region_size l.size && leb l.guard 4096 && eqb (l.base % l.size) 0
    && leb l.guard l.base && leb (l.base + l.size + l.guard) modulus

-- ---- instructions: "Bytes op, a, b, w, then imm, 32 bits."

-- "a and b name registers 0 to 7"; "w 0–31"; "unused ones are zero"
abbrev pub is_register : ℕ → Bool
is_register r = ltb r 8

abbrev pub is_amount : ℕ → Bool
is_amount w = ltb w 32

abbrev pub is_unused : ℕ → Bool
is_unused x = eqb x 0

-- "For load and store w is 1, 2 or 4."
abbrev pub width_of : ℕ → Option Width
width_of w = get_or (None ∷ Some One ∷ Some Two ∷ None ∷ Some Four ∷ []) w None

-- document 02, ticket 2: "Load gets two more widths: w 129 and w 130"; "Store stays with 1, 2 and 4."; "6 no longer rejects these two
-- widths on a load."
abbrev pub load_width_of : ℕ → Option LoadWidth
load_width_of w = cond (eqb w 129) (Some SignedOne) (cond (eqb w 130) (Some SignedTwo) (option_map Unsigned (width_of w)))

-- "For branch w is 0 (a = b), 1 (a < b unsigned) or 2 (a < b signed)."
abbrev pub test_of : ℕ → Option Test
test_of w = get_or (Some Equal ∷ Some Below ∷ Some SignedBelow ∷ []) w None

abbrev pub provided : Bool → Option Instruction → Option Instruction
provided true i = i
provided false i = None

-- "The opcode decides which of the bytes a, b, w and imm are used; unused ones are zero.": which operands are there, and
-- within their ranges (where w is a width or a test it is looked up by itself)
abbrev pub has_nothing : ℕ → ℕ → ℕ → ℕ → Bool
has_nothing a b w imm = is_unused a && is_unused b && is_unused w && is_unused imm

abbrev pub has_a : ℕ → ℕ → ℕ → ℕ → Bool
has_a a b w imm = is_register a && is_unused b && is_unused w && is_unused imm

abbrev pub has_a_b : ℕ → ℕ → ℕ → ℕ → Bool
has_a_b a b w imm = is_register a && is_register b && is_unused w && is_unused imm

abbrev pub has_a_amount : ℕ → ℕ → ℕ → ℕ → Bool
has_a_amount a b w imm = is_register a && is_unused b && is_amount w && is_unused imm

abbrev pub has_imm : ℕ → ℕ → ℕ → Bool
has_imm a b w = is_unused a && is_unused b && is_unused w

abbrev pub has_a_imm : ℕ → ℕ → ℕ → Bool
has_a_imm a b w = is_register a && is_unused b && is_unused w

abbrev pub has_a_b_w_imm : ℕ → ℕ → Bool
has_a_b_w_imm a b = is_register a && is_register b

-- one row an opcode, in order
unfoldable pub rows : ℕ → ℕ → ℕ → ℕ → List (Option Instruction)
rows a b w imm =
    provided (has_nothing a b w imm) (Some Halt)
    ∷ provided (has_a_imm a b w) (Some (Set a imm))
    ∷ provided (has_a_b a b w imm) (Some (Copy a b))
    ∷ provided (has_a_b a b w imm) (Some (Add a b))
    ∷ provided (has_a_imm a b w) (Some (Addi a (signed imm)))
    ∷ provided (has_a_b a b w imm) (Some (Sub a b))
    ∷ provided (has_a_imm a b w) (Some (Andi a imm))
    ∷ provided (has_a a b w imm) (Some (Guard a))
    ∷ provided (has_a_amount a b w imm) (Some (Shr a w))
    ∷ provided (has_a_amount a b w imm) (Some (Sar a w))
    ∷ provided (has_a_b_w_imm a b) (option_map (λ (v : LoadWidth). Load a b v (signed imm)) (load_width_of w))
    ∷ provided (has_a_b_w_imm a b) (option_map (λ (v : Width). Store a b v (signed imm)) (width_of w))
    ∷ provided (has_imm a b w) (Some (Jump imm))
    ∷ provided (has_a_b_w_imm a b) (option_map (λ (t : Test). Branch a b t imm) (test_of w))
    ∷ provided (has_a a b w imm) (Some (Check a))
    ∷ provided (has_a a b w imm) (Some (Jumpr a))
    ∷ []

-- none for an "opcode above 15, operand out of range, unused byte not zero"
unfoldable pub decode : ℕ → ℕ → ℕ → ℕ → ℕ → Option Instruction
decode op a b w imm = get_or (rows a b w imm) op None

-- an instruction as it stands in a table: its bytes op, a, b, w and its imm, as numbers
pub record InstructionRow : Type 0 where
  pub op : ℕ
  pub a : ℕ
  pub b : ℕ
  pub w : ℕ
  pub imm : ℕ

abbrev pub decoded : InstructionRow → Option Instruction
decoded x = decode x.op x.a x.b x.w x.imm

-- the instruction at an index of the code
abbrev pub instruction_at : ℕ → ℕ
instruction_at i = 8 * i

abbrev pub row_in : List ℕ → ℕ → InstructionRow
row_in code i = record {
  op = byte_at code (instruction_at i);
  a = byte_at code (instruction_at i + 1);
  b = byte_at code (instruction_at i + 2);
  w = byte_at code (instruction_at i + 3);
  imm = read_bytes 4 code (instruction_at i + 4);
}

unfoldable pub instruction_in : List ℕ → ℕ → Option Instruction
instruction_in code i = decoded (row_in code i)

-- what a row decodes to is an instruction
abbrev pub is_instruction : Option Instruction → Bool
is_instruction decodes = any_of decodes (λ x. true)

-- ---- targets (doors): "Index (16 bits), kind (8 bits: 0 inner, 1 open), a zero byte, then for r0 to r7 a lowest and a
-- highest value, 32 bits each: the claim."

-- f i, f (i + 1), and so on, n of them
unfoldable pub tabulate : {A : Type 0} → ℕ → ℕ → (ℕ → A) → List A
tabulate i zero f = []
tabulate i (suc n) f = f i ∷ tabulate (suc i) n f

-- the target of a number, counted from 0
abbrev pub target_start : ℕ → ℕ
target_start j = 68 * j

abbrev pub target_index : List ℕ → ℕ → ℕ
target_index targets j = read_bytes 2 targets (target_start j)

abbrev pub target_kind : List ℕ → ℕ → ℕ
target_kind targets j = byte_at targets (target_start j + 2)

unfoldable pub claim_in : List ℕ → ℕ → Ranges
claim_in targets j = record {
  lows = tabulate 0 8 (λ r. read_bytes 4 targets (target_start j + 4 + 8 * r));
  highs = tabulate 0 8 (λ r. read_bytes 4 targets (target_start j + 8 + 8 * r));
}

unfoldable pub target_in : List ℕ → ℕ → Target
target_in targets j =
    record { index = target_index targets j; indirect = eqb (target_kind targets j) 1; claim = claim_in targets j }

-- a target as it stands in a table: its index, kind and zero byte as numbers, and its claim
pub record TargetRow : Type 0 where
  pub index : ℕ
  pub kind : ℕ
  pub zero_byte : ℕ
  pub claim : Ranges

abbrev pub target_row_in : List ℕ → ℕ → TargetRow
target_row_in targets j = record {
  index = target_index targets j;
  kind = target_kind targets j;
  zero_byte = byte_at targets (target_start j + 3);
  claim = claim_in targets j;
}

-- "An open door claims 'anything', 0 to 2^32 − 1, for each register."
abbrev pub indirect_claim : Ranges
indirect_claim = unknown

abbrev pub is_indirect_claim : Ranges → Bool
is_indirect_claim k = all_below 8 (λ r. eqb (low k r) (low indirect_claim r) && eqb (high k r) (high indirect_claim r))

-- "The first door is open and has index 0."; "Indexes rise strictly"
abbrev pub is_in_order : (ℕ → TargetRow) → ℕ → Bool
is_in_order target zero = eqb (target 0).index 0 && eqb (target 0).kind 1
is_in_order target (suc j) = ltb (target j).index (target (suc j)).index

-- "and are below n.": all that is asked of the target of a number but the order of its claim's ends
unfoldable pub is_placed_target : ℕ → (ℕ → TargetRow) → ℕ → Bool
is_placed_target n target j =
    ltb (target j).index n && ltb (target j).kind 2 && eqb (target j).zero_byte 0
    && (not (eqb (target j).kind 1) || is_indirect_claim (target j).claim)
    && is_in_order target j

-- "No lowest exceeds its highest."
abbrev pub is_ordered_claim : Ranges → Bool
is_ordered_claim k = all_below 8 (λ r. leb (low k r) (high k r))

unfoldable pub is_good_target : ℕ → (ℕ → TargetRow) → ℕ → Bool
is_good_target n target j = is_placed_target n target j && is_ordered_claim (target j).claim

-- ---- the module

-- 6 and 7: every instruction, and every target, of n and of k; what is asked of a target is given
abbrev pub instruction_rules : ℕ → (ℕ → Option Instruction) → List Obligation
instruction_rules n decodes = each n (λ i. owes 6 i (is_instruction (decodes i)) ∷ [])

abbrev pub target_rules : ℕ → (ℕ → Bool) → List Obligation
target_rules k good = each k (λ j. owes 7 j (good j) ∷ [])

-- 5, 6 and 7, wherever instructions and targets stand
abbrev pub table_rules : (ℕ → (ℕ → TargetRow) → ℕ → Bool) → Layout → ℕ → (ℕ → Option Instruction) → ℕ → (ℕ → TargetRow) → List Obligation
table_rules good l n decodes k target = owes 5 0 (is_layout l) ∷ (instruction_rules n decodes ++ target_rules k (good n target))

-- and of the code's bytes and the targets' bytes
abbrev pub module_rules : (ℕ → (ℕ → TargetRow) → ℕ → Bool) → Layout → List ℕ → List ℕ → List Obligation
module_rules good l code targets =
    table_rules good l (instruction_count code) (instruction_in code) (target_count targets) (target_row_in targets)

-- the three fields in order, "Then come 4, 5, 6, 7 over the whole module."
unfoldable pub readable_by : (ℕ → (ℕ → TargetRow) → ℕ → Bool) → List ℕ → List Obligation
readable_by good file =
    field file 0 1
    ++ (field file code_start 2
    ++ (field file (targets_at file) 3
    ++ (owes 4 (field_end file (targets_at file)) (eqb (length file) (field_end file (targets_at file)))
    ∷ module_rules good (layout_in file) (code_in file) (targets_in file))))

-- refusals 1 to 7
abbrev pub readable : List ℕ → List Obligation
readable = readable_by is_good_target

-- the module of a layout, the code's bytes and the targets' bytes
unfoldable pub program_of : Layout → List ℕ → List ℕ → Program
program_of l code targets = record {
  layout = l;
  code = tabulate 0 (instruction_count code) (λ i. unwrap_or (instruction_in code i) Halt);
  targets = tabulate 0 (target_count targets) (target_in targets);
}

-- the module that a file holds; of a file that is not readable it is of no consequence
abbrev pub program_in : List ℕ → Program
program_in file = program_of (layout_in file) (code_in file) (targets_in file)
