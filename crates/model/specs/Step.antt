-- The listed step: access, places, what it reaches for and where it lands. Assumes nothing.
use Rattle.std.specs.Prelude.{ℕ, zero, suc, ◌+◌, ◌-◌, Bool, cond, ◌&&◌, List, [], ◌∷◌, leb, ltb, pos, ◌+ℤ◌, length, set, Option, None, Some}
use Rattle.model.specs.declared.Ending.{Ending}
use Rattle.model.specs.declared.Ending.TheVariants.{Halted, Trapped, Denied, Violated}
use Rattle.model.specs.declared.Instruction.{Instruction}
use Rattle.model.specs.declared.Layout.{Layout}
use Rattle.model.specs.declared.LoadWidth.{LoadWidth}
use Rattle.model.specs.declared.Machine.{Machine}
use Rattle.model.specs.declared.Target.{Target}
use Rattle.model.specs.declared.Width.{Width}
use Rattle.model.specs.Words.{wrap, read_bytes, write_bytes}
use Rattle.model.specs.Program.{Program, code_at, is_target, is_indirect}
use Rattle.model.specs.Instructions.{bytes_of, width_read, carried, holds, reg, Access, load_access, Shape, stops, assigns, loads, stores, jumps, branches, checks, jumps_via, shape, traits}

-- "The address is taken after wrapping."
abbrev pub address : Access → List ℕ → ℕ
address ac rs = wrap (pos (reg rs ac.pointer) +ℤ ac.displacement)

-- "All w bytes in the region"; "An address near 2^32 doesn't wrap within its w bytes."
unfoldable pub in_region : Layout → ℕ → ℕ → Bool
in_region l at w = leb l.base at && leb (at + w) (l.base + l.size)

-- "all w bytes in region and guard zones": "The guard zones are the guard bytes below DB and above DL."
unfoldable pub in_zones : Layout → ℕ → ℕ → Bool
in_zones l at w = leb (l.base - l.guard) at && leb (at + w) (l.base + l.size + l.guard)

-- what an instruction does, before its next place is judged: it goes on with these registers and bytes of the region,
-- or goes to a named index, or to the index in a register, or ends the run
pub data Effect : Type 0 where
  goes_on : List ℕ → List ℕ → Effect
  goes_to : ℕ → Effect
  goes_via : ℕ → Effect
  ends : Ending → Effect

-- "All w bytes in the region: done. Otherwise all w bytes in region and guard zones: the run is trapped. Otherwise it strays."
unfoldable pub accessing : Layout → ℕ → Width → Effect → Effect
accessing l at w done =
    cond (in_region l at (bytes_of w)) done (ends (cond (in_zones l at (bytes_of w)) Trapped Violated))

-- the number that is read at an address, before any sign is carried: "The address base is the first byte of the lent stretch, and
-- loads and stores are little-endian."
abbrev pub raw_value : Layout → ℕ → Width → List ℕ → ℕ
raw_value l at w bs = read_bytes (bytes_of w) bs (at - l.base)

-- what a load from an address does, and a store to it
abbrev pub loading : Layout → ℕ → LoadWidth → ℕ → List ℕ → List ℕ → Effect
loading l at v a rs bs = accessing l at (width_read v) (goes_on (set rs a (carried v (raw_value l at (width_read v) bs))) bs)

abbrev pub storing : Layout → ℕ → Width → ℕ → List ℕ → List ℕ → Effect
storing l at w value rs bs = accessing l at w (goes_on rs (write_bytes (bytes_of w) value bs (at - l.base)))

-- the table's middle column: "a := w bytes at b + imm, zero-extended" (or with their sign), "low w bytes of a to b + imm", "to imm if
-- the test holds", "turned away unless a is an open door's index", "to the index in a"
unfoldable pub effect : Layout → List Target → Shape → List ℕ → List ℕ → Effect
effect l ts stops rs bs = ends Halted
effect l ts (assigns a value ranged) rs bs = goes_on (set rs a (value l rs)) bs
effect l ts (loads a b v imm) rs bs = loading l (address (load_access b v imm) rs) v a rs bs
effect l ts (stores a ac) rs bs = storing l (address ac rs) ac.width (reg rs a) rs bs
effect l ts (jumps to) rs bs = goes_to to
effect l ts (branches test a b to) rs bs = cond (holds test (reg rs a) (reg rs b)) (goes_to to) (goes_on rs bs)
effect l ts (checks a) rs bs = cond (is_indirect ts (reg rs a)) (goes_on rs bs) (ends Denied)
effect l ts (jumps_via a) rs bs = goes_via (reg rs a)

-- "A load or store reaches for the w bytes at its wrapped address and up, done or not."
unfoldable pub addresses_from : ℕ → ℕ → List ℕ
addresses_from at zero = []
addresses_from at (suc w) = at ∷ addresses_from (suc at) w

abbrev pub reaches : Option Access → List ℕ → List ℕ
reaches None rs = []
reaches (Some ac) rs = addresses_from (address ac rs) (bytes_of ac.width)

-- "A jump, taken branch or jumpr lands on the index it goes to, even where it strays."
pub data Landing : Type 0 where
  nowhere : Landing
  named : ℕ → Landing
  via_register : ℕ → Landing

-- a step that was made, as the walk logs it: "the bytes it reaches for, the index it lands on, its ending if any, and the
-- record after it"; and the region's bytes after it
pub record Step : Type 0 where
  pub reached : List ℕ
  pub landing : Landing
  pub ending : Option Ending
  pub machine : Machine
  pub region : List ℕ

-- "A step that traps, is turned away or strays changes nothing; halt leaves the place as it is."
abbrev pub stays : Machine → List ℕ → List ℕ → Landing → Ending → Step
stays m bs reached landing e = record { reached = reached; landing = landing; ending = Some e; machine = m; region = bs }

abbrev pub moves : List ℕ → List ℕ → List ℕ → Landing → ℕ → Step
moves rs bs reached landing to =
    record { reached = reached; landing = landing; ending = None; machine = record { registers = rs; pc = to }; region = bs }

-- "A jump or taken branch goes to a door, else it strays. A jumpr goes to an open door, else it strays. Other steps go to the
-- next index, and stray if that is n. Access and check are judged before the next place."
unfoldable pub settle : Program → Machine → List ℕ → List ℕ → Effect → Step
settle p m bs reached (goes_on rs' bs') =
    cond (ltb (m.pc + 1) (length p.code))
    (moves rs' bs' reached nowhere (m.pc + 1))
    (stays m bs reached nowhere Violated)
settle p m bs reached (goes_to to) =
    cond (is_target p.targets to)
    (moves m.registers bs reached (named to) to)
    (stays m bs reached (named to) Violated)
settle p m bs reached (goes_via to) =
    cond (is_indirect p.targets to)
    (moves m.registers bs reached (via_register to) to)
    (stays m bs reached (via_register to) Violated)
settle p m bs reached (ends e) = stays m bs reached nowhere e

-- the shape of the instruction at an index
abbrev pub shape_at : Program → ℕ → Shape
shape_at p i = shape (code_at p i)

-- the listed step of an instruction, wherever it stands
unfoldable pub step_of : Program → Instruction → Machine → List ℕ → Step
step_of p i m bs =
    settle p m bs (reaches (traits (shape i)).access m.registers)
    (effect p.layout p.targets (shape i) m.registers bs)

-- and of the one at the pc
unfoldable pub step : Program → Machine → List ℕ → Step
step p m bs = step_of p (code_at p m.pc) m bs
