-- Accuracy of the ranges, stated: where the registers lie within what is known before an instruction, they lie within what is known
-- along the edge that it takes; and what rule N cuts to. Assumes nothing.
use Rattle.std.specs.Prelude.{ℕ, ◌-◌, ◌≤◌, ◌<◌, ◌≡◌, ◌↔◌, List, ℤ, pos, ◌+ℤ◌, ◌≤ℤ◌, length, Some}
use Rattle.std.proofs.Math.IntN.{sub_ℕ}
use Rattle.std.specs.Int.Signed.{mag}
use Rattle.model.specs.declared.Layout.{Layout}
use Rattle.model.specs.declared.Range.{Range}
use Rattle.model.specs.declared.Ranges.{Ranges}
use Rattle.model.specs.declared.Width.{Width}
use Rattle.model.specs.Ranges.{low, high, region_range}
use Rattle.model.specs.Program.{Program}
use Rattle.model.specs.Instructions.{bytes_of, reg, Access, Shape, traits, pointers_into, after_next, after_taken}
use Rattle.model.specs.Step.{Effect, goes_on, goes_to, effect, shape_at}
use Rattle.model.specs.File.{byte_at, program_in}
use Rattle.model.specs.Rules.{FileKept, Allowed}
use Rattle.model.specs.Safety.{EightWords, Bytes}

-- the registers lie within their ranges
pub record Within (k : Ranges) (rs : List ℕ) : Type 0 where
  pub lows8 : length k.lows ≡ 8
  pub highs8 : length k.highs ≡ 8
  pub low : (r : ℕ) → r < 8 → low k r ≤ reg rs r
  pub high : (r : ℕ) → r < 8 → reg rs r ≤ high k r

-- the access of an instruction, if it makes one, keeps 10
abbrev pub AccessAllowed : Layout → Shape → Ranges → Type 0
AccessAllowed l s k = (ac : Access) → (traits s).access ≡ Some ac → Allowed l k ac

-- registers within ranges, and the region's bytes
pub record Ready (p : Program) (k : Ranges) (rs bs : List ℕ) : Type 0 where
  pub within : Within k rs
  pub words : EightWords rs
  pub bytes : Bytes p.layout.size bs

-- what the instruction at an index does with them
abbrev pub effect_at : Program → ℕ → List ℕ → List ℕ → Effect
effect_at p i rs bs = effect p.layout p.targets (shape_at p i) rs bs

-- "Accuracy of the ranges, now only where the access keeps 10": of every instruction of a file that keeps rules 1 to 7, accepted or
-- not, whatever is known before it
pub record RangesAccurate : Type 0 where
  -- along the edge to the next index. Only where an access keeps 10 is its wrapped address, which the step tests, the exact sum, which
  -- rule N goes by.
  pub next : (file : List ℕ) → ((i : ℕ) → byte_at file i < 256) → FileKept file
      → (i : ℕ) (k : Ranges) (rs bs rs' bs' : List ℕ) → Ready (program_in file) k rs bs
      → AccessAllowed (program_in file).layout (shape_at (program_in file) i) k
      → effect_at (program_in file) i rs bs ≡ goes_on rs' bs'
      → Within (after_next (region_range (program_in file).layout) (shape_at (program_in file) i) k) rs'
  -- and along the edge that a jump or taken branch takes, which makes no access
  pub taken : (file : List ℕ) → ((i : ℕ) → byte_at file i < 256) → FileKept file
      → (i : ℕ) (k : Ranges) (rs bs : List ℕ) (to : ℕ) → Ready (program_in file) k rs bs
      → effect_at (program_in file) i rs bs ≡ goes_to to
      → Within (after_taken (shape_at (program_in file) i) k) rs

-- what rule N cuts to has the pointers whose "exact b + imm lies from DB to DL − w + 1", and no others; a displacement is a signed number
-- of 32 bits
pub record PointersExact : Type 0 where
  pub exact : (region : Range) (w : Width) (imm : ℤ) (x : ℕ) → mag imm < 0x8000_0000
      → (((pointers_into region w imm).low ≤ x) × (x ≤ (pointers_into region w imm).high))
      ↔ ((pos region.low ≤ℤ (pos x +ℤ imm)) × ((pos x +ℤ imm) ≤ℤ sub_ℕ region.high (bytes_of w - 1)))
