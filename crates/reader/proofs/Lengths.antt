-- Lengths: a tag that no field has lists none; and a field's value has no more bytes than two bytes can say. Assumes nothing.
use Prim.Native.Nat.{ℕ, ◌+◌, ◌^◌, ◌<◌}
use mathlib.Core.Bool.{false}
use mathlib.Core.List.{List}
use Rattle.std.specs.Prelude.{Option, None, Some}
use mathlib.Core.Path.{◌≡◌}
use native.Mathlib.Omega.{arith}
use lib.ListN.{length, get_or, take, drop, length-take}
use borrow.Author.Tests.{ne_eqb}
use Rattle.model.specs.Obligations.{Fault, first_fault}
use Rattle.model.specs.File.{field_length, value_at, is_listed, field, unless_fault, field_value}
use Rattle.model.proofs.Registers.{read_below}

pub none_listed : (tag n : ℕ) → (tag ≡ 1 → ⊥) → (tag ≡ 2 → ⊥) → (tag ≡ 3 → ⊥) → false ≡ is_listed tag n
unfolding is_listed
none_listed tag n layout instructions targets =
    rw (ne_eqb tag 1 layout, ne_eqb tag 2 instructions, ne_eqb tag 3 targets)

pub value_short : (file : List ℕ) (at tag : ℕ) → ((i : ℕ) → get_or file i 0 < 256) → length (field_value file at tag) < 2 ^ 16
unfolding field_value
value_short file at tag bytes = by_fault (first_fault (field file at tag))
  where
    by_fault : (found : Option Fault) → length (unless_fault found (take (field_length file at) (drop (value_at at) file))) < 2 ^ 16
    by_fault None = rw length-take (omega (arith, read_below 2 file (at + 1) bytes))
    by_fault (Some f) = omega arith
