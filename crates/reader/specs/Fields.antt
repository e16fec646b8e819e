-- What the field reader hands back, in the model's terms. Assumes nothing.
use Rattle.std.specs.Prelude.{ℕ, ◌+◌, ◌≡◌, List, None}
use Rattle.std.specs.Borrow.{Bor}
use Rattle.model.specs.Obligations.{first_fault}
use Rattle.model.specs.File.{value_at, field, field_value}

-- the part of the file that is handed back: its bytes are the value's, and it begins where the value does, in the same memory; so it
-- is that very stretch, and no equal bytes elsewhere. Of a field that is refused it is empty
pub record ValuePart (file part : Bor (List ℕ)) (at tag : ℕ) : Type 0 where
  pub bytes : part.now ≡ field_value file.now at tag
  pub place : first_fault (field file.now at tag) ≡ None
      → (part.ref_ptr.0 ≡ file.ref_ptr.0) × (part.ref_ptr.1 ≡ file.ref_ptr.1 + value_at at)
