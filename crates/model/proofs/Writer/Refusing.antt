-- What the writer answers and leaves (`WriterRefuses`): after a refusal the buffer as it was, and else the file, with what lay past it.
-- Assumes nothing.
use Prim.Native.Nat.{ℕ, ◌≤◌}
use mathlib.Core.Path.{◌≡◌, refl, sym, ap, ◌∙◌}
use mathlib.Core.Logic.{◌⊎◌, inl, inr}
use mathlib.Core.List.{List, ◌++◌}
use Rattle.std.specs.Prelude.{Option, None, Some}
use native.Mathlib.Omega.{arith}
use borrow.Author.Tests.{leb-true}
use lib.ListN.{length, take, drop}
use lib.Seq.{take_at, drop_at}
use Rattle.model.specs.Obligations.{Fault, first_fault}
use Rattle.model.specs.File.{decoded, is_good_target}
use Rattle.model.specs.Writer.{Tables, instruction_row_at, target_row_at, file_of, tables_owed, writable, wrote, unwritten, written_unless, write}
use Rattle.model.specs.Promises.{WriterRefuses}
use Rattle.model.proofs.Obligations.{none_iff_met, first_unmet, append_fault}
use Rattle.model.proofs.Numbers.{Numbered, append_numbered, first_numbered, tables_numbered}

-- the writer's numbers: 3, 5 to 7, and 16
abbrev ForWriter : ℕ → Type 0
ForWriter n = (n ≡ 3) ⊎ (((5 ≤ n) × (n ≤ 7)) ⊎ (n ≡ 16))

writable_numbered : (t : Tables) (buffer : List ℕ) → Numbered ForWriter (writable t buffer)
unfolding writable tables_owed
writable_numbered t buffer =
    append_numbered ForWriter (tables_owed t) _ (
      inl refl,
      (
        inl refl,
        tables_numbered ForWriter (inr (inl (omega arith))) (inr (inl (omega arith))) (inr (inl (omega arith))) is_good_target
            t.layout (length t.instructions) (λ i. decoded (instruction_row_at t i)) (length t.targets) (target_row_at t),
      ),
    )
    (inr (inr refl), tt)

-- what a report tells
module _ (t : Tables) (buffer : List ℕ) where
  refusal_told : (f : Fault) → (write t buffer).report ≡ unwritten f
      → (first_fault (writable t buffer) ≡ Some f) × ((write t buffer).buffer ≡ buffer)
  unfolding write
  refusal_told f is = by_fault (first_fault (writable t buffer)) is
    where
      by_fault : (o : Option Fault) → (written_unless t buffer o).report ≡ unwritten f
          → (o ≡ Some f) × ((written_unless t buffer o).buffer ≡ buffer)
      by_fault None same = absurd (let impossible : ◌≡◌ {A = ℕ} 0 1 = cc in omega arith)
      by_fault (Some g) same = (cc, refl)

  length_told : (n : ℕ) → (write t buffer).report ≡ wrote n
      → (first_fault (writable t buffer) ≡ None) × (length (file_of t) ≡ n)
      × ((write t buffer).buffer ≡ file_of t ++ drop (length (file_of t)) buffer)
  unfolding write
  length_told n is = by_fault (first_fault (writable t buffer)) is
    where
      by_fault : (o : Option Fault) → (written_unless t buffer o).report ≡ wrote n
          → (o ≡ None) × (length (file_of t) ≡ n) × ((written_unless t buffer o).buffer ≡ file_of t ++ drop (length (file_of t)) buffer)
      by_fault None same = (refl, cc, refl)
      by_fault (Some g) same = absurd (let impossible : ◌≡◌ {A = ℕ} 0 1 = cc in omega arith)

  -- a file that is written has room
  has_room : first_fault (writable t buffer) ≡ None → length (file_of t) ≤ length buffer
  unfolding writable
  has_room met = leb-true _ _ ((none_iff_met _).0 ((append_fault (tables_owed t) _).0 met).1).0

pub writer_refuses : WriterRefuses
writer_refuses = record {
  numbered = λ t buffer f is.
      first_numbered ForWriter (writable t buffer) f (writable_numbered t buffer) (refusal_told t buffer f is).0;
  first = λ t buffer f is. first_unmet (writable t buffer) f (refusal_told t buffer f is).0;
  kept = λ t buffer f is. (refusal_told t buffer f is).1;
  past = λ t buffer n is.
      let (met, long, left) = length_told t buffer n is in (
        sym long,
        omega (arith, has_room t buffer met),
        ap (take n) left ∙ take_at (file_of t) (drop (length (file_of t)) buffer) n long,
        ap (drop n) left ∙ drop_at (file_of t) (drop (length (file_of t)) buffer) n long ∙ ap (λ (m : ℕ). drop m buffer) long,
      );
}
