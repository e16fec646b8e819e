-- `writer::tables::Tables::write` meets its contract: the three fields are stored one behind the other. Assumes nothing.
use Prim.Native.Nat.{ℕ, ◌+◌, ◌*◌}
use mathlib.Core.Path.{◌≡◌, refl, ap, ◌∙◌}
use mathlib.Core.List.{List, [], ◌++◌, flat_map, append_assoc}
use native.Mathlib.Omega.{arith}
use lib.ListN.{length, length-append}
use lib.Seq.{sets}
use Rattle.model.specs.Writer.{layout_words, row_bytes, target_bytes, field_of, file_of}
use Rattle.model.proofs.Writer.Units.{units_length}
use Rattle.model.proofs.Writer.Entries.{layout_length, row_length, target_length}
use Rattle.model.proofs.Writer.Fields.{length-field_of}
use Rattle.writer.specs.Rows.{row_of, target_row_of}
use Rattle.writer.proofs.Filing.{field_behind, flat_of_map}
use Rattle.writer.proofs.tables.Tables.write.Goals as goal

pub returns : goal.returns
unfolding file_of
returns c =
    let t = c.args.self.now in
    let l = c.args.buffer.now in
    let n : ℕ = length t.instructions.now in
    let layout : List ℕ = layout_words t.layout in
    let rows : List ℕ = flat_map (λ x. row_bytes (row_of x)) t.instructions.now in
    let targets : List ℕ = flat_map (λ x. target_bytes (target_row_of x)) t.targets.now in
    let rows-long : length rows ≡ 8 * n = units_length 8 _ (λ x. row_length (row_of x)) t.instructions.now in
    let targets-long : length targets ≡ 68 * length t.targets.now = units_length 68 _ (λ x. target_length (target_row_of x)) t.targets.now in
    let one : List ℕ = field_of 1 layout in
    let two : List ℕ = field_of 2 rows in
    let one-long : length one ≡ 15 = omega (arith, length-field_of 1 layout, layout_length t.layout) in
    let both-long : length (one ++ two) ≡ 18 + 8 * n = omega (arith, length-append one two, one-long, length-field_of 2 rows, rows-long) in
    let first = field_behind l [] 1 12 layout (layout_length t.layout) refl refl (omega arith) c.write_header.ensures c.write_layout.ensures in
    let second = field_behind l one 2 _ rows rows-long first one-long (omega arith) c.write_header-2.ensures c.write_rows.ensures in
    field_behind l (one ++ two) 3 _ targets targets-long second both-long (omega arith) c.write_header-3.ensures c.write_rows-2.ensures
    ∙ ap (sets l 0) (append_assoc one two (field_of 3 targets))
    ∙ rw (flat_of_map row_bytes row_of t.instructions.now, flat_of_map target_bytes target_row_of t.targets.now)
