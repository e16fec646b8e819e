-- An instruction is visited: from what its calls answer along its edges to the definition. Assumes nothing.
use Rattle.std.specs.Prelude.{Option, Some, None}
use Rattle.std.proofs.Common.{◌≡◌, ℕ, ◌+◌, Bool, true, false, refl, sym, ap, ◌∙◌}
use Rattle.model.specs.declared.Instruction.{Instruction}
use Rattle.model.specs.declared.Ranges.{Ranges}
use Rattle.model.specs.Ranges.{region_range}
use Rattle.model.specs.Program.{Program, code_at}
use Rattle.model.specs.Instructions.{shape, traits, after_next, after_taken}
use Rattle.model.specs.Step.{shape_at}
use Rattle.model.specs.Claims.{Table, Sweep, arrive, along_taken, along_next, visit}
use Rattle.claims.specs.Tables.{along}

module _ (p : Program) (i : ℕ) {x : Instruction} (is_x : x ≡ code_at p i) (known : Ranges) (t : Table) where
  taken_edge : (to : Option ℕ) → along_taken p i known to t ≡ along to (after_taken (shape_at p i) known) t
  taken_edge None = refl
  taken_edge (Some to) = refl

  module _ {after : Ranges} (is_after : after ≡ after_taken (shape x) known) {taken : Table} (went : taken ≡ along (traits (shape x)).names after t) where
    along_taken_lem : taken ≡ along_taken p i known (traits (shape_at p i)).names t
    along_taken_lem = went ∙ rw (is_after, is_x) (sym (taken_edge (traits (shape_at p i)).names))

    abbrev onward : Bool → Sweep
    onward falls = along_next p i known falls (along_taken p i known (traits (shape_at p i)).names t)

    falls_there : {falls : Bool} → falls ≡ (traits (shape x)).falls → onward falls ≡ visit p i (Some known) t
    unfolding visit
    falls_there is_falls = ap onward (is_falls ∙ ap (λ (y : Instruction). (traits (shape y)).falls) is_x)

    pub visit_stops : {falls : Bool} → falls ≡ (traits (shape x)).falls → falls ≡ false
        → record { known = None; table = taken } ≡ visit p i (Some known) t
    visit_stops is_falls stops =
        ap (λ (u : Table). record { known = None; table = u }) along_taken_lem ∙ ap onward (sym stops) ∙ falls_there is_falls

    pub visit_goes_on : {falls : Bool} → falls ≡ (traits (shape x)).falls → falls ≡ true
        → {next : Ranges} → next ≡ after_next (region_range p.layout) (shape x) known → {both : Table} → both ≡ arrive (i + 1) next taken
        → record { known = Some next; table = both } ≡ visit p i (Some known) t
    visit_goes_on is_falls goes_on {next} is_next arrived =
        ap (λ (u : Table). record { known = Some next; table = u }) (arrived ∙ ap (arrive (i + 1) next) along_taken_lem)
        ∙ ap (λ (k : Ranges). record { known = Some k; table = arrive (i + 1) k (along_taken p i known (traits (shape_at p i)).names t) })
        (is_next ∙ ap (λ (y : Instruction). after_next (region_range p.layout) (shape y) known) is_x)
        ∙ ap onward (sym goes_on) ∙ falls_there is_falls
