-- Sweep after sweep: the entries that a sweep begins with are those that the definition comes to, there is less room at each, and what is
-- left at the end is worked out. Assumes nothing.
use Rattle.std.specs.Prelude.{Some, None}
use Rattle.std.proofs.Common.{◌≡◌, ℕ, zero, suc, ◌+◌, ◌<◌, Bool, true, false, List, map, length, refl, sym, ap, subst, ◌∙◌, add-zero, zero-add, arith}
use Rattle.std.proofs.Math.ListN.{get_or-map}
use Rattle.model.specs.Program.{Program}
use Rattle.model.specs.File.{tabulate}
use Rattle.model.specs.Claims.{Entry, begun, Table, swept, counted, given, WorkedOut, sweeping, most_sweeps, code_of, worked_out}
use Rattle.model.proofs.Claims.Each.{All}
use Rattle.model.proofs.Claims.Entries.{Good}
use Rattle.model.proofs.Claims.Tables.{rooms}
use Rattle.model.proofs.Claims.Sweeping.{Ready, sweep_swept, following, gone_on, sweeping_goes_on, Follows, follows}
use Rattle.model.proofs.Claims.Still.{still_same}
use Rattle.model.proofs.Claims.Ending.{Fit, code_modest, begins_ready}
use Rattle.claims.specs.declared.entry.Growth.{Growth}
use Rattle.claims.specs.declared.entry.Row.{Row}
use Rattle.claims.specs.Rows.{FewGrown}
use Rattle.claims.specs.Tables.{row_at, entry_in, entries_in}

-- what holds of all entries of a table, at each
all_at : (f : ℕ → Entry) (i n m : ℕ) → All Good (tabulate i n f) → m < n → Good (f (i + m))
unfolding tabulate
all_at f i zero m all below = absurd (omega arith)
all_at f i (suc n) zero all below = rw add-zero all.0
all_at f i (suc n) (suc m) all below = let moved : i + suc m ≡ suc i + m = omega arith in rw moved (all_at f (suc i) n m all.1 (omega arith))

-- so many sweeps are allowed for, and with these it is worked out
pub record Going (p : Program) (es : List Entry) : Type 0 where
  pub most : ℕ
  pub made : ℕ
  pub ready : Ready es
  pub room : rooms es < most
  pub is : sweeping (code_of p) most made es ≡ worked_out p

module _ {p : Program} (fit : Fit p) where
  pub goes_first : {es : List Entry} → es ≡ map begun p.targets → Going p es
  unfolding worked_out
  goes_first begins = rw begins (record {
    most = most_sweeps p;
    made = 0;
    ready = (begins_ready p fit).0;
    room = (begins_ready p fit).1;
    is = refl;
  })

  -- a sweep leaves these entries, changed or not
  module _ {es : List Entry} (going : Going p es) {after : List Entry} {changed : Bool} (sweeps : record { entries = after; changed = changed } ≡ swept (code_of p) es) where
    following_is : following (code_of p) es ≡ elim changed [ true ↦ Some (map counted after) | false ↦ given es ]
    unfolding following
    following_is = ap (λ (t : Table). elim t.changed [ true ↦ Some (map counted t.entries) | false ↦ given es ]) (sym sweeps)

    unchanged : changed ≡ false → after ≡ es
    unchanged is =
        ap (λ (t : Table). t.entries) (sweeps ∙ still_same (code_of p) es (length p.code) (ap (λ (t : Table). t.changed) (sym sweeps) ∙ is))

    abbrev pub Next : List Entry → Type 0
    Next es' = Going p es' × (rooms es' < rooms es)

    -- the definition's next step, in the same place
    next : {es' : List Entry} → following (code_of p) es ≡ Some es' → Next es'
    next {es'} is = turn going.most going.room going.is
      where
        turn : (most : ℕ) → rooms es < most → sweeping (code_of p) most going.made es ≡ worked_out p → Next es'
        turn zero room worked = absurd (omega arith)
        turn (suc most) room worked =
            let gives = subst (Follows (code_of p) es) is (follows (code_of p) (code_modest p fit) es going.ready) in (
              record {
                most = most;
                made = suc going.made;
                ready = gives.ready;
                room = omega (arith, gives.falls);
                is = sym (sweeping_goes_on (code_of p) most going.made es ∙ ap (gone_on (code_of p) most going.made es) is) ∙ worked;
              },
              gives.falls,
            )

    pub goes_counted : changed ≡ true → {es' : List Entry} → es' ≡ map counted after → Next es'
    goes_counted is is_next = next (following_is ∙ rw (is, is_next))

    pub goes_given : changed ≡ false → {es' : List Entry} → given after ≡ Some es' → Next es'
    goes_given is gave = next (following_is ∙ rw is (ap given (sym (unchanged is)) ∙ gave))

    pub goes_no_further : changed ≡ false → given after ≡ None → after ≡ (worked_out p).entries
    goes_no_further is none =
        let over : following (code_of p) es ≡ None = following_is ∙ rw is (ap given (sym (unchanged is)) ∙ none) in
        unchanged is ∙ turn over going.most going.room going.is
      where
        turn : following (code_of p) es ≡ None → (most : ℕ) → rooms es < most → sweeping (code_of p) most going.made es ≡ worked_out p
            → es ≡ (worked_out p).entries
        turn over zero room worked = absurd (omega arith)
        turn over (suc most) room worked =
            ap (λ (w : WorkedOut). w.entries)
            (sym (sweeping_goes_on (code_of p) most going.made es ∙ ap (gone_on (code_of p) most going.made es) over) ∙ worked)

  -- no count can pass a byte
  pub few_grown : (targets : List ℕ) {es : List Entry} → Going p es → (rows : List Row) {changed : Bool}
      → record { entries = entries_in targets rows; changed = changed } ≡ swept (code_of p) es → (j : ℕ) → j < length rows → FewGrown (row_at rows j).growth
  few_grown targets {es} going rows sweeps j below r r8 =
      let all : All Good (swept (code_of p) es).entries =
      (sweep_swept (code_of p) (code_modest p fit) es going.ready.clear going.ready.good (length p.code)).table.good in
      let good : Good (entry_in targets rows j) =
      rw zero-add at (all_at (entry_in targets rows) 0 (length rows) j (subst (λ (t : Table). All Good t.entries) (sym sweeps) all) below) in
      omega (arith, good.few r r8, get_or-map (λ (g : Growth). g.earlier) (row_at rows j).growth r (record { earlier = 0; now = false }))
