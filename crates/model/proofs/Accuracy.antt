-- The ranges are accurate (`RangesAccurate`), and an instruction strays only by an access that rule 10 does not allow.
-- Assumes nothing.
use Prim.Native.Nat.{ℕ, ◌-◌, ◌<◌}
use mathlib.Core.Path.{◌≡◌, refl, sym, ◌∙◌, subst}
use mathlib.Core.Bool.{Bool, true, false, cond}
use mathlib.Core.List.{List}
use Rattle.std.specs.Prelude.{None, Some}
use Rattle.std.proofs.lemmas.Option.{same_Some, none-some}
use Rattle.model.specs.declared.Ending.{Ending}
use Rattle.model.specs.declared.Ending.TheVariants.{Halted, Trapped, Denied, Violated, OutOfBudget}
use Rattle.model.specs.declared.Layout.{Layout}
use Rattle.model.specs.declared.Ranges.{Ranges}
use Rattle.model.specs.declared.Target.{Target}
use Rattle.model.specs.Ranges.{region_range}
use Rattle.model.specs.Program.{is_indirect}
use Rattle.model.specs.Instructions.{bytes_of, width_read, carried, load_range, holds, reg, Access, load_access, Shape, stops, assigns, loads, stores, jumps, branches, checks, jumps_via, traits, rule_n, after_next, after_taken}
use Rattle.model.specs.Step.{address, in_region, in_zones, Effect, goes_on, goes_to, goes_via, ends, accessing, raw_value, effect, shape_at}
use Rattle.model.specs.File.{byte_at, code_start, code_in, targets_in, program_of, program_in}
use Rattle.model.specs.Rules.{LayoutKept, FileKept, Allowed}
use Rattle.model.specs.Safety.{EightWords, Bytes}
use Rattle.model.specs.Accuracy.{Within, AccessAllowed, RangesAccurate}
use Rattle.model.proofs.Tests.{by_cond}
use Rattle.model.proofs.Registers.{read_below, within_put, words_set, bytes_write}
use Rattle.model.proofs.Values.{Fits, carried_fits}
use Rattle.model.proofs.Containment.{contained_in_zones, in_zones_passes}
use Rattle.model.proofs.Cuts.{within_rule_n, within_rule_b}
use Rattle.model.proofs.Sound.{SoundAccess, Sound, code_sound}
use Rattle.model.proofs.Stretches.{value_bytes}

-- ---- what holds after an instruction, by its effect

-- it goes on to the next index
pub record NextAccurate (l : Layout) (ts : List Target) (s : Shape) (k : Ranges) (rs bs : List ℕ) : Type 0 where
  pub within : Within (after_next (region_range l) s k) rs
  pub words : EightWords rs
  pub bytes : Bytes l.size bs
  pub falls : (traits s).falls ≡ true
  pub checked : (a : ℕ) → (traits s).looks_at ≡ Some a → is_indirect ts (reg rs a) ≡ true

-- it goes to a named index
pub record TakenAccurate (s : Shape) (k : Ranges) (rs : List ℕ) (to : ℕ) : Type 0 where
  pub within : Within (after_taken s k) rs
  pub named : (traits s).names ≡ Some to

-- it goes to the index in a register
pub record ViaAccurate (s : Shape) (rs : List ℕ) (to : ℕ) : Type 0 where
  pub register : ℕ
  pub by : (traits s).goes_by ≡ Some register
  pub held : to ≡ reg rs register

abbrev violates : Ending → Bool
violates Halted = false
violates Trapped = false
violates Denied = false
violates Violated = true
violates OutOfBudget = false

-- what holds, by the effect: where its access is allowed, an instruction leaves the registers within what is known after it, and does
-- not stray
abbrev pub Accurate : Layout → List Target → Shape → Ranges → List ℕ → Effect → Type 0
Accurate l ts s k rs (goes_on rs' bs') = AccessAllowed l s k → NextAccurate l ts s k rs' bs'
Accurate l ts s k rs (goes_to to) = TakenAccurate s k rs to
Accurate l ts s k rs (goes_via to) = ViaAccurate s rs to
Accurate l ts s k rs (ends e) = AccessAllowed l s k → violates e ≡ false

module _ {l : Layout} (lk : LayoutKept l) (ts : List Target) {k : Ranges} {rs bs : List ℕ}
    (w : Within k rs) (ws : EightWords rs) (bytes : Bytes l.size bs) where
  -- an instruction that goes on and checks nothing
  goes_on_lem : (s : Shape) (rs' bs' : List ℕ) → (traits s).falls ≡ true → (traits s).looks_at ≡ None
      → Within (after_next (region_range l) s k) rs' → EightWords rs' → Bytes l.size bs' → NextAccurate l ts s k rs' bs'
  goes_on_lem s rs' bs' f unchecked within' words' bytes' = record {
    within = within';
    words = words';
    bytes = bytes';
    falls = f;
    checked = λ a e. absurd (none-some a (sym unchecked ∙ e));
  }

  access_accurate : (s : Shape) (a : ℕ) (ac : Access) (done : Effect) → SoundAccess a ac → (traits s).access ≡ Some ac
      → (in_region l (address ac rs) (bytes_of ac.width) ≡ true → Accurate l ts s k rs done)
      → Accurate l ts s k rs (accessing l (address ac rs) ac.width done)
  unfolding accessing
  access_accurate s a ac done sound has if-done =
      by_cond (Accurate l ts s k rs) (in_region l (address ac rs) (bytes_of ac.width)) if-done (λ _. only_trapped)
    where
      zones : Bool
      zones = in_zones l (address ac rs) (bytes_of ac.width)

      passes : AccessAllowed l s k → zones ≡ true
      passes allowed = in_zones_passes (contained_in_zones lk w sound.pointer sound.displacement (allowed ac has))

      only_trapped : AccessAllowed l s k → violates (cond zones Trapped Violated) ≡ false
      only_trapped allowed = rw (passes allowed)

  narrowed : (a : ℕ) (ac : Access) → SoundAccess a ac → Allowed l k ac → in_region l (address ac rs) (bytes_of ac.width) ≡ true
      → Within (rule_n (region_range l) ac k) rs
  narrowed a ac sound allowed done = within_rule_n w ws lk sound.pointer sound.displacement allowed done

  -- the ranges are accurate, whatever the effect is
  pub effect_accurate : (s : Shape) → Sound l s → Accurate l ts s k rs (effect l ts s rs bs)
  unfolding effect after_next after_taken
  effect_accurate stops sound = λ allowed. refl
  effect_accurate (assigns a value ranged) sound =
      let new : Fits (ranged (region_range l) k) (value l rs) = sound.fits w ws in
      λ _. goes_on_lem (assigns a value ranged) _ _ refl refl
      (within_put w ws a sound.register (ranged (region_range l) k) (value l rs) new.inside) (words_set ws a (value l rs) new.word) bytes
  effect_accurate (loads a b v imm) sound =
      let ac : Access = load_access b v imm in
      let raw : ℕ = raw_value l (address ac rs) (width_read v) bs in
      let new : Fits (load_range v) (carried v raw) = carried_fits v raw (read_below (bytes_of (width_read v)) bs _ bytes.small) in
      access_accurate (loads a b v imm) a ac _ sound refl
      (λ done allowed. goes_on_lem (loads a b v imm) _ _ refl refl
      (within_put (narrowed a ac sound (allowed ac refl) done) ws a sound.register (load_range v) _ new.inside)
      (words_set ws a _ new.word) bytes)
  effect_accurate (stores a ac) sound =
      access_accurate (stores a ac) a ac _ sound refl
      (λ done allowed. goes_on_lem (stores a ac) _ _ refl refl
      (narrowed a ac sound (allowed ac refl) done) ws (bytes_write (bytes_of ac.width) (reg rs a) (address ac rs - l.base) bytes))
  effect_accurate (jumps to) sound = record { within = w; named = refl }
  effect_accurate (branches test a b to) sound =
      by_cond (Accurate l ts (branches test a b to) k rs) (holds test (reg rs a) (reg rs b))
      (λ t. record { within = within_rule_b w ws a b sound.left sound.right test true t; named = refl })
      (λ f _. goes_on_lem (branches test a b to) rs bs refl refl (within_rule_b w ws a b sound.left sound.right test false f) ws bytes)
  effect_accurate (checks a) sound =
      by_cond (Accurate l ts (checks a) k rs) (is_indirect ts (reg rs a))
      (λ t _. record {
        within = w;
        words = ws;
        bytes = bytes;
        falls = refl;
        checked = λ b e. rw (sym (same_Some a b e)) t;
      })
      (λ _ allowed. refl)
  effect_accurate (jumps_via a) sound = record { register = a; by = refl; held = refl }

  module _ (s : Shape) (sound : Sound l s) where
    -- the edge to the next index
    accurate_next : {rs' bs' : List ℕ} → AccessAllowed l s k → effect l ts s rs bs ≡ goes_on rs' bs' → NextAccurate l ts s k rs' bs'
    accurate_next allowed e = subst (Accurate l ts s k rs) e (effect_accurate s sound) allowed

    -- the edge that a jump or taken branch takes
    accurate_taken : {to : ℕ} → effect l ts s rs bs ≡ goes_to to → TakenAccurate s k rs to
    accurate_taken e = subst (Accurate l ts s k rs) e (effect_accurate s sound)

-- every instruction of a file is sound, where rules 1 to 7 are kept
pub file_sound : (file : List ℕ) → ((i : ℕ) → byte_at file i < 256) → FileKept file → (i : ℕ)
    → Sound (program_in file).layout (shape_at (program_in file) i)
unfolding program_of
file_sound file bytes kept = code_sound (code_in file) (value_bytes file code_start 2 bytes) kept.holds.layout (targets_in file)

pub ranges_accurate : RangesAccurate
unfolding program_of
ranges_accurate = record {
  next = λ file bytes kept i k rs bs rs' bs' ready allowed does.
      (accurate_next kept.holds.layout (program_in file).targets ready.within ready.words ready.bytes
      (shape_at (program_in file) i) (file_sound file bytes kept i) allowed does).within;
  taken = λ file bytes kept i k rs bs to ready does.
      (accurate_taken kept.holds.layout (program_in file).targets ready.within ready.words ready.bytes
      (shape_at (program_in file) i) (file_sound file bytes kept i) does).within;
}
