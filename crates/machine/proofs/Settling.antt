-- What the model makes of an effect is what the core answers and leaves, by the tests that both go by: the next index, and where
-- an access lies. Assumes nothing.
use Rattle.std.specs.Prelude.{◌≡◌, ℕ, ◌+◌, ◌-◌, Bool, true, false, cond, ltb, List, length, Result, Ok, Err}
use mathlib.Core.Path.{refl, sym, ◌∙◌}
use native.Mathlib.Omega.{arith}
use Rattle.model.specs.declared.Ending.{Ending}
use Rattle.model.specs.declared.Ending.TheVariants.{Violated}
use Rattle.model.specs.declared.LoadWidth.{LoadWidth}
use Rattle.model.specs.declared.Machine.{Machine}
use Rattle.model.specs.declared.Width.{Width}
use Rattle.model.specs.Words.{read_bytes, write_bytes}
use Rattle.model.specs.Program.{Program, is_target, is_indirect}
use Rattle.model.specs.Instructions.{bytes_of, width_read, carried}
use Rattle.model.specs.Step.{Effect, goes_on, goes_to, goes_via, ends, accessing, storing, Landing, nowhere, named, via_register, stays, moves, settle}
use Rattle.machine.specs.Core.{reach_of, onward_of, jump_of, jump_via_of, StepPost, Settles, AssignPost, LoadPost}
use Rattle.machine.proofs.Reaching.{access_is, offset_is}

-- a step that moves if a test passes, and stays if not
moves_or_stays : (test : Bool) (m : Machine) (bs rs' bs' reached : List ℕ) (landing : Landing) (to : ℕ)
    → StepPost (cond test (moves rs' bs' reached landing to) (stays m bs reached landing Violated))
    (cond test (Ok to) (Err Violated)) (cond test rs' m.registers) (cond test bs' bs)
moves_or_stays true m bs rs' bs' reached landing to = record { goes = refl; registers = refl; region = refl }
moves_or_stays false m bs rs' bs' reached landing to = record { goes = refl; registers = refl; region = refl }

same_either_way : {A : Type 0} (test : Bool) (x : A) → cond test x x ≡ x
same_either_way true x = refl
same_either_way false x = refl

module _ (p : Program) (m : Machine) (bs : List ℕ) where
  -- ---- to a target

  pub jump_settles : (to : ℕ) → Settles p m bs (goes_to to) (jump_of p to) m.registers bs
  unfolding settle jump_of
  jump_settles to reached =
      rw (same_either_way (is_target p.targets to) m.registers, same_either_way (is_target p.targets to) bs) at
      (moves_or_stays (is_target p.targets to) m bs m.registers bs reached (named to) to)

  pub via_settles : (to : ℕ) → Settles p m bs (goes_via to) (jump_via_of p to) m.registers bs
  unfolding settle jump_via_of
  via_settles to reached =
      rw (same_either_way (is_indirect p.targets to) m.registers, same_either_way (is_indirect p.targets to) bs) at
      (moves_or_stays (is_indirect p.targets to) m bs m.registers bs reached (via_register to) to)

  -- ---- to the next index, or nowhere

  pub ending_settles : (e : Ending) → Settles p m bs (ends e) (Err e) m.registers bs
  unfolding settle
  ending_settles e reached = record { goes = refl; registers = refl; region = refl }

  onward_settles : (rs' bs' : List ℕ) → Settles p m bs (goes_on rs' bs') (onward_of p m.pc)
      (cond (ltb (m.pc + 1) (length p.code)) rs' m.registers) (cond (ltb (m.pc + 1) (length p.code)) bs' bs)
  unfolding settle onward_of
  onward_settles rs' bs' reached = moves_or_stays (ltb (m.pc + 1) (length p.code)) m bs rs' bs' reached nowhere (m.pc + 1)

  -- nothing is changed
  pub onward_unchanged : Settles p m bs (goes_on m.registers bs) (onward_of p m.pc) m.registers bs
  onward_unchanged reached =
      rw (same_either_way (ltb (m.pc + 1) (length p.code)) m.registers, same_either_way (ltb (m.pc + 1) (length p.code)) bs) at
      (onward_settles m.registers bs reached)

  module _ (rs' bs' : List ℕ) where
    has_next : (to : ℕ) → onward_of p m.pc ≡ Ok to → ltb (m.pc + 1) (length p.code) ≡ true
    unfolding onward_of
    has_next to goes = by_test (ltb (m.pc + 1) (length p.code)) goes
      where
        by_test : (b : Bool) → cond b (Ok (m.pc + 1)) (Err Violated) ≡ Ok to → b ≡ true
        by_test true e = refl
        by_test false e = absurd (let impossible : ◌≡◌ {A = ℕ} 0 1 = cc in omega arith)

    no_next : (e : Ending) → onward_of p m.pc ≡ Err e → ltb (m.pc + 1) (length p.code) ≡ false
    unfolding onward_of
    no_next e stops = by_test (ltb (m.pc + 1) (length p.code)) stops
      where
        by_test : (b : Bool) → cond b (Ok (m.pc + 1)) (Err Violated) ≡ Err e → b ≡ false
        by_test true same = absurd (let impossible : ◌≡◌ {A = ℕ} 0 1 = cc in omega arith)
        by_test false same = refl

    -- all is changed where there is a next index
    pub onward_changed : {next : Result ℕ Ending} (to : ℕ) → next ≡ onward_of p m.pc → next ≡ Ok to
        → Settles p m bs (goes_on rs' bs') (Ok to) rs' bs'
    onward_changed to onward goes reached =
        let here : onward_of p m.pc ≡ Ok to = sym onward ∙ goes in
        rw (← here) (rw (has_next to here) at (onward_settles rs' bs' reached))

    -- and nothing where there is none
    pub onward_stays : {next : Result ℕ Ending} (e : Ending) → next ≡ onward_of p m.pc → next ≡ Err e
        → Settles p m bs (goes_on rs' bs') (Err e) m.registers bs
    onward_stays e onward stops reached =
        let here : onward_of p m.pc ≡ Err e = sym onward ∙ stops in
        rw (← here) (rw (no_next e here) at (onward_settles rs' bs' reached))

  -- ---- loads and stores, by where they lie

  module _ (at : ℕ) (w : Width) {reach : Result ℕ Ending} (reached_as : reach ≡ reach_of p.layout at w) where
    pub access_ends : (e : Ending) → reach ≡ Err e → (done : Effect)
        → Settles p m bs (accessing p.layout at w done) (Err e) m.registers bs
    access_ends e is done log = rw (access_is p.layout at w (sym reached_as ∙ is) done) (ending_settles e log)

    module _ (offset : ℕ) (is : reach ≡ Ok offset) where
      inside : reach_of p.layout at w ≡ Ok offset
      inside = sym reached_as ∙ is

      pub load_settles : (v : LoadWidth) → w ≡ width_read v → (a value : ℕ) (next : Result ℕ Ending) (rs' : List ℕ)
          → value ≡ carried v (read_bytes (bytes_of (width_read v)) bs offset)
          → AssignPost p m a value next rs' → LoadPost p m bs a v at next rs'
      load_settles v same a value next rs' made assigned log =
          rw (sym same, access_is p.layout at w inside)
          (rw (made, sym same, offset_is p.layout at w offset inside) at (assigned bs log))

      pub store_settles : (value to : ℕ) {next : Result ℕ Ending} (bs' : List ℕ) → next ≡ onward_of p m.pc → next ≡ Ok to
          → bs' ≡ write_bytes (bytes_of w) value bs offset
          → Settles p m bs (storing p.layout at w value m.registers bs) (Ok to) m.registers bs'
      store_settles value to bs' onward goes writes log =
          rw (access_is p.layout at w inside, writes, offset_is p.layout at w offset inside)
          (onward_changed m.registers (write_bytes (bytes_of w) value bs (at - p.layout.base)) to onward goes log)

      pub store_stays : (value : ℕ) {next : Result ℕ Ending} (e : Ending) → next ≡ onward_of p m.pc → next ≡ Err e
          → Settles p m bs (storing p.layout at w value m.registers bs) (Err e) m.registers bs
      store_stays value e onward stops log =
          rw (access_is p.layout at w inside)
          (onward_stays m.registers (write_bytes (bytes_of w) value bs (at - p.layout.base)) e onward stops log)
