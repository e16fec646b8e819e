-- Each Boolean test of the definitions passes exactly if the statement that it tests holds. Assumes nothing.
use Prim.Native.Nat.{ℕ, zero, suc, ◌/◌, ◌%◌, ◌≤◌, ◌<◌}
use mathlib.Core.Path.{◌≡◌, refl, sym, ap, ◌∙◌}
use mathlib.Core.Logic.{◌↔◌, ◌⊎◌, inl, inr}
use mathlib.Core.Bool.{Bool, true, false, not, ◌&&◌, ◌||◌, false≢true}
use Rattle.std.specs.Prelude.{Option, None, Some}
use Rattle.std.proofs.lemmas.Option.{none-some, same_Some}
use native.Mathlib.Omega.{arith}
use native.Mathlib.Decide.{ℕ_discrete}
use native.Mathlib.Nat.{div-add-mod, div-eq_of_eq-mul_right, mul-mod_right}
use lib.Dec.{T, leb, ltb, eqb}
use lib.IntN.{ℤ}
use lib.Signed.{le_z, ◌≤ℤ◌}
use borrow.Author.Tests.{ltb-true, leb-true, eqb-true, lt-ltb, le-leb, eq-eqb}
use Rattle.model.specs.Quantifiers.{all_of, any_of, all_below, any_below}
use Rattle.model.specs.File.{is_multiple}
use Rattle.model.specs.Rules.{SomeOf}
use Rattle.model.proofs.Tests.{and_left, and_right, or_cases, all_below_at}

-- a test and what it tests
abbrev pub Reflects : Bool → Type 0 → Type 0
Reflects b P = (b ≡ true) ↔ P

pub le_reflects : (a b : ℕ) → Reflects (leb a b) (a ≤ b)
le_reflects a b = (leb-true a b, le-leb a b)

pub lt_reflects : (a b : ℕ) → Reflects (ltb a b) (a < b)
lt_reflects a b = (ltb-true a b, lt-ltb a b)

pub eq_reflects : (a b : ℕ) → Reflects (eqb a b) (a ≡ b)
eq_reflects a b = (eqb-true a b, eq-eqb a b)

test_passes : (b : Bool) → Reflects b (T b)
test_passes true = (λ e. tt, λ t. refl)
test_passes false = (λ e. absurd (false≢true e), λ t. absurd t)

pub le_z_reflects : (a b : ℤ) → Reflects (le_z a b) (a ≤ℤ b)
le_z_reflects a b = (
  λ e. record { le = (test_passes (le_z a b)).0 e },
  λ h. (test_passes (le_z a b)).1 h.le,
)

both_pass : (a b : Bool) → a ≡ true → b ≡ true → a && b ≡ true
both_pass true b e f = f
both_pass false b e f = e

all_below_lem : (n : ℕ) (f : ℕ → Bool) → ((i : ℕ) → i < n → f i ≡ true) → all_below n f ≡ true
unfolding all_below
all_below_lem zero f h = refl
all_below_lem (suc n) f h = both_pass (all_below n f) (f n) (all_below_lem n f (λ i k. h i (omega arith))) (h n (omega arith))

either_passes : (a b : Bool) → (a ≡ true) ⊎ (b ≡ true) → a || b ≡ true
either_passes true b e = refl
either_passes false b (inl e) = absurd (false≢true e)
either_passes false b (inr e) = e

any_below_lem : (n : ℕ) (f : ℕ → Bool) (i : ℕ) → i < n → f i ≡ true → any_below n f ≡ true
unfolding any_below
any_below_lem zero f i h e = absurd (omega arith)
any_below_lem (suc n) f i h e = either_passes (any_below n f) (f n) (last_or_below (λ q. any_below_lem n f i q e) (ℕ_discrete i n))
  where
    last_or_below : (i < n → any_below n f ≡ true) → Dec (i ≡ n) → (any_below n f ≡ true) ⊎ (f n ≡ true)
    last_or_below below (yes q) = inr (rw q at e)
    last_or_below below (no q) = inl (below (omega arith))

any_below_at : (n : ℕ) (f : ℕ → Bool) → any_below n f ≡ true → (i : ℕ) × (i < n) × (f i ≡ true)
unfolding any_below
any_below_at zero f e = absurd (false≢true e)
any_below_at (suc n) f e = below_or_last (λ q. any_below_at n f q) (or_cases (any_below n f) (f n) e)
  where
    below_or_last : (any_below n f ≡ true → (i : ℕ) × (i < n) × (f i ≡ true)) → (any_below n f ≡ true) ⊎ (f n ≡ true)
        → (i : ℕ) × (i < suc n) × (f i ≡ true)
    below_or_last below (inl q) = let w = below q in (w.0, omega (arith, w.1), w.2)
    below_or_last below (inr q) = (n, omega arith, q)

pub and_reflects : {a b : Bool} {P Q : Type 0} → Reflects a P → Reflects b Q → Reflects (a && b) (P × Q)
and_reflects {a} {b} p q =
    (λ e. (p.0 (and_left a b e), q.0 (and_right a b e)), λ h. both_pass a b (p.1 h.0) (q.1 h.1))

pub not_reflects : {a : Bool} {P : Type 0} → Reflects a P → Reflects (not a) (P → ⊥)
not_reflects {a} p = (λ e h. refute a e (p.1 h), λ n. fails a (λ e. n (p.0 e)))
  where
    refute : (c : Bool) → not c ≡ true → c ≡ true → ⊥
    refute true e f = false≢true e
    refute false e f = false≢true f

    fails : (c : Bool) → (c ≡ true → ⊥) → not c ≡ true
    fails true n = absurd (n refl)
    fails false n = refl

pub implies_reflects : {a b : Bool} {P Q : Type 0} → Reflects a P → Reflects b Q → Reflects (not a || b) (P → Q)
implies_reflects {a} {b} p q = (λ e h. q.0 (apply a e (p.1 h)), λ h. make a (λ e. q.1 (h (p.0 e))))
  where
    apply : (c : Bool) → (not c || b) ≡ true → c ≡ true → b ≡ true
    apply true e f = e
    apply false e f = absurd (false≢true f)

    make : (c : Bool) → (c ≡ true → b ≡ true) → (not c || b) ≡ true
    make true f = f refl
    make false f = refl

-- where a test is stated by its own answer
pub false_reflects : (a : Bool) → Reflects (not a) (a ≡ false)
false_reflects true = (λ e. absurd (false≢true e), λ e. sym e)
false_reflects false = (λ e. refl, λ e. refl)

pub unless_reflects : (a b : Bool) → Reflects (a || b) (a ≡ false → b ≡ true)
unless_reflects true b = (λ e f. absurd (false≢true (sym f)), λ h. refl)
unless_reflects false b = (λ e f. e, λ h. h refl)

-- over every number below n, and over some
pub all_below_reflects : (n : ℕ) {f : ℕ → Bool} {P : ℕ → Type 0} → ((i : ℕ) → Reflects (f i) (P i))
    → Reflects (all_below n f) ((i : ℕ) → i < n → P i)
all_below_reflects n {f} {P} p = (λ e i h. (p i).0 (all_below_at n f e i h), λ h. all_below_lem n f (λ i k. (p i).1 (h i k)))

pub any_below_reflects : (n : ℕ) {f : ℕ → Bool} {P : ℕ → Type 0} → ((i : ℕ) → Reflects (f i) (P i))
    → Reflects (any_below n f) ((i : ℕ) × (i < n) × P i)
any_below_reflects n {f} {P} p =
    (λ e. let w = any_below_at n f e in (w.0, w.1, (p w.0).0 w.2), λ w. any_below_lem n f w.0 w.1 ((p w.0).1 w.2))

-- over what may be there
pub all_of_reflects : {A : Type 0} (o : Option A) {f : A → Bool} {P : A → Type 0} → ((x : A) → Reflects (f x) (P x))
    → Reflects (all_of o f) ((x : A) → o ≡ Some x → P x)
all_of_reflects None p = (λ e x q. absurd (none-some x q), λ h. refl)
all_of_reflects (Some y) {f} {P} p =
    (λ e x q. rw (← same_Some y x q) ((p y).0 e), λ h. (p y).1 (h y refl))

pub any_of_reflects : (o : Option ℕ) (a : ℕ) → Reflects (any_of o (eqb a)) (o ≡ Some a)
any_of_reflects None a = (λ e. absurd (false≢true e), λ q. absurd (none-some a q))
any_of_reflects (Some b) a = (λ e. ap Some (sym (eqb-true a b e)), λ q. eq-eqb a b (sym (same_Some b a q)))

-- a length that is listed: some of a unit, from one to the most
pub multiple_reflects : (unit most len : ℕ) → 0 < unit → Reflects (is_multiple unit most len) (SomeOf unit most len)
multiple_reflects unit most len u = (λ e. counted (tests.0 e), λ w. tests.1 (divided w))
  where
    tests : Reflects (is_multiple unit most len) (((len % unit ≡ 0) × (1 ≤ len / unit)) × (len / unit ≤ most))
    tests = and_reflects (and_reflects (eq_reflects (len % unit) 0) (le_reflects 1 (len / unit))) (le_reflects (len / unit) most)

    counted : ((len % unit ≡ 0) × (1 ≤ len / unit)) × (len / unit ≤ most) → SomeOf unit most len
    counted h = (len / unit, h.0.1, h.1, omega (arith, div-add-mod len unit, h.0.0))

    divided : SomeOf unit most len → ((len % unit ≡ 0) × (1 ≤ len / unit)) × (len / unit ≤ most)
    divided (n, one, few, e) =
        let quotient : len / unit ≡ n = div-eq_of_eq-mul_right u e in
        ((ap (λ (x : ℕ). x % unit) e ∙ mul-mod_right unit n, omega arith), omega arith)
