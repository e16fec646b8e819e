-- Lists made from their indexes. Assumes nothing.
use Prim.Native.Nat.{ℕ, zero, suc, ◌+◌, ◌≤◌, ◌<◌}
use mathlib.Core.Path.{◌≡◌, refl, sym, ap, ◌∙◌}
use mathlib.Core.List.{List, map}
use native.Mathlib.Nat.{add-zero, zero-add}
use native.Mathlib.Omega.{arith}
use lib.ListN.{length, get_or}
use lib.Seq.{ext_get_or}
use Rattle.model.specs.File.{tabulate}

-- a tabulated list is as long as it says
pub length-tabulate : {A : Type 0} (i n : ℕ) (f : ℕ → A) → length (tabulate i n f) ≡ n
unfolding tabulate
length-tabulate i zero f = refl
length-tabulate i (suc n) f = ap suc (length-tabulate (suc i) n f)

-- what holds of every entry of a table, and of what stands past its end, holds of what is looked up
pub tabulate_everywhere : {A : Type 0} (P : A → Type 0) (f : ℕ → A) (d : A) → ((i : ℕ) → P (f i)) → P d
    → (i n j : ℕ) → P (get_or (tabulate i n f) j d)
unfolding tabulate
tabulate_everywhere P f d entries past i zero j = past
tabulate_everywhere P f d entries past i (suc n) zero = entries i
tabulate_everywhere P f d entries past i (suc n) (suc j) = tabulate_everywhere P f d entries past (suc i) n j

-- the entry of a table
pub tabulate_at : {A : Type 0} (f : ℕ → A) (d : A) (i n j : ℕ) → j < n → get_or (tabulate i n f) j d ≡ f (i + j)
unfolding tabulate
tabulate_at f d i zero j below = absurd (omega arith)
tabulate_at f d i (suc n) zero below = ap f (sym (add-zero i))
tabulate_at f d i (suc n) (suc j) below =
    tabulate_at f d (suc i) n j (omega arith) ∙ ap f (let moved : suc i + j ≡ i + suc j = omega arith in moved)

pub table_at : {A : Type 0} (f : ℕ → A) (d : A) (n j : ℕ) → j < n → get_or (tabulate 0 n f) j d ≡ f j
table_at f d n j below = tabulate_at f d 0 n j below ∙ ap f (zero-add j)

-- tables of the same entries are the same, and a list is the table of its entries
pub tabulate_same : {A : Type 0} (f g : ℕ → A) (i n : ℕ) → ((j : ℕ) → i ≤ j → j < i + n → f j ≡ g j) → tabulate i n f ≡ tabulate i n g
unfolding tabulate
tabulate_same f g i zero same = refl
tabulate_same f g i (suc n) same =
    rw (same i (omega arith) (omega arith), tabulate_same f g (suc i) n (λ j from below. same j (omega arith) (omega arith)))

pub tabulate_is : {A : Type 0} (f : ℕ → A) (d : A) (n : ℕ) (xs : List A) → length xs ≡ n → ((i : ℕ) → i < n → f i ≡ get_or xs i d)
    → tabulate 0 n f ≡ xs
tabulate_is f d n xs long same =
    let as_long : length (tabulate 0 n f) ≡ n = length-tabulate 0 n f in
    ext_get_or d (tabulate 0 n f) xs (as_long ∙ sym long)
    (λ i below. table_at f d n i (omega arith) ∙ same i (omega arith))

-- what is made of each entry
pub map-tabulate : {A B : Type 0} (g : A → B) (f : ℕ → A) (i n : ℕ) → map g (tabulate i n f) ≡ tabulate i n (λ j. g (f j))
unfolding tabulate
map-tabulate g f i zero = refl
map-tabulate g f i (suc n) = rw (map-tabulate g f (suc i) n)

-- a table of eight, entry by entry
