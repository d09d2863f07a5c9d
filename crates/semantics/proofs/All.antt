-- What holds of every element of a list, and of both branches of a test. Assumes nothing.
use mathlib.Core.List.{List, ◌++◌, map}
use mathlib.Core.Bool.{Bool, true, false}
use Prim.Native.Nat.{ℕ, suc, zero}
use lib.ListN.{get_or, take, drop}
pub use Rattle.semantics.specs.All.{All, empty, also}

pub all-weaken : {A : Type 0} {P Q : A → Type 0} → ((x : A) → P x → Q x) → {xs : List A} → All P xs → All Q xs
all-weaken f empty = empty
all-weaken f (also {x} p ps) = also (f x p) (all-weaken f ps)

pub all_map : {A B : Type 0} {P : A → Type 0} {Q : B → Type 0} (f : A → B) → ((x : A) → P x → Q (f x)) → {xs : List A} → All P xs → All Q (map f xs)
all_map f g empty = empty
all_map f g (also {x} p ps) = also (g x p) (all_map f g ps)

pub all_append : {A : Type 0} {P : A → Type 0} {xs ys : List A} → All P xs → All P ys → All P (xs ++ ys)
all_append empty qs = qs
all_append (also p ps) qs = also p (all_append ps qs)

pub all_take : {A : Type 0} {P : A → Type 0} (n : ℕ) {xs : List A} → All P xs → All P (take n xs)
all_take zero ps = empty
all_take (suc n) empty = empty
all_take (suc n) (also p ps) = also p (all_take n ps)

pub all_drop : {A : Type 0} {P : A → Type 0} (n : ℕ) {xs : List A} → All P xs → All P (drop n xs)
all_drop zero ps = ps
all_drop (suc n) empty = empty
all_drop (suc n) (also p ps) = all_drop n ps

-- the element at a place, or what stands in for it
pub all_at : {A : Type 0} {P : A → Type 0} (d : A) → P d → {xs : List A} → All P xs → (n : ℕ) → P (get_or xs n d)
all_at d q empty n = q
all_at d q (also p ps) zero = p
all_at d q (also p ps) (suc n) = all_at d q ps n

pub either : {A : Type 0} (P : A → Type 0) {x y : A} (b : Bool) → P x → P y → P (elim b [ true ↦ x | false ↦ y ])
either P true p q = p
either P false p q = q
