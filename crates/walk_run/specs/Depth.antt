-- How deep lists and maps lie in a type, and how high the trees of lines stand.
use Rattle.std.specs.Prelude.{List, [], ◌∷◌, ℕ, suc, max, take, drop}
use Rattle.semantics.specs.Ty.{Ty, base, t_list, t_map, t_node, t_relationship, t_union, Tys, ∅, ◌⊕◌, Fields, ∅ᶠ, field}
use Rattle.semantics.specs.Sheet.{Head, Rule, silent, entering, typed, rule, arity}

-- the lists and maps on the longest way down; a union adds none
unfoldable mutual
  pub levels : Ty → ℕ
  levels (base b) = 0
  levels (t_list t) = suc (levels t)
  levels (t_map fs) = suc (levels_f fs)
  levels (t_node ls) = 0
  levels (t_relationship n) = 0
  levels (t_union ts) = levels_s ts

  pub levels_s : Tys → ℕ
  levels_s ∅ = 0
  levels_s (t ⊕ ts) = max (levels t) (levels_s ts)

  pub levels_f : Fields → ℕ
  levels_f ∅ᶠ = 0
  levels_f (field n t fs) = max (levels t) (levels_f fs)

unfoldable pub greatest : List ℕ → ℕ
greatest [] = 0
greatest (k ∷ ks) = max k (greatest ks)

-- an expression stands one higher than what hangs under it, any other line as high
unfoldable pub rise : Rule → ℕ → ℕ
rise silent k = k
rise entering k = k
rise (typed t) k = suc k

-- the height of each of the trees that stand there side by side, as `walk` goes over them
unfoldable pub height : List Head → List ℕ
height [] = []
height (h ∷ hs) = let ks = height hs in rise (rule h) (greatest (take (arity h) ks)) ∷ drop (arity h) ks

-- two lists of one length, by pairs
pub data Pairs {A B : Type 0} (R : A → B → Type 0) : List A → List B → Type 0 where
  no_pairs : Pairs R [] []
  pairing : {x : A} {y : B} {xs : List A} {ys : List B} → R x y → Pairs R xs ys → Pairs R (x ∷ xs) (y ∷ ys)
