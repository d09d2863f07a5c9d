-- Types that hold no types, for any form: what is read of them is what their fields say. Assumes nothing.
use mathlib.Core.Path.{◌≡◌, refl, sym, ◌∙◌, ap, subst}
use mathlib.Core.List.{List, [], ◌∷◌}
use mathlib.Core.Option as option
use mathlib.Core.Option.{none, some}
use mathlib.Core.Bool.{Bool, true, false, cond}
use Prim.Native.Nat.{ℕ, ◌+◌, ◌≤◌}
use native.Mathlib.Omega.{arith}
use lib.Dec.{eqb}
use lib.ListN.{length, drop}
use borrow.Author.Tests.{eqb-true}
use Rattle.std.specs.Prelude.{Option, Some, None}
use Rattle.std.proofs.lemmas.Option.{none-some, same_Some}
use Rattle.text.specs.Text.{is_found}
use Rattle.semantics.specs.Bytes.{Bytes}
use Rattle.semantics.specs.Ty.{Base, Ty, base, t_list, t_map, t_node, t_relationship, t_union, letter, labels_to, rel_to, line_to, base_in, bases}
use Rattle.semantics.proofs.Order.{tail-eq}
use Rattle.semantics.proofs.Named.{Maybe}
use Rattle.ty.specs.declared.end.Content.{Content}
use Rattle.ty.specs.declared.end.Content.TheVariants.{Nothing, Labels, RelationshipName, Types}
use Rattle.ty.specs.Read.{letter_at, content_of, ReadsTo}
use Rattle.ty.proofs.Fields.{letter_at_lem, content_t, type-letter, type-content}

-- ## What a letter's content says of it

base-is : (k : ℕ) (bs : List Base) → Maybe (λ b. letter b ≡ k) (base_in k bs)
unfolding base_in
base-is k [] = tt
base-is k (b ∷ bs) = go (eqb k (letter b)) refl (base-is k bs)
  where
    go : (t : Bool) → eqb k (letter b) ≡ t → Maybe (λ b. letter b ≡ k) (base_in k bs) → Maybe (λ b. letter b ≡ k) (base_in k (b ∷ bs))
    go true e w = rw (e, base_in) (sym (eqb-true k (letter b) e))
    go false e w = rw (e, base_in) w

-- the letter of a content that is no types
pub data Holds (k : ℕ) : Option Content → Type 0 where
  plain : (b : Base) → letter b ≡ k → Holds k (Some Nothing)
  labels : k ≡ 76 → Holds k (Some Labels)
  name : k ≡ 77 → Holds k (Some RelationshipName)
  nothing : Holds k None
  types : Holds k (Some Types)

pub holds : (k : ℕ) → Holds k (content_of k)
unfolding content_of
holds k = go (eqb k 74) (eqb k 75) (eqb k 76) (eqb k 77) (eqb k 79) (base_in k bases) refl refl (base-is k bases)
  where
    go : (p q r s t : Bool) (u : option.Option Base) → eqb k 76 ≡ r → eqb k 77 ≡ s → Maybe (λ b. letter b ≡ k) u
        → Holds k (cond p (Some Types) (cond q (Some Types) (cond r (Some Labels) (cond s (Some RelationshipName) (cond t (Some Types) (cond (is_found u) (Some Nothing) None))))))
    go true q r s t u x y w = types
    go false true r s t u x y w = types
    go false false true s t u x y w = labels (eqb-true k 76 x)
    go false false false true t u x y w = name (eqb-true k 77 y)
    go false false false false true u x y w = types
    go false false false false false none x y w = nothing
    go false false false false false (some b) x y w = plain b w

-- ## What is read

-- no letter is there
pub no-letter : (P : Ty → Type 0) (s : Bytes) (at : ℕ) → letter_at s at ≡ None → ReadsTo line_to P s at None
no-letter P s at z t r d w = none-some _ (sym z ∙ type-letter s at t r d)

module _ (P : Ty → Type 0) (s : Bytes) (at k : ℕ) (e : letter_at s at ≡ Some k) where
  inside : (drop at s ≡ k ∷ 44 ∷ drop (at + 2) s) × (at + 2 ≤ length s)
  inside = letter_at_lem s at k e

  pub flat-none : content_of k ≡ None → ReadsTo line_to P s at None
  flat-none z t r d w = none-some (content_t t) (sym z ∙ type-content s at k e t r d)

  pub flat-base : content_of k ≡ Some Nothing → ((b : Base) → P (base b)) → ReadsTo line_to P s at (Some (at + 2))
  unfolding line_to
  flat-base z h = go (holds k) z
    where
      go : {n : Option Content} → Holds k n → n ≡ Some Nothing → ReadsTo line_to P s at (Some (at + 2))
      go (plain b f) y = (base b, inside.0 ∙ ap (λ (k : ℕ). k ∷ 44 ∷ drop (at + 2) s) (sym f), h b, omega arith, inside.1)
      go (labels f) y = absurd (cc)
      go (name f) y = absurd (cc)
      go nothing y = absurd (cc)
      go types y = absurd (cc)

  -- what stands behind the letters of node types and relationship types
  module _ {A : Type 0} (c : Content) (z : content_of k ≡ Some c) (make : A → Ty) (write : A → Bytes → Bytes) (l : ℕ) (is : k ≡ l)
      (spelt : (a : A) (r : Bytes) → line_to (make a) r ≡ l ∷ 44 ∷ write a r) (only : (t : Ty) → content_t t ≡ c → (a : A) × (t ≡ make a))
      (Q : A → Type 0) (fine : (a : A) → Q a → P (make a)) (back : (a : A) → P (make a) → Q a) where
    held : (res : Option ℕ) → ReadsTo write Q s (at + 2) res → ReadsTo line_to P s at res
    held (Some p) (a, d, w, i, j) = (make a, inside.0 ∙ rw is (ap (λ (x : Bytes). l ∷ 44 ∷ x) d) ∙ sym (spelt a (drop p s)), fine a w, omega arith, j)
    held None h = none
      where
        none : ReadsTo line_to P s at None
        none t r d w =
            let y = only t (same_Some (content_t t) c (sym (type-content s at k e t r d) ∙ z)) in
            h y.0 r (tail-eq (tail-eq (sym inside.0 ∙ d ∙ ap (λ (u : Ty). line_to u r) y.1 ∙ spelt y.0 r))) (back y.0 (subst P y.1 w))

  node-letter : content_of k ≡ Some Labels → k ≡ 76
  node-letter z = go (holds k) z
    where
      go : {n : Option Content} → Holds k n → n ≡ Some Labels → k ≡ 76
      go (plain b f) y = absurd (cc)
      go (labels f) y = f
      go (name f) y = absurd (cc)
      go nothing y = absurd (cc)
      go types y = absurd (cc)

  rel-letter : content_of k ≡ Some RelationshipName → k ≡ 77
  rel-letter z = go (holds k) z
    where
      go : {n : Option Content} → Holds k n → n ≡ Some RelationshipName → k ≡ 77
      go (plain b f) y = absurd (cc)
      go (labels f) y = absurd (cc)
      go (name f) y = f
      go nothing y = absurd (cc)
      go types y = absurd (cc)

  only-node : (t : Ty) → content_t t ≡ Labels → (ls : option.Option (List Bytes)) × (t ≡ t_node ls)
  unfolding content_t
  only-node (base b) y = absurd (cc)
  only-node (t_list t) y = absurd (cc)
  only-node (t_map fs) y = absurd (cc)
  only-node (t_node ls) y = (ls, refl)
  only-node (t_relationship n) y = absurd (cc)
  only-node (t_union ts) y = absurd (cc)

  only-rel : (t : Ty) → content_t t ≡ RelationshipName → (n : option.Option Bytes) × (t ≡ t_relationship n)
  unfolding content_t
  only-rel (base b) y = absurd (cc)
  only-rel (t_list t) y = absurd (cc)
  only-rel (t_map fs) y = absurd (cc)
  only-rel (t_node ls) y = absurd (cc)
  only-rel (t_relationship n) y = (n, refl)
  only-rel (t_union ts) y = absurd (cc)

  pub flat-node : content_of k ≡ Some Labels → (Q : option.Option (List Bytes) → Type 0) → ((ls : option.Option (List Bytes)) → Q ls → P (t_node ls)) → ((ls : option.Option (List Bytes)) → P (t_node ls) → Q ls)
      → (res : Option ℕ) → ReadsTo labels_to Q s (at + 2) res → ReadsTo line_to P s at res
  unfolding line_to
  flat-node z Q fine back = held Labels z t_node labels_to 76 (node-letter z) (λ ls r. refl) only-node Q fine back

  pub flat-rel : content_of k ≡ Some RelationshipName → (Q : option.Option Bytes → Type 0) → ((n : option.Option Bytes) → Q n → P (t_relationship n)) → ((n : option.Option Bytes) → P (t_relationship n) → Q n)
      → (res : Option ℕ) → ReadsTo rel_to Q s (at + 2) res → ReadsTo line_to P s at res
  unfolding line_to
  flat-rel z Q fine back = held RelationshipName z t_relationship rel_to 77 (rel-letter z) (λ n r. refl) only-rel Q fine back
