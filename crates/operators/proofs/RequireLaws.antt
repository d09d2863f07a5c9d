-- Requirements by the kind of a type. Assumes nothing.
use Prim.Native.Nat.{ℕ}
use mathlib.Core.Path.{◌≡◌, refl, sym, ap, ap₂, ◌∙◌}
use mathlib.Core.List.{[], ◌∷◌}
use mathlib.Core.Bool.{Bool, true, false, ◌||◌}
use lib.Dec.{eqb}
use Rattle.semantics.specs.Ty.{t_unknown, Ty, base, t_list, t_map, t_node, t_relationship, t_union, letter, among, matches}
use Rattle.semantics.specs.Walk.{Need, a_number, a_string, a_bool, meets, fault_of, require, numeric, is_open}
use Rattle.ty.specs.Read.{kind_of}
use Rattle.ty.specs.Kind.{SomeKind}
use Rattle.report.specs.declared.Report.{Report}
use Rattle.report.specs.Report.{Adds}
use Rattle.report.proofs.ReportLaws.{adds_none}
use Rattle.operators.specs.Helpers.{NumericKind}

or-true : (b : Bool) → b || true ≡ true
or-true true = refl
or-true false = refl

or-false : (b : Bool) → b || false ≡ b
or-false true = refl
or-false false = refl

or-assoc : (a b c : Bool) → a || (b || c) ≡ (a || b) || c
or-assoc true b c = refl
or-assoc false b c = refl

-- the kinds that a need is met by, beside the open ones
abbrev pub wanted : Need → ℕ → Bool
wanted a_number k = eqb k 68 || (eqb k 69 || eqb k 70)
wanted a_string k = eqb k 71
wanted a_bool k = eqb k 67

meets-number : (u : Ty) → meets a_number u ≡ eqb (kind_of u) 68 || (eqb (kind_of u) 69 || (eqb (kind_of u) 70 || is_open u))
unfolding meets matches among kind_of letter
meets-number (base b) = refl
meets-number (t_list t) = refl
meets-number (t_map fs) = refl
meets-number (t_node ls) = refl
meets-number (t_relationship n) = refl
meets-number (t_union ts) = refl

meets-string : (u : Ty) → meets a_string u ≡ wanted a_string (kind_of u) || is_open u
unfolding meets matches among kind_of letter
meets-string (base b) = refl
meets-string (t_list t) = refl
meets-string (t_map fs) = refl
meets-string (t_node ls) = refl
meets-string (t_relationship n) = refl
meets-string (t_union ts) = refl

meets-bool : (u : Ty) → meets a_bool u ≡ wanted a_bool (kind_of u) || is_open u
unfolding meets matches among kind_of letter
meets-bool (base b) = refl
meets-bool (t_list t) = refl
meets-bool (t_map fs) = refl
meets-bool (t_node ls) = refl
meets-bool (t_relationship n) = refl
meets-bool (t_union ts) = refl

meets-by : (n : Need) (u : Ty) → meets n u ≡ wanted n (kind_of u) || is_open u
meets-by a_number u =
    let k = kind_of u in
    meets-number u
    ∙ ap (λ (b : Bool). eqb k 68 || b) (or-assoc (eqb k 69) (eqb k 70) (is_open u))
    ∙ or-assoc (eqb k 68) (eqb k 69 || eqb k 70) (is_open u)
meets-by a_string u = meets-string u
meets-by a_bool u = meets-bool u

module _ (n : Need) (u : Ty) {k : ℕ} (e : kind_of u ≡ k) where
  pub met-open : is_open u ≡ true → true ≡ meets n u
  met-open o = sym (meets-by n u ∙ ap (λ (b : Bool). wanted n (kind_of u) || b) o ∙ or-true (wanted n (kind_of u)))

  pub met-by : {b : Bool} → is_open u ≡ false → wanted n k ≡ b → b ≡ meets n u
  met-by o w =
      sym (meets-by n u
      ∙ ap₂ (λ (x y : Bool). x || y) (ap (wanted n) e ∙ w) o
      ∙ or-false _)

-- the kind that arithmetic goes on with
module _ (k : ℕ) (b : Bool) (h : (u : Ty) → kind_of u ≡ k → b ≡ meets a_number u) where
  pub numeric-same : b ≡ true → SomeKind k → NumericKind k k
  unfolding numeric
  numeric-same t s =
      record {
        is = λ u e. sym e ∙ ap (λ (x : Bool). kind_of (elim x [ true ↦ u | false ↦ base t_unknown ])) (sym t ∙ h u e);
        some = s;
      }

  pub numeric-unknown : b ≡ false → NumericKind k 80
  unfolding numeric kind_of letter
  numeric-unknown f =
      record {
        is = λ u e. ap (λ (x : Bool). kind_of (elim x [ true ↦ u | false ↦ base t_unknown ])) (sym f ∙ h u e);
        some = record { ty = base t_unknown; is = unfold kind_of letter in refl };
      }

-- what is met adds nothing, what is not met adds its fault
pub adds-met : (k : Need) (u : Ty) {r : Report} → meets k u ≡ true → Adds (require k u) r r
unfolding require
adds-met k u e = rw (require, e) adds_none

pub adds-unmet : (k : Need) (u : Ty) {r r' : Report} → meets k u ≡ false → Adds (fault_of k u ∷ []) r r' → Adds (require k u) r r'
unfolding require
adds-unmet k u e a = rw (require, e) a
