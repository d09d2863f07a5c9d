-- A type line begins with its kind letter and a comma; the names of the kinds. Assumes nothing.
use Prim.Native.Nat.{ℕ, ◌+◌, ◌≤◌}
use native.Mathlib.Omega.{arith}
use mathlib.Core.Path.{◌≡◌, refl, sym, ap, ◌∙◌}
use mathlib.Core.List.{[]}
use lib.ListN.{length, get_or}
use lib.Seq.{slice-cons, length-slice}
use Rattle.semantics.specs.Bytes.{Bytes, text}
use Rattle.semantics.specs.Ty.{Base, t_any, t_null, t_bool, t_int, t_float, t_num, t_string, t_date, t_datetime, t_path, t_unknown, Ty, base, t_list, t_map, t_node, t_relationship, t_union, letter, line}
use Rattle.semantics.specs.Calls.{type_name}
use Rattle.semantics.proofs.Order.{head-eq}
use Rattle.ty.specs.Parts.{TypeAt}
use Rattle.ty.specs.Read.{kind_of}
use Rattle.ty.specs.Kind.{name_of_kind, NamesKind}
use Rattle.ty.proofs.Fields.{line-opens}

pub two_at : (s : Bytes) (a e : ℕ) (t : Ty) → TypeAt s a e t → a + 2 ≤ e
unfolding line
two_at s a e t h = omega (arith, h.ordered, length-slice a e s h.inside, ap length h.is, ap length (line-opens t []))

pub kind_at : (s : Bytes) (a e : ℕ) (t : Ty) → TypeAt s a e t → get_or s a 0 ≡ kind_of t
unfolding line
kind_at s a e t h =
    let k = two_at s a e t h in
    head-eq (sym (slice-cons a e s 0 (omega arith) h.inside) ∙ h.is ∙ line-opens t [])

-- what is known of a kind's letter and name
pub record KindName (t : Ty) : Type 0 where
  pub low : 65 ≤ kind_of t
  pub high : kind_of t ≤ 80
  pub is : name_of_kind (kind_of t) ≡ type_name t
  pub short : length (type_name t) ≤ 12

base-name : (b : Base) → KindName (base b)
unfolding kind_of letter name_of_kind text type_name
base-name t_any = record { low = omega arith; high = omega arith; is = refl; short = omega arith }
base-name t_null = record { low = omega arith; high = omega arith; is = refl; short = omega arith }
base-name t_bool = record { low = omega arith; high = omega arith; is = refl; short = omega arith }
base-name t_int = record { low = omega arith; high = omega arith; is = refl; short = omega arith }
base-name t_float = record { low = omega arith; high = omega arith; is = refl; short = omega arith }
base-name t_num = record { low = omega arith; high = omega arith; is = refl; short = omega arith }
base-name t_string = record { low = omega arith; high = omega arith; is = refl; short = omega arith }
base-name t_date = record { low = omega arith; high = omega arith; is = refl; short = omega arith }
base-name t_datetime = record { low = omega arith; high = omega arith; is = refl; short = omega arith }
base-name t_path = record { low = omega arith; high = omega arith; is = refl; short = omega arith }
base-name t_unknown = record { low = omega arith; high = omega arith; is = refl; short = omega arith }

pub kind-name : (t : Ty) → KindName t
unfolding kind_of name_of_kind text type_name
kind-name (base b) = base-name b
kind-name (t_list t) = record { low = omega arith; high = omega arith; is = refl; short = omega arith }
kind-name (t_map fs) = record { low = omega arith; high = omega arith; is = refl; short = omega arith }
kind-name (t_node ls) = record { low = omega arith; high = omega arith; is = refl; short = omega arith }
kind-name (t_relationship n) = record { low = omega arith; high = omega arith; is = refl; short = omega arith }
kind-name (t_union ts) = record { low = omega arith; high = omega arith; is = refl; short = omega arith }

-- the name of a letter is that of each type of that kind
pub names_kind : {k : ℕ} (l : ℕ) → k ≡ l → NamesKind k (name_of_kind l)
names_kind l e t h = ap name_of_kind (sym (h ∙ e)) ∙ (kind-name t).is
