-- Lines that look at their first child at most: constants, variables, elements, slices, calls, unary operators. Assumes nothing.
use mathlib.Core.Path.{◌≡◌, refl, ◌∙◌, ap₂}
use mathlib.Core.List.{List, [], ◌∷◌}
use mathlib.Core.Option.{Option, none, some}
use mathlib.Core.Bool.{false}
use Prim.Native.Nat.{ℕ}
use lib.ListN.{length}
use lib.Dec.{eqb}
use Rattle.semantics.specs.Ty.{t_any, t_bool, t_int, t_path, t_string, t_unknown, Ty, base, t_list, t_map, t_node, t_relationship, t_union, labels_to, rel_to, line_to, line, letter, nesting, too_large}
use Rattle.semantics.specs.Builtins.{ReturnShape, fixed, list_element, list_self, Builtin, builtin_id, builtin_size, builtin_head, builtin_tail, builtin_last, builtin_keys, builtin_values, signature, lookup, element_of, list_or, resolve_return}
use Rattle.semantics.specs.Sheet.{Head, num, Role, constant, var_type, element, slice, calling, unary}
use Rattle.semantics.specs.Walk.{Res, Env, kind_type, var_type_in, var_type_of, a_number, meets, numeric, unary_type, unary_faults, arg_faults, call_type, call_faults, tys, type_by, own_by, last_by, no_part, child_by, named}
use Rattle.semantics.proofs.All.{All, also, either}
use Rattle.unify_run.proofs.Size.{small-sound, small-true, element-inside}
use Rattle.unify_run.proofs.UnionsMeet.{base-small}
use native.Mathlib.Omega.{arith}
use Rattle.walk_run.specs.Run.{empty, start, keep_first, child, told, end, concluded}
use Rattle.walk_run.proofs.Fine.{FineRes}
use Rattle.walk_run.proofs.Quiet.{Said, said-alike, ending-small, alike-idle, AtFirst, alike-first}

-- ## Types that are never too large

abbrev Tiny : Ty → Type 0
Tiny t = too_large t ≡ false

pub list-tiny : Tiny (t_list (base t_any))
unfolding too_large line line_to letter nesting
list-tiny = refl

strings-tiny : Tiny (t_list (base t_string))
unfolding too_large line line_to letter nesting
strings-tiny = refl

node-tiny : Tiny (t_node none)
unfolding too_large line line_to labels_to nesting
node-tiny = refl

relationship-tiny : Tiny (t_relationship none)
unfolding too_large line line_to rel_to nesting
relationship-tiny = refl

kind-tiny : (k : ℕ) → Tiny (kind_type k)
kind-tiny k = either Tiny (eqb k 0) node-tiny (either Tiny (eqb k 1) relationship-tiny (either Tiny (eqb k 2) (base-small t_path) (base-small t_any)))

var-in-tiny : (v : ℕ) (bs : List (ℕ × ℕ)) → Tiny (var_type_in v bs)
unfolding var_type_in
var-in-tiny v [] = base-small t_any
var-in-tiny v ((w, k) ∷ bs) = either Tiny (eqb v w) (kind-tiny k) (var-in-tiny v bs)

pub var-tiny : (v : Option ℕ) (env : Env) → too_large (var_type_of v env) ≡ false
unfolding var_type_of
var-tiny none env = base-small t_any
var-tiny (some v) env = var-in-tiny v env.bindings

-- ## Types that are not too large if the child's is not

pub element-tiny : (t : Ty) → too_large t ≡ false → too_large (element_of t) ≡ false
unfolding element_of
element-tiny (base b) p = base-small t_any
element-tiny (t_list t) p = let s = small-sound (t_list t) p in let i = element-inside t in small-true t (omega arith, omega arith)
element-tiny (t_map fs) p = base-small t_any
element-tiny (t_node ls) p = base-small t_any
element-tiny (t_relationship n) p = base-small t_any
element-tiny (t_union ts) p = base-small t_any

pub list-or-tiny : (d t : Ty) → too_large d ≡ false → too_large t ≡ false → too_large (list_or d t) ≡ false
unfolding list_or
list-or-tiny d (base b) q p = q
list-or-tiny d (t_list t) q p = p
list-or-tiny d (t_map fs) q p = q
list-or-tiny d (t_node ls) q p = q
list-or-tiny d (t_relationship n) q p = q
list-or-tiny d (t_union ts) q p = q

pub numeric-tiny : (t : Ty) → too_large t ≡ false → too_large (numeric t) ≡ false
unfolding numeric
numeric-tiny t p = either Tiny (meets a_number t) p (base-small t_unknown)

pub unary-tiny : (k : ℕ) (t : Ty) → too_large t ≡ false → too_large (unary_type k t) ≡ false
unfolding unary_type
unary-tiny k t p = either Tiny (eqb k 0) (numeric-tiny t p) (base-small t_bool)

abbrev TinyReturn : ReturnShape → Type 0
TinyReturn (fixed t) = Tiny t
TinyReturn list_element = Unit {0}
TinyReturn list_self = Unit {0}

signature-tiny : (b : Builtin) → TinyReturn (signature b).ret
unfolding signature
signature-tiny builtin_id = base-small t_int
signature-tiny builtin_size = base-small t_int
signature-tiny builtin_head = tt
signature-tiny builtin_tail = tt
signature-tiny builtin_last = tt
signature-tiny builtin_keys = strings-tiny
signature-tiny builtin_values = list-tiny

return-none : (r : ReturnShape) → TinyReturn r → Tiny (resolve_return r [])
unfolding resolve_return
return-none (fixed t) q = q
return-none list_element q = base-small t_any
return-none list_self q = list-tiny

return-tiny : (r : ReturnShape) → TinyReturn r → (t : Ty) (ts : List Ty) → Tiny t → Tiny (resolve_return r (t ∷ ts))
unfolding resolve_return
return-tiny (fixed u) q t ts p = q
return-tiny list_element q t ts p = element-tiny t p
return-tiny list_self q t ts p = list-or-tiny (t_list (base t_any)) t list-tiny p

pub call_none : (o : Option Builtin) → too_large (call_type o []) ≡ false
unfolding call_type
call_none none = base-small t_any
call_none (some b) = return-none (signature b).ret (signature-tiny b)

pub call-tiny : (o : Option Builtin) (t : Ty) (ts : List Ty) → too_large t ≡ false → too_large (call_type o (t ∷ ts)) ≡ false
unfolding call_type
call-tiny none t ts p = base-small t_any
call-tiny (some b) t ts p = return-tiny (signature b).ret (signature-tiny b) t ts p

-- ## A call reads its first argument only

return-first : (r : ReturnShape) (t : Ty) (ts : List Ty) → resolve_return r (t ∷ ts) ≡ resolve_return r (t ∷ [])
unfolding resolve_return
return-first (fixed u) t ts = refl
return-first list_element t ts = refl
return-first list_self t ts = refl

pub call-first : (o : Option Builtin) (t : Ty) (ts : List Ty) → call_type o (t ∷ ts) ≡ call_type o (t ∷ [])
unfolding call_type
call-first none t ts = refl
call-first (some b) t ts = return-first (signature b).ret t ts

pub faults-first : (o : Option Builtin) (t : Ty) (ts : List Ty) → call_faults o (t ∷ ts) ≡ call_faults o (t ∷ [])
unfolding call_faults arg_faults signature
faults-first none t ts = refl
faults-first (some builtin_id) t ts = refl
faults-first (some builtin_size) t ts = refl
faults-first (some builtin_head) t ts = refl
faults-first (some builtin_tail) t ts = refl
faults-first (some builtin_last) t ts = refl
faults-first (some builtin_keys) t ts = refl
faults-first (some builtin_values) t ts = refl

-- ## The lines

module _ (env : Env) (n : ℕ) (h : Head) (ps : List Role) where
  -- a constant of the table is not too large
  pub constant-run : (t : Ty) → too_large t ≡ false → (rs : List Res) → length ps ≡ length rs → Said (constant t) env n h ps rs
  constant-run t p rs l =
      said-alike (constant t) env n h ps rs
      (unfold type_by last_by own_by end start in alike-idle n (constant t) (t ∷ []) t [] (λ k. told t []) (unfold child_by in λ j e. refl) empty (unfold child in λ q b u. refl) (ending-small n t [] p) no_part ps rs l)

  pub variable-run : (rs : List Res) → length ps ≡ length rs → Said var_type env n h ps rs
  variable-run rs l =
      let t = var_type_of h.var env in
      said-alike var_type env n h ps rs
      (unfold type_by last_by own_by end start in alike-idle n var_type (t ∷ []) t [] (λ k. told t []) (unfold child_by in λ j e. refl) empty (unfold child in λ q b u. refl) (ending-small n t [] (var-tiny h.var env)) no_part ps rs l)

  -- a line that keeps the type of its first child
  element-at : (rs : List Res) → All FineRes rs → let t = type_by element env h ps (named rs) in AtFirst n element (t ∷ []) t [] (end element env h) (unfold child_by in λ j e. refl) rs
  unfolding type_by end
  element-at [] a = ending-small n (element_of (base t_unknown)) [] (element-tiny (base t_unknown) (base-small t_unknown))
  element-at (r ∷ rs) (also f a) = λ s. ending-small n (element_of r.ty) [] (element-tiny r.ty (f.1 s))

  pub element-run : (rs : List Res) → All FineRes rs → length ps ≡ length rs → Said element env n h ps rs
  element-run rs a l =
      let t = type_by element env h ps (named rs) in
      said-alike element env n h ps rs
      (unfold last_by own_by start in alike-first n element (t ∷ []) t [] (end element env h) (unfold child_by in λ j e. refl) (unfold child keep_first in λ q b u. refl) (unfold child keep_first in λ v q b u. refl) ps rs l (element-at rs a))

  slice_at : (rs : List Res) → All FineRes rs → let t = type_by slice env h ps (named rs) in AtFirst n slice (t ∷ []) t [] (end slice env h) (unfold child_by in λ j e. refl) rs
  unfolding type_by end
  slice_at [] a = ending-small n (list_or (base t_any) (base t_unknown)) [] (list-or-tiny (base t_any) (base t_unknown) (base-small t_any) (base-small t_unknown))
  slice_at (r ∷ rs) (also f a) = λ s. ending-small n (list_or (base t_any) r.ty) [] (list-or-tiny (base t_any) r.ty (base-small t_any) (f.1 s))

  pub slice-run : (rs : List Res) → All FineRes rs → length ps ≡ length rs → Said slice env n h ps rs
  slice-run rs a l =
      let t = type_by slice env h ps (named rs) in
      said-alike slice env n h ps rs
      (unfold last_by own_by start in alike-first n slice (t ∷ []) t [] (end slice env h) (unfold child_by in λ j e. refl) (unfold child keep_first in λ q b u. refl) (unfold child keep_first in λ v q b u. refl) ps rs l (slice_at rs a))

  unary-at : (rs : List Res) → All FineRes rs
      → let t = type_by unary env h ps (named rs) in AtFirst n unary (t ∷ []) t (own_by unary h (named rs)) (end unary env h) (unfold child_by in λ j e. refl) rs
  unfolding type_by own_by end
  unary-at [] a = ending-small n (unary_type (num h 0) (base t_unknown)) (unary_faults (num h 0) (base t_unknown)) (unary-tiny (num h 0) (base t_unknown) (base-small t_unknown))
  unary-at (r ∷ rs) (also f a) = λ s. ending-small n (unary_type (num h 0) r.ty) (unary_faults (num h 0) r.ty) (unary-tiny (num h 0) r.ty (f.1 s))

  pub unary-run : (rs : List Res) → All FineRes rs → length ps ≡ length rs → Said unary env n h ps rs
  unary-run rs a l =
      let t = type_by unary env h ps (named rs) in
      said-alike unary env n h ps rs
      (unfold last_by start in alike-first n unary (t ∷ []) t (own_by unary h (named rs)) (end unary env h) (unfold child_by in λ j e. refl) (unfold child keep_first in λ q b u. refl) (unfold child keep_first in λ v q b u. refl) ps rs l (unary-at rs a))

  calling-at : (rs : List Res) → All FineRes rs
      → let t = type_by calling env h ps (named rs) in AtFirst n calling (t ∷ []) t (own_by calling h (named rs)) (end calling env h) (unfold child_by in λ j e. refl) rs
  unfolding type_by own_by end
  calling-at [] a = let b = lookup h.name in ending-small n (call_type b []) (call_faults b []) (call_none b)
  calling-at (r ∷ rs) (also f a) = λ s.
      let b = lookup h.name in
      let us = tys (named rs) in
      ending-small n (call_type b (r.ty ∷ us)) (call_faults b (r.ty ∷ us)) (call-tiny b r.ty us (f.1 s))
      ∙ ap₂ (λ t fs. concluded n (told t fs) []) (call-first b r.ty us) (faults-first b r.ty us)

  pub calling-run : (rs : List Res) → All FineRes rs → length ps ≡ length rs → Said calling env n h ps rs
  calling-run rs a l =
      let t = type_by calling env h ps (named rs) in
      said-alike calling env n h ps rs
      (unfold last_by start in alike-first n calling (t ∷ []) t (own_by calling h (named rs)) (end calling env h) (unfold child_by in λ j e. refl) (unfold child keep_first in λ q b u. refl) (unfold child keep_first in λ v q b u. refl) ps rs l (calling-at rs a))
