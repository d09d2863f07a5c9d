-- Unification, with the types whose size it tests, in order (unify.rs; RULES 5 and 4.7).
use Rattle.std.specs.Prelude.{List, [], ◌∷◌, ◌++◌, true, false, ◌&&◌, ◌||◌, ℕ, suc, zero, ◌+◌}
use Rattle.std.proofs.Math.Option.{Option, none, some}
use Rattle.semantics.specs.Bytes.{Bytes, same}
use Rattle.semantics.specs.Ty.{Base, t_any, t_null, t_int, t_float, t_num, t_unknown, Ty, base, t_list, t_map, t_node, t_relationship, t_union, Tys, Fields, ∅ᶠ, field, members, among, matches, equal, nesting, unite, firsts, set_field, get_field, insert_names}

-- `Result<Type, TypeMismatch>`: the unified type, or the two types that do not unify, expected then actual
pub data Answer : Type 0 where
  agreed : Ty → Answer
  mismatch : Ty → Ty → Answer

-- an answer, and the types tested on the way to it
pub record Unified : Type 0 where
  pub answer : Answer
  pub tests : List Ty

abbrev pub gives : List Ty → Ty → Unified
gives ts t = record { answer = agreed t; tests = ts }

abbrev pub differs : Ty → Ty → Unified
differs a b = record { answer = mismatch a b; tests = [] }

-- `Type::union` after these tests: the union of each first part is tested, the whole among them
abbrev pub unites : List Ty → List Ty → Unified
unites ts us = gives (ts ++ firsts [] us) (unite us)

-- after an answer: what is made of it, with its tests before
abbrev pub before : List Ty → Unified → Unified
before ts u = record { answer = u.answer; tests = ts ++ u.tests }

unfoldable pub on_agreed : Unified → (Ty → Unified) → Unified
on_agreed u f = go u.answer
  where
    go : Answer → Unified
    go (agreed t) = before u.tests (f t)
    go (mismatch a b) = u

-- each answer of `unify` is tested; a mismatch is no answer
unfoldable pub tested : Unified → Unified
tested u = go u.answer
  where
    go : Answer → Unified
    go (agreed t) = gives (u.tests ++ (t ∷ [])) t
    go (mismatch a b) = u

-- `unify_maps`: the fields of both unified in the order of the first, the fields of one kept
abbrev pub on_field : (Ty → Ty → Unified) → Ty → Option Ty → (Ty → Unified) → Unified
on_field rec t none go = go t
on_field rec t (some u) go = on_agreed (rec t u) go

unfoldable pub extras : Fields → Fields → Fields → Fields
extras fs ∅ᶠ done = done
extras fs (field n u gs) done = extras fs gs (put (get_field n fs))
  where
    put : Option Ty → Fields
    put none = set_field n u done
    put (some t) = done

unfoldable pub unify_maps : (Ty → Ty → Unified) → Fields → Fields → Fields → Fields → Unified
unify_maps rec all ∅ᶠ gs done = gives [] (t_map (extras all gs done))
unify_maps rec all (field n t fs) gs done = on_field rec t (get_field n gs) (λ u. unify_maps rec all fs gs (set_field n u done))

-- `unify_label_sets`
unfoldable pub unify_label_sets : Option (List Bytes) → Option (List Bytes) → Option (List Bytes)
unify_label_sets none b = none
unify_label_sets (some a) none = none
unify_label_sets (some a) (some b) = some (insert_names b (insert_names a []))

-- the names of two relationships: kept if equal
unfoldable pub unify_names : Option Bytes → Option Bytes → Option Bytes
unify_names none b = none
unify_names (some a) none = none
unify_names (some a) (some b) = elim (same a b) [ true ↦ some a | false ↦ none ]

-- `unify_union_with`: each variant with the other type; the answers united, or, if there are none, the variants and the other
pub record Variants : Type 0 where
  pub answers : List Ty
  pub tests : List Ty

unfoldable pub variants_with : (Ty → Unified) → List Ty → Variants
variants_with f [] = record { answers = []; tests = [] }
variants_with f (v ∷ vs) = let u = f v in let r = variants_with f vs in record { answers = keep u.answer r.answers; tests = u.tests ++ r.tests }
  where
    keep : Answer → List Ty → List Ty
    keep (agreed t) ts = t ∷ ts
    keep (mismatch a b) ts = ts

unfoldable pub widened : List Ty → Ty → Variants → Unified
widened vs other r = go r.answers
  where
    go : List Ty → Unified
    go [] = unites r.tests (vs ++ (other ∷ []))
    go (t ∷ ts) = unites r.tests (t ∷ ts)

abbrev pub unify_union_with : (Ty → Ty → Unified) → List Ty → Ty → Unified
unify_union_with rec vs other = widened vs other (variants_with (λ v. rec v other) vs)

-- two different types of these unify to Num
abbrev pub numbers : List Base
numbers = t_int ∷ t_float ∷ t_num ∷ []

-- how two types meet that differ, neither Any, Unknown nor Null: two numbers, two of one form, one union or two, or no rule
pub data Meeting : Type 0 where
  widening : Meeting
  lists : Ty → Ty → Meeting
  maps : Fields → Fields → Meeting
  nodes : Option (List Bytes) → Option (List Bytes) → Meeting
  relationships : Option Bytes → Option Bytes → Meeting
  unions : Tys → Tys → Meeting
  left_union : Tys → Ty → Meeting
  right_union : Ty → Tys → Meeting
  apart : Ty → Ty → Meeting

-- the pairs of forms, written out here and nowhere else
unfoldable pub meeting : Ty → Ty → Meeting
meeting (base b) (base c) = elim (among b numbers && among c numbers) [ true ↦ widening | false ↦ apart (base b) (base c) ]
meeting (base b) (t_list u) = apart (base b) (t_list u)
meeting (base b) (t_map gs) = apart (base b) (t_map gs)
meeting (base b) (t_node ks) = apart (base b) (t_node ks)
meeting (base b) (t_relationship n) = apart (base b) (t_relationship n)
meeting (base b) (t_union us) = right_union (base b) us
meeting (t_list t) (base c) = apart (t_list t) (base c)
meeting (t_list t) (t_list u) = lists t u
meeting (t_list t) (t_map gs) = apart (t_list t) (t_map gs)
meeting (t_list t) (t_node ks) = apart (t_list t) (t_node ks)
meeting (t_list t) (t_relationship n) = apart (t_list t) (t_relationship n)
meeting (t_list t) (t_union us) = right_union (t_list t) us
meeting (t_map fs) (base c) = apart (t_map fs) (base c)
meeting (t_map fs) (t_list u) = apart (t_map fs) (t_list u)
meeting (t_map fs) (t_map gs) = maps fs gs
meeting (t_map fs) (t_node ks) = apart (t_map fs) (t_node ks)
meeting (t_map fs) (t_relationship n) = apart (t_map fs) (t_relationship n)
meeting (t_map fs) (t_union us) = right_union (t_map fs) us
meeting (t_node ls) (base c) = apart (t_node ls) (base c)
meeting (t_node ls) (t_list u) = apart (t_node ls) (t_list u)
meeting (t_node ls) (t_map gs) = apart (t_node ls) (t_map gs)
meeting (t_node ls) (t_node ks) = nodes ls ks
meeting (t_node ls) (t_relationship n) = apart (t_node ls) (t_relationship n)
meeting (t_node ls) (t_union us) = right_union (t_node ls) us
meeting (t_relationship m) (base c) = apart (t_relationship m) (base c)
meeting (t_relationship m) (t_list u) = apart (t_relationship m) (t_list u)
meeting (t_relationship m) (t_map gs) = apart (t_relationship m) (t_map gs)
meeting (t_relationship m) (t_node ks) = apart (t_relationship m) (t_node ks)
meeting (t_relationship m) (t_relationship n) = relationships m n
meeting (t_relationship m) (t_union us) = right_union (t_relationship m) us
meeting (t_union ts) (base c) = left_union ts (base c)
meeting (t_union ts) (t_list u) = left_union ts (t_list u)
meeting (t_union ts) (t_map gs) = left_union ts (t_map gs)
meeting (t_union ts) (t_node ks) = left_union ts (t_node ks)
meeting (t_union ts) (t_relationship n) = left_union ts (t_relationship n)
meeting (t_union ts) (t_union us) = unions ts us

-- the arms of `unify` from numeric widening on
unfoldable pub pair : (Ty → Ty → Unified) → Meeting → Unified
pair rec widening = gives [] (base t_num)
pair rec (lists t u) = on_agreed (rec t u) (λ v. gives [] (t_list v))
pair rec (maps fs gs) = unify_maps rec fs fs gs ∅ᶠ
pair rec (nodes ls ks) = gives [] (t_node (unify_label_sets ls ks))
pair rec (relationships m n) = gives [] (t_relationship (unify_names m n))
pair rec (unions ts us) = unify_union_with rec (members ts) (t_union us)
pair rec (left_union ts other) = unify_union_with rec (members ts) other
pair rec (right_union other us) = unify_union_with rec (members us) other
pair rec (apart expected actual) = differs expected actual

-- the arms of `unify` in order: Any, Unknown, equal types, Null, the rest
unfoldable pub arms : (Ty → Ty → Unified) → Ty → Ty → Unified
arms rec a b =
    elim (matches a (t_any ∷ [])) [
      | true ↦ gives [] b
      | false ↦ elim (matches b (t_any ∷ [])) [
        | true ↦ gives [] a
        | false ↦
            elim (matches a (t_unknown ∷ []) || matches b (t_unknown ∷ [])) [
              | true ↦ gives [] (base t_unknown)
              | false ↦ elim (equal a b) [
                | true ↦ gives [] a
                | false ↦ elim (matches a (t_null ∷ [])) [
                  | true ↦ unites [] (base t_null ∷ b ∷ [])
                  | false ↦ elim (matches b (t_null ∷ [])) [ true ↦ unites [] (base t_null ∷ a ∷ []) | false ↦ pair rec (meeting a b) ]
                ]
              ]
            ]
      ]
    ]

-- `unify`: the number bounds how deep the calls go, and each inner call has the nesting of one type less
unfoldable pub unify_in : ℕ → Ty → Ty → Unified
unify_in zero a b = differs a b
unify_in (suc k) a b = tested (arms (unify_in k) a b)

unfoldable pub unify : Ty → Ty → Unified
unify a b = unify_in (nesting a + nesting b) a b
