-- `unify` as the code runs it: one running union, one partial map, and a stop at the first thing that is too large.
use Rattle.std.specs.Prelude.{List, [], ◌∷◌, ◌++◌, Bool, true, false, ◌||◌, ℕ, suc, zero, ◌+◌, length, ltb}
use Rattle.std.proofs.Math.Option.{Option, none, some}
use Prim.Native.Nat.{Ordering}
use Rattle.semantics.specs.Limits.{type_limit}
use Rattle.semantics.specs.Bytes.{Bytes, lex}
use Rattle.semantics.specs.Ty.{t_any, t_null, t_num, t_unknown, Ty, base, t_list, t_map, t_node, t_relationship, Fields, ∅ᶠ, field, members, matches, line, equal, nesting, too_large, inserts, opened, joined}
use Rattle.semantics.specs.Unify.{Answer, Unified, Meeting, widening, lists, maps, nodes, relationships, unions, left_union, right_union, apart, meeting}
use Rattle.semantics.specs.Calls.{any_large}

-- the code's `Unified`
pub data Run : Type 0 where
  done : Ty → Run
  mismatch : Ty → Ty → Run
  large : Run

abbrev pub answered : Answer → Run
answered (Answer.agreed t) = done t
answered (Answer.mismatch a b) = mismatch a b

-- too large, or this
abbrev pub unless : Bool → Run → Run
unless true r = large
unless false r = r

-- what the definition's answer and tests come to
unfoldable pub verdict : Unified → Run
verdict u = unless (any_large u.tests) (answered u.answer)

-- an answer that is made now
unfoldable pub checked : Ty → Run
checked t = unless (too_large t) (done t)

abbrev pub on_done : Run → (Ty → Run) → Run
on_done (done t) f = f t
on_done (mismatch a b) f = mismatch a b
on_done large f = large

-- what is made of something that is there, and what stands in for it
abbrev pub given : {A B : Type 0} → Option A → B → (A → B) → B
given none d f = d
given (some a) d f = f a

-- ## Maps: the entries of both in the order of their names

-- the bytes alone
unfoldable pub long : Ty → Bool
long t = ltb type_limit (length (line t))

-- dropped, or this
abbrev pub drops : {A : Type 0} → Bool → A → Option A
drops true a = none
drops false a = some a

-- an entry behind the others
unfoldable pub attach : Bytes → Ty → Fields → Fields
attach n t ∅ᶠ = field n t ∅ᶠ
attach n t (field m u fs) = field m u (attach n t fs)

-- a partial map is kept while its line is not too long; none: over
unfoldable pub kept : Fields → Option Fields
kept fs = drops (long (t_map fs)) fs

unfoldable pub keep : Bytes → Ty → Option Fields → Option Fields
keep n t k = given k none (λ fs. kept (attach n t fs))

unfoldable pub close_map : Option Fields → Run
close_map k = given k large (λ fs. checked (t_map fs))

-- the entries that are left of the second map
unfoldable pub run_rest : Fields → Option Fields → Run
run_rest ∅ᶠ k = close_map k
run_rest (field m u gs) k = run_rest gs (keep m u k)

-- the first map's next entry among those of the second; `after` goes on with the first map's others
unfoldable pub run_entry : (Ty → Ty → Run) → Bytes → Ty → (Fields → Option Fields → Run) → Fields → Option Fields → Run
run_entry rec n t after ∅ᶠ k = after ∅ᶠ (keep n t k)
run_entry rec n t after (field m u gs) k =
    elim (lex n m) [
      | Ordering.lt ↦ after (field m u gs) (keep n t k)
      | Ordering.eq ↦ on_done (rec t u) (λ v. after gs (keep n v k))
      | Ordering.gt ↦ run_entry rec n t after gs (keep m u k)
    ]

unfoldable pub run_maps : (Ty → Ty → Run) → Fields → Fields → Option Fields → Run
run_maps rec ∅ᶠ gs k = run_rest gs k
run_maps rec (field n t fs) gs k = run_entry rec n t (λ hs j. run_maps rec fs hs j) gs k

-- ## Labels: those of both in order

unfoldable pub kept_labels : List Bytes → Option (List Bytes)
kept_labels ls = drops (long (t_node (some ls))) ls

unfoldable pub keep_label : Bytes → Option (List Bytes) → Option (List Bytes)
keep_label n k = given k none (λ ls. kept_labels (ls ++ (n ∷ [])))

unfoldable pub close_labels : Option (List Bytes) → Run
close_labels k = given k large (λ ls. done (t_node (some ls)))

-- the labels that are left of the second node
unfoldable pub rest_labels : List Bytes → Option (List Bytes) → Run
rest_labels [] k = close_labels k
rest_labels (m ∷ ms) k = rest_labels ms (keep_label m k)

-- the first node's next label among those of the second; `after` goes on with the first node's others
unfoldable pub next_label : Bytes → (List Bytes → Option (List Bytes) → Run) → List Bytes → Option (List Bytes) → Run
next_label n after [] k = after [] (keep_label n k)
next_label n after (m ∷ ms) k =
    elim (lex n m) [
      | Ordering.lt ↦ after (m ∷ ms) (keep_label n k)
      | Ordering.eq ↦ after ms (keep_label n k)
      | Ordering.gt ↦ next_label n after ms (keep_label m k)
    ]

unfoldable pub run_labels : List Bytes → List Bytes → Option (List Bytes) → Run
run_labels [] ms k = rest_labels ms k
run_labels (n ∷ ns) ms k = next_label n (λ hs j. run_labels ns hs j) ms k

unfoldable pub run_nodes : Option (List Bytes) → Option (List Bytes) → Run
run_nodes none ks = done (t_node none)
run_nodes (some ls) none = done (t_node none)
run_nodes (some ls) (some ks) = run_labels ls ks (kept_labels [])

-- ## Unions: the running union is the list of its members

-- none: too long
unfoldable pub fitting : List Ty → Option (List Ty)
fitting ms = drops (long (joined ms)) ms

-- these members join it
unfoldable pub add : List Ty → List Ty → Option (List Ty)
add xs ms = fitting (inserts xs ms)

-- no variant met the type: the variants and the type itself
unfoldable pub widen : List Ty → Ty → List Ty → Option (List Ty)
widen vs o ms = given (add vs ms) none (add (o ∷ []))

-- a variant's answer joins, is no answer, or stops all
unfoldable pub join : Run → List Ty → (List Ty → Option (List Ty)) → Option (List Ty) → Option (List Ty)
join (done r) ms next skip = given (add (opened r) ms) none next
join (mismatch a b) ms next skip = skip
join large ms next skip = none

-- the type o meets these variants, of which are all; has it met one before?
unfoldable pub run_variants : (Ty → Ty → Run) → List Ty → Ty → List Ty → Bool → List Ty → Option (List Ty)
run_variants rec all o [] true ms = some ms
run_variants rec all o [] false ms = widen all o ms
run_variants rec all o (v ∷ vs) met ms = join (rec v o) ms (λ l. run_variants rec all o vs true l) (run_variants rec all o vs met ms)

-- Null meets no variant: it only joins
unfoldable pub met_by : Ty → List Ty → List Ty
met_by o vs = elim (matches o (t_null ∷ [])) [ true ↦ [] | false ↦ vs ]

abbrev pub run_union_with : (Ty → Ty → Run) → List Ty → Ty → List Ty → Option (List Ty)
run_union_with rec vs o ms = run_variants rec vs o (met_by o vs) false ms

-- each outer type meets the variants: one running union for all
unfoldable pub run_members : (Ty → Ty → Run) → List Ty → List Ty → List Ty → Run
run_members rec vs [] ms = checked (joined ms)
run_members rec vs (o ∷ os) ms = given (run_union_with rec vs o ms) large (λ l. run_members rec vs os l)

-- Null and a type, tested before it is written
unfoldable pub sizes : List Ty → ℕ
sizes [] = 0
sizes (t ∷ ts) = length (line t) + sizes ts

unfoldable pub nullable : Ty → Run
nullable t = unless (ltb type_limit (sizes (opened t) + 2)) (given (add (base t_null ∷ []) (opened t)) large (λ ms. checked (joined ms)))

-- ## The arms

-- the arms from numeric widening on
unfoldable pub run_pair : (Ty → Ty → Run) → Meeting → Run
run_pair rec widening = done (base t_num)
run_pair rec (lists t u) = on_done (rec t u) (λ v. checked (t_list v))
run_pair rec (maps fs gs) = run_maps rec fs gs (kept ∅ᶠ)
run_pair rec (nodes ls ks) = run_nodes ls ks
run_pair rec (relationships m n) = done (t_relationship none)
run_pair rec (unions ts us) = run_members rec (members us) (members ts) []
run_pair rec (left_union ts other) = run_members rec (members ts) (other ∷ []) []
run_pair rec (right_union other us) = run_members rec (members us) (other ∷ []) []
run_pair rec (apart expected actual) = mismatch expected actual

unfoldable pub run_arms : (Ty → Ty → Run) → Ty → Ty → Run
run_arms rec a b =
    elim (matches a (t_any ∷ [])) [
      | true ↦ done b
      | false ↦ elim (matches b (t_any ∷ [])) [
        | true ↦ done a
        | false ↦
            elim (matches a (t_unknown ∷ []) || matches b (t_unknown ∷ [])) [
              | true ↦ done (base t_unknown)
              | false ↦ elim (equal a b) [
                | true ↦ done a
                | false ↦ elim (matches a (t_null ∷ [])) [
                  | true ↦ nullable b
                  | false ↦ elim (matches b (t_null ∷ [])) [ true ↦ nullable a | false ↦ run_pair rec (meeting a b) ]
                ]
              ]
            ]
      ]
    ]

-- the number bounds how deep the calls go, as in `unify_in`
unfoldable pub run_unify : ℕ → Ty → Ty → Run
run_unify zero a b = mismatch a b
run_unify (suc k) a b = run_arms (run_unify k) a b

-- the bound that is enough
unfoldable pub run : Ty → Ty → Run
run a b = run_unify (nesting a + nesting b) a b
