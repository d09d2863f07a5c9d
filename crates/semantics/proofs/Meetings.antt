-- Two types and how they meet: which forms they have, and how they meet from the other side. Assumes nothing.
use mathlib.Core.Path.{◌≡◌, refl, sym}
use mathlib.Core.List.{List}
use mathlib.Core.Option.{Option}
use mathlib.Core.Bool.{Bool, true, false, ◌&&◌, false≢true}
use Rattle.semantics.specs.Bytes.{Bytes}
use Rattle.semantics.specs.Ty.{Base, Ty, base, t_list, t_map, t_node, t_relationship, t_union, Tys, Fields, among, is_union}
use Rattle.semantics.specs.Unify.{numbers, Meeting, widening, lists, maps, nodes, relationships, unions, left_union, right_union, apart, meeting}

-- the forms behind each meeting; of two types with no rule: they have none from the other side either
pub data Met : Ty → Ty → Meeting → Type 0 where
  two_numbers : (b c : Base) → among b numbers ≡ true → among c numbers ≡ true → Met (base b) (base c) widening
  two_lists : (t u : Ty) → Met (t_list t) (t_list u) (lists t u)
  two_maps : (fs gs : Fields) → Met (t_map fs) (t_map gs) (maps fs gs)
  two_nodes : (ls ks : Option (List Bytes)) → Met (t_node ls) (t_node ks) (nodes ls ks)
  two_relationships : (m n : Option Bytes) → Met (t_relationship m) (t_relationship n) (relationships m n)
  two_unions : (ts us : Tys) → Met (t_union ts) (t_union us) (unions ts us)
  union_left : (ts : Tys) (u : Ty) → is_union u ≡ false → Met (t_union ts) u (left_union ts u)
  union_right : (t : Ty) (us : Tys) → is_union t ≡ false → Met t (t_union us) (right_union t us)
  no_rule : (a b : Ty) → meeting b a ≡ apart b a → Met a b (apart a b)

met-bases : (b c : Base) → Met (base b) (base c) (meeting (base b) (base c))
unfolding meeting
met-bases b c = go (among b numbers) (among c numbers) refl refl
  where
    go : (x y : Bool) → among b numbers ≡ x → among c numbers ≡ y → Met (base b) (base c) (elim (x && y) [ true ↦ widening | false ↦ apart (base b) (base c) ])
    go true true p q = two_numbers b c p q
    go true false p q = no_rule (base b) (base c) (rw (q, meeting))
    go false true p q = no_rule (base b) (base c) (rw (q, p, meeting))
    go false false p q = no_rule (base b) (base c) (rw (q, meeting))

pub met : (a b : Ty) → Met a b (meeting a b)
unfolding meeting is_union
met (base b) (base c) = met-bases b c
met (base b) (t_list u) = no_rule (base b) (t_list u) refl
met (base b) (t_map gs) = no_rule (base b) (t_map gs) refl
met (base b) (t_node ks) = no_rule (base b) (t_node ks) refl
met (base b) (t_relationship n) = no_rule (base b) (t_relationship n) refl
met (base b) (t_union us) = union_right (base b) us refl
met (t_list t) (base c) = no_rule (t_list t) (base c) refl
met (t_list t) (t_list u) = two_lists t u
met (t_list t) (t_map gs) = no_rule (t_list t) (t_map gs) refl
met (t_list t) (t_node ks) = no_rule (t_list t) (t_node ks) refl
met (t_list t) (t_relationship n) = no_rule (t_list t) (t_relationship n) refl
met (t_list t) (t_union us) = union_right (t_list t) us refl
met (t_map fs) (base c) = no_rule (t_map fs) (base c) refl
met (t_map fs) (t_list u) = no_rule (t_map fs) (t_list u) refl
met (t_map fs) (t_map gs) = two_maps fs gs
met (t_map fs) (t_node ks) = no_rule (t_map fs) (t_node ks) refl
met (t_map fs) (t_relationship n) = no_rule (t_map fs) (t_relationship n) refl
met (t_map fs) (t_union us) = union_right (t_map fs) us refl
met (t_node ls) (base c) = no_rule (t_node ls) (base c) refl
met (t_node ls) (t_list u) = no_rule (t_node ls) (t_list u) refl
met (t_node ls) (t_map gs) = no_rule (t_node ls) (t_map gs) refl
met (t_node ls) (t_node ks) = two_nodes ls ks
met (t_node ls) (t_relationship n) = no_rule (t_node ls) (t_relationship n) refl
met (t_node ls) (t_union us) = union_right (t_node ls) us refl
met (t_relationship m) (base c) = no_rule (t_relationship m) (base c) refl
met (t_relationship m) (t_list u) = no_rule (t_relationship m) (t_list u) refl
met (t_relationship m) (t_map gs) = no_rule (t_relationship m) (t_map gs) refl
met (t_relationship m) (t_node ks) = no_rule (t_relationship m) (t_node ks) refl
met (t_relationship m) (t_relationship n) = two_relationships m n
met (t_relationship m) (t_union us) = union_right (t_relationship m) us refl
met (t_union ts) (base c) = union_left ts (base c) refl
met (t_union ts) (t_list u) = union_left ts (t_list u) refl
met (t_union ts) (t_map gs) = union_left ts (t_map gs) refl
met (t_union ts) (t_node ks) = union_left ts (t_node ks) refl
met (t_union ts) (t_relationship n) = union_left ts (t_relationship n) refl
met (t_union ts) (t_union us) = two_unions ts us

-- ## A union

pub meets-union : (o : Ty) (us : Tys) → is_union o ≡ false → meeting o (t_union us) ≡ right_union o us
unfolding meeting is_union
meets-union (base b) us p = refl
meets-union (t_list t) us p = refl
meets-union (t_map fs) us p = refl
meets-union (t_node ls) us p = refl
meets-union (t_relationship n) us p = refl
meets-union (t_union ts) us p = absurd (false≢true (sym p))

union-meets : (ts : Tys) (o : Ty) → is_union o ≡ false → meeting (t_union ts) o ≡ left_union ts o
unfolding meeting is_union
union-meets ts (base b) p = refl
union-meets ts (t_list t) p = refl
union-meets ts (t_map fs) p = refl
union-meets ts (t_node ls) p = refl
union-meets ts (t_relationship n) p = refl
union-meets ts (t_union us) p = absurd (false≢true (sym p))

-- ## From the other side

unfoldable pub turn : Meeting → Meeting
turn widening = widening
turn (lists t u) = lists u t
turn (maps fs gs) = maps gs fs
turn (nodes ls ks) = nodes ks ls
turn (relationships m n) = relationships n m
turn (unions ts us) = unions us ts
turn (left_union ts u) = right_union u ts
turn (right_union t us) = left_union us t
turn (apart a b) = apart b a

pub turned : {a b : Ty} {m : Meeting} → Met a b m → meeting b a ≡ turn m
unfolding turn meeting
turned (two_numbers b c p q) = rw (q, p, meeting)
turned (two_lists t u) = refl
turned (two_maps fs gs) = refl
turned (two_nodes ls ks) = refl
turned (two_relationships m n) = refl
turned (two_unions ts us) = refl
turned (union_left ts u p) = meets-union u ts p
turned (union_right t us p) = union-meets us t p
turned (no_rule a b e) = e
