-- A union of unions is the union of all members. Assumes nothing.
use mathlib.Core.Path.{◌≡◌, refl, sym, ◌∙◌, ap}
use mathlib.Core.List.{List, [], ◌∷◌, ◌++◌, map}
use mathlib.Core.Bool.{false, false≢true}
use Prim.Native.Nat.{◌≤◌}
use native.Mathlib.Omega.{arith}
use lib.ListN.{length}
use Rattle.semantics.specs.Ty.{Ty, base, t_list, t_map, t_node, t_relationship, t_union, Tys, ∅, ◌⊕◌, members, pack, line, insert, inserts, opened, gather, joined, unite, is_union}
use Rattle.semantics.proofs.All.{All, empty, also}
use Rattle.semantics.proofs.Order.{TriTy, lt, eq, gt, tri_ty, insert-lt, insert-eq, insert-gt, insert-swap, insert-inserts, gather_append}
use Rattle.semantics.proofs.Regular.{Above, Ascends, Regular, Member, gather-sorted}
use Rattle.unify_run.proofs.Size.{Put, there, more, insert-put, members-pack}

-- ## A member that goes in twice

pub insert-twice : (x : Ty) (l : List Ty) → insert x (insert x l) ≡ insert x l
insert-twice x [] = unfold insert in insert-eq x []
insert-twice x (y ∷ l) = go (insert-twice x l) (tri_ty x y)
  where
    go : insert x (insert x l) ≡ insert x l → TriTy x y → insert x (insert x (y ∷ l)) ≡ insert x (y ∷ l)
    go ih (lt h) = rw (insert-lt x y l h) (insert-eq x (y ∷ l))
    go ih (eq h) = rw (h, insert-eq y l) (insert-eq y l)
    go ih (gt h) = rw (insert-gt x y l h, insert-gt x y (insert x l) h) (ap (λ r. y ∷ r) ih)

pub inserts-insert : (x : Ty) (l ms : List Ty) → inserts (insert x l) ms ≡ insert x (inserts l ms)
inserts-insert x [] ms = unfold insert inserts in refl
inserts-insert x (y ∷ l) ms = go (inserts-insert x l (insert y ms)) (tri_ty x y)
  where
    go : inserts (insert x l) (insert y ms) ≡ insert x (inserts l (insert y ms)) → TriTy x y → inserts (insert x (y ∷ l)) ms ≡ insert x (inserts (y ∷ l) ms)
    go ih (lt h) = rw (insert-lt x y l h) (unfold inserts in (ap (inserts l) (insert-swap y x ms) ∙ sym (insert-inserts x l (insert y ms))))
    go ih (eq h) = rw (h, insert-eq y l) (unfold inserts in (ap (inserts l) (sym (insert-twice y ms)) ∙ sym (insert-inserts y l (insert y ms))))
    go ih (gt h) = rw (insert-gt x y l h) (unfold inserts in ih)

pub inserts-inserts : (a l ms : List Ty) → inserts (inserts a l) ms ≡ inserts a (inserts l ms)
unfolding inserts
inserts-inserts [] l ms = refl
inserts-inserts (x ∷ a) l ms = inserts-inserts a (insert x l) ms ∙ ap (inserts a) (inserts-insert x l ms)

pub inserts-gathered : (ts l ms : List Ty) → inserts (gather ts l) ms ≡ gather ts (inserts l ms)
unfolding gather
inserts-gathered [] l ms = refl
inserts-gathered (t ∷ ts) l ms = inserts-gathered ts (inserts (opened t) l) ms ∙ ap (gather ts) (inserts-inserts (opened t) l ms)

-- ## What a type that is no union adds

pub opened-plain : (t : Ty) → is_union t ≡ false → opened t ≡ t ∷ []
unfolding opened is_union
opened-plain (base b) h = refl
opened-plain (t_list t) h = refl
opened-plain (t_map fs) h = refl
opened-plain (t_node ls) h = refl
opened-plain (t_relationship n) h = refl
opened-plain (t_union ts) h = absurd (false≢true (sym h))

pub gather-plain : {vs : List Ty} → All (λ t. is_union t ≡ false) vs → (ms : List Ty) → gather vs ms ≡ inserts vs ms
unfolding gather inserts
gather-plain empty ms = refl
gather-plain (also {x = v} {xs = vs} h a) ms = rw (opened-plain v h) (gather-plain a (insert v ms))

-- ## Something is in a union

put_some : {x : Ty} {ms r : List Ty} → 1 ≤ length ms → Put x ms r → 1 ≤ length r
put_some l there = l
put_some l (more p s d) = omega arith

insert-some : (x : Ty) (ms : List Ty) → 1 ≤ length (insert x ms)
insert-some x [] = unfold insert in omega arith
insert-some x (y ∷ ms) = put_some (omega arith) (insert-put x (y ∷ ms))

inserts-keep : (xs ms : List Ty) → 1 ≤ length ms → 1 ≤ length (inserts xs ms)
unfolding inserts
inserts-keep [] ms l = l
inserts-keep (x ∷ xs) ms l = inserts-keep xs (insert x ms) (insert-some x ms)

gather-keep : (ts ms : List Ty) → 1 ≤ length ms → 1 ≤ length (gather ts ms)
unfolding gather
gather-keep [] ms l = l
gather-keep (t ∷ ts) ms l = gather-keep ts (inserts (opened t) ms) (inserts-keep (opened t) ms l)

opened_some : (t : Ty) → Regular t → 1 ≤ length (opened t)
unfolding opened
opened_some (base b) h = omega arith
opened_some (t_list t) h = omega arith
opened_some (t_map fs) h = omega arith
opened_some (t_node ls) h = omega arith
opened_some (t_relationship n) h = omega arith
opened_some (t_union ts) h = omega arith

inserts-some : (xs ms : List Ty) → 1 ≤ length xs → 1 ≤ length (inserts xs ms)
unfolding inserts
inserts-some [] ms l = absurd (omega arith)
inserts-some (x ∷ xs) ms l = inserts-keep xs (insert x ms) (insert-some x ms)

pub gather-some : {ts : List Ty} → All Regular ts → 1 ≤ length ts → (ms : List Ty) → 1 ≤ length (gather ts ms)
unfolding gather
gather-some empty l ms = absurd (omega arith)
gather-some (also {x = t} {xs = ts} h a) l ms = gather-keep ts (inserts (opened t) ms) (inserts-some (opened t) ms (opened_some t h))

-- ## A union of unions

-- what a union adds are its members
pub opened-joined : (ms : List Ty) → 1 ≤ length ms → All Member ms → opened (joined ms) ≡ ms
unfolding joined
opened-joined [] l a = absurd (omega arith)
opened-joined (t ∷ []) l (also h a) = opened-plain t h.0
opened-joined (t ∷ u ∷ ms) l a = unfold opened in members-pack (t ∷ u ∷ ms)

-- the union of some types adds what those types add
pub opened-unite : {ts : List Ty} → All Regular ts → 1 ≤ length ts → (ms : List Ty) → inserts (opened (unite ts)) ms ≡ gather ts ms
unfolding unite inserts
opened-unite {ts} a l ms =
    let s = gather-sorted a [] (tt, empty) in
    ap (λ r. inserts r ms) (opened-joined (gather ts []) (gather-some a l []) s.1) ∙ inserts-gathered ts [] ms

pub flat-unite : {ts : List Ty} → All Regular ts → 1 ≤ length ts → (r ms : List Ty) → gather (unite ts ∷ r) ms ≡ gather (ts ++ r) ms
unfolding gather
flat-unite {ts} a l r ms = ap (gather r) (opened-unite a l ms) ∙ sym (gather_append ts r ms)

-- ## The members of a union unite to it

pub inserts-ascending : (ms : List Ty) → Ascends (map line ms) → inserts ms [] ≡ ms
unfolding inserts
inserts-ascending [] h = refl
inserts-ascending (x ∷ ms) h = sym (insert-inserts x ms []) ∙ ap (insert x) (inserts-ascending ms h.1) ∙ front ms h.0
  where
    front : (l : List Ty) → Above (line x) (map line l) → insert x l ≡ x ∷ l
    front [] p = unfold insert in refl
    front (y ∷ l) p = insert-lt x y l p

pub pack-members : (ts : Tys) → pack (members ts) ≡ ts
unfolding members pack
pack-members ∅ = refl
pack-members (t ⊕ ts) = ap (◌⊕◌ t) (pack-members ts)

pub joined-members : (ts : Tys) → 2 ≤ length (members ts) → joined (members ts) ≡ t_union ts
joined-members ts l = go (members ts) l ∙ ap t_union (pack-members ts)
  where
    go : (ms : List Ty) → 2 ≤ length ms → joined ms ≡ t_union (pack ms)
    go [] p = absurd (omega arith)
    go (t ∷ []) p = absurd (omega arith)
    go (t ∷ u ∷ ms) p = unfold joined in refl
