-- The running union at the level of types: its members stay plain and in order, it fits, and there is room for its pairs. Assumes nothing.
use Rattle.std.specs.Prelude.{Option as StdOption}
use mathlib.Core.Path.{◌≡◌, refl, sym, ◌∙◌, subst}
use mathlib.Core.List.{List, [], ◌∷◌, map, Memᴰ}
use mathlib.Core.Option.{Option, none, some}
use mathlib.Core.Bool.{Bool, true, false, false≢true}
use Prim.Native.Nat.{ℕ, ◌+◌, ◌-◌, ◌*◌, ◌/◌, ◌≤◌, ◌<◌}
use native.Mathlib.Omega.{arith}
use lib.Dec.{ltb}
use borrow.Author.Tests.{eq-eqb, ne_eqb, ltb-true, ltb-false}
use Rattle.semantics.specs.Bytes.{Bytes}
use Rattle.semantics.specs.Ty.{t_null, Ty, base, t_list, t_map, t_node, t_relationship, t_union, Tys, members, letter, among, matches, line, nesting, insert, inserts, opened, joined, ascending, is_union}
use Rattle.semantics.proofs.All.{All, empty, also, all-weaken}
use Rattle.semantics.proofs.Order.{TriTy, lt, eq, gt, tri_ty, insert-lt, insert-eq, insert-gt}
use Rattle.semantics.proofs.Regular.{Member, ascends-true, ascends-sound, regular-true, regular-sound, inserts-sorted}
use Rattle.ty.specs.Read.{kind_of}
use Rattle.ty.specs.Made.{made}
use Rattle.ty.specs.Union.{TypesAt, overlong}
use Rattle.ty.proofs.UnionLaws.{size-long}
use Rattle.unify_run.specs.Run.{drops, given, long, fitting, add, widen}
use Rattle.unify_run.proofs.Size.{small-sound, small-true, members-inside, nests}
use Rattle.unify_run.proofs.UnionsMeet.{union-members}
use Rattle.unify_run.proofs.Theorem.{Part, part-members}
use Rattle.unify_run.proofs.Answers.{Fine}
use Rattle.unify.specs.Work.{slots}
use Rattle.unify.specs.Variants.{Plain, Members, Grows}

-- ## Members

all_insert : {P : Ty → Type 0} (x : Ty) → P x → {ms : List Ty} → All P ms → All P (insert x ms)
all_insert x p empty = unfold insert in also p empty
all_insert {P} x p (also {x = y} {xs = ms} q qs) = go (all_insert x p qs) (tri_ty x y)
  where
    go : All P (insert x ms) → TriTy x y → All P (insert x (y ∷ ms))
    go ih (lt h) = rw (insert-lt x y ms h) (also p (also q qs))
    go ih (eq h) = rw (h, insert-eq y ms) (also q qs)
    go ih (gt h) = rw (insert-gt x y ms h) (also q ih)

all-inserts : {P : Ty → Type 0} {xs : List Ty} → All P xs → {ms : List Ty} → All P ms → All P (inserts xs ms)
unfolding inserts
all-inserts empty b = b
all-inserts (also {x} p a) b = all-inserts a (all_insert x p b)

pub no-members : Members []
unfolding ascending
no-members = record { plain = empty; ascend = refl }

plain-member : (t : Ty) → Plain t → Member t
plain-member t p = (p.single, regular-sound t p.regular)

inserts-members : {xs ms : List Ty} → All Plain xs → Members ms → Members (inserts xs ms)
inserts-members {xs} {ms} a m =
    record {
      plain = all-inserts a m.plain;
      ascend = ascends-true (map line (inserts xs ms)) (inserts-sorted (all-weaken plain-member a) ms (ascends-sound (map line ms) m.ascend, all-weaken plain-member m.plain)).0;
    }

abbrev pub MembersIf : Option (List Ty) → Type 0
MembersIf none = Unit {0}
MembersIf (some ms) = Members ms

pub add-members : {xs ms : List Ty} → All Plain xs → Members ms → MembersIf (add xs ms)
unfolding add fitting
add-members {xs} {ms} a m = go (long (joined (inserts xs ms)))
  where
    go : (c : Bool) → MembersIf (drops c (inserts xs ms))
    go true = tt
    go false = inserts-members a m

pub widen-members : {all ms : List Ty} (o : Ty) → All Plain all → Plain o → Members ms → MembersIf (widen all o ms)
unfolding widen
widen-members {all} {ms} o a p m = go (add all ms) (add-members a m)
  where
    go : (k : Option (List Ty)) → MembersIf k → MembersIf (given k none (add (o ∷ [])))
    go none h = tt
    go (some l) h = add-members (also p empty) h

-- the members of a union
both-plain : {k : ℕ} {ms : List Ty} → All Member ms → All (Part k) ms → All Plain ms
both-plain empty empty = empty
both-plain (also {x} m a) (also p b) = also (record { regular = regular-true x m.1; small = small-true x p.1; single = m.0 }) (both-plain a b)

pub union-plain : (ts : Tys) → Fine (t_union ts) → All Plain (members ts)
union-plain ts f = both-plain (union-members ts f.0) (part-members ts f.0 (small-sound (t_union ts) f.1))

fine_plain : (t : Ty) → Fine t → is_union t ≡ false → Plain t
fine_plain t f u = record { regular = regular-true t f.0; small = f.1; single = u }

-- what a type adds to a union
pub opened-plain : (t : Ty) → Fine t → All Plain (opened t)
unfolding opened is_union
opened-plain (base b) f = also (fine_plain (base b) f refl) empty
opened-plain (t_list t) f = also (fine_plain (t_list t) f refl) empty
opened-plain (t_map fs) f = also (fine_plain (t_map fs) f refl) empty
opened-plain (t_node ls) f = also (fine_plain (t_node ls) f refl) empty
opened-plain (t_relationship n) f = also (fine_plain (t_relationship n) f refl) empty
opened-plain (t_union ts) f = union-plain ts f

pub all_of : {P : Ty → Type 0} {xs : List Ty} {x : Ty} → All P xs → Memᴰ x xs → P x
all_of {P} empty m = elim m [ ]
all_of {P} (also p a) (Memᴰ.head e) = subst P (sym e) p
all_of (also p a) (Memᴰ.tail m) = all_of a m

-- ## The bytes of the running union

pub grows : {s front : Bytes} {mark n : ℕ} {r : StdOption ℕ} (xs ms : List Ty) → TypesAt front 0 n (inserts xs ms) → TypesAt s mark (mark + n) (inserts xs ms) → r ≡ made (overlong (inserts xs ms)) n → Grows s mark (add xs ms) r
unfolding add fitting long overlong
grows {s} {front} {mark} {n} {r} xs ms f t e = subst (Grows s mark (add xs ms)) (sym e) (go (overlong (inserts xs ms)) refl)
  where
    go : (c : Bool) → overlong (inserts xs ms) ≡ c → Grows s mark (drops c (inserts xs ms)) (made c n)
    go true p = tt
    go false p = record { at = t; fit = fit (ltb 1024 n) refl }
      where
        fit : (b : Bool) → ltb 1024 n ≡ b → n ≤ 1024
        fit true q = absurd (false≢true (sym p ∙ size-long f (ltb-true 1024 n q)))
        fit false q = ltb-false 1024 n q

-- ## Null

pub null-kind : (t : Ty) → kind_of t ≡ 66 → matches t (t_null ∷ []) ≡ true
unfolding kind_of matches among letter
null-kind (base b) h = rw (eq-eqb (letter b) 66 h)
null-kind (t_list t) h = absurd (omega arith)
null-kind (t_map fs) h = absurd (omega arith)
null-kind (t_node ls) h = absurd (omega arith)
null-kind (t_relationship n) h = absurd (omega arith)
null-kind (t_union ts) h = absurd (omega arith)

pub other-kind : (t : Ty) → (kind_of t ≡ 66 → ⊥) → matches t (t_null ∷ []) ≡ false
unfolding kind_of matches among letter
other-kind (base b) h = rw (ne_eqb (letter b) 66 h)
other-kind (t_list t) h = refl
other-kind (t_map fs) h = refl
other-kind (t_node ls) h = refl
other-kind (t_relationship n) h = refl
other-kind (t_union ts) h = refl

-- ## Room for the pairs

slots-plain : (x y : Ty) → is_union x ≡ false → is_union y ≡ false → slots x y ≡ (2 * (nesting x + nesting y) - 1) / 3
unfolding slots
slots-plain x y p q = rw (p, q) (omega arith)

slots-first : (ts : Tys) (u : Ty) → slots (t_union ts) u ≡ 2 * (nesting (t_union ts) + nesting u) / 3
unfolding slots is_union
slots-first ts u = omega arith

slots-second : (t : Ty) (us : Tys) → is_union t ≡ false → slots t (t_union us) ≡ 2 * (nesting t + nesting (t_union us)) / 3
unfolding slots is_union
slots-second t us p = rw p (omega arith)

member-deep : (ts : Tys) {x : Ty} → Memᴰ x (members ts) → nesting x < nesting (t_union ts)
member-deep ts m = (all_of (members-inside ts) m).1

-- one slot less for each pair
pub slots-both : (ts us : Tys) (x y : Ty) → Plain x → Plain y → Memᴰ x (members us) → Memᴰ y (members ts) → 1 + slots x y ≤ slots (t_union ts) (t_union us)
slots-both ts us x y p q m n = omega (arith, slots-plain x y p.single q.single, slots-first ts (t_union us), member-deep us m, member-deep ts n)

pub slots-left : (ts : Tys) (u x : Ty) → Plain x → is_union u ≡ false → Memᴰ x (members ts) → 1 + slots x u ≤ slots (t_union ts) u
slots-left ts u x p q m = omega (arith, slots-plain x u p.single q, slots-first ts u, member-deep ts m, nests x)

pub slots-right : (t : Ty) (us : Tys) (x : Ty) → Plain x → is_union t ≡ false → Memᴰ x (members us) → 1 + slots x t ≤ slots t (t_union us)
slots-right t us x p q m = omega (arith, slots-plain x t p.single q, slots-second t us q, member-deep us m, nests x)

-- two at least
pub slots-two-left : (ts : Tys) (u x : Ty) → Memᴰ x (members ts) → 2 ≤ slots (t_union ts) u
slots-two-left ts u x m = omega (arith, slots-first ts u, member-deep ts m, nests x, nests u)

pub slots-two-right : (t : Ty) (us : Tys) (x : Ty) → is_union t ≡ false → Memᴰ x (members us) → 2 ≤ slots t (t_union us)
slots-two-right t us x p m = omega (arith, slots-second t us p, member-deep us m, nests x, nests t)
