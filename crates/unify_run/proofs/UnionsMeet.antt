-- A union met with a type or with another union: the running union is what the definition unites. Assumes nothing.
use mathlib.Core.Path.{◌≡◌, refl, sym, ◌∙◌, ap, ap₂}
use mathlib.Core.List.{List, [], ◌∷◌, ◌++◌, map}
use mathlib.Core.Option.{Option, none, some}
use mathlib.Core.Bool.{Bool, true, false, false≢true}
use Prim.Native.Nat.{◌≤◌}
use native.Mathlib.Omega.{arith}
use lib.ListN.{length, length-append}
use Rattle.semantics.specs.Bytes.{lex, same}
use Rattle.semantics.specs.Ty.{Base, t_any, t_null, t_bool, t_int, t_float, t_num, t_string, t_date, t_datetime, t_path, t_unknown, Ty, base, t_list, t_map, t_node, t_relationship, t_union, Tys, members, letter, among, matches, line_to, line, equal, nesting, too_large, insert, inserts, opened, gather, joined, unite, is_union}
use Rattle.semantics.specs.Unify.{Answer, Unified, gives, unites, tested, unify_union_with, meeting, pair, arms, unify}
use Rattle.semantics.specs.Calls.{any_large}
use Rattle.semantics.proofs.All.{All, empty, also, all-weaken, all_append}
use Rattle.semantics.proofs.Meetings.{meets-union}
use Rattle.semantics.proofs.Order.{equal-eq, insert-eq, inserts-swap, gather_append, gather-swap}
use Rattle.semantics.proofs.Regular.{Regular, Member, regular-members}
use Rattle.semantics.proofs.RegularUnify.{RegularAnswer, RegularUnified, unify-answer}
use Rattle.semantics.proofs.Fuel.{unify-arms}
use Rattle.unify_run.specs.Run.{Run, done, mismatch, large, answered, unless, verdict, checked, given, met_by, run_members}
use Rattle.unify_run.proofs.Size.{Small, small-true, below-trans, below-large, gather-grows, members-inside}
use Rattle.unify_run.proofs.Gather.{gather-plain, flat-unite, inserts-ascending, joined-members}
use Rattle.unify_run.proofs.Verdict.{checked-large, checked-small, verdict-gives, verdict-union, collect, collected, fallback, verdict-widened}
use Rattle.unify_run.proofs.Unions.{given-assoc, given-cong, added, all_added, members_run}

-- the definition's verdict
abbrev pub judged : Ty → Ty → Run
judged a b = verdict (unify a b)

pub judged-arms : (a b : Ty) → judged a b ≡ verdict (tested (arms unify a b))
judged-arms a b = ap verdict (unify-arms a b)

-- ## What is added depends on the answers alone

pub map-cong : {A B : Type 0} {f g : A → B} {xs : List A} → All (λ x. f x ≡ g x) xs → map f xs ≡ map g xs
map-cong empty = refl
map-cong {B} (also e a) = ap₂ (λ (x : B) (l : List B). x ∷ l) e (map-cong a)

met_all : {P : Ty → Type 0} (o : Ty) {vs : List Ty} → All P vs → All P (met_by o vs)
unfolding met_by
met_all {P} o {vs} a = go (matches o (t_null ∷ []))
  where
    go : (c : Bool) → All P (elim c [ true ↦ [] | false ↦ vs ])
    go true = empty
    go false = a

added-cong : (f g : Ty → Ty → Run) (o : Ty) {vs : List Ty} → All (λ v. f v o ≡ g v o) vs → added f vs o ≡ added g vs o
unfolding added
added-cong f g o {vs} a = ap (λ l. given (collected l) none (λ ts. some (fallback vs o ts))) (map-cong (met_all o a))

pub all-added-cong : (f g : Ty → Ty → Run) {vs os : List Ty} → All (λ o. All (λ v. f v o ≡ g v o) vs) os → all_added f vs os ≡ all_added g vs os
unfolding all_added
all-added-cong f g empty = refl
all-added-cong f g {vs} (also {x = o} {xs = os} h a) =
    ap₂ (λ x y. given x none (λ ts. given y none (λ us. some (ts ++ us)))) (added-cong f g o h) (all-added-cong f g a)

-- ## A union and one type

pub met-plain : (o : Ty) (vs : List Ty) → matches o (t_null ∷ []) ≡ false → met_by o vs ≡ vs
unfolding met_by
met-plain o vs p = go (matches o (t_null ∷ [])) p
  where
    go : (c : Bool) → c ≡ false → elim c [ true ↦ [] | false ↦ vs ] ≡ vs
    go true q = absurd (false≢true (sym q))
    go false q = refl

pub one-verdict : (o : Ty) (vs : List Ty) → matches o (t_null ∷ []) ≡ false → verdict (tested (unify_union_with unify vs o)) ≡ given (added judged vs o) large (λ ts. checked (unite ts))
unfolding added
one-verdict o vs p =
    verdict-widened (λ v. unify v o) vs o
    ∙ ap (λ l. given (collected (map (λ v. judged v o) l)) large (λ ts. checked (unite (fallback vs o ts)))) (sym (met-plain o vs p))
    ∙ sym (given-assoc (collected (map (λ v. judged v o) (met_by o vs))) (λ ts. some (fallback vs o ts)) large (λ ts. checked (unite ts)))

abbrev pub Plain : Ty → Type 0
Plain t = is_union t ≡ false

-- the running union of one outer type
pub union-one : (rec : Ty → Ty → Run) (o : Ty) {vs : List Ty} → All Plain vs → Plain o → matches o (t_null ∷ []) ≡ false → All (λ v. rec v o ≡ judged v o) vs
    → run_members rec vs (o ∷ []) [] ≡ verdict (tested (unify_union_with unify vs o))
union-one rec o {vs} a p n h =
    members_run rec vs a (also p empty) []
    ∙ ap (λ k. given k large (λ ts. checked (joined (gather ts [])))) (all-added-cong rec judged (also h empty))
    ∙ alone
    ∙ given-cong (added judged vs o) large same-union
    ∙ sym (one-verdict o vs n)
  where
    alone : given (all_added judged vs (o ∷ [])) large (λ ts. checked (joined (gather ts []))) ≡ given (added judged vs o) large (λ ts. checked (joined (gather (ts ++ []) [])))
    alone = unfold all_added in given-assoc (added judged vs o) (λ ts. some (ts ++ [])) large (λ ts. checked (joined (gather ts [])))

    same-union : (ts : List Ty) → checked (joined (gather (ts ++ []) [])) ≡ checked (unite ts)
    same-union ts = unfold gather unite in ap (λ l. checked (joined l)) (gather_append ts [] [])

-- ## The answers that are added are regular, and there is one

abbrev pub RegularRun : Run → Type 0
RegularRun (done r) = Regular r
RegularRun (mismatch a b) = Unit {0}
RegularRun large = Unit {0}

pub verdict-regular : (u : Unified) → RegularUnified u → RegularRun (verdict u)
unfolding verdict
verdict-regular u h = go (any_large u.tests) u.answer h
  where
    go : (c : Bool) (a : Answer) → RegularAnswer a → RegularRun (unless c (answered a))
    go true a q = tt
    go false (Answer.agreed t) q = q
    go false (Answer.mismatch a b) q = tt

abbrev EachRegular : Option (List Ty) → Type 0
EachRegular none = Unit {0}
EachRegular (some ts) = All Regular ts

collected-regular : {rs : List Run} → All RegularRun rs → EachRegular (collected rs)
unfolding collected
collected-regular empty = empty
collected-regular (also {x = r} {xs = rs} h a) = go r h (collected rs) (collected-regular a)
  where
    go : (q : Run) → RegularRun q → (k : Option (List Ty)) → EachRegular k → EachRegular (collect q k)
    go (done t) p none e = tt
    go (done t) p (some ts) e = also p e
    go (mismatch x y) p k e = e
    go large p k e = tt

-- regular types, one or more, or nothing
abbrev pub Some : Option (List Ty) → Type 0
Some none = Unit {0}
Some (some ts) = All Regular ts × (1 ≤ length ts)

fallback-some : (vs : List Ty) (o : Ty) → All Regular vs → Regular o → (ts : List Ty) → All Regular ts → Some (some (fallback vs o ts))
unfolding fallback
fallback-some vs o a h [] b = (all_append a (also h empty), omega (arith, length-append vs (o ∷ [])))
fallback-some vs o a h (t ∷ ts) b = (b, omega arith)

all-map-run : (f : Ty → Run) {vs : List Ty} → All (λ v. RegularRun (f v)) vs → All RegularRun (map f vs)
all-map-run f empty = empty
all-map-run f (also h a) = also h (all-map-run f a)

pub added-some : (o : Ty) {vs : List Ty} → All Regular vs → Regular o → Some (added judged vs o)
unfolding added
added-some o {vs} a h = go (collected (map (λ v. judged v o) (met_by o vs))) (collected-regular (all-map-run (λ v. judged v o) (met_all o (all-weaken (λ v r. verdict-regular (unify v o) (unify-answer v o r h)) a))))
  where
    go : (k : Option (List Ty)) → EachRegular k → Some (given k none (λ ts. some (fallback vs o ts)))
    go none e = tt
    go (some ts) e = fallback-some vs o a h ts e

-- ## Unions of unions

-- an outer type whose answer is the union of what it adds
abbrev pub Unites : (Ty → Ty → Run) → List Ty → (Ty → Run) → Ty → Type 0
Unites rec vs f o = (f o ≡ given (added rec vs o) large (λ ts. checked (unite ts))) × Some (added rec vs o)

-- the union of the answers is the union of all that is added
pub unions-run : (rec : Ty → Ty → Run) (vs : List Ty) (f : Ty → Run) {os : List Ty} → All (Unites rec vs f) os → (zs : List Ty)
    → given (collected (map f os)) large (λ ts. checked (joined (gather ts (gather zs [])))) ≡ given (all_added rec vs os) large (λ ts. checked (joined (gather ts (gather zs []))))
unfolding collected all_added
unions-run rec vs f empty zs = refl
unions-run rec vs f (also {x = o} {xs = os} h a) zs = rw h.0 (go (added rec vs o) h.1 (unions-run rec vs f a))
  where
    rest : Option (List Ty)
    rest = collected (map f os)

    end : List Ty → List Ty → Run
    end l ts = checked (joined (gather ts l))

    Later : List Ty → Type 0
    Later l = given rest large (end l) ≡ given (all_added rec vs os) large (end l)

    whole : (xs ts : List Ty) → gather (xs ++ ts) (gather zs []) ≡ gather ts (gather zs (gather xs []))
    whole xs ts = gather_append xs ts (gather zs []) ∙ ap (gather ts) (gather-swap xs zs [])

    too_large_lem : (xs ts : List Ty) → too_large (unite xs) ≡ true → end (gather zs []) (xs ++ ts) ≡ large
    too_large_lem xs ts p = checked-large (joined (gather (xs ++ ts) (gather zs []))) (rw (whole xs ts) (below-large (below-trans (gather-grows zs (gather xs [])) (gather-grows ts (gather zs (gather xs [])))) (unfold unite in p)))

    go : (k : Option (List Ty)) → Some k → ((ys : List Ty) → Later (gather ys []))
        → given (collect (given k large (λ ts. checked (unite ts))) rest) large (end (gather zs [])) ≡ given (given k none (λ ts. given (all_added rec vs os) none (λ us. some (ts ++ us)))) large (end (gather zs []))
    go none s ih = refl
    go (some xs) s ih = by (too_large (unite xs)) refl
      where
        one : (ts : List Ty) → end (gather zs []) (unite xs ∷ ts) ≡ end (gather zs []) (xs ++ ts)
        one ts = ap (λ l. checked (joined l)) (flat-unite s.0 s.1 ts (gather zs []))

        all : (ts : List Ty) → end (gather zs []) (xs ++ ts) ≡ end (gather (zs ++ xs) []) ts
        all ts = ap (λ l. checked (joined l)) (gather_append xs ts (gather zs []) ∙ ap (gather ts) (sym (gather_append zs xs [])))

        right : given (given (all_added rec vs os) none (λ us. some (xs ++ us))) large (end (gather zs [])) ≡ given (all_added rec vs os) large (λ us. end (gather zs []) (xs ++ us))
        right = given-assoc (all_added rec vs os) (λ us. some (xs ++ us)) large (end (gather zs []))

        over : (k : Option (List Ty)) → too_large (unite xs) ≡ true → large ≡ given k large (λ us. end (gather zs []) (xs ++ us))
        over none p = refl
        over (some us) p = sym (too_large_lem xs us p)

        by : (c : Bool) → too_large (unite xs) ≡ c → given (collect (checked (unite xs)) rest) large (end (gather zs [])) ≡ given (given (all_added rec vs os) none (λ us. some (xs ++ us))) large (end (gather zs []))
        by true p = ap (λ r. given (collect r rest) large (end (gather zs []))) (checked-large (unite xs) p) ∙ over (all_added rec vs os) p ∙ sym right
        by false p =
            ap (λ r. given (collect r rest) large (end (gather zs []))) (checked-small (unite xs) p)
            ∙ given-assoc rest (λ ts. some (unite xs ∷ ts)) large (end (gather zs []))
            ∙ given-cong rest large (λ ts. one ts ∙ all ts)
            ∙ ih (zs ++ xs)
            ∙ given-cong (all_added rec vs os) large (λ us. sym (all us))
            ∙ sym right

-- ## The answer of an outer type and a union

-- what an outer type may be
data Kind : Ty → Type 0 where
  any : Kind (base t_any)
  null : Kind (base t_null)
  unknown : Kind (base t_unknown)
  other : {t : Ty} → matches t (t_any ∷ []) ≡ false → matches t (t_unknown ∷ []) ≡ false → matches t (t_null ∷ []) ≡ false → Kind t

kind : (t : Ty) → Kind t
unfolding matches among letter
kind (base b) = elim b as (λ k. Kind (base k)) [ t_any ↦ any | t_null ↦ null | t_bool ↦ other refl refl refl | t_int ↦ other refl refl refl | t_float ↦ other refl refl refl | t_num ↦ other refl refl refl | t_string ↦ other refl refl refl | t_date ↦ other refl refl refl | t_datetime ↦ other refl refl refl | t_path ↦ other refl refl refl | t_unknown ↦ unknown ]
kind (t_list t) = other refl refl refl
kind (t_map fs) = other refl refl refl
kind (t_node ls) = other refl refl refl
kind (t_relationship n) = other refl refl refl
kind (t_union ts) = other refl refl refl

pair-union : (rec : Ty → Ty → Unified) (o : Ty) (us : Tys) → Plain o → pair rec (meeting o (t_union us)) ≡ unify_union_with rec (members us) o
unfolding pair
pair-union rec o us p = ap (pair rec) (meets-union o us p)

not_equal : (o : Ty) (us : Tys) → Plain o → equal o (t_union us) ≡ false
not_equal o us p = go (equal o (t_union us)) refl
  where
    go : (c : Bool) → equal o (t_union us) ≡ c → c ≡ false
    go true q = absurd (false≢true (sym p ∙ ap is_union (equal-eq o (t_union us) q) ∙ (unfold is_union in refl)))
    go false q = refl

arms-other : (rec : Ty → Ty → Unified) (o : Ty) (us : Tys) → Plain o → matches o (t_any ∷ []) ≡ false → matches o (t_unknown ∷ []) ≡ false → matches o (t_null ∷ []) ≡ false
    → arms rec o (t_union us) ≡ unify_union_with rec (members us) o
unfolding arms matches
arms-other rec o us p a u n = rw (a, u, not_equal o us p, n, arms) (pair-union rec o us p)

-- Any takes each variant as it is, and Unknown makes it Unknown
arms-any : (rec : Ty → Ty → Unified) (v : Ty) → arms rec v (base t_any) ≡ gives [] v
unfolding arms matches among letter
arms-any rec (base b) = elim b as (λ k. arms rec (base k) (base t_any) ≡ gives [] (base k)) [ t_any ↦ refl | t_null ↦ refl | t_bool ↦ refl | t_int ↦ refl | t_float ↦ refl | t_num ↦ refl | t_string ↦ refl | t_date ↦ refl | t_datetime ↦ refl | t_path ↦ refl | t_unknown ↦ refl ]
arms-any rec (t_list t) = refl
arms-any rec (t_map fs) = refl
arms-any rec (t_node ls) = refl
arms-any rec (t_relationship n) = refl
arms-any rec (t_union ts) = refl

arms-unknown : (rec : Ty → Ty → Unified) (v : Ty) → arms rec v (base t_unknown) ≡ gives [] (base t_unknown)
unfolding arms matches among letter
arms-unknown rec (base b) = elim b as (λ k. arms rec (base k) (base t_unknown) ≡ gives [] (base t_unknown)) [ t_any ↦ refl | t_null ↦ refl | t_bool ↦ refl | t_int ↦ refl | t_float ↦ refl | t_num ↦ refl | t_string ↦ refl | t_date ↦ refl | t_datetime ↦ refl | t_path ↦ refl | t_unknown ↦ refl ]
arms-unknown rec (t_list t) = refl
arms-unknown rec (t_map fs) = refl
arms-unknown rec (t_node ls) = refl
arms-unknown rec (t_relationship n) = refl
arms-unknown rec (t_union ts) = refl

pub base-small : (b : Base) → too_large (base b) ≡ false
unfolding too_large line line_to nesting
base-small b = refl

judged-any : (v : Ty) → too_large v ≡ false → judged v (base t_any) ≡ done v
judged-any v s = judged-arms v (base t_any) ∙ ap (λ u. verdict (tested u)) (arms-any unify v) ∙ verdict-gives v ∙ checked-small v s

judged-unknown : (v : Ty) → judged v (base t_unknown) ≡ done (base t_unknown)
judged-unknown v = judged-arms v (base t_unknown) ∙ ap (λ u. verdict (tested u)) (arms-unknown unify v) ∙ verdict-gives (base t_unknown) ∙ checked-small (base t_unknown) (base-small t_unknown)

collected-done : (f : Ty → Ty) (vs : List Ty) → collected (map (λ v. done (f v)) vs) ≡ some (map f vs)
unfolding collected
collected-done f [] = refl
collected-done f (v ∷ vs) = ap (collect (done (f v))) (collected-done f vs)

-- where each variant has an answer
added-done : (o : Ty) (f : Ty → Ty) {vs : List Ty} → matches o (t_null ∷ []) ≡ false → 1 ≤ length vs → All (λ v. judged v o ≡ done (f v)) vs → added judged vs o ≡ some (map f vs)
unfolding added
added-done o f {vs} n l a =
    ap (λ x. given x none (λ ts. some (fallback vs o ts))) (ap (λ r. collected (map (λ v. judged v o) r)) (met-plain o vs n) ∙ ap collected (map-cong a) ∙ collected-done f vs) ∙ go vs l
  where
    go : (ws : List Ty) → 1 ≤ length ws → some (fallback vs o (map f ws)) ≡ some (map f ws)
    go [] p = absurd (omega arith)
    go (w ∷ ws) p = unfold fallback in refl

map-self : (vs : List Ty) → map (λ v. v) vs ≡ vs
map-self [] = refl
map-self (v ∷ vs) = ap (λ l. v ∷ l) (map-self vs)

unknowns : (vs : List Ty) → gather (map (λ v. base t_unknown) vs) (base t_unknown ∷ []) ≡ base t_unknown ∷ []
unfolding gather inserts opened
unknowns [] = refl
unknowns (v ∷ vs) = ap (gather (map (λ u. base t_unknown) vs)) (insert-eq (base t_unknown) []) ∙ unknowns vs

unite-unknowns : (vs : List Ty) → 1 ≤ length vs → unite (map (λ v. base t_unknown) vs) ≡ base t_unknown
unfolding unite gather inserts insert opened joined
unite-unknowns [] l = absurd (omega arith)
unite-unknowns (v ∷ vs) l = ap joined (unknowns vs)

pub union-members : (us : Tys) → Regular (t_union us) → All Member (members us)
union-members us h = regular-members us h.2

pub all_plain : {vs : List Ty} → All Member vs → All Plain vs
all_plain a = all-weaken (λ v m. m.0) a

pub all-regular : {vs : List Ty} → All Member vs → All Regular vs
all-regular a = all-weaken (λ v m. m.1) a

pub unite-members : (us : Tys) → Regular (t_union us) → unite (members us) ≡ t_union us
unfolding unite
unite-members us h = ap joined (gather-plain (all_plain (union-members us h)) [] ∙ inserts-ascending (members us) h.1) ∙ joined-members us h.0

unite-null : (us : Tys) → Regular (t_union us) → unite (base t_null ∷ t_union us ∷ []) ≡ unite (members us ++ (base t_null ∷ []))
unite-null us h = unfold unite gather opened in
    ap joined (inserts-swap (members us) (base t_null ∷ []) [] ∙ ap (inserts (base t_null ∷ [])) (sym (gather-plain (all_plain (union-members us h)) [])) ∙ sym (gather_append (members us) (base t_null ∷ []) []))

pub members-small : (us : Tys) → Small (t_union us) → All Small (members us)
members-small us s = all-weaken (λ v i. (omega arith, omega arith)) (members-inside us)

pub outer-verdict : (o : Ty) (us : Tys) → Plain o → Regular (t_union us) → Small (t_union us) → judged o (t_union us) ≡ given (added judged (members us) o) large (λ ts. checked (unite ts))
outer-verdict o us p h s = judged-arms o (t_union us) ∙ go o p (kind o)
  where
    some-member : 1 ≤ length (members us)
    some-member = omega arith

    any-null : matches (base t_any) (t_null ∷ []) ≡ false
    any-null = unfold matches among letter in refl

    unknown-null : matches (base t_unknown) (t_null ∷ []) ≡ false
    unknown-null = unfold matches among letter in refl

    go : (t : Ty) → Plain t → Kind t → verdict (tested (arms unify t (t_union us))) ≡ given (added judged (members us) t) large (λ ts. checked (unite ts))
    go t q (other a u n) = ap (λ x. verdict (tested x)) (arms-other unify t us q a u n) ∙ one-verdict t (members us) n
    go t q any =
        ap (λ x. verdict (tested x)) any_left ∙ verdict-gives (t_union us) ∙ ap checked (sym (unite-members us h)) ∙ ap (λ l. checked (unite l)) (sym (map-self (members us)))
        ∙ ap (λ k. given k large (λ ts. checked (unite ts))) (sym (added-done (base t_any) (λ v. v) any-null some-member (all-weaken (λ v i. judged-any v (small-true v i)) (members-small us s))))
      where
        any_left : arms unify (base t_any) (t_union us) ≡ gives [] (t_union us)
        any_left = unfold arms matches among letter in refl
    go t q unknown =
        ap (λ x. verdict (tested x)) unknown-left ∙ verdict-gives (base t_unknown) ∙ ap checked (sym (unite-unknowns (members us) some-member))
        ∙ ap (λ k. given k large (λ ts. checked (unite ts))) (sym (added-done (base t_unknown) (λ v. base t_unknown) unknown-null some-member (all-weaken (λ v i. judged-unknown v) (members-small us s))))
      where
        unknown-left : arms unify (base t_unknown) (t_union us) ≡ gives [] (base t_unknown)
        unknown-left = unfold arms matches among letter in refl
    go t q null =
        ap (λ x. verdict (tested x)) null-left ∙ verdict-union (base t_null ∷ t_union us ∷ []) ∙ ap checked (unite-null us h) ∙ null-right
      where
        null-left : arms unify (base t_null) (t_union us) ≡ unites [] (base t_null ∷ t_union us ∷ [])
        null-left = unfold arms matches among letter equal same lex line line_to in refl

        null-right : checked (unite (members us ++ (base t_null ∷ []))) ≡ given (added judged (members us) (base t_null)) large (λ ts. checked (unite ts))
        null-right = unfold added met_by matches among letter collected fallback in refl

-- ## A union and a union

-- where each outer type has an answer, it is never widened
never-widened : (rec : Ty → Ty → Run) (vs : List Ty) (f : Ty → Run) (us : List Ty) (x : Ty) {os : List Ty} → All (Unites rec vs f) os → 1 ≤ length os
    → given (collected (map f os)) large (λ ts. checked (unite (fallback us x ts))) ≡ given (collected (map f os)) large (λ ts. checked (unite ts))
unfolding collected
never-widened rec vs f us x empty l = absurd (omega arith)
never-widened rec vs f us x (also {x = o} {xs = os} h a) l = rw h.0 (go (added rec vs o))
  where
    rest : Option (List Ty)
    rest = collected (map f os)

    by : (xs : List Ty) (c : Bool) → given (collect (unless c (done (unite xs))) rest) large (λ ts. checked (unite (fallback us x ts))) ≡ given (collect (unless c (done (unite xs))) rest) large (λ ts. checked (unite ts))
    by xs true = refl
    by xs false =
        given-assoc rest (λ ts. some (unite xs ∷ ts)) large (λ ts. checked (unite (fallback us x ts)))
        ∙ (unfold fallback in sym (given-assoc rest (λ ts. some (unite xs ∷ ts)) large (λ ts. checked (unite ts))))

    go : (k : Option (List Ty)) → given (collect (given k large (λ ts. checked (unite ts))) rest) large (λ ts. checked (unite (fallback us x ts)))
        ≡ given (collect (given k large (λ ts. checked (unite ts))) rest) large (λ ts. checked (unite ts))
    go none = refl
    go (some xs) = unfold checked in by xs (too_large (unite xs))

-- the running union of all outer types
pub union-both : (rec : Ty → Ty → Run) (ts us : Tys) → Regular (t_union ts) → Regular (t_union us) → Small (t_union us) → All (λ o. All (λ v. rec v o ≡ judged v o) (members us)) (members ts)
    → run_members rec (members us) (members ts) [] ≡ verdict (tested (unify_union_with unify (members ts) (t_union us)))
union-both rec ts us g h s e =
    members_run rec (members us) (all_plain (union-members us h)) (all_plain (union-members ts g)) []
    ∙ ap (λ k. given k large (λ l. checked (joined (gather l [])))) (all-added-cong rec judged e)
    ∙ flat
    ∙ sym (never-widened judged (members us) outer (members ts) (t_union us) each (omega arith))
    ∙ sym (verdict-widened (λ v. unify v (t_union us)) (members ts) (t_union us))
  where
    outer : Ty → Run
    outer o = judged o (t_union us)

    each : All (Unites judged (members us) outer) (members ts)
    each = all-weaken (λ o m. (outer-verdict o us m.0 h s, added-some o (all-regular (union-members us h)) m.1)) (union-members ts g)

    flat : given (all_added judged (members us) (members ts)) large (λ l. checked (joined (gather l []))) ≡ given (collected (map outer (members ts))) large (λ l. checked (unite l))
    flat = unfold unite gather in sym (unions-run judged (members us) outer each [])
