-- Lines that keep something from child to child: comprehensions, list literals, map literals. Assumes nothing.
use mathlib.Core.Path.{◌≡◌, refl, ◌∙◌, ap}
use mathlib.Core.List.{List, [], ◌∷◌, ◌++◌}
use mathlib.Core.Option.{none, some}
use mathlib.Core.Bool.{Bool, true, false, ◌||◌}
use Prim.Native.Nat.{ℕ}
use native.Mathlib.Omega.{arith}
use lib.ListN.{length}
use Rattle.semantics.specs.Ty.{t_any, t_unknown, Ty, base, t_list, t_map, Fields, ∅ᶠ, fields_to, line_to, line, nesting, nesting_f, too_large, set_field}
use Rattle.semantics.specs.Unify.{Answer, Unified, unify}
use Rattle.semantics.specs.Sheet.{Head, Role, Rule, comprehension, listing, mapping}
use Rattle.semantics.specs.Walk.{Res, Env, or_else, grown, running, listed, mapped, last_of, tys, type_by, own_by, last_by, no_part, list_part, map_part, child_by, child as child_of, on, through, spread, named}
use Rattle.semantics.specs.Calls.{first_large, any_large}
use Rattle.unify_run.specs.Run.{answered, unless, verdict, given}
use Rattle.unify_run.proofs.Verdict.{large-append}
use Rattle.walk_run.specs.Run.{Kept, items, last, entries, unless_large, meet_item, keep_item, keep_entry, start, child, told, too_much, or_told, end_list, end_map, end_last, end, kids, Ran, halted, concluded, closed}
use Rattle.walk_run.proofs.Steps.{line_if, outcome, halt_ran, defined, ending, Alike, alike-nil, alike-cons}
use Rattle.walk_run.proofs.Fine.{large-one}
use Rattle.walk_run.proofs.Quiet.{Said, said-alike, ending-small, alike-quiet}
use Rattle.walk_run.proofs.Firsts.{list-tiny}

-- ## A type that is tested now

pub ending-tested : (n : ℕ) (t : Ty) → ending n (t ∷ []) t [] ≡ concluded n (or_told t) []
ending-tested n t = ap (λ b. outcome (line_if n b) t []) (large-one t) ∙ go (too_large t)
  where
    go : (c : Bool) → outcome (line_if n c) t [] ≡ concluded n (elim c [ true ↦ too_much | false ↦ told t [] ]) []
    go true = refl
    go false = refl

-- too large, and the line stops; else it goes on
pub tested-given : (n : ℕ) (t : Ty) (k : Kept) (x : Ran) (f : Kept → Ran) → (too_large t ≡ false → x ≡ f k) → halt_ran (line_if n (too_large t)) x ≡ given (unless_large t k) (halted n) f
tested-given n t k x f e = go (too_large t) refl
  where
    go : (c : Bool) → too_large t ≡ c → halt_ran (line_if n c) x ≡ given (elim c [ true ↦ none | false ↦ some k ]) (halted n) f
    go true p = refl
    go false p = e p

-- ## Comprehensions: the last child counts

comprehension-last : (n : ℕ) (env : Env) (h : Head) (d : Ty) (ps : List Role) (rs : List Res) → length ps ≡ length rs
    → let t = t_list (last_of d (tys (named rs))) in Alike n comprehension (t ∷ []) t [] (end comprehension env h) no_part (last (some d)) ps rs
unfolding last_of
comprehension-last n env h d [] [] l = let t = t_list d in alike-nil n comprehension (t ∷ []) t [] (end comprehension env h) no_part (last (some d)) (unfold end end_last in ending-tested n t)
comprehension-last n env h d [] (r ∷ rs) l = absurd (omega arith)
comprehension-last n env h d (p ∷ ps) [] l = absurd (omega arith)
comprehension-last n env h d (p ∷ ps) (r ∷ rs) l =
    let t = t_list (last_of r.ty (tys (named rs))) in
    alike-quiet n comprehension (t ∷ []) t [] (end comprehension env h) (unfold child_by in λ j e. refl) no_part (last (some d)) (last (some r.ty)) p ps r rs (unfold child in refl)
    (λ s. comprehension-last n env h r.ty ps rs (omega arith))

-- with no child it is Unknown
comprehension-none : (n : ℕ) (env : Env) (h : Head) (ps : List Role) (rs : List Res)
    → closed n (kids n comprehension (last (some (base t_unknown))) ps rs) (end comprehension env h) ≡ closed n (kids n comprehension (last none) ps rs) (end comprehension env h)
unfolding kids child end end_last
comprehension-none n env h [] rs = refl
comprehension-none n env h (p ∷ ps) [] = refl
comprehension-none n env h (p ∷ ps) (r ∷ rs) = refl

pub comprehension-run : (env : Env) (n : ℕ) (h : Head) (ps : List Role) (rs : List Res) → length ps ≡ length rs → Said comprehension env n h ps rs
comprehension-run env n h ps rs l = said-alike comprehension env n h ps rs (unfold type_by last_by own_by start in (comprehension-last n env h (base t_unknown) ps rs l ∙ comprehension-none n env h ps rs))

-- ## List literals

-- an item after others: the tests of the unification, and then of the list so far
item-given : (n : ℕ) (u : Unified) (x : Ty → Ran) (f : Kept → Ran) → ((t : Ty) → too_large (t_list t) ≡ false → x t ≡ f (items (some t)))
    → let g = or_else (base t_any) u.answer in halt_ran (line_if n (any_large (u.tests ++ (t_list g ∷ [])))) (x g) ≡ given (meet_item (verdict u)) (halted n) f
unfolding verdict meet_item
item-given n u x f e =
    let g = or_else (base t_any) u.answer in
    ap (λ b. halt_ran (line_if n b) (x g)) (large-append u.tests (t_list g ∷ []) ∙ ap (λ b. any_large u.tests || b) (large-one (t_list g))) ∙ go (any_large u.tests) u.answer
  where
    go : (c : Bool) (a : Answer) → let g = or_else (base t_any) a in halt_ran (line_if n (c || too_large (t_list g))) (x g) ≡ given (meet_item (unless c (answered a))) (halted n) f
    go true a = refl
    go false (Answer.agreed t) = tested-given n (t_list t) (items (some t)) (x t) f (e t)
    go false (Answer.mismatch a b) = ap (λ c. halt_ran (line_if n c) (x (base t_any))) list-tiny ∙ e (base t_any) list-tiny

-- the list from here on, its running element being s
abbrev Listing : ℕ → Env → Head → Ty → List Role → List Res → Type 0
Listing n env h s ps rs = let t = t_list (running s (tys (named rs))) in Alike n listing (t ∷ []) t [] (end listing env h) (list_part s) (items (some s)) ps rs

listing-next : (n : ℕ) (env : Env) (h : Head) (s : Ty) (p : Role) (ps : List Role) (r : Res) (rs : List Res) → ((g : Ty) → too_large (t_list g) ≡ false → Listing n env h g ps rs) → Listing n env h s (p ∷ ps) (r ∷ rs)
unfolding running
listing-next n env h s p ps r rs more =
    let t = t_list (running (grown s r.ty) (tys (named rs))) in
    let x : Ty → Ran = λ g. let w = t_list (running g (tys (named rs))) in defined n listing (list_part g) ps rs (w ∷ []) w [] in
    let f : Kept → Ran = λ i. closed n (kids n listing i ps rs) (end listing env h) in
    alike-cons n listing (t ∷ []) t [] (end listing env h) (list_part s) (items (some s)) p ps r rs (λ z. unfold child_by child keep_item in item-given n (unify s r.ty) x f more)

listing-items : (n : ℕ) (env : Env) (h : Head) (s : Ty) → too_large (t_list s) ≡ false → (ps : List Role) (rs : List Res) → length ps ≡ length rs → Listing n env h s ps rs
listing-items n env h s q [] [] l =
    unfold running in
    alike-nil n listing (t_list s ∷ []) (t_list s) [] (end listing env h) (list_part s) (items (some s)) (unfold end end_list in ending-small n (t_list s) [] q)
listing-items n env h s q [] (r ∷ rs) l = absurd (omega arith)
listing-items n env h s q (p ∷ ps) [] l = absurd (omega arith)
listing-items n env h s q (p ∷ ps) (r ∷ rs) l = listing-next n env h s p ps r rs (λ g w. listing-items n env h g w ps rs (omega arith))

listing-all : (n : ℕ) (env : Env) (h : Head) (ps : List Role) (rs : List Res) → length ps ≡ length rs
    → let t = listed (tys (named rs)) in Alike n listing (t ∷ []) t [] (end listing env h) no_part (items none) ps rs
unfolding listed
listing-all n env h [] [] l =
    let t = t_list (base t_any) in
    alike-nil n listing (t ∷ []) t [] (end listing env h) no_part (items none) (unfold end end_list in ending-small n t [] list-tiny)
listing-all n env h [] (r ∷ rs) l = absurd (omega arith)
listing-all n env h (p ∷ ps) [] l = absurd (omega arith)
listing-all n env h (p ∷ ps) (r ∷ rs) l =
    let s = r.ty in
    let t = t_list (running s (tys (named rs))) in
    let x : Ran = defined n listing (list_part s) ps rs (t ∷ []) t [] in
    let f : Kept → Ran = λ i. closed n (kids n listing i ps rs) (end listing env h) in
    alike-cons n listing (t ∷ []) t [] (end listing env h) no_part (items none) p ps r rs
    (λ z. unfold child_by child keep_item in
    (ap (λ b. halt_ran (line_if n b) x) (large-one (t_list s)) ∙ tested-given n (t_list s) (items (some s)) x f (λ w. listing-items n env h s w ps rs (omega arith))))

pub listing-run : (env : Env) (n : ℕ) (h : Head) (ps : List Role) (rs : List Res) → length ps ≡ length rs → Said listing env n h ps rs
listing-run env n h ps rs l = said-alike listing env n h ps rs (unfold type_by last_by own_by start in listing-all n env h ps rs l)

-- ## Map literals

pub map-tiny : too_large (t_map ∅ᶠ) ≡ false
unfolding too_large line line_to fields_to nesting nesting_f
map-tiny = refl

-- the map from here on, with these entries already
abbrev Mapping : ℕ → Env → Head → Fields → List Role → List Res → Type 0
Mapping n env h es ps rs = let t = t_map (mapped es (named rs)) in Alike n mapping (t ∷ []) t [] (end mapping env h) (map_part es) (entries es) ps rs

mapping-next : (n : ℕ) (env : Env) (h : Head) (es : Fields) (p : Role) (ps : List Role) (r : Res) (rs : List Res)
    → let gs = set_field r.name r.ty es in (too_large (t_map gs) ≡ false → Mapping n env h gs ps rs) → Mapping n env h es (p ∷ ps) (r ∷ rs)
unfolding mapped
mapping-next n env h es p ps r rs more =
    let gs = set_field r.name r.ty es in
    let t = t_map (mapped gs (named rs)) in
    let x : Ran = defined n mapping (map_part gs) ps rs (t ∷ []) t [] in
    let f : Kept → Ran = λ i. closed n (kids n mapping i ps rs) (end mapping env h) in
    alike-cons n mapping (t ∷ []) t [] (end mapping env h) (map_part es) (entries es) p ps r rs
    (λ z. unfold child_by child keep_entry in (ap (λ b. halt_ran (line_if n b) x) (large-one (t_map gs)) ∙ tested-given n (t_map gs) (entries gs) x f more))

mapping-entries : (n : ℕ) (env : Env) (h : Head) (es : Fields) → too_large (t_map es) ≡ false → (ps : List Role) (rs : List Res) → length ps ≡ length rs → Mapping n env h es ps rs
mapping-entries n env h es q [] [] l =
    unfold mapped in
    alike-nil n mapping (t_map es ∷ []) (t_map es) [] (end mapping env h) (map_part es) (entries es) (unfold end end_map in ending-small n (t_map es) [] q)
mapping-entries n env h es q [] (r ∷ rs) l = absurd (omega arith)
mapping-entries n env h es q (p ∷ ps) [] l = absurd (omega arith)
mapping-entries n env h es q (p ∷ ps) (r ∷ rs) l =
    mapping-next n env h es p ps r rs (λ w. mapping-entries n env h (set_field r.name r.ty es) w ps rs (omega arith))

-- a map begins with no entries
mapping-none : (n : ℕ) (rs : List Res) → through n (Rule.typed mapping) no_part rs ≡ through n (Rule.typed mapping) (map_part ∅ᶠ) rs
unfolding through child_of child_by
mapping-none n [] = refl
mapping-none n (r ∷ rs) = refl

pub mapping-run : (env : Env) (n : ℕ) (h : Head) (ps : List Role) (rs : List Res) → length ps ≡ length rs → Said mapping env n h ps rs
mapping-run env n h ps rs l =
    let t = t_map (mapped ∅ᶠ (named rs)) in
    said-alike mapping env n h ps rs
    (unfold type_by last_by own_by start in (ap (λ ts. outcome (first_large (ts ++ on n (t ∷ []))) t (spread ps rs ++ [])) (mapping-none n rs) ∙ mapping-entries n env h ∅ᶠ map-tiny ps rs l))
