-- Where what is kept stands, and the ends that only read it. Assumes nothing.
use Prim.Native.Nat.{ℕ, ◌+◌, ◌≤◌}
use native.Mathlib.Omega.{arith}
use borrow.Author.Tests.{ltb-false}
use mathlib.Core.Path.{◌≡◌, refl, sym, ap, ◌∙◌, subst}
use mathlib.Core.List.{List, [], ◌∷◌, ◌++◌}
use mathlib.Core.Option.{Option, none, some}
use Rattle.std.specs.declared.option.Option.{Option as Optional}
use Rattle.std.specs.declared.option.Option.TheVariants.{Some, None}
use mathlib.Core.Bool.{Bool, true, false, not, false≢true}
use lib.ListN.{length, take, drop, get_or, length-take, length-append}
use lib.Seq.{take-take, take-append_seam, drop-append_seam}
use Rattle.std.specs.Bool.{then_some}
use Rattle.semantics.specs.Bytes.{Bytes}
use Rattle.semantics.specs.Ty.{t_any, Ty, base, t_list, t_map, t_node, t_relationship, t_union, line_to, line, joined, too_large}
use Rattle.semantics.specs.Builtins.{element_of, list_or, resolve_return}
use Rattle.ty.specs.Parts.{lines_of, TypeAt, TypeFrom}
use Rattle.ty.specs.Union.{TypesAt, overlong, Closing, Closed}
use Rattle.ty.specs.Made.{made}
use Rattle.ty.specs.Read.{kind_of}
use Rattle.ty.proofs.KindLaws.{kind_at}
use Rattle.builtins.specs.Rows.{Returned, Resolved, SomeFirst}
use Rattle.builtins.specs.declared.shapes.ReturnShape.TheVariants.{ListElement}
use Rattle.builtins.proofs.Laws.{list-element}
use Rattle.unify_run.specs.Run.{sizes}
use Rattle.unify_run.proofs.Size.{joined-sizes, line-two}
use Rattle.walk_run.specs.Run.{Kept, empty, over, kept, both, items, last, entries, arms, Told, told, too_much, end_list, end_case, end_last}
use Rattle.exprs.specs.State.{text_of, place, behind, full, ArmForm}
use Rattle.exprs.specs.declared.state.Accumulator.{Accumulator}
use Rattle.report.specs.declared.Report.{Report}
use Rattle.report.proofs.ReportLaws.{adds_none}
use Rattle.exprs.specs.End.{Puts, Ends, EndedAs, KeptAt, SomeOne, SomeArms, SomeLast}
use Rattle.exprs.proofs.Fronts.{put-any, put-anys}

-- ## Lines at the front

front-inside : (x s : Bytes) → take (length x) s ≡ x → length x ≤ length s
front-inside x s e = omega (arith, ap length e, length-take (length x) s)

line_at : {s : Bytes} {n : ℕ} (t : Ty) → n ≡ length (line t) → take (length (line t)) s ≡ line t → TypeAt s 0 n t
line_at {s} {n} t e f = record { ordered = omega arith; inside = omega (arith, front-inside (line t) s f); is = ap (λ (k : ℕ). take k s) e ∙ f }

pub kept_at : {t : Ty} {s : Bytes} {st : Accumulator} → KeptAt (kept t) s st → TypeAt s 0 st.len t
unfolding text_of place
kept_at {t} k = line_at t k.state.len k.state.front

-- two types one behind the other
module _ {a b : Ty} {s : Bytes} {st : Accumulator} (k : KeptAt (both a b) s st) where
  pair-front : take (length (line a ++ line b)) s ≡ line a ++ line b
  unfolding text_of
  pair-front = k.state.front

  pair-len : st.len ≡ length (line a)
  unfolding place
  pair-len = k.state.len

  pair-second : st.second ≡ length (line b)
  unfolding behind
  pair-second = k.state.second

  pair_inside : st.len + st.second ≤ length s
  pair_inside = omega (arith, pair-len, pair-second, length-append (line a) (line b), front-inside (line a ++ line b) s pair-front)

  pub first_at : TypeAt s 0 st.len a
  first_at =
      line_at a pair-len
      (sym (take-take (length (line a)) (length (line a ++ line b)) s (omega (arith, length-append (line a) (line b))))
      ∙ ap (take (length (line a))) pair-front
      ∙ take-append_seam (line a) (line b))

  pub second_at : TypeAt s st.len (st.len + st.second) b
  second_at =
      let n : st.len + st.second ≡ length (line a ++ line b) = omega (arith, pair-len, pair-second, length-append (line a) (line b)) in
      record {
        ordered = omega arith;
        inside = pair_inside;
        is = ap (λ (j : ℕ). drop st.len (take j s)) n ∙ ap (drop st.len) pair-front ∙ ap (λ (j : ℕ). drop j (line a ++ line b)) pair-len ∙ drop-append_seam (line a) (line b);
      }

-- ## The element, and the list itself

-- the first argument of `head`
pub only-first : {s : Bytes} {st : Accumulator} → SomeOne s st → SomeFirst s (Some st.len)
only-first p = record { types = p.ty ∷ []; first = kept_at p.at; room = omega (arith, p.at.wide) }

-- its element
module _ {s s' : Bytes} {st : Accumulator} {r : ℕ} (w : Resolved ListElement s s' (Some st.len) r) where
  pub element-returned : {t : Ty} → KeptAt (kept t) s st → Returned s s' (element_of t) r
  unfolding resolve_return
  element-returned {t} k = w (t ∷ []) (kept_at k)

module _ {t : Ty} {s : Bytes} {st : Accumulator} (k : KeptAt (kept t) s st) where
  pub slice-list : get_or s 0 0 ≡ 74 → Returned s s (list_or (base t_any) t) st.len
  unfolding list_or
  slice-list e = let (u, w, v) = list-element s st.len t (kept_at k) e in rw w (record { at = rw w at (kept_at k); long = refl })

  pub slice-any : {s' : Bytes} {r : ℕ} → (get_or s 0 0 ≡ 74 → ⊥) → Puts (65 ∷ 44 ∷ []) s s' r → Returned s s' (list_or (base t_any) t) r
  unfolding list_or kind_of
  slice-any {s'} {r} d p = subst (λ (u : Ty). Returned s s' u r) (sym (go t (λ q. d (kind_at s 0 st.len t (kept_at k) ∙ q)))) (put-any (omega (arith, k.wide)) p)
    where
      go : (t : Ty) → (kind_of t ≡ 74 → ⊥) → list_or (base t_any) t ≡ base t_any
      go (base b) q = refl
      go (t_list u) q = absurd (q refl)
      go (t_map fs) q = refl
      go (t_node ls) q = refl
      go (t_relationship m) q = refl
      go (t_union ts) q = refl

-- ## A list literal

items-none : {s : Bytes} {st : Accumulator} → KeptAt (items none) s st → st.len ≡ 2
unfolding place
items-none k = k.state.len

items-some : {u : Ty} {s : Bytes} {st : Accumulator} → KeptAt (items (some u)) s st → TypeAt s 0 st.len (t_list u)
unfolding text_of place
items-some {u} k = line_at (t_list u) k.state.len k.state.front

list-long : {s : Bytes} {n : ℕ} {u : Ty} → TypeAt s 0 n (t_list u) → 4 ≤ n
unfolding line line_to
list-long {s} {n} {u} h = omega (arith, ap length h.is, length-take n s, line-two u)

pub list_any : {s s' : Bytes} {st : Accumulator} {r : ℕ} (e : Option Ty) → KeptAt (items e) s st → st.len ≡ 2 → Puts (74 ∷ 44 ∷ 65 ∷ 44 ∷ []) s s' r
    → (t : Ty) → end_list (items e) ≡ told t [] → TypeAt s' 0 r t
unfolding end_list
list_any {s} {s'} {st} {r} none k q p t h =
    let z : t_list (base t_any) ≡ t = cc in
    rw (← z) (put-anys (omega (arith, k.wide)) p).at
list_any (some u) k q p t h = absurd (omega (arith, list-long (items-some k)))

pub list-kept : {s : Bytes} {st : Accumulator} (e : Option Ty) → KeptAt (items e) s st → (st.len ≡ 2 → ⊥) → (t : Ty) → end_list (items e) ≡ told t [] → TypeAt s 0 st.len t
unfolding end_list
list-kept none k q t h = absurd (q (items-none k))
list-kept (some u) k q t h =
    let z : t_list u ≡ t = cc in
    rw (← z) (items-some k)

-- ## The arms of a CASE

-- the members stand at the front, and there is room for the brackets
pub record ArmsAt (k : Kept) (s : Bytes) (st : Accumulator) : Type 0 where
  pub members : List Ty
  pub is : k ≡ arms members
  pub at : TypesAt s 0 st.len members
  pub short : st.len ≤ 1024

sizes-lines : (ts : List Ty) → sizes ts ≡ length (lines_of ts)
unfolding sizes lines_of
sizes-lines [] = refl
sizes-lines (t ∷ ts) = ap (λ (n : ℕ). length (line t) + n) (sizes-lines ts) ∙ sym (length-append (line t) (lines_of ts))

arms_at : {ms : List Ty} {s : Bytes} {st : Accumulator} → KeptAt (arms ms) s st → ArmsAt (arms ms) s st
unfolding text_of place overlong
arms_at {ms} {s} {st} k =
    let l = k.state.len in
    let f = k.state.front in
    record {
      members = ms;
      is = refl;
      at = record { ordered = omega arith; inside = omega (arith, front-inside (lines_of ms) s f); is = ap (λ (n : ℕ). take n s) l ∙ f };
      short = omega (arith, ltb-false 1024 (length (line (joined ms))) k.fine.1, (joined-sizes ms).0, sizes-lines ms);
    }

pub case-arms : {s : Bytes} {st : Accumulator} (k : Kept) → ArmForm k → KeptAt k s st → st.over ≡ false → ArmsAt k s st
case-arms empty f k q = absurd f
case-arms {st = st} over f k q = absurd (let z : st.over ≡ true = unfold full in k.state.over in cc)
case-arms (kept t) f k q = absurd f
case-arms (both a b) f k q = absurd f
case-arms (items e) f k q = absurd f
case-arms (last e) f k q = absurd f
case-arms (entries fs) f k q = absurd f
case-arms (arms ms) f k q = arms_at k

pub case-over : {s : Bytes} {st : Accumulator} (k : Kept) → ArmForm k → KeptAt k s st → st.over ≡ true → end_case k ≡ too_much
unfolding end_case
case-over empty f k q = absurd f
case-over over f k q = refl
case-over (kept t) f k q = absurd f
case-over (both a b) f k q = absurd f
case-over (items e) f k q = absurd f
case-over (last e) f k q = absurd f
case-over (entries fs) f k q = absurd f
case-over {st = st} (arms ms) f k q = absurd (let z : st.over ≡ false = unfold full in k.state.over in cc)

pub case-closing : {s : Bytes} {st : Accumulator} → SomeArms s st → st.over ≡ false → Closing s st.len
case-closing {s} {st} p q =
    let a = case-arms p.is p.form p.at q in
    record { members = a.members; front = a.at; room = omega (arith, a.short, p.room) }

-- an end that adds nothing
quiet : {x : Told} {s s' : Bytes} {r : Report} {n : Optional ℕ} → EndedAs x s' r r n → length s' ≡ length s → Ends x s s' r r n
quiet a l = record { answer = a; long = l; as_long = refl }

pub case-large : {s : Bytes} {r : Report} (k : Kept) {st : Accumulator} → ArmForm k → KeptAt k s st → st.over ≡ true → Ends (end_case k) s s r r None
case-large k f h q = rw (case-over k f h q) (quiet tt refl)

module _ {s s' : Bytes} {y : Report} {st : Accumulator} {r : Optional ℕ} (c : Closed s s' st.len r) (q : st.over ≡ false) (k : Kept) (f : ArmForm k) (h : KeptAt k s st) where
  case-typed : {len : ℕ} → r ≡ Some len → Ends (end_case k) s s' y y (Some len)
  unfolding end_case
  case-typed {len} e =
      let a = case-arms k f h q in
      let w = c a.members a.at in
      rw a.is (quiet (go (too_large (joined a.members)) (sym e ∙ w.answer)) w.text.long)
    where
      go : (b : Bool) → Some len ≡ made b (length (line (joined (case-arms k f h q).members)))
          → EndedAs (elim b [ true ↦ too_much | false ↦ told (joined (case-arms k f h q).members) [] ]) s' y y (Some len)
      go true p = absurd (let z : ◌≡◌ {A = ℕ} 0 1 = cc in omega arith)
      go false p =
          let a = case-arms k f h q in
          let m : len ≡ length (line (joined a.members)) = cc in
          (rw m (c a.members a.at).text.front, adds_none)

  case-too-large : r ≡ None → Ends (end_case k) s s' y y None
  unfolding end_case
  case-too-large e =
      let a = case-arms k f h q in
      let w = c a.members a.at in
      rw a.is (quiet (go (too_large (joined a.members)) (sym e ∙ w.answer)) w.text.long)
    where
      go : (b : Bool) → None ≡ made b (length (line (joined (case-arms k f h q).members)))
          → EndedAs (elim b [ true ↦ too_much | false ↦ told (joined (case-arms k f h q).members) [] ]) s' y y None
      go true p = tt
      go false p = absurd (let z : ◌≡◌ {A = ℕ} 0 1 = cc in omega arith)

  pub case-ends : Ends (end_case k) s s' y y r
  case-ends = go r refl
    where
      go : (o : Optional ℕ) → r ≡ o → Ends (end_case k) s s' y y o
      go (Some len) e = case-typed e
      go None e = case-too-large e

-- ## A comprehension

pub last-at : {t : Ty} {s : Bytes} {st : Accumulator} → KeptAt (last (some t)) s st → TypeAt s 0 (st.len + st.second) (t_list t)
unfolding text_of place behind line line_to
last-at {t} {s} {st} k = line_at (t_list t) (omega (arith, k.state.len, k.state.second)) k.state.front

pub last-inside : {s : Bytes} {st : Accumulator} → SomeLast s st → st.len + st.second ≤ length s
last-inside p = (last-at p.at).inside

pub last_line : {s : Bytes} {st : Accumulator} → SomeLast s st → TypeFrom (take (st.len + st.second) s) 0
unfolding line
last_line p = record { ty = t_list p.ty; rest = []; is = (last-at p.at).is }

module _ {s : Bytes} {y : Report} {st : Accumulator} (b : Bool) (h : (t : Ty) → take (st.len + st.second) s ≡ line t → b ≡ not (too_large t)) (t : Ty) (k : KeptAt (last (some t)) s st) where
  last-typed : b ≡ true → Ends (end_last (last (some t))) s s y y (Some (st.len + st.second))
  unfolding end_last
  last-typed e = quiet (go (too_large (t_list t)) (sym e ∙ h (t_list t) (last-at k).is)) refl
    where
      go : (c : Bool) → true ≡ not c → EndedAs (elim c [ true ↦ too_much | false ↦ told (t_list t) [] ]) s y y (Some (st.len + st.second))
      go true q = absurd (false≢true (sym q))
      go false q = (last-at k, adds_none)

  last-large : b ≡ false → Ends (end_last (last (some t))) s s y y None
  unfolding end_last
  last-large e = quiet (go (too_large (t_list t)) (sym e ∙ h (t_list t) (last-at k).is)) refl
    where
      go : (c : Bool) → false ≡ not c → EndedAs (elim c [ true ↦ too_much | false ↦ told (t_list t) [] ]) s y y None
      go true q = tt
      go false q = absurd (false≢true q)

  pub last-ends : Ends (end_last (last (some t))) s s y y (then_some b (st.len + st.second))
  last-ends = go b refl
    where
      go : (c : Bool) → b ≡ c → Ends (end_last (last (some t))) s s y y (then_some c (st.len + st.second))
      go true e = last-typed e
      go false e = last-large e
