-- IN: what may stand for a list, an operand and an element that meet, and the faults. Assumes nothing.
use Prim.Native.Nat.{ℕ, ◌+◌, ◌-◌, ◌<◌}
use native.Mathlib.Omega.{arith}
use mathlib.Core.Path.{◌≡◌, refl, sym, ap, ◌∙◌, subst}
use mathlib.Core.List.{List, [], ◌∷◌}
use mathlib.Core.Bool.{Bool, true, false, ◌||◌}
use lib.Dec.{eqb}
use lib.ListN.{length, get_or, take, drop}
use Rattle.semantics.specs.Bytes.{Bytes}
use Rattle.semantics.specs.Ty.{Base, t_any, t_null, t_bool, t_unknown, Ty, base, t_list, t_map, t_node, t_relationship, t_union, letter, line, among, matches}
use Rattle.semantics.specs.Unify.{Answer, Unified as Tested, unify}
use Rattle.semantics.specs.Calls.{any_large}
use Rattle.semantics.specs.Walk.{fault_2012, fault_2013, is_open, apart, in_faults}
use Rattle.text.proofs.Laws.{part_slice}
use Rattle.ty.specs.Read.{kind_of, ListLine}
use Rattle.ty.proofs.Fields.{line-opens}
use Rattle.ty.proofs.Lines.{letter-away, special}
use Rattle.unify_run.proofs.Size.{line-two}
use Rattle.builtins.proofs.Laws.{HandsBack}
use Rattle.unify_run.specs.Run.{Run, done, mismatch, large, unless, answered, verdict}
use Rattle.unify.specs.Work.{Unified, span, Operand, Ready, Answered, Unifies}
use Rattle.unify.specs.declared.Span.{Span}
use Rattle.unify.specs.declared.UnifyError.TheVariants.{Mismatch, TooLarge}
use Rattle.std.specs.Prelude.{Ok, Err}
use Rattle.walk_run.specs.Run.{told, or_much, end_in}
use Rattle.exprs.specs.declared.state.Accumulator.{Accumulator}
use Rattle.report.specs.declared.TypeFault.TheVariants.{E2013}
use Rattle.report.specs.Report.{Adds, code_fault}
use Rattle.report.specs.declared.Report.{Report}
use Rattle.report.proofs.ReportLaws.{adds_none}
use Rattle.std.specs.declared.option.Option.TheVariants.{Some, None}
use Rattle.exprs.specs.End.{Ends, Settles, TwoAt, SomeTwo}
use Rattle.operators.specs.Helpers.{apart_faults, LetsIn}
use Rattle.exprs.proofs.States.{second_at}
use Rattle.operators.proofs.Meets.{left-operand, left-kind, right-kind, done-run, apart-run, large-run, ends-large, ends-settled, list-inner, slots-element, fine-element}

-- ## What may stand for a list

abbrev free : List Base
free = t_any ∷ t_unknown ∷ t_null ∷ []

abbrev pub free_kind : ℕ → Bool
free_kind k = eqb k 65 || (eqb k 80 || (eqb k 66 || false))

free-kind : (u : Ty) → matches u free ≡ free_kind (kind_of u)
unfolding matches among kind_of letter
free-kind (base b) = refl
free-kind (t_list t) = refl
free-kind (t_map fs) = refl
free-kind (t_node ls) = refl
free-kind (t_relationship n) = refl
free-kind (t_union ts) = refl

pub lets : (k : ℕ) (r : Bool) → free_kind k ≡ r → LetsIn k r
lets k r h u e = sym (free-kind u ∙ ap free_kind e ∙ h)

in-plain : (a b : Ty) → (kind_of b ≡ 74 → ⊥) → end_in a b ≡ told (base t_bool) (elim (matches b free) [ true ↦ [] | false ↦ fault_2013 b ∷ [] ])
unfolding end_in in_faults matches kind_of
in-plain a (base b) h = refl
in-plain a (t_list t) h = absurd (h refl)
in-plain a (t_map fs) h = refl
in-plain a (t_node ls) h = refl
in-plain a (t_relationship n) h = refl
in-plain a (t_union ts) h = refl

module _ {a b : Ty} {s : Bytes} {st : Accumulator} (h : TwoAt a b s st) (d : get_or s st.len 0 ≡ 74 → ⊥) (f : Bool) (l : LetsIn (get_or s st.len 0) f) where
  plain-faults : (g : Bool) → f ≡ g → end_in a b ≡ told (base t_bool) (elim g [ true ↦ [] | false ↦ fault_2013 b ∷ [] ])
  plain-faults g q =
      in-plain a b (λ e. d (sym (right-kind h) ∙ e))
      ∙ ap (λ (x : Bool). told (base t_bool) (elim x [ true ↦ [] | false ↦ fault_2013 b ∷ [] ])) (sym (l b (right-kind h)) ∙ q)

  pub in-free : {s' : Bytes} {y : Report} {r : ℕ} → f ≡ true → Settles (base t_bool) s s' r → Ends (end_in a b) s s' y y (Some r)
  in-free q g = ends-settled g (plain-faults true q) refl adds_none

  pub in-fault : {s' : Bytes} {y y' : Report} {r : ℕ} → f ≡ false → ((u : Ty) → kind_of u ≡ get_or s st.len 0 → Adds (code_fault E2013 u ∷ []) y y')
      → Settles (base t_bool) s s' r → Ends (end_in a b) s s' y y' (Some r)
  in-fault q k g = ends-settled g (plain-faults false q) refl (k b (right-kind h))

-- ## A list

kind-list : (t : Ty) → kind_of t ≡ 74 → (u : Ty) × (t ≡ t_list u)
unfolding kind_of special
kind-list (base b) h = absurd (letter-away b 74 refl h)
kind-list (t_list u) h = (u, refl)
kind-list (t_map fs) h = absurd (omega arith)
kind-list (t_node ls) h = absurd (omega arith)
kind-list (t_relationship n) h = absurd (omega arith)
kind-list (t_union ts) h = absurd (omega arith)

-- the element stands behind `J,`
pub record Element (a b : Ty) (s : Bytes) (st : Accumulator) : Type 0 where
  pub ty : Ty
  pub is : b ≡ t_list ty
  pub operand : Operand s (span (st.len + 2) (st.len + st.second)) (st.len + st.second) ty
  pub ready : Ready s (span 0 st.len) (span (st.len + 2) (st.len + st.second)) (st.len + st.second)

module _ {a b : Ty} {s : Bytes} {st : Accumulator} (h : TwoAt a b s st) (q : get_or s st.len 0 ≡ 74) where
  pub element-of : Element a b s st
  element-of =
      let (u, e) = kind-list b (right-kind h ∙ q) in
      of u (subst (λ (t : Ty). TwoAt a t s st) e h) e
    where
      of : (u : Ty) → TwoAt a (t_list u) s st → b ≡ t_list u → Element a b s st
      of u g e =
          let at = list-inner (second_at g.at) in
          let f = fine-element g.at.fine.1 in
          let o : Operand s (span (st.len + 2) (st.len + st.second)) (st.len + st.second) u = record { at = at; below = omega arith; regular = f.regular; small = f.small } in
          record {
            ty = u;
            is = e;
            operand = o;
            ready = record { left = a; right = u; first = left-operand g; second = o; room = omega (arith, g.room, slots-element a u) };
          }

pub list-ready : {s : Bytes} {st : Accumulator} → SomeTwo s st → get_or s st.len 0 ≡ 74 → Ready s (span 0 st.len) (span (st.len + 2) (st.len + st.second)) (st.len + st.second)
list-ready p q = (element-of p.at q).ready

-- the list's line is a part of the work area, of which `ty::element` hands back the element's
abbrev pub list_part : Bytes → Accumulator → Bytes
list_part s st = take (st.len + st.second - st.len) (drop st.len s)

module _ {a b : Ty} {s : Bytes} {st : Accumulator} (h : TwoAt a b s st) (q : get_or s st.len 0 ≡ 74) where
  list-is : list_part s st ≡ line (t_list (element-of h q).ty)
  list-is = part_slice st.len (st.len + st.second) s ∙ (second_at h.at).is ∙ ap line (element-of h q).is

  module _ {el : Bytes} (w : HandsBack (list_part s st) el) where
    element-is : el ≡ line (element-of h q).ty
    element-is = w (element-of h q).ty list-is

    element-kind : kind_of (element-of h q).ty ≡ get_or el 0 0
    unfolding line
    element-kind = sym (ap (λ (x : Bytes). get_or x 0 0) (element-is ∙ line-opens (element-of h q).ty []))

module _ {s : Bytes} {st : Accumulator} (p : SomeTwo s st) (q : get_or s st.len 0 ≡ 74) where
  pub list-line : ListLine (list_part s st)
  list-line = record { element = (element-of p.at q).ty; is = list-is p.at q }

  module _ {el : Bytes} (w : HandsBack (list_part s st) el) where
    pub list-first : 0 < length el
    list-first = omega (arith, ap length (element-is p.at q w), line-two (element-of p.at q).ty)

-- a mismatch is the definition's answer
verdict-apart : (v : Tested) (x y : Ty) → verdict v ≡ mismatch x y → v.answer ≡ Answer.mismatch x y
unfolding verdict
verdict-apart v x y = go (any_large v.tests) v.answer
  where
    go : (b : Bool) (w : Answer) → unless b (answered w) ≡ mismatch x y → w ≡ Answer.mismatch x y
    go true w e = absurd (let z : ◌≡◌ {A = ℕ} 0 1 = cc in omega arith)
    go false (Answer.agreed t) e = absurd (let z : ◌≡◌ {A = ℕ} 0 1 = cc in omega arith)
    go false (Answer.mismatch c d) e =
        let p : c ≡ x = cc in
        let q : d ≡ y = cc in
        rw (p, q)

in-run : (a u : Ty) (R : Run) → verdict (unify a u) ≡ R → end_in a (t_list u) ≡ or_much R (λ t. told (base t_bool) []) (told (base t_bool) (in_faults a (t_list u)))
unfolding end_in
in-run a u R e = ap (λ (x : Run). or_much x (λ t. told (base t_bool) []) (told (base t_bool) (in_faults a (t_list u)))) e

in-apart : (a u x y : Ty) → verdict (unify a u) ≡ mismatch x y → in_faults a (t_list u) ≡ apart_faults a u
unfolding in_faults
in-apart a u x y e = ap (apart a u) (verdict-apart (unify a u) x y e)

module _ {a b : Ty} {s s₁ : Bytes} {st : Accumulator} {o : Unified} (w : Unifies s s₁ (span 0 st.len) (span (st.len + 2) (st.len + st.second)) (st.len + st.second) o)
    (h : TwoAt a b s st) (q : get_or s st.len 0 ≡ 74) where
  element-run : Answered (verdict (unify a (element-of h q).ty)) s₁ (st.len + st.second) o
  element-run = w.answer a (element-of h q).ty (left-operand h) (element-of h q).operand

  pub list_done : {s' : Bytes} {y : Report} {r e : ℕ} → o ≡ Ok e → Settles (base t_bool) s₁ s' r → Ends (end_in a b) s s' y y (Some r)
  list_done k g =
      let u = (element-of h q).ty in
      let (t, p, f) = done-run s₁ (st.len + st.second) (verdict (unify a u)) element-run k in
      ends-settled g (ap (end_in a) (element-of h q).is ∙ in-run a u (done t) p) w.below.long adds_none

  pub list-apart : {s' el : Bytes} {n n' : Report} {r : ℕ} {i j : Span} → HandsBack (list_part s st) el → o ≡ Err (Mismatch i j)
      → ((u v : Ty) → kind_of u ≡ get_or s 0 0 → kind_of v ≡ get_or el 0 0 → Adds (apart_faults u v) n n')
      → Settles (base t_bool) s₁ s' r → Ends (end_in a b) s s' n n' (Some r)
  list-apart z k d g =
      let u = (element-of h q).ty in
      let (x, y, p) = apart-run s₁ (st.len + st.second) (verdict (unify a u)) element-run k in
      ends-settled g (ap (end_in a) (element-of h q).is ∙ in-run a u (mismatch x y) p ∙ ap (told (base t_bool)) (in-apart a u x y p)) w.below.long (d a u (left-kind h) (element-kind h q z))

  pub list-large : {y : Report} → o ≡ Err TooLarge → Ends (end_in a b) s s₁ y y None
  list-large {y} k =
      let u = (element-of h q).ty in
      let p = large-run s₁ (st.len + st.second) (verdict (unify a u)) element-run k in
      ends-large (ap (end_in a) (element-of h q).is ∙ in-run a u large p) w.below.long (adds_none {r = y})

-- ## The fault of a mismatch

module _ (u v : Ty) {r : Report} where
  pub parted-first : is_open u ≡ true → Adds (apart_faults u v) r r
  parted-first e = go (is_open u) e
    where
      go : (x : Bool) → x ≡ true → Adds (elim x [ true ↦ [] | false ↦ elim (is_open v) [ true ↦ [] | false ↦ fault_2012 u v ∷ [] ] ]) r r
      go true q = adds_none
      go false q = absurd (let z : ◌≡◌ {A = ℕ} 0 1 = cc in omega arith)

  pub parted-second : is_open u ≡ false → is_open v ≡ true → Adds (apart_faults u v) r r
  parted-second e f = go (is_open u) (is_open v) e f
    where
      go : (x y : Bool) → x ≡ false → y ≡ true → Adds (elim x [ true ↦ [] | false ↦ elim y [ true ↦ [] | false ↦ fault_2012 u v ∷ [] ] ]) r r
      go true y p q = adds_none
      go false true p q = adds_none
      go false false p q = absurd (let z : ◌≡◌ {A = ℕ} 0 1 = cc in omega arith)

pub parted-fault : (u v : Ty) {r r' : Report} → is_open u ≡ false → is_open v ≡ false → Adds (fault_2012 u v ∷ []) r r' → Adds (apart_faults u v) r r'
parted-fault u v {r} {r'} e f a = go (is_open u) (is_open v) e f
  where
    go : (x y : Bool) → x ≡ false → y ≡ false → Adds (elim x [ true ↦ [] | false ↦ elim y [ true ↦ [] | false ↦ fault_2012 u v ∷ [] ] ]) r r'
    go true y p q = absurd (let z : ◌≡◌ {A = ℕ} 0 1 = cc in omega arith)
    go false true p q = absurd (let z : ◌≡◌ {A = ℕ} 0 1 = cc in omega arith)
    go false false p q = a
