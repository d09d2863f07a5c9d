-- An item of a list: `fitted`, `any_items`, `list_item`. Assumes nothing.
use mathlib.Core.Path.{◌≡◌, refl, sym, ◌∙◌, ap, subst}
use mathlib.Core.List.{[], ◌∷◌, ◌++◌}
use mathlib.Core.Option.{Option, none, some}
use Rattle.std.specs.declared.option.Option.{Option as Optional}
use Rattle.std.specs.declared.option.Option.TheVariants.{Some, None}
use mathlib.Core.Bool.{Bool, true, false, not, false≢true}
use Prim.Native.Nat.{ℕ, ◌+◌, ◌-◌, ◌*◌, ◌≤◌}
use native.Mathlib.Omega.{arith}
use lib.ListN.{length, take, drop, set, length-set}
use lib.Seq.{slice, sets, length-sets, length-take-le, take-take}
use Rattle.semantics.specs.Bytes.{Bytes}
use Rattle.semantics.specs.Ty.{t_any, Ty, base, t_list, letter, line, line_to, regular, too_large}
use Rattle.semantics.specs.Unify.{unify}
use Rattle.text.proofs.Laws.{take-join, take_below, copied}
use Rattle.ty.specs.Parts.{TypeAt, TypeFrom}
use Rattle.ty.proofs.UnionEnds.{type-long}
use Rattle.unify_run.specs.Run.{Run, done, mismatch, large, verdict}
use Rattle.unify_run.proofs.Size.{line-two, small-sound, small-true, element-inside}
use Rattle.unify.specs.Work.{Unified, span, Operand, Ready, Answered, Unifies, slots}
use Rattle.unify.specs.declared.Span.{Span}
use Rattle.unify.specs.declared.UnifyError.TheVariants.{Mismatch, TooLarge}
use Rattle.std.specs.Prelude.{Ok, Err}
use Rattle.std.specs.Bool.{then_some}
use Rattle.walk_run.specs.Run.{items, meet_item, keep_item}
use Rattle.exprs.specs.State.{text_of, place, behind, full, ChildAt, KeepAs, Keeps, SomeList, ListKept, Headed, ItemRoom, SomeItem, ItemKept}
use Rattle.exprs.specs.declared.state.Accumulator.{Accumulator}
use Rattle.exprs.proofs.StateLaws.{Is, list-line, list-head}

-- ## `fitted`

pub list-from : {s : Bytes} {len : ℕ} → SomeList s len → TypeFrom (take len s) 0
unfolding line
list-from p = record { ty = t_list p.element; rest = []; is = p.at.is }

pub list_inside : {s : Bytes} {len : ℕ} → SomeList s len → len ≡ length (take len s)
list_inside {s} {len} p = sym (length-take-le len s p.at.inside)

module _ {s : Bytes} {len : ℕ} (b : Bool) (h : (t : Ty) → take len s ≡ line t → b ≡ not (too_large t)) where
  fitted-on : {q : Accumulator} → b ≡ true → Is q len 0 → ListKept s len (Some q)
  unfolding text_of place behind full
  fitted-on {q} e i t g = go (too_large (t_list t)) (sym e ∙ h (t_list t) g.is)
    where
      go : (c : Bool) → true ≡ not c → KeepAs (elim c [ true ↦ none | false ↦ some (items (some t)) ]) s (Some q)
      go true p = absurd (false≢true (sym p))
      go false p =
          let l : len ≡ length (line (t_list t)) = omega (arith, type-long g) in
          record { len = i.0 ∙ l; second = i.1; over = i.2; front = ap (λ (m : ℕ). take m s) (sym l) ∙ g.is }

  fitted-large : b ≡ false → ListKept s len None
  fitted-large e t g = go (too_large (t_list t)) (sym e ∙ h (t_list t) g.is)
    where
      go : (c : Bool) → false ≡ not c → KeepAs (elim c [ true ↦ none | false ↦ some (items (some t)) ]) s None
      go true p = tt
      go false p = absurd (false≢true p)

  pub fitted-kept : {q : Accumulator} → Is q len 0 → ListKept s len (then_some b q)
  fitted-kept {q} i = go b refl
    where
      go : (c : Bool) → b ≡ c → ListKept s len (then_some c q)
      go true e = fitted-on e i
      go false e = fitted-large e

-- ## `any_items`

any-front : (s : Bytes) → 4 ≤ length s → take 2 s ≡ 74 ∷ 44 ∷ [] → take 4 (set (set s 2 65) 3 44) ≡ 74 ∷ 44 ∷ 65 ∷ 44 ∷ []
any-front [] l h = absurd (omega arith)
any-front (a ∷ []) l h = absurd (omega arith)
any-front (a ∷ b ∷ []) l h = absurd (omega arith)
any-front (a ∷ b ∷ c ∷ []) l h = absurd (omega arith)
any-front (a ∷ b ∷ c ∷ d ∷ s) l h = ap (λ (x : Bytes). x ++ (65 ∷ 44 ∷ [])) h

pub any-kept : {s : Bytes} {q : Accumulator} → Headed s → Is q 4 0 → Keeps (some (items (some (base t_any)))) s (set (set s 2 65) 3 44) (Some q)
unfolding text_of place behind full line line_to letter
any-kept {s} p i =
    record {
      kept = record { len = i.0; second = i.1; over = i.2; front = any-front s p.room p.head };
      long = simp length-set;
    }

-- ## `list_item`

-- `J,` before a type is a list
list-whole : {s : Bytes} {a e : ℕ} {t : Ty} → a ≡ 2 → take 2 s ≡ 74 ∷ 44 ∷ [] → TypeAt s a e t → TypeAt s 0 e (t_list t)
list-whole {s} {a} {e} {t} z f g =
    record {
      ordered = omega arith;
      inside = g.inside;
      is =
          sym (take-join a e s g.ordered)
          ∙ ap (λ (l : Bytes). l ++ slice a e s) (ap (λ (m : ℕ). take m s) z ∙ f)
          ∙ ap (λ (l : Bytes). 74 ∷ 44 ∷ l) g.is
          ∙ sym (list-line t);
    }

-- a type that is copied down behind `J,`
pub copied-list : {s s'' : Bytes} {e end : ℕ} {t : Ty} → 4 ≤ e → take 2 s ≡ 74 ∷ 44 ∷ [] → TypeAt s e end t → s'' ≡ sets s 2 (slice e (e + (end - e)) s)
    → TypeAt s'' 0 (2 + (end - e)) (t_list t)
copied-list {s} {s''} {e} {end} low f g q =
    let o = g.ordered in
    let i = g.inside in
    let l = ap length q ∙ length-sets s 2 (slice e (e + (end - e)) s) in
    let z : e + (end - e) ≡ end = omega arith in
    list-whole {a = 2} refl (ap (take 2) q ∙ take_below 2 s 2 (slice e (e + (end - e)) s) (omega arith) ∙ f)
    (record {
      ordered = omega arith;
      inside = omega arith;
      is =
          ap (λ (x : Bytes). slice 2 (2 + (end - e)) x) q
          ∙ copied s e 2 (end - e) (omega arith) (omega arith)
          ∙ ap (λ (m : ℕ). slice e m s) z
          ∙ g.is;
    })

-- there is a running element
pub record Running (s : Bytes) (st : Accumulator) (n : ℕ) : Type 0 where
  pub element : Ty
  pub item : Ty
  pub at : ChildAt (items (some element)) item s st n
  pub room : st.len + n + 1024 * slots element item ≤ length s
  pub wide : 1024 ≤ length s

-- the unified type stands behind the two
pub record Stood (s : Bytes) (k e end : ℕ) : Type 0 where
  pub ty : Ty
  pub at : TypeAt s e end ty
  pub head : take 2 s ≡ 74 ∷ 44 ∷ []
  pub low : 4 ≤ k

module _ {s : Bytes} {st : Accumulator} {n : ℕ} where
  -- ### The first item

  long-some : {u t : Ty} → ChildAt (items (some u)) t s st n → 4 ≤ st.len
  unfolding place
  long-some {u} c = omega (arith, c.state.len, ap length (list-line u), line-two u)

  first-whole : {t : Ty} → ChildAt (items none) t s st n → TypeAt s 0 (st.len + n) (t_list t)
  unfolding text_of place
  first-whole c = list-whole c.state.len c.state.front c.child

  pub first-list : SomeItem s st n → st.len ≡ 2 → SomeList s (st.len + n)
  first-list p e = go p.before p.at
    where
      go : (o : Option Ty) → ChildAt (items o) p.ty s st n → SomeList s (st.len + n)
      go none c = record { element = p.ty; at = first-whole c }
      go (some u) c = absurd (omega (arith, long-some c))

  pub first-kept : {r : Optional Accumulator} → st.len ≡ 2 → ListKept s (st.len + n) r → ItemKept s s st n r
  unfolding keep_item
  first-kept e h none t c = record { kept = h t (first-whole c); long = refl }
  first-kept e h (some u) t c = absurd (omega (arith, long-some c))

  -- ### An item behind the running element

  module _ {u t : Ty} (c : ChildAt (items (some u)) t s st n) where
    some-head : take 2 s ≡ 74 ∷ 44 ∷ []
    unfolding text_of
    some-head = list-head s u c.state.front

    some_left : Operand s (span 2 st.len) (st.len + n) u
    unfolding text_of place regular
    some_left =
        let f = c.fine in
        let i = element-inside u in
        let m = small-sound (t_list u) f.small in
        let o = c.child.ordered in
        record {
          at = record {
            ordered = omega (arith, long-some c);
            inside = omega (arith, c.child.inside);
            is = ap (λ (k : ℕ). slice 2 k s) c.state.len ∙ ap (drop 2) (c.state.front ∙ list-line u);
          };
          below = omega arith;
          regular = f.regular;
          small = small-true u (omega arith);
        }

    some_right : Operand s (span st.len (st.len + n)) (st.len + n) t
    some_right = record { at = c.child; below = omega arith; regular = c.good.regular; small = c.good.small }

  module _ (two : st.len ≡ 2 → ⊥) where
    none-not : {t : Ty} → ChildAt (items none) t s st n → ⊥
    unfolding place
    none-not c = two c.state.len

    pub running : SomeItem s st n → Running s st n
    running p = go p.before p.at p.room
      where
        go : (o : Option Ty) → ChildAt (items o) p.ty s st n → ItemRoom o p.ty s (st.len + n) → Running s st n
        go none c r = absurd (none-not c)
        go (some u) c r = record { element = u; item = p.ty; at = c; room = r; wide = p.wide }

  pub ready : Running s st n → Ready s (span 2 st.len) (span st.len (st.len + n)) (st.len + n)
  ready p = record { left = p.element; right = p.item; first = some_left p.at; second = some_right p.at; room = p.room }

  module _ {s' : Bytes} {r : Unified} (h : Unifies s s' (span 2 st.len) (span st.len (st.len + n)) (st.len + n) r) where
    kept-head : {u t : Ty} → ChildAt (items (some u)) t s st n → take 2 s' ≡ 74 ∷ 44 ∷ []
    kept-head c =
        let e = st.len + n in
        let l = long-some c in
        sym (take-take 2 e s' (omega arith)) ∙ ap (take 2) h.below.kept ∙ take-take 2 e s (omega arith) ∙ some-head c

    pub stood : {end : ℕ} → r ≡ Ok end → Running s st n → Stood s' st.len (st.len + n) end
    stood {end} e p =
        let c = p.at in
        go (verdict (unify p.element p.item)) (rw e at (h.answer p.element p.item (some_left c) (some_right c)))
      where
        go : (v : Run) → Answered v s' (st.len + n) (Ok end) → Stood s' st.len (st.len + n) end
        go (done w) a = record { ty = w; at = a; head = kept-head p.at; low = long-some p.at }
        go (mismatch x y) a = absurd a
        go large a = absurd a

    pub headed : Running s st n → Headed s'
    headed p = record { head = kept-head p.at; room = omega (arith, p.wide, h.below.long) }

    module _ (two : st.len ≡ 2 → ⊥) (s'' : Bytes) (k : Optional Accumulator) (long : length s'' ≡ length s')
        (each : (u t : Ty) → ChildAt (items (some u)) t s st n → (v : Run) → Answered v s' (st.len + n) r → KeepAs (meet_item v) s'' k) where
      item-kept : ItemKept s s'' st n k
      unfolding keep_item
      item-kept none t c = absurd (none-not two c)
      item-kept (some u) t c =
          record {
            kept = each u t c (verdict (unify u t)) (h.answer u t (some_left c) (some_right c));
            long = long ∙ h.below.long;
          }

    pub item-done : {end : ℕ} {s'' : Bytes} {k : Optional Accumulator} → (st.len ≡ 2 → ⊥) → r ≡ Ok end → s'' ≡ sets s' 2 (slice (st.len + n) (st.len + n + (end - (st.len + n))) s')
        → ListKept s'' (2 + (end - (st.len + n))) k → ItemKept s s'' st n k
    unfolding meet_item
    item-done {end} {s''} {k} two e q f = item-kept two s'' k (ap length q ∙ simp length-sets) each
      where
        each : (u t : Ty) → ChildAt (items (some u)) t s st n → (v : Run) → Answered v s' (st.len + n) r → KeepAs (meet_item v) s'' k
        each u t c (done w) a =
            f w (copied-list (omega (arith, long-some c)) (kept-head c) (subst (λ (x : Unified). Answered (done w) s' (st.len + n) x) e a) q)
        each u t c (mismatch x y) a = absurd (subst (λ (z : Unified). Answered (mismatch x y) s' (st.len + n) z) e a)
        each u t c large a = absurd (subst (λ (z : Unified). Answered large s' (st.len + n) z) e a)

    pub item-apart : {a b : Span} {s'' : Bytes} {k : Optional Accumulator} → (st.len ≡ 2 → ⊥) → r ≡ Err (Mismatch a b) → Keeps (some (items (some (base t_any)))) s' s'' k → ItemKept s s'' st n k
    unfolding meet_item
    item-apart {a} {b} {s''} {k} two e f = item-kept two s'' k f.long each
      where
        each : (u t : Ty) → ChildAt (items (some u)) t s st n → (v : Run) → Answered v s' (st.len + n) r → KeepAs (meet_item v) s'' k
        each u t c (done w) g = absurd (subst (λ (z : Unified). Answered (done w) s' (st.len + n) z) e g)
        each u t c (mismatch x y) g = f.kept
        each u t c large g = absurd (subst (λ (z : Unified). Answered large s' (st.len + n) z) e g)

    pub item-large : (st.len ≡ 2 → ⊥) → r ≡ Err TooLarge → ItemKept s s' st n None
    unfolding meet_item
    item-large two e = item-kept two s' None refl each
      where
        each : (u t : Ty) → ChildAt (items (some u)) t s st n → (v : Run) → Answered v s' (st.len + n) r → KeepAs (meet_item v) s' None
        each u t c (done w) g = absurd (subst (λ (z : Unified). Answered (done w) s' (st.len + n) z) e g)
        each u t c (mismatch x y) g = absurd (subst (λ (z : Unified). Answered (mismatch x y) s' (st.len + n) z) e g)
        each u t c large g = tt
