-- The loop over the inner types of an old type. Assumes nothing.
use mathlib.Core.Path.{◌≡◌, refl, sym, ◌∙◌, ap, ap₂, subst}
use mathlib.Core.List.{List, [], ◌∷◌, ◌++◌}
use mathlib.Core.Bool.{Bool, true, false, false≢true}
use Prim.Native.Nat.{ℕ, ◌+◌, ◌-◌, ◌≤◌, ◌<◌, min}
use native.Mathlib.Nat.{zero-add}
use native.Mathlib.Omega.{arith}
use lib.ListN.{length, take, drop, get_or, length-drop, length-append}
use borrow.Author.Tests.{eqb-true, eqb-false, ltb-false}
use Rattle.std.specs.Prelude.{Option, Some, None}
use Rattle.std.specs.Option.{option_map}
use Rattle.std.proofs.lemmas.Option.{none-some, same_Some}
use Rattle.semantics.specs.Bytes.{Bytes}
use Rattle.semantics.specs.Ty.{Ty, base, t_list, t_map, t_node, t_relationship, t_union, Tys, ∅, ◌⊕◌, Fields, ∅ᶠ, field, names, letter, name_to, line_to, fields_to, members_to, line, nesting, nesting_s, nesting_f, too_large, inserts, opened, gather, joined, unite, set_field, members, pack, base_in}
use Rattle.semantics.specs.Limits.{type_limit}
use Rattle.semantics.proofs.Order.{tail-eq}
use Rattle.semantics.proofs.Named.{NamedS, NamedF}
use Rattle.unify_run.proofs.Size.{NoLarger, below-trans, below-large, small-sound, gather-grows, element-inside}
use Rattle.ty.specs.Parts.{lines_of, TypeAt}
use Rattle.ty.specs.Union.{overlong}
use Rattle.ty.specs.Skip.{next_field}
use Rattle.ty.specs.declared.end.Content.TheVariants.{Types}
use Rattle.ty.specs.Read.{kind_of, content_of, goes_in, value_at}
use Rattle.ty.specs.Made.{Made as Stands, made as grown_by}
use Rattle.ty.specs.Merging.{head_to}
use Rattle.ty.proofs.Lines.{line-to, nesting-pos}
use Rattle.ty.proofs.NameLaws.{head-name}
use Rattle.ty.proofs.Places.{past, byte_at}
use Rattle.ty.proofs.Skips.{name-past, type-inside}
use Rattle.ty.proofs.Fields.{content_t, content-kind, type-byte, flat-nesting}
use Rattle.ty.proofs.Inner.{closed, not-closed}
use Rattle.ty.proofs.Loops.{value-bounds}
use Rattle.ty.proofs.Members.{union-line, members-pack, line-long}
use Rattle.ty.proofs.UnionGrows.{overlong-large}
use Rattle.old_lines.specs.Old.{distinct, distinct_names, distinct_names_s, distinct_names_f, made, made_s}
use Rattle.old.specs.declared.RegularType.{RegularType}
use Rattle.old.specs.Read.{Within}
use Rattle.ty.specs.Read.{parts_end}
use Rattle.old.specs.Make.{made_by, MadeAs, OldAt, MakesAt, Acc, opening, listed, mapped, united, acc_kind, AccAt, joined_by, acc_large, acc_long, acc_type, start_of, StartedAs, Join, SomeJoin, JoinedAs, Joins, Ending, SomeEnding}
use Rattle.old.specs.Make.{Ends as Ended}
use Rattle.old_lines.proofs.Alike.{first-true, second-true}
use Rattle.old_lines.proofs.Made.{inserts-append}
use Rattle.old.proofs.Answers.{grown-len, grown-large}
use Rattle.ty.proofs.Lent.{put_back, put-long, type_up}
use Rattle.old.proofs.Lent.{acc-stays}
use Rattle.old.proofs.SetAll.{set_all, New, new-start, set_all_lem, set_holds, all-grow, member-holds}

-- ## What is left of the inner types

pub data Parts (i l : ℕ) (x r : Bytes) (whole : Ty) : Acc → ℕ → Type 0 where
  the_one : (t : Ty) → i ≡ 0 → x ≡ line_to t r → Within l t → made whole ≡ t_list (made t) → Parts i l x r whole opening 74
  over : (u : Ty) → i ≡ 1 → x ≡ r → made whole ≡ t_list u → Parts i l x r whole (listed u) 74
  some_entries : (fs gs : Fields) → x ≡ fields_to fs r → NamedF fs → distinct_names_f fs ≡ true → nesting_f fs ≤ l → New fs gs → made whole ≡ t_map (set_all fs gs) → Parts i l x r whole (mapped gs) 75
  some_members : (ts : Tys) (src ms : List Ty) → x ≡ members_to ts r → NamedS ts → distinct_names_s ts ≡ true → nesting_s ts ≤ l → ms ≡ inserts src [] → made whole ≡ joined (gather (made_s ts) ms)
      → Parts i l x r whole (united ms) 79

pub record Making (s w : Bytes) (at left k q i n : ℕ) (ty : Ty) (rest : Bytes) : Type 0 where
  pub acc : Acc
  pub front : AccAt acc w n
  pub small : acc_large acc ≡ false
  pub parts : Parts i (left - 1) (drop q s) rest ty acc k
  pub inside : q ≤ length s
  pub from : at + 2 + i ≤ q
  pub few : n ≤ 1026

abbrev pub Makings : Bytes → Bytes → Bytes → ℕ → ℕ → ℕ → ℕ → ℕ → ℕ → Type 0
Makings s w₀ w at left k q i n =
    (length w ≡ length w₀) × (0 < left) × ((t : Ty) (rest : Bytes) → drop at s ≡ line_to t rest → Within left t → Making s w at left k q i n t rest)

pub old-deep : {s : Bytes} {at left : ℕ} → OldAt s at left → 0 < left
old-deep o = omega (arith, nesting-pos o.ty, o.within.1)

-- ## The start

map-small : acc_large (mapped ∅ᶠ) ≡ false
unfolding too_large line line_to fields_to nesting
map-small = refl

union-small : acc_large (united []) ≡ false
unfolding overlong joined line line_to letter
union-small = refl

module _ (s w w₁ : Bytes) (at left k n : ℕ) (e : k ≡ get_or s at 0) (c : content_of k ≡ Some Types) (st : StartedAs w w₁ k n) where
  pub making : (t : Ty) (rest : Bytes) → drop at s ≡ line_to t rest → Within left t → Making s w₁ at left k (at + 2) 0 n t rest
  unfolding line_to kind_of content_t nesting distinct_names made start_of inserts
  making t rest d w = go t d w (e ∙ type-byte s at t rest d) (content-kind t)
    where
      behind : (y : Bytes) (b : ℕ) → drop at s ≡ b ∷ 44 ∷ y → (drop (at + 2) s ≡ y) × (at + 2 ≤ length s)
      behind y b h = (past s at (b ∷ 44 ∷ []) y h, omega (arith, length-drop at s, ap length h))

      go : (t : Ty) → drop at s ≡ line_to t rest → Within left t → k ≡ kind_of t → content_of (kind_of t) ≡ Some (content_t t) → Making s w₁ at left k (at + 2) 0 n t rest
      go (base b) d w z o = absurd (cc (ap content_of z))
      go (t_node ls) d w z o = absurd (cc (ap content_of z))
      go (t_relationship m) d w z o = absurd (cc (ap content_of z))
      go (t_list t) d w z o =
          let b = behind (line_to t rest) 74 d in
          rw z
          (record {
            acc = opening;
            front = rw z at st.at;
            small = refl;
            parts = the_one t refl b.0 (w.0, omega (arith, w.1)) refl;
            inside = b.1;
            from = omega arith;
            few = omega (arith, st.few);
          })
      go (t_map fs) d w z o =
          let b = behind (fields_to fs rest) 75 d in
          let y = first-true (distinct (names fs)) (distinct_names_f fs) w.0.1 in
          rw z
          (record {
            acc = mapped ∅ᶠ;
            front = rw z at st.at;
            small = map-small;
            parts = some_entries fs ∅ᶠ b.0 w.0.0 (second-true (distinct (names fs)) (distinct_names_f fs) w.0.1) (omega (arith, w.1)) (new-start fs y) (ap t_map (sym (set_all_lem fs y)));
            inside = b.1;
            from = omega arith;
            few = omega (arith, st.few);
          })
      go (t_union ts) d w z o =
          let b = behind (members_to ts rest) 79 d in
          rw z
          (record {
            acc = united [];
            front = rw z at st.at;
            small = union-small;
            parts = some_members ts [] [] b.0 w.0.0 w.0.1 (omega (arith, w.1)) refl (unfold unite in refl);
            inside = b.1;
            from = omega arith;
            few = omega (arith, st.few);
          })

-- ## The next inner type

pub record Child (s : Bytes) (k q i l : ℕ) (r : Bytes) (whole : Ty) (a : Acc) : Type 0 where
  pub name : Bytes
  pub ty : Ty
  pub rest : Bytes
  pub is : drop (value_at k s q) s ≡ line_to ty rest
  pub within : Within l ty
  pub lead : k ≡ 75 → drop q s ≡ name_to name (drop (value_at k s q) s)
  pub first : k ≡ 74 → a ≡ opening
  pub kind : k ≡ acc_kind a
  pub held : NoLarger (made ty) (made whole)
  pub large : acc_large (joined_by a name (made ty)) ≡ true → too_large (made whole) ≡ true
  pub next : (e : ℕ) → drop e s ≡ rest → Parts (i + 1) l (drop e s) r whole (joined_by a name (made ty)) k

child : (s : Bytes) (q : ℕ) {k i l : ℕ} {x r : Bytes} {whole : Ty} {a : Acc} → goes_in k s q i ≡ true → drop q s ≡ x → Parts i l x r whole a k → Child s k q i l r whole a
unfolding goes_in value_at line_to fields_to members_to nesting distinct_names made gather set_all
child s q {r = r} {whole} g x (the_one t z e w m) =
    let h = element-inside (made t) in
    record {
      name = [];
      ty = t;
      rest = r;
      is = x ∙ e;
      within = w;
      lead = λ p. absurd (omega arith);
      first = λ _. refl;
      kind = refl;
      held = rw m (record { size = omega (arith, h.0); depth = omega (arith, h.1) });
      large = λ p. absurd (false≢true p);
      next = λ p d. over (made t) (omega arith) d m;
    }
child s q {i = i} g x (over u z e m) = absurd (omega (arith, eqb-true i 0 g))
child s q {r = r} g x (some_entries ∅ᶠ gs e f d h w m) = absurd (not-closed s q r g (x ∙ e))
child s q {r = r} {whole} g x (some_entries (field n t fs) gs e f d h w m) =
    let p = name-past s q n (line_to t (fields_to fs r)) (x ∙ e) in
    let in-s = p.0 in
    let v : min (next_field s q) (length s) ≡ next_field s q = omega arith in
    let grows = all-grow fs (set_field n (made t) gs) w.1 in
    record {
      name = n;
      ty = t;
      rest = fields_to fs r;
      is = rw v p.1;
      within = ((f.1, first-true (distinct_names t) (distinct_names_f fs) d), omega arith);
      lead = λ _. rw v (x ∙ e ∙ ap (name_to n) (sym p.1));
      first = λ z. absurd (omega arith);
      kind = refl;
      held = rw m (below-trans (set_holds n (made t) gs w.0) grows);
      large = λ o. rw m (below-large grows o);
      next = λ y g. some_entries fs (set_field n (made t) gs) g f.2 (second-true (distinct_names t) (distinct_names_f fs) d) (omega arith) w.1 m;
    }
child s q {r = r} g x (some_members ∅ src ms e f d h z m) = absurd (not-closed s q r g (x ∙ e))
child s q {r = r} {whole} g x (some_members (t ⊕ ts) src ms e f d h z m) =
    let us = inserts (opened (made t)) ms in
    let grows = gather-grows (made_s ts) us in
    record {
      name = [];
      ty = t;
      rest = members_to ts r;
      is = x ∙ e;
      within = ((f.0, first-true (distinct_names t) (distinct_names_s ts) d), omega arith);
      lead = λ y. absurd (omega arith);
      first = λ y. absurd (omega arith);
      kind = refl;
      held = rw m (below-trans (subst (λ (l : List Ty). NoLarger (made t) (joined (inserts (opened (made t)) l))) (sym z) (member-holds t src)) grows);
      large = λ o. rw m (below-large grows (overlong-large us o));
      next = λ y g. some_members ts (src ++ opened (made t)) us g f.1 (second-true (distinct_names t) (distinct_names_s ts) d) (omega arith)
          (ap (inserts (opened (made t))) z ∙ sym (inserts-append src (opened (made t)) [])) m;
    }

-- ## Its answer

pub answer-done : (b : Bool) (e l : ℕ) (p : RegularType) (r : Option RegularType) → r ≡ made_by b e l → r ≡ Some p → (b ≡ false) × (e ≡ p.end) × (l ≡ p.len)
answer-done true e l p r h f = absurd (none-some p (sym h ∙ f))
answer-done false e l p r h f = let z = same_Some (record { end = e; len = l }) p (sym h ∙ f) in (refl, ap (λ (x : RegularType). x.end) z, ap (λ (x : RegularType). x.len) z)

pub answer-large : (b : Bool) (e l : ℕ) (r : Option RegularType) → r ≡ made_by b e l → r ≡ None → b ≡ true
answer-large true e l r h f = refl
answer-large false e l r h f = absurd (none-some (record { end = e; len = l }) (sym f ∙ h))

pub too_large_lem : {w₀ w : Bytes} {end : ℕ} {u : Ty} → length w ≡ length w₀ → too_large u ≡ true → MadeAs w₀ w end u None
too_large_lem l o = record { answer = rw o; stands = λ h. absurd (false≢true (sym h ∙ o)); long = l }

lines-joined : (ms : List Ty) → length (lines_of ms) ≤ length (line (joined ms))
unfolding lines_of joined
lines-joined [] = omega arith
lines-joined (t ∷ []) = omega (arith, length-append (line t) [])
lines-joined (t ∷ u ∷ ts) =
    let l = t ∷ u ∷ ts in
    omega (arith, ap length (union-line (pack l)), ap (λ (x : List Ty). length (lines_of x)) (members-pack l), length-append (lines_of (members (pack l))) (33 ∷ 44 ∷ []))

join-few : (a : Acc) (m : Bytes) (u : Ty) → length (line u) ≤ 1024 → acc_large (joined_by a m u) ≡ false → acc_long (joined_by a m u) ≤ 1026
unfolding line line_to
join-few opening m u h o = omega arith
join-few (listed v) m u h o = omega arith
join-few (mapped fs) m u h o = omega (arith, (small-sound (t_map (set_field m u fs)) o).0)
join-few (united ms) m u h o = omega (arith, lines-joined (inserts (opened u) ms), short (inserts (opened u) ms) o)
  where
    short : (l : List Ty) → overlong l ≡ false → length (line (joined l)) ≤ 1024
    short l p = unfold overlong in ltb-false type_limit (length (line (joined l))) p

module _ (s w : Bytes) (at left k q i n : ℕ) (ty : Ty) (rest : Bytes) (m : Making s w at left k q i n ty rest) (g : goes_in k s q i ≡ true) where
  next : Child s k q i (left - 1) rest ty m.acc
  next = child s q g refl m.parts

  pub child-old : OldAt s (value_at k s q) (left - 1)
  child-old = record { ty = next.ty; rest = next.rest; is = next.is; within = next.within }

  module _ (ws w₁ : Bytes) (v : ℕ) (zv : v ≡ value_at k s q) (r : Option RegularType) (h : MakesAt s ws w₁ v (left - 1) r) where
    made-child : MadeAs ws w₁ (v + length (line next.ty)) (made next.ty) r
    made-child = h next.ty next.rest (rw zv next.is) next.within

    pub child-large : r ≡ None → too_large (made ty) ≡ true
    child-large d = below-large next.held (answer-large (too_large (made next.ty)) (v + length (line next.ty)) (length (line (made next.ty))) r made-child.answer d)

    module _ (p : RegularType) (d : r ≡ Some p) where
      told : (too_large (made next.ty) ≡ false) × (v + length (line next.ty) ≡ p.end) × (length (line (made next.ty)) ≡ p.len)
      told = answer-done (too_large (made next.ty)) (v + length (line next.ty)) (length (line (made next.ty))) p r made-child.answer d

      pub child-bounds : (q < p.end) × (p.end ≤ length s) × (p.len ≤ 1024)
      child-bounds =
          let t = told in
          let b = value-bounds k s q m.inside in
          (omega (arith, zv, t.1, b.0, line-long next.ty), omega (arith, zv, t.1, type-inside s (value_at k s q) next.ty next.rest next.is), omega (arith, (small-sound (made next.ty) t.0).0, t.2))

      behind-child : drop p.end s ≡ next.rest
      behind-child = subst (λ (j : ℕ). drop j s ≡ next.rest) told.1 (past s v (line next.ty) next.rest (rw zv next.is ∙ line-to next.ty next.rest))

      module _ (hn : n ≤ length w) (l : length w₁ ≡ length (take (length w - n) (drop n w))) where
        stood : TypeAt (put_back w n w₁) n (n + p.len) (made next.ty)
        stood = type_up w w₁ n hn l (subst (λ (j : ℕ). TypeAt w₁ 0 j (made next.ty)) told.2 (made-child.stands told.0))

        the-join : 1024 ≤ length w → Join s k q (put_back w n w₁) n (n + p.len) m.acc next.name (made next.ty)
        the-join o =
            record {
              kind = next.kind;
              first = next.first;
              at = acc-stays w w₁ n hn l m.acc m.front;
              new = stood;
              rest = drop (value_at k s q) s;
              lead = next.lead;
              room = omega (arith, put-long w w₁ n hn l);
              small = m.small;
            }

        pub join-ready : 1024 ≤ length w → SomeJoin s k q (put_back w n w₁) n (n + p.len)
        join-ready o = record { acc = m.acc; name = next.name; ty = made next.ty; join = the-join o }

        module _ (o : 1024 ≤ length w) (w₂ : Bytes) (gr : Option ℕ) (j : Joins s k q (put_back w n w₁) w₂ n (n + p.len) gr) where
          joint : JoinedAs (put_back w n w₁) w₂ (joined_by m.acc next.name (made next.ty)) gr
          joint = j m.acc next.name (made next.ty) (the-join o)

          pub step-long : length w₂ ≡ length w
          step-long = joint.long ∙ put-long w w₁ n hn l

          pub step-on : (n' : ℕ) → gr ≡ Some n' → Making s w₂ at left k p.end (i + 1) n' ty rest
          step-on n' f =
              let a = joined_by m.acc next.name (made next.ty) in
              let (b, z) = grown-len (acc_large a) (acc_long a) n' gr joint.answer f in
              record {
                acc = a;
                front = subst (λ (x : ℕ). AccAt a w₂ x) z (joint.stands b);
                small = b;
                parts = next.next p.end behind-child;
                inside = child-bounds.1;
                from = omega (arith, m.from, child-bounds.0);
                few = omega (arith, z, join-few m.acc next.name (made next.ty) (small-sound (made next.ty) told.0).0 b);
              }

          pub step-large : gr ≡ None → too_large (made ty) ≡ true
          step-large f = let a = joined_by m.acc next.name (made next.ty) in next.large (grown-large (acc_large a) (acc_long a) gr joint.answer f)

-- ## The end

abbrev pub at_end : ℕ → ℕ → RegularType
at_end e j = record { end = e; len = j }

not-mark : (t : Ty) → kind_of t ≡ 33 → ⊥
unfolding content_t content_of base_in letter
not-mark t e = none-some (content_t t) (ap content_of (sym e) ∙ content-kind t)

record Over (s : Bytes) (k q : ℕ) (r : Bytes) (whole : Ty) (a : Acc) : Type 0 where
  kind : k ≡ acc_kind a
  some : a ≡ opening → ⊥
  is : acc_type a ≡ made whole
  behind : drop (parts_end k q) s ≡ r
  inside : parts_end k q ≤ length s

abbrev is_opening : Acc → Bool
is_opening opening = true
is_opening (listed u) = false
is_opening (mapped fs) = false
is_opening (united ms) = false

parts-over : (s : Bytes) (q : ℕ) {k i l : ℕ} {x r : Bytes} {whole : Ty} {a : Acc} → goes_in k s q i ≡ false → drop q s ≡ x → q ≤ length s → Parts i l x r whole a k → Over s k q r whole a
unfolding goes_in fields_to members_to set_all made gather head_to
parts-over s q {i = i} g x o (the_one t z e w m) = absurd (eqb-false i 0 g z)
parts-over s q g x o (over u z e m) = record { kind = refl; some = λ h. false≢true (ap is_opening h); is = sym m; behind = x ∙ e; inside = o }
parts-over s q {r = r} g x o (some_entries ∅ᶠ gs e f d h w m) =
    let c = closed s q g in
    record { kind = refl; some = λ h. false≢true (ap is_opening h); is = sym m; behind = tail-eq (tail-eq (sym c.0 ∙ x ∙ e)); inside = c.1 }
parts-over s q {r = r} g x o (some_entries (field n t fs) gs e f d h w m) =
    absurd (head-name s q n (record { rest = line_to t (fields_to fs r); is = x ∙ e }) (byte_at s q (44 ∷ drop (q + 2) s) 33 (closed s q g).0))
parts-over s q g x o (some_members ∅ src ms e f d h z m) =
    let c = closed s q g in
    record { kind = refl; some = λ h. false≢true (ap is_opening h); is = sym m; behind = tail-eq (tail-eq (sym c.0 ∙ x ∙ e)); inside = c.1 }
parts-over s q {r = r} g x o (some_members (t ⊕ ts) src ms e f d h z m) =
    absurd (not-mark t (sym (type-byte s q t (members_to ts r) (x ∙ e)) ∙ byte_at s q (44 ∷ drop (q + 2) s) 33 (closed s q g).0))

module _ (s w : Bytes) (at left k q i n : ℕ) (ty : Ty) (rest : Bytes) (m : Making s w at left k q i n ty rest) (g : goes_in k s q i ≡ false) where
  done : Over s k q rest ty m.acc
  done = parts-over s q g refl m.inside m.parts

  the_end : 3096 ≤ length w → Ending k w n m.acc
  the_end h = record { kind = done.kind; some = done.some; at = m.front; small = m.small; room = omega (arith, m.few) }

  pub end-ready : 3096 ≤ length w → SomeEnding k w n
  end-ready h = record { acc = m.acc; ending = the_end h }

  pub finished : 3096 ≤ length w → drop at s ≡ line_to ty rest → (w₀ w' : Bytes) → length w ≡ length w₀ → (gr : Option ℕ) → Ended k w w' n gr → (r : Option RegularType)
      → r ≡ option_map (at_end (parts_end k q)) gr → MadeAs w₀ w' (at + length (line ty)) (made ty) r
  finished h d w₀ w' l gr f r o =
      let a = f m.acc (the_end h) in
      let place : parts_end k q ≡ at + length (line ty) = omega (arith, type-inside s at ty rest d, length-drop (parts_end k q) s, ap length done.behind, done.inside) in
      let b : Stands w w' 0 (made ty) gr = subst (λ (u : Ty). Stands w w' 0 u gr) done.is a in
      record {
        answer = o ∙ ap₂ ended_by b.answer place ∙ ended-made (too_large (made ty)) (length (line (made ty))) (at + length (line ty));
        stands = λ c. subst (λ (j : ℕ). TypeAt w' 0 j (made ty)) (zero-add (length (line (made ty)))) (b.stands c);
        long = b.long ∙ l;
      }
    where
      ended_by : Option ℕ → ℕ → Option RegularType
      ended_by g e = option_map (at_end e) g

      ended-made : (b : Bool) (n e : ℕ) → ended_by (grown_by b n) e ≡ made_by b e n
      ended-made true n e = refl
      ended-made false n e = refl

-- ## A type that holds no types

module _ (s : Bytes) (at left : ℕ) (c : content_of (get_or s at 0) ≡ Some Types → ⊥) where
  flat-one : (t : Ty) (rest : Bytes) → drop at s ≡ line_to t rest → nesting t ≡ 1
  flat-one t rest d = flat-nesting t (λ y. c (ap content_of (type-byte s at t rest d) ∙ content-kind t ∙ ap Some y))

  pub flat-old : OldAt s at left → OldAt s at 1
  flat-old o = record { ty = o.ty; rest = o.rest; is = o.is; within = (o.within.0, omega (arith, flat-one o.ty o.rest o.is)) }

  pub flat-makes : (w w' : Bytes) (r : Option RegularType) → MakesAt s w w' at 1 r → MakesAt s w w' at left r
  flat-makes w w' r h t rest d v = h t rest d (v.0, omega (arith, flat-one t rest d))
