-- Two maps: the loop of `unify_maps`, its start and its end. Assumes nothing.
use Rattle.std.specs.Prelude.{Option as StdOption, Some, None, Ok, Err}
use Rattle.std.specs.Prelude.{IfSome}
use Prim.Native.Nat.{ℕ, ◌+◌, ◌-◌, ◌*◌, ◌≤◌, ◌<◌}
use native.Mathlib.Omega.{arith}
use mathlib.Core.Path.{◌≡◌, refl, sym, ◌∙◌, ap, subst}
use mathlib.Core.Bool.{Bool, true, false, cond, ◌||◌}
use mathlib.Core.List.{[], ◌∷◌}
use mathlib.Core.Option.{Option, none, some}
use lib.ListN.{length, take}
use lib.Seq.{slice, sets}
use Rattle.semantics.specs.Bytes.{Bytes}
use Rattle.semantics.specs.Ty.{Ty, t_map, Fields, ∅ᶠ, line_to, fields_to, line, nesting, nesting_f, is_union}
use Rattle.text.proofs.Laws.{copied, take_below}
use Rattle.ty.specs.declared.merging.Merge.{Merge}
use Rattle.ty.specs.Parts.{TypeAt}
use Rattle.ty.specs.Merging.{kept_of, Few, closed_of, closed_text}
use Rattle.ty.proofs.MergeLaws.{split-part, put-behind, closed-long}
use Rattle.unify_run.specs.Run.{Run, done, on_done, long, kept, keep, close_map, run_maps}
use Rattle.unify.specs.Work.{Unified, Operand, PartReady, slots, judged, Answered, Unifies, Below}
use Rattle.unify.specs.Made.{SomeMade, Tested}
use Rattle.unify.specs.Entries.{Value, here, later, entries_of, EntriesAt, kept_size, KeptAt, FieldsKept, value_at}
use Rattle.unify.specs.Merges.{MergeFor, SomeMerge, MetFor, SomeMet, Lone, PairFor, EndFor, Entered, SomeMaps, MapsAnswer}
use Rattle.unify.specs.declared.Span.{Span}
use Rattle.unify.specs.declared.UnifyError.{UnifyError}
use Rattle.unify.specs.declared.UnifyError.TheVariants.{TooLarge}
use Rattle.unify.specs.declared.maps.Values.{Values}
use Rattle.unify.proofs.Marks.{same_operand, operand_less, below_then, below_less, below-sets, below-entries}
use Rattle.unify.proofs.EntryParts.{map-line}
use Rattle.unify.proofs.KeptMap.{kept-few, name-few, few-less, kept-value, kept-stays}
use Rattle.unify.proofs.PartAnswers.{answer-done, apart-too}

-- ## Room

value-nesting : {x : Ty} {fs : Fields} → Value x fs → nesting x ≤ nesting_f fs
unfolding nesting
value-nesting here = omega arith
value-nesting (later v) = let h = value-nesting v in omega arith

one_more : (b : Bool) → cond b 1 0 ≤ 1
one_more true = omega arith
one_more false = omega arith

inner-slots : (x y : Ty) (fs gs : Fields) → Value x fs → Value y gs → 1 + slots x y ≤ slots (t_map fs) (t_map gs)
unfolding slots nesting is_union
inner-slots x y fs gs v w =
    let a = value-nesting v in
    let b = value-nesting w in
    let c = one_more (is_union x || is_union y) in
    omega arith

map-slots : (fs gs : Fields) → 1 ≤ slots (t_map fs) (t_map gs)
unfolding slots nesting is_union
map-slots fs gs = omega arith

-- ## The beginning

-- how a map begins
map-head : {s : Bytes} {a : Span} {mark : ℕ} {fs : Fields} → Operand s a mark (t_map fs) → (a.from + 2 ≤ a.to) × (slice a.from (a.from + 2) s ≡ 75 ∷ 44 ∷ []) × (slice (a.from + 2) a.to s ≡ fields_to fs [])
unfolding line line_to
map-head {s} {a} {mark} {fs} h = split-part s a.from a.to (75 ∷ 44 ∷ []) (fields_to fs []) h.at.ordered h.at.inside h.at.is

map-entries : {s : Bytes} {a : Span} {mark : ℕ} {fs : Fields} → Operand s a mark (t_map fs) → EntriesAt s (a.from + 2) mark fs
map-entries {s} {a} h = let (i, f, r) = map-head h in record { end = a.to; ordered = i; below = h.below; inside = h.at.inside; is = r; regular = h.regular; small = h.small }

kept-empty : kept ∅ᶠ ≡ some ∅ᶠ
unfolding kept long line line_to
kept-empty = refl

pub maps-bounds : {s : Bytes} {a b : Span} {mark : ℕ} → SomeMaps s a b mark → (a.from + 2 ≤ mark) × (b.from + 2 ≤ mark) × (mark + 1024 ≤ length s)
maps-bounds p = (omega (arith, (map-head p.first).0, p.first.below), omega (arith, (map-head p.second).0, p.second.below), omega (arith, p.room, map-slots p.left p.right))

module _ {s s₁ : Bytes} {a b : Span} {mark : ℕ} (p : SomeMaps s a b mark) (copy : s₁ ≡ sets s mark (slice a.from (a.from + 2) s)) where
  start-below : Below s s₁ mark
  start-below = subst (λ (x : Bytes). Below s x mark) (sym copy) (below-sets s mark mark (slice a.from (a.from + 2) s) (omega arith))

  start-kept : KeptAt s₁ mark (Some 2) (kept ∅ᶠ)
  unfolding entries_of
  start-kept =
      let (i, f, g) = map-head p.first in
      let (x, y, z) = maps-bounds p in
      rw kept-empty
      (record {
        long = refl;
        fits = omega arith;
        is = ap (λ (l : Bytes). slice mark (mark + 2) l) copy ∙ copied s a.from mark 2 (omega arith) (omega arith) ∙ f;
      })

  start-merge : (fs gs : Fields) → Operand s a mark (t_map fs) → Operand s b mark (t_map gs) → MergeFor s₁ (record { p = a.from + 2; q = b.from + 2; n = Some 2 }) mark (run_maps judged fs gs (kept ∅ᶠ))
  start-merge fs gs o q =
      let i : t_map p.left ≡ t_map fs = same_operand p.first o in
      let j : t_map p.right ≡ t_map gs = same_operand p.second q in
      let room : mark + 1024 * slots (t_map fs) (t_map gs) ≤ length s =
      subst (λ (t : Ty). mark + 1024 * slots t (t_map gs) ≤ length s) i (subst (λ (t : Ty). mark + 1024 * slots (t_map p.left) t ≤ length s) j p.room) in
      let l = start-below.long in
      record {
        first = fs;
        second = gs;
        k = kept ∅ᶠ;
        first_at = below-entries start-below (map-entries o);
        second_at = below-entries start-below (map-entries q);
        kept = start-kept;
        comes = refl;
        rooms = λ x y v d. omega (arith, room, inner-slots x y fs gs v d, l);
        room = omega (arith, (maps-bounds p).2, l);
      }

  pub maps-some : SomeMerge s₁ (record { p = a.from + 2; q = b.from + 2; n = Some 2 }) mark
  maps-some = record { run = run_maps judged p.left p.right (kept ∅ᶠ); merge = start-merge p.left p.right p.first p.second }

-- ## The loop: s₀ is the work area at first, s as it is now

pub record MapsInv (s₀ : Bytes) (a b : Span) (mark : ℕ) (s : Bytes) (m : Merge) : Type 0 where
  pub some : SomeMaps s₀ a b mark
  pub below : Below s₀ s mark
  pub met : (fs gs : Fields) → Operand s₀ a mark (t_map fs) → Operand s₀ b mark (t_map gs) → MetFor s m mark (run_maps judged fs gs (kept ∅ᶠ))

pub maps-init : {s s₁ s₂ : Bytes} {a b : Span} {mark : ℕ} {m : Merge} (p : SomeMaps s a b mark) → s₁ ≡ sets s mark (slice a.from (a.from + 2) s)
    → Lone s₁ s₂ (record { p = a.from + 2; q = b.from + 2; n = Some 2 }) mark m → MapsInv s a b mark s₂ m
maps-init p copy l =
    record { some = p; below = below_then (start-below p copy) l.below; met = λ fs gs o q. l.met (run_maps judged fs gs (kept ∅ᶠ)) (start-merge p copy fs gs o q) }

module _ {s₀ : Bytes} {a b : Span} {mark : ℕ} {s : Bytes} {m : Merge} (i : MapsInv s₀ a b mark s m) where
  the_run : Run
  the_run = run_maps judged i.some.left i.some.right (kept ∅ᶠ)

  the-met : MetFor s m mark the_run
  unfolding the_run
  the-met = i.met i.some.left i.some.right i.some.first i.some.second

  pub maps-met : SomeMet s m mark
  maps-met = record { run = the_run; met = the-met }

  -- ### The values of a common name

  module _ {s₁ : Bytes} {v : Values} (e : Entered s s₁ m mark (Some v)) where
    the_pair : PairFor s₁ m.p mark v the_run
    the_pair = e.next the_run the-met

    value-range : (mark ≤ v.at) × (v.at ≤ mark + 1022)
    value-range = let p = the_pair in subst (λ (k : ℕ). (mark ≤ k) × (k ≤ mark + 1022)) (sym p.at) (few-less mark v.kept (name-few s₁ mark v.kept p.name p.k p.kept))

    pub values-part : PartReady s₁ v.first v.second v.at mark
    values-part =
        let p = the_pair in
        let r = value-range in
        record { left = p.left; right = p.right; first = operand_less r.0 p.left_at; second = operand_less r.0 p.right_at; above = r.0; within = omega arith; room = p.room }

    module _ {s₂ : Bytes} {r : Unified} (u : Unifies s₁ s₂ v.first v.second v.at r) where
      below₂ : Below s₀ s₂ mark
      below₂ = below_then i.below (below_then e.below (below_less value-range.0 u.below))

      value-answer : {R : Run} (p : PairFor s₁ m.p mark v R) → Answered (judged p.left p.right) s₂ v.at r
      value-answer p = u.answer p.left p.right (operand_less value-range.0 p.left_at) (operand_less value-range.0 p.right_at)

      pub maps-apart : {d : UnifyError} → r ≡ Err d → MapsAnswer s₀ s₂ a b mark (Err d)
      maps-apart {d} k = record { below = below₂; answer = λ fs gs o q. go (e.next (run_maps judged fs gs (kept ∅ᶠ)) (i.met fs gs o q)) }
        where
          go : {R : Run} → PairFor s₁ m.p mark v R → Answered R s₂ mark (Err d)
          go p =
              subst (λ (R : Run). Answered R s₂ mark (Err d)) p.comes
              (apart-too s₂ v.at mark d (judged p.left p.right) (λ t. run_maps judged p.first p.second (keep p.name t p.k)) (subst (λ (z : Unified). Answered (judged p.left p.right) s₂ v.at z) k (value-answer p)))

      module _ {end : ℕ} (k : r ≡ Ok end) where
        made : {R : Run} (p : PairFor s₁ m.p mark v R) → (t : Ty) × (judged p.left p.right ≡ done t) × TypeAt s₂ v.at end t
        made p = answer-done (judged p.left p.right) (subst (λ (z : Unified). Answered (judged p.left p.right) s₂ v.at z) k (value-answer p))

        pub value-ends : (v.at ≤ end) × (end ≤ length s₂)
        value-ends = let (t, f, g) = made the_pair in (g.ordered, g.inside)

        pub value-few : length s₂ + 1024 < 18446744073709551616 → IfSome v.kept (λ n. n + (end - v.at) + 2 < 18446744073709551616)
        value-few h = go v.kept the_pair.at (name-few s₁ mark v.kept the_pair.name the_pair.k the_pair.kept)
          where
            go : (n : StdOption ℕ) → v.at ≡ value_at mark n → Few n → IfSome n (λ j. j + (end - v.at) + 2 < 18446744073709551616)
            go None q f = tt
            go (Some j) q f = omega (arith, value-ends)

        after-merge : {n : StdOption ℕ} → n ≡ kept_of v.kept (end - v.at) → (R : Run) → PairFor s₁ m.p mark v R → MergeFor s₂ (record { p = v.first.to; q = v.second.to; n = n }) mark R
        after-merge {n} en R p = go (made p)
          where
            go : (t : Ty) × (judged p.left p.right ≡ done t) × TypeAt s₂ v.at end t → MergeFor s₂ (record { p = v.first.to; q = v.second.to; n = n }) mark R
            go (t, f, g) =
                let below : Below s₁ s₂ mark = below_less value-range.0 u.below in
                record {
                  first = p.first;
                  second = p.second;
                  k = keep p.name t p.k;
                  first_at = below-entries below p.first_at;
                  second_at = below-entries below p.second_at;
                  kept = rw en
                      (kept-value s₂ mark end (end - v.at) v.kept p.k p.name t (kept-stays s₁ s₂ mark v.at v.kept p.name p.k u.below p.at p.kept) (subst (λ (j : ℕ). TypeAt s₂ j end t) p.at g)
                      (ap (λ (j : ℕ). end - j) p.at));
                  comes = ap (λ (Q : Run). on_done Q (λ w. run_maps judged p.first p.second (keep p.name w p.k))) (sym f) ∙ p.comes;
                  rooms = λ x y j l. omega (arith, p.rooms x y j l, below.long);
                  room = omega (arith, p.room, below.long);
                }

        module _ {n : StdOption ℕ} (en : n ≡ kept_of v.kept (end - v.at)) where
          pub maps-after : SomeMerge s₂ (record { p = v.first.to; q = v.second.to; n = n }) mark
          maps-after = record { run = the_run; merge = after-merge en the_run the_pair }

          module _ {s₃ : Bytes} {m' : Merge} (l : Lone s₂ s₃ (record { p = v.first.to; q = v.second.to; n = n }) mark m') where
            pub maps-again : MapsInv s₀ a b mark s₃ m'
            maps-again =
                record {
                  some = i.some;
                  below = below_then below₂ l.below;
                  met = λ fs gs o q. let R = run_maps judged fs gs (kept ∅ᶠ) in l.met R (after-merge en R (e.next R (i.met fs gs o q)));
                }

            pub maps-less : mark - m'.p < mark - m.p
            maps-less = let p = the_pair in omega (arith, p.past, p.left_at.below, l.past)

  -- ### The end of both

  module _ {s₁ : Bytes} (e : Entered s s₁ m mark None) where
    the_end : EndFor s₁ mark m.n the_run
    the_end = e.next the_run the-met

    pub end-room : (mark + 1024 ≤ length s₁) × Few m.n
    end-room = let h = the_end in (omega (arith, (maps-bounds i.some).2, i.below.long, e.below.long), kept-few s₁ mark m.n h.k h.kept)

    module _ {s₂ : Bytes} (text : s₂ ≡ closed_text s₁ mark m.n) where
      close-below : Below s₁ s₂ mark
      unfolding closed_text
      close-below = record { kept = rw text (go m.n); long = rw text (closed-long s₁ mark m.n) }
        where
          go : (n : StdOption ℕ) → take mark (closed_text s₁ mark n) ≡ take mark s₁
          go None = refl
          go (Some k) = take_below mark s₁ (mark + k) (33 ∷ 44 ∷ []) (omega arith)

      -- the map that is kept stands there
      closed-at : {k : ℕ} (fs : Fields) → closed_of m.n ≡ Some k → FieldsKept s₁ mark m.n fs → TypeAt s₂ mark (mark + k) (t_map fs)
      unfolding closed_of closed_text
      closed-at {k} fs c h =
          let z : k ≡ kept_size fs + 2 = size (rw h.long at c) in
          let w : s₂ ≡ sets s₁ (mark + kept_size fs) (33 ∷ 44 ∷ []) = rw h.long at text in
          let r = end-room in
          record {
            ordered = omega arith;
            inside = omega (arith, close-below.long, h.fits);
            is = rw (w, z) (put-behind s₁ mark (kept_size fs) (75 ∷ 44 ∷ entries_of fs) (33 ∷ 44 ∷ []) h.is (omega arith) (omega (arith, h.fits)) ∙ sym (map-line fs));
          }
        where
          size : Some (kept_size fs + 2) ≡ Some k → k ≡ kept_size fs + 2
          size q = cc

      -- what is kept is no map where it is over
      pub end-over : closed_of m.n ≡ None → MapsAnswer s₀ s₂ a b mark (Err TooLarge)
      unfolding close_map closed_of
      end-over c = record { below = below_then i.below (below_then e.below close-below); answer = λ fs gs o q. go (e.next (run_maps judged fs gs (kept ∅ᶠ)) (i.met fs gs o q)) }
        where
          none-kept : (k : Option Fields) → KeptAt s₁ mark m.n k → Answered (close_map k) s₂ mark (Err TooLarge)
          none-kept none h = tt
          none-kept (some fs) h = absurd (let z = rw h.long at c in cc)

          go : {R : Run} → EndFor s₁ mark m.n R → Answered R s₂ mark (Err TooLarge)
          go h = subst (λ (R : Run). Answered R s₂ mark (Err TooLarge)) h.comes (none-kept h.k h.kept)

      module _ {k : ℕ} (c : closed_of m.n ≡ Some k) where
        pub end-made : SomeMade s₂ mark (mark + k)
        unfolding closed_of
        end-made = let h = the_end in go h.k h.kept
          where
            go : (o : Option Fields) → KeptAt s₁ mark m.n o → SomeMade s₂ mark (mark + k)
            go none h = absurd (let z = rw h at c in cc)
            go (some fs) h = record { ty = t_map fs; at = closed-at fs c h }

        pub end-done : {q : Unified} → Tested s₂ mark (mark + k) q → MapsAnswer s₀ s₂ a b mark q
        unfolding close_map closed_of
        end-done {q} t = record { below = below_then i.below (below_then e.below close-below); answer = λ fs gs x y. go (e.next (run_maps judged fs gs (kept ∅ᶠ)) (i.met fs gs x y)) }
          where
            kept-one : (o : Option Fields) → KeptAt s₁ mark m.n o → Answered (close_map o) s₂ mark q
            kept-one none h = absurd (let z = rw h at c in cc)
            kept-one (some fs) h = t (t_map fs) (closed-at fs c h)

            go : {R : Run} → EndFor s₁ mark m.n R → Answered R s₂ mark q
            go h = subst (λ (R : Run). Answered R s₂ mark q) h.comes (kept-one h.k h.kept)
