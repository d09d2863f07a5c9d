-- What is made of a type that holds no types, and one inner type more. Assumes nothing.
use mathlib.Core.Path.{◌≡◌, refl, sym, ◌∙◌, ap, ap₂, subst}
use mathlib.Core.List.{List, [], ◌∷◌, ◌++◌, map}
use mathlib.Core.Option.{none, some}
use mathlib.Core.Bool.{Bool, true, false, cond, not}
use Prim.Native.Nat.{ℕ, ◌+◌, ◌-◌, ◌≤◌, ◌<◌}
use native.Mathlib.Nat.{zero-add}
use native.Mathlib.Omega.{arith}
use lib.ListN.{length, take, drop, get_or, length-drop}
use lib.Seq.{slice, sets, length-sets}
use borrow.Author.Tests.{eq-eqb, ne_eqb}
use Rattle.std.specs.Prelude.{Option, Some, None}
use Rattle.text.specs.Text.{index_of}
use Rattle.semantics.specs.Bytes.{Bytes, hex}
use Rattle.semantics.specs.Ty.{Ty, base, t_list, t_map, t_node, t_relationship, t_union, name_to, names_to, labels_to, rel_to, line_to, fields_to, line, nesting, too_large, inserts, opened, joined, set_field, insert_names}
use Rattle.semantics.proofs.Named.{Names, Named}
use Rattle.unify_run.proofs.Size.{small-true}
use Rattle.text.proofs.Laws.{slice-sets, slice-join}
use Rattle.ty.specs.Parts.{lines_of, TypeAt, TypeFrom, EndsAt}
use Rattle.ty.specs.Union.{AddedOpened, Closed}
use Rattle.ty.specs.Entry.{Entered}
use Rattle.ty.specs.declared.end.Content.TheVariants.{Types}
use Rattle.ty.specs.Read.{kind_of, content_of}
use Rattle.ty.specs.Made.{Made as Stands, made as grown_by}
use Rattle.ty.proofs.Lines.{line-to, letter-away, special}
use Rattle.ty.proofs.NameLaws.{name-long}
use Rattle.ty.proofs.Places.{past, part, byte_past, byte_at}
use Rattle.ty.proofs.Skips.{type-inside}
use Rattle.ty.proofs.Fields.{content_t, content-kind, type-byte, name_part}
use Rattle.ty.proofs.EntryLaws.{front-from}
use Rattle.old_lines.specs.Old.{made, made_labels}
use Rattle.old.specs.declared.RegularType.{RegularType}
use Rattle.old.specs.Read.{Within}
use Rattle.old.specs.Make.{MadeAs, OldAt, MakesAt, SamePlace, Copies, SomeNames, LabelsMade, Acc, opening, listed, mapped, united, AccAt, joined_by, acc_type, start_of, StartedAs, Join, SomeJoin, EnteringMap, JoinedAs, Joins, Ending, SomeEnding}
use Rattle.old.proofs.Answers.{type-long}
use Rattle.old.proofs.EntryDepth.{one_map}

front-sets : (w x : Bytes) → length x ≤ length w → slice 0 (length x) (sets w 0 x) ≡ x
front-sets w x h = rw (zero-add (length x)) at (slice-sets w 0 x (omega arith))

-- ## A type that is regular as it stands

pub copy-bounds : (s : Bytes) (at e : ℕ) → SamePlace s at → EndsAt s at e → (at ≤ e) × (e ≤ length s) × (e - at ≤ 1024)
copy-bounds s at e p h =
    let z = h p.ty p.rest p.is in
    (omega arith, omega (arith, type-inside s at p.ty p.rest p.is), omega (arith, p.small))

pub copies : (s w w' : Bytes) (at e n : ℕ) (x : Bytes) → SamePlace s at → 1024 ≤ length w → EndsAt s at e → x ≡ slice at e s → (n ≡ 0 + length x) × (w' ≡ sets w 0 x) → Copies s w w' at (Some (record { end = e; len = n }))
copies s w w' at e n x p room h y o t rest d m b =
    let z = h t rest d in
    let i : slice at e s ≡ line t = rw z (part s at (line t) rest (d ∙ line-to t rest)) in
    let is : x ≡ line t = y ∙ i in
    let small = copy-bounds s at e p h in
    let l : n ≡ length (line t) = omega (arith, o.0, ap length is) in
    let f : w' ≡ sets w 0 (line t) = o.1 ∙ ap (sets w 0) is in
    let fits : length (line t) ≤ length w = omega arith in
    subst (λ (u : Ty). MadeAs w w' (at + length (line t)) u (Some (record { end = e; len = n }))) (sym m)
    (record {
      answer = rw b (ap₂ (λ (j k : ℕ). Some (record { end = j; len = k })) z l);
      stands = λ _. record { ordered = omega arith; inside = rw f (omega (arith, length-sets w 0 (line t))); is = rw f (front-sets w (line t) fits) };
      long = ap length f ∙ length-sets w 0 (line t);
    })

-- ## Types that hold no types

special-node : special 76 ≡ true
unfolding special
special-node = refl

data Flat (t : Ty) : Type 0 where
  plain : made t ≡ t → too_large t ≡ false → length (line t) ≤ 1024 → (kind_of t ≡ 76 → t ≡ t_node none) → Flat t
  noded : (ls : List Bytes) → t ≡ t_node (some ls) → Names ls → Flat t

flat : (t : Ty) → Named t → (content_t t ≡ Types → ⊥) → Flat t
unfolding made made_labels line line_to labels_to rel_to nesting content_t kind_of
flat (base b) h c = plain refl (small-true (base b) (omega arith, omega arith)) (omega arith) (λ e. absurd (letter-away b 76 special-node e))
flat (t_list t) h c = absurd (c refl)
flat (t_map fs) h c = absurd (c refl)
flat (t_node none) h c = plain refl (small-true (t_node none) (omega arith, omega arith)) (omega arith) (λ e. refl)
flat (t_node (some ls)) h c = noded ls refl h
flat (t_relationship none) h c = plain refl (small-true (t_relationship none) (omega arith, omega arith)) (omega arith) (λ e. absurd (omega arith))
flat (t_relationship (some n)) h c =
    let l = name-long n [] in
    let o = h.2 in
    plain refl (small-true (t_relationship (some n)) (omega arith, omega arith)) (omega arith) (λ e. absurd (omega arith))
flat (t_union ts) h c = absurd (c refl)

module _ (s : Bytes) (at : ℕ) where
  pub old-from : {l : ℕ} → OldAt s at l → TypeFrom s at
  old-from o = record { ty = o.ty; rest = o.rest; is = o.is }

  module _ (c : content_of (get_or s at 0) ≡ Some Types → ⊥) where
    flat-at : (t : Ty) (rest : Bytes) → drop at s ≡ line_to t rest → Within 1 t → Flat t
    flat-at t rest d w = flat t w.0.0 (λ y. c (ap content_of (type-byte s at t rest d) ∙ content-kind t ∙ ap Some y))

    label-byte : (ls : List Bytes) (rest : Bytes) → drop at s ≡ line_to (t_node (some ls)) rest → (get_or s at 0 ≡ 76) × (get_or s (at + 2) 0 ≡ 43)
    unfolding line_to labels_to
    label-byte ls rest d = (byte_at s at (44 ∷ 43 ∷ 44 ∷ names_to ls rest) 76 d, byte_past s at (76 ∷ 44 ∷ []) (44 ∷ names_to ls rest) 43 d)

    none-byte : (rest : Bytes) → drop at s ≡ line_to (t_node none) rest → get_or s (at + 2) 0 ≡ 33
    unfolding line_to labels_to
    none-byte rest d = byte_past s at (76 ∷ 44 ∷ []) (44 ∷ rest) 33 d

    -- no labels
    module _ (no : (get_or s at 0 ≡ 76) × (get_or s (at + 2) 0 ≡ 43) → ⊥) where
      pub same_place : OldAt s at 1 → SamePlace s at
      same_place o = go (flat-at o.ty o.rest o.is o.within)
        where
          go : Flat o.ty → SamePlace s at
          go (plain m b l k) = record { ty = o.ty; rest = o.rest; is = o.is; small = l }
          go (noded ls e n) = absurd (no (label-byte ls o.rest (rw e at o.is)))

      pub flat-copied : (w w' : Bytes) (r : Option RegularType) → Copies s w w' at r → MakesAt s w w' at 1 r
      flat-copied w w' r h t rest d v = go (flat-at t rest d v)
        where
          go : Flat t → MadeAs w w' (at + length (line t)) (made t) r
          go (plain m b l k) = h t rest d m b
          go (noded ls e n) = absurd (no (label-byte ls rest (rw e at d)))

    -- labels
    module _ (a : get_or s at 0 ≡ 76) (b : get_or s (at + 2) 0 ≡ 43) where
      pub label-names : OldAt s at 1 → SomeNames s (at + 4)
      unfolding line_to labels_to
      label-names o = go (flat-at o.ty o.rest o.is o.within)
        where
          go : Flat o.ty → SomeNames s (at + 4)
          go (plain m z l k) = let e = k (sym (type-byte s at o.ty o.rest o.is) ∙ a) in absurd (omega (arith, none-byte o.rest (rw e at o.is)))
          go (noded ls e n) = record { labels = ls; rest = o.rest; is = past s at (76 ∷ 44 ∷ 43 ∷ 44 ∷ []) (names_to ls o.rest) (rw e at o.is); good = n }

      pub labels-made : (w w' : Bytes) (r : Option RegularType) → LabelsMade s w w' (at + 4) r → MakesAt s w w' at 1 r
      unfolding line_to labels_to line made made_labels
      labels-made w w' r h t rest d v = go (flat-at t rest d v)
        where
          go : Flat t → MadeAs w w' (at + length (line t)) (made t) r
          go (plain m z l k) = let e = k (sym (type-byte s at t rest d) ∙ a) in absurd (omega (arith, none-byte rest (rw e at d)))
          go (noded ls e n) =
              let q : at + 4 + length (names_to ls []) ≡ at + length (line (t_node (some ls))) = omega arith in
              rw e (subst (λ (j : ℕ). MadeAs w w' j (t_node (some (insert_names ls []))) r) q (h ls rest (past s at (76 ∷ 44 ∷ 43 ∷ 44 ∷ []) (names_to ls rest) (rw e at d)) n))

-- ## Before the first inner type

pub start-list : (w w' : Bytes) (k r : ℕ) → 4 ≤ length w → k ≡ 74 → (r ≡ 0 + 2) × (w' ≡ sets w 0 (74 ∷ 44 ∷ [])) → StartedAs w w' k r
unfolding start_of
start-list w w' k r h z p =
    let x : Bytes = 74 ∷ 44 ∷ [] in
    let l = ap length p.1 ∙ length-sets w 0 x in
    record { at = rw (eq-eqb k 74 z) (omega (arith, p.0), omega (arith, l), rw p.1 (front-sets w x (omega arith))); few = omega (arith, p.0); long = l }

pub start-map : (w w' : Bytes) (k r : ℕ) → 4 ≤ length w → k ≡ 75 → (r ≡ 0 + 4) × (w' ≡ sets w 0 (75 ∷ 44 ∷ 33 ∷ 44 ∷ [])) → StartedAs w w' k r
unfolding start_of line line_to fields_to
start-map w w' k r h z p =
    let x : Bytes = 75 ∷ 44 ∷ 33 ∷ 44 ∷ [] in
    let l = ap length p.1 ∙ length-sets w 0 x in
    record {
      at = rw (ne_eqb k 74 (λ e. omega arith), eq-eqb k 75 z) (record { ordered = omega arith; inside = omega (arith, l, p.0); is = rw (p.0, p.1) (front-sets w x (omega arith)) });
      few = omega (arith, p.0);
      long = l;
    }

pub start-union : (w : Bytes) (k : ℕ) → (k ≡ 74 → ⊥) → (k ≡ 75 → ⊥) → StartedAs w w k 0
unfolding start_of lines_of
start-union w k a b = record { at = rw (ne_eqb k 74 a, ne_eqb k 75 b) (record { ordered = omega arith; inside = omega arith; is = refl }); few = omega arith; long = refl }

-- ## One inner type more

list_at : (w : Bytes) (end : ℕ) (u : Ty) → take 2 w ≡ 74 ∷ 44 ∷ [] → TypeAt w 2 end u → TypeAt w 0 end (t_list u)
unfolding line line_to
list_at w end u h f =
    record {
      ordered = omega arith;
      inside = f.inside;
      is = sym (slice-join 0 2 end w (omega arith) f.ordered) ∙ ap₂ (λ (x y : Bytes). x ++ y) h f.is;
    }

module _ (s : Bytes) (k q : ℕ) (w : Bytes) (n end : ℕ) where
  pub join-list : k ≡ 74 → Joins s k q w w n end (Some end)
  unfolding line line_to
  join-list z a m u j = subst (λ (b : Acc). JoinedAs w w (joined_by b m u) (Some end)) (sym (j.first z)) whole
    where
      at : AccAt opening w n
      at = subst (λ (b : Acc). AccAt b w n) (j.first z) j.at

      stood : TypeAt w 0 end (t_list u)
      stood = list_at w end u at.2 (rw at.0 at j.new)

      whole : JoinedAs w w (listed u) (Some end)
      whole =
          let l : length (line (t_list u)) ≡ end = omega (arith, type-long stood) in
          record { answer = ap Some (sym l); stands = λ _. subst (λ (i : ℕ). TypeAt w 0 i (t_list u)) (sym l) stood; long = refl }

  module _ (z : k ≡ 75) (c : ℕ) (x : Bytes) (y : x ≡ slice q c s) (f : c ≡ q + index_of 44 (drop q s)) where
    spelt : (m : Bytes) (rest : Bytes) → drop q s ≡ name_to m rest → x ≡ map hex m
    spelt m rest d = y ∙ rw f (name_part s q m rest d)

    pub entry_ready : SomeJoin s k q w n end → EnteringMap w n end x
    entry_ready p = go p.acc p.join
      where
        go : (a : Acc) → Join s k q w n end a p.name p.ty → EnteringMap w n end x
        go opening j = absurd (omega (arith, j.kind))
        go (listed v) j = absurd (omega (arith, j.kind))
        go (mapped fs) j =
            record {
              entering =
                  record {
                    map = record { fields = fs; name = p.name; front = record { at = j.at; spelt = spelt p.name j.rest (j.lead z) } };
                    value = record { ty = p.ty; at = j.new };
                    room = j.room;
                  };
              map = one_map w n fs j.at j.small;
            }
        go (united ms) j = absurd (omega (arith, j.kind))

    pub join-map : (w' : Bytes) (r : Option ℕ) → Entered w w' n end x r → Joins s k q w w' n end r
    join-map w' r h opening m u j = absurd (omega (arith, j.kind))
    join-map w' r h (listed v) m u j = absurd (omega (arith, j.kind))
    join-map w' r h (mapped fs) m u j =
        let o = h fs m u (record { at = j.at; spelt = spelt m j.rest (j.lead z) }) j.new in
        record { answer = o.answer; stands = λ b. subst (λ (i : ℕ). TypeAt w' 0 i (t_map (set_field m u fs))) (zero-add (length (line (t_map (set_field m u fs))))) (o.stands b); long = o.long }
    join-map w' r h (united ms) m u j = absurd (omega (arith, j.kind))

  module _ (a : k ≡ 74 → ⊥) (b : k ≡ 75 → ⊥) where
    pub join-union : (w' : Bytes) (r : Option ℕ) → AddedOpened w w' n end r → Joins s k q w w' n end r
    join-union w' r h opening m u j = absurd (a j.kind)
    join-union w' r h (listed v) m u j = absurd (a j.kind)
    join-union w' r h (mapped fs) m u j = absurd (b j.kind)
    join-union w' r h (united ms) m u j =
        let o = h ms u j.at j.new in
        let us = inserts (opened u) ms in
        record { answer = o.answer; stands = λ _. o.front; long = o.long }

-- ## The end

module _ (k : ℕ) (w : Bytes) (n : ℕ) where
  pub list-from : k ≡ 74 → SomeEnding k w n → TypeFrom (take n w) 0
  list-from z p = go p.acc p.ending
    where
      go : (a : Acc) → Ending k w n a → TypeFrom (take n w) 0
      go opening e = absurd (e.some refl)
      go (listed u) e = front-from w n (record { ty = t_list u; at = e.at })
      go (mapped fs) e = absurd (omega (arith, e.kind))
      go (united ms) e = absurd (omega (arith, e.kind))

  long-at : {t : Ty} → TypeAt w 0 n t → length (line t) ≡ n
  long-at f = omega (arith, type-long f)

  as-answer : (t : Ty) (r : Option ℕ) → TypeAt w 0 n t → r ≡ grown_by (too_large t) n → Stands w w 0 t r
  as-answer t r f h =
      record {
        answer = h ∙ ap (grown_by (too_large t)) (sym (long-at f));
        stands = λ _. subst (λ (i : ℕ). TypeAt w 0 i t) (sym (zero-add (length (line t)) ∙ long-at f)) f;
        below = refl;
        long = refl;
      }

  module _ (z : k ≡ 74) (b : Bool) (h : (t : Ty) → take n w ≡ line t → b ≡ not (too_large t)) where
    pub list-tested : (r : Option ℕ) → r ≡ cond b (Some n) None → (a : Acc) → Ending k w n a → Stands w w 0 (acc_type a) r
    list-tested r f opening e = absurd (e.some refl)
    list-tested r f (listed u) e = as-answer (t_list u) r e.at (f ∙ go (too_large (t_list u)) (h (t_list u) e.at.is))
      where
        go : (c : Bool) → b ≡ not c → cond b (Some n) None ≡ grown_by c n
        go true e = rw e
        go false e = rw e
    list-tested r f (mapped fs) e = absurd (omega (arith, e.kind))
    list-tested r f (united ms) e = absurd (omega (arith, e.kind))

  pub map-done : k ≡ 75 → (a : Acc) → Ending k w n a → Stands w w 0 (acc_type a) (Some n)
  map-done z opening e = absurd (omega (arith, e.kind))
  map-done z (listed u) e = absurd (omega (arith, e.kind))
  map-done z (mapped fs) e = as-answer (t_map fs) (Some n) e.at (rw e.small refl)
  map-done z (united ms) e = absurd (omega (arith, e.kind))

  module _ (x : k ≡ 74 → ⊥) (y : k ≡ 75 → ⊥) where
    pub union-done : (w' : Bytes) (r : Option ℕ) → Closed w w' n r → (a : Acc) → Ending k w n a → Stands w w' 0 (acc_type a) r
    union-done w' r h opening e = absurd (x e.kind)
    union-done w' r h (listed u) e = absurd (x e.kind)
    union-done w' r h (mapped fs) e = absurd (y e.kind)
    union-done w' r h (united ms) e =
        let o = h ms e.at in
        let t = joined ms in
        record {
          answer = o.answer;
          stands = λ _. subst (λ (i : ℕ). TypeAt w' 0 i t) (sym (zero-add (length (line t)))) o.text.front;
          below = refl;
          long = o.text.long;
        }

-- a node type has a mark behind its letter
pub flat-three : (s : Bytes) (at : ℕ) → get_or s at 0 ≡ 76 → OldAt s at 1 → at + 2 < length s
unfolding line_to labels_to kind_of
flat-three s at a o = go o.ty o.is
  where
    go : (t : Ty) → drop at s ≡ line_to t o.rest → at + 2 < length s
    go (base b) d = absurd (letter-away b 76 special-node (sym (type-byte s at (base b) o.rest d) ∙ a))
    go (t_list t) d = absurd (omega (arith, type-byte s at (t_list t) o.rest d))
    go (t_map fs) d = absurd (omega (arith, type-byte s at (t_map fs) o.rest d))
    go (t_node none) d = omega (arith, length-drop at s, ap length d)
    go (t_node (some ls)) d = omega (arith, length-drop at s, ap length d)
    go (t_relationship n) d = absurd (omega (arith, type-byte s at (t_relationship n) o.rest d))
    go (t_union ts) d = absurd (omega (arith, type-byte s at (t_union ts) o.rest d))
