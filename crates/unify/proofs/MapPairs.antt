-- The next common name of two maps, and its two values. Assumes nothing.
use Prim.Native.Nat.{ℕ, ◌+◌, ◌≤◌}
use native.Mathlib.Omega.{arith}
use mathlib.Core.Path.{◌≡◌, refl, sym, ◌∙◌, ap}
use mathlib.Core.Option.{Option}
use lib.ListN.{length, drop, get_or}
use lib.Seq.{slice}
use Rattle.semantics.specs.Bytes.{Bytes}
use Rattle.semantics.specs.Ty.{Ty, Fields, ∅ᶠ, field, line}
use Rattle.ty.specs.declared.merging.Merge.{Merge}
use Rattle.ty.specs.Parts.{TypeFrom, EndsAt}
use Rattle.ty.specs.Merging.{SomeName, NameLong, kept_of, kept_text, Few}
use Rattle.ty.proofs.Members.{line-long}
use Rattle.ty.proofs.NameLaws.{head-end, head-name}
use Rattle.unify_run.specs.Run.{Run, run_maps}
use Rattle.unify_run.proofs.Maps.{maps-end, maps-both}
use Rattle.std.specs.Prelude.{Option as StdOption, Some, None}
use Rattle.unify.specs.Work.{judged, Room, Below}
use Rattle.unify.specs.Entries.{Value, here, later, EntriesAt, KeptAt, KeptNameAt, value_at}
use Rattle.unify.specs.Merges.{Common, ended, named, MetFor, SomeMet, PairFor, EndFor, Entered}
use Rattle.unify.specs.declared.maps.Values.{Values}
use Rattle.unify.proofs.Marks.{below-same, below-entries}
use Rattle.unify.proofs.EntryParts.{entries-head, FirstAt, first_at}
use Rattle.unify.proofs.KeptMap.{kept-few, name-few, few-less, kept-name}
use Rattle.unify.proofs.MapLaws.{kept_same, entry_value}

-- both are ended, or begin with one name
pub data Met (s : Bytes) (m : Merge) (mark : ℕ) (R : Run) : Type 0 where
  over : (k : Option Fields) → EntriesAt s m.p mark ∅ᶠ → KeptAt s mark m.n k → run_maps judged ∅ᶠ ∅ᶠ k ≡ R → Met s m mark R
  pair : (n : Bytes) (t u : Ty) (fs gs : Fields) (k : Option Fields) → EntriesAt s m.p mark (field n t fs) → EntriesAt s m.q mark (field n u gs) → KeptAt s mark m.n k
      → run_maps judged (field n t fs) (field n u gs) k ≡ R → ((x y : Ty) → Value x (field n t fs) → Value y (field n u gs) → Room s mark x y) → Met s m mark R

pub met : {s : Bytes} {m : Merge} {mark : ℕ} {R : Run} → MetFor s m mark R → Met s m mark R
met {s} {m} {mark} {R} h = let g = h.merge in go h.common g.first_at g.second_at g.comes g.rooms
  where
    go : {fs gs : Fields} → Common fs gs → EntriesAt s m.p mark fs → EntriesAt s m.q mark gs → run_maps judged fs gs h.merge.k ≡ R
        → ((x y : Ty) → Value x fs → Value y gs → Room s mark x y) → Met s m mark R
    go ended a b c r = over h.merge.k a h.merge.kept c
    go (named n t u fs gs) a b c r = pair n t u fs gs h.merge.k a b h.merge.kept c r

-- ## The end of both

pub entered-over : {s : Bytes} {m : Merge} {mark : ℕ} → get_or s m.p 0 ≡ 33 → Entered s s m mark None
entered-over {s} {m} {mark} z = record { below = below-same s mark; next = λ R h. go R (met h) }
  where
    go : (R : Run) → Met s m mark R → EndFor s mark m.n R
    go R (over k a kept c) = record { k = k; kept = kept; comes = sym (maps-end judged k) ∙ c }
    go R (pair n t u fs gs k a b kept c r) = absurd (head-name s m.p n (entries-head s m.p mark (field n t fs) a) z)

-- ## A common name

pub named-at : {s : Bytes} {m : Merge} {mark : ℕ} {R : Run} → (get_or s m.p 0 ≡ 33 → ⊥) → MetFor s m mark R → SomeName s m.p
named-at {s} {m} {mark} {R} z h = go (met h)
  where
    go : Met s m mark R → SomeName s m.p
    go (over k a kept c) = absurd (z (head-end s m.p (entries-head s m.p mark ∅ᶠ a)))
    go (pair n t u fs gs k a b kept c r) = record { name = n; at = entries-head s m.p mark (field n t fs) a }

-- the name is kept, j bytes; its two values stand behind it
pub record Pairing (s : Bytes) (m : Merge) (mark j : ℕ) (n : StdOption ℕ) (R : Run) : Type 0 where
  pub name : Bytes
  pub t : Ty
  pub u : Ty
  pub fs : Fields
  pub gs : Fields
  pub k : Option Fields
  pub size : j ≡ length name + 1
  pub first : FirstAt s m.p mark name t fs (j + length (line t))
  pub second : FirstAt s m.q mark name u gs (j + length (line u))
  pub kept : KeptNameAt s mark n name k
  pub comes : run_maps judged (field name t fs) (field name u gs) k ≡ R
  pub rooms : (x y : Ty) → Value x (field name t fs) → Value y (field name u gs) → Room s mark x y

module _ (s : Bytes) (m : Merge) (mark : ℕ) (z : get_or s m.p 0 ≡ 33 → ⊥) (j : ℕ) (nl : NameLong s m.p j) where
  -- where the name stands, in the text before
  pub name-fits : {R : Run} → MetFor s m mark R → (m.p + j + 2 ≤ mark) × (m.q + j + 2 ≤ mark) × (mark + 1024 ≤ length s) × Few m.n
  name-fits {R} h = go (met h)
    where
      go : Met s m mark R → (m.p + j + 2 ≤ mark) × (m.q + j + 2 ≤ mark) × (mark + 1024 ≤ length s) × Few m.n
      go (over k a kept c) = absurd (z (head-end s m.p (entries-head s m.p mark ∅ᶠ a)))
      go (pair n t u fs gs k a b kept c r) =
          let e = nl n (entries-head s m.p mark (field n t fs) a) in
          let F = first_at s m.p mark n t fs (length n + 1 + length (line t)) refl a in
          let G = first_at s m.q mark n u gs (length n + 1 + length (line u)) refl b in
          let x = F.value.below in
          let y = G.value.below in
          (omega (arith, line-long t), omega (arith, line-long u), h.merge.room, kept-few s mark m.n k kept)

  module _ (s' : Bytes) (n' : StdOption ℕ) (en : n' ≡ kept_of m.n j) (es : s' ≡ kept_text s m.p j mark m.n) where
    pub pair-below : Below s s' mark
    pair-below = rw es (kept_same s m.p j mark m.n)

    pub pairing : {R : Run} → MetFor s m mark R → Pairing s' m mark j n' R
    pairing {R} h = go (met h)
      where
        go : Met s m mark R → Pairing s' m mark j n' R
        go (over k a kept c) = absurd (z (head-end s m.p (entries-head s m.p mark ∅ᶠ a)))
        go (pair n t u fs gs k a b kept c r) =
            let e = nl n (entries-head s m.p mark (field n t fs) a) in
            let w : EntriesAt s' m.p mark (field n t fs) = below-entries pair-below a in
            let v : EntriesAt s' m.q mark (field n u gs) = below-entries pair-below b in
            let F = first_at s m.p mark n t fs (length n + 1 + length (line t)) refl a in
            let l = pair-below.long in
            record {
              name = n;
              t = t;
              u = u;
              fs = fs;
              gs = gs;
              k = k;
              size = e;
              first = first_at s' m.p mark n t fs (j + length (line t)) (omega arith) w;
              second = first_at s' m.q mark n u gs (j + length (line u)) (omega arith) v;
              kept = rw (en, es) (kept-name s m.p j mark h.merge.room m.n k n kept (ap (λ (i : ℕ). slice m.p (m.p + i) s) e ∙ F.name_part) e);
              comes = c;
              rooms = λ x y p q. let o = r x y p q in omega arith;
            }

-- the values begin
pub first-from : {s : Bytes} {m : Merge} {mark j : ℕ} {n : StdOption ℕ} {R : Run} → Pairing s m mark j n R → TypeFrom s (m.p + j)
first-from {s} {m} {mark} {j} h = let F = h.first in record { ty = h.t; rest = F.rest; is = ap (λ (i : ℕ). drop (m.p + i) s) h.size ∙ entry_value s m.p h.name h.t F.rest F.from }

pub second_from : {s : Bytes} {m : Merge} {mark j : ℕ} {n : StdOption ℕ} {R : Run} → Pairing s m mark j n R → TypeFrom s (m.q + j)
second_from {s} {m} {mark} {j} h = let G = h.second in record { ty = h.u; rest = G.rest; is = ap (λ (i : ℕ). drop (m.q + i) s) h.size ∙ entry_value s m.q h.name h.u G.rest G.from }

-- where they end
module _ {s : Bytes} {m : Merge} {mark j : ℕ} {n : StdOption ℕ} {v : Values} (ev : v.first.from ≡ m.p + j) (ew : v.second.from ≡ m.q + j) (ek : v.kept ≡ n) (ea : v.at ≡ value_at mark n)
    (fv : EndsAt s v.first.from v.first.to) (fw : EndsAt s v.second.from v.second.to) where
  first_ends : {R : Run} (h : Pairing s m mark j n R) → v.first.to ≡ m.p + (j + length (line h.t))
  unfolding first-from
  first_ends h = let F = first-from h in fv h.t F.rest (ap (λ (i : ℕ). drop i s) ev ∙ F.is) ∙ omega arith

  second-ends : {R : Run} (h : Pairing s m mark j n R) → v.second.to ≡ m.q + (j + length (line h.u))
  unfolding second_from
  second-ends h = let F = second_from h in fw h.u F.rest (ap (λ (i : ℕ). drop i s) ew ∙ F.is) ∙ omega arith

  pub pair-for : {R : Run} → Pairing s m mark j n R → PairFor s m.p mark v R
  pair-for h =
      let e = first_ends h in
      let g = second-ends h in
      let a : v.first.from ≡ m.p + (length h.name + 1) = ev ∙ ap (λ (i : ℕ). m.p + i) h.size in
      let b : v.second.from ≡ m.q + (length h.name + 1) = ew ∙ ap (λ (i : ℕ). m.q + i) h.size in
      record {
        name = h.name;
        left = h.t;
        right = h.u;
        first = h.fs;
        second = h.gs;
        k = h.k;
        left_at = rw (a, e) h.first.value;
        right_at = rw (b, g) h.second.value;
        first_at = rw e h.first.others;
        second_at = rw g h.second.others;
        kept = rw ek h.kept;
        at = ea ∙ ap (value_at mark) (sym ek);
        comes = sym (maps-both judged h.name h.t h.u h.fs h.gs h.k) ∙ h.comes;
        room = h.rooms h.t h.u here here;
        rooms = λ x y p q. h.rooms x y (later p) (later q);
        past = omega (arith, e, line-long h.t);
      }

-- ## What `next_values` asks and ensures

module _ {s : Bytes} {m : Merge} {mark : ℕ} (some : SomeMet s m mark) (z : get_or s m.p 0 ≡ 33 → ⊥) {j : ℕ} (nl : NameLong s m.p j) where
  pub name-bounds : (m.p + j + 2 ≤ mark) × (m.q + j + 2 ≤ mark) × (mark + 1024 ≤ length s) × Few m.n
  name-bounds = name-fits s m mark z j nl some.met

  module _ {s' : Bytes} {n : StdOption ℕ} (en : n ≡ kept_of m.n j) (es : s' ≡ kept_text s m.p j mark m.n) where
    some-pairing : Pairing s' m mark j n some.run
    some-pairing = pairing s m mark z j nl s' n en es some.met

    pub pair-firsts : TypeFrom s' (m.p + j) × TypeFrom s' (m.q + j)
    pair-firsts = (first-from some-pairing, second_from some-pairing)

    pub value-low : value_at mark n ≤ mark + 1022
    value-low = let p = some-pairing in (few-less mark n (name-few s' mark n p.name p.k p.kept)).1

    pub entered-pair : (v : Values) → v.first.from ≡ m.p + j → v.second.from ≡ m.q + j → v.kept ≡ n → v.at ≡ value_at mark n → EndsAt s' v.first.from v.first.to → EndsAt s' v.second.from v.second.to
        → Entered s s' m mark (Some v)
    entered-pair v ev ew ek ea fv fw =
        record { below = pair-below s m mark z j nl s' n en es; next = λ R h. pair-for ev ew ek ea fv fw (pairing s m mark z j nl s' n en es h) }
