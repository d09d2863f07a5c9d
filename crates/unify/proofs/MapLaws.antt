-- Two maps merged: the turns of `keep_lone`, and how it begins and ends. Assumes nothing.
use Prim.Native.Nat.{ℕ, ◌+◌, ◌-◌, ◌≤◌, ◌<◌}
use native.Mathlib.Omega.{arith}
use mathlib.Core.Path.{◌≡◌, refl, sym, ◌∙◌, ap}
use mathlib.Core.List.{[]}
use mathlib.Core.Option.{Option, some}
use lib.ListN.{length, drop, length-append}
use Rattle.semantics.specs.Bytes.{Bytes, lex}
use Rattle.semantics.specs.Ty.{Ty, Fields, ∅ᶠ, field, name_to, line_to, line}
use Rattle.semantics.proofs.Order.{lex-lt, lex-gt, lex-eq, Tri, lt, eq, gt, tri}
use Rattle.text.specs.Text.{Ends}
use Rattle.ty.specs.declared.merging.Merge.{Merge}
use Rattle.ty.specs.Parts.{TypeFrom, EndsAt}
use Rattle.ty.specs.Merging.{HeadAt, SomeHead, head_to, next_by, next_of, NextIs, kept_text, taken_at, moved, Taking}
use Rattle.ty.proofs.Places.{past, room-past}
use Rattle.ty.proofs.Lines.{line-to}
use Rattle.ty.proofs.Members.{line-long}
use Rattle.ty.proofs.NameLaws.{name-ends}
use Rattle.ty.proofs.MergeLaws.{kept-below, kept-long}
use Rattle.unify_run.specs.Run.{Run, keep, run_maps}
use Rattle.unify_run.proofs.Maps.{maps-left, maps-right, maps-first, maps-second}
use Rattle.std.specs.Prelude.{Option as StdOption, Some, None}
use Rattle.ty.specs.declared.merging.Side.{Side}
use Rattle.ty.specs.declared.merging.Side.TheVariants.{First, Second, Both}
use Rattle.unify.specs.Work.{judged, Room, Below}
use Rattle.unify.specs.Entries.{Value, later, EntriesAt, KeptAt}
use Rattle.unify.specs.Merges.{SomeEntry, EntryLong, MergeFor, SomeMerge, Common, ended, named, Lone}
use Rattle.unify.proofs.Marks.{below_then, below-entries}
use Rattle.unify.proofs.EntryParts.{name-two, name-size, head_of, entries-head, FirstAt, first_at}
use Rattle.unify.proofs.KeptMap.{kept-few, kept_entry}

-- ## The length of an entry

module _ (s : Bytes) (p : ℕ) where
  -- the name and the type stand there
  pub entry-head : (n : Bytes) (t : Ty) (rest : Bytes) → drop p s ≡ name_to n (line_to t rest) → HeadAt s p (some n)
  unfolding head_to
  entry-head n t rest e = record { rest = line_to t rest; is = e }

  pub entry_value : (n : Bytes) (t : Ty) (rest : Bytes) → drop p s ≡ name_to n (line_to t rest) → drop (p + (length n + 1)) s ≡ line_to t rest
  entry_value n t rest e = ap (λ (j : ℕ). drop j s) (ap (λ (j : ℕ). p + j) (sym (name-size n))) ∙ past s p (name_to n []) (line_to t rest) (e ∙ name-two n (line_to t rest))

  pub entry-room : (n : Bytes) (t : Ty) (rest : Bytes) → drop p s ≡ name_to n (line_to t rest) → p + (length n + 1) < length s
  entry-room n t rest e =
      let a = room-past s p (name_to n []) (line_to t rest) (e ∙ name-two n (line_to t rest)) (omega (arith, name-size n)) in
      let b = ap length (line-to t rest) in
      omega (arith, name-size n, length-append (line t) rest, line-long t)

  pub entry-from : (i : ℕ) → Ends 44 s p i → SomeEntry s p → TypeFrom s (i + 1)
  entry-from i f h =
      let q : i + 1 ≡ p + (length h.name + 1) = omega (arith, name-ends s p i h.name (entry-head h.name h.ty h.rest h.is) f) in
      record { ty = h.ty; rest = h.rest; is = ap (λ (j : ℕ). drop j s) q ∙ entry_value h.name h.ty h.rest h.is }

  -- where its type ends
  pub entry-long : (i r : ℕ) → Ends 44 s p i → EndsAt s (i + 1) r → SomeEntry s p → (p ≤ r) × EntryLong s p (r - p)
  entry-long i r f g h = (omega (arith, at h.name h.ty h.rest h.is), λ n t rest e. omega (arith, at n t rest e))
    where
      at : (n : Bytes) (t : Ty) (rest : Bytes) → drop p s ≡ name_to n (line_to t rest) → r ≡ p + (length n + 1 + length (line t))
      at n t rest e =
          let q : i + 1 ≡ p + (length n + 1) = omega (arith, name-ends s p i n (entry-head n t rest e) f) in
          g t rest (ap (λ (j : ℕ). drop j s) q ∙ entry_value n t rest e) ∙ omega arith

-- ## What a turn takes

-- an entry that one map has alone
pub data Takes : Side → Fields → Fields → Type 0 where
  left : (n : Bytes) (t : Ty) (fs gs : Fields) → ((k : Option Fields) → run_maps judged (field n t fs) gs k ≡ run_maps judged fs gs (keep n t k)) → Takes First (field n t fs) gs
  right : (n : Bytes) (u : Ty) (fs gs : Fields) → ((k : Option Fields) → run_maps judged fs (field n u gs) k ≡ run_maps judged fs gs (keep n u k)) → Takes Second fs (field n u gs)

pub takes : (x : Side) (fs gs : Fields) → Some x ≡ next_of (head_of fs) (head_of gs) → (x ≡ Both → ⊥) → Takes x fs gs
unfolding next_of
takes x ∅ᶠ ∅ᶠ e h = absurd (cc)
takes x ∅ᶠ (field m u gs) e h = let z : x ≡ Second = cc in rw z (right m u ∅ᶠ gs (maps-right judged m u gs))
takes x (field n t fs) ∅ᶠ e h = let z : x ≡ First = cc in rw z (left n t fs ∅ᶠ (maps-left judged n t fs))
takes x (field n t fs) (field m u gs) e h = by (tri n m) (cc)
  where
    by : Tri n m → x ≡ next_by (lex n m) → Takes x (field n t fs) (field m u gs)
    by (lt w) q = let z : x ≡ First = q ∙ ap next_by (lex-lt w) in rw z (left n t fs (field m u gs) (λ k. maps-first judged n m t u fs gs k w))
    by (eq w) q = absurd (h (q ∙ rw (w, lex-eq m)))
    by (gt w) q = let z : x ≡ Second = q ∙ ap next_by (lex-gt w) in rw z (right m u (field n t fs) gs (λ k. maps-second judged n m t u fs gs k w))

-- none is left
pub common-none : (fs gs : Fields) → None ≡ next_of (head_of fs) (head_of gs) → Common fs gs
unfolding next_of
common-none ∅ᶠ ∅ᶠ e = ended
common-none ∅ᶠ (field m u gs) e = absurd (cc)
common-none (field n t fs) ∅ᶠ e = absurd (cc)
common-none (field n t fs) (field m u gs) e = absurd (cc)

-- none is left that one map has alone
pub common-both : (fs gs : Fields) → Some Both ≡ next_of (head_of fs) (head_of gs) → Common fs gs
unfolding next_of
common-both ∅ᶠ ∅ᶠ e = absurd (cc)
common-both ∅ᶠ (field m u gs) e = absurd (let z : Both ≡ Second = cc in cc)
common-both (field n t fs) ∅ᶠ e = absurd (let z : Both ≡ First = cc in cc)
common-both (field n t fs) (field m u gs) e = by (tri n m) (cc)
  where
    by : Tri n m → Both ≡ next_by (lex n m) → Common (field n t fs) (field m u gs)
    by (lt w) q = absurd (let z : Both ≡ First = q ∙ ap next_by (lex-lt w) in cc)
    by (eq w) q = rw w (named m t u fs gs)
    by (gt w) q = absurd (let z : Both ≡ Second = q ∙ ap next_by (lex-gt w) in cc)

-- ## A turn

pub first_head : {s : Bytes} {m : Merge} {to : ℕ} {R : Run} (g : MergeFor s m to R) → HeadAt s m.p (head_of g.first)
first_head {s} {m} {to} g = entries-head s m.p to g.first g.first_at

pub second_head : {s : Bytes} {m : Merge} {to : ℕ} {R : Run} (g : MergeFor s m to R) → HeadAt s m.q (head_of g.second)
second_head {s} {m} {to} g = entries-head s m.q to g.second g.second_at

pub kept_same : (s : Bytes) (from k to : ℕ) (n : StdOption ℕ) → Below s (kept_text s from k to n) to
kept_same s from k to n = record { kept = kept-below s from k to n; long = kept-long s from k to n }

pub record Step (s : Bytes) (m : Merge) (to : ℕ) (R : Run) (x : Side) : Type 0 where
  pub name : Bytes
  pub ty : Ty
  pub rest : Bytes
  pub at : drop (taken_at m x) s ≡ name_to name (line_to ty rest)
  pub taking : (k : ℕ) → k ≡ length name + 1 + length (line ty) → Taking s m x k to
  pub less : (k : ℕ) → k ≡ length name + 1 + length (line ty) → (to - (moved m x k).p) + (to - (moved m x k).q) < (to - m.p) + (to - m.q)
  pub onward : (k : ℕ) → m.p ≤ (moved m x k).p
  pub turn : (k : ℕ) → k ≡ length name + 1 + length (line ty) → MergeFor (kept_text s (taken_at m x) k to m.n) (moved m x k) to R

module _ {s : Bytes} {m : Merge} {to : ℕ} {R : Run} where
  stepped : {x : Side} {fs gs : Fields} → Takes x fs gs → (k : Option Fields) → EntriesAt s m.p to fs → EntriesAt s m.q to gs → KeptAt s to m.n k
      → run_maps judged fs gs k ≡ R → ((x y : Ty) → Value x fs → Value y gs → Room s to x y) → to + 1024 ≤ length s → Step s m to R x
  unfolding taken_at moved
  stepped (left n t fs gs same) k fa ga ka c rooms room =
      let F : (j : ℕ) → j ≡ length n + 1 + length (line t) → FirstAt s m.p to n t fs j = λ j e. first_at s m.p to n t fs j e fa in
      record {
        name = n;
        ty = t;
        rest = (F (length n + 1 + length (line t)) refl).rest;
        at = (F (length n + 1 + length (line t)) refl).from;
        taking = λ j e. record { first = λ _. (F j e).value.below; second = λ z. absurd (z refl); room = room; few = kept-few s to m.n k ka };
        less = λ j e. let b = (F j e).value.below in omega arith;
        onward = λ j. omega arith;
        turn = λ j e.
            let b = kept_same s m.p j to m.n in
            record {
              first = fs;
              second = gs;
              k = keep n t k;
              first_at = below-entries b (F j e).others;
              second_at = below-entries b ga;
              kept = kept_entry s m.p j to room m.n k n t ka (F j e).part e;
              comes = sym (same k) ∙ c;
              rooms = λ x y v w. let r = rooms x y (later v) w in omega (arith, b.long);
              room = omega (arith, b.long);
            };
      }
  stepped (right n u fs gs same) k fa ga ka c rooms room =
      let F : (j : ℕ) → j ≡ length n + 1 + length (line u) → FirstAt s m.q to n u gs j = λ j e. first_at s m.q to n u gs j e ga in
      record {
        name = n;
        ty = u;
        rest = (F (length n + 1 + length (line u)) refl).rest;
        at = (F (length n + 1 + length (line u)) refl).from;
        taking = λ j e. record { first = λ z. absurd (z refl); second = λ _. (F j e).value.below; room = room; few = kept-few s to m.n k ka };
        less = λ j e. let b = (F j e).value.below in omega arith;
        onward = λ j. omega arith;
        turn = λ j e.
            let b = kept_same s m.q j to m.n in
            record {
              first = fs;
              second = gs;
              k = keep n u k;
              first_at = below-entries b fa;
              second_at = below-entries b (F j e).others;
              kept = kept_entry s m.q j to room m.n k n u ka (F j e).part e;
              comes = sym (same k) ∙ c;
              rooms = λ x y v w. let r = rooms x y v (later w) in omega (arith, b.long);
              room = omega (arith, b.long);
            };
      }

-- ## The loop

pub record LoneInv (s₀ : Bytes) (start : Merge) (to : ℕ) (s : Bytes) (m : Merge) : Type 0 where
  pub some : SomeMerge s₀ start to
  pub below : Below s₀ s to
  pub past : start.p ≤ m.p
  pub going : (R : Run) → MergeFor s₀ start to R → MergeFor s m to R

pub some-heads : {s : Bytes} {m : Merge} {to : ℕ} {R : Run} → MergeFor s m to R → SomeHead s m.p × SomeHead s m.q
some-heads g = (record { head = head_of g.first; at = first_head g }, record { head = head_of g.second; at = second_head g })

module _ {s₀ : Bytes} {start : Merge} {to : ℕ} {s : Bytes} {m : Merge} (inv : LoneInv s₀ start to s m) where
  some-now : MergeFor s m to inv.some.run
  some-now = inv.going inv.some.run inv.some.merge

  pub turn-heads : SomeHead s m.p × SomeHead s m.q
  turn-heads = some-heads some-now

  -- an entry is taken
  module _ {x : Side} (n : NextIs s m.p m.q (Some x)) (h : x ≡ Both → ⊥) where
    step : {R : Run} → MergeFor s m to R → Step s m to R x
    step g = stepped (takes x g.first g.second (n (head_of g.first) (head_of g.second) (first_head g) (second_head g)) h) g.k g.first_at g.second_at g.kept g.comes g.rooms g.room

    pub turn-entry : (p : ℕ) → p ≡ taken_at m x → SomeEntry s p
    turn-entry p e = let w = step some-now in rw e (record { name = w.name; ty = w.ty; rest = w.rest; is = w.at })

    module _ (p k : ℕ) (ep : p ≡ taken_at m x) (ek : EntryLong s p k) where
      size : {R : Run} (w : Step s m to R x) → k ≡ length w.name + 1 + length (line w.ty)
      size w = ek w.name w.ty w.rest (rw ep w.at)

      pub turn-taking : Taking s m x k to
      turn-taking = (step some-now).taking k (size (step some-now))

      module _ (s' : Bytes) (m' : Merge) (em : m' ≡ moved m x k) (es : s' ≡ kept_text s (taken_at m x) k to m.n) where
        pub turn-less : (to - m'.p) + (to - m'.q) < (to - m.p) + (to - m.q)
        turn-less = rw em ((step some-now).less k (size (step some-now)))

        pub turn-again : LoneInv s₀ start to s' m'
        turn-again =
            record {
              some = inv.some;
              below = below_then inv.below (rw es (kept_same s (taken_at m x) k to m.n));
              past = let a = (step some-now).onward k in let b = inv.past in rw em (omega arith);
              going = λ R g. let w = step (inv.going R g) in rw (em, es) (w.turn k (size w));
            }

  -- its end
  pub lone-both : NextIs s m.p m.q (Some Both) → Lone s₀ s start to m
  lone-both n =
      record {
        below = inv.below;
        past = inv.past;
        met = λ R g. let w = inv.going R g in record { merge = w; common = common-both w.first w.second (n (head_of w.first) (head_of w.second) (first_head w) (second_head w)) };
      }

  pub lone-none : NextIs s m.p m.q None → Lone s₀ s start to m
  lone-none n =
      record {
        below = inv.below;
        past = inv.past;
        met = λ R g. let w = inv.going R g in record { merge = w; common = common-none w.first w.second (n (head_of w.first) (head_of w.second) (first_head w) (second_head w)) };
      }
