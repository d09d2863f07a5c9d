-- Label sets merged: the names of both in order, each once. Assumes nothing.
use Prim.Native.Nat.{ℕ, ◌+◌, ◌-◌, ◌≤◌, ◌<◌}
use native.Mathlib.Omega.{arith}
use mathlib.Core.Path.{◌≡◌, refl, sym, ap, ap₂, ◌∙◌}
use mathlib.Core.Bool.{Bool, true, false, ◌||◌}
use mathlib.Core.List.{List, [], ◌∷◌, ◌++◌, append_assoc}
use mathlib.Core.Option.{Option, none, some}
use borrow.Author.Tests.{ltb-false}
use lib.Dec.{ltb}
use lib.ListN.{length, take, drop}
use lib.Seq.{slice, sets, length-sets}
use Rattle.std.specs.Prelude.{Option as StdOption, Some, None}
use Rattle.std.proofs.lemmas.Option.{none-some, same_Some}
use Rattle.semantics.specs.Bytes.{Bytes, lex}
use Rattle.semantics.specs.Ty.{Ty, t_node, name_to, names_to, labels_to, line_to, line, nesting, too_large, insert_name, insert_names}
use Rattle.semantics.proofs.Order.{Less, less-trans, lex-lt, lex-gt, lex-eq, Tri, lt, eq, gt, tri}
use Rattle.semantics.proofs.Regular.{Above, Ascends, ascends-sound}
use Rattle.text.proofs.Laws.{copied, take_below}
use Rattle.ty.specs.declared.merging.Merge.{Merge}
use Rattle.ty.specs.declared.merging.Side.{Side}
use Rattle.ty.specs.declared.merging.Side.TheVariants.{First, Second, Both}
use Rattle.ty.specs.Made.{Made, made}
use Rattle.ty.specs.Merging.{Kept, head_to, HeadAt, SomeHead, next_by, next_of, NextIs, SomeName, NameLong, kept_of, kept_text, taken_at, moved, Taking, closed_of, closed_text, LabelsAt, SomeLabels}
use Rattle.ty.proofs.NameLaws.{name-append, name-long}
use Rattle.ty.proofs.MergeLaws.{kept-first, split-part, drop-part, part_same, few-kept, kept_more, kept-below, kept-long, Closed, closed}

-- ## Insertion into what comes later

insert-lt : {n m : Bytes} (ms : List Bytes) → Less n m → insert_name n (m ∷ ms) ≡ n ∷ m ∷ ms
unfolding insert_name
insert-lt ms h = rw (lex-lt h, insert_name)

insert-eq : (n : Bytes) (ms : List Bytes) → insert_name n (n ∷ ms) ≡ n ∷ ms
unfolding insert_name
insert-eq n ms = rw (lex-eq n, insert_name)

insert-gt : {n m : Bytes} (ms : List Bytes) → Less m n → insert_name n (m ∷ ms) ≡ m ∷ insert_name n ms
unfolding insert_name
insert-gt ms h = rw (lex-gt h, insert_name)

-- names above l stay behind it
insert-above : (ks : List Bytes) (l : Bytes) (ms : List Bytes) → Above l ks → Ascends ks → insert_names ks (l ∷ ms) ≡ l ∷ insert_names ks ms
unfolding insert_names
insert-above [] l ms h a = refl
insert-above (k ∷ ks) l ms h a = ap (insert_names ks) (insert-gt ms h) ∙ insert-above ks l (insert_name k ms) (over-next ks a.0) a.1
  where
    over-next : (ks : List Bytes) → Above k ks → Above l ks
    over-next [] b = tt
    over-next (j ∷ ks) b = less-trans h b

-- an ascending set is itself
pub insert-own : (ls : List Bytes) → Ascends ls → insert_names ls [] ≡ ls
unfolding insert_names insert_name
insert-own [] a = refl
insert-own (l ∷ ls) a = insert-above ls l [] a.0 a.1 ∙ ap (λ (r : List Bytes). l ∷ r) (insert-own ls a.1)

-- the next of two sets
insert-second : (k : Bytes) (ks ls : List Bytes) → Ascends (k ∷ ks) → Above k ls → insert_names (k ∷ ks) ls ≡ k ∷ insert_names ks ls
unfolding insert_names
insert-second k ks [] a h = unfold insert_name in insert-above ks k [] a.0 a.1
insert-second k ks (l ∷ ls) a h = ap (insert_names ks) (insert-lt ls h) ∙ insert-above ks k (l ∷ ls) a.0 a.1

insert-both : (k : Bytes) (ks ls : List Bytes) → Ascends (k ∷ ks) → insert_names (k ∷ ks) (k ∷ ls) ≡ k ∷ insert_names ks ls
unfolding insert_names
insert-both k ks ls a = ap (insert_names ks) (insert-eq k ls) ∙ insert-above ks k ls a.0 a.1

-- ## Names in a text

abbrev pub first_of : List Bytes → Option Bytes
first_of [] = none
first_of (n ∷ ns) = some n

names-split : (n : Bytes) (ns : List Bytes) → names_to (n ∷ ns) [] ≡ name_to n [] ++ names_to ns []
unfolding names_to
names-split n ns = sym (name-append n [] (names_to ns []))

pub names-head : (s : Bytes) (p e : ℕ) (ns : List Bytes) → p ≤ e → slice p e s ≡ names_to ns [] → HeadAt s p (first_of ns)
unfolding names_to head_to
names-head s p e [] h q = record { rest = 44 ∷ drop e s; is = drop-part s p e (33 ∷ 44 ∷ []) h q }
names-head s p e (n ∷ ns) h q = record { rest = names_to ns [] ++ drop e s; is = drop-part s p e (name_to n (names_to ns [])) h q ∙ name-append n (names_to ns []) (drop e s) }

-- ## A turn

-- the names ls and ks are left of both, acc is what was kept, and all together are the whole line
pub record Turn (s : Bytes) (m : Merge) (to ae be : ℕ) (whole : Bytes) : Type 0 where
  pub acc : Bytes
  pub ls : List Bytes
  pub ks : List Bytes
  pub first : slice m.p ae s ≡ names_to ls []
  pub second : slice m.q be s ≡ names_to ks []
  pub p_in : m.p ≤ ae
  pub q_in : m.q ≤ be
  pub p_below : ae ≤ to
  pub q_below : be ≤ to
  pub kept : Kept s to m.n acc
  pub is : acc ++ names_to (insert_names ks ls) [] ≡ whole
  pub ascends : Ascends ks

abbrev pub Next : {s : Bytes} {m : Merge} {to ae be : ℕ} {whole : Bytes} → Turn s m to ae be whole → StdOption Side → Type 0
Next t x = x ≡ next_of (first_of t.ls) (first_of t.ks)

pub first_head : {s : Bytes} {m : Merge} {to ae be : ℕ} {whole : Bytes} (t : Turn s m to ae be whole) → HeadAt s m.p (first_of t.ls)
first_head {s} {m} {to} {ae} {be} t = names-head s m.p ae t.ls t.p_in t.first

pub second_head : {s : Bytes} {m : Merge} {to ae be : ℕ} {whole : Bytes} (t : Turn s m to ae be whole) → HeadAt s m.q (first_of t.ks)
second_head {s} {m} {to} {ae} {be} t = names-head s m.q be t.ks t.q_in t.second

-- what a turn takes: the name n with its comma, of the first list, of the second, or of both
pub data Takes (s : Bytes) (m : Merge) (to ae be : ℕ) (whole : Bytes) : Side → Type 0 where
  left : (acc n : Bytes) (ls ks : List Bytes) → slice m.p ae s ≡ name_to n [] ++ names_to ls [] → slice m.q be s ≡ names_to ks []
      → Kept s to m.n acc → acc ++ names_to (n ∷ insert_names ks ls) [] ≡ whole → Ascends ks → Takes s m to ae be whole First
  right : (acc n : Bytes) (ls ks : List Bytes) → slice m.p ae s ≡ names_to ls [] → slice m.q be s ≡ name_to n [] ++ names_to ks []
      → Kept s to m.n acc → acc ++ names_to (n ∷ insert_names ks ls) [] ≡ whole → Ascends ks → Takes s m to ae be whole Second
  both : (acc n : Bytes) (ls ks : List Bytes) → slice m.p ae s ≡ name_to n [] ++ names_to ls [] → slice m.q be s ≡ name_to n [] ++ names_to ks []
      → Kept s to m.n acc → acc ++ names_to (n ∷ insert_names ks ls) [] ≡ whole → Ascends ks → Takes s m to ae be whole Both

pub takes : {s : Bytes} {m : Merge} {to ae be : ℕ} {whole : Bytes} (x : Side) (t : Turn s m to ae be whole) → Next t (Some x) → Takes s m to ae be whole x
unfolding next_of
takes {s} {m} {to} {ae} {be} {whole} x t e = go t.ls t.ks t.first t.second t.is t.ascends e
  where
    go : (ls ks : List Bytes) → slice m.p ae s ≡ names_to ls [] → slice m.q be s ≡ names_to ks [] → t.acc ++ names_to (insert_names ks ls) [] ≡ whole → Ascends ks
        → Some x ≡ next_of (first_of ls) (first_of ks) → Takes s m to ae be whole x
    go [] [] f g i a q = absurd (none-some x (sym q))
    go [] (k ∷ ks) f g i a q =
        rw (same_Some x Second q) (right t.acc k [] ks f (g ∙ names-split k ks) t.kept (ap (λ (r : List Bytes). t.acc ++ names_to r []) (sym (insert-second k ks [] a tt)) ∙ i) a.1)
    go (l ∷ ls) [] f g i a q = rw (same_Some x First q) (left t.acc l ls [] (f ∙ names-split l ls) g t.kept (unfold insert_names in i) tt)
    go (l ∷ ls) (k ∷ ks) f g i a q = by (tri l k)
      where
        by : Tri l k → Takes s m to ae be whole x
        by (lt w) =
            let z : x ≡ First = same_Some x First (q ∙ rw (lex-lt w)) in
            rw z
            (left t.acc l ls (k ∷ ks) (f ∙ names-split l ls) g t.kept (ap (λ (r : List Bytes). t.acc ++ names_to r []) (sym (insert-above (k ∷ ks) l ls w a)) ∙ i) a)
        by (eq w) =
            let z : x ≡ Both = same_Some x Both (q ∙ rw (w, lex-eq k)) in
            rw z
            (both t.acc k ls ks (f ∙ names-split l ls ∙ ap (λ (n : Bytes). name_to n [] ++ names_to ls []) w) (g ∙ names-split k ks) t.kept
            (ap (λ (r : List Bytes). t.acc ++ names_to r []) (sym (insert-both k ks ls a) ∙ ap (λ (n : Bytes). insert_names (k ∷ ks) (n ∷ ls)) (sym w)) ∙ i) a.1)
        by (gt w) =
            let z : x ≡ Second = same_Some x Second (q ∙ rw (lex-gt w)) in
            rw z
            (right t.acc k (l ∷ ls) ks f (g ∙ names-split k ks) t.kept (ap (λ (r : List Bytes). t.acc ++ names_to r []) (sym (insert-second k ks (l ∷ ls) a w)) ∙ i) a.1)

-- the state after it
next-turn : (s : Bytes) (m : Merge) (to ae be : ℕ) (whole : Bytes) (from k p' q' : ℕ) (acc n : Bytes) (ls ks : List Bytes) → to + 1024 ≤ length s → Kept s to m.n acc
    → k ≡ length (name_to n []) → slice from (from + k) s ≡ name_to n [] → p' ≤ ae → q' ≤ be → ae ≤ to → be ≤ to → slice p' ae s ≡ names_to ls [] → slice q' be s ≡ names_to ks []
    → acc ++ names_to (n ∷ insert_names ks ls) [] ≡ whole → Ascends ks
    → Turn (kept_text s from k to m.n) (record { p = p'; q = q'; n = kept_of m.n k }) to ae be whole
next-turn s m to ae be whole from k p' q' acc n ls ks room h l e pi qi pb qb f g i a =
    record {
      acc = acc ++ name_to n [];
      ls = ls;
      ks = ks;
      first = part_same s (kept_text s from k to m.n) p' ae to pb (kept-below s from k to m.n) ∙ f;
      second = part_same s (kept_text s from k to m.n) q' be to qb (kept-below s from k to m.n) ∙ g;
      p_in = pi;
      q_in = qi;
      p_below = pb;
      q_below = qb;
      kept = kept_more s from k to m.n acc (name_to n []) h room e l;
      is = append_assoc acc (name_to n []) (names_to (insert_names ks ls) []) ∙ ap (λ (r : Bytes). acc ++ r) (sym (names-split n (insert_names ks ls))) ∙ i;
      ascends = a;
    }

-- what the code needs to know of a turn
pub record Step (s : Bytes) (m : Merge) (to ae be : ℕ) (whole : Bytes) (x : Side) : Type 0 where
  pub name : Bytes
  pub at : HeadAt s (taken_at m x) (some name)
  pub taking : (k : ℕ) → k ≡ length name + 1 → Taking s m x k to
  pub less : (k : ℕ) → k ≡ length name + 1 → (to - (moved m x k).p) + (to - (moved m x k).q) < (to - m.p) + (to - m.q)
  pub turn : (k : ℕ) → k ≡ length name + 1 → Turn (kept_text s (taken_at m x) k to m.n) (moved m x k) to ae be whole

one : (n : Bytes) → length (name_to n []) ≡ length n + 1
one n = name-long n [] ∙ omega arith

name-head : (s : Bytes) (p e : ℕ) (n r : Bytes) → p ≤ e → slice p e s ≡ name_to n [] ++ r → HeadAt s p (some n)
unfolding head_to
name-head s p e n r h q = record { rest = r ++ drop e s; is = drop-part s p e (name_to n [] ++ r) h q ∙ append_assoc (name_to n []) r (drop e s) ∙ name-append n [] (r ++ drop e s) }

stepped : (s : Bytes) (m : Merge) (to ae be : ℕ) (whole : Bytes) (x : Side) → to + 1024 ≤ length s → m.p ≤ ae → m.q ≤ be → ae ≤ to → be ≤ to
    → Takes s m to ae be whole x → Step s m to ae be whole x
unfolding taken_at moved
stepped s m to ae be whole x room pi qi pb qb (left acc n ls ks f g h i a) =
    let (fits, part, rest) = split-part s m.p ae (name_to n []) (names_to ls []) pi (omega arith) f in
    let l = one n in
    record {
      name = n;
      at = name-head s m.p ae n (names_to ls []) pi f;
      taking = λ k e. record { first = λ _. omega arith; second = λ z. absurd (z refl); room = room; few = few-kept s to m.n acc h };
      less = λ k e. omega arith;
      turn = λ k e. let q : k ≡ length (name_to n []) = e ∙ sym l in
          next-turn s m to ae be whole m.p k (m.p + k) m.q acc n ls ks room h q
          (ap (λ (j : ℕ). slice m.p (m.p + j) s) q ∙ part) (omega arith) qi pb qb (ap (λ (j : ℕ). slice (m.p + j) ae s) q ∙ rest) g i a;
    }
stepped s m to ae be whole x room pi qi pb qb (right acc n ls ks f g h i a) =
    let (fits, part, rest) = split-part s m.q be (name_to n []) (names_to ks []) qi (omega arith) g in
    let l = one n in
    record {
      name = n;
      at = name-head s m.q be n (names_to ks []) qi g;
      taking = λ k e. record { first = λ z. absurd (z refl); second = λ _. omega arith; room = room; few = few-kept s to m.n acc h };
      less = λ k e. omega arith;
      turn = λ k e. let q : k ≡ length (name_to n []) = e ∙ sym l in
          next-turn s m to ae be whole m.q k m.p (m.q + k) acc n ls ks room h q
          (ap (λ (j : ℕ). slice m.q (m.q + j) s) q ∙ part) pi (omega arith) pb qb f (ap (λ (j : ℕ). slice (m.q + j) be s) q ∙ rest) i a;
    }
stepped s m to ae be whole x room pi qi pb qb (both acc n ls ks f g h i a) =
    let (fits, part, rest) = split-part s m.p ae (name_to n []) (names_to ls []) pi (omega arith) f in
    let (fits', part', rest') = split-part s m.q be (name_to n []) (names_to ks []) qi (omega arith) g in
    let l = one n in
    record {
      name = n;
      at = name-head s m.p ae n (names_to ls []) pi f;
      taking = λ k e. record { first = λ _. omega arith; second = λ _. omega arith; room = room; few = few-kept s to m.n acc h };
      less = λ k e. omega arith;
      turn = λ k e. let q : k ≡ length (name_to n []) = e ∙ sym l in
          next-turn s m to ae be whole m.p k (m.p + k) (m.q + k) acc n ls ks room h q
          (ap (λ (j : ℕ). slice m.p (m.p + j) s) q ∙ part) (omega arith) (omega arith) pb qb (ap (λ (j : ℕ). slice (m.p + j) ae s) q ∙ rest)
          (ap (λ (j : ℕ). slice (m.q + j) be s) q ∙ rest') i a;
    }

pub step : {s : Bytes} {m : Merge} {to ae be : ℕ} {whole : Bytes} (x : Side) (t : Turn s m to ae be whole) → Next t (Some x) → to + 1024 ≤ length s → Step s m to ae be whole x
step {s} {m} {to} {ae} {be} {whole} x t e room = stepped s m to ae be whole x room t.p_in t.q_in t.p_below t.q_below (takes x t e)

-- ## The loop

pub record LabelsInv (s₀ : Bytes) (a b to : ℕ) (s : Bytes) (m : Merge) : Type 0 where
  pub left : SomeLabels s₀ a to
  pub right : SomeLabels s₀ b to
  pub room : to + 1024 ≤ length s
  pub below : take to s ≡ take to s₀
  pub long : length s ≡ length s₀
  pub going : (ae be : ℕ) (ls ks : List Bytes) → LabelsAt s₀ a ae to ls → LabelsAt s₀ b be to ks
      → Turn s m to ae be (line (t_node (some (insert_names ks (insert_names ls [])))))

-- node types below `to` stay
labels-same : (s s' : Bytes) (a e to : ℕ) (ls : List Bytes) → take to s' ≡ take to s → length s' ≡ length s → LabelsAt s a e to ls → LabelsAt s' a e to ls
labels-same s s' a e to ls q l h =
    record {
      at = record { ordered = h.at.ordered; inside = omega (arith, h.at.inside, l); is = part_same s s' a e to h.below q ∙ h.at.is };
      below = h.below;
      ascends = h.ascends;
    }

-- how one begins
pub label-parts : (s : Bytes) (a e to : ℕ) (ls : List Bytes) → LabelsAt s a e to ls → (a + 4 ≤ e) × (slice a (a + 4) s ≡ 76 ∷ 44 ∷ 43 ∷ 44 ∷ []) × (slice (a + 4) e s ≡ names_to ls [])
unfolding line line_to labels_to
label-parts s a e to ls h = split-part s a e (76 ∷ 44 ∷ 43 ∷ 44 ∷ []) (names_to ls []) h.at.ordered h.at.inside h.at.is

-- the first turn
module _ (s s₀ : Bytes) (a b to : ℕ) (room : to + 1024 ≤ length s) (copy : s₀ ≡ sets s to (slice a (a + 4) s)) where
  start-below : take to s₀ ≡ take to s
  start-below = ap (take to) copy ∙ take_below to s to (slice a (a + 4) s) (omega arith)

  start-long : length s₀ ≡ length s
  start-long = ap length copy ∙ length-sets s to (slice a (a + 4) s)

  pub start-labels : (e : ℕ) → SomeLabels s e to → SomeLabels s₀ e to
  start-labels e h = record { end = h.end; labels = h.labels; at = labels-same s s₀ e h.end to h.labels start-below start-long h.at }

  pub start-turn : (ae be : ℕ) (ls ks : List Bytes) → LabelsAt s₀ a ae to ls → LabelsAt s₀ b be to ks
      → Turn s₀ (record { p = a + 4; q = b + 4; n = Some 4 }) to ae be (line (t_node (some (insert_names ks (insert_names ls [])))))
  start-turn ae be ls ks h g =
      let (hi, hf, hr) = label-parts s₀ a ae to ls h in
      let (gi, gf, gr) = label-parts s₀ b be to ks g in
      let l = start-long in
      let four : slice a (a + 4) s ≡ 76 ∷ 44 ∷ 43 ∷ 44 ∷ [] = sym (part_same s s₀ a (a + 4) to (omega (arith, hi, h.below)) start-below) ∙ hf in
      record {
        acc = 76 ∷ 44 ∷ 43 ∷ 44 ∷ [];
        ls = ls;
        ks = ks;
        first = hr;
        second = gr;
        p_in = hi;
        q_in = gi;
        p_below = h.below;
        q_below = g.below;
        kept = kept-first s₀ to (76 ∷ 44 ∷ 43 ∷ 44 ∷ []) (omega arith)
            (ap (λ (w : Bytes). slice to (to + 4) w) copy ∙ copied s a to 4 (omega (arith, hi, h.below, room)) (omega (arith, room)) ∙ four);
        is = unfold line line_to labels_to in ap (λ (r : List Bytes). 76 ∷ 44 ∷ 43 ∷ 44 ∷ names_to (insert_names ks r) []) (sym (insert-own ls (ascends-sound ls h.ascends)));
        ascends = ascends-sound ks g.ascends;
      }

  pub start-inv : SomeLabels s a to → SomeLabels s b to → LabelsInv s₀ a b to s₀ (record { p = a + 4; q = b + 4; n = Some 4 })
  start-inv l r =
      record {
        left = start-labels a l;
        right = start-labels b r;
        room = omega (arith, start-long, room);
        below = refl;
        long = refl;
        going = start-turn;
      }

  -- what is made of it
  ends : (ls ks : List Bytes) → None ≡ next_of (first_of ls) (first_of ks) → (ls ≡ []) × (ks ≡ [])
  unfolding next_of
  ends [] [] e = (refl, refl)
  ends [] (k ∷ ks) e = absurd (none-some Second e)
  ends (l ∷ ls) [] e = absurd (none-some First e)
  ends (l ∷ ls) (k ∷ ks) e = absurd (none-some (next_by (lex l k)) e)

  pub labels-made : (s' s'' : Bytes) (m : Merge) (r : StdOption ℕ) → LabelsInv s₀ a b to s' m → NextIs s' m.p m.q None → r ≡ closed_of m.n → s'' ≡ closed_text s' to m.n
      → (ae be : ℕ) (ls ks : List Bytes) → LabelsAt s a ae to ls → LabelsAt s b be to ks → Made s s'' to (t_node (some (insert_names ks (insert_names ls [])))) r
  unfolding insert_names names_to
  labels-made s' s'' m r inv h er es ae be ls ks hl hk =
      let t = inv.going ae be ls ks (labels-same s s₀ a ae to ls start-below start-long hl) (labels-same s s₀ b be to ks start-below start-long hk) in
      let (el, ek) = ends t.ls t.ks (h _ _ (first_head t) (second_head t)) in
      let whole : t.acc ++ (33 ∷ 44 ∷ []) ≡ line u = ap₂ (λ (v w : List Bytes). t.acc ++ names_to (insert_names v w) []) (sym ek) (sym el) ∙ t.is in
      let w = closed s' s'' to m.n t.acc (line u) r t.kept inv.room whole er es in
      go w
    where
      u : Ty
      u = t_node (some (insert_names ks (insert_names ls [])))

      -- a node type is too large if its line is too long
      large : too_large u ≡ ltb 1024 (length (line u))
      large = unfold too_large nesting in plain (ltb 1024 (length (line u)))
        where
          plain : (b : Bool) → (b || false) ≡ b
          plain true = refl
          plain false = refl

      go : Closed s' s'' to (line u) r → Made s s'' to u r
      go w =
          let same : length s'' ≡ length s = w.long ∙ inv.long ∙ start-long in
          record {
            answer = w.answer ∙ sym (ap (λ (b : Bool). made b (length (line u))) large);
            stands = λ z.
                let short = ltb-false 1024 (length (line u)) (sym large ∙ z) in
                record { ordered = omega arith; inside = omega (arith, w.long, short, inv.room); is = w.stands short };
            below = w.below ∙ inv.below ∙ start-below;
            long = same;
          }

-- a turn of the loop
module _ (s₀ : Bytes) (a b to : ℕ) (s : Bytes) (m : Merge) (inv : LabelsInv s₀ a b to s m) where
  -- at the labels that the function was handed
  pub turn-heads : SomeHead s m.p × SomeHead s m.q
  turn-heads =
      let t = inv.going inv.left.end inv.right.end inv.left.labels inv.right.labels inv.left.at inv.right.at in
      (record { head = first_of t.ls; at = first_head t }, record { head = first_of t.ks; at = second_head t })

module _ (s₀ : Bytes) (a b to : ℕ) (s : Bytes) (m : Merge) (inv : LabelsInv s₀ a b to s m) (x : Side) (next : NextIs s m.p m.q (Some x)) where
  -- at the labels that the function was handed
  own : (ae be : ℕ) (ls ks : List Bytes) → LabelsAt s₀ a ae to ls → LabelsAt s₀ b be to ks → Step s m to ae be (line (t_node (some (insert_names ks (insert_names ls []))))) x
  own ae be ls ks hl hk = let t = inv.going ae be ls ks hl hk in step x t (next _ _ (first_head t) (second_head t)) inv.room

  some-step : Step s m to inv.left.end inv.right.end (line (t_node (some (insert_names inv.right.labels (insert_names inv.left.labels []))))) x
  some-step = own inv.left.end inv.right.end inv.left.labels inv.right.labels inv.left.at inv.right.at

  pub turn-name : (p : ℕ) → p ≡ taken_at m x → SomeName s p
  turn-name p e = rw e (record { name = some-step.name; at = some-step.at })

  module _ (p k : ℕ) (ep : p ≡ taken_at m x) (ek : NameLong s p k) where
    size : (n : Bytes) → HeadAt s (taken_at m x) (some n) → k ≡ length n + 1
    size n g = ek n (rw ep g)

    pub turn-taking : Taking s m x k to
    turn-taking = some-step.taking k (size some-step.name some-step.at)

    module _ (s' : Bytes) (m' : Merge) (em : m' ≡ moved m x k) (es : s' ≡ kept_text s (taken_at m x) k to m.n) where
      pub turn-less : (to - m'.p) + (to - m'.q) < (to - m.p) + (to - m.q)
      turn-less = rw em (some-step.less k (size some-step.name some-step.at))

      after : (ae be : ℕ) (ls ks : List Bytes) → LabelsAt s₀ a ae to ls → LabelsAt s₀ b be to ks → Turn s' m' to ae be (line (t_node (some (insert_names ks (insert_names ls [])))))
      after ae be ls ks hl hk = let w = own ae be ls ks hl hk in rw (em, es) (w.turn k (size w.name w.at))

      pub turn-again : LabelsInv s₀ a b to s' m'
      turn-again =
          let same : length s' ≡ length s = ap length es ∙ kept-long s (taken_at m x) k to m.n in
          record {
            left = inv.left;
            right = inv.right;
            room = omega (arith, same, inv.room);
            below = ap (take to) es ∙ kept-below s (taken_at m x) k to m.n ∙ inv.below;
            long = same ∙ inv.long;
            going = after;
          }
