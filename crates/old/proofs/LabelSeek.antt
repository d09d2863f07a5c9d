-- The place of a label among ascending ones, by halves of their bytes. Assumes nothing.
use mathlib.Core.Path.{◌≡◌, refl, sym, ◌∙◌, ap, ap₂, subst}
use mathlib.Core.Logic.{◌⊎◌}
use mathlib.Core.List.{List, [], ◌∷◌, ◌++◌, map, append_assoc}
use mathlib.Core.Option.{some}
use mathlib.Core.Bool.{Bool, true, false, ◌||◌}
use Prim.Native.Nat.{ℕ, zero, suc, ◌+◌, ◌-◌, ◌≤◌, ◌<◌, Ordering}
use native.Mathlib.Omega.{arith}
use lib.Dec.{ltb}
use lib.ListN.{length, take, drop, get_or, length-append, length-take, take-append-drop}
use lib.Seq.{slice, length-slice, length-take-le, take_at, drop_at, get_or-drop, take-take}
use Rattle.std.specs.Prelude.{Option, Some, None}
use Rattle.semantics.specs.Bytes.{Bytes, hex, lex}
use Rattle.semantics.specs.Ty.{t_node, name_to, names_to, labels_to, line_to, line, nesting, too_large, insert_name}
use Rattle.semantics.proofs.All.{All, empty, also, all-weaken, all_append}
use Rattle.semantics.proofs.Order.{Less, Tri, lt, eq, gt, tri, lex-lt, lex-gt, lex-eq, less-trans}
use Rattle.semantics.proofs.Regular.{Above, Ascends, ascends-sound}
use Rattle.unify_run.proofs.Maps.{ascends-all}
use borrow.Author.Tests.{ltb-false, le-ltb}
use Rattle.text.specs.Text.{Ends, order_of}
use Rattle.std.specs.declared.cmp.Ordering.{Ordering as Order}
use Rattle.std.specs.declared.cmp.Ordering.TheVariants.{Less as Before, Equal, Greater}
use Rattle.text.proofs.Laws.{part_slice}
use Rattle.ty.specs.Parts.{TypeAt}
use Rattle.ty.specs.Merging.{head_to, HeadAt}
use Rattle.ty.specs.Entry.{Fronted, inserted_at}
use Rattle.ty.specs.Made.{made as grown_by}
use Rattle.ty.proofs.Lines.{line-to, name-to, hex-bytes}
use Rattle.ty.proofs.NameLaws.{name-long, name-append, name-ends, name_part, lex-hex}
use Rattle.text.specs.Text.{Starts}
use Rattle.old.specs.Make.{LabelsFront, SomeLabel, LabelGoes, LabelSpotted, LabelAdded}

-- a place from lo to hi that is lo or stands behind a comma
pub record StartIn (w : Bytes) (lo hi r : ℕ) : Type 0 where
  pub from : lo ≤ r
  pub inside : r < hi
  pub comma : lo < r → get_or w (r - 1) 0 ≡ 44

pub start-in : {w : Bytes} {lo mid r : ℕ} (hi : ℕ) → mid < hi → Starts 44 w lo mid r → StartIn w lo hi r
start-in hi h s = record { from = s.after; inside = omega (arith, h, s.upto); comma = s.edge }

-- ## Labels one after the other

-- with the comma behind each
unfoldable pub spelled : List Bytes → Bytes
spelled [] = []
spelled (k ∷ ks) = name_to k (spelled ks)

-- the line up to the label behind these
abbrev pub front : List Bytes → Bytes
front pre = 76 ∷ 44 ∷ 43 ∷ 44 ∷ spelled pre

names-split : (pre post : List Bytes) (r : Bytes) → names_to (pre ++ post) r ≡ spelled pre ++ names_to post r
unfolding names_to spelled
names-split [] post r = refl
names-split (k ∷ pre) post r = ap (name_to k) (names-split pre post r) ∙ sym (name-append k (spelled pre) (names_to post r))

spelled-long : (k : Bytes) (ks : List Bytes) → length (spelled (k ∷ ks)) ≡ length k + 1 + length (spelled ks)
unfolding spelled
spelled-long k ks = name-long k (spelled ks)

spelled-append : (a b : List Bytes) → length (spelled (a ++ b)) ≡ length (spelled a) + length (spelled b)
unfolding spelled
spelled-append [] b = omega arith
spelled-append (k ∷ a) b = omega (arith, name-long k (spelled (a ++ b)), name-long k (spelled a), spelled-append a b)

names-long : (ls : List Bytes) (r : Bytes) → length (names_to ls r) ≡ length (spelled ls) + 2 + length r
unfolding names_to spelled
names-long [] r = omega arith
names-long (k ∷ ls) r = omega (arith, name-long k (names_to ls r), name-long k (spelled ls), names-long ls r)

-- ## A place behind a comma is the start of a label

record Found (ls : List Bytes) (j : ℕ) : Type 0 where
  pre : List Bytes
  name : Bytes
  others : List Bytes
  split : ls ≡ pre ++ (name ∷ others)
  at : length (spelled pre) ≡ j

abbrev Behind : List Bytes → Bytes → ℕ → Type 0
Behind ls r zero = Unit {0}
Behind ls r (suc i) = get_or (names_to ls r) i 0 ≡ 44

hex-none : (d : ℕ) → hex d ≡ 44 → ⊥
hex-none d e = (hex-bytes (d ∷ [])).0 e

-- through the digits of the first label
walk : (k : Bytes) (ks : List Bytes) (r : Bytes) → ((j : ℕ) → j < length (spelled ks) → Behind ks r j → Found ks j)
    → (i : ℕ) → suc i < length k + 1 + length (spelled ks) → get_or (name_to k (names_to ks r)) i 0 ≡ 44 → (j : ℕ) × (suc i ≡ length k + 1 + j) × Found ks j
unfolding name_to
walk [] ks r find zero h b = (0, refl, find 0 (omega arith) tt)
walk [] ks r find (suc i) h b = (suc i, omega arith, find (suc i) (omega arith) b)
walk (d ∷ k) ks r find zero h b = absurd (hex-none d b)
walk (d ∷ k) ks r find (suc i) h b = let (j, e, f) = walk k ks r find i (omega arith) b in (j, omega (arith, e), f)

find-label : (ls : List Bytes) (r : Bytes) (j : ℕ) → j < length (spelled ls) → Behind ls r j → Found ls j
unfolding spelled names_to
find-label [] r j h b = absurd (omega arith)
find-label (k ∷ ks) r zero h b = record { pre = []; name = k; others = ks; split = refl; at = refl }
find-label (k ∷ ks) r (suc i) h b =
    let (j, e, f) = walk k ks r (λ n. find-label ks r n) i (omega (arith, spelled-long k ks)) b in
    record {
      pre = k ∷ f.pre;
      name = f.name;
      others = f.others;
      split = ap (λ (l : List Bytes). k ∷ l) f.split;
      at = omega (arith, spelled-long k f.pre, f.at, e);
    }

-- ## Order

abbrev head_of : List Bytes → Bytes
head_of [] = []
head_of (x ∷ l) = x

abbrev tail_of : List Bytes → List Bytes
tail_of [] = []
tail_of (x ∷ l) = l

all-mid : {P : Bytes → Type 0} (p : List Bytes) (k : Bytes) (o : List Bytes) → All P (p ++ (k ∷ o)) → P k
all-mid [] k o (also h a) = h
all-mid (j ∷ p) k o (also h a) = all-mid p k o a

ascends-before : (p : List Bytes) (k : Bytes) (o : List Bytes) → Ascends (p ++ (k ∷ o)) → All (λ j. Less j k) p
ascends-before [] k o h = empty
ascends-before (j ∷ p) k o h = also (all-mid p k o (ascends-all j (p ++ (k ∷ o)) h)) (ascends-before p k o h.1)

-- of two places the later one has the greater label
later : (p : List Bytes) (k : Bytes) (o p' : List Bytes) (k' : Bytes) (o' : List Bytes) → Ascends (p ++ (k ∷ o)) → p ++ (k ∷ o) ≡ p' ++ (k' ∷ o') → length (spelled p) ≤ length (spelled p') → (k ≡ k') ⊎ Less k k'
unfolding spelled
later [] k o [] k' o' h e l = ◌⊎◌.inl (ap head_of e)
later [] k o (j ∷ p') k' o' h e l = ◌⊎◌.inr (all-mid p' k' o' (subst (All (Less k)) (ap tail_of e) (ascends-all k o h)))
later (j ∷ p) k o [] k' o' h e l = absurd (omega (arith, name-long j (spelled p)))
later (j ∷ p) k o (j' ∷ p') k' o' h e l =
    later p k o p' k' o' h.1 (ap tail_of e) (omega (arith, name-long j (spelled p), name-long j' (spelled p'), ap (λ (x : List Bytes). length (head_of x)) e))

insert-before : (m : Bytes) (o : List Bytes) → Above m o → insert_name m o ≡ m ∷ o
unfolding insert_name
insert-before m [] h = refl
insert-before m (k ∷ o) h = rw (lex-lt h, insert_name)

insert-behind : (m : Bytes) (p o : List Bytes) → All (λ j. Less j m) p → insert_name m (p ++ o) ≡ p ++ insert_name m o
unfolding insert_name
insert-behind m [] o a = refl
insert-behind m (j ∷ p) o (also h a) = rw (lex-gt h, insert_name) (ap (λ (l : List Bytes). j ∷ l) (insert-behind m p o a))

insert-there : (m : Bytes) (o : List Bytes) → insert_name m (m ∷ o) ≡ m ∷ o
unfolding insert_name
insert-there m o = rw (lex-eq m, insert_name)

-- three orders
abbrev rank_of : Ordering → ℕ
rank_of Ordering.lt = 0
rank_of Ordering.eq = 1
rank_of Ordering.gt = 2

lt-eq : Ordering.lt ≡ Ordering.eq → ⊥
lt-eq e = let q = ap rank_of e in omega (arith, q)

lt-gt : Ordering.lt ≡ Ordering.gt → ⊥
lt-gt e = let q = ap rank_of e in omega (arith, q)

eq-gt : Ordering.eq ≡ Ordering.gt → ⊥
eq-gt e = let q = ap rank_of e in omega (arith, q)

-- ## The search

-- the labels before lo come before m, those from hi on behind it
pub record Seeking (ls : List Bytes) (m : Bytes) (lo hi : ℕ) : Type 0 where
  pub pre : List Bytes
  pub post : List Bytes
  pub split : ls ≡ pre ++ post
  pub at : lo ≡ length (front pre)
  pub below : All (λ j. Less j m) pre
  pub above : (p : List Bytes) (k : Bytes) (o : List Bytes) → ls ≡ p ++ (k ∷ o) → hi ≤ length (front p) → Less m k

line-long : (ls : List Bytes) → length (line (t_node (some ls))) ≡ length (spelled ls) + 6
unfolding line line_to labels_to
line-long ls = omega (arith, names-long ls [])

module _ (w : Bytes) (n : ℕ) (x : Bytes) (ls : List Bytes) (m : Bytes) (f : LabelsFront w n ls) (z : x ≡ map hex m) where
  pub node-long : n ≡ length (spelled ls) + 6
  node-long = omega (arith, line-long ls, ap length f.at.is, length-take-le n w f.at.inside)

  ordered : Ascends ls
  ordered = ascends-sound ls f.ascends

  pub seeking : Seeking ls m 4 (n - 2)
  unfolding spelled
  seeking =
      record {
        pre = [];
        post = ls;
        split = refl;
        at = refl;
        below = empty;
        above = λ p k o e h. absurd (omega (arith, h, node-long, ap (λ (l : List Bytes). length (spelled l)) e, spelled-append p (k ∷ o), name-long k (spelled o)));
      }

  -- the whole area
  area : w ≡ line_to (t_node (some ls)) (drop n w)
  area = sym (take-append-drop n w) ∙ ap (λ (y : Bytes). y ++ drop n w) f.at.is ∙ sym (line-to (t_node (some ls)) (drop n w))

  from_cut : (pre post : List Bytes) → ls ≡ pre ++ post → (q : ℕ) → q ≡ length (front pre) → drop q w ≡ names_to post (drop n w)
  unfolding line_to labels_to
  from_cut pre post e q at =
      let R = drop n w in
      let t : w ≡ front pre ++ names_to post R =
      area ∙ ap (λ (y : Bytes). 76 ∷ 44 ∷ 43 ∷ 44 ∷ y) (ap (λ (l : List Bytes). names_to l R) e ∙ names-split pre post R) in
      ap (drop q) t ∙ drop_at (front pre) (names_to post R) q (sym at)

  module _ (lo hi : ℕ) (s : Seeking ls m lo hi) (less : lo < hi) (low : hi + 2 ≤ n) (a : ℕ) (st : StartIn w lo hi a) where
    -- a label starts there
    pub record Met : Type 0 where
      pub before : List Bytes
      pub name : Bytes
      pub others : List Bytes
      pub split : ls ≡ before ++ (name ∷ others)
      pub at : a ≡ length (front before)
      pub here : HeadAt w a (some name)

    met : Met
    unfolding names_to head_to
    met = go (a - lo) refl
      where
        inside : (j : ℕ) → a - lo ≡ j → j < length (spelled s.post)
        inside j e = omega (arith, st.inside, st.from, s.at, low, node-long, ap (λ (l : List Bytes). length (spelled l)) s.split, spelled-append s.pre s.post)

        of : (j : ℕ) → a - lo ≡ j → Found s.post j → Met
        of j e g =
            let whole : ls ≡ (s.pre ++ g.pre) ++ (g.name ∷ g.others) = s.split ∙ ap (λ (l : List Bytes). s.pre ++ l) g.split ∙ sym (append_assoc s.pre g.pre (g.name ∷ g.others)) in
            let place : a ≡ length (front (s.pre ++ g.pre)) = omega (arith, e, s.at, st.from, g.at, spelled-append s.pre g.pre) in
            record {
              before = s.pre ++ g.pre;
              name = g.name;
              others = g.others;
              split = whole;
              at = place;
              here = record { rest = names_to g.others (drop n w); is = from_cut (s.pre ++ g.pre) (g.name ∷ g.others) whole a place };
            }

        go : (j : ℕ) → a - lo ≡ j → Met
        go zero e = of zero e (find-label s.post (drop n w) zero (inside zero e) tt)
        go (suc i) e =
            let byte : get_or w (lo + i) 0 ≡ 44 = subst (λ (q : ℕ). get_or w q 0 ≡ 44) (omega (arith, e, st.from)) (st.comma (omega (arith, e))) in
            let here : get_or (names_to s.post (drop n w)) i 0 ≡ 44 =
            ap (λ (y : Bytes). get_or y i 0) (sym (from_cut s.pre s.post s.split lo s.at)) ∙ get_or-drop lo w i 0 ∙ byte in
            of (suc i) e (find-label s.post (drop n w) (suc i) (inside (suc i) e) here)

    module _ (c : ℕ) (en : Ends 44 w a c) where
      module _ (o : Order) (told : order_of o ≡ lex (take (c - a) (drop a w)) x) where
        compared : order_of o ≡ lex met.name m
        compared = told ∙ ap₂ lex (part_slice a c w ∙ name_part w a c met.name met.here en) z ∙ lex-hex met.name m

        pub seek-up : o ≡ Before → Seeking ls m (c + 1) hi
        unfolding spelled
        seek-up e = go (tri met.name m)
          where
            on : Less met.name m → Seeking ls m (c + 1) hi
            on h =
                record {
                  pre = met.before ++ (met.name ∷ []);
                  post = met.others;
                  split = met.split ∙ sym (append_assoc met.before (met.name ∷ []) met.others);
                  at = omega (arith, name-ends w a c met.name met.here en, met.at, spelled-append met.before (met.name ∷ []), name-long met.name []);
                  below = all_append (all-weaken (λ j q. less-trans q h) (ascends-before met.before met.name met.others (subst Ascends met.split ordered))) (also h empty);
                  above = s.above;
                }

            go : Tri met.name m → Seeking ls m (c + 1) hi
            go (lt h) = on h
            go (eq h) = absurd (lt-eq (sym (ap order_of e) ∙ compared ∙ ap (λ (b : Bytes). lex b m) h ∙ lex-eq m))
            go (gt h) = absurd (lt-gt (sym (ap order_of e) ∙ compared ∙ lex-gt h))

        pub seek-there : o ≡ Equal → LabelGoes (line (t_node (some ls))) ls m None
        seek-there e = go (tri met.name m)
          where
            go : Tri met.name m → insert_name m ls ≡ ls
            go (lt h) = absurd (lt-eq (sym (sym (ap order_of e) ∙ compared ∙ lex-lt h)))
            go (eq h) =
                let g = subst Ascends met.split ordered in
                let b = subst (λ (k : Bytes). All (λ j. Less j k) met.before) h (ascends-before met.before met.name met.others g) in
                let v : ls ≡ met.before ++ (m ∷ met.others) = met.split ∙ ap (λ (k : Bytes). met.before ++ (k ∷ met.others)) h in
                ap (insert_name m) v ∙ insert-behind m met.before (m ∷ met.others) b ∙ ap (λ (l : List Bytes). met.before ++ l) (insert-there m met.others) ∙ sym v
            go (gt h) = absurd (eq-gt (sym (ap order_of e) ∙ compared ∙ lex-gt h))

        pub seek-down : o ≡ Greater → Seeking ls m lo a
        seek-down e = go (tri met.name m)
          where
            on : Less m met.name → Seeking ls m lo a
            on h =
                record {
                  pre = s.pre;
                  post = s.post;
                  split = s.split;
                  at = s.at;
                  below = s.below;
                  above = λ p k o' v l. pick k (later met.before met.name met.others p k o' (subst Ascends met.split ordered) (sym met.split ∙ v) (omega (arith, met.at, l)));
                }
              where
                pick : (k : Bytes) → (met.name ≡ k) ⊎ Less met.name k → Less m k
                pick k (◌⊎◌.inl q) = subst (Less m) q h
                pick k (◌⊎◌.inr q) = less-trans h q

            go : Tri met.name m → Seeking ls m lo a
            go (lt h) = absurd (lt-gt (sym (sym (ap order_of e) ∙ compared ∙ lex-lt h)))
            go (eq h) = absurd (eq-gt (sym (sym (ap order_of e) ∙ compared ∙ ap (λ (b : Bytes). lex b m) h ∙ lex-eq m)))
            go (gt h) = on h

  -- nothing is left between
  pub seek-done : (lo hi : ℕ) → Seeking ls m lo hi → hi ≤ lo → LabelGoes (line (t_node (some ls))) ls m (Some lo)
  unfolding line line_to labels_to names_to
  seek-done lo hi s h =
      let N = names_to s.post [] in
      let now : line (t_node (some ls)) ≡ front s.pre ++ N = ap (λ (y : Bytes). 76 ∷ 44 ∷ 43 ∷ 44 ∷ y) (ap (λ (l : List Bytes). names_to l []) s.split ∙ names-split s.pre s.post []) in
      let new : insert_name m ls ≡ s.pre ++ (m ∷ s.post) = ap (insert_name m) s.split ∙ insert-behind m s.pre s.post s.below ∙ ap (λ (l : List Bytes). s.pre ++ l) (insert-before m s.post (first s.post s.split)) in
      let then : line (t_node (some (insert_name m ls))) ≡ front s.pre ++ name_to m N = ap (λ (y : Bytes). 76 ∷ 44 ∷ 43 ∷ 44 ∷ y) (ap (λ (l : List Bytes). names_to l []) new ∙ names-split s.pre (m ∷ s.post) []) in (
        omega (arith, s.at, ap length now, length-append (front s.pre) N),
        then
            ∙ ap₂ (λ (a b : Bytes). a ++ name_to m b) (sym (ap (take lo) now ∙ take_at (front s.pre) N lo (sym s.at))) (sym (ap (drop lo) now ∙ drop_at (front s.pre) N lo (sym s.at))),
      )
    where
      first : (post : List Bytes) → ls ≡ s.pre ++ post → Above m post
      first [] e = tt
      first (k ∷ post) e = s.above s.pre k post e (omega (arith, h, s.at))

-- ## The bytes

empty-slice : (m : ℕ) (l : Bytes) → m ≤ length l → slice m m l ≡ []
empty-slice m l h = go (slice m m l) (length-slice m m l h)
  where
    go : (y : Bytes) → length y ≡ m - m → y ≡ []
    go [] e = refl
    go (b ∷ y) e = absurd (omega (arith, e))

-- ## One label more

node-large : (ls : List Bytes) → too_large (t_node (some ls)) ≡ ltb 1024 (length (line (t_node (some ls))))
unfolding too_large nesting
node-large ls = go (ltb 1024 (length (line (t_node (some ls)))))
  where
    go : (b : Bool) → (b || false) ≡ b
    go true = refl
    go false = refl

module _ (w : Bytes) (n : ℕ) (x : Bytes) (q : SomeLabel w n x) where
  pub spot-inside : (p : ℕ) → LabelSpotted w n x (Some p) → p ≤ n
  spot-inside p g = let f = q.front in omega (arith, (g q.labels q.name f q.spelt).0, ap length f.at.is, length-take-le n w f.at.inside)

  module _ (p : ℕ) (spot : LabelSpotted w n x (Some p)) (w' : Bytes) (r : Option ℕ) (h : Fronted w w' (inserted_at w n n p x) r) (ls : List Bytes) (m : Bytes) (f : LabelsFront w n ls) (z : x ≡ map hex m) where
    new_line : inserted_at w n n p x ≡ line (t_node (some (insert_name m ls)))
    unfolding inserted_at
    new_line =
        let y : Bytes = slice p n w in
        let a : take p (line (t_node (some ls))) ≡ take p w = ap (take p) (sym f.at.is) ∙ take-take p n w (spot-inside p spot) in
        let b : name_to m (drop p (line (t_node (some ls)))) ≡ x ++ (44 ∷ y) = ap (λ (v : Bytes). name_to m (drop p v)) (sym f.at.is) ∙ name-to m y ∙ ap (λ (v : Bytes). v ++ (44 ∷ y)) (sym z) in
        ap (λ (v : Bytes). take p w ++ (x ++ (44 ∷ (v ++ y)))) (empty-slice n w f.at.inside) ∙ sym ((spot ls m f z).1 ∙ ap₂ (λ (v t : Bytes). v ++ t) a b)

    new-large : ltb 1024 (length (inserted_at w n n p x)) ≡ too_large (t_node (some (insert_name m ls)))
    new-large = ap (λ (v : Bytes). ltb 1024 (length v)) new_line ∙ sym (node-large (insert_name m ls))

    new_told : r ≡ grown_by (too_large (t_node (some (insert_name m ls)))) (length (line (t_node (some (insert_name m ls)))))
    new_told = h.answer ∙ ap₂ (λ (b : Bool) (k : ℕ). grown_by b k) new-large (ap length new_line)

    new-stands : too_large (t_node (some (insert_name m ls))) ≡ false → TypeAt w' 0 (0 + length (line (t_node (some (insert_name m ls))))) (t_node (some (insert_name m ls)))
    new-stands e =
        let u = t_node (some (insert_name m ls)) in
        let l = inserted_at w n n p x in
        let v = h.stands (ltb-false 1024 (length l) (new-large ∙ e)) in
        let k = ap length new_line in
        let j : 0 + length (line u) ≡ length l = omega (arith, k) in
        record { ordered = omega arith; inside = omega (arith, ap length v, length-take (length l) w', k); is = ap (λ (i : ℕ). take i w') j ∙ v ∙ new_line }

  pub label-new : (p : ℕ) → LabelSpotted w n x (Some p) → (w' : Bytes) (r : Option ℕ) → Fronted w w' (inserted_at w n n p x) r → LabelAdded w w' n x r
  label-new p spot w' r h ls m f z =
      record { answer = new_told p spot w' r h ls m f z; stands = new-stands p spot w' r h ls m f z; below = refl; long = h.long }

  pub label-there : LabelSpotted w n x None → LabelAdded w w n x (Some n)
  label-there spot ls m f z =
      let e : insert_name m ls ≡ ls = spot ls m f z in
      let k : length (line (t_node (some ls))) ≡ n = sym (ap length f.at.is) ∙ length-take-le n w f.at.inside in
      let small : too_large (t_node (some ls)) ≡ false = node-large ls ∙ le-ltb 1024 (length (line (t_node (some ls)))) (omega (arith, k, q.few)) in
      rw e
      (record {
        answer = sym (ap₂ (λ (b : Bool) (j : ℕ). grown_by b j) small k);
        stands = λ _. subst (λ (j : ℕ). TypeAt w 0 j (t_node (some ls))) (omega (arith, k)) f.at;
        below = refl;
        long = refl;
      })
