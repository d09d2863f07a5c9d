-- The validation of the lines under a line: each step of its loop on plain values. Assumes nothing.
use mathlib.Core.Path.{◌≡◌, refl, sym, ◌∙◌, ap}
use mathlib.Core.List.{List, [], ◌∷◌, ◌++◌, map, append-nil}
use mathlib.Core.Bool.{Bool, true, false, cond, ◌&&◌}
use Prim.Native.Nat.{ℕ, suc, zero, ◌+◌, ◌-◌, ◌*◌, ◌≤◌, ◌<◌, max}
use Rattle.std.proofs.Math.Nat.{le-max_left, le-max_right, max-le}
use native.Mathlib.Numerals.{add-one}
use native.Mathlib.Omega.{arith}
use lib.Dec.{eqb, ltb}
use lib.ListN.{length, drop, replicate}
use borrow.Author.Tests.{eqb-true, eqb-false, ltb-true, ltb-false, ne_eqb, eq-eqb, le-ltb, lt-ltb}
use Rattle.semantics.specs.Bytes.{Bytes, split}
use Rattle.semantics.specs.Sheet.{Head, Place, row, nothing, Read, bad, ok, Want, at, wanted, deeper, rank, place, roles, fits, beyond, after, under}
use Rattle.std.specs.Prelude.{Result, Ok, Err}
use Rattle.semantics.specs.Refusals.{number_of}
use Rattle.semantics.specs.declared.refusals.Refusal.{Refusal}
use Rattle.semantics.specs.declared.refusals.Refused.{Refused}
use Rattle.line.specs.Words.{word_of, place_of}
use Rattle.line.specs.Line.{HeadIs, ReadAs}
use Rattle.line.specs.declared.places.Place.{Place as Spot}
use Rattle.line.specs.declared.line.Head.{Head as Seen}
use Rattle.line.specs.declared.line.BadLine.{BadLine}
use Rattle.hir.specs.Run.{Run, stopped, passed, before, carry_on, run, behind, and_go}
use Rattle.hir.specs.Kids.{second_size, bits, two_groups, kid_wants, level}
use Rattle.hir.specs.Check.{class_of, Refuses, elsewhere, wrong, deep, pick_p, spot_of, below_of, KidsAs, wants_of, KidsAsk, FineAs}
use Rattle.hir.specs.declared.valid.Next.{Next}
use Rattle.hir.specs.declared.valid.Kids.{Kids}
use Rattle.hir.proofs.RunLaws.{behind-none, behind-append, before-behind, run-append, run_none, behind-passed}
use Rattle.hir.proofs.PlaceLaws.{count_small, flag_small, line-unfit, line-wrong, line-fit, class-is, kids-of, Under, first_under, second-under, carry-bad, carry-ok}

-- ## The wants of two groups

abbrev pick_w : Bool → Want → Want → Want
pick_w true a b = a
pick_w false a b = b

ltb-suc : (j n : ℕ) → ltb j n ≡ ltb (suc j) (suc n)
ltb-suc j n = go (ltb j n) refl
  where
    go : (b : Bool) → ltb j n ≡ b → b ≡ ltb (suc j) (suc n)
    go true e = sym (lt-ltb (suc j) (suc n) (omega (arith, ltb-true j n e)))
    go false e = sym (le-ltb (suc j) (suc n) (omega (arith, ltb-false j n e)))

one-group : (m j : ℕ) (b : Want) → j < m → drop j (replicate m b) ≡ b ∷ drop (suc j) (replicate m b)
one-group zero j b h = absurd (omega arith)
one-group (suc m) zero b h = refl
one-group (suc m) (suc j) b h = one-group m j b (omega arith)

next_of : (n m j : ℕ) (a b : Want) → j < n + m → drop j (two_groups n a m b) ≡ pick_w (ltb j n) a b ∷ drop (suc j) (two_groups n a m b)
next_of zero m j a b h = rw (le-ltb j 0 (omega arith)) (one-group m j b (omega arith))
next_of (suc n) m zero a b h = rw (lt-ltb 0 (suc n) (omega arith))
next_of (suc n) m (suc j) a b h = next_of n m j a b (omega arith) ∙ rw (ltb-suc j n)

pick-want : (t : Bool) (a b : Spot) (d : ℕ) → pick_w t (at (place_of a) d) (at (place_of b) d) ≡ at (place_of (pick_p t a b)) d
pick-want true a b d = refl
pick-want false a b d = refl

pub next-want : (k : Kids) (d j : ℕ) → k.first ≤ k.all → j < k.all → drop j (wants_of k d) ≡ at (place_of (spot_of k j)) d ∷ drop (j + 1) (wants_of k d)
next-want k d j f h = next_of k.first (k.all - k.first) j _ _ (omega arith) ∙ rw (add-one, pick-want (ltb j k.first) k.place1 k.place2 d)

drop-two : (n m j : ℕ) (a b : Want) → n + m ≤ j → drop j (two_groups n a m b) ≡ []
drop-two zero zero zero a b h = refl
drop-two zero zero (suc j) a b h = refl
drop-two zero (suc m) zero a b h = absurd (omega arith)
drop-two zero (suc m) (suc j) a b h = drop-two zero m j a b (omega arith)
drop-two (suc n) m zero a b h = absurd (omega arith)
drop-two (suc n) m (suc j) a b h = drop-two n m j a b (omega arith)

pub no_more : (k : Kids) (d j : ℕ) → k.first ≤ k.all → k.all ≤ j → drop j (wants_of k d) ≡ []
no_more k d j f h = drop-two k.first (k.all - k.first) j _ _ (omega arith)

pub wants-as : (h : Seen) (k : Kids) (d : ℕ) → KidsAs h k → kid_wants (row (word_of h.word)).under h.count h.flag d ≡ wants_of k d
unfolding kid_wants
wants-as h k d a =
    let z : k.all - k.first ≡ second_size (row (word_of h.word)).under h.count (bits h.flag) = omega (arith, a.all) in
    rw (z, a.first, a.place1, a.place2)

-- ## The class of a child

pub kid_under : (h : Seen) (k : Kids) → KidsAs h k → (j : ℕ) → Under (class_of (Ok h)) (rank (place_of (spot_of k j)))
kid_under h k a j = go (ltb j k.first)
  where
    go : (t : Bool) → Under (class_of (Ok h)) (rank (place_of (pick_p t k.place1 k.place2)))
    go true = rw a.place1 (first_under h)
    go false = rw a.place2 (second-under h)

-- ## A child's line

pub after_none : (d : ℕ) (h : Head) → 3 < rank (place h) → after d h ≡ []
unfolding after
after_none d h l = rw (ne_eqb (rank (place h)) 0 (λ e. omega arith), ne_eqb (rank (place h)) 1 (λ e. omega arith), ne_eqb (rank (place h)) 2 (λ e. omega arith), after)

abbrev pub kid_run : Bytes → Seen → ℕ → ℕ → Run
kid_run s k d m = run (kid_wants (row (word_of k.word)).under k.count k.flag d) m (split 10 (drop k.next s))

-- the line is fine there, and its own lines come next
pub record KidGo (s : Bytes) (p : ℕ) (k : Seen) (q : Place) (d n : ℕ) (ws : List Want) (ls : List Bytes) : Type 0 where
  pub head : Head
  pub is : HeadIs s k head
  pub class : class_of (Ok k) ≡ rank q
  pub deep : rank q ≡ 13 → 0 < d
  pub same : run (at q d ∷ ws) n ls ≡ before head (run (kid_wants (row (word_of k.word)).under k.count k.flag (below_of (rank q) d) ++ ws) (suc n) (split 10 (drop k.next s)))
  pub on : p < k.next
  pub inside : k.next ≤ length s

module _ (s : Bytes) (p : ℕ) (q : Place) (d n : ℕ) (ws : List Want) (ls : List Bytes) where
  abbrev w : Want
  w = at q d

  fits-yes : (c : ℕ) → c ≡ rank q → fits w c ≡ true
  unfolding fits
  fits-yes c e = eq-eqb c (rank q) e

  fits-no : (c : ℕ) → (c ≡ rank q → ⊥) → fits w c ≡ false
  unfolding fits
  fits-no c e = ne_eqb c (rank q) e

  beyond-deep : (h : Head) → rank q ≡ 13 → d ≡ 0 → beyond w h ≡ bad 5
  unfolding beyond
  beyond-deep h e z = rw (e, eq-eqb d 0 z, beyond)

  beyond-fine : (h : Head) → (rank q ≡ 13 → 0 < d) → beyond w h ≡ ok h
  unfolding beyond
  beyond-fine h l = go (eqb (rank q) 13) refl
    where
      go : (b : Bool) → eqb (rank q) 13 ≡ b → elim (b && eqb d 0) [ true ↦ bad 5 | false ↦ ok h ] ≡ ok h
      go true e = rw (ne_eqb d 0 (λ z. omega (arith, l (eqb-true (rank q) 13 e))))
      go false e = refl

  pub kid-stop : (x : Result Seen BadLine) → ReadAs s p x ls → (why : Refusal) → Refuses x q d why → run (w ∷ ws) n ls ≡ stopped (number_of why) n
  kid-stop x r why (elsewhere ne e) = line-unfit s p w ws n x ls r (fits-no (class_of x) ne) ∙ ap (λ (c : ℕ). stopped c n) (sym e)
  kid-stop x r why (wrong b e here ey) = line-wrong s p w ws n b ls (rw e at r) (fits-yes (class_of (Err b)) (rw e at here)) ∙ ap (λ (y : Refusal). stopped (number_of y) n) (sym ey)
  kid-stop x r why (deep k e here e13 z ey) =
      let f = line-fit s p w ws n k ls (rw e at r) (fits-yes (class_of (Ok k)) (rw e at here)) in
      f.same ∙ ap (λ (y : Read). carry_on n y (λ h. run (under w h ++ ws) (suc n) (split 10 (drop k.next s)))) (beyond-deep f.head e13 z) ∙ carry-bad n 5 _ ∙ ap (λ (c : ℕ). stopped c n) (sym ey)

  module _ (k : Seen) (r : ReadAs s p (Ok k) ls) (here : class_of (Ok k) ≡ rank q) (up : 3 < rank q) where
    under-kid : (h : Head) → HeadIs s k h → under w h ≡ kid_wants (row (word_of k.word)).under k.count k.flag (below_of (rank q) d)
    unfolding under
    under-kid h i =
        let e : rank (place h) ≡ rank q = sym (class-is s k h i) ∙ here in
        rw (after_none (deeper w) h (omega arith), append-nil (map (wanted (deeper w)) (roles h)), kids-of s k h (deeper w) i) refl

    pub kid-go : (rank q ≡ 13 → 0 < d) → KidGo s p k q d n ws ls
    kid-go dp =
        let f = line-fit s p w ws n k ls r (fits-yes (class_of (Ok k)) here) in
        record {
          head = f.head;
          is = f.is;
          class = here;
          deep = dp;
          same = f.same ∙ rw (beyond-fine f.head dp) (carry-ok n f.head _ ∙ rw (under-kid f.head f.is));
          on = f.on;
          inside = f.inside;
        }

-- ## The loop over the children

-- j of the n children are fine; the next stands at p, line l
pub record KidsInv (s : Bytes) (k : Kids) (d n p₀ l₀ p l j : ℕ) : Type 0 where
  pub upto : j ≤ n
  pub all : n ≡ k.all
  pub part : k.first ≤ k.all
  pub heads : List Head
  pub same : run (wants_of k d) l₀ (split 10 (drop p₀ s)) ≡ behind heads (run (drop j (wants_of k d)) l (split 10 (drop p s)))
  pub on : p₀ ≤ p
  pub inside : p ≤ length s
  pub above : l ≤ p + 1

pub kids-start : (s : Bytes) (k : Kids) (from line d : ℕ) → KidsAsk s k from line → KidsInv s k d k.all from line from line 0
kids-start s k from line d q =
    record {
      upto = omega arith;
      all = refl;
      part = omega (arith, q.hung.all);
      heads = [];
      same = sym (behind-none (run (wants_of k d) line (split 10 (drop from s))));
      on = omega arith;
      inside = q.inside;
      above = q.above;
    }

module _ (s : Bytes) (ks : Kids) (d n p₀ l₀ p l j : ℕ) (i : KidsInv s ks d n p₀ l₀ p l j) (more : j < n) (c : Spot) (ec : c ≡ spot_of ks j) where
  abbrev R : Run
  R = run (wants_of ks d) l₀ (split 10 (drop p₀ s))

  abbrev later : List Want
  later = drop (j + 1) (wants_of ks d)

  turn : R ≡ behind i.heads (run (at (place_of c) d ∷ later) l (split 10 (drop p s)))
  turn = i.same ∙ ap (λ (x : List Want). behind i.heads (run x l (split 10 (drop p s)))) (next-want ks d j i.part (omega (arith, i.all)) ∙ rw ec)

  -- a child's line is refused
  pub kids-stop : (x : Result Seen BadLine) → ReadAs s p x (split 10 (drop p s)) → (why : Refusal) → Refuses x (place_of c) d why → R ≡ stopped (number_of why) l
  unfolding behind
  kids-stop x r why f = turn ∙ ap (behind i.heads) (kid-stop s p (place_of c) d l later (split 10 (drop p s)) x r why f)

  module _ (k : Seen) (g : KidGo s p k (place_of c) d l later (split 10 (drop p s))) where
    abbrev inner : Run
    inner = kid_run s k (below_of (rank (place_of c)) d) (suc l)

    into-kid : R ≡ behind i.heads (before g.head (and_go inner (λ m ms. run later m ms)))
    into-kid = turn ∙ ap (behind i.heads) (g.same ∙ ap (before g.head) (run-append (split 10 (drop k.next s)) _ later (suc l)))

    -- a child is refused further down
    pub kids-refused : (y m : ℕ) → inner ≡ stopped y m → R ≡ stopped y m
    unfolding behind before and_go
    kids-refused y m e = into-kid ∙ ap (λ (x : Run). behind i.heads (before g.head (and_go x (λ m ms. run later m ms)))) e

    -- a child is fine
    pub kids-on : (p' l' : ℕ) → FineAs s k.next p' l' inner → KidsInv s ks d n p₀ l₀ p' l' (j + 1)
    unfolding and_go
    kids-on p' l' f =
        record {
          upto = omega arith;
          all = i.all;
          part = i.part;
          heads = i.heads ++ (g.head ∷ f.heads);
          same = into-kid
              ∙ ap (λ (x : Run). behind i.heads (before g.head (and_go x (λ m ms. run later m ms)))) f.same
              ∙ ap (behind i.heads) (before-behind g.head _ ∙ behind-append (g.head ∷ []) f.heads _)
              ∙ behind-append i.heads (g.head ∷ f.heads) _;
          on = omega (arith, f.on, g.on, i.on);
          inside = f.inside;
          above = f.above;
        }

pub kids-end : (s : Bytes) (k : Kids) (d n p₀ l₀ p l j : ℕ) → KidsInv s k d n p₀ l₀ p l j → n ≤ j → FineAs s p₀ p l (run (wants_of k d) l₀ (split 10 (drop p₀ s)))
kids-end s k d n p₀ l₀ p l j i over =
    record {
      heads = i.heads;
      same = i.same ∙ ap (λ (x : List Want). behind i.heads (run x l (split 10 (drop p s)))) (no_more k d j i.part (omega (arith, i.all))) ∙ ends (split 10 (drop p s));
      on = i.on;
      inside = i.inside;
      above = i.above;
    }
  where
    ends : (ls : List Bytes) → behind i.heads (run [] l ls) ≡ passed i.heads l ls
    ends ls = ap (behind i.heads) (run_none ls l) ∙ behind-passed i.heads l ls

-- ## One turn, by what the code has at hand

no_kids : (w : Seen) (d : ℕ) → (row (word_of w.word)).under ≡ nothing → kid_wants (row (word_of w.word)).under w.count w.flag d ≡ []
unfolding kid_wants
no_kids w d e = rw e refl

level-small : (c : ℕ) → level c ≤ 13
unfolding level
level-small c = go (eqb c 13) (eqb c 7)
  where
    go : (a b : Bool) → elim a [ true ↦ 13 | false ↦ elim b [ true ↦ 0 | false ↦ 12 - c ] ] ≤ 13
    go true b = omega arith
    go false true = omega arith
    go false false = omega arith

-- how far what hangs under a line is from what holds no other: one more than its place, and 0 for an expression, which takes a level
abbrev place_reach : ℕ → ℕ
place_reach c = elim (eqb c 13) [ true ↦ 0 | false ↦ suc (level c) ]

abbrev pub reach : Kids → ℕ
reach k = max (place_reach (rank (place_of k.place1))) (place_reach (rank (place_of k.place2)))

level-below : (c : ℕ) → (c ≡ 13 → ⊥) → level c ≤ 12
unfolding level
level-below c other = rw (ne_eqb c 13 other, level) (go (eqb c 7))
  where
    go : (b : Bool) → elim b [ true ↦ 0 | false ↦ 12 - c ] ≤ 12
    go true = omega arith
    go false = omega arith

place_reach-small : (c : ℕ) → place_reach c ≤ 13
place_reach-small c = go (eqb c 13) refl
  where
    go : (a : Bool) → eqb c 13 ≡ a → elim a [ true ↦ 0 | false ↦ suc (level c) ] ≤ 13
    go true e = omega arith
    go false e = omega (arith, level-below c (eqb-false c 13 e))

reach-small : (k : Kids) → reach k ≤ 13
reach-small k = max-le (place_reach-small (rank (place_of k.place1))) (place_reach-small (rank (place_of k.place2)))

reach_kid : (k : Kids) (j : ℕ) → place_reach (rank (place_of (spot_of k j))) ≤ reach k
reach_kid k j = go (ltb j k.first)
  where
    go : (t : Bool) → place_reach (rank (place_of (pick_p t k.place1 k.place2))) ≤ reach k
    go true = le-max_left (place_reach (rank (place_of k.place1))) (place_reach (rank (place_of k.place2)))
    go false = le-max_right (place_reach (rank (place_of k.place1))) (place_reach (rank (place_of k.place2)))

-- what hangs under a line of a place that is other expression's reaches less far
module _ (c : ℕ) (other : c ≡ 13 → ⊥) where
  below_place : (g : ℕ) → Under c g → place_reach g < place_reach c
  below_place g u = rw (ne_eqb c 13 other, place_reach) (go (eqb g 13) refl)
    where
      go : (t : Bool) → eqb g 13 ≡ t → elim t [ true ↦ 0 | false ↦ suc (level g) ] < suc (level c)
      go true e = omega arith
      go false e = omega (arith, u.falls (eqb-false g 13 e))

reach_falls : (k : Seen) (u : Kids) → KidsAs k u → (c : ℕ) → class_of (Ok k) ≡ c → (c ≡ 13 → ⊥) → reach u < place_reach c
reach_falls k u a c e other =
    omega (
      arith,
      below_place c other (rank (place_of u.place1)) (rw (a.place1, sym e) (first_under k)),
      below_place c other (rank (place_of u.place2)) (rw (a.place2, sym e) (second-under k)),
    )

module _ (s : Bytes) (ks : Kids) (from line depth : ℕ) (ask : KidsAsk s ks from line) (n p l j : ℕ) (inv : KidsInv s ks depth n from line p l j) where
  abbrev whole_run : Run
  whole_run = run (wants_of ks depth) line (split 10 (drop from s))

  pub step_end : n ≤ j → FineAs s from p l whole_run
  step_end over = kids-end s ks depth n from line p l j inv over

  module _ (more : j < n) (c : Spot) (ec : c ≡ spot_of ks j) where
    un : Under (class_of (Ok ask.over)) (rank (place_of c))
    un = rw ec (kid_under ask.over ks ask.hung j)

    pub step-stop : (x : Result Seen BadLine) → ReadAs s p x (split 10 (drop p s)) → (why : Refusal) → Refuses x (place_of c) depth why → whole_run ≡ stopped (number_of why) l
    step-stop x r why f = kids-stop s ks depth n from line p l j inv more c ec x r why f

    module _ (k : Seen) (r : ReadAs s p (Ok k) (split 10 (drop p s))) (here : class_of (Ok k) ≡ rank (place_of c)) (dp : rank (place_of c) ≡ 13 → 0 < depth) where
      go : KidGo s p k (place_of c) depth l (drop (j + 1) (wants_of ks depth)) (split 10 (drop p s))
      go = kid-go s p (place_of c) depth l (drop (j + 1) (wants_of ks depth)) (split 10 (drop p s)) k r here un.above dp

      pub step_room : l < 4294967295
      step_room = omega (arith, ask.room, inv.above, inv.inside)

      -- nothing can stand below the line
      pub step-leaf : (m : ℕ) → m ≡ l + 1 → (row (word_of k.word)).under ≡ nothing → KidsInv s ks depth n from line k.next m (j + 1)
      step-leaf m em none =
          kids-on s ks depth n from line p l j inv more c ec k go k.next m
          (record {
            heads = [];
            same = ap (λ (x : List Want). run x (suc l) (split 10 (drop k.next s))) (no_kids k (below_of (rank (place_of c)) depth) none)
                ∙ (run_none (split 10 (drop k.next s)) (suc l) ∙ ap (λ (x : ℕ). passed [] x (split 10 (drop k.next s))) (sym (em ∙ add-one l)));
            on = omega arith;
            inside = go.inside;
            above = omega (arith, em, inv.above, go.on);
          })

      pub step-small : (k.count ≤ 9999) × (k.flag ≤ 3)
      step-small = (count_small s k go.head go.is, flag_small s k go.head go.is)

      module _ (under : Kids) (hung : KidsAs k under) (f m dep : ℕ) (ef : f ≡ k.next) (em : m ≡ l + 1) (ed : dep ≡ below_of (rank (place_of c)) depth) where
        pub step_falls : 14 * dep + reach under < 14 * depth + reach ks
        step_falls = by (eqb (rank (place_of c)) 13) refl ed
          where
            by : (t : Bool) → eqb (rank (place_of c)) 13 ≡ t → dep ≡ cond t (depth - 1) depth → 14 * dep + reach under < 14 * depth + reach ks
            by true e d = omega (arith, d, reach-small under, go.deep (eqb-true (rank (place_of c)) 13 e))
            by false e d = omega (arith, d, reach_falls k under hung (rank (place_of c)) here (eqb-false (rank (place_of c)) 13 e), (rw (sym ec) at (reach_kid ks j)))

        pub step-ask : KidsAsk s under f m
        step-ask = rw ef (record { room = ask.room; over = k; hung = hung; inside = go.inside; above = omega (arith, em, inv.above, go.on) })

        abbrev under_run : Run
        under_run = run (wants_of under dep) m (split 10 (drop f s))

        kid-as : under_run ≡ kid_run s k (below_of (rank (place_of c)) depth) (suc l)
        kid-as = rw (ef, sym (wants-as k under dep hung), ed, em ∙ add-one l) refl

        pub step-refused : (e : Refused) → under_run ≡ stopped (number_of e.why) e.place → whole_run ≡ stopped (number_of e.why) e.place
        step-refused e g = kids-refused s ks depth n from line p l j inv more c ec k go (number_of e.why) e.place (sym kid-as ∙ g)

        pub step-on : (x : Next) → FineAs s f x.at x.line.0 under_run → KidsInv s ks depth n from line x.at x.line.0 (j + 1)
        step-on x g = kids-on s ks depth n from line p l j inv more c ec k go x.at x.line.0 (rw ef at (rw kid-as at g))
