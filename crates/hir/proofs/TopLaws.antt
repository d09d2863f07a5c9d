-- The top of a sheet: its bindings, its clauses, its end. Assumes nothing.
use mathlib.Core.Path.{◌≡◌, refl, sym, ◌∙◌, ap, subst}
use mathlib.Core.List.{List, [], ◌∷◌, ◌++◌, append-nil}
use mathlib.Core.Logic.{inl, inr}
use mathlib.Core.Bool.{Bool, true, false, not, ◌&&◌}
use Prim.Native.Nat.{ℕ, suc, ◌+◌, ◌-◌, ◌≤◌, ◌<◌}
use native.Mathlib.Numerals.{add-one}
use native.Mathlib.Omega.{arith}
use lib.Dec.{eqb, ltb, leb}
use lib.ListN.{length, drop, length-drop, length-append}
use borrow.Author.Tests.{eqb-true, eqb-false, ltb-true, ltb-false, leb-true, ne_eqb, eq-eqb, le-ltb, lt-ltb, le-leb, lt-leb}
use Rattle.semantics.specs.Bytes.{Bytes, front, split}
use Rattle.semantics.specs.Sheet.{kids, Word, Shape, nothing, clause_place, Head, variable_of, Read, bad, ok, Want, first, clauses, bindings, deeper, row, rank, place, roles, fits, beyond, after, under, Sheet, refused, heads, add, check}
use Rattle.semantics.proofs.Words.{every-where}
use Rattle.std.specs.Prelude.{Result, Ok, Err}
use Rattle.semantics.specs.Refusals.{number_of}
use Rattle.semantics.specs.declared.refusals.Refusal.{Refusal}
use Rattle.semantics.specs.declared.refusals.Refused.{Refused}
use Rattle.line.specs.Words.{word_of}
use Rattle.line.specs.Line.{Plain, unknown, known, line_says, placed, SaysAs, ReadAs}
use Rattle.line.specs.declared.line.Head.{Head as Seen}
use Rattle.line.specs.declared.line.BadLine.{BadLine}
use Rattle.line.specs.declared.line.HirId.{HirId}
use Rattle.line.proofs.ReadLaws.{placed-line}
use Rattle.line.proofs.LineLaws.{split-some}
use Rattle.hir.specs.Run.{Run, stopped, passed, before, carry_on, at_end, run, behind, and_go, add_all, finish}
use Rattle.hir.specs.Kids.{kid_wants}
use Rattle.hir.specs.Lines.{LineAt, Lines, no_line, a_line, Ascends, no_binding, ascends}
use Rattle.hir.specs.Check.{class_of, Refuses, elsewhere, wrong, deep, FineAs, KidsAs, wants_of, TopAsk, BoundAs, GoodAs, EndAs, ClausesAs}
use Rattle.hir.specs.declared.valid.Next.{Next}
use Rattle.hir.specs.declared.valid.Kids.{Kids}
use Rattle.hir.proofs.CheckLaws.{kid_run, wants-as}
use Rattle.hir.proofs.RunLaws.{behind-none, behind-append, before-behind, run-append, run_none, check-run}
use Rattle.hir.proofs.PlaceLaws.{count_small, flag_small, Fit, line-unfit, line-wrong, line-fit, class-is, class-said, kids-of, carry-bad, carry-ok}

-- ## Lines that hold no others

pub plain-rule : (v : Word) (ns : List ℕ) → rank (row v).place < 4 → (rank (row v).place ≡ 2 → ⊥) → kids (row v).under ns ≡ []
unfolding row rank
plain-rule v ns a b =
    ap (λ (s : Shape). kids s ns)
    (every-where (λ (v : Word). ltb (rank (row v).place) 4 && not (eqb (rank (row v).place) 2)) (λ (v : Word). (row v).under) nothing refl v (rw (lt-ltb (rank (row v).place) 4 a, ne_eqb (rank (row v).place) 2 b)))

under-plain : (w : Want) (h : Head) (c : ℕ) → rank (place h) ≡ c → c < 4 → (c ≡ 2 → ⊥) → under w h ≡ after (deeper w) h
unfolding under roles
under-plain w h c e l n = rw (plain-rule h.word h.nums (omega arith) (λ d. n (sym e ∙ d)))

after_first : (levels : ℕ) (h : Head) → rank (place h) ≡ 0 → after levels h ≡ bindings 0 levels ∷ []
unfolding after
after_first levels h e = rw (e, after)

after-binding : (levels : ℕ) (h : Head) → rank (place h) ≡ 1 → after levels h ≡ bindings (suc (variable_of h)) levels ∷ []
unfolding after
after-binding levels h e = rw (ne_eqb (rank (place h)) 0 (λ d. omega arith), eq-eqb (rank (place h)) 1 e, after)

after-clause : (levels : ℕ) (h : Head) → rank (place h) ≡ 2 → after levels h ≡ clauses levels ∷ []
unfolding after
after-clause levels h e = rw (ne_eqb (rank (place h)) 0 (λ d. omega arith), ne_eqb (rank (place h)) 1 (λ d. omega arith), eq-eqb (rank (place h)) 2 e, after)

after-end : (levels : ℕ) (h : Head) → rank (place h) ≡ 3 → after levels h ≡ []
unfolding after
after-end levels h e = rw (ne_eqb (rank (place h)) 0 (λ d. omega arith), ne_eqb (rank (place h)) 1 (λ d. omega arith), ne_eqb (rank (place h)) 2 (λ d. omega arith), after)

-- ## Bindings

one-or-two : (q : ℕ) → (q ≡ 1 → ⊥) → leb 1 q ≡ leb 2 q
one-or-two q ne = go (leb 2 q) refl
  where
    go : (b : Bool) → leb 2 q ≡ b → leb 1 q ≡ b
    go true e = le-leb 1 q (omega (arith, leb-true 2 q e))
    go false e = lt-leb 1 q (omega (arith, borrow.Author.Tests.leb-false 2 q e))

beyond-other : (levels v : ℕ) (h : Head) → (rank (place h) ≡ 1 → ⊥) → beyond (bindings v levels) h ≡ beyond (clauses levels) h
unfolding beyond
beyond-other levels v h ne = rw (ne_eqb (rank (place h)) 1 ne, beyond)

fits-other : (levels v q : ℕ) → (q ≡ 1 → ⊥) → fits (bindings v levels) q ≡ fits (clauses levels) q
unfolding fits
fits-other levels v q ne = ap (λ (b : Bool). b && leb q 3) (one-or-two q ne)

abbrev if_fit : Bool → Read → Read
if_fit b r = elim b [ true ↦ r | false ↦ bad 3 ]

placed-other : (levels : ℕ) (s : Bytes) (x : Result Seen BadLine) (v : ℕ) → (class_of x ≡ 1 → ⊥) → (y : Plain) → SaysAs s x y → placed (bindings v levels) y ≡ placed (clauses levels) y
unfolding placed
placed-other levels s x v ne unknown y = refl
placed-other levels s x v ne (known u (bad c)) y = ap (λ (b : Bool). if_fit b (bad c)) (fits-other levels v (rank (row u).place) (λ d. ne (class-said s x u (bad c) y ∙ d)))
placed-other levels s (Ok k) v ne (known u (ok h)) y =
    ap (λ (b : Bool). if_fit b (beyond (bindings v levels) h)) (fits-other levels v (rank (row u).place) (λ d. ne (class-said s (Ok k) u (ok h) y ∙ d)))
    ∙ ap (if_fit (fits (clauses levels) (rank (row u).place))) (beyond-other levels v h (λ d. ne (class-is s k h y.1 ∙ d)))
placed-other levels s (Err b) v ne (known u (ok h)) y = elim y [ ]

-- no binding: a clause, or the end
pub binds-none : (levels : ℕ) (s : Bytes) (p : ℕ) (x : Result Seen BadLine) (n v : ℕ) (ls : List Bytes) → ReadAs s p x ls → (class_of x ≡ 1 → ⊥) → run (bindings v levels ∷ []) n ls ≡ run (clauses levels ∷ []) n ls
unfolding run at_end under
binds-none levels s p x n v ls r ne = go ls r
  where
    go : (ls : List Bytes) → ReadAs s p x ls → run (bindings v levels ∷ []) n ls ≡ run (clauses levels ∷ []) n ls
    go [] r = refl
    go (l ∷ []) r = refl
    go (l ∷ l' ∷ ls) r =
        ap (λ (y : Read). carry_on n y (λ h. run (under (clauses levels) h ++ []) (suc n) (l' ∷ ls)))
        (placed-line (bindings v levels) l ∙ placed-other levels s x v ne (line_says l) r.3 ∙ sym (placed-line (clauses levels) l))

fits-binding : (v levels c : ℕ) → c ≡ 1 → fits (bindings v levels) c ≡ true
unfolding fits
fits-binding v levels c e = rw e

pub binds-wrong : (levels : ℕ) (s : Bytes) (p : ℕ) (b : BadLine) (n v : ℕ) (ls : List Bytes) → ReadAs s p (Err b) ls → class_of (Err b) ≡ 1 → run (bindings v levels ∷ []) n ls ≡ stopped (number_of b.why) n
binds-wrong levels s p b n v ls r e = line-wrong s p (bindings v levels) [] n b ls r (fits-binding v levels (class_of (Err b)) e)

module _ (levels : ℕ) (s : Bytes) (p : ℕ) (k : Seen) (n v : ℕ) (ls : List Bytes) (r : ReadAs s p (Ok k) ls) (e : class_of (Ok k) ≡ 1) where
  binding-fit : Fit s p k (bindings v levels) [] n ls
  binding-fit = line-fit s p (bindings v levels) [] n k ls r (fits-binding v levels (class_of (Ok k)) e)

  binding-one : rank (place binding-fit.head) ≡ 1
  binding-one = sym (class-is s k binding-fit.head binding-fit.is) ∙ e

  pub binds-low : k.var.0 < v → run (bindings v levels ∷ []) n ls ≡ stopped 3 n
  unfolding beyond
  binds-low l =
      let f = binding-fit in
      f.same ∙ ap (λ (x : Read). carry_on n x (λ h. run (under (bindings v levels) h ++ []) (suc n) (split 10 (drop k.next s)))) (rw (binding-one, lt-ltb (variable_of f.head) v (omega (arith, f.is.var)), beyond)) ∙ carry-bad n 3 _

  -- one binding more
  pub record Bound : Type 0 where
    pub head : Head
    pub same : run (bindings v levels ∷ []) n ls ≡ before head (run (bindings (k.var.0 + 1) levels ∷ []) (suc n) (split 10 (drop k.next s)))
    pub on : p < k.next
    pub inside : k.next ≤ length s
    pub line : split 10 (drop p s) ≡ ls → LineAt s p head k.next
    pub one : rank (place head) ≡ 1
    pub var : k.var.0 ≡ variable_of head

  pub binds-on : v ≤ k.var.0 → Bound
  unfolding beyond
  binds-on l =
      let f = binding-fit in
      let b : beyond (bindings v levels) f.head ≡ ok f.head = rw (binding-one, le-ltb (variable_of f.head) v (omega (arith, f.is.var)), beyond) in
      let u : under (bindings v levels) f.head ≡ bindings (k.var.0 + 1) levels ∷ []
      = under-plain (bindings v levels) f.head 1 binding-one (omega arith) (λ d. omega arith) ∙ after-binding levels f.head binding-one ∙ ap (λ (x : ℕ). bindings x levels ∷ []) (omega (arith, f.is.var)) in
      record { head = f.head; same = f.same ∙ rw b (carry-ok n f.head _ ∙ rw u); on = f.on; inside = f.inside; line = f.line; one = binding-one; var = f.is.var }

-- the head of a line, whatever was wanted there
line-head : {s : Bytes} {p q r : ℕ} {h k : Head} → LineAt s p h q → LineAt s p k r → h ≡ k
line-head {h = h} {k = k} a b =
    let t : a.text ≡ b.text = cc (sym a.stands ∙ b.stands) in
    let e : known h.word (ok h) ≡ known k.word (ok k) = sym a.says ∙ ap line_says t ∙ b.says in
    cc

lines_snoc : {s : Bytes} {p q r : ℕ} {hs : List Head} {h : Head} → Lines s p hs q → LineAt s q h r → Lines s p (hs ++ (h ∷ [])) r
lines_snoc no_line a = a_line a no_line
lines_snoc (a_line b x) a = a_line b (lines_snoc x a)

ascends-snoc : {v w : ℕ} {hs : List Head} → Ascends v hs w → (h : Head) → rank (place h) ≡ 1 → w ≤ variable_of h → Ascends v (hs ++ (h ∷ [])) (suc (variable_of h))
ascends-snoc no_binding h o l = ascends o l no_binding
ascends-snoc (ascends a b x) h o l = ascends a b (ascends-snoc x h o l)

ascends-as : {v w u : ℕ} {hs : List Head} → Ascends v hs w → w ≡ u → Ascends v hs u
ascends-as {v = v} {hs = hs} a e = subst (λ (x : ℕ). Ascends v hs x) e a

-- the bindings so far: those from v on are next
pub record BindsInv (s : Bytes) (p₀ l₀ p l v : ℕ) : Type 0 where
  pub heads : List Head
  pub same : (levels : ℕ) → run (bindings 0 levels ∷ []) l₀ (split 10 (drop p₀ s)) ≡ behind heads (run (bindings v levels ∷ []) l (split 10 (drop p s)))
  pub lines : Lines s p₀ heads p
  pub ascending : Ascends 0 heads v
  pub count : l ≡ l₀ + length heads
  pub room : length s < 4294967294
  pub inside : p ≤ length s
  pub above : l ≤ p + 1

pub binds-start : (s : Bytes) (p l : ℕ) → TopAsk s p l → BindsInv s p l p l 0
binds-start s p l q =
    record { heads = []; same = λ levels. sym (behind-none (run (bindings 0 levels ∷ []) l (split 10 (drop p s)))); lines = no_line; ascending = no_binding; count = omega arith; room = q.room; inside = q.inside; above = q.above }

module _ (s : Bytes) (p₀ l₀ p l v : ℕ) (i : BindsInv s p₀ l₀ p l v) where
  abbrev all_binds : ℕ → Run
  all_binds levels = run (bindings 0 levels ∷ []) l₀ (split 10 (drop p₀ s))

  pub bound-room : l < 4294967295
  bound-room = omega (arith, i.room, i.inside, i.above)

  pub bound-done : (x : Result Seen BadLine) → ReadAs s p x (split 10 (drop p s)) → (class_of x ≡ 1 → ⊥) → BoundAs s p₀ l₀ p l
  bound-done x r ne =
      record { heads = i.heads; same = λ levels. i.same levels ∙ ap (behind i.heads) (binds-none levels s p x l v (split 10 (drop p s)) r ne); lines = i.lines; top = v; ascending = i.ascending; count = i.count; inside = i.inside; above = i.above }

  pub bound-wrong : (x : Result Seen BadLine) → ReadAs s p x (split 10 (drop p s)) → class_of x ≡ 1 → (line : HirId) → line.0 ≡ l → (o : Refused) → GoodAs x line (Err o) → (levels : ℕ) → all_binds levels ≡ stopped (number_of o.why) o.place
  unfolding behind
  bound-wrong x r e line el o g levels =
      let b = g.0 in
      i.same levels ∙ ap (behind i.heads) (binds-wrong levels s p b l v (split 10 (drop p s)) (rw g.1 at r) (rw g.1 at e))
      ∙ ap (λ (y : Refusal). stopped (number_of y) l) (sym g.2) ∙ ap (stopped (number_of o.why)) (sym (g.3 ∙ el))

  module _ (k : Seen) (r : ReadAs s p (Ok k) (split 10 (drop p s))) (e : class_of (Ok k) ≡ 1) where
    pub bound-low : k.var.0 < v → (levels : ℕ) → all_binds levels ≡ stopped 3 l
    unfolding behind
    bound-low h levels = i.same levels ∙ ap (behind i.heads) (binds-low levels s p k l v (split 10 (drop p s)) r e h)

    pub bound-less : v ≤ k.var.0 → length s - k.next < length s - p
    bound-less h =
        let b = binds-on 0 s p k l v (split 10 (drop p s)) r e h in
        omega (arith, b.on, b.inside)

    pub bound-on : v ≤ k.var.0 → (m : ℕ) → m ≡ l + 1 → BindsInv s p₀ l₀ k.next m (k.var.0 + 1)
    bound-on h m em =
        let at : (levels : ℕ) → Bound levels s p k l v (split 10 (drop p s)) r e = λ levels. binds-on levels s p k l v (split 10 (drop p s)) r e h in
        let b = at 0 in
        record {
          heads = i.heads ++ (b.head ∷ []);
          same = λ levels. i.same levels ∙ ap (behind i.heads) ((at levels).same ∙ ap (λ (x : Head). before x (run (bindings (k.var.0 + 1) levels ∷ []) (suc l) (split 10 (drop k.next s)))) (line-head ((at levels).line refl) (b.line refl)) ∙ before-behind b.head _) ∙ behind-append i.heads (b.head ∷ []) _
              ∙ ap (λ (x : ℕ). behind (i.heads ++ (b.head ∷ [])) (run (bindings (k.var.0 + 1) levels ∷ []) x (split 10 (drop k.next s)))) (omega (arith, em));
          lines = lines_snoc i.lines (b.line refl);
          ascending = ascends-as (ascends-snoc i.ascending b.head b.one (omega (arith, b.var))) (omega (arith, b.var));
          count = omega (arith, em, i.count, length-append i.heads (b.head ∷ []));
          room = i.room;
          inside = b.inside;
          above = omega (arith, em, b.on, i.above);
        }

-- ## Clauses

pub add-refused : (hs : List Head) (c n : ℕ) → add_all hs (refused c n) ≡ refused c n
unfolding add_all add
add-refused [] c n = refl
add-refused (h ∷ hs) c n = ap (add h) (add-refused hs c n)

pub add-append : (hs ks : List Head) (q : Sheet) → add_all (hs ++ ks) q ≡ add_all hs (add_all ks q)
unfolding add_all
add-append [] ks q = refl
add-append (h ∷ hs) ks q = ap (add h) (add-append hs ks q)

pub add-heads : (hs ks : List Head) → add_all hs (heads ks) ≡ heads (hs ++ ks)
unfolding add_all add
add-heads [] ks = refl
add-heads (h ∷ hs) ks = ap (add h) (add-heads hs ks)

pub finish-behind : (hs : List Head) (r : Run) → finish (behind hs r) ≡ add_all hs (finish r)
unfolding finish behind
finish-behind hs (stopped c n) = sym (add-refused hs c n)
finish-behind hs (passed ks n ls) = add-append hs ks (check [] n ls)

add-one-head : (h : Head) → add h (heads []) ≡ heads (h ∷ [])
unfolding add
add-one-head h = refl

add_none : (h : Head) (c n : ℕ) → add h (refused c n) ≡ refused c n
unfolding add
add_none h c n = refl

-- nothing stands behind the end
nothing-more : (t : Bytes) (n : ℕ) → length t ≡ 0 → check [] n (split 10 t) ≡ heads []
unfolding check split
nothing-more [] n e = refl
nothing-more (x ∷ t) n e = absurd (omega arith)

something-more : (t : Bytes) (n : ℕ) → (length t ≡ 0 → ⊥) → check [] n (split 10 t) ≡ refused 3 n
unfolding check split front
something-more [] n h = absurd (h refl)
something-more (x ∷ t) n h = go (eqb x 10) (split 10 t) (split-some 10 t)
  where
    go : (b : Bool) (ps : List Bytes) → 0 < length ps → check [] n (elim b [ true ↦ [] ∷ ps | false ↦ front x ps ]) ≡ refused 3 n
    go b [] l = absurd (omega arith)
    go true (p ∷ ps) l = refl
    go false (p ∷ []) l = refl
    go false (p ∷ q ∷ ps) l = refl

fits-clause : (levels q : ℕ) → (q ≡ 3 → ⊥) → (b : Bool) → eqb q 2 ≡ b → fits (clauses levels) q ≡ b
unfolding fits
fits-clause levels q ne true e = rw (eqb-true q 2 e)
fits-clause levels q ne false e = go (leb 2 q) refl (leb q 3) refl
  where
    go : (a : Bool) → leb 2 q ≡ a → (b : Bool) → leb q 3 ≡ b → (a && b) ≡ false
    go false x b y = refl
    go true x false y = refl
    go true x true y = absurd (eqb-false q 2 e (omega (arith, ne, leb-true 2 q x, leb-true q 3 y)))

-- the clauses so far
pub record ClausesInv (depth : ℕ) (s : Bytes) (p₀ l₀ p l : ℕ) : Type 0 where
  pub heads : List Head
  pub same : check (clauses depth ∷ []) l₀ (split 10 (drop p₀ s)) ≡ add_all heads (check (clauses depth ∷ []) l (split 10 (drop p s)))
  pub room : length s < 4294967294
  pub inside : p ≤ length s
  pub above : l ≤ p + 1

pub clauses-start : (depth : ℕ) (s : Bytes) (p l : ℕ) → TopAsk s p l → ClausesInv depth s p l p l
unfolding add_all
clauses-start depth s p l q = record { heads = []; same = refl; room = q.room; inside = q.inside; above = q.above }

module _ (depth : ℕ) (s : Bytes) (p₀ l₀ p l : ℕ) (i : ClausesInv depth s p₀ l₀ p l) where
  abbrev ls : List Bytes
  ls = split 10 (drop p s)

  abbrev all_clauses : Sheet
  all_clauses = check (clauses depth ∷ []) l₀ (split 10 (drop p₀ s))

  by-run : (x : Run) → run (clauses depth ∷ []) l ls ≡ x → all_clauses ≡ add_all i.heads (finish x)
  by-run x e = i.same ∙ ap (add_all i.heads) (check-run ls (clauses depth ∷ []) l ∙ ap finish e)

  pub clause-room : l < 4294967295
  clause-room = omega (arith, i.room, i.inside, i.above)

  -- refused at this line
  at-line : (y : ℕ) → run (clauses depth ∷ []) l ls ≡ stopped y l → all_clauses ≡ refused y l
  unfolding finish
  at-line y e = by-run (stopped y l) e ∙ add-refused i.heads y l

  -- the end line
  fits-end : (c : ℕ) → c ≡ 3 → fits (clauses depth) c ≡ true
  unfolding fits
  fits-end c e = rw e

  end-fine : (k : Seen) → ReadAs s p (Ok k) ls → class_of (Ok k) ≡ 3 → (h : Head) × (all_clauses ≡ add_all i.heads (add h (check [] (suc l) (split 10 (drop k.next s))))) × (k.next ≤ length s)
  unfolding beyond before finish add_all
  end-fine k r e =
      let f = line-fit s p (clauses depth) [] l k ls r (fits-end (class_of (Ok k)) e) in
      let q : rank (place f.head) ≡ 3 = sym (class-is s k f.head f.is) ∙ e in
      let u : under (clauses depth) f.head ≡ [] = under-plain (clauses depth) f.head 3 q (omega arith) (λ d. omega arith) ∙ after-end depth f.head q in
      let x : run (clauses depth ∷ []) l ls ≡ passed (f.head ∷ []) (suc l) (split 10 (drop k.next s))
      = f.same ∙ carry-ok l f.head _ ∙ ap (before f.head) (ap (λ (w : List Want). run (w ++ []) (suc l) (split 10 (drop k.next s))) u ∙ run_none (split 10 (drop k.next s)) (suc l)) in
      (f.head, by-run _ x, f.inside)

  pub clause-end : (x : Result Seen BadLine) → ReadAs s p x ls → class_of x ≡ 3 → (line : HirId) → line.0 ≡ l → (r : Result (Unit {0}) Refused) → EndAs x line (length s) r → ClausesAs depth s p₀ l₀ r
  clause-end x r e line el (Ok u) (k, ek, en) =
      let f = end-fine k (rw ek at r) (rw ek at e) in
      let d : length (drop k.next s) ≡ 0 = omega (arith, length-drop k.next s, en) in
      (i.heads ++ (f.0 ∷ []), f.1 ∙ ap (λ (q : Sheet). add_all i.heads (add f.0 q)) (nothing-more (drop k.next s) (suc l) d) ∙ ap (add_all i.heads) (add-one-head f.0) ∙ add-heads i.heads (f.0 ∷ []))
  clause-end x r e line el (Err o) (inl (b, eb, ew, ep)) =
      at-line (number_of b.why) (line-wrong s p (clauses depth) [] l b ls (rw eb at r) (fits-end (class_of (Err b)) (rw eb at e)))
      ∙ ap (λ (y : Refusal). refused (number_of y) l) (sym ew) ∙ ap (refused (number_of o.why)) (sym (ep ∙ el))
  clause-end x r e line el (Err o) (inr (k, ek, en, ew, ep)) =
      let f = end-fine k (rw ek at r) (rw ek at e) in
      let d : (length (drop k.next s) ≡ 0 → ⊥) = λ z. en (omega (arith, length-drop k.next s, f.2)) in
      f.1 ∙ ap (λ (q : Sheet). add_all i.heads (add f.0 q)) (something-more (drop k.next s) (suc l) d) ∙ ap (add_all i.heads) (add_none f.0 3 (suc l)) ∙ add-refused i.heads 3 (suc l)
      ∙ ap (λ (y : ℕ). refused y (suc l)) (sym ew) ∙ ap (refused (number_of o.why)) (omega (arith, el, ep))

  -- a clause
  pub clause-stop : (x : Result Seen BadLine) → ReadAs s p x ls → (class_of x ≡ 3 → ⊥) → (why : Refusal) → Refuses x clause_place depth why → all_clauses ≡ refused (number_of why) l
  unfolding rank
  clause-stop x r ne why (elsewhere other e) = at-line (number_of why) (line-unfit s p (clauses depth) [] l x ls r (fits-clause depth (class_of x) ne false (ne_eqb (class_of x) 2 other)) ∙ ap (λ (y : ℕ). stopped y l) (sym e))
  clause-stop x r ne why (wrong b e here ey) =
      at-line (number_of why)
      (line-wrong s p (clauses depth) [] l b ls (rw e at r) (fits-clause depth (class_of (Err b)) (rw e at ne) true (eq-eqb (class_of (Err b)) 2 (rw e at here))) ∙ ap (λ (y : Refusal). stopped (number_of y) l) (sym ey))
  clause-stop x r ne why (deep k e here e13 z ey) = absurd (omega (arith, e13))

  module _ (k : Seen) (r : ReadAs s p (Ok k) ls) (here : class_of (Ok k) ≡ 2) where
    fit : Fit s p k (clauses depth) [] l ls
    fit = line-fit s p (clauses depth) [] l k ls r (fits-clause depth (class_of (Ok k)) (λ d. omega (arith, here)) true (eq-eqb (class_of (Ok k)) 2 here))

    -- its own lines, and then the clauses that follow
    into-clause : run (clauses depth ∷ []) l ls ≡ before fit.head (and_go (kid_run s k depth (suc l)) (λ m ms. run (clauses depth ∷ []) m ms))
    unfolding beyond under
    into-clause =
        let h = fit.head in
        let q : rank (place h) ≡ 2 = sym (class-is s k h fit.is) ∙ here in
        let u : under (clauses depth) h ++ [] ≡ kid_wants (row (word_of k.word)).under k.count k.flag depth ++ (clauses depth ∷ [])
        = append-nil (under (clauses depth) h) ∙ rw (after-clause depth h q, kids-of s k h depth fit.is) in
        fit.same ∙ carry-ok l h _ ∙ ap (before h) (ap (λ (w : List Want). run w (suc l) (split 10 (drop k.next s))) u ∙ run-append (split 10 (drop k.next s)) (kid_wants (row (word_of k.word)).under k.count k.flag depth) (clauses depth ∷ []) (suc l))

    pub clause-small : (k.count ≤ 9999) × (k.flag ≤ 3)
    clause-small = (count_small s k fit.head fit.is, flag_small s k fit.head fit.is)

    module _ (under : Kids) (hung : KidsAs k under) (f m : ℕ) (ef : f ≡ k.next) (em : m ≡ l + 1) where
      abbrev under_run : Run
      under_run = run (wants_of under depth) m (split 10 (drop f s))

      run-m : under_run ≡ kid_run s k depth (suc l)
      run-m = rw (ef, sym (wants-as k under depth hung), em ∙ add-one l) refl

      pub clause-refused : (o : Refused) → under_run ≡ stopped (number_of o.why) o.place → all_clauses ≡ refused (number_of o.why) o.place
      unfolding and_go before finish
      clause-refused o g =
          by-run (stopped (number_of o.why) o.place) (into-clause ∙ ap (λ (w : Run). before fit.head (and_go w (λ m ms. run (clauses depth ∷ []) m ms))) (sym run-m ∙ g)) ∙ add-refused i.heads (number_of o.why) o.place

      module _ (x : Next) (got : FineAs s f x.at x.line.0 under_run) where
        pub clause-less : length s - x.at < length s - p
        clause-less = omega (arith, got.on, got.inside, fit.on, ef)

        pub clause-on : ClausesInv depth s p₀ l₀ x.at x.line.0
        unfolding and_go
        clause-on =
            let w : run (clauses depth ∷ []) l ls ≡ behind (fit.head ∷ got.heads) (run (clauses depth ∷ []) x.line.0 (split 10 (drop x.at s)))
            = into-clause ∙ ap (λ (w : Run). before fit.head (and_go w (λ m ms. run (clauses depth ∷ []) m ms))) (sym run-m ∙ got.same)
            ∙ before-behind fit.head _ ∙ behind-append (fit.head ∷ []) got.heads _ in
            record {
              heads = i.heads ++ (fit.head ∷ got.heads);
              same = by-run _ w
                  ∙ ap (add_all i.heads) (finish-behind (fit.head ∷ got.heads) _ ∙ ap (add_all (fit.head ∷ got.heads)) (sym (check-run (split 10 (drop x.at s)) (clauses depth ∷ []) x.line.0)))
                  ∙ sym (add-append i.heads (fit.head ∷ got.heads) _);
              room = i.room;
              inside = got.inside;
              above = got.above;
            }

-- ## The first line

pub under_first : (depth : ℕ) (h : Head) → rank (place h) ≡ 0 → under (first depth) h ≡ bindings 0 depth ∷ []
under_first depth h e = under-plain (first depth) h 0 e (omega arith) (λ d. omega arith) ∙ after_first depth h e
