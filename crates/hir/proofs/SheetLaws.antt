-- The whole sheet, from what its parts are found. Assumes nothing.
use mathlib.Core.Path.{◌≡◌, refl, sym, ◌∙◌, ap}
use mathlib.Core.List.{List, [], ◌∷◌, ◌++◌}
use mathlib.Core.Bool.{Bool, true, false}
use Prim.Native.Nat.{ℕ, ◌<◌}
use native.Mathlib.Omega.{arith}
use lib.Dec.{eqb}
use lib.ListN.{length, drop, length-drop}
use borrow.Author.Tests.{eq-eqb, ne_eqb}
use Rattle.semantics.specs.Bytes.{Bytes, split}
use Rattle.semantics.specs.Sheet.{Head, rank, place, first_place, Want, first, clauses, bindings, fits, beyond, Sheet, refused, add, check, sheet}
use Rattle.semantics.proofs.Split.{split-inj}
use Rattle.std.specs.Prelude.{Result, Ok, Err}
use Rattle.semantics.specs.Refusals.{number_of}
use Rattle.semantics.specs.declared.refusals.Refusal.{Refusal}
use Rattle.semantics.specs.declared.refusals.Refused.{Refused}
use Rattle.line.specs.declared.line.BadLine.{BadLine}
use Rattle.line.specs.Line.{ReadAs}
use Rattle.line.specs.declared.line.Head.{Head as Seen}
use Rattle.hir.specs.Run.{stopped, before, run, add_all, finish}
use Rattle.hir.specs.Check.{class_of, Refuses, elsewhere, wrong, deep, TopAsk, BoundAs, BindsAs, ClausesAs, RestAs, RestLaid, OutlineAs}
use Rattle.hir.specs.declared.valid.Next.{Next}
use Rattle.hir.specs.declared.valid.Outline.{Outline}
use Rattle.hir.proofs.RunLaws.{before-behind, check-run}
use Rattle.hir.proofs.PlaceLaws.{Fit, line-unfit, line-wrong, line-fit, class-is, carry-ok}
use Rattle.hir.proofs.TopLaws.{add-refused, add-heads, finish-behind, under_first}
use Rattle.hir.proofs.LinesLaws.{passed_lines, finish-heads}

-- ## Behind the first line

module _ (depth : ℕ) (s : Bytes) (from : ℕ) where
  abbrev Q : Sheet
  Q = check (bindings 0 depth ∷ []) 2 (split 10 (drop from s))

  Q-run : Q ≡ finish (run (bindings 0 depth ∷ []) 2 (split 10 (drop from s)))
  Q-run = check-run (split 10 (drop from s)) (bindings 0 depth ∷ []) 2

  pub rest-binds : (o : Refused) → BindsAs s from 2 (Err o) → Q ≡ refused (number_of o.why) o.place
  unfolding finish
  rest-binds o b = Q-run ∙ ap finish (b depth)

  module _ (x : Next) (bound : BoundAs s from 2 x.at x.line.0) where
    pub rest-ask : TopAsk s from 2 → TopAsk s x.at x.line.0
    rest-ask q = record { room = q.room; inside = bound.inside; above = bound.above }

    Q-is : Q ≡ add_all bound.heads (check (clauses depth ∷ []) x.line.0 (split 10 (drop x.at s)))
    Q-is = Q-run ∙ ap finish (bound.same depth) ∙ finish-behind bound.heads _ ∙ ap (add_all bound.heads) (sym (check-run (split 10 (drop x.at s)) (clauses depth ∷ []) x.line.0))

    pub rest-clauses : (o : Refused) → ClausesAs depth s x.at x.line.0 (Err o) → Q ≡ refused (number_of o.why) o.place
    rest-clauses o c = Q-is ∙ ap (add_all bound.heads) c ∙ add-refused bound.heads (number_of o.why) o.place

    pub rest-fine : ClausesAs depth s x.at x.line.0 (Ok tt) → RestLaid depth s from (record { line = x.line; from = from; to = x.at }) Q
    unfolding split
    rest-fine g =
        let h = finish-heads (run (clauses depth ∷ []) x.line.0 (split 10 (drop x.at s))) g.0 (sym (check-run (split 10 (drop x.at s)) (clauses depth ∷ []) x.line.0) ∙ g.1) in
        let p = passed_lines (split 10 (drop x.at s)) s x.at (clauses depth ∷ []) x.line.0 g.0 h.0 ([] ∷ []) bound.inside refl h.1 in
        let z : drop p.end s ≡ [] = split-inj 10 (drop p.end s) [] p.left in
        let q : p.end ≡ length s = omega (arith, p.inside, length-drop p.end s, ap length z) in
        record {
          start = refl;
          binds = bound.heads;
          rest = g.0;
          same = Q-is ∙ ap (add_all bound.heads) g.1 ∙ add-heads bound.heads g.0;
          bound = bound.lines;
          top = bound.top;
          ascending = bound.ascending;
          below = rw q at p.lines;
          met = p.met;
          line = bound.count;
        }

-- ## The first line

module _ (s : Bytes) (depth : ℕ) where
  sheet-run : sheet depth s ≡ finish (run (first depth ∷ []) 1 (split 10 s))
  unfolding sheet
  sheet-run = check-run (split 10 s) (first depth ∷ []) 1

  fits-first : (c : ℕ) (b : Bool) → eqb c 0 ≡ b → fits (first depth) c ≡ b
  unfolding fits
  fits-first c b e = e

  stop-as : (w : ℕ) → run (first depth ∷ []) 1 (split 10 s) ≡ stopped w 1 → sheet depth s ≡ refused w 1
  unfolding finish
  stop-as w e = sheet-run ∙ ap finish e

  pub first-stop : (x : Result Seen BadLine) → ReadAs s 0 x (split 10 s) → (o : Refused) → Refuses x first_place depth o.why × (o.place ≡ 1) → sheet depth s ≡ refused (number_of o.why) o.place
  unfolding rank
  first-stop x r o (f, one) = by f ∙ ap (refused (number_of o.why)) (sym one)
    where
      by : Refuses x first_place depth o.why → sheet depth s ≡ refused (number_of o.why) 1
      by (elsewhere other e) = stop-as (number_of o.why) (line-unfit s 0 (first depth) [] 1 x (split 10 s) r (fits-first (class_of x) false (ne_eqb (class_of x) 0 other)) ∙ ap (λ (w : ℕ). stopped w 1) (sym e))
      by (wrong b e here ey) =
          stop-as (number_of o.why)
          (line-wrong s 0 (first depth) [] 1 b (split 10 s) (rw e at r) (fits-first (class_of (Err b)) true (eq-eqb (class_of (Err b)) 0 (rw e at here))) ∙ ap (λ (w : Refusal). stopped (number_of w) 1) (sym ey))
      by (deep k e here e13 z ey) = absurd (omega (arith, e13))

  module _ (k : Seen) (r : ReadAs s 0 (Ok k) (split 10 s)) (here : class_of (Ok k) ≡ 0) where
    fit : Fit s 0 k (first depth) [] 1 (split 10 s)
    fit = line-fit s 0 (first depth) [] 1 k (split 10 s) r (fits-first (class_of (Ok k)) true (eq-eqb (class_of (Ok k)) 0 here))

    rank-zero : rank (place fit.head) ≡ 0
    rank-zero = sym (class-is s k fit.head fit.is) ∙ here

    pub first-ask : length s < 4294967294 → TopAsk s k.next 2
    first-ask room = record { room = room; inside = fit.inside; above = omega (arith, fit.on) }

    sheet-is : sheet depth s ≡ add fit.head (check (bindings 0 depth ∷ []) 2 (split 10 (drop k.next s)))
    unfolding beyond finish add_all
    sheet-is =
        sheet-run
        ∙ ap finish (fit.same ∙ carry-ok 1 fit.head _ ∙ ap (before fit.head) (ap (λ (w : List Want). run (w ++ []) 2 (split 10 (drop k.next s))) (under_first depth fit.head rank-zero)) ∙ before-behind fit.head _)
        ∙ finish-behind (fit.head ∷ []) _
        ∙ add-single fit.head _
        ∙ ap (add fit.head) (sym (check-run (split 10 (drop k.next s)) (bindings 0 depth ∷ []) 2))
      where
        add-single : (h : Head) (q : Sheet) → add_all (h ∷ []) q ≡ add h q
        add-single h q = refl

    pub first_on : (x : Result Outline Refused) → RestAs depth s k.next x (check (bindings 0 depth ∷ []) 2 (split 10 (drop k.next s))) → OutlineAs depth s x
    unfolding add
    first_on (Err o) e = sheet-is ∙ ap (add fit.head) e
    first_on (Ok x) l =
        record {
          head = fit.head;
          binds = l.binds;
          rest = l.rest;
          same = sheet-is ∙ ap (add fit.head) l.same;
          first = rw l.start (fit.line refl);
          zero = rank-zero;
          bound = l.bound;
          top = l.top;
          ascending = l.ascending;
          below = l.below;
          met = l.met;
          line = l.line;
        }
