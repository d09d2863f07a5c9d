-- The lines of the live types, one behind the other. Assumes nothing.
use mathlib.Core.Path.{◌≡◌, refl, sym, ◌∙◌, ap, subst}
use mathlib.Core.List.{List, [], ◌∷◌, ◌++◌, append_assoc, append-nil}
use mathlib.Core.Logic.{∥∥₁_elim}
use Rattle.std.specs.Coded.{le_prop}
use Rattle.std.proofs.Props.{props}
use Rattle.std.proofs.lemmas.Iterator.{YieldsList}
use mathlib.Core.Option.{Option, none, some}
use Prim.Native.Nat.{ℕ, suc, ◌+◌, ◌*◌, ◌^◌, ◌≤◌, ◌<◌}
use native.Mathlib.Omega.{arith}
use lib.ListN.{length}
use Rattle.std.specs.Prelude.{Option as Given, Some, None, Err}
use Rattle.semantics.specs.Bytes.{Bytes, text}
use Rattle.semantics.specs.Refusals.{number_of}
use Rattle.semantics.specs.declared.refusals.Refused.{Refused}
use Rattle.semantics.specs.declared.refusals.Refusal.TheVariants.{WrongSize}
use Rattle.report.specs.Report.{Appends, numbers_text}
use Rattle.report.proofs.ReportLaws.{◌▹◌}
use Rattle.stores.specs.Catalogue.{Live, Catalogue, read_store}
use Rattle.catalogue.specs.Places.{Run, Laid}
use Rattle.catalogue.specs.Entries.{Gives}
use Rattle.catalogue.specs.Stands.{Opened}
use Rattle.catalogue.specs.Checks.{no_store, check_of}
use Rattle.catalogue.specs.declared.find.Entry.{Entry}
use Rattle.catalogue.specs.declared.find.Entries.{Entries}
use Rattle.catalogue.proofs.PlaceLaws.{run-le, turn, stop, Begins, begins}
use Rattle.catalogue.proofs.FindLaws.{Placed, placed, seen, yields}
use Rattle.catalogue.proofs.CallLaws.{unread}
use Rattle.catalogue.proofs.Bytewise.{known, run_inside}
use Rattle.typestore.specs.Answers.{line_text, lives_text, list_text, said_number, Refuses, Lines, Lists}
use Rattle.typestore.specs.declared.answer.Said.{Said}

-- of a list of live types some are listed, and `rest` is left
pub record Passed (it : Entries) (out₀ out : Bytes) (fill : ℕ) (ls : List Live) : Type 0 where
  pub rest : List Live
  pub run : Run it.store.now it.at rest it.end
  pub done : Bytes
  pub whole : lives_text ls ≡ done ++ lives_text rest
  pub written : Appends done out₀ out 0 fill

pub record Gone (s : Bytes) (end : ℕ) (out₀ out : Bytes) (it : Entries) (fill : ℕ) : Type 0 where
  pub left : (ls : List Live) → Run s 8 ls end → Passed it out₀ out fill ls
  pub short : fill + 48 ≤ 6 * it.at
  pub inside : it.at ≤ end
  pub ends : it.end ≡ end

-- a walk lies before its end
before-end : (it : Entries) → it.at ≤ it.end
before-end it = ∥∥₁_elim it.laid le_prop (λ l. run-le it.store.now it.at l.0 it.end l.1)

pub gone-start : (s : Bytes) (end : ℕ) (out : Bytes) (it : Entries) (fill : ℕ) → Begins it s 8 end → fill ≡ 0 → Gone s end out out it fill
gone-start s end out it fill b z =
    let k = before-end it in
    let a = b.1 in
    let e = b.2 in
    record {
      left = λ ls r. record { rest = ls; run = begins it s 8 end b ls r; done = []; whole = refl; written = record { text = refl; end = z } };
      short = omega arith;
      inside = omega arith;
      ends = e;
    }

same_line : {n m u v : ℕ} (t : Bytes) → n ≡ m → u ≡ v → line_text n u t ≡ line_text m v t
same_line t p q = cc

module _ (s : Bytes) (end : ℕ) (out₀ out : Bytes) (it t : Entries) (fill : ℕ) (o : Given Entry) (g : Gone s end out₀ out it fill) (gives : Gives it o t) where
  module _ (e : Entry) (p : o ≡ Some e) where
    -- where the next one stands
    pub gone-behind : t.at ≡ it.at + 8 + length e.text.now
    gone-behind = ∥∥₁_elim it.laid (search props) (λ l. (turn it o t gives e p l.0 l.1).behind)

    ends-there : t.end ≡ end
    ends-there = ∥∥₁_elim it.laid (search props) (λ l. (turn it o t gives e p l.0 l.1).end) ∙ g.ends

    pub gone-next : (out' : Bytes) (n u fill' : ℕ) → n ≡ e.number → u ≡ e.uses → Appends (line_text n u e.text.now) out out' fill fill' → fill' ≤ fill + length e.text.now + 48
        → Gone s end out₀ out' t fill'
    unfolding lives_text
    gone-next out' n u fill' a b w m =
        let h = gone-behind in
        let i = ends-there in
        let k = before-end t in
        record { left = more; short = let c = g.short in omega arith; inside = omega arith; ends = i }
      where
        more : (ls : List Live) → Run s 8 ls end → Passed t out₀ out' fill' ls
        more ls r =
            let x = g.left ls r in
            let f = turn it o t gives e p x.rest x.run in
            let one = line_text e.number e.uses e.text.now in
            record {
              rest = f.others;
              run = f.run;
              done = x.done ++ one;
              whole = x.whole ∙ ap (λ (v : List Live). x.done ++ lives_text v) f.is ∙ sym (append_assoc x.done one (lives_text f.others));
              written = x.written ▹ subst (λ (v : Bytes). Appends v out out' fill fill') (same_line e.text.now a b) w;
            }

    -- there is room for a line more
    pub gone-room : end ≤ 65536 → fill + length e.text.now + 48 < 2 ^ 64
    gone-room l =
        let h = gone-behind in
        let i = ends-there in
        let k = before-end t in
        let c = g.short in
        omega arith

  pub gone-end : o ≡ None → Lines s end out₀ out fill
  unfolding lives_text
  gone-end p =
      record {
        text = λ ls w. let x = g.left ls w in let e = stop it o t gives p x.rest x.run in
            let d : lives_text ls ≡ x.done = x.whole ∙ ap (λ (v : List Live). x.done ++ lives_text v) e ∙ append-nil x.done in
            subst (λ (v : Bytes). Appends v out₀ out 0 fill) (sym d) x.written;
        short = let a = g.short in let b = g.inside in omega arith;
      }

pub lines-on : {s : Bytes} {end n : ℕ} {o o₁ p p₁ : Bytes} → Lines s end o p n → o ≡ o₁ → p ≡ p₁ → Lines s end o₁ p₁ n
lines-on {s} {end} {n} {o₁ = o₁} {p = p} l e f = subst (λ (x : Bytes). Lines s end o₁ x n) f (subst (λ (x : Bytes). Lines s end x p n) e l)

-- of the walk over a whole store
pub lines-of : (it : Entries) (s : Bytes) (end : ℕ) → Begins it s 8 end → {n : ℕ} {o p : Bytes} → Lines it.store.now it.end o p n → Lines s end o p n
lines-of it s end b {n} {o} {p} l = subst (λ (e : ℕ). Lines s e o p n) b.2 (subst (λ (x : Bytes). Lines x it.end o p n) b.0 l)

-- how many a walk gives
placed-long : (at : ℕ) (ls : List Live) → length (placed at ls) ≡ length ls
unfolding placed
placed-long at [] = refl
placed-long at (l ∷ ls) = ap (λ (n : ℕ). suc n) (placed-long (at + 8 + length l.text) ls)

pub counted : (it : Entries) (s : Bytes) (end n : ℕ) → Begins it s 8 end → ((all : List Placed) → YieldsList Gives seen it all → n ≡ length all) → (ls : List Live) → Run s 8 ls end → n ≡ length ls
counted it s end n b h ls r = h (placed it.at ls) (yields it ls (begins it s 8 end b ls r)) ∙ placed-long it.at ls

-- ## The whole list

opened-run : (s : Bytes) (last end : ℕ) (o : Opened s last end) → Run s 8 o.list.live end
opened-run s last end o = subst (λ (e : ℕ). Run s 8 o.list.live e) (sym o.ends) (known s o.list o.form.read).full.0

pub opened-room : (s : Bytes) (last end : ℕ) → Opened s last end → Laid s 8 end × (end ≤ 65536)
opened-room s last end o =
    let r = opened-run s last end o in
    let k = (known s o.list o.form.read).long in
    let i = run_inside s 8 o.list.live end (omega arith) r in
    ((o.list.live, r), omega arith)

one_list : (o : Option Catalogue) (a b : Catalogue) → o ≡ some a → o ≡ some b → a ≡ b
one_list o a b p q = cc

not-both : (o : Option Catalogue) (a : Catalogue) → o ≡ some a → o ≡ none → ⊥
not-both o a p q = let w : ◌≡◌ {A = ℕ} 0 1 = cc in omega arith

pub listed : (s : Bytes) (last end : ℕ) (out out₁ out' : Bytes) (fill types : ℕ) (r : Said) → Opened s last end → Lines s end out out₁ fill → ((ls : List Live) → Run s 8 ls end → types ≡ length ls) → said_number r.refusal ≡ 0
    → Appends (numbers_text (text "end,") types last) out₁ out' fill r.length → r.length ≤ fill + 46 → Lists s out out' r
listed s last end out out₁ out' fill types r o p many n w b =
    record {
      no = λ e. absurd (not-both (read_store s) o.list o.form.read e);
      yes = λ c e.
          let z = one_list (read_store s) o.list c o.form.read e in
          let run = opened-run s last end o in
          let i = many o.list.live run in
          let x : Appends (lives_text o.list.live ++ numbers_text (text "end,") (length o.list.live) o.list.last) out out' 0 r.length
          = p.text o.list.live run ▹ subst (λ (m : ℕ). Appends (numbers_text (text "end,") (length o.list.live) m) out₁ out' fill r.length) o.given
          (subst (λ (m : ℕ). Appends (numbers_text (text "end,") m last) out₁ out' fill r.length) i w) in
          (n, subst (λ (v : Catalogue). Appends (list_text v) out out' 0 r.length) z x);
      short = let a = p.short in let k = (opened-room s last end o).1 in omega arith;
    }

pub not_listed : (s out out' : Bytes) (w : Refused) (r : Said) → Err no_store ≡ check_of (read_store s) → w ≡ record { why = WrongSize; place = 0 } → Refuses w out out' r → Lists s out out' r
not_listed s out out' w r e q p =
    record {
      no = λ z. (ap said_number p.why ∙ ap (λ (x : Refused). number_of x.why) q, subst (λ (x : Refused). Appends (numbers_text (text "refused,") (number_of x.why) x.place) out out' 0 r.length) q p.text);
      yes = λ c z. absurd (not-both (read_store s) c z (unread s e));
      short = let h = p.short in omega arith;
    }
