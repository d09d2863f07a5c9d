use mathlib.Core.Path.{◌≡◌, refl, ap, sym, subst}
use mathlib.Core.Bool.{false}
use Prim.Native.Nat.{ℕ}
use borrow.Author.Rules.{rules}
use Rattle.semantics.specs.Sheet.{row, entering}
use Rattle.line.specs.Words.{word_of}
use Rattle.line.specs.Known.{KnownAs, FineAt}
use Rattle.infer.proofs.WalkTable.{enters_by}
use Rattle.infer.proofs.WalkEnter.{fine-inside}
use Rattle.infer.proofs.walk.entered.Goals as goal

pub known_line-requires : goal.known_line-requires
unfolding row
known_line-requires c =
    let e : (row (word_of c.args.k.word)).rule ≡ entering = rw c.in-Key.is refl in
    let f = subst (FineAt c.args.sheet.now) (sym c.past-cur.ensures.0) (c.requires.1 e) in
    (fine-inside f, f)

pub returns-in-Key : goal.returns-in-Key
unfolding row
returns-in-Key c =
    let s = c.args.sheet.now in
    let e : (row (word_of c.args.k.word)).rule ≡ entering = rw c.in-Key.is refl in
    record {
      entry = λ _. (subst (λ (p : ℕ). KnownAs s p c.known_line.result) c.past-cur.ensures.0 c.known_line.ensures.known, c.past-cur.ensures.0, c.past-cur.ensures.1);
      itself = λ n. absurd (n e);
    }

pub returns-in_default : goal.returns-in_default
unfolding row
returns-in_default c =
    let n : enters_by (row (word_of c.args.k.word)).rule ≡ false = search rules in
    record {
      entry = λ e. absurd (let t = ap enters_by e in cc);
      itself = λ _. (refl, refl);
    }
