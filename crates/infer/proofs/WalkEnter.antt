-- Any tree inside a clause: an expression, an entry that holds one, or neither. Assumes nothing.
use mathlib.Core.Path.{◌≡◌, refl, sym, ◌∙◌, ap, subst}
use mathlib.Core.List.{List, [], ◌∷◌, map}
use Prim.Native.Nat.{ℕ, suc, ◌+◌, ◌≤◌, ◌<◌}
use native.Mathlib.Omega.{arith}
use lib.ListN.{length, take}
use Rattle.semantics.specs.Bytes.{Bytes}
use Rattle.semantics.specs.Sheet.{Word, Head, Place, expression_place, row, Role, Typing, Rule, silent, entering, rule, roles, arity, rank, at, wanted}
use Rattle.semantics.specs.Walk.{Env, Res, step, walk}
use Rattle.line.specs.Words.{word_of}
use Rattle.line.specs.Line.{HeadIs}
use Rattle.line.specs.Known.{FineAt, KnownAs}
use Rattle.line.specs.declared.line.Head.{Head as Seen}
use Rattle.hir.specs.Lines.{LineAt, Lines, Met}
use Rattle.hir.specs.Check.{class_of}
use Rattle.hir.proofs.PlaceLaws.{class-is}
use Rattle.report.specs.declared.Report.{Report}
use Rattle.walk_run.specs.Run.{Ran, halted, typed, judged}
use Rattle.infer.specs.declared.step.Env.{Env as Binds}
use Rattle.infer.specs.Walks.{result_of, Behind, WalkedAs, Walked, ExprAt, ExprAsk, ExprWalked, AnyAt, AnyAsk, AnyWalked, PatternAt, PatternAsk, PatternWalked, EntersAs}
use Rattle.hir.specs.declared.valid.Next.{Next}
use Rattle.infer.specs.declared.walk.Walk.{Walk}
use Rattle.infer.specs.declared.walk.TooLarge.{TooLarge}
use Rattle.std.specs.Prelude.{Result, Ok, Err}
use Rattle.infer.proofs.WalkTable.{entry-roles, entry-arity, entry_place_lem, silent-place, typed-place}
use Rattle.infer.proofs.WalkTrees.{FirstLine, first-line, no-wants, First, first-met, met-rank, met-under, walk_first, tree-ends, judged-entry}
use Rattle.infer.proofs.WalkPattern.{rank-expr, deeper-same}

-- the walk of an expression that tells that of the tree
pub record Via (s : Bytes) (k : Seen) (c : Next) (depth : ℕ) (a : AnyAt s k c depth) (e : Seen) (d : Next) : Type 0 where
  pub expr : ExprAt s e d depth
  pub fewer : length expr.tree.under ≤ length a.tree.under
  pub gives : (env : Env) (work work' : Bytes) (y z : Report) (r : Result Walk TooLarge) → Walked env s d.line.0 expr.tree.head expr.tree.under expr.tree.rest work work' y z r
      → Walked env s c.line.0 a.tree.head a.tree.under a.tree.rest work work' y z r

walked-map : (j : Ran) (work' : Bytes) (y z : Report) (B B' : Next → Type 0) (r : Result Walk TooLarge) → ((c : Next) → B c → B' c) → WalkedAs j work' y z B r → WalkedAs j work' y z B' r
walked-map (halted l) work' y z B B' (Ok r) f w = w
walked-map (halted l) work' y z B B' (Err m) f w = w
walked-map (typed t fs) work' y z B B' (Ok r) f w = (w.0, w.1, f r.cur w.2)
walked-map (typed t fs) work' y z B B' (Err m) f w = w

-- an entry's expression stands on the line behind its own
module _ {s : Bytes} {k : Seen} {c : Next} {depth : ℕ} (a : AnyAt s k c depth) (t : rule a.tree.head ≡ entering) where
  entry-rank : rank a.place ≡ 11
  entry-rank = sym (met-rank a.tree.met) ∙ entry_place_lem a.tree.head t

  entry_first : First (at expression_place depth) [] a.tree.under a.tree.rest
  entry_first =
      first-met (subst (λ (ps : List Role). Met (map (wanted depth) ps) a.tree.under a.tree.rest) (entry-roles a.tree.head t)
      (subst (λ (x : ℕ). Met (map (wanted x) (roles a.tree.head)) a.tree.under a.tree.rest) (deeper-same a.place depth (λ z. omega (arith, entry-rank)))
      (met-under a.inside a.tree.met)))

  entry-line : FirstLine s a.tree.next entry_first.head entry_first.under (length s)
  entry-line = first-line (subst (λ (x : List Head). Lines s a.tree.next x (length s)) entry_first.same a.tree.lines)

-- the rule of a line by its word
rule-of-word : {s : Bytes} {k : Seen} {h : Head} → HeadIs s k h → (row (word_of k.word)).rule ≡ rule h
rule-of-word i = ap (λ (v : Word). (row v).rule) i.word

module _ {s : Bytes} {k : Seen} {c : Next} {depth : ℕ} (a : AnyAt s k c depth) {e : Seen} {d : Next} (E : EntersAs s k c e d) where
  -- the line itself
  itself : (rule a.tree.head ≡ entering → ⊥) → (e ≡ k) × (d ≡ c)
  itself n = E.itself (λ w. n (sym (rule-of-word a.is) ∙ w))

  typed-no : (q : Typing) → rule a.tree.head ≡ Rule.typed q → rule a.tree.head ≡ entering → ⊥
  typed-no q t w = cc

  silent-no : rule a.tree.head ≡ silent → rule a.tree.head ≡ entering → ⊥
  silent-no t w = cc

  via-itself : (q : Typing) → rule a.tree.head ≡ Rule.typed q → Via s k c depth a e d
  via-itself q t =
      let i = itself (typed-no q t) in
      let m : a.place ≡ expression_place = rank-expr a.place (sym (met-rank a.tree.met) ∙ typed-place a.tree.head q t) in
      subst (λ (x : Next). Via s k c depth a e x) (sym i.1) (subst (λ (x : Seen). Via s k c depth a x c) (sym i.0)
      (record {
        expr = record {
          tree = record {
            head = a.tree.head;
            under = a.tree.under;
            rest = a.tree.rest;
            next = a.tree.next;
            line = a.tree.line;
            lines = a.tree.lines;
            met = subst (λ (x : Place). Met (at x depth ∷ []) (a.tree.head ∷ a.tree.under) a.tree.rest) m a.tree.met;
            above = a.tree.above;
            room = a.tree.room;
          };
          is = a.is;
          next = a.next;
        };
        fewer = omega arith;
        gives = λ env work work' y z r w. w;
      }))

  -- an entry's expression
  module _ (t : rule a.tree.head ≡ entering) where
    entry_read : KnownAs s a.tree.next e × (d.at ≡ a.tree.next) × (d.line.0 ≡ c.line.0 + 1)
    entry_read = subst (λ (x : ℕ). KnownAs s x e × (d.at ≡ x) × (d.line.0 ≡ c.line.0 + 1)) a.next (E.entry (rule-of-word a.is ∙ t))

    entry-is : HeadIs s e (entry_first a t).head × (e.next ≡ (entry-line a t).next)
    entry-is = let x = entry_read.0 (entry_first a t).head (entry-line a t).next (entry-line a t).line in (x.1, x.0)

    entry-last : (entry_first a t).behind ≡ a.tree.rest
    entry-last = no-wants (entry_first a t).rest

    entry-met : Met (at expression_place depth ∷ []) ((entry_first a t).head ∷ (entry_first a t).under) a.tree.rest
    entry-met = subst (λ (x : List Head). Met (at expression_place depth ∷ []) ((entry_first a t).head ∷ (entry_first a t).under) x) entry-last (entry_first a t).met

    entry_gives : (env : Env) (work work' : Bytes) (y z : Report) (r : Result Walk TooLarge) → Walked env s d.line.0 (entry_first a t).head (entry_first a t).under a.tree.rest work work' y z r
        → Walked env s c.line.0 a.tree.head a.tree.under a.tree.rest work work' y z r
    entry_gives env work work' y z r w =
        let n = c.line.0 in
        let f = a.tree.head in
        let m : d.line.0 ≡ suc n = omega (arith, entry_read.2) in
        let R = result_of env (suc n) (entry_first a t).head (entry_first a t).under in
        let o : take (arity f) (walk env (suc n) a.tree.under) ≡ R ∷ [] =
        ap (λ (x : ℕ). take x (walk env (suc n) a.tree.under)) (entry-arity f t) ∙ ap (λ (x : List Head). take 1 (walk env (suc n) x)) (entry_first a t).same ∙ walk_first env (suc n) 0 (entry_first a t).head (entry_first a t).under in
        let j : judged (result_of env d.line.0 (entry_first a t).head (entry_first a t).under) ≡ judged (result_of env n f a.tree.under) =
        ap (λ (x : ℕ). judged (result_of env x (entry_first a t).head (entry_first a t).under)) m ∙ sym (ap (λ (x : List Res). judged (step env n f x)) o ∙ judged-entry env n f R t) in
        let la = ap length (entry_first a t).same in
        record {
          answer = walked-map (judged (result_of env n f a.tree.under)) work' y z (Behind env s d.line.0 (entry_first a t).head (entry_first a t).under a.tree.rest) (Behind env s n f a.tree.under a.tree.rest) r
              (λ b x. let q : b.line.0 + length a.tree.rest ≡ n + suc (length a.tree.under) = omega (arith, x.count, la, m) in
              record { lines = x.lines; count = q; above = x.above; walked = tree-ends a.inside a.tree.met env n b.line.0 q })
              (subst (λ (v : Ran). WalkedAs v work' y z (Behind env s d.line.0 (entry_first a t).head (entry_first a t).under a.tree.rest) r) j w.answer);
          long = w.long;
          as_long = w.as_long;
        }

    via-entry : Via s k c depth a e d
    via-entry =
        record {
          expr = record {
            tree = record {
              head = (entry_first a t).head;
              under = (entry_first a t).under;
              rest = a.tree.rest;
              next = (entry-line a t).next;
              line = subst (λ (x : ℕ). LineAt s x (entry_first a t).head (entry-line a t).next) (sym entry_read.1) (entry-line a t).line;
              lines = (entry-line a t).lines;
              met = entry-met;
              above = omega (arith, entry_read.1, entry_read.2, a.tree.above, a.tree.line.on);
              room = a.tree.room;
            };
            is = entry-is.0;
            next = entry-is.1;
          };
          fewer = omega (arith, ap length (entry_first a t).same);
          gives = entry_gives;
        }

    entry-class : class_of (Ok e) ≡ 13
    unfolding rank
    entry-class = class-is s e (entry_first a t).head entry-is.0 ∙ met-rank (entry_first a t).met

  -- ## By the class of the line entered

  pub via : class_of (Ok e) ≡ 13 → Via s k c depth a e d
  via q = go (rule a.tree.head) refl
    where
      go : (r : Rule) → rule a.tree.head ≡ r → Via s k c depth a e d
      go silent t =
          absurd (silent-place a.tree.head t (sym (class-is s k a.tree.head a.is) ∙ ap (λ (x : Seen). class_of (Ok x)) (sym (itself (silent-no t)).0) ∙ q))
      go entering t = via-entry t
      go (Rule.typed x) t = via-itself x t

  not-via : (class_of (Ok e) ≡ 13 → ⊥) → rule a.tree.head ≡ silent
  not-via n = go (rule a.tree.head) refl
    where
      go : (r : Rule) → rule a.tree.head ≡ r → rule a.tree.head ≡ silent
      go silent t = t
      go entering t = absurd (n (entry-class t))
      go (Rule.typed x) t =
          absurd (n (ap (λ (y : Seen). class_of (Ok y)) (itself (typed-no x t)).0 ∙ class-is s k a.tree.head a.is ∙ typed-place a.tree.head x t))

-- a line stands inside the sheet
pub fine-inside : {s : Bytes} {at : ℕ} → FineAt s at → at ≤ length s
fine-inside f = omega (arith, f.line.on, f.line.inside)

-- what `entered` requires
pub enters : {s : Bytes} {k : Seen} {c : Next} {depth : ℕ} → AnyAt s k c depth → (c.line.0 < 4294967295) × ((row (word_of k.word)).rule ≡ entering → FineAt s k.next)
enters {s} {k} a = (
  omega (arith, a.tree.above, a.tree.line.on, a.tree.line.inside, a.tree.room),
  λ e.
      let t = sym (rule-of-word a.is) ∙ e in
      subst (FineAt s) (sym a.next) (record { head = (entry_first a t).head; next = (entry-line a t).next; line = (entry-line a t).line }),
)

-- the expression's requirements and its answer
module _ {s : Bytes} {b : Binds} {k : Seen} {c : Next} {depth : ℕ} {work : Bytes} {y : Report} (x : AnyAsk s b k c depth work y) {e : Seen} {d : Next} (E : EntersAs s k c e d) (q : class_of (Ok e) ≡ 13) where
  pub via-ask : ExprAsk s b e d depth work y
  via-ask =
      let v = via x.at E q in
      record {
        at = v.expr;
        env = x.env;
        bound = x.bound;
        room = x.room;
        count = record { fill = omega (arith, x.count.fill, v.fewer); faults = omega (arith, x.count.faults, v.fewer) };
      }

pub via-walked : {s : Bytes} {b : Binds} {k : Seen} {c : Next} {depth : ℕ} {work work' : Bytes} {y z : Report} {r : Result Walk TooLarge} {e : Seen} {d : Next} → EntersAs s k c e d → class_of (Ok e) ≡ 13
    → ExprWalked s b e d depth work work' y z r → AnyWalked s b k c depth work work' y z r
via-walked {s} {b} {k} {c} {depth} {work} {work'} {y} {z} {r} E q W a env u = let v = via a E q in v.gives env work work' y z r (W v.expr env u)

-- the requirements and the answer of a tree that is neither an expression nor an entry
module _ {s : Bytes} {k : Seen} {c : Next} {depth : ℕ} {e : Seen} {d : Next} (E : EntersAs s k c e d) (n : class_of (Ok e) ≡ 13 → ⊥) where
  abbrev neither_at : AnyAt s k c depth → PatternAt s c depth
  neither_at a = record { place = a.place; inside = a.inside; tree = a.tree; passes = not-via a E n }

  pub neither-ask : {b : Binds} {work : Bytes} {y : Report} → AnyAsk s b k c depth work y → PatternAsk s b c depth work y
  neither-ask x = record { at = neither_at x.at; env = x.env; bound = x.bound; room = x.room; count = x.count }

  pub neither-walked : {b : Binds} {work work' : Bytes} {y z : Report} {r : Result Walk TooLarge} → PatternWalked s b c depth work work' y z r → AnyWalked s b k c depth work work' y z r
  neither-walked W a env u = W (neither_at a) env u
