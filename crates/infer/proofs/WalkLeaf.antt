-- `infer_leaf`: nothing can stand below the line, so nothing is kept, and its type is that of a variable or of its word. Assumes nothing.
use mathlib.Core.Path.{◌≡◌, refl, sym, ◌∙◌, ap, subst}
use mathlib.Core.List.{List, [], ◌∷◌, ◌++◌, append-nil, map}
use mathlib.Core.Bool.{Bool, true, false, not, ◌&&◌}
use Prim.Native.Nat.{ℕ, ◌+◌, ◌-◌, ◌*◌, ◌≤◌}
use native.Mathlib.Omega.{arith}
use lib.Dec.{eqb}
use lib.ListN.{length}
use borrow.Author.Tests.{eq-eqb}
use Rattle.semantics.specs.Bytes.{Bytes}
use Rattle.semantics.specs.Sheet.{Word, var_word, Shape, nothing, Head, expression_place, Role, Rule, silent, entering, typed, row, rank, place, rule, roles, arity, Want, at, wanted, deeper, fits, beyond, under}
use Rattle.semantics.specs.Walk.{Env, kind_type}
use Rattle.semantics.proofs.Words.{every-where}
use Rattle.line.specs.Words.{word_of}
use Rattle.line.specs.declared.words.Word.TheVariants.{Var}
use Rattle.line.specs.declared.places.Place.TheVariants.{Expression}
use Rattle.line.specs.declared.line.Head.{Head as Seen}
use Rattle.hir.specs.Bind.{BindsAt}
use Rattle.hir.specs.Bind.{kind_of as bind_kind}
use Rattle.hir.specs.Check.{KidsAs}
use Rattle.hir.specs.Lines.{Met, meets}
use Rattle.hir.specs.declared.valid.Kids.{Kids}
use Rattle.hir.proofs.LinesLaws.{inner-under}
use Rattle.ty.specs.Parts.{TypeAt}
use Rattle.report.specs.declared.Report.{Report}
use Rattle.walk_run.specs.Run.{Kept, empty, start}
use Rattle.exprs.specs.State.{StAs, FineKept}
use Rattle.exprs.specs.declared.state.Accumulator.{Accumulator}
use Rattle.std.specs.declared.option.Option.TheVariants.{Some}
use Rattle.exprs.specs.declared.rule.Rule.TheVariants.{Constant, Variable}
use Rattle.exprs.specs.Rules.{typing_rule, line_rule, ConstantBy}
use Rattle.exprs.proofs.StateLaws.{empty-is}
use Rattle.infer.specs.Steps.{EndedBy}
use Rattle.infer.specs.declared.step.Env.{Env as Binds}
use Rattle.infer.specs.Walks.{Leaf, LeafAsk, LeafWalked}
use Rattle.hir.specs.declared.valid.Next.{Next}
use Rattle.infer.proofs.WalkTable.{typing_of}
use Rattle.infer.proofs.WalkTrees.{met-fits}
use Rattle.infer.proofs.WalkSmall.{kids-arity}
use Rattle.infer.proofs.WalkLoop.{Base, expr-base, expr-in, base-pos, base-rank, base-under, Loop, loop-start}
use Rattle.infer.proofs.EndLaws.{Ruled, settled, quiet-constant, quiet-variable}
use Rattle.infer.proofs.WalkInfer.{end-walked}
use Rattle.infer.proofs.WalkCycle.{Past}

-- ## A word below whose line nothing can stand

abbrev is_nothing : Shape → Bool
is_nothing nothing = true
is_nothing _ = false

abbrev pub is_var : Word → Bool
is_var var_word = true
is_var _ = false

-- an expression of such a word keeps nothing
leaf-word : (v : Word) → rank (row v).place ≡ 13 → (row v).under ≡ nothing → start (typing_of (row v).rule) ≡ empty
unfolding row rank typing_of start
leaf-word v e l =
    every-where (λ (v : Word). eqb (rank (row v).place) 13 && is_nothing (row v).under) (λ (v : Word). start (typing_of (row v).rule)) empty refl v
    (rw (eq-eqb (rank (row v).place) 13 e, l))

-- it is a variable, or a constant
var-rule : (v : Word) → v ≡ var_word → line_rule (row v).rule ≡ Variable
unfolding row line_rule typing_rule
var-rule v e = rw e

abbrev is_typed : Rule → Bool
is_typed silent = false
is_typed entering = false
is_typed (typed q) = true

constant_rule : (v : Word) → is_typed (row v).rule ≡ true → (row v).under ≡ nothing → is_var v ≡ false → line_rule (row v).rule ≡ Constant
unfolding row line_rule typing_rule
constant_rule v e l n =
    every-where (λ (v : Word). is_typed (row v).rule && (is_nothing (row v).under && not (is_var v))) (λ (v : Word). line_rule (row v).rule) Constant refl v
    (rw (e, l, n))

is-variable : {sheet : Bytes} {h : Seen} {s : Bytes} {st : Accumulator} → h.word ≡ Var → Ruled Variable sheet h s st
unfolding line_rule
is-variable e q k hd d = sym (var-rule hd.word (sym d.head.word ∙ ap word_of e)) ∙ ap line_rule d.ruled

-- of the line's word
under-is : {v w : Word} → v ≡ w → (row v).under ≡ nothing → (row w).under ≡ nothing
under-is e l = ap (λ (u : Word). (row u).under) (sym e) ∙ l

is-constant : {sheet : Bytes} {h : Seen} {s : Bytes} {st : Accumulator} → Leaf h.word → is_var (word_of h.word) ≡ false → Ruled Constant sheet h s st
unfolding line_rule
is-constant l n q k hd d =
    sym (constant_rule hd.word (ap is_typed d.ruled) (under-is d.head.word l) (ap is_var (sym d.head.word) ∙ n)) ∙ ap line_rule d.ruled

-- what hangs under it
abbrev no_kids : Kids
no_kids = record { first = 0; all = 0; place1 = Expression; place2 = Expression }

leaf_kids : (h : Seen) → Leaf h.word → KidsAs h no_kids
leaf_kids h l = rw l (record { first = refl; all = refl; place1 = refl; place2 = refl; small = omega arith })

no-roles : (ps : List Role) → length ps ≡ 0 → ps ≡ []
no-roles [] e = refl
no-roles (p ∷ ps) e = absurd (omega arith)

-- ## Its line, with any number of levels left

module _ {s : Bytes} {h : Seen} {here depth : ℕ} {hd : Head} {hs ks : List Head} (B : Base s h here depth hd hs ks) (l : Leaf h.word) where
  leaf-roles : roles hd ≡ []
  unfolding arity
  leaf-roles = no-roles (roles hd) (sym (kids-arity s h hd no_kids B.is (leaf_kids h l)))

  leaf-start : start (typing_of (rule hd)) ≡ empty
  leaf-start = leaf-word hd.word (base-rank B) (under-is B.is.word l)

  -- one level is enough
  leaf-met : Met (at expression_place 1 ∷ []) (hd ∷ hs) ks
  unfolding fits beyond rank
  leaf-met =
      let f : fits (at expression_place 1) (rank (place hd)) ≡ true = (met-fits B.met).0 in
      let e : under (at expression_place 1) hd ++ [] ≡ [] = append-nil (under (at expression_place 1) hd) ∙ (inner-under (at expression_place 1) hd (expr-in 1) f).0 ∙ ap (map (wanted (deeper (at expression_place 1)))) leaf-roles in
      meets f refl (subst (λ (ws : List Want). Met ws hs ks) (sym e) (subst (λ (ps : List Role). Met (map (wanted (depth - 1)) ps) hs ks) leaf-roles (base-under B)))

  leaf-base : Base s h here 1 hd hs ks
  leaf-base = record { is = B.is; lines = B.lines; met = leaf-met; above = B.above; room = B.room; variable = B.variable }

  leaf-loop : (env : Env) (work : Bytes) (y : Report) (c : Next) (st : Accumulator) → Past c h.next here → StAs empty work st → Loop s 1 here hd hs ks env y work c y st 0
  leaf-loop env work y c st p a =
      loop-start leaf-base env work y c st p (subst (λ (k : Kept). StAs k work st) (sym leaf-start) a, subst FineKept (sym leaf-start) tt)

-- ## `infer_leaf`

abbrev none_kept : Accumulator
none_kept = record { len = 0; second = 0; over = false }

module _ {s : Bytes} {b : Binds} {h : Seen} {cur : Next} {work : Bytes} (x : LeafAsk s b h cur work) where
  leaf_room : 1024 * (1 + 40) ≤ length work
  leaf_room = omega (arith, x.ask.room, base-pos (expr-base x.ask.at))

  module _ {c : Next} (p : Past c h.next cur.line.0) {work' : Bytes} {len : ℕ} where
    leaf-end : ((y : Report) → EndedBy s b h work work' none_kept y y (Some len)) → LeafWalked s b h cur work work' (record { len = len; cur = c })
    leaf-end E depth y ζ env u =
        let B = expr-base ζ in
        let a = empty-is (refl, refl, refl) work in
        end-walked (leaf-base B x.leaf) u (leaf-loop B x.leaf env work y c none_kept p a) leaf_room (leaf_kids h x.leaf) (omega arith) cur.line refl (E y) refl

    pub leaf-variable : h.word ≡ Var → ((b' : BindsAt s b.from b.to) → TypeAt work' 0 len (kind_type (bind_kind h.var.0 b'.heads))) × (length work' ≡ length work)
        → LeafWalked s b h cur work work' (record { len = len; cur = c })
    leaf-variable e f = leaf-end (λ y. settled (is-variable e) refl (quiet-variable refl f))

    pub leaf-constant : is_var (word_of h.word) ≡ false → ConstantBy h.word work work' len → LeafWalked s b h cur work work' (record { len = len; cur = c })
    leaf-constant n f = leaf-end (λ y. settled (is-constant x.leaf n) refl (quiet-constant refl f))
