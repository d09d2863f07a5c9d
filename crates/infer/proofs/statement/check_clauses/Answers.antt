use mathlib.Core.Path.{refl, sym, ◌∙◌}
use native.Mathlib.Omega.{arith}
use lib.Seq.{length-take-le}
use Rattle.std.proofs.lemmas.Result.{err_from_is_err_and}
use Rattle.infer.proofs.WalkTable.{expression-class, end-class, not-end, other-class}
use Rattle.infer.proofs.StatementLaws.{mid-word, mid_start, mid-inside, mid-fill, mid-types, mid-end, mid-line, mid-class, mid-skip, mid-ask, mid-long, mid-as-long, mid-large, mid_len, mid-room, mid-on, mid-kept, mid-typed, mid-below, as_long, less, mid-fine}
use Rattle.infer.proofs.statement.check_clauses.Goals as goal

pub loop-word-init : goal.loop-word-init
loop-word-init c = record { long = refl; as_long = refl; keeps = refl; keeps_out = refl; mid = λ a env v. mid_start a env _ refl c.requires.empty.0 c.requires.empty.1 }

pub opening_of-o-requires : goal.opening_of-o-requires
opening_of-o-requires c = let g = c.loop-word.invariant in let p = c.requires.asks in let m = g.mid p.at p.env p.bound in omega (arith, mid-inside m)

pub end_line-requires : goal.end_line-requires
end_line-requires c = let g = c.loop-word.invariant in let p = c.requires.asks in let m = g.mid p.at p.env p.bound in mid-fill m

pub returns-in-End-clause-told : goal.returns-in-End-clause-told
returns-in-End-clause-told c = let g = c.loop-word.invariant in let w = c.end_line.ensures.line in record { long = g.long; as_long = as_long w ∙ g.as_long; made = λ a env v. mid-end (g.mid a env v) c.opening_of-o.ensures c.in-Some.is (end-class c.in-End.ensures) w }

pub known_line-k-requires : goal.known_line-k-requires
known_line-k-requires c = let g = c.loop-word.invariant in let p = c.requires.asks in let m = g.mid p.at p.env p.bound in (omega (arith, mid-inside m), mid-fine m)

pub infer_line-requires : goal.infer_line-requires
infer_line-requires c = let g = c.loop-word.invariant in let p = c.requires.asks in let m = g.mid p.at p.env p.bound in let x = c.known_line-k.ensures.known in let e = mid-class m c.opening_of-o.ensures c.in-Some.is _ x ∙ expression-class c.in-Expression.ensures in mid-ask m _ x e _ _ p.bound (omega (arith, g.long, p.room))

pub slice_bounds-type_line-end : goal.slice_bounds-type_line-end
slice_bounds-type_line-end c = let g = c.loop-word.invariant in let p = c.requires.asks in let m = g.mid p.at p.env p.bound in let x = c.known_line-k.ensures.known in let e = mid-class m c.opening_of-o.ensures c.in-Some.is _ x ∙ expression-class c.in-Expression.ensures in let w = c.infer_line.ensures.walked in let f = c.in_ok-typed-in-Expression.was in mid_len m _ x e p.bound w f

pub slice_bounds-type_line-end-in-Expression : goal.slice_bounds-type_line-end-in-Expression
slice_bounds-type_line-end-in-Expression c = let g = c.loop-word.invariant in let p = c.requires.asks in let m = g.mid p.at p.env p.bound in let x = c.known_line-k.ensures.known in let e = mid-class m c.opening_of-o.ensures c.in-Some.is _ x ∙ expression-class c.in-Expression.ensures in let w = c.infer_line.ensures.walked in let f = c.in_ok-typed-in-Expression.was in sym (length-take-le _ _ (mid_len m _ x e p.bound w f))

pub type_line-requires : goal.type_line-requires
type_line-requires c = let g = c.loop-word.invariant in let p = c.requires.asks in let m = g.mid p.at p.env p.bound in let x = c.known_line-k.ensures.known in let e = mid-class m c.opening_of-o.ensures c.in-Some.is _ x ∙ expression-class c.in-Expression.ensures in let w = c.infer_line.ensures.walked in let f = c.in_ok-typed-in-Expression.was in mid-room m _ x e p.bound w f

pub overflow_add-types : goal.overflow_add-types
overflow_add-types c = let g = c.loop-word.invariant in let p = c.requires.asks in let m = g.mid p.at p.env p.bound in omega (arith, mid-types m)

pub loop-word-smaller-in-Expression : goal.loop-word-smaller-in-Expression
loop-word-smaller-in-Expression c = let g = c.loop-word.invariant in let p = c.requires.asks in let m = g.mid p.at p.env p.bound in let x = c.known_line-k.ensures.known in let e = mid-class m c.opening_of-o.ensures c.in-Some.is _ x ∙ expression-class c.in-Expression.ensures in let w = c.infer_line.ensures.walked in let f = c.in_ok-typed-in-Expression.was in less _ _ _ (mid-on m _ x e p.bound w f) (mid-below m)

pub loop-word-preserved-in-Expression : goal.loop-word-preserved-in-Expression
loop-word-preserved-in-Expression c = let g = c.loop-word.invariant in let p = c.requires.asks in let m = g.mid p.at p.env p.bound in let x = c.known_line-k.ensures.known in let e = mid-class m c.opening_of-o.ensures c.in-Some.is _ x ∙ expression-class c.in-Expression.ensures in let w = c.infer_line.ensures.walked in let f = c.in_ok-typed-in-Expression.was in let d = c.type_line.ensures in record { long = mid-long m _ x e p.bound w ∙ g.long; as_long = mid-kept m _ x e p.bound w f c.type_line.new.self d.line ∙ g.as_long; keeps = d.keeps ∙ c.infer_line.ensures.keeps ∙ g.keeps; keeps_out = d.keeps_out ∙ c.infer_line.ensures.keeps_out ∙ g.keeps_out; mid = λ a env v. mid-typed (g.mid a env v) _ x e v w f c.type_line.new.self d.line d.same }

pub returns-in_err-typed-in-Expression-clause-told : goal.returns-in_err-typed-in-Expression-clause-told
returns-in_err-typed-in-Expression-clause-told c = let g = c.loop-word.invariant in let p = c.requires.asks in let m = g.mid p.at p.env p.bound in let x = c.known_line-k.ensures.known in let e = mid-class m c.opening_of-o.ensures c.in-Some.is _ x ∙ expression-class c.in-Expression.ensures in let w = c.infer_line.ensures.walked in let r = err_from_is_err_and c.from_residual.result c.from_residual.ensures.1 in rw (r.1, r.2) (record { long = mid-long m _ x e p.bound w ∙ g.long; as_long = mid-as-long m _ x e p.bound w ∙ g.as_long; made = λ a env v. mid-large (g.mid a env v) _ x e v w _ c.in_err-typed-in-Expression.was _ })

pub skipped-c-requires : goal.skipped-c-requires
skipped-c-requires c = let g = c.loop-word.invariant in let p = c.requires.asks in let m = g.mid p.at p.env p.bound in (mid-line m, c.opening_of-o.ensures.within)

pub loop-word-smaller : goal.loop-word-smaller
loop-word-smaller c = let g = c.loop-word.invariant in let p = c.requires.asks in let m = g.mid p.at p.env p.bound in less _ _ _ (omega (arith, c.skipped-c.ensures.1)) (mid-below m)

pub loop-word-preserved : goal.loop-word-preserved
loop-word-preserved c = let g = c.loop-word.invariant in record { long = g.long; as_long = g.as_long; keeps = g.keeps; keeps_out = g.keeps_out; mid = λ a env v. mid-skip (g.mid a env v) c.opening_of-o.ensures c.in-Some.is (not-end c.place_of.ensures c.in_default-place_of.not-End) (other-class c.place_of.ensures c.in_default-place_of.not-Expression) _ c.skipped-c.ensures }

pub unreachable-requires : goal.unreachable-requires
unreachable-requires c = let g = c.loop-word.invariant in let p = c.requires.asks in mid-word (g.mid p.at p.env p.bound) c.opening_of-o.ensures c.in_default.is

pub returns-in-End-clause-keeps : goal.returns-in-End-clause-keeps
returns-in-End-clause-keeps c = c.end_line.ensures.keeps ∙ c.loop-word.invariant.keeps

pub returns-in_err-typed-in-Expression-clause-keeps : goal.returns-in_err-typed-in-Expression-clause-keeps
returns-in_err-typed-in-Expression-clause-keeps c = c.infer_line.ensures.keeps ∙ c.loop-word.invariant.keeps

pub returns-in-End-clause-keeps_out : goal.returns-in-End-clause-keeps_out
returns-in-End-clause-keeps_out c = c.end_line.ensures.keeps_out ∙ c.loop-word.invariant.keeps_out

pub returns-in_err-typed-in-Expression-clause-keeps_out : goal.returns-in_err-typed-in-Expression-clause-keeps_out
returns-in_err-typed-in-Expression-clause-keeps_out c = c.infer_line.ensures.keeps_out ∙ c.loop-word.invariant.keeps_out
