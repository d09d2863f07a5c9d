use mathlib.Core.Path.{refl, ap}
use Prim.Native.Nat.{ℕ, ◌+◌}
use native.Mathlib.Omega.{arith}
use Rattle.unify.proofs.MapPairs.{entered-over, named-at, name-bounds, pair-firsts, value-low, entered-pair}
use Rattle.unify.proofs.maps.next_values.Goals as goal

pub returns-then-work-p-eq-CLOSE : goal.returns-then-work-p-eq-CLOSE
returns-then-work-p-eq-CLOSE c = entered-over c.if-work-p-eq-CLOSE.true

pub name_len-k-requires : goal.name_len-k-requires
name_len-k-requires c = named-at c.if-work-p-eq-CLOSE.false c.requires.met

pub keep-kept-requires : goal.keep-kept-requires
keep-kept-requires c = let (p, q, room, few) = name-bounds c.requires c.if-work-p-eq-CLOSE.false c.name_len-k.ensures in (omega arith, room, few)

pub overflow_add-v : goal.overflow_add-v
overflow_add-v c = let (p, q, room, few) = name-bounds c.requires c.if-work-p-eq-CLOSE.false c.name_len-k.ensures in omega (arith, c.ranges.mark)

pub overflow_add-w : goal.overflow_add-w
overflow_add-w c = let (p, q, room, few) = name-bounds c.requires c.if-work-p-eq-CLOSE.false c.name_len-k.ensures in omega (arith, c.ranges.mark)

pub type_end-requires : goal.type_end-requires
type_end-requires c = (pair-firsts c.requires c.if-work-p-eq-CLOSE.false c.name_len-k.ensures c.keep-kept.ensures.0 c.keep-kept.ensures.1).0

pub type_end-requires-2 : goal.type_end-requires-2
type_end-requires-2 c = (pair-firsts c.requires c.if-work-p-eq-CLOSE.false c.name_len-k.ensures c.keep-kept.ensures.0 c.keep-kept.ensures.1).1

pub overflow_add-result : goal.overflow_add-result
overflow_add-result c = omega (arith, value-low c.requires c.if-work-p-eq-CLOSE.false c.name_len-k.ensures c.keep-kept.ensures.0 c.keep-kept.ensures.1, (name-bounds c.requires c.if-work-p-eq-CLOSE.false c.name_len-k.ensures).2, c.unwrap_or.ensures)

pub returns : goal.returns
returns c = entered-pair c.requires c.if-work-p-eq-CLOSE.false c.name_len-k.ensures c.keep-kept.ensures.0 c.keep-kept.ensures.1 _ refl refl refl (ap (λ (i : ℕ). c.args.mark + i) c.unwrap_or.ensures) c.type_end.ensures c.type_end-2.ensures
