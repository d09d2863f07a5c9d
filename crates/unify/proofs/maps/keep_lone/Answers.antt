use mathlib.Core.Path.{◌≡◌, subst}
use Rattle.std.specs.Prelude.{Some}
use Rattle.std.proofs.Common.{rules}
use Rattle.ty.specs.declared.merging.Side.{Side}
use Rattle.ty.specs.declared.merging.Side.TheVariants.{Both}
use Rattle.ty.specs.Merging.{NextIs}
use Rattle.unify.proofs.MapLaws.{turn-heads, turn-entry, turn-taking, turn-less, turn-again, lone-both, lone-none}
use Rattle.unify.proofs.maps.keep_lone.Goals as goal

pub next_name-requires : goal.next_name-requires
next_name-requires c = turn-heads c.loop-side.invariant

pub returns-then-eq : goal.returns-then-eq
returns-then-eq c = let e : c.in-Some.side ≡ Both = search rules in lone-both c.loop-side.invariant (subst (λ (x : Side). NextIs c.loop-side.s c.loop-side.m.p c.loop-side.m.q (Some x)) e c.in-Some.ensures)

pub entry_len-k-requires : goal.entry_len-k-requires
entry_len-k-requires c = let h : c.in-Some.side ≡ Both → ⊥ = search rules in turn-entry c.loop-side.invariant c.in-Some.ensures h _ c.taken.ensures

pub take-m-requires : goal.take-m-requires
take-m-requires c = let h : c.in-Some.side ≡ Both → ⊥ = search rules in turn-taking c.loop-side.invariant c.in-Some.ensures h _ _ c.taken.ensures c.entry_len-k.ensures

pub loop-side-smaller : goal.loop-side-smaller
loop-side-smaller c = let h : c.in-Some.side ≡ Both → ⊥ = search rules in turn-less c.loop-side.invariant c.in-Some.ensures h _ _ c.taken.ensures c.entry_len-k.ensures _ _ c.take-m.ensures.0 c.take-m.ensures.1

pub loop-side-preserved : goal.loop-side-preserved
loop-side-preserved c = let h : c.in-Some.side ≡ Both → ⊥ = search rules in turn-again c.loop-side.invariant c.in-Some.ensures h _ _ c.taken.ensures c.entry_len-k.ensures _ _ c.take-m.ensures.0 c.take-m.ensures.1

pub returns : goal.returns
returns c = lone-none c.loop-side.invariant c.in_default.ensures
