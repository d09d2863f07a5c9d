use Rattle.std.proofs.Common.{◌∙◌, ap, Option, Result, Ok}
use Rattle.catalogue.specs.declared.form.NoStore.{NoStore}
use Rattle.catalogue.specs.declared.form.Passed.{Passed}
use Rattle.catalogue.proofs.CheckLaws.{tail-start, tail-on, tail-less, tail-ends}
use Rattle.catalogue.proofs.form.find_end.Goals as goal

abbrev ok : Option Passed → Result (Option Passed) NoStore
ok p = Ok p

pub loop-passed-init : goal.loop-passed-init
loop-passed-init c = tail-start _ _ c.requires

pub loop-passed-smaller : goal.loop-passed-smaller
loop-passed-smaller c = tail-less _ _ _ _ c.loop-passed.invariant _ c.entry_at.ensures _ _ (c.in_ok-passed.was ∙ ap ok c.in-Some.is)

pub loop-passed-preserved : goal.loop-passed-preserved
loop-passed-preserved c = tail-on _ _ _ _ c.loop-passed.invariant _ c.entry_at.ensures _ _ (c.in_ok-passed.was ∙ ap ok c.in-Some.is)

pub returns : goal.returns
returns c = tail-ends _ _ _ _ c.loop-passed.invariant _ c.entry_at.ensures (c.in_ok-passed.was ∙ ap ok c.in_default.is)
