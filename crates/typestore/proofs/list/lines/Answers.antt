-- `lines`: what is listed and the lines of what is left make the whole.
use Rattle.std.proofs.Common.{refl, ◌∙◌, rules}
use Rattle.catalogue.proofs.PlaceLaws.{begun}
use Rattle.typestore.proofs.ListLaws.{gone-start, gone-next, gone-end, lines-on}
use Rattle.typestore.proofs.list.lines.Goals as goal

pub loop-entry-init : goal.loop-entry-init
loop-entry-init c = (gone-start _ _ _ _ _ (begun _ _ _ _ _ c.into_iter-entry-iterator.ensures.into_iter_gives (refl, c.requires.0, refl)) c.new-writer.ensures.1, refl)

pub loop-entry-preserved : goal.loop-entry-preserved
loop-entry-preserved c =
    (gone-next _ _ _ _ _ _ _ _ c.loop-entry.invariant.0 c.next.ensures.steps _ c.in-Some.is _ _ _ _ c.from.ensures c.from-in-loop-entry.ensures c.live_line.ensures.line c.live_line.ensures.short, c.live_line.ensures.keeps ∙ c.loop-entry.invariant.1)

pub returns : goal.returns
returns c = let same = c.new-writer.ensures.0 in lines-on (gone-end _ _ _ _ _ _ _ _ c.loop-entry.invariant.0 c.next.ensures.steps c.in-None.is) (search rules) (search rules)
