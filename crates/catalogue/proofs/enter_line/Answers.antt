use Rattle.std.proofs.Common.{sym, ◌∙◌}
use Rattle.catalogue.specs.Places.{has_text}
use Rattle.catalogue.proofs.StandLaws.{open-laid}
use Rattle.catalogue.proofs.CallLaws.{found-there, no_line, ends_at, standing, found-standing, entered-old, entered-new}
use Rattle.catalogue.proofs.enter_line.Goals as goal

pub returns-then-not-is_type_line : goal.returns-then-not-is_type_line
returns-then-not-is_type_line c = no_line _ _ _ _ c.requires _ c.is_type_line.ensures (c.if-not-is_type_line.true)

pub new-requires : goal.new-requires
new-requires c = open-laid _ _ c.requires.form _ c.requires.ends

pub enter_old-requires : goal.enter_old-requires
enter_old-requires c = standing _ _ _ (found-standing _ _ _ (ends_at _ _ _ c.requires) _ (found-there (has_text c.args.line.now) c.new.result _ _ _ c.new.ensures c.find_text.ensures) _ c.in-Some.is)

pub returns-in-Some : goal.returns-in-Some
returns-in-Some c = entered-old _ _ _ (ends_at _ _ _ c.requires) (sym c.is_type_line.ensures ∙ c.if-not-is_type_line.false) _ (found-there (has_text c.args.line.now) c.new.result _ _ _ c.new.ensures c.find_text.ensures) _ c.in-Some.is _ c.enter_old.ensures

pub returns-in-None : goal.returns-in-None
returns-in-None c = entered-new _ _ _ _ c.requires (sym c.is_type_line.ensures ∙ c.if-not-is_type_line.false) _ (found-there (has_text c.args.line.now) c.new.result _ _ _ c.new.ensures c.find_text.ensures) c.in-None.is _ c.enter_new.ensures
