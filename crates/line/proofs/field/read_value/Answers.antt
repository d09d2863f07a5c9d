use Rattle.std.proofs.Common.{◌∙◌}
use Rattle.line.specs.Fields.{value_at}
use Rattle.line.proofs.ValueLaws.{var-number, name-says}
use Rattle.line.proofs.field.read_value.Goals as goal

pub returns-in-Variable : goal.returns-in-Variable
unfolding value_at
returns-in-Variable c = c.ranged-in-Variable.ensures ∙ rw c.in-Variable.is (var-number _)

pub returns-in-Name : goal.returns-in-Name
unfolding value_at
returns-in-Name c = c.name_value.ensures ∙ rw c.in-Name.is (name-says _)
