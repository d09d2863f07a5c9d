use mathlib.Core.Path.{ap}
use Rattle.line.specs.Kinds.{kind_no}
use Rattle.exprs.proofs.Fronts.{var-node, var-relationship, var-path, var-value}
use Rattle.exprs.proofs.variable.kind_type.Goals as goal

pub returns-in-Node : goal.returns-in-Node
returns-in-Node c =
    let w = var-node _ c.requires (ap kind_no c.in-Node.is) c.put_pair.ensures in
    (w.at, w.long)

pub returns-in-Relationship : goal.returns-in-Relationship
returns-in-Relationship c =
    let w = var-relationship _ c.requires (ap kind_no c.in-Relationship.is) c.put_pair-in-Relationship.ensures in
    (w.at, w.long)

pub returns-in-Path : goal.returns-in-Path
returns-in-Path c =
    let w = var-path _ c.requires (ap kind_no c.in-Path.is) c.put_letter.ensures in
    (w.at, w.long)

pub returns-in-Value : goal.returns-in-Value
returns-in-Value c =
    let w = var-value _ c.requires (ap kind_no c.in-Value.is) c.put_letter-in-Value.ensures in
    (w.at, w.long)
