use native.Mathlib.Omega.{arith}
use Rattle.old.proofs.MakeParts.{start-list, start-map, start-union}
use Rattle.old.proofs.making.start.Goals as goal

pub returns-in-74 : goal.returns-in-74
returns-in-74 c = start-list c.args.work.now _ _ _ c.requires c.in-74.is c.append.ensures

pub returns-in-75 : goal.returns-in-75
returns-in-75 c = start-map c.args.work.now _ _ _ c.requires c.in-75.is c.append-in-75.ensures

pub returns-in_default : goal.returns-in_default
returns-in_default c = start-union _ _ (omega arith) (omega arith)
