use Rattle.std.proofs.Common.{refl}
use Rattle.line.proofs.KnownLaws.{read_at, known_at}
use Rattle.line.proofs.line.known_line.Goals as goal

pub unwrap-requires : goal.unwrap-requires
unwrap-requires c = let f = c.requires.1 in let w = read_at _ _ _ c.read_any.ensures _ _ f.line in rw w.1 refl

pub returns-in-Some-clause-known : goal.returns-in-Some-clause-known
returns-in-Some-clause-known c = known_at _ _ _ c.in-Some.ensures

pub returns-in-None-clause-known : goal.returns-in-None-clause-known
returns-in-None-clause-known c = known_at _ _ _ (rw c.unwrap.ensures at c.read_any.ensures)
