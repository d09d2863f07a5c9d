use Rattle.std.proofs.Common.{ap, length, arith}
use Rattle.semantics.specs.Builtins.{resolve_return}
use Rattle.builtins.specs.Rows.{fixed_of}
use Rattle.builtins.proofs.Laws.{front-text, fixed-short}
use Rattle.builtins.proofs.shapes.ReturnShape.resolve.Goals as goal

pub returns-in-Fixed : goal.returns-in-Fixed
unfolding resolve_return
returns-in-Fixed c ts h =
    let t = fixed_of c.in-Fixed.t in
    rw c.in-Fixed.is (front-text c.args.part.now _ _ _ t c.requires.room c.line.ensures (omega (arith, fixed-short c.in-Fixed.t, ap length c.line.ensures)) c.append.ensures.0 c.append.ensures.1)
