use Rattle.std.proofs.Common.{arith, refl}
use Rattle.line.proofs.KnownLaws.{binding_digits, binding-small, binding-says}
use Rattle.line.proofs.known.bound_at.Goals as goal

pub known_digits-got-requires : goal.known_digits-got-requires
known_digits-got-requires c = binding_digits _ _ c.requires

pub overflow_cast-result : goal.overflow_cast-result
overflow_cast-result c = omega (arith, binding-small _ _ c.requires _ c.known_digits-got.ensures)

pub returns : goal.returns
returns c = λ b. binding-says _ _ b _ c.known_digits-got.ensures _ refl refl
