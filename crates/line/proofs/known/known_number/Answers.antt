use Rattle.std.proofs.Common.{arith}
use Rattle.line.proofs.KnownFields.{counted_digits, got-counted, range-digits}
use Rattle.line.proofs.known.known_number.Goals as goal

pub known_digits-requires : goal.known_digits-requires
known_digits-requires c = counted_digits _ _ _ _ c.requires (range-digits _ _ _ _ _ (omega arith) c.requires)

pub returns : goal.returns
returns c = got-counted _ _ _ _ c.requires (range-digits _ _ _ _ _ (omega arith) c.requires) _ c.known_digits.ensures
