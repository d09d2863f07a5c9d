use Prim.Native.Nat.{◌+◌}
use lib.ListN.{get_or}
use native.Mathlib.Omega.{arith}
use Rattle.text.proofs.Words.{value-small}
use Rattle.text.proofs.hex_byte.Goals as goal

pub overflow_mul-result : goal.overflow_mul-result
overflow_mul-result c = omega (arith, c.hex_value.ensures, value-small (get_or c.args.hex.now c.args.at 0))

pub overflow_add-result : goal.overflow_add-result
overflow_add-result c = let a = c.args in omega (arith, c.hex_value.ensures, c.hex_value-2.ensures, value-small (get_or a.hex.now a.at 0), value-small (get_or a.hex.now (a.at + 1) 0))
