-- No refusal has the number 0, which is that of an accepted call. Assumes nothing.
use mathlib.Core.Path.{◌≡◌}
use native.Mathlib.Omega.{arith}
use Rattle.semantics.specs.Refusals.{number_of}
use Rattle.semantics.specs.declared.refusals.Refusal.{Refusal}
use Rattle.semantics.specs.declared.refusals.Refusal.TheVariants.{SheetTooLong, WrongSize, BadlyWritten, OutOfRange, TooDeep, TypeTooLarge, OutputTooShort, NoTypeLine, Mismatch, NoOldLine, StoreFull, CountUsedUp, NotLive}

pub above_none : (w : Refusal) → number_of w ≡ 0 → ⊥
above_none SheetTooLong e = omega arith
above_none WrongSize e = omega arith
above_none BadlyWritten e = omega arith
above_none OutOfRange e = omega arith
above_none TooDeep e = omega arith
above_none TypeTooLarge e = omega arith
above_none OutputTooShort e = omega arith
above_none NoTypeLine e = omega arith
above_none Mismatch e = omega arith
above_none NoOldLine e = omega arith
above_none StoreFull e = omega arith
above_none CountUsedUp e = omega arith
above_none NotLive e = omega arith
