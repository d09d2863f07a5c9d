use Rattle.std.proofs.Common.{arith, sym, ◌∙◌}
use Rattle.text.proofs.Words.{digit-range}
use Rattle.line.proofs.QuickFields.{digit-alone, digits-start}
use Rattle.line.proofs.in_place.number_at.Goals as goal

pub returns-then-sheet-end-lt48 : goal.returns-then-sheet-end-lt48
returns-then-sheet-end-lt48 c = let d = digit-range _ (sym c.is_ascii_digit.ensures.value ∙ c.if-not-is_ascii_digit.false) in rw c.from-n.ensures (digit-alone _ _ (omega arith) d.0 d.1)

pub more_digits-requires : goal.more_digits-requires
more_digits-requires c = let d = digit-range _ (sym c.is_ascii_digit.ensures.value ∙ c.if-not-is_ascii_digit.false) in rw c.from-n.ensures (digits-start _ _ (omega arith) d.0 d.1 (λ e. omega arith))
