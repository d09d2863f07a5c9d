use Rattle.std.proofs.Common.{refl, sym, ◌∙◌, arith}
use Rattle.catalogue.proofs.CheckLaws.{too_long, not-above, not-given, not-used, not_line, goes_on, part-line}
use Rattle.catalogue.proofs.form.live_at.Goals as goal
use Rattle.catalogue.proofs.form.live_at.Goals.{then-number-prev-via-then-number-prev, then-number-prev-via-else-number-prev+then-number-last, then-number-prev-via-else-number-prev+else-number-last+then-read_u32-eq0}

pub returns-then-s-at : goal.returns-then-s-at
returns-then-s-at c = too_long _ _ _ _ c.requires.0 c.requires.1 (omega arith)

pub returns-then-number-prev : goal.returns-then-number-prev
returns-then-number-prev c =
    elim c.then-number-prev.branch [
      | then-number-prev-via-then-number-prev w ↦ not-above _ _ _ _ c.requires.0 c.requires.1 (omega arith) (omega arith)
      | then-number-prev-via-else-number-prev+then-number-last w ↦ not-given _ _ _ _ c.requires.0 c.requires.1 (omega arith) (omega arith)
      | then-number-prev-via-else-number-prev+else-number-last+then-read_u32-eq0 w ↦ not-used _ _ _ _ c.requires.0 c.requires.1 (omega arith) (sym w.read_u32.ensures ∙ w.if-read_u32-eq0.true)
    ]

pub returns-then-is_type_line : goal.returns-then-is_type_line
returns-then-is_type_line c =
    let b = c.from-n.ensures ∙ c.read_u16.ensures in
    goes_on _ _ _ _ c.requires.0 c.requires.1 (omega arith) (omega arith) (omega arith) (λ e. c.if-read_u32-eq0.false (c.read_u32.ensures ∙ e)) (part-line _ _ _ _ refl b ∙ sym c.is_type_line.ensures ∙ c.if-is_type_line.true) _ _ c.read_u16-number.ensures (omega arith)

pub returns-else-is_type_line : goal.returns-else-is_type_line
returns-else-is_type_line c =
    let b = c.from-n.ensures ∙ c.read_u16.ensures in
    not_line _ _ _ _ c.requires.0 c.requires.1 (omega arith) (part-line _ _ _ _ refl b ∙ sym c.is_type_line.ensures ∙ c.if-is_type_line.false)
