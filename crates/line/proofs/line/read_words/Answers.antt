use Rattle.semantics.specs.declared.refusals.Refusal.TheVariants.{BadlyWritten}
use Rattle.std.proofs.Common.{refl, arith}
use Rattle.line.proofs.LineLaws.{commas-at}
use Rattle.line.proofs.ReadLaws.{read-unknown, read_count, read-many, read-bad, read-good}
use Rattle.line.proofs.line.read_words.Goals as goal

pub returns-in_default : goal.returns-in_default
returns-in_default c = (refl, read-unknown _ _ _ c.requires c.field_end-end.ensures (λ i. omega (arith, c.type_inv.line i)) c.in_default.ensures BadlyWritten c.args.next)

pub returns-then-commas-row : goal.returns-then-commas-row
returns-then-commas-row c =
    (refl, read_count _ _ _ c.requires c.field_end-end.ensures (λ i. omega (arith, c.type_inv.line i)) _ c.in-Some.ensures _ (commas-at _ _ _ c.requires c.commas.ensures) _ c.row_of-row.ensures c.if-commas-row.true c.args.next)

pub read_fields-requires : goal.read_fields-requires
read_fields-requires c =
    (read-many _ _ _ c.requires c.field_end-end.ensures (λ i. omega (arith, c.type_inv.line i)) _ c.in-Some.ensures _ (commas-at _ _ _ c.requires c.commas.ensures) _ c.row_of-row.ensures c.if-commas-row.false, c.row_of-row.ensures.few)

pub returns-in-Ok : goal.returns-in-Ok
returns-in-Ok c =
    rw c.head_of.ensures
    (refl, read-good _ _ _ c.requires c.field_end-end.ensures (λ i. omega (arith, c.type_inv.line i)) _ c.in-Some.ensures _ (commas-at _ _ _ c.requires c.commas.ensures) _ c.row_of-row.ensures c.if-commas-row.false _ (c.in-Ok.ensures _) _)

pub returns-in-Err : goal.returns-in-Err
returns-in-Err c =
    (refl, read-bad _ _ _ c.requires c.field_end-end.ensures (λ i. omega (arith, c.type_inv.line i)) _ c.in-Some.ensures _ (commas-at _ _ _ c.requires c.commas.ensures) _ c.row_of-row.ensures c.if-commas-row.false _ (c.in-Err.ensures _) c.args.next)
