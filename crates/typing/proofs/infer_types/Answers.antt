use mathlib.Core.Path.{◌≡◌, ap, ◌∙◌}
use borrow.Author.Rules.{rules}
use Prim.Native.Nat.{ℕ}
use lib.ListN.{length, replicate}
use Rattle.semantics.specs.Bytes.{Bytes}
use Rattle.semantics.specs.Calls.{sheet_call}
use Rattle.typing.proofs.SheetLaws.{call_long, call-sized, call-refused, call-answered}
use Rattle.typing.proofs.infer_types.Goals as goal

pub returns-then-sheet-gt-SHEET_LIMIT : goal.returns-then-sheet-gt-SHEET_LIMIT
returns-then-sheet-gt-SHEET_LIMIT c = rw c.into.ensures (call_long _ _ _ c.if-sheet-gt-SHEET_LIMIT.true)

pub returns-in_default : goal.returns-in_default
returns-in_default c = rw c.into-in_default.ensures (call-sized _ _ _ c.if-sheet-gt-SHEET_LIMIT.false c.in_default.ensures.cases)

pub returns-then-is_err : goal.returns-then-is_err
returns-then-is_err c =
    let k : length c.type_sheet-typed.new.work ≡ length c.in-Some.area.now = search rules in
    let l : length c.type_sheet-typed.new.out ≡ length c.args.out.now = search rules in
    call-refused _ _ _ _ _ c.type_sheet-typed.ensures _ _ (c.fill.ensures.after (λ y h. h) ∙ ap (λ (n : ℕ). replicate n 0) k) (c.fill-then-is_err.ensures.after (λ y h. h) ∙ ap (λ (n : ℕ). replicate n 0) l) _ c.is_err.ensures.value c.if-is_err.true
    ∙ ap (λ (w : Bytes). sheet_call c.args.sheet.now w c.args.out.now) c.in-Some.ensures.cases.same

pub returns-else-is_err : goal.returns-else-is_err
returns-else-is_err c =
    let k : length c.type_sheet-typed.new.work ≡ length c.in-Some.area.now = search rules in
    call-answered _ _ _ _ _ c.type_sheet-typed.ensures _ (c.fill.ensures.after (λ y h. h) ∙ ap (λ (n : ℕ). replicate n 0) k) _ c.is_err.ensures.value c.if-is_err.false
    ∙ ap (λ (w : Bytes). sheet_call c.args.sheet.now w c.args.out.now) c.in-Some.ensures.cases.same
