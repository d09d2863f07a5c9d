use Rattle.std.proofs.Common.{◌∙◌, ap}
use Rattle.std.specs.Prelude.{is_ok}
use Rattle.semantics.specs.Bytes.{unhex}
use Rattle.text.specs.Text.{named_of}
use borrow.Author.Tests.{le-ltb}
use Rattle.text.proofs.Laws.{part_slice}
use Rattle.ty.proofs.Labels.{in-checked, in-none}
use Rattle.ty.proofs.reader.is_name.Goals as goal

pub returns-then-end-s : goal.returns-then-end-s
returns-then-end-s c = in-checked c.args.s.now c.args.at c.args.end c.if-end-s.true _ (c.is_ok.ensures.value ∙ ap is_ok (c.check_name.ensures ∙ ap (λ f. named_of (unhex f)) (part_slice c.args.at c.args.end c.args.s.now)))

pub returns-else-end-s : goal.returns-else-end-s
returns-else-end-s c = le-ltb _ _ c.if-end-s.false ∙ in-none c.args.s.now c.args.at c.args.end c.if-end-s.false
