-- One text written behind another. Assumes nothing.
use Rattle.std.proofs.Common.{◌++◌, ◌∙◌, ap, ap₂, sym, ℕ, ◌+◌, length, length-append, arith}
use Rattle.std.proofs.Math.Seq.{sets}
use Rattle.semantics.specs.Bytes.{Bytes}
use Rattle.text.proofs.Laws.{sets-append}
use Rattle.writer.specs.declared.Writer.{Writer}
use Rattle.writer.specs.Written.{Wrote}

pub wrote_both : {s t : Bytes} {u v w : Writer} → Wrote s u v → Wrote t v w → Wrote (s ++ t) u w
wrote_both {s} {t} {u} {v} {w} a b =
    record {
      text = b.text ∙ ap₂ (λ (l : Bytes) (k : ℕ). sets l k t) a.text a.end ∙ sym (sets-append u.out.now u.fill s t);
      end = b.end ∙ ap (λ (k : ℕ). k + length t) a.end ∙ omega (arith, length-append s t);
    }
