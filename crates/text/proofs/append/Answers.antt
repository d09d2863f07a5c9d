use Rattle.std.proofs.Common.{refl, ◌∙◌, sym, ap, arith, length, ◌+◌, ◌-◌}
use Rattle.std.proofs.Math.Seq.{sets, length-take-le}
use Rattle.text.proofs.Laws.{put_mid-sets, sets-inside, sets-out}
use Rattle.text.proofs.append.Goals as goal
use Rattle.text.proofs.append.Goals.{then-fill-out, else-fill-out}

pub returns : goal.returns
returns c =
    let a = c.args in (
      refl,
      elim c.if-fill-out.branch [
        | then-fill-out w ↦
            let fits = w.min-fits.result in
            let part = w.copy_from_slice.ensures.after in
            w.out-is
            ∙ put_mid-sets a.out.now _ a.fill (a.fill + fits - a.fill) (omega (arith, w.min-fits.ensures)) (omega (arith, w.min-fits.ensures, ap length part, length-take-le fits a.t.now (omega (arith, w.min-fits.ensures))))
            ∙ ap (sets a.out.now a.fill) part
            ∙ sets-inside a.out.now a.t.now a.fill fits w.min-fits.ensures
        | else-fill-out w ↦ w.out-is ∙ sym (sets-out a.out.now a.fill a.t.now w.if-fill-out.false)
      ],
    )
