use Rattle.std.proofs.Common.{◌≡◌, ◌∙◌, ap, ap₂, ◌+◌, ◌-◌, length, arith}
use Rattle.std.proofs.Math.Seq.{sets, slice, length-slice, take_at}
use Rattle.text.proofs.Laws.{part_slice, put_mid-sets, within, put-behind}
use Rattle.text.proofs.rotate_aside.Goals as goal

pub returns : goal.returns
returns c =
    let a = c.args in
    let s = a.s.now in
    let behind = a.a + (a.e - a.m) in
    let first : c.copy_from_slice.new.self ≡ slice a.a a.m s = c.copy_from_slice.ensures.after ∙ part_slice a.a a.m s in
    let long = length-slice a.a a.m s (omega arith) in
    let part : c.copy_from_slice-2.new.self ≡ slice a.a a.m s =
    c.copy_from_slice-2.ensures.after ∙ take_at c.copy_from_slice.new.self _ (a.m - a.a) (ap length first ∙ long) ∙ first in
    let moved = c.copy_within.ensures.after ∙ within s a.m a.e a.a c.requires.1 c.requires.2 (omega arith) in
    put_mid-sets c.copy_within.new.self _ behind (a.e - behind) (omega (arith, c.copy_within.ensures.len)) (omega (arith, ap length part, long))
    ∙ ap₂ (λ x y. sets x behind y) moved part
    ∙ put-behind s a.a a.m a.e c.requires.0 c.requires.1 c.requires.2
