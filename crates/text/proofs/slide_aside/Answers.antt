use Rattle.std.proofs.Common.{◌∙◌, ◌+◌, ◌-◌, ◌≡◌, ap, arith, length}
use Rattle.std.proofs.Math.Seq.{sets, slice, take_at}
use Rattle.text.proofs.Laws.{part_slice, put_mid-sets, length_part}
use Rattle.text.proofs.slide_aside.Goals as goal

pub returns : goal.returns
returns c =
    let a = c.args in
    let kept : c.copy_from_slice.new.self ≡ slice a.from (a.from + a.len) a.s.now = c.copy_from_slice.ensures.after ∙ part_slice a.from (a.from + a.len) a.s.now in
    let long : length c.copy_from_slice.new.self ≡ a.len = ap length kept ∙ length_part a.from a.len a.s.now c.requires.0 in
    let part : c.copy_from_slice-2.new.self ≡ slice a.from (a.from + a.len) a.s.now = c.copy_from_slice-2.ensures.after ∙ take_at c.copy_from_slice.new.self _ a.len long ∙ kept in
    put_mid-sets a.s.now _ a.to (a.to + a.len - a.to) (omega arith) (omega (arith, ap length part, length_part a.from a.len a.s.now c.requires.0)) ∙ ap (sets a.s.now a.to) part
