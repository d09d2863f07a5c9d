use Rattle.ty.proofs.MergeLaws.{few-kept}
use Rattle.ty.proofs.LabelLaws.{start-inv, labels-made, turn-heads, turn-name, turn-taking, turn-less, turn-again}
use Rattle.ty.proofs.label_sets.merge_labels.Goals as goal

pub loop-side-init : goal.loop-side-init
loop-side-init c = let a = c.args in start-inv a.s.now _ a.a a.b a.to c.requires.2 c.copy_in.ensures c.requires.0 c.requires.1

pub next_name-requires : goal.next_name-requires
next_name-requires c = turn-heads _ _ _ _ _ _ c.loop-side.invariant

pub name_len-k-requires : goal.name_len-k-requires
name_len-k-requires c = turn-name _ _ _ _ _ _ c.loop-side.invariant _ c.in-Some.ensures _ c.taken.ensures

pub take-m-requires : goal.take-m-requires
take-m-requires c = turn-taking _ _ _ _ _ _ c.loop-side.invariant _ c.in-Some.ensures _ _ c.taken.ensures c.name_len-k.ensures

pub loop-side-smaller : goal.loop-side-smaller
loop-side-smaller c = turn-less _ _ _ _ _ _ c.loop-side.invariant _ c.in-Some.ensures _ _ c.taken.ensures c.name_len-k.ensures _ _ c.take-m.ensures.0 c.take-m.ensures.1

pub loop-side-preserved : goal.loop-side-preserved
loop-side-preserved c = turn-again _ _ _ _ _ _ c.loop-side.invariant _ c.in-Some.ensures _ _ c.taken.ensures c.name_len-k.ensures _ _ c.take-m.ensures.0 c.take-m.ensures.1

pub close_line-requires : goal.close_line-requires
close_line-requires c =
    let i = c.loop-side.invariant in
    let t = i.going i.left.end i.right.end i.left.labels i.right.labels i.left.at i.right.at in
    (i.room, few-kept _ _ _ _ t.kept)

pub returns : goal.returns
returns c =
    let a = c.args in
    let w = c.close_line.ensures in
    labels-made a.s.now _ a.a a.b a.to c.requires.2 c.copy_in.ensures _ _ _ _ c.loop-side.invariant c.in_default.ensures w.0 w.1
