use native.Mathlib.Omega.{arith}
use Rattle.builtins.proofs.Laws.{first-line, first-inside, first-long, element-returned, element-other}
use Rattle.builtins.proofs.shapes.list_element.Goals as goal

pub returns-in_default : goal.returns-in_default
returns-in_default c ts h = let w = c.append.ensures in element-other _ _ _ _ ts h (rw c.in_default.is at c.list_len.ensures) c.requires.room w.0 w.1

pub element-n-requires : goal.element-n-requires
element-n-requires c = let (e, g) = rw c.in-Some.is at c.list_len.ensures in first-line _ _ c.requires.types (rw e at c.requires.first) g

pub copy_in-requires : goal.copy_in-requires
copy_in-requires c =
    let (e, g) = rw c.in-Some.is at c.list_len.ensures in
    let f = rw e at c.requires.first in
    let long = first-long _ _ _ c.requires.types f g c.element-n.ensures in
    let inside = first-inside _ _ c.requires.types f in
    (omega (arith, long, inside), omega (arith, long, inside, c.requires.room))

pub returns : goal.returns
returns c ts h = let (e, g) = rw c.in-Some.is at c.list_len.ensures in element-returned _ _ _ _ ts (rw e at h) g c.element-n.ensures c.copy_in.ensures
