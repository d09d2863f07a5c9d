use Rattle.std.proofs.Common.{◌∙◌, sym, ap, get_or}
use Rattle.semantics.specs.Builtins.{lower}
use Rattle.text.proofs.Words.{fold_on, fold-off, fold_end, fold-unlike, lowered}
use Rattle.text.proofs.same_hex_fold.Goals as goal

pub returns-then-hex-name : goal.returns-then-hex-name
returns-then-hex-name c = let a = c.args in sym (fold-unlike a.hex.now a.name.now c.if-hex-name.true)

pub returns-then-to_ascii_lowercase : goal.returns-then-to_ascii_lowercase
returns-then-to_ascii_lowercase c =
    let a = c.args in
    sym (c.loop-i.invariant ∙ fold-off a.hex.now a.name.now c.if-hex-name.false c.loop-i.i _ _ c.loop-i-test.true (c.to_ascii_lowercase.ensures.value ∙ lowered c.hex_byte.result ∙ ap lower c.hex_byte.ensures) (c.to_ascii_lowercase-in-loop-i.ensures.value ∙ lowered (get_or a.name.now c.loop-i.i 0)) c.if-to_ascii_lowercase.true)

pub loop-i-preserved : goal.loop-i-preserved
loop-i-preserved c =
    let a = c.args in
    c.loop-i.invariant ∙ fold_on a.hex.now a.name.now c.if-hex-name.false c.loop-i.i _ _ c.loop-i-test.true (c.to_ascii_lowercase.ensures.value ∙ lowered c.hex_byte.result ∙ ap lower c.hex_byte.ensures) (c.to_ascii_lowercase-in-loop-i.ensures.value ∙ lowered (get_or a.name.now c.loop-i.i 0)) c.if-to_ascii_lowercase.false

pub returns : goal.returns
returns c = let a = c.args in sym (c.loop-i.invariant ∙ fold_end a.hex.now a.name.now c.if-hex-name.false c.loop-i.i c.loop-i-test.false c.loop-i.auto.i-end)
