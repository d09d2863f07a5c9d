use mathlib.Core.Path.{refl}
use Rattle.std.proofs.lemmas.Result.{err_from_is_err_and}
use Rattle.unify.proofs.Refusals.{was_there, too_large}
use Rattle.unify.proofs.NullLaws.{null-too-long, null-adding, null-union, null-closed, null-large}
use Rattle.unify.proofs.flat.with_null.Goals as goal

pub returns-then-n-gt-TYPE_LIMIT : goal.returns-then-n-gt-TYPE_LIMIT
returns-then-n-gt-TYPE_LIMIT c = null-too-long refl c.if-n-gt-TYPE_LIMIT.true

pub add_members-requires : goal.add_members-requires
add_members-requires c = null-adding refl c.requires c.if-n-gt-TYPE_LIMIT.false c.copy_in.ensures c.append.ensures.1

pub returns-in_err-k : goal.returns-in_err-k
returns-in_err-k c =
    let (n, z) = too_large _ c.from_residual.result c.ok_or.ensures.value c.in_err-k.was (err_from_is_err_and _ c.from_residual.ensures.1) in
    rw z (null-large refl c.requires c.if-n-gt-TYPE_LIMIT.false c.copy_in.ensures c.append.ensures.1 _ _ c.add_members.auto.part c.add_members.ensures n)

pub closed-requires : goal.closed-requires
closed-requires c = null-union refl c.requires c.if-n-gt-TYPE_LIMIT.false c.copy_in.ensures c.append.ensures.1 _ _ c.add_members.auto.part c.add_members.ensures (was_there _ c.ok_or.ensures.value c.in_ok-k.was)

pub returns : goal.returns
returns c = null-closed refl c.requires c.if-n-gt-TYPE_LIMIT.false c.copy_in.ensures c.append.ensures.1 _ _ c.add_members.auto.part c.add_members.ensures (was_there _ c.ok_or.ensures.value c.in_ok-k.was) c.closed.ensures
