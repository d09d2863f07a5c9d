use Rattle.old.proofs.LooseForm.{some-passed, told-new}
use Rattle.old.proofs.reader.LooseForm.name_may_follow.Goals as goal

pub is_unused-requires : goal.is_unused-requires
is_unused-requires c = (some-passed _ _ c.requires.0, c.requires.1, c.requires.2)

pub returns : goal.returns
returns c ks h = told-new _ _ _ _ c.is_unused.ensures ks h
