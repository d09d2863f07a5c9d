-- What a stored case says of its call (harness/vectors/README.md).
use Rattle.std.specs.Prelude.{◌≡◌, ℕ, ◌-◌, ◌++◌, length, replicate}
use Rattle.semantics.specs.Bytes.{Bytes}
use Rattle.stores.specs.Catalogue.{Kept, store_call, entering, releasing, looking_up}
use Rattle.catalogue.specs.Stands.{kept_as, looked_as}
use Rattle.replaying.specs.declared.answer.Answer.{Answer}
use Rattle.replay_store.specs.declared.Call.{Call}
use Rattle.replay_store.specs.declared.Call.TheVariants.{Enter, Release, LookUp}

-- `t`, and then zeros up to `n` bytes
abbrev pub padded : Bytes → ℕ → Bytes
padded t n = t ++ replicate (n - length t) 0

abbrev pub kept_of : Answer → Bytes → Kept
kept_of want s = kept_as want.number want.first want.second s

-- every number and every byte
abbrev pub Agrees : Call → Bytes → Answer → Bytes → Type 0
Agrees (Enter t) s want after = store_call s (entering t.now) ≡ kept_of want after
Agrees (Release n) s want after = store_call s (releasing n) ≡ kept_of want after
Agrees (LookUp n t) s want after = store_call s (looking_up n) ≡ looked_as want.number want.first t.now s
