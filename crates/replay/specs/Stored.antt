-- What a stored case says of its call (harness/vectors/README.md).
use Rattle.std.specs.Prelude.{◌≡◌, ℕ, ◌-◌, Bool, true, false, ◌++◌, length, replicate, ◌==◌, nat_le, nat_lt}
use Rattle.semantics.specs.Bytes.{Bytes}
use Rattle.semantics.specs.Calls.{Settled, sheet_call, unify_call}
use Rattle.old_lines.specs.Old.{regular_call}
use Rattle.unifying.specs.Call.{settled_by}
use Rattle.replaying.specs.declared.answer.Answer.{Answer}
use Rattle.replay.specs.declared.Call.{Call}
use Rattle.replay.specs.declared.Call.TheVariants.{Sheet, Pair, Old}

-- `t`, and then `b` up to `n` bytes
abbrev pub filled : Bytes → ℕ → ℕ → Bytes
filled t n b = t ++ replicate (n - length t) b

unfoldable pub among : ℕ → ℕ → ℕ → Bool
among lo hi n = elim (nat_lt n lo) [ true ↦ false | false ↦ nat_le n hi ]

-- the work area's bytes after an answer of this number: as lent at 1 and 2
unfoldable pub work_byte : ℕ → ℕ
work_byte n = elim (among 1 2 n) [ true ↦ 170 | false ↦ 0 ]

-- the output's, behind the expected ones: zeros at 3 to 8 and 12
unfoldable pub out_byte : ℕ → ℕ
out_byte n = elim (among 3 8 n) [ true ↦ 0 | false ↦ elim (n == 12) [ true ↦ 0 | false ↦ 187 ] ]

-- what an answer and the two buffers tell of a call
abbrev pub left_by : Answer → Bytes → Bytes → Settled
left_by a work out = settled_by a.number a.first a.second work out

-- every number and every byte
abbrev pub stored_by : Answer → ℕ → ℕ → Bytes → Settled
stored_by want w o e = left_by want (replicate w (work_byte want.number)) (filled e o (out_byte want.number))

abbrev pub Agrees : Call → Bytes → Bytes → Answer → Bytes → Type 0
Agrees (Sheet a) work out want e = sheet_call a.now work out ≡ stored_by want (length work) (length out) e
Agrees (Pair a b) work out want e = unify_call a.now b.now work out ≡ stored_by want (length work) (length out) e
Agrees (Old a) work out want e = regular_call a.now work out ≡ stored_by want (length work) (length out) e
