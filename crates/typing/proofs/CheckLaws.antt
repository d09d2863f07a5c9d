-- The validation's answer, by what `hir` says of the sheet. Assumes nothing.
use mathlib.Core.Path.{◌≡◌, sym, ap, ◌∙◌}
use mathlib.Core.Bool.{Bool, true, false}
use Prim.Native.Nat.{ℕ, ◌≤◌, ◌<◌}
use lib.ListN.{length}
use borrow.Author.Tests.{lt-ltb, le-ltb}
use Rattle.semantics.specs.Limits.{sheet_limit, depth_limit}
use Rattle.semantics.specs.Bytes.{Bytes}
use Rattle.semantics.specs.Sheet.{refused, sheet}
use Rattle.hir.specs.Check.{Laid}
use Rattle.hir.specs.declared.valid.Outline.{Outline}
use Rattle.typing.specs.Checking.{CheckedAs, checked_by, checked, check_call}

chosen : Bytes → Bool → CheckedAs
chosen s c = elim c [ true ↦ checked_by 1 0 | false ↦ checked (sheet depth_limit s) ]

pub long : (s : Bytes) → sheet_limit < length s → checked_by 1 0 ≡ check_call s
unfolding chosen check_call
long s h = sym (ap (chosen s) (lt-ltb sheet_limit (length s) h))

by-sheet : (s : Bytes) → length s ≤ sheet_limit → check_call s ≡ checked (sheet depth_limit s)
unfolding chosen check_call
by-sheet s h = ap (chosen s) (le-ltb sheet_limit (length s) h)

pub accepted : (s : Bytes) (o : Outline) → length s ≤ sheet_limit → Laid depth_limit s o → checked_by 0 0 ≡ check_call s
unfolding checked
accepted s o h l = sym (by-sheet s h ∙ ap checked l.same)

pub refused-at : (s : Bytes) (c n : ℕ) → length s ≤ sheet_limit → sheet depth_limit s ≡ refused c n → checked_by c n ≡ check_call s
unfolding checked
refused-at s c n h e = sym (by-sheet s h ∙ ap checked e)
