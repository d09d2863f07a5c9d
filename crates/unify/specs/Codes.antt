-- Room: a running union with types behind it that may join; a partial map, whose `!,` has still room; `O,` and `!,` around members.
use Rattle.std.specs.Prelude.{ℕ}

abbrev pub two_slots : ℕ
two_slots = 2048

abbrev pub partial_limit : ℕ
partial_limit = 1022

abbrev pub union_marks : ℕ
union_marks = 4
