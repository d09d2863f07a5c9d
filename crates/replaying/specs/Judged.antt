-- What is said of a case, and the counts.
use Rattle.std.specs.Prelude.{◌≡◌, ℕ, ◌+◌, ◌%◌, ◌^◌, Bool, true, false, Option, Some, None}
use Rattle.replaying.specs.declared.answer.Verdict.{Verdict}
use Rattle.replaying.specs.declared.answer.Verdict.TheVariants.{Same, Differs, Skipped}
use Rattle.replaying.specs.declared.tally.Tally.{Tally}

-- an answer decides a fact
pub record Decides (r : Bool) (P : Type 0) : Type 0 where
  pub yes : r ≡ true → P
  pub no : r ≡ false → P → ⊥

-- a skipped case says nothing
pub record Judges (v : Verdict) (P : Type 0) : Type 0 where
  pub same : v ≡ Same → P
  pub differs : v ≡ Differs → P → ⊥

abbrev pub judged : Bool → Verdict
judged true = Same
judged false = Differs

-- one more, in 64 bits
abbrev pub one_more : ℕ → ℕ
one_more n = (n + 1) % 2 ^ 64

-- the first that differs
abbrev pub first_of : Option ℕ → ℕ → Option ℕ
first_of None n = Some n
first_of (Some m) n = Some m

abbrev pub counted : Tally → Verdict → Tally
counted t Same = record t { met = one_more t.met }
counted t Skipped = record t { met = one_more t.met; skipped = one_more t.skipped }
counted t Differs = record t { met = one_more t.met; differ = one_more t.differ; first = first_of t.first t.met }
