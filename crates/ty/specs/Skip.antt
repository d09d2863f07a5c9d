-- Skipping a type by its brackets, field by field: K, L and O open one, `!` closes one, a relationship type is skipped whole.
use Rattle.std.specs.Prelude.{ℕ, ◌+◌, ◌-◌, ◌≤◌, ◌<◌, ◌≡◌, Bool, true, false, cond, ◌||◌, ◌∷◌, eqb, ltb, length, drop, get_or}
use Rattle.std.proofs.Math.Option.{Option}
use Rattle.text.specs.Text.{index_of}
use Rattle.semantics.specs.Codes.{comma, close_mark, list_letter, map_letter, node_letter, relationship_letter, union_letter}
use Rattle.semantics.specs.Bytes.{Bytes}
use Rattle.semantics.specs.Ty.{rel_to}

-- brackets open behind a field that begins with c
unfoldable pub opened_by : ℕ → ℕ → ℕ
opened_by c k = cond (eqb c close_mark) (k - 1) (cond (eqb c map_letter || (eqb c node_letter || eqb c union_letter)) (k + 1) k)

-- whether the type goes on there: behind `J`, or with a bracket open
unfoldable pub goes_on : ℕ → ℕ → Bool
goes_on c k = cond (eqb c list_letter) true (ltb 0 k)

-- where the field after the one at q begins
abbrev pub next_field : Bytes → ℕ → ℕ
next_field s q = q + index_of comma (drop q s) + 1

-- from the text x, with k brackets open, the skip comes to the text rest
pub data Skip (rest : Bytes) : Bool → ℕ → Bytes → Type 0 where
  done : Skip rest false 0 rest
  word : {k : ℕ} {x y : Bytes} (c : ℕ) → c ≡ get_or y 0 0 → (c ≡ close_mark → 0 < k) → (c ≡ relationship_letter → ⊥) → index_of comma y < length y → x ≡ drop (index_of comma y + 1) y
      → Skip rest (goes_on c (opened_by c k)) (opened_by c k) x → Skip rest true k y
  rel : {k : ℕ} {x : Bytes} (n : Option Bytes) → Skip rest (ltb 0 k) k x → Skip rest true k (relationship_letter ∷ comma ∷ rel_to n x)

-- a skip goes on from q
pub record SkipAt (s : Bytes) (q : ℕ) : Type 0 where
  pub rest : Bytes
  pub depth : ℕ
  pub is : Skip rest true depth (drop q s)

-- its next step leads to r
pub record Stepped (s : Bytes) (q r : ℕ) : Type 0 where
  pub onward : q < r
  pub inside : r ≤ length s
  pub step : (rest : Bytes) (k : ℕ) → Skip rest true k (drop q s) → Skip rest (goes_on (get_or s q 0) (opened_by (get_or s q 0) k)) (opened_by (get_or s q 0) k) (drop r s)
