-- The types of constants: a computed case for each word. Assumes nothing.
use mathlib.Core.Path.{◌≡◌, refl, ◌∙◌, ap}
use mathlib.Core.List.{[], ◌∷◌}
use mathlib.Core.Bool.{Bool, true, false, cond}
use Prim.Native.Nat.{ℕ, ◌≤◌}
use native.Mathlib.Omega.{arith}
use lib.ListN.{length}
use Rattle.semantics.specs.Bytes.{Bytes}
use Rattle.semantics.specs.Ty.{letter, line, line_to, fields_to}
use Rattle.semantics.specs.Sheet.{Word, mpr_word, constant, var_type, element, slice as slicing, listing, mapping, calling, operator, unary, casing, membership, comprehension, Rule, silent, entering, typed, row}
use Rattle.semantics.proofs.Words.{every}
use Rattle.line.specs.Words.{word_of}
use Rattle.line.specs.declared.words.Word.{Word as Coded}
use Rattle.line.specs.declared.words.Word.TheVariants.{Mpr}
use Rattle.exprs.specs.End.{Puts}
use Rattle.exprs.specs.Rules.{letter_of, ConstantBy}
use Rattle.exprs.proofs.Fronts.{put-type}

unfoldable pub constant_line : Rule → Bytes
constant_line silent = 80 ∷ 44 ∷ []
constant_line entering = 80 ∷ 44 ∷ []
constant_line (typed (constant t)) = line t
constant_line (typed var_type) = 80 ∷ 44 ∷ []
constant_line (typed element) = 80 ∷ 44 ∷ []
constant_line (typed slicing) = 80 ∷ 44 ∷ []
constant_line (typed listing) = 80 ∷ 44 ∷ []
constant_line (typed mapping) = 80 ∷ 44 ∷ []
constant_line (typed calling) = 80 ∷ 44 ∷ []
constant_line (typed operator) = 80 ∷ 44 ∷ []
constant_line (typed unary) = 80 ∷ 44 ∷ []
constant_line (typed casing) = 80 ∷ 44 ∷ []
constant_line (typed membership) = 80 ∷ 44 ∷ []
constant_line (typed comprehension) = 80 ∷ 44 ∷ []

-- the constant of two fields
abbrev pub is_map : Word → Bool
is_map mpr_word = true
is_map _ = false

line_row : (v : Word) → is_map v ≡ false → letter_of (row v).rule ∷ 44 ∷ [] ≡ constant_line (row v).rule
unfolding letter_of constant_line row line line_to fields_to letter
line_row v n =
    rw n at (every (λ (v : Word). cond (is_map v) [] (letter_of (row v).rule ∷ 44 ∷ [])) (λ (v : Word). cond (is_map v) [] (constant_line (row v).rule)) refl v)

map_row : (v : Word) → v ≡ mpr_word → 75 ∷ 44 ∷ 33 ∷ 44 ∷ [] ≡ constant_line (row v).rule
unfolding constant_line row line line_to fields_to
map_row v e = rw e

module _ {s s' : Bytes} {r : ℕ} (w : Coded) (h : 1024 ≤ length s) where
  pub constant-map : w ≡ Mpr → Puts (75 ∷ 44 ∷ 33 ∷ 44 ∷ []) s s' r → ConstantBy w s s' r
  unfolding constant_line
  constant-map o p t x = put-type t (map_row (word_of w) (ap word_of o) ∙ ap constant_line x) (omega arith) p

  pub constant-letter : {n : ℕ} → n ≡ letter_of (row (word_of w)).rule → is_map (word_of w) ≡ false → Puts (n ∷ 44 ∷ []) s s' r → ConstantBy w s s' r
  unfolding constant_line
  constant-letter e m p t x = put-type t (ap (λ (i : ℕ). i ∷ 44 ∷ []) e ∙ (line_row (word_of w) m ∙ ap constant_line x)) (omega arith) p
