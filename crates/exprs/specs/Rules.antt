-- The rules of words and the roles of children as the code has them, and what is ensured by them.
use Rattle.std.specs.Prelude.{◌≡◌, List, [], cond, ℕ, eqb, length, get_or}
use Rattle.semantics.specs.Codes.{unknown_letter}
use Rattle.semantics.specs.Bytes.{Bytes}
use Rattle.semantics.specs.Ty.{Ty, line}
use Rattle.semantics.specs.Sheet.{plain, condition, answer, inner, Typing, constant, var_type, element, slice as slicing, listing, mapping, calling, operator, unary, casing, membership, comprehension, silent, entering, typed, row, low, high, present, arm_roles}
use Rattle.semantics.specs.Sheet.{Rule as LineRule, Role as ChildRole}
use Rattle.line.specs.Words.{word_of}
use Rattle.line.specs.declared.words.Word.{Word}
use Rattle.builtins.specs.Rows.{Returned}
use Rattle.walk_run.specs.Run.{Kept, keep_two, keep_answer}
use Rattle.exprs.specs.State.{StAs, ChildAt, FirstForm, ArmForm}
use Rattle.exprs.specs.declared.state.Accumulator.{Accumulator}
use Rattle.exprs.specs.declared.rule.Rule.{Rule}
use Rattle.exprs.specs.declared.rule.Rule.TheVariants.{Constant, Variable, Element, Slice, Listing, Mapping, Call, Operator, Unary, Casing, Membership, Comprehension, Silent, Entry}
use Rattle.exprs.specs.declared.role.Role.{Role}
use Rattle.exprs.specs.declared.role.Role.TheVariants.{Plain, Condition, Answer}

-- ## Rules and roles

unfoldable pub typing_rule : Typing → Rule
typing_rule (constant t) = Constant
typing_rule var_type = Variable
typing_rule element = Element
typing_rule slicing = Slice
typing_rule listing = Listing
typing_rule mapping = Mapping
typing_rule calling = Call
typing_rule operator = Operator
typing_rule unary = Unary
typing_rule casing = Casing
typing_rule membership = Membership
typing_rule comprehension = Comprehension

unfoldable pub line_rule : LineRule → Rule
line_rule silent = Silent
line_rule entering = Entry
line_rule (typed q) = typing_rule q

-- a condition must be a Bool, an answer counts for the type, any other child is only kept
unfoldable pub child_role : ChildRole → Role
child_role plain = Plain
child_role condition = Condition
child_role answer = Answer
child_role (inner p) = Plain

-- the roles under a CASE by its flag number and its count
unfoldable pub case_row : ℕ → ℕ → List ChildRole
case_row f k = present (low f) plain (arm_roles (cond (eqb (low f) 0) condition plain) k (present (high f) answer []))

-- ## What is ensured by a rule or a role

-- the first two are kept; of a CASE the answers
abbrev pub TwoKept : Accumulator → ℕ → Accumulator → Type 0
TwoKept st n r = (s : Bytes) (k : Kept) (t : Ty) → FirstForm k → ChildAt k t s st n → StAs (keep_two k t) s r

pub record AnswerKept (i : Role) (s s' : Bytes) (st : Accumulator) (n : ℕ) (r : Accumulator) : Type 0 where
  pub long : length s' ≡ length s
  pub kept : (p : ChildRole) (k : Kept) (t : Ty) → i ≡ child_role p → ArmForm k → ChildAt k t s st n → StAs (keep_answer p k t) s' r

-- the first letter of a constant's type; Unknown's for any other rule
unfoldable pub letter_of : LineRule → ℕ
letter_of silent = unknown_letter
letter_of entering = unknown_letter
letter_of (typed (constant t)) = get_or (line t) 0 unknown_letter
letter_of (typed var_type) = unknown_letter
letter_of (typed element) = unknown_letter
letter_of (typed slicing) = unknown_letter
letter_of (typed listing) = unknown_letter
letter_of (typed mapping) = unknown_letter
letter_of (typed calling) = unknown_letter
letter_of (typed operator) = unknown_letter
letter_of (typed unary) = unknown_letter
letter_of (typed casing) = unknown_letter
letter_of (typed membership) = unknown_letter
letter_of (typed comprehension) = unknown_letter

abbrev pub ConstantBy : Word → Bytes → Bytes → ℕ → Type 0
ConstantBy w s s' r = (t : Ty) → (row (word_of w)).rule ≡ typed (constant t) → Returned s s' t r
