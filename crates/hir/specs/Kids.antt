-- What hangs under a line, by its count and its flag number.
use Rattle.std.specs.Prelude.{List, ◌++◌, true, false, ℕ, ◌+◌, ◌-◌, ◌*◌, ◌/◌, ◌%◌, replicate, eqb}
use Rattle.semantics.specs.Codes.{expression_rank}
use Rattle.semantics.specs.Sheet.{Place, expression_place, Role, plain, condition, answer, inner, Shape, nothing, one, two, bounds, arms, times, times_then, around, one_then, one_times, Want, at}

abbrev pub role_place : Role → Place
role_place plain = expression_place
role_place condition = expression_place
role_place answer = expression_place
role_place (inner q) = q

-- how many lines there are first, by the count and the number of bits, and where they belong
abbrev pub first_size : Shape → ℕ → ℕ → ℕ
first_size nothing c b = 0
first_size two c b = 2
first_size bounds c b = 1 + b
first_size arms c b = 2 * c + b
first_size (one p) c b = 1
first_size (times i p) c b = c
first_size (times_then i p j) c b = c
first_size (around p j) c b = elim p [ plain ↦ 2 + b | condition ↦ 2 + b | answer ↦ 2 + b | inner q ↦ 1 ]
first_size (one_then j) c b = 1 + b
first_size (one_times i p) c b = 1

abbrev pub first_spot : Shape → Place
first_spot nothing = expression_place
first_spot two = expression_place
first_spot bounds = expression_place
first_spot arms = expression_place
first_spot (one p) = role_place p
first_spot (times i p) = role_place p
first_spot (times_then i p j) = role_place p
first_spot (around p j) = role_place p
first_spot (one_then j) = expression_place
first_spot (one_times i p) = expression_place

-- and behind those
abbrev pub second_size : Shape → ℕ → ℕ → ℕ
second_size nothing c b = 0
second_size two c b = 0
second_size bounds c b = 0
second_size arms c b = 0
second_size (one p) c b = 0
second_size (times i p) c b = 0
second_size (times_then i p j) c b = b
second_size (around p j) c b = elim p [ plain ↦ 0 | condition ↦ 0 | answer ↦ 0 | inner q ↦ 1 + b ]
second_size (one_then j) c b = 0
second_size (one_times i p) c b = c

abbrev pub second_spot : Shape → Place
second_spot nothing = expression_place
second_spot two = expression_place
second_spot bounds = expression_place
second_spot arms = expression_place
second_spot (one p) = expression_place
second_spot (times i p) = expression_place
second_spot (times_then i p j) = expression_place
second_spot (around p j) = expression_place
second_spot (one_then j) = expression_place
second_spot (one_times i p) = role_place p

-- the bits of a flag number
abbrev pub bits : ℕ → ℕ
bits f = f % 2 + f / 2

-- two groups of children at a depth
abbrev pub two_groups : ℕ → Want → ℕ → Want → List Want
two_groups n a m b = replicate n a ++ replicate m b

unfoldable pub kid_wants : Shape → ℕ → ℕ → ℕ → List Want
kid_wants u c f d = two_groups (first_size u c (bits f)) (at (first_spot u) d) (second_size u c (bits f)) (at (second_spot u) d)

-- how far a place is from what holds no other: falls from a line to the lines under it, but for expressions
unfoldable pub level : ℕ → ℕ
level c = elim (eqb c expression_rank) [ true ↦ expression_rank | false ↦ elim (eqb c 7) [ true ↦ 0 | false ↦ 12 - c ] ]
