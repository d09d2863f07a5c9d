-- Names for bytes, for the ranks of places, for the kinds of bindings and for what a line is refused for (RULES 2).
use Rattle.std.specs.Prelude.{ℕ}

-- ## Bytes: what ends a line and a field, a minus or nothing, nothing or the end of a list, something

abbrev pub line_feed : ℕ
line_feed = 10

abbrev pub comma : ℕ
comma = 44

abbrev pub dash : ℕ
dash = 45

abbrev pub close_mark : ℕ
close_mark = 33

abbrev pub open_mark : ℕ
open_mark = 43

-- digits, and the letters among hexadecimal digits: `a` stands for ten
abbrev pub digit_zero : ℕ
digit_zero = 48

abbrev pub digit_nine : ℕ
digit_nine = 57

abbrev pub small_a : ℕ
small_a = 97

abbrev pub small_f : ℕ
small_f = 102

abbrev pub small_a_minus_ten : ℕ
small_a_minus_ten = 87

-- capital letters, and how far the small ones stand behind them
abbrev pub capital_a : ℕ
capital_a = 65

abbrev pub capital_z : ℕ
capital_z = 90

abbrev pub case_distance : ℕ
case_distance = 32

-- digits of the largest number that is shown, and of a float
abbrev pub decimal_digits : ℕ
decimal_digits = 20

abbrev pub float_digits : ℕ
float_digits = 16

-- ## Letters of types, in the order of `Type`

abbrev pub any_letter : ℕ
any_letter = 65

abbrev pub null_letter : ℕ
null_letter = 66

abbrev pub bool_letter : ℕ
bool_letter = 67

abbrev pub int_letter : ℕ
int_letter = 68

abbrev pub float_letter : ℕ
float_letter = 69

abbrev pub num_letter : ℕ
num_letter = 70

abbrev pub string_letter : ℕ
string_letter = 71

abbrev pub date_letter : ℕ
date_letter = 72

abbrev pub datetime_letter : ℕ
datetime_letter = 73

abbrev pub list_letter : ℕ
list_letter = 74

abbrev pub map_letter : ℕ
map_letter = 75

abbrev pub node_letter : ℕ
node_letter = 76

abbrev pub relationship_letter : ℕ
relationship_letter = 77

abbrev pub path_letter : ℕ
path_letter = 78

abbrev pub union_letter : ℕ
union_letter = 79

abbrev pub unknown_letter : ℕ
unknown_letter = 80

-- letters that a line of the report starts with
abbrev pub fault_letter : ℕ
fault_letter = 70

abbrev pub type_letter : ℕ
type_letter = 84

-- ## Bindings: the letter of each kind, and the kind as a number (`VarKind` in order)

abbrev pub node_byte : ℕ
node_byte = 78

abbrev pub relationship_byte : ℕ
relationship_byte = 82

abbrev pub path_byte : ℕ
path_byte = 80

abbrev pub value_byte : ℕ
value_byte = 86

abbrev pub node_kind : ℕ
node_kind = 0

abbrev pub relationship_kind : ℕ
relationship_kind = 1

abbrev pub path_kind : ℕ
path_kind = 2

abbrev pub value_kind : ℕ
value_kind = 3

-- ## Ranks of the places that wants ask for, as `Sheet.rank` numbers them

abbrev pub first_rank : ℕ
first_rank = 0

abbrev pub binding_rank : ℕ
binding_rank = 1

abbrev pub clause_rank : ℕ
clause_rank = 2

abbrev pub end_rank : ℕ
end_rank = 3

abbrev pub expression_rank : ℕ
expression_rank = 13

-- ## What a line is refused for: badly written or not allowed there, a field outside its range, no level left

abbrev pub badly_written : ℕ
badly_written = 3

abbrev pub out_of_range : ℕ
out_of_range = 4

abbrev pub too_deep : ℕ
too_deep = 5

-- what the calls are refused for beside that: a type too large, an output too short, a text that is no type line, two types apart
abbrev pub type_too_large : ℕ
type_too_large = 6

abbrev pub output_too_short : ℕ
output_too_short = 7

abbrev pub no_type_line : ℕ
no_type_line = 8

abbrev pub mismatched : ℕ
mismatched = 9

-- a sheet that is too long; what has not its size; a text that is no old type line; a store that is full; a count used up; a number that is not live
abbrev pub sheet_too_long : ℕ
sheet_too_long = 1

abbrev pub wrong_size : ℕ
wrong_size = 2

abbrev pub no_old_line : ℕ
no_old_line = 12

abbrev pub store_full : ℕ
store_full = 13

abbrev pub count_used_up : ℕ
count_used_up = 14

abbrev pub not_live : ℕ
not_live = 15
