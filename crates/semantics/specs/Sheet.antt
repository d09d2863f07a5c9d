-- A sheet: its words, a line read as a head, a sheet read as the list of its heads, or refused with 3, 4 or 5 (RULES 2, 7.4, 7.5).
use Rattle.std.specs.Prelude.{List, [], ◌∷◌, ◌++◌, map, Bool, true, false, cond, ◌&&◌, ℕ, suc, zero, ◌+◌, ◌*◌, ◌-◌, ◌/◌, ◌%◌, length, get_or, replicate, eqb, ltb, leb}
use Rattle.std.proofs.Math.Option.{Option, none, some}
use Prim.Native.String.{String}
use Rattle.semantics.specs.Limits.{name_limit, count_limit, variable_limit, bound_limit, signed_shift}
use Rattle.semantics.specs.Codes.{line_feed, comma, dash, float_digits, node_byte, relationship_byte, path_byte, value_byte, node_kind, relationship_kind, path_kind, value_kind, first_rank, binding_rank, clause_rank, end_rank, expression_rank, badly_written, out_of_range, too_deep}
use Rattle.semantics.specs.Bytes.{Bytes, text, same, split, decimal, unhex}
use Rattle.semantics.specs.Ty.{t_any, t_null, t_bool, t_int, t_float, t_string, t_unknown, Ty, base, t_map, ∅ᶠ}

-- the words of the lines
pub data Word : Type 0 where
  cyrs_word b_word end_word mat_word cre_word mer_word whe_word wit_word ret_word unw_word set_word rem_word del_word cal_word : Word
  pro_word sp_word sl_word sm_word rp_word rl_word lab_word parts_word part_word nod_word rel_word : Word
  null_word bool_word int_word flt_word str_word var_word par_word unr_word exi_word : Word
  prop_word idx_word sli_word lis_word map_word key_word call_word bin_word una_word case_word isn_word in_word pat_word lcp_word pcp_word lpr_word mpr_word cop_word com_word sho_word ali_word : Word

-- a line's fields: a number of a range, V, V or `-`, a name, a name or `-`, a bound or `-`, the letter of a binding, a signed number,
-- the digits of a float
pub data Field : Type 0 where
  range : ℕ → ℕ → Field
  variable optional name alias bound letter signed float : Field

abbrev pub upto : ℕ → Field
upto m = range 0 m

abbrev pub count : Field
count = upto count_limit

-- where a word may stand
pub data Place : Type 0 where
  first_place binding_place clause_place end_place projection_place set_item_place remove_item_place label_place parts_place part_place element_place entry_place item_place expression_place : Place

-- what hangs directly under a line, in order: an expression; one that must be a Bool; one whose type counts for the answer; a line of
-- another place
pub data Role : Type 0 where
  plain condition answer : Role
  inner : Place → Role

-- how an expression's type comes about (the arms of `infer_expr`)
pub data Typing : Type 0 where
  constant : Ty → Typing
  var_type element slice listing mapping calling operator unary casing membership comprehension : Typing

-- a line has no type; or passes its expression's on under its name; or is an expression
pub data Rule : Type 0 where
  silent entering : Rule
  typed : Typing → Rule

-- what hangs under a line, as a form that its numbers fill (`kids` below): nothing; one of a role; two expressions; a role as often as the
-- number at i says; likewise, and then an expression by the bit at j; a first child, a condition by the bit at j, and an expression; an
-- expression, and one more by the bit at j; an expression, and a role as often as the number at i says; a list and its bounds; the arms of a CASE
pub data Shape : Type 0 where
  nothing two bounds arms : Shape
  one : Role → Shape
  times : ℕ → Role → Shape
  times_then : ℕ → Role → ℕ → Shape
  around : Role → ℕ → Shape
  one_then : ℕ → Shape
  one_times : ℕ → Role → Shape

-- all that sets a word apart: its spelling, where it may stand, its fields, what hangs under it by its numbers, its rule
pub record Row : Type 0 where
  pub spelled : String
  pub place : Place
  pub fields : List Field
  pub under : Shape
  pub rule : Rule

-- a line as read: its word, its variable, its numbers in order, its name. Each line has one variable and one name at most; no name is
-- the empty one. An alias is the number 1 and its name, or 0; a bound is one more than itself, or 0; a signed number is shifted
pub record Head : Type 0 where
  pub word : Word
  pub var : Option ℕ
  pub nums : List ℕ
  pub name : Bytes

abbrev pub num : Head → ℕ → ℕ
num h i = get_or h.nums i 0

-- flag numbers: the lowest bit, the next
abbrev pub low : ℕ → ℕ
low f = f % 2

abbrev pub high : ℕ → ℕ
high f = f / 2

-- what is there n times, n being a bit
abbrev pub present : ℕ → Role → List Role → List Role
present zero p r = r
present (suc n) p r = p ∷ r

unfoldable pub arm_roles : Role → ℕ → List Role → List Role
arm_roles c zero r = r
arm_roles c (suc n) r = c ∷ answer ∷ arm_roles c n r

-- CASE: a condition must be a Bool where there is no scrutinee
abbrev pub case_roles : List ℕ → List Role
case_roles ns =
    let f = get_or ns 0 0 in
    present (low f) plain (arm_roles (cond (eqb (low f) 0) condition plain) (get_or ns 1 0) (present (high f) answer []))

abbrev pub slice_roles : List ℕ → List Role
slice_roles ns = let f = get_or ns 0 0 in plain ∷ present (low f) plain (present (high f) plain [])

-- the children of a shape, by the numbers of their line
abbrev pub kids : Shape → List ℕ → List Role
kids nothing ns = []
kids two ns = plain ∷ plain ∷ []
kids bounds ns = slice_roles ns
kids arms ns = case_roles ns
kids (one p) ns = p ∷ []
kids (times i p) ns = replicate (get_or ns i 0) p
kids (times_then i p j) ns = replicate (get_or ns i 0) p ++ present (get_or ns j 0) plain []
kids (around p j) ns = p ∷ present (get_or ns j 0) condition (plain ∷ [])
kids (one_then j) ns = plain ∷ present (get_or ns j 0) plain []
kids (one_times i p) ns = plain ∷ replicate (get_or ns i 0) p

abbrev pub line : String → Place → List Field → Shape → Rule → Row
line s p fs u r = record { spelled = s; place = p; fields = fs; under = u; rule = r }

-- an expression line
abbrev pub expr : String → List Field → Shape → Typing → Row
expr s fs u t = line s expression_place fs u (typed t)

-- THE TABLE: a row for each word
unfoldable pub row : Word → Row
row cyrs_word = line "cyrs" first_place (range 1 1 ∷ []) nothing silent
row b_word = line "b" binding_place (variable ∷ letter ∷ []) nothing silent
row end_word = line "end" end_place [] nothing silent
row mat_word = line "mat" clause_place (upto 1 ∷ []) (one (inner parts_place)) silent
row cre_word = line "cre" clause_place [] (one (inner parts_place)) silent
row mer_word = line "mer" clause_place [] (one (inner parts_place)) silent
row whe_word = line "whe" clause_place [] (one plain) silent
row wit_word = line "wit" clause_place (upto 1 ∷ count ∷ []) (times_then 1 (inner projection_place) 0) silent
row ret_word = line "ret" clause_place (upto 1 ∷ count ∷ []) (times 1 (inner projection_place)) silent
row unw_word = line "unw" clause_place (variable ∷ []) (one plain) silent
row set_word = line "set" clause_place (count ∷ []) (times 0 (inner set_item_place)) silent
row rem_word = line "rem" clause_place (count ∷ []) (times 0 (inner remove_item_place)) silent
row del_word = line "del" clause_place (upto 1 ∷ count ∷ []) (times 1 plain) silent
row cal_word = line "cal" clause_place (name ∷ upto 1 ∷ count ∷ []) (times 1 plain) silent
row pro_word = line "pro" projection_place (alias ∷ []) (one plain) silent
row sp_word = line "sp" set_item_place (name ∷ []) two silent
row sl_word = line "sl" set_item_place (variable ∷ count ∷ []) (times 0 (inner label_place)) silent
row sm_word = line "sm" set_item_place (variable ∷ upto 1 ∷ []) (one plain) silent
row rp_word = line "rp" remove_item_place (name ∷ []) (one plain) silent
row rl_word = line "rl" remove_item_place (variable ∷ count ∷ []) (times 0 (inner label_place)) silent
row lab_word = line "lab" label_place (name ∷ []) nothing silent
row parts_word = line "parts" parts_place (count ∷ []) (times 0 (inner part_place)) silent
row part_word = line "part" part_place (optional ∷ upto 2 ∷ count ∷ []) (times 1 (inner element_place)) silent
row nod_word = line "nod" element_place (optional ∷ upto 1 ∷ count ∷ []) (times_then 1 (inner label_place) 0) silent
row rel_word = line "rel" element_place (optional ∷ upto 2 ∷ upto 1 ∷ bound ∷ bound ∷ upto 1 ∷ count ∷ []) (times_then 5 (inner label_place) 4) silent
row null_word = expr "null" [] nothing (constant (base t_null))
row bool_word = expr "bool" (upto 1 ∷ []) nothing (constant (base t_bool))
row int_word = expr "int" (signed ∷ []) nothing (constant (base t_int))
row flt_word = expr "flt" (float ∷ []) nothing (constant (base t_float))
row str_word = expr "str" (name ∷ []) nothing (constant (base t_string))
row var_word = expr "var" (variable ∷ []) nothing var_type
row par_word = expr "par" (name ∷ []) nothing (constant (base t_any))
row unr_word = expr "unr" (name ∷ []) nothing (constant (base t_unknown))
row exi_word = expr "exi" [] nothing (constant (base t_unknown))
row prop_word = expr "prop" (name ∷ []) (one plain) (constant (base t_any))
row idx_word = expr "idx" [] two element
row sli_word = expr "sli" (upto 3 ∷ []) bounds slice
row lis_word = expr "lis" (count ∷ []) (times 0 plain) listing
row map_word = expr "map" (count ∷ []) (times 0 (inner entry_place)) mapping
row key_word = line "key" entry_place (name ∷ []) (one plain) entering
row call_word = expr "call" (name ∷ upto 1 ∷ count ∷ []) (times 1 plain) calling
row bin_word = expr "bin" (upto 19 ∷ []) two operator
row una_word = expr "una" (upto 1 ∷ []) (one plain) unary
row case_word = expr "case" (upto 3 ∷ count ∷ []) arms casing
row isn_word = expr "isn" (upto 1 ∷ []) (one plain) (constant (base t_bool))
row in_word = expr "in" [] two membership
row pat_word = expr "pat" [] (one (inner parts_place)) (constant (base t_bool))
row lcp_word = expr "lcp" (variable ∷ upto 1 ∷ []) (around plain 0) comprehension
row pcp_word = expr "pcp" (upto 1 ∷ []) (around (inner parts_place) 0) comprehension
row lpr_word = expr "lpr" (upto 3 ∷ variable ∷ upto 1 ∷ []) (one_then 1) (constant (base t_bool))
row mpr_word = expr "mpr" (count ∷ []) (one_times 0 (inner item_place)) (constant (t_map ∅ᶠ))
row cop_word = line "cop" item_place (name ∷ []) nothing silent
row com_word = line "com" item_place (name ∷ []) (one plain) silent
row sho_word = line "sho" item_place (variable ∷ name ∷ []) nothing silent
row ali_word = line "ali" item_place (name ∷ []) (one plain) silent

-- every word once; their order decides nothing
abbrev pub words : List Word
words =
    int_word ∷ str_word ∷ var_word ∷ prop_word ∷ bin_word ∷ null_word ∷ bool_word ∷ flt_word ∷ pro_word ∷ key_word ∷ lis_word ∷ map_word ∷ case_word ∷ call_word ∷ par_word ∷ unr_word ∷ exi_word ∷ idx_word ∷ sli_word ∷ una_word ∷ isn_word ∷ in_word ∷ pat_word ∷ lcp_word ∷ pcp_word ∷ lpr_word ∷ mpr_word ∷ cop_word ∷ com_word
    ∷ sho_word ∷ ali_word ∷ lab_word ∷ parts_word ∷ part_word ∷ nod_word ∷ rel_word ∷ b_word ∷ cyrs_word ∷ end_word ∷ mat_word ∷ cre_word ∷ mer_word ∷ whe_word ∷ wit_word ∷ ret_word ∷ unw_word ∷ set_word ∷ rem_word ∷ del_word ∷ cal_word ∷ sp_word ∷ sl_word ∷ sm_word ∷ rp_word ∷ rl_word ∷ []

abbrev pub rule : Head → Rule
rule h = (row h.word).rule

abbrev pub place : Head → Place
place h = (row h.word).place

unfoldable pub roles : Head → List Role
roles h = kids (row h.word).under h.nums

unfoldable pub arity : Head → ℕ
arity h = length (roles h)

unfoldable pub word_in : Bytes → List Word → Option Word
word_in w [] = none
word_in w (v ∷ vs) = elim (same w (text (row v).spelled)) [ true ↦ some v | false ↦ word_in w vs ]

-- ## A field

-- a field as read: refused by its cause, a number, a variable or none, a name, an alias
pub data Value : Type 0 where
  wrong : ℕ → Value
  number : ℕ → Value
  variable_v : Option ℕ → Value
  name_v alias_v : Bytes → Value

abbrev pub is_dash : Bytes → Bool
is_dash s = same s (dash ∷ [])

-- a number of a range: well written and outside it is 4
unfoldable pub within : ℕ → ℕ → Option ℕ → (ℕ → Value) → Value
within l m none f = wrong badly_written
within l m (some n) f = elim (leb l n && leb n m) [ true ↦ f n | false ↦ wrong out_of_range ]

-- a name: two digits a byte; too long is 4
unfoldable pub named : Option Bytes → (Bytes → Value) → Value
named none f = wrong badly_written
named (some ds) f = elim (eqb (length ds % 2) 0) [ true ↦ elim (leb (length ds) (2 * name_limit)) [ true ↦ f ds | false ↦ wrong out_of_range ] | false ↦ wrong badly_written ]

-- the letter of a binding as a number: N 0, R 1, P 2, V 3
unfoldable pub lettered : Bytes → Value
lettered [] = wrong badly_written
lettered (c ∷ []) =
    elim (eqb c node_byte) [
      | true ↦ number node_kind
      | false ↦ elim (eqb c relationship_byte) [ true ↦ number relationship_kind | false ↦ elim (eqb c path_byte) [ true ↦ number path_kind | false ↦ elim (eqb c value_byte) [ true ↦ number value_kind | false ↦ wrong badly_written ] ] ]
    ]
lettered (c ∷ d ∷ cs) = wrong badly_written

-- a signed number, never `-0`, shifted so that the least is 0
unfoldable pub signed_of : Bytes → Value
signed_of [] = wrong badly_written
signed_of (c ∷ cs) =
    elim (eqb c dash) [
      | true ↦ within 0 signed_shift (decimal cs) (λ n. elim (eqb n 0) [ true ↦ wrong badly_written | false ↦ number (signed_shift - n) ])
      | false ↦ within 0 (signed_shift - 1) (decimal (c ∷ cs)) (λ n. number (signed_shift + n))
    ]

unfoldable pub float_of : Option Bytes → Value
float_of none = wrong badly_written
float_of (some ds) = elim (eqb (length ds) float_digits) [ true ↦ name_v ds | false ↦ wrong badly_written ]

-- a bound: with L 0, which is the second number of its line, only `-`
unfoldable pub bound_of : ℕ → Bytes → Value
bound_of l s =
    elim (is_dash s) [
      | true ↦ number 0
      | false ↦ elim (eqb l 0) [ true ↦ wrong badly_written | false ↦ within 0 bound_limit (decimal s) (λ n. number (suc n)) ]
    ]

-- a field, after the numbers of its line so far
unfoldable pub value : Field → List ℕ → Bytes → Value
value (range l m) ns s = within l m (decimal s) number
value variable ns s = within 0 variable_limit (decimal s) (λ v. variable_v (some v))
value optional ns s = elim (is_dash s) [ true ↦ variable_v none | false ↦ within 0 variable_limit (decimal s) (λ v. variable_v (some v)) ]
value name ns s = named (unhex s) name_v
value alias ns s = elim (is_dash s) [ true ↦ number 0 | false ↦ named (unhex s) alias_v ]
value bound ns s = bound_of (get_or ns 1 0) s
value letter ns s = lettered s
value signed ns s = signed_of s
value float ns s = float_of (unhex s)

-- ## A line

-- a line as read: refused by its cause, or a head
pub data Read : Type 0 where
  bad : ℕ → Read
  ok : Head → Read

abbrev pub into : Head → Value → (Head → Read) → Read
into h (wrong c) f = bad c
into h (number n) f = f (record { word = h.word; var = h.var; nums = h.nums ++ (n ∷ []); name = h.name })
into h (variable_v v) f = f (record { word = h.word; var = v; nums = h.nums; name = h.name })
into h (name_v s) f = f (record { word = h.word; var = h.var; nums = h.nums; name = s })
into h (alias_v s) f = f (record { word = h.word; var = h.var; nums = h.nums ++ (1 ∷ []); name = s })

-- the fields left to right: the first that is refused decides; a wrong count is found before any field is read
unfoldable pub fill : Head → List Field → List Bytes → Read
fill h [] [] = ok h
fill h [] (x ∷ xs) = bad badly_written
fill h (f ∷ fs) [] = bad badly_written
fill h (f ∷ fs) (x ∷ xs) = into h (value f h.nums x) (λ k. fill k fs xs)

abbrev pub bare : Word → Head
bare w = record { word = w; var = none; nums = []; name = [] }

-- what is to come: the first line; a clause or the end; a binding of a variable of at least this, a clause or the end; a line of a
-- place; each with the levels left for an expression there, or under what stands there
pub data Want : Type 0 where
  first clauses : ℕ → Want
  bindings : ℕ → ℕ → Want
  at : Place → ℕ → Want

unfoldable pub rank : Place → ℕ
rank first_place = 0
rank binding_place = 1
rank clause_place = 2
rank end_place = 3
rank projection_place = 4
rank set_item_place = 5
rank remove_item_place = 6
rank label_place = 7
rank parts_place = 8
rank part_place = 9
rank element_place = 10
rank entry_place = 11
rank item_place = 12
rank expression_place = 13

unfoldable pub fits : Want → ℕ → Bool
fits (first d) p = eqb p first_rank
fits (bindings v d) p = leb binding_rank p && leb p end_rank
fits (clauses d) p = leb clause_rank p && leb p end_rank
fits (at q d) p = eqb p (rank q)

abbrev pub variable_of : Head → ℕ
variable_of h = elim h.var [ none ↦ 0 | some v ↦ v ]

-- what a line is refused for beyond its fields: a binding that does not ascend, the depth
unfoldable pub beyond : Want → Head → Read
beyond (first d) h = ok h
beyond (clauses d) h = ok h
beyond (bindings v d) h = elim (eqb (rank (place h)) binding_rank && ltb (variable_of h) v) [ true ↦ bad badly_written | false ↦ ok h ]
beyond (at q d) h = elim (eqb (rank q) expression_rank && eqb d 0) [ true ↦ bad too_deep | false ↦ ok h ]

abbrev pub and_then : Read → (Head → Read) → Read
and_then (bad c) f = bad c
and_then (ok h) f = f h

-- word allowed here and field count, then the fields, then what is beyond them
unfoldable pub read_fields : Want → Word → List Bytes → Read
read_fields w v fs = elim (fits w (rank (row v).place) && eqb (length fs) (length (row v).fields)) [ true ↦ and_then (fill (bare v) (row v).fields fs) (beyond w) | false ↦ bad badly_written ]

abbrev pub read_as : Want → Option Word → List Bytes → Read
read_as w none fs = bad badly_written
read_as w (some v) fs = read_fields w v fs

unfoldable pub read_pieces : Want → List Bytes → Read
read_pieces w [] = bad badly_written
read_pieces w (x ∷ fs) = read_as w (word_in x words) fs

unfoldable pub read_line : Want → Bytes → Read
read_line w l = read_pieces w (split comma l)

-- ## A sheet

-- the levels left for the expressions under a line: one less under an expression, the same under any other
abbrev pub deeper : Want → ℕ
deeper (first d) = d
deeper (clauses d) = d
deeper (bindings v d) = d
deeper (at q d) = cond (eqb (rank q) expression_rank) (d - 1) d

abbrev pub wanted : ℕ → Role → Want
wanted d plain = at expression_place d
wanted d condition = at expression_place d
wanted d answer = at expression_place d
wanted d (inner p) = at p d

-- what follows a line where it stands, after all that hangs under it
unfoldable pub after : ℕ → Head → List Want
after d h =
    let p = rank (place h) in
    elim (eqb p first_rank) [ true ↦ bindings 0 d ∷ [] | false ↦ elim (eqb p binding_rank) [ true ↦ bindings (suc (variable_of h)) d ∷ [] | false ↦ elim (eqb p clause_rank) [ true ↦ clauses d ∷ [] | false ↦ [] ] ] ]

unfoldable pub under : Want → Head → List Want
under w h = map (wanted (deeper w)) (roles h) ++ after (deeper w) h

-- a sheet as read: refused by a cause at a line, or its heads
pub data Sheet : Type 0 where
  refused : ℕ → ℕ → Sheet
  heads : List Head → Sheet

unfoldable pub add : Head → Sheet → Sheet
add h (refused c n) = refused c n
add h (heads hs) = heads (h ∷ hs)

unfoldable pub carry : ℕ → Read → (Head → Sheet) → Sheet
carry n (bad c) rest = refused c n
carry n (ok h) rest = add h (rest h)

-- the lines from line n on, against what is to come; the last piece is what stands after the last LF, and no whole line
unfoldable pub check : List Want → ℕ → List Bytes → Sheet
check ws n [] = refused badly_written n
check [] n ([] ∷ []) = heads []
check [] n ((c ∷ cs) ∷ []) = refused badly_written n
check [] n (l ∷ l' ∷ ls) = refused badly_written n
check (w ∷ ws) n (l ∷ []) = refused badly_written n
check (w ∷ ws) n (l ∷ l' ∷ ls) = carry n (read_line w l) (λ h. check (under w h ++ ws) (suc n) (l' ∷ ls))

-- a sheet whose expressions may stand at most d levels deep
unfoldable pub sheet : ℕ → Bytes → Sheet
sheet d s = check (first d ∷ []) 1 (split line_feed s)
