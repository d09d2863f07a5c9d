-- What the code's words, places, shapes of fields, and forms of what hangs below a line stand for. Made by tools/line_table.py.
use Rattle.semantics.specs.Sheet.{Word, cyrs_word, b_word, end_word, mat_word, cre_word, mer_word, whe_word, wit_word, ret_word, unw_word, set_word, rem_word, del_word, cal_word, pro_word, sp_word, sl_word, sm_word, rp_word, rl_word, lab_word, parts_word, part_word, nod_word, rel_word, null_word, bool_word, int_word, flt_word, str_word, var_word, par_word, unr_word, exi_word, prop_word, idx_word, sli_word, lis_word, map_word, key_word, call_word, bin_word, una_word, case_word, isn_word, in_word, pat_word, lcp_word, pcp_word, lpr_word, mpr_word, cop_word, com_word, sho_word, ali_word, Place, first_place, binding_place, clause_place, end_place, projection_place, set_item_place, remove_item_place, label_place, parts_place, part_place, element_place, entry_place, item_place, expression_place, Field, range, variable, optional, name, alias, bound, letter, signed, float, Role, plain, inner, Shape, nothing, one, two, bounds, arms, times, times_then, around, one_then, one_times}
use Rattle.line.specs.declared.words.Word.{Word as Coded}
use Rattle.line.specs.declared.words.Word.TheVariants.{Cyrs, B, End, Mat, Cre, Mer, Whe, Wit, Ret, Unw, Set, Rem, Del, Cal, Pro, Sp, Sl, Sm, Rp, Rl, Lab, Parts, Part, Nod, Rel, Null, Bool, Int, Flt, Str, Var, Par, Unr, Exi, Prop, Idx, Sli, Lis, Map, Key, Call, Bin, Una, Case, Isn, In, Pat, Lcp, Pcp, Lpr, Mpr, Cop, Com, Sho, Ali}
use Rattle.line.specs.declared.places.Place.{Place as Spot}
use Rattle.line.specs.declared.places.Place.TheVariants.{First, Binding, Clause, End, Projection, SetItem, RemoveItem, Label, Parts, Part, Element, Entry, Item, Expression}
use Rattle.line.specs.declared.shapes.Shape.{Shape as Form}
use Rattle.line.specs.declared.shapes.Shape.TheVariants.{Range, Variable, Optional, Name, Alias, Bound, Letter, Signed, Float}
use Rattle.line.specs.declared.rows.Under.{Under}
use Rattle.line.specs.declared.rows.Under.TheVariants.{Nothing, Two, Bounds, Arms, One, Times, TimesThen, Around, OneThen, OneTimes}

abbrev pub word_of : Coded → Word
word_of Cyrs = cyrs_word
word_of B = b_word
word_of End = end_word
word_of Mat = mat_word
word_of Cre = cre_word
word_of Mer = mer_word
word_of Whe = whe_word
word_of Wit = wit_word
word_of Ret = ret_word
word_of Unw = unw_word
word_of Set = set_word
word_of Rem = rem_word
word_of Del = del_word
word_of Cal = cal_word
word_of Pro = pro_word
word_of Sp = sp_word
word_of Sl = sl_word
word_of Sm = sm_word
word_of Rp = rp_word
word_of Rl = rl_word
word_of Lab = lab_word
word_of Parts = parts_word
word_of Part = part_word
word_of Nod = nod_word
word_of Rel = rel_word
word_of Null = null_word
word_of Bool = bool_word
word_of Int = int_word
word_of Flt = flt_word
word_of Str = str_word
word_of Var = var_word
word_of Par = par_word
word_of Unr = unr_word
word_of Exi = exi_word
word_of Prop = prop_word
word_of Idx = idx_word
word_of Sli = sli_word
word_of Lis = lis_word
word_of Map = map_word
word_of Key = key_word
word_of Call = call_word
word_of Bin = bin_word
word_of Una = una_word
word_of Case = case_word
word_of Isn = isn_word
word_of In = in_word
word_of Pat = pat_word
word_of Lcp = lcp_word
word_of Pcp = pcp_word
word_of Lpr = lpr_word
word_of Mpr = mpr_word
word_of Cop = cop_word
word_of Com = com_word
word_of Sho = sho_word
word_of Ali = ali_word

abbrev pub place_of : Spot → Place
place_of First = first_place
place_of Binding = binding_place
place_of Clause = clause_place
place_of End = end_place
place_of Projection = projection_place
place_of SetItem = set_item_place
place_of RemoveItem = remove_item_place
place_of Label = label_place
place_of Parts = parts_place
place_of Part = part_place
place_of Element = element_place
place_of Entry = entry_place
place_of Item = item_place
place_of Expression = expression_place

abbrev pub field_of : Form → Field
field_of (Range l m) = range l m
field_of Variable = variable
field_of Optional = optional
field_of Name = name
field_of Alias = alias
field_of Bound = bound
field_of Letter = letter
field_of Signed = signed
field_of Float = float

-- an expression whose type is not asked for, or a line of another place
abbrev pub role_of : Spot → Role
role_of First = inner first_place
role_of Binding = inner binding_place
role_of Clause = inner clause_place
role_of End = inner end_place
role_of Projection = inner projection_place
role_of SetItem = inner set_item_place
role_of RemoveItem = inner remove_item_place
role_of Label = inner label_place
role_of Parts = inner parts_place
role_of Part = inner part_place
role_of Element = inner element_place
role_of Entry = inner entry_place
role_of Item = inner item_place
role_of Expression = plain

abbrev pub under_of : Under → Shape
under_of Nothing = nothing
under_of Two = two
under_of Bounds = bounds
under_of Arms = arms
under_of (One p) = one (role_of p)
under_of (Times i p) = times i (role_of p)
under_of (TimesThen i p j) = times_then i (role_of p) j
under_of (Around p j) = around (role_of p) j
under_of (OneThen j) = one_then j
under_of (OneTimes i p) = one_times i (role_of p)
