-- Corners of the running form, by computation.
use mathlib.Core.Path.{◌≡◌, refl}
use mathlib.Core.List.{List, [], ◌∷◌}
use mathlib.Core.Option.{Option, some}
use mathlib.Core.Bool.{false}
use Prim.Native.Nat.{ℕ, suc, zero}
use lib.ListN.{replicate}
use Rattle.semantics.specs.Bytes.{lex, same, hex}
use Rattle.semantics.specs.Ty.{t_any, t_null, t_bool, t_int, t_string, t_unknown, Ty, base, t_list, t_map, t_union, ∅, ◌⊕◌, ∅ᶠ, field, members, pack, letter, among, matches, name_to, names_to, labels_to, rel_to, line_to, line, order, equal, nesting, too_large, insert, inserts, opened, gather, joined, unite, firsts, set_field, get_field}
use Rattle.semantics.specs.Unify.{on_agreed, tested, extras, unify_maps, variants_with, widened, meeting, pair, arms, unify_in, unify}
use Rattle.semantics.specs.Calls.{any_large}
use Rattle.unify_run.specs.Run.{Run, done, mismatch, large, verdict, checked, long, attach, kept, keep, close_map, run_rest, run_entry, run_maps, fitting, add, widen, join, run_variants, met_by, run_members, sizes, nullable, run_pair, run_arms, run_unify, run}

-- the run, the definition's verdict and one outer type's part with all that they compute by open
unfoldable ran : Ty → Ty → Run
unfolding lex same hex members pack letter among matches name_to names_to labels_to rel_to line_to line order equal nesting too_large insert inserts opened gather joined checked long attach kept keep close_map run_rest run_entry run_maps fitting add widen join run_variants met_by run_members sizes nullable meeting run_pair run_arms run_unify run
ran a b = run a b

unfoldable said : Ty → Ty → Run
unfolding ran verdict any_large unite firsts set_field get_field on_agreed tested extras unify_maps variants_with widened meeting pair arms unify_in unify
said a b = verdict (unify a b)

unfoldable variants : List Ty → Ty → List Ty → Option (List Ty)
unfolding ran
variants all o vs = run_variants ran all o vs false []

null_bool : Ty
null_bool = t_union (base t_null ⊕ base t_bool ⊕ ∅)

any_int : Ty
any_int = t_union (base t_any ⊕ base t_int ⊕ ∅)

-- an outer Null joins the variants and keeps Any
null-joins : (ran null_bool any_int ≡ done (t_union (base t_any ⊕ base t_null ⊕ base t_bool ⊕ base t_int ⊕ ∅))) × (said null_bool any_int ≡ ran null_bool any_int)
unfolding ran said null_bool any_int
null-joins = (refl, refl)

-- if it met them, Any would be lost
null-met : variants (base t_any ∷ base t_int ∷ []) (base t_null) (base t_any ∷ base t_int ∷ []) ≡ some (base t_null ∷ base t_int ∷ [])
unfolding ran variants
null-met = refl

-- the union of no types is Unknown, and adds it
unite-none : gather (unite [] ∷ []) [] ≡ base t_unknown ∷ []
unfolding said
unite-none = refl

-- lists of lists
deep : ℕ → Ty
deep zero = base t_int
deep (suc n) = t_list (deep n)

-- an operand is not tested again: one that is too large would pass
operand-passes : (ran (base t_any) (deep 32) ≡ done (deep 32)) × (said (base t_any) (deep 32) ≡ large)
unfolding ran said deep
operand-passes = (refl, refl)

-- two maps whose merge is over before their common name, which is a mismatch
first_map : Ty
first_map = t_map (field (replicate 510 1) (base t_int) (field (3 ∷ 3 ∷ []) (base t_bool) ∅ᶠ))

second_map : Ty
second_map = t_map (field (replicate 510 2) (base t_int) (field (3 ∷ 3 ∷ []) (base t_string) ∅ᶠ))

over-and-mismatch : (ran first_map second_map ≡ mismatch (base t_bool) (base t_string)) × (said first_map second_map ≡ ran first_map second_map)
unfolding ran said first_map second_map
over-and-mismatch = (refl, refl)
