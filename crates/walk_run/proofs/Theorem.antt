-- A line as the code runs it comes to what the definition says: the first test that is too large, or type and faults. Assumes nothing.
use mathlib.Core.Path.{◌≡◌, refl, sym, ◌∙◌, ap}
use mathlib.Core.List.{List}
use Prim.Native.Nat.{ℕ}
use mathlib.Core.Bool.{false}
use lib.ListN.{length}
use Rattle.semantics.specs.Ty.{Ty, too_large}
use Rattle.semantics.specs.Sheet.{Head, Role, Typing, constant, var_type, element, slice, listing, mapping, calling, operator, unary, casing, membership, comprehension, Rule, rule, roles, arity}
use Rattle.semantics.specs.Walk.{Res, Env, step}
use Rattle.semantics.proofs.Words.{Simple, a_base, a_map, row-simple}
use Rattle.semantics.proofs.All.{All}
use Rattle.unify_run.proofs.UnionsMeet.{base-small}
use Rattle.walk_run.specs.Run.{run_step, judged}
use Rattle.walk_run.specs.Claims.{RunningWalk}
use Rattle.walk_run.proofs.Fine.{FineRes, step_by_lem, walk_fine}
use Rattle.walk_run.proofs.LevelsWalk.{walk-levels, walk-nesting}
use Rattle.walk_run.proofs.Quiet.{Said}
use Rattle.walk_run.proofs.Firsts.{constant-run, variable-run, element-run, slice-run, calling-run, unary-run}
use Rattle.walk_run.proofs.Pairs.{operator-run, membership-run}
use Rattle.walk_run.proofs.Literals.{map-tiny, comprehension-run, listing-run, mapping-run}
use Rattle.walk_run.proofs.Casing.{casing-run}

-- ## The constants of the table are not too large

abbrev pub TinyTyping : Typing → Type 0
TinyTyping k = (t : Ty) → k ≡ constant t → too_large t ≡ false

simple-tiny : {t : Ty} → Simple t → too_large t ≡ false
simple-tiny (a_base b) = base-small b
simple-tiny a_map = map-tiny

-- ## A line of any typing, whatever its roles

pub typing-run : (q : Typing) → TinyTyping q → (env : Env) (n : ℕ) (h : Head) (ps : List Role) (rs : List Res) → All FineRes rs → length ps ≡ length rs → Said q env n h ps rs
typing-run (constant t) c env n h ps rs a l = constant-run env n h ps t (c t refl) rs l
typing-run var_type c env n h ps rs a l = variable-run env n h ps rs l
typing-run element c env n h ps rs a l = element-run env n h ps rs a l
typing-run slice c env n h ps rs a l = slice-run env n h ps rs a l
typing-run listing c env n h ps rs a l = listing-run env n h ps rs l
typing-run mapping c env n h ps rs a l = mapping-run env n h ps rs l
typing-run calling c env n h ps rs a l = calling-run env n h ps rs a l
typing-run operator c env n h ps rs a l = operator-run env n h ps rs a l
typing-run unary c env n h ps rs a l = unary-run env n h ps rs a l
typing-run casing c env n h ps rs a l = casing-run env n h ps rs l
typing-run membership c env n h ps rs a l = membership-run env n h ps rs l
typing-run comprehension c env n h ps rs a l = comprehension-run env n h ps rs l

-- a line over its children, as the definition has it and as the code runs it
pub step_run : (env : Env) (n : ℕ) (h : Head) (q : Typing) → rule h ≡ Rule.typed q → (rs : List Res) → All FineRes rs → length rs ≡ arity h → judged (step env n h rs) ≡ run_step env n q h (roles h) rs
unfolding arity
step_run env n h q e rs a l = ap judged (step_by_lem env n h (Rule.typed q) e rs) ∙ typing-run q (λ t d. simple-tiny (row-simple h.word t (e ∙ ap Rule.typed d))) env n h (roles h) rs a (sym l)

pub running-walk : RunningWalk
running-walk = record { steps = step_run; fine = walk_fine; low = walk-levels; nests = walk-nesting }
