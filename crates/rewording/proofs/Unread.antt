-- A line reworded where it stands comes to the very same, so literal values and unread names are seen nowhere.
use mathlib.Core.Path.{◌≡◌, refl, sym, ◌∙◌, ap}
use mathlib.Core.List.{List, ◌∷◌}
use mathlib.Core.Option.{Option, none, some}
use mathlib.Core.Bool.{true, false}
use mathlib.Core.Logic.{inl, inr}
use Prim.Native.Nat.{ℕ, suc, ◌≤◌}
use lib.ListN.{length, take, drop}
use lib.Dec.{eqb}
use borrow.Author.Tests.{le-ltb}
use Rattle.semantics.specs.Limits.{sheet_limit, depth_limit, work_size}
use Rattle.semantics.specs.Bytes.{Bytes}
use Rattle.semantics.specs.Builtins.{lookup, lookup_in, builtins}
use Rattle.semantics.specs.Sheet.{Head, num, place, row, rank, roles, arity, heads, sheet}
use Rattle.semantics.specs.Walk.{Res, Env, type_of, type_by, own, own_by, last_tests, last_by, label, tops_by, step, walk, bound, bound_by, env_of, results, all_tops, all_tests, typing}
use Rattle.semantics.specs.Calls.{Settled, untouched, settled, accepted, first_large, outcome, judged, limited, sheet_call}
use Rattle.rewording.specs.Reword.{a_bool, an_int, a_float, a_string, in_str, in_par, in_unr, in_prop, in_cop, in_com, in_sho, in_ali, in_lab, in_sp, in_rp, in_cal, SameFunction, Line, value, unread, alias, function, Each, no_more, more, Alike, same_line, other, Secrecy}

-- names of one function are looked up alike
pub same-function : (a b : Bytes) → SameFunction a b → lookup a ≡ lookup b
same-function a b (inl (p, q)) = p ∙ sym q
same-function a b (inr e) = unfold lookup in ap (λ s. lookup_in s builtins) e

-- ## One line

pub line-arity : {h k : Head} → Line h k → arity h ≡ arity k
unfolding arity roles row
line-arity (value a_bool ns ms a b) = refl
line-arity (value an_int ns ms a b) = refl
line-arity (value a_float ns ms a b) = refl
line-arity (value a_string ns ms a b) = refl
line-arity (unread in_str v ns a b) = refl
line-arity (unread in_par v ns a b) = refl
line-arity (unread in_unr v ns a b) = refl
line-arity (unread in_prop v ns a b) = refl
line-arity (unread in_cop v ns a b) = refl
line-arity (unread in_com v ns a b) = refl
line-arity (unread in_sho v ns a b) = refl
line-arity (unread in_ali v ns a b) = refl
line-arity (unread in_lab v ns a b) = refl
line-arity (unread in_sp v ns a b) = refl
line-arity (unread in_rp v ns a b) = refl
line-arity (unread in_cal v ns a b) = refl
line-arity (alias a b) = refl
line-arity (function ns a b e) = refl

pub line_step : {h k : Head} → Line h k → (env : Env) (n : ℕ) (rs : List Res) → step env n h rs ≡ step env n k rs
unfolding step roles row type_of type_by own own_by last_tests last_by label tops_by
line_step (value a_bool ns ms a b) env n rs = refl
line_step (value an_int ns ms a b) env n rs = refl
line_step (value a_float ns ms a b) env n rs = refl
line_step (value a_string ns ms a b) env n rs = refl
line_step (unread in_str v ns a b) env n rs = refl
line_step (unread in_par v ns a b) env n rs = refl
line_step (unread in_unr v ns a b) env n rs = refl
line_step (unread in_prop v ns a b) env n rs = refl
line_step (unread in_cop v ns a b) env n rs = refl
line_step (unread in_com v ns a b) env n rs = refl
line_step (unread in_sho v ns a b) env n rs = refl
line_step (unread in_ali v ns a b) env n rs = refl
line_step (unread in_lab v ns a b) env n rs = refl
line_step (unread in_sp v ns a b) env n rs = refl
line_step (unread in_rp v ns a b) env n rs = refl
line_step (unread in_cal v ns a b) env n rs = refl
line_step (alias a b) env n rs = refl
line_step (function ns a b e) env n rs = rw (same-function a b e)

-- no line that may be reworded is a `b` line or the first
pub line-bound : {h k : Head} → Line h k → (hs ks : List Head) → bound hs ≡ bound ks → bound (h ∷ hs) ≡ bound (k ∷ ks)
unfolding bound bound_by row rank
line-bound (value a_bool ns ms a b) hs ks e = refl
line-bound (value an_int ns ms a b) hs ks e = refl
line-bound (value a_float ns ms a b) hs ks e = refl
line-bound (value a_string ns ms a b) hs ks e = refl
line-bound (unread in_str v ns a b) hs ks e = refl
line-bound (unread in_par v ns a b) hs ks e = refl
line-bound (unread in_unr v ns a b) hs ks e = refl
line-bound (unread in_prop v ns a b) hs ks e = refl
line-bound (unread in_cop v ns a b) hs ks e = refl
line-bound (unread in_com v ns a b) hs ks e = refl
line-bound (unread in_sho v ns a b) hs ks e = refl
line-bound (unread in_ali v ns a b) hs ks e = refl
line-bound (unread in_lab v ns a b) hs ks e = refl
line-bound (unread in_sp v ns a b) hs ks e = refl
line-bound (unread in_rp v ns a b) hs ks e = refl
line-bound (unread in_cal v ns a b) hs ks e = refl
line-bound (alias a b) hs ks e = refl
line-bound (function ns a b f) hs ks e = refl

-- ## All lines

alike-arity : {h k : Head} → Alike h k → arity h ≡ arity k
alike-arity same_line = refl
alike-arity (other l) = line-arity l

alike-step : {h k : Head} → Alike h k → (env : Env) (n : ℕ) (rs : List Res) → step env n h rs ≡ step env n k rs
alike-step same_line env n rs = refl
alike-step (other l) env n rs = line_step l env n rs

alike-bound : {h k : Head} → Alike h k → (hs ks : List Head) → bound hs ≡ bound ks → bound (h ∷ hs) ≡ bound (k ∷ ks)
unfolding bound
alike-bound {h} same_line hs ks e = ap (bound_by (rank (place h)) h.var (num h 0)) e
alike-bound (other l) hs ks e = line-bound l hs ks e

pub walk-alike : {hs ks : List Head} → Each Alike hs ks → (env : Env) (n : ℕ) → walk env n hs ≡ walk env n ks
unfolding walk
walk-alike no_more env n = refl
walk-alike (more {x = h} {y = k} {xs = hs} {ys = ks} a l) env n =
    rw (walk-alike l env (suc n), alike-arity a) (ap (λ r. r ∷ drop (arity k) (walk env (suc n) ks)) (alike-step a env n (take (arity k) (walk env (suc n) ks))))

pub bound-alike : {hs ks : List Head} → Each Alike hs ks → bound hs ≡ bound ks
bound-alike no_more = refl
bound-alike (more {xs = hs} {ys = ks} a l) = alike-bound a hs ks (bound-alike l)

pub results-alike : {hs ks : List Head} → Each Alike hs ks → results hs ≡ results ks
unfolding results
results-alike {ks = ks} l = rw (bound-alike l) (walk-alike l (env_of ks) 1)

-- ## Secrecy

limited-alike : (hs ks : List Head) → typing hs ≡ typing ks → (o : Option ℕ) → limited o hs ≡ limited o ks
unfolding limited
limited-alike hs ks e none = ap accepted e
limited-alike hs ks e (some n) = refl

outcome-alike : (s t : Bytes) {hs ks : List Head} → sheet depth_limit s ≡ heads hs → sheet depth_limit t ≡ heads ks → Each Alike hs ks → outcome s ≡ outcome t
unfolding outcome judged typing
outcome-alike s t {hs} {ks} p q l =
    let e = results-alike l in
    rw (p, q, e) (limited-alike hs ks (ap all_tops e) (first_large (all_tests (results ks))))

with-outcome : (s t : Bytes) → length s ≤ sheet_limit → length t ≤ sheet_limit → outcome s ≡ outcome t → (work out : Bytes) → sheet_call s work out ≡ sheet_call t work out
unfolding sheet_call
with-outcome s t a b e work out =
    rw (le-ltb sheet_limit (length s) a, le-ltb sheet_limit (length t) b, sheet_call)
    (ap (λ o. elim (eqb (length work) work_size) as (λ x. Settled) [ true ↦ settled o work out | false ↦ untouched 2 work out ]) e)

pub secrecy : Secrecy
secrecy = record { alike = λ s t p q l a b work out. with-outcome s t a b (outcome-alike s t p q l) work out }
