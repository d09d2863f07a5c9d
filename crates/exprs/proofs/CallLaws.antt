-- Calls: the row of a name, the first argument, the type that is returned. Assumes nothing.
use Prim.Native.Nat.{ℕ, ◌≤◌}
use native.Mathlib.Omega.{arith}
use mathlib.Core.Path.{◌≡◌, sym, ap, ◌∙◌}
use mathlib.Core.List.{List, [], ◌∷◌}
use mathlib.Core.Option.{Option, none, some}
use Rattle.std.specs.declared.option.Option.TheVariants.{Some}
use mathlib.Core.Bool.{Bool, true, false}
use lib.ListN.{length, get_or}
use Rattle.semantics.specs.Bytes.{Bytes}
use Rattle.semantics.specs.Ty.{Ty}
use Rattle.std.specs.Prelude.{Option as Found, Some, None}
use Rattle.semantics.specs.Builtins.{Builtin, signature, resolve_return}
use Rattle.semantics.specs.Builtins as the
use Rattle.semantics.specs.Walk.{fault_5012, arg_faults, call_type, call_faults}
use Rattle.ty.specs.Parts.{TypeAt}
use Rattle.ty.specs.Read.{kind_of}
use Rattle.ty.proofs.KindLaws.{kind_at, two_at}
use Rattle.builtins.specs.declared.Builtin.{Builtin as Code}
use Rattle.builtins.specs.declared.shapes.ArgShape.{ArgShape}
use Rattle.builtins.specs.declared.shapes.ReturnShape.{ReturnShape}
use Rattle.builtins.specs.Rows.{shape_of, return_of, builtin_of, found_of, AcceptsKind, FirstAt, SomeFirst, Returned, Resolved}
use Rattle.walk_run.specs.Run.{told, args_of}
use Rattle.exprs.specs.State.{place, FirstKept}
use Rattle.exprs.specs.declared.state.Accumulator.{Accumulator}
use Rattle.report.specs.Report.{Adds, HasRoom}
use Rattle.report.specs.declared.Report.{Report}
use Rattle.report.proofs.ReportLaws.{adds_none}
use Rattle.exprs.specs.End.{Countable, Puts, Ends, KeptAt, SomeArg, arg_kept}
use Rattle.exprs.specs.End.{Checked}
use Rattle.exprs.proofs.Fronts.{put-any, settle}
use Rattle.exprs.proofs.States.{kept_at}

-- ## The arguments

-- room for two faults is room for one
pub room-one : {r : Report} → Countable r → HasRoom r
room-one n = record { fill = omega (arith, n.fill); faults = omega (arith, n.faults) }

-- none is there
pub args_none : (row : Code) (s : Bytes) {o : Found ℕ} {r : Report} → o ≡ None → Checked row s o r r
unfolding arg_faults
args_none row s {o} {r} e [] f = go (signature (builtin_of row)).params
  where
    go : (ps : List the.ArgShape) → Adds (arg_faults (builtin_of row) ps []) r r
    go [] = adds_none
    go (p ∷ ps) = adds_none
args_none row s {o} {r} e (u ∷ us) f = absurd (rw e at f)

module _ (row : Code) (k : ArgShape) (s : Bytes) {o : Found ℕ} {len : ℕ} (d : o ≡ Some len) (e : shape_of k ∷ [] ≡ (signature (builtin_of row)).params) {r : Bool} (c : AcceptsKind k (get_or s 0 0) r) where
  arg-by : (u : Ty) (us : List Ty) → TypeAt s 0 len u → (b : Bool) → r ≡ b
      → arg_faults (builtin_of row) (signature (builtin_of row)).params (u ∷ us) ≡ elim b [ true ↦ [] | false ↦ fault_5012 (builtin_of row) u (shape_of k) ∷ [] ]
  unfolding arg_faults
  arg-by u us f b q =
      ap (λ (ps : List the.ArgShape). arg_faults (builtin_of row) ps (u ∷ us)) (sym e)
      ∙ ap (λ (x : Bool). elim x [ true ↦ [] | false ↦ fault_5012 (builtin_of row) u (shape_of k) ∷ [] ]) (sym (c u (sym (kind_at s 0 len u f))) ∙ q)

  pub args-accepted : {y : Report} → r ≡ true → Checked row s o y y
  args-accepted q [] f = absurd (rw d at f)
  args-accepted q (u ∷ us) f = rw (arg-by u us (rw d at f) true q) adds_none

  pub args-refused : {y y' : Report} → r ≡ false
      → ((u : Ty) → kind_of u ≡ get_or s 0 0 → (p : the.ArgShape) → (signature (builtin_of row)).params ≡ p ∷ [] → Adds (fault_5012 (builtin_of row) u p ∷ []) y y') → Checked row s o y y'
  args-refused q g [] f = absurd (rw d at f)
  args-refused q g (u ∷ us) f = rw (arg-by u us (rw d at f) false q) (g u (sym (kind_at s 0 len u (rw d at f))) (shape_of k) (sym e))

-- ## The function

module _ {o : Found Code} {x : Option Builtin} (e : found_of o ≡ x) where
  pub unknown : o ≡ None → x ≡ none
  unknown q = sym e ∙ ap found_of q

  pub known : (b : Code) → o ≡ Some b → x ≡ some (builtin_of b)
  known b q = sym e ∙ ap found_of q

-- ## The end

pub arg-first : {s : Bytes} {st : Accumulator} (o : Found ℕ) → FirstKept st.len o → (a : Option Ty) → KeptAt (arg_kept a) s st → FirstAt s o (args_of (arg_kept a))
arg-first None p none k = tt
arg-first {s} {st} None p (some t) k = absurd (omega (arith, p, two_at s 0 st.len t (kept_at k)))
arg-first {s} {st} (Some n) p none k = absurd (let z : st.len ≡ 0 = unfold place in k.state.len in omega (arith, z, p.1))
arg-first (Some n) p (some t) k = rw p.0 (kept_at k)

pub arg-some : {s : Bytes} {st : Accumulator} (o : Found ℕ) → FirstKept st.len o → SomeArg s st → SomeFirst s o
arg-some o f p = record { types = args_of (arg_kept p.arg); first = arg-first o f p.arg p.at; room = omega (arith, p.at.wide) }

pub call_none : {s s' : Bytes} {y : Report} {len : ℕ} (x : Option Builtin) (ts : List Ty) → x ≡ none → 2 ≤ length s → Puts (65 ∷ 44 ∷ []) s s' len
    → Ends (told (call_type x ts) (call_faults x ts)) s s' y y (Some len)
unfolding call_type call_faults
call_none {y = y} x ts e h p = rw e (settle (put-any h p) [] y y adds_none)

pub call_known : {s s' : Bytes} {y y' : Report} {r : ℕ} (o : Found ℕ) (b : Code) (k : ReturnShape) (x : Option Builtin) (ts : List Ty) → x ≡ some (builtin_of b)
    → return_of k ≡ (signature (builtin_of b)).ret → FirstAt s o ts → Checked b s o y y' → Resolved k s s' o r
    → Ends (told (call_type x ts) (call_faults x ts)) s s' y y' (Some r)
unfolding call_type call_faults
call_known {s} {s'} {y} {y'} {r} o b k x ts e q f c v =
    let w : Returned s s' (resolve_return (signature (builtin_of b)).ret ts) r = rw q at (v ts f) in
    rw e (settle w (arg_faults (builtin_of b) (signature (builtin_of b)).params ts) y y' (c ts f))
