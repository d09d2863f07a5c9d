-- The call that makes an old line regular. Assumes nothing.
use mathlib.Core.Path.{◌≡◌, refl, sym, ◌∙◌, ap, ap₂, subst}
use mathlib.Core.List.{[], ◌++◌}
use mathlib.Core.Option.{Option, none, some}
use mathlib.Core.Bool.{Bool, true, false, not, false≢true}
use Prim.Native.Nat.{ℕ, ◌+◌, ◌≤◌, ◌<◌}
use native.Mathlib.Nat.{zero-add}
use native.Mathlib.Omega.{arith}
use lib.ListN.{length, take, drop}
use lib.Seq.{sets}
use borrow.Author.Tests.{eq-eqb, ne_eqb, lt-ltb, not-true}
use Rattle.std.specs.Prelude.{Option as StdOption, Some, None, Result, Ok, Err}
use Rattle.semantics.specs.declared.refusals.Refusal.{Refusal}
use Rattle.semantics.specs.declared.refusals.Refusal.TheVariants.{WrongSize, OutputTooShort, NoOldLine, TypeTooLarge}
use Rattle.semantics.specs.Limits.{work_size, nesting_limit}
use Rattle.semantics.specs.Bytes.{Bytes}
use Rattle.semantics.specs.Ty.{Ty, line, too_large, type_line}
use Rattle.semantics.specs.Calls.{Settled, zeros, written, cleared}
use Rattle.semantics.proofs.Reader.{read-sound}
use Rattle.unify_run.proofs.Size.{small-sound}
use Rattle.text.specs.Text.{is_found}
use Rattle.text.proofs.Laws.{sets-parts}
use Rattle.ty.specs.Parts.{TypeAt}
use Rattle.old_lines.specs.Old.{old_output, old_line, made, regular_of, regular_call}
use Rattle.old.specs.declared.RegularType.{RegularType}
use Rattle.old.specs.Make.{MadeAs, OldAt, MakesAt}
use Rattle.old.specs.Call.{settled_by, SomeOld, Settles}
use Rattle.old.proofs.MakeLoop.{answer-done, answer-large}
use Rattle.old_lines.proofs.Theorem.{regular-old}
use Rattle.old_lines.proofs.Sound.{old-sound, call-of, of-type, call-answers}

-- ## Refusals

pub call-untouched : (s work out : Bytes) → (length work ≡ work_size → ⊥) → settled_by (Err (record { why = WrongSize; place = 0 })) work out ≡ regular_call s work out
unfolding regular_call
call-untouched s work out h = rw (ne_eqb (length work) work_size h, regular_call)

module _ (s work out : Bytes) (size : length work ≡ work_size) where
  pub call-short : length out < old_output → (out' : Bytes) → Settles (regular_call s work out) work out out' (Err OutputTooShort)
  unfolding regular_call
  call-short h out' = rw (eq-eqb (length work) work_size size, lt-ltb (length out) old_output h, regular_call)

  module _ (room : old_output ≤ length out) where
    pub call-bad : (b : Bool) → b ≡ is_found (old_line s) → not b ≡ true → (out' : Bytes) → Settles (regular_call s work out) work out out' (Err NoOldLine)
    unfolding regular_of
    call-bad b f n out' = call-of s work out size room ∙ go (old_line s) (sym (not-true b n) ∙ f)
      where
        go : (o : Option Ty) → false ≡ is_found o → regular_of o work out ≡ cleared 12 0 work out
        go none e = refl
        go (some t) e = absurd (false≢true e)

    module _ (t : Ty) (e : old_line s ≡ some t) where
      pub call-large : too_large (made t) ≡ true → (out' : Bytes) → Settles (regular_call s work out) work out out' (Err TypeTooLarge)
      unfolding regular_of
      call-large b out' = of-type s work out size room t e ∙ rw (b, regular_of)

      pub call-done : too_large (made t) ≡ false → (out' : Bytes) → out' ≡ sets out 0 (line (made t)) → (n : ℕ) → n ≡ length (line (made t))
          → Settles (regular_call s work out) work out out' (Ok n)
      unfolding regular_of
      call-done b out' f n z =
          let x = line (made t) in
          let small = (small-sound (made t) b).0 in
          let w : sets out 0 x ≡ written x out = sets-parts out 0 x (omega arith) ∙ ap (λ (j : ℕ). x ++ drop j out) (zero-add (length x)) in
          call-answers s work out size room t e b ∙ rw (z, f, w)

-- a line that is regular already
record Given (s : Bytes) : Type 0 where
  pub ty : Ty
  pub read : type_line s ≡ some ty

given-line : (s : Bytes) (b : Bool) → b ≡ is_found (type_line s) → b ≡ true → Given s
given-line s b f n = go (type_line s) refl (sym n ∙ f)
  where
    go : (o : Option Ty) → type_line s ≡ o → true ≡ is_found o → Given s
    go none e h = absurd (false≢true (sym h))
    go (some t) e h = record { ty = t; read = e }

pub call-given : (s work out : Bytes) → length work ≡ work_size → old_output ≤ length out → (b : Bool) → b ≡ is_found (type_line s) → b ≡ true → (out' : Bytes) (r : ℕ) → (r ≡ 0 + length s) × (out' ≡ sets out 0 s)
    → Settles (regular_call s work out) work out out' (Ok r)
call-given s work out size room b f n out' r (z, o) =
    let g = given-line s b f n in
    let (read, stays) = regular-old s g.ty g.read in
    let (is, _, small, _) = read-sound s g.ty g.read in
    let x : s ≡ line (made g.ty) = sym is ∙ ap line (sym stays) in
    call-done s work out size room g.ty read (ap too_large stays ∙ small) out' (o ∙ ap (sets out 0) x) r (z ∙ zero-add (length s) ∙ ap length x)

-- ## What is left of the buffers

module _ (u : Settled) (work out out' : Bytes) (r : Result ℕ Refusal) (w : Bytes) (h : Settles u work out out' r) (z : w ≡ zeros work) where
  pub settled-ok : (n : ℕ) → r ≡ Ok n → settled_by (Ok n) w out' ≡ u
  settled-ok n e = ap (λ (l : Bytes). settled_by (Ok n) l out') z ∙ sym (subst (Settles u work out out') e h)

  pub settled-err : (why : Refusal) (o : Bytes) → r ≡ Err why → o ≡ zeros out → settled_by (Err (record { why = why; place = 0 })) w o ≡ u
  settled-err why o e k = ap₂ (λ (l m : Bytes). settled_by (Err (record { why = why; place = 0 })) l m) z k ∙ sym (subst (Settles u work out out') e h)

-- ## What is made

module _ (s : Bytes) (p : SomeOld s) where
  pub whole-old : OldAt s 0 nesting_limit
  unfolding line
  whole-old = let (e, g, n) = old-sound s p.ty p.read in record { ty = p.ty; rest = []; is = sym e; within = (g, n) }

  module _ (work w : Bytes) (r : StdOption RegularType) (h : MakesAt s work w 0 nesting_limit r) where
    whole-made : MadeAs work w (0 + length (line p.ty)) (made p.ty) r
    unfolding line
    whole-made = let (e, g, n) = old-sound s p.ty p.read in h p.ty [] (sym e) (g, n)

    pub whole-large : r ≡ None → too_large (made p.ty) ≡ true
    whole-large f = answer-large (too_large (made p.ty)) (0 + length (line p.ty)) (length (line (made p.ty))) r whole-made.answer f

    pub whole-done : (o : RegularType) → r ≡ Some o → (too_large (made p.ty) ≡ false) × (length (line (made p.ty)) ≡ o.len) × (take o.len w ≡ line (made p.ty)) × (o.len ≤ length w)
    whole-done o f =
        let (b, _, l) = answer-done (too_large (made p.ty)) (0 + length (line p.ty)) (length (line (made p.ty))) o r whole-made.answer f in
        let v = subst (λ (j : ℕ). TypeAt w 0 j (made p.ty)) l (whole-made.stands b) in
        (b, l, v.is, v.inside)

-- ## The whole call

-- the line in the output
module _ (s work out : Bytes) (p : SomeOld s) (size : length work ≡ work_size) (room : 1024 ≤ length out) (w : Bytes) (r : StdOption RegularType) (h : MakesAt s work w 0 nesting_limit r) where
  pub written-done : (u : RegularType) → r ≡ Some u → (n : ℕ) (out' : Bytes) → (n ≡ 0 + length (take u.len w)) × (out' ≡ sets out 0 (take u.len w))
      → Settles (regular_call s work out) work out out' (Ok n)
  written-done u f n out' o =
      let (b, l, e, i) = whole-done s p work w r h u f in
      call-done s work out size room p.ty p.read b out' (o.1 ∙ ap (sets out 0) e) n (o.0 ∙ zero-add (length (take u.len w)) ∙ ap length e)

  pub written-large : r ≡ None → (out' : Bytes) → Settles (regular_call s work out) work out out' (Err TypeTooLarge)
  written-large f out' = call-large s work out size room p.ty p.read (whole-large s p work w r h f) out'
