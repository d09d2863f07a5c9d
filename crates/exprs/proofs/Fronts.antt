-- Bytes put to the front as a type, and what settles an end. Assumes nothing.
use Prim.Native.Nat.{ℕ, ◌≤◌}
use native.Mathlib.Omega.{arith}
use mathlib.Core.Path.{◌≡◌, refl, sym, ap, ◌∙◌, subst}
use mathlib.Core.List.{[], ◌∷◌}
use mathlib.Core.Option.{none}
use lib.ListN.{length}
use lib.Seq.{sets, length-sets}
use Rattle.semantics.specs.Bytes.{Bytes}
use Rattle.semantics.specs.Ty.{Base, t_any, t_bool, t_path, Ty, base, t_list, t_node, t_relationship, letter, labels_to, rel_to, line_to, line}
use Rattle.semantics.specs.Walk.{kind_type}
use Rattle.ty.specs.Parts.{TypeAt}
use Rattle.builtins.specs.Rows.{Returned}
use Rattle.builtins.proofs.Laws.{front-line}
use Rattle.report.specs.Report.{faults_text}
use Rattle.exprs.specs.End.{Puts, Settles}

-- ## A type line at the front

pub put-type : {x s s' : Bytes} {r : ℕ} (t : Ty) → x ≡ line t → length x ≤ length s → Puts x s s' r → Returned s s' t r
put-type {x} {s} {s'} {r} t e h p =
    let w : s' ≡ sets s 0 (line t) = p.text ∙ ap (sets s 0) e in
    let n : r ≡ length (line t) = p.end ∙ ap length e in
    rw (n, w) (front-line s t (omega (arith, ap length e)))

-- a letter and a comma
pub put-base : {a : ℕ} {s s' : Bytes} {r : ℕ} (b : Base) → letter b ≡ a → 2 ≤ length s → Puts (a ∷ 44 ∷ []) s s' r → Returned s s' (base b) r
unfolding line line_to
put-base b e h p = put-type (base b) (ap (λ (k : ℕ). k ∷ 44 ∷ []) (sym e)) h p

pub put-any : {s s' : Bytes} {r : ℕ} → 2 ≤ length s → Puts (65 ∷ 44 ∷ []) s s' r → Returned s s' (base t_any) r
unfolding letter
put-any h p = put-base t_any refl h p

pub put-anys : {s s' : Bytes} {r : ℕ} → 4 ≤ length s → Puts (74 ∷ 44 ∷ 65 ∷ 44 ∷ []) s s' r → Returned s s' (t_list (base t_any)) r
unfolding line line_to letter
put-anys h p = put-type (t_list (base t_any)) refl h p

-- ## A variable's type

module _ {s s' : Bytes} {r : ℕ} (k : ℕ) (h : 1024 ≤ length s) where
  pub var-node : k ≡ 0 → Puts (76 ∷ 44 ∷ 33 ∷ 44 ∷ []) s s' r → Returned s s' (kind_type k) r
  unfolding line line_to labels_to
  var-node e p = rw e (put-type (t_node none) refl (omega arith) p)

  pub var-relationship : k ≡ 1 → Puts (77 ∷ 44 ∷ 33 ∷ 44 ∷ []) s s' r → Returned s s' (kind_type k) r
  unfolding line line_to rel_to
  var-relationship e p = rw e (put-type (t_relationship none) refl (omega arith) p)

  pub var-path : k ≡ 2 → Puts (78 ∷ 44 ∷ []) s s' r → Returned s s' (kind_type k) r
  unfolding letter
  var-path e p = rw e (put-base t_path refl (omega arith) p)

  pub var-value : k ≡ 3 → Puts (65 ∷ 44 ∷ []) s s' r → Returned s s' (kind_type k) r
  var-value e p = rw e (put-any (omega arith) p)

pub var-kind : {s : Bytes} {r k m : ℕ} → k ≡ m → TypeAt s 0 r (kind_type k) → TypeAt s 0 r (kind_type m)
var-kind {s} {r} e a = subst (λ (k : ℕ). TypeAt s 0 r (kind_type k)) e a

-- ## An end

pub settle : {t : Ty} {s s' : Bytes} {len : ℕ} → Returned s s' t len → Settles t s s' len
settle w fs r r' a = record { answer = (w.at, a); long = w.long; as_long = ap length a.text ∙ length-sets r.writer.now.out.now r.writer.now.fill (faults_text fs) }

pub settle-bool : {s s' : Bytes} {len : ℕ} → 2 ≤ length s → Puts (67 ∷ 44 ∷ []) s s' len → Settles (base t_bool) s s' len
unfolding letter
settle-bool h p = settle (put-base t_bool refl h p)
