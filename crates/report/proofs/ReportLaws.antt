-- One text behind another, a body in its room, the lines of the faults, requirements by the kind of a type, and the whole report by its parts. Assumes nothing.
use Prim.Native.Nat.{ℕ, ◌+◌, ◌*◌, ◌≤◌}
use native.Mathlib.Omega.{arith}
use borrow.Author.Tests.{ne_eqb}
use mathlib.Core.Path.{◌≡◌, refl, sym, ap, ap₂, ◌∙◌}
use mathlib.Core.List.{List, [], ◌∷◌, ◌++◌, append_assoc, map as map_l}
use mathlib.Core.Bool.{Bool, true, false, ◌||◌}
use lib.Dec.{eqb}
use lib.ListN.{length, set, length-append}
use lib.Seq.{sets}
use Rattle.semantics.specs.Bytes.{Bytes, text, unlines, shown, shown_in}
use Rattle.semantics.specs.Ty.{Ty, base, t_list, t_map, t_node, t_relationship, t_union, letter, among, matches}
use Rattle.semantics.specs.Builtins.{ArgShape, Builtin, signature, describe}
use Rattle.semantics.specs.Walk.{Fault, fault_2009, fault_2010, fault_2011, fault_2012, fault_2013, fault_5012, Top, is_open}
use Rattle.semantics.specs.Calls.{type_name, fault_text, fault_line, top_line, fault_count, end_line, top_lines, report_lines, report}
use Rattle.text.proofs.Laws.{sets-append}
use Rattle.ty.specs.Read.{kind_of}
use Rattle.ty.proofs.KindLaws.{kind-name}
use Rattle.builtins.proofs.Laws.{name-short, describe-short}
use Rattle.writer.specs.declared.Writer.{Writer}
use Rattle.writer.specs.Written.{Wrote}
use Rattle.report.specs.declared.Report.{Report}
use Rattle.report.specs.declared.TypeFault.{TypeFault}
use Rattle.report.specs.declared.TypeFault.TheVariants.{E2009, E2010, E2011, E2013}
use Rattle.report.specs.Report.{faults_text, type_text, tops_text, end_text, fault_head, Appends, Adds, code_fault, code_of, OpenKind}

-- ## One text behind another

infixr 20 ◌▹◌
pub ◌▹◌ : {a b o o' o'' : Bytes} {f f' f'' : ℕ} → Appends a o o' f f' → Appends b o' o'' f' f'' → Appends (a ++ b) o o'' f f''
◌▹◌ {a} {b} {o} {o'} {o''} {f} {f'} {f''} p q =
    record {
      text = q.text ∙ ap₂ (λ (x : Bytes) (k : ℕ). sets x k b) p.text p.end ∙ sym (sets-append o f a b);
      end = omega (arith, p.end, q.end, length-append a b);
    }

-- what `append` and its like ensure, and `put`
pub wrote : (s : Bytes) {o o' : Bytes} {f r : ℕ} → (r ≡ f + length s) × (o' ≡ sets o f s) → Appends s o o' f r
wrote s p = record { text = p.1; end = p.0 }

pub one : (b : ℕ) {o o' : Bytes} {f r : ℕ} → (r ≡ f + 1) × (o' ≡ set o f b) → Appends (b ∷ []) o o' f r
one b p = record { text = p.1; end = p.0 }

-- what a writer wrote
pub wrote_line : {s : Bytes} {w w' : Writer} → Wrote s w w' → Appends s w.out.now w'.out.now w.fill w'.fill
wrote_line p = record { text = p.text; end = p.end }

-- ## Faults

pub faults-append : (fs gs : List Fault) → faults_text (fs ++ gs) ≡ faults_text fs ++ faults_text gs
unfolding faults_text
faults-append [] gs = refl
faults-append (f ∷ fs) gs =
    ap (λ (s : Bytes). fault_line f ++ (10 ∷ s)) (faults-append fs gs) ∙ sym (append_assoc (fault_line f) (10 ∷ faults_text fs) (faults_text gs))

-- no faults, the text alone, and faults behind faults
pub adds_none : {r : Report} → Adds [] r r
unfolding faults_text
adds_none = record { text = refl; end = omega arith; count = omega arith }

pub adds-text : {fs : List Fault} {r r' : Report} → Adds fs r r' → Appends (faults_text fs) r.writer.now.out.now r'.writer.now.out.now r.writer.now.fill r'.writer.now.fill
adds-text p = record { text = p.text; end = p.end }

pub adds_then : {fs gs : List Fault} {r r' r'' : Report} → Adds fs r r' → Adds gs r' r'' → Adds (fs ++ gs) r r''
adds_then {fs} {gs} {r} {r'} {r''} p q =
    let w : Appends (faults_text fs ++ faults_text gs) r.writer.now.out.now r''.writer.now.out.now r.writer.now.fill r''.writer.now.fill = adds-text p ▹ adds-text q in
    let e = faults-append fs gs in
    record {
      text = w.text ∙ ap (sets r.writer.now.out.now r.writer.now.fill) (sym e);
      end = w.end ∙ ap (λ (s : Bytes). r.writer.now.fill + length s) (sym e);
      count = omega (arith, p.count, q.count, length-append fs gs);
    }

-- a line that was written, and counted
pub adds-line : (f : Fault) {s : Bytes} {r r' : Report} → s ≡ fault_line f ++ (10 ∷ []) → Wrote s r.writer.now r'.writer.now → r'.faults ≡ r.faults + 1 → Adds (f ∷ []) r r'
unfolding faults_text
adds-line f {s} {r} {r'} e w m =
    record { text = w.text ∙ ap (sets r.writer.now.out.now r.writer.now.fill) e; end = w.end ∙ ap (λ (x : Bytes). r.writer.now.fill + length x) e; count = m }

pub head-long : (c : TypeFault) → length (fault_head (code_of c)) ≡ 7
unfolding text shown shown_in
head-long c = elim c as (λ k. length (fault_head (code_of k)) ≡ 7) [ E2009 ↦ refl | E2010 ↦ refl | E2011 ↦ refl | E2013 ↦ refl ]

-- what the lines are made of
pub code-line : (c : TypeFault) (t : Ty) {h n : Bytes} → h ≡ fault_head (code_of c) → n ≡ type_name t → h ++ (n ++ (10 ∷ [])) ≡ fault_line (code_fault c t) ++ (10 ∷ [])
unfolding fault_line fault_text text shown shown_in
code-line c t a b = ap₂ (λ (h n : Bytes). h ++ (n ++ (10 ∷ []))) a b ∙ elim c as (λ k. fault_head (code_of k) ++ (type_name t ++ (10 ∷ [])) ≡ fault_line (code_fault k t) ++ (10 ∷ [])) [ E2009 ↦ refl | E2010 ↦ refl | E2011 ↦ refl | E2013 ↦ refl ]

pub in-line : (t u : Ty) {n m : Bytes} → n ≡ type_name t → m ≡ type_name u
    → fault_head 2012 ++ (n ++ (44 ∷ (m ++ (10 ∷ [])))) ≡ fault_line (fault_2012 t u) ++ (10 ∷ [])
unfolding fault_line fault_text text shown shown_in
in-line t u a b =
    ap₂ (λ (n m : Bytes). fault_head 2012 ++ (n ++ (44 ∷ (m ++ (10 ∷ []))))) a b
    ∙ ap (λ (x : Bytes). fault_head 2012 ++ x) (sym (append_assoc (type_name t) (44 ∷ type_name u) (10 ∷ [])))

pub call-line : (b : Builtin) (t : Ty) (s : ArgShape) {n m d : Bytes} → n ≡ (signature b).name → m ≡ type_name t → d ≡ describe s
    → fault_head 5012 ++ (n ++ (44 ∷ (m ++ (44 ∷ (d ++ (10 ∷ [])))))) ≡ fault_line (fault_5012 b t s) ++ (10 ∷ [])
unfolding fault_line fault_text text shown shown_in
call-line b t s {n} {m} {d} x y z =
    let last : Bytes = 44 ∷ describe s in
    ap₂ (λ (n m : Bytes). fault_head 5012 ++ (n ++ (44 ∷ (m ++ (44 ∷ (d ++ (10 ∷ []))))))) x y
    ∙ ap (λ (d : Bytes). fault_head 5012 ++ ((signature b).name ++ (44 ∷ (type_name t ++ (44 ∷ (d ++ (10 ∷ []))))))) z
    ∙ ap (λ (x : Bytes). fault_head 5012 ++ x)
    (ap (λ (x : Bytes). (signature b).name ++ (44 ∷ x)) (sym (append_assoc (type_name t) last (10 ∷ [])))
    ∙ sym (append_assoc (signature b).name (44 ∷ (type_name t ++ last)) (10 ∷ [])))

-- the one parameter
pub only : {s p : ArgShape} → ◌≡◌ {A = List ArgShape} (s ∷ []) (p ∷ []) → s ≡ p
only e = cc

-- how long they are
type-name-short : (t : Ty) → length (type_name t) ≤ 12
type-name-short t = (kind-name t).short

body-short : (f : Fault) → length (fault_text f) ≤ 51
unfolding fault_text text
body-short (fault_2009 t) = omega (arith, type-name-short t)
body-short (fault_2010 t) = omega (arith, type-name-short t)
body-short (fault_2011 t) = omega (arith, type-name-short t)
body-short (fault_2013 t) = omega (arith, type-name-short t)
body-short (fault_2012 t u) = omega (arith, type-name-short t, type-name-short u, length-append (type_name t) (44 ∷ type_name u))
body-short (fault_5012 b t s) =
    let x : Bytes = type_name t ++ (44 ∷ describe s) in
    omega (arith, name-short b, type-name-short t, describe-short s, length-append (type_name t) (44 ∷ describe s), length-append (signature b).name (44 ∷ x))

line-short : (f : Fault) → length (fault_line f) ≤ 127
unfolding fault_line
line-short f = omega (arith, body-short f)

pub fault-short : (f : Fault) → length (faults_text (f ∷ [])) ≤ 128
unfolding faults_text
fault-short f = omega (arith, line-short f, length-append (fault_line f) (10 ∷ []))

pub faults-short : (fs : List Fault) → length (faults_text fs) ≤ 128 * length fs
unfolding faults_text
faults-short [] = omega arith
faults-short (f ∷ fs) = omega (arith, line-short f, faults-short fs, length-append (fault_line f) (10 ∷ faults_text fs))

-- ## Any and Unknown

-- what the code asks of the letter
open-kind : (t : Ty) → is_open t ≡ eqb (kind_of t) 65 || (eqb (kind_of t) 80 || false)
unfolding matches among kind_of letter
open-kind (base b) = refl
open-kind (t_list t) = refl
open-kind (t_map fs) = refl
open-kind (t_node ls) = refl
open-kind (t_relationship n) = refl
open-kind (t_union ts) = refl

or-false : (b : Bool) → b || false ≡ b
or-false b = elim b as (λ k. k || false ≡ k) [ true ↦ refl | false ↦ refl ]

pub open_any : (k : ℕ) → k ≡ 65 → OpenKind k true
open_any k q u e = sym (open-kind u ∙ ap (λ (j : ℕ). eqb j 65 || (eqb j 80 || false)) (e ∙ q))

pub open-other : (k : ℕ) → (k ≡ 65 → ⊥) → OpenKind k (eqb k 80)
open-other k q u e =
    sym (open-kind u ∙ ap (λ (j : ℕ). eqb j 65 || (eqb j 80 || false)) e ∙ rw (ne_eqb k 65 q) (or-false (eqb k 80)))

-- ## The whole report

pub tops-append : (ts us : List Top) → tops_text (ts ++ us) ≡ tops_text ts ++ tops_text us
unfolding tops_text
tops-append [] us = refl
tops-append (t ∷ ts) us = ap (λ (s : Bytes). faults_text t.faults ++ (type_text t.ty ++ s)) (tops-append ts us) ∙ simp append_assoc

pub count-append : (ts us : List Top) → fault_count (ts ++ us) ≡ fault_count ts + fault_count us
unfolding fault_count
count-append [] us = omega arith
count-append (t ∷ ts) us = omega (arith, count-append ts us)

faults-lines : (fs : List Fault) (r : List Bytes) → unlines (map_l fault_line fs ++ r) ≡ faults_text fs ++ unlines r
unfolding faults_text unlines
faults-lines [] r = refl
faults-lines (f ∷ fs) r =
    ap (λ (s : Bytes). fault_line f ++ (10 ∷ s)) (faults-lines fs r) ∙ sym (append_assoc (fault_line f) (10 ∷ faults_text fs) (unlines r))

tops-lines : (ts : List Top) (r : List Bytes) → unlines (top_lines ts r) ≡ tops_text ts ++ unlines r
unfolding top_lines tops_text unlines
tops-lines [] r = refl
tops-lines (t ∷ ts) r =
    faults-lines t.faults (top_line t.ty ∷ top_lines ts r)
    ∙ ap (λ (s : Bytes). faults_text t.faults ++ (top_line t.ty ++ (10 ∷ s))) (tops-lines ts r)
    ∙ simp append_assoc

pub report-parts : (ts : List Top) → report ts ≡ tops_text ts ++ end_text (length ts) (fault_count ts)
unfolding report report_lines end_line unlines text
report-parts ts = tops-lines ts (end_line ts ∷ []) ∙ ap (λ (s : Bytes). tops_text ts ++ s) (simp append_assoc)
