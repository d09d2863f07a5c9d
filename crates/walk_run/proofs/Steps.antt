-- A line's children one by one, in the definition and as the code runs: the two go on alike if they do so after each child. Assumes nothing.
use mathlib.Core.Path.{◌≡◌, refl, sym, ◌∙◌, ap}
use mathlib.Core.List.{List, [], ◌∷◌, ◌++◌, append_assoc}
use mathlib.Core.Option.{Option, none, some}
use mathlib.Core.Bool.{Bool, true, false}
use Prim.Native.Nat.{ℕ}
use Rattle.semantics.specs.Ty.{Ty, too_large}
use Rattle.semantics.specs.Sheet.{Role, Typing, Rule}
use Rattle.semantics.specs.Walk.{Fault, Res, asked, spread, After, child_by, child as child_of, Part, on, through}
use Rattle.semantics.specs.Calls.{first_large, any_large}
use Rattle.unify_run.specs.Run.{given}
use Rattle.walk_run.specs.Run.{Kept, child, Told, told, too_much, Kids, stopped, passed, after, halt_at, kids, Ran, halted, concluded, closed}

-- ## The first test that is too large

-- the first of two lines
abbrev pub first : Option ℕ → Option ℕ → Option ℕ
first none o = o
first (some l) o = some l

-- this line, if so
abbrev pub line_if : ℕ → Bool → Option ℕ
line_if n true = some n
line_if n false = none

pub first-append : (a b : List (ℕ × Ty)) → first_large (a ++ b) ≡ first (first_large a) (first_large b)
unfolding first_large
first-append [] b = refl
first-append ((n, t) ∷ a) b = go (too_large t) (first-append a b)
  where
    go : (c : Bool) → first_large (a ++ b) ≡ first (first_large a) (first_large b) → ◌≡◌ {A = Option ℕ} (elim c [ true ↦ some n | false ↦ first_large (a ++ b) ]) (first (elim c [ true ↦ some n | false ↦ first_large a ]) (first_large b))
    go true ih = refl
    go false ih = ih

-- the tests of one line
pub first_on : (n : ℕ) (ts : List Ty) → first_large (on n ts) ≡ line_if n (any_large ts)
unfolding first_large any_large
first_on n [] = refl
first_on n (t ∷ ts) = go (too_large t) (first_on n ts)
  where
    go : (c : Bool) → first_large (on n ts) ≡ line_if n (any_large ts) → ◌≡◌ {A = Option ℕ} (elim c [ true ↦ some n | false ↦ first_large (on n ts) ]) (line_if n (elim c [ true ↦ true | false ↦ any_large ts ]))
    go true ih = refl
    go false ih = ih

-- ## What a line comes to

-- the line of a test that is too large, or this type and these faults
abbrev pub outcome : Option ℕ → Ty → List Fault → Ran
outcome none t fs = Ran.typed t fs
outcome (some l) t fs = halted l

abbrev pub halt_ran : Option ℕ → Ran → Ran
halt_ran none x = x
halt_ran (some l) x = halted l

abbrev pub after_ran : List Fault → Ran → Ran
after_ran fs (halted l) = halted l
after_ran fs (Ran.typed t gs) = Ran.typed t (fs ++ gs)

outcome-first : (x y : Option ℕ) (t : Ty) (fs : List Fault) → outcome (first x y) t fs ≡ halt_ran x (outcome y t fs)
outcome-first none y t fs = refl
outcome-first (some l) y t fs = refl

outcome-after : (o : Option ℕ) (t : Ty) (fs gs : List Fault) → outcome o t (fs ++ gs) ≡ after_ran fs (outcome o t gs)
outcome-after none t fs gs = refl
outcome-after (some l) t fs gs = refl

halt-after : (o : Option ℕ) (fs : List Fault) (x : Ran) → halt_ran o (after_ran fs x) ≡ after_ran fs (halt_ran o x)
halt-after none fs x = refl
halt-after (some l) fs x = refl

-- ## The definition, child by child

-- the line from here on: the children that are left, the tests of the line itself after them, its type, its own faults
abbrev pub defined : ℕ → Typing → Part → List Role → List Res → List Ty → Ty → List Fault → Ran
defined n q j ps rs ts t gs = outcome (first_large (through n (Rule.typed q) j rs ++ on n ts)) t (spread ps rs ++ gs)

-- after the last child
abbrev pub ending : ℕ → List Ty → Ty → List Fault → Ran
ending n ts t gs = outcome (line_if n (any_large ts)) t gs

pub defined-nil : (n : ℕ) (q : Typing) (j : Part) (ts : List Ty) (t : Ty) (gs : List Fault) → defined n q j [] [] ts t gs ≡ ending n ts t gs
unfolding through spread
defined-nil n q j ts t gs = ap (λ o. outcome o t gs) (first_on n ts)

-- what a child leaves
abbrev pub left : Typing → Part → Res → After
left q j r = child_by q j (r.name, r.ty)

through-cons : (n : ℕ) (q : Typing) (j : Part) (r : Res) (rs : List Res) (ts : List Ty)
    → first_large (through n (Rule.typed q) j (r ∷ rs) ++ on n ts) ≡ first (first_large r.tests) (first (line_if n (any_large (left q j r).tests)) (first_large (through n (Rule.typed q) (left q j r).kept rs ++ on n ts)))
unfolding through child_of
through-cons n q j r rs ts =
    let own = on n (left q j r).tests in
    let rest = through n (Rule.typed q) (left q j r).kept rs in
    ap first_large (append_assoc r.tests (own ++ rest) (on n ts) ∙ ap (λ l. r.tests ++ l) (append_assoc own rest (on n ts)))
    ∙ first-append r.tests (own ++ (rest ++ on n ts))
    ∙ ap (first (first_large r.tests)) (first-append own (rest ++ on n ts) ∙ ap (λ o. first o (first_large (rest ++ on n ts))) (first_on n (left q j r).tests))

spread-cons : (p : Role) (ps : List Role) (r : Res) (rs : List Res) (gs : List Fault) → spread (p ∷ ps) (r ∷ rs) ++ gs ≡ (r.faults ++ asked p r.ty) ++ (spread ps rs ++ gs)
unfolding spread
spread-cons p ps r rs gs =
    append_assoc r.faults (asked p r.ty ++ spread ps rs) gs
    ∙ ap (λ l. r.faults ++ l) (append_assoc (asked p r.ty) (spread ps rs) gs)
    ∙ sym (append_assoc r.faults (asked p r.ty) (spread ps rs ++ gs))

pub defined-cons : (n : ℕ) (q : Typing) (j : Part) (p : Role) (ps : List Role) (r : Res) (rs : List Res) (ts : List Ty) (t : Ty) (gs : List Fault)
    → defined n q j (p ∷ ps) (r ∷ rs) ts t gs ≡ halt_ran (first_large r.tests) (after_ran (r.faults ++ asked p r.ty) (halt_ran (line_if n (any_large (left q j r).tests)) (defined n q (left q j r).kept ps rs ts t gs)))
defined-cons n q j p ps r rs ts t gs =
    let x = first_large r.tests in
    let y = line_if n (any_large (left q j r).tests) in
    let z = first_large (through n (Rule.typed q) (left q j r).kept rs ++ on n ts) in
    let fs = r.faults ++ asked p r.ty in
    ap (λ o. outcome o t (spread (p ∷ ps) (r ∷ rs) ++ gs)) (through-cons n q j r rs ts)
    ∙ ap (outcome (first x (first y z)) t) (spread-cons p ps r rs gs)
    ∙ outcome-first x (first y z) t (fs ++ (spread ps rs ++ gs))
    ∙ ap (halt_ran x) (outcome-first y z t (fs ++ (spread ps rs ++ gs)) ∙ ap (halt_ran y) (outcome-after z t fs (spread ps rs ++ gs)) ∙ halt-after y fs (outcome z t (spread ps rs ++ gs)))

-- ## The run, child by child

concluded-after : (n : ℕ) (x : Told) (fs gs : List Fault) → concluded n x (fs ++ gs) ≡ after_ran fs (concluded n x gs)
concluded-after n (told t hs) fs gs = ap (Ran.typed t) (append_assoc fs gs hs)
concluded-after n too_much fs gs = refl

closed_after : (n : ℕ) (fs : List Fault) (x : Kids) (f : Kept → Told) → closed n (after fs x) f ≡ after_ran fs (closed n x f)
closed_after n fs (stopped l) f = refl
closed_after n fs (passed k gs) f = concluded-after n (f k) fs gs

closed-halt : (n : ℕ) (o : Option ℕ) (x : Kids) (f : Kept → Told) → closed n (halt_at o x) f ≡ halt_ran o (closed n x f)
closed-halt n none x f = refl
closed-halt n (some l) x f = refl

closed-given : (n : ℕ) (o : Option Kept) (g : Kept → Kids) (f : Kept → Told) → closed n (given o (stopped n) g) f ≡ given o (halted n) (λ j. closed n (g j) f)
closed-given n none g f = refl
closed-given n (some k) g f = refl

pub ran-cons : (n : ℕ) (q : Typing) (k : Kept) (p : Role) (ps : List Role) (r : Res) (rs : List Res) (f : Kept → Told)
    → closed n (kids n q k (p ∷ ps) (r ∷ rs)) f ≡ halt_ran (first_large r.tests) (after_ran (r.faults ++ asked p r.ty) (given (child q p k r.name r.ty) (halted n) (λ j. closed n (kids n q j ps rs) f)))
unfolding kids
ran-cons n q k p ps r rs f =
    let fs = r.faults ++ asked p r.ty in
    let o = child q p k r.name r.ty in
    let rest : Kids = given o (stopped n) (λ j. kids n q j ps rs) in
    closed-halt n (first_large r.tests) (after fs rest) f
    ∙ ap (halt_ran (first_large r.tests)) (closed_after n fs rest f ∙ ap (after_ran fs) (closed-given n o (λ j. kids n q j ps rs) f))

-- ## Both at once

halt-cong : (o : Option ℕ) {x y : Ran} → (o ≡ none → x ≡ y) → halt_ran o x ≡ halt_ran o y
halt-cong none e = e refl
halt-cong (some l) e = refl

module _ (n : ℕ) (q : Typing) (ts : List Ty) (t : Ty) (gs : List Fault) (f : Kept → Told) where
  -- the line from here on comes to the same
  abbrev pub Alike : Part → Kept → List Role → List Res → Type 0
  Alike j k ps rs = defined n q j ps rs ts t gs ≡ closed n (kids n q k ps rs) f

  pub alike-nil : (j : Part) (k : Kept) → ending n ts t gs ≡ concluded n (f k) [] → Alike j k [] []
  unfolding kids
  alike-nil j k e = defined-nil n q j ts t gs ∙ e

  -- after a child none of whose tests is too large
  pub alike-cons : (j : Part) (k : Kept) (p : Role) (ps : List Role) (r : Res) (rs : List Res)
      → (first_large r.tests ≡ none → halt_ran (line_if n (any_large (left q j r).tests)) (defined n q (left q j r).kept ps rs ts t gs) ≡ given (child q p k r.name r.ty) (halted n) (λ i. closed n (kids n q i ps rs) f))
      → Alike j k (p ∷ ps) (r ∷ rs)
  alike-cons j k p ps r rs e =
      defined-cons n q j p ps r rs ts t gs
      ∙ halt-cong (first_large r.tests) (λ s. ap (after_ran (r.faults ++ asked p r.ty)) (e s))
      ∙ sym (ran-cons n q k p ps r rs f)
