-- A sheet is refused with 3, 4 or 5 where it cannot be read.
use mathlib.Core.List.{List, [], ◌∷◌, ◌++◌}
use mathlib.Core.Option.{Option, none, some}
use mathlib.Core.Bool.{◌&&◌}
use Prim.Native.Nat.{ℕ, suc, ◌-◌, ◌*◌, ◌%◌, ◌≤◌}
use native.Mathlib.Omega.{arith}
use lib.ListN.{length, get_or}
use lib.Dec.{eqb, ltb, leb}
use Rattle.semantics.specs.Limits.{name_limit, variable_limit, bound_limit, signed_shift}
use Rattle.semantics.specs.Bytes.{Bytes, split, decimal, unhex}
use Rattle.semantics.specs.Sheet.{Word, Field, range, variable, optional, name, alias, bound, letter, signed, float, Head, variable_of, row, place, rank, words, word_in, Value, wrong, number, variable_v, name_v, alias_v, is_dash, within, named, lettered, signed_of, float_of, bound_of, value, Read, bad, ok, into, fill, bare, Want, first, clauses, bindings, at, fits, beyond, and_then, read_fields, read_as, read_pieces, read_line, under, Sheet, refused, heads, add, carry, check, sheet}
use Rattle.semantics.proofs.All.{either}

abbrev pub Cause : ℕ → Type 0
Cause c = (3 ≤ c) × (c ≤ 5)

three : Cause 3
three = (omega arith, omega arith)

four : Cause 4
four = (omega arith, omega arith)

five : Cause 5
five = (omega arith, omega arith)

-- refused with one of the three, if at all
abbrev FineValue : Value → Type 0
FineValue (wrong c) = Cause c
FineValue (number n) = Unit {0}
FineValue (variable_v v) = Unit {0}
FineValue (name_v s) = Unit {0}
FineValue (alias_v s) = Unit {0}

abbrev FineRead : Read → Type 0
FineRead (bad c) = Cause c
FineRead (ok h) = Unit {0}

abbrev pub FineSheet : Sheet → Type 0
FineSheet (refused c n) = Cause c
FineSheet (heads hs) = Unit {0}

within-fine : (l m : ℕ) (o : Option ℕ) (f : ℕ → Value) → ((n : ℕ) → FineValue (f n)) → FineValue (within l m o f)
unfolding within
within-fine l m none f h = three
within-fine l m (some n) f h = either FineValue (leb l n && leb n m) (h n) four

named-fine : (o : Option Bytes) (f : Bytes → Value) → ((s : Bytes) → FineValue (f s)) → FineValue (named o f)
unfolding named
named-fine none f h = three
named-fine (some ds) f h = either FineValue (eqb (length ds % 2) 0) (either FineValue (leb (length ds) (2 * name_limit)) (h ds) four) three

lettered-fine : (s : Bytes) → FineValue (lettered s)
unfolding lettered
lettered-fine [] = three
lettered-fine (c ∷ []) = either FineValue (eqb c 78) tt (either FineValue (eqb c 82) tt (either FineValue (eqb c 80) tt (either FineValue (eqb c 86) tt three)))
lettered-fine (c ∷ d ∷ cs) = three

signed-fine : (s : Bytes) → FineValue (signed_of s)
unfolding signed_of
signed-fine [] = three
signed-fine (c ∷ cs) =
    either FineValue (eqb c 45) (within-fine 0 signed_shift (decimal cs) _ (λ n. either FineValue (eqb n 0) three tt))
    (within-fine 0 (signed_shift - 1) (decimal (c ∷ cs)) _ (λ n. tt))

float-fine : (o : Option Bytes) → FineValue (float_of o)
unfolding float_of
float-fine none = three
float-fine (some ds) = either FineValue (eqb (length ds) 16) tt three

bound-fine : (l : ℕ) (s : Bytes) → FineValue (bound_of l s)
unfolding bound_of
bound-fine l s = either FineValue (is_dash s) tt (either FineValue (eqb l 0) three (within-fine 0 bound_limit (decimal s) _ (λ n. tt)))

value-fine : (f : Field) (ns : List ℕ) (s : Bytes) → FineValue (value f ns s)
unfolding value
value-fine (range l m) ns s = within-fine l m (decimal s) number (λ n. tt)
value-fine variable ns s = within-fine 0 variable_limit (decimal s) _ (λ n. tt)
value-fine optional ns s = either FineValue (is_dash s) tt (within-fine 0 variable_limit (decimal s) _ (λ n. tt))
value-fine name ns s = named-fine (unhex s) name_v (λ d. tt)
value-fine alias ns s = either FineValue (is_dash s) tt (named-fine (unhex s) alias_v (λ d. tt))
value-fine bound ns s = bound-fine (get_or ns 1 0) s
value-fine letter ns s = lettered-fine s
value-fine signed ns s = signed-fine s
value-fine float ns s = float-fine (unhex s)

into-fine : (h : Head) (v : Value) (f : Head → Read) → FineValue v → ((k : Head) → FineRead (f k)) → FineRead (into h v f)
into-fine h (wrong c) f p q = p
into-fine h (number n) f p q = q _
into-fine h (variable_v v) f p q = q _
into-fine h (name_v s) f p q = q _
into-fine h (alias_v s) f p q = q _

fill-fine : (h : Head) (fs : List Field) (xs : List Bytes) → FineRead (fill h fs xs)
unfolding fill
fill-fine h [] [] = tt
fill-fine h [] (x ∷ xs) = three
fill-fine h (f ∷ fs) [] = three
fill-fine h (f ∷ fs) (x ∷ xs) = into-fine h (value f h.nums x) (λ k. fill k fs xs) (value-fine f h.nums x) (λ k. fill-fine k fs xs)

beyond-fine : (w : Want) (h : Head) → FineRead (beyond w h)
unfolding beyond
beyond-fine (first d) h = tt
beyond-fine (clauses d) h = tt
beyond-fine (bindings v d) h = either FineRead (eqb (rank (place h)) 1 && ltb (variable_of h) v) three tt
beyond-fine (at q d) h = either FineRead (eqb (rank q) 13 && eqb d 0) five tt

then-fine : (r : Read) (f : Head → Read) → FineRead r → ((h : Head) → FineRead (f h)) → FineRead (and_then r f)
then-fine (bad c) f p q = p
then-fine (ok h) f p q = q h

fields-fine : (w : Want) (v : Word) (fs : List Bytes) → FineRead (read_fields w v fs)
unfolding read_fields
fields-fine w v fs =
    either FineRead (fits w (rank (row v).place) && eqb (length fs) (length (row v).fields))
    (then-fine (fill (bare v) (row v).fields fs) (beyond w) (fill-fine (bare v) (row v).fields fs) (beyond-fine w)) three

as-fine : (w : Want) (o : Option Word) (fs : List Bytes) → FineRead (read_as w o fs)
as-fine w none fs = three
as-fine w (some v) fs = fields-fine w v fs

pieces-fine : (w : Want) (ps : List Bytes) → FineRead (read_pieces w ps)
unfolding read_pieces
pieces-fine w [] = three
pieces-fine w (x ∷ fs) = as-fine w (word_in x words) fs

line-fine : (w : Want) (l : Bytes) → FineRead (read_line w l)
unfolding read_line
line-fine w l = pieces-fine w (split 44 l)

add-fine : (h : Head) (q : Sheet) → FineSheet q → FineSheet (add h q)
unfolding add
add-fine h (refused c n) p = p
add-fine h (heads hs) p = tt

carry-fine : (n : ℕ) (r : Read) (f : Head → Sheet) → FineRead r → ((h : Head) → FineSheet (f h)) → FineSheet (carry n r f)
unfolding carry
carry-fine n (bad c) f p q = p
carry-fine n (ok h) f p q = add-fine h (f h) (q h)

check-fine : (ls : List Bytes) (ws : List Want) (n : ℕ) → FineSheet (check ws n ls)
unfolding check
check-fine [] ws n = three
check-fine ([] ∷ []) [] n = tt
check-fine ((c ∷ cs) ∷ []) [] n = three
check-fine (l ∷ l' ∷ ls) [] n = three
check-fine (l ∷ []) (w ∷ ws) n = three
check-fine (l ∷ l' ∷ ls) (w ∷ ws) n = carry-fine n (read_line w l) (λ h. check (under w h ++ ws) (suc n) (l' ∷ ls)) (line-fine w l) (λ h. check-fine (l' ∷ ls) (under w h ++ ws) (suc n))

pub sheet-fine : (d : ℕ) (s : Bytes) → FineSheet (sheet d s)
unfolding sheet
sheet-fine d s = check-fine (split 10 s) (first d ∷ []) 1
