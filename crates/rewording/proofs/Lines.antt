-- The lines of a report, read off its bytes: no line holds a LF, so the pieces between the LFs are the lines that were written.
use mathlib.Core.Path.{◌≡◌, refl, sym, ◌∙◌, ap, ap₂}
use mathlib.Core.List.{List, [], ◌∷◌, ◌++◌, map as map_l, append-nil}
use mathlib.Core.Option.{Option, none, some}
use mathlib.Core.Bool.{Bool, true, cond, ◌&&◌, and-eq-true_iff}
use Prim.Native.Nat.{ℕ, suc, zero, ◌+◌, ◌/◌, ◌%◌, ◌<◌}
use native.Mathlib.Omega.{arith}
use lib.ListN.{length}
use lib.Dec.{ltb}
use borrow.Author.Tests.{lt-ltb, ltb-true, ne_eqb}
use Rattle.semantics.specs.Bytes.{Bytes, text, same, front, split, unlines, shown_in, shown, hex}
use Rattle.semantics.specs.Ty.{Base, t_any, t_null, t_bool, t_int, t_float, t_num, t_string, t_date, t_datetime, t_path, t_unknown, Ty, base, t_list, t_map, t_node, t_relationship, t_union, Tys, ∅, ◌⊕◌, Fields, ∅ᶠ, field, letter, name_to, names_to, labels_to, rel_to, line_to, members_to, fields_to, line}
use Rattle.semantics.specs.Builtins.{ArgShape, s_any, s_list, s_string, s_list_or_string, s_graph_entity, s_map, s_graph_entity_or_map, Builtin, builtin_id, builtin_size, builtin_head, builtin_tail, builtin_last, builtin_keys, builtin_values, signature, describe}
use Rattle.semantics.specs.Walk.{Fault, fault_2009, fault_2010, fault_2011, fault_2012, fault_2013, fault_5012, Top}
use Rattle.semantics.specs.Calls.{type_name, fault_text, fault_line, top_line, fault_count, end_line, top_lines, report_lines, report}
use Rattle.semantics.proofs.Order.{hex-low}
use Rattle.semantics.proofs.All.{All, empty, also, all_append, either}
use Rattle.rewording.specs.Reword.{pieces, type_lines, into_first, fault_groups, last_line, occurrences, EachAsOften, Each, no_more, more, Agree}
use Rattle.rewording.proofs.Congruence.{count_if, Same, TopLike, each_append, each-length}

-- ## No LF in a line

clean : Bytes → Bool
clean [] = true
clean (c ∷ cs) = ltb 10 c && clean cs

abbrev Clean : Bytes → Type 0
Clean l = clean l ≡ true

clean-cons : (c : ℕ) (cs : Bytes) → 10 < c → Clean cs → Clean (c ∷ cs)
unfolding clean
clean-cons c cs h e = rw (lt-ltb 10 c h, e)

clean-append : (a b : Bytes) → Clean a → Clean b → Clean (a ++ b)
unfolding clean
clean-append [] b p q = q
clean-append (c ∷ a) b p q = clean-cons c (a ++ b) (ltb-true 10 c ((and-eq-true_iff (ltb 10 c) (clean a)).0 p).0) (clean-append a b ((and-eq-true_iff (ltb 10 c) (clean a)).0 p).1 q)

name-clean : (t : Ty) → Clean (type_name t)
unfolding clean type_name text
name-clean (base b) = elim b as (λ k. Clean (type_name (base k))) [ t_any ↦ refl | t_null ↦ refl | t_bool ↦ refl | t_int ↦ refl | t_float ↦ refl | t_num ↦ refl | t_string ↦ refl | t_date ↦ refl | t_datetime ↦ refl | t_path ↦ refl | t_unknown ↦ refl ]
name-clean (t_list t) = refl
name-clean (t_map fs) = refl
name-clean (t_node ls) = refl
name-clean (t_relationship n) = refl
name-clean (t_union ts) = refl

describe-clean : (s : ArgShape) → Clean (describe s)
unfolding clean describe text
describe-clean s_any = refl
describe-clean s_list = refl
describe-clean s_string = refl
describe-clean s_list_or_string = refl
describe-clean s_graph_entity = refl
describe-clean s_map = refl
describe-clean s_graph_entity_or_map = refl

builtin-clean : (b : Builtin) → Clean (signature b).name
unfolding clean signature text
builtin-clean builtin_id = refl
builtin-clean builtin_size = refl
builtin-clean builtin_head = refl
builtin-clean builtin_tail = refl
builtin-clean builtin_last = refl
builtin-clean builtin_keys = refl
builtin-clean builtin_values = refl

fault-clean : (f : Fault) → Clean (fault_line f)
unfolding clean fault_line fault_text text
fault-clean (fault_2009 t) = name-clean t
fault-clean (fault_2010 t) = name-clean t
fault-clean (fault_2011 t) = name-clean t
fault-clean (fault_2012 a e) = clean-append (type_name a) (44 ∷ type_name e) (name-clean a) (name-clean e)
fault-clean (fault_2013 t) = name-clean t
fault-clean (fault_5012 b t p) =
    clean-append (signature b).name (44 ∷ (type_name t ++ (44 ∷ describe p))) (builtin-clean b) (clean-append (type_name t) (44 ∷ describe p) (name-clean t) (describe-clean p))

letter-high : (b : Base) → 10 < letter b
unfolding letter
letter-high b = elim b as (λ k. 10 < letter k) [ t_any ↦ omega arith | t_null ↦ omega arith | t_bool ↦ omega arith | t_int ↦ omega arith | t_float ↦ omega arith | t_num ↦ omega arith | t_string ↦ omega arith | t_date ↦ omega arith | t_datetime ↦ omega arith | t_path ↦ omega arith | t_unknown ↦ omega arith ]

name-to-clean : (n r : Bytes) → Clean r → Clean (name_to n r)
unfolding name_to
name-to-clean [] r e = clean-cons 44 r (omega arith) e
name-to-clean (d ∷ n) r e = clean-cons (hex d) (name_to n r) (omega (arith, hex-low d)) (name-to-clean n r e)

mark-clean : (c : ℕ) (r : Bytes) → 10 < c → Clean r → Clean (c ∷ 44 ∷ r)
mark-clean c r h e = clean-cons c (44 ∷ r) h (clean-cons 44 r (omega arith) e)

names-clean : (ns : List Bytes) (r : Bytes) → Clean r → Clean (names_to ns r)
unfolding names_to
names-clean [] r e = mark-clean 33 r (omega arith) e
names-clean (n ∷ ns) r e = name-to-clean n (names_to ns r) (names-clean ns r e)

labels-clean : (ls : Option (List Bytes)) (r : Bytes) → Clean r → Clean (labels_to ls r)
unfolding labels_to
labels-clean none r e = mark-clean 33 r (omega arith) e
labels-clean (some ls) r e = mark-clean 43 (names_to ls r) (omega arith) (names-clean ls r e)

rel-clean : (n : Option Bytes) (r : Bytes) → Clean r → Clean (rel_to n r)
unfolding rel_to
rel-clean none r e = mark-clean 33 r (omega arith) e
rel-clean (some n) r e = mark-clean 43 (name_to n r) (omega arith) (name-to-clean n r e)

mutual
  unfolding line_to

  line_clean : (t : Ty) (r : Bytes) → Clean r → Clean (line_to t r)
  line_clean (base b) r e = mark-clean (letter b) r (letter-high b) e
  line_clean (t_list t) r e = mark-clean 74 (line_to t r) (omega arith) (line_clean t r e)
  line_clean (t_map fs) r e = mark-clean 75 (fields_to fs r) (omega arith) (fields-clean fs r e)
  line_clean (t_node ls) r e = mark-clean 76 (labels_to ls r) (omega arith) (labels-clean ls r e)
  line_clean (t_relationship n) r e = mark-clean 77 (rel_to n r) (omega arith) (rel-clean n r e)
  line_clean (t_union ts) r e = mark-clean 79 (members_to ts r) (omega arith) (members-clean ts r e)

  members-clean : (ts : Tys) (r : Bytes) → Clean r → Clean (members_to ts r)
  members-clean ∅ r e = mark-clean 33 r (omega arith) e
  members-clean (t ⊕ ts) r e = line_clean t (members_to ts r) (members-clean ts r e)

  fields-clean : (fs : Fields) (r : Bytes) → Clean r → Clean (fields_to fs r)
  fields-clean ∅ᶠ r e = mark-clean 33 r (omega arith) e
  fields-clean (field n t fs) r e = name-to-clean n (line_to t (fields_to fs r)) (line_clean t (fields_to fs r) (fields-clean fs r e))

top-clean : (t : Ty) → Clean (top_line t)
unfolding top_line line
top-clean t = mark-clean 84 (line_to t []) (omega arith) (line_clean t [] (unfold clean in refl))

shown-in-clean : (k n : ℕ) (r : Bytes) → Clean r → Clean (shown_in k n r)
unfolding shown_in
shown-in-clean zero n r e = e
shown-in-clean (suc k) n r e = either Clean (ltb n 10) (clean-cons (48 + n) r (omega arith) e) (shown-in-clean k (n / 10) ((48 + n % 10) ∷ r) (clean-cons (48 + n % 10) r (omega arith) e))

shown-clean : (n : ℕ) → Clean (shown n)
unfolding shown
shown-clean n = shown-in-clean 20 n [] (unfold clean in refl)

end_clean : (ts : List Top) → Clean (end_line ts)
unfolding end_line clean text
end_clean ts = clean-append (shown (length ts)) (44 ∷ shown (fault_count ts)) (shown-clean (length ts)) (shown-clean (fault_count ts))

-- ## The pieces of a report

split-clean : (l r : Bytes) → Clean l → split 10 (l ++ (10 ∷ r)) ≡ l ∷ split 10 r
split-clean [] r e = unfold split in refl
split-clean (c ∷ l) r e = go (unfold clean in ((and-eq-true_iff (ltb 10 c) (clean l)).0 e).0) (split-clean l r (unfold clean in ((and-eq-true_iff (ltb 10 c) (clean l)).0 e).1))
  where
    go : ltb 10 c ≡ true → split 10 (l ++ (10 ∷ r)) ≡ l ∷ split 10 r → split 10 (c ∷ (l ++ (10 ∷ r))) ≡ (c ∷ l) ∷ split 10 r
    go h ih = unfold split front in (let n : 10 < c = ltb-true 10 c h in rw (ne_eqb c 10 (λ p. omega arith), split, ih))

split-unlines : {ls : List Bytes} → All Clean ls → split 10 (unlines ls) ≡ ls ++ ([] ∷ [])
unfolding unlines
split-unlines empty = unfold split in refl
split-unlines (also {x = l} {xs = ls} p ps) = split-clean l (unlines ls) p ∙ ap (λ z. l ∷ z) (split-unlines ps)

faults-clean : (fs : List Fault) → All Clean (map_l fault_line fs)
faults-clean [] = empty
faults-clean (f ∷ fs) = also (fault-clean f) (faults-clean fs)

tops-clean : (ts : List Top) {r : List Bytes} → All Clean r → All Clean (top_lines ts r)
unfolding top_lines
tops-clean [] p = p
tops-clean (t ∷ ts) p = all_append (faults-clean t.faults) (also (top-clean t.ty) (tops-clean ts p))

under-faults : (fs : List Fault) (l : Bytes) (a b c : List Bytes) → a ++ b ≡ c → (map_l fault_line fs ++ (l ∷ a)) ++ b ≡ map_l fault_line fs ++ (l ∷ c)
under-faults [] l a b c e = ap (λ z. l ∷ z) e
under-faults (f ∷ fs) l a b c e = ap (λ z. fault_line f ∷ z) (under-faults fs l a b c e)

tops-append : (ts : List Top) (a b : List Bytes) → top_lines ts a ++ b ≡ top_lines ts (a ++ b)
unfolding top_lines
tops-append [] a b = refl
tops-append (t ∷ ts) a b = under-faults t.faults (top_line t.ty) (top_lines ts a) b (top_lines ts (a ++ b)) (tops-append ts a b)

pub report-pieces : (ts : List Top) → pieces (report ts) ≡ top_lines ts (end_line ts ∷ [] ∷ [])
unfolding report report_lines
report-pieces ts = split-unlines (tops-clean ts (also (end_clean ts) empty)) ∙ tops-append ts (end_line ts ∷ []) ([] ∷ [])

-- ## What is read off them

abbrev top_line_of : Top → Bytes
top_line_of t = top_line t.ty

types-after : (fs : List Fault) (t : Ty) (r : List Bytes) → type_lines (map_l fault_line fs ++ (top_line t ∷ r)) ≡ top_line t ∷ type_lines r
unfolding type_lines fault_line top_line
types-after [] t r = refl
types-after (f ∷ fs) t r = types-after fs t r

types-of-end : (ts : List Top) → type_lines (end_line ts ∷ [] ∷ []) ≡ []
unfolding type_lines end_line text
types-of-end ts = refl

types-of-tops : (ts : List Top) (r : List Bytes) → type_lines (top_lines ts r) ≡ map_l top_line_of ts ++ type_lines r
unfolding top_lines
types-of-tops [] r = refl
types-of-tops (t ∷ ts) r = types-after t.faults t.ty (top_lines ts r) ∙ ap (λ z. top_line_of t ∷ z) (types-of-tops ts r)

-- the type lines of a report
pub report-types : (ts : List Top) → type_lines (pieces (report ts)) ≡ map_l top_line_of ts
report-types ts = rw (report-pieces ts, types-of-tops ts (end_line ts ∷ [] ∷ []), types-of-end ts) (append-nil (map_l top_line_of ts))

abbrev fault_lines_of : Top → List Bytes
fault_lines_of t = map_l fault_line t.faults

groups-after : (fs : List Fault) (t : Ty) (r : List Bytes) → fault_groups (map_l fault_line fs ++ (top_line t ∷ r)) ≡ map_l fault_line fs ∷ fault_groups r
groups-after [] t r = unfold fault_groups top_line in refl
groups-after (f ∷ fs) t r = front-group f fs t r (groups-after fs t r)
  where
    front-group : (f : Fault) (fs : List Fault) (t : Ty) (r : List Bytes) → fault_groups (map_l fault_line fs ++ (top_line t ∷ r)) ≡ map_l fault_line fs ∷ fault_groups r
        → fault_groups (map_l fault_line (f ∷ fs) ++ (top_line t ∷ r)) ≡ map_l fault_line (f ∷ fs) ∷ fault_groups r
    front-group f fs t r ih = unfold fault_groups into_first fault_line in (ap (into_first (fault_line f)) ih)

groups-of-end : (ts : List Top) → fault_groups (end_line ts ∷ [] ∷ []) ≡ [] ∷ []
unfolding fault_groups end_line text
groups-of-end ts = refl

groups-of-tops : (ts : List Top) (r : List Bytes) → fault_groups (top_lines ts r) ≡ map_l fault_lines_of ts ++ fault_groups r
unfolding top_lines
groups-of-tops [] r = refl
groups-of-tops (t ∷ ts) r = groups-after t.faults t.ty (top_lines ts r) ∙ ap (λ z. fault_lines_of t ∷ z) (groups-of-tops ts r)

-- the fault lines before each type line of a report, and none after the last
pub report-faults : (ts : List Top) → fault_groups (pieces (report ts)) ≡ map_l fault_lines_of ts ++ ([] ∷ [])
report-faults ts = rw (report-pieces ts, groups-of-tops ts (end_line ts ∷ [] ∷ []), groups-of-end ts)

last_of : (ls : List Bytes) (e : Bytes) → last_line (ls ++ (e ∷ [] ∷ [])) ≡ e
unfolding last_line
last_of [] e = refl
last_of (l ∷ []) e = refl
last_of (l ∷ m ∷ []) e = refl
last_of (l ∷ m ∷ n ∷ ls) e = last_of (m ∷ n ∷ ls) e

-- the last line of a report
pub report-last : (ts : List Top) → last_line (pieces (report ts)) ≡ end_line ts
report-last ts = rw (report-pieces ts, ← tops-append ts [] (end_line ts ∷ [] ∷ [])) (last_of (top_lines ts []) (end_line ts))

-- ## Alike top expressions have reports that agree

occurs-count : (l : Bytes) (fs : List Fault) → occurrences l (map_l fault_line fs) ≡ count_if (λ f. same l (fault_line f)) fs
unfolding occurrences count_if
occurs-count l [] = refl
occurs-count l (f ∷ fs) = ap (λ z. cond (same l (fault_line f)) 1 0 + z) (occurs-count l fs)

groups-alike : {ts us : List Top} → Each (TopLike Same) ts us → Each EachAsOften (map_l fault_lines_of ts) (map_l fault_lines_of us)
groups-alike no_more = no_more
groups-alike (more {x = t} {y = u} p ps) = more (λ l. occurs-count l t.faults ∙ p.faults (λ f. same l (fault_line f)) ∙ sym (occurs-count l u.faults)) (groups-alike ps)

types-alike : {ts us : List Top} → Each (TopLike Same) ts us → map_l top_line_of ts ≡ map_l top_line_of us
types-alike no_more = refl
types-alike (more p ps) = ap₂ (λ (a : Bytes) (b : List Bytes). a ∷ b) (ap top_line p.ty) (types-alike ps)

count-all : (fs : List Fault) → count_if (λ f. true) fs ≡ length fs
unfolding count_if
count-all [] = refl
count-all (f ∷ fs) = let e = count-all fs in omega arith

counts-alike : {ts us : List Top} → Each (TopLike Same) ts us → fault_count ts ≡ fault_count us
unfolding fault_count
counts-alike no_more = refl
counts-alike (more {x = t} {y = u} p ps) = ap₂ ◌+◌ (sym (count-all t.faults) ∙ p.faults (λ f. true) ∙ count-all u.faults) (counts-alike ps)

ends-alike : {ts us : List Top} → Each (TopLike Same) ts us → end_line ts ≡ end_line us
unfolding end_line
ends-alike ps = rw (each-length ps, counts-alike ps)

pub reports-agree : {ts us : List Top} → Each (TopLike Same) ts us → Agree (report ts) (report us)
reports-agree {ts} {us} ps =
    record {
      types = report-types ts ∙ types-alike ps ∙ sym (report-types us);
      faults = rw (report-faults ts, report-faults us) (each_append (groups-alike ps) (more (λ l. refl) no_more));
      last = report-last ts ∙ ends-alike ps ∙ sym (report-last us);
    }
