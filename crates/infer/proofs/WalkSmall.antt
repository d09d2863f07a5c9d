-- Small facts of the walks: faults added one after the other, a type behind what is kept, room for a unification, the name of an entry,
-- and a line's numbers. Assumes nothing.
use mathlib.Core.Path.{◌≡◌, refl, sym, ◌∙◌, ap}
use mathlib.Core.List.{List, [], ◌∷◌, ◌++◌, append_assoc, map}
use mathlib.Core.Option.{none, some}
use Prim.Native.Nat.{ℕ, ◌+◌, ◌-◌, ◌*◌, ◌≤◌, ◌<◌}
use native.Mathlib.Omega.{arith}
use lib.ListN.{length, take, drop, set, length-append, length-map, length-replicate, replicate}
use lib.Seq.{slice, length-sets, length-take-le, drop_at, take-append-add}
use Rattle.semantics.specs.Bytes.{Bytes, hex}
use Rattle.semantics.specs.Ty.{Ty, base, t_unknown, t_list, line, line_to, letter, regular}
use Rattle.semantics.specs.Sheet.{Head, Typing, constant, var_type, element, slice as slicing, listing, mapping, calling, operator, unary, casing, membership, comprehension, typed, row, rule, roles, arity, at, wanted, Shape, nothing, one, two, bounds, arms as arms_under, times, times_then, around, one_then, one_times, plain, condition, answer, inner}
use Rattle.semantics.specs.Walk.{Fault}
use Rattle.semantics.proofs.Regular.{regular-sound}
use Rattle.unify_run.proofs.Size.{element-inside, small-sound, small-true}
use Rattle.unify.specs.Work.{slots}
use Rattle.line.specs.Line.{HeadIs}
use Rattle.line.specs.declared.line.Head.{Head as Seen}
use Rattle.line.specs.Words.{word_of}
use Rattle.hir.specs.Kids.{first_size, first_spot, second_size, second_spot, bits, kid_wants}
use Rattle.hir.specs.Check.{KidsAs}
use Rattle.hir.specs.declared.valid.Kids.{Kids}
use Rattle.hir.proofs.PlaceLaws.{kids-of, flag_small, count_small}
use Rattle.ty.specs.Parts.{TypeAt}
use Rattle.report.specs.Report.{faults_text, Adds}
use Rattle.report.specs.declared.Report.{Report}
use Rattle.report.proofs.ReportLaws.{faults-append}
use Rattle.walk_run.specs.Run.{Kept, empty, over, kept, both, items, last, entries, arms, Kids as Ran, stopped, passed, after}
use Rattle.walk_run.proofs.Levels.{Low}
use Rattle.exprs.specs.State.{Fine, FineKept}
use Rattle.bounds.proofs.Rooms.{low-fit}
use Rattle.exprs.specs.Rules.{typing_rule, line_rule}
use Rattle.exprs.specs.declared.rule.Rule.{Rule}
use Rattle.infer.specs.Steps.{RoomIn, ChildRoom, RoomOf}
use Rattle.infer.proofs.WalkKept.{LowKept, weak}
use Rattle.infer.proofs.EndLaws.{name-spelt}

-- ## Faults

pub text-long : (a b : List Fault) → length (faults_text (a ++ b)) ≡ length (faults_text a) + length (faults_text b)
text-long a b = ap length (faults-append a b) ∙ length-append (faults_text a) (faults_text b)

pub adds-long : {a : List Fault} {y z : Report} → Adds a y z → length z.writer.now.out.now ≡ length y.writer.now.out.now
adds-long {a} {y} x = ap length x.text ∙ length-sets y.writer.now.out.now y.writer.now.fill (faults_text a)

-- ## Children run one after the other

pub after_none : (x : Ran) → after [] x ≡ x
after_none (stopped l) = refl
after_none (passed k fs) = refl

pub after_two : (fs gs : List Fault) (x : Ran) → after fs (after gs x) ≡ after (fs ++ gs) x
after_two fs gs (stopped l) = refl
after_two fs gs (passed k hs) = ap (passed k) (sym (append_assoc fs gs hs))

-- ## A type behind what is kept

pub type-behind : (s ys : Bytes) (m n : ℕ) (t : Ty) → m ≤ length s → TypeAt ys 0 n t → TypeAt (take m s ++ ys) m (m + n) t
type-behind s ys m n t l a =
    let x = take m s in
    let e : length x ≡ m = length-take-le m s l in
    record {
      ordered = omega arith;
      inside = omega (arith, length-append x ys, a.inside);
      is = ap (λ (k : ℕ). drop m (take (k + n) (x ++ ys))) (sym e) ∙ ap (drop m) (take-append-add x ys n) ∙ drop_at x (take n ys) m e ∙ a.is;
    }

pub unknown-front : (w : Bytes) → 2 ≤ length w → TypeAt (set (set w 0 80) 1 44) 0 2 (base t_unknown)
unfolding line line_to letter
unknown-front [] l = absurd (omega arith)
unknown-front (x ∷ []) l = absurd (omega arith)
unknown-front (x ∷ y ∷ w) l = record { ordered = omega arith; inside = omega arith; is = refl }

-- ## Room

fine-element : (t : Ty) → Fine (t_list t) → Fine t
unfolding regular
fine-element t f =
    let i = element-inside t in
    let m = small-sound (t_list t) f.small in
    record { regular = f.regular; small = small-true t (omega arith) }

pub fit-fine : (d : ℕ) (a b : Ty) → 1 ≤ d → Fine a → Fine b → Low (d - 1) a → Low (d - 1) b → 2048 + 1024 * slots a b ≤ 1024 * (d + 40)
fit-fine d a b p x y l m = low-fit d a b p (regular-sound a x.regular) (regular-sound b y.regular) x.small y.small l m

room_in : (d : ℕ) (k : Kept) (t : Ty) (s : Bytes) (e : ℕ) → 1 ≤ d → FineKept k → LowKept (d - 1) k → Fine t → Low (d - 1) t → e ≤ 2048 → 1024 * (d + 40) ≤ length s → RoomIn k t s e
room_in d empty t s e p f l g m q r = tt
room_in d over t s e p f l g m q r = tt
room_in d (kept u) t s e p f l g m q r = tt
room_in d (both u v) t s e p f l g m q r = tt
room_in d (items none) t s e p f l g m q r = tt
room_in d (items (some u)) t s e p f l g m q r = omega (arith, fit-fine d u t p (fine-element u f) g l m)
room_in d (last o) t s e p f l g m q r = tt
room_in d (entries fs) t s e p f l g m q r = tt
room_in d (arms ms) t s e p f l g m q r = tt

pub child-room : (q : Typing) (d : ℕ) (k : Kept) (t : Ty) (s : Bytes) (e : ℕ) → 1 ≤ d → FineKept k → LowKept (d - 1) k → Fine t → Low (d - 1) t → e ≤ 2048 → 1024 * (d + 40) ≤ length s → ChildRoom q k t s e
child-room (constant c) d k t s e p f l g m n r = tt
child-room var_type d k t s e p f l g m n r = tt
child-room element d k t s e p f l g m n r = tt
child-room slicing d k t s e p f l g m n r = tt
child-room listing d k t s e p f l g m n r = room_in d k t s e p f l g m n r
child-room mapping d k t s e p f l g m n r = tt
child-room calling d k t s e p f l g m n r = tt
child-room operator d k t s e p f l g m n r = tt
child-room unary d k t s e p f l g m n r = tt
child-room casing d k t s e p f l g m n r = tt
child-room membership d k t s e p f l g m n r = tt
child-room comprehension d k t s e p f l g m n r = tt

pub low-weak : (m : ℕ) (k : Kept) → LowKept m k → LowKept m (weak k)
low-weak m empty x = x
low-weak m over x = x
low-weak m (kept u) x = x
low-weak m (both u v) x = x
low-weak m (items e) x = x
low-weak m (last e) x = tt
low-weak m (entries fs) x = x
low-weak m (arms ms) x = x

pub end-room : (d : ℕ) (k : Kept) (s : Bytes) (e : ℕ) → 1 ≤ d → FineKept k → LowKept (d - 1) k → e ≤ 2048 → 1024 * (d + 40) ≤ length s → RoomOf k s e
end-room d empty s e p f l q r = tt
end-room d over s e p f l q r = tt
end-room d (kept u) s e p f l q r = tt
end-room d (both u v) s e p f l q r = (omega (arith, fit-fine d u v p f.0 f.1 l.0 l.1), omega arith)
end-room d (items o) s e p f l q r = tt
end-room d (last o) s e p f l q r = tt
end-room d (entries fs) s e p f l q r = tt
end-room d (arms ms) s e p f l q r = tt

-- ## Names

-- the digits of a line's name
pub spelt-name : {s : Bytes} {k : Seen} {h : Head} → HeadIs s k h → slice k.name k.stop s ≡ map hex h.name
spelt-name {s} {k} {h} i = name-spelt (slice k.name k.stop s) h.name i.name

-- ## A line's numbers

pub asks-kids : (s : Bytes) (k : Seen) (h : Head) → HeadIs s k h → (k.count ≤ 9999) × (k.flag ≤ 3)
asks-kids s k h i = (count_small s k h i, flag_small s k h i)

times_long : {A : Type 0} (n m : ℕ) (a b : A) → length (replicate n a ++ replicate m b) ≡ n + m
times_long n m a b = omega (arith, length-append (replicate n a) (replicate m b), length-replicate n a, length-replicate m b)

wants-long : (u : Shape) (c f d : ℕ) → length (kid_wants u c f d) ≡ first_size u c (bits f) + second_size u c (bits f)
unfolding kid_wants
wants-long u c f d = times_long (first_size u c (bits f)) (second_size u c (bits f)) (at (first_spot u) d) (at (second_spot u) d)

pub kids-arity : (s : Bytes) (k : Seen) (h : Head) (r : Kids) → HeadIs s k h → KidsAs k r → r.all ≡ arity h
unfolding arity
kids-arity s k h r i x = omega (arith, x.all, x.first, ap length (kids-of s k h 0 i), length-map (roles h) (wanted 0), wants-long (row (word_of k.word)).under k.count k.flag 0)

-- no line has more children
sizes-small : (u : Shape) (c b : ℕ) → c ≤ 9999 → b ≤ 2 → first_size u c b + second_size u c b < 131072
sizes-small nothing c b l m = omega arith
sizes-small two c b l m = omega arith
sizes-small bounds c b l m = omega arith
sizes-small arms_under c b l m = omega arith
sizes-small (one p) c b l m = omega arith
sizes-small (times i p) c b l m = omega arith
sizes-small (times_then i p j) c b l m = omega arith
sizes-small (around plain j) c b l m = omega arith
sizes-small (around condition j) c b l m = omega arith
sizes-small (around answer j) c b l m = omega arith
sizes-small (around (inner q) j) c b l m = omega arith
sizes-small (one_then j) c b l m = omega arith
sizes-small (one_times i p) c b l m = omega arith

pub kids-small : (s : Bytes) (k : Seen) (h : Head) (r : Kids) → HeadIs s k h → KidsAs k r → r.all < 131072
kids-small s k h r i x =
    let a = asks-kids s k h i in
    let f = k.flag in
    let b : bits f ≤ 2 = omega (arith, a.1) in
    omega (arith, x.all, x.first, sizes-small (row (word_of k.word)).under k.count (bits f) a.0 b)

pub rule-number : (h : Head) (q : Typing) (r : Rule) → rule h ≡ typed q → r ≡ line_rule (row h.word).rule → r ≡ typing_rule q
unfolding line_rule
rule-number h q r e d = d ∙ ap line_rule e
