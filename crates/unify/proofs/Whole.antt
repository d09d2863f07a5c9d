-- `unify`: what each arm asks, and that its answer is the answer. Assumes nothing.
use Rattle.std.specs.Prelude.{Ok, Err}
use mathlib.Core.Path.{◌≡◌, refl, sym, ◌∙◌, ap, subst}
use mathlib.Core.List.Memᴰ
use mathlib.Core.List.{List, [], ◌∷◌, Memᴰ}
use mathlib.Core.Option.{none}
use mathlib.Core.Bool.{false}
use Prim.Native.Nat.{ℕ, ◌+◌, ◌-◌, ◌*◌, ◌≤◌}
use native.Mathlib.Omega.{arith}
use lib.ListN.{length, length-append}
use lib.Seq.{slice, sets, slice_empty}
use Rattle.semantics.specs.Bytes.{Bytes}
use Rattle.semantics.specs.Ty.{t_num, t_unknown, Ty, base, t_relationship, t_union, Tys, members, letter, rel_to, line_to, line, is_union}
use Rattle.semantics.proofs.All.{All, empty, also}
use Rattle.semantics.proofs.Regular.{regular-sound}
use Rattle.ty.specs.Parts.{lines_of, TypeAt}
use Rattle.ty.specs.Union.{TypesAt}
use Rattle.ty.proofs.Members.{line-long, as-types}
use Rattle.ty.proofs.UnionEnds.{union-room, union-members}
use Rattle.unify_run.specs.Run.{Run, done, nullable}
use Rattle.unify.specs.Work.{Unified, span, Operand, Ready, Room, slots, judged, Answered, Below, Unifies}
use Rattle.unify.specs.Arms.{ArmIs}
use Rattle.unify.specs.Flat.{SomeOperand, OneAnswer, Copied, SomeNodes, NodesAnswer}
use Rattle.unify.specs.Lists.{SomeLists, ListsAnswer}
use Rattle.unify.specs.Merges.{SomeMaps, MapsAnswer}
use Rattle.unify.specs.Variants.{Plain, FewAt, UnionAt, SomeOuters, UnionAnswer}
use Rattle.unify.specs.declared.Span.{Span}
use Rattle.unify.specs.declared.UnifyError.TheVariants.{Mismatch}
use Rattle.unify.specs.declared.arms.Arm.{Arm}
use Rattle.unify.specs.declared.arms.Arm.TheVariants.{Left, Right, AnyUnknown, NullLeft, NullRight, Numbers, Lists, Maps, Nodes, Relationships, Unions, UnionLeft, UnionRight, Apart}
use Rattle.unify.proofs.Marks.{same_operand, operand_in, below-same}
use Rattle.unify.proofs.ArmLaws.{TwoUnions, OneUnion, Meets, operands-meet}
use Rattle.unify.proofs.FlatLaws.{written-answer, written_below}
use Rattle.unify.proofs.UnionRun.{no-members, union-plain, all_of, slots-both, slots-left, slots-right, slots-two-left, slots-two-right}
use Rattle.unify.proofs.UnionJoins.{small-long}
use Rattle.unify.proofs.PartAnswers.{slots-one}

-- ## Unions: the outer types and the variants

lines-some : (ts : List Ty) → 1 ≤ length ts → 2 ≤ length (lines_of ts)
unfolding lines_of
lines-some [] h = absurd (omega arith)
lines-some (t ∷ ts) h = omega (arith, line-long t, length-append (line t) (lines_of ts))

-- the members of an operand that is a union
record Inside (s : Bytes) (a : Span) (mark : ℕ) (ts : Tys) : Type 0 where
  few : FewAt s (span (a.from + 2) (a.to - 2)) mark (members ts)
  long : a.from + 4 ≤ a.to
  plain : All Plain (members ts)
  member : Ty
  among : Memᴰ member (members ts)

inside : {s : Bytes} {a : Span} {mark : ℕ} (ts : Tys) → Operand s a mark (t_union ts) → Inside s a mark ts
inside {s} {a} {mark} ts o =
    let g = regular-sound (t_union ts) o.regular in
    let l = union-room ts o.at in
    let m = first_member (members ts) g.0 in
    record {
      few = record {
        at = subst (λ (k : ℕ). TypesAt s (a.from + 2) k (members ts)) (omega arith) (union-members ts o.at);
        below = omega (arith, o.below);
        few = omega (arith, small-long o.at o.small);
      };
      long = omega (arith, lines-some (members ts) (omega arith));
      plain = union-plain ts (g, o.small);
      member = m.0;
      among = m.1;
    }
  where
    first_member : (l : List Ty) → 2 ≤ length l → (x : Ty) × Memᴰ x l
    first_member [] h = absurd (omega arith)
    first_member (x ∷ xs) h = (x, Memᴰ.head refl)

begin : {s : Bytes} {o a : Span} {mark : ℕ} {os : List Ty} {ts : Tys} → TypesAt s o.from o.to os → o.to ≤ mark → All Plain os → Inside s a mark ts
    → ((x y : Ty) → Memᴰ x (members ts) → Memᴰ y os → Room s mark x y) → mark + 2048 ≤ length s → UnionAt s o (span (a.from + 2) (a.to - 2)) mark 0 os (members ts) []
unfolding lines_of
begin {s} {o} {a} {mark} {os} {ts} t b p d r h =
    record {
      outers_at = t;
      outers_below = b;
      variants_at = d.few;
      running = record { at = record { ordered = omega arith; inside = omega arith; is = ap (λ (x : ℕ). slice mark x s) zero ∙ slice_empty mark s }; fit = omega arith };
      outers_plain = p;
      all_plain = d.plain;
      members = no-members;
      rooms = r;
      room_for_two = h;
    }
  where
    zero : mark + 0 ≡ mark
    zero = omega arith

plain-operand : {s : Bytes} {a : Span} {mark : ℕ} {t : Ty} → Operand s a mark t → is_union t ≡ false → Plain t
plain-operand o u = record { regular = o.regular; small = o.small; single = u }

-- two unions
both : {s : Bytes} {a b : Span} {mark : ℕ} (ts us : Tys) → Operand s a mark (t_union ts) → Operand s b mark (t_union us) → mark + 1024 * slots (t_union ts) (t_union us) ≤ length s
    → UnionAt s (span (a.from + 2) (a.to - 2)) (span (b.from + 2) (b.to - 2)) mark 0 (members ts) (members us) []
both ts us x y room =
    let d = inside ts x in
    let g = inside us y in
    begin d.few.at d.few.below d.plain g (λ v w m n. omega (arith, room, slots-both ts us v w (all_of g.plain m) (all_of d.plain n) m n))
    (omega (arith, room, slots-two-left ts (t_union us) d.member d.among))

-- a union and another type, which is the outer one
first-union : {s : Bytes} {a b : Span} {mark : ℕ} (ts : Tys) (u : Ty) → Operand s a mark (t_union ts) → Operand s b mark u → is_union u ≡ false → mark + 1024 * slots (t_union ts) u ≤ length s
    → UnionAt s b (span (a.from + 2) (a.to - 2)) mark 0 (u ∷ []) (members ts) []
first-union {s} {a} {b} {mark} ts u x y r room =
    let d = inside ts x in
    begin (as-types y.at) y.below (also (plain-operand y r) empty) d
    (λ v w m n. subst (λ (z : Ty). Room s mark v z) (sym (Memᴰ.eq_of_singleton n)) (omega (arith, room, slots-left ts u v (all_of d.plain m) r m)))
    (omega (arith, room, slots-two-left ts u d.member d.among))

second-union : {s : Bytes} {a b : Span} {mark : ℕ} (t : Ty) (us : Tys) → Operand s a mark t → Operand s b mark (t_union us) → is_union t ≡ false → mark + 1024 * slots t (t_union us) ≤ length s
    → UnionAt s a (span (b.from + 2) (b.to - 2)) mark 0 (t ∷ []) (members us) []
second-union {s} {a} {b} {mark} t us x y r room =
    let g = inside us y in
    begin (as-types x.at) x.below (also (plain-operand x r) empty) g
    (λ v w m n. subst (λ (z : Ty). Room s mark v z) (sym (Memᴰ.eq_of_singleton n)) (omega (arith, room, slots-right t us v (all_of g.plain m) r m)))
    (omega (arith, room, slots-two-right t us g.member r g.among))

-- ## The arms

module _ {s : Bytes} {a b : Span} {mark : ℕ} (p : Ready s a b mark) where
  room : mark + 1024 ≤ length s
  room = omega (arith, p.room, slots-one p.left p.right)

  pub first-operand : SomeOperand s a mark
  first-operand = record { ty = p.left; at = p.first; room = room }

  pub second-operand : SomeOperand s b mark
  second-operand = record { ty = p.right; at = p.second; room = room }

  pub slot : mark + 4 ≤ length s
  slot = omega (arith, room)

  room-of : {t u : Ty} → Operand s a mark t → Operand s b mark u → mark + 1024 * slots t u ≤ length s
  room-of {t} {u} x y =
      subst (λ (v : Ty). mark + 1024 * slots v u ≤ length s) (same_operand p.first x) (subst (λ (v : Ty). mark + 1024 * slots p.left v ≤ length s) (same_operand p.second y) p.room)

  -- what two operands meet
  module _ {n : Arm} (is : ArmIs s a b n) where
    known : {t u : Ty} → Operand s a mark t → Operand s b mark u → Meets t u (judged t u) n
    known {t} {u} x y = operands-meet x y (sym (is t u x.at y.at))

    -- an answer to it is the answer
    answered : {s' : Bytes} {r : Unified} → Below s s' mark → ((t u : Ty) → Operand s a mark t → Operand s b mark u → Meets t u (judged t u) n → Answered (judged t u) s' mark r) → Unifies s s' a b mark r
    answered w each = record { below = w; answer = λ t u x y. each t u x y (known x y) }

  as-run : (s' : Bytes) (r : Unified) {R Q : Run} → R ≡ Q → Answered Q s' mark r → Answered R s' mark r
  as-run s' r e h = subst (λ (x : Run). Answered x s' mark r) (sym e) h

  pub left-answer : ArmIs s a b Left → {s' : Bytes} {e : ℕ} → Copied s s' a mark e → Unifies s s' a b mark (Ok e)
  left-answer is c = answered is c.below (λ t u x y m. as-run _ _ m (c.answer t x))

  pub right-answer : ArmIs s a b Right → {s' : Bytes} {e : ℕ} → Copied s s' b mark e → Unifies s s' a b mark (Ok e)
  right-answer is c = answered is c.below (λ t u x y m. as-run _ _ m (c.answer u y))

  pub null-left-answer : ArmIs s a b NullLeft → {s' : Bytes} {r : Unified} → OneAnswer nullable s s' b mark r → Unifies s s' a b mark r
  null-left-answer is c = answered is c.below (λ t u x y m. as-run _ _ m (c.answer u y))

  pub null-right-answer : ArmIs s a b NullRight → {s' : Bytes} {r : Unified} → OneAnswer nullable s s' a mark r → Unifies s s' a b mark r
  null-right-answer is c = answered is c.below (λ t u x y m. as-run _ _ m (c.answer t x))

  -- a line that is given
  given-answer : {n : Arm} → ArmIs s a b n → (t : Ty) (w : Bytes) → line t ≡ w → length w ≤ 4 → {s' : Bytes} → s' ≡ sets s mark w
      → ((v u : Ty) → Meets v u (judged v u) n → judged v u ≡ done t) → {e : ℕ} → e ≡ mark + length w → Unifies s s' a b mark (Ok e)
  given-answer is t w l h {s'} k runs {e} z =
      answered is (written_below s mark w k) (λ v u x y m. as-run _ _ (runs v u m) (subst (λ (j : ℕ). TypeAt s' mark j t) (sym z) (written-answer s mark w k t l (omega (arith, room)))))

  pub unknown-answer : ArmIs s a b AnyUnknown → {s' : Bytes} {e : ℕ} → e ≡ mark + 2 → s' ≡ sets s mark (80 ∷ 44 ∷ []) → Unifies s s' a b mark (Ok e)
  unfolding line line_to letter
  unknown-answer is z k = given-answer is (base t_unknown) (80 ∷ 44 ∷ []) refl (omega arith) k (λ v u m. m) z

  pub number-answer : ArmIs s a b Numbers → {s' : Bytes} {e : ℕ} → e ≡ mark + 2 → s' ≡ sets s mark (70 ∷ 44 ∷ []) → Unifies s s' a b mark (Ok e)
  unfolding line line_to letter
  number-answer is z k = given-answer is (base t_num) (70 ∷ 44 ∷ []) refl (omega arith) k (λ v u m. m) z

  pub relationship-answer : ArmIs s a b Relationships → {s' : Bytes} {e : ℕ} → e ≡ mark + 4 → s' ≡ sets s mark (77 ∷ 44 ∷ 33 ∷ 44 ∷ []) → Unifies s s' a b mark (Ok e)
  unfolding line line_to rel_to
  relationship-answer is z k = given-answer is (t_relationship none) (77 ∷ 44 ∷ 33 ∷ 44 ∷ []) refl (omega arith) k (λ v u m. m) z

  pub apart-answer : ArmIs s a b Apart → Unifies s s a b mark (Err (Mismatch a b))
  apart-answer is = answered is (below-same s mark) (λ t u x y m. as-run _ _ m (operand_in x, operand_in y))

  -- ### Lists, maps and nodes

  pub two-lists : ArmIs s a b Lists → SomeLists s a b mark
  two-lists is =
      let m = known is p.first p.second in
      let x = subst (λ (t : Ty). Operand s a mark t) m.first_is p.first in
      let y = subst (λ (t : Ty). Operand s b mark t) m.second_is p.second in
      record { left = m.first; right = m.second; first = x; second = y; room = room-of x y }

  pub lists-answer : ArmIs s a b Lists → {s' : Bytes} {r : Unified} → ListsAnswer s s' a b mark r → Unifies s s' a b mark r
  lists-answer is h =
      answered is h.below
      (λ t u x y m. as-run _ _ m.runs (h.answer m.first m.second (subst (λ (v : Ty). Operand s a mark v) m.first_is x) (subst (λ (v : Ty). Operand s b mark v) m.second_is y)))

  pub two-maps : ArmIs s a b Maps → SomeMaps s a b mark
  two-maps is =
      let m = known is p.first p.second in
      let x = subst (λ (t : Ty). Operand s a mark t) m.first_is p.first in
      let y = subst (λ (t : Ty). Operand s b mark t) m.second_is p.second in
      record { left = m.first; right = m.second; first = x; second = y; room = room-of x y }

  pub maps-answer : ArmIs s a b Maps → {s' : Bytes} {r : Unified} → MapsAnswer s s' a b mark r → Unifies s s' a b mark r
  maps-answer is h =
      answered is h.below
      (λ t u x y m. as-run _ _ m.runs (h.answer m.first m.second (subst (λ (v : Ty). Operand s a mark v) m.first_is x) (subst (λ (v : Ty). Operand s b mark v) m.second_is y)))

  pub two-nodes : ArmIs s a b Nodes → SomeNodes s a b mark
  two-nodes is =
      let m = known is p.first p.second in
      record {
        first_labels = m.first;
        second_labels = m.second;
        first = subst (λ (t : Ty). Operand s a mark t) m.first_is p.first;
        second = subst (λ (t : Ty). Operand s b mark t) m.second_is p.second;
        room = room;
      }

  pub nodes-answer : ArmIs s a b Nodes → {s' : Bytes} {r : Unified} → NodesAnswer s s' a b mark r → Unifies s s' a b mark r
  nodes-answer is h =
      answered is h.below
      (λ t u x y m. as-run _ _ m.runs (h.answer m.first m.second (subst (λ (v : Ty). Operand s a mark v) m.first_is x) (subst (λ (v : Ty). Operand s b mark v) m.second_is y)))

  -- ### Unions

  module _ (is : ArmIs s a b Unions) where
    two-unions : {t u : Ty} → Operand s a mark t → Operand s b mark u → (m : TwoUnions t u (judged t u)) → UnionAt s (span (a.from + 2) (a.to - 2)) (span (b.from + 2) (b.to - 2)) mark 0 (members m.first) (members m.second) []
    two-unions x y m =
        let v = subst (λ (t : Ty). Operand s a mark t) m.first_is x in
        let w = subst (λ (t : Ty). Operand s b mark t) m.second_is y in
        both m.first m.second v w (room-of v w)

    pub unions-long : (a.from + 4 ≤ a.to) × (b.from + 4 ≤ b.to)
    unions-long =
        let m = known is p.first p.second in
        ((inside m.first (subst (λ (t : Ty). Operand s a mark t) m.first_is p.first)).long, (inside m.second (subst (λ (t : Ty). Operand s b mark t) m.second_is p.second)).long)

    pub unions-ready : SomeOuters s (span (a.from + 2) (a.to - 2)) (span (b.from + 2) (b.to - 2)) mark
    unions-ready = let m = known is p.first p.second in record { types = members m.first; all = members m.second; union = two-unions p.first p.second m }

    pub unions-answer : {s' : Bytes} {r : Unified} → UnionAnswer s s' (span (a.from + 2) (a.to - 2)) (span (b.from + 2) (b.to - 2)) mark r → Unifies s s' a b mark r
    unions-answer h = answered is h.below (λ t u x y m. as-run _ _ m.runs (h.answer (members m.first) (members m.second) (two-unions x y m)))

  module _ (is : ArmIs s a b UnionLeft) where
    union-left : {t u : Ty} → Operand s a mark t → Operand s b mark u → (m : OneUnion t u (judged t u)) → UnionAt s b (span (a.from + 2) (a.to - 2)) mark 0 (u ∷ []) (members m.types) []
    union-left {t} {u} x y m = let v = subst (λ (w : Ty). Operand s a mark w) m.is x in first-union m.types u v y m.single (room-of v y)

    pub left-long : a.from + 4 ≤ a.to
    left-long = let m = known is p.first p.second in (inside m.types (subst (λ (t : Ty). Operand s a mark t) m.is p.first)).long

    pub left-ready : SomeOuters s b (span (a.from + 2) (a.to - 2)) mark
    left-ready = let m = known is p.first p.second in record { types = p.right ∷ []; all = members m.types; union = union-left p.first p.second m }

    pub left-union-answer : {s' : Bytes} {r : Unified} → UnionAnswer s s' b (span (a.from + 2) (a.to - 2)) mark r → Unifies s s' a b mark r
    left-union-answer h = answered is h.below (λ t u x y m. as-run _ _ m.runs (h.answer (u ∷ []) (members m.types) (union-left x y m)))

  module _ (is : ArmIs s a b UnionRight) where
    union-right : {t u : Ty} → Operand s a mark t → Operand s b mark u → (m : OneUnion u t (judged t u)) → UnionAt s a (span (b.from + 2) (b.to - 2)) mark 0 (t ∷ []) (members m.types) []
    union-right {t} {u} x y m = let v = subst (λ (w : Ty). Operand s b mark w) m.is y in second-union t m.types x v m.single (room-of x v)

    pub right-long : b.from + 4 ≤ b.to
    right-long = let m = known is p.first p.second in (inside m.types (subst (λ (t : Ty). Operand s b mark t) m.is p.second)).long

    pub right-ready : SomeOuters s a (span (b.from + 2) (b.to - 2)) mark
    right-ready = let m = known is p.first p.second in record { types = p.left ∷ []; all = members m.types; union = union-right p.first p.second m }

    pub right-union-answer : {s' : Bytes} {r : Unified} → UnionAnswer s s' a (span (b.from + 2) (b.to - 2)) mark r → Unifies s s' a b mark r
    right-union-answer h = answered is h.below (λ t u x y m. as-run _ _ m.runs (h.answer (t ∷ []) (members m.types) (union-right x y m)))
