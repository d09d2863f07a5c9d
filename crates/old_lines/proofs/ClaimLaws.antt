-- The claims about the call. Assumes nothing.
use mathlib.Core.Path.{◌≡◌, refl, sym, ◌∙◌, ap}
use mathlib.Core.List.{List, [], ◌∷◌}
use mathlib.Core.Option.{Option, none, some}
use mathlib.Core.Bool.{Bool, true, false, false≢true}
use Prim.Native.Nat.{◌≤◌, Ordering}
use native.Mathlib.Omega.{arith}
use lib.Dec.{eqb, ltb}
use lib.ListN.{length, take, drop}
use lib.Seq.{take_at}
use Rattle.semantics.specs.Limits.{work_size}
use Rattle.semantics.specs.Bytes.{Bytes, lex}
use Rattle.semantics.specs.Ty.{Ty, base, t_list, t_map, t_node, t_relationship, t_union, Tys, ∅, ◌⊕◌, Fields, ∅ᶠ, field, members, pack, line, order, too_large, insert, inserts, opened, gather, joined, unite, set_field, insert_name, insert_names, type_line}
use Rattle.semantics.specs.Calls.{Settled, untouched, cleared, answered}
use Rattle.semantics.proofs.All.{All, empty, also}
use Rattle.semantics.proofs.Named.{Name, Names, Maybe, Named, NamedS, NamedF}
use Rattle.semantics.proofs.Order.{line_eq}
use Rattle.semantics.proofs.Regular.{regular-true}
use Rattle.semantics.proofs.Reader.{read-sound, reads-back}
use Rattle.text.specs.Text.{is_found}
use Rattle.old_lines.specs.Old.{old_output, old_line, made_labels, made, made_s, made_f, regular_of, regular_call}
use Rattle.old_lines.specs.Claims.{MeanSame, Gives, RegularLines}
use Rattle.old_lines.proofs.Alike.{some-eq}
use Rattle.old_lines.proofs.Made.{made-regular}
use Rattle.old_lines.proofs.Theorem.{regular-old, old-lines}
use Rattle.old_lines.proofs.Sound.{old-sound, call-answers}

-- ## What is made of names has names

insert-named : (n : Bytes) (ms : List Bytes) → Name n → Names ms → Names (insert_name n ms)
unfolding insert_name
insert-named n [] h g = (h, tt)
insert-named n (m ∷ ms) h g = go (insert-named n ms h g.1) (lex n m)
  where
    go : Names (insert_name n ms) → (o : Ordering) → Names (elim o [ Ordering.lt ↦ n ∷ m ∷ ms | Ordering.eq ↦ m ∷ ms | Ordering.gt ↦ m ∷ insert_name n ms ])
    go k Ordering.lt = (h, g)
    go k Ordering.eq = g
    go k Ordering.gt = (g.0, k)

inserts-named : (ns ms : List Bytes) → Names ns → Names ms → Names (insert_names ns ms)
unfolding insert_names
inserts-named [] ms h g = g
inserts-named (n ∷ ns) ms h g = inserts-named ns (insert_name n ms) h.1 (insert-named n ms h.0 g)

labels-named : (ls : Option (List Bytes)) → Maybe Names ls → Maybe Names (made_labels ls)
unfolding made_labels
labels-named none h = tt
labels-named (some ls) h = inserts-named ls [] h tt

set-named : (n : Bytes) (t : Ty) (fs : Fields) → Name n → Named t → NamedF fs → NamedF (set_field n t fs)
unfolding set_field
set-named n t ∅ᶠ h g f = (h, g, tt)
set-named n t (field m u fs) h g f = go (set-named n t fs h g f.2) (lex n m)
  where
    go : NamedF (set_field n t fs) → (o : Ordering) → NamedF (elim o [ Ordering.lt ↦ field n t (field m u fs) | Ordering.eq ↦ field n t fs | Ordering.gt ↦ field m u (set_field n t fs) ])
    go k Ordering.lt = (h, g, f)
    go k Ordering.eq = (h, g, f.2)
    go k Ordering.gt = (f.0, f.1, k)

add-named : (x : Ty) (ms : List Ty) → Named x → All Named ms → All Named (insert x ms)
unfolding insert
add-named x [] h g = also h empty
add-named x (y ∷ ys) h (also k g) = go (add-named x ys h g) (order x y)
  where
    go : All Named (insert x ys) → (o : Ordering) → All Named (elim o [ Ordering.lt ↦ x ∷ y ∷ ys | Ordering.eq ↦ y ∷ ys | Ordering.gt ↦ y ∷ insert x ys ])
    go r Ordering.lt = also h (also k g)
    go r Ordering.eq = also k g
    go r Ordering.gt = also k r

adds-named : (xs ms : List Ty) → All Named xs → All Named ms → All Named (inserts xs ms)
unfolding inserts
adds-named [] ms h g = g
adds-named (x ∷ xs) ms (also h k) g = adds-named xs (insert x ms) k (add-named x ms h g)

members-named : (ts : Tys) → NamedS ts → All Named (members ts)
unfolding members
members-named ∅ h = empty
members-named (t ⊕ ts) h = also h.0 (members-named ts h.1)

opened-named : (t : Ty) → Named t → All Named (opened t)
unfolding opened
opened-named (base b) h = also h empty
opened-named (t_list t) h = also h empty
opened-named (t_map fs) h = also h empty
opened-named (t_node ls) h = also h empty
opened-named (t_relationship n) h = also h empty
opened-named (t_union ts) h = members-named ts h

gather-named : (ts ms : List Ty) → All Named ts → All Named ms → All Named (gather ts ms)
unfolding gather
gather-named [] ms h g = g
gather-named (t ∷ ts) ms (also h k) g = gather-named ts (inserts (opened t) ms) k (adds-named (opened t) ms (opened-named t h) g)

pack-named : (ts : List Ty) → All Named ts → NamedS (pack ts)
unfolding pack
pack-named [] h = tt
pack-named (t ∷ ts) (also h g) = (h, pack-named ts g)

joined-named : (ts : List Ty) → All Named ts → Named (joined ts)
unfolding joined
joined-named [] h = tt
joined-named (t ∷ []) (also h g) = h
joined-named (t ∷ u ∷ ts) h = pack-named (t ∷ u ∷ ts) h

mutual
  unfolding made unite

  made-named : (t : Ty) → Named t → Named (made t)
  made-named (base b) h = tt
  made-named (t_list t) h = made-named t h
  made-named (t_map fs) h = made-named_f fs h
  made-named (t_node ls) h = labels-named ls h
  made-named (t_relationship n) h = h
  made-named (t_union ts) h = joined-named (gather (made_s ts) []) (gather-named (made_s ts) [] (made-named_s ts h) empty)

  made-named_s : (ts : Tys) → NamedS ts → All Named (made_s ts)
  made-named_s ∅ h = empty
  made-named_s (t ⊕ ts) h = also (made-named t h.0) (made-named_s ts h.1)

  made-named_f : (fs : Fields) → NamedF fs → NamedF (made_f fs)
  made-named_f ∅ᶠ h = tt
  made-named_f (field n t fs) h = set-named n (made t) (made_f fs) h.0 (made-named t h.1) (made-named_f fs h.2)

-- ## An accepted call

record Accepted (s work out : Bytes) (x : Settled) : Type 0 where
  pub ty : Ty
  pub read : old_line s ≡ some ty
  pub small : too_large (made ty) ≡ false
  pub is : x ≡ answered (line (made ty)) work out

accepted : (s work out : Bytes) → (regular_call s work out).number ≡ 0 → Accepted s work out (regular_call s work out)
unfolding regular_call regular_of
accepted s work out = go (eqb (length work) work_size) (ltb (length out) old_output) (old_line s) refl
  where
    Reading : Settled → Type 0
    Reading x = x.number ≡ 0 → Accepted s work out x

    made-small : (t : Ty) (c : Bool) → old_line s ≡ some t → too_large (made t) ≡ c → Reading (elim c [ true ↦ cleared 6 0 work out | false ↦ answered (line (made t)) work out ])
    made-small t true e p = λ z. absurd (omega arith)
    made-small t false e p = λ _. record { ty = t; read = e; small = p; is = refl }

    go : (a b : Bool) (o : Option Ty) → old_line s ≡ o → Reading (elim a [ true ↦ elim b [ true ↦ cleared 7 0 work out | false ↦ regular_of o work out ] | false ↦ untouched 2 work out ])
    go false b o e = λ z. absurd (omega arith)
    go true true o e = λ z. absurd (omega arith)
    go true false none e = λ z. absurd (omega arith)
    go true false (some t) e = made-small t (too_large (made t)) e refl

given : (x : Settled) (l work out : Bytes) → x ≡ answered l work out → take x.first x.out ≡ l
given x l work out e = ap (λ (z : Settled). take z.first z.out) e ∙ take_at l (drop (length l) out) (length l) refl

module _ {s work out r : Bytes} (g : Gives s work out r) where
  whole : Accepted s work out (regular_call s work out)
  whole = accepted s work out g.number

  gives : r ≡ line (made whole.ty)
  gives = sym g.bytes ∙ given (regular_call s work out) (line (made whole.ty)) work out whole.is

  -- whatever type is read
  gives_of : (t : Ty) → old_line s ≡ some t → r ≡ line (made t)
  gives_of t e = gives ∙ ap (λ (u : Ty). line (made u)) (some-eq (sym whole.read ∙ e))

  strictly : type_line r ≡ some (made whole.ty)
  strictly =
      let t = whole.ty in
      ap type_line gives
      ∙ reads-back (made t) (made-named t (old-sound s t whole.read).1.0) (regular-true (made t) (made-regular t)) whole.small

  kept : MeanSame s r
  kept =
      let t = whole.ty in
      let (read, stays) = regular-old r (made t) strictly in
      record { ty = t; other = made t; read = whole.read; read_other = read; same = (old-lines s r t (made t) whole.read read).0 (ap line (sym stays)) }

-- ## Calls for lines of one meaning

same-made : (s z : Bytes) (m : MeanSame s z) → made m.ty ≡ made m.other
same-made s z m = line_eq (made m.ty) (made m.other) ((old-lines s z m.ty m.other m.read m.read_other).1 m.same)

calls-alike : (s z work out : Bytes) → MeanSame s z → regular_call s work out ≡ regular_call z work out
unfolding regular_call regular_of
calls-alike s z work out m = ap (λ (x : Settled). at x) of-same
  where
    at : Settled → Settled
    at x = elim (eqb (length work) work_size) [ true ↦ elim (ltb (length out) old_output) [ true ↦ cleared 7 0 work out | false ↦ x ] | false ↦ untouched 2 work out ]

    of : Ty → Settled
    of u = elim (too_large u) [ true ↦ cleared 6 0 work out | false ↦ answered (line u) work out ]

    of-same : regular_of (old_line s) work out ≡ regular_of (old_line z) work out
    of-same =
        ap (λ (o : Option Ty). regular_of o work out) m.read
        ∙ ap of (same-made s z m)
        ∙ sym (ap (λ (o : Option Ty). regular_of o work out) m.read_other)

-- ## A regular line

line_stays : (s work out : Bytes) → is_found (type_line s) ≡ true → length work ≡ work_size → old_output ≤ length out → Gives s work out s
line_stays s work out h size room = go (type_line s) refl h
  where
    answer : (t : Ty) → type_line s ≡ some t → regular_call s work out ≡ answered s work out
    answer t e =
        let (read, stays) = regular-old s t e in
        let (is, _, small, _) = read-sound s t e in
        call-answers s work out size room t read (ap too_large stays ∙ small) ∙ ap (λ (l : Bytes). answered l work out) (ap line stays ∙ is)

    go : (o : Option Ty) → type_line s ≡ o → is_found o ≡ true → Gives s work out s
    go none e f = absurd (false≢true f)
    go (some t) e f =
        record {
          number = ap (λ (x : Settled). x.number) (answer t e);
          bytes = given (regular_call s work out) s work out (answer t e);
        }

pub regular-lines : RegularLines
regular-lines =
    record {
      equal_same = λ s z work out work' out' r x g h e.
          let t = (whole g).ty in
          let u = (whole h).ty in
          record {
            ty = t;
            other = u;
            read = (whole g).read;
            read_other = (whole h).read;
            same = (old-lines s z t u (whole g).read (whole h).read).0 (sym (gives g) ∙ e ∙ gives h);
          };
      same_equal = λ s z work out work' out' r x g h m. gives_of g m.ty m.read ∙ ap line (same-made s z m) ∙ sym (gives_of h m.other m.read_other);
      same_call = calls-alike;
      stays = line_stays;
      regular = λ s work out r g. ap is_found (strictly g);
      keeps = λ s work out r g. kept g;
    }
