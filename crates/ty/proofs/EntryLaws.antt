-- An entry goes into a map line: where, and the bytes that are moved. Assumes nothing.
use Prim.Native.Nat.{Ordering}
use Prim.Native.Nat.{ℕ, suc, ◌+◌, ◌-◌, ◌≤◌, ◌<◌}
use native.Mathlib.Omega.{arith}
use mathlib.Core.Path.{◌≡◌, refl, sym, ap, ap₂, ◌∙◌}
use mathlib.Core.Bool.{Bool, true, false, not, false≢true}
use mathlib.Core.List.{[], ◌∷◌, ◌++◌, map, append_assoc}
use mathlib.Core.Option.{some}
use borrow.Author.Tests.{lt-ltb, le-ltb, ltb-false}
use lib.Dec.{ltb}
use lib.ListN.{length, take, drop, set, length-append, length-take, length-set}
use lib.Seq.{slice, sets, length-slice, length-sets, length-take-le, take-take, take_at, drop_at, drop-drop}
use Rattle.std.specs.Prelude.{Option as StdOption, Some, None}
use Rattle.semantics.specs.Bytes.{Bytes, lex, hex}
use Rattle.semantics.specs.Ty.{Ty, t_map, Fields, ∅ᶠ, field, name_to, line_to, fields_to, line, too_large, set_field}
use Rattle.semantics.proofs.Order.{lex-lt, lex-gt, lex-eq, Tri, lt, eq, gt, tri, set-lt, set-eq, set-gt}
use Rattle.text.specs.Text.{rotated, Ends, order_of}
use Rattle.std.specs.declared.cmp.Ordering.{Ordering as Order}
use Rattle.std.specs.declared.cmp.Ordering.TheVariants.{Less as Before, Equal, Greater}
use Rattle.text.proofs.Laws.{part_slice, slice-join, take-join, sets-append, sets-mid, sets-parts, take-sets, rotated-parts, length-rotated, take-rotated, slice-mid}
use Rattle.ty.specs.Parts.{TypeAt, SomeType, TypeFrom, EndsAt}
use Rattle.ty.specs.Made.{Made, made}
use Rattle.ty.specs.Merging.{head_to, HeadAt, entry_to}
use Rattle.ty.specs.Entry.{MapFront, Goes, Fronted, inserted_at, replaced_at, FrontOf, TestedAs}
use Rattle.ty.specs.declared.map.Spot.TheVariants.{New, Old}
use Rattle.text.specs.Text.{index_of}
use Rattle.text.proofs.Words.{ends}
use Rattle.ty.specs.Keys.{NameBelow}
use Rattle.ty.specs.Skip.{next_field}
use Rattle.ty.proofs.Lines.{line-to, name-to, nesting-line, nesting-pos}
use Rattle.ty.proofs.Skips.{type-room}
use Rattle.ty.proofs.NameLaws.{name-append, name-long, name-drop, name-ends, name_part, lex-hex}
use Rattle.ty.proofs.MergeLaws.{drop-part}

-- ## The bytes that are moved

-- the answer of a text that was made at the front
pub fronted-over : (s s' l : Bytes) (n : ℕ) → length l ≡ n → 1024 < n → length s' ≡ length s → Fronted s s' l None
fronted-over s s' l n e h long =
    record { answer = sym (ap (λ (b : Bool). made b (length l)) (lt-ltb 1024 (length l) (omega (arith, e, h)))); stands = λ w. absurd (omega (arith, e, h, w)); long = long }

pub fronted-within : (s s' l : Bytes) (n : ℕ) → length l ≡ n → n ≤ 1024 → length s' ≡ length s → take n s' ≡ l → Fronted s s' l (Some n)
fronted-within s s' l n e h long w =
    record {
      answer = sym (ap (λ (b : Bool). made b (length l)) (le-ltb 1024 (length l) (omega (arith, e, h))) ∙ ap Some e);
      stands = λ _. ap (λ (k : ℕ). take k s') e ∙ w;
      long = long;
    }

module _ (s x : Bytes) (len end p : ℕ) (hp : p ≤ len) (hl : len ≤ end) (he : end ≤ length s) where
  front_long : length (take p s) ≡ p
  front_long = length-take-le p s (omega arith)

  back_long : length (slice p len s) ≡ len - p
  back_long = length-slice p len s (omega arith)

  value-long : length (slice len end s) ≡ end - len
  value-long = length-slice len end s he

  pub inserted-long : length (inserted_at s len end p x) ≡ end + (length x + 1)
  unfolding inserted_at
  inserted-long =
      let a = front_long in
      let b = back_long in
      let v = value-long in
      length-append (take p s) (x ++ (44 ∷ (slice len end s ++ slice p len s)))
      ∙ omega (arith, length-append x (44 ∷ (slice len end s ++ slice p len s)), length-append (slice len end s) (slice p len s))

  module _ (s₁ s₂ s₄ : Bytes) (c : ℕ) (room : end + (length x + 1) ≤ length s) (e₁ : s₁ ≡ sets s (p + (length x + 1)) (slice p (p + (end - p)) s)) (e₂ : s₂ ≡ sets s₁ p x)
      (ec : c ≡ p + length x) (e₄ : s₄ ≡ rotated (p + (length x + 1)) (len + (length x + 1)) (end + (length x + 1)) (set s₂ c 44)) where
    gap : ℕ
    gap = length x + 1

    both : Bytes
    both = slice p len s ++ slice len end s

    rest : Bytes
    rest = drop (end + gap) s

    both_long : length both ≡ end - p
    unfolding both
    both_long = length-append (slice p len s) (slice len end s) ∙ omega (arith, back_long, value-long)

    slid : s₁ ≡ take p s ++ (slice p (p + gap) s ++ (both ++ rest))
    unfolding gap both rest
    slid =
        let q : p + (end - p) ≡ end = omega arith in
        let l = both_long in
        let w : p + gap + length both ≡ end + gap = omega arith in
        e₁
        ∙ ap (λ (k : ℕ). sets s (p + gap) (slice p k s)) q
        ∙ ap (sets s (p + gap)) (sym (slice-join p len end s hp hl))
        ∙ sets-parts s (p + gap) both (omega (arith, l, room))
        ∙ ap₂ (λ (y : Bytes) (k : ℕ). y ++ (both ++ drop k s)) (sym (take-join p (p + gap) s (omega arith))) w
        ∙ append_assoc (take p s) (slice p (p + gap) s) (both ++ rest)

    named : set s₂ c 44 ≡ take p s ++ ((x ++ (44 ∷ [])) ++ (both ++ rest))
    unfolding gap
    named =
        ap₂ (λ (y : Bytes) (k : ℕ). set y k 44) e₂ ec
        ∙ sym (sets-append s₁ p x (44 ∷ []))
        ∙ ap (λ (y : Bytes). sets y p (x ++ (44 ∷ []))) slid
        ∙ sets-mid (take p s) (slice p (p + gap) s) (both ++ rest) (x ++ (44 ∷ [])) p front_long
        (length-append x (44 ∷ []) ∙ sym (length-slice p (p + gap) s (omega (arith, room)) ∙ omega arith))

    turned : s₄ ≡ (take p s ++ (x ++ (44 ∷ []))) ++ (slice len end s ++ (slice p len s ++ rest))
    unfolding gap both
    turned =
        let n = length-append (take p s) (x ++ (44 ∷ [])) in
        let o = length-append x (44 ∷ []) in
        e₄
        ∙ ap (rotated (p + gap) (len + gap) (end + gap))
        (named ∙ sym (append_assoc (take p s) (x ++ (44 ∷ [])) (both ++ rest)) ∙ ap (λ (y : Bytes). (take p s ++ (x ++ (44 ∷ []))) ++ y) (append_assoc (slice p len s) (slice len end s) rest))
        ∙ rotated-parts (take p s ++ (x ++ (44 ∷ []))) (slice p len s) (slice len end s) rest (p + gap) (len + gap) (end + gap)
        (n ∙ omega (arith, o, front_long)) (omega (arith, back_long)) (omega (arith, value-long))

    pub inserted-length : length s₄ ≡ length s
    unfolding gap
    inserted-length =
        let l : length (set s₂ c 44) ≡ length s = length-set s₂ c 44 ∙ ap length e₂ ∙ length-sets s₁ p x ∙ ap length e₁ ∙ simp length-sets in
        ap length e₄ ∙ length-rotated (p + gap) (len + gap) (end + gap) (set s₂ c 44) (omega arith) (omega arith) (omega (arith, l, room)) ∙ l

    pub inserted-front : take (end + (length x + 1)) s₄ ≡ inserted_at s len end p x
    unfolding inserted_at gap
    inserted-front =
        let a : Bytes = take p s in
        let n : Bytes = x ++ (44 ∷ []) in
        let v : Bytes = slice len end s in
        let b : Bytes = slice p len s in
        let whole : a ++ (x ++ (44 ∷ (v ++ b))) ≡ (a ++ n) ++ (v ++ b) = sym (append_assoc a n (v ++ b) ∙ ap (λ (y : Bytes). a ++ y) (append_assoc x (44 ∷ []) (v ++ b))) in
        ap (take (end + gap)) (turned ∙ ap (λ (y : Bytes). (a ++ n) ++ y) (sym (append_assoc v b rest)) ∙ sym (append_assoc (a ++ n) (v ++ b) rest))
        ∙ take_at ((a ++ n) ++ (v ++ b)) rest (end + gap) (sym (ap length whole) ∙ unfold inserted_at in inserted-long)
        ∙ sym whole

module _ (s : Bytes) (len end v e : ℕ) (hv : v ≤ e) (he : e ≤ len) (hl : len ≤ end) (hs : end ≤ length s) where
  pub replaced-long : length (replaced_at s len end v e) ≡ end - (e - v)
  unfolding replaced_at
  replaced-long =
      length-append (take v s) (slice len end s ++ slice e len s)
      ∙ omega (arith, length-append (slice len end s) (slice e len s), length-take-le v s (omega arith), length-slice len end s hs, length-slice e len s (omega arith))

  module _ (s₁ s₂ : Bytes) (e₁ : s₁ ≡ rotated e len end s) (e₂ : s₂ ≡ sets s₁ v (slice e (e + (end - e)) s₁)) where
    pub turned-length : length s₁ ≡ length s
    turned-length = ap length e₁ ∙ length-rotated e len end s he hl hs

    pub replaced-length : length s₂ ≡ length s
    replaced-length = ap length e₂ ∙ length-sets s₁ v (slice e (e + (end - e)) s₁) ∙ turned-length

    pub replaced-front : take (end - (e - v)) s₂ ≡ replaced_at s len end v e
    unfolding replaced_at
    replaced-front =
        let new : Bytes = slice len end s ++ slice e len s in
        let long : length new ≡ end - e = length-append (slice len end s) (slice e len s) ∙ omega (arith, length-slice len end s hs, length-slice e len s (omega arith)) in
        let is : slice e (e + (end - e)) s₁ ≡ new =
        ap (slice e (e + (end - e))) (e₁ ∙ ap (λ (y : Bytes). take e s ++ y) (sym (append_assoc (slice len end s) (slice e len s) (drop end s))))
        ∙ slice-mid (take e s) new (drop end s) e (e + (end - e)) (length-take-le e s (omega arith)) (omega (arith, long)) in
        let q : end - (e - v) ≡ v + length new = omega (arith, long) in
        let t = turned-length in
        ap₂ (λ (k : ℕ) (y : Bytes). take k y) q (e₂ ∙ ap (sets s₁ v) is)
        ∙ take-sets s₁ v new (omega (arith, long, t))
        ∙ ap (λ (y : Bytes). y ++ new) (ap (take v) e₁ ∙ take-rotated e len end s he hl hs v hv)

-- ## The size of what was made

pub front-from : (s : Bytes) (n : ℕ) → SomeType s 0 n → TypeFrom (take n s) 0
unfolding line
front-from s n h = record { ty = h.ty; rest = []; is = h.at.is }

not-false : (b r : Bool) → r ≡ not b → r ≡ true → b ≡ false
not-false true r e h = absurd (false≢true (sym e ∙ h))
not-false false r e h = refl

not-true : (b r : Bool) → r ≡ not b → r ≡ false → b ≡ true
not-true true r e h = refl
not-true false r e h = absurd (false≢true (sym h ∙ e))

pub tested-fits : (n : ℕ) (t : Ty) (r : Bool) → r ≡ not (too_large t) → r ≡ true → Some n ≡ made (too_large t) n
tested-fits n t r e h = sym (ap (λ (b : Bool). made b n) (not-false (too_large t) r e h))

pub tested-large : (n : ℕ) (t : Ty) (r : Bool) → r ≡ not (too_large t) → r ≡ false → None ≡ made (too_large t) n
tested-large n t r e h = sym (ap (λ (b : Bool). made b n) (not-true (too_large t) r e h))

-- a type line that was made at the front
module _ (s s' l : Bytes) (u : Ty) (r : StdOption ℕ) (is : l ≡ line u) (h : Fronted s s' l r) where
  at_front : length l ≤ 1024 → TypeAt s' 0 (length l) u
  at_front w = let p = h.stands w in record { ordered = omega arith; inside = omega (arith, ap length p, length-take (length l) s'); is = p ∙ is }

  pub fronted-some : FrontOf s' r
  fronted-some = go (ltb 1024 (length l)) refl h.answer
    where
      go : (b : Bool) → ltb 1024 (length l) ≡ b → r ≡ made b (length l) → FrontOf s' r
      go true e q = rw q tt
      go false e q = rw q (record { ty = u; at = at_front (ltb-false 1024 (length l) e) })

  long-large : ltb 1024 (length l) ≡ true → too_large u ≡ true
  unfolding too_large
  long-large e = rw (← is, e)

  pub fronted-made : (r' : StdOption ℕ) → TestedAs s' r r' → Made s s' 0 u r'
  fronted-made r' = go (ltb 1024 (length l)) refl h.answer
    where
      long : length l ≡ length (line u)
      long = ap length is

      zero-plus : (n : ℕ) → n ≡ 0 + n
      zero-plus n = omega arith

      go : (b : Bool) → ltb 1024 (length l) ≡ b → r ≡ made b (length l) → TestedAs s' r r' → Made s s' 0 u r'
      go true e q w =
          let large = long-large e in
          record {
            answer = (rw q at w) ∙ sym (ap (λ (b : Bool). made b (length (line u))) large);
            stands = λ z. absurd (false≢true (sym z ∙ large));
            below = refl;
            long = h.long;
          }
      go false e q w =
          let front = at_front (ltb-false 1024 (length l) e) in
          record {
            answer = (rw q at w) u front ∙ ap (made (too_large u)) long;
            stands = λ z. rw (← zero-plus (length (line u)), ← long) front;
            below = refl;
            long = h.long;
          }

-- ## Where the entry goes

-- the bytes say the line of the map with the entry
module _ (s x : Bytes) (len : ℕ) (fs : Fields) (n : Bytes) (front : MapFront s len x fs n) where
  map-long : length (line (t_map fs)) ≡ len
  map-long = sym (ap length front.at.is) ∙ length-take-le len s front.at.inside

  map-take : (p : ℕ) → p ≤ len → take p (line (t_map fs)) ≡ take p s
  map-take p h = ap (take p) (sym front.at.is) ∙ take-take p len s h

  map-drop : (p : ℕ) → drop p (line (t_map fs)) ≡ slice p len s
  map-drop p = ap (drop p) (sym front.at.is)

  pub new_in : (p : ℕ) → Goes (line (t_map fs)) fs n (New p) → p ≤ len
  new_in p g = omega (arith, g.0, map-long)

  pub old-in : (v e : ℕ) → Goes (line (t_map fs)) fs n (Old v e) → (v ≤ e) × (e ≤ len)
  old-in v e g = (g.0, omega (arith, g.1, map-long))

  pub new_line : (end p : ℕ) (t : Ty) → TypeAt s len end t → Goes (line (t_map fs)) fs n (New p) → inserted_at s len end p x ≡ line (t_map (set_field n t fs))
  unfolding inserted_at
  new_line end p t v g =
      let w : Bytes = slice p len s in
      let a : name_to n (line t) ++ drop p (line (t_map fs)) ≡ x ++ (44 ∷ (slice len end s ++ w)) =
      ap₂ (λ (y z : Bytes). y ++ z) (name-to n (line t)) (map-drop p)
      ∙ append_assoc (map hex n) (44 ∷ line t) w
      ∙ ap₂ (λ (y z : Bytes). y ++ (44 ∷ (z ++ w))) (sym front.spelt) (sym v.is) in
      sym (g.1 t ∙ ap₂ (λ (y z : Bytes). y ++ z) (map-take p (new_in p g)) a)

  pub old-line : (end v e : ℕ) (t : Ty) → TypeAt s len end t → Goes (line (t_map fs)) fs n (Old v e) → replaced_at s len end v e ≡ line (t_map (set_field n t fs))
  unfolding replaced_at
  old-line end v e t w g =
      let i = old-in v e g in
      sym (g.2 t ∙ ap₂ (λ (y z : Bytes). y ++ z) (map-take v (omega (arith, i.0, i.1))) (ap₂ (λ (y z : Bytes). y ++ z) (sym w.is) (map-drop e)))

-- ## The search

-- an entry and what follows it
pub entry-split : (n : Bytes) (t : Ty) (fs : Fields) → fields_to (field n t fs) [] ≡ entry_to n t ++ fields_to fs []
unfolding fields_to entry_to
entry-split n t fs = ap (name_to n) (line-to t (fields_to fs [])) ∙ sym (name-append n (line t) (fields_to fs []))

pub entry-long : (n : Bytes) (t : Ty) → length (entry_to n t) ≡ length n + 1 + length (line t)
unfolding entry_to
entry-long n t = name-long n (line t)

pub fields-long : (fs : Fields) → 2 ≤ length (fields_to fs [])
unfolding fields_to
fields-long ∅ᶠ = omega arith
fields-long (field n t fs) = omega (arith, ap length (entry-split n t fs), length-append (entry_to n t) (fields_to fs []), fields-long fs)

-- the entries `left` are still to be looked at from q on
pub record Looking (fs : Fields) (n : Bytes) (q : ℕ) : Type 0 where
  pub done : Bytes
  pub left : Fields
  pub is : line (t_map fs) ≡ done ++ fields_to left []
  pub at : q ≡ length done
  pub set : (t : Ty) → line (t_map (set_field n t fs)) ≡ done ++ fields_to (set_field n t left) []

pub looking : (fs : Fields) (n : Bytes) → Looking fs n 2
unfolding line line_to
looking fs n = record { done = 75 ∷ 44 ∷ []; left = fs; is = refl; at = refl; set = λ t. refl }

-- an entry is left
pub record Met (fs : Fields) (n : Bytes) (q : ℕ) : Type 0 where
  pub done : Bytes
  pub name : Bytes
  pub ty : Ty
  pub rest : Fields
  pub is : line (t_map fs) ≡ done ++ (entry_to name ty ++ fields_to rest [])
  pub at : q ≡ length done
  pub set : (t : Ty) → line (t_map (set_field n t fs)) ≡ done ++ fields_to (set_field n t (field name ty rest)) []

pub met : (fs : Fields) (n : Bytes) (q : ℕ) → Looking fs n q → q + 2 < length (line (t_map fs)) → Met fs n q
met fs n q k h = go k.left k.is k.set
  where
    go : (left : Fields) → line (t_map fs) ≡ k.done ++ fields_to left [] → ((t : Ty) → line (t_map (set_field n t fs)) ≡ k.done ++ fields_to (set_field n t left) []) → Met fs n q
    go ∅ᶠ i w = absurd (unfold fields_to in omega (arith, h, ap length i, length-append k.done (33 ∷ 44 ∷ []), k.at))
    go (field m u rest) i w =
        record { done = k.done; name = m; ty = u; rest = rest; is = i ∙ ap (λ (r : Bytes). k.done ++ r) (entry-split m u rest); at = k.at; set = w }

take_done : (d r : Bytes) (q : ℕ) → q ≡ length d → take q (d ++ r) ≡ d
take_done d r q e = take_at d r q (sym e)

drop-done : (d r : Bytes) (q : ℕ) → q ≡ length d → drop q (d ++ r) ≡ r
drop-done d r q e = drop_at d r q (sym e)

set-none : (n : Bytes) (t : Ty) → fields_to (set_field n t ∅ᶠ) [] ≡ entry_to n t ++ fields_to ∅ᶠ []
unfolding set_field
set-none n t = entry-split n t ∅ᶠ

-- no entry is left: the new one is the last
at-end : (fs : Fields) (n : Bytes) (q len : ℕ) → length (line (t_map fs)) ≡ len → Looking fs n q → len - 2 ≤ q → Goes (line (t_map fs)) fs n (New (len - 2))
unfolding entry_to
at-end fs n q len long k h = go k.left k.is k.set
  where
    go : (left : Fields) → line (t_map fs) ≡ k.done ++ fields_to left [] → ((t : Ty) → line (t_map (set_field n t fs)) ≡ k.done ++ fields_to (set_field n t left) [])
        → Goes (line (t_map fs)) fs n (New (len - 2))
    go ∅ᶠ i w =
        let l : length (line (t_map fs)) ≡ length k.done + 2 = unfold fields_to in (ap length i ∙ length-append k.done (33 ∷ 44 ∷ [])) in
        let e : len - 2 ≡ length k.done = omega (arith, l, long) in (
          omega (arith, l, long),
          λ t. w t
              ∙ ap (λ (r : Bytes). k.done ++ r) (set-none n t)
              ∙ sym (ap₂ (λ (y z : Bytes). y ++ (entry_to n t ++ z)) (ap (take (len - 2)) i ∙ take_done k.done (fields_to ∅ᶠ []) (len - 2) e) (ap (drop (len - 2)) i ∙ drop-done k.done (fields_to ∅ᶠ []) (len - 2) e)),
        )
    go (field m u rest) i w =
        absurd (omega (arith, h, k.at, long, ap length i, length-append k.done (fields_to (field m u rest) []), ap length (entry-split m u rest), length-append (entry_to m u) (fields_to rest []), entry-long m u, fields-long rest))

pub at_last : (s x : Bytes) (len : ℕ) (fs : Fields) (n : Bytes) (q : ℕ) → MapFront s len x fs n → Looking fs n q → len - 2 ≤ q → Goes (line (t_map fs)) fs n (New (len - 2))
at_last s x len fs n q front k h = at-end fs n q len (map-long s x len fs n front) k h

pub look : (s x : Bytes) (len : ℕ) (fs : Fields) (n : Bytes) (q : ℕ) → MapFront s len x fs n → Looking fs n q → q < len - 2 → Met fs n q
look s x len fs n q front k h = met fs n q k (omega (arith, h, map-long s x len fs n front))

pub q_in : (s x : Bytes) (len : ℕ) (fs : Fields) (n : Bytes) (q : ℕ) → MapFront s len x fs n → q < len - 2 → q ≤ length s
q_in s x len fs n q front h = let i = front.at.inside in omega arith

-- the entry that is met, in the text
module _ (s x : Bytes) (len : ℕ) (fs : Fields) (n : Bytes) (q : ℕ) (front : MapFront s len x fs n) (k : Met fs n q) where
  met-drop : drop q s ≡ entry_to k.name k.ty ++ (fields_to k.rest [] ++ drop len s)
  met-drop =
      let l = map-long s x len fs n front in
      let long : length (line (t_map fs)) ≡ length k.done + length (entry_to k.name k.ty ++ fields_to k.rest []) = ap length k.is ∙ length-append k.done (entry_to k.name k.ty ++ fields_to k.rest []) in
      drop-part s q len (entry_to k.name k.ty ++ fields_to k.rest []) (omega (arith, l, long, k.at))
      (sym (map-drop s x len fs n front q) ∙ ap (drop q) k.is ∙ drop-done k.done (entry_to k.name k.ty ++ fields_to k.rest []) q k.at)
      ∙ append_assoc (entry_to k.name k.ty) (fields_to k.rest []) (drop len s)

  pub met-head : HeadAt s q (some k.name)
  unfolding head_to entry_to
  met-head = record { rest = line k.ty ++ (fields_to k.rest [] ++ drop len s); is = met-drop ∙ name-append k.name (line k.ty) (fields_to k.rest [] ++ drop len s) }

  module _ (c : ℕ) (ends : Ends 44 s q c) where
    pub met-comma : c ≡ q + length k.name
    met-comma = name-ends s q c k.name met-head ends

    pub met-value : drop (c + 1) s ≡ line_to k.ty (fields_to k.rest [] ++ drop len s)
    unfolding entry_to
    met-value =
        let m = k.name in
        let e : c + 1 ≡ q + suc (length m) = omega (arith, met-comma) in
        let r : Bytes = fields_to k.rest [] ++ drop len s in
        ap (λ (j : ℕ). drop j s) e
        ∙ sym (drop-drop (suc (length m)) q s)
        ∙ ap (drop (suc (length m))) (met-drop ∙ name-append m (line k.ty) r)
        ∙ name-drop m (line k.ty ++ r)
        ∙ sym (line-to k.ty r)

    pub met-from : TypeFrom s (c + 1)
    met-from = record { ty = k.ty; rest = fields_to k.rest [] ++ drop len s; is = met-value }

    module _ (e : ℕ) (ends_at : EndsAt s (c + 1) e) where
      pub met-end : e ≡ q + length (entry_to k.name k.ty)
      met-end =
          let v : e ≡ c + 1 + length (line k.ty) = ends_at k.ty (fields_to k.rest [] ++ drop len s) met-value in
          omega (arith, v, met-comma, entry-long k.name k.ty)

      pub met-past : (q < e) × (e + 2 ≤ len)
      met-past =
          let l = map-long s x len fs n front in
          let a = length-append k.done (entry_to k.name k.ty ++ fields_to k.rest []) in
          let b = length-append (entry_to k.name k.ty) (fields_to k.rest []) in
          (omega (arith, met-end, entry-long k.name k.ty), omega (arith, met-end, l, ap length k.is, a, b, k.at, fields-long k.rest))

      -- the order of the two names, as the code compares them
      met-order : (o y : Order) → order_of o ≡ lex (take (c - q) (drop q s)) x → o ≡ y → lex k.name n ≡ order_of y
      met-order o y p t =
          sym (lex-hex k.name n) ∙ ap₂ lex (sym (part_slice q c s ∙ name_part s q c k.name met-head ends)) (sym front.spelt) ∙ sym p ∙ ap order_of t

      module _ (o : Order) (compared : order_of o ≡ lex (take (c - q) (drop q s)) x) where
        -- it comes before: the search goes on behind it
        pub goes_on : o ≡ Before → Looking fs n e
        goes_on t = go (tri k.name n) (met-order o Before compared t)
          where
            entry : Bytes
            entry = entry_to k.name k.ty

            go : Tri k.name n → lex k.name n ≡ Ordering.lt → Looking fs n e
            go (lt w) z =
                record {
                  done = k.done ++ entry;
                  left = k.rest;
                  is = k.is ∙ sym (append_assoc k.done entry (fields_to k.rest []));
                  at = met-end ∙ ap (λ (j : ℕ). j + length entry) k.at ∙ sym (length-append k.done entry);
                  set = λ t. k.set t
                      ∙ ap (λ (f : Fields). k.done ++ fields_to f []) (set-gt n k.name t k.ty k.rest w)
                      ∙ ap (λ (r : Bytes). k.done ++ r) (entry-split k.name k.ty (set_field n t k.rest))
                      ∙ sym (append_assoc k.done entry (fields_to (set_field n t k.rest) []));
                }
            go (eq w) z = absurd (let b : ◌≡◌ {A = ℕ} 0 1 = cc (ap (λ (m : Bytes). lex m n) w, lex-eq n) in omega arith)
            go (gt w) z = absurd (let b : ◌≡◌ {A = ℕ} 0 1 = cc (lex-gt w) in omega arith)

        -- it has the name: its value is replaced
        pub goes-old : o ≡ Equal → Goes (line (t_map fs)) fs n (Old (c + 1) e)
        unfolding entry_to
        goes-old t = go (tri k.name n) (met-order o Equal compared t)
          where
            name : Bytes
            name = name_to k.name []

            value : Bytes
            value = line k.ty

            rest : Bytes
            rest = fields_to k.rest []

            parts : line (t_map fs) ≡ (k.done ++ name) ++ (value ++ rest)
            parts =
                k.is
                ∙ ap (λ (r : Bytes). k.done ++ r)
                (ap (λ (r : Bytes). r ++ rest) (sym (name-append k.name [] value)) ∙ append_assoc name value rest)
                ∙ sym (append_assoc k.done name (value ++ rest))

            front-size : c + 1 ≡ length (k.done ++ name)
            front-size = omega (arith, met-comma, k.at, length-append k.done name, name-long k.name [])

            value-end : e ≡ length ((k.done ++ name) ++ value)
            value-end = omega (arith, met-end, met-comma, entry-long k.name k.ty, length-append (k.done ++ name) value, front-size)

            go : Tri k.name n → lex k.name n ≡ Ordering.eq → Goes (line (t_map fs)) fs n (Old (c + 1) e)
            go (eq w) z = (
              omega (arith, value-end, front-size, length-append (k.done ++ name) value),
              omega (arith, value-end, ap length parts, length-append (k.done ++ name) (value ++ rest), length-append (k.done ++ name) value, length-append value rest),
              λ t. k.set t
                  ∙ ap (λ (f : Fields). k.done ++ fields_to f []) (ap (λ (m : Bytes). set_field n t (field m k.ty k.rest)) w ∙ set-eq n t k.ty k.rest)
                  ∙ ap (λ (r : Bytes). k.done ++ r)
                  (entry-split n t k.rest
                  ∙ ap₂ (λ (m r : Bytes). name_to m r ++ rest) (sym w) refl
                  ∙ ap (λ (r : Bytes). r ++ rest) (sym (name-append k.name [] (line t)))
                  ∙ append_assoc name (line t) rest)
                  ∙ sym (append_assoc k.done name (line t ++ rest))
                  ∙ sym (ap₂ (λ (y z : Bytes). y ++ (line t ++ z)) (ap (take (c + 1)) parts ∙ take_done (k.done ++ name) (value ++ rest) (c + 1) front-size)
                  (ap (drop e) (parts ∙ sym (append_assoc (k.done ++ name) value rest)) ∙ drop-done ((k.done ++ name) ++ value) rest e value-end)),
            )
            go (lt w) z = absurd (let b : ◌≡◌ {A = ℕ} 0 1 = cc (lex-lt w) in omega arith)
            go (gt w) z = absurd (let b : ◌≡◌ {A = ℕ} 0 1 = cc (lex-gt w) in omega arith)

        -- it comes behind: the new entry goes before it
        pub goes-new : o ≡ Greater → Goes (line (t_map fs)) fs n (New q)
        unfolding entry_to
        goes-new t = go (tri k.name n) (met-order o Greater compared t)
          where
            left : Bytes
            left = entry_to k.name k.ty ++ fields_to k.rest []

            go : Tri k.name n → lex k.name n ≡ Ordering.gt → Goes (line (t_map fs)) fs n (New q)
            go (gt w) z = (
              omega (arith, k.at, ap length k.is, length-append k.done left),
              λ t. k.set t
                  ∙ ap (λ (f : Fields). k.done ++ fields_to f []) (set-lt n k.name t k.ty k.rest w)
                  ∙ ap (λ (r : Bytes). k.done ++ r) (entry-split n t (field k.name k.ty k.rest) ∙ ap (λ (r : Bytes). name_to n (line t) ++ r) (entry-split k.name k.ty k.rest))
                  ∙ sym (ap₂ (λ (y z : Bytes). y ++ (name_to n (line t) ++ z)) (ap (take q) k.is ∙ take_done k.done left q k.at) (ap (drop q) k.is ∙ drop-done k.done left q k.at)),
            )
            go (lt w) z = absurd (let b : ◌≡◌ {A = ℕ} 0 1 = cc (lex-lt w) in omega arith)
            go (eq w) z = absurd (let b : ◌≡◌ {A = ℕ} 0 1 = cc (ap (λ (m : Bytes). lex m n) w, lex-eq n) in omega arith)

-- the same for a value that was found behind the name's comma
module _ (s x : Bytes) (len : ℕ) (fs : Fields) (n : Bytes) (q : ℕ) (front : MapFront s len x fs n) (k : Met fs n q) (low : q ≤ length s) where
  comma : ℕ
  comma = q + index_of 44 (drop q s)

  comma-ends : Ends 44 s q comma
  unfolding comma
  comma-ends = ends 44 s q comma low refl

  pub comma-known : q + index_of 44 (drop q s) < length s
  unfolding comma
  comma-known = omega (arith, type-room s (comma + 1) (met-from s x len fs n q front k comma comma-ends))

  module _ (v : ℕ) (is : v ≡ next_field s q) where
    pub value-from : TypeFrom s v
    unfolding comma
    value-from = rw is (met-from s x len fs n q front k comma comma-ends)

    module _ (e : ℕ) (ends_at : EndsAt s v e) where
      behind : EndsAt s (comma + 1) e
      unfolding comma
      behind = rw is at ends_at

      pub value-past : (q < e) × (e + 2 ≤ len)
      value-past = met-past s x len fs n q front k comma comma-ends e behind

      pub value_room : q + 4 ≤ length s
      value_room =
          let f = front.at.inside in
          omega (arith, value-past.1, met-end s x len fs n q front k comma comma-ends e behind, entry-long k.name k.ty, nesting-line k.ty, nesting-pos k.ty)

      pub value-below : NameBelow s q x → Looking fs n e
      value-below b = goes_on s x len fs n q front k comma comma-ends e behind Before (sym (b (comma - q))) refl

      module _ (c : ℕ) (found : Ends 44 s q c) (o : Order) (compared : order_of o ≡ lex (take (c - q) (drop q s)) x) where
        same_place : v ≡ c + 1
        same_place = is ∙ ap (λ (i : ℕ). i + 1) (sym found.place)

        found_at : EndsAt s (c + 1) e
        found_at = rw same_place at ends_at

        pub value_on : o ≡ Before → Looking fs n e
        value_on = goes_on s x len fs n q front k c found e found_at o compared

        pub value-old : o ≡ Equal → Goes (line (t_map fs)) fs n (Old v e)
        value-old t = rw same_place (goes-old s x len fs n q front k c found e found_at o compared t)

        pub value-new : o ≡ Greater → Goes (line (t_map fs)) fs n (New q)
        value-new = goes-new s x len fs n q front k c found e found_at o compared
