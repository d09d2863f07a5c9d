-- The calls keep what a store can hold, so that any calls answer as on the plain list. Assumes nothing.
use mathlib.Core.Path.{◌≡◌, refl, sym, ◌∙◌, ap, ap₂, subst}
use mathlib.Core.List.{List, [], ◌∷◌, ◌++◌}
use mathlib.Core.Option.{Option, none, some}
use mathlib.Core.Bool.{Bool, true, false, ◌&&◌, not, false≢true}
use Prim.Native.Nat.{ℕ, zero, suc, ◌+◌, ◌-◌, ◌≤◌, ◌<◌}
use native.Mathlib.Omega.{arith}
use borrow.Author.Tests.{ltb-true, lt-ltb, le-leb, leb-true, eqb-false}
use lib.Dec.{eqb, ltb, leb}
use lib.ListN.{length, replicate}
use Rattle.semantics.specs.Bytes.{Bytes, same}
use Rattle.semantics.specs.Ty.{Ty, line, type_line}
use Rattle.text.specs.Text.{is_found}
use Rattle.semantics.proofs.All.{All, empty, also, all_append}
use Rattle.semantics.proofs.Order.{Tri, lt, eq, gt, tri, same-lt, same-gt, same_refl}
use Rattle.semantics.proofs.Reader.{read-sound}
use Rattle.unify_run.proofs.Size.{small-sound}
use Rattle.stores.specs.Catalogue.{Live, Catalogue, empty as none_yet, store_size, room_limit, number_limit, uses_limit, size, taken, Told, refuses, tells, Called, is_there, with_text, with_number, set_uses, used, enter_old, enter_new, enter_by, enter, release_by, release, look_up_by, look_up, Ask, entering, releasing, looking_up, call, low, entries, stored, fine_live, Kept, call_by, store_call, on_store, on_list, AnyCalls}
use Rattle.stores.proofs.Stored.{Fits, Good, read_back}

pub first-true : (a b : Bool) → (a && b) ≡ true → a ≡ true
first-true true b p = refl
first-true false b p = p

pub second-true : (a b : Bool) → (a && b) ≡ true → b ≡ true
second-true true b p = p
second-true false b p = absurd (false≢true p)

both_true : {a b : Bool} → a ≡ true → b ≡ true → (a && b) ≡ true
both_true p q = rw (p, q)

-- ## The list that a store can hold, as facts

pub record Front (prev last : ℕ) (l : Live) (ls : List Live) : Type 0 where
  pub above : prev < l.number
  pub given : l.number ≤ last
  pub used : 0 < l.uses
  pub line : is_found (type_line l.text) ≡ true
  pub only : with_text l.text ls ≡ none

abbrev pub Held : ℕ → ℕ → List Live → Type 0
Held prev last [] = Unit {0}
Held prev last (l ∷ ls) = Front prev last l ls × Held l.number last ls

pub none-there : (o : Option Live) → not (is_there o) ≡ true → o ≡ none
none-there none h = refl
none-there (some l) h = absurd (false≢true h)

held-true : (prev last : ℕ) (ls : List Live) → Held prev last ls → fine_live prev last ls ≡ true
unfolding fine_live
held-true prev last [] h = refl
held-true prev last (l ∷ ls) h =
    let f = h.0 in
    both_true (lt-ltb prev l.number f.above) (both_true (le-leb l.number last f.given) (both_true (lt-ltb 0 l.uses f.used) (both_true f.line (both_true (ap (λ (o : Option Live). not (is_there o)) f.only) (held-true l.number last ls h.1)))))

-- a type line is not long
pub line-long : (t : Bytes) (o : Option Ty) → type_line t ≡ o → is_found o ≡ true → length t ≤ 1024
line-long t none e h = absurd (false≢true h)
line-long t (some u) e h = let r = read-sound t u e in subst (λ (z : Bytes). length z ≤ 1024) r.0 (small-sound u r.2).0

-- ## What a catalogue keeps

abbrev pub Few : Live → Type 0
Few l = l.uses ≤ uses_limit

pub record Sound (c : Catalogue) : Type 0 where
  pub last : c.last ≤ number_limit
  pub held : Held 0 c.last c.live
  pub few : All Few c.live
  pub room : taken c.live ≤ room_limit

fits_all : (prev last : ℕ) (ls : List Live) → last ≤ number_limit → Held prev last ls → All Few ls → All Fits ls
fits_all prev last [] m h a = empty
fits_all prev last (l ∷ ls) m h (also u us) =
    let f = h.0 in
    let low : l.number ≤ number_limit = let g = f.given in omega arith in
    let some_number : 0 < l.number = let g = f.above in omega arith in
    also (record { number = low; above = some_number; long = line-long l.text (type_line l.text) refl f.line; uses = u }) (fits_all l.number last ls m h.1 us)

pub sound-good : (c : Catalogue) → Sound c → Good c
sound-good c s = record { last = s.last; live = held-true 0 c.last c.live s.held; fit = fits_all 0 c.last c.live s.last s.held s.few; room = s.room }

-- ## Uses set

text-apart : (t : Bytes) (l : Live) (ls : List Live) → with_text t (l ∷ ls) ≡ none → (same t l.text ≡ false) × (with_text t ls ≡ none)
unfolding with_text
text-apart t l ls e = go (same t l.text) refl e
  where
    go : (c : Bool) → same t l.text ≡ c → ◌≡◌ {A = Option Live} (elim c [ true ↦ some l | false ↦ with_text t ls ]) none → (same t l.text ≡ false) × (with_text t ls ≡ none)
    go true p q = absurd (false≢true (sym (ap is_there q)))
    go false p q = (p, q)

text-more : (t : Bytes) (l : Live) (ls : List Live) → same t l.text ≡ false → with_text t ls ≡ none → with_text t (l ∷ ls) ≡ none
unfolding with_text
text-more t l ls p q = rw (p, with_text) q

-- what is not in the list is not in what is left of it
text-set : (t : Bytes) (n u : ℕ) (ls : List Live) → with_text t ls ≡ none → with_text t (set_uses n u ls) ≡ none
unfolding set_uses
text-set t n u [] e = e
text-set t n u (l ∷ ls) e = go (eqb n l.number) (eqb u 0) (text-set t n u ls (text-apart t l ls e).1)
  where
    go : (c d : Bool) → with_text t (set_uses n u ls) ≡ none
        → with_text t (elim c [ true ↦ elim d [ true ↦ ls | false ↦ record { number = l.number; uses = u; text = l.text } ∷ ls ] | false ↦ l ∷ set_uses n u ls ]) ≡ none
    go true true ih = (text-apart t l ls e).1
    go true false ih = text-more t (record { number = l.number; uses = u; text = l.text }) ls (text-apart t l ls e).0 (text-apart t l ls e).1
    go false d ih = text-more t l (set_uses n u ls) (text-apart t l ls e).0 ih

held-lower : (low prev last : ℕ) (ls : List Live) → low ≤ prev → Held prev last ls → Held low last ls
held-lower low prev last [] h k = tt
held-lower low prev last (l ∷ ls) h k = let f = k.0 in (record { above = let a = f.above in omega arith; given = f.given; used = f.used; line = f.line; only = f.only }, k.1)

held-set : (n u prev last : ℕ) (ls : List Live) → Held prev last ls → Held prev last (set_uses n u ls)
unfolding set_uses
held-set n u prev last [] h = h
held-set n u prev last (l ∷ ls) h = go (eqb n l.number) (eqb u 0) refl (held-set n u l.number last ls h.1)
  where
    go : (c d : Bool) → eqb u 0 ≡ d → Held l.number last (set_uses n u ls)
        → Held prev last (elim c [ true ↦ elim d [ true ↦ ls | false ↦ record { number = l.number; uses = u; text = l.text } ∷ ls ] | false ↦ l ∷ set_uses n u ls ])
    go true true z ih = held-lower prev l.number last ls (let a = h.0.above in omega arith) h.1
    go true false z ih = let f = h.0 in (record { above = f.above; given = f.given; used = let q = eqb-false u 0 z in positive u q; line = f.line; only = f.only }, h.1)
      where
        positive : (u : ℕ) → (u ≡ 0 → ⊥) → 0 < u
        positive zero q = absurd (q refl)
        positive (suc u) q = omega arith
    go false d z ih = let f = h.0 in (record { above = f.above; given = f.given; used = f.used; line = f.line; only = text-set l.text n u ls f.only }, ih)

few-set : (n u : ℕ) → u ≤ uses_limit → {ls : List Live} → All Few ls → All Few (set_uses n u ls)
unfolding set_uses
few-set n u m empty = empty
few-set n u m (also {x = l} {xs = ls} p a) = go (eqb n l.number) (eqb u 0) (few-set n u m a)
  where
    go : (c d : Bool) → All Few (set_uses n u ls)
        → All Few (elim c [ true ↦ elim d [ true ↦ ls | false ↦ record { number = l.number; uses = u; text = l.text } ∷ ls ] | false ↦ l ∷ set_uses n u ls ])
    go true true ih = a
    go true false ih = also m a
    go false d ih = also p ih

taken-set : (n u : ℕ) (ls : List Live) → taken (set_uses n u ls) ≤ taken ls
unfolding set_uses taken
taken-set n u [] = omega arith
taken-set n u (l ∷ ls) = go (eqb n l.number) (eqb u 0) (taken-set n u ls)
  where
    go : (c d : Bool) → taken (set_uses n u ls) ≤ taken ls
        → taken (elim c [ true ↦ elim d [ true ↦ ls | false ↦ record { number = l.number; uses = u; text = l.text } ∷ ls ] | false ↦ l ∷ set_uses n u ls ]) ≤ size l + taken ls
    go true true ih = omega arith
    go true false ih = omega arith
    go false d ih = omega arith

used_sound : (c : Catalogue) (n u : ℕ) → u ≤ uses_limit → Sound c → Sound (used c n u)
used_sound c n u m s =
    record {
      last = s.last;
      held = held-set n u 0 c.last c.live s.held;
      few = few-set n u m s.few;
      room = let h = taken-set n u c.live in let r = s.room in omega arith;
    }

-- ## A type more

same-turned : (a b : Bytes) → same a b ≡ false → same b a ≡ false
same-turned a b h = go (tri a b)
  where
    go : Tri a b → same b a ≡ false
    go (lt q) = same-gt q
    go (eq q) = let r : same a b ≡ true = rw q (same_refl b) in absurd (false≢true (sym h ∙ r))
    go (gt q) = same-lt q

text-append : (t : Bytes) (ls : List Live) (x : Live) → with_text t ls ≡ none → same t x.text ≡ false → with_text t (ls ++ (x ∷ [])) ≡ none
text-append t [] x e h = text-more t x [] h e
text-append t (l ∷ ls) x e h = let a = text-apart t l ls e in text-more t l (ls ++ (x ∷ [])) a.0 (text-append t ls x a.1 h)

held-append : (prev last : ℕ) (ls : List Live) (t : Bytes) → prev ≤ last → is_found (type_line t) ≡ true → with_text t ls ≡ none → Held prev last ls
    → Held prev (last + 1) (ls ++ (record { number = last + 1; uses = 1; text = t } ∷ []))
held-append prev last [] t m line e h = (record { above = omega arith; given = omega arith; used = omega arith; line = line; only = e }, tt)
held-append prev last (l ∷ ls) t m line e h =
    let f = h.0 in
    let a = text-apart t l ls e in (
      record { above = f.above; given = let g = f.given in omega arith; used = f.used; line = f.line; only = text-append l.text ls (record { number = last + 1; uses = 1; text = t }) f.only (same-turned t l.text a.0) },
      held-append l.number last ls t f.given line a.1 h.1,
    )

taken-append : (ls : List Live) (x : Live) → taken (ls ++ (x ∷ [])) ≡ taken ls + size x
unfolding taken
taken-append [] x = omega arith
taken-append (l ∷ ls) x = let h = taken-append ls x in omega arith

added-sound : (c : Catalogue) (t : Bytes) → is_found (type_line t) ≡ true → with_text t c.live ≡ none → c.last < number_limit → taken c.live + (length t + 8) ≤ room_limit → Sound c
    → Sound (record { last = c.last + 1; live = c.live ++ (record { number = c.last + 1; uses = 1; text = t } ∷ []) })
added-sound c t line e m r s =
    let x : Live = record { number = c.last + 1; uses = 1; text = t } in
    let one : Few x = omega arith in
    record {
      last = omega arith;
      held = held-append 0 c.last c.live t (omega arith) line e s.held;
      few = all_append s.few (also one empty);
      room = let h = taken-append c.live x in omega arith;
    }

abbrev new_by : Catalogue → Bytes → Bool → Bool → Called
new_by c t a b =
    elim a [
      | true ↦ elim b [
        | true ↦ (tells (c.last + 1) 1 [], record { last = c.last + 1; live = c.live ++ (record { number = c.last + 1; uses = 1; text = t } ∷ []) })
        | false ↦ (refuses 13 0, c)
      ]
      | false ↦ (refuses 14 0, c)
    ]

new-sound : (c : Catalogue) (t : Bytes) → is_found (type_line t) ≡ true → with_text t c.live ≡ none → Sound c → Sound (enter_new c t).1
unfolding enter_new
new-sound c t line e s = go (ltb c.last number_limit) refl (leb (taken c.live + (length t + 8)) room_limit) refl
  where
    go : (a : Bool) → ltb c.last number_limit ≡ a → (b : Bool) → leb (taken c.live + (length t + 8)) room_limit ≡ b → Sound (new_by c t a b).1
    go true p true q = added-sound c t line e (ltb-true c.last number_limit p) (leb-true (taken c.live + (length t + 8)) room_limit q) s
    go true p false q = s
    go false p b q = s

abbrev old_by : Catalogue → Live → Bool → Called
old_by c l a = elim a [ true ↦ (tells l.number (l.uses + 1) [], used c l.number (l.uses + 1)) | false ↦ (refuses 14 0, c) ]

old-sound : (c : Catalogue) (l : Live) → Sound c → Sound (enter_old c l).1
unfolding enter_old
old-sound c l s = go (ltb l.uses uses_limit) refl
  where
    go : (a : Bool) → ltb l.uses uses_limit ≡ a → Sound (old_by c l a).1
    go true p = used_sound c l.number (l.uses + 1) (let h = ltb-true l.uses uses_limit p in omega arith) s
    go false p = s

abbrev line_by : Catalogue → Bytes → Bool → Called
line_by c t a = elim a [ true ↦ enter_by c t (with_text t c.live) | false ↦ (refuses 8 1, c) ]

enter-sound : (c : Catalogue) (t : Bytes) → Sound c → Sound (enter c t).1
unfolding enter
enter-sound c t s = go (is_found (type_line t)) refl
  where
    by : is_found (type_line t) ≡ true → (o : Option Live) → with_text t c.live ≡ o → Sound (enter_by c t o).1
    by line none e = unfold enter_by in new-sound c t line e s
    by line (some l) e = unfold enter_by in old-sound c l s

    go : (a : Bool) → is_found (type_line t) ≡ a → Sound (line_by c t a).1
    go true p = by p (with_text t c.live) refl
    go false p = s

number-few : (n : ℕ) {ls : List Live} → All Few ls → (l : Live) → with_number n ls ≡ some l → Few l
unfolding with_number
number-few n empty l e = absurd (false≢true (ap is_there e))
number-few n (also {x = k} {xs = ls} p a) l e = go (eqb n k.number) e (number-few n a l)
  where
    go : (c : Bool) → ◌≡◌ {A = Option Live} (elim c [ true ↦ some k | false ↦ with_number n ls ]) (some l) → (with_number n ls ≡ some l → Few l) → Few l
    go true q ih = subst Few (the k l q) p
      where
        the : (a b : Live) → some a ≡ some b → a ≡ b
        the a b r = ap (λ (o : Option Live). elim o [ none ↦ a | some d ↦ d ]) r
    go false q ih = ih q

release-sound : (c : Catalogue) (n : ℕ) → Sound c → Sound (release c n).1
unfolding release
release-sound c n s = by (with_number n c.live) refl
  where
    by : (o : Option Live) → with_number n c.live ≡ o → Sound (release_by c o).1
    by none e = unfold release_by in s
    by (some l) e = unfold release_by in used_sound c l.number (l.uses - 1) (let h = number-few n s.few l e in omega arith) s

look-sound : (c : Catalogue) (n : ℕ) → Sound c → Sound (look_up c n).1
unfolding look_up
look-sound c n s = by (with_number n c.live)
  where
    by : (o : Option Live) → Sound (look_up_by c o).1
    by none = unfold look_up_by in s
    by (some l) = unfold look_up_by in s

pub call-sound : (c : Catalogue) (a : Ask) → Sound c → Sound (call c a).1
unfolding call
call-sound c (entering t) s = enter-sound c t s
call-sound c (releasing n) s = release-sound c n s
call-sound c (looking_up n) s = look-sound c n s

-- ## Any calls

pub on_both : (calls : List Ask) (c : Catalogue) → Sound c → on_store (stored c) calls ≡ on_list c calls
unfolding on_store on_list
on_both [] c s = refl
on_both (a ∷ more) c s =
    let e : store_call (stored c) a ≡ record { told = (call c a).0; store = stored (call c a).1 } = unfold store_call call_by in ap (λ (o : Option Catalogue). call_by (stored c) o a) (read_back c (sound-good c s)) in
    ap₂ (λ (t : Told) (l : List Told). t ∷ l) (ap (λ (k : Kept). k.told) e) (ap (λ (k : Kept). on_store k.store more) e ∙ on_both more (call c a).1 (call-sound c a s))

empty-stored : stored none_yet ≡ replicate store_size 0
unfolding stored low entries taken
empty-stored = refl

pub any-calls : AnyCalls
any-calls calls =
    ap (λ (s : Bytes). on_store s calls) (sym empty-stored)
    ∙ on_both calls none_yet (record { last = omega arith; held = tt; few = empty; room = unfold taken in omega arith })
