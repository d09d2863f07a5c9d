-- The calls, from what their parts tell. Assumes nothing.
use mathlib.Core.Path.{◌≡◌, refl, sym, ◌∙◌, ap, ap₂, subst}
use mathlib.Core.List.{List, [], ◌∷◌}
use mathlib.Core.Option.{Option, none, some}
use mathlib.Core.Bool.{Bool, true, false}
use Prim.Native.Nat.{ℕ, zero, suc, ◌+◌, ◌-◌, ◌≤◌, ◌<◌}
use native.Mathlib.Omega.{arith}
use borrow.Author.Tests.{lt-ltb, le-ltb, le-leb, lt-leb}
use lib.Dec.{ltb, leb, eqb}
use lib.ListN.{length, take, drop}
use lib.Seq.{sets, slice, slice_empty}
use Rattle.text.specs.Text.{is_found}
use Rattle.text.proofs.Laws.{part_slice}
use Rattle.semantics.specs.Bytes.{Bytes}
use Rattle.semantics.specs.Ty.{type_line}
use Rattle.stores.specs.Catalogue.{Live, Catalogue, room_limit, number_limit, uses_limit, taken, low, stored, read_store, Told, refuses, tells, with_text, used, enter_old, enter_new, enter_by, enter, release_by, release, look_up_by, look_up, Ask, entering, releasing, looking_up, call, Kept, call_by, store_call, line_place, place_in, place_of}
use Rattle.catalogue.specs.Places.{Small, at16, at32, Run, spot_at, has_text, has_number}
use Rattle.catalogue.specs.Checks.{no_store, check_of}
use Rattle.catalogue.specs.Stands.{Open, Opened, Stands, Standing, StandsTo, EndsAt, kept_of, looked_by, Looks, Looked, looked_as, added}
use Rattle.std.specs.Prelude.{Option as Place, Some, None, Result, Ok, Err}
use Rattle.semantics.specs.Refusals.{number_of}
use Rattle.semantics.specs.declared.refusals.Refused.{Refused}
use Rattle.semantics.specs.declared.refusals.Refusal.TheVariants.{WrongSize, NotLive}
use Rattle.catalogue.specs.declared.Line.{Line}
use Rattle.catalogue.specs.declared.find.Entries.{Entries}
use Rattle.catalogue.proofs.PlaceLaws.{Begins, moved}
use Rattle.catalogue.specs.declared.form.Checked.{Checked}
use Rattle.catalogue.proofs.Bytewise.{store_is}
use Rattle.catalogue.proofs.StandLaws.{text-first, number-first, Cut, spot-cut, spot-nowhere, stands_here, open-run, cut_stands}
use Rattle.catalogue.proofs.WriteLaws.{uses-stored, added-stored, open-end, open-long}

kept : {t u : Told} {s x : Bytes} → t ≡ u → s ≡ x → ◌≡◌ {A = Kept} (record { told = t; store = s }) (record { told = u; store = x })
kept p q = ap₂ (λ (t : Told) (s : Bytes). record { told = t; store = s }) p q

told : {a b c d e f : ℕ} (t : Bytes) → a ≡ d → b ≡ e → c ≡ f → ◌≡◌ {A = Told} (record { number = a; first = b; second = c; text = t }) (record { number = d; first = e; second = f; text = t })
told t p q r = rw (p, q, r)

refused : (n f : ℕ) {s x : Bytes} → s ≡ x → ◌≡◌ {A = Kept} (record { told = refuses n f; store = s }) (record { told = refuses n f; store = x })
refused n f e = ap (λ (y : Bytes). record { told = refuses n f; store = y }) e

-- ## The store as it is checked

pub unread : (s : Bytes) → Err no_store ≡ check_of (read_store s) → read_store s ≡ none
unfolding check_of
unread s e = go (read_store s) refl e
  where
    go : (o : Option Catalogue) → read_store s ≡ o → Err no_store ≡ check_of o → read_store s ≡ none
    go none r q = r
    go (some c) r q = absurd (let w : ◌≡◌ {A = ℕ} 0 1 = cc in omega arith)

pub opened : (s : Bytes) → Small s → (r : Checked) → Ok r ≡ check_of (read_store s) → Opened s r.last r.end
unfolding check_of
opened s small r e = go (read_store s) refl e
  where
    go : (o : Option Catalogue) → read_store s ≡ o → Ok r ≡ check_of o → Opened s r.last r.end
    go none p q = absurd (let w : ◌≡◌ {A = ℕ} 0 1 = cc in omega arith)
    go (some c) p q =
        let same : ◌≡◌ {A = Checked} r (record { last = c.last; end = 8 + taken c.live }) = cc in
        record { list = c; form = record { read = p; is = store_is s small c p }; given = ap (λ (k : Checked). k.last) same; ends = ap (λ (k : Checked). k.end) same }

pub ends_at : (s : Bytes) (last end : ℕ) → Opened s last end → EndsAt s end
ends_at s last end o = record { list = o.list; form = o.form; ends = o.ends }

pub store-refused : (s : Bytes) (a : Ask) → Err no_store ≡ check_of (read_store s) → ◌≡◌ {A = Kept} (record { told = refuses 2 0; store = s }) (store_call s a)
unfolding store_call call_by
store-refused s a e = sym (ap (λ (o : Option Catalogue). call_by s o a) (unread s e))

pub called : (s : Bytes) (c : Catalogue) → Open s c → (a : Ask) → store_call s a ≡ kept_of (call c a)
unfolding store_call call_by
called s c o a = ap (λ (x : Option Catalogue). call_by s x a) o.read

-- ## Entering

pub old-full : (s : Bytes) (at u : ℕ) → u ≡ at32 s (at + 4) → uses_limit ≤ u → (c : Catalogue) (l : Live) → Stands s c at l → ◌≡◌ {A = Kept} (record { told = refuses 14 0; store = s }) (kept_of (enter_old c l))
unfolding enter_old
old-full s at u e h c l st =
    let k = (stands_here s c at l st).uses in
    let q : ltb l.uses uses_limit ≡ false = le-ltb l.uses uses_limit (omega arith) in
    refused 14 0 st.form.is ∙ rw (q, enter_old)

pub old-more : (s : Bytes) (at u n : ℕ) (x : Bytes) → u ≡ at32 s (at + 4) → n ≡ at16 s at → u < uses_limit → x ≡ sets s (at + 4) (low 4 (u + 1)) → (c : Catalogue) (l : Live) → Stands s c at l
    → ◌≡◌ {A = Kept} (record { told = tells n (u + 1) []; store = x }) (kept_of (enter_old c l))
unfolding enter_old
old-more s at u n x e f h w c l st =
    let k = stands_here s c at l st in
    let a : u ≡ l.uses = e ∙ k.uses in
    let b : n ≡ l.number = f ∙ k.number in
    let q : ltb l.uses uses_limit ≡ true = lt-ltb l.uses uses_limit (omega arith) in
    let v : u + 1 ≡ l.uses + 1 = omega arith in
    kept (told [] refl b v) (w ∙ ap (λ (y : ℕ). sets s (at + 4) (low 4 y)) v ∙ uses-stored s c at l st (l.uses + 1) (omega arith)) ∙ rw (q, enter_old)

pub no_number : (s t : Bytes) (last end : ℕ) → number_limit ≤ last → (c : Catalogue) → Open s c → last ≡ c.last → end ≡ 8 + taken c.live → ◌≡◌ {A = Kept} (record { told = refuses 14 0; store = s }) (kept_of (enter_new c t))
unfolding enter_new
no_number s t last end h c o e f =
    let q : ltb c.last number_limit ≡ false = le-ltb c.last number_limit (omega arith) in
    refused 14 0 o.is ∙ rw (q, enter_new)

pub no_room : (s t : Bytes) (last end : ℕ) → last < number_limit → length s - end < length t + 8 → (c : Catalogue) → Open s c → last ≡ c.last → end ≡ 8 + taken c.live → ◌≡◌ {A = Kept} (record { told = refuses 13 0; store = s }) (kept_of (enter_new c t))
unfolding enter_new
no_room s t last end h k c o e f =
    let q : ltb c.last number_limit ≡ true = lt-ltb c.last number_limit (omega arith) in
    let m = open-end s c o in
    let n = open-long s c o in
    let w : leb (taken c.live + (length t + 8)) room_limit ≡ false = lt-leb (taken c.live + (length t + 8)) room_limit (omega arith) in
    refused 13 0 o.is ∙ rw (q, w, enter_new)

pub new-type : (s t : Bytes) (last end : ℕ) (x : Bytes) → last < number_limit → length t + 8 ≤ length s - end → x ≡ added s t (last + 1) end → (c : Catalogue) → Open s c → last ≡ c.last → end ≡ 8 + taken c.live
    → ◌≡◌ {A = Kept} (record { told = tells (last + 1) 1 []; store = x }) (kept_of (enter_new c t))
unfolding enter_new
new-type s t last end x h k p c o e f =
    let q : ltb c.last number_limit ≡ true = lt-ltb c.last number_limit (omega arith) in
    let m = open-end s c o in
    let n = open-long s c o in
    let fit : taken c.live + (length t + 8) ≤ room_limit = omega arith in
    let w : leb (taken c.live + (length t + 8)) room_limit ≡ true = le-leb (taken c.live + (length t + 8)) room_limit fit in
    let v : last + 1 ≡ c.last + 1 = omega arith in
    kept (told [] refl v refl) (p ∙ ap (λ (y : ℕ). added s t y end) v ∙ added-stored s c o t (c.last + 1) end f fit) ∙ rw (q, w, enter_new)

enter-line : (c : Catalogue) (t : Bytes) (o : Option Live) → is_found (type_line t) ≡ true → with_text t c.live ≡ o → call c (entering t) ≡ enter_by c t o
unfolding call enter
enter-line c t o h e = rw (h, e, enter, call)

pub no_line : (s t : Bytes) (last end : ℕ) → Opened s last end → (b : Bool) → b ≡ is_found (type_line t) → b ≡ false → ◌≡◌ {A = Kept} (record { told = refuses 8 1; store = s }) (store_call s (entering t))
unfolding call enter
no_line s t last end o b e f =
    let c = o.list in
    let q : is_found (type_line t) ≡ false = sym e ∙ f in
    refused 8 1 o.form.is ∙ sym (called s c o.form (entering t) ∙ rw (q, enter, call))

abbrev Finds : (Live → Bool) → Bytes → ℕ → Place ℕ → Type 0
Finds p s end r = (ls : List Live) → Run s 8 ls end → r ≡ spot_at p 8 ls

-- what a walk over all live types says
pub found-there : (p : Live → Bool) (it : Entries) (s : Bytes) (end : ℕ) (r : Place ℕ) → Begins it s 8 end → ((ls : List Live) → Run it.store.now it.at ls it.end → r ≡ spot_at p it.at ls) → Finds p s end r
found-there p it s end r = moved (λ n ls. r ≡ spot_at p n ls) it s 8 end

pub found-cut : (p : Live → Bool) (s : Bytes) (end : ℕ) (o : EndsAt s end) (r : Place ℕ) → Finds p s end r → (a : ℕ) → r ≡ Some a → Cut p 8 o.list.live a
found-cut p s end o r f a e = let d = known-run s end o in spot-cut p 8 o.list.live a (sym e ∙ f o.list.live d)
  where
    known-run : (s : Bytes) (end : ℕ) (o : EndsAt s end) → Run s 8 o.list.live end
    known-run s end o = open-run s o.list o.form end o.ends

pub found-standing : (p : Live → Bool) (s : Bytes) (end : ℕ) → EndsAt s end → (r : Place ℕ) → Finds p s end r → (a : ℕ) → r ≡ Some a → StandsTo s a end
found-standing p s end o r f a e =
    let k = found-cut p s end o r f a e in
    record { list = o.list; type = k.l; stands = cut_stands p s o.list a o.form k; ends = o.ends }

pub standing : (s : Bytes) (at end : ℕ) → StandsTo s at end → Standing s at
standing s at end st = record { list = st.list; type = st.type; stands = st.stands }

pub entered-old : (s t : Bytes) (end : ℕ) (o : EndsAt s end) → is_found (type_line t) ≡ true → (r : Place ℕ) → Finds (has_text t) s end r → (a : ℕ) → r ≡ Some a → (k : Kept) → ((c : Catalogue) (l : Live) → Stands s c a l → k ≡ kept_of (enter_old c l))
    → k ≡ store_call s (entering t)
unfolding enter_by
entered-old s t end o h r f a e k g =
    let c = o.list in
    let d = found-cut (has_text t) s end o r f a e in
    g c d.l (cut_stands (has_text t) s c a o.form d) ∙ sym (called s c o.form (entering t) ∙ ap kept_of (enter-line c t (some d.l) h (text-first t c.live ∙ d.first)))

pub entered-new : (s t : Bytes) (last end : ℕ) (o : Opened s last end) → is_found (type_line t) ≡ true → (r : Place ℕ) → Finds (has_text t) s end r → r ≡ None → (k : Kept)
    → ((c : Catalogue) → Open s c → last ≡ c.last → end ≡ 8 + taken c.live → k ≡ kept_of (enter_new c t)) → k ≡ store_call s (entering t)
unfolding enter_by
entered-new s t last end o h r f e k g =
    let c = o.list in
    let n = spot-nowhere (has_text t) 8 c.live (sym e ∙ f c.live (open-run s c o.form end o.ends)) in
    g c o.form o.given o.ends ∙ sym (called s c o.form (entering t) ∙ ap kept_of (enter-line c t none h (text-first t c.live ∙ n)))

-- ## Releasing

pub last-use : (s : Bytes) (at u : ℕ) (x : Bytes) → u ≡ at32 s (at + 4) → u - 1 ≡ 0 → ((c : Catalogue) (l : Live) → Stands s c at l → x ≡ stored (used c l.number 0)) → (c : Catalogue) (l : Live) → Stands s c at l
    → ◌≡◌ {A = Kept} (record { told = tells (u - 1) 0 []; store = x }) (kept_of (release_by c (some l)))
unfolding release_by
last-use s at u x e h g c l st =
    let k = (stands_here s c at l st).uses in
    let z : u - 1 ≡ l.uses - 1 = ap (λ (y : ℕ). y - 1) (e ∙ k) in
    kept (told [] refl z refl) (g c l st ∙ ap (λ (y : ℕ). stored (used c l.number y)) (sym h ∙ z))

pub use-less : (s : Bytes) (at u : ℕ) (x : Bytes) → u ≡ at32 s (at + 4) → (u - 1 ≡ 0 → ⊥) → x ≡ sets s (at + 4) (low 4 (u - 1)) → (c : Catalogue) (l : Live) → Stands s c at l
    → ◌≡◌ {A = Kept} (record { told = tells (u - 1) 0 []; store = x }) (kept_of (release_by c (some l)))
unfolding release_by
use-less s at u x e h w c l st =
    let k = (stands_here s c at l st).uses in
    let z : u - 1 ≡ l.uses - 1 = ap (λ (y : ℕ). y - 1) (e ∙ k) in
    kept (told [] refl z refl) (w ∙ ap (λ (y : ℕ). sets s (at + 4) (low 4 y)) z ∙ uses-stored s c at l st (l.uses - 1) (more (l.uses - 1) (λ y. h (z ∙ y))))
  where
    more : (n : ℕ) → (n ≡ 0 → ⊥) → 0 < n
    more zero f = absurd (f refl)
    more (suc n) f = omega arith

pub released : (s : Bytes) (n end : ℕ) (o : EndsAt s end) → (r : Place ℕ) → Finds (has_number n) s end r → (a : ℕ) → r ≡ Some a → (k : Kept) → ((c : Catalogue) (l : Live) → Stands s c a l → k ≡ kept_of (release_by c (some l)))
    → k ≡ store_call s (releasing n)
unfolding call release
released s n end o r f a e k g =
    let c = o.list in
    let d = found-cut (has_number n) s end o r f a e in
    g c d.l (cut_stands (has_number n) s c a o.form d) ∙ sym (called s c o.form (releasing n) ∙ ap (λ (x : Option Live). kept_of (release_by c x)) (number-first n c.live ∙ d.first))

pub not-released : (s : Bytes) (n end : ℕ) (o : EndsAt s end) → (r : Place ℕ) → Finds (has_number n) s end r → r ≡ None → ◌≡◌ {A = Kept} (record { told = refuses 15 0; store = s }) (store_call s (releasing n))
unfolding call release release_by
not-released s n end o r f e =
    let c = o.list in
    let w = spot-nowhere (has_number n) 8 c.live (sym e ∙ f c.live (open-run s c o.form end o.ends)) in
    refused 15 0 o.form.is ∙ sym (called s c o.form (releasing n) ∙ ap (λ (x : Option Live). kept_of (release_by c x)) (number-first n c.live ∙ w))

-- ## Looking up

missed : (w : Refused) (s x : Bytes) → s ≡ x → Looks (record { told = refuses (number_of w.why) w.place; store = x }) (Err w) s
missed w s x e = record { is = refused (number_of w.why) w.place e; up = omega arith; inside = omega arith }

pub looked : (s : Bytes) (at u e : ℕ) → u ≡ at32 s (at + 4) → e ≡ at + 8 + at16 s (at + 2) → (r : Line) → r.at ≡ at + 8 → r.end ≡ e → r.uses ≡ u → (c : Catalogue) (l : Live) → Stands s c at l
    → Looks (kept_of (look_up_by c (some l))) (Ok r) s
unfolding look_up_by
looked s at u e p q r a b w c l st =
    let k = stands_here s c at l st in
    let m = k.long in
    let i = k.inside in
    let v : r.end ≡ at + 8 + length l.text = omega arith in
    let x : r.uses ≡ l.uses = w ∙ p ∙ k.uses in
    record {
      is = kept (ap₂ (λ (f : ℕ) (t : Bytes). record { number = 0; first = f; second = 0; text = t }) x (ap₂ (λ (i j : ℕ). slice i j s) a v ∙ k.text)) st.form.is;
      up = omega arith;
      inside = omega arith;
    }

pub looked-up : (s : Bytes) (n end : ℕ) (o : EndsAt s end) → (r : Place ℕ) → Finds (has_number n) s end r → (a : ℕ) → r ≡ Some a → (q : Result Line Refused) → ((c : Catalogue) (l : Live) → Stands s c a l → Looks (kept_of (look_up_by c (some l))) q s)
    → Looks (store_call s (looking_up n)) q s
unfolding call look_up
looked-up s n end o r f a e q g =
    let c = o.list in
    let d = found-cut (has_number n) s end o r f a e in
    subst (λ (k : Kept). Looks k q s) (sym (called s c o.form (looking_up n) ∙ ap (λ (x : Option Live). kept_of (look_up_by c x)) (number-first n c.live ∙ d.first))) (g c d.l (cut_stands (has_number n) s c a o.form d))

pub not-looked-up : (s : Bytes) (n end : ℕ) (o : EndsAt s end) → (r : Place ℕ) → Finds (has_number n) s end r → r ≡ None → Looks (store_call s (looking_up n)) (Err (record { why = NotLive; place = 0 })) s
unfolding call look_up look_up_by
not-looked-up s n end o r f e =
    let c = o.list in
    let w = spot-nowhere (has_number n) 8 c.live (sym e ∙ f c.live (open-run s c o.form end o.ends)) in
    subst (λ (k : Kept). Looks k (Err (record { why = NotLive; place = 0 })) s) (sym (called s c o.form (looking_up n) ∙ ap (λ (x : Option Live). kept_of (look_up_by c x)) (number-first n c.live ∙ w))) (missed (record { why = NotLive; place = 0 }) s (stored c) o.form.is)

pub not-looked : (s : Bytes) (n : ℕ) → Err no_store ≡ check_of (read_store s) → Looks (store_call s (looking_up n)) (Err (record { why = WrongSize; place = 0 })) s
unfolding store_call call_by
not-looked s n e =
    subst (λ (k : Kept). Looks k (Err (record { why = WrongSize; place = 0 })) s) (sym (ap (λ (o : Option Catalogue). call_by s o (looking_up n)) (unread s e))) (missed (record { why = WrongSize; place = 0 }) s s refl)

-- ## Its place

place-spot : (n at : ℕ) (ls : List Live) (a : ℕ) → Some a ≡ spot_at (has_number n) at ls → line_place n at ls ≡ a + 8
unfolding spot_at line_place
place-spot n at [] a e = absurd (let w : ◌≡◌ {A = ℕ} 0 1 = cc in omega arith)
place-spot n at (l ∷ ls) a e = go (eqb n l.number) e (place-spot n (at + 8 + length l.text) ls a)
  where
    go : (b : Bool) → ◌≡◌ {A = Place ℕ} (Some a) (elim b [ true ↦ Some at | false ↦ spot_at (has_number n) (at + 8 + length l.text) ls ])
        → (Some a ≡ spot_at (has_number n) (at + 8 + length l.text) ls → line_place n (at + 8 + length l.text) ls ≡ a + 8)
        → elim b [ true ↦ at + 8 | false ↦ line_place n (at + 8 + length l.text) ls ] ≡ a + 8
    go true r ih = let z : a ≡ at = cc in omega arith
    go false r ih = ih r

place-nowhere : (n at : ℕ) (ls : List Live) → None ≡ spot_at (has_number n) at ls → line_place n at ls ≡ 0
unfolding spot_at line_place
place-nowhere n at [] e = refl
place-nowhere n at (l ∷ ls) e = go (eqb n l.number) e (place-nowhere n (at + 8 + length l.text) ls)
  where
    go : (b : Bool) → ◌≡◌ {A = Place ℕ} None (elim b [ true ↦ Some at | false ↦ spot_at (has_number n) (at + 8 + length l.text) ls ])
        → (None ≡ spot_at (has_number n) (at + 8 + length l.text) ls → line_place n (at + 8 + length l.text) ls ≡ 0)
        → ◌≡◌ {A = ℕ} (elim b [ true ↦ at + 8 | false ↦ line_place n (at + 8 + length l.text) ls ]) 0
    go true r ih = absurd (let w : ◌≡◌ {A = ℕ} 0 1 = cc in omega arith)
    go false r ih = ih r

placed : (s : Bytes) (n end : ℕ) (o : EndsAt s end) (r : Place ℕ) → Finds (has_number n) s end r → (place_of s n ≡ line_place n 8 o.list.live) × (r ≡ spot_at (has_number n) 8 o.list.live)
unfolding place_in
placed s n end o r f = (ap (λ (c : Option Catalogue). place_in c n) o.form.read, f o.list.live (open-run s o.list o.form end o.ends))

pub found-place : (s : Bytes) (n end : ℕ) (o : EndsAt s end) (r : Place ℕ) → Finds (has_number n) s end r → (a : ℕ) → r ≡ Some a → place_of s n ≡ a + 8
found-place s n end o r f a e = let p = placed s n end o r f in p.0 ∙ place-spot n 8 o.list.live a (sym e ∙ p.1)

pub no_place : (s : Bytes) (n end : ℕ) (o : EndsAt s end) (r : Place ℕ) → Finds (has_number n) s end r → r ≡ None → place_of s n ≡ 0
no_place s n end o r f e = let p = placed s n end o r f in p.0 ∙ place-nowhere n 8 o.list.live (sym e ∙ p.1)

pub no-store-place : (s : Bytes) (n : ℕ) → Err no_store ≡ check_of (read_store s) → place_of s n ≡ 0
unfolding place_in
no-store-place s n e = ap (λ (c : Option Catalogue). place_in c n) (unread s e)

-- the part that is handed out is the line
pub looked-part : (s : Bytes) (l : Line) (k : Kept) → looked_by (Ok l) s ≡ k → looked_as 0 l.uses (take (l.end - l.at) (drop l.at s)) s ≡ k
looked-part s l k e = ap (λ (t : Bytes). looked_as 0 l.uses t s) (part_slice l.at l.end s) ∙ e

-- ## For callers

pub looked-at : (s : Bytes) (n : ℕ) (l : Line) → Looked s n (Ok l) → (looked_as 0 l.uses (slice l.at (l.at + (l.end - l.at)) s) s ≡ store_call s (looking_up n)) × (l.at ≡ place_of s n) × (l.at + (l.end - l.at) ≤ length s)
looked-at s n l w =
    let h = w.looks in
    let u = h.up in
    let i = h.inside in
    let e : l.at + (l.end - l.at) ≡ l.end = omega arith in
    (ap (λ (z : ℕ). looked_as 0 l.uses (slice l.at z s) s) e ∙ h.is, w.place, omega arith)

pub missed-at : (s : Bytes) (n : ℕ) (w : Refused) → Looked s n (Err w) → (looked_as (number_of w.why) w.place (slice 0 0 s) s ≡ store_call s (looking_up n)) × (0 ≡ place_of s n)
missed-at s n w k = (ap (λ (t : Bytes). looked_as (number_of w.why) w.place t s) (slice_empty 0 s) ∙ k.looks.is, k.place)
