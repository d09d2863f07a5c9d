-- The first live type that a test takes, by `find` over a walk. Assumes nothing.
use mathlib.Core.Path.{◌≡◌, refl, sym, ◌∙◌, ap, ap₂, subst}
use mathlib.Core.List.{List, [], ◌∷◌}
use mathlib.Core.Option.{some}
use mathlib.Core.Bool.{Bool, true, false, cond, ◌||◌}
use Prim.Native.Nat.{ℕ, ◌+◌}
use lib.ListN.{length}
use Rattle.std.specs.Prelude.{Option, Some, None}
use Rattle.std.specs.List.{find, list_any}
use Rattle.std.specs.Iterator.{AlwaysYields}
use Rattle.std.specs.Option.{option_map}
use Rattle.std.proofs.lemmas.Iterator.{YieldsList}
use Rattle.semantics.specs.Bytes.{Bytes, same}
use Rattle.stores.specs.Catalogue.{Live, with_text, is_there}
use Rattle.catalogue.specs.Places.{Run, spot_at}
use Rattle.catalogue.specs.Entries.{live_of, Gives}
use Rattle.catalogue.specs.declared.find.Entry.{Entry}
use Rattle.catalogue.specs.declared.find.Entries.{Entries}
use Rattle.catalogue.proofs.PlaceLaws.{Begins, begins}

-- the live types with their places
abbrev pub Placed : Type 0
Placed = ℕ × Live

unfoldable pub placed : ℕ → List Live → List Placed
placed at [] = []
placed at (l ∷ ls) = (at, l) ∷ placed (at + 8 + length l.text) ls

abbrev pub seen : Entry → Placed
seen e = (e.at, live_of e)

pub yields : (s : Entries) (ls : List Live) → Run s.store.now s.at ls s.end → YieldsList Gives seen s (placed s.at ls)
unfolding placed
yields s [] r = record { runs = λ x j g. absurd (empty (g [] r).is) }
  where
    empty : {l : Live} {ls : List Live} → ◌≡◌ {A = List Live} [] (l ∷ ls) → ⊥
    empty e = cc
yields s (l ∷ ls) r =
    record {
      runs = (
        λ j g. more (g (l ∷ ls) r),
        λ x j g. let f = g (l ∷ ls) r in
            let a : l ≡ live_of x = heads f.is in
            let b : ls ≡ f.others = tails f.is in
            let next : j.at ≡ s.at + 8 + length l.text = f.behind ∙ ap (λ (k : Live). s.at + 8 + length k.text) (sym a) in (
              ap₂ (λ (n : ℕ) (k : Live). (n, k)) f.place (sym a),
              subst (λ (n : ℕ). AlwaysYields Gives seen j (placed n ls)) next (yields j ls (subst (λ (x : List Live). Run j.store.now j.at x j.end) (sym b) f.run)).runs,
            ),
      );
    }
  where
    more : {l : Live} {ls : List Live} → ◌≡◌ {A = List Live} (l ∷ ls) [] → ⊥
    more e = cc

    heads : {l k : Live} {ls ks : List Live} → ◌≡◌ {A = List Live} (l ∷ ls) (k ∷ ks) → l ≡ k
    heads e = cc

    tails : {l k : Live} {ls ks : List Live} → ◌≡◌ {A = List Live} (l ∷ ls) (k ∷ ks) → ls ≡ ks
    tails e = cc

pub spot-found : (p : Live → Bool) (at : ℕ) (ls : List Live) → option_map (λ (q : Placed). q.0) (find (λ (q : Placed). p q.1) (placed at ls)) ≡ spot_at p at ls
unfolding placed spot_at
spot-found p at [] = refl
spot-found p at (l ∷ ls) = go (p l) (spot-found p (at + 8 + length l.text) ls)
  where
    go : (b : Bool) → option_map (λ (q : Placed). q.0) (find (λ (q : Placed). p q.1) (placed (at + 8 + length l.text) ls)) ≡ spot_at p (at + 8 + length l.text) ls
        → option_map (λ (q : Placed). q.0) (cond b (Some (at, l)) (find (λ (q : Placed). p q.1) (placed (at + 8 + length l.text) ls))) ≡ elim b [ true ↦ Some at | false ↦ spot_at p (at + 8 + length l.text) ls ]
    go true h = refl
    go false h = h

-- the place of what `find` gives
pub found-by : (p : Live → Bool) (s : Entries) (b : Bytes) (from end : ℕ) → Begins s b from end → (r : Option Entry)
    → ((all : List Placed) → YieldsList Gives seen s all → option_map seen r ≡ find (λ (q : Placed). p q.1) all) → (ls : List Live) → Run b from ls end → option_map (λ (e : Entry). e.at) r ≡ spot_at p from ls
found-by p s b from end e r h ls run =
    let y = yields s ls (begins s b from end e ls run) in
    places r ∙ ap (option_map (λ (q : Placed). q.0)) (h (placed s.at ls) y) ∙ spot-found p s.at ls ∙ ap (λ (n : ℕ). spot_at p n ls) e.1
  where
    places : (r : Option Entry) → option_map (λ (e : Entry). e.at) r ≡ option_map (λ (q : Placed). q.0) (option_map seen r)
    places None = refl
    places (Some e) = refl

pub any-there : (t : Bytes) (at : ℕ) (ls : List Live) → list_any (λ (q : Placed). same t q.1.text) (placed at ls) ≡ is_there (with_text t ls)
unfolding placed with_text
any-there t at [] = refl
any-there t at (l ∷ ls) = go (same t l.text) (any-there t (at + 8 + length l.text) ls)
  where
    go : (b : Bool) → list_any (λ (q : Placed). same t q.1.text) (placed (at + 8 + length l.text) ls) ≡ is_there (with_text t ls)
        → (b || list_any (λ (q : Placed). same t q.1.text) (placed (at + 8 + length l.text) ls)) ≡ is_there (elim b [ true ↦ some l | false ↦ with_text t ls ])
    go true h = refl
    go false h = h

-- whether `any` of a walk has a text
pub any-by : (t : Bytes) (s : Entries) (b : Bytes) (from end : ℕ) → Begins s b from end → (r : Bool)
    → ((all : List Placed) → YieldsList Gives seen s all → r ≡ list_any (λ (q : Placed). same t q.1.text) all) → (ls : List Live) → Run b from ls end → r ≡ is_there (with_text t ls)
any-by t s b from end e r h ls run = h (placed s.at ls) (yields s ls (begins s b from end e ls run)) ∙ any-there t s.at ls
