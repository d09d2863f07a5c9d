-- What is kept of a map at the mark: an entry more, a name more, its value. Assumes nothing.
use Prim.Native.Nat.{ℕ, ◌+◌, ◌-◌, ◌≤◌, ◌<◌}
use native.Mathlib.Omega.{arith}
use mathlib.Core.Path.{◌≡◌, refl, sym, ◌∙◌, ap, ap₂, subst}
use mathlib.Core.Bool.{Bool, true, false}
use mathlib.Core.List.{[], ◌∷◌, ◌++◌, append_assoc}
use mathlib.Core.Option.{Option, none, some}
use mathlib.Core.Logic.{◌⊎◌, inl, inr}
use borrow.Author.Tests.{lt-ltb, le-ltb, ltb-true, ltb-false}
use lib.Dec.{ltb}
use lib.ListN.{length}
use lib.Seq.{slice, sets, length-slice}
use Rattle.semantics.specs.Bytes.{Bytes}
use Rattle.semantics.specs.Ty.{Ty, t_map, Fields, name_to, line}
use Rattle.text.proofs.Laws.{slice-join}
use Rattle.ty.specs.Parts.{TypeAt}
use Rattle.ty.specs.Merging.{kept_of, kept_text, Few}
use Rattle.std.specs.Prelude.{Option as StdOption, Some, None}
use Rattle.ty.proofs.NameLaws.{name-append}
use Rattle.ty.proofs.MergeLaws.{kept-text, put-behind}
use Rattle.unify_run.specs.Run.{long, attach, kept, keep}
use Rattle.unify.specs.Work.{Below}
use Rattle.unify.proofs.Marks.{slice-stays}
use Rattle.unify.specs.Entries.{entries_of, kept_size, KeptAt, name_size, KeptNameAt, NameKept, NameOver, value_at}
use Rattle.unify.proofs.EntryParts.{name-size, entry-size, attach-entries, attach-size, attach-test}

-- ## How much

pub data Keeps (n k : ℕ) : Type 0 where
  over : 1024 < n + k + 2 → kept_of (Some n) k ≡ None → Keeps n k
  within : n + k + 2 ≤ 1024 → kept_of (Some n) k ≡ Some (n + k) → Keeps n k

pub keeps : (n k : ℕ) → Keeps n k
unfolding kept_of
keeps n k = go (ltb 1024 (n + k + 2)) refl
  where
    go : (b : Bool) → ltb 1024 (n + k + 2) ≡ b → Keeps n k
    go true e = over (ltb-true 1024 (n + k + 2) e) (rw e)
    go false e = within (ltb-false 1024 (n + k + 2) e) (rw e)

keeps-none : (k : ℕ) → kept_of None k ≡ None
unfolding kept_of
keeps-none k = refl

pub kept-few : (s : Bytes) (mark : ℕ) (n : StdOption ℕ) (k : Option Fields) → KeptAt s mark n k → Few n
kept-few s mark n none h = rw h tt
kept-few s mark n (some fs) h = rw h.long (omega (arith, h.fits))

pub name-few : (s : Bytes) (mark : ℕ) (n : StdOption ℕ) (name : Bytes) (k : Option Fields) → KeptNameAt s mark n name k → Few n
name-few s mark n name none h = rw h tt
name-few s mark n name (some fs) (inl h) = rw h.long (omega (arith, h.fits))
name-few s mark n name (some fs) (inr h) = rw h.over tt

pub few-less : (mark : ℕ) (n : StdOption ℕ) → Few n → (mark ≤ value_at mark n) × (value_at mark n ≤ mark + 1022)
few-less mark None h = (omega arith, omega arith)
few-less mark (Some m) h = (omega arith, omega arith)

-- ## The map itself

keep-over : (n : Bytes) (t : Ty) (fs : Fields) → long (t_map (attach n t fs)) ≡ true → keep n t (some fs) ≡ none
unfolding keep kept
keep-over n t fs e = rw e

keep-within : (n : Bytes) (t : Ty) (fs : Fields) → long (t_map (attach n t fs)) ≡ false → keep n t (some fs) ≡ some (attach n t fs)
unfolding keep kept
keep-within n t fs e = rw e

keep-none : (n : Bytes) (t : Ty) → keep n t none ≡ none
unfolding keep
keep-none n t = refl

attach-over : (n : Bytes) (t : Ty) (fs : Fields) → 1024 < 2 + length (entries_of fs) + (length n + 1 + length (line t)) + 2 → long (t_map (attach n t fs)) ≡ true
attach-over n t fs h = attach-test n t fs ∙ lt-ltb 1024 (2 + length (entries_of fs) + (length n + 1 + length (line t)) + 2) h

attach-within : (n : Bytes) (t : Ty) (fs : Fields) → 2 + length (entries_of fs) + (length n + 1 + length (line t)) + 2 ≤ 1024 → long (t_map (attach n t fs)) ≡ false
attach-within n t fs h = attach-test n t fs ∙ le-ltb 1024 (2 + length (entries_of fs) + (length n + 1 + length (line t)) + 2) h

-- ## An entry more

-- x behind the entries
behind : (s : Bytes) (from j mark n : ℕ) (acc x : Bytes) → mark + 1024 ≤ length s → n ≡ length acc → slice mark (mark + n) s ≡ acc → slice from (from + j) s ≡ x → j ≡ length x → n + j + 2 ≤ 1024
    → slice mark (mark + (n + j)) (kept_text s from j mark (Some n)) ≡ acc ++ x
behind s from j mark n acc x room l is part jl w =
    let text : kept_text s from j mark (Some n) ≡ sets s (mark + n) x = kept-text s from j mark n w ∙ ap (sets s (mark + n)) part in
    let size : n + j ≡ n + length x = omega arith in
    ap₂ (λ (i : ℕ) (y : Bytes). slice mark (mark + i) y) size text ∙ put-behind s mark n acc x is l (omega arith)

module _ (s : Bytes) (from j mark : ℕ) (room : mark + 1024 ≤ length s) where
  pub kept_entry : (n : StdOption ℕ) (k : Option Fields) (nm : Bytes) (t : Ty) → KeptAt s mark n k → slice from (from + j) s ≡ name_to nm (line t) → j ≡ length nm + 1 + length (line t)
      → KeptAt (kept_text s from j mark n) mark (kept_of n j) (keep nm t k)
  kept_entry n none nm t h part e = rw (keep-none nm t, h) (keeps-none j)
  kept_entry n (some fs) nm t h part e = rw h.long (go (keeps (kept_size fs) j))
    where
      go : Keeps (kept_size fs) j → KeptAt (kept_text s from j mark (Some (kept_size fs))) mark (kept_of (Some (kept_size fs)) j) (keep nm t (some fs))
      go (over w q) = rw (keep-over nm t fs (attach-over nm t fs (omega arith))) q
      go (within w q) =
          let size : kept_size (attach nm t fs) ≡ kept_size fs + j = omega (arith, attach-size nm t fs) in
          rw (keep-within nm t fs (attach-within nm t fs (omega arith)))
          (record {
            long = q ∙ ap (λ (i : ℕ). Some i) (sym size);
            fits = omega (arith, size);
            is = ap (λ (i : ℕ). slice mark (mark + i) (kept_text s from j mark (Some (kept_size fs)))) size
                ∙ behind s from j mark (kept_size fs) (75 ∷ 44 ∷ entries_of fs) (name_to nm (line t)) room (omega arith) h.is part (e ∙ sym (entry-size nm t)) w
                ∙ ap (λ (x : Bytes). 75 ∷ 44 ∷ x) (sym (attach-entries nm t fs));
          })

  -- a name more
  pub kept-name : (n : StdOption ℕ) (k : Option Fields) (nm : Bytes) → KeptAt s mark n k → slice from (from + j) s ≡ name_to nm [] → j ≡ length nm + 1
      → KeptNameAt (kept_text s from j mark n) mark (kept_of n j) nm k
  kept-name n none nm h part e = rw h (keeps-none j)
  kept-name n (some fs) nm h part e = rw h.long (go (keeps (kept_size fs) j))
    where
      go : Keeps (kept_size fs) j
          → NameKept (kept_text s from j mark (Some (kept_size fs))) mark (kept_of (Some (kept_size fs)) j) nm fs ⊎ NameOver (kept_of (Some (kept_size fs)) j) nm fs
      go (over w q) = inr (record { over = q; always = λ v. attach-over nm v fs (omega arith) })
      go (within w q) =
          let size : name_size nm fs ≡ kept_size fs + j = omega (arith, name-size nm) in
          inl (record {
            long = q ∙ ap (λ (i : ℕ). Some i) (sym size);
            fits = omega (arith, size);
            is = ap (λ (i : ℕ). slice mark (mark + i) (kept_text s from j mark (Some (kept_size fs)))) size
                ∙ behind s from j mark (kept_size fs) (75 ∷ 44 ∷ entries_of fs) (name_to nm []) room (omega arith) h.is part (e ∙ sym (name-size nm)) w;
          })

-- the value that stands behind the name
value-kept : (s : Bytes) (mark e j m : ℕ) (n : StdOption ℕ) (fs : Fields) (nm : Bytes) (v : Ty) → NameKept s mark n nm fs → m ≡ name_size nm fs → TypeAt s (mark + m) e v → j ≡ e - (mark + m)
    → KeptAt s mark (kept_of (Some m) j) (keep nm v (some fs))
value-kept s mark e j m n fs nm v h z t q = go (keeps m j)
  where
    size : j ≡ length (line v)
    size = let a = length-slice (mark + m) e s t.inside in let b = ap length t.is in omega (arith, t.ordered)

    long : m ≡ kept_size fs + (length nm + 1)
    long = omega (arith, z, name-size nm)

    name : slice mark (mark + m) s ≡ 75 ∷ 44 ∷ (entries_of fs ++ name_to nm [])
    name = ap (λ (i : ℕ). slice mark (mark + i) s) z ∙ h.is

    go : Keeps m j → KeptAt s mark (kept_of (Some m) j) (keep nm v (some fs))
    go (over w p) = rw (keep-over nm v fs (attach-over nm v fs (omega (arith, size, long)))) p
    go (within w p) =
        let ends : mark + (m + j) ≡ e = omega (arith, t.ordered) in
        let whole : kept_size (attach nm v fs) ≡ m + j = omega (arith, attach-size nm v fs, size, long) in
        rw (keep-within nm v fs (attach-within nm v fs (omega (arith, size, long))))
        (record {
          long = p ∙ ap (λ (i : ℕ). Some i) (sym whole);
          fits = omega (arith, whole);
          is = ap (λ (i : ℕ). slice mark (mark + i) s) whole
              ∙ ap (λ (i : ℕ). slice mark i s) ends
              ∙ sym (slice-join mark (mark + m) e s (omega arith) t.ordered)
              ∙ ap₂ (λ (x y : Bytes). x ++ y) name t.is
              ∙ ap (λ (x : Bytes). 75 ∷ 44 ∷ x) (append_assoc (entries_of fs) (name_to nm []) (line v) ∙ ap (λ (x : Bytes). entries_of fs ++ x) (name-append nm [] (line v)) ∙ sym (attach-entries nm v fs));
        })

pub kept-value : (s : Bytes) (mark e j : ℕ) (n : StdOption ℕ) (k : Option Fields) (nm : Bytes) (v : Ty) → KeptNameAt s mark n nm k → TypeAt s (value_at mark n) e v → j ≡ e - value_at mark n
    → KeptAt s mark (kept_of n j) (keep nm v k)
kept-value s mark e j n none nm v h t q = rw (keep-none nm v, h) (keeps-none j)
kept-value s mark e j n (some fs) nm v (inr o) t q = rw (keep-over nm v fs (o.always v), o.over) (keeps-none j)
kept-value s mark e j n (some fs) nm v (inl h) t q =
    let l = h.long in
    subst (λ (i : StdOption ℕ). KeptAt s mark (kept_of i j) (keep nm v (some fs))) (sym l)
    (value-kept s mark e j (name_size nm fs) n fs nm v h refl (subst (λ (i : StdOption ℕ). TypeAt s (value_at mark i) e v) l t) (subst (λ (i : StdOption ℕ). j ≡ e - value_at mark i) l q))

-- what is kept stays while the answer is made behind it
pub kept-stays : (s s' : Bytes) (mark at : ℕ) (n : StdOption ℕ) (nm : Bytes) (k : Option Fields) → Below s s' at → at ≡ value_at mark n → KeptNameAt s mark n nm k → KeptNameAt s' mark n nm k
kept-stays s s' mark at n nm none b e h = h
kept-stays s s' mark at n nm (some fs) b e (inr o) = inr o
kept-stays s s' mark at n nm (some fs) b e (inl h) =
    let l : at ≡ mark + name_size nm fs = e ∙ ap (value_at mark) h.long in
    inl (record { long = h.long; fits = h.fits; is = slice-stays at s s' b.kept mark (mark + name_size nm fs) (omega arith) ∙ h.is })
