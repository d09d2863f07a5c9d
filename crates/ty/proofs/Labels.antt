-- Names, labels and what a relationship type holds: the steps of their readers. Assumes nothing.
use mathlib.Core.Path.{◌≡◌, refl, sym, ◌∙◌, ap, subst}
use mathlib.Core.List.{List, [], ◌∷◌, map}
use mathlib.Core.Option.{Option, none, some}
use mathlib.Core.Bool.{Bool, true, false, cond, ◌&&◌, false≢true, and-eq-true_iff}
use Prim.Native.Nat.{ℕ, ◌+◌, ◌-◌, ◌*◌, ◌%◌, ◌≤◌, ◌<◌}
use native.Mathlib.Omega.{arith}
use lib.Dec.{eqb, ltb, leb}
use lib.ListN.{length, drop, length-map}
use lib.Seq.{slice, length-slice}
use borrow.Author.Tests.{eq-eqb, ne_eqb, le-leb, lt-leb, lt-ltb, le-ltb}
use Rattle.std.specs.Prelude.{Option as StdOption, Some, None, Ok, Err, is_ok}
use Rattle.semantics.specs.declared.refusals.Refusal.TheVariants.{BadlyWritten, OutOfRange}
use Rattle.text.specs.Text.{index_of}
use Rattle.text.specs.Text.{is_found, named_of}
use Rattle.semantics.specs.Limits.{name_limit}
use Rattle.semantics.specs.Bytes.{Bytes, unhex, hex}
use Rattle.semantics.specs.Ty.{names_to, labels_to, rel_to, name_to, name_of, read_name}
use Rattle.semantics.proofs.Order.{tail-eq}
use Rattle.semantics.proofs.Named.{Digits, Names, Maybe}
use Rattle.semantics.proofs.Split.{name_f}
use Rattle.semantics.proofs.Reader.{unhex-sound}
use Rattle.ty.specs.Skip.{next_field}
use Rattle.ty.specs.Read.{field_at, key_end, key_of, in_order, name_in, label_allowed, InOrder, LabelsIn, LabelsRead, NodeRead, RelRead}
use Rattle.ty.proofs.Skips.{name-past}
use Rattle.ty.proofs.Fields.{and_no, field-yes, field_is, name_part, name-yes, Spelt, name-read, names-ascend, ascend-names, After, after_on, after-back, after_none}

-- ## The test of a name

unhex-length : (f ds : Bytes) → unhex f ≡ some ds → length ds ≡ length f
unhex-length f ds e =
    let w : (name_f ds ≡ f) × Digits ds = subst (Maybe (λ n. (name_f n ≡ f) × Digits n)) e (unhex-sound f) in
    sym (length-map ds hex) ∙ ap length w.0

module _ (f : Bytes) where
  name-test : (o : Option Bytes) → unhex f ≡ o → (b : Bool) → (eqb (length f % 2) 0 && leb (length f) (2 * name_limit)) ≡ b → is_found (name_of o) ≡ (b && is_found o)
  unfolding name_of
  name-test none e true h = refl
  name-test none e false h = refl
  name-test (some ds) e true h = let l = unhex-length f ds e in rw (l, h, name_of)
  name-test (some ds) e false h = let l = unhex-length f ds e in rw (l, h, name_of)

  pub name-long : 510 < length f → is_found (read_name f) ≡ false
  name-long h = name-test (unhex f) refl false (and_no (eqb (length f % 2) 0) (leb (length f) (2 * name_limit)) (lt-leb (length f) (2 * name_limit) h))

  pub name-odd : (length f % 2 ≡ 0 → ⊥) → is_found (read_name f) ≡ false
  name-odd h = name-test (unhex f) refl false (rw (ne_eqb (length f % 2) 0 h))

  pub name-hex : length f ≤ 510 → length f % 2 ≡ 0 → is_found (read_name f) ≡ is_found (unhex f)
  name-hex l h = name-test (unhex f) refl true (rw (eq-eqb (length f % 2) 0 h, le-leb (length f) (2 * name_limit) l))

two : (o : Option Bytes) (b c : Bool) → is_found o ≡ true → is_ok (cond b (cond c (Ok (tt {0})) (Err OutOfRange)) (Err BadlyWritten)) ≡ is_found (elim (b && c) [ true ↦ o | false ↦ none ])
two o true true h = sym h
two o true false h = refl
two o false c h = refl

module _ (s : Bytes) (at end : ℕ) where
  pub in-none : length s ≤ end → false ≡ name_in s at end
  unfolding name_in
  in-none h = rw (le-ltb end (length s) h)

  pub in-long : end ≤ length s → 510 < end - at → false ≡ name_in s at end
  unfolding name_in
  in-long l h = sym (and_no (ltb end (length s)) (is_found (read_name (slice at end s))) (name-long (slice at end s) (omega (arith, length-slice at end s l))))

  pub in-odd : end ≤ length s → ((end - at) % 2 ≡ 0 → ⊥) → false ≡ name_in s at end
  unfolding name_in
  in-odd l h = sym (and_no (ltb end (length s)) (is_found (read_name (slice at end s))) (name-odd (slice at end s) (rw (length-slice at end s l) h)))

  pub in-hex : end < length s → end - at ≤ 510 → (end - at) % 2 ≡ 0 → (r : Bool) → r ≡ is_found (unhex (slice at end s)) → r ≡ name_in s at end
  unfolding name_in
  in-hex l m h r e =
      let z = length-slice at end s (omega arith) in
      rw (lt-ltb end (length s) l) (e ∙ sym (name-hex (slice at end s) (rw z m) (rw z h)))

  pub in-checked : end < length s → (r : Bool) → r ≡ is_ok (named_of (unhex (slice at end s))) → r ≡ name_in s at end
  unfolding name_in name_of named_of
  in-checked l r e = rw (lt-ltb end (length s) l) (e ∙ found (unhex (slice at end s)))
    where
      found : (o : Option Bytes) → is_ok (named_of o) ≡ is_found (name_of o)
      found none = refl
      found (some ds) = two (some ds) (eqb (length ds % 2) 0) (leb (length ds) 510) refl

-- ## Labels

abbrev pub AfterIn : Bool → ℕ → Bytes → List Bytes → Type 0
AfterIn true n a ks = After n a ks
AfterIn false n a ks = Unit {0}

abbrev LeftNames : Bool → ℕ → Bytes → Bytes → Bytes → Type 0
LeftNames b n a x r = (ns : List Bytes) × (x ≡ names_to ns r) × Names ns × AfterIn b n a (map name_f ns)

after-in : (b : Bool) (n : ℕ) (a : Bytes) (m : Bytes) (ns : List Bytes) → AfterIn b n a (map name_f (m ∷ ns)) → (cond b (in_order n a (name_f m)) true ≡ true) × AfterIn b (n + 1) (name_f m) (map name_f ns)
after-in true n a m ns h = after_on n a (name_f m) (map name_f ns) h
after-in false n a m ns h = (refl, tt)

in-after : (b : Bool) (n : ℕ) (a : Bytes) (m : Bytes) (ns : List Bytes) → cond b (in_order n a (name_f m)) true ≡ true → AfterIn b (n + 1) (name_f m) (map name_f ns) → AfterIn b n a (map name_f (m ∷ ns))
in-after true n a m ns y h = after-back n a (name_f m) (map name_f ns) y h
in-after false n a m ns y h = tt

none-after : (b : Bool) (n : ℕ) (a : Bytes) → AfterIn b n a []
none-after true n a = after_none n a
none-after false n a = tt

first-in : (b : Bool) (a : Bytes) (ns : List Bytes) → InOrder b ns → AfterIn b 0 a (map name_f ns)
first-in true a ns h = names-ascend ns h
first-in false a ns h = tt

in-first : (b : Bool) (a : Bytes) (ns : List Bytes) → AfterIn b 0 a (map name_f ns) → InOrder b ns
in-first true a ns h = ascend-names ns h
in-first false a ns h = tt

pub record Naming (b : Bool) (s : Bytes) (at prev q n : ℕ) : Type 0 where
  pub from : at + n ≤ q
  pub order : prev ≤ q
  pub inside : q ≤ length s
  pub to : (ns : List Bytes) (r : Bytes) → drop at s ≡ names_to ns r → LabelsIn b ns → LeftNames b n (key_of 75 s prev q) (drop q s) r
  pub from_rest : (r : Bytes) → LeftNames b n (key_of 75 s prev q) (drop q s) r → (ns : List Bytes) × (drop at s ≡ names_to ns r) × (LabelsIn b ns)

pub naming : (b : Bool) (s : Bytes) (at : ℕ) → at ≤ length s → Naming b s at at at 0
naming b s at h =
    record {
      from = omega arith;
      order = omega arith;
      inside = h;
      to = λ ns r e w. (ns, e, w.0, first-in b (key_of 75 s at at) ns w.1);
      from_rest = λ r x. (x.0, x.1, (x.2, in-first b (key_of 75 s at at) x.0 x.3));
    }

module _ (b : Bool) (s : Bytes) (at prev q n : ℕ) (i : Naming b s at prev q n) (g : field_at s q 33 ≡ false) where
  left-on : (r : Bytes) → LeftNames b n (key_of 75 s prev q) (drop q s) r → (label_allowed b s prev q n ≡ true) × LeftNames b (n + 1) (key_of 75 s q (next_field s q)) (drop (next_field s q) s) r
  unfolding names_to label_allowed key_end
  left-on r x = go x.0 x.1 x.2 x.3
    where
      go : (ns : List Bytes) → drop q s ≡ names_to ns r → Names ns → AfterIn b n (key_of 75 s prev q) (map name_f ns)
          → (label_allowed b s prev q n ≡ true) × LeftNames b (n + 1) (key_of 75 s q (next_field s q)) (drop (next_field s q) s) r
      go [] e w a = absurd (false≢true (sym g ∙ field_is s q 33 r e))
      go (m ∷ ns) e w a =
          let key = name_part s q m (names_to ns r) e in
          let (y, h) = after-in b n (key_of 75 s prev q) m ns a in
          (rw (name-yes s q m (names_to ns r) w.0 e, key) y, (ns, (name-past s q m (names_to ns r) e).1, w.1, rw key h))

  -- a name that may not stand there
  pub name-refused : label_allowed b s prev q n ≡ false → LabelsRead b s at None
  name-refused h ns r e w = false≢true (sym h ∙ (left-on r (i.to ns r e w)).0)

  module _ (h : label_allowed b s prev q n ≡ true) where
    read_at : Spelt s q
    unfolding label_allowed key_end
    read_at = name-read s q ((and-eq-true_iff (name_in s q (q + index_of 44 (drop q s))) (cond b (in_order n (key_of 75 s prev q) (key_of 75 s q q)) true)).0 h).0

    pub name-comma : q + index_of 44 (drop q s) < length s
    name-comma = read_at.inside

    left_back : (r : Bytes) → LeftNames b (n + 1) (key_of 75 s q (next_field s q)) (drop (next_field s q) s) r → LeftNames b n (key_of 75 s prev q) (drop q s) r
    unfolding names_to label_allowed key_end
    left_back r x =
        let (ns, e, w, a) = x in
        let m = read_at.name in
        let y = ((and-eq-true_iff (name_in s q (q + index_of 44 (drop q s))) (cond b (in_order n (key_of 75 s prev q) (key_of 75 s q q)) true)).0 h).1 in
        let key = read_at.text in
        (m ∷ ns, read_at.is ∙ ap (name_to m) e, (read_at.good, w), in-after b n (key_of 75 s prev q) m ns (rw key at y) (rw key at a))

    pub name-on : (p : ℕ) → p ≡ next_field s q → Naming b s at q p (n + 1)
    name-on p z =
        rw z
        (record {
          from = omega (arith, i.from);
          order = omega arith;
          inside = omega (arith, name-comma);
          to = λ ns r e w. (left-on r (i.to ns r e w)).1;
          from_rest = λ r x. i.from_rest r (left_back r x);
        })

pub names-end : (b : Bool) (s : Bytes) (at prev q n : ℕ) → Naming b s at prev q n → field_at s q 33 ≡ true → LabelsRead b s at (Some (q + 2))
unfolding names_to
names-end b s at prev q n i g =
    let (d, l) = field-yes s q 33 g in
    let (ns, e, w) = i.from_rest (drop (q + 2) s) ([], d, tt, none-after b n (key_of 75 s prev q)) in
    (ns, e, w, omega (arith, i.from), l)

-- ## What a node type and a relationship type hold

module _ (s : Bytes) (at : ℕ) where
  pub node-none : (b : Bool) → field_at s at 33 ≡ true → NodeRead b s at (Some (at + 2))
  unfolding labels_to
  node-none b h = let (d, l) = field-yes s at 33 h in (none, d, tt, omega arith, l)

  pub node-some : (b : Bool) → field_at s at 33 ≡ false → field_at s at 43 ≡ true → (res : StdOption ℕ) → LabelsRead b s (at + 2) res → NodeRead b s at res
  unfolding labels_to
  node-some b g h (Some e) (ns, d, w, p, l) = (some ns, (field-yes s at 43 h).0 ∙ ap (λ (x : Bytes). 43 ∷ 44 ∷ x) d, w, omega arith, l)
  node-some b g h None f = go
    where
      go : NodeRead b s at None
      go none r e w = false≢true (sym g ∙ field_is s at 33 r e)
      go (some ns) r e w = f ns r (tail-eq (tail-eq (sym (field-yes s at 43 h).0 ∙ e))) w

  pub node-bad : (b : Bool) → field_at s at 33 ≡ false → field_at s at 43 ≡ false → NodeRead b s at None
  unfolding labels_to
  node-bad b g h none r e w = false≢true (sym g ∙ field_is s at 33 r e)
  node-bad b g h (some ns) r e w = false≢true (sym h ∙ field_is s at 43 (names_to ns r) e)

  pub rel-none : field_at s at 33 ≡ true → RelRead s at (Some (at + 2))
  unfolding rel_to
  rel-none h = let (d, l) = field-yes s at 33 h in (none, d, tt, omega arith, l)

  pub rel-bad : field_at s at 33 ≡ false → field_at s at 43 ≡ false → RelRead s at None
  unfolding rel_to
  rel-bad g h none r e w = false≢true (sym g ∙ field_is s at 33 r e)
  rel-bad g h (some n) r e w = false≢true (sym h ∙ field_is s at 43 (name_to n r) e)

  pub rel-some : field_at s at 43 ≡ true → (e : ℕ) → e ≡ at + 2 + index_of 44 (drop (at + 2) s) → name_in s (at + 2) e ≡ true → RelRead s at (Some (e + 1))
  unfolding rel_to
  rel-some h e z w =
      let p = name-read s (at + 2) (rw z at w) in
      rw z (some p.name, (field-yes s at 43 h).0 ∙ ap (λ (x : Bytes). 43 ∷ 44 ∷ x) p.is, p.good, omega arith, omega (arith, p.inside))

  pub rel-unnamed : field_at s at 33 ≡ false → field_at s at 43 ≡ true → (e : ℕ) → e ≡ at + 2 + index_of 44 (drop (at + 2) s) → name_in s (at + 2) e ≡ false → RelRead s at None
  unfolding rel_to
  rel-unnamed g h e z w none r d v = false≢true (sym g ∙ field_is s at 33 r d)
  rel-unnamed g h e z w (some n) r d v =
      false≢true (sym w ∙ ap (name_in s (at + 2)) z ∙ name-yes s (at + 2) n r v (tail-eq (tail-eq (sym (field-yes s at 43 h).0 ∙ d))))
