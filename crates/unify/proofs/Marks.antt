-- What stands below a mark stays while a text is written from the mark on, and a part from a mark on is a text of its own. Assumes nothing.
use mathlib.Core.Path.{◌≡◌, refl, sym, ◌∙◌, ap, subst}
use mathlib.Core.List.{List, ◌++◌}
use Prim.Native.Nat.{ℕ, ◌+◌, ◌-◌, ◌≤◌}
use native.Mathlib.Omega.{arith}
use lib.ListN.{length, take, drop, length-append, length-drop, length-take}
use lib.Seq.{slice, sets, take_all, take_at, take-take, length-take-le, length-sets}
use Rattle.semantics.specs.Bytes.{Bytes}
use Rattle.semantics.specs.Ty.{Ty, Fields, line}
use Rattle.semantics.proofs.Order.{line_eq}
use Rattle.text.proofs.Laws.{slice-drop, slice-right, take_below, slice-sets, length_part, back}
use Rattle.ty.specs.Parts.{TypeAt}
use Rattle.ty.specs.Union.{TypesAt}
use Rattle.ty.proofs.Lent.{put_back, put-kept, put-long}
use Rattle.ty.proofs.Members.{as-types, one_type}
use Rattle.unify.specs.declared.Span.{Span}
use Rattle.unify.specs.Work.{Operand, Below}
use Rattle.unify.specs.Entries.{EntriesAt}

-- ## One type stands at a place

pub same-type : {s : Bytes} {a e : ℕ} {t u : Ty} → TypeAt s a e t → TypeAt s a e u → t ≡ u
same-type {t = t} {u = u} f g = line_eq t u (sym f.is ∙ g.is)

pub same_operand : {s : Bytes} {a : Span} {m n : ℕ} {t u : Ty} → Operand s a m t → Operand s a n u → t ≡ u
same_operand f g = same-type f.at g.at

-- an operand stands in the text
pub operand_in : {s : Bytes} {a : Span} {mark : ℕ} {t : Ty} → Operand s a mark t → Operand s a (length s) t
operand_in o = record { at = o.at; below = o.at.inside; regular = o.regular; small = o.small }

-- and below a higher mark
pub operand_less : {s : Bytes} {a : Span} {m n : ℕ} {t : Ty} → m ≤ n → Operand s a m t → Operand s a n t
operand_less h o = record { at = o.at; below = omega (arith, o.below); regular = o.regular; small = o.small }

-- ## Texts with the same front

-- the first m bytes are the same
abbrev pub Fronts : ℕ → Bytes → Bytes → Type 0
Fronts m s s' = take m s' ≡ take m s

pub fronts-less : (k m : ℕ) (s s' : Bytes) → k ≤ m → Fronts m s s' → Fronts k s s'
fronts-less k m s s' h e = sym (take-take k m s' h) ∙ ap (take k) e ∙ take-take k m s h

module _ (m : ℕ) (s s' : Bytes) (same : Fronts m s s') where
  inside-stays : (e : ℕ) → e ≤ m → e ≤ length s → e ≤ length s'
  inside-stays e h k = omega (arith, ap length same, length-take m s', length-take m s)

  pub slice-stays : (a e : ℕ) → e ≤ m → slice a e s' ≡ slice a e s
  slice-stays a e h = ap (drop a) (fronts-less e m s s' h same)

  pub type-stays : {a e : ℕ} {t : Ty} → e ≤ m → TypeAt s a e t → TypeAt s' a e t
  type-stays {a} {e} {t} h p = record { ordered = p.ordered; inside = inside-stays e h p.inside; is = slice-stays a e h ∙ p.is }

  pub types-stay : {a e : ℕ} {ts : List Ty} → e ≤ m → TypesAt s a e ts → TypesAt s' a e ts
  types-stay {a} {e} {ts} h p = record { ordered = p.ordered; inside = inside-stays e h p.inside; is = slice-stays a e h ∙ p.is }

  -- an operand, below a mark that may be another
  pub operand-stays : {a : Span} {n k : ℕ} {t : Ty} → n ≤ m → n ≤ k → Operand s a n t → Operand s' a k t
  operand-stays {a} {n} {k} {t} h l p = record { at = type-stays (omega arith) p.at; below = omega arith; regular = p.regular; small = p.small }

  pub entries-stay : {p n : ℕ} {fs : Fields} → n ≤ m → EntriesAt s p n fs → EntriesAt s' p n fs
  entries-stay {p} {n} {fs} h q =
      record {
        end = q.end;
        ordered = q.ordered;
        below = q.below;
        inside = inside-stays q.end (omega arith) q.inside;
        is = slice-stays p q.end (omega arith) ∙ q.is;
        regular = q.regular;
        small = q.small;
      }

-- ## Below a mark

pub below-same : (s : Bytes) (m : ℕ) → Below s s m
below-same s m = record { kept = refl; long = refl }

pub below_then : {s s' s'' : Bytes} {m : ℕ} → Below s s' m → Below s' s'' m → Below s s'' m
below_then p q = record { kept = q.kept ∙ p.kept; long = q.long ∙ p.long }

pub below_less : {k m : ℕ} {s s' : Bytes} → k ≤ m → Below s s' m → Below s s' k
below_less {k} {m} {s} {s'} h p = record { kept = fronts-less k m s s' h p.kept; long = p.long }

-- what is written from a mark on
pub below-sets : (s : Bytes) (m k : ℕ) (t : Bytes) → m ≤ k → Below s (sets s k t) m
below-sets s m k t h = record { kept = take_below m s k t h; long = length-sets s k t }

module _ {s s' : Bytes} {m : ℕ} (b : Below s s' m) where
  pub below-types : {a e : ℕ} {ts : List Ty} → e ≤ m → TypesAt s a e ts → TypesAt s' a e ts
  below-types h t = types-stay m s s' b.kept h t

  pub below-operand : {a : Span} {t : Ty} → Operand s a m t → Operand s' a m t
  below-operand o = operand-stays m s s' b.kept (omega arith) (omega arith) o

  pub below-entries : {p : ℕ} {fs : Fields} → EntriesAt s p m fs → EntriesAt s' p m fs
  below-entries e = entries-stay m s s' b.kept (omega arith) e

-- ## A line that is written at a place

pub written_type : (s : Bytes) (at : ℕ) (t : Ty) → at + length (line t) ≤ length s → TypeAt (sets s at (line t)) at (at + length (line t)) t
written_type s at t h = record { ordered = omega arith; inside = omega (arith, length-sets s at (line t)); is = slice-sets s at (line t) h }

-- the part from a mark on, lent as `&mut s[mark..]`
pub put-below : (s t : Bytes) (k : ℕ) → k ≤ length s → length t ≡ length (take (length s - k) (drop k s)) → Below s (put_back s k t) k
put-below s t k h l = record { kept = put-kept s t k h l; long = put-long s t k h l }

-- ## A part from a mark on

module _ (s : Bytes) (m : ℕ) where
  pub part-all : take (length s - m) (drop m s) ≡ drop m s
  part-all = take_all (length s - m) (drop m s) (omega (arith, length-drop m s))

  pub part-types : {b f : ℕ} {ts : List Ty} (a e : ℕ) → m + a ≡ b → m + e ≡ f → TypesAt s b f ts → TypesAt (take (length s - m) (drop m s)) a e ts
  part-types {b} {f} {ts} a e p q t =
      subst (λ (l : Bytes). TypesAt l a e ts) (sym part-all)
      (record { ordered = omega (arith, t.ordered); inside = omega (arith, t.inside, length-drop m s); is = slice-drop a e m s ∙ rw (p, q) t.is })

  pub part_type : {b f : ℕ} {t : Ty} (a e : ℕ) → m + a ≡ b → m + e ≡ f → TypeAt s b f t → TypeAt (take (length s - m) (drop m s)) a e t
  part_type a e p q t = one_type (part-types a e p q (as-types t))

  -- ... that was changed and is back
  module _ (h : m ≤ length s) (p : Bytes) {w : Bytes} (l : length p ≡ length (take (length s - m) (drop m s))) (e : w ≡ take m s ++ (p ++ drop (length s - m) (drop m s))) where
    back_whole : w ≡ take m s ++ p
    back_whole = e ∙ back s p m h l

    back_long : length p + m ≡ length s
    back_long = omega (arith, l ∙ ap length part-all, length-drop m s)

    pub back_below : Below s w m
    back_below =
        record {
          kept = ap (take m) back_whole ∙ take_at (take m s) p m (length-take-le m s h);
          long = ap length back_whole ∙ (length-append (take m s) p ∙ omega (arith, length-take-le m s h, back_long));
        }

    pub back-types : {a b : ℕ} {ts : List Ty} (c d : ℕ) → m + a ≡ c → m + b ≡ d → TypesAt p a b ts → TypesAt w c d ts
    back-types {a} {b} {ts} c d i j t =
        subst (λ (v : Bytes). TypesAt v c d ts) (sym back_whole)
        (record { ordered = omega (arith, t.ordered); inside = omega (arith, t.inside, length-append (take m s) p, length-take-le m s h); is = (rw (i, j) at moved) ∙ t.is })
      where
        moved : slice (m + a) (m + b) (take m s ++ p) ≡ slice a b p
        moved = subst (λ (k : ℕ). slice (k + a) (k + b) (take m s ++ p) ≡ slice a b p) (length-take-le m s h) (slice-right a b (take m s) p)

-- ## Types that are copied behind a place

-- what stood below it stays
pub copied-before : {s s' : Bytes} {a e to : ℕ} {ts : List Ty} (t : Bytes) → s' ≡ sets s to t → e ≤ to → TypesAt s a e ts → TypesAt s' a e ts
copied-before {s} {s'} {a} {e} {to} {ts} t w h g = subst (λ (v : Bytes). TypesAt v a e ts) (sym w) (below-types (below-sets s to to t (omega arith)) h g)

pub copied-types : {s s' : Bytes} {from to : ℕ} {ts : List Ty} (len : ℕ) → s' ≡ sets s to (slice from (from + len) s) → to + len ≤ length s
    → TypesAt s from (from + len) ts → TypesAt s' to (to + len) ts
copied-types {s} {s'} {from} {to} {ts} len w h g =
    subst (λ (v : Bytes). TypesAt v to (to + len) ts) (sym w)
    (record { ordered = omega arith; inside = omega (arith, h, length-sets s to part); is = stands ∙ g.is })
  where
    part : Bytes
    part = slice from (from + len) s

    long : length part ≡ len
    long = length_part from len s g.inside

    stands : slice to (to + len) (sets s to part) ≡ part
    stands = subst (λ (k : ℕ). slice to (to + k) (sets s to part) ≡ part) long (slice-sets s to part (omega (arith, long, h)))
