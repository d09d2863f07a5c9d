-- An entry of a map and an arm of a CASE: `map_value`, `case_arm`. Assumes nothing.
use mathlib.Core.Path.{◌≡◌, refl, sym, ◌∙◌, ap}
use mathlib.Core.Logic.{◌⊎◌, inl, inr}
use mathlib.Core.List.{List}
use mathlib.Core.Option.{none, some}
use Rattle.std.specs.Prelude.{Option, Some, None}
use mathlib.Core.Bool.{Bool, true, false}
use Prim.Native.Nat.{ℕ, ◌+◌}
use native.Mathlib.Omega.{arith}
use lib.ListN.{length, take}
use Rattle.semantics.specs.Bytes.{Bytes}
use Rattle.semantics.specs.Ty.{Ty, t_map, Fields, line, too_large, set_field, inserts, opened, joined}
use Rattle.semantics.specs.Sheet.{Role, plain, condition, answer, inner}
use Rattle.ty.specs.Parts.{lines_of, TypeAt}
use Rattle.ty.specs.Made.{Made, made}
use Rattle.ty.specs.Entry.{Entering, Entered}
use Rattle.ty.specs.Union.{TypesAt, overlong, Placing, Grew, AddedOpened}
use Rattle.unify_run.specs.Run.{given, long, fitting, add}
use Rattle.walk_run.specs.Run.{Kept, empty, over, kept, both, items, last, entries, arms, keep_entry, keep_arm, keep_answer}
use Rattle.exprs.specs.State.{text_of, place, behind, full, StAs, ChildAt, ArmForm, Keeps, SomeEntry, EntryKept, SomeArm, ArmKept}
use Rattle.exprs.specs.Rules.{child_role, AnswerKept}
use Rattle.exprs.specs.declared.state.Accumulator.{Accumulator}
use Rattle.exprs.specs.declared.role.Role.{Role as CodeRole}
use Rattle.exprs.specs.declared.role.Role.TheVariants.{Plain, Condition, Answer}
use Rattle.exprs.proofs.StateLaws.{Is}

-- ## `map_value`

entry-front : {fs : Fields} {t : Ty} {s : Bytes} {st : Accumulator} {n : ℕ} → ChildAt (entries fs) t s st n → TypeAt s 0 st.len (t_map fs)
unfolding text_of place
entry-front {s = s} {st = st} c =
    record {
      ordered = omega arith;
      inside = omega (arith, c.child.ordered, c.child.inside);
      is = ap (λ (m : ℕ). take m s) c.state.len ∙ c.state.front;
    }

pub entry_in : {s : Bytes} {st : Accumulator} {n : ℕ} {x : Bytes} → SomeEntry s st n x → Entering s st.len (st.len + n) x
entry_in p =
    record {
      map = record { fields = p.before; name = p.name; front = record { at = entry-front p.at; spelt = p.spelt } };
      value = record { ty = p.ty; at = p.at.child };
      room = p.wide;
    }

len-differs : {n : ℕ} → Some n ≡ None → ⊥
len-differs e = let z : ◌≡◌ {A = ℕ} 0 1 = cc in omega arith

module _ {s s' x : Bytes} {st : Accumulator} {n : ℕ} {g : Option ℕ} (h : Entered s s' st.len (st.len + n) x g) where
  pub entry-on : {m : ℕ} {q : Accumulator} → g ≡ Some m → Is q m 0 → EntryKept s s' st n x (Some q)
  unfolding keep_entry text_of place behind full
  entry-on {m} {q} e i fs t y c z = let d = h fs y t (record { at = entry-front c; spelt = z }) c.child in go d (too_large (t_map (set_field y t fs))) refl d.answer
    where
      gs : Fields
      gs = set_field y t fs

      go : Made s s' 0 (t_map gs) g → (b : Bool) → too_large (t_map gs) ≡ b → g ≡ made b (length (line (t_map gs))) → Keeps (elim b [ true ↦ none | false ↦ some (entries gs) ]) s s' (Some q)
      go d true p a = absurd (len-differs (sym e ∙ a))
      go d false p a =
          let l : m ≡ length (line (t_map gs)) = cc in
          let y : 0 + length (line (t_map gs)) ≡ length (line (t_map gs)) = omega arith in
          record {
            kept = record { len = i.0 ∙ l; second = i.1; over = i.2; front = ap (λ (k : ℕ). take k s') (sym y) ∙ (d.stands p).is };
            long = d.long;
          }

  pub entry-large : g ≡ None → EntryKept s s' st n x None
  unfolding keep_entry
  entry-large e fs t y c z = let d = h fs y t (record { at = entry-front c; spelt = z }) c.child in go d (too_large (t_map (set_field y t fs))) d.answer
    where
      gs : Fields
      gs = set_field y t fs

      go : Made s s' 0 (t_map gs) g → (b : Bool) → g ≡ made b (length (line (t_map gs))) → Keeps (elim b [ true ↦ none | false ↦ some (entries gs) ]) s s' None
      go d true a = record { kept = tt; long = d.long }
      go d false a = absurd (len-differs (sym a ∙ e))

-- ## `case_arm`

-- the two tests are one
pub long-overlong : (ms : List Ty) → long (joined ms) ≡ overlong ms
unfolding long overlong
long-overlong ms = refl

arm-front : {ms : List Ty} {t : Ty} {s : Bytes} {st : Accumulator} {n : ℕ} → ChildAt (arms ms) t s st n → TypesAt s 0 st.len ms
unfolding text_of place
arm-front {s = s} {st = st} c =
    record {
      ordered = omega arith;
      inside = omega (arith, c.child.ordered, c.child.inside);
      is = ap (λ (m : ℕ). take m s) c.state.len ∙ c.state.front;
    }

-- once too large, it stays so
pub arm-over : {s : Bytes} {st : Accumulator} {n : ℕ} → st.over ≡ true → ArmKept s s st n st
unfolding keep_arm full
arm-over {s} {st} {n} e = record { long = refl; kept = go }
  where
    go : (k : Kept) (t : Ty) → ArmForm k → ChildAt k t s st n → StAs (keep_arm k t) s st
    go empty t f c = absurd f
    go over t f c = c.state
    go (kept u) t f c = absurd f
    go (both u v) t f c = absurd f
    go (items o) t f c = absurd f
    go (last o) t f c = absurd f
    go (entries fs) t f c = absurd f
    go (arms ms) t f c = absurd (let z : st.over ≡ false = c.state.over in cc)

module _ {s : Bytes} {st : Accumulator} {n : ℕ} (open' : st.over ≡ false) where
  pub arm_in : SomeArm s st n → Placing s st.len (st.len + n)
  unfolding full
  arm_in p = go p.before p.form p.at
    where
      go : (k : Kept) → ArmForm k → ChildAt k p.ty s st n → Placing s st.len (st.len + n)
      go empty f c = absurd f
      go over f c = absurd (let z : st.over ≡ true = c.state.over in cc)
      go (kept u) f c = absurd f
      go (both u v) f c = absurd f
      go (items o) f c = absurd f
      go (last o) f c = absurd f
      go (entries fs) f c = absurd f
      go (arms ms) f c = record { members = ms; front = arm-front c; new = record { ty = p.ty; at = c.child } }

  module _ {s' : Bytes} {g : Option ℕ} (p : SomeArm s st n) (h : AddedOpened s s' st.len (st.len + n) g) where
    arm-long : length s' ≡ length s
    arm-long = let q = arm_in p in (h q.members q.new.ty q.front q.new.at).long

    arm-with : (q : Accumulator) → ((us : List Ty) → Grew s s' (st.len + n) us g → StAs (given (fitting us) over arms) s' q) → ArmKept s s' st n q
    unfolding keep_arm add full
    arm-with q each = record { long = arm-long; kept = go }
      where
        go : (k : Kept) (t : Ty) → ArmForm k → ChildAt k t s st n → StAs (keep_arm k t) s' q
        go empty t f c = absurd f
        go over t f c = absurd (let z : st.over ≡ true = c.state.over in cc)
        go (kept u) t f c = absurd f
        go (both u v) t f c = absurd f
        go (items o) t f c = absurd f
        go (last o) t f c = absurd f
        go (entries fs) t f c = absurd f
        go (arms ms) t f c = each (inserts (opened t) ms) (h ms t (arm-front c) c.child)

    pub arm-on : {m : ℕ} {q : Accumulator} → g ≡ Some m → Is q m 0 → ArmKept s s' st n q
    unfolding fitting text_of place behind full
    arm-on {m} {q} e i = arm-with q (λ us d. each us d (overlong us) refl d.answer)
      where
        each : (us : List Ty) → Grew s s' (st.len + n) us g → (b : Bool) → overlong us ≡ b → g ≡ made b (length (lines_of us)) → StAs (given (fitting us) over arms) s' q
        each us d true p a = absurd (len-differs (sym e ∙ a))
        each us d false p a =
            let l : m ≡ length (lines_of us) = cc in
            rw (long-overlong us ∙ p)
            (record { len = i.0 ∙ l; second = i.1; over = i.2; front = d.front.is })

    pub arm-large : {q : Accumulator} → g ≡ None → q ≡ record { len = 0; second = 0; over = true } → ArmKept s s' st n q
    unfolding fitting text_of place behind full
    arm-large {q} e i = arm-with q (λ us d. each us d (overlong us) refl d.answer)
      where
        each : (us : List Ty) → Grew s s' (st.len + n) us g → (b : Bool) → overlong us ≡ b → g ≡ made b (length (lines_of us)) → StAs (given (fitting us) over arms) s' q
        each us d true p a = rw (long-overlong us ∙ p, i) (record { len = refl; second = refl; over = refl; front = refl })
        each us d false p a = absurd (len-differs (sym a ∙ e))

-- ## An answer of a CASE

pub answer-kept : {i : CodeRole} {s s' : Bytes} {st r : Accumulator} {n : ℕ} → i ≡ Answer → ArmKept s s' st n r → AnswerKept i s s' st n r
unfolding child_role
answer-kept {i} {s} {s'} {st} {r} {n} e a = record { long = a.long; kept = go }
  where
    go : (p : Role) (k : Kept) (t : Ty) → i ≡ child_role p → ArmForm k → ChildAt k t s st n → StAs (keep_answer p k t) s' r
    go plain k t z f c = cc
    go condition k t z f c = cc
    go answer k t z f c = a.kept k t f c
    go (inner q) k t z f c = cc

pub answer-other : {i : CodeRole} {s : Bytes} {st : Accumulator} {n : ℕ} → (i ≡ Plain) ⊎ (i ≡ Condition) → AnswerKept i s s st n st
unfolding child_role
answer-other {i} {s} {st} {n} e = record { long = refl; kept = go }
  where
    not-answer : (i ≡ Plain) ⊎ (i ≡ Condition) → i ≡ Answer → ⊥
    not-answer (inl p) z = cc
    not-answer (inr p) z = cc

    go : (p : Role) (k : Kept) (t : Ty) → i ≡ child_role p → ArmForm k → ChildAt k t s st n → StAs (keep_answer p k t) s st
    go plain k t z f c = c.state
    go condition k t z f c = c.state
    go answer k t z f c = absurd (not-answer e z)
    go (inner q) k t z f c = c.state
