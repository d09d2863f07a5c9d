-- The running union: its members one after the other at the front of a text, with no `O,` before and no `!,` behind them. What the contracts of union.rt cite.
use Rattle.std.specs.Prelude.{ℕ, ◌+◌, ◌≤◌, ◌≡◌, Bool, List, ◌∷◌, ◌++◌, ltb, length, take, drop, Option, Some, None}
use Rattle.std.proofs.Math.Seq.{slice}
use Rattle.semantics.specs.Codes.{comma, close_mark, union_letter}
use Rattle.semantics.specs.Limits.{type_limit}
use Rattle.semantics.specs.Bytes.{Bytes}
use Rattle.semantics.specs.Ty.{Ty, line, insert, inserts, opened, joined, too_large}
use Rattle.ty.specs.Parts.{lines_of, TypeAt, SomeType}
use Rattle.ty.specs.Made.{made}
use Rattle.ty.specs.declared.union.Rest.{Rest}

-- the types ts stand one after the other at [a, e) of the text s
pub record TypesAt (s : Bytes) (a e : ℕ) (ts : List Ty) : Type 0 where
  pub ordered : a ≤ e
  pub inside : e ≤ length s
  pub is : slice a e s ≡ lines_of ts

-- ## Where a type goes among the members

-- members stand at [0, n), and a type at [n, m)
pub record Placing (s : Bytes) (n m : ℕ) : Type 0 where
  pub members : List Ty
  pub front : TypesAt s 0 n members
  pub new : SomeType s n m

-- x goes into ms at the byte p: between `before` and `after`
pub record Between (ms : List Ty) (x : Ty) (p : ℕ) : Type 0 where
  pub before : List Ty
  pub after : List Ty
  pub members : ms ≡ before ++ after
  pub at : p ≡ length (lines_of before)
  pub inserted : insert x ms ≡ before ++ (x ∷ after)

abbrev pub Goes : List Ty → Ty → Option ℕ → Type 0
Goes ms x (Some p) = Between ms x p
Goes ms x None = insert x ms ≡ ms

abbrev pub Placed : Bytes → ℕ → ℕ → Option ℕ → Type 0
Placed s n m r = (ms : List Ty) (x : Ty) → TypesAt s 0 n ms → TypeAt s n m x → Goes ms x r

-- ## One type more

-- members stand at [0, n), and types, one at least, at [n, e)
pub record Pending (s : Bytes) (n e : ℕ) : Type 0 where
  pub members : List Ty
  pub first : Ty
  pub others : List Ty
  pub front : TypesAt s 0 n members
  pub new : TypesAt s n e (first ∷ others)

-- these members stand at the front now, these types behind them, and nothing from e on has changed
pub record Inserted (s s' : Bytes) (e : ℕ) (us ts : List Ty) (r : Rest) : Type 0 where
  pub front : TypesAt s' 0 r.from us
  pub new : TypesAt s' r.from r.to ts
  pub within : r.to ≤ e
  pub above : drop e s' ≡ drop e s
  pub long : length s' ≡ length s

abbrev pub InsertedAny : Bytes → Bytes → ℕ → ℕ → Rest → Type 0
InsertedAny s s' n e r = (ms : List Ty) (x : Ty) (ts : List Ty) → TypesAt s 0 n ms → TypesAt s n e (x ∷ ts) → Inserted s s' e (insert x ms) ts r

-- ## Many types more

-- whether the members' union is too long
unfoldable pub overlong : List Ty → Bool
overlong ms = ltb type_limit (length (line (joined ms)))

-- members stand at [0, n)
pub record SomeMembers (s : Bytes) (n : ℕ) : Type 0 where
  pub members : List Ty
  pub front : TypesAt s 0 n members

abbrev pub Sized : Bytes → ℕ → Option ℕ → Type 0
Sized s n r = (ms : List Ty) → TypesAt s 0 n ms → r ≡ made (overlong ms) n

-- members stand at [0, n), and types at [n, e)
pub record Adding (s : Bytes) (n e : ℕ) : Type 0 where
  pub members : List Ty
  pub types : List Ty
  pub front : TypesAt s 0 n members
  pub new : TypesAt s n e types

-- these members stand at the front now, and nothing from e on has changed; the answer is their length, or that their union is too long
pub record Grew (s s' : Bytes) (e : ℕ) (us : List Ty) (r : Option ℕ) : Type 0 where
  pub front : TypesAt s' 0 (length (lines_of us)) us
  pub within : length (lines_of us) ≤ e
  pub above : drop e s' ≡ drop e s
  pub long : length s' ≡ length s
  pub answer : r ≡ made (overlong us) (length (lines_of us))

abbrev pub AddedAll : Bytes → Bytes → ℕ → ℕ → Option ℕ → Type 0
AddedAll s s' n e r = (ms ts : List Ty) → TypesAt s 0 n ms → TypesAt s n e ts → Grew s s' e (inserts ts ms) r

abbrev pub AddedOpened : Bytes → Bytes → ℕ → ℕ → Option ℕ → Type 0
AddedOpened s s' n e r = (ms : List Ty) (t : Ty) → TypesAt s 0 n ms → TypeAt s n e t → Grew s s' e (inserts (opened t) ms) r

-- ## The members as one type

-- `O,` before the first n bytes, and `!,` behind them
abbrev pub wrapped : ℕ → Bytes → Bytes
wrapped n s = union_letter ∷ comma ∷ (take n s ++ (close_mark ∷ comma ∷ drop (n + 4) s))

-- members stand at [0, n), with room for four bytes more
pub record Closing (s : Bytes) (n : ℕ) : Type 0 where
  pub members : List Ty
  pub front : TypesAt s 0 n members
  pub room : n + 4 ≤ length s

-- the type t stands at the front now, and nothing from n + 4 on has changed
pub record Fronted (s s' : Bytes) (n : ℕ) (t : Ty) : Type 0 where
  pub front : TypeAt s' 0 (length (line t)) t
  pub within : length (line t) ≤ n + 4
  pub above : drop (n + 4) s' ≡ drop (n + 4) s
  pub long : length s' ≡ length s

pub record LinedAs (s s' : Bytes) (n : ℕ) (t : Ty) (r : ℕ) : Type 0 where
  pub text : Fronted s s' n t
  pub answer : r ≡ length (line t)

abbrev pub Lined : Bytes → Bytes → ℕ → ℕ → Type 0
Lined s s' n r = (ms : List Ty) → TypesAt s 0 n ms → LinedAs s s' n (joined ms) r

pub record ClosedAs (s s' : Bytes) (n : ℕ) (t : Ty) (r : Option ℕ) : Type 0 where
  pub text : Fronted s s' n t
  pub answer : r ≡ made (too_large t) (length (line t))

abbrev pub Closed : Bytes → Bytes → ℕ → Option ℕ → Type 0
Closed s s' n r = (ms : List Ty) → TypesAt s 0 n ms → ClosedAs s s' n (joined ms) r
