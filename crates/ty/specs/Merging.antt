-- Two lists of names below a place `to`, each ended by `!`, and what is kept of them in a line at `to`: what the contracts of merging.rt and label_sets.rt cite.
use Prim.Native.Nat.{ℕ, ◌+◌, ◌≤◌, Ordering}
use Rattle.std.specs.Prelude.{◌≡◌, true, cond, List, [], ◌∷◌, ltb, length, drop, IfSome, Option as StdOption, Some, None}
use Rattle.std.proofs.Math.Option.{Option, none, some}
use Rattle.std.proofs.Math.Seq.{slice}
use Rattle.std.proofs.lemmas.List.Edits.{sets}
use Rattle.semantics.specs.Codes.{comma, close_mark}
use Rattle.semantics.specs.Limits.{type_limit}
use Rattle.semantics.specs.Bytes.{Bytes, lex}
use Rattle.semantics.specs.Ty.{Ty, t_node, name_to, line, insert_names, ascending}
use Rattle.ty.specs.Parts.{TypeAt}
use Rattle.ty.specs.Made.{Made, made}
use Rattle.ty.specs.declared.merging.Merge.{Merge}
use Rattle.ty.specs.declared.merging.Side.{Side}
use Rattle.ty.specs.declared.merging.Side.TheVariants.{First, Second, Both}

-- ## Whose name comes next

-- the first name of a list, or its end
unfoldable pub head_to : Option Bytes → Bytes → Bytes
head_to none r = close_mark ∷ r
head_to (some n) r = name_to n r

pub record HeadAt (s : Bytes) (p : ℕ) (o : Option Bytes) : Type 0 where
  pub rest : Bytes
  pub is : drop p s ≡ head_to o rest

pub record SomeHead (s : Bytes) (p : ℕ) : Type 0 where
  pub head : Option Bytes
  pub at : HeadAt s p head

abbrev pub next_by : Ordering → Side
next_by Ordering.lt = First
next_by Ordering.eq = Both
next_by Ordering.gt = Second

-- the first list's, the second's, or that of both; None: none is left
unfoldable pub next_of : Option Bytes → Option Bytes → StdOption Side
next_of none none = None
next_of none (some m) = Some Second
next_of (some n) none = Some First
next_of (some n) (some m) = Some (next_by (lex n m))

abbrev pub NextIs : Bytes → ℕ → ℕ → StdOption Side → Type 0
NextIs s p q r = (o u : Option Bytes) → HeadAt s p o → HeadAt s q u → r ≡ next_of o u

-- a name stands at p
pub record SomeName (s : Bytes) (p : ℕ) : Type 0 where
  pub name : Bytes
  pub at : HeadAt s p (some name)

-- how long it is, with its comma
abbrev pub NameLong : Bytes → ℕ → ℕ → Type 0
NameLong s p r = (n : Bytes) → HeadAt s p (some n) → r ≡ length n + 1

-- ## What is kept

-- how much of a line of n bytes behind another k bytes and `!,`: None once it is over, and from then on
unfoldable pub kept_of : StdOption ℕ → ℕ → StdOption ℕ
kept_of None k = None
kept_of (Some n) k = made (ltb type_limit (n + k + 2)) (n + k)

-- with the k bytes from `from` on behind the n bytes at `to`, if they are kept
unfoldable pub kept_text : Bytes → ℕ → ℕ → ℕ → StdOption ℕ → Bytes
kept_text s from k to None = s
kept_text s from k to (Some n) = cond (ltb type_limit (n + k + 2)) s (sets s (to + n) (slice from (from + k) s))

-- how much of a line of l bytes is kept, `!,` still to come
unfoldable pub kept_length : ℕ → StdOption ℕ
kept_length l = made (ltb type_limit (l + 2)) l

-- of the line acc, n bytes are kept at `to`: all, or none once it is over
pub record Kept (s : Bytes) (to : ℕ) (n : StdOption ℕ) (acc : Bytes) : Type 0 where
  pub size : n ≡ kept_length (length acc)
  pub stands : length acc + 2 ≤ type_limit → slice to (to + length acc) s ≡ acc

-- where the k bytes that are taken stand, and where the lists go on
unfoldable pub taken_at : Merge → Side → ℕ
taken_at m First = m.p
taken_at m Second = m.q
taken_at m Both = m.p

unfoldable pub moved : Merge → Side → ℕ → Merge
moved m First k = record { p = m.p + k; q = m.q; n = kept_of m.n k }
moved m Second k = record { p = m.p; q = m.q + k; n = kept_of m.n k }
moved m Both k = record { p = m.p + k; q = m.q + k; n = kept_of m.n k }

-- what is kept leaves room for `!,`
abbrev pub Few : StdOption ℕ → Type 0
Few n = IfSome n (λ k. k + 2 ≤ type_limit)

pub record Taking (s : Bytes) (m : Merge) (x : Side) (k to : ℕ) : Type 0 where
  pub first : (x ≡ Second → ⊥) → m.p + k ≤ to
  pub second : (x ≡ First → ⊥) → m.q + k ≤ to
  pub room : to + type_limit ≤ length s
  pub few : Few m.n

-- `!,` behind the n bytes at `to`
unfoldable pub closed_of : StdOption ℕ → StdOption ℕ
closed_of None = None
closed_of (Some n) = Some (n + 2)

unfoldable pub closed_text : Bytes → ℕ → StdOption ℕ → Bytes
closed_text s to None = s
closed_text s to (Some n) = sets s (to + n) (close_mark ∷ comma ∷ [])

-- ## Labels

-- the node type of these labels stands at [a, e), below `to`
pub record LabelsAt (s : Bytes) (a e to : ℕ) (ls : List Bytes) : Type 0 where
  pub at : TypeAt s a e (t_node (some ls))
  pub below : e ≤ to
  pub ascends : ascending ls ≡ true

pub record SomeLabels (s : Bytes) (a to : ℕ) : Type 0 where
  pub end : ℕ
  pub labels : List Bytes
  pub at : LabelsAt s a end to labels

abbrev pub MergedLabels : Bytes → Bytes → ℕ → ℕ → ℕ → StdOption ℕ → Type 0
MergedLabels s s' a b to r = (ae be : ℕ) (ls ks : List Bytes) → LabelsAt s a ae to ls → LabelsAt s b be to ks → Made s s' to (t_node (some (insert_names ks (insert_names ls [])))) r

-- ## Entries

-- an entry
unfoldable pub entry_to : Bytes → Ty → Bytes
entry_to n t = name_to n (line t)
