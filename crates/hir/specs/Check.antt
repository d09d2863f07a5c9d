-- What the validation says, by what the code has.
use Rattle.std.specs.Prelude.{◌≡◌, ◌⊎◌, List, [], ◌∷◌, ◌++◌, Bool, true, false, cond, ℕ, ◌+◌, ◌-◌, ◌≤◌, ◌<◌, eqb, ltb, length, drop, Option, Some, None, Result, Ok, Err}
use Rattle.semantics.specs.Codes.{line_feed, badly_written, too_deep, expression_rank}
use Rattle.semantics.specs.Bytes.{Bytes, split}
use Rattle.semantics.specs.Sheet.{Head, Place, rank, place, row, Shape, Want, at, clauses, bindings, check, Sheet, heads, refused, sheet}
use Rattle.semantics.specs.Refusals.{number_of}
use Rattle.semantics.specs.declared.refusals.Refusal.{Refusal}
use Rattle.semantics.specs.declared.refusals.Refused.{Refused}
use Rattle.line.specs.Words.{word_of, place_of}
use Rattle.line.specs.declared.words.Word.{Word}
use Rattle.line.specs.declared.places.Place.{Place as Spot}
use Rattle.line.specs.declared.line.Head.{Head as Seen}
use Rattle.line.specs.declared.line.BadLine.{BadLine}
use Rattle.line.specs.declared.line.HirId.{HirId}
use Rattle.hir.specs.Run.{Run, stopped, passed, run, behind}
use Rattle.hir.specs.Kids.{first_size, first_spot, second_size, second_spot, bits, two_groups}
use Rattle.hir.specs.declared.valid.Next.{Next}
use Rattle.hir.specs.declared.valid.Kids.{Kids}
use Rattle.hir.specs.declared.valid.Outline.{Outline}
use Rattle.hir.specs.Lines.{LineAt, Lines, Met, Ascends}

-- ## A line at a place

-- the rank of the place of a line's word; for no word one behind the last
abbrev pub word_class : Option Word → ℕ
word_class None = 14
word_class (Some w) = rank (row (word_of w)).place

abbrev pub class_of : Result Seen BadLine → ℕ
class_of (Ok k) = rank (row (word_of k.word)).place
class_of (Err b) = word_class b.word

-- why a line is refused at a place with so many levels left: another place is first, then its fields, then the depth
pub data Refuses (x : Result Seen BadLine) (q : Place) (d : ℕ) (why : Refusal) : Type 0 where
  elsewhere : (class_of x ≡ rank q → ⊥) → number_of why ≡ badly_written → Refuses x q d why
  wrong : (b : BadLine) → x ≡ Err b → class_of x ≡ rank q → why ≡ b.why → Refuses x q d why
  deep : (k : Seen) → x ≡ Ok k → class_of x ≡ rank q → rank q ≡ expression_rank → d ≡ 0 → number_of why ≡ too_deep → Refuses x q d why

abbrev pub AdmitAs : Result Seen BadLine → Place → ℕ → Result Seen Refusal → Type 0
AdmitAs x q d (Ok k) = (x ≡ Ok k) × (class_of x ≡ rank q) × (rank q ≡ expression_rank → 0 < d)
AdmitAs x q d (Err why) = Refuses x q d why

-- a line is refused by its number
abbrev pub RefusedAt : Refusal → HirId → Refused → Type 0
RefusedAt why line r = (r.why ≡ why) × (r.place ≡ line.0)

abbrev pub MeetAs : Result Seen BadLine → HirId → Place → ℕ → Result Seen Refused → Type 0
MeetAs x line q d (Ok k) = (x ≡ Ok k) × (class_of x ≡ rank q) × (rank q ≡ expression_rank → 0 < d)
MeetAs x line q d (Err e) = Refuses x q d e.why × (e.place ≡ line.0)

-- the same of a line whose place is known
abbrev pub GoodAs : Result Seen BadLine → HirId → Result Seen Refused → Type 0
GoodAs x line (Ok k) = x ≡ Ok k
GoodAs x line (Err e) = (b : BadLine) × (x ≡ Err b) × (e.why ≡ b.why) × (e.place ≡ line.0)

-- ## What stands right below a line

pub record HungAs (u : Shape) (c b : ℕ) (r : Kids) : Type 0 where
  pub first : r.first ≡ first_size u c b
  pub all : r.all ≡ r.first + second_size u c b
  pub place1 : place_of r.place1 ≡ first_spot u
  pub place2 : place_of r.place2 ≡ second_spot u
  pub small : r.all < 131072

abbrev pub KidsAs : Seen → Kids → Type 0
KidsAs h r = HungAs (row (word_of h.word)).under h.count (bits h.flag) r

abbrev pub pick_p : Bool → Spot → Spot → Spot
pick_p true a b = a
pick_p false a b = b

-- the place of the j-th line below
abbrev pub spot_of : Kids → ℕ → Spot
spot_of k j = pick_p (ltb j k.first) k.place1 k.place2

-- the depth left below a line
abbrev pub below_of : ℕ → ℕ → ℕ
below_of c d = cond (eqb c expression_rank) (d - 1) d

-- what these lines want, with so many levels left
abbrev pub wants_of : Kids → ℕ → List Want
wants_of k d = two_groups k.first (at (place_of k.place1) d) (k.all - k.first) (at (place_of k.place2) d)

-- what hangs under a line, of which the first starts inside the sheet, at `from`, and is the line `line`
pub record KidsAsk (s : Bytes) (k : Kids) (from line : ℕ) : Type 0 where
  pub room : length s < 4294967294
  pub over : Seen
  pub hung : KidsAs over k
  pub inside : from ≤ length s
  pub above : line ≤ from + 1

-- the wants were met from `from` on, and the line `line` starts at `next`
pub record FineAs (s : Bytes) (from next line : ℕ) (r : Run) : Type 0 where
  pub heads : List Head
  pub same : r ≡ passed heads line (split line_feed (drop next s))
  pub on : from ≤ next
  pub inside : next ≤ length s
  pub above : line ≤ next + 1

abbrev pub ChecksAs : Bytes → ℕ → Result Next Refused → Run → Type 0
ChecksAs s from (Ok n) r = FineAs s from n.at n.line.0 r
ChecksAs s from (Err e) r = r ≡ stopped (number_of e.why) e.place

-- ## The top of a sheet

-- a line that starts at `at`
pub record TopAsk (s : Bytes) (at line : ℕ) : Type 0 where
  pub room : length s < 4294967294
  pub inside : at ≤ length s
  pub above : line ≤ at + 1

-- the bindings from line n on are read, up to a line that is none; or refused; however many levels are left for what follows
pub record BoundAs (s : Bytes) (p n next line : ℕ) : Type 0 where
  pub heads : List Head
  pub same : (d : ℕ) → run (bindings 0 d ∷ []) n (split line_feed (drop p s)) ≡ behind heads (run (clauses d ∷ []) line (split line_feed (drop next s)))
  pub lines : Lines s p heads next
  pub top : ℕ
  pub ascending : Ascends 0 heads top
  pub count : line ≡ n + length heads
  pub inside : next ≤ length s
  pub above : line ≤ next + 1

abbrev pub BindsAs : Bytes → ℕ → ℕ → Result Next Refused → Type 0
BindsAs s p n (Ok x) = BoundAs s p n x.at x.line.0
BindsAs s p n (Err e) = (d : ℕ) → run (bindings 0 d ∷ []) n (split line_feed (drop p s)) ≡ stopped (number_of e.why) e.place

-- the `end` line: its fields, and nothing behind it
abbrev pub EndAs : Result Seen BadLine → HirId → ℕ → Result (Unit {0}) Refused → Type 0
EndAs x line len (Ok u) = (k : Seen) × (x ≡ Ok k) × (k.next ≡ len)
EndAs x line len (Err e) = GoodAs x line (Err e) ⊎ ((k : Seen) × (x ≡ Ok k) × (k.next ≡ len → ⊥) × (number_of e.why ≡ badly_written) × (e.place ≡ line.0 + 1))

-- the clauses and the `end` line, and nothing behind it
abbrev pub ClausesAs : ℕ → Bytes → ℕ → ℕ → Result (Unit {0}) Refused → Type 0
ClausesAs d s p n (Ok u) = (hs : List Head) × (check (clauses d ∷ []) n (split line_feed (drop p s)) ≡ heads hs)
ClausesAs d s p n (Err e) = check (clauses d ∷ []) n (split line_feed (drop p s)) ≡ refused (number_of e.why) e.place

-- ## The whole sheet

-- the lines behind the first are read: the bindings up to `to`, then the clauses and the end, met
pub record RestLaid (d : ℕ) (s : Bytes) (from : ℕ) (r : Outline) (q : Sheet) : Type 0 where
  pub start : r.from ≡ from
  pub binds : List Head
  pub rest : List Head
  pub same : q ≡ heads (binds ++ rest)
  pub bound : Lines s r.from binds r.to
  pub top : ℕ
  pub ascending : Ascends 0 binds top
  pub below : Lines s r.to rest (length s)
  pub met : Met (clauses d ∷ []) rest []
  pub line : r.line.0 ≡ 2 + length binds

abbrev pub RestAs : ℕ → Bytes → ℕ → Result Outline Refused → Sheet → Type 0
RestAs d s from (Ok r) q = RestLaid d s from r q
RestAs d s from (Err e) q = q ≡ refused (number_of e.why) e.place

-- an accepted sheet: its first line up to `from`, its bindings up to `to`, and from there on its clauses and its end, the first of them
-- on line `line`
pub record Laid (d : ℕ) (s : Bytes) (r : Outline) : Type 0 where
  pub head : Head
  pub binds : List Head
  pub rest : List Head
  pub same : sheet d s ≡ heads (head ∷ (binds ++ rest))
  pub first : LineAt s 0 head r.from
  pub zero : rank (place head) ≡ 0
  pub bound : Lines s r.from binds r.to
  pub top : ℕ
  pub ascending : Ascends 0 binds top
  pub below : Lines s r.to rest (length s)
  pub met : Met (clauses d ∷ []) rest []
  pub line : r.line.0 ≡ 2 + length binds

-- the sheet, whose expressions may stand d levels deep, is accepted; or refused for `why` at line `place`
abbrev pub OutlineAs : ℕ → Bytes → Result Outline Refused → Type 0
OutlineAs d s (Ok r) = Laid d s r
OutlineAs d s (Err e) = sheet d s ≡ refused (number_of e.why) e.place
