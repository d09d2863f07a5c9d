-- What the walks require and ensure: the trees of lines that stand at a cursor, and what they come to.
use Rattle.std.specs.Prelude.{◌≡◌, Result, Ok, Err, List, [], ◌∷◌, ℕ, suc, ◌+◌, ◌*◌, ◌<◌, ◌≤◌, ◌^◌, length, take, drop}
use Rattle.semantics.specs.Limits.{type_limit}
use Rattle.semantics.specs.Codes.{end_rank}
use Rattle.semantics.specs.Bytes.{Bytes}
use Rattle.semantics.specs.Sheet.{Head, Place, expression_place, nothing, entering, row, silent, rule, rank, Want, at, arity}
use Rattle.semantics.specs.Walk.{Env, Res, step, walk}
use Rattle.line.specs.Words.{word_of}
use Rattle.line.specs.Line.{HeadIs}
use Rattle.line.specs.Known.{KnownAs}
use Rattle.line.specs.declared.words.Word.{Word}
use Rattle.line.specs.declared.line.Head.{Head as Seen}
use Rattle.hir.specs.Lines.{LineAt, Lines, Met}
use Rattle.ty.specs.Parts.{TypeAt}
use Rattle.report.specs.Report.{Adds}
use Rattle.report.specs.declared.Report.{Report}
use Rattle.walk_run.specs.Run.{Ran, halted, typed, judged}
use Rattle.infer.specs.Steps.{EnvAs}
use Rattle.infer.specs.declared.step.Env.{Env as Binds}
use Rattle.hir.specs.declared.valid.Next.{Next}
use Rattle.infer.specs.declared.walk.Walk.{Walk}
use Rattle.infer.specs.declared.walk.TooLarge.{TooLarge}

-- a tree at the cursor whose first line meets a want; `rest` is what stands behind it
pub record TreeAt (w : Want) (s : Bytes) (c : Next) : Type 0 where
  pub head : Head
  pub under : List Head
  pub rest : List Head
  pub next : ℕ
  pub line : LineAt s c.at head next
  pub lines : Lines s next under (length s)
  pub met : Met (w ∷ []) (head ∷ under) rest
  pub above : c.line.0 ≤ c.at + 1
  pub room : length s < 4294967294

-- what it comes to
abbrev pub result_of : Env → ℕ → Head → List Head → Res
result_of env n h hs = step env n h (take (arity h) (walk env (suc n) hs))

-- the report can be counted through all lines that are left
pub record Counting (y : Report) (lines : ℕ) : Type 0 where
  pub fill : y.writer.now.fill + 2048 * lines < 2 ^ 60
  pub faults : y.faults + 2048 * lines < 2 ^ 60

-- the cursor behind the tree
pub record Behind (env : Env) (s : Bytes) (n : ℕ) (h : Head) (hs ks : List Head) (c : Next) : Type 0 where
  pub lines : Lines s c.at ks (length s)
  pub count : c.line.0 + length ks ≡ n + suc (length hs)
  pub above : c.line.0 ≤ c.at + 1
  pub walked : drop (arity h) (walk env (suc n) hs) ≡ walk env c.line.0 ks

-- the answer of a walk: stopped at a line; or the type at the front, the faults added, and the cursor behind the tree
abbrev pub WalkedAs : Ran → Bytes → Report → Report → (Next → Type 0) → Result Walk TooLarge → Type 0
WalkedAs (halted l) work' y z B (Ok w) = ⊥
WalkedAs (halted l) work' y z B (Err m) = m.0.0 ≡ l
WalkedAs (typed t fs) work' y z B (Ok w) = TypeAt work' 0 w.len t × Adds fs y z × B w.cur
WalkedAs (typed t fs) work' y z B (Err m) = ⊥

pub record Walked (env : Env) (s : Bytes) (n : ℕ) (h : Head) (hs ks : List Head) (work work' : Bytes) (y z : Report) (r : Result Walk TooLarge) : Type 0 where
  pub answer : WalkedAs (judged (result_of env n h hs)) work' y z (Behind env s n h hs ks) r
  pub long : length work' ≡ length work
  pub as_long : length z.writer.now.out.now ≡ length y.writer.now.out.now

-- ## An expression: `depth` levels are left, this one included

pub record ExprAt (s : Bytes) (h : Seen) (c : Next) (depth : ℕ) : Type 0 where
  pub tree : TreeAt (at expression_place depth) s c
  pub is : HeadIs s h tree.head
  pub next : h.next ≡ tree.next

pub record ExprAsk (s : Bytes) (b : Binds) (h : Seen) (c : Next) (depth : ℕ) (work : Bytes) (y : Report) : Type 0 where
  pub at : ExprAt s h c depth
  pub env : Env
  pub bound : EnvAs s b env
  pub room : type_limit * (depth + 40) ≤ length work
  pub count : Counting y (suc (length at.tree.under))

abbrev pub ExprWalked : Bytes → Binds → Seen → Next → ℕ → Bytes → Bytes → Report → Report → Result Walk TooLarge → Type 0
ExprWalked s b h c depth work work' y z r =
    (a : ExprAt s h c depth) (env : Env) → EnvAs s b env → Walked env s c.line.0 a.tree.head a.tree.under a.tree.rest work work' y z r

-- ## An expression below whose line nothing can stand, with any number of levels left

abbrev pub Leaf : Word → Type 0
Leaf word = (row (word_of word)).under ≡ nothing

pub record LeafAsk (s : Bytes) (b : Binds) (h : Seen) (c : Next) (work : Bytes) : Type 0 where
  pub depth : ℕ
  pub y : Report
  pub ask : ExprAsk s b h c depth work y
  pub leaf : Leaf h.word

abbrev pub LeafWalked : Bytes → Binds → Seen → Next → Bytes → Bytes → Walk → Type 0
LeafWalked s b h c work work' r = (depth : ℕ) (y : Report) → ExprWalked s b h c depth work work' y y (Ok r)

-- ## Any tree inside a clause: `depth` levels are left for its expressions, its own line included

pub record AnyAt (s : Bytes) (k : Seen) (c : Next) (depth : ℕ) : Type 0 where
  pub place : Place
  pub inside : end_rank < rank place
  pub tree : TreeAt (at place depth) s c
  pub is : HeadIs s k tree.head
  pub next : k.next ≡ tree.next

pub record AnyAsk (s : Bytes) (b : Binds) (k : Seen) (c : Next) (depth : ℕ) (work : Bytes) (y : Report) : Type 0 where
  pub at : AnyAt s k c depth
  pub env : Env
  pub bound : EnvAs s b env
  pub room : type_limit * (depth + 40) ≤ length work
  pub count : Counting y (suc (length at.tree.under))

abbrev pub AnyWalked : Bytes → Binds → Seen → Next → ℕ → Bytes → Bytes → Report → Report → Result Walk TooLarge → Type 0
AnyWalked s b k c depth work work' y z r =
    (a : AnyAt s k c depth) (env : Env) → EnvAs s b env → Walked env s c.line.0 a.tree.head a.tree.under a.tree.rest work work' y z r

-- ## A tree that is neither an expression nor an entry: a pattern, or an item of a map projection

pub record PatternAt (s : Bytes) (c : Next) (depth : ℕ) : Type 0 where
  pub place : Place
  pub inside : end_rank < rank place
  pub tree : TreeAt (at place depth) s c
  pub passes : rule tree.head ≡ silent

pub record PatternAsk (s : Bytes) (b : Binds) (c : Next) (depth : ℕ) (work : Bytes) (y : Report) : Type 0 where
  pub at : PatternAt s c depth
  pub env : Env
  pub bound : EnvAs s b env
  pub room : type_limit * (depth + 40) ≤ length work
  pub count : Counting y (suc (length at.tree.under))

abbrev pub PatternWalked : Bytes → Binds → Next → ℕ → Bytes → Bytes → Report → Report → Result Walk TooLarge → Type 0
PatternWalked s b c depth work work' y z r =
    (a : PatternAt s c depth) (env : Env) → EnvAs s b env → Walked env s c.line.0 a.tree.head a.tree.under a.tree.rest work work' y z r

-- ## Small functions

-- an entry's expression stands on the line behind it; any other line stands for itself
pub record EntersAs (s : Bytes) (k : Seen) (c : Next) (e : Seen) (d : Next) : Type 0 where
  pub entry : (row (word_of k.word)).rule ≡ entering → KnownAs s k.next e × (d.at ≡ k.next) × (d.line.0 ≡ c.line.0 + 1)
  pub itself : ((row (word_of k.word)).rule ≡ entering → ⊥) → (e ≡ k) × (d ≡ c)
