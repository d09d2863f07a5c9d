-- The lines of the report as the code writes them: appended to the output, what fits written, all counted.
use Rattle.std.specs.Prelude.{◌≡◌, List, [], ◌∷◌, ◌++◌, Bool, ℕ, ◌+◌, ◌^◌, ◌≤◌, ◌<◌, length}
use Rattle.std.proofs.lemmas.List.Edits.{sets}
use Rattle.semantics.specs.Codes.{line_feed, comma}
use Rattle.semantics.specs.Bytes.{Bytes, text, shown}
use Rattle.semantics.specs.Ty.{Ty}
use Rattle.semantics.specs.Walk.{Fault, fault_2009, fault_2010, fault_2011, fault_2013, Top, is_open}
use Rattle.semantics.specs.Calls.{fault_line, top_line}
use Rattle.ty.specs.Read.{kind_of}
use Rattle.report.specs.declared.Report.{Report}
use Rattle.report.specs.declared.TypeFault.{TypeFault}
use Rattle.report.specs.declared.TypeFault.TheVariants.{E2009, E2010, E2011, E2013}

-- the lines of some faults
unfoldable pub faults_text : List Fault → Bytes
faults_text [] = []
faults_text (f ∷ fs) = fault_line f ++ (line_feed ∷ faults_text fs)

-- a type line of the report
abbrev pub type_text : Ty → Bytes
type_text t = top_line t ++ (line_feed ∷ [])

-- the lines of some top expressions: of each its faults and its type
unfoldable pub tops_text : List Top → Bytes
tops_text [] = []
tops_text (t ∷ ts) = faults_text t.faults ++ (type_text t.ty ++ tops_text ts)

-- a line of a head and two numbers
abbrev pub numbers_text : Bytes → ℕ → ℕ → Bytes
numbers_text s n m = s ++ (shown n ++ (comma ∷ (shown m ++ (line_feed ∷ []))))

-- the last line, by its two counts
abbrev pub end_text : ℕ → ℕ → Bytes
end_text n m = numbers_text (text "end,") n m

-- what the line of a fault of this code starts with
abbrev pub fault_head : ℕ → Bytes
fault_head c = text "F," ++ (shown c ++ (comma ∷ []))

-- these bytes are behind what was filled, and no fault was counted
pub record Appends (s : Bytes) (out out' : Bytes) (fill fill' : ℕ) : Type 0 where
  pub text : out' ≡ sets out fill s
  pub end : fill' ≡ fill + length s

-- the same of a line of two numbers, which have at most 20 digits
pub record NumbersLine (s : Bytes) (n m : ℕ) (out out' : Bytes) (fill fill' : ℕ) : Type 0 where
  pub appended : Appends (numbers_text s n m) out out' fill fill'
  pub short : fill' ≤ fill + length s + 42

-- the counts can grow by one fault
pub record HasRoom (r : Report) : Type 0 where
  pub fill : r.writer.now.fill + 128 < 2 ^ 64
  pub faults : r.faults + 1 < 2 ^ 64

-- these faults were added
pub record Adds (fs : List Fault) (r r' : Report) : Type 0 where
  pub text : r'.writer.now.out.now ≡ sets r.writer.now.out.now r.writer.now.fill (faults_text fs)
  pub end : r'.writer.now.fill ≡ r.writer.now.fill + length (faults_text fs)
  pub count : r'.faults ≡ r.faults + length fs

-- the fault of a code that tells one type, and the code's number
abbrev pub code_fault : TypeFault → Ty → Fault
code_fault E2009 t = fault_2009 t
code_fault E2010 t = fault_2010 t
code_fault E2011 t = fault_2011 t
code_fault E2013 t = fault_2013 t

abbrev pub code_of : TypeFault → ℕ
code_of E2009 = 2009
code_of E2010 = 2010
code_of E2011 = 2011
code_of E2013 = 2013

-- the answer for every type of this kind
abbrev pub OpenKind : ℕ → Bool → Type 0
OpenKind k r = (u : Ty) → kind_of u ≡ k → r ≡ is_open u
