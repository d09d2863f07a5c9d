-- An entry goes into a map line at the front of a text: what the contracts of map.rt cite.
use Rattle.std.specs.Prelude.{ℕ, ◌≤◌, ◌≡◌, ◌∷◌, ◌++◌, map, ltb, length, take, drop, Option, Some, None}
use Rattle.std.proofs.Math.Seq.{slice}
use Rattle.semantics.specs.Codes.{comma}
use Rattle.semantics.specs.Limits.{type_limit}
use Rattle.semantics.specs.Bytes.{Bytes, hex}
use Rattle.semantics.specs.Ty.{Ty, t_map, Fields, name_to, line, too_large, set_field}
use Rattle.ty.specs.Parts.{TypeAt, SomeType}
use Rattle.ty.specs.Made.{Made, made}
use Rattle.ty.specs.declared.map.Spot.{Spot}
use Rattle.ty.specs.declared.map.Spot.TheVariants.{New, Old}

-- ## Where it goes

-- the map of the entries fs stands at [0, len), and x spells the name n
pub record MapFront (s : Bytes) (len : ℕ) (x : Bytes) (fs : Fields) (n : Bytes) : Type 0 where
  pub at : TypeAt s 0 len (t_map fs)
  pub spelt : x ≡ map hex n

pub record SomeMap (s : Bytes) (len : ℕ) (x : Bytes) : Type 0 where
  pub fields : Fields
  pub name : Bytes
  pub front : MapFront s len x fields name

-- in the line l of the entries fs: a new entry of the name n stands at p, or its value in place of [v, e)
abbrev pub Goes : Bytes → Fields → Bytes → Spot → Type 0
Goes l fs n (New p) = (p ≤ length l) × ((t : Ty) → line (t_map (set_field n t fs)) ≡ take p l ++ (name_to n (line t) ++ drop p l))
Goes l fs n (Old v e) = (v ≤ e) × (e ≤ length l) × ((t : Ty) → line (t_map (set_field n t fs)) ≡ take v l ++ (line t ++ drop e l))

abbrev pub Spotted : Bytes → ℕ → Bytes → Spot → Type 0
Spotted s len x r = (fs : Fields) (n : Bytes) → MapFront s len x fs n → Goes (line (t_map fs)) fs n r

-- ## The bytes

-- the answer says whether l is too long; if not, it stands at the front now
pub record Fronted (s s' l : Bytes) (r : Option ℕ) : Type 0 where
  pub answer : r ≡ made (ltb type_limit (length l)) (length l)
  pub stands : length l ≤ type_limit → take (length l) s' ≡ l
  pub long : length s' ≡ length s

-- x and a comma at p, and [len, end) behind them
unfoldable pub inserted_at : Bytes → ℕ → ℕ → ℕ → Bytes → Bytes
inserted_at s len end p x = take p s ++ (x ++ (comma ∷ (slice len end s ++ slice p len s)))

-- [len, end) in place of [v, e)
unfoldable pub replaced_at : Bytes → ℕ → ℕ → ℕ → ℕ → Bytes
replaced_at s len end v e = take v s ++ (slice len end s ++ slice e len s)

-- ## The size of what was made

abbrev pub FrontOf : Bytes → Option ℕ → Type 0
FrontOf s (Some n) = SomeType s 0 n
FrontOf s None = Unit {0}

abbrev pub TestedAs : Bytes → Option ℕ → Option ℕ → Type 0
TestedAs s (Some n) r = (t : Ty) → TypeAt s 0 n t → r ≡ made (too_large t) n
TestedAs s None r = r ≡ None

-- ## The whole

pub record Entering (s : Bytes) (len end : ℕ) (x : Bytes) : Type 0 where
  pub map : SomeMap s len x
  pub value : SomeType s len end
  pub room : type_limit ≤ length s

abbrev pub Entered : Bytes → Bytes → ℕ → ℕ → Bytes → Option ℕ → Type 0
Entered s s' len end x r = (fs : Fields) (n : Bytes) (t : Ty) → MapFront s len x fs n → TypeAt s len end t → Made s s' 0 (t_map (set_field n t fs)) r
