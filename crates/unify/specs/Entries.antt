-- The entries of maps, and what is kept of a map at the mark.
use Rattle.std.specs.Prelude.{ℕ, ◌+◌, ◌≤◌, ◌≡◌, ◌⊎◌, true, false, length, Some, None}
use Rattle.std.specs.Prelude.{Option as StdOption}
use Rattle.std.specs.Option.{unwrap_or}
use mathlib.Core.List.{[], ◌∷◌, ◌++◌}
use Rattle.std.proofs.Math.Option.{Option, none, some}
use Rattle.std.proofs.Math.Seq.{slice}
use Rattle.semantics.specs.Codes.{comma, map_letter}
use Rattle.semantics.specs.Bytes.{Bytes}
use Rattle.semantics.specs.Ty.{Ty, t_map, Fields, ∅ᶠ, field, line, name_to, fields_to, regular, too_large}
use Rattle.unify_run.specs.Run.{long, attach}
use Rattle.unify.specs.Codes.{partial_limit}

-- a value of a map
pub data Value (t : Ty) : Fields → Type 0 where
  here : {n : Bytes} {fs : Fields} → Value t (field n t fs)
  later : {n : Bytes} {u : Ty} {fs : Fields} → Value t fs → Value t (field n u fs)

-- the bytes of entries, without the `!,` that ends them
unfoldable pub entries_of : Fields → Bytes
entries_of ∅ᶠ = []
entries_of (field n t fs) = name_to n (line t ++ entries_of fs)

-- the entries fs stand from p on, below the mark, as the end of a map that is regular and not too large
pub record EntriesAt (s : Bytes) (p mark : ℕ) (fs : Fields) : Type 0 where
  pub end : ℕ
  pub ordered : p ≤ end
  pub below : end ≤ mark
  pub inside : end ≤ length s
  pub is : slice p end s ≡ fields_to fs []
  pub regular : regular (t_map fs) ≡ true
  pub small : too_large (t_map fs) ≡ false

-- how much is kept of the entries behind `K,`
abbrev pub kept_size : Fields → ℕ
kept_size fs = 2 + length (entries_of fs)

-- what is kept of a map at the mark: `K,` and entries, or nothing once it is over
pub record FieldsKept (s : Bytes) (mark : ℕ) (n : StdOption ℕ) (fs : Fields) : Type 0 where
  pub long : n ≡ Some (kept_size fs)
  pub fits : kept_size fs ≤ partial_limit
  pub is : slice mark (mark + kept_size fs) s ≡ map_letter ∷ comma ∷ entries_of fs

abbrev pub KeptAt : Bytes → ℕ → StdOption ℕ → Option Fields → Type 0
KeptAt s mark n none = n ≡ None
KeptAt s mark n (some fs) = FieldsKept s mark n fs

-- the same with a name behind it: over as soon as the name alone is too much
abbrev pub name_size : Bytes → Fields → ℕ
name_size name fs = kept_size fs + length (name_to name [])

pub record NameKept (s : Bytes) (mark : ℕ) (n : StdOption ℕ) (name : Bytes) (fs : Fields) : Type 0 where
  pub long : n ≡ Some (name_size name fs)
  pub fits : name_size name fs ≤ partial_limit
  pub is : slice mark (mark + name_size name fs) s ≡ map_letter ∷ comma ∷ (entries_of fs ++ name_to name [])

pub record NameOver (n : StdOption ℕ) (name : Bytes) (fs : Fields) : Type 0 where
  pub over : n ≡ None
  pub always : (v : Ty) → long (t_map (attach name v fs)) ≡ true

abbrev pub KeptNameAt : Bytes → ℕ → StdOption ℕ → Bytes → Option Fields → Type 0
KeptNameAt s mark n name none = n ≡ None
KeptNameAt s mark n name (some fs) = NameKept s mark n name fs ⊎ NameOver n name fs

-- where what comes behind it goes
abbrev pub value_at : ℕ → StdOption ℕ → ℕ
value_at mark n = mark + unwrap_or n 0
