-- What the parts of a call are told of the store, and what they tell.
use Rattle.std.specs.Prelude.{◌≡◌, List, [], ◌∷◌, ◌++◌, ℕ, ◌+◌, ◌≤◌, length, Result, Ok, Err}
use Rattle.std.proofs.Math.Option.{some}
use Rattle.std.proofs.Math.Seq.{slice}
use Rattle.std.proofs.lemmas.List.Edits.{sets}
use Rattle.semantics.specs.Bytes.{Bytes}
use Rattle.stores.specs.Catalogue.{Live, Catalogue, low, taken, stored, read_store, Called, Kept, looking_up, store_call, place_of, store_head, entry_head}
use Rattle.semantics.specs.Refusals.{number_of}
use Rattle.semantics.specs.declared.refusals.Refused.{Refused}
use Rattle.catalogue.specs.declared.Entered.{Entered}
use Rattle.catalogue.specs.declared.Line.{Line}
use Rattle.catalogue.specs.declared.Found.{Found}

-- a store that has the form, and its list
pub record Open (s : Bytes) (c : Catalogue) : Type 0 where
  pub read : read_store s ≡ some c
  pub is : s ≡ stored c

pub record Opened (s : Bytes) (last end : ℕ) : Type 0 where
  pub list : Catalogue
  pub form : Open s list
  pub given : last ≡ list.last
  pub ends : end ≡ store_head + taken list.live

-- one of its live types, at its place
pub record Stands (s : Bytes) (c : Catalogue) (at : ℕ) (l : Live) : Type 0 where
  pub form : Open s c
  pub before : List Live
  pub after : List Live
  pub live : c.live ≡ before ++ (l ∷ after)
  pub place : at ≡ store_head + taken before

pub record Standing (s : Bytes) (at : ℕ) : Type 0 where
  pub list : Catalogue
  pub type : Live
  pub stands : Stands s list at type

-- the same with the end of the live types
pub record StandsTo (s : Bytes) (at end : ℕ) : Type 0 where
  pub list : Catalogue
  pub type : Live
  pub stands : Stands s list at type
  pub ends : end ≡ store_head + taken list.live

pub record EndsAt (s : Bytes) (end : ℕ) : Type 0 where
  pub list : Catalogue
  pub form : Open s list
  pub ends : end ≡ store_head + taken list.live

-- a type more, behind the others
abbrev pub added : Bytes → Bytes → ℕ → ℕ → Bytes
added s t n end = sets (sets (sets (sets (sets s 0 (low 2 n)) end (low 2 n)) (end + 2) (low 2 (length t))) (end + 4) (low 4 1)) (end + entry_head) t

abbrev pub kept_of : Called → Kept
kept_of r = record { told = r.0; store = stored r.1 }

-- a call's answer in parts: its number, the returned numbers, and the store's bytes
abbrev pub kept_as : ℕ → ℕ → ℕ → Bytes → Kept
kept_as n a b s = record { told = record { number = n; first = a; second = b; text = [] }; store = s }

-- a look-up's answer in parts
abbrev pub looked_as : ℕ → ℕ → Bytes → Bytes → Kept
looked_as n u t s = record { told = record { number = n; first = u; second = 0; text = t }; store = s }

-- the same of what the code answers
abbrev pub refused_by : Refused → Bytes → Kept
refused_by r s = kept_as (number_of r.why) r.place 0 s

abbrev pub entered_by : Result Entered Refused → Bytes → Kept
entered_by (Ok e) s = kept_as 0 e.number e.uses s
entered_by (Err r) s = refused_by r s

abbrev pub released_by : Result ℕ Refused → Bytes → Kept
released_by (Ok uses) s = kept_as 0 uses 0 s
released_by (Err r) s = refused_by r s

abbrev pub found_by : Result Found Refused → Bytes → Kept
found_by (Ok f) s = looked_as 0 f.uses f.line.now s
found_by (Err r) s = refused_by r s

-- a look-up's answer, the line as that part of the store
abbrev pub looked_by : Result Line Refused → Bytes → Kept
looked_by (Ok l) s = looked_as 0 l.uses (slice l.at l.end s) s
looked_by (Err r) s = refused_by r s

-- where its line is; 0 if there is none
abbrev pub from_of : Result Line Refused → ℕ
from_of (Ok l) = l.at
from_of (Err r) = 0

abbrev pub to_of : Result Line Refused → ℕ
to_of (Ok l) = l.end
to_of (Err r) = 0

pub record Looks (k : Kept) (r : Result Line Refused) (s : Bytes) : Type 0 where
  pub is : looked_by r s ≡ k
  pub up : from_of r ≤ to_of r
  pub inside : to_of r ≤ length s

pub record Looked (s : Bytes) (n : ℕ) (r : Result Line Refused) : Type 0 where
  pub looks : Looks (store_call s (looking_up n)) r s
  pub place : from_of r ≡ place_of s n
