use Rattle.line.proofs.KnownFields.{counted_digits, got-counted, variable-digits, name-spelled, float-spelled, spelled_high, got-high}
use Rattle.line.proofs.known.known_field.Goals as goal

pub known_digits-requires : goal.known_digits-requires
known_digits-requires c = let d = rw c.in-Variable.is at c.requires in counted_digits _ _ _ _ d (variable-digits _ _ _ d)

pub returns-in-Variable : goal.returns-in-Variable
returns-in-Variable c = let d = rw c.in-Variable.is at c.requires in rw c.in-Variable.is (got-counted _ _ _ _ d (variable-digits _ _ _ d) _ c.known_digits.ensures)

pub known_end-requires : goal.known_end-requires
known_end-requires c = let d = rw c.in-Name.is at c.requires in spelled_high _ _ _ _ d (name-spelled _ _ _ d).0

pub returns-in-Name : goal.returns-in-Name
returns-in-Name c = let d = rw c.in-Name.is at c.requires in rw c.in-Name.is (got-high _ _ _ 0 _ _ d (name-spelled _ _ _ d) c.known_end.ensures)

pub known_end-requires-in-Float : goal.known_end-requires-in-Float
known_end-requires-in-Float c = let d = rw c.in-Float.is at c.requires in spelled_high _ _ _ _ d (float-spelled _ _ _ d).0

pub returns-in-Float : goal.returns-in-Float
returns-in-Float c = let d = rw c.in-Float.is at c.requires in rw c.in-Float.is (got-high _ _ _ 0 _ _ d (float-spelled _ _ _ d) c.known_end-in-Float.ensures)

pub returns-in-Letter : goal.returns-in-Letter
returns-in-Letter c = rw c.in-Letter.is (c.letter_at.ensures _)
