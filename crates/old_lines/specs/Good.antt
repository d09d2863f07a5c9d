-- What the reader of old lines accepts, as the contracts of the code cite it. Contract vocabulary; nothing here is to be believed.
use Rattle.std.specs.Prelude.{◌≡◌, true}
use Rattle.semantics.specs.Ty.{Ty}
use Rattle.semantics.specs.Named.{Named}
use Rattle.old_lines.specs.Old.{distinct_names}

-- names, and those of one map distinct
abbrev pub Good : Ty → Type 0
Good t = Named t × (distinct_names t ≡ true)
