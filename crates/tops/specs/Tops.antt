-- The top expressions of a sheet as a report goes over its lines: an expression line is one, any other line is stepped over.
use Rattle.std.specs.Prelude.{List, [], ◌∷◌, ◌++◌, ℕ, drop}
use Rattle.semantics.specs.Sheet.{Head, Rule, silent, entering, typed, rule, arity}
use Rattle.semantics.specs.Walk.{Env, Res, Top, walk}

-- the first heads of the trees that stand side by side
unfoldable pub fronts : List Head → List Head
fronts [] = []
fronts (h ∷ hs) = h ∷ drop (arity h) (fronts hs)

-- what the report has of a tree: of an expression its faults and its type, of any other line the top expressions under it
unfoldable pub tops_for : Rule → Res → List Top
tops_for silent r = r.tops
tops_for entering r = r.tops
tops_for (typed q) r = record { faults = r.faults; ty = r.ty } ∷ []

-- what is kept of an expression
abbrev pub top_of : Res → Top
top_of r = record { faults = r.faults; ty = r.ty }

-- trees and their results in step
unfoldable pub zip_tops : List Head → List Res → List Top
zip_tops [] rs = []
zip_tops (h ∷ hs) [] = []
zip_tops (h ∷ hs) (r ∷ rs) = tops_for (rule h) r ++ zip_tops hs rs

-- what the report has of the lines from line n on
unfoldable pub out_tops : Env → ℕ → List Head → List Top
out_tops env n hs = zip_tops (fronts hs) (walk env n hs)
