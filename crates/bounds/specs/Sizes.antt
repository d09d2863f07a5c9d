-- How many lines each tree has.
use Rattle.std.specs.Prelude.{List, [], ◌∷◌, ℕ, suc, ◌+◌, take, drop}
use Rattle.semantics.specs.Sheet.{Head, arity}

unfoldable pub total : List ℕ → ℕ
total [] = 0
total (k ∷ ks) = k + total ks

-- the lines of each of the trees that stand there side by side, as `walk` goes over them
unfoldable pub sizes : List Head → List ℕ
sizes [] = []
sizes (h ∷ hs) = let ks = sizes hs in suc (total (take (arity h) ks)) ∷ drop (arity h) ks
