-- The lines of a sheet against what is wanted, up to where nothing more is wanted: the same reading as `check`, which goes on there.
use Rattle.std.specs.Prelude.{List, [], ◌∷◌, ◌++◌, ℕ, suc}
use Rattle.semantics.specs.Codes.{badly_written}
use Rattle.semantics.specs.Bytes.{Bytes}
use Rattle.semantics.specs.Sheet.{Head, Read, bad, ok, Want, under, read_line, Sheet, refused, add, check}

-- refused by a cause at a line; or the heads read, the number of the next line, and the lines that are left
pub data Run : Type 0 where
  stopped : ℕ → ℕ → Run
  passed : List Head → ℕ → List Bytes → Run

unfoldable pub before : Head → Run → Run
before h (stopped c n) = stopped c n
before h (passed hs n ls) = passed (h ∷ hs) n ls

unfoldable pub carry_on : ℕ → Read → (Head → Run) → Run
carry_on n (bad c) rest = stopped c n
carry_on n (ok h) rest = before h (rest h)

-- where no whole line is left
unfoldable pub at_end : List Want → ℕ → List Bytes → Run
at_end [] n ls = passed [] n ls
at_end (w ∷ ws) n ls = stopped badly_written n

unfoldable pub run : List Want → ℕ → List Bytes → Run
run ws n [] = at_end ws n []
run ws n (l ∷ []) = at_end ws n (l ∷ [])
run [] n (l ∷ l' ∷ ls) = passed [] n (l ∷ l' ∷ ls)
run (w ∷ ws) n (l ∷ l' ∷ ls) = carry_on n (read_line w l) (λ h. run (under w h ++ ws) (suc n) (l' ∷ ls))

-- heads before what is read next
unfoldable pub behind : List Head → Run → Run
behind hs (stopped c n) = stopped c n
behind hs (passed ks n ls) = passed (hs ++ ks) n ls

unfoldable pub and_go : Run → (ℕ → List Bytes → Run) → Run
and_go (stopped c n) k = stopped c n
and_go (passed hs n ls) k = behind hs (k n ls)

-- a sheet's reading with heads before it
unfoldable pub add_all : List Head → Sheet → Sheet
add_all [] q = q
add_all (h ∷ hs) q = add h (add_all hs q)

unfoldable pub finish : Run → Sheet
finish (stopped c n) = refused c n
finish (passed hs n ls) = add_all hs (check [] n ls)
