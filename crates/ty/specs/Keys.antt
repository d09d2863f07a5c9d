-- The order that the first bytes of types and of names tell: what the contracts of keys.rt cite.
use Prim.Native.Nat.{Ordering}
use Rattle.std.specs.Prelude.{ℕ, zero, suc, ◌+◌, ◌*◌, ◌≡◌, cond, ltb, length, take, drop, get_or}
use Rattle.semantics.specs.Bytes.{Bytes, lex}
use Rattle.semantics.specs.Ty.{Ty, line_to, line}
use Rattle.ty.specs.Parts.{TypeAt}

-- four bytes as one number
unfoldable pub key_of : ℕ → ℕ → ℕ → ℕ → ℕ
key_of a b c d = a * 16777216 + b * 65536 + c * 256 + d

-- the byte at i, 0 from e on
unfoldable pub byte_before : Bytes → ℕ → ℕ → ℕ
byte_before s i e = cond (ltb i e) (get_or s i 0) 0

-- the first k of some bytes as one number
abbrev pub value : (ℕ → ℕ) → ℕ → ℕ
value f zero = 0
value f (suc k) = value f k * 256 + f k

-- the first eight bytes of the type at [n, m), zeros for those that it does not have
abbrev pub head_of : Bytes → ℕ → ℕ → ℕ
head_of s n m = value (λ j. byte_before s (n + j) m) 8

-- the type at q comes before the type at [n, m), whichever they are
abbrev pub Below : Bytes → ℕ → ℕ → ℕ → Type 0
Below s q n m = (t : Ty) (rest : Bytes) (x : Ty) → drop q s ≡ line_to t rest → TypeAt s n m x → lex (line t) (line x) ≡ Ordering.lt

-- the first four bytes of a name
abbrev pub name_key : Bytes → ℕ
name_key x = key_of (byte_before x 0 (length x)) (byte_before x 1 (length x)) (byte_before x 2 (length x)) (byte_before x 3 (length x))

-- what begins at q comes before x, however long it is
abbrev pub NameBelow : Bytes → ℕ → Bytes → Type 0
NameBelow s q x = (k : ℕ) → lex (take k (drop q s)) x ≡ Ordering.lt
