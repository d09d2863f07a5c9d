-- What a stored number says. Assumes nothing.
use Rattle.std.proofs.Common.{◌≡◌, ℕ, ◌<◌, ◌≤◌, true, false, arith, le-ltb, lt-ltb, eq-eqb, ne_eqb, le-leb}
use borrow.Author.Tests.{lt-leb}
use Rattle.replay.specs.Stored.{among, work_byte, out_byte}

-- ## A number between two

module _ (lo hi n : ℕ) where
  inside : lo ≤ n → n ≤ hi → among lo hi n ≡ true
  unfolding among
  inside l h = rw (le-ltb n lo l, among) (le-leb n hi h)

  below : n < lo → among lo hi n ≡ false
  unfolding among
  below h = rw (lt-ltb n lo h, among)

  above : hi < n → lo ≤ n → among lo hi n ≡ false
  unfolding among
  above h l = rw (le-ltb n lo l, among) (lt-leb n hi h)

-- ## The buffers' bytes

module _ (n : ℕ) where
  pub work-lent : 1 ≤ n → n < 3 → 170 ≡ work_byte n
  unfolding work_byte
  work-lent l h = rw (inside 1 2 n l (omega arith), work_byte)

  pub work-low : n < 1 → 0 ≡ work_byte n
  unfolding work_byte
  work-low h = rw (below 1 2 n h, work_byte)

  pub work-high : 3 ≤ n → 0 ≡ work_byte n
  unfolding work_byte
  work-high h = rw (above 1 2 n (omega arith) (omega arith), work_byte)

  pub out-cleared : 3 ≤ n → n < 9 → 0 ≡ out_byte n
  unfolding out_byte
  out-cleared l h = rw (inside 3 8 n l (omega arith), out_byte)

  pub out-twelve : n ≡ 12 → 0 ≡ out_byte n
  unfolding out_byte
  out-twelve e = rw (above 3 8 n (omega (arith, e)) (omega (arith, e)), eq-eqb n 12 e, out_byte)

  pub out-low : n < 3 → 187 ≡ out_byte n
  unfolding out_byte
  out-low h = rw (below 3 8 n h, ne_eqb n 12 (λ e. omega (arith, e)), out_byte)

  pub out-high : 9 ≤ n → (n ≡ 12 → ⊥) → 187 ≡ out_byte n
  unfolding out_byte
  out-high h d = rw (above 3 8 n (omega arith) (omega arith), ne_eqb n 12 d, out_byte)
