-- A line that is passed over: its word by its letters and the mark behind them, and its end from any place in it. Assumes nothing.
use mathlib.Core.Path.{◌≡◌, refl, sym, ◌∙◌, ap}
use mathlib.Core.List.{List, [], ◌∷◌}
use mathlib.Core.Option.{some}
use mathlib.Core.Logic.{inl, inr}
use Prim.Native.Nat.{ℕ, ◌+◌, ◌-◌, ◌≤◌, ◌<◌}
use native.Mathlib.Decide.{dec_lt}
use native.Mathlib.Omega.{arith}
use lib.ListN.{length, get_or, take, drop}
use lib.Seq.{slice, get_or-drop, length-take-le}
use Rattle.semantics.specs.Bytes.{Bytes, split}
use Rattle.semantics.specs.Sheet.{ok, bad, words}
use Rattle.text.specs.Text.{Ends}
use Rattle.text.proofs.Laws.{part_slice, slice-take}
use Rattle.text.proofs.Words.{ends, index-first}
use Rattle.line.specs.Rows.{code_from, word_at}
use Rattle.line.specs.Line.{Plain, unknown, known, line_says, SaysAs, ReadAs}
use Rattle.line.specs.Quick.{Stood, LeadAs}
use Rattle.line.specs.Opening.{WordIs, FirstWord, OpensAs, BehindAs}
use Rattle.std.specs.Prelude.{Option as Maybe, Some, Result, Ok, Err}
use Rattle.line.specs.declared.words.Word.{Word as Coded}
use Rattle.line.specs.declared.line.BadLine.{BadLine}
use Rattle.line.specs.Words.{word_of}
use Rattle.line.specs.declared.quick.Lead.{Lead}
use Rattle.line.specs.declared.line.Head.{Head as Seen}
use Rattle.line.specs.declared.opening.Opening.{Opening}
use Rattle.line.proofs.LineLaws.{split-some}
use Rattle.line.proofs.ReadLaws.{word-says}
use Rattle.line.proofs.QuickLaws.{Cut, cut-ends, ends_at, taken-small}

-- ## A word with a mark behind it

module _ (s : Bytes) (at : ℕ) (r : Lead) (letters : LeadAs s at (Some r)) (bytes : (x : ℕ) → get_or s x 0 < 256) (coded : Coded) (named : word_at r.code words ≡ some (word_of coded)) where
  abbrev word : Maybe Coded
  word = Some coded

  -- a line that ends at e
  word_cut : (e : ℕ) → Ends 10 s at e → e < length s → r.end ≤ e → Cut s e r.end → FirstWord word (split 10 (drop at s))
  word_cut e E h le c = rw (E.more h) (go (split 10 (drop (e + 1) s)) (split-some 10 (drop (e + 1) s)))
    where
      long : length (take e s) ≡ e
      long = length-take-le e s (omega arith)

      spelled : word_at (code_from 1 (take (r.end - at) (drop at (take e s)))) words ≡ some (word_of coded)
      spelled = ap (λ (t : Bytes). word_at (code_from 1 t) words) (part_slice at r.end (take e s) ∙ slice-take at r.end e s le) ∙ ap (λ (c : ℕ). word_at c words) (sym letters.1) ∙ named

      says : WordIs word (line_says (drop at (take e s)))
      says = word-says (take e s) at r.end (omega (arith, long, E.from)) (cut-ends s at r.end e letters.0 (omega arith) c) (taken-small e s bytes) coded spelled

      go : (ls : List Bytes) → 0 < length ls → FirstWord word (slice at e s ∷ ls)
      go [] l = absurd (omega arith)
      go (l' ∷ ls) l = says

  opened : FirstWord word (split 10 (drop at s)) → OpensAs s at (record { word = word; from = r.end })
  opened w = record { on = letters.0.from; within = omega (arith, letters.0.inside); clear = λ i a b. (letters.0.clean i a b).1; word = w }

  -- an LF stands behind: the word is the line
  pub opened-bare : get_or s r.end 0 ≡ 10 → OpensAs s at (record { word = word; from = r.end })
  opened-bare mark =
      let d = letters.0 in
      opened (word_cut r.end (ends_at 10 s at r.end d.from (omega (arith, d.inside)) (λ i a b. (d.clean i a b).1) (λ z. mark)) d.inside (omega arith) (inl refl))

  -- a comma: the line ends somewhere behind it, or is no whole one
  pub opened-more : get_or s r.end 0 ≡ 44 → OpensAs s at (record { word = word; from = r.end })
  opened-more mark = opened (go (ends 10 s at _ (omega (arith, d.from, d.inside)) refl))
    where
      d : Stood s at r.end
      d = letters.0

      go : {e : ℕ} → Ends 10 s at e → FirstWord word (split 10 (drop at s))
      go {e} E = by (dec_lt e (length s)) (dec_lt e r.end) (dec_lt r.end e)
        where
          by : Dec (e < length s) → Dec (e < r.end) → Dec (r.end < e) → FirstWord word (split 10 (drop at s))
          by (no h) b c = rw (E.last (omega arith)) tt
          by (yes h) (yes b) c = absurd ((d.clean e E.from b).1 (E.mark h))
          by (yes h) (no b) (yes c) = word_cut e E h (omega arith) (inr (c, mark))
          by (yes h) (no b) (no c) = absurd (let z : r.end ≡ e = omega arith in omega (arith, mark, E.mark h, ap (λ (i : ℕ). get_or s i 0) z))

-- ## A line that was read

-- its word, if it has one
abbrev pub word_read : Result Seen BadLine → Maybe Coded
word_read (Ok h) = Some h.word
word_read (Err b) = b.word

said-word : (s : Bytes) (r : Result Seen BadLine) (p : Plain) → SaysAs s r p → WordIs (word_read r) p
said-word s (Ok h) unknown x = elim x [ ]
said-word s (Err b) unknown x = x
said-word s (Ok h) (known v (bad c)) x = elim x [ ]
said-word s (Err b) (known v (bad c)) x = x.0
said-word s (Ok h) (known v (ok k)) x = x.1.word ∙ sym x.0
said-word s (Err b) (known v (ok k)) x = elim x [ ]

pub read_word : (s : Bytes) (at : ℕ) (r : Result Seen BadLine) (ls : List Bytes) → ReadAs s at r ls → FirstWord (word_read r) ls
read_word s at r [] x = tt
read_word s at r (l ∷ []) x = tt
read_word s at r (l ∷ l' ∷ ls) x = said-word s r (line_says l) x.3

pub opened-read : (s : Bytes) (at : ℕ) → at ≤ length s → (r : Result Seen BadLine) → ReadAs s at r (split 10 (drop at s)) → (word : Maybe Coded) → word ≡ word_read r
    → OpensAs s at (record { word = word; from = at })
opened-read s at l r x word e = record { on = omega arith; within = l; clear = λ i a b. absurd (omega arith); word = rw e (read_word s at r (split 10 (drop at s)) x) }

-- ## The line's end

-- from a place in a line it is the line's
pub behind-ends : {s : Bytes} {at n : ℕ} {r : Opening} → OpensAs s at r → (b : BehindAs s r.from n) → Ends 10 s at b.end
behind-ends {s} {at} {n} {r} o b = ends_at 10 s at b.end (omega (arith, o.on, b.ends.from)) b.ends.within (λ i h l z. go i h l z (dec_lt i r.from)) b.ends.mark
  where
    go : (i : ℕ) → at ≤ i → i < b.end → get_or s i 0 ≡ 10 → Dec (i < r.from) → ⊥
    go i h l z (yes k) = o.clear i h k z
    go i h l z (no k) =
        let e : r.from + (i - r.from) ≡ i = omega arith in
        index-first 10 (drop r.from s) (i - r.from) (omega (arith, b.ends.place)) (get_or-drop r.from s (i - r.from) 0 ∙ ap (λ (j : ℕ). get_or s j 0) e ∙ z)
