-- What the program prints of a call on a store (RULES 10.4; docs/DECISIONS.md, 66).
use Rattle.std.specs.Prelude.{◌≡◌, List, [], ◌∷◌, ◌++◌, true, false, ℕ, ◌+◌, ◌*◌, ◌≤◌, eqb, length, Option, Some, None}
use Rattle.std.proofs.Math.Option.{none, some}
use Rattle.semantics.specs.Codes.{line_feed, comma}
use Rattle.semantics.specs.Refusals.{number_of}
use Rattle.semantics.specs.declared.refusals.Refusal.{Refusal}
use Rattle.semantics.specs.declared.refusals.Refused.{Refused}
use Rattle.semantics.specs.Bytes.{Bytes, text, shown}
use Rattle.report.specs.Report.{Appends, numbers_text, end_text}
use Rattle.stores.specs.Catalogue.{store_head, Live, Catalogue, Ask, entering, releasing, looking_up, Told, read_store, store_call}
use Rattle.catalogue.specs.Places.{Run}
use Rattle.typestore.specs.declared.answer.Said.{Said}

-- a live type: its number, its uses and its line
abbrev pub line_text : ℕ → ℕ → Bytes → Bytes
line_text n u t = text "live," ++ (shown n ++ (comma ∷ (shown u ++ (comma ∷ (t ++ (line_feed ∷ []))))))

abbrev pub done_text : Ask → Told → Bytes
done_text (entering t) r = numbers_text (text "entered,") r.first r.second
done_text (releasing n) r = numbers_text (text "released,") n r.first
done_text (looking_up n) r = line_text n r.first r.text

-- that, or the refusal's number and place
abbrev pub said_text : Bytes → ℕ → ℕ → Bytes
said_text t n place = elim (eqb n 0) [ true ↦ t | false ↦ numbers_text (text "refused,") n place ]

-- the number of what was said: 0 where it was accepted
abbrev pub said_number : Option Refusal → ℕ
said_number None = 0
said_number (Some why) = number_of why

-- a refusal is said
pub record Refuses (w : Refused) (out out' : Bytes) (r : Said) : Type 0 where
  pub why : r.refusal ≡ Some w.why
  pub text : Appends (numbers_text (text "refused,") (number_of w.why) w.place) out out' 0 r.length
  pub short : r.length ≤ 64

abbrev pub answer_text : Ask → Told → Bytes
answer_text a r = said_text (done_text a r) r.number r.first

-- a call was made: its number, the store that it leaves and the text of its answer are those of the definition
pub record Answers (a : Ask) (s s' out out' : Bytes) (r : Said) : Type 0 where
  pub number : said_number r.refusal ≡ (store_call s a).told.number
  pub store : s' ≡ (store_call s a).store
  pub text : Appends (answer_text a (store_call s a).told) out out' 0 r.length
  pub short : r.length ≤ length s + 64

-- the live types by ascending number
unfoldable pub lives_text : List Live → Bytes
lives_text [] = []
lives_text (l ∷ ls) = line_text l.number l.uses l.text ++ lives_text ls

-- then how many they are, and the last number given
abbrev pub list_text : Catalogue → Bytes
list_text c = lives_text c.live ++ end_text (length c.live) c.last

-- the lines of the live types up to `end`
pub record Lines (s : Bytes) (end : ℕ) (out out' : Bytes) (fill : ℕ) : Type 0 where
  pub text : (ls : List Live) → Run s store_head ls end → Appends (lives_text ls) out out' 0 fill
  pub short : fill + 48 ≤ 6 * end

pub record Lists (s out out' : Bytes) (r : Said) : Type 0 where
  pub no : read_store s ≡ none → (said_number r.refusal ≡ 2) × Appends (numbers_text (text "refused,") 2 0) out out' 0 r.length
  pub yes : (c : Catalogue) → read_store s ≡ some c → (said_number r.refusal ≡ 0) × Appends (list_text c) out out' 0 r.length
  pub short : r.length ≤ 393216
