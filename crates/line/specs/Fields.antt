-- The fields of a line as the code keeps them: in numbers of 64 bits.
use Rattle.std.specs.Prelude.{◌≡◌, List, Bool, true, false, ℕ, ◌+◌, ◌-◌, ◌^◌, ◌≤◌, min, eqb, ltb, length, get_or, set, replicate, Option, Some, None, Result, Ok, Err}
use Rattle.std.proofs.Math.Option.{Option as Maybe, none, some}
use Rattle.std.proofs.Math.Seq.{slice}
use Rattle.semantics.specs.Codes.{badly_written, out_of_range}
use Rattle.semantics.specs.Limits.{variable_limit, bound_limit, signed_shift}
use Rattle.semantics.specs.Bytes.{Bytes, decimal, unhex}
use Rattle.semantics.specs.Sheet.{Field, range, variable, optional, name, alias, bound, letter, signed, float, Value, wrong, number, variable_v, name_v, alias_v, is_dash, within, named, lettered, signed_of, float_of, bound_of, Head, variable_of}
use Rattle.semantics.specs.declared.refusals.Refusal.{Refusal}
use Rattle.semantics.specs.declared.refusals.Refusal.TheVariants.{BadlyWritten, OutOfRange}
use Rattle.line.specs.declared.field.Fields.{Fields}

-- ## A field as read

-- a number as 64 bits keep it
abbrev pub clip : ℕ → ℕ
clip n = min n bound_limit

abbrev pub or_zero : Maybe ℕ → ℕ
or_zero none = 0
or_zero (some v) = v

-- what a field is refused for, by the definitions' number
abbrev pub refusal : ℕ → Refusal
refusal c = elim (eqb c out_of_range) [ true ↦ OutOfRange | false ↦ BadlyWritten ]

abbrev pub val_of : Value → Result ℕ Refusal
val_of (wrong c) = Err (refusal c)
val_of (number n) = Ok (clip n)
val_of (variable_v v) = Ok (or_zero v)
val_of (name_v s) = Ok 0
val_of (alias_v s) = Ok 1

-- the same of a value that is to say n
abbrev pub said_of : Value → ℕ → Result ℕ Refusal
said_of (wrong c) n = Err (refusal c)
said_of (number m) n = Ok n
said_of (variable_v v) n = Ok n
said_of (name_v s) n = Ok n
said_of (alias_v s) n = Ok n

-- a decimal number of 64 bits
abbrev pub decimal_of : Maybe ℕ → Result ℕ Refusal
decimal_of none = Err BadlyWritten
decimal_of (some n) = elim (ltb n (2 ^ 64)) [ true ↦ Ok n | false ↦ Err OutOfRange ]

-- a field, where the second number of the line is l
unfoldable pub value_at : Field → ℕ → Bytes → Value
value_at (range a b) l s = within a b (decimal s) number
value_at variable l s = within 0 variable_limit (decimal s) (λ v. variable_v (some v))
value_at optional l s = elim (is_dash s) [ true ↦ variable_v none | false ↦ within 0 variable_limit (decimal s) (λ v. variable_v (some v)) ]
value_at name l s = named (unhex s) name_v
value_at alias l s = elim (is_dash s) [ true ↦ number 0 | false ↦ named (unhex s) alias_v ]
value_at bound l s = bound_of l s
value_at letter l s = lettered s
value_at signed l s = signed_of s
value_at float l s = float_of (unhex s)

-- a number by its sign, as `signed_of` reads it
abbrev pub negative_of : Maybe ℕ → Value
negative_of o = within 0 signed_shift o (λ n. elim (eqb n 0) [ true ↦ wrong badly_written | false ↦ number (signed_shift - n) ])

abbrev pub positive_of : Maybe ℕ → Value
positive_of o = within 0 9223372036854775807 o (λ n. number (signed_shift + n))

-- ## What is kept of a line's fields

abbrev pub most_fields : ℕ
most_fields = 7

-- the number at an index, 0 where there is none
abbrev pub number_at : List ℕ → Option ℕ → ℕ
number_at ns None = 0
number_at ns (Some i) = get_or ns i 0

-- one number more
abbrev pub pushed : Fields → ℕ → Fields
pushed f n = record { var = f.var; nums = set f.nums f.put n; put = f.put + 1; name = f.name; stop = f.stop }

abbrev pub nothing_yet : Fields
nothing_yet = record { var = record { 0 = 0 }; nums = replicate most_fields 0; put = 0; name = 0; stop = 0 }

abbrev pub seen_var : Fields → ℕ → Fields
seen_var f v = record { var = record { 0 = v }; nums = f.nums; put = f.put; name = f.name; stop = f.stop }

abbrev pub seen_name : Fields → ℕ → ℕ → Fields
seen_name f p q = record { var = f.var; nums = f.nums; put = f.put; name = p; stop = q }

abbrev pub pick_f : Bool → Fields → Fields → Fields
pick_f true a b = a
pick_f false a b = b

-- a field from p to q, which says n, after the fields before it
unfoldable pub stored_in : Field → Fields → ℕ → ℕ → ℕ → Fields
stored_in (range a b) f p q n = pushed f n
stored_in variable f p q n = seen_var f n
stored_in optional f p q n = seen_var f n
stored_in name f p q n = seen_name f p q
stored_in alias f p q n = pick_f (eqb n 1) (seen_name (pushed f n) p q) (pushed f n)
stored_in bound f p q n = pushed f n
stored_in letter f p q n = pushed f n
stored_in signed f p q n = pushed f n
stored_in float f p q n = seen_name f p q

-- what is kept says what the head so far says
pub record Agrees (s : Bytes) (f : Fields) (h : Head) : Type 0 where
  pub var : f.var.0 ≡ variable_of h
  pub nums : (i : ℕ) → get_or f.nums i 0 ≡ clip (get_or h.nums i 0)
  pub put : f.put ≡ length h.nums
  pub room : length f.nums ≡ most_fields
  pub name : unhex (slice f.name f.stop s) ≡ some h.name
  pub within : f.stop ≤ length s
