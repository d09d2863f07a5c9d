-- The number that a call returns for what it refuses.
use Rattle.std.specs.Prelude.{◌≡◌, ℕ}
use Rattle.semantics.specs.Codes.{sheet_too_long, wrong_size, badly_written, out_of_range, too_deep, type_too_large, output_too_short, no_type_line, mismatched, no_old_line, store_full, count_used_up, not_live}
use Rattle.semantics.specs.declared.refusals.Refusal.{Refusal}
use Rattle.semantics.specs.declared.refusals.Refusal.TheVariants.{SheetTooLong, WrongSize, BadlyWritten, OutOfRange, TooDeep, TypeTooLarge, OutputTooShort, NoTypeLine, Mismatch, NoOldLine, StoreFull, CountUsedUp, NotLive}

abbrev pub number_of : Refusal → ℕ
number_of SheetTooLong = sheet_too_long
number_of WrongSize = wrong_size
number_of BadlyWritten = badly_written
number_of OutOfRange = out_of_range
number_of TooDeep = too_deep
number_of TypeTooLarge = type_too_large
number_of OutputTooShort = output_too_short
number_of NoTypeLine = no_type_line
number_of Mismatch = mismatched
number_of NoOldLine = no_old_line
number_of StoreFull = store_full
number_of CountUsedUp = count_used_up
number_of NotLive = not_live

abbrev pub NumberOf : Refusal → ℕ → Type 0
NumberOf why n = n ≡ number_of why
