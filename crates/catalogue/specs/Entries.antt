-- What a walk over the live types of a store gives.
use Rattle.std.specs.Prelude.{◌≡◌, List, [], ◌∷◌, ◌+◌, ◌<◌, length, Option, MatchOption}
use Rattle.stores.specs.Catalogue.{Live, entry_head}
use Rattle.catalogue.specs.Places.{Here, Run}
use Rattle.catalogue.specs.declared.find.Entry.{Entry}
use Rattle.catalogue.specs.declared.find.Entries.{Entries}

-- the live type that an entry shows
abbrev pub live_of : Entry → Live
live_of e = record { number = e.number; uses = e.uses; text = e.text.now }

-- the first of what a walk has left, and the walk behind it
pub record Follows (s : Entries) (e : Entry) (t : Entries) (ls : List Live) : Type 0 where
  pub others : List Live
  pub is : ls ≡ live_of e ∷ others
  pub more : s.at < s.end
  pub place : e.at ≡ s.at
  pub here : Here s.store.now s.at (live_of e)
  pub behind : t.at ≡ s.at + entry_head + length e.text.now
  pub store : t.store.now ≡ s.store.now
  pub end : t.end ≡ s.end
  pub run : Run t.store.now t.at others t.end

abbrev pub Gives : Entries → Option Entry → Entries → Type 0
Gives s r t = (ls : List Live) → Run s.store.now s.at ls s.end → MatchOption r (ls ≡ []) (λ e. Follows s e t ls)
