-- Entries handed to a sink, one after another.
use Rattle.std.specs.Prelude.{◌≡◌, Bool, true, false, List, [], ◌∷◌, ◌⊎◌, Result, Ok, Err}
use Rattle.vault_core_model.specs.declared.halt.Fault.{Fault}
use Rattle.vault_core_model.specs.declared.records.Entry.{Entry}

-- what a sink does with an entry: the sink before, the entry, whether it took it, the sink after
abbrev pub Taking : Type 0 → Type 1
Taking S = S → Entry → Bool → S → Type 0

-- the sink took each of these entries
abbrev pub TakesAll : {S : Type 0} → Taking S → S → List Entry → S → Type 0
TakesAll takes s [] s' = s' ≡ s
TakesAll takes s (e ∷ es) s' = (mid : _) × takes s e true mid × TakesAll takes mid es s'

-- the sink took some of the first of these entries, and no more
abbrev pub TakesSome : {S : Type 0} → Taking S → S → List Entry → S → Type 0
TakesSome takes s [] s' = s' ≡ s
TakesSome takes s (e ∷ es) s' = (s' ≡ s) ⊎ ((mid : _) × takes s e true mid × TakesSome takes mid es s')

-- the sink took some of the first of these entries, and refused the next
abbrev pub Refuses : {S : Type 0} → Taking S → S → List Entry → S → Type 0
Refuses takes s [] s' = ⊥
Refuses takes s (e ∷ es) s' = takes s e false s' ⊎ ((mid : _) × takes s e true mid × Refuses takes mid es s')

-- these entries were handed on: all of them, up to one that the sink refused, or up to a fault
abbrev pub Hands : {S : Type 0} → Taking S → S → List Entry → Result Bool Fault → S → Type 0
Hands takes s es (Ok true) s' = TakesAll takes s es s'
Hands takes s es (Ok false) s' = Refuses takes s es s'
Hands takes s es (Err fault) s' = TakesSome takes s es s'
