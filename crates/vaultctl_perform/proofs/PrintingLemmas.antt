-- On what is written piece by piece.
use Rattle.std.proofs.Common.{ℕ, List, [], ◌++◌, ◌∙◌, Option, Result, Ok, Err, ap, sym, append-nil, append_assoc}
use Rattle.std.specs.Prelude.{OnOk, OnErr}
use Rattle.std.specs.Io.KnownBytes.{Appends}
use Rattle.std.proofs.KnownBytes.{Appends-trans}
use Rattle.vault_io.specs.Begins.{Begins}

-- a beginning of the front
pub begins_sooner : (a b : Option (List ℕ)) (front back : List ℕ) → Begins a b front → Begins a b (front ++ back)
begins_sooner a b front back h = (h.0, h.1 ++ back, ap (λ l. l ++ back) h.2 ∙ append_assoc h.0 h.1 back, h.3)

-- a beginning after what was written whole
pub begins_later : (a b c : Option (List ℕ)) (front back : List ℕ) → Appends a b front → Begins b c back → Begins a c (front ++ back)
begins_later a b c front back w h = (front ++ h.0, h.1, ap (λ l. front ++ l) h.2 ∙ sym (append_assoc front h.0 h.1), Appends-trans a b c front h.0 w h.3)

-- all of it is a beginning of it
pub begins_anyway : {T E : Type 0} (r : Result T E) (a b : Option (List ℕ)) (bytes : List ℕ) → OnOk r (Appends a b bytes) → OnErr r (Begins a b bytes) → Begins a b bytes
begins_anyway (Ok t) a b bytes whole begun = (bytes, [], sym (append-nil bytes), whole)
begins_anyway (Err e) a b bytes whole begun = begun

-- what holds at any rate holds at an error
pub on_err : {P T E : Type 0} (r : Result T E) → P → OnErr r P
on_err (Ok t) h = tt
on_err (Err e) h = h
