-- The names of the rights.
use Rattle.std.specs.Prelude.{List, [], ◌∷◌, ℕ, Option, codes}
use Rattle.std.specs.List.{find}
use Rattle.std.specs.Str.{bytes_eq}
use Rattle.vault_base.specs.declared.right.Right.{Right}
use Rattle.vault_base.specs.declared.right.Right.TheVariants.{Admin, Config, Put, Retain, Hold, Get, List as Listing, Delete, DeleteVersion, Run, Report, Bypass}

-- the name of a right
abbrev pub right_name : Right → List ℕ
right_name Admin = codes "admin"
right_name Config = codes "config"
right_name Put = codes "put"
right_name Retain = codes "retain"
right_name Hold = codes "hold"
right_name Get = codes "get"
right_name Listing = codes "list"
right_name Delete = codes "delete"
right_name DeleteVersion = codes "delete-version"
right_name Run = codes "run"
right_name Report = codes "report"
right_name Bypass = codes "bypass"

-- every right
abbrev pub rights : List Right
rights = Admin ∷ Config ∷ Put ∷ Retain ∷ Hold ∷ Get ∷ Listing ∷ Delete ∷ DeleteVersion ∷ Run ∷ Report ∷ Bypass ∷ []

-- the right of that name
abbrev pub right_of : List ℕ → Option Right
right_of name = find (λ right. bytes_eq name (right_name right)) rights
