use Rattle.std.proofs.Common.{List, ◌++◌}
use Rattle.std.specs.Prelude.{Result, Ok, Err}
use Rattle.vault_base.specs.declared.refusal.Refusal.{Refusal}

-- what was found, and what is still to be found
abbrev pub onto : {A : Type 0} → List A → Result (List A) Refusal → Result (List A) Refusal
onto found (Ok others) = Ok (found ++ others)
onto found (Err e) = Err e
