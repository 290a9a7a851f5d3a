-- What names a fault on standard error.
use Rattle.std.specs.Prelude.{ℕ, ◌∷◌, ◌++◌, [], List, Option, None, Some, Result, Ok, Err, codes}
use Rattle.vault_base.specs.Refusal.{name_of, table_name}
use Rattle.vault_base.specs.declared.refusal.Refusal.{Refusal}
use Rattle.vault_base.specs.declared.refusal.Refusal.TheVariants.{Damaged}
use Rattle.vault_base.specs.declared.refusal.Table.{Table}
use Rattle.vaultctl_commands.specs.Faults.{fault_name, fault_words}
use Rattle.vaultctl_commands.specs.declared.fault.JobFault.{JobFault}
use Rattle.vaultctl_commands.specs.declared.outcome.Outcome.{Outcome}

-- the line that says what of a subcommand or of an opening
abbrev pub line : List ℕ → List ℕ → List ℕ
line deed what = deed ++ codes ": " ++ (what ++ 10 ∷ [])

-- the same, and of which table
abbrev pub table_line : List ℕ → List ℕ → List ℕ → List ℕ
table_line deed what table = deed ++ codes ": " ++ (what ++ codes " " ++ (table ++ 10 ∷ []))

-- a fault of a subcommand, as `replay: Read`
abbrev pub fault_line : List ℕ → JobFault → List ℕ
fault_line subcommand fault = line subcommand (fault_name fault)

-- the same, and below it what it means in words
abbrev pub fault_lines : List ℕ → JobFault → List ℕ
fault_lines subcommand fault = fault_line subcommand fault ++ fault_words fault

-- the table that a refusal speaks of
abbrev pub table_of : Refusal → Option Table
table_of (Damaged table) = Some table
table_of _ = None

abbrev pub line_of : List ℕ → List ℕ → Option Table → List ℕ
line_of deed what None = line deed what
line_of deed what (Some table) = table_line deed what (table_name table)

-- why a vault can't be opened or made, as `open: Damaged meta`
abbrev pub refusal_line : List ℕ → Refusal → List ℕ
refusal_line deed refusal = line_of deed (name_of refusal) (table_of refusal)

-- what a job names of what came of it: its fault, if one stopped it
abbrev pub named : List ℕ → Result Outcome JobFault → List ℕ
named subcommand (Ok outcome) = []
named subcommand (Err fault) = fault_lines subcommand fault
