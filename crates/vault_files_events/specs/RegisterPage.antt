-- A part of the register of removals: the records of the removed ones among some entries, by rising id.
use Rattle.std.specs.Prelude.{ℕ, ◌==◌, if◌then◌else◌, List, [], ◌++◌, length, drop, flat_map, Option, Some, None}
use Rattle.vault_core_model.specs.declared.records.Entry.{Entry}
use Rattle.vault_core_model.specs.declared.records.History.{History}
use Rattle.vault_core_model.specs.Vault.{Vault}
use Rattle.vault_core_evidence.specs.Parts.{next_of, part}
use Rattle.vault_files_texts.specs.Register.{header, row}
use Rattle.vault_files_events.specs.declared.page.TextPage.{TextPage}

-- the record of what was found of an entry, which may be nothing
abbrev pub row_found : Option Entry → List ℕ
row_found None = []
row_found (Some e) = row e

-- the records of the removed ones among these entries
abbrev pub rows_in : List History → List ℕ
rows_in hs = flat_map (λ h. row h.entry) hs

-- the records of the removed ones among all entries after an id
abbrev pub rest_text : ℕ → Vault → List ℕ
rest_text after v = rows_in (drop after v.histories)

-- the part after an id, and where the next one begins; the part after 0 is the first, and begins with the header
abbrev pub page_of : ℕ → Vault → TextPage
page_of after v = record { text = (if after == 0 then header else []) ++ rows_in (part after v); next = next_of (length v.histories) after }
