-- The register of removals: CSV with a header and a record for each removed entry, by rising id.
use Rattle.std.specs.Prelude.{ℕ, List, [], ◌∷◌, ◌++◌, Bool, true, false, Option, Some, None, codes}
use Rattle.std.specs.Fmt.{decimal}
use Rattle.std.specs.List.{flat_map}
use Rattle.csv.specs.Writing.{row_text, default_writer}
use Rattle.vault_base.specs.Moment.{moment_text}
use Rattle.vault_core_model.specs.declared.records.Entry.{Entry}
use Rattle.vault_core_model.specs.declared.records.Removal.{Removal}
use Rattle.vault_files_texts.specs.Removed.{digest_text, author_text, cause_kind, cause_name, days_between}

-- the names of the columns, with an LF after it
abbrev pub header : List ℕ
header = codes "version,bucket,key,kind,size,sha256,admitted,admitted_by,removed,cause,cause_by,days\n"

-- a delete marker, or a version with content
abbrev pub kind_name : Bool → List ℕ
kind_name true = codes "marker"
kind_name false = codes "version"

-- which entry it was
unfoldable pub name_cells : Entry → List (List ℕ)
name_cells e = decimal e.id ∷ e.bucket ∷ e.key ∷ kind_name e.marker ∷ []

-- what it was, and when and by whom it was admitted
unfoldable pub origin_cells : Entry → List (List ℕ)
origin_cells e = decimal e.size ∷ digest_text e.digest ∷ moment_text e.admitted ∷ author_text e.by ∷ []

-- when, why and by whom it was removed, and the whole days that it was held
unfoldable pub removal_cells : Entry → Removal → List (List ℕ)
removal_cells e r = moment_text r.at ∷ cause_kind r.cause ∷ cause_name r.cause ∷ decimal (days_between e.admitted r.at) ∷ []

-- the record of an entry with that removal, under the names of the header
abbrev pub cells : Entry → Removal → List (List ℕ)
cells e r = name_cells e ++ origin_cells e ++ removal_cells e r

-- the text of a record, as `csv` writes it by default: commas between, quotes where needed, an LF after it
abbrev pub record_text : List (List ℕ) → List ℕ
record_text cells = row_text default_writer cells

-- what is held has no record
abbrev pub row_by : Option Removal → Entry → List ℕ
row_by None e = []
row_by (Some r) e = record_text (cells e r)

-- the record of a removed entry
unfoldable pub row : Entry → List ℕ
row e = row_by e.removal e

-- the header, and a record for each of these entries
abbrev pub register : List Entry → List ℕ
register entries = header ++ flat_map row entries
