-- What is seen of a file and its log before they are opened.
use Rattle.std.specs.Prelude.{◌≡◌, ℕ, ◌∷◌, ◌++◌, ◌&&◌, ◌||◌, [], Bool, false, true, not, nat_le, List, Option, None, Some, is_some, codes, if◌then◌else◌}
use Rattle.vaultctl_machine_stores.specs.declared.cause.Cause.{Cause}
use Rattle.vaultctl_machine_stores.specs.declared.cause.Cause.TheVariants.{LostFile, NoFile, Empty, Damaged, OtherFile, Taken}
use Rattle.vaultctl_machine_stores.specs.declared.places.Place.{Place}

-- the first bytes of each file that holds tables
abbrev pub first_bytes : List ℕ
first_bytes = codes "SQLite format 3" ++ 0 ∷ []

-- a change may be in a log of that many bytes: one of less than 56, the headers of the log and of a frame, has none
abbrev pub may_have_changes : Option ℕ → Bool
may_have_changes None = false
may_have_changes (Some size) = nat_le 56 size

-- the file begins as it should, or its log may have its first page; the log of an empty one is never read
abbrev pub may_hold_tables : Place → Bool
may_hold_tables place = place.begins_well || (not place.is_free && may_have_changes place.log)

-- a log with changes isn't dropped, and beside a file that is something else no log is made
abbrev pub may_be_made : Place → Bool
may_be_made place = if place.is_free then not (may_have_changes place.log) else (place.begins_well || is_some place.log)

-- why no tables are opened in the files
abbrev pub why_without_tables : Place → Cause
why_without_tables place =
    if place.is_free && may_have_changes place.log then LostFile
    else (if not place.is_there then NoFile
    else (if place.is_free then Empty
    else (if place.begins_well then Damaged else OtherFile)))

-- why no vault is made in them
abbrev pub why_taken : Place → Cause
why_taken place = if place.is_free then LostFile else Taken

-- no file is there, so there is none that holds something or begins well; a log may be there
pub record IsMissing (place : Place) : Type 0 where
  pub absent : place.is_there ≡ false
  pub free : place.is_free ≡ true
  pub begins : place.begins_well ≡ false
