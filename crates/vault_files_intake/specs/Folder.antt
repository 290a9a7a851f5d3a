-- What a folder answers.
use Rattle.std.specs.Prelude.{◌≡◌, ℕ, List, Option, Some, None, find, option_map}
use Rattle.std.specs.Str.{bytes_eq}
use Rattle.vault_files_intake.specs.declared.folder.File.{File}

-- the bytes of the first of these files that has that name
abbrev pub file_in : List File → List ℕ → Option (List ℕ)
file_in files name = option_map (λ f. f.bytes) (find (λ f. bytes_eq f.name name) files)

-- The file of that name, or that there is none, is what a folder holds. Of a folder whose files aren't known, as of one on a disk, this says nothing.
abbrev pub Holds : Option (List File) → List ℕ → Option (List ℕ) → Type 0
Holds None name found = Unit {0}
Holds (Some files) name found = found ≡ file_in files name
