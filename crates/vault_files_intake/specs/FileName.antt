-- The names of the files that an intake list speaks of.
use Rattle.std.specs.Prelude.{ℕ, List, length, codes, Bool, not, ◌&&◌, ◌||◌, ◌==◌, nat_le, Option, Some, None, Result, Ok, Err, if◌then◌else◌}
use Rattle.std.specs.List.{list_all}
use Rattle.std.specs.Str.{bytes_eq, is_utf8}
use Rattle.vault_base.specs.Name.{fault_of_size}
use Rattle.vault_base.specs.declared.name.NameFault.{NameFault}

-- a byte that a file's name may have: not '/' and not NUL
abbrev pub is_name_byte : ℕ → Bool
is_name_byte b = not (b == 47) && not (b == 0)

-- the folder itself, and the one above it
abbrev pub is_folder_name : List ℕ → Bool
is_folder_name bytes = bytes_eq bytes (codes ".") || bytes_eq bytes (codes "..")

-- 1 to 255 bytes that name a file of one folder (what POSIX calls a filename)
abbrev pub is_file_name : List ℕ → Bool
is_file_name bytes = nat_le 1 (length bytes) && nat_le (length bytes) 255 && list_all is_name_byte bytes && not (is_folder_name bytes)

-- the bytes as text, if they are UTF-8
abbrev pub text_of : List ℕ → Option (List ℕ)
text_of bytes = if is_utf8 bytes then Some bytes else None

-- the name that a text is, or why it is none
abbrev pub file_name_of : List ℕ → Result (List ℕ) NameFault
file_name_of text = if is_file_name text then Ok text else Err (fault_of_size (length text) 255)
