-- Headers that ask for what the vault doesn't do.
use Rattle.std.specs.Prelude.{ℕ, List, [], ◌∷◌, ◌&&◌, ◌||◌, nat_eq, codes, Bool, false, Result, Ok, Err, if◌then◌else◌, ⊤}
use Rattle.std.specs.List.{list_any, starts_with}
use Rattle.vault_base.specs.declared.refusal.Refusal.{Refusal}
use Rattle.vault_base.specs.declared.refusal.Refusal.TheVariants.{NotImplemented}
use Rattle.vault_http_target.specs.Fields.{Fields, same_name, has}

-- a text has another one in it, which isn't empty
abbrev pub contains : List ℕ → List ℕ → Bool
contains part [] = false
contains part (b ∷ bs) = starts_with nat_eq (b ∷ bs) part || contains part bs

-- a header says that the body comes in signed chunks
abbrev pub is_streamed : List ℕ × List ℕ → Bool
is_streamed p =
    if same_name p.0 (codes "content-encoding") then contains (codes "aws-chunked") p.1
    else (same_name p.0 (codes "x-amz-content-sha256") && starts_with nat_eq p.1 (codes "STREAMING-"))

-- for a part of an object, or under a condition
abbrev pub has_condition : Fields → Bool
has_condition fields =
    has (codes "range") fields
    || (has (codes "if-match") fields
    || (has (codes "if-none-match") fields
    || (has (codes "if-modified-since") fields || has (codes "if-unmodified-since") fields)))

abbrev pub is_unsupported : Fields → Bool
is_unsupported fields =
    has (codes "transfer-encoding") fields
    || (has_condition fields
    || (has (codes "x-amz-copy-source") fields || (has (codes "x-amz-tagging") fields || list_any is_streamed fields)))

abbrev pub supported : Fields → Result ⊤ Refusal
supported fields = if is_unsupported fields then Err NotImplemented else Ok tt
