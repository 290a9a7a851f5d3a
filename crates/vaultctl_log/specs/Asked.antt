-- Who asked for what: of a line its members say so, of a request its head.
use Rattle.std.specs.Prelude.{ℕ, ◌≡◌, ◌⊎◌, ◌≤◌, ◌==◌, nat_le, List, [], ◌++◌, length, map, take, codes, Bool, true, false, Option, Some, None, option_and_then, Result, Ok, Err, if◌then◌else◌}
use Rattle.std.specs.List.{position}
use Rattle.std.specs.Str.Lossy.{utf8_lossy}
use Rattle.httparse.specs.Grammar.{RequestHead, ReadsRequest}
use Rattle.httparse.specs.Spans.{name_and_value}
use Rattle.serde_json.specs.Data.{Data}
use Rattle.serde_json.specs.Find.{as_number, as_str, as_u64, get}
use Rattle.vault_base.specs.declared.refusal.Refusal.{Refusal}
use Rattle.vault_http_target.specs.Fields.{Fields, value_of}
use Rattle.vault_lines_json.specs.Document.{document_of}
use Rattle.vaultctl_log.specs.Members.{number_member, text_member}

-- ---- a line

-- a text that isn't longer than 1,024 bytes
abbrev pub short_member : List ℕ → Option (List ℕ) → List ℕ
short_member name None = []
short_member name (Some text) = if nat_le (length text) 1024 then text_member name text else []

abbrev pub whole_member : List ℕ → Option (List ℕ) → Option ℕ → List ℕ
whole_member name text None = short_member name text
whole_member name text (Some n) = number_member name n

-- a member that is there, where it is a whole number or a text that isn't long
abbrev pub found_member : List ℕ → Option Data → List ℕ
found_member name None = []
found_member name (Some d) = whole_member name (as_str d) (option_and_then as_u64 (as_number d))

-- the member of that name
abbrev pub member_in : Data → List ℕ → List ℕ
member_in d name = found_member name (get name d)

-- the members that say who asks for what, and of which department or caller
unfoldable pub asker_members : Data → List ℕ
asker_members d = member_in d (codes "as") ++ member_in d (codes "do") ++ member_in d (codes "dept") ++ member_in d (codes "caller")

-- those that say of which entries
unfoldable pub place_members : Data → List ℕ
place_members d = member_in d (codes "bucket") ++ member_in d (codes "key") ++ member_in d (codes "id") ++ member_in d (codes "batch")

-- the members that name what is asked for, and by whom
abbrev pub object_members : Data → List ℕ
object_members d = asker_members d ++ place_members d

-- where the line is JSON
abbrev pub document_members : Result Data Refusal → List ℕ
document_members (Ok d) = object_members d
document_members (Err r) = []

abbrev pub line_members : List ℕ → List ℕ
line_members line = document_members (document_of line)

-- ---- a request

abbrev pub before_place : Option ℕ → List ℕ → List ℕ
before_place None bytes = bytes
before_place (Some n) bytes = take n bytes

-- a target up to its query
abbrev pub path_of : List ℕ → List ℕ
path_of target = before_place (position (λ b. b == 63) target) target

-- the target, with its query or without
abbrev pub shown_target : Bool → List ℕ → List ℕ
shown_target true target = target
shown_target false target = path_of target

-- who asks, if the head says it
abbrev pub caller_member : Option (List ℕ) → List ℕ
caller_member None = []
caller_member (Some caller) = text_member (codes "as") (utf8_lossy caller)

-- the caller, the method and the target of a request
unfoldable pub request_members : Bool → List ℕ → List ℕ → Fields → List ℕ
request_members understood method target fields =
    caller_member (value_of (codes "x-vault-caller") fields)
    ++ text_member (codes "do") (utf8_lossy method) ++ text_member (codes "target") (utf8_lossy (shown_target understood target))

-- those of a head
abbrev pub head_members : Bool → RequestHead → List ℕ
head_members understood h = request_members understood h.method h.target (map name_and_value h.fields)

-- nothing is shown of bytes; or they begin with a head, and what is shown is of it
abbrev pub ShowsHead : Bool → List ℕ → List ℕ → Type 0
ShowsHead understood bytes shown =
    (shown ≡ []) ⊎ ((h : RequestHead) × (rest : List ℕ) × ReadsRequest bytes h rest × (shown ≡ head_members understood h))

-- a head of up to 64 fields that the bytes begin with is shown
abbrev pub ShowsEachHead : Bool → List ℕ → List ℕ → Type 0
ShowsEachHead understood bytes shown =
    (h : RequestHead) → (rest : List ℕ) → ReadsRequest bytes h rest → length h.fields ≤ 64 → shown ≡ head_members understood h

-- what is shown of the front of a request
abbrev pub IsShown : Bool → List ℕ → List ℕ → Type 0
IsShown understood bytes shown = ShowsHead understood bytes shown × ShowsEachHead understood bytes shown
