-- What was answered: of a request the front of its answer says so, of a line that of its reply.
use Rattle.std.specs.Prelude.{ℕ, ◌==◌, nat_eq, nat_lt, List, [], ◌++◌, length, take, drop, slice_index, slice_range, codes, Bool, Option, Some, None, option_and_then, Result, Ok, Err, if◌then◌else◌}
use Rattle.std.specs.Char.{is_ascii_digit}
use Rattle.std.specs.List.{list_all, position, starts_with}
use Rattle.std.specs.Str.{bytes_eq}
use Rattle.std.specs.Str.Lossy.{utf8_lossy}
use Rattle.serde_json.specs.Data.{Data}
use Rattle.serde_json.specs.Find.{as_str, get}
use Rattle.vault_base.specs.declared.refusal.Refusal.{Refusal}
use Rattle.vault_lines_json.specs.Document.{document_of}
use Rattle.vaultctl_log.specs.Members.{named, text_member}

-- ---- a refusal

-- its code, or that there is one
abbrev pub code_member : Option (List ℕ) → List ℕ
code_member None = text_member (codes "result") (codes "refused")
code_member (Some code) = text_member (codes "result") code

abbrev pub reason_member : Option (List ℕ) → List ℕ
reason_member None = []
reason_member (Some reason) = text_member (codes "reason") reason

-- the text under that name
abbrev pub text_in : List ℕ → Data → Option (List ℕ)
text_in name d = option_and_then as_str (get name d)

-- the code of a refusal and its reason
abbrev pub refusal_members : Data → List ℕ
refusal_members d = code_member (text_in (codes "code") d) ++ reason_member (text_in (codes "reason") d)

-- the same of a text that has to be one
abbrev pub stated_members : Result Data Refusal → List ℕ
stated_members (Ok d) = refusal_members d
stated_members (Err r) = code_member None

-- ---- the answer to a request

-- what comes before an answer where a client waits to go on: HTTP/1.1 100 Continue, and an empty line
abbrev pub go_on : List ℕ
go_on = codes "HTTP/1.1 100 Continue\r\n\r\n"

abbrev pub is_go_on : List ℕ → Bool
is_go_on front = bytes_eq front go_on

-- an answer without it
abbrev pub own : List ℕ → List ℕ
own answer = if nat_lt (length answer) 25 then answer else (if is_go_on (take 25 answer) then drop 25 answer else answer)

abbrev pub digits_in : List ℕ → Option (List ℕ)
digits_in digits = if list_all is_ascii_digit digits then Some digits else None

-- after the version and a blank
abbrev pub status_in : List ℕ → Option (List ℕ)
status_in answer = if nat_lt (length answer) 12 then None else digits_in (slice_range answer 9 12)

-- the three digits of its status, if its first line came so far
unfoldable pub status_of : List ℕ → Option (List ℕ)
status_of answer = status_in (own answer)

-- a status of 400 and more
abbrev pub is_refusal : List ℕ → Bool
is_refusal digits = nat_lt 51 (slice_index digits 0)

abbrev pub from_place : Option ℕ → List ℕ → List ℕ
from_place None bytes = []
from_place (Some n) bytes = drop n bytes

-- from its first brace on
abbrev pub body_of : List ℕ → List ℕ
body_of answer = from_place (position (λ b. b == 123) answer) answer

-- what is answered beside a status of these digits
abbrev pub outcome_members : List ℕ → List ℕ → List ℕ
outcome_members answer digits =
    if is_refusal digits then stated_members (document_of (body_of (own answer))) else text_member (codes "result") (codes "ok")

-- the status, and what is answered beside it
abbrev pub status_members : List ℕ → List ℕ → List ℕ
status_members answer digits = (named (codes "status") ++ utf8_lossy digits) ++ outcome_members answer digits

abbrev pub answer_members_by : List ℕ → Option (List ℕ) → List ℕ
answer_members_by answer None = text_member (codes "result") (codes "nothing")
answer_members_by answer (Some digits) = status_members answer digits

-- what is answered to a request
abbrev pub answer_members : List ℕ → List ℕ
answer_members answer = answer_members_by answer (status_of answer)

-- ---- the reply to a line

abbrev pub refused_members : Option Data → List ℕ
refused_members None = code_member None
refused_members (Some d) = refusal_members d

abbrev pub error_members : Result Data Refusal → List ℕ
error_members (Ok d) = refused_members (get (codes "error") d)
error_members (Err r) = code_member None

-- a word for a reply by its first member, if it has one
abbrev pub word_of : List ℕ → Option (List ℕ)
word_of reply =
    if length reply == 0 then Some (codes "nothing")
    else (if starts_with nat_eq reply (codes "{\"ok\":") then Some (codes "ok")
    else (if starts_with nat_eq reply (codes "{\"stopped\":") then Some (codes "stopped") else None))

abbrev pub reply_members_by : List ℕ → Option (List ℕ) → List ℕ
reply_members_by reply (Some word) = text_member (codes "result") word
reply_members_by reply None = error_members (document_of reply)

-- what a reply says
abbrev pub reply_members : List ℕ → List ℕ
reply_members reply = reply_members_by reply (word_of reply)
