-- The bytes of an answer: the status line, the headers in their order, a blank line and the body.
use Rattle.std.specs.Prelude.{ℕ, ◌≡◌, ◌++◌, List, [], ◌∷◌, codes, Bool, true, false, Option, Some, None, if◌then◌else◌}
use Rattle.std.specs.Fmt.{decimal}
use Rattle.hex.specs.Hex.{encode_lower}
use Rattle.httpdate.specs.declared.date.HttpDate.{HttpDate}
use Rattle.httpdate.specs.Date.{unix_secs, date_text}
use Rattle.vault_base.specs.Moment.{moment_text}
use Rattle.vault_lock.specs.declared.retention.Mode.{Mode}
use Rattle.vault_lock.specs.declared.retention.Retention.{Retention}
use Rattle.vault_values.specs.Words.{mode_name, hold_name}
use Rattle.vault_http.specs.declared.answer.head.Status.{Status}
use Rattle.vault_http.specs.declared.answer.head.Status.TheVariants as status
use Rattle.vault_http.specs.declared.answer.head.Allow.{Allow}
use Rattle.vault_http.specs.declared.answer.head.Allow.TheVariants as allow
use Rattle.vault_http.specs.declared.answer.head.Kind.{Kind}
use Rattle.vault_http.specs.declared.answer.head.Kind.TheVariants as kind
use Rattle.vault_http.specs.declared.answer.head.Head.{Head}

-- a text and CR LF
abbrev pub line : List ℕ → List ℕ
line text = text ++ (13 ∷ 10 ∷ [])

-- the code of a status and its phrase (RFC 9110, section 15)
abbrev pub reason_of : Status → List ℕ
reason_of status.Ok = codes "200 OK"
reason_of status.NoContent = codes "204 No Content"
reason_of status.BadRequest = codes "400 Bad Request"
reason_of status.Forbidden = codes "403 Forbidden"
reason_of status.NotFound = codes "404 Not Found"
reason_of status.MethodNotAllowed = codes "405 Method Not Allowed"
reason_of status.Conflict = codes "409 Conflict"
reason_of status.LengthRequired = codes "411 Length Required"
reason_of status.InternalServerError = codes "500 Internal Server Error"
reason_of status.NotImplemented = codes "501 Not Implemented"
reason_of status.ServiceUnavailable = codes "503 Service Unavailable"

abbrev pub status_line : Status → List ℕ
status_line s = line (codes "HTTP/1.1 " ++ reason_of s)

-- the date of a moment, by its seconds since 1970; without a moment there is none
abbrev pub IsDate : Option ℕ → Option HttpDate → Type 0
IsDate None None = Unit {0}
IsDate None (Some d) = ⊥
IsDate (Some at) None = ⊥
IsDate (Some at) (Some d) = unix_secs d ≡ at

-- as `Mon, 15 Jan 2024 10:30:00 GMT` (RFC 9110, section 5.6.7)
abbrev pub date_lines : Option HttpDate → List ℕ
date_lines None = []
date_lines (Some d) = line (codes "date: " ++ date_text d)

abbrev pub type_lines : Kind → List ℕ
type_lines kind.Nothing = []
type_lines kind.Empty = []
type_lines (kind.Content n) = line (codes "content-type: application/octet-stream")
type_lines (kind.External r) = []
type_lines (kind.Json n) = line (codes "content-type: application/json")

abbrev pub size_line : ℕ → List ℕ
size_line size = line (codes "x-vault-external: " ++ decimal size)

-- in lower-case digits
abbrev pub digest_line : List ℕ → List ℕ
digest_line digest = line (codes "x-vault-sha256: " ++ encode_lower digest)

-- how many bytes the body has; of a content that is kept outside, its size and its digest
abbrev pub length_lines : Kind → List ℕ
length_lines kind.Nothing = []
length_lines kind.Empty = line (codes "content-length: 0")
length_lines (kind.Content n) = line (codes "content-length: " ++ decimal n)
length_lines (kind.External r) = size_line r.size ++ digest_line r.digest
length_lines (kind.Json n) = line (codes "content-length: " ++ decimal n)

-- in the order of their names
abbrev pub methods_of : Allow → List ℕ
methods_of allow.Object = codes "DELETE, GET, HEAD, PUT"
methods_of allow.Marker = codes "DELETE"
methods_of allow.Setting = codes "GET, PUT"
methods_of allow.Versions = codes "GET"
methods_of allow.Lifecycle = codes "DELETE, GET, PUT"
methods_of allow.Bucket = []

abbrev pub allow_lines : Option Allow → List ℕ
allow_lines None = []
allow_lines (Some a) = line (codes "allow: " ++ methods_of a)

abbrev pub marker_lines : Bool → List ℕ
marker_lines false = []
marker_lines true = line (codes "x-amz-delete-marker: true")

abbrev pub version_lines : Option ℕ → List ℕ
version_lines None = []
version_lines (Some id) = line (codes "x-amz-version-id: " ++ decimal id)

abbrev pub mode_line : Mode → List ℕ
mode_line mode = line (codes "x-amz-object-lock-mode: " ++ mode_name mode)

abbrev pub until_line : ℕ → List ℕ
until_line until = line (codes "x-amz-object-lock-retain-until-date: " ++ moment_text until)

abbrev pub retention_lines : Option Retention → List ℕ
retention_lines None = []
retention_lines (Some r) = mode_line r.mode ++ until_line r.until

abbrev pub hold_lines : Option Bool → List ℕ
hold_lines None = []
hold_lines (Some hold) = line (codes "x-amz-object-lock-legal-hold: " ++ hold_name hold)

abbrev pub shown_body : List ℕ → Bool → List ℕ
shown_body body shown = if shown then body else []

unfoldable pub answer_bytes : Option HttpDate → Head → List ℕ → Bool → List ℕ
answer_bytes date head body shown =
    status_line head.status
    ++ date_lines date
    ++ line (codes "connection: close")
    ++ type_lines head.kind
    ++ length_lines head.kind
    ++ allow_lines head.allow
    ++ marker_lines head.marker
    ++ version_lines head.version
    ++ retention_lines head.retention
    ++ hold_lines head.hold
    ++ line []
    ++ shown_body body shown

-- out is the answer at that moment
abbrev pub Answers : Option ℕ → Head → List ℕ → Bool → List ℕ → Type 0
Answers moment head body shown out =
    (date : Option HttpDate) × IsDate moment date × (out ≡ answer_bytes date head body shown)
