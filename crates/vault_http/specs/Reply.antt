-- What is answered to a refusal, and to the reply of a command.
use Rattle.std.specs.Prelude.{ℕ, ◌==◌, List, [], length, Bool, true, false, Option, Some, None, unwrap_or, if◌then◌else◌}
use Rattle.serde_json.specs.Written.{compact_text}
use Rattle.vault_base.specs.Refusal.{status_of}
use Rattle.vault_base.specs.declared.content.Content.{Content}
use Rattle.vault_base.specs.declared.content.Content.TheVariants.{Inside, External}
use Rattle.vault_base.specs.declared.refusal.Refusal.{Refusal}
use Rattle.vault_base.specs.declared.refusal.Refusal.TheVariants as refusal
use Rattle.vault_core_model.specs.declared.reply.Answer.{Answer}
use Rattle.vault_core_model.specs.declared.reply.Answer.TheVariants as answer
use Rattle.vault_core_model.specs.declared.reply.Removed.{Removed}
use Rattle.vault_core_model.specs.declared.reply.Reply.{Reply}
use Rattle.vault_core_model.specs.declared.reply.Reply.TheVariants.{Done, Refused, Stopped}
use Rattle.vault_core_model.specs.declared.reply.Stop.{Stop}
use Rattle.vault_core_model.specs.declared.reply.Stop.TheVariants as stop
use Rattle.vault_core_model.specs.declared.reply.Version.{Version}
use Rattle.vault_lines_reply.specs.ReplyLine.{answer_value, refusal_value}
use Rattle.vault_http.specs.Answer.{Answers}
use Rattle.vault_http.specs.declared.answer.head.Allow.{Allow}
use Rattle.vault_http.specs.declared.answer.head.Allow.TheVariants as allow
use Rattle.vault_http.specs.declared.answer.head.Head.{Head}
use Rattle.vault_http.specs.declared.answer.head.Kind.{Kind}
use Rattle.vault_http.specs.declared.answer.head.Kind.TheVariants as kind
use Rattle.vault_http.specs.declared.answer.head.Status.{Status}
use Rattle.vault_http.specs.declared.answer.head.Status.TheVariants as status

-- ---- refusals

-- a refusal as JSON: the value that stands in its line
unfoldable pub refusal_text : Refusal → List ℕ
refusal_text r = compact_text (refusal_value r)

-- the status of that number
abbrev pub status_numbered : ℕ → Status
status_numbered n =
    if n == 400 then status.BadRequest else (if n == 403 then status.Forbidden else (if n == 404 then status.NotFound else (
    if n == 405 then status.MethodNotAllowed else (if n == 409 then status.Conflict else (if n == 411 then status.LengthRequired else (
    if n == 501 then status.NotImplemented else (if n == 503 then status.ServiceUnavailable else status.InternalServerError)))))))

abbrev pub is_marker : Option Allow → Bool
is_marker (Some allow.Marker) = true
is_marker _ = false

-- a refusal is about a delete marker: on top of its key, or named by its id
abbrev pub names_marker : Refusal → Option Allow → Bool
names_marker (refusal.NoSuchKey marker) a = marker
names_marker _ a = is_marker a

-- a refusal without a status is reported as an internal error
abbrev pub refusal_head : Refusal → Option Allow → ℕ → Head
refusal_head r a n =
    record { status = status_numbered (unwrap_or (status_of r) 500); kind = kind.Json n; allow = a; marker = names_marker r a; version = None; retention = None; hold = None }

-- out answers a refusal, and states these methods
abbrev pub AnswersRefusal : Option ℕ → Refusal → Option Allow → Bool → List ℕ → Type 0
AnswersRefusal moment r a shown out =
    Answers moment (refusal_head r a (length (refusal_text r))) (refusal_text r) shown out

-- ---- commands that were carried out

-- an answer as JSON: the value that stands in its line
unfoldable pub answer_text : Answer → List ℕ
answer_text a = compact_text (answer_value a)

abbrev pub plain_head : Status → Kind → Bool → Option ℕ → Head
plain_head s k marker version =
    record { status = s; kind = k; allow = None; marker = marker; version = version; retention = None; hold = None }

-- a command that has nothing to say: 204 where it drops what it names, else 200
abbrev pub done_head : Bool → Head
done_head drops =
    if drops then plain_head status.NoContent kind.Nothing false None else plain_head status.Ok kind.Empty false None

-- its id, the retention of its last setting where it has one, in force or not, and its hold
abbrev pub version_head : Version → Status → Kind → Head
version_head v s k =
    record { status = s; kind = k; allow = None; marker = false; version = Some v.entry.id; retention = v.lock.retention; hold = Some v.lock.hold }

-- its bytes; where they are kept outside there is no body, and what is registered of them is reported
abbrev pub AnswersVersion : Option ℕ → Version → Content → Bool → List ℕ → Type 0
AnswersVersion moment v (Inside bytes) shown out = Answers moment (version_head v status.Ok (kind.Content (length bytes))) bytes shown out
AnswersVersion moment v (External r) shown out = Answers moment (version_head v status.NoContent (kind.External r)) [] shown out

-- the length is that of the content, which isn't there
abbrev pub AnswersHead : Option ℕ → Version → Bool → List ℕ → Type 0
AnswersHead moment v shown out = Answers moment (version_head v status.Ok (kind.Content v.entry.size)) [] shown out

abbrev pub removed_head : Removed → Head
removed_head r = plain_head status.NoContent kind.Nothing r.marker (Some r.id)

abbrev pub AnswersValue : Option ℕ → Answer → Bool → List ℕ → Type 0
AnswersValue moment a shown out =
    Answers moment (plain_head status.Ok (kind.Json (length (answer_text a))) false None) (answer_text a) shown out

abbrev pub AnswersDone : Option ℕ → Bool → Answer → Bool → List ℕ → Type 0
AnswersDone moment drops answer.Nothing shown out = Answers moment (done_head drops) [] shown out
AnswersDone moment drops (answer.Admitted id) shown out = Answers moment (plain_head status.Ok kind.Empty false (Some id)) [] shown out
AnswersDone moment drops (answer.Version v content) shown out = AnswersVersion moment v content shown out
AnswersDone moment drops (answer.Head v) shown out = AnswersHead moment v shown out
AnswersDone moment drops (answer.Marked id) shown out = Answers moment (plain_head status.NoContent kind.Nothing true (Some id)) [] shown out
AnswersDone moment drops (answer.Removed r) shown out = Answers moment (removed_head r) [] shown out
AnswersDone moment drops a shown out = AnswersValue moment a shown out

-- ---- replies

-- what is a marker, and was named by its id, may be removed
abbrev pub refused_allow : Refusal → Option Allow
refused_allow refusal.MethodNotAllowed = Some allow.Marker
refused_allow _ = None

abbrev pub stop_refusal : Stop → Refusal
stop_refusal stop.Memory = refusal.Memory
stop_refusal stop.Device = refusal.Device
stop_refusal stop.VaultFull = refusal.VaultFull

-- out answers the reply to a command, which drops what it names or doesn't
abbrev pub AnswersReply : Option ℕ → Bool → Reply → Bool → List ℕ → Type 0
AnswersReply moment drops (Done a) shown out = AnswersDone moment drops a shown out
AnswersReply moment drops (Refused r) shown out = AnswersRefusal moment r (refused_allow r) shown out
-- no request asks for a run, which alone is stopped
AnswersReply moment drops (Stopped n s) shown out = AnswersRefusal moment (stop_refusal s) None shown out
