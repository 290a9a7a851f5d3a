-- The lines of replies.
use Rattle.std.specs.Prelude.{ℕ, List, [], ◌∷◌, ◌++◌, codes, Bool, true, false, map, Option, Some, None, option_map}
use Rattle.hex.specs.Hex.{encode_lower}
use Rattle.serde_json.specs.Data.{Data, null, boolean, string, number, unsigned, array, object, Members, member, no_members}
use Rattle.serde_json.specs.View.{items_of}
use Rattle.serde_json.specs.Written.{compact_text}
use Rattle.vault_base.specs.Moment.{moment_text}
use Rattle.vault_base.specs.Refusal.{name_of, number_of, reason_name}
use Rattle.vault_base.specs.declared.content.Content.{Content}
use Rattle.vault_base.specs.declared.content.Content.TheVariants.{Inside, External}
use Rattle.vault_base.specs.declared.refusal.Refusal.{Refusal}
use Rattle.vault_base.specs.declared.refusal.Refusal.TheVariants.{AccessDenied, NoSuchKey}
use Rattle.vault_core_model.specs.declared.records.Entry.{Entry}
use Rattle.vault_core_model.specs.declared.records.Tenure.{Tenure}
use Rattle.vault_core_model.specs.declared.reply.Answer.{Answer}
use Rattle.vault_core_model.specs.declared.reply.Answer.TheVariants as answer
use Rattle.vault_core_model.specs.declared.reply.Counts.{Counts}
use Rattle.vault_core_model.specs.declared.reply.Listed.{Listed}
use Rattle.vault_core_model.specs.declared.reply.Page.{Page}
use Rattle.vault_core_model.specs.declared.reply.Removed.{Removed}
use Rattle.vault_core_model.specs.declared.reply.Reply.{Reply}
use Rattle.vault_core_model.specs.declared.reply.Reply.TheVariants.{Done, Refused, Stopped}
use Rattle.vault_core_model.specs.declared.reply.Report.{Report}
use Rattle.vault_core_model.specs.declared.reply.Stop.{Stop}
use Rattle.vault_core_model.specs.declared.reply.Stop.TheVariants.{Memory, Device, VaultFull}
use Rattle.vault_core_model.specs.declared.reply.TakenIn.{TakenIn}
use Rattle.vault_core_model.specs.declared.reply.Version.{Version}
use Rattle.vault_lock.specs.declared.lock.Permit.{Permit}
use Rattle.vault_lock.specs.declared.lock.Permit.TheVariants.{Free, Bypass}
use Rattle.vault_lock.specs.declared.retention.Mode.{Mode}
use Rattle.vault_lock.specs.declared.retention.Retention.{Retention}
use Rattle.vault_lock.specs.declared.retention.Default.{Default}
use Rattle.vault_lock.specs.declared.retention.Period.{Period}
use Rattle.vault_lock.specs.declared.retention.Period.TheVariants.{Days, Years}
use Rattle.vault_files_texts.specs.Certificate.{certificate_text}
use Rattle.vault_values.specs.Words.{mode_name, hold_name, status_name}
use Rattle.vault_rules.specs.declared.rule.Noncurrent.{Noncurrent}
use Rattle.vault_rules.specs.declared.rule.Rule.{Rule}

abbrev pub cause_name : Permit → List ℕ
cause_name Free = codes "request"
cause_name Bypass = codes "bypass"

-- a text, as its bytes in UTF-8
abbrev pub text : List ℕ → Data
text bytes = string bytes

abbrev pub whole : ℕ → Data
whole n = number (unsigned n)

-- a retention by its mode and the text of its moment
abbrev pub retention_members : Mode → List ℕ → Data
retention_members mode until = object (member (codes "mode") (text (mode_name mode)) (member (codes "until") (text until) no_members))

abbrev pub retention_value : Option Retention → Data
retention_value None = null
retention_value (Some r) = retention_members r.mode (moment_text r.until)

-- what has no digest has none to print
abbrev pub digest_value : Option (List ℕ) → Data
digest_value None = null
digest_value (Some digest) = text (encode_lower digest)

-- what is said of a version whether its bytes are printed or not, by its values
abbrev pub held_members : Version → Data → Data → Members
held_members v retention sha256 = member (codes "hold") (text (hold_name v.lock.hold)) (member (codes "retention") retention (member (codes "sha256") sha256 (member (codes "size") (whole v.entry.size) (member (codes "version_id") (whole v.entry.id) no_members))))

-- the same of its own retention and digest
abbrev pub held : Version → Members
held v = held_members v (retention_value v.lock.retention) (digest_value v.entry.digest)

-- a version by its texts
abbrev pub version_texts : Version → List ℕ → List ℕ → Data
version_texts v admitted digits = object (member (codes "admitted") (text admitted) (member (codes "hex") (text digits) (held v)))

-- a version whose bytes are kept outside, by its text
abbrev pub external_texts : Version → List ℕ → Data
external_texts v admitted = object (member (codes "admitted") (text admitted) (member (codes "external") (boolean true) (held v)))

abbrev pub version_value : Version → Content → Data
version_value v (Inside bytes) = version_texts v (moment_text v.entry.admitted) (encode_lower bytes)
version_value v (External r) = external_texts v (moment_text v.entry.admitted)

-- a version without its bytes, by its text
abbrev pub head_texts : Version → List ℕ → Data
head_texts v admitted = object (member (codes "admitted") (text admitted) (held v))

abbrev pub head_value : Version → Data
head_value v = head_texts v (moment_text v.entry.admitted)

abbrev pub period_value : Mode → Period → Data
period_value mode (Days n) = object (member (codes "days") (whole n) (member (codes "mode") (text (mode_name mode)) no_members))
period_value mode (Years n) = object (member (codes "mode") (text (mode_name mode)) (member (codes "years") (whole n) no_members))

abbrev pub default_value : Option Default → Data
default_value None = null
default_value (Some d) = period_value d.mode d.period

-- ---- lifecycle rules, as S3's JSON has them

-- a member that may be absent
abbrev pub if_there : List ℕ → Option Data → Members → Members
if_there name None others = others
if_there name (Some value) others = member name value others

abbrev pub expiration_of : Option ℕ → Bool → Option Data
expiration_of (Some days) lone = Some (object (member (codes "Days") (whole days) no_members))
expiration_of None true = Some (object (member (codes "ExpiredObjectDeleteMarker") (boolean true) no_members))
expiration_of None false = None

abbrev pub noncurrent_value : Noncurrent → Data
noncurrent_value n = object (if_there (codes "NewerNoncurrentVersions") (option_map whole n.newer) (member (codes "NoncurrentDays") (whole n.days) no_members))

-- the members of a rule, by their names; what is absent is left out
abbrev pub named_members : Rule → Members
named_members r = member (codes "Prefix") (text r.prefix) (member (codes "Status") (text (status_name r.enabled)) no_members)

abbrev pub bounded_members : Rule → Members
bounded_members r =
    if_there (codes "ObjectSizeGreaterThan") (option_map whole r.larger)
    (if_there (codes "ObjectSizeLessThan") (option_map whole r.smaller) (named_members r))

abbrev pub rule_members : Rule → Members
rule_members r =
    if_there (codes "Expiration") (expiration_of r.days r.lone_markers)
    (member (codes "ID") (text r.id)
    (if_there (codes "NoncurrentVersionExpiration") (option_map noncurrent_value r.noncurrent) (bounded_members r)))

abbrev pub rule_value : Rule → Data
rule_value r = object (rule_members r)

abbrev pub rules_value : List Rule → Data
rules_value rules = object (member (codes "rules") (array (items_of (map rule_value rules))) no_members)

-- an entry of a listing, by the text of its moment
abbrev pub listed_members : Listed → List ℕ → Data
listed_members l admitted = object (member (codes "admitted") (text admitted) (member (codes "current") (boolean l.current) (member (codes "delete_marker") (boolean l.entry.marker) (member (codes "key") (text l.entry.key) (member (codes "size") (whole l.entry.size) (member (codes "version_id") (whole l.entry.id) no_members))))))

abbrev pub listed_value : Listed → Data
listed_value l = listed_members l (moment_text l.entry.admitted)

abbrev pub page_value : Page → Data
page_value p = object (member (codes "entries") (array (items_of (map listed_value p.entries))) (member (codes "more") (boolean p.more) no_members))

abbrev pub counts_value : Counts → Data
counts_value c = object (member (codes "changes") (whole c.changes) (member (codes "lone") (whole c.lone) (member (codes "marked") (whole c.marked) (member (codes "removed") (whole c.removed) no_members))))

abbrev pub taken_in_value : TakenIn → Data
taken_in_value t = object (member (codes "again") (boolean t.again) (member (codes "version_id") (whole t.id) no_members))

abbrev pub removed_value : Removed → Data
removed_value r = object (member (codes "cause") (text (cause_name r.permit)) (member (codes "delete_marker") (boolean r.marker) (member (codes "version_id") (whole r.id) no_members)))

-- a report by the text of its moment
abbrev pub report_members : Report → List ℕ → Data
report_members r at = object (member (codes "admitted") (whole r.admitted) (member (codes "at") (text at) (member (codes "byte_days") (whole r.byte_days) (member (codes "dept") (text r.dept) (member (codes "handed") (whole r.handed) (member (codes "held") (whole r.held) (member (codes "received") (whole r.received) (member (codes "removed") (whole r.removed) no_members))))))))

abbrev pub report_value : Report → Data
report_value r = report_members r (moment_text r.at)

abbrev pub text_member : List ℕ → Data
text_member bytes = object (member (codes "text") (text bytes) no_members)

-- a certificate of destruction, as text
abbrev pub certificate_value : Entry → List Tenure → Data
certificate_value e tenures = text_member (certificate_text e tenures)

-- the bytes that moved with a bucket
abbrev pub moved_value : ℕ → Data
moved_value bytes = object (member (codes "bytes") (whole bytes) no_members)

abbrev pub answer_value : Answer → Data
answer_value answer.Nothing = object no_members
answer_value (answer.Default default) = object (member (codes "default") (default_value default) no_members)
answer_value (answer.Rules rules) = rules_value rules
answer_value (answer.Admitted id) = object (member (codes "version_id") (whole id) no_members)
answer_value (answer.Version version content) = version_value version content
answer_value (answer.Head version) = head_value version
answer_value (answer.Versions page) = page_value page
answer_value (answer.Marked id) = object (member (codes "delete_marker") (boolean true) (member (codes "version_id") (whole id) no_members))
answer_value (answer.Removed removed) = removed_value removed
answer_value (answer.Retention retention) = object (member (codes "retention") (retention_value retention) no_members)
answer_value (answer.Hold hold) = object (member (codes "hold") (text (hold_name hold)) no_members)
answer_value (answer.Ran counts) = counts_value counts
answer_value (answer.Report report) = report_value report
answer_value (answer.Certificate entry tenures) = certificate_value entry tenures
answer_value (answer.Moved bytes) = moved_value bytes
answer_value (answer.TakenIn taken) = taken_in_value taken

-- a refusal's name and number
abbrev pub numbered_value : Refusal → Data
numbered_value refusal = object (member (codes "code") (text (name_of refusal)) (member (codes "n") (whole (number_of refusal)) no_members))

-- a refusal's name and number, and what else it says
abbrev pub refusal_value : Refusal → Data
refusal_value (AccessDenied reason) = object (member (codes "code") (text (name_of (AccessDenied reason))) (member (codes "n") (whole (number_of (AccessDenied reason))) (member (codes "reason") (text (reason_name reason)) no_members)))
refusal_value (NoSuchKey marker) = object (member (codes "code") (text (name_of (NoSuchKey marker))) (member (codes "marker") (boolean marker) (member (codes "n") (whole (number_of (NoSuchKey marker))) no_members)))
refusal_value refusal = numbered_value refusal

abbrev pub stop_name : Stop → List ℕ
stop_name Memory = codes "Memory"
stop_name Device = codes "Device"
stop_name VaultFull = codes "VaultFull"

-- a run that was stopped after n changes
abbrev pub stopped_value : ℕ → Stop → Data
stopped_value changes stop = object (member (codes "changes") (whole changes) (member (codes "fault") (text (stop_name stop)) no_members))

abbrev pub reply_value : Reply → Data
reply_value (Done answer) = object (member (codes "ok") (answer_value answer) no_members)
reply_value (Refused refusal) = object (member (codes "error") (refusal_value refusal) no_members)
reply_value (Stopped changes stop) = object (member (codes "stopped") (stopped_value changes stop) no_members)

-- compact JSON, and an LF
unfoldable pub reply_text : Reply → List ℕ
reply_text reply = compact_text (reply_value reply) ++ 10 ∷ []
