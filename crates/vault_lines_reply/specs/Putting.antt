-- Members that are put into an object one after another.
use Rattle.std.specs.Prelude.{ℕ, List, Option, Some, None, codes}
use Rattle.serde_json.specs.Data.{Data, Members, put}
use Rattle.vault_core_model.specs.declared.reply.Version.{Version}
use Rattle.vault_lines_reply.specs.ReplyLine.{digest_value, retention_value, text, whole}
use Rattle.vault_values.specs.Words.{hold_name}

-- the members with this one, where it has a value
abbrev pub put_if : List ℕ → Option Data → Members → Members
put_if name None members = members
put_if name (Some value) members = put name value members

-- with the hold, the size and the id of a version, and then its retention and its digest
abbrev pub put_held : Version → Members → Members
put_held v members =
    put (codes "sha256") (digest_value v.entry.digest)
    (put (codes "retention") (retention_value v.lock.retention)
    (put (codes "version_id") (whole v.entry.id) (put (codes "size") (whole v.entry.size) (put (codes "hold") (text (hold_name v.lock.hold)) members))))
