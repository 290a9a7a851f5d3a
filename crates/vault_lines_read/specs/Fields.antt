-- What the line of a command says: fields, each of one member or of a few that are read together.
use Rattle.std.specs.Prelude.{◌≡◌, ℕ, List, [], ◌∷◌, codes, Bool, Option, MatchOption, Result, Ok}
use Rattle.serde_json.specs.Data.{Data}
use Rattle.vault_base.specs.declared.content.Content.{Content}
use Rattle.vault_base.specs.declared.refusal.Refusal.{Refusal}
use Rattle.vault_core_model.specs.declared.command.Command.{Command}
use Rattle.vault_core_model.specs.declared.rights.Rights.{Rights}
use Rattle.vault_lock.specs.declared.retention.Default.{Default}
use Rattle.vault_lock.specs.declared.retention.Retention.{Retention}
use Rattle.vault_rules.specs.declared.rule.Rule.{Rule}
use Rattle.vault_values.specs.Fault.{◌>>=◌}
use Rattle.vault_lines_json.specs.Locks.{retention_of, optional_retention_of, hold_of, optional_hold_of, bypass_of, default_of}
use Rattle.vault_lines_json.specs.Rules.{rules_of}
use Rattle.vault_lines_json.specs.Spelling.{IsAbsent, IsName, IsBucket, IsKey, IsPrefix, IsSmall, IsId, IsOptionalId, IsFlag, IsRights, IsContent, IsRetention, IsOptionalRetention, IsHold, IsOptionalHold, IsDefault, IsRules}
use Rattle.vault_lines_json.specs.Values.{caller_of, dept_of, optional_dept_of, batch_of, bucket_of, key_of, prefix_of, number_of, id_of, optional_id_of, rights_of, content_of}
use Rattle.vault_lines_json.specs.declared.shape.Kind.{Kind}
use Rattle.vault_lines_json.specs.declared.shape.Kind.TheVariants.{Text, OptionalText, OptionalDigest, Number, OptionalNumber, OptionalFlag, Texts, Rules}
use Rattle.vault_lines_read.specs.ListLine.{IsAfterId, IsMost, after_id_of, most_of}

pub data Field : Type 0 where
  dept optional_dept caller rights : Field
  bucket key id optional_id content : Field
  retention optional_retention hold optional_hold bypass default rules : Field
  prefix after_key after_id most batch line : Field

-- the members of a field, each by its JSON type; the values that it can have, and when its members say one
pub record Meaning : Type 1 where
  pub members : List (List ℕ × Kind)
  pub Value : Type 0
  pub Says : Data → Value → Type 0

-- without an id the current entry is meant
abbrev pub meaning_of : Field → Meaning
meaning_of dept = record { members = (codes "dept", Text) ∷ []; Value = List ℕ; Says = λ d x. IsName d (codes "dept") x }
meaning_of optional_dept = record { members = (codes "dept", OptionalText) ∷ []; Value = Option (List ℕ); Says = λ d x. MatchOption x (IsAbsent d (codes "dept")) (λ name. IsName d (codes "dept") name) }
meaning_of caller = record { members = (codes "caller", Text) ∷ []; Value = List ℕ; Says = λ d x. IsName d (codes "caller") x }
meaning_of rights = record { members = (codes "rights", Texts) ∷ []; Value = Rights; Says = λ d x. IsRights d x }
meaning_of bucket = record { members = (codes "bucket", Text) ∷ []; Value = List ℕ; Says = λ d x. IsBucket d x }
meaning_of key = record { members = (codes "key", Text) ∷ []; Value = List ℕ; Says = λ d x. IsKey d x }
meaning_of id = record { members = (codes "id", Number) ∷ []; Value = ℕ; Says = λ d x. IsId d (codes "id") x }
meaning_of optional_id = record { members = (codes "id", OptionalNumber) ∷ []; Value = Option ℕ; Says = λ d x. IsOptionalId d (codes "id") x }
meaning_of content = record { members = (codes "text", OptionalText) ∷ (codes "hex", OptionalText) ∷ (codes "sha256", OptionalDigest) ∷ (codes "size", OptionalNumber) ∷ []; Value = Content; Says = λ d x. IsContent d x }
meaning_of retention = record { members = (codes "mode", Text) ∷ (codes "until", Text) ∷ []; Value = Retention; Says = λ d x. IsRetention d x }
meaning_of optional_retention = record { members = (codes "mode", OptionalText) ∷ (codes "until", OptionalText) ∷ []; Value = Option Retention; Says = λ d x. IsOptionalRetention d x }
meaning_of hold = record { members = (codes "hold", Text) ∷ []; Value = Bool; Says = λ d x. IsHold d x }
meaning_of optional_hold = record { members = (codes "hold", OptionalText) ∷ []; Value = Option Bool; Says = λ d x. IsOptionalHold d x }
meaning_of bypass = record { members = (codes "bypass", OptionalFlag) ∷ []; Value = Bool; Says = λ d x. IsFlag d (codes "bypass") x }
meaning_of default = record { members = (codes "mode", OptionalText) ∷ (codes "days", OptionalNumber) ∷ (codes "years", OptionalNumber) ∷ []; Value = Option Default; Says = λ d x. IsDefault d x }
meaning_of rules = record { members = (codes "rules", Rules) ∷ []; Value = List Rule; Says = λ d x. IsRules d x }
meaning_of prefix = record { members = (codes "prefix", OptionalText) ∷ []; Value = List ℕ; Says = λ d x. IsPrefix d (codes "prefix") x }
meaning_of after_key = record { members = (codes "after_key", OptionalText) ∷ []; Value = List ℕ; Says = λ d x. IsPrefix d (codes "after_key") x }
meaning_of after_id = record { members = (codes "after_id", OptionalNumber) ∷ []; Value = Option ℕ; Says = λ d x. IsAfterId d x }
meaning_of most = record { members = (codes "most", OptionalNumber) ∷ []; Value = ℕ; Says = λ d x. IsMost d x }
meaning_of batch = record { members = (codes "batch", Text) ∷ []; Value = List ℕ; Says = λ d x. IsName d (codes "batch") x }
meaning_of line = record { members = (codes "line", Number) ∷ []; Value = ℕ; Says = λ d x. IsSmall d (codes "line") x }

-- what makes a command of a value of each field
abbrev pub Makes : List Field → Type 0
Makes [] = Command
Makes (f ∷ fs) = (meaning_of f).Value → Makes fs

-- the command is made of values that the fields say
abbrev pub IsMadeOf : Data → (fs : List Field) → Makes fs → Command → Type 0
IsMadeOf d [] made c = c ≡ made
IsMadeOf d (f ∷ fs) make c = (x : (meaning_of f).Value) × (meaning_of f).Says d x × IsMadeOf d fs (make x) c

-- ---- reading

-- the value of a field, or its refusal
abbrev pub value_of : (f : Field) → Data → Result (meaning_of f).Value Refusal
value_of dept d = dept_of d
value_of optional_dept d = optional_dept_of d
value_of caller d = caller_of d
value_of rights d = rights_of d
value_of bucket d = bucket_of d
value_of key d = key_of d
value_of id d = id_of d
value_of optional_id d = optional_id_of (codes "id") d
value_of content d = content_of d
value_of retention d = retention_of d
value_of optional_retention d = optional_retention_of d
value_of hold d = hold_of d
value_of optional_hold d = optional_hold_of d
value_of bypass d = bypass_of d
value_of default d = default_of d
value_of rules d = rules_of d
value_of prefix d = prefix_of (codes "prefix") d
value_of after_key d = prefix_of (codes "after_key") d
value_of after_id d = after_id_of d
value_of most d = most_of d
value_of batch d = batch_of d
value_of line d = number_of (codes "line") d

-- the command that is made of the values, or the refusal of the first that isn't allowed
abbrev pub command_with : Data → (fs : List Field) → Makes fs → Result Command Refusal
command_with d [] made = Ok made
command_with d (f ∷ fs) make = value_of f d >>= λ x. command_with d fs (make x)
