-- Parameters as the rows hold them.
use Rattle.std.proofs.Common.{◌≡◌, ℕ, pos, List, Bool, true, false, if◌then◌else◌, Option, Some, None, option_map, refl}
use Rattle.sqlite_value.specs.declared.value.Value.TheVariants.{Int, Text}
use Rattle.sqlite.specs.Values.{bound_value, or_null}
use Rattle.vault_lock.specs.declared.retention.Retention.{Retention}
use Rattle.vault_core_model.specs.declared.records.Author.{Author}
use Rattle.vault_core_model.specs.declared.records.Author.TheVariants as author
use Rattle.vault_core_model.specs.declared.records.Removal.{Removal}
use Rattle.vault_audit_model.specs.Rows.{author_name, removal_at, removal_by, retention_until}
use Rattle.vault_audit_model.specs.Values.{bytes_or_null, flag_or_null}
use Rattle.vault_store_edits.specs.Author.{author_text}

pub bound_bytes : (o : Option (List ℕ)) → bound_value (bytes_or_null o) ≡ bytes_or_null o
bound_bytes None = refl
bound_bytes (Some b) = refl

pub bound_name : (by : Author) → Text (author_text by) ≡ author_name by
bound_name (author.Caller name) = refl
bound_name (author.Rule id) = refl

pub bound_at : (o : Option Removal) → bound_value (or_null Int (option_map (λ r. pos r.at) o)) ≡ removal_at o
bound_at None = refl
bound_at (Some r) = refl

pub bound_by : (o : Option Removal) → bound_value (removal_by o) ≡ removal_by o
bound_by None = refl
bound_by (Some r) = refl

pub bound_until : (o : Option Retention) → bound_value (or_null Int (option_map (λ r. pos r.until) o)) ≡ retention_until o
bound_until None = refl
bound_until (Some r) = refl

pub bound_hold : (o : Option Bool) → bound_value (or_null (λ b. Int (if b then pos 1 else pos 0)) o) ≡ flag_or_null o
bound_hold None = refl
bound_hold (Some false) = refl
bound_hold (Some true) = refl
