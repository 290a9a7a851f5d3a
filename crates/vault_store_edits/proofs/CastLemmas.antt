-- Parameters as the values that they are, beside the values that a column takes as they are.
use Rattle.std.proofs.Common.{◌≡◌, ℕ, pos, List, Bool, true, false, if◌then◌else◌, option_map, Option, Some, None, refl}
use Rattle.sqlite_value.specs.declared.value.Value.TheVariants.{Int}
use Rattle.sqlite.specs.Values.{bound_value, or_null}
use Rattle.vault_audit_model.specs.Values.{number_or_null, text_or_null, flag}
pub use Rattle.vault_store_edits.specs.Casts.{cast_number, cast_number_or_null, cast_flag, cast_flag_or_null, cast_text_or_null, cast_kind, cast_name}

pub bound_number : (o : Option ℕ) → bound_value (or_null (λ n. Int (pos n)) o) ≡ number_or_null o
bound_number None = refl
bound_number (Some n) = refl

pub bound_whole : (o : Option ℕ) → bound_value (or_null Int (option_map pos o)) ≡ number_or_null o
bound_whole None = refl
bound_whole (Some n) = refl

pub bound_text : (o : Option (List ℕ)) → bound_value (text_or_null o) ≡ text_or_null o
bound_text None = refl
bound_text (Some t) = refl

pub bound_flag : (b : Bool) → Int (if b then pos 1 else pos 0) ≡ flag b
bound_flag false = refl
bound_flag true = refl
