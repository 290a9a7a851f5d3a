-- Values that a column takes as they are.
use Rattle.std.proofs.Common.{◌≡◌, ℕ, pos, List, Bool, true, false, Option, Some, None, refl}
use Rattle.sqlite_schema.specs.declared.schema.Kind.TheVariants as kind
use Rattle.sqlite_rules.specs.Cast.{cast}
use Rattle.vault_core_model.specs.declared.records.Author.{Author}
use Rattle.vault_core_model.specs.declared.records.Author.TheVariants as author
use Rattle.vault_audit_model.specs.Rows.{author_kind, author_name}
use Rattle.vault_audit_model.specs.Values.{number, number_or_null, text_or_null, flag, flag_or_null}
use Rattle.vault_audit_model.proofs.ValueLemmas.{cast_null, cast_int}

pub cast_number : (n : ℕ) → cast kind.Integer (number n) ≡ number n
cast_number n = cast_int (pos n)

pub cast_number_or_null : (o : Option ℕ) → cast kind.Integer (number_or_null o) ≡ number_or_null o
cast_number_or_null None = cast_null
cast_number_or_null (Some n) = cast_number n

pub cast_flag : (b : Bool) → cast kind.Integer (flag b) ≡ flag b
cast_flag false = cast_number 0
cast_flag true = cast_number 1

pub cast_flag_or_null : (o : Option Bool) → cast kind.Integer (flag_or_null o) ≡ flag_or_null o
cast_flag_or_null None = cast_null
cast_flag_or_null (Some b) = cast_flag b

pub cast_text_or_null : (o : Option (List ℕ)) → cast kind.Text (text_or_null o) ≡ text_or_null o
cast_text_or_null None = refl
cast_text_or_null (Some t) = refl

pub cast_kind : (by : Author) → cast kind.Integer (author_kind by) ≡ author_kind by
cast_kind (author.Caller name) = cast_flag false
cast_kind (author.Rule id) = cast_flag true

pub cast_name : (by : Author) → cast kind.Text (author_name by) ≡ author_name by
cast_name (author.Caller name) = refl
cast_name (author.Rule id) = refl
