-- One row holds one record.
use Rattle.std.proofs.Common.{◌≡◌, ℕ, List, [], ◌∷◌, length, map, Bool, true, false, Option, Some, None, refl, sym, ap, arith}
use Rattle.sqlite_value.specs.declared.value.Value.{Value}
use Rattle.sqlite_value.specs.declared.value.Value.TheVariants.{Null, Text, Blob}
use Rattle.sqlite_value.specs.Order.{Row, column}
use Rattle.vault_lock.specs.declared.retention.Default.{Default}
use Rattle.vault_lock.specs.declared.retention.Mode.{Mode}
use Rattle.vault_lock.specs.declared.retention.Mode.TheVariants.{Governance, Compliance}
use Rattle.vault_lock.specs.declared.retention.Period.{Period}
use Rattle.vault_lock.specs.declared.retention.Period.TheVariants.{Days, Years}
use Rattle.vault_lock.specs.declared.retention.Retention.{Retention}
use Rattle.vault_rules.specs.declared.rule.Noncurrent.{Noncurrent}
use Rattle.vault_base.specs.Right.{rights}
use Rattle.vault_core_model.proofs.RightLemmas.{same-digits}
use Rattle.vault_core_model.specs.Rights.{has, digits_number, rights_number}
use Rattle.vault_core_model.specs.declared.rights.Rights.{Rights}
use Rattle.vault_core_model.specs.declared.records.Author.{Author}
use Rattle.vault_core_model.specs.declared.records.Author.TheVariants as author
use Rattle.vault_core_model.specs.declared.records.Caller.{Caller}
use Rattle.vault_core_model.specs.declared.records.Cause.{Cause}
use Rattle.vault_core_model.specs.declared.records.Cause.TheVariants as cause
use Rattle.vault_core_model.specs.declared.records.Entry.{Entry}
use Rattle.vault_core_model.specs.declared.records.Note.{Note}
use Rattle.vault_core_model.specs.declared.records.Removal.{Removal}
use Rattle.vault_audit_model.specs.declared.rows.BucketRow.{BucketRow}
use Rattle.vault_audit_model.specs.declared.rows.ContentRow.{ContentRow}
use Rattle.vault_audit_model.specs.declared.rows.MetaRow.{MetaRow}
use Rattle.vault_audit_model.specs.declared.rows.RuleRow.{RuleRow}
use Rattle.vault_audit_model.specs.declared.rows.SettingRow.{SettingRow}
use Rattle.vault_audit_model.specs.declared.rows.TenureRow.{TenureRow}
use Rattle.vault_audit_model.specs.Rows.{mode_number, days_of, years_of, default_mode, default_days, default_years, retention_mode, retention_until, author_kind, author_name, cause_number, cause_text, removal_at, removal_cause, removal_by, noncurrent_days, noncurrent_newer, meta_row, caller_row, bucket_row, rule_row, entry_row, content_row, setting_row, note_row, tenure_row, external_row}
use Rattle.vault_audit_model.specs.Values.{number, number_or_null, text_or_null, bytes_or_null, flag, flag_or_null}

-- ---- values

-- the values of a row, one by one
pub cell : (row other : Row) (at : ℕ) → row ≡ other → column row at ≡ column other at
cell row other at e = ap (λ r. column r at) e

pub number_same : (a b : ℕ) → number a ≡ number b → a ≡ b
number_same a b e = cc

pub text_same : (a b : List ℕ) → ◌≡◌ {A = Value} (Text a) (Text b) → a ≡ b
text_same a b e = cc

blob_same : (a b : List ℕ) → ◌≡◌ {A = Value} (Blob a) (Blob b) → a ≡ b
blob_same a b e = cc

pub flag_same : (a b : Bool) → flag a ≡ flag b → a ≡ b
flag_same false false e = refl
flag_same true true e = refl
flag_same false true e = absurd (let n : 0 ≡ 1 = number_same 0 1 e in omega (arith, n))
flag_same true false e = absurd (let n : 1 ≡ 0 = number_same 1 0 e in omega (arith, n))

no_flag : (b : Bool) → ◌≡◌ {A = Value} Null (flag b) → ⊥
no_flag false e = cc
no_flag true e = cc

flag_or_null_same : (a b : Option Bool) → flag_or_null a ≡ flag_or_null b → a ≡ b
flag_or_null_same None None e = refl
flag_or_null_same None (Some b) e = absurd (no_flag b e)
flag_or_null_same (Some a) None e = absurd (no_flag a (sym e))
flag_or_null_same (Some a) (Some b) e = ap Some (flag_same a b e)

pub number_or_null_same : (a b : Option ℕ) → number_or_null a ≡ number_or_null b → a ≡ b
number_or_null_same None None e = refl
number_or_null_same None (Some b) e = absurd cc
number_or_null_same (Some a) None e = absurd cc
number_or_null_same (Some a) (Some b) e = let same : a ≡ b = cc in ap Some same

pub text_or_null_same : (a b : Option (List ℕ)) → text_or_null a ≡ text_or_null b → a ≡ b
text_or_null_same None None e = refl
text_or_null_same None (Some b) e = absurd cc
text_or_null_same (Some a) None e = absurd cc
text_or_null_same (Some a) (Some b) e = let same : a ≡ b = cc in ap Some same

bytes_same : (a b : Option (List ℕ)) → bytes_or_null a ≡ bytes_or_null b → a ≡ b
bytes_same None None e = refl
bytes_same None (Some b) e = absurd cc
bytes_same (Some a) None e = absurd cc
bytes_same (Some a) (Some b) e = let same : a ≡ b = cc in ap Some same

-- ---- rights

digits_same : (a b : List Bool) → length a ≡ length b → digits_number a ≡ digits_number b → a ≡ b
digits_same [] [] size e = refl
digits_same [] (b ∷ bs) size e = absurd (omega (arith, size))
digits_same (a ∷ as_) [] size e = absurd (omega (arith, size))
digits_same (false ∷ as_) (false ∷ bs) size e = rw (digits_same as_ bs (omega (arith, size)) (omega (arith, e))) refl
digits_same (true ∷ as_) (true ∷ bs) size e = rw (digits_same as_ bs (omega (arith, size)) (omega (arith, e))) refl
digits_same (false ∷ as_) (true ∷ bs) size e = absurd (omega (arith, e))
digits_same (true ∷ as_) (false ∷ bs) size e = absurd (omega (arith, e))

rights_same : (r s : Rights) → rights_number r ≡ rights_number s → r ≡ s
unfolding rights_number
rights_same r s e = same-digits r s (digits_same (map (has r) rights) (map (has s) rights) refl e)

-- ---- parts of rows

mode_same : (a b : Option Mode) → mode_number a ≡ mode_number b → a ≡ b
mode_same None None e = refl
mode_same (Some Governance) (Some Governance) e = refl
mode_same (Some Compliance) (Some Compliance) e = refl
mode_same None (Some Governance) e = absurd (omega (arith, e))
mode_same None (Some Compliance) e = absurd (omega (arith, e))
mode_same (Some Governance) None e = absurd (omega (arith, e))
mode_same (Some Compliance) None e = absurd (omega (arith, e))
mode_same (Some Governance) (Some Compliance) e = absurd (omega (arith, e))
mode_same (Some Compliance) (Some Governance) e = absurd (omega (arith, e))

period_same : (p q : Period) → number_or_null (days_of p) ≡ number_or_null (days_of q) → number_or_null (years_of p) ≡ number_or_null (years_of q) → p ≡ q
period_same (Days a) (Days b) days years = ap Days (number_same a b days)
period_same (Years a) (Years b) days years = ap Years (number_same a b years)
period_same (Days a) (Years b) days years = absurd (cc days)
period_same (Years a) (Days b) days years = absurd (cc days)

default_same : (c d : Option Default) → default_mode c ≡ default_mode d → default_days c ≡ default_days d → default_years c ≡ default_years d → c ≡ d
default_same None None mode days years = refl
default_same None (Some d) mode days years = absurd (let none = mode_same None (Some d.mode) (number_same _ _ mode) in cc none)
default_same (Some c) None mode days years = absurd (let none = mode_same (Some c.mode) None (number_same _ _ mode) in cc none)
default_same (Some c) (Some d) mode days years =
    let both = mode_same (Some c.mode) (Some d.mode) (number_same _ _ mode) in
    let same : c.mode ≡ d.mode = cc both in
    rw (same, period_same c.period d.period days years) refl

retention_same : (r s : Option Retention) → retention_mode r ≡ retention_mode s → retention_until r ≡ retention_until s → r ≡ s
retention_same None None mode until = refl
retention_same None (Some s) mode until = absurd (cc until)
retention_same (Some r) None mode until = absurd (cc until)
retention_same (Some r) (Some s) mode until =
    let both = mode_same (Some r.mode) (Some s.mode) (number_same _ _ mode) in
    let same : r.mode ≡ s.mode = cc both in
    rw (same, number_same r.until s.until until) refl

noncurrent_same : (n m : Option Noncurrent) → noncurrent_days n ≡ noncurrent_days m → noncurrent_newer n ≡ noncurrent_newer m → n ≡ m
noncurrent_same None None days newer = refl
noncurrent_same None (Some m) days newer = absurd (cc days)
noncurrent_same (Some n) None days newer = absurd (cc days)
noncurrent_same (Some n) (Some m) days newer = rw (number_same n.days m.days days, number_or_null_same n.newer m.newer newer) refl

author_same : (a b : Author) → author_kind a ≡ author_kind b → author_name a ≡ author_name b → a ≡ b
author_same (author.Caller a) (author.Caller b) k e = let same : a ≡ b = cc in ap author.Caller same
author_same (author.Rule a) (author.Rule b) k e = let same : a ≡ b = cc in ap author.Rule same
author_same (author.Caller a) (author.Rule b) k e = absurd (let n : 0 ≡ 1 = number_same 0 1 k in omega (arith, n))
author_same (author.Rule a) (author.Caller b) k e = absurd (let n : 1 ≡ 0 = number_same 1 0 k in omega (arith, n))

cause_same : (a b : Cause) → cause_number a ≡ cause_number b → cause_text a ≡ cause_text b → a ≡ b
cause_same (cause.Request a) (cause.Request b) k e = ap cause.Request e
cause_same (cause.Bypass a) (cause.Bypass b) k e = ap cause.Bypass e
cause_same (cause.Rule a) (cause.Rule b) k e = ap cause.Rule e
cause_same (cause.Request a) (cause.Bypass b) k e = absurd (omega (arith, k))
cause_same (cause.Request a) (cause.Rule b) k e = absurd (omega (arith, k))
cause_same (cause.Bypass a) (cause.Request b) k e = absurd (omega (arith, k))
cause_same (cause.Bypass a) (cause.Rule b) k e = absurd (omega (arith, k))
cause_same (cause.Rule a) (cause.Request b) k e = absurd (omega (arith, k))
cause_same (cause.Rule a) (cause.Bypass b) k e = absurd (omega (arith, k))

removal_same : (r s : Option Removal) → removal_at r ≡ removal_at s → removal_cause r ≡ removal_cause s → removal_by r ≡ removal_by s → r ≡ s
removal_same None None p q e = refl
removal_same None (Some s) p q e = absurd cc
removal_same (Some r) None p q e = absurd cc
removal_same (Some r) (Some s) p q e =
    let at : r.at ≡ s.at = cc in
    let kind : cause_number r.cause ≡ cause_number s.cause = cc in
    let who : cause_text r.cause ≡ cause_text s.cause = cc in
    rw (at, cause_same r.cause s.cause kind who) refl

-- ---- rows

pub same_meta : (x y : MetaRow) → meta_row x ≡ meta_row y → x ≡ y
same_meta x y e =
    let one = cell (meta_row x) (meta_row y) in
    rw (number_same x.schema y.schema (one 1 e), number_same x.last y.last (one 2 e), number_same x.next y.next (one 3 e), number_same x.moves y.moves (one 4 e)) refl

pub same_caller : (x y : Caller) → caller_row x ≡ caller_row y → x ≡ y
same_caller x y e =
    let one = cell (caller_row x) (caller_row y) in
    rw (text_same x.name y.name (one 0 e), text_or_null_same x.dept y.dept (one 1 e), rights_same x.rights y.rights (number_same _ _ (one 2 e)), flag_same x.closed y.closed (one 3 e)) refl

pub same_bucket : (x y : BucketRow) → bucket_row x ≡ bucket_row y → x ≡ y
same_bucket x y e =
    let one = cell (bucket_row x) (bucket_row y) in
    rw (text_same x.name y.name (one 0 e), text_same x.config.dept y.config.dept (one 1 e), default_same x.config.default y.config.default (one 2 e) (one 3 e) (one 4 e)) refl

pub same_rule : (x y : RuleRow) → rule_row x ≡ rule_row y → x ≡ y
same_rule x y e =
    let one = cell (rule_row x) (rule_row y) in
    rw (text_same x.bucket y.bucket (one 0 e), number_same x.place y.place (one 1 e), text_same x.rule.id y.rule.id (one 2 e), text_same x.rule.prefix y.rule.prefix (one 3 e))
    (rw (flag_same x.rule.enabled y.rule.enabled (one 4 e), number_or_null_same x.rule.days y.rule.days (one 5 e), flag_same x.rule.lone_markers y.rule.lone_markers (one 6 e), noncurrent_same x.rule.noncurrent y.rule.noncurrent (one 7 e) (one 8 e))
    (rw (number_or_null_same x.rule.larger y.rule.larger (one 9 e), number_or_null_same x.rule.smaller y.rule.smaller (one 10 e)) refl))

pub same_entry : (x y : Entry) → entry_row x ≡ entry_row y → x ≡ y
same_entry x y e =
    let one = cell (entry_row x) (entry_row y) in
    rw (number_same x.id y.id (one 0 e), text_same x.bucket y.bucket (one 1 e), text_same x.key y.key (one 2 e), flag_same x.marker y.marker (one 3 e))
    (rw (number_same x.size y.size (one 4 e), bytes_same x.digest y.digest (one 5 e), number_same x.admitted y.admitted (one 6 e), author_same x.by y.by (one 7 e) (one 8 e))
    (rw (removal_same x.removal y.removal (one 9 e) (one 10 e) (one 11 e)) refl))

pub same_content : (x y : ContentRow) → content_row x ≡ content_row y → x ≡ y
same_content x y e =
    let one = cell (content_row x) (content_row y) in
    rw (number_same x.id y.id (one 0 e), blob_same x.content y.content (one 1 e)) refl

pub same_setting : (x y : SettingRow) → setting_row x ≡ setting_row y → x ≡ y
same_setting x y e =
    let one = cell (setting_row x) (setting_row y) in
    rw (number_same x.id y.id (one 0 e), number_same x.place y.place (one 1 e), number_same x.setting.at y.setting.at (one 2 e), text_same x.setting.by y.setting.by (one 3 e))
    (rw (retention_same x.setting.lock.retention y.setting.lock.retention (one 4 e) (one 5 e), flag_same x.setting.lock.hold y.setting.lock.hold (one 6 e), flag_same x.setting.bypass y.setting.bypass (one 7 e)) refl)

pub same_note : (x y : Note) → note_row x ≡ note_row y → x ≡ y
same_note x y e =
    let one = cell (note_row x) (note_row y) in
    rw (text_same x.bucket y.bucket (one 0 e), text_same x.batch y.batch (one 1 e), number_same x.line y.line (one 2 e), text_same x.key y.key (one 3 e))
    (rw (number_same x.size y.size (one 4 e), blob_same x.digest y.digest (one 5 e), retention_same x.retention y.retention (one 6 e) (one 7 e), flag_or_null_same x.hold y.hold (one 8 e))
    (rw (number_same x.id y.id (one 9 e)) refl))

pub same_tenure : (x y : TenureRow) → tenure_row x ≡ tenure_row y → x ≡ y
same_tenure x y e =
    let one = cell (tenure_row x) (tenure_row y) in
    rw (number_same x.id y.id (one 0 e), text_same x.tenure.dept y.tenure.dept (one 2 e), number_same x.tenure.from y.tenure.from (one 3 e), number_same x.tenure.number y.tenure.number (one 1 e)) refl

pub same_external : (x y : ℕ) → external_row x ≡ external_row y → x ≡ y
same_external x y e = number_same x y (cell (external_row x) (external_row y) 0 e)
