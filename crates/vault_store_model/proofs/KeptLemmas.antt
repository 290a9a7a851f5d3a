-- A vault that may be kept may be kept after a change in its limits.
use Rattle.std.proofs.Common.{◌≡◌, ℕ, ◌≤◌, ◌==◌, List, [], ◌∷◌, ◌++◌, map, Bool, true, false, Option, Some, None, IfSome, IsTrue, refl}
use Rattle.std.specs.Prelude.{if◌then◌else◌}
use Rattle.std.specs.List.{AllByRecursion}
use Rattle.std.specs.Str.{bytes_eq}
use Rattle.vault_base.specs.Days.{last_moment}
use Rattle.vault_lock.specs.Retention.{is_period}
use Rattle.vault_lock.specs.declared.retention.Default.{Default}
use Rattle.vault_rules.specs.declared.rule.Rule.{Rule}
use Rattle.vault_core_model.specs.declared.records.Bucket.{Bucket}
use Rattle.vault_core_model.specs.declared.records.Caller.{Caller}
use Rattle.vault_core_model.specs.declared.records.History.{History}
use Rattle.vault_core_model.specs.declared.records.Note.{Note}
use Rattle.vault_core_model.specs.declared.records.Removal.{Removal}
use Rattle.vault_core_model.specs.declared.records.Setting.{Setting}
use Rattle.vault_core_model.specs.declared.records.Tenure.{Tenure}
use Rattle.vault_core_model.specs.declared.change.Change.{Change}
use Rattle.vault_core_model.specs.declared.change.Change.TheVariants.{AddDept, AddCaller, CloseCaller, AddBucket, MoveBucket, SetDefault, SetRules, Admit, AddSetting, Remove}
use Rattle.vault_core_model.specs.Allowed.{Allows}
use Rattle.vault_core_model.specs.Change.{changed, new_bucket, closed_if, with_default, with_rules, with_department, with_setting, tenured_by, tenured_if, next_tenure, removed_by, removed_if}
use Rattle.vault_core_model.specs.Order.{name_cmp, caller_cmp, bucket_cmp, note_cmp, placed_if_given}
use Rattle.vault_core_model.specs.Places.{is_held_version_in}
use Rattle.vault_core_model.specs.Vault.{Vault}
use Rattle.vault_core_laws.proofs.Lists.{All-push, All-placed}
use Rattle.vault_core_laws.proofs.Soundness.{Sound-changed}
use Rattle.vault_audit_model.specs.Limits.{IsInLimits, IsPlainName, IsCaller, IsBucket, AreRules, IsHistory, IsNote, IsSetting, IsRemoval}
use Rattle.vault_audit_model.specs.SchemaVersions.{is_external, edition_of}
use Rattle.vault_audit_model.specs.Spells.{IsKept}
use Rattle.vault_audit_model.specs.Tenures.{IsUnmovedIn}
use Rattle.vault_store_model.specs.Limits.{IsChangeInLimits}

each_map : {A : Type 0} (P : A → Type 0) (f : A → A) → ((x : A) → P x → P (f x)) → (xs : List A) → AllByRecursion P xs → AllByRecursion P (map f xs)
each_map P f still [] all = tt
each_map P f still (x ∷ xs) all = (still x all.0, each_map P f still xs all.1)

closed_limited : (name : List ℕ) (c : Caller) → IsCaller c → IsCaller (closed_if name c)
closed_limited name c is =
    elim (bytes_eq c.name name) as (λ b. IsCaller (if b then record c { closed = true } else c)) [
      | true ↦ record { name = is.name; dept = is.dept }
      | false ↦ is
    ]

default_limited : (name : List ℕ) (default : Option Default) → IfSome default (λ d. IsTrue (is_period d.period)) → (b : Bucket) → IsBucket b → IsBucket (with_default name default b)
default_limited name default given b is =
    elim (bytes_eq b.name name) as (λ x. IsBucket (if x then record b { config = record { dept = b.config.dept; default = default } } else b)) [
      | true ↦ record { name = is.name; config = record { dept = is.config.dept; default = given }; rules = is.rules }
      | false ↦ is
    ]

rules_limited : (name : List ℕ) (rules : Option (List Rule)) → IfSome rules AreRules → (b : Bucket) → IsBucket b → IsBucket (with_rules name rules b)
rules_limited name rules given b is =
    elim (bytes_eq b.name name) as (λ x. IsBucket (if x then record b { rules = rules } else b)) [
      | true ↦ record { name = is.name; config = is.config; rules = given }
      | false ↦ is
    ]

owner_limited : (name dept : List ℕ) → IsPlainName dept → (b : Bucket) → IsBucket b → IsBucket (with_department name dept b)
owner_limited name dept given b is =
    elim (bytes_eq b.name name) as (λ x. IsBucket (if x then record b { config = record { dept = dept; default = b.config.default } } else b)) [
      | true ↦ record { name = is.name; config = record { dept = given; default = is.config.default }; rules = is.rules }
      | false ↦ is
    ]

tenure_limited : (external : Bool) (name : List ℕ) (t : Tenure) (h : History) → IsHistory external h → IsHistory external (tenured_if name t h)
tenure_limited external name t h is =
    elim (is_held_version_in name h.entry) as (λ b. IsHistory external (if b then tenured_by t h else h)) [
      | true ↦ record { entry = is.entry; settings = is.settings }
      | false ↦ is
    ]

setting_limited : (external : Bool) (id : ℕ) (s : Setting) → IsSetting s → (h : History) → IsHistory external h → IsHistory external (with_setting id s h)
setting_limited external id s given h is =
    elim (h.entry.id == id) as (λ b. IsHistory external (if b then record h { settings = h.settings ++ s ∷ [] } else h)) [
      | true ↦ record { entry = is.entry; settings = All-push IsSetting h.settings s is.settings given }
      | false ↦ is
    ]

removal_limited : (external : Bool) (id : ℕ) (r : Removal) → IsRemoval r → (h : History) → IsHistory external h → IsHistory external (removed_if id r h)
removal_limited external id r given h is =
    elim (h.entry.id == id) as (λ b. IsHistory external (if b then removed_by r h else h)) [
      | true ↦ record {
        entry = record {
          id = is.entry.id;
          bucket = is.entry.bucket;
          key = is.entry.key;
          sized = is.entry.sized;
          admitted = is.entry.admitted;
          by = is.entry.by;
          removal = given;
        };
        settings = is.settings;
      }
      | false ↦ is
    ]

note_limited : (external : Bool) (note : Option Note) (ns : List Note) → IfSome note (IsNote external) → AllByRecursion (IsNote external) ns → AllByRecursion (IsNote external) (placed_if_given note_cmp note ns)
note_limited external None ns given all = all
note_limited external (Some n) ns given all = All-placed (IsNote external) note_cmp n ns given all

pub limited_changed : (v : Vault) (t : ℕ) (c : Change) → IsInLimits v → t ≤ last_moment → IsChangeInLimits v.external c → IsInLimits (changed v t c)
limited_changed v t (AddDept name) is low given = record {
  last = low;
  departments = All-placed IsPlainName name_cmp name v.departments given is.departments;
  callers = is.callers;
  buckets = is.buckets;
  notes = is.notes;
  histories = is.histories;
}
limited_changed v t (AddCaller c) is low given = record {
  last = low;
  departments = is.departments;
  callers = All-placed IsCaller caller_cmp c v.callers given is.callers;
  buckets = is.buckets;
  notes = is.notes;
  histories = is.histories;
}
limited_changed v t (CloseCaller name) is low given = record {
  last = low;
  departments = is.departments;
  callers = each_map IsCaller (closed_if name) (closed_limited name) v.callers is.callers;
  buckets = is.buckets;
  notes = is.notes;
  histories = is.histories;
}
limited_changed v t (AddBucket name dept) is low given = record {
  last = low;
  departments = is.departments;
  callers = is.callers;
  buckets = All-placed IsBucket bucket_cmp (new_bucket name dept) v.buckets (record { name = given.0; config = record { dept = given.1; default = tt }; rules = tt }) is.buckets;
  notes = is.notes;
  histories = is.histories;
}
limited_changed v t (MoveBucket name dept) is low given = record {
  last = low;
  departments = is.departments;
  callers = is.callers;
  buckets = each_map IsBucket (with_department name dept) (owner_limited name dept given) v.buckets is.buckets;
  notes = is.notes;
  histories = each_map (IsHistory v.external) (tenured_if name (next_tenure v t dept)) (tenure_limited v.external name (next_tenure v t dept)) v.histories is.histories;
}
limited_changed v t (SetDefault name default) is low given = record {
  last = low;
  departments = is.departments;
  callers = is.callers;
  buckets = each_map IsBucket (with_default name default) (default_limited name default given) v.buckets is.buckets;
  notes = is.notes;
  histories = is.histories;
}
limited_changed v t (SetRules name rules) is low given = record {
  last = low;
  departments = is.departments;
  callers = is.callers;
  buckets = each_map IsBucket (with_rules name rules) (rules_limited name rules given) v.buckets is.buckets;
  notes = is.notes;
  histories = is.histories;
}
limited_changed v t (Admit a) is low given = record {
  last = low;
  departments = is.departments;
  callers = is.callers;
  buckets = is.buckets;
  notes = note_limited v.external a.note v.notes given.1 is.notes;
  histories = All-push (IsHistory v.external) v.histories a.history is.histories given.0;
}
limited_changed v t (AddSetting id s) is low given = record {
  last = low;
  departments = is.departments;
  callers = is.callers;
  buckets = is.buckets;
  notes = is.notes;
  histories = each_map (IsHistory v.external) (with_setting id s) (setting_limited v.external id s given) v.histories is.histories;
}
limited_changed v t (Remove id r) is low given = record {
  last = low;
  departments = is.departments;
  callers = is.callers;
  buckets = is.buckets;
  notes = is.notes;
  histories = each_map (IsHistory v.external) (removed_if id r) (removal_limited v.external id r given) v.histories is.histories;
}

-- whether the vault registers contents that are kept outside stays as it is
pub external_changed : (v : Vault) (t : ℕ) (c : Change) → (changed v t c).external ≡ v.external
external_changed v t (AddDept name) = refl
external_changed v t (AddCaller c) = refl
external_changed v t (CloseCaller name) = refl
external_changed v t (AddBucket name dept) = refl
external_changed v t (MoveBucket name dept) = refl
external_changed v t (SetDefault name default) = refl
external_changed v t (SetRules name rules) = refl
external_changed v t (Admit a) = refl
external_changed v t (AddSetting id s) = refl
external_changed v t (Remove id r) = refl

-- the edition registers what the vault does
pub edition_is : (external : Bool) → external ≡ is_external (edition_of external)
edition_is false = refl
edition_is true = refl

-- and states every tenure
pub any_tenures : (external : Bool) (v : Vault) → IsUnmovedIn (edition_of external) v
any_tenures false v = tt
any_tenures true v = tt

pub kept_changed : (v : Vault) (t : ℕ) (c : Change) → IsKept v → v.last ≤ t → t ≤ last_moment → Allows v t c → IsChangeInLimits v.external c → IsKept (changed v t c)
kept_changed v t c kept later low allowed given = record {
  external = edition_is (changed v t c).external;
  limits = limited_changed v t c kept.limits low given;
  sound = Sound-changed v t c kept.sound later allowed;
  unmoved = any_tenures (changed v t c).external (changed v t c);
}
