-- A vault in which every content is inside may register contents that are kept outside.
use Rattle.std.proofs.Common.{◌≡◌, ◌≤◌, ℕ, Bool, true, false, List, [], ◌∷◌, map, flat_map, Option, Some, None, lit≤, refl, sym, ap, subst, arith, true≢false}
use Rattle.std.specs.List.{AllByRecursion}
use Rattle.vault_base.specs.declared.content.Content.{Content}
use Rattle.vault_base.specs.declared.content.Content.TheVariants.{Inside, External}
use Rattle.vault_base.specs.Limits.{most_content, most_external}
use Rattle.vault_core_model.specs.declared.records.Entry.{Entry}
use Rattle.vault_core_model.specs.declared.records.History.{History}
use Rattle.vault_core_model.specs.declared.records.Note.{Note}
use Rattle.vault_core_model.specs.declared.records.Removal.{Removal}
use Rattle.vault_core_model.specs.declared.records.Tenure.{Tenure}
use Rattle.vault_core_model.specs.Sound.{AreTenures, HasPlace, HasRoom, HasTenures, HasTenuresAs, IsWhole, IsWholeAs, IsWithBucket, Sound, most_bytes}
use Rattle.vault_core_model.specs.Vault.{Vault}
use Rattle.vault_audit_model.specs.declared.schema.SchemaVersion.{SchemaVersion}
use Rattle.vault_audit_model.specs.Limits.{IsEntry, IsHistory, IsInLimits, IsNote, IsSizedAs}
use Rattle.vault_audit_model.specs.Rows.{external_row}
use Rattle.vault_audit_model.specs.SchemaVersions.{edition_of}
use Rattle.vault_audit_model.specs.Spells.{IsKept, IsKeptAs, external_if_given, external_in, external_rows_of}
use Rattle.vault_store_create.specs.Copied.{registering}

all_so : {A : Type 0} (P Q : A → Type 0) → ((x : A) → P x → Q x) → (xs : List A) → AllByRecursion P xs → AllByRecursion Q xs
all_so P Q so [] all = tt
all_so P Q so (x ∷ xs) all = (so x all.0, all_so P Q so xs all.1)

-- ---- sizes

-- the bound without a content is the greater one where some are kept outside
room_more : (external : Bool) (bytes : ℕ) → bytes ≤ most_bytes false None → bytes ≤ most_bytes external None
room_more false bytes low = low
room_more true bytes low = let more : most_content ≤ most_external = lit≤ tt in omega (arith, low, more)

has_place : (external : Bool) (bytes : List ℕ) → HasPlace external (Some (Inside bytes))
has_place false bytes = refl
has_place true bytes = refl

has_room : (external : Bool) (content : Option Content) (bytes : ℕ) → HasRoom false content bytes → HasRoom external content bytes
has_room external None bytes room = (room_more external bytes room.0, tt)
has_room external (Some (Inside b)) bytes room = (room.0, has_place external b)
has_room external (Some (External r)) bytes room = absurd (true≢false (sym room.1))

-- ---- histories and notes

whole_so : (external : Bool) (h : History) → IsWhole false h → IsWhole external h
whole_so external h whole = by_marker h.entry.marker whole
  where
    by_marker : (marker : Bool) → IsWholeAs marker false h.entry h.content h.settings → IsWholeAs marker external h.entry h.content h.settings
    by_marker true it = it
    by_marker false it = (has_room external h.content h.entry.size it.0, it.1, it.2, it.3)

sized_so : (marker external : Bool) (size : ℕ) (digest : Option (List ℕ)) → IsSizedAs marker false size digest → IsSizedAs marker external size digest
sized_so true external size digest it = it
sized_so false external size None it = it
sized_so false external size (Some digest) it = (room_more external size it.0, it.1)

entry_so : (external : Bool) (e : Entry) → IsEntry false e → IsEntry external e
entry_so external e it = record {
  id = it.id;
  bucket = it.bucket;
  key = it.key;
  sized = sized_so e.marker external e.size e.digest it.sized;
  admitted = it.admitted;
  by = it.by;
  removal = it.removal;
}

history_so : (external : Bool) (h : History) → IsHistory false h → IsHistory external h
history_so external h it = record { entry = entry_so external h.entry it.entry; settings = it.settings }

note_so : (external : Bool) (n : Note) → IsNote false n → IsNote external n
note_so external n it = record {
  bucket = it.bucket;
  batch = it.batch;
  line = it.line;
  key = it.key;
  size = room_more external n.size it.size;
  digest = it.digest;
  retention = it.retention;
  id = it.id;
}

-- ---- the vault

module _ (v : Vault) (inside : v.external ≡ false) (external : Bool) where
  limits_so : IsInLimits v → IsInLimits (registering external v)
  limits_so it = record {
    last = it.last;
    departments = it.departments;
    callers = it.callers;
    buckets = it.buckets;
    notes = all_so (IsNote false) (IsNote external) (note_so external) v.notes (subst (λ e. AllByRecursion (IsNote e) v.notes) inside it.notes);
    histories = all_so (IsHistory false) (IsHistory external) (history_so external) v.histories (subst (λ e. AllByRecursion (IsHistory e) v.histories) inside it.histories);
  }

  tenures_so : (e : Entry) (ts : List Tenure) → AreTenures v e ts → AreTenures (registering external v) e ts
  tenures_so e [] it = it
  tenures_so e (t ∷ ts) it = it

  bucket_so : (removal : Option Removal) (h : History) → IsWithBucket v removal h → IsWithBucket (registering external v) removal h
  bucket_so None h it = it
  bucket_so (Some r) h it = it

  tenured_so : (h : History) → HasTenures v h → HasTenures (registering external v) h
  tenured_so h it = by_marker h.entry.marker it
    where
      by_marker : (marker : Bool) → HasTenuresAs marker v h → HasTenuresAs marker (registering external v) h
      by_marker true its = its
      by_marker false its = (tenures_so h.entry h.tenures its.0, its.1, bucket_so h.entry.removal h its.2)

  sound_so : Sound v → Sound (registering external v)
  sound_so it = record {
    ids = it.ids;
    enough_ids = it.enough_ids;
    order = it.order;
    in_time = it.in_time;
    whole = all_so (IsWhole false) (IsWhole external) (whole_so external) v.histories (subst (λ e. AllByRecursion (IsWhole e) v.histories) inside it.whole);
    placed = it.placed;
    within = it.within;
    tenured = all_so (HasTenures v) (HasTenures (registering external v)) tenured_so v.histories it.tenured;
    enough_moves = it.enough_moves;
    ordered = record { departments = it.ordered.departments; callers = it.ordered.callers; buckets = it.ordered.buckets; notes = it.ordered.notes };
    employed = it.employed;
    owned = it.owned;
    periods = it.periods;
    rule_sets = it.rule_sets;
    lines = it.lines;
    notes = it.notes;
  }

pub is_kept_so : (n : SchemaVersion) (v : Vault) → v.external ≡ false → IsKeptAs n v → (external : Bool) → IsKept (registering external v)
is_kept_so n v inside kept false = record { external = refl; limits = limits_so v inside false kept.limits; sound = sound_so v inside false kept.sound; unmoved = tt }
is_kept_so n v inside kept true = record { external = refl; limits = limits_so v inside true kept.limits; sound = sound_so v inside true kept.sound; unmoved = tt }

-- no history has a content outside
none_in : (h : History) → IsWhole false h → external_in h ≡ []
none_in h whole = by_content h.content (by_marker h.entry.marker whole)
  where
    by_marker : (marker : Bool) → IsWholeAs marker false h.entry h.content h.settings → HasPlace false h.content
    by_marker true it = subst (HasPlace false) (sym it.2) tt
    by_marker false it = it.0.1

    by_content : (content : Option Content) → HasPlace false content → external_if_given h.entry.id content ≡ []
    by_content None place = refl
    by_content (Some (Inside b)) place = refl
    by_content (Some (External r)) place = absurd (true≢false (sym place))

none_of : (hs : List History) → AllByRecursion (IsWhole false) hs → flat_map external_in hs ≡ []
none_of [] whole = refl
none_of (h ∷ hs) whole = rw (none_in h whole.0, none_of hs whole.1) refl

pub none_outside : (v : Vault) → v.external ≡ false → AllByRecursion (IsWhole v.external) v.histories → (external : Bool) → external_rows_of (edition_of external) v.histories ≡ []
none_outside v inside whole false = refl
none_outside v inside whole true = ap (map external_row) (none_of v.histories (subst (λ e. AllByRecursion (IsWhole e) v.histories) inside whole))

-- a vault that registers none is its copy that registers none
pub same_registering : (v : Vault) → v.external ≡ false → registering false v ≡ v
same_registering v inside = subst (λ e. registering e v ≡ v) inside refl
