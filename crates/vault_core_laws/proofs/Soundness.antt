-- A change that is allowed keeps a vault sound.
use Rattle.std.proofs.Common.{◌≡◌, ℕ, ◌+◌, ◌≤◌, ◌<◌, List, [], ◌∷◌, ◌++◌, length, map, Bool, true, false, Option, Some, None, refl, sym, ap, ◌∙◌, subst, arith, eqb}
use Rattle.std.specs.Prelude.{if◌then◌else◌, IsSome, find, option_map, option_and_then, sum_by, ◌==◌}
use Rattle.std.specs.Prelude.{IsTrue}
use Rattle.std.specs.List.{AllByRecursion}
use Rattle.std.specs.Str.{bytes_eq}
use Rattle.std.proofs.lemmas.Bool.{eqb-true}
use Rattle.std.proofs.lemmas.List.{length-map, length-append}
use Rattle.vault_base.specs.declared.content.Content.{Content}
use Rattle.vault_base.specs.declared.content.Content.TheVariants.{Inside, External}
use Rattle.vault_base.specs.Limits.{most_ids, most_settings}
use Rattle.vault_lock.specs.declared.retention.Default.{Default}
use Rattle.vault_rules.specs.declared.rule.Rule.{Rule}
use Rattle.vault_rules.specs.Rules.{is_rule_set, passes_if_given}
use Rattle.vault_tally.specs.Row.{quota, size_of}
use Rattle.vault_tally.proofs.Bounds.{got}
use Rattle.vault_core_model.specs.declared.records.Bucket.{Bucket}
use Rattle.vault_core_model.specs.declared.records.BucketConfig.{BucketConfig}
use Rattle.vault_core_model.specs.declared.records.Entry.{Entry}
use Rattle.vault_core_model.specs.Reads.{setting_of, last_setting, count_of_settings}
use Rattle.vault_core_model.specs.declared.records.History.{History}
use Rattle.vault_core_model.specs.declared.records.Note.{Note}
use Rattle.vault_core_model.specs.declared.records.Removal.{Removal}
use Rattle.vault_core_model.specs.declared.records.Setting.{Setting}
use Rattle.vault_core_model.specs.declared.records.Tenure.{Tenure}
use Rattle.vault_core_model.specs.declared.change.Change.{Change}
use Rattle.vault_core_model.specs.declared.change.Change.TheVariants.{AddDept, AddCaller, CloseCaller, AddBucket, MoveBucket, SetDefault, SetRules, Admit, AddSetting, Remove}
use Rattle.vault_core_model.specs.Places.{is_held_version_in}
use Rattle.vault_core_model.specs.Order.{placed, placed_if_given, bucket_cmp, note_cmp}
use Rattle.vault_core_model.specs.Vault.{Vault, config_of, has_department}
use Rattle.vault_core_model.specs.Change.{changed, next_tenure, removed_by, removed_if, new_bucket, tenured_by, tenured_if, with_default, with_department, with_rules, with_setting}
use Rattle.vault_core_model.specs.Sound.{HasRoom, AreIdsFrom, AreInOrder, IsInTime, LiesBetween, HasItsContent, IsWhole, IsWholeAs, IsPlaced, IsNoted, NamesItsVersion, IsEmployed, IsOwned, HasPeriod, HasLine, HasRuleSet, IsInNameOrder, HasTenures, Sound}
use Rattle.vault_core_model.specs.Allowed.{Allows, IsNextSetting, IsFirstNote}
use Rattle.vault_core_model.specs.Totals.{admitted_bytes, received_bytes, items_of}
use Rattle.vault_core_laws.proofs.Lists.{All-push, All-last, All-placed, All-weaker, All-both, All-map}
use Rattle.vault_core_laws.proofs.Buckets.{config_in-placed, placed-mapped, owner-mapped, name-with_default, name-with_department, dept-with_default, name-with_rules, dept-with_rules}
use Rattle.vault_core_laws.proofs.Items.{brought, sizes-push, sizes-removed, sizes-setting, first_fits}
use Rattle.vault_core_laws.proofs.Moves.{entry-tenured, tenured-moved, within-moved}
use Rattle.vault_core_laws.proofs.NameOrder.{ordered-changed}
use Rattle.vault_core_laws.proofs.Newest.{finds_itself}
use Rattle.vault_core_laws.proofs.References.{department-stays, employed-changed, owned-changed, periods-changed, lines-changed}
use Rattle.vault_core_laws.proofs.Tenures.{IsLater, all_tenured-later, tenured-later, tenured-setting, tenured-removed, tenured-admitted}

-- ---- ids

AreIdsFrom-push : (n : ℕ) (hs : List History) (h : History) → AreIdsFrom n hs → h.entry.id ≡ length hs + n → AreIdsFrom n (hs ++ h ∷ [])
AreIdsFrom-push n [] h ids e = (omega arith, tt)
AreIdsFrom-push n (g ∷ hs) h ids e = (ids.0, AreIdsFrom-push (n + 1) hs h ids.1 (omega arith))

AreIdsFrom-removed : (id : ℕ) (r : Removal) (n : ℕ) (hs : List History) → AreIdsFrom n hs → AreIdsFrom n (map (removed_if id r) hs)
AreIdsFrom-removed id r n [] ids = tt
AreIdsFrom-removed id r n (h ∷ hs) ids =
    elim (eqb h.entry.id id) as (λ b. AreIdsFrom n ((if b then removed_by r h else h) ∷ map (removed_if id r) hs))
    [ true ↦ (ids.0, AreIdsFrom-removed id r (n + 1) hs ids.1) | false ↦ (ids.0, AreIdsFrom-removed id r (n + 1) hs ids.1) ]

one_more : (hs : List History) (h : History) → length hs + 1 ≤ most_ids → length (hs ++ h ∷ []) ≤ most_ids
one_more hs h fits = omega (arith, length-append hs (h ∷ []))

-- ---- moments

pub AreInOrder-later : (from last t : ℕ) (hs : List History) → last ≤ t → AreInOrder from last hs → AreInOrder from t hs
AreInOrder-later from last t [] le order = omega arith
AreInOrder-later from last t (h ∷ hs) le order = (order.0, AreInOrder-later h.entry.admitted last t hs le order.1)

AreInOrder-push : (from last t : ℕ) (hs : List History) (h : History) → last ≤ t → h.entry.admitted ≡ t → AreInOrder from last hs → AreInOrder from t (hs ++ h ∷ [])
AreInOrder-push from last t [] h le now order = (omega (arith, now), omega (arith, now))
AreInOrder-push from last t (g ∷ hs) h le now order = (order.0, AreInOrder-push g.entry.admitted last t hs h le now order.1)

AreInOrder-removed : (id : ℕ) (r : Removal) (from last : ℕ) (hs : List History) → AreInOrder from last hs → AreInOrder from last (map (removed_if id r) hs)
AreInOrder-removed id r from last [] order = order
AreInOrder-removed id r from last (h ∷ hs) order =
    elim (eqb h.entry.id id) as (λ b. AreInOrder from last ((if b then removed_by r h else h) ∷ map (removed_if id r) hs))
    [ true ↦ (order.0, AreInOrder-removed id r h.entry.admitted last hs order.1) | false ↦ (order.0, AreInOrder-removed id r h.entry.admitted last hs order.1) ]

from_le_last : (from last : ℕ) (hs : List History) → AreInOrder from last hs → from ≤ last
from_le_last from last [] order = order
from_le_last from last (h ∷ hs) order = omega (arith, order.0, from_le_last h.entry.admitted last hs order.1)

-- no entry was admitted after the last moment
pub admitted_by : (from last : ℕ) (hs : List History) → AreInOrder from last hs → AllByRecursion (λ h. h.entry.admitted ≤ last) hs
admitted_by from last [] order = tt
admitted_by from last (h ∷ hs) order = (from_le_last h.entry.admitted last hs order.1, admitted_by h.entry.admitted last hs order.1)

LiesBetween-later : (admitted last t : ℕ) (o : Option Removal) → last ≤ t → LiesBetween admitted last o → LiesBetween admitted t o
LiesBetween-later admitted last t None le lies = tt
LiesBetween-later admitted last t (Some r) le lies = (lies.0, omega (arith, lies.1))

IsInTime-later : (last t : ℕ) (hs : List History) → last ≤ t → AllByRecursion (IsInTime last) hs → AllByRecursion (IsInTime t) hs
IsInTime-later last t hs le all = All-weaker (IsInTime last) (IsInTime t) (λ h in_time. LiesBetween-later h.entry.admitted last t h.entry.removal le in_time) hs all

IsInTime-removed : (last t id : ℕ) (r : Removal) (h : History) → last ≤ t → r.at ≡ t → h.entry.admitted ≤ last → IsInTime last h → IsInTime t (removed_if id r h)
IsInTime-removed last t id r h le now early in_time =
    elim (eqb h.entry.id id) as (λ b. IsInTime t (if b then removed_by r h else h))
    [ true ↦ (omega (arith, now), omega (arith, now)) | false ↦ LiesBetween-later h.entry.admitted last t h.entry.removal le in_time ]

-- ---- entries

digest_is : (e : Entry) (o : Option Removal) (content : Option Content) → HasItsContent o content e → IsSome e.digest
digest_is e None None has = absurd has
digest_is e None (Some content) has = rw has.1 refl
digest_is e (Some r) None has = has
digest_is e (Some r) (Some content) has = absurd has

room_removed : (external : Bool) (content : Option Content) (bytes : ℕ) → HasRoom external content bytes → HasRoom external None bytes
room_removed external None bytes room = room
room_removed true (Some (Inside x)) bytes room = (omega (arith, room.0), tt)
room_removed true (Some (External x)) bytes room = (room.0, tt)
room_removed false (Some (Inside x)) bytes room = (room.0, tt)
room_removed false (Some (External x)) bytes room = absurd (cc room.1)

whole_removed : (external : Bool) (r : Removal) (e : Entry) (marker : Bool) (content : Option Content) (settings : List Setting) → IsWholeAs marker external e content settings → IsWholeAs marker external (record e { removal = Some r }) None settings
whole_removed external r e true content settings whole = (whole.0, whole.1, refl, whole.3)
whole_removed external r e false content settings whole =
    (room_removed external content e.size whole.0, digest_is e e.removal content whole.1, whole.2, whole.3)

IsWhole-removed : (external : Bool) (id : ℕ) (r : Removal) (h : History) → IsWhole external h → IsWhole external (removed_if id r h)
IsWhole-removed external id r h whole =
    elim (eqb h.entry.id id) as (λ b. IsWhole external (if b then removed_by r h else h))
    [ true ↦ whole_removed external r h.entry h.entry.marker h.content h.settings whole | false ↦ whole ]

IsPlaced-removed : (v : Vault) (id : ℕ) (r : Removal) (h : History) → IsPlaced v h → IsPlaced v (removed_if id r h)
IsPlaced-removed v id r h placed =
    elim (eqb h.entry.id id) as (λ b. IsPlaced v (if b then removed_by r h else h)) [ true ↦ placed | false ↦ placed ]

-- ---- notes and rules

-- what is found by an id, after one more entry
noted-found : (n : Note) (h : History) (b : Bool) (rest more : Option History) → (IsNoted n (option_map (λ g. g.entry) rest) → IsNoted n (option_map (λ g. g.entry) more)) → IsNoted n (option_map (λ g. g.entry) (if b then Some h else rest)) → IsNoted n (option_map (λ g. g.entry) (if b then Some h else more))
noted-found n h true rest more later noted = noted
noted-found n h false rest more later noted = later noted

IsNoted-push : (n : Note) (id : ℕ) (hs : List History) (x : History) → IsNoted n (option_map (λ g. g.entry) (find (λ g. g.entry.id == id) hs)) → IsNoted n (option_map (λ g. g.entry) (find (λ g. g.entry.id == id) (hs ++ x ∷ [])))
IsNoted-push n id [] x noted = absurd noted
IsNoted-push n id (h ∷ hs) x noted =
    noted-found n h (h.entry.id == id) (find (λ g. g.entry.id == id) hs) (find (λ g. g.entry.id == id) (hs ++ x ∷ [])) (IsNoted-push n id hs x) noted

-- the same, where each entry is altered but keeps its id and what a note says
noted-mapped : (n : Note) (h g : History) (b : Bool) (rest more : Option History) → g.entry.bucket ≡ h.entry.bucket → g.entry.key ≡ h.entry.key → g.entry.size ≡ h.entry.size → g.entry.digest ≡ h.entry.digest → (IsNoted n (option_map (λ x. x.entry) rest) → IsNoted n (option_map (λ x. x.entry) more)) → IsNoted n (option_map (λ x. x.entry) (if b then Some h else rest)) → IsNoted n (option_map (λ x. x.entry) (if b then Some g else more))
noted-mapped n h g true rest more bucket key size digest later noted =
    (bucket ∙ noted.0, key ∙ noted.1, size ∙ noted.2, digest ∙ noted.3)
noted-mapped n h g false rest more bucket key size digest later noted = later noted

-- an alteration of a history that no note is about
record KeepsNotes (f : History → History) : Type 0 where
  id : (h : History) → (f h).entry.id ≡ h.entry.id
  bucket : (h : History) → (f h).entry.bucket ≡ h.entry.bucket
  key : (h : History) → (f h).entry.key ≡ h.entry.key
  size : (h : History) → (f h).entry.size ≡ h.entry.size
  digest : (h : History) → (f h).entry.digest ≡ h.entry.digest

IsNoted-map : (f : History → History) → KeepsNotes f → (n : Note) (id : ℕ) (hs : List History) → IsNoted n (option_map (λ g. g.entry) (find (λ g. g.entry.id == id) hs)) → IsNoted n (option_map (λ g. g.entry) (find (λ g. g.entry.id == id) (map f hs)))
IsNoted-map f same n id [] noted = noted
IsNoted-map f same n id (h ∷ hs) noted =
    let P : ℕ → Type 0 = λ i. IsNoted n (option_map (λ g. g.entry) (if eqb i id then Some (f h) else find (λ g. g.entry.id == id) (map f hs))) in
    subst P (sym (same.id h)) (noted-mapped n h (f h) (eqb h.entry.id id) (find (λ g. g.entry.id == id) hs) (find (λ g. g.entry.id == id) (map f hs)) (same.bucket h) (same.key h) (same.size h) (same.digest h) (IsNoted-map f same n id hs) noted)

keeps_notes-removed : (id : ℕ) (r : Removal) → KeepsNotes (removed_if id r)
keeps_notes-removed id r = record {
  id = λ h. elim (eqb h.entry.id id) as (λ b. (if b then removed_by r h else h).entry.id ≡ h.entry.id) [ true ↦ refl | false ↦ refl ];
  bucket = λ h. elim (eqb h.entry.id id) as (λ b. (if b then removed_by r h else h).entry.bucket ≡ h.entry.bucket) [ true ↦ refl | false ↦ refl ];
  key = λ h. elim (eqb h.entry.id id) as (λ b. (if b then removed_by r h else h).entry.key ≡ h.entry.key) [ true ↦ refl | false ↦ refl ];
  size = λ h. elim (eqb h.entry.id id) as (λ b. (if b then removed_by r h else h).entry.size ≡ h.entry.size) [ true ↦ refl | false ↦ refl ];
  digest = λ h. elim (eqb h.entry.id id) as (λ b. (if b then removed_by r h else h).entry.digest ≡ h.entry.digest) [ true ↦ refl | false ↦ refl ];
}

-- an alteration of a history that leaves its entry
abbrev KeepsEntries : (History → History) → Type 0
KeepsEntries f = (h : History) → (f h).entry ≡ h.entry

keeps_notes-kept : (f : History → History) → KeepsEntries f → KeepsNotes f
keeps_notes-kept f same = record {
  id = λ h. ap (λ (e : Entry). e.id) (same h);
  bucket = λ h. ap (λ (e : Entry). e.bucket) (same h);
  key = λ h. ap (λ (e : Entry). e.key) (same h);
  size = λ h. ap (λ (e : Entry). e.size) (same h);
  digest = λ h. ap (λ (e : Entry). e.digest) (same h);
}

-- the notes of a vault whose histories are so altered
notes_mapped : (f : History → History) → KeepsNotes f → (hs : List History) (ns : List Note) → AllByRecursion (λ n. IsNoted n (option_map (λ g. g.entry) (find (λ g. g.entry.id == n.id) hs))) ns → AllByRecursion (λ n. IsNoted n (option_map (λ g. g.entry) (find (λ g. g.entry.id == n.id) (map f hs)))) ns
notes_mapped f same hs ns all =
    All-weaker (λ n. IsNoted n (option_map (λ g. g.entry) (find (λ g. g.entry.id == n.id) hs))) (λ n. IsNoted n (option_map (λ g. g.entry) (find (λ g. g.entry.id == n.id) (map f hs)))) (λ n noted. IsNoted-map f same n n.id hs noted) ns all

-- the note of the entry that is admitted
noted_itself : (hs : List History) (h : History) (n : Note) → AreIdsFrom 1 (hs ++ h ∷ []) → n.id ≡ h.entry.id → IsNoted n (Some h.entry) → IsNoted n (option_map (λ g. g.entry) (find (λ g. g.entry.id == n.id) (hs ++ h ∷ [])))
noted_itself hs h n ids same noted =
    let P : ℕ → Type 0 = λ i. IsNoted n (option_map (λ g. g.entry) (find (λ g. g.entry.id == i) (hs ++ h ∷ []))) in
    let Q : Option History → Type 0 = λ o. IsNoted n (option_map (λ g. g.entry) o) in
    let found : find (λ g. g.entry.id == h.entry.id) (hs ++ h ∷ []) ≡ Some h = All-last (λ y. find (λ g. g.entry.id == y.entry.id) (hs ++ h ∷ []) ≡ Some y) hs h (finds_itself 1 (hs ++ h ∷ []) ids) in
    subst P (sym same) (subst Q (sym found) noted)

notes_kept : (v : Vault) (h : History) → Sound v → AllByRecursion (λ n. IsNoted n (option_map (λ g. g.entry) (find (λ g. g.entry.id == n.id) (v.histories ++ h ∷ [])))) v.notes
notes_kept v h sound =
    All-weaker (NamesItsVersion v) (λ n. IsNoted n (option_map (λ g. g.entry) (find (λ g. g.entry.id == n.id) (v.histories ++ h ∷ [])))) (λ n noted. IsNoted-push n n.id v.histories h noted) v.notes sound.notes

notes_admitted : (v : Vault) (h : History) (o : Option Note) → Sound v → AreIdsFrom 1 (v.histories ++ h ∷ []) → IsFirstNote v h.entry o → AllByRecursion (λ n. IsNoted n (option_map (λ g. g.entry) (find (λ g. g.entry.id == n.id) (v.histories ++ h ∷ [])))) (placed_if_given note_cmp o v.notes)
notes_admitted v h None sound ids first = notes_kept v h sound
notes_admitted v h (Some n) sound ids first =
    All-placed (λ x. IsNoted x (option_map (λ g. g.entry) (find (λ g. g.entry.id == x.id) (v.histories ++ h ∷ [])))) note_cmp n v.notes (noted_itself v.histories h n ids first.2 first.3) (notes_kept v h sound)

HasRuleSet-rules : (name : List ℕ) (rules : Option (List Rule)) → IsTrue (passes_if_given is_rule_set rules) → (b : Bucket) → HasRuleSet b → HasRuleSet (with_rules name rules b)
HasRuleSet-rules name rules given b has =
    elim (bytes_eq b.name name) as (λ x. HasRuleSet (if x then record b { rules = rules } else b)) [ true ↦ given | false ↦ has ]

HasRuleSet-default : (name : List ℕ) (default : Option Default) (b : Bucket) → HasRuleSet b → HasRuleSet (with_default name default b)
HasRuleSet-default name default b has =
    elim (bytes_eq b.name name) as (λ x. HasRuleSet (if x then record b { config = record { dept = b.config.dept; default = default } } else b)) [ true ↦ has | false ↦ has ]

-- what holds of callers, buckets and notes by themselves
record AreRecorded (v : Vault) : Type 0 where
  ordered : IsInNameOrder v
  employed : AllByRecursion (IsEmployed v) v.callers
  owned : AllByRecursion (IsOwned v) v.buckets
  periods : AllByRecursion HasPeriod v.buckets
  lines : AllByRecursion HasLine v.notes

recorded-changed : (v : Vault) (t : ℕ) (c : Change) → Sound v → Allows v t c → AreRecorded (changed v t c)
recorded-changed v t c sound allowed = record {
  ordered = ordered-changed v t c sound.ordered allowed;
  employed = employed-changed v t c sound allowed;
  owned = owned-changed v t c sound allowed;
  periods = periods-changed v t c sound allowed;
  lines = lines-changed v t c sound allowed;
}

-- the vault after a change at t
later : (v : Vault) (t : ℕ) (w : Vault) → v.last ≤ t → w.last ≡ t → w.moves ≡ v.moves → ((dept : List ℕ) → IsTrue (has_department v dept) → IsTrue (has_department w dept)) → IsLater v w
later v t w le last moves known = record { last = omega (arith, le, last); moves = omega (arith, moves); known = known }

-- all that a department admitted and received stays within the quota
within_more : (v w : Vault) (dept : List ℕ) (more : ℕ) → sum_by size_of (items_of w dept) ≡ sum_by size_of (items_of v dept) + more → admitted_bytes v dept + received_bytes v dept + more ≤ quota → admitted_bytes w dept + received_bytes w dept ≤ quota
within_more v w dept more sizes fits = omega (arith, got (items_of w dept), got (items_of v dept), sizes, fits)

-- a vault whose buckets are set anew, each with its name and its department
buckets_set : (v : Vault) (t : ℕ) (f : Bucket → Bucket) → ((b : Bucket) → (f b).name ≡ b.name) → ((b : Bucket) → (f b).config.dept ≡ b.config.dept) → ((b : Bucket) → HasRuleSet b → HasRuleSet (f b)) → Sound v → v.last ≤ t → AreRecorded (record v { last = t; buckets = map f v.buckets }) → Sound (record v { last = t; buckets = map f v.buckets })
buckets_set v t f same_name same_dept same_rules sound le recorded = record {
  ids = sound.ids;
  enough_ids = sound.enough_ids;
  order = AreInOrder-later 0 v.last t v.histories le sound.order;
  in_time = IsInTime-later v.last t v.histories le sound.in_time;
  whole = sound.whole;
  placed = All-weaker (IsPlaced v) (IsPlaced (record v { last = t; buckets = map f v.buckets })) (λ h there. placed-mapped f same_name v.buckets h.entry.bucket there) v.histories sound.placed;
  within = sound.within;
  tenured = all_tenured-later v (record v { last = t; buckets = map f v.buckets }) (later v t (record v { last = t; buckets = map f v.buckets }) le refl refl (λ dept there. there)) (owner-mapped f same_name same_dept v.buckets) v.histories sound.tenured;
  enough_moves = sound.enough_moves;
  ordered = recorded.ordered;
  employed = recorded.employed;
  owned = recorded.owned;
  periods = recorded.periods;
  rule_sets = All-map HasRuleSet HasRuleSet HasRuleSet f (λ b has same. same_rules b has) v.buckets sound.rule_sets sound.rule_sets;
  lines = recorded.lines;
  notes = sound.notes;
}

-- ---- histories that are altered, each with its entry

AreIdsFrom-kept : (f : History → History) → KeepsEntries f → (n : ℕ) (hs : List History) → AreIdsFrom n hs → AreIdsFrom n (map f hs)
AreIdsFrom-kept f same n [] ids = tt
AreIdsFrom-kept f same n (h ∷ hs) ids = (ap (λ (e : Entry). e.id) (same h) ∙ ids.0, AreIdsFrom-kept f same (n + 1) hs ids.1)

AreInOrder-kept : (f : History → History) → KeepsEntries f → (from last : ℕ) (hs : List History) → AreInOrder from last hs → AreInOrder from last (map f hs)
AreInOrder-kept f same from last [] order = order
AreInOrder-kept f same from last (h ∷ hs) order =
    subst (λ (e : Entry). (from ≤ e.admitted) × AreInOrder e.admitted last (map f hs)) (sym (same h)) (order.0, AreInOrder-kept f same h.entry.admitted last hs order.1)

IsInTime-kept : (f : History → History) → KeepsEntries f → (t : ℕ) (hs : List History) → AllByRecursion (IsInTime t) hs → AllByRecursion (IsInTime t) (map f hs)
IsInTime-kept f same t hs all =
    All-map (IsInTime t) (IsInTime t) (IsInTime t) f (λ h in_time again. subst (λ (e : Entry). LiesBetween e.admitted t e.removal) (sym (same h)) in_time) hs all all

IsPlaced-kept : (v : Vault) (f : History → History) → KeepsEntries f → (hs : List History) → AllByRecursion (IsPlaced v) hs → AllByRecursion (IsPlaced v) (map f hs)
IsPlaced-kept v f same hs all =
    All-map (IsPlaced v) (IsPlaced v) (IsPlaced v) f (λ h there again. subst (λ (e : Entry). IsSome (config_of v e.bucket)) (sym (same h)) there) hs all all

-- ---- one tenure more

IsWhole-tenured : (external : Bool) (name : List ℕ) (x : Tenure) (h : History) → IsWhole external h → IsWhole external (tenured_if name x h)
IsWhole-tenured external name x h whole = elim (is_held_version_in name h.entry) as (λ b. IsWhole external (if b then tenured_by x h else h)) [ true ↦ whole | false ↦ whole ]

HasRuleSet-department : (name dept : List ℕ) (b : Bucket) → HasRuleSet b → HasRuleSet (with_department name dept b)
HasRuleSet-department name dept b has =
    elim (bytes_eq b.name name) as (λ x. HasRuleSet (if x then record b { config = record { dept = dept; default = b.config.default } } else b)) [ true ↦ has | false ↦ has ]

-- ---- one setting more

pub entry-setting : (id : ℕ) (s : Setting) (h : History) → (with_setting id s h).entry ≡ h.entry
entry-setting id s h = elim (eqb h.entry.id id) as (λ b. (if b then record h { settings = h.settings ++ s ∷ [] } else h).entry ≡ h.entry) [ true ↦ refl | false ↦ refl ]

pub setting_count : (ss : List Setting) → count_of_settings (last_setting ss) ≡ length ss
setting_count [] = refl
setting_count (s ∷ ss) = refl

whole_with_setting : (marker external : Bool) (e : Entry) (content : Option Content) (settings : List Setting) (s : Setting) → marker ≡ false → length settings < most_settings → IsWholeAs marker external e content settings → IsWholeAs marker external e content (settings ++ s ∷ [])
whole_with_setting true external e content settings s version fits whole = absurd (cc version)
whole_with_setting false external e content settings s version fits whole =
    (whole.0, whole.1, omega (arith, length-append settings (s ∷ [])), omega (arith, length-append settings (s ∷ [])))

-- the entry that was found by its id is the one that gets the setting
IsWhole-setting : (v : Vault) (t id : ℕ) (s : Setting) (h : History) → IsNextSetting v t id s → find (λ g. g.entry.id == h.entry.id) v.histories ≡ Some h → IsWhole v.external h → IsWhole v.external (with_setting id s h)
IsWhole-setting v t id s h allowed found whole = by_id (eqb h.entry.id id) refl
  where
    here : eqb h.entry.id id ≡ true → find (λ g. g.entry.id == id) v.histories ≡ Some h
    here e = let P : ℕ → Type 0 = λ i. find (λ g. g.entry.id == i) v.histories ≡ Some h in subst P (eqb-true h.entry.id id e) found

    added : eqb h.entry.id id ≡ true → IsWhole v.external (record h { settings = h.settings ++ s ∷ [] })
    added e =
        let same : Some h.entry ≡ Some allowed.entry = sym (ap (λ (o : Option History). option_map (λ g. g.entry) o) (here e)) ∙ allowed.there in
        let entry : h.entry ≡ allowed.entry = cc same in
        let version : h.entry.marker ≡ false = ap (λ (x : Entry). x.marker) entry ∙ allowed.version in
        let count : count_of_settings (setting_of v id) ≡ length h.settings = ap (λ (o : Option History). count_of_settings (option_and_then (λ g. last_setting g.settings) o)) (here e) ∙ setting_count h.settings in
        whole_with_setting h.entry.marker v.external h.entry h.content h.settings s version (omega (arith, allowed.fits, count)) whole

    by_id : (b : Bool) → eqb h.entry.id id ≡ b → IsWhole v.external (if b then record h { settings = h.settings ++ s ∷ [] } else h)
    by_id true e = added e
    by_id false e = whole

-- ---- the changes

pub Sound-changed : (v : Vault) (t : ℕ) (c : Change) → Sound v → v.last ≤ t → Allows v t c → Sound (changed v t c)
Sound-changed v t (AddDept name) sound le allowed =
    let recorded = recorded-changed v t (AddDept name) sound allowed in record {
      ids = sound.ids;
      enough_ids = sound.enough_ids;
      order = AreInOrder-later 0 v.last t v.histories le sound.order;
      in_time = IsInTime-later v.last t v.histories le sound.in_time;
      whole = sound.whole;
      placed = sound.placed;
      within = sound.within;
      tenured = all_tenured-later v (changed v t (AddDept name)) (later v t (changed v t (AddDept name)) le refl refl (λ dept. department-stays v t name dept)) (λ bucket. refl) v.histories sound.tenured;
      enough_moves = sound.enough_moves;
      ordered = recorded.ordered;
      employed = recorded.employed;
      owned = recorded.owned;
      periods = recorded.periods;
      rule_sets = sound.rule_sets;
      lines = recorded.lines;
      notes = sound.notes;
    }
Sound-changed v t (AddCaller c) sound le allowed =
    let recorded = recorded-changed v t (AddCaller c) sound allowed in record {
      ids = sound.ids;
      enough_ids = sound.enough_ids;
      order = AreInOrder-later 0 v.last t v.histories le sound.order;
      in_time = IsInTime-later v.last t v.histories le sound.in_time;
      whole = sound.whole;
      placed = sound.placed;
      within = sound.within;
      tenured = all_tenured-later v (changed v t (AddCaller c)) (later v t (changed v t (AddCaller c)) le refl refl (λ dept there. there)) (λ bucket. refl) v.histories sound.tenured;
      enough_moves = sound.enough_moves;
      ordered = recorded.ordered;
      employed = recorded.employed;
      owned = recorded.owned;
      periods = recorded.periods;
      rule_sets = sound.rule_sets;
      lines = recorded.lines;
      notes = sound.notes;
    }
Sound-changed v t (CloseCaller name) sound le allowed =
    let recorded = recorded-changed v t (CloseCaller name) sound allowed in record {
      ids = sound.ids;
      enough_ids = sound.enough_ids;
      order = AreInOrder-later 0 v.last t v.histories le sound.order;
      in_time = IsInTime-later v.last t v.histories le sound.in_time;
      whole = sound.whole;
      placed = sound.placed;
      within = sound.within;
      tenured = all_tenured-later v (changed v t (CloseCaller name)) (later v t (changed v t (CloseCaller name)) le refl refl (λ dept there. there)) (λ bucket. refl) v.histories sound.tenured;
      enough_moves = sound.enough_moves;
      ordered = recorded.ordered;
      employed = recorded.employed;
      owned = recorded.owned;
      periods = recorded.periods;
      rule_sets = sound.rule_sets;
      lines = recorded.lines;
      notes = sound.notes;
    }
Sound-changed v t (SetDefault name default) sound le allowed = buckets_set v t (with_default name default) (name-with_default name default) (dept-with_default name default) (HasRuleSet-default name default) sound le (recorded-changed v t (SetDefault name default) sound allowed)
Sound-changed v t (SetRules name rules) sound le allowed = buckets_set v t (with_rules name rules) (name-with_rules name rules) (dept-with_rules name rules) (HasRuleSet-rules name rules allowed.1) sound le (recorded-changed v t (SetRules name rules) sound allowed)
Sound-changed v t (AddSetting id s) sound le allowed =
    let recorded = recorded-changed v t (AddSetting id s) sound allowed in
    let tenured = all_tenured-later v (changed v t (AddSetting id s)) (later v t (changed v t (AddSetting id s)) le refl refl (λ dept there. there)) (λ bucket. refl) v.histories sound.tenured in record {
      ids = AreIdsFrom-kept (with_setting id s) (entry-setting id s) 1 v.histories sound.ids;
      enough_ids = rw (length-map v.histories (with_setting id s)) sound.enough_ids;
      order = AreInOrder-kept (with_setting id s) (entry-setting id s) 0 t v.histories (AreInOrder-later 0 v.last t v.histories le sound.order);
      in_time = IsInTime-kept (with_setting id s) (entry-setting id s) t v.histories (IsInTime-later v.last t v.histories le sound.in_time);
      whole = All-map (λ y. find (λ h. h.entry.id == y.entry.id) v.histories ≡ Some y) (IsWhole v.external) (IsWhole v.external) (with_setting id s) (λ h found whole. IsWhole-setting v t id s h allowed found whole) v.histories (finds_itself 1 v.histories sound.ids) sound.whole;
      placed = IsPlaced-kept v (with_setting id s) (entry-setting id s) v.histories sound.placed;
      within = λ dept. within_more v (changed v t (AddSetting id s)) dept 0 (omega (arith, sizes-setting dept id s v.histories)) (omega (arith, sound.within dept));
      tenured = All-map (HasTenures (changed v t (AddSetting id s))) (HasTenures (changed v t (AddSetting id s))) (HasTenures (changed v t (AddSetting id s))) (with_setting id s) (λ h has same. tenured-setting (changed v t (AddSetting id s)) id s h has) v.histories tenured tenured;
      enough_moves = sound.enough_moves;
      ordered = recorded.ordered;
      employed = recorded.employed;
      owned = recorded.owned;
      periods = recorded.periods;
      rule_sets = sound.rule_sets;
      lines = recorded.lines;
      notes = notes_mapped (with_setting id s) (keeps_notes-kept (with_setting id s) (entry-setting id s)) v.histories v.notes sound.notes;
    }
Sound-changed v t (AddBucket name dept) sound le allowed =
    let recorded = recorded-changed v t (AddBucket name dept) sound allowed in
    record {
      ids = sound.ids;
      enough_ids = sound.enough_ids;
      order = AreInOrder-later 0 v.last t v.histories le sound.order;
      in_time = IsInTime-later v.last t v.histories le sound.in_time;
      whole = sound.whole;
      placed = All-weaker (IsPlaced v) (IsPlaced (changed v t (AddBucket name dept))) (λ h there. rw (config_in-placed v.buckets name dept h.entry.bucket allowed.0 there) there) v.histories sound.placed;
      within = sound.within;
      tenured = All-both (IsPlaced v) (HasTenures v) (HasTenures (changed v t (AddBucket name dept))) (λ h there has. tenured-later v (changed v t (AddBucket name dept)) (later v t (changed v t (AddBucket name dept)) le refl refl (λ d there. there)) h (ap (λ (o : Option BucketConfig). option_map (λ c. c.dept) o) (config_in-placed v.buckets name dept h.entry.bucket allowed.0 there)) has) v.histories sound.placed sound.tenured;
      enough_moves = sound.enough_moves;
      ordered = recorded.ordered;
      employed = recorded.employed;
      owned = recorded.owned;
      periods = recorded.periods;
      rule_sets = All-placed HasRuleSet bucket_cmp (new_bucket name dept) v.buckets refl sound.rule_sets;
      lines = recorded.lines;
      notes = sound.notes;
    }
Sound-changed v t (MoveBucket name dept) sound le allowed =
    let w = changed v t (MoveBucket name dept) in
    let more = tenured_if name (next_tenure v t dept) in
    let same : KeepsEntries more = entry-tenured name (next_tenure v t dept) in
    let there = All-weaker (IsPlaced v) (IsPlaced w) (λ h there. placed-mapped (with_department name dept) (name-with_department name dept) v.buckets h.entry.bucket there) v.histories sound.placed in
    let recorded = recorded-changed v t (MoveBucket name dept) sound allowed in record {
      ids = AreIdsFrom-kept more same 1 v.histories sound.ids;
      enough_ids = rw (length-map v.histories more) sound.enough_ids;
      order = AreInOrder-kept more same 0 t v.histories (AreInOrder-later 0 v.last t v.histories le sound.order);
      in_time = IsInTime-kept more same t v.histories (IsInTime-later v.last t v.histories le sound.in_time);
      whole = All-map (IsWhole v.external) (IsWhole v.external) (IsWhole v.external) more (λ h whole again. IsWhole-tenured v.external name (next_tenure v t dept) h whole) v.histories sound.whole sound.whole;
      placed = IsPlaced-kept w more same v.histories there;
      within = within-moved v t name dept sound allowed;
      tenured = tenured-moved v t name dept sound le allowed;
      enough_moves = omega (arith, allowed.left);
      ordered = recorded.ordered;
      employed = recorded.employed;
      owned = recorded.owned;
      periods = recorded.periods;
      rule_sets = All-map HasRuleSet HasRuleSet HasRuleSet (with_department name dept) (λ b has again. HasRuleSet-department name dept b has) v.buckets sound.rule_sets sound.rule_sets;
      lines = recorded.lines;
      notes = notes_mapped more (keeps_notes-kept more same) v.histories v.notes sound.notes;
    }
Sound-changed v t (Admit a) sound le allowed =
    let recorded = recorded-changed v t (Admit a) sound allowed in record {
      ids = AreIdsFrom-push 1 v.histories a.history sound.ids allowed.id;
      enough_ids = one_more v.histories a.history allowed.enough_ids;
      order = AreInOrder-push 0 v.last t v.histories a.history le allowed.now sound.order;
      in_time = All-push (IsInTime t) v.histories a.history (IsInTime-later v.last t v.histories le sound.in_time) (rw allowed.held tt);
      whole = All-push (IsWhole v.external) v.histories a.history sound.whole allowed.whole;
      placed = All-push (IsPlaced v) v.histories a.history sound.placed (rw allowed.placed refl);
      within = λ dept. within_more v (changed v t (Admit a)) dept (brought dept a.history) (sizes-push dept v.histories a.history) (first_fits a.history.entry.marker t allowed.bucket.dept dept a.history quota (λ d. admitted_bytes v d + received_bytes v d) allowed.tenured allowed.fits (sound.within dept));
      tenured = All-push (HasTenures (changed v t (Admit a))) v.histories a.history (all_tenured-later v (changed v t (Admit a)) (later v t (changed v t (Admit a)) le refl refl (λ dept there. there)) (λ bucket. refl) v.histories sound.tenured) (tenured-admitted (changed v t (Admit a)) a.history allowed.bucket allowed.now allowed.held allowed.placed recorded.owned allowed.tenured);
      enough_moves = sound.enough_moves;
      ordered = recorded.ordered;
      employed = recorded.employed;
      owned = recorded.owned;
      periods = recorded.periods;
      rule_sets = sound.rule_sets;
      lines = recorded.lines;
      notes = notes_admitted v a.history a.note sound (AreIdsFrom-push 1 v.histories a.history sound.ids allowed.id) allowed.noted;
    }
Sound-changed v t (Remove id r) sound le allowed =
    let recorded = recorded-changed v t (Remove id r) sound allowed in record {
      ids = AreIdsFrom-removed id r 1 v.histories sound.ids;
      enough_ids = rw (length-map v.histories (removed_if id r)) sound.enough_ids;
      order = AreInOrder-removed id r 0 t v.histories (AreInOrder-later 0 v.last t v.histories le sound.order);
      in_time = All-map (λ h. h.entry.admitted ≤ v.last) (IsInTime v.last) (IsInTime t) (removed_if id r) (λ h early in_time. IsInTime-removed v.last t id r h le allowed.now early in_time) v.histories (admitted_by 0 v.last v.histories sound.order) sound.in_time;
      whole = All-map (IsWhole v.external) (IsWhole v.external) (IsWhole v.external) (removed_if id r) (λ h whole same. IsWhole-removed v.external id r h whole) v.histories sound.whole sound.whole;
      placed = All-map (IsPlaced v) (IsPlaced v) (IsPlaced v) (removed_if id r) (λ h placed same. IsPlaced-removed v id r h placed) v.histories sound.placed sound.placed;
      within = λ dept. within_more v (changed v t (Remove id r)) dept 0 (omega (arith, sizes-removed dept id r v.histories)) (omega (arith, sound.within dept));
      tenured = All-map (IsInTime v.last) (HasTenures v) (HasTenures (changed v t (Remove id r))) (removed_if id r) (λ h lies has. tenured-removed v (changed v t (Remove id r)) (later v t (changed v t (Remove id r)) le refl refl (λ dept there. there)) id r h allowed.now refl lies has) v.histories sound.in_time sound.tenured;
      enough_moves = sound.enough_moves;
      ordered = recorded.ordered;
      employed = recorded.employed;
      owned = recorded.owned;
      periods = recorded.periods;
      rule_sets = sound.rule_sets;
      lines = recorded.lines;
      notes = notes_mapped (removed_if id r) (keeps_notes-removed id r) v.histories v.notes sound.notes;
    }

-- the same, where the vault and the change are known by equations
pub Sound-changed-to : (v w : Vault) (t : ℕ) (change other : Change) → v ≡ w → change ≡ other → Sound v → w.last ≤ t → Allows w t change → Sound (changed v t other)
Sound-changed-to v w t change other e f sound le allowed =
    let P : Vault → Type 0 = λ u. u.last ≤ t in
    let Q : Vault → Type 0 = λ u. Allows u t change in
    let R : Change → Type 0 = λ c. Allows v t c in
    Sound-changed v t other sound (subst P (sym e) le) (subst R f (subst Q (sym e) allowed))
