-- Two vaults that the rows of one database spell are one vault.
use Rattle.std.proofs.Common.{◌≡◌, inl, inr, ℕ, ◌+◌, ◌≤◌, Bool, true, false, List, [], ◌∷◌, length, map, flat_map, Option, Some, None, IfSome, IsTrue, IsPermutation, Ordering, Less, Equal, nat_cmp, refl, sym, ap, subst, ◌∙◌, arith}
use Rattle.std.specs.List.{AllByRecursion}
use Rattle.std.specs.Ordering.{on}
use Rattle.std.proofs.lemmas.Cmp.{nat_list_cmp_total, nat_cmp_total, tied_itself}
use Rattle.sqlite_value.specs.declared.value.Value.TheVariants.{Text}
use Rattle.sqlite_value.specs.Order.{column}
use Rattle.sqlite.specs.Effect.{Database}
use Rattle.sqlite.specs.Schema.{Schema}
use Rattle.sqlite_rules.specs.Lists.{Has}
use Rattle.sqlite_rules.proofs.ListLemmas.{all_has}
use Rattle.sqlite_rules.proofs.ProbeLemmas.{has_mapped, mapped_has}
use Rattle.vault_base.specs.Content.{size, digest}
use Rattle.vault_base.specs.declared.content.Registered.{Registered}
use Rattle.vault_base.specs.declared.content.Content.{Content}
use Rattle.vault_base.specs.declared.content.Content.TheVariants.{Inside, External}
use Rattle.vault_rules.specs.Rules.{is_rule_set, passes_if_given}
use Rattle.vault_rules.specs.declared.rule.Rule.{Rule}
use Rattle.vault_core_model.specs.declared.records.Bucket.{Bucket}
use Rattle.vault_core_model.specs.declared.records.Entry.{Entry}
use Rattle.vault_core_model.specs.declared.records.History.{History}
use Rattle.vault_core_model.specs.declared.records.Removal.{Removal}
use Rattle.vault_core_model.specs.declared.records.Setting.{Setting}
use Rattle.vault_core_model.specs.declared.records.Tenure.{Tenure}
use Rattle.vault_core_model.specs.Order.{IsAscending, name_cmp, caller_cmp, bucket_cmp, note_cmp}
use Rattle.vault_core_model.specs.Sound.{AreIdsFrom, HasItsContent, HasPlace, IsWhole, IsWholeAs, HasRuleSet, FollowOn, end_of, AreTenures, HasTenuresAs, HasTenures}
use Rattle.vault_core_model.specs.Vault.{Vault}
use Rattle.vault_audit_model.specs.declared.rows.ContentRow.{ContentRow}
use Rattle.vault_audit_model.specs.declared.rows.MetaRow.{MetaRow}
use Rattle.vault_audit_model.specs.declared.rows.RuleRow.{RuleRow}
use Rattle.vault_audit_model.specs.declared.rows.SettingRow.{SettingRow}
use Rattle.vault_audit_model.specs.declared.rows.TenureRow.{TenureRow}
use Rattle.vault_audit_model.specs.declared.schema.SchemaVersion.{SchemaVersion}
use Rattle.vault_audit_model.specs.declared.schema.SchemaVersion.TheVariants.{First, Second, Third, Fourth}
use Rattle.vault_audit_model.specs.SchemaVersions.{is_external, edition_of}
use Rattle.vault_audit_model.specs.Rows.{meta_row, caller_row, bucket_row, rule_row, entry_row, content_row, setting_row, note_row, tenure_row, external_row, meta_columns_as, caller_columns, bucket_columns, rule_columns_as, entry_columns, content_columns, setting_columns, note_columns, tenure_columns, external_columns}
use Rattle.vault_audit_model.specs.Spells.{SpellsAs, Spells, meta_stated, bucket_of, rules_from, rules_if_given, rules_in, content_if_given, contents_in, external_if_given, external_in, settings_from, settings_in, tenure_at, tenures_in}
use Rattle.vault_audit_model.specs.Tables.{meta_tree, departments_tree, callers_tree, buckets_tree, rules_tree, entries_tree, contents_tree, settings_tree, intake_tree, tenures_tree, external_tree, schema_of, vault_schema}
use Rattle.vault_audit_model.specs.Tenures.{HasFirstTenures, IsUnmoved, first_tenures_in}
use Rattle.vault_audit_model.proofs.SameRows.{text_same, same_meta, same_caller, same_bucket, same_rule, same_entry, same_content, same_setting, same_note, same_tenure, same_external}
use Rattle.vault_core_laws.proofs.NameOrder.{callers_total, buckets_total, notes_total}
use Rattle.vault_audit_laws.proofs.Members.{IsWithin, less, has_part, matched, within_by_rows, tied_same, same_ascending, AreNumberedFrom, ascending_numbered, by_number_total, same_parts}

-- ---- parts at their places

rules_numbered : (bucket : List ℕ) (place : ℕ) (rules : List Rule) → AreNumberedFrom (λ (r : RuleRow). r.place) place (rules_from bucket place rules)
rules_numbered bucket place [] = tt
rules_numbered bucket place (r ∷ rs) = (refl, rules_numbered bucket (place + 1) rs)

rules_back : (bucket : List ℕ) (place : ℕ) (rules : List Rule) → map (λ (r : RuleRow). r.rule) (rules_from bucket place rules) ≡ rules
rules_back bucket place [] = refl
rules_back bucket place (r ∷ rs) = ap (λ xs. r ∷ xs) (rules_back bucket (place + 1) rs)

same_rules : (bucket : List ℕ) (place : ℕ) (rs ss : List Rule) → IsWithin (rules_from bucket place rs) (rules_from bucket place ss) → IsWithin (rules_from bucket place ss) (rules_from bucket place rs) → rs ≡ ss
same_rules bucket place rs ss there back =
    let by = λ (r : RuleRow). r.place in
    let same : rules_from bucket place rs ≡ rules_from bucket place ss =
    same_ascending (on by nat_cmp) (by_number_total by) (rules_from bucket place rs) (rules_from bucket place ss)
    (ascending_numbered by place (rules_from bucket place rs) (rules_numbered bucket place rs)) (ascending_numbered by place (rules_from bucket place ss) (rules_numbered bucket place ss)) there back in
    sym (rules_back bucket place rs) ∙ ap (map (λ (r : RuleRow). r.rule)) same ∙ rules_back bucket place ss

-- rules that may be given are not empty, so none are distinguished from some
no_rules_apart : (bucket : List ℕ) (rules : List Rule) → IsTrue (is_rule_set rules) → IsWithin (rules_from bucket 1 rules) [] → ⊥
no_rules_apart bucket [] is none = absurd (cc is)
no_rules_apart bucket (r ∷ rs) is none = none (record { bucket = bucket; place = 1; rule = r }) (inl refl)

same_rules_given : (bucket : List ℕ) (o p : Option (List Rule)) → IsTrue (passes_if_given is_rule_set o) → IsTrue (passes_if_given is_rule_set p) → IsWithin (rules_if_given bucket o) (rules_if_given bucket p) → IsWithin (rules_if_given bucket p) (rules_if_given bucket o) → o ≡ p
same_rules_given bucket None None first second there back = refl
same_rules_given bucket None (Some ss) first second there back = absurd (no_rules_apart bucket ss second back)
same_rules_given bucket (Some rs) None first second there back = absurd (no_rules_apart bucket rs first there)
same_rules_given bucket (Some rs) (Some ss) first second there back = ap Some (same_rules bucket 1 rs ss there back)

-- ---- contents: their bytes, or else their sizes and digests, which are those of the entry

abbrev IsContentOf : Entry → Option Content → Type 0
IsContentOf e content = IfSome content (λ c. (size c ≡ e.size) × (e.digest ≡ Some (digest c)))

content_of : (removal : Option Removal) (content : Option Content) (e : Entry) → HasItsContent removal content e → IsContentOf e content
content_of removal None e its = tt
content_of None (Some c) e its = its
content_of (Some r) (Some c) e its = elim its [ ]

whole_content : (marker external : Bool) (e : Entry) (content : Option Content) (settings : List Setting) → IsWholeAs marker external e content settings → IsContentOf e content
whole_content true external e content settings whole = subst (IsContentOf e) (sym whole.2) tt
whole_content false external e content settings whole = content_of e.removal content e whole.1

same_registered : (e : Entry) (r s : Registered) → IsContentOf e (Some (External r)) → IsContentOf e (Some (External s)) → r ≡ s
same_registered e r s first second =
    let sizes : r.size ≡ s.size = first.0 ∙ sym second.0 in
    let both : Some r.digest ≡ Some s.digest = sym first.1 ∙ second.1 in
    let digests : r.digest ≡ s.digest = cc both in
    rw (sizes, digests) refl

-- contents of one entry with the same rows in both tables
same_contents_given : (id : ℕ) (e : Entry) (o p : Option Content) → IsContentOf e o → IsContentOf e p → IsWithin (content_if_given id o) (content_if_given id p) → IsWithin (content_if_given id p) (content_if_given id o)
    → IsWithin (external_if_given id o) (external_if_given id p) → IsWithin (external_if_given id p) (external_if_given id o) → o ≡ p
same_contents_given id e None None first second there back out in_ = refl
same_contents_given id e None (Some (Inside b)) first second there back out in_ = elim (back (record { id = id; content = b }) (inl refl)) [ ]
same_contents_given id e None (Some (External s)) first second there back out in_ = elim (in_ id (inl refl)) [ ]
same_contents_given id e (Some (Inside a)) None first second there back out in_ = elim (there (record { id = id; content = a }) (inl refl)) [ ]
same_contents_given id e (Some (Inside a)) (Some (Inside b)) first second there back out in_ = elim (there (record { id = id; content = a }) (inl refl)) [
  | inl e ↦ ap (λ (bytes : List ℕ). Some (Inside bytes)) (ap (λ (c : ContentRow). c.content) e)
  | inr none ↦ absurd none
]
same_contents_given id e (Some (Inside a)) (Some (External s)) first second there back out in_ = elim (there (record { id = id; content = a }) (inl refl)) [ ]
same_contents_given id e (Some (External r)) None first second there back out in_ = elim (out id (inl refl)) [ ]
same_contents_given id e (Some (External r)) (Some (Inside b)) first second there back out in_ = elim (out id (inl refl)) [ ]
same_contents_given id e (Some (External r)) (Some (External s)) first second there back out in_ = ap (λ x. Some (External x)) (same_registered e r s first second)

external_of_id : (id : ℕ) (content : Option Content) (own : ℕ) → Has (external_if_given id content) own → own ≡ id
external_of_id id None own h = elim h [ ]
external_of_id id (Some (Inside bytes)) own h = elim h [ ]
external_of_id id (Some (External r)) own (inl e) = e
external_of_id id (Some (External r)) own (inr h) = elim h [ ]

-- where a vault registers no contents that are kept outside, no version has one
inside_as : (marker : Bool) (h : History) → IsWholeAs marker false h.entry h.content h.settings → HasPlace false h.content
inside_as true h whole = subst (λ (o : Option Content). HasPlace false o) (sym whole.2) tt
inside_as false h whole = whole.0.1

none_outside : (id : ℕ) (content : Option Content) → HasPlace false content → (own : ℕ) → ¬ Has (external_if_given id content) own
none_outside id None place own h = elim h [ ]
none_outside id (Some (Inside bytes)) place own h = elim h [ ]
none_outside id (Some (External r)) place own h = absurd (cc place)

settings_numbered : (id place : ℕ) (settings : List Setting) → AreNumberedFrom (λ (s : SettingRow). s.place) place (settings_from id place settings)
settings_numbered id place [] = tt
settings_numbered id place (s ∷ ss) = (refl, settings_numbered id (place + 1) ss)

settings_back : (id place : ℕ) (settings : List Setting) → map (λ (s : SettingRow). s.setting) (settings_from id place settings) ≡ settings
settings_back id place [] = refl
settings_back id place (s ∷ ss) = ap (λ xs. s ∷ xs) (settings_back id (place + 1) ss)

same_settings : (id place : ℕ) (rs ss : List Setting) → IsWithin (settings_from id place rs) (settings_from id place ss) → IsWithin (settings_from id place ss) (settings_from id place rs) → rs ≡ ss
same_settings id place rs ss there back =
    let by = λ (s : SettingRow). s.place in
    let same : settings_from id place rs ≡ settings_from id place ss =
    same_ascending (on by nat_cmp) (by_number_total by) (settings_from id place rs) (settings_from id place ss)
    (ascending_numbered by place (settings_from id place rs) (settings_numbered id place rs)) (ascending_numbered by place (settings_from id place ss) (settings_numbered id place ss)) there back in
    sym (settings_back id place rs) ∙ ap (map (λ (s : SettingRow). s.setting)) same ∙ settings_back id place ss

-- ---- tenures by their numbers

abbrev by_number : Tenure → Tenure → Ordering
by_number = on (λ (t : Tenure). t.number) nat_cmp

later_tenures : (low moves end : ℕ) (t : Tenure) (ts : List Tenure) → low ≤ t.number → FollowOn moves end t ts → AllByRecursion (λ u. nat_cmp low u.number ≡ Less) ts
later_tenures low moves end t [] high on = tt
later_tenures low moves end t (u ∷ us) high on =
    let above = on.0 in (less low u.number (omega (arith, high, above)), later_tenures low moves end u us (omega (arith, high, above)) on.4)

rising_tenures : (moves end : ℕ) (t : Tenure) (ts : List Tenure) → FollowOn moves end t ts → IsAscending by_number (t ∷ ts)
rising_tenures moves end t [] on = (tt, tt)
rising_tenures moves end t (u ∷ us) on = (later_tenures t.number moves end t (u ∷ us) (omega arith) on, rising_tenures moves end u us on.4)

rising_from : (v : Vault) (e : Entry) (ts : List Tenure) → AreTenures v e ts → IsAscending by_number ts
rising_from v e [] are = tt
rising_from v e (t ∷ ts) are = rising_tenures v.moves (end_of v.last e.removal) t ts are.2

rising_as : (marker : Bool) (v : Vault) (h : History) → HasTenuresAs marker v h → IsAscending by_number h.tenures
rising_as true v h has = subst (IsAscending by_number) (sym has) tt
rising_as false v h has = rising_from v h.entry h.tenures has.0

tenures_there : (id : ℕ) (ts us : List Tenure) → IsWithin (map (tenure_at id) ts) (map (tenure_at id) us) → IsWithin ts us
tenures_there id ts us within t there =
    let found = has_mapped (tenure_at id) us (tenure_at id t) (within (tenure_at id t) (mapped_has (tenure_at id) ts t there)) in
    subst (Has us) (sym (ap (λ (r : TenureRow). r.tenure) found.2)) found.1

-- ---- parts name what they are of

rules_of_name : (name : List ℕ) (place : ℕ) (rules : List Rule) (r : RuleRow) → Has (rules_from name place rules) r → r.bucket ≡ name
rules_of_name name place [] r h = elim h [ ]
rules_of_name name place (s ∷ ss) r (inl e) = ap (λ (x : RuleRow). x.bucket) e
rules_of_name name place (s ∷ ss) r (inr h) = rules_of_name name (place + 1) ss r h

rules_given_name : (name : List ℕ) (rules : Option (List Rule)) (r : RuleRow) → Has (rules_if_given name rules) r → r.bucket ≡ name
rules_given_name name None r h = elim h [ ]
rules_given_name name (Some rules) r h = rules_of_name name 1 rules r h

content_of_id : (id : ℕ) (content : Option Content) (c : ContentRow) → Has (content_if_given id content) c → c.id ≡ id
content_of_id id None c h = elim h [ ]
content_of_id id (Some (Inside bytes)) c (inl e) = ap (λ (x : ContentRow). x.id) e
content_of_id id (Some (Inside bytes)) c (inr h) = elim h [ ]
content_of_id id (Some (External r)) c h = elim h [ ]

settings_of_id : (id place : ℕ) (settings : List Setting) (s : SettingRow) → Has (settings_from id place settings) s → s.id ≡ id
settings_of_id id place [] s h = elim h [ ]
settings_of_id id place (t ∷ ts) s (inl e) = ap (λ (x : SettingRow). x.id) e
settings_of_id id place (t ∷ ts) s (inr h) = settings_of_id id (place + 1) ts s h

tenure_of_id : (id : ℕ) (ts : List Tenure) (t : TenureRow) → Has (map (tenure_at id) ts) t → t.id ≡ id
tenure_of_id id [] t h = elim h [ ]
tenure_of_id id (u ∷ us) t (inl e) = ap (λ (x : TenureRow). x.id) e
tenure_of_id id (u ∷ us) t (inr h) = tenure_of_id id us t h

-- ---- histories by their ids

abbrev id_of : History → ℕ
id_of h = h.entry.id

pub ids_numbered : (n : ℕ) (hs : List History) → AreIdsFrom n hs → AreNumberedFrom id_of n hs
ids_numbered n [] ids = tt
ids_numbered n (h ∷ hs) ids = (ids.0, ids_numbered (n + 1) hs ids.1)

-- ---- records of one name or id

one_bucket : (bs : List Bucket) → IsAscending bucket_cmp bs → (a b : Bucket) → Has bs a → Has bs b → a.name ≡ b.name → a ≡ b
one_bucket bs ascending a b in_a in_b same =
    tied_same bucket_cmp buckets_total bs ascending a b in_a in_b (subst (λ n. name_cmp a.name n ≡ Equal) same (tied_itself nat_list_cmp_total a.name))

one_history : (hs : List History) → IsAscending (on id_of nat_cmp) hs → (g h : History) → Has hs g → Has hs h → g.entry.id ≡ h.entry.id → g ≡ h
one_history hs ascending g h in_g in_h same =
    tied_same (on id_of nat_cmp) (by_number_total id_of) hs ascending g h in_g in_h (subst (λ n. nat_cmp g.entry.id n ≡ Equal) same (tied_itself nat_cmp_total g.entry.id))

-- ---- what the one vault has the other has

module _ (n : SchemaVersion) (db : Database) where
  ordered_ids : (v : Vault) → SpellsAs n db v → IsAscending (on id_of nat_cmp) v.histories
  ordered_ids v it = ascending_numbered id_of 1 v.histories (ids_numbered 1 v.histories it.kept.sound.ids)

  departments_within : (v w : Vault) → SpellsAs n db v → SpellsAs n db w → IsWithin v.departments w.departments
  departments_within v w it is = within_by_rows (λ d. Text d) text_same v.departments w.departments (map (λ r. column r 1) (db.trees departments_tree)) it.departments is.departments

  callers_within : (v w : Vault) → SpellsAs n db v → SpellsAs n db w → IsWithin v.callers w.callers
  callers_within v w it is = within_by_rows caller_row same_caller v.callers w.callers (map caller_columns (db.trees callers_tree)) it.callers is.callers

  notes_within : (v w : Vault) → SpellsAs n db v → SpellsAs n db w → IsWithin v.notes w.notes
  notes_within v w it is = within_by_rows note_row same_note v.notes w.notes (map note_columns (db.trees intake_tree)) it.intake is.intake

  rules_within : (v w : Vault) → SpellsAs n db v → SpellsAs n db w → IsWithin (flat_map rules_in v.buckets) (flat_map rules_in w.buckets)
  rules_within v w it is = within_by_rows rule_row same_rule (flat_map rules_in v.buckets) (flat_map rules_in w.buckets) (map (rule_columns_as n) (db.trees rules_tree)) it.rules is.rules

  contents_within : (v w : Vault) → SpellsAs n db v → SpellsAs n db w → IsWithin (flat_map contents_in v.histories) (flat_map contents_in w.histories)
  contents_within v w it is = within_by_rows content_row same_content (flat_map contents_in v.histories) (flat_map contents_in w.histories) (map content_columns (db.trees contents_tree)) it.contents is.contents

  -- each history is whole, as that schema version has it
  whole_there : (v : Vault) → SpellsAs n db v → (h : History) → Has v.histories h → IsWhole (is_external n) h
  whole_there v it h there =
      let P : Bool → Type 0 = λ external. AllByRecursion (IsWhole external) v.histories in
      all_has (IsWhole (is_external n)) v.histories h (subst P it.kept.external it.kept.sound.whole) there

  settings_within : (v w : Vault) → SpellsAs n db v → SpellsAs n db w → IsWithin (flat_map settings_in v.histories) (flat_map settings_in w.histories)
  settings_within v w it is = within_by_rows setting_row same_setting (flat_map settings_in v.histories) (flat_map settings_in w.histories) (map setting_columns (db.trees settings_tree)) it.settings is.settings

  bucket_rules : (v w : Vault) → SpellsAs n db v → SpellsAs n db w → (a b : Bucket) → Has v.buckets a → Has w.buckets b → a.name ≡ b.name → IsWithin (rules_in a) (rules_in b)
  bucket_rules v w it is =
      same_parts (λ (b : Bucket). b.name) (λ (r : RuleRow). r.bucket) rules_in (λ b r h. rules_given_name b.name b.rules r h) v.buckets w.buckets
      (one_bucket w.buckets is.kept.sound.ordered.buckets) (rules_within v w it is)

  history_content : (v w : Vault) → SpellsAs n db v → SpellsAs n db w → (g h : History) → Has v.histories g → Has w.histories h → g.entry.id ≡ h.entry.id → IsWithin (contents_in g) (contents_in h)
  history_content v w it is =
      same_parts id_of (λ (c : ContentRow). c.id) contents_in (λ h c there. content_of_id h.entry.id h.content c there) v.histories w.histories
      (one_history w.histories (ordered_ids w is)) (contents_within v w it is)

  history_external : (v w : Vault) → SpellsAs n db w → IsWithin (flat_map external_in v.histories) (flat_map external_in w.histories) → (g h : History) → Has v.histories g → Has w.histories h → g.entry.id ≡ h.entry.id → IsWithin (external_in g) (external_in h)
  history_external v w is =
      same_parts id_of (λ (own : ℕ). own) external_in (λ h own there. external_of_id h.entry.id h.content own there) v.histories w.histories (one_history w.histories (ordered_ids w is))

  history_settings : (v w : Vault) → SpellsAs n db v → SpellsAs n db w → (g h : History) → Has v.histories g → Has w.histories h → g.entry.id ≡ h.entry.id → IsWithin (settings_in g) (settings_in h)
  history_settings v w it is =
      same_parts id_of (λ (s : SettingRow). s.id) settings_in (λ h s there. settings_of_id h.entry.id 1 h.settings s there) v.histories w.histories
      (one_history w.histories (ordered_ids w is)) (settings_within v w it is)

  same_bucket_there : (v w : Vault) → SpellsAs n db v → SpellsAs n db w → (a b : Bucket) → Has v.buckets a → Has w.buckets b → bucket_of a ≡ bucket_of b → a ≡ b
  same_bucket_there v w it is a b in_v in_w same =
      let name : a.name ≡ b.name = ap (λ r. r.name) same in
      let there = subst (λ n. IsWithin (rules_in a) (rules_if_given n b.rules)) (sym name) (bucket_rules v w it is a b in_v in_w name) in
      let back = subst (λ n. IsWithin (rules_if_given n b.rules) (rules_in a)) (sym name) (bucket_rules w v is it b a in_w in_v (sym name)) in
      let rules : a.rules ≡ b.rules =
      same_rules_given a.name a.rules b.rules (all_has HasRuleSet v.buckets a it.kept.sound.rule_sets in_v) (all_has HasRuleSet w.buckets b is.kept.sound.rule_sets in_w) there back in
      let config : a.config ≡ b.config = ap (λ r. r.config) same in rw (name, config, rules) refl

  buckets_within : (v w : Vault) → SpellsAs n db v → SpellsAs n db w → IsWithin v.buckets w.buckets
  buckets_within v w it is a in_v =
      let found = matched (λ b. bucket_row (bucket_of b)) v.buckets w.buckets (map bucket_columns (db.trees buckets_tree)) it.buckets is.buckets a in_v in
      subst (λ b. Has w.buckets b) (sym (same_bucket_there v w it is a found.0 in_v found.1 (same_bucket (bucket_of a) (bucket_of found.0) found.2))) found.1

  same_buckets : (v w : Vault) → SpellsAs n db v → SpellsAs n db w → v.buckets ≡ w.buckets
  same_buckets v w it is =
      same_ascending bucket_cmp buckets_total v.buckets w.buckets it.kept.sound.ordered.buckets is.kept.sound.ordered.buckets (buckets_within v w it is) (buckets_within w v is it)

  -- without rows of their own, tenures follow from the entry and the buckets
  same_first_tenures : (v w : Vault) → SpellsAs n db v → SpellsAs n db w → IsUnmoved v → IsUnmoved w → (g h : History) → Has v.histories g → Has w.histories h → g.entry ≡ h.entry → g.tenures ≡ h.tenures
  same_first_tenures v w it is still calm g h in_v in_w same =
      all_has (HasFirstTenures v.buckets) v.histories g still.tenures in_v ∙ ap (λ (bs : List Bucket). first_tenures_in bs g.entry) (same_buckets v w it is)
      ∙ ap (first_tenures_in w.buckets) same ∙ sym (all_has (HasFirstTenures w.buckets) w.histories h calm.tenures in_w)

  -- else they are those of the rows, which rise
  same_stated_tenures : (v w : Vault) → SpellsAs n db v → SpellsAs n db w → IsWithin (flat_map tenures_in v.histories) (flat_map tenures_in w.histories) → IsWithin (flat_map tenures_in w.histories) (flat_map tenures_in v.histories)
      → (g h : History) → Has v.histories g → Has w.histories h → g.entry ≡ h.entry → g.tenures ≡ h.tenures
  same_stated_tenures v w it is within without g h in_v in_w same =
      let id : g.entry.id ≡ h.entry.id = ap (λ e. e.id) same in
      let own = λ (x : History) (t : TenureRow) (there : Has (tenures_in x) t). tenure_of_id x.entry.id x.tenures t there in
      let there = same_parts id_of (λ (t : TenureRow). t.id) tenures_in own v.histories w.histories (one_history w.histories (ordered_ids w is)) within g h in_v in_w id in
      let back = same_parts id_of (λ (t : TenureRow). t.id) tenures_in own w.histories v.histories (one_history v.histories (ordered_ids v it)) without h g in_w in_v (sym id) in
      same_ascending by_number (by_number_total (λ (t : Tenure). t.number)) g.tenures h.tenures
      (rising_as g.entry.marker v g (all_has (HasTenures v) v.histories g it.kept.sound.tenured in_v)) (rising_as h.entry.marker w h (all_has (HasTenures w) w.histories h is.kept.sound.tenured in_w))
      (tenures_there g.entry.id g.tenures h.tenures (subst (λ i. IsWithin (tenures_in g) (map (tenure_at i) h.tenures)) (sym id) there))
      (tenures_there g.entry.id h.tenures g.tenures (subst (λ i. IsWithin (map (tenure_at i) h.tenures) (tenures_in g)) (sym id) back))

-- a schema version that registers no contents that are kept outside has none
no_external : (n : SchemaVersion) → is_external n ≡ false → (db : Database) (v : Vault) → SpellsAs n db v → (xs : List ℕ) → IsWithin (flat_map external_in v.histories) xs
no_external n none db v it xs own there =
    let found = has_part external_in own v.histories there in
    let h : History = found.0 in
    let whole : IsWhole false h = subst (λ external. IsWhole external h) none (whole_there n db v it h found.1) in
    absurd (none_outside h.entry.id h.content (inside_as h.entry.marker h whole) own found.2)

external_within : (n : SchemaVersion) (db : Database) (v w : Vault) → SpellsAs n db v → SpellsAs n db w → IsWithin (flat_map external_in v.histories) (flat_map external_in w.histories)
external_within First db v w it is = no_external First refl db v it (flat_map external_in w.histories)
external_within Second db v w it is = no_external Second refl db v it (flat_map external_in w.histories)
external_within Third db v w it is = no_external Third refl db v it (flat_map external_in w.histories)
external_within Fourth db v w it is =
    within_by_rows external_row same_external (flat_map external_in v.histories) (flat_map external_in w.histories) (map external_columns (db.trees external_tree)) it.external is.external

tenures_within : (db : Database) (v w : Vault) → IsPermutation (map tenure_row (flat_map tenures_in v.histories)) (map tenure_columns (db.trees tenures_tree)) → IsPermutation (map tenure_row (flat_map tenures_in w.histories)) (map tenure_columns (db.trees tenures_tree))
    → IsWithin (flat_map tenures_in v.histories) (flat_map tenures_in w.histories)
tenures_within db v w = within_by_rows tenure_row same_tenure (flat_map tenures_in v.histories) (flat_map tenures_in w.histories) (map tenure_columns (db.trees tenures_tree))

same_tenures : (n : SchemaVersion) (db : Database) (v w : Vault) → SpellsAs n db v → SpellsAs n db w → (g h : History) → Has v.histories g → Has w.histories h → g.entry ≡ h.entry → g.tenures ≡ h.tenures
same_tenures First db v w it is = same_first_tenures First db v w it is it.kept.unmoved is.kept.unmoved
same_tenures Second db v w it is = same_first_tenures Second db v w it is it.kept.unmoved is.kept.unmoved
same_tenures Third db v w it is = same_stated_tenures Third db v w it is (tenures_within db v w it.tenures is.tenures) (tenures_within db w v is.tenures it.tenures)
same_tenures Fourth db v w it is = same_stated_tenures Fourth db v w it is (tenures_within db v w it.tenures is.tenures) (tenures_within db w v is.tenures it.tenures)

module _ (n : SchemaVersion) (db : Database) where
  content_there : (v : Vault) → SpellsAs n db v → (h : History) → Has v.histories h → IsContentOf h.entry h.content
  content_there v it h there = whole_content h.entry.marker (is_external n) h.entry h.content h.settings (whole_there n db v it h there)

  same_history_content : (v w : Vault) → SpellsAs n db v → SpellsAs n db w → (g h : History) → Has v.histories g → Has w.histories h → g.entry ≡ h.entry → g.content ≡ h.content
  same_history_content v w it is g h in_v in_w same =
      let id : g.entry.id ≡ h.entry.id = ap (λ e. e.id) same in
      let there = history_content n db v w it is g h in_v in_w id in
      let back = history_content n db w v is it h g in_w in_v (sym id) in
      let out = history_external n db v w is (external_within n db v w it is) g h in_v in_w id in
      let in_ = history_external n db w v it (external_within n db w v is it) h g in_w in_v (sym id) in
      same_contents_given g.entry.id g.entry g.content h.content (content_there v it g in_v) (subst (λ e. IsContentOf e h.content) (sym same) (content_there w is h in_w))
      (subst (λ i. IsWithin (contents_in g) (content_if_given i h.content)) (sym id) there) (subst (λ i. IsWithin (content_if_given i h.content) (contents_in g)) (sym id) back)
      (subst (λ i. IsWithin (external_in g) (external_if_given i h.content)) (sym id) out) (subst (λ i. IsWithin (external_if_given i h.content) (external_in g)) (sym id) in_)

  same_history_there : (v w : Vault) → SpellsAs n db v → SpellsAs n db w → (g h : History) → Has v.histories g → Has w.histories h → g.entry ≡ h.entry → g ≡ h
  same_history_there v w it is g h in_v in_w same =
      let id : g.entry.id ≡ h.entry.id = ap (λ e. e.id) same in
      let content : g.content ≡ h.content = same_history_content v w it is g h in_v in_w same in
      let settings : g.settings ≡ h.settings =
      same_settings g.entry.id 1 g.settings h.settings (subst (λ i. IsWithin (settings_in g) (settings_from i 1 h.settings)) (sym id) (history_settings n db v w it is g h in_v in_w id))
      (subst (λ i. IsWithin (settings_from i 1 h.settings) (settings_in g)) (sym id) (history_settings n db w v is it h g in_w in_v (sym id))) in
      rw (same, content, settings, same_tenures n db v w it is g h in_v in_w same) refl

  histories_within : (v w : Vault) → SpellsAs n db v → SpellsAs n db w → IsWithin v.histories w.histories
  histories_within v w it is g in_v =
      let found = matched (λ h. entry_row h.entry) v.histories w.histories (map entry_columns (db.trees entries_tree)) it.entries is.entries g in_v in
      subst (λ h. Has w.histories h) (sym (same_history_there v w it is g found.0 in_v found.1 (same_entry g.entry found.0.entry found.2))) found.1

  same_stated : (v w : Vault) → SpellsAs n db v → SpellsAs n db w → meta_stated n v ≡ meta_stated n w
  same_stated v w it is =
      elim (within_by_rows meta_row same_meta (meta_stated n v ∷ []) (meta_stated n w ∷ []) (map (meta_columns_as n) (db.trees meta_tree)) it.meta is.meta (meta_stated n v) (inl refl)) [
        | inl e ↦ e
        | inr none ↦ absurd none
      ]

-- ---- the vault

pub same_vault_as : (n : SchemaVersion) (db : Database) (v w : Vault) → SpellsAs n db v → SpellsAs n db w → v ≡ w
same_vault_as n db v w it is =
    let first = it.kept.sound.ordered in
    let second = is.kept.sound.ordered in
    let stated = same_stated n db v w it is in
    let last : v.last ≡ w.last = ap (λ (m : MetaRow). m.last) stated in
    let moves : v.moves ≡ w.moves = ap (λ (m : MetaRow). m.moves) stated in
    let departments = same_ascending name_cmp nat_list_cmp_total v.departments w.departments first.departments second.departments (departments_within n db v w it is) (departments_within n db w v is it) in
    let callers = same_ascending caller_cmp callers_total v.callers w.callers first.callers second.callers (callers_within n db v w it is) (callers_within n db w v is it) in
    let notes = same_ascending note_cmp notes_total v.notes w.notes first.notes second.notes (notes_within n db v w it is) (notes_within n db w v is it) in
    let histories =
    same_ascending (on id_of nat_cmp) (by_number_total id_of) v.histories w.histories (ordered_ids n db v it) (ordered_ids n db w is) (histories_within n db v w it is) (histories_within n db w v is it) in
    rw (it.kept.external ∙ sym is.kept.external, last, departments, callers, same_buckets n db v w it is, notes, histories, moves) refl

-- a file has one edition
two_editions : (n m : SchemaVersion) (db : Database) → db.schema ≡ schema_of n → db.schema ≡ schema_of m → length (schema_of n).tables ≡ length (schema_of m).tables
two_editions n m db has is = ap (λ (s : Schema). length s.tables) (sym has ∙ is)

pub one_edition : (external also : Bool) (db : Database) → db.schema ≡ vault_schema external → db.schema ≡ vault_schema also → external ≡ also
one_edition false false db has is = refl
one_edition true true db has is = refl
one_edition false true db has is = absurd (let n : 11 ≡ 12 = two_editions Third Fourth db has is in omega (arith, n))
one_edition true false db has is = absurd (let n : 12 ≡ 11 = two_editions Fourth Third db has is in omega (arith, n))

pub same_vault : (db : Database) (v w : Vault) → Spells db v → Spells db w → v ≡ w
same_vault db v w it is =
    let same : w.external ≡ v.external = sym (one_edition v.external w.external db it.schema is.schema) in
    same_vault_as (edition_of v.external) db v w it (subst (λ external. SpellsAs (edition_of external) db w) same is)
