-- The heads of a vault: one for each key, each naming a held entry.
use Rattle.std.specs.Cmp.Lexicographic.{on_texts}
use Rattle.std.specs.Str.{bytes_eq}
use Rattle.std.proofs.Common.{◌≡◌, ◌<◌, ◌≤◌, ℕ, ◌+◌, ◌==◌, List, [], ◌∷◌, length, map, filter, find, cond, Bool, true, false, Some, None, Equal, is_eq, refl, sym, ap, subst, ◌∙◌, arith}
use Rattle.std.specs.Prelude.{is_none, if◌then◌else◌, nat_lt}
use Rattle.std.specs.List.{AllByRecursion}
use Rattle.std.specs.Cmp.{IsTotalOrder}
use Rattle.std.proofs.lemmas.Cmp.{then_total}
use Rattle.std.proofs.lemmas.List.Sorted.{IsPermutation-map, IsPermutation-trans}
use Rattle.std.proofs.lemmas.Map.Text.{is_eq-slice_cmp}
use Rattle.std.proofs.lemmas.Slice.Eq.{bytes_eq-Decides}
use Rattle.std.proofs.lemmas.Bool.{and_from, and_parts}
use Rattle.sqlite.specs.Effect.{Database}
use Rattle.vault_core_model.specs.declared.records.History.{History}
use Rattle.vault_core_model.specs.Order.{name_cmp}
use Rattle.vault_core_model.specs.Places.{held_at, is_held_at, is_current}
use Rattle.vault_core_model.specs.Sound.{AreIdsFrom}
use Rattle.vault_core_model.specs.Vault.{Vault}
use Rattle.vault_core_laws.proofs.Lists.{All-weaker}
use Rattle.vault_core_laws.proofs.NameOrder.{then_first, then_second}
use Rattle.vault_core_laws.proofs.Tests.{none_is}
use Rattle.vault_audit_model.specs.declared.rows.HeadRow.{HeadRow}
use Rattle.vault_audit_model.specs.Limits.{IsHeadRow, IsHistory}
use Rattle.vault_audit_model.specs.Rows.{head_row}
use Rattle.vault_audit_model.specs.Spells.{AreSoundAs, head_in, heads_in, entries_in}
use Rattle.vault_audit_model.proofs.ListLemmas.{all_both}
use Rattle.vault_audit_entries.proofs.ContentMergeLemmas.{itself, same_if}
use Rattle.vault_audit_entries.proofs.ContentSoundLemmas.{sound_entries}
use Rattle.vault_audit_entries.specs.Heads.{head_cmp, IsHeldFor, NamesHeld, AreHeadsByKey, DecidesHeadRows}
use Rattle.vault_audit_entries.proofs.SortLemmas.{in_order, same_in_order, all_in_order, AreApart, ascending_in_order}
use Rattle.vault_audit_model.specs.declared.schema.SchemaVersion.{SchemaVersion}
use Rattle.vault_audit_model.specs.SchemaVersions.{is_external}

-- ---- lists

-- what a test leaves is nothing, so nothing passes it
none_left : {X : Type 0} (p : X → Bool) (xs : List X) → length (filter p xs) ≡ 0 → AllByRecursion (λ x. p x ≡ true → ⊥) xs
none_left p [] none = tt
none_left p (x ∷ xs) none =
    elim (p x) as (λ b. length (if b then x ∷ filter p xs else filter p xs) ≡ 0 → (b ≡ true → ⊥) × AllByRecursion (λ y. p y ≡ true → ⊥) xs) [
      | true ↦ λ n. absurd (omega (arith, n))
      | false ↦ λ n. ((λ e. absurd (cc e)), none_left p xs n)
    ] none

-- what holds of each that a test leaves
under_filter : {X : Type 0} (p : X → Bool) (P : X → Type 0) (xs : List X) → AllByRecursion P (filter p xs) → AllByRecursion (λ x. p x ≡ true → P x) xs
under_filter p P [] all = tt
under_filter p P (x ∷ xs) all =
    elim (p x) as (λ b. AllByRecursion P (if b then x ∷ filter p xs else filter p xs) → (b ≡ true → P x) × AllByRecursion (λ y. p y ≡ true → P y) xs) [
      | true ↦ λ a. ((λ e. a.0), under_filter p P xs a.1)
      | false ↦ λ a. ((λ e. absurd (cc e)), under_filter p P xs a)
    ] all

mapped_filter : {X Y : Type 0} (p : X → Bool) (f : X → Y) (P : Y → Type 0) (xs : List X) → AllByRecursion (λ x. p x ≡ true → P (f x)) xs → AllByRecursion P (map f (filter p xs))
mapped_filter p f P [] all = tt
mapped_filter p f P (x ∷ xs) all =
    elim (p x) as (λ b. (b ≡ true → P (f x)) → AllByRecursion P (map f (if b then x ∷ filter p xs else filter p xs))) [
      | true ↦ λ h. (h refl, mapped_filter p f P xs all.1)
      | false ↦ λ h. mapped_filter p f P xs all.1
    ] all.0

-- ---- ids

ids_above : (least next : ℕ) (hs : List History) → least ≤ next → AreIdsFrom next hs → AllByRecursion (λ h. least ≤ h.entry.id) hs
ids_above least next [] low ids = tt
ids_above least next (h ∷ hs) low ids = (let id = ids.0 in omega (arith, low, id), ids_above least (next + 1) hs (omega (arith, low)) ids.1)

others : (a b : ℕ) → a < b → (a == b) ≡ false
others a b less = grind arith

below : (a b : ℕ) → a < b → nat_lt a b ≡ true
below a b less = grind arith

pub each_found : (next : ℕ) (hs : List History) → AreIdsFrom next hs → AllByRecursion (λ h. find (λ e. e.id == h.entry.id) (entries_in hs) ≡ Some h.entry) hs
each_found next [] ids = tt
each_found next (h ∷ hs) ids =
    let rest = λ (y : History). find (λ e. e.id == y.entry.id) (entries_in hs) in
    let id = ids.0 in (
      ap (λ b. cond b (Some h.entry) (rest h)) (itself h.entry.id),
      All-weaker (λ y. (next + 1 ≤ y.entry.id) × (rest y ≡ Some y.entry)) (λ y. find (λ e. e.id == y.entry.id) (entries_in (h ∷ hs)) ≡ Some y.entry)
          (λ y its. let low = its.0 in ap (λ b. cond b (Some h.entry) (rest y)) (others h.entry.id y.entry.id (omega (arith, id, low))) ∙ its.1) hs
          (all_both _ _ hs (ids_above (next + 1) (next + 1) hs (omega arith) ids.1) (each_found (next + 1) hs ids.1)),
    )

-- ---- the entry that is current

same_text : (a b : List ℕ) → name_cmp a b ≡ Equal → bytes_eq b a ≡ true
same_text a b tie =
    let one : bytes_eq a b ≡ true = sym (is_eq-slice_cmp a b) ∙ ap is_eq tie in
    (bytes_eq-Decides b a).1 (sym ((bytes_eq-Decides a b).0 one))

pub head_cmp_total : IsTotalOrder head_cmp
head_cmp_total = then_total (on_texts (λ (h : HeadRow). h.bucket)) (on_texts (λ (h : HeadRow). h.key))

module _ (v : Vault) where
  -- of its key, no entry after it is held
  none_newer : (h : History) → is_current v h ≡ true → AllByRecursion (λ g. is_held_at h.entry.bucket h.entry.key g.entry ≡ true → nat_lt h.entry.id g.entry.id ≡ true → ⊥) v.histories
  none_newer h current =
      under_filter (λ (g : History). is_held_at h.entry.bucket h.entry.key g.entry) (λ g. nat_lt h.entry.id g.entry.id ≡ true → ⊥) v.histories
      (none_left (λ (g : History). nat_lt h.entry.id g.entry.id) (held_at v h.entry.bucket h.entry.key) (same_if _ 0 ((and_parts (is_none h.entry.removal) _ current).1)))

  abbrev IsInFront : List History → Type 1
  IsInFront hs = (P : History → Type 0) → AllByRecursion P v.histories → AllByRecursion P hs

  apart : (h : History) (hs : List History) → is_current v h ≡ true → IsInFront hs → AllByRecursion (λ g. h.entry.id + 1 ≤ g.entry.id) hs → AllByRecursion (λ g. head_cmp (head_in v h) g ≡ Equal → ⊥) (map (head_in v) (filter (is_current v) hs))
  apart h hs current part above =
      mapped_filter (is_current v) (head_in v) (λ g. head_cmp (head_in v h) g ≡ Equal → ⊥) hs
      (All-weaker (λ g. (h.entry.id + 1 ≤ g.entry.id) × (is_held_at h.entry.bucket h.entry.key g.entry ≡ true → nat_lt h.entry.id g.entry.id ≡ true → ⊥)) (λ g. is_current v g ≡ true → head_cmp (head_in v h) (head_in v g) ≡ Equal → ⊥)
      (λ g its now tie.
      let low = its.0 in
      let bucket = same_text h.entry.bucket g.entry.bucket (then_first _ _ tie) in
      let key = same_text h.entry.key g.entry.key (then_second (name_cmp h.entry.bucket g.entry.bucket) _ tie) in
      its.1 (and_from _ _ bucket (and_from _ _ key (and_parts (is_none g.entry.removal) _ now).0)) (below h.entry.id g.entry.id (omega (arith, low)))) hs
      (all_both _ _ hs above (part _ (none_newer h current))))

  all_apart : (next : ℕ) (hs : List History) → AreIdsFrom next hs → IsInFront hs → AreApart head_cmp (map (head_in v) (filter (is_current v) hs))
  all_apart next [] ids part = tt
  all_apart next (h ∷ hs) ids part =
      let more = all_apart (next + 1) hs ids.1 (λ P all. (part P all).1) in
      let id = ids.0 in
      elim (is_current v h) as (λ b. is_current v h ≡ b → AreApart head_cmp (map (head_in v) (if b then h ∷ filter (is_current v) hs else filter (is_current v) hs))) [
        | true ↦ λ current. (apart h hs current (λ P all. (part P all).1) (ids_above (h.entry.id + 1) (next + 1) hs (omega (arith, id)) ids.1), more)
        | false ↦ λ other. more
      ] refl

  -- its heads are of keys of their own
  pub heads_apart : AreIdsFrom 1 v.histories → AreApart head_cmp (heads_in v)
  heads_apart ids = all_apart 1 v.histories ids (λ P all. all)

  -- and in their limits
  pub heads_limited : AllByRecursion (IsHistory v.external) v.histories → AllByRecursion IsHeadRow (heads_in v)
  heads_limited all =
      mapped_filter (is_current v) (head_in v) IsHeadRow v.histories
      (All-weaker (IsHistory v.external) (λ h. is_current v h ≡ true → IsHeadRow (head_in v h)) (λ h its current. record { bucket = its.entry.bucket; key = its.entry.key; newest = its.entry.id }) v.histories all)

  -- each names a held entry of its key
  pub heads_name : AreIdsFrom 1 v.histories → AllByRecursion (NamesHeld (entries_in v.histories)) (heads_in v)
  heads_name ids =
      mapped_filter (is_current v) (head_in v) (NamesHeld (entries_in v.histories)) v.histories
      (All-weaker (λ h. find (λ e. e.id == h.entry.id) (entries_in v.histories) ≡ Some h.entry) (λ h. is_current v h ≡ true → NamesHeld (entries_in v.histories) (head_in v h))
      (λ h found current. subst (IsHeldFor (head_in v h)) (sym found) (refl, refl, none_is h.entry.removal (and_parts (is_none h.entry.removal) _ current).0)) v.histories (each_found 1 v.histories ids))

-- ---- a sound vault

sound_heads : (n : SchemaVersion) → (db : Database) (v : Vault) → AreSoundAs n db v → AreHeadsByKey db (entries_in v.histories) (in_order head_cmp (heads_in v))
sound_heads n db v it =
    let ids = it.spells.kept.sound.ids in
    let hs = heads_in v in (
      IsPermutation-trans _ _ _ (IsPermutation-map head_row _ _ (same_in_order head_cmp hs)) it.heads,
      ascending_in_order head_cmp head_cmp_total hs (heads_apart v ids),
      all_in_order head_cmp IsHeadRow hs (heads_limited v it.spells.kept.limits.histories),
      all_in_order head_cmp (NamesHeld (entries_in v.histories)) hs (heads_name v ids),
    )

pub unsound : (n : SchemaVersion) → (db : Database) → DecidesHeadRows (is_external n) db None → (v : Vault) → ¬ AreSoundAs n db v
unsound n db stated v it = stated (entries_in v.histories) (sound_entries n db v it) (in_order head_cmp (heads_in v)) ((sound_heads n) db v it)
