-- The tenures of a version stay in order: later, with more moves, and after its removal.
use Rattle.std.proofs.Common.{◌≡◌, ℕ, ◌≤◌, List, [], ◌∷◌, Bool, true, false, Option, Some, None, IsTrue, refl, sym, ◌∙◌, ap, subst, arith, eqb}
use Rattle.std.specs.Prelude.{if◌then◌else◌, option_map}
use Rattle.std.specs.List.{AllByRecursion}
use Rattle.std.specs.Str.{bytes_eq}
use Rattle.std.specs.Prelude.{◌++◌}
use Rattle.vault_core_model.specs.declared.records.Bucket.{Bucket}
use Rattle.vault_core_model.specs.declared.records.BucketConfig.{BucketConfig}
use Rattle.vault_core_model.specs.declared.records.Entry.{Entry}
use Rattle.vault_core_model.specs.declared.records.History.{History}
use Rattle.vault_core_model.specs.declared.records.Removal.{Removal}
use Rattle.vault_core_model.specs.declared.records.Setting.{Setting}
use Rattle.vault_core_model.specs.declared.records.Tenure.{Tenure}
use Rattle.vault_core_model.specs.Allowed.{HasFirstTenure}
use Rattle.vault_core_model.specs.Change.{removed_by, removed_if, with_setting}
use Rattle.vault_core_model.specs.Vault.{Vault, bucket_in, config_in, config_of, has_department}
use Rattle.vault_core_model.specs.Sound.{AreTenures, FollowOn, HasTenures, HasTenuresAs, IsInTime, IsOwned, IsWithBucket, LiesBetween, end_of, last_tenure}
use Rattle.vault_core_laws.proofs.Lists.{All-weaker}

-- ---- in order

-- later, and with more moves
pub follow_later : (moves more end late : ℕ) (t : Tenure) (ts : List Tenure) → moves ≤ more → end ≤ late → FollowOn moves end t ts → FollowOn more late t ts
follow_later moves more end late t [] many le on = omega (arith, on)
follow_later moves more end late t (u ∷ us) many le on = (on.0, omega (arith, on.1), on.2, on.3, follow_later moves more end late u us many le on.4)

-- none begins after the end
pub reaches : (moves end : ℕ) (t : Tenure) (ts : List Tenure) → FollowOn moves end t ts → t.from ≤ end
reaches moves end t [] on = on
reaches moves end t (u ∷ us) on = omega (arith, on.2, reaches moves end u us on.4)

pub end-later : (last t : ℕ) (r : Option Removal) → last ≤ t → end_of last r ≤ end_of t r
end-later last t None le = le
end-later last t (Some r) le = omega arith

-- a version ends by the last moment
pub end-by : (admitted last : ℕ) (r : Option Removal) → LiesBetween admitted last r → end_of last r ≤ last
end-by admitted last None lies = omega arith
end-by admitted last (Some r) lies = lies.1

-- ---- in a later vault

-- the moments, the moves and the departments of a vault are in the other too
pub record IsLater (v w : Vault) : Type 0 where
  pub last : v.last ≤ w.last
  pub moves : v.moves ≤ w.moves
  pub known : (dept : List ℕ) → IsTrue (has_department v dept) → IsTrue (has_department w dept)

-- the department of the bucket of that name
abbrev pub owner_of : Vault → List ℕ → Option (List ℕ)
owner_of v name = option_map (λ c. c.dept) (config_of v name)

pub tenures-later : (v w : Vault) → IsLater v w → (e : Entry) (ts : List Tenure) → AreTenures v e ts → AreTenures w e ts
tenures-later v w later e [] are = are
tenures-later v w later e (t ∷ ts) are =
    (are.0, are.1, follow_later v.moves w.moves (end_of v.last e.removal) (end_of w.last e.removal) t ts later.moves (end-later v.last w.last e.removal later.last) are.2)

pub known-later : (v w : Vault) → IsLater v w → (ts : List Tenure) → AllByRecursion (λ t. IsTrue (has_department v t.dept)) ts → AllByRecursion (λ t. IsTrue (has_department w t.dept)) ts
known-later v w later ts all = All-weaker (λ t. IsTrue (has_department v t.dept)) (λ t. IsTrue (has_department w t.dept)) (λ t there. later.known t.dept there) ts all

with_bucket-later : (v w : Vault) (r : Option Removal) (h : History) → owner_of w h.entry.bucket ≡ owner_of v h.entry.bucket → IsWithBucket v r h → IsWithBucket w r h
with_bucket-later v w None h same with = with ∙ sym same
with_bucket-later v w (Some r) h same with = tt

tenured-by : (v w : Vault) → IsLater v w → (marker : Bool) (h : History) → owner_of w h.entry.bucket ≡ owner_of v h.entry.bucket → HasTenuresAs marker v h → HasTenuresAs marker w h
tenured-by v w later true h same has = has
tenured-by v w later false h same has =
    (tenures-later v w later h.entry h.tenures has.0, known-later v w later h.tenures has.1, with_bucket-later v w h.entry.removal h same has.2)

-- a history whose bucket has the same department there
pub tenured-later : (v w : Vault) → IsLater v w → (h : History) → owner_of w h.entry.bucket ≡ owner_of v h.entry.bucket → HasTenures v h → HasTenures w h
tenured-later v w later h = tenured-by v w later h.entry.marker h

-- the same, where each bucket has
pub all_tenured-later : (v w : Vault) → IsLater v w → ((name : List ℕ) → owner_of w name ≡ owner_of v name) → (hs : List History) → AllByRecursion (HasTenures v) hs → AllByRecursion (HasTenures w) hs
all_tenured-later v w later same hs all = All-weaker (HasTenures v) (HasTenures w) (λ h has. tenured-later v w later h (same h.entry.bucket) has) hs all

-- ---- one setting more

setting_by : (v : Vault) (marker : Bool) (r : Option Removal) (s : Setting) (h : History) → h.entry.removal ≡ r → HasTenuresAs marker v h → HasTenuresAs marker v (record h { settings = h.settings ++ s ∷ [] })
setting_by v true r s h is has = has
setting_by v false r s h is has = (has.0, has.1, subst (λ o. IsWithBucket v o (record h { settings = h.settings ++ s ∷ [] })) (sym is) (by_removal r (subst (λ o. IsWithBucket v o h) is has.2)))
  where
    by_removal : (o : Option Removal) → IsWithBucket v o h → IsWithBucket v o (record h { settings = h.settings ++ s ∷ [] })
    by_removal None with = with
    by_removal (Some x) with = tt

pub tenured-setting : (v : Vault) (id : ℕ) (s : Setting) (h : History) → HasTenures v h → HasTenures v (with_setting id s h)
tenured-setting v id s h has =
    elim (eqb h.entry.id id) as (λ b. HasTenures v (if b then record h { settings = h.settings ++ s ∷ [] } else h)) [ true ↦ setting_by v h.entry.marker h.entry.removal s h refl has | false ↦ has ]

-- ---- a removal

ended : (v w : Vault) → IsLater v w → (r : Removal) (e : Entry) (ts : List Tenure) → r.at ≡ w.last → LiesBetween e.admitted v.last e.removal → AreTenures v e ts → AreTenures w (record e { removal = Some r }) ts
ended v w later r e [] now lies are = are
ended v w later r e (t ∷ ts) now lies are =
    let le : end_of v.last e.removal ≤ r.at = omega (arith, end-by e.admitted v.last e.removal lies, later.last, now) in
    (are.0, are.1, follow_later v.moves w.moves (end_of v.last e.removal) r.at t ts later.moves le are.2)

removed-by : (v w : Vault) → IsLater v w → (r : Removal) (marker : Bool) (h : History) → r.at ≡ w.last → IsInTime v.last h → HasTenuresAs marker v h → HasTenuresAs marker w (removed_by r h)
removed-by v w later r true h now lies has = has
removed-by v w later r false h now lies has = (ended v w later r h.entry h.tenures now lies has.0, known-later v w later h.tenures has.1, tt)

-- the last tenure ends by the removal
pub tenured-removed : (v w : Vault) → IsLater v w → (id : ℕ) (r : Removal) (h : History) → r.at ≡ w.last → owner_of w h.entry.bucket ≡ owner_of v h.entry.bucket → IsInTime v.last h → HasTenures v h → HasTenures w (removed_if id r h)
tenured-removed v w later id r h now same lies has =
    elim (eqb h.entry.id id) as (λ b. HasTenures w (if b then removed_by r h else h))
    [ true ↦ removed-by v w later r h.entry.marker h now lies has | false ↦ tenured-later v w later h same has ]

-- ---- an admission

owner_there : (v : Vault) (name : List ℕ) (bs : List Bucket) (c : BucketConfig) → AllByRecursion (IsOwned v) bs → config_in bs name ≡ Some c → IsTrue (has_department v c.dept)
owner_there v name [] c owned found = absurd (cc found)
owner_there v name (b ∷ bs) c owned found = by_name (bytes_eq b.name name) (owner_there v name bs c owned.1) found
  where
    by_name : (x : Bool) → (config_in bs name ≡ Some c → IsTrue (has_department v c.dept)) → option_map (λ (d : Bucket). d.config) (if x then Some b else bucket_in bs name) ≡ Some c → IsTrue (has_department v c.dept)
    by_name true rest is = let own : b.config ≡ c = cc is in let P : BucketConfig → Type 0 = λ d. IsTrue (has_department v d.dept) in subst P own owned.0
    by_name false rest is = rest is

first_tenured : (w : Vault) (marker : Bool) (h : History) (c : BucketConfig) → h.entry.admitted ≡ w.last → h.entry.removal ≡ None → config_of w h.entry.bucket ≡ Some c → IsTrue (has_department w c.dept) → HasFirstTenure marker w.last c.dept h.tenures → HasTenuresAs marker w h
first_tenured w true h c now held placed known first = first
first_tenured w false h c now held placed known first =
    let t : Tenure = record { dept = c.dept; from = w.last; number = 0 } in
    let end : w.last ≤ end_of w.last h.entry.removal = rw held (omega arith) in
    let own : owner_of w h.entry.bucket ≡ Some c.dept = ap (λ (o : Option BucketConfig). option_map (λ d. d.dept) o) placed in
    let with : IsWithBucket w None h = ap (λ (ts : List Tenure). option_map (λ u. u.dept) (last_tenure ts)) first ∙ sym own in (
      subst (λ ts. AreTenures w h.entry ts) (sym first) (refl, sym now, end),
      subst (λ (ts : List Tenure). AllByRecursion (λ u. IsTrue (has_department w u.dept)) ts) (sym first) (known, tt),
      subst (λ r. IsWithBucket w r h) (sym held) with,
    )

-- the entry has its first tenure of its bucket's department
pub tenured-admitted : (w : Vault) (h : History) (c : BucketConfig) → h.entry.admitted ≡ w.last → h.entry.removal ≡ None → config_of w h.entry.bucket ≡ Some c → AllByRecursion (IsOwned w) w.buckets → HasFirstTenure h.entry.marker w.last c.dept h.tenures → HasTenures w h
tenured-admitted w h c now held placed owned first =
    first_tenured w h.entry.marker h c now held placed (owner_there w h.entry.bucket w.buckets c owned placed) first
