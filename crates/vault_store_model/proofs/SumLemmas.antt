-- The sums of a department after an admission or a removal are those that its row comes to.
use Rattle.std.proofs.Common.{◌≡◌, ℕ, ◌+◌, ◌≤◌, ◌<◌, ◌==◌, List, [], ◌∷◌, ◌++◌, map, Bool, true, false, Option, Some, None, refl, sym, ap, subst, ◌∙◌, arith, eqb}
use Rattle.std.specs.Prelude.{find, option_map, unwrap_or, if◌then◌else◌}
use Rattle.std.specs.List.{AllByRecursion}
use Rattle.std.proofs.lemmas.Bool.{eqb-true}
use Rattle.vault_base.specs.Days.{day, last_moment}
use Rattle.vault_tally.specs.Row.{Item, IsRowOf, AreBounded, held_item, removed_item}
use Rattle.vault_tally.specs.declared.row.Row.{Row as Sums}
use Rattle.vault_core_model.specs.declared.records.BucketConfig.{BucketConfig}
use Rattle.vault_core_model.specs.declared.records.Entry.{Entry}
use Rattle.vault_core_model.specs.declared.records.History.{History}
use Rattle.vault_core_model.specs.declared.records.Removal.{Removal}
use Rattle.vault_core_model.specs.declared.records.Tenure.{Tenure}
use Rattle.vault_core_model.specs.declared.change.Admission.{Admission}
use Rattle.vault_core_model.specs.declared.change.Change.TheVariants.{Admit, Remove}
use Rattle.vault_core_model.specs.Allowed.{IsAdmission, IsRemoval}
use Rattle.vault_core_model.specs.Change.{changed, removed_by, removed_if}
use Rattle.vault_core_model.specs.Reads.{entry_of}
use Rattle.vault_core_model.specs.Sound.{Sound, AreIdsFrom, HasTenures, HasTenuresAs, IsWithBucket, last_tenure}
use Rattle.vault_core_model.specs.Totals.{items_by, items_in, items_of, shares_from, shares_of}
use Rattle.vault_core_model.specs.Vault.{Vault, config_of, history_of}
use Rattle.vault_core_laws.proofs.Bounds.{items-bounded}
use Rattle.vault_core_laws.proofs.Soundness.{Sound-changed}
use Rattle.vault_audit_model.specs.Spells.{department_in, sums_over}
use Rattle.vault_store_model.specs.Sums.{CountsIn, CountsOut, last_tenure_of}
use Rattle.vault_store_model.proofs.EntryLemmas.{other_ids, found_history, items_push}
use Rattle.vault_store_model.proofs.RemovalLemmas.{found_all}
use Rattle.vault_store_model.proofs.SettingLemmas.{found_first, found_later}
use Rattle.vault_store_model.proofs.TenureLemmas.{EndsOne, ends_after, ends_before, last_ends, own_admitted}

-- ---- a row of sums

pub row_is : (row : Sums) (items : List Item) → IsRowOf row items → row ≡ sums_over items
row_is row items is = rw (is.admitted, is.received, is.held, is.removed, is.handed, is.weighted, is.closed) refl

-- ---- an admission

pub same_config : (c d : BucketConfig) (o : Option BucketConfig) → o ≡ Some c → o ≡ Some d → c ≡ d
same_config c d o e f = cc (sym e ∙ f)

pub sums_admitted : (v : Vault) (t : ℕ) (a : Admission) (config : BucketConfig) (row new : Sums) → Sound v → v.last ≤ t → t ≤ last_moment → IsAdmission v t a → a.history.entry.marker ≡ false
    → config_of v a.history.entry.bucket ≡ Some config → IsRowOf row (items_of v config.dept) → CountsIn row a.history.entry.size (day t) new
    → new ≡ (department_in (changed v t (Admit a)) config.dept).sums
sums_admitted v t a config row new sound later low is version there stated counts =
    let items = items_of v config.dept in
    let more = items_of (changed v t (Admit a)) config.dept in
    let same : is.bucket ≡ config = same_config is.bucket config (config_of v a.history.entry.bucket) is.placed there in
    let one : items_by is.bucket.dept (shares_of a.history) ≡ held_item true a.history.entry.size (day t) ∷ [] =
    own_admitted a.history.entry.marker t is.bucket.dept a.history is.tenured version is.held in
    let own : items_by config.dept (shares_of a.history) ≡ held_item true a.history.entry.size (day t) ∷ [] =
    subst (λ (c : BucketConfig). items_by c.dept (shares_of a.history) ≡ held_item true a.history.entry.size (day t) ∷ []) same one in
    let shape : more ≡ items ++ held_item true a.history.entry.size (day t) ∷ [] = items_push config.dept v.histories a.history ∙ ap (λ (l : List Item). items ++ l) own in
    let bounded : AreBounded more = items-bounded (changed v t (Admit a)) config.dept (Sound-changed v t (Admit a) sound later is) low in
    row_is new more (subst (IsRowOf new) (sym shape) (counts items stated (subst AreBounded shape bounded)))

-- ---- a removal

unset : (id : ℕ) (r : Removal) (hs : List History) → AllByRecursion (λ h. (h.entry.id == id) ≡ false) hs → map (removed_if id r) hs ≡ hs
unset id r [] all = refl
unset id r (h ∷ hs) all = rw (all.0, unset id r hs all.1) refl

-- of the tenures of a department, that one ends
abbrev EndsIn : ℕ → Removal → List ℕ → History → ℕ → List History → Type 0
EndsIn id r d g from hs = EndsOne g.entry.size from (day r.at) (items_in d hs) (items_in d (map (removed_if id r) hs))

-- the last one of the removed history
own_ends : (r : Removal) (h : History) (t : Tenure) → h.entry.removal ≡ None → last_tenure h.tenures ≡ Some t
    → EndsOne h.entry.size (day t.from) (day r.at) (items_by t.dept (shares_of h)) (items_by t.dept (shares_of (removed_by r h)))
own_ends r h t held last =
    subst (λ (o : Option Removal). EndsOne h.entry.size (day t.from) (day r.at) (items_by t.dept (shares_from h.entry.size o true h.tenures)) (items_by t.dept (shares_of (removed_by r h)))) (sym held)
    (last_ends h.entry.size r true h.tenures t last)

ends_here : (id : ℕ) (r : Removal) (h : History) (t : Tenure) (hs : List History) → (h.entry.id == id) ≡ true → h.entry.removal ≡ None → last_tenure h.tenures ≡ Some t → AllByRecursion (λ g. (g.entry.id == id) ≡ false) hs
    → EndsIn id r t.dept h (day t.from) (h ∷ hs)
ends_here id r h t hs here held last others =
    let rest : items_in t.dept (map (removed_if id r) hs) ≡ items_in t.dept hs = ap (items_in t.dept) (unset id r hs others) in
    let whole : items_in t.dept (map (removed_if id r) (h ∷ hs)) ≡ items_by t.dept (shares_of (removed_by r h)) ++ items_in t.dept hs =
    ap (λ b. items_by t.dept (shares_of (if b then removed_by r h else h)) ++ items_in t.dept (map (removed_if id r) hs)) here
    ∙ ap (λ (l : List Item). items_by t.dept (shares_of (removed_by r h)) ++ l) rest in
    subst (EndsOne h.entry.size (day t.from) (day r.at) (items_in t.dept (h ∷ hs))) (sym whole)
    (ends_before h.entry.size (day t.from) (day r.at) (items_in t.dept hs) _ _ (own_ends r h t held last))

ends_later : (id : ℕ) (r : Removal) (g h : History) (t : Tenure) (hs : List History) → (h.entry.id == id) ≡ false → EndsIn id r t.dept g (day t.from) hs → EndsIn id r t.dept g (day t.from) (h ∷ hs)
ends_later id r g h t hs other it =
    let whole : items_in t.dept (map (removed_if id r) (h ∷ hs)) ≡ items_by t.dept (shares_of h) ++ items_in t.dept (map (removed_if id r) hs) =
    ap (λ b. items_by t.dept (shares_of (if b then removed_by r h else h)) ++ items_in t.dept (map (removed_if id r) hs)) other in
    subst (EndsOne g.entry.size (day t.from) (day r.at) (items_in t.dept (h ∷ hs))) (sym whole)
    (ends_after g.entry.size (day t.from) (day r.at) (items_by t.dept (shares_of h)) _ _ it)

ends_in : (n id : ℕ) (r : Removal) (hs : List History) (g : History) (t : Tenure) → AreIdsFrom n hs → find (λ h. h.entry.id == id) hs ≡ Some g → g.entry.removal ≡ None → last_tenure g.tenures ≡ Some t → EndsIn id r t.dept g (day t.from) hs
ends_in n id r [] g t ids found held last = absurd (cc found)
ends_in n id r (h ∷ hs) g t ids found held last =
    elim (eqb h.entry.id id) as (λ b. eqb h.entry.id id ≡ b → EndsIn id r t.dept g (day t.from) (h ∷ hs)) [
      | true ↦ λ here.
          let less : id < n + 1 = omega (arith, ids.0, eqb-true h.entry.id id here) in
          let same : h ≡ g = found_first (eqb h.entry.id id) h g (find (λ x. x.entry.id == id) hs) here found in
          let own : h.entry.removal ≡ None = ap (λ (x : History). x.entry.removal) same ∙ held in
          let ends : last_tenure h.tenures ≡ Some t = ap (λ (x : History). last_tenure x.tenures) same ∙ last in
          subst (λ (x : History). EndsIn id r t.dept x (day t.from) (h ∷ hs)) same (ends_here id r h t hs here own ends (other_ids (n + 1) id hs less ids.1))
      | false ↦ λ other. ends_later id r g h t hs other (ends_in (n + 1) id r hs g t ids.1 (found_later (eqb h.entry.id id) h g (find (λ x. x.entry.id == id) hs) other found) held last)
    ] refl

pub entry_same : (x y : Entry) → Some x ≡ Some y → x ≡ y
entry_same x y e = cc e

-- the version's last tenure ends
pub sums_ended : (v : Vault) (t id : ℕ) (r : Removal) (h : History) (tenure : Tenure) (row new : Sums) → Sound v → v.last ≤ t → t ≤ last_moment → IsRemoval v t id r → history_of v id ≡ Some h → last_tenure h.tenures ≡ Some tenure
    → IsRowOf row (items_of v tenure.dept) → CountsOut row h.entry.size (day tenure.from) (day t) new
    → new ≡ (department_in (changed v t (Remove id r)) tenure.dept).sums
sums_ended v t id r h tenure row new sound later low is there last stated counts =
    let same : is.held.0 ≡ h.entry = entry_same is.held.0 h.entry (sym is.held.1 ∙ ap (λ (o : Option History). option_map (λ g. g.entry) o) there) in
    let held : h.entry.removal ≡ None = ap (λ (e : Entry). e.removal) (sym same) ∙ is.held.2 in
    let it = ends_in 1 id r v.histories h tenure sound.ids there held last in
    let more = items_of (changed v t (Remove id r)) tenure.dept in
    let becomes : more ≡ it.before ++ removed_item it.first h.entry.size (day tenure.from) (day t) ∷ it.after =
    it.ended ∙ ap (λ n. it.before ++ removed_item it.first h.entry.size (day tenure.from) (day n) ∷ it.after) is.now in
    let bounded : AreBounded more = items-bounded (changed v t (Remove id r)) tenure.dept (Sound-changed v t (Remove id r) sound later is) low in
    row_is new more (subst (IsRowOf new) (sym becomes) (counts it.before it.first it.after (subst (IsRowOf row) it.held stated) (subst AreBounded becomes bounded)))

tenure_of_dept : (o : Option Tenure) (dept : List ℕ) → option_map (λ (x : Tenure). x.dept) o ≡ Some dept → (x : Tenure) × (o ≡ Some x) × (x.dept ≡ dept)
tenure_of_dept None dept is = absurd (cc is)
tenure_of_dept (Some x) dept is = (x, refl, cc is)

-- a held version is the department's that has its bucket
last_there : (v : Vault) (marker : Bool) (h : History) (config : BucketConfig) → HasTenuresAs marker v h → marker ≡ false → h.entry.removal ≡ None → config_of v h.entry.bucket ≡ Some config
    → (x : Tenure) × (last_tenure h.tenures ≡ Some x) × (x.dept ≡ config.dept)
last_there v true h config has version held placed = absurd (cc version)
last_there v false h config has version held placed =
    let with : IsWithBucket v None h = subst (λ o. IsWithBucket v o h) held has.2 in
    tenure_of_dept (last_tenure h.tenures) config.dept (with ∙ ap (λ (o : Option BucketConfig). option_map (λ c. c.dept) o) placed)

-- it ends on the day of the removal, whatever was said of a version without tenures
pub sums_removed : (v : Vault) (t id : ℕ) (r : Removal) (e : Entry) (config : BucketConfig) (from none : ℕ) (row new : Sums) → Sound v → v.last ≤ t → t ≤ last_moment → IsRemoval v t id r → entry_of v id ≡ Some e → e.marker ≡ false
    → config_of v e.bucket ≡ Some config → from ≡ unwrap_or (option_map (λ (x : Tenure). x.from) (last_tenure_of v id)) none → IsRowOf row (items_of v config.dept) → CountsOut row e.size (day from) (day t) new
    → new ≡ (department_in (changed v t (Remove id r)) config.dept).sums
sums_removed v t id r e config from none row new sound later low is there version placed since stated counts =
    let found = found_history (history_of v id) e there in
    let g = found.0 in
    let same : is.held.0 ≡ g.entry = entry_same is.held.0 g.entry (sym is.held.1 ∙ there ∙ ap Some (sym found.2)) in
    let held : g.entry.removal ≡ None = ap (λ (x : Entry). x.removal) (sym same) ∙ is.held.2 in
    let last =
    last_there v g.entry.marker g config (found_all (HasTenures v) (λ h. h.entry.id == id) v.histories g sound.tenured found.1) (ap (λ (x : Entry). x.marker) found.2 ∙ version) held
    (ap (λ (x : Entry). config_of v x.bucket) found.2 ∙ placed) in
    let stated_from : from ≡ last.0.from =
    since ∙ ap (λ (o : Option History). unwrap_or (option_map (λ (x : Tenure). x.from) (last_tenure (unwrap_or (option_map (λ h. h.tenures) o) []))) none) found.1
    ∙ ap (λ (o : Option Tenure). unwrap_or (option_map (λ (x : Tenure). x.from) o) none) last.1 in
    let own : CountsOut row g.entry.size (day last.0.from) (day t) new =
    subst (λ n. CountsOut row g.entry.size (day n) (day t) new) stated_from (subst (λ (x : Entry). CountsOut row x.size (day from) (day t) new) (sym found.2) counts) in
    subst (λ d. new ≡ (department_in (changed v t (Remove id r)) d).sums) last.2
    (sums_ended v t id r g last.0 row new sound later low is found.1 last.1 (subst (λ d. IsRowOf row (items_of v d)) (sym last.2) stated) own)
