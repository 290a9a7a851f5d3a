-- No change loses or alters what was admitted.
use Rattle.std.proofs.Common.{◌≡◌, ◌⊎◌, ℕ, List, [], ◌∷◌, ◌++◌, map, Bool, true, false, Some, None, refl, sym, ap, ◌∙◌, eqb, inl, inr, append_assoc, append-nil}
use Rattle.std.specs.Prelude.{find, ◌==◌, if◌then◌else◌}
use Rattle.std.specs.List.{AllByRecursion}
use Rattle.vault_core_model.specs.declared.change.Change.{Change}
use Rattle.vault_core_model.specs.declared.change.Change.TheVariants.{AddDept, AddCaller, CloseCaller, AddBucket, MoveBucket, SetDefault, SetRules, Admit, AddSetting, Remove}
use Rattle.vault_core_model.specs.declared.records.Entry.{Entry}
use Rattle.vault_core_model.specs.declared.records.History.{History}
use Rattle.vault_core_model.specs.declared.records.Removal.{Removal}
use Rattle.vault_core_model.specs.declared.records.Setting.{Setting}
use Rattle.vault_core_model.specs.declared.records.Tenure.{Tenure}
use Rattle.vault_core_model.specs.Places.{is_held_version_in}
use Rattle.vault_core_model.specs.Vault.{Vault}
use Rattle.vault_core_model.specs.Change.{changed, next_tenure, removed_by, removed_if, tenured_by, tenured_if, with_setting}
use Rattle.vault_core_model.specs.Sound.{Sound}
use Rattle.vault_core_model.specs.Allowed.{IsHeldId}
use Rattle.vault_core_laws.proofs.Newest.{finds_itself}
use Rattle.vault_core_run_laws.specs.Chains.{MayMake}
use Rattle.vault_core_run_laws.specs.Once.{Continues, Extends}
use Rattle.vault_core_run_laws.proofs.Kept.{by_own_id, held-found}

continues_itself : (h : History) → Continues h h
continues_itself h = record {
  entry = refl;
  removal = inr refl;
  content = λ held. refl;
  more = [];
  settings = sym (append-nil h.settings);
  further = [];
  tenures = sym (append-nil h.tenures);
}

continues_on : (f g h : History) → Continues f g → Continues g h → Continues f h
continues_on f g h a b = record {
  entry = b.entry ∙ ap (λ (e : Entry). record e { removal = h.entry.removal }) a.entry;
  removal = by_removal a.removal b.removal;
  content = λ held. b.content held ∙ a.content (was_held b.removal held);
  more = a.more ++ b.more;
  settings = b.settings ∙ (ap (λ ss. ss ++ b.more) a.settings ∙ append_assoc f.settings a.more b.more);
  further = a.further ++ b.further;
  tenures = b.tenures ∙ (ap (λ ts. ts ++ b.further) a.tenures ∙ append_assoc f.tenures a.further b.further);
}
  where
    by_removal : (f.entry.removal ≡ None) ⊎ (g.entry.removal ≡ f.entry.removal) → (g.entry.removal ≡ None) ⊎ (h.entry.removal ≡ g.entry.removal) → (f.entry.removal ≡ None) ⊎ (h.entry.removal ≡ f.entry.removal)
    by_removal (inl none) later = inl none
    by_removal (inr same) (inl none) = inl (sym same ∙ none)
    by_removal (inr same) (inr later) = inr (later ∙ same)

    was_held : (g.entry.removal ≡ None) ⊎ (h.entry.removal ≡ g.entry.removal) → h.entry.removal ≡ None → g.entry.removal ≡ None
    was_held (inl none) held = none
    was_held (inr same) held = sym same ∙ held

pub extends_itself : (hs : List History) → Extends hs hs
extends_itself [] = tt
extends_itself (h ∷ hs) = (continues_itself h, extends_itself hs)

extends_on : (fs gs hs : List History) → Extends fs gs → Extends gs hs → Extends fs hs
extends_on [] gs hs a b = tt
extends_on (f ∷ fs) [] hs a b = absurd a
extends_on (f ∷ fs) (g ∷ gs) [] a b = absurd b
extends_on (f ∷ fs) (g ∷ gs) (h ∷ hs) a b = (continues_on f g h a.0 b.0, extends_on fs gs hs a.1 b.1)

extends_push : (hs : List History) (h : History) → Extends hs (hs ++ h ∷ [])
extends_push [] h = tt
extends_push (g ∷ gs) h = (continues_itself g, extends_push gs h)

extends_map : (P : History → Type 0) (f : History → History) → ((h : History) → P h → Continues h (f h)) → (hs : List History) → AllByRecursion P hs → Extends hs (map f hs)
extends_map P f go [] all = tt
extends_map P f go (h ∷ hs) all = (go h all.0, extends_map P f go hs all.1)

with_one_more : (id : ℕ) (s : Setting) (h : History) → Continues h (with_setting id s h)
with_one_more id s h =
    elim (eqb h.entry.id id) as (λ b. Continues h (if b then record h { settings = h.settings ++ s ∷ [] } else h)) [
      | true ↦ record { entry = refl; removal = inr refl; content = λ held. refl; more = s ∷ []; settings = refl; further = []; tenures = sym (append-nil h.tenures) }
      | false ↦ continues_itself h
    ]

with_tenure : (bucket : List ℕ) (t : Tenure) (h : History) → Continues h (tenured_if bucket t h)
with_tenure bucket t h =
    elim (is_held_version_in bucket h.entry) as (λ b. Continues h (if b then tenured_by t h else h)) [
      | true ↦ record { entry = refl; removal = inr refl; content = λ held. refl; more = []; settings = sym (append-nil h.settings); further = t ∷ []; tenures = refl }
      | false ↦ continues_itself h
    ]

removed_once : (v : Vault) (id : ℕ) (r : Removal) (h : History) → IsHeldId v id → find (λ g. g.entry.id == h.entry.id) v.histories ≡ Some h → Continues h (removed_if id r h)
removed_once v id r h held own = by_id (eqb h.entry.id id) refl
  where
    by_id : (b : Bool) → eqb h.entry.id id ≡ b → Continues h (if b then removed_by r h else h)
    by_id true e = record {
      entry = refl;
      removal = inl (held-found v id h (by_own_id v id h own e) held);
      content = λ none. absurd (cc none);
      more = [];
      settings = sym (append-nil h.settings);
      further = [];
      tenures = sym (append-nil h.tenures);
    }
    by_id false e = continues_itself h

extends_changed : (v : Vault) (t : ℕ) (who : List ℕ) (c : Change) → Sound v → MayMake v t who c → Extends v.histories (changed v t c).histories
extends_changed v t who (AddDept name) sound may = extends_itself v.histories
extends_changed v t who (AddCaller c) sound may = extends_itself v.histories
extends_changed v t who (CloseCaller name) sound may = extends_itself v.histories
extends_changed v t who (AddBucket name dept) sound may = extends_itself v.histories
extends_changed v t who (MoveBucket name dept) sound may =
    extends_map (λ h. find (λ g. g.entry.id == h.entry.id) v.histories ≡ Some h) (tenured_if name (next_tenure v t dept)) (λ h own. with_tenure name (next_tenure v t dept) h) v.histories (finds_itself 1 v.histories sound.ids)
extends_changed v t who (SetDefault name default) sound may = extends_itself v.histories
extends_changed v t who (SetRules name rules) sound may = extends_itself v.histories
extends_changed v t who (Admit a) sound may = extends_push v.histories a.history
extends_changed v t who (AddSetting id s) sound may =
    extends_map (λ h. find (λ g. g.entry.id == h.entry.id) v.histories ≡ Some h) (with_setting id s) (λ h own. with_one_more id s h) v.histories (finds_itself 1 v.histories sound.ids)
extends_changed v t who (Remove id r) sound may =
    extends_map (λ h. find (λ g. g.entry.id == h.entry.id) v.histories ≡ Some h) (removed_if id r) (λ h own. removed_once v id r h may.allowed.held own) v.histories (finds_itself 1 v.histories sound.ids)

pub Extends-changed : (hs : List History) (v : Vault) (t : ℕ) (who : List ℕ) (c : Change) → Sound v → Extends hs v.histories → MayMake v t who c → Extends hs (changed v t c).histories
Extends-changed hs v t who c sound before may = extends_on hs v.histories (changed v t c).histories before (extends_changed v t who c sound may)
