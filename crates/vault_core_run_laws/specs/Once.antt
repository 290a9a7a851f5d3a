-- Written once: what becomes of an entry that was admitted.
use Rattle.std.specs.Prelude.{◌≡◌, ◌⊎◌, List, [], ◌∷◌, ◌++◌, None}
use Rattle.vault_core_model.specs.declared.records.History.{History}
use Rattle.vault_core_model.specs.declared.records.Setting.{Setting}
use Rattle.vault_core_model.specs.declared.records.Tenure.{Tenure}

-- h is what became of g: the same entry, removed at most once; the same bytes while it is held; the same settings and the same tenures, and maybe more after them
pub record Continues (g h : History) : Type 0 where
  pub entry : h.entry ≡ record g.entry { removal = h.entry.removal }
  pub removal : (g.entry.removal ≡ None) ⊎ (h.entry.removal ≡ g.entry.removal)
  pub content : h.entry.removal ≡ None → h.content ≡ g.content
  pub more : List Setting
  pub settings : h.settings ≡ g.settings ++ more
  pub further : List Tenure
  pub tenures : h.tenures ≡ g.tenures ++ further

-- each of these histories goes on at its place, and there may be more after them
abbrev pub Extends : List History → List History → Type 0
Extends [] hs = Unit {0}
Extends (g ∷ gs) [] = ⊥
Extends (g ∷ gs) (h ∷ hs) = Continues g h × Extends gs hs
