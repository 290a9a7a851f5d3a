-- The last of some settings.
use Rattle.std.proofs.Common.{◌≡◌, ◌-◌, List, [], ◌∷◌, length, Some, ap, sym}
use native.Mathlib.Numerals.{unary_clauses}
use Rattle.std.specs.List.{slice_get}
use Rattle.vault_core_model.specs.declared.records.Setting.{Setting}
use Rattle.vault_core_model.specs.Reads.{last_setting}
use Rattle.vault_core_model.specs.Vault.{last_lock}

last_lock-at : (r : Setting) (rs : List Setting) (s : Setting) → slice_get (r ∷ rs) (length rs) ≡ Some s → last_lock (r ∷ rs) ≡ s.lock
last_lock-at r [] s is = let e : r ≡ s = cc in ap (λ (o : Setting). o.lock) e
last_lock-at r (q ∷ qs) s is = last_lock-at q qs s is

pub last_setting-at : (ss : List Setting) (s : Setting) → slice_get ss (length ss - 1) ≡ Some s → Some (record { lock = s.lock; count = length ss }) ≡ last_setting ss
last_setting-at [] s is = absurd (cc is)
last_setting-at (r ∷ rs) s is = ap (λ lock. Some (record { lock = lock; count = length (r ∷ rs) })) (sym (last_lock-at r rs s (simp unary_clauses at is)))

pub last_lock-last : (ss : List Setting) (s : Setting) → slice_get ss (length ss - 1) ≡ Some s → s.lock ≡ last_lock ss
last_lock-last [] s is = absurd (cc is)
last_lock-last (r ∷ rs) s is = sym (last_lock-at r rs s (simp unary_clauses at is))
