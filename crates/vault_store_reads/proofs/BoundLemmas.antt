-- A key holds fewer entries than there are ids.
use Rattle.std.proofs.Common.{◌≡◌, ℕ, ◌<◌, ◌≤◌, ◌^◌, List, [], ◌∷◌, filter, length, Bool, inl, inr, arith}
use Rattle.std.proofs.lemmas.Bool.{cases_Bool}
use Rattle.vault_core_model.specs.Places.{held_at, is_held_at}
use Rattle.vault_core_model.specs.Sound.{Sound}
use Rattle.vault_core_model.specs.Vault.{Vault}
use Rattle.vault_core_model.specs.declared.records.History.{History}

pub fewer : {A : Type 0} (test : A → Bool) (xs : List A) → length (filter test xs) ≤ length xs
fewer test [] = omega arith
fewer test (x ∷ xs) = elim (cases_Bool (test x)) [
  | inl passed ↦ rw passed (let less = fewer test xs in omega (arith, less))
  | inr failed ↦ rw failed (let less = fewer test xs in omega (arith, less))
]

pub count_fits : (v : Vault) (bucket key : List ℕ) (count : ℕ) → Sound v → count ≡ length (held_at v bucket key) → count < 2 ^ 32
count_fits v bucket key count sound is = let less = fewer (λ (h : History). is_held_at bucket key h.entry) v.histories in let most = sound.enough_ids in omega (arith, is, less, most)
