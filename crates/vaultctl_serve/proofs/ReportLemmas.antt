-- A failure is reported once, whatever comes after it.
use Rattle.std.proofs.Common.{◌≡◌, ◌≢◌, ◌∙◌, ◌≤◌, ℕ, subst, sym, inl, inr, arith}
use Rattle.vaultctl_serve.specs.Serving.{ReportsOnce}

module _ {T : Type 0} (fails : T → T → Type 0) (since n n' : ℕ) (t u v : T) where
  -- none had failed before
  reports-first : n ≡ since → ReportsOnce fails since n t u → ReportsOnce fails since n' u v → ReportsOnce fails since n' t v
  reports-first none before now = elim before [
    | inl same ↦ elim now [
      | inl still ↦ inl (still.0, still.1 ∙ same.1)
      | inr failed ↦ inr (failed.0, let P : T → Type 0 = λ w. fails w v in subst P same.1 failed.1)
    ]
    | inr failed ↦ absurd (failed.0 none)
  ]

  -- one had
  reports-again : n ≢ since → since ≤ n → n ≤ n' → ReportsOnce fails since n t u → v ≡ u → ReportsOnce fails since n' t v
  reports-again some least most before same = elim before [
    | inl none ↦ absurd (some none.0)
    | inr failed ↦ inr (λ e. some (omega (arith, least, most, e)), let P : T → Type 0 = λ w. fails t w in subst P (sym same) failed.1)
  ]

  -- what came before, and then what is known by whether one had failed
  pub reports-then : (first_count : ℕ) → first_count ≡ since → since ≤ n → n ≤ n' → ReportsOnce fails since n t u → (n ≡ first_count → ReportsOnce fails first_count n' u v) → (n ≢ first_count → v ≡ u) → ReportsOnce fails since n' t v
  reports-then first_count is least most before first again =
      let P : ℕ → Type 0 = λ s. n ≡ s → ReportsOnce fails s n' u v in
      let Q : ℕ → Type 0 = λ s. n ≢ s → v ≡ u in
      elim before [
        | inl none ↦ reports-first none.0 (inl none) (subst P is first none.0)
        | inr some ↦ reports-again some.0 least most (inr some) (subst Q is again some.0)
      ]
