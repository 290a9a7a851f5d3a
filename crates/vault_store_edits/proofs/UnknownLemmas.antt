-- A text that isn't understood is never answered.
use Rattle.std.proofs.Common.{◌≡◌, ℕ, List, Ok, sym, ap, ◌∙◌}
use Rattle.sqlite_value.specs.Order.{Row}
use Rattle.sqlite_schema.specs.declared.schema.Schema.{Schema}
use Rattle.sqlite.specs.Listing.{understood}
use Rattle.sqlite.specs.State.{State, Executes, ExecutesIn, Shown}
use Rattle.vault_store_edits.specs.Queries.{IsUnknown}

module _ (schema : Schema) (sql : List ℕ) (unknown : IsUnknown schema sql) (params : Row) (old new : State) (has : old.now.schema ≡ schema) where
  pub never_shown : (rows : List Row) → ¬ Shown sql params old new rows
  unfolding Shown
  never_shown rows h = let known = sym h.1.is ∙ ap (λ s. understood s sql) has ∙ unknown.1 in absurd cc

  pub never_executed : (count : ℕ) → ¬ Executes sql params old new (Ok count)
  unfolding ExecutesIn
  never_executed count h = let known = sym h.1.is ∙ ap (λ s. understood s sql) has ∙ unknown.1 in absurd cc
