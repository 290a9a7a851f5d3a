-- The part of a move makes the edit of that change, by what was read of the vault before.
use Rattle.std.proofs.Common.{◌≡◌, ℕ, ◌+◌, ◌≤◌, List, Option, Some, sym, ap, subst, subst₂, ◌∙◌}
use Rattle.vault_base.specs.Days.{day, last_moment}
use Rattle.vault_tally.specs.Row.{IsRowOf}
use Rattle.vault_tally.specs.declared.row.Row.{Row as Sums}
use Rattle.vault_core_model.specs.declared.records.BucketConfig.{BucketConfig}
use Rattle.vault_core_model.specs.declared.change.Change.TheVariants as change
use Rattle.vault_core_model.specs.Allowed.{IsMove}
use Rattle.vault_core_model.specs.Change.{changed}
use Rattle.vault_core_model.specs.Sound.{Sound}
use Rattle.vault_core_model.specs.Totals.{items_of, bucket_bytes, bucket_weight}
use Rattle.vault_core_model.specs.Vault.{Vault, config_of}
use Rattle.vault_audit_model.specs.Spells.{department_in}
use Rattle.vault_store_model.specs.Changes.{with_move}
use Rattle.vault_store_model.specs.Sums.{HandsOver, Receives}
use Rattle.vault_store_model.proofs.MoveSums.{sums_handed, sums_received}
use Rattle.vault_store_apply.specs.Parts.{bucket_moved}
use Rattle.vault_store_apply.specs.Applies.{IsEditOf}

module _ (v : Vault) (t : ℕ) (name dept : List ℕ) (owner : BucketConfig) (giver taker handed received : Sums) (bytes weight number : ℕ) (sound : Sound v) (later : v.last ≤ t) (low : t ≤ last_moment)
    (is : IsMove v name dept) (there : Some owner ≡ config_of v name) (had : IsRowOf giver (items_of v owner.dept)) (has : IsRowOf taker (items_of v dept)) (bytes_is : bytes ≡ bucket_bytes v name)
    (weight_is : weight ≡ bucket_weight v name) (number_is : number ≡ v.moves + 1) (gives : HandsOver giver bytes weight (day t) handed) (takes : Receives taker bytes (day t) received) where
  abbrev after : Vault
  after = changed v t (change.MoveBucket name dept)

  handed_is : handed ≡ (department_in after owner.dept).sums
  handed_is = sums_handed v t name dept owner giver handed sound later low is (sym there) had (subst₂ (λ b w. HandsOver giver b w (day t) handed) bytes_is weight_is gives)

  received_is : received ≡ (department_in after dept).sums
  received_is = sums_received v t name dept taker received sound later low is has (subst (λ b. Receives taker b (day t) received) bytes_is takes)

  pub edits_move : IsEditOf (bucket_moved name number dept t owner.dept handed received) v t (change.MoveBucket name dept)
  edits_move xs u =
      ap (λ (n : ℕ). bucket_moved name n dept t owner.dept handed received xs u) number_is
      ∙ ap (λ (s : Sums). bucket_moved name (v.moves + 1) dept t owner.dept s received xs u) handed_is
      ∙ ap (λ (s : Sums). bucket_moved name (v.moves + 1) dept t owner.dept (department_in after owner.dept).sums s xs u) received_is
      ∙ ap (λ (o : Option BucketConfig). with_move v after t name dept o xs u) there
