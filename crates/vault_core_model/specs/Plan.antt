-- The plan of a run of the lifecycle rules over a bucket: three phases, each over the vault that the phase before leaves.
use Rattle.std.specs.Prelude.{ℕ, ◌+◌, Bool, true, false, nat_lt, List, [], ◌∷◌, ◌++◌, length, flat_map, count_by, slice_get, None, option_map, unwrap_or, if◌then◌else◌}
use Rattle.vault_base.specs.Limits.{most_ids}
use Rattle.vault_rules.specs.declared.rule.Rule.{Rule}
use Rattle.vault_rules.specs.declared.plan.Step.{Step}
use Rattle.vault_rules.specs.declared.plan.Step.TheVariants.{Mark, Remove, RemoveLone}
use Rattle.vault_rules.specs.KeyPlan.{Planned, at_key, mark_steps, removal_steps, lone_steps}
use Rattle.vault_core_model.specs.declared.records.Author.TheVariants as author
use Rattle.vault_core_model.specs.declared.records.Cause.TheVariants as cause
use Rattle.vault_core_model.specs.declared.change.Change.{Change}
use Rattle.vault_core_model.specs.declared.change.Change.TheVariants as change
use Rattle.vault_core_model.specs.declared.reply.Counts.{Counts}
use Rattle.vault_core_model.specs.Vault.{Vault, rules_of, next_id}
use Rattle.vault_core_model.specs.Places.{keys_of}
use Rattle.vault_core_model.specs.Reads.{entries_of}
use Rattle.vault_core_model.specs.Change.{changed}
use Rattle.vault_core_model.specs.EntryOutcomes.{new_marker}

-- the rules of a bucket in configuration order; a bucket without lifecycle rules has none
abbrev pub rules_in : Vault → List ℕ → List Rule
rules_in v bucket = unwrap_or (rules_of v bucket) []

-- the id of the rule at that place
abbrev pub rule_id : List Rule → ℕ → List ℕ
rule_id rules place = unwrap_or (option_map (λ r. r.id) (slice_get rules place)) []

-- the change that a step at a key is, with the rule that is its cause
abbrev pub change_at : Vault → List ℕ → ℕ → List ℕ → Step → Change
change_at v bucket t key (Mark r) =
    change.Admit (record { history = new_marker (next_id v) bucket key t (author.Rule (rule_id (rules_in v bucket) r)); note = None })
change_at v bucket t key (Remove id r) = change.Remove id (record { at = t; cause = cause.Rule (rule_id (rules_in v bucket) r) })
change_at v bucket t key (RemoveLone id r) = change.Remove id (record { at = t; cause = cause.Rule (rule_id (rules_in v bucket) r) })

abbrev pub change_of : Vault → List ℕ → ℕ → Planned → Change
change_of v bucket t p = change_at v bucket t p.key p.step

-- the vault after these steps, one after another
abbrev pub after_steps : Vault → List ℕ → ℕ → List Planned → Vault
after_steps v bucket t [] = v
after_steps v bucket t (p ∷ ps) = after_steps (changed v t (change_of v bucket t p)) bucket t ps

-- the steps of each phase at a key, by rising id: the mark over current content that is due, the removals of noncurrent entries that are due and not locked, the removal of a lone marker that is due
abbrev pub marks_at : Vault → List ℕ → ℕ → List ℕ → List Planned
marks_at v bucket t key = at_key key (mark_steps (rules_in v bucket) key t (entries_of v bucket key))

abbrev pub removals_at : Vault → List ℕ → ℕ → List ℕ → List Planned
removals_at v bucket t key = at_key key (removal_steps (rules_in v bucket) key t (entries_of v bucket key))

abbrev pub lone_at : Vault → List ℕ → ℕ → List ℕ → List Planned
lone_at v bucket t key = at_key key (lone_steps (rules_in v bucket) key t (entries_of v bucket key))

-- the vault after the first phase: a marker for each key whose current entry is due content, in the order of the keys
abbrev pub after_marks : Vault → List ℕ → ℕ → Vault
after_marks v bucket t = after_steps v bucket t (flat_map (marks_at v bucket t) (keys_of v bucket))

-- the vault after the second: each noncurrent entry that is due and not locked is removed
abbrev pub after_removals : Vault → List ℕ → ℕ → Vault
after_removals v bucket t = after_steps v bucket t (flat_map (removals_at v bucket t) (keys_of v bucket))

-- the plan, where the vaults after the first and the second phase are known
abbrev pub plan_over : Vault → Vault → Vault → List ℕ → ℕ → List Planned
plan_over v v1 v2 bucket t =
    flat_map (λ key. marks_at v bucket t key ++ removals_at v1 bucket t key ++ lone_at v2 bucket t key) (keys_of v bucket)

-- The plan: the steps of the three phases, each due taken in the vault after the phase before. Keys by their bytes; within a key the mark, the removals by rising id, the lone marker (S3 User Guide, "Lifecycle configuration elements").
abbrev pub plan : Vault → List ℕ → ℕ → List Planned
plan v bucket t =
    plan_over v (after_marks v bucket t) (after_removals (after_marks v bucket t) bucket t) bucket t

abbrev pub is_mark : Step → Bool
is_mark (Mark r) = true
is_mark (Remove id r) = false
is_mark (RemoveLone id r) = false

abbrev pub is_removal : Step → Bool
is_removal (Mark r) = false
is_removal (Remove id r) = true
is_removal (RemoveLone id r) = false

abbrev pub is_lone_removal : Step → Bool
is_lone_removal (Mark r) = false
is_lone_removal (Remove id r) = false
is_lone_removal (RemoveLone id r) = true

-- how many steps there are, and of each kind
abbrev pub counts : List Planned → Counts
counts ps = record {
  changes = length ps;
  marked = count_by (λ p. is_mark p.step) ps;
  removed = count_by (λ p. is_removal p.step) ps;
  lone = count_by (λ p. is_lone_removal p.step) ps;
}

-- the steps up to the first mark that finds no id left, where n ids are taken
abbrev pub with_ids : ℕ → List Planned → List Planned
with_ids taken [] = []
with_ids taken (p ∷ ps) =
    if is_mark p.step then (if nat_lt taken most_ids then p ∷ with_ids (taken + 1) ps else [])
    else p ∷ with_ids taken ps
