-- Which keys a run looks at: those that the prefix of an enabled rule begins.
use Rattle.std.specs.Prelude.{◌≡◌, ℕ, ◌&&◌, Bool, true, not, nat_eq, List, [], ◌∷◌, filter, Option, Some, None, Result, Ok, Err, if◌then◌else◌}
use Rattle.std.specs.List.{list_any, starts_with}
use Rattle.std.specs.Ordering.{nat_cmp, is_gt}
use Rattle.std.specs.Cmp.Lexicographic.{slice_cmp}
use Rattle.vault_rules.specs.declared.rule.Rule.{Rule}
use Rattle.vault_core_model.specs.declared.halt.Halt.{Halt}
use Rattle.vault_core_model.specs.declared.reply.Counts.{Counts}
use Rattle.vault_core_model.specs.Vault.{Vault}
use Rattle.vault_core_model.specs.Places.{comes_after, keys_of}
use Rattle.vault_core_model.specs.Reads.{later_keys}
use Rattle.vault_core_run_laws.specs.KeyRuns.{plans_at}
use Rattle.vault_core_runs.specs.Making.{MakesAll, MakesUpTo}

-- the rule is enabled, and its prefix begins the text
abbrev pub begins : List ℕ → Rule → Bool
begins text r = r.enabled && starts_with nat_eq text r.prefix

-- the prefix of an enabled rule begins the text
abbrev pub is_ruled : List Rule → List ℕ → Bool
is_ruled rules text = list_any (begins text) rules

-- the text comes before what was found, if anything was
abbrev pub is_nearer : List ℕ → Option (List ℕ) → Bool
is_nearer text None = true
is_nearer text (Some found) = is_gt (slice_cmp nat_cmp found text)

-- the rule is enabled, and its prefix comes after the place and before what was found
abbrev pub is_next : List ℕ → Rule → Option (List ℕ) → Bool
is_next place r found = r.enabled && is_gt (slice_cmp nat_cmp r.prefix place) && is_nearer r.prefix found

abbrev pub nearer : List ℕ → Rule → Option (List ℕ) → Option (List ℕ)
nearer place r found = if is_next place r found then Some r.prefix else found

-- the least prefix of an enabled rule after the place, of these rules and what was found before them
abbrev pub nearest : List ℕ → Option (List ℕ) → List Rule → Option (List ℕ)
nearest place found [] = found
nearest place found (r ∷ rs) = nearest place (nearer place r found) rs

-- the keys of a bucket after a place that are not after a later one
abbrev pub keys_between : Vault → List ℕ → List ℕ → List ℕ → List (List ℕ)
keys_between v bucket place next = filter (λ k. not (comes_after k next)) (later_keys v bucket place)

-- what comes after the next place comes after this one
abbrev pub IsOnward : List ℕ → List ℕ → Type 0
IsOnward place next = (k : List ℕ) → comes_after k next ≡ true → comes_after k place ≡ true

-- a run goes on from a place: to a next one, where the plans of the keys between are made; to the end, where those of all later keys are; or up to a halt within them
abbrev pub GoesOn : Result (Option (List ℕ)) Halt → Vault → List ℕ → ℕ → List ℕ → Counts → Counts → Vault → Type 0
GoesOn (Ok None) v bucket t place old new v' = MakesAll v bucket t (plans_at v bucket t (later_keys v bucket place)) old new v'
GoesOn (Ok (Some next)) v bucket t place old new v' =
    IsOnward place next × MakesAll v bucket t (plans_at v bucket t (keys_between v bucket place next)) old new v'
GoesOn (Err e) v bucket t place old new v' = MakesUpTo v bucket t (plans_at v bucket t (later_keys v bucket place)) e old new v'
