-- What the members of an object spell of lifecycle rules, as S3's JSON has them.
use Rattle.std.specs.Prelude.{ℕ, List, [], ◌∷◌, codes, Bool, false, Option, Some, None, Result, Ok, Err}
use Rattle.serde_json.specs.Data.{Data, Items, no_items, item}
use Rattle.serde_json.specs.Find.{get}
use Rattle.vault_base.specs.Name.{rule_id_of}
use Rattle.vault_base.specs.declared.refusal.Refusal.{Refusal}
use Rattle.vault_base.specs.declared.refusal.Refusal.TheVariants.{InvalidArgument}
use Rattle.vault_rules.specs.Rules.{rules_fault}
use Rattle.vault_rules.specs.declared.rule.Noncurrent.{Noncurrent}
use Rattle.vault_rules.specs.declared.rule.Rule.{Rule}
use Rattle.vault_rules.specs.declared.rule_set.RuleFault.{RuleFault}
use Rattle.vault_values.specs.Fault.{◌>>=◌, or_refused, or_invalid, if_given}
use Rattle.vault_lines_json.specs.Members.{items_of, text_of, flag_of}
use Rattle.vault_lines_json.specs.Values.{number_of, optional_number_of, prefix_of}
use Rattle.vault_values.specs.Words.{status_named}
use Rattle.vault_lines_json.specs.declared.rules.Bounds.{Bounds}
use Rattle.vault_lines_json.specs.declared.rules.Expiration.{Expiration}

unfoldable pub rule_id_in : Data → Result (List ℕ) Refusal
rule_id_in d = do
  text ← text_of (codes "ID") d
  or_refused InvalidArgument (rule_id_of text)

unfoldable pub status_in : Data → Result Bool Refusal
status_in d = do
  text ← text_of (codes "Status") d
  or_invalid (status_named text)

-- an empty one is as one that is left out
unfoldable pub expiration_spelled : Data → Result Expiration Refusal
expiration_spelled d = do
  days ← optional_number_of (codes "Days") d
  lone_markers ← flag_of (codes "ExpiredObjectDeleteMarker") d
  Ok (record { days = days; lone_markers = lone_markers })

abbrev pub expiration_if : Option Data → Result Expiration Refusal
expiration_if None = Ok (record { days = None; lone_markers = false })
expiration_if (Some d) = expiration_spelled d

unfoldable pub expiration_in : Data → Result Expiration Refusal
expiration_in d = expiration_if (get (codes "Expiration") d)

unfoldable pub noncurrent_spelled : Data → Result Noncurrent Refusal
noncurrent_spelled d = do
  days ← number_of (codes "NoncurrentDays") d
  newer ← optional_number_of (codes "NewerNoncurrentVersions") d
  Ok (record { days = days; newer = newer })

unfoldable pub noncurrent_in : Data → Result (Option Noncurrent) Refusal
noncurrent_in d = if_given noncurrent_spelled (get (codes "NoncurrentVersionExpiration") d)

-- the bounds of sizes; what is left out bounds nothing
unfoldable pub bounds_in : Data → Result Bounds Refusal
bounds_in d = do
  larger ← optional_number_of (codes "ObjectSizeGreaterThan") d
  smaller ← optional_number_of (codes "ObjectSizeLessThan") d
  Ok (record { larger = larger; smaller = smaller })

unfoldable pub rule_of : Data → Result Rule Refusal
rule_of d = do
  id ← rule_id_in d
  prefix ← prefix_of (codes "Prefix") d
  bounds ← bounds_in d
  enabled ← status_in d
  expiration ← expiration_in d
  noncurrent ← noncurrent_in d
  Ok (record { id = id; prefix = prefix; enabled = enabled; days = expiration.days; lone_markers = expiration.lone_markers; noncurrent = noncurrent; larger = bounds.larger; smaller = bounds.smaller })

-- each rule, in order
abbrev pub rules_in : Items → Result (List Rule) Refusal
rules_in no_items = Ok []
rules_in (item d ds) = do
  rule ← rule_of d
  rules ← rules_in ds
  Ok (rule ∷ rules)

-- the rules, if nothing is wrong with them
abbrev pub judged : Option RuleFault → List Rule → Result (List Rule) Refusal
judged None rules = Ok rules
judged (Some fault) rules = Err InvalidArgument

-- all values are read before the list is judged
unfoldable pub rules_of : Data → Result (List Rule) Refusal
rules_of d = do
  items ← items_of (codes "rules") d
  rules ← rules_in items
  judged (rules_fault rules) rules
