-- What the type of a rule says of its names.
use Rattle.std.specs.Prelude.{IsTrue}
use Rattle.vault_base.specs.Name.{is_key_prefix, is_rule_id}
use Rattle.vault_rules.specs.declared.rule.Rule.{Rule}

-- a rule's id and prefix
abbrev pub IsSpelledRule : Rule → Type 0
IsSpelledRule r = IsTrue (is_rule_id r.id) × IsTrue (is_key_prefix r.prefix)
