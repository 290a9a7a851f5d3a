use Rattle.std.proofs.Common.{◌≡◌, drop}
use Rattle.vault_values.specs.Rights.{rights_named, with_rights_of}
use Rattle.vaultctl_commands.proofs.words.rights_named.Given as goal

abbrev pub invariant-loop-word : goal.invariant-loop-word
invariant-loop-word l = rights_named l.words ≡ with_rights_of (drop l.word-index l.words) l.rights
