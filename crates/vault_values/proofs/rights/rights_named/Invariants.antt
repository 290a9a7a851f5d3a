use Rattle.std.proofs.Common.{◌≡◌, map, drop}
use Rattle.vault_values.specs.Rights.{rights_named, with_rights_of}
use Rattle.vault_values.proofs.rights.rights_named.Given as goal

abbrev pub invariant-loop-name : goal.invariant-loop-name
invariant-loop-name l = rights_named (map (λ n. n.now) l.names) ≡ with_rights_of (map (λ n. n.now) (drop l.name-index l.names)) l.rights
