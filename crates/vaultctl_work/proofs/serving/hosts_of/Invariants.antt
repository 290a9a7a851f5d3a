use Rattle.std.proofs.Common.{◌≡◌, take}
use Rattle.vaultctl_work.proofs.serving.hosts_of.Given as goal

abbrev pub invariant-loop-name : goal.invariant-loop-name
invariant-loop-name l = l.hosts ≡ take l.name-index l.names
