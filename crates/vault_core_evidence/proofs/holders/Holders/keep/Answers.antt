use Rattle.vault_core_evidence.proofs.HolderLemmas.{kept}
use Rattle.vault_core_evidence.proofs.holders.Holders.keep.Goals as goal

pub returns : goal.returns
returns c = kept c.args.self.now (record { holders = c.insert.new.self }) c.args.bucket c.args.holder c.in_ok-insert.ensures.updates.0
