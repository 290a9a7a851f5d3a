use Rattle.std.proofs.lemmas.List.Sums.{prefix_len-le-length}
use Rattle.vault_core_list.proofs.Places.{insert-placed}
use Rattle.vault_core_list.proofs.place.place.Goals as goal

pub insert-requires : goal.insert-requires
insert-requires g c = rw (c.count_before-index.ensures, ← c.deref.ensures.len) (prefix_len-le-length _ _)

pub returns-clause-ok : goal.returns-clause-ok
returns-clause-ok g c = rw (c.in_ok-insert.ensures.items, c.count_before-index.ensures, c.deref.ensures.value) (insert-placed g.T.Named.name_order c.args.item c.args.records.now.items)
