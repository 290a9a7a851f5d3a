use Rattle.vault_core_list.proofs.list_keeper.ListKeeperKeeper.note.Goals as goal

pub returns-clause-value : goal.returns-clause-value
returns-clause-value c = λ _. rw (← c.self.view_is, ← c.deref.ensures.value) c.in_ok-note.ensures
