use Rattle.std.proofs.Common.{refl, inl, inr}
use Rattle.std.specs.Fmt.{digits}
use Rattle.vault_audit_schema.proofs.index.indexes_of.Goals as goal

pub returns-in-First : goal.returns-in-First
unfolding digits
returns-in-First c = elim c.in-First.is [ inl e ↦ rw e refl | inr e ↦ rw e refl ]

pub returns-in-Third : goal.returns-in-Third
unfolding digits
returns-in-Third c = elim c.in-Third.is [ inl e ↦ rw e refl | inr e ↦ rw e refl ]
