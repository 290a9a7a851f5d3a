-- What is known of a vault.
use Rattle.std.specs.Prelude.{◌≡◌, Some, IfSome}
use Rattle.vault_core_model.specs.Totals.{IsRowFor, bucket_bytes, bucket_weight}
use Rattle.vault_core_model.specs.Vault.{Vault, config_of}
use Rattle.vault_audit_model.specs.Spells.{meta_of}
use Rattle.vault_store_model.specs.declared.known.Known.{Known}

-- each thing that is kept in memory is the vault's
abbrev pub AreKnown : Known → Vault → Type 0
AreKnown k v =
    IfSome k.meta (λ m. m ≡ meta_of v)
    × IfSome k.bucket (λ b. config_of v b.name ≡ Some b.config)
    × IfSome k.sums (λ d. IsRowFor v d.name d.sums)
    × IfSome k.load (λ l. (l.bytes ≡ bucket_bytes v l.name) × (l.weight ≡ bucket_weight v l.name))
