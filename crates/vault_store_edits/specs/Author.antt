-- The text by which a row holds who admitted an entry.
use Rattle.std.specs.Prelude.{ℕ, List}
use Rattle.vault_core_model.specs.declared.records.Author.{Author}
use Rattle.vault_core_model.specs.declared.records.Author.TheVariants as author

-- the caller's name or the rule's id
abbrev pub author_text : Author → List ℕ
author_text (author.Caller name) = name
author_text (author.Rule id) = id
