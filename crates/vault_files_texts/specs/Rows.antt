-- What is written for each entry that is handed on.
use Rattle.std.specs.Prelude.{◌≡◌, ℕ, true, false, List, Option}
use Rattle.std.specs.Io.KnownBytes.{Appends}
use Rattle.vault_core_model.specs.Handing.{Taking}
use Rattle.vault_files_texts.specs.declared.rows.RegisterRows.{RegisterRows}
use Rattle.vault_files_texts.specs.Register.{row}
use Rattle.vault_io.specs.Begins.{Begins}

-- the record of the entry is written to the same writer; where it isn't taken, a beginning of it
abbrev pub WritesRow : {W : Type 0} → (W → Option (List ℕ)) → Taking (RegisterRows W)
WritesRow contents s e true t = (t.writer.ghost_name ≡ s.writer.ghost_name) × Appends (contents s.writer.now) (contents t.writer.now) (row e)
WritesRow contents s e false t = (t.writer.ghost_name ≡ s.writer.ghost_name) × Begins (contents s.writer.now) (contents t.writer.now) (row e)
