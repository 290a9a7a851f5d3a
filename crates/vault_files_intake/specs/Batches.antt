-- What an intake does, said of its batch, of a record with its number, and of its report.
use Rattle.std.specs.Prelude.{List, Option, map}
use Rattle.csv.specs.Records.{Row as Cells, fields_of}
use Rattle.vault_core_model.specs.declared.reply.Reply.{Reply}
use Rattle.vault_core_model.specs.Vault.{Vault}
use Rattle.vault_files_intake.specs.List.{below_header}
use Rattle.vault_files_intake.specs.TakenIn.{AnswersRow, TakesBelow, TakesOne, TakesRows}
use Rattle.vault_files_intake.specs.declared.batch.Batch.{Batch}
use Rattle.vault_files_intake.specs.declared.batch.Line.{Line}
use Rattle.vault_files_intake.specs.declared.folder.File.{File}
use Rattle.vault_files_intake.specs.declared.report.IntakeReport.{IntakeReport}
use Rattle.vault_files_intake.specs.declared.report.RowReply.{RowReply}

module _ (files : Option (List File)) (b : Batch) where
  -- the record leads from v to v' and is answered so
  abbrev pub AnswersLine : Line → Vault → Reply → Vault → Type 0
  AnswersLine l v answer v' = AnswersRow files b.at b.who.now b.bucket.now b.name.now l.number (fields_of l.cells.now) v answer v'

  -- its reply stands after those of the rows above
  abbrev pub TakesLine : Line → Vault → List RowReply → List RowReply → Vault → Type 0
  TakesLine l v rows rows' v' = TakesOne files b.at b.who.now b.bucket.now b.name.now l.number (fields_of l.cells.now) v rows rows' v'

  -- these records below the header lead from v to v', with that report
  abbrev pub TakesLines : List Cells → Vault → IntakeReport → Vault → Type 0
  TakesLines below v report v' = TakesRows files b.at b.who.now b.bucket.now b.name.now 0 (map fields_of below) v report.rows.items report.stopped v'

  -- so do these with the header above them
  abbrev pub TakesRecords : List Cells → Vault → IntakeReport → Vault → Type 0
  TakesRecords records v report v' = TakesBelow files b.at b.who.now b.bucket.now b.name.now (below_header (map fields_of records)) v report.rows.items report.stopped v'
