use Rattle.std.proofs.Common.{◌≡◌, ◌≤◌, false, map, take, None}
use Rattle.std.specs.List.{list_any}
use Rattle.csv.specs.Records.{fields_of}
use Rattle.vault_core_model.specs.Step.{Reached}
use Rattle.vault_files_intake.specs.TakenIn.{is_device_row, TakesRows}
use Rattle.vault_files_intake.proofs.intake.take_rows.Given as goal

-- the rows above were taken
abbrev pub invariant-loop-cells : goal.invariant-loop-cells
invariant-loop-cells g l = record {
  honest : g.K.Kept.is_honest l.keeper → g.K.Kept.is_honest l.fn.keeper;
  reached : g.K.Kept.is_honest l.keeper → Reached (g.K.Kept.vault l.fn.keeper) → Reached (g.K.Kept.vault l.keeper);
  files : g.F.Folder.files l.folder ≡ g.F.Folder.files l.fn.folder;
  counted : g.K.Kept.count l.fn.keeper ≤ g.K.Kept.count l.keeper;
  counted_there : g.F.Folder.count l.fn.folder ≤ g.F.Folder.count l.folder;
  steady : list_any is_device_row l.rows.items ≡ false → g.K.Kept.count l.keeper ≡ g.K.Kept.count l.fn.keeper;
  above : l.above ≡ l.cells-index;
  so_far : g.K.Kept.is_honest l.keeper → TakesRows (g.F.Folder.files l.fn.folder) l.fn.batch.at l.fn.batch.who.now l.fn.batch.bucket.now l.fn.batch.name.now 0 (map fields_of (take l.cells-index l.below)) (g.K.Kept.vault l.fn.keeper) l.rows.items None (g.K.Kept.vault l.keeper);
}
