use Rattle.std.proofs.Common.{Bool, cond, List, ℕ, ap₂, subst, ◌∙◌}
use Rattle.sqlite_disk.specs.Events.{Event, replay}
use Rattle.sqlite_wal.specs.Recovery.{Image}
use Rattle.sqlite.specs.Files.{file_state}
use Rattle.sqlite.specs.Start.{FindsIn}
use Rattle.vaultctl_machine_stores.proofs.connect.connect_there.Goals as goal

abbrev image : List ℕ → List ℕ → Image
image log db = record { log = log; db = db }

abbrev seen : List ℕ → List ℕ → Bool → List Event → List ℕ
seen log db is_log history = (replay (cond is_log log db) history).seen

-- what the files held as they were opened is what they hold before their first read, and what was read of them is the same
pub returns-in-Ok-open_files_with-clause-found : goal.returns-in-Ok-open_files_with-clause-found
returns-in-Ok-open_files_with-clause-found g c clean =
    let (log, db) = c.in_ok-files.ensures.fresh in
    let found = c.in-Ok-open_files_with.ensures.found clean in
    let read_log = c.in-Ok.ensures.log.seen in
    let read_db = c.in-Ok.ensures.db.seen in
    let same = ap₂ image (read_log ∙ ap₂ (seen g.S.Start.log g.S.Start.db) log.0 log.1) (read_db ∙ ap₂ (seen g.S.Start.log g.S.Start.db) db.0 db.1) in
    subst (λ i. FindsIn i (file_state c.in-Ok-open_files_with.conn)) same (record { holds = found.holds; reads = found.reads })
