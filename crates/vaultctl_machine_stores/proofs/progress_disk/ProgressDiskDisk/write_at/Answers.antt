use Rattle.vaultctl_machine_stores.proofs.progress_disk.ProgressDiskDisk.write_at.Goals as goal

-- a frozen file within it fails and stays as it is, field by field
pub returns-clause-frozen : goal.returns-clause-frozen
returns-clause-frozen g c frozen =
    let (failed, stays) = c.write_at.ensures.frozen frozen in
    (failed, record { frozen = stays.frozen; same = stays.same; clean = stays.clean; no_more = stays.no_more; no_fewer = stays.no_fewer })
