use Rattle.std.proofs.Common.{sym, subst}
use Rattle.sqlite.specs.Given.{IsPlain}
use Rattle.sqlite.specs.Held.{state}
use Rattle.sqlite.specs.Listing.{understood}
use Rattle.vault_audit_model.proofs.OutcomeLemmas.{on_ok_then}
use Rattle.vault_store_create.specs.Listings.{listing_of}
use Rattle.vault_store_create.proofs.CopyLemmas.{copies_table}
use Rattle.vault_store_create.proofs.ShownLemmas.{shown_stated}
use Rattle.vault_store_create.proofs.ListingLemmas.{reads_only}
use Rattle.vault_store_create.proofs.StopLemmas.{asks_for_rows, fails_for}
use Rattle.vault_store_create.proofs.copy.tables.copy_table.Goals as goal

pub copy_rows-requires-clause-plain : goal.copy_rows-requires-clause-plain
copy_rows-requires-clause-plain g c clean = rw c.listing.ensures (subst (λ s. IsPlain (understood s (listing_of c.args.external c.args.schema_version c.args.table))) (sym (c.requires.known clean)) (reads_only c.args.external c.args.schema_version c.args.table c.requires.copied))

pub returns-clause-copied : goal.returns-clause-copied
returns-clause-copied g c clean after inside is_open =
    let n = c.args.schema_version in
    let t = c.args.table in
    let from = state g.O.Store c.args.old.now in
    let to = state g.O.Store c.copy_rows.new.old in
    let old = state g.S.Store c.args.tx.now.conn.now in
    let new = state g.S.Store c.copy_rows.new.tx.conn.now in
    on_ok_then c.copy_rows.result (rw c.listing.ensures at (c.copy_rows.ensures.copied clean after inside is_open)) (λ it. record {
      was_open = it.2.was_open;
      is_open = it.2.is_open;
      inside = it.2.inside;
      committed = it.2.committed;
      goes = copies_table n c.args.external from.now old.now new.now t it.0 (λ v is. shown_stated c.args.external n t c.requires.copied from to v is it.0 it.1) it.2.goes;
    })

pub returns-clause-refused : goal.returns-clause-refused
returns-clause-refused g c v is was well_old well inside is_open =
    let n = c.args.schema_version in
    let t = c.args.table in
    let from = state g.O.Store c.args.old.now in
    let first = (state g.S.Store c.args.tx.now.conn.now).now in
    let has = was v is in
    fails_for c.args.external n t c.requires.copied from v is first has c.copy_rows.result ((rw c.listing.ensures at c.copy_rows.ensures.refused) (asks_for_rows c.args.external n t c.requires.copied from v is) has.schema well_old well inside is_open)
