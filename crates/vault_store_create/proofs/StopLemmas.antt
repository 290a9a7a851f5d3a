-- A row of the vault at which a copy of its tables stops.
use Rattle.std.proofs.Common.{◌≡◌, ◌⊎◌, ◌==◌, inl, inr, ℕ, List, [], ◌∷◌, ◌++◌, Bool, cond, Ok, Err, Result, IfErr, append_assoc, append-nil, refl, sym, subst, arith, true≢false}
use Rattle.std.specs.Prelude.{IsPermutation, IsTrue, true, false}
use Rattle.std.proofs.lemmas.Bool.{cases_Bool}
use Rattle.std.proofs.lemmas.Bool.Decides.{nat_tests}
use Rattle.std.proofs.lemmas.List.Sorted.{IsPermutation-append_right, IsPermutation-trans}
use Rattle.sqlite_tied.specs.Compute.{everything}
use Rattle.sqlite_value.specs.Order.{Row}
use Rattle.sqlite_sql.specs.Query.{Query}
use Rattle.sqlite.specs.Command.TheVariants.{Select}
use Rattle.sqlite.specs.declared.error.Error.{Error}
use Rattle.sqlite.specs.Effect.{Database}
use Rattle.sqlite.specs.Listing.{understood, reads_listing, IsSourceOf}
use Rattle.sqlite.specs.State.{State, IsUnchanged, Begins}
use Rattle.sqlite.proofs.Callers.{command_of}
use Rattle.vault_base.specs.declared.refusal.Table.{Table}
use Rattle.vault_base.specs.declared.refusal.Table.TheVariants as table
use Rattle.vault_base.specs.declared.refusal.Refusal.TheVariants.{Device}
use Rattle.vault_core_model.specs.Vault.{Vault}
use Rattle.vault_audit_model.specs.Faults.{refusal_of}
use Rattle.vault_audit_model.specs.declared.schema.SchemaVersion.{SchemaVersion}
use Rattle.vault_audit_model.specs.declared.schema.SchemaVersion.TheVariants.{First, Second, Third, Fourth}
use Rattle.vault_audit_model.specs.Order.{place_of}
use Rattle.vault_audit_model.specs.Spells.{AreSoundAs}
use Rattle.vault_audit_model.specs.Tables.{schema_of, vault_schema}
use Rattle.vault_audit_model.proofs.CommandLemmas.{meant}
use Rattle.vault_audit_model.proofs.PlaceLemmas.{one_table}
use Rattle.vault_audit_rows.proofs.RecordLemmas.{between, front}
use Rattle.vault_audit_rows.proofs.ScanLemmas.{goes_on_to}
use Rattle.vault_audit_rows.specs.Health.{IsMemory, Asks}
use Rattle.vault_audit_rows.specs.Walk.{Goes}
use Rattle.vault_store_model.specs.Rows.{AreSameRows, rows_in, rows_of}
use Rattle.vault_store_model.specs.Edits.{with_rows}
use Rattle.vault_store_create.specs.Copied.{PutsRow, HasFirstRows, Refuses, RefusesARow, IsRefusedFor, AsksFor, StopsAt, first_rows, registering}
use Rattle.vault_store_edits.specs.Trees.{has_table}
use Rattle.vault_store_create.specs.Listings.{listing_of}
use Rattle.vault_store_create.specs.RowsOf.{IsRowOf}
use Rattle.vault_store_create.proofs.CopyLemmas.{Adds, adds, rows_stated, not_below}
use Rattle.vault_store_create.proofs.ListingLemmas.{pairs_are, reads_meta, reads_departments, reads_callers, reads_buckets, reads_rules, reads_entries, reads_contents, reads_settings, reads_intake, reads_heads, reads_tenures, reads_tenures_later}
use Rattle.vault_store_create.proofs.RefusedLemmas.{no_device}
use Rattle.vault_store_create.proofs.ShownLemmas.{shown_stated}

-- what begins an answer begins it as long as nothing is changed
begins_from : (sql : List ℕ) (first old : State) (rows : List Row) → IsUnchanged first old → Begins sql [] old rows → Begins sql [] first rows
unfolding Begins
begins_from sql first old rows same h =
    let back = same.0.now_is in (
      h.0,
      record { is = subst (λ (d : Database). understood d.schema sql ≡ Ok h.0) back h.1.is; whole = h.1.whole; given = h.1.given; now = h.1.now },
      h.2,
      h.3,
      subst (λ (d : Database). IsSourceOf (reads_listing d.schema sql) d h.3) back h.4,
      h.5,
    )

-- ---- a row that is refused, after others that were put in

pub stopped : (external : Bool) (t : Table) (sql : List ℕ) (first : State) → AsksFor t sql first → (x y : Database) (before : List Row) (row : Row) (now : State) → IsUnchanged first now → Begins sql [] now (before ++ row ∷ [])
    → x.schema ≡ vault_schema external → Goes (λ a r b. PutsRow external t r a b) x before y → (e : Error) → (y.schema ≡ vault_schema external → IsRowOf t row → IsMemory e ⊎ Refuses external t row y)
    → IsMemory e ⊎ StopsAt external t sql first x
stopped external t sql first asks x y before row now same begins has gone e put =
    let begun = begins_from sql first now (before ++ row ∷ []) same begins in
    let stated = asks.stated same.0.was_open (before ++ row ∷ []) begun in
    let schema = (adds external t before x y (front (IsRowOf t) before (row ∷ []) stated) gone has).schema in
    elim (put schema (between (IsRowOf t) before row [] stated)) [
      | inl memory ↦ inl memory
      | inr refused ↦ inr (before, row, y, same.0.was_open, begun, gone, refused)
    ]

-- ---- the queries of a copy

pub asks_for : (external : Bool) (n : SchemaVersion) (t : Table) → IsTrue (has_table false t) → Asks (schema_of n) (listing_of external n t)
unfolding understood everything
asks_for false First table.Meta there = record { is = (omega (arith), refl, (refl, refl, refl, refl)); unlisted = refl }
asks_for false Second table.Meta there = record { is = (omega (arith), refl, (refl, refl, refl, refl)); unlisted = refl }
asks_for false Third table.Meta there = record { is = (omega (arith), refl, (refl, refl, refl, refl)); unlisted = refl }
asks_for false Fourth table.Meta there = record { is = (omega (arith), refl, (refl, refl, refl, refl)); unlisted = refl }
asks_for true First table.Meta there = record { is = (omega (arith), refl, (refl, refl, refl, refl)); unlisted = refl }
asks_for true Second table.Meta there = record { is = (omega (arith), refl, (refl, refl, refl, refl)); unlisted = refl }
asks_for true Third table.Meta there = record { is = (omega (arith), refl, (refl, refl, refl, refl)); unlisted = refl }
asks_for true Fourth table.Meta there = record { is = (omega (arith), refl, (refl, refl, refl, refl)); unlisted = refl }
asks_for external First table.Departments there = record { is = (omega (arith), refl, (refl, refl, refl, refl)); unlisted = refl }
asks_for external Second table.Departments there = record { is = (omega (arith), refl, (refl, refl, refl, refl)); unlisted = refl }
asks_for external Third table.Departments there = record { is = (omega (arith), refl, (refl, refl, refl, refl)); unlisted = refl }
asks_for external Fourth table.Departments there = record { is = (omega (arith), refl, (refl, refl, refl, refl)); unlisted = refl }
asks_for external First table.Rules there = record { is = (omega (arith), refl, (refl, refl, refl, refl)); unlisted = refl }
asks_for external Second table.Rules there = record { is = (omega (arith), refl, (refl, refl, refl, refl)); unlisted = refl }
asks_for external Third table.Rules there = record { is = (omega (arith), refl, (refl, refl, refl, refl)); unlisted = refl }
asks_for external Fourth table.Rules there = record { is = (omega (arith), refl, (refl, refl, refl, refl)); unlisted = refl }
asks_for external First table.Tenures there = record { is = (omega (arith), refl, (refl, refl, refl, refl)); unlisted = refl }
asks_for external Second table.Tenures there = record { is = (omega (arith), refl, (refl, refl, refl, refl)); unlisted = refl }
asks_for external Third table.Tenures there = record { is = (omega (arith), refl, (refl, refl, refl, refl)); unlisted = refl }
asks_for external Fourth table.Tenures there = record { is = (omega (arith), refl, (refl, refl, refl, refl)); unlisted = refl }
asks_for external n table.Callers there = record { is = (omega (arith), refl, (refl, refl, refl, refl)); unlisted = refl }
asks_for external n table.Buckets there = record { is = (omega (arith), refl, (refl, refl, refl, refl)); unlisted = refl }
asks_for external n table.Entries there = record { is = (omega (arith), refl, (refl, refl, refl, refl)); unlisted = refl }
asks_for external n table.Contents there = record { is = (omega (arith), refl, (refl, refl, refl, refl)); unlisted = refl }
asks_for external n table.Settings there = record { is = (omega (arith), refl, (refl, refl, refl, refl)); unlisted = refl }
asks_for external n table.Intake there = record { is = (omega (arith), refl, (refl, refl, refl, refl)); unlisted = refl }
asks_for external n table.Heads there = record { is = (omega (arith), refl, (refl, refl, refl, refl)); unlisted = refl }
asks_for external n table.External there = absurd (true≢false (sym there))

abbrev IsQuery : Bool → SchemaVersion → Table → Type 0
IsQuery external n t = (q : Query) × (names : List (List ℕ)) × (command_of (understood (schema_of n) (listing_of external n t)) ≡ Select (record { lets = []; body = q }) names)

query_of : (external : Bool) (n : SchemaVersion) (t : Table) → IsTrue (has_table false t) → IsQuery external n t
query_of external n table.Meta there = (_, _, meant (schema_of n) (listing_of external n table.Meta) (reads_meta external n))
query_of external n table.Departments there = (_, _, meant (schema_of n) (listing_of external n table.Departments) (reads_departments external n))
query_of external n table.Callers there = (_, _, meant (schema_of n) (listing_of external n table.Callers) (reads_callers external n))
query_of external n table.Buckets there = (_, _, meant (schema_of n) (listing_of external n table.Buckets) (reads_buckets external n))
query_of external n table.Rules there = (_, _, meant (schema_of n) (listing_of external n table.Rules) (reads_rules external n))
query_of external n table.Entries there = (_, _, meant (schema_of n) (listing_of external n table.Entries) (reads_entries external n))
query_of external n table.Contents there = (_, _, meant (schema_of n) (listing_of external n table.Contents) (reads_contents external n))
query_of external n table.Settings there = (_, _, meant (schema_of n) (listing_of external n table.Settings) (reads_settings external n))
query_of external n table.Intake there = (_, _, meant (schema_of n) (listing_of external n table.Intake) (reads_intake external n))
query_of external n table.Heads there = (_, _, meant (schema_of n) (listing_of external n table.Heads) (reads_heads external n))
query_of external First table.Tenures there = (_, _, pairs_are First)
query_of external Second table.Tenures there = (_, _, pairs_are Second)
query_of external Third table.Tenures there = (_, _, meant (schema_of Third) (listing_of external Third table.Tenures) (reads_tenures external))
query_of external Fourth table.Tenures there = (_, _, meant (schema_of Fourth) (listing_of external Fourth table.Tenures) (reads_tenures_later external))
query_of external n table.External there = absurd (true≢false (sym there))

module _ (external : Bool) (n : SchemaVersion) (t : Table) (there : IsTrue (has_table false t)) (from : State) (v : Vault) (is : AreSoundAs n from.now v) where
  abbrev new : Vault
  new = registering external v

  -- what begins an answer begins the rows of the vault
  goes_on : IsTrue from.is_open → (rows : List Row) → Begins (listing_of external n t) [] from rows → (tail : List Row) × IsPermutation (rows_of new t) (rows ++ tail)
  goes_on is_open rows begins =
      let q = query_of external n t there in
      let on = goes_on_to (listing_of external n t) from (schema_of n) is.spells.schema q.0 q.1 q.2 is_open rows begins in
      (on.0, shown_stated external n t there from from v is (rows ++ on.0) on.1)

  pub asks_for_rows : AsksFor t (listing_of external n t) from
  asks_for_rows = record {
    asks = subst (λ s. Asks s (listing_of external n t)) (sym is.spells.schema) (asks_for external n t there);
    stated = λ is_open rows begins.
        let on = goes_on is_open rows begins in
        front (IsRowOf t) rows on.0 (rows_stated new t (rows ++ on.0) on.1);
  }

  module _ (x : Database) (was : HasFirstRows new (place_of t) x) where
    -- the rows so far, in the tables
    so_far : (rows : List Row) (y : Database) → Adds external t rows x y → AreSameRows (with_rows t (λ _. rows) (first_rows new (place_of t))) (rows_in external y)
    so_far rows y added s = elim (cases_Bool (place_of t == place_of s)) [
      | inl same ↦
          let is_it : t ≡ s = one_table t s (grind (arith, nat_tests, same)) in
          let none : IsPermutation [] (rows_in external x t) = subst (λ b. IsPermutation (cond b (rows_of new t) []) (rows_in external x t)) (not_below (place_of t)) (was.rows t) in
          let put : IsPermutation rows (rows_in external y t) = subst (λ rs. IsPermutation rs (rows_in external y t)) (append-nil rows) (IsPermutation-trans _ _ _ (IsPermutation-append_right rows _ _ none) added.here) in
          rw same (subst (λ u. IsPermutation rows (rows_in external y u)) is_it put)
      | inr other ↦ rw other (IsPermutation-trans _ _ _ (was.rows s) (added.beside s other))
    ]

    pub stops_for : (e : Error) → IsMemory e ⊎ StopsAt external t (listing_of external n t) from x → IsRefusedFor new e
    stops_for e (inl memory) = inl memory
    stops_for e (inr (before, row, now, is_open, begins, gone, refused)) =
        let on = goes_on is_open (before ++ row ∷ []) begins in
        let stated = rows_stated new t ((before ++ row ∷ []) ++ on.0) on.1 in
        let added = adds external t before x now (front (IsRowOf t) before (row ∷ []) (front (IsRowOf t) (before ++ row ∷ []) on.0 stated)) gone was.schema in
        inr (record {
          table = t;
          before = before;
          row = row;
          after = on.0;
          all = subst (IsPermutation (rows_of new t)) (append_assoc before (row ∷ []) on.0) on.1;
          now = now;
          schema = added.schema;
          has = so_far before now added;
          refused = refused;
        })

    pub fails_for : {A : Type 0} (r : Result A Error) → IfErr r (λ e. IsMemory e ⊎ StopsAt external t (listing_of external n t) from x) → IfErr r (IsRefusedFor new)
    fails_for (Ok a) h = tt
    fails_for (Err e) h = stops_for e h

-- what is reported as a failure, though the stores work, is a row that was refused
pub refused_row : (v : Vault) (e : Error) → IsRefusedFor v e → refusal_of e ≡ Device → RefusesARow v
refused_row v e (inl memory) stated = absurd (no_device e memory stated)
refused_row v e (inr it) stated = it
