-- What the statements on meta, departments, callers, buckets and rules mean.
use Rattle.std.proofs.Common.{inl, Bool, true, false, ℕ, pos, List, [], ◌∷◌, codes, refl}
use Rattle.sqlite_tied.specs.Compute.{everything}
use Rattle.sqlite.specs.declared.types.Value.TheVariants.{Null, Int}
use Rattle.sqlite.specs.Term.{Term, lit, col}
use Rattle.sqlite.specs.Command.TheVariants.{Update, Delete}
use Rattle.sqlite.specs.Listing.{understood}
use Rattle.vault_audit_model.specs.Queries.{table_scan}
use Rattle.vault_audit_model.specs.Tables.{meta_tree, departments_tree, callers_tree, buckets_tree, rules_tree, vault_schema}
use Rattle.vault_store_edits.specs.Queries.{SelectsIfKnown, equals, rowids_where}
use Rattle.vault_store_edits.proofs.StatementLemmas.{Means}

-- ---- departments

abbrev pub sums_text : List ℕ
sums_text = codes "UPDATE departments SET admitted = ?2, held = ?3, removed = ?4, weighted = ?5, closed = ?6, received = ?7, handed = ?8 WHERE name = ?1"

abbrev pub sums_project : List Term
sums_project = col 1 0 ∷ col 1 1 ∷ col 0 1 ∷ col 0 2 ∷ col 0 3 ∷ col 0 4 ∷ col 0 5 ∷ col 0 6 ∷ col 0 7 ∷ []

-- the first column is the first parameter
abbrev pub by_name : List Term
by_name = equals 1 0 ∷ []

pub sums_is : (external : Bool) → Means external sums_text (Update 1 (record { lets = []; body = table_scan departments_tree by_name (col 1 0 ∷ sums_project) }))
unfolding understood everything
sums_is false = record { command = refl; plain = (refl, refl) }
sums_is true = record { command = refl; plain = (refl, refl) }

pub finds_department : (external : Bool) → SelectsIfKnown (vault_schema external) (codes "SELECT rowid FROM departments WHERE name = ?1") (rowids_where departments_tree by_name)
unfolding understood everything
finds_department false = inl (record { names = codes "rowid" ∷ []; is = refl; plain = (refl, refl); unlisted = refl })
finds_department true = inl (record { names = codes "rowid" ∷ []; is = refl; plain = (refl, refl); unlisted = refl })

-- ---- callers

abbrev pub closed_text : List ℕ
closed_text = codes "UPDATE callers SET closed = 1 WHERE name = ?1"

abbrev pub closed_project : List Term
closed_project = col 1 0 ∷ col 1 1 ∷ col 1 2 ∷ col 1 3 ∷ lit (Int (pos 1)) ∷ []

pub closed_is : (external : Bool) → Means external closed_text (Update 2 (record { lets = []; body = table_scan callers_tree by_name (col 1 0 ∷ closed_project) }))
unfolding understood everything
closed_is false = record { command = refl; plain = (refl, refl) }
closed_is true = record { command = refl; plain = (refl, refl) }

pub finds_caller : (external : Bool) → SelectsIfKnown (vault_schema external) (codes "SELECT rowid FROM callers WHERE name = ?1") (rowids_where callers_tree by_name)
unfolding understood everything
finds_caller false = inl (record { names = codes "rowid" ∷ []; is = refl; plain = (refl, refl); unlisted = refl })
finds_caller true = inl (record { names = codes "rowid" ∷ []; is = refl; plain = (refl, refl); unlisted = refl })

-- ---- buckets

abbrev pub default_text : List ℕ
default_text = codes "UPDATE buckets SET mode = ?2, days = ?3, years = ?4 WHERE name = ?1"

abbrev pub default_project : List Term
default_project = col 1 0 ∷ col 1 1 ∷ col 1 2 ∷ col 0 1 ∷ col 0 2 ∷ col 0 3 ∷ []

pub default_is : (external : Bool) → Means external default_text (Update 3 (record { lets = []; body = table_scan buckets_tree by_name (col 1 0 ∷ default_project) }))
unfolding understood everything
default_is false = record { command = refl; plain = (refl, refl) }
default_is true = record { command = refl; plain = (refl, refl) }

abbrev pub owner_text : List ℕ
owner_text = codes "UPDATE buckets SET dept = ?2 WHERE name = ?1"

abbrev pub owner_project : List Term
owner_project = col 1 0 ∷ col 1 1 ∷ col 0 1 ∷ col 1 3 ∷ col 1 4 ∷ col 1 5 ∷ []

pub owner_is : (external : Bool) → Means external owner_text (Update 3 (record { lets = []; body = table_scan buckets_tree by_name (col 1 0 ∷ owner_project) }))
unfolding understood everything
owner_is false = record { command = refl; plain = (refl, refl) }
owner_is true = record { command = refl; plain = (refl, refl) }

pub finds_bucket : (external : Bool) → SelectsIfKnown (vault_schema external) (codes "SELECT rowid FROM buckets WHERE name = ?1") (rowids_where buckets_tree by_name)
unfolding understood everything
finds_bucket false = inl (record { names = codes "rowid" ∷ []; is = refl; plain = (refl, refl); unlisted = refl })
finds_bucket true = inl (record { names = codes "rowid" ∷ []; is = refl; plain = (refl, refl); unlisted = refl })

-- ---- rules

abbrev pub no_rules_text : List ℕ
no_rules_text = codes "DELETE FROM rules WHERE bucket = ?1"

pub no_rules_is : (external : Bool) → Means external no_rules_text (Delete 4 (record { lets = []; body = table_scan rules_tree by_name (col 1 0 ∷ []) }))
unfolding understood everything
no_rules_is false = record { command = refl; plain = (refl, refl) }
no_rules_is true = record { command = refl; plain = (refl, refl) }

pub finds_rules : (external : Bool) → SelectsIfKnown (vault_schema external) (codes "SELECT rowid FROM rules WHERE bucket = ?1") (rowids_where rules_tree by_name)
unfolding understood everything
finds_rules false = inl (record { names = codes "rowid" ∷ []; is = refl; plain = (refl, refl); unlisted = refl })
finds_rules true = inl (record { names = codes "rowid" ∷ []; is = refl; plain = (refl, refl); unlisted = refl })

-- ---- meta

-- the last columns of the table, where it has them
abbrev place_and_done : Bool → List Term
place_and_done false = []
place_and_done true = col 1 6 ∷ col 1 7 ∷ []

abbrev pub last_text : List ℕ
last_text = codes "UPDATE meta SET last = ?1"

abbrev pub last_project : Bool → List Term
last_project external = col 1 0 ∷ lit Null ∷ col 1 2 ∷ col 0 0 ∷ col 1 4 ∷ col 1 5 ∷ place_and_done external

pub last_is : (external : Bool) → Means external last_text (Update 0 (record { lets = []; body = table_scan meta_tree [] (col 1 0 ∷ last_project external) }))
unfolding understood everything
last_is false = record { command = refl; plain = (refl, refl) }
last_is true = record { command = refl; plain = (refl, refl) }

abbrev pub next_text : List ℕ
next_text = codes "UPDATE meta SET last = ?1, next = ?2"

abbrev pub next_project : Bool → List Term
next_project external = col 1 0 ∷ lit Null ∷ col 1 2 ∷ col 0 0 ∷ col 0 1 ∷ col 1 5 ∷ place_and_done external

pub next_is : (external : Bool) → Means external next_text (Update 0 (record { lets = []; body = table_scan meta_tree [] (col 1 0 ∷ next_project external) }))
unfolding understood everything
next_is false = record { command = refl; plain = (refl, refl) }
next_is true = record { command = refl; plain = (refl, refl) }

abbrev pub moves_text : List ℕ
moves_text = codes "UPDATE meta SET last = ?1, moves = ?2"

abbrev pub moves_project : Bool → List Term
moves_project external = col 1 0 ∷ lit Null ∷ col 1 2 ∷ col 0 0 ∷ col 1 4 ∷ col 0 1 ∷ place_and_done external

pub moves_is : (external : Bool) → Means external moves_text (Update 0 (record { lets = []; body = table_scan meta_tree [] (col 1 0 ∷ moves_project external) }))
unfolding understood everything
moves_is false = record { command = refl; plain = (refl, refl) }
moves_is true = record { command = refl; plain = (refl, refl) }

pub finds_meta : (external : Bool) → SelectsIfKnown (vault_schema external) (codes "SELECT rowid FROM meta") (rowids_where meta_tree [])
unfolding understood everything
finds_meta false = inl (record { names = codes "one" ∷ []; is = refl; plain = (refl, refl); unlisted = refl })
finds_meta true = inl (record { names = codes "one" ∷ []; is = refl; plain = (refl, refl); unlisted = refl })
