-- What the statements mean.
use Rattle.std.proofs.Common.{ℕ, pos, negsuc, List, [], ◌∷◌, codes, true, false, refl}
use Rattle.sqlite_tied.specs.Compute.{everything}
use Rattle.sqlite_value.specs.declared.value.Value.TheVariants.{Null, Int}
use Rattle.sqlite_value.specs.declared.keys.Collation.TheVariants.{Binary}
use Rattle.sqlite_value.specs.declared.keys.Key.{Key}
use Rattle.sqlite_value.specs.Keys.{ascending}
use Rattle.sqlite_sql.specs.declared.ops.BinaryOp.TheVariants.{Compare, Is}
use Rattle.sqlite_sql.specs.declared.ops.CompareOp.TheVariants.{Eq, Ne, Gt, Lt}
use Rattle.sqlite_sql.specs.Term.{Term, lit, col, op2}
use Rattle.sqlite.specs.Listing.{understood}
use Rattle.vault_audit_model.specs.Tables.{rules, settings, tenures, buckets_tree, entries_tree, heads_tree, rules_tree, settings_tree, tenures_tree}
use Rattle.vault_audit_schema.specs.Texts.{names_of, select_text, terms_of}
use Rattle.vault_store_reads.specs.Queries.{SelectsInBoth}
use Rattle.vault_store_reads.proofs.SelectLemmas.{select_of}

abbrev pub no_limit : Term
no_limit = lit (Int (negsuc 0))

abbrev pub descending : Key
descending = record { collation = Binary; descending = true }

-- ---- the last setting of a version

abbrev pub setting_text : List ℕ
setting_text = codes "SELECT n, mode, until, hold FROM settings WHERE id = ?1 ORDER BY n DESC LIMIT 1"

abbrev pub setting_tests : List Term
setting_tests = op2 (Compare Eq Binary) (col 1 1) (col 0 0) ∷ []

abbrev pub setting_shown : List Term
setting_shown = col 1 2 ∷ col 1 5 ∷ col 1 6 ∷ col 1 7 ∷ []

abbrev pub setting_order : List (Term × Key)
setting_order = (col 1 2, descending) ∷ []

pub setting_is : SelectsInBoth setting_text (select_of settings_tree setting_tests setting_shown setting_order (lit (Int (pos 1))))
unfolding understood everything
setting_is false = record { names = codes "n" ∷ codes "mode" ∷ codes "until" ∷ codes "hold" ∷ []; is = refl; plain = (refl, refl); unlisted = refl }
setting_is true = record { names = codes "n" ∷ codes "mode" ∷ codes "until" ∷ codes "hold" ∷ []; is = refl; plain = (refl, refl); unlisted = refl }

-- ---- all settings of a version

abbrev pub settings_text : List ℕ
settings_text = select_text settings (codes " WHERE id = ?1 ORDER BY n")

abbrev pub settings_shown : List Term
settings_shown = terms_of settings

abbrev pub settings_order : List (Term × Key)
settings_order = (col 1 2, ascending Binary) ∷ []

pub settings_is : SelectsInBoth settings_text (select_of settings_tree setting_tests settings_shown settings_order no_limit)
unfolding understood everything
settings_is false = record { names = names_of settings; is = refl; plain = (refl, refl); unlisted = refl }
settings_is true = record { names = names_of settings; is = refl; plain = (refl, refl); unlisted = refl }

-- ---- the rules of a bucket

abbrev pub rules_text : List ℕ
rules_text = select_text rules (codes " WHERE bucket = ?1 ORDER BY n")

abbrev pub rules_tests : List Term
rules_tests = op2 (Compare Eq Binary) (col 1 1) (col 0 0) ∷ []

abbrev pub rules_shown : List Term
rules_shown = terms_of rules

abbrev pub rules_order : List (Term × Key)
rules_order = (col 1 2, ascending Binary) ∷ []

pub rules_is : SelectsInBoth rules_text (select_of rules_tree rules_tests rules_shown rules_order no_limit)
unfolding understood everything
rules_is false = record { names = names_of rules; is = refl; plain = (refl, refl); unlisted = refl }
rules_is true = record { names = names_of rules; is = refl; plain = (refl, refl); unlisted = refl }

-- ---- the tenures of a version, and the last of them

abbrev pub tenures_text : List ℕ
tenures_text = select_text tenures (codes " WHERE id = ?1 ORDER BY n")

abbrev pub last_tenure_text : List ℕ
last_tenure_text = select_text tenures (codes " WHERE id = ?1 ORDER BY n DESC LIMIT 1")

abbrev pub tenures_tests : List Term
tenures_tests = op2 (Compare Eq Binary) (col 1 1) (col 0 0) ∷ []

abbrev pub tenures_shown : List Term
tenures_shown = terms_of tenures

abbrev pub tenures_order : List (Term × Key)
tenures_order = (col 1 2, ascending Binary) ∷ []

abbrev pub last_tenure_order : List (Term × Key)
last_tenure_order = (col 1 2, descending) ∷ []

pub tenures_is : SelectsInBoth tenures_text (select_of tenures_tree tenures_tests tenures_shown tenures_order no_limit)
unfolding understood everything
tenures_is false = record { names = names_of tenures; is = refl; plain = (refl, refl); unlisted = refl }
tenures_is true = record { names = names_of tenures; is = refl; plain = (refl, refl); unlisted = refl }

pub last_tenure_is : SelectsInBoth last_tenure_text (select_of tenures_tree tenures_tests tenures_shown last_tenure_order (lit (Int (pos 1))))
unfolding understood everything
last_tenure_is false = record { names = names_of tenures; is = refl; plain = (refl, refl); unlisted = refl }
last_tenure_is true = record { names = names_of tenures; is = refl; plain = (refl, refl); unlisted = refl }

-- ---- the held entries of a key, the newest first

-- by their ids
abbrev pub entries_order : List (Term × Key)
entries_order = (col 1 0, ascending Binary) ∷ []

-- by removal, which those that are held have none of, and then by the latest id
abbrev pub held_order : List (Term × Key)
held_order = (col 1 10, ascending Binary) ∷ (col 1 0, descending) ∷ []

abbrev pub entries_text : List ℕ
entries_text = codes "SELECT id, marker, size, admitted FROM entries WHERE bucket = ?1 AND key = ?2 AND removed IS NULL ORDER BY removed, id DESC LIMIT ?3"

abbrev pub entries_tests : List Term
entries_tests = op2 (Compare Eq Binary) (col 1 2) (col 0 0) ∷ op2 (Compare Eq Binary) (col 1 3) (col 0 1) ∷ op2 (Is Binary) (col 1 10) (lit Null) ∷ []

abbrev pub entries_shown : List Term
entries_shown = col 1 0 ∷ col 1 4 ∷ col 1 5 ∷ col 1 7 ∷ []

pub entries_is : SelectsInBoth entries_text (select_of entries_tree entries_tests entries_shown held_order (col 0 2))
unfolding understood everything
entries_is false = record { names = codes "id" ∷ codes "marker" ∷ codes "size" ∷ codes "admitted" ∷ []; is = refl; plain = (refl, refl); unlisted = refl }
entries_is true = record { names = codes "id" ∷ codes "marker" ∷ codes "size" ∷ codes "admitted" ∷ []; is = refl; plain = (refl, refl); unlisted = refl }

-- ---- the newest of them besides one

abbrev pub newest_text : List ℕ
newest_text = codes "SELECT id FROM entries WHERE bucket = ?1 AND key = ?2 AND id <> ?3 AND removed IS NULL ORDER BY removed, id DESC LIMIT 1"

abbrev pub newest_tests : List Term
newest_tests =
    op2 (Compare Eq Binary) (col 1 2) (col 0 0) ∷ op2 (Compare Eq Binary) (col 1 3) (col 0 1) ∷ op2 (Compare Ne Binary) (col 1 0) (col 0 2) ∷ op2 (Is Binary) (col 1 10) (lit Null) ∷ []

pub newest_is : SelectsInBoth newest_text (select_of entries_tree newest_tests (col 1 0 ∷ []) held_order (lit (Int (pos 1))))
unfolding understood everything
newest_is false = record { names = codes "id" ∷ []; is = refl; plain = (refl, refl); unlisted = refl }
newest_is true = record { names = codes "id" ∷ []; is = refl; plain = (refl, refl); unlisted = refl }

-- ---- the ids of a key's held entries, and of those that are older than one

abbrev pub ids_text : List ℕ
ids_text = codes "SELECT id FROM entries WHERE bucket = ?1 AND key = ?2 AND removed IS NULL ORDER BY removed, id DESC LIMIT ?3"

pub ids_is : SelectsInBoth ids_text (select_of entries_tree entries_tests (col 1 0 ∷ []) held_order (col 0 2))
unfolding understood everything
ids_is false = record { names = codes "id" ∷ []; is = refl; plain = (refl, refl); unlisted = refl }
ids_is true = record { names = codes "id" ∷ []; is = refl; plain = (refl, refl); unlisted = refl }

abbrev pub older_text : List ℕ
older_text = codes "SELECT id FROM entries WHERE bucket = ?1 AND key = ?2 AND id < ?3 AND removed IS NULL ORDER BY id DESC LIMIT ?4"

abbrev pub older_tests : List Term
older_tests =
    op2 (Compare Eq Binary) (col 1 2) (col 0 0) ∷ op2 (Compare Eq Binary) (col 1 3) (col 0 1) ∷ op2 (Compare Lt Binary) (col 1 0) (col 0 2) ∷ op2 (Is Binary) (col 1 10) (lit Null) ∷ []

abbrev pub older_order : List (Term × Key)
older_order = (col 1 0, descending) ∷ []

pub older_is : SelectsInBoth older_text (select_of entries_tree older_tests (col 1 0 ∷ []) older_order (col 0 3))
unfolding understood everything
older_is false = record { names = codes "id" ∷ []; is = refl; plain = (refl, refl); unlisted = refl }
older_is true = record { names = codes "id" ∷ []; is = refl; plain = (refl, refl); unlisted = refl }

-- ---- the names of buckets

abbrev pub buckets_text : List ℕ
buckets_text = codes "SELECT name FROM buckets WHERE name > ?1 ORDER BY name LIMIT ?2"

abbrev pub buckets_tests : List Term
buckets_tests = op2 (Compare Gt Binary) (col 1 1) (col 0 0) ∷ []

abbrev pub buckets_order : List (Term × Key)
buckets_order = (col 1 1, ascending Binary) ∷ []

pub buckets_is : SelectsInBoth buckets_text (select_of buckets_tree buckets_tests (col 1 1 ∷ []) buckets_order (col 0 1))
unfolding understood everything
buckets_is false = record { names = codes "name" ∷ []; is = refl; plain = (refl, refl); unlisted = refl }
buckets_is true = record { names = codes "name" ∷ []; is = refl; plain = (refl, refl); unlisted = refl }

-- ---- the keys of a bucket

abbrev pub keys_text : List ℕ
keys_text = codes "SELECT key FROM heads WHERE bucket = ?1 AND key > ?2 ORDER BY key LIMIT ?3"

abbrev pub keys_tests : List Term
keys_tests = op2 (Compare Eq Binary) (col 1 1) (col 0 0) ∷ op2 (Compare Gt Binary) (col 1 2) (col 0 1) ∷ []

abbrev pub keys_order : List (Term × Key)
keys_order = (col 1 2, ascending Binary) ∷ []

pub keys_is : SelectsInBoth keys_text (select_of heads_tree keys_tests (col 1 2 ∷ []) keys_order (col 0 2))
unfolding understood everything
keys_is false = record { names = codes "key" ∷ []; is = refl; plain = (refl, refl); unlisted = refl }
keys_is true = record { names = codes "key" ∷ []; is = refl; plain = (refl, refl); unlisted = refl }
