-- A query that gives rows shows that the connection is open.
use Rattle.std.proofs.Common.{ℕ, List, None, Some, Option, Result, Ok, Err, IsTrue, IfOk, OnOk, sym, subst, arith}
use Rattle.sqlite_value.specs.Order.{Row}
use Rattle.sqlite_resolve.specs.declared.compiled.Compiled.{Compiled}
use Rattle.sqlite_schema.specs.declared.command.Returning.{Returning}
use Rattle.sqlite.specs.declared.error.Error.{Error}
use Rattle.sqlite.specs.Listing.{understood}
use Rattle.sqlite.specs.State.{State, HasCleanDisk, Shown, ShowsRows, CommitsShowing, Survives}
use Rattle.sqlite.proofs.Callers.{IsPlain, never_commits}
use Rattle.sqlite.proofs.StateLemmas.{survives_then, survives_weaker}
use Rattle.sqlite_sql.specs.Query.{Query}
use Rattle.vault_core_model.specs.Vault.{Vault}
use Rattle.vault_store_model.specs.Keeping.{Keeps}
use Rattle.vault_store_reads.specs.Queries.{SelectsInBoth}
use Rattle.vault_store_reads.specs.Quiet.{IsQuiet, OnlyReads, ReadsQuietly}
use Rattle.sqlite_trees.specs.declared.store.Store.{Ghosts}
use Rattle.sqlite.specs.Held.{Held}

shows_open : (old new : State) (sql : List ℕ) (c : Compiled) (params : Row) (rows : List Row) (o : Option Returning) → ShowsRows old new sql c params rows o → IsTrue new.is_open
shows_open old new sql c params rows None it = it.3.0.is_open
shows_open old new sql c params rows (Some what) it = it.1.shown.is_open

pub is_open_after : (sql : List ℕ) (params : Row) (old new : State) (rows : List Row) → Shown sql params old new rows → IsTrue new.is_open
unfolding Shown
is_open_after sql params old new rows h = shows_open old new sql h.0 _ rows h.0.returning h.2

pub open_after : {X : Type 0} (sql : List ℕ) (params : Row) (old new : State) (items : X → List Row) (r : Result X Error) → IfOk r (λ x. Shown sql params old new (items x)) → OnOk r (IsTrue new.is_open)
open_after sql params old new items (Ok x) ok = is_open_after sql params old new (items x) ok
open_after sql params old new items (Err e) ok = tt

-- a query that doesn't write leaves a crash what it left before
pub quiet : (sql : List ℕ) (params : Row) (old new : State) (q : Query) → SelectsInBoth sql q → Survives old new (CommitsShowing sql params old) → Survives old new (IsQuiet old)
quiet sql params old new q it =
    survives_weaker old new _ _ (λ _ db commits v was is_open. never_commits sql params old db (subst (λ s. IsPlain (understood s sql)) (sym (was is_open).0.spells.schema) (it v.external).plain) commits)

-- so do two reads, where the first leaves the vault, and an open connection open
pub quiet_then : (a b c : State) → (HasCleanDisk b → (v : Vault) → Keeps a v → Keeps b v) → (HasCleanDisk b → IsTrue a.is_open → IsTrue b.is_open) → Survives a b (IsQuiet a) → Survives b c (IsQuiet b) → Survives a c (IsQuiet a)
quiet_then a b c keeps stays one two =
    survives_then a b c _ _ _ (λ _ db q. q)
    (λ clean db q v was is_open. let mid : HasCleanDisk b = omega (arith, clean, two.clean) in q v (keeps mid v was) (stays mid is_open)) one two

pub of_vault : (a b : State) → Survives a b (IsQuiet a) → (v : Vault) → Keeps a v → Survives a b (λ _. ¬ IsTrue a.is_open)
of_vault a b s v was = survives_weaker a b _ _ (λ _ db q. q v was) s

-- a read that is quiet changes nothing of a vault that was kept
pub only_reads : {S : Type 0} {g : Ghosts S} {old new : Held S} → ReadsQuietly g old new → OnlyReads g old new
only_reads read = record { same = read.same; honest = read.honest; mode = read.mode; crash = λ v was. of_vault _ _ read.survives v was }
