-- The removed entries, handed on one after another.
use Rattle.std.proofs.Common.{◌≡◌, ◌⊎◌, inl, inr, List, [], ◌∷◌, ◌++◌, map, length, drop, Bool, true, false, Option, Some, None, Result, Ok, Err, IfErr, OnErr, OnOk, IsTrue, arith, refl, sym, ap, subst, ◌∙◌}
use Rattle.std.specs.Borrow.{Bor}
use Rattle.std.proofs.Math.Logic.{∥∥₁_elim, ∥∥₁_map}
use Rattle.std.proofs.Math.Seq.{drop-append_seam}
use Rattle.std.specs.Coded.{Coded-set, coded_list}
use Rattle.sqlite_value.specs.Order.{Row}
use Rattle.sqlite_value.specs.contracts.row.Row as row
use Rattle.sqlite_schema.specs.contracts.schema.Schema as schema
use Rattle.sqlite.specs.declared.error.Error.{Error}
use Rattle.sqlite.specs.declared.error.Error.TheVariants.{SqliteFailure}
use Rattle.sqlite.specs.declared.error.ErrorCode.TheVariants.{OutOfMemory}
use Rattle.sqlite.specs.declared.rows.stream.Rows.{Rows}
use Rattle.sqlite.specs.Next.{HasMoved}
use Rattle.sqlite_trees.specs.declared.store.Store as store
use Rattle.sqlite.specs.Given.{HasGiven, HasBegun, IsRefused}
use Rattle.sqlite.specs.Held.{Held, state}
use Rattle.sqlite.specs.Listing.{understood}
use Rattle.sqlite.specs.State.{State, HasCleanDisk, Survives, CommitsShowing, Shown, Begins, IsUnchanged, IsRolledBack, Fails}
use Rattle.sqlite.proofs.Callers.{IsPlain, begun_plain, given_begin, unchanged_then}
use Rattle.sqlite.proofs.StateLemmas.{survives_then}
use Rattle.vault_core_model.specs.declared.records.Entry.{Entry}
use Rattle.vault_core_model.specs.Handing.{Taking, TakesAll, TakesSome, Refuses, Hands}
use Rattle.vault_core_model.specs.Reads.{removed_entries}
use Rattle.vault_core_model.specs.Vault.{Vault}
use Rattle.vault_audit_model.specs.Limits.{IsEntry}
use Rattle.vault_audit_model.specs.Rows.{entry_row}
use Rattle.vault_audit_model.specs.Tables.{vault_schema}
use Rattle.vault_audit_model.proofs.SameRows.{same_entry}
use Rattle.vault_audit_rows.specs.Health.{IsMemory}
use Rattle.vault_audit_rows.specs.Records.{ReportsOne}
use Rattle.vault_audit_rows.specs.Walk.{Goes}
use Rattle.vault_audit_rows.proofs.ScanLemmas.{goes_on_to}
use Rattle.vault_audit_rows.proofs.WalkLemmas.{goes_on}
use Rattle.vault_store_model.specs.Keeping.{Keeps}
use Rattle.vault_store_reads.specs.Quiet.{IsOpenIfOk, IsQuiet, OnlyReads, ReadsQuietly}
use Rattle.vault_store_reads.specs.Wants.{WantsMemoryIfErr}
use Rattle.vault_store_reads.proofs.OpenLemmas.{only_reads, quiet}
use Rattle.vault_store_reads.proofs.QueryLemmas.{finds, keeps_after, unchanged_keeps, was_open}
use Rattle.vault_store_reads.proofs.WantLemmas.{cause_of}
use Rattle.vault_store_walks.specs.Handed.{Takes, as_fault}
use Rattle.vault_store_walks.proofs.RemovedLemmas.{found_removed, removed_query}
use Rattle.vault_store_walks.proofs.ReadableRows.{removed_readable}
use Rattle.vault_store_walks.proofs.WalkTexts.{removed_text, removed_is, removed_command, removed_asked}

module _ {T : Type 0} (takes : Taking T) where
  same_one : (row : Row) (x e : Entry) → row ≡ entry_row x → row ≡ entry_row e → x ≡ e
  same_one row x e is_x is_e = same_entry x e (sym is_x ∙ is_e)

  pub some_taken : (s t : T) (given tail : List Row) (es : List Entry) → Goes (Takes takes) s given t → given ++ tail ≡ map entry_row es → TakesSome takes s es t
  some_taken s t [] tail [] same are = sym same
  some_taken s t [] tail (e ∷ es) same are = inl (sym same)
  some_taken s t (row ∷ rows) tail [] goes are = absurd cc
  some_taken s t (row ∷ rows) tail (e ∷ es) (mid, (x, is, took), more) are =
      let first : row ≡ entry_row e = cc in
      let rest : rows ++ tail ≡ map entry_row es = cc in
      inr (mid, subst (λ y. takes s y true mid) (same_one row x e is first) took, some_taken mid t rows tail es more rest)

  pub all_taken : (s t : T) (given : List Row) (es : List Entry) → Goes (Takes takes) s given t → given ≡ map entry_row es → TakesAll takes s es t
  all_taken s t [] [] same are = sym same
  all_taken s t [] (e ∷ es) same are = absurd cc
  all_taken s t (row ∷ rows) [] goes are = absurd cc
  all_taken s t (row ∷ rows) (e ∷ es) (mid, (x, is, took), more) are =
      let first : row ≡ entry_row e = cc in
      let rest : rows ≡ map entry_row es = cc in
      (mid, subst (λ y. takes s y true mid) (same_one row x e is first) took, all_taken mid t rows es more rest)

  pub one_refused : (s t u : T) (given : List Row) (row : Row) (x : Entry) (tail : List Row) (es : List Entry) → Goes (Takes takes) s given t → row ≡ entry_row x → takes t x false u → (given ++ row ∷ []) ++ tail ≡ map entry_row es → Refuses takes s es u
  one_refused s t u [] row x tail [] same is left are = absurd cc
  one_refused s t u [] row x tail (e ∷ es) same is left are =
      let first : row ≡ entry_row e = cc in
      inl (subst (λ y. takes s y false u) (same_one row x e is first) (subst (λ y. takes y x false u) (sym same) left))
  one_refused s t u (r ∷ rows) row x tail [] goes is left are = absurd cc
  one_refused s t u (r ∷ rows) row x tail (e ∷ es) (mid, (y, its, took), more) is left are =
      let first : r ≡ entry_row e = cc in
      let rest : (rows ++ row ∷ []) ++ tail ≡ map entry_row es = cc in
      inr (mid, subst (λ z. takes s z true mid) (same_one r y e its first) took, one_refused mid t u rows row x tail es more is left rest)

  -- nothing taken is some
  pub none_taken : (s : T) (es : List Entry) → TakesSome takes s es s
  none_taken s [] = refl
  none_taken s (e ∷ es) = inl refl

-- rows that begin the answer begin the rows of the removed entries
begin_removed : (s : State) (v : Vault) → Keeps s v → IsTrue s.is_open → (rows : List Row) → Begins removed_text [] s rows → (tail : List Row) × (rows ++ tail ≡ map entry_row (removed_entries v))
begin_removed s v keeps is_open rows begins =
    let on = goes_on_to removed_text s (vault_schema v.external) (keeps is_open).0.spells.schema _ _ (removed_command v.external) is_open rows begins in
    (on.0, found_removed v (rows ++ on.0) (finds removed_text [] s s v keeps (rows ++ on.0) on.1))

-- rows can be equal in one way only
same_rows : (xs ys : List Row) → IsProp (xs ≡ ys)
same_rows xs ys = Coded-set (coded_list row.the_row.coded) xs ys

-- how the rows of the removed entries go on after these
pub on_removed : (s : State) (v : Vault) → ∥ Keeps s v ∥₁ → IsTrue s.is_open → (rows : List Row) → Begins removed_text [] s rows → (tail : List Row) × (rows ++ tail ≡ map entry_row (removed_entries v))
on_removed s v kept is_open rows begins =
    let all = map entry_row (removed_entries v) in (
      drop (length rows) all,
      ∥∥₁_elim kept (same_rows _ _) (λ keeps.
          let it = begin_removed s v keeps is_open rows begins in
          ap (λ l. rows ++ drop (length rows) l) (sym it.1) ∙ ap (λ l. rows ++ l) (drop-append_seam rows it.0) ∙ it.1),
    )

pub all_removed : (old new : State) (v : Vault) → ∥ Keeps old v ∥₁ → (rows : List Row) → Shown removed_text [] old new rows → rows ≡ map entry_row (removed_entries v)
all_removed old new v kept rows shown = ∥∥₁_elim kept (same_rows _ _) (λ keeps. found_removed v rows (finds removed_text [] old new v keeps rows shown))

pub still_kept : (old new : State) (v : Vault) → IsUnchanged old new ⊎ IsRolledBack old new → ∥ Keeps old v ∥₁ → ∥ Keeps new v ∥₁
still_kept old new v moved kept = ∥∥₁_map kept (unchanged_keeps old new v moved)

-- ---- a query that begins

module _ {S : Type 0} (g : store.Ghosts S) where
  pub begun_removed : (old new : Held S) (v : Vault) → ∥ Keeps (state g old) v ∥₁ → HasBegun g removed_text [] old new → HasGiven g removed_text [] new [] × IsUnchanged (state g old) (state g new)
  begun_removed old new v was (inl h) = h
  begun_removed old new v was (inr h) =
      let schema : (state g old).now.schema ≡ vault_schema v.external = ∥∥₁_elim was (Coded-set schema.the_row.coded _ _) (λ keeps. (keeps (was_open removed_text [] (state g old) (state g new) _ h.1)).0.spells.schema) in
      begun_plain g removed_text [] old new (subst (λ s. IsPlain (understood s removed_text)) (sym schema) (removed_is v.external).plain) (inr h)

  -- the rows so far begin those of the removed entries
  pub given_removed : (old now : Held S) (v : Vault) → ∥ Keeps (state g old) v ∥₁ → IsUnchanged (state g old) (state g now) → (rows : List Row) → HasGiven g removed_text [] now rows → (tail : List Row) × (rows ++ tail ≡ map entry_row (removed_entries v))
  given_removed old now v was same rows given =
      on_removed (state g now) v (still_kept (state g old) (state g now) v (inl same) was) same.0.is_open rows (given_begin g removed_text [] now rows given)

pub undone : (old new : State) (e : Error) → Fails old new ⊥ e ⊎ IsUnchanged old new → IsUnchanged old new ⊎ IsRolledBack old new
undone old new e (inl fails) = inr fails.3
undone old new e (inr same) = inl same

moved_or_undone : {X : Type 0} (old new : State) (r : Result X Error) → OnOk r (IsUnchanged old new) → IfErr r (λ e. Fails old new ⊥ e ⊎ IsUnchanged old new) → IsUnchanged old new ⊎ IsRolledBack old new
moved_or_undone old new (Ok x) same kept = inl same
moved_or_undone old new (Err e) same kept = undone old new e kept

-- ---- a walk as far as it has come, and how it ends

module _ {S T : Type 0} (g : store.Ghosts S) (takes : Taking T) (old : Held S) (from : T) where
  -- the entries of the rows that were given were taken
  pub record Walking (now : Held S) (to : T) : Type 0 where
    pub survives : Survives (state g old) (state g now) (IsQuiet (state g old))
    pub mode : old.in_transaction ≡ false → now.in_transaction ≡ false
    pub rows : HasCleanDisk (state g now) → (v : Vault) → ∥ Keeps (state g old) v ∥₁ → (given : List Row) × HasGiven g removed_text [] now given × IsUnchanged (state g old) (state g now) × Goes (Takes takes) from given to

  -- what `walk_removed` ensures
  pub record HasWalked (new : Held S) (to : T) (result : Result Bool Error) : Type 0 where
    pub value : HasCleanDisk (state g new) → (v : Vault) → ∥ Keeps (state g old) v ∥₁ → Hands takes from (removed_entries v) (as_fault result) to
    pub read : OnlyReads g old new
    pub opened : IsOpenIfOk g new result
    pub memory : WantsMemoryIfErr g old new result

  pub begun : (now : Held S) → (HasCleanDisk (state g now) → HasBegun g removed_text [] old now) → Survives (state g old) (state g now) (CommitsShowing removed_text [] (state g old)) → (old.in_transaction ≡ false → now.in_transaction ≡ false) → Walking now from
  begun now begins kept alone = record {
    survives = quiet removed_text [] _ _ removed_query removed_is kept;
    mode = alone;
    rows = λ clean v was. let it = begun_removed g old now v was (begins clean) in ([], it.0, it.1, refl);
  }

  -- the query doesn't begin
  pub not_begun : {X : Type 0} (new : Held S) (e : Error) (r : Result X Error) → r ≡ Err e → OnErr r (IsRefused g removed_text [] old r new) → HasWalked new from (Err e)
  not_begun new e r is held = let refused = rw is at held in record {
    value = λ clean v was. none_taken takes from (removed_entries v);
    read = only_reads (record {
      same = λ clean v was. keeps_after removed_text [] (state g old) (state g new) v was (λ (rows : List Row). rows) removed_query removed_is (Err e) tt (refused.err clean);
      honest = λ clean. omega (arith, refused.survives.clean, clean);
      mode = refused.mode;
      survives = quiet removed_text [] _ _ removed_query removed_is refused.survives;
    });
    opened = λ clean. tt;
    memory = λ well v was. cause_of removed_text [] (state g old) (state g new) v was well refused.survives.limit removed_query removed_is removed_asked e (refused.err well.clean);
  }

  module _ (now : Held S) (to : T) (walking : Walking now to) where
    so_far : HasCleanDisk (state g now) → (v : Vault) → ∥ Keeps (state g old) v ∥₁ → TakesSome takes from (removed_entries v) to
    so_far clean v was =
        let it = walking.rows clean v was in
        let on = given_removed g old now v was it.2 it.0 it.1 in
        some_taken takes from to it.0 on.0 (removed_entries v) it.3 on.1

    still : HasCleanDisk (state g now) → (v : Vault) → Keeps (state g old) v → Keeps (state g now) v
    still clean v was = unchanged_keeps (state g old) (state g now) v (inl (walking.rows clean v ∣ was ∣₁).2) was

    -- more rows than can be counted
    pub too_many : HasWalked now to (Err (SqliteFailure OutOfMemory))
    too_many = record {
      value = so_far;
      read = only_reads (record { same = still; honest = λ clean. omega (arith, walking.survives.clean, clean); mode = walking.mode; survives = walking.survives });
      opened = λ clean. tt;
      memory = λ well v was. refl;
    }

  module _ (rows after : Rows S g) (to : T) (walking : Walking rows.conn.now to) where
    before : {r : Result (Option (Bor Row)) Error} → HasMoved g rows r after → HasCleanDisk (state g after.conn.now) → HasCleanDisk (state g rows.conn.now)
    before moved clean = omega (arith, moved.survives.clean, clean)

    reads : (r : Result (Option (Bor Row)) Error) → HasMoved g rows r after → ReadsQuietly g old after.conn.now
    reads r moved = record {
      same = λ clean v was. unchanged_keeps (state g rows.conn.now) (state g after.conn.now) v (moved_or_undone _ _ r (moved.same clean) (moved.kept clean)) (still rows.conn.now to walking (before moved clean) v was);
      honest = λ clean. omega (arith, walking.survives.clean, moved.survives.clean, clean);
      mode = λ alone. moved.mode (walking.mode alone);
      survives = survives_then (state g old) (state g rows.conn.now) (state g after.conn.now) _ _ _ (λ _ db q. q) (λ _ db none. absurd none) walking.survives moved.survives;
    }

    -- no further row
    pub ended : HasMoved g rows (Ok None) after → HasWalked after.conn.now to (Ok true)
    ended moved = record {
      value = λ clean v was.
          let it = walking.rows (before moved clean) v was in
          all_taken takes from to it.0 (removed_entries v) it.3 (all_removed (state g rows.conn.now) (state g after.conn.now) v (still_kept (state g old) _ v (inl it.2) was) it.0 (moved.ok clean removed_text [] it.0 it.1));
      read = only_reads (reads (Ok None) moved);
      opened = λ clean. (moved.same clean).0.is_open;
      memory = λ well v was. tt;
    }

    -- no row could be had
    pub no_row : (e : Error) → HasMoved g rows (Err e) after → HasWalked after.conn.now to (Err e)
    no_row e moved = record {
      value = λ clean. so_far rows.conn.now to walking (before moved clean);
      read = only_reads (reads (Err e) moved);
      opened = λ clean. tt;
      memory = λ well v was.
          let it = walking.rows (before moved well.clean) v ∣ was ∣₁ in
          cause_of removed_text [] (state g rows.conn.now) (state g after.conn.now) v (still rows.conn.now to walking (before moved well.clean) v was) well moved.survives.limit removed_query removed_is removed_asked e (moved.err well.clean removed_text [] it.0 it.1);
    }

    module _ (row : Bor Row) (moved : HasMoved g rows (Ok (Some row)) after) where
      -- the row is the next of a removed entry
      next_row : HasCleanDisk (state g after.conn.now) → (v : Vault) → ∥ Keeps (state g old) v ∥₁ → (given : List Row) × Goes (Takes takes) from given to × HasGiven g removed_text [] after.conn.now (given ++ row.now ∷ []) × IsUnchanged (state g old) (state g after.conn.now)
      next_row clean v was =
          let it = walking.rows (before moved clean) v was in
          (it.0, it.3, moved.ok clean removed_text [] it.0 it.1, unchanged_then _ _ _ it.2 (moved.same clean))

      on_from : HasCleanDisk (state g after.conn.now) → (v : Vault) → ∥ Keeps (state g old) v ∥₁ → (given : List Row) × Goes (Takes takes) from given to × (tail : List Row) × ((given ++ row.now ∷ []) ++ tail ≡ map entry_row (removed_entries v))
      on_from clean v was =
          let it = next_row clean v was in
          let on = given_removed g old after.conn.now v was it.3 (it.0 ++ row.now ∷ []) it.2 in
          (it.0, it.1, on.0, on.1)

      pub goes_on_with : (end : T) → Takes takes to row.now end → Walking after.conn.now end
      goes_on_with end took = record {
        survives = (reads (Ok (Some row)) moved).survives;
        mode = (reads (Ok (Some row)) moved).mode;
        rows = λ clean v was.
            let it = next_row clean v was in
            (it.0 ++ row.now ∷ [], it.2, it.3, goes_on (Takes takes) from to end it.0 row.now it.1 took);
      }

      -- the sink refuses
      pub refused : (end : T) → (e : Entry) × (row.now ≡ entry_row e) × takes to e false end → HasWalked after.conn.now end (Ok false)
      refused end one = record {
        value = λ clean v was.
            let it = on_from clean v was in
            one_refused takes from to end it.0 row.now one.0 it.2 (removed_entries v) it.1 one.1 one.2 it.3;
        read = only_reads (reads (Ok (Some row)) moved);
        opened = λ clean. (moved.same clean).0.is_open;
        memory = λ well v was. tt;
      }

      -- it failed at an entry
      pub misread : (end : T) (e : Error) → end ≡ to → (ReportsOne entry_row (IsEntry true) row.now → IsMemory e) → HasWalked after.conn.now end (Err e)
      misread end e stays wants = record {
        value = λ clean v was. subst (λ s. TakesSome takes from (removed_entries v) s) (sym stays) (so_far rows.conn.now to walking (before moved clean) v was);
        read = only_reads (reads (Ok (Some row)) moved);
        opened = λ clean. tt;
        memory = λ well v was.
            let it = on_from well.clean v ∣ was ∣₁ in
            let kept = (was (next_row well.clean v ∣ was ∣₁).3.0.was_open).0.spells.kept in
            wants (removed_readable v kept it.0 row.now it.2 it.3);
      }
