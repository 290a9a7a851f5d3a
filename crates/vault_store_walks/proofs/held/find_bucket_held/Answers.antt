use Rattle.std.proofs.Common.{◌≡◌, ◌++◌, List, [], ◌∷◌, IsTrue, inl, refl, subst, rules, arith, sym, ◌∙◌}
use Rattle.sqlite_value.specs.Order.{Row}
use Rattle.sqlite_value.specs.declared.value.Value.TheVariants.{Text}
use Rattle.sqlite.specs.State.{HasCleanDisk, IsUnchanged, Survives, CommitsShowing}
use Rattle.sqlite.specs.Held.{Held, state}
use Rattle.sqlite.specs.Given.{HasGiven}
use Rattle.sqlite.proofs.Callers.{unchanged_then}
use Rattle.sqlite.proofs.StateLemmas.{survives_then}
use Rattle.vault_core_model.specs.Vault.{Vault}
use Rattle.vault_audit_rows.specs.Health.{IsHealthy, IsMemory}
use Rattle.vault_store_model.specs.Keeping.{Keeps}
use Rattle.vault_store_reads.specs.Quiet.{IsQuiet}
use Rattle.vault_store_walks.proofs.WalkTexts.{sized_asked, sized_is, sized_query, sized_text}
use Rattle.vault_store_walks.proofs.HandLemmas.{undone}
use Rattle.vault_store_walks.proofs.HoldingLemmas.{found_sized}
use Rattle.vault_store_walks.proofs.HoldingSums.{bytes_are, bytes_in, bytes_more, fits, weight_in, weight_is, weight_more}
use Rattle.vault_store_reads.proofs.OpenLemmas.{quiet}
use Rattle.vault_store_reads.proofs.QueryLemmas.{finds, unchanged_keeps}
use Rattle.vault_store_walks.proofs.StreamLemmas.{begun, given_found, refused_keeps, refused_why}
use Rattle.vault_store_reads.proofs.WantLemmas.{cause_of}
use Rattle.vault_store_walks.proofs.held.find_bucket_held.Goals as goal

-- the query doesn't begin

pub returns-in_err-rows-clause-read : goal.returns-in_err-rows-clause-read
returns-in_err-rows-clause-read g c = record {
  same = λ clean v was.
      refused_keeps sized_text (Text c.args.bucket.now ∷ []) sized_query sized_is g.S.Store c.args.conn.now c.query.follows.lender-at-none v was clean c.query.result (rw (c.params-to_sql.ensures, c.as_str.ensures.text) at c.query.follows.holds-at-none) (search rules);
  honest = λ clean.
      let old = state g.S.Store c.args.conn.now in
      let new = state g.S.Store c.query.follows.lender-at-none in
      let held = rw (c.params-to_sql.ensures, c.as_str.ensures.text) at c.query.follows.holds-at-none in
      let kept : Survives old new (CommitsShowing sized_text (Text c.args.bucket.now ∷ []) old) = search rules in
      omega (arith, clean, kept.clean);
  mode = λ alone. search rules;
  survives =
      let params : Row = Text c.args.bucket.now ∷ [] in
      let old = state g.S.Store c.args.conn.now in
      let new = state g.S.Store c.query.follows.lender-at-none in
      let held = rw (c.params-to_sql.ensures, c.as_str.ensures.text) at c.query.follows.holds-at-none in
      let kept : Survives old new (CommitsShowing sized_text params old) = search rules in
      quiet sized_text params old new sized_query sized_is kept;
}

-- the rows so far

pub rows-init : goal.rows-init
rows-init g c =
    let params : Row = Text c.args.bucket.now ∷ [] in
    let made = c.in_ok-rows.ensures in
    let survives = rw (c.params-to_sql.ensures, c.as_str.ensures.text) at made.survives in
    let begins = rw (c.params-to_sql.ensures, c.as_str.ensures.text) at made.begun in
    (refl, quiet sized_text params _ _ sized_query sized_is survives, made.mode, λ clean v was. let it = begun sized_text params sized_query sized_is g.S.Store c.args.conn.now _ v was (begins clean) in ([], it.0, it.1, refl, refl))

pub rows-preserved : goal.rows-preserved
rows-preserved g c =
    let params : Row = Text c.args.bucket.now ∷ [] in
    let moved = c.next.follows.holds-at-none in
    let now = c.next.follows.lender-at-none.conn.now in
    let fact = λ (late : HasCleanDisk (state g.S.Store now)) (v : Vault) (was : Keeps (state g.S.Store c.args.conn.now) v).
    let it = c.rows.invariant.3 (omega (arith, moved.survives.clean)) v was in
    let given = (rw (c.in_ok-row.was, c.in-Some.is) at (moved.ok late)) sized_text params it.0 it.1 in
    let same = rw c.in_ok-row.was at (moved.same late) in
    let one = c.in-Some-with_row.ensures in
    let all : (rows : List Row) × HasGiven g.S.Store sized_text params now rows × IsUnchanged (state g.S.Store c.args.conn.now) (state g.S.Store now) × (c.in-Some-with_row.sums.0 ≡ bytes_in rows) × (c.in-Some-with_row.sums.1 ≡ weight_in rows) =
    (it.0 ++ c.in-Some.row.now ∷ [], given, unchanged_then _ _ _ it.2 same, bytes_more it.0 c.in-Some.row.now one.0 _ _ one.1 it.3 one.2, weight_more it.0 c.in-Some.row.now one.0 _ _ one.1 it.4 one.3) in all in
    let old = state g.S.Store c.args.conn.now in
    (search rules, survives_then old _ (state g.S.Store now) _ _ _ (λ _ db q. q) (λ _ db none. absurd none) c.rows.invariant.1 moved.survives, search rules, fact)

-- no further row

pub returns-in_default-clause-value : goal.returns-in_default-clause-value
returns-in_default-clause-value g c clean v was =
    let params : Row = Text c.args.bucket.now ∷ [] in
    let moved = c.next.follows.holds-at-none in
    let now = c.next.follows.lender-at-none.conn.now in
    let same : now ≡ c.conn-in_default-1.given.0 = search rules in
    let late : HasCleanDisk (state g.S.Store now) = search rules in
    let it = c.rows.invariant.3 (omega (arith, moved.survives.clean)) v was in
    let shown = (rw (c.in_ok-row.was, c.in_default.is) at (moved.ok late)) sized_text params it.0 it.1 in
    let keeps = unchanged_keeps (state g.S.Store c.args.conn.now) _ v (inl it.2) was in
    let found = finds sized_text params _ (state g.S.Store now) v keeps it.0 shown in
    let kept = found.1.spells.kept in
    let are = found_sized v c.args.bucket.now it.0 found in
    (it.3 ∙ bytes_are v kept c.args.bucket.now it.0 are, it.4 ∙ weight_is v kept c.args.bucket.now it.0 are)

pub returns-in_default-clause-read : goal.returns-in_default-clause-read
returns-in_default-clause-read g c = record {
  same = λ clean v was.
      let moved = c.next.follows.holds-at-none in
      let now = c.next.follows.lender-at-none.conn.now in
      let end = c.conn-in_default-1.given.0 in
      let same : now ≡ end = search rules in
      let late : HasCleanDisk (state g.S.Store now) = search rules in
      let it = c.rows.invariant.3 (omega (arith, moved.survives.clean)) v was in
      let still = rw c.in_ok-row.was at (moved.same late) in
      subst (λ (h : Held g.row.S.Denot). Keeps (state g.S.Store h) v) same (unchanged_keeps (state g.S.Store c.args.conn.now) (state g.S.Store now) v (inl (unchanged_then _ _ _ it.2 still)) was);
  honest = λ clean.
      let now = c.next.follows.lender-at-none.conn.now in
      let end = c.conn-in_default-1.given.0 in
      let same : now ≡ end = search rules in
      let late : HasCleanDisk (state g.S.Store now) = search rules in
      omega (arith, late, c.next.follows.holds-at-none.survives.clean, c.rows.invariant.1.clean);
  mode = λ alone. search rules;
  survives =
      let old = state g.S.Store c.args.conn.now in
      let moved = c.next.follows.holds-at-none in
      let now = c.next.follows.lender-at-none.conn.now in
      let same : now ≡ c.conn-in_default-1.given.0 = search rules in
      subst (λ (h : Held g.row.S.Denot). Survives old (state g.S.Store h) (IsQuiet old)) same (survives_then old _ (state g.S.Store now) _ _ _ (λ _ db q. q) (λ _ db none. absurd none) c.rows.invariant.1 moved.survives);
}

pub returns-in_default-clause-open : goal.returns-in_default-clause-open
returns-in_default-clause-open g c clean =
    let now = c.next.follows.lender-at-none.conn.now in
    let same : now ≡ c.conn-in_default-1.given.0 = search rules in
    let late : HasCleanDisk (state g.S.Store now) = search rules in
    let still = rw c.in_ok-row.was at (c.next.follows.holds-at-none.same late) in
    subst (λ (h : Held g.row.S.Denot). IsTrue (state g.S.Store h).is_open) same still.0.is_open

-- the row isn't that of an entry, or the sums go beyond 64 bits

pub returns-in_default-with_row-clause-read : goal.returns-in_default-with_row-clause-read
returns-in_default-with_row-clause-read g c = record {
  same = λ clean v was.
      let moved = c.next.follows.holds-at-none in
      let now = c.next.follows.lender-at-none.conn.now in
      let end = c.conn-in_default-with_row-1.given.0 in
      let same : now ≡ end = search rules in
      let late : HasCleanDisk (state g.S.Store now) = search rules in
      let it = c.rows.invariant.3 (omega (arith, moved.survives.clean)) v was in
      let still = rw c.in_ok-row.was at (moved.same late) in
      subst (λ (h : Held g.row.S.Denot). Keeps (state g.S.Store h) v) same (unchanged_keeps (state g.S.Store c.args.conn.now) (state g.S.Store now) v (inl (unchanged_then _ _ _ it.2 still)) was);
  honest = λ clean.
      let now = c.next.follows.lender-at-none.conn.now in
      let end = c.conn-in_default-with_row-1.given.0 in
      let same : now ≡ end = search rules in
      let late : HasCleanDisk (state g.S.Store now) = search rules in
      omega (arith, late, c.next.follows.holds-at-none.survives.clean, c.rows.invariant.1.clean);
  mode = λ alone. search rules;
  survives =
      let old = state g.S.Store c.args.conn.now in
      let moved = c.next.follows.holds-at-none in
      let now = c.next.follows.lender-at-none.conn.now in
      let same : now ≡ c.conn-in_default-with_row-1.given.0 = search rules in
      subst (λ (h : Held g.row.S.Denot). Survives old (state g.S.Store h) (IsQuiet old)) same (survives_then old _ (state g.S.Store now) _ _ _ (λ _ db q. q) (λ _ db none. absurd none) c.rows.invariant.1 moved.survives);
}

pub returns-in_default-with_row-clause-memory : goal.returns-in_default-with_row-clause-memory
returns-in_default-with_row-clause-memory g c well v was =
    let params : Row = Text c.args.bucket.now ∷ [] in
    let moved = c.next.follows.holds-at-none in
    let now = c.next.follows.lender-at-none.conn.now in
    let same : now ≡ c.conn-in_default-with_row-1.given.0 = search rules in
    let late : HasCleanDisk (state g.S.Store now) = subst (λ (h : Held g.row.S.Denot). HasCleanDisk (state g.S.Store h)) (sym same) well.clean in
    let it = c.rows.invariant.3 (omega (arith, moved.survives.clean)) v was in
    let given = (rw (c.in_ok-row.was, c.in-Some.is) at (moved.ok late)) sized_text params it.0 it.1 in
    let still = rw c.in_ok-row.was at (moved.same late) in
    let on = given_found sized_text params sized_query sized_is g.S.Store c.args.conn.now now v was (unchanged_then _ _ _ it.2 still) (it.0 ++ c.in-Some.row.now ∷ []) given in
    let one = fits v c.args.bucket.now it.0 c.in-Some.row.now on.0 c.rows.bytes c.rows.weight on.1 it.3 it.4 in
    absurd (c.in_default-with_row.ensures one.0 one.1 one.2 one.3 one.4)

-- no row could be had

pub returns-in_err-row-clause-read : goal.returns-in_err-row-clause-read
returns-in_err-row-clause-read g c = record {
  same = λ clean v was.
      let moved = c.next.follows.holds-at-none in
      let now = c.next.follows.lender-at-none.conn.now in
      let end = c.conn-in_err-row-1.given.0 in
      let same : now ≡ end = search rules in
      let late : HasCleanDisk (state g.S.Store now) = search rules in
      let it = c.rows.invariant.3 (omega (arith, moved.survives.clean)) v was in
      let kept = rw c.in_err-row.was at (moved.kept late) in
      subst (λ (h : Held g.row.S.Denot). Keeps (state g.S.Store h) v) same (unchanged_keeps _ (state g.S.Store now) v (undone _ _ _ kept) (unchanged_keeps (state g.S.Store c.args.conn.now) _ v (inl it.2) was));
  honest = λ clean.
      let now = c.next.follows.lender-at-none.conn.now in
      let end = c.conn-in_err-row-1.given.0 in
      let same : now ≡ end = search rules in
      let late : HasCleanDisk (state g.S.Store now) = search rules in
      omega (arith, late, c.next.follows.holds-at-none.survives.clean, c.rows.invariant.1.clean);
  mode = λ alone. search rules;
  survives =
      let old = state g.S.Store c.args.conn.now in
      let moved = c.next.follows.holds-at-none in
      let now = c.next.follows.lender-at-none.conn.now in
      let same : now ≡ c.conn-in_err-row-1.given.0 = search rules in
      subst (λ (h : Held g.row.S.Denot). Survives old (state g.S.Store h) (IsQuiet old)) same (survives_then old _ (state g.S.Store now) _ _ _ (λ _ db q. q) (λ _ db none. absurd none) c.rows.invariant.1 moved.survives);
}

-- more rows than can be counted

pub returns-clause-read : goal.returns-clause-read
returns-clause-read g c = record {
  same = λ clean v was.
      let now = c.rows.rows.conn.now in
      let end = c.conn-2-1.given.0 in
      let same : now ≡ end = search rules in
      let late : HasCleanDisk (state g.S.Store now) = search rules in
      let it = c.rows.invariant.3 late v was in
      subst (λ (h : Held g.row.S.Denot). Keeps (state g.S.Store h) v) same (unchanged_keeps (state g.S.Store c.args.conn.now) (state g.S.Store now) v (inl it.2) was);
  honest = λ clean.
      let now = c.rows.rows.conn.now in
      let end = c.conn-2-1.given.0 in
      let same : now ≡ end = search rules in
      let late : HasCleanDisk (state g.S.Store now) = search rules in
      omega (arith, late, c.rows.invariant.1.clean);
  mode = λ alone. search rules;
  survives =
      let old = state g.S.Store c.args.conn.now in
      let same : c.rows.rows.conn.now ≡ c.conn-2-1.given.0 = search rules in
      subst (λ (h : Held g.row.S.Denot). Survives old (state g.S.Store h) (IsQuiet old)) same c.rows.invariant.1;
}

-- a store that works

pub returns-in_err-rows-clause-memory : goal.returns-in_err-rows-clause-memory
returns-in_err-rows-clause-memory g c well v was =
    let params : Row = Text c.args.bucket.now ∷ [] in
    let old = state g.S.Store c.args.conn.now in
    let new = state g.S.Store c.query.follows.lender-at-none in
    let held = rw (c.params-to_sql.ensures, c.as_str.ensures.text) at c.query.follows.holds-at-none in
    let kept : Survives old new (CommitsShowing sized_text params old) = search rules in
    let late : HasCleanDisk new = well.clean in
    let failed = refused_why sized_text params sized_query sized_is g.S.Store c.args.conn.now c.query.follows.lender-at-none c.query.result c.in_err-rows.field-0.0 held (search rules) late in
    let one : IsMemory c.in_err-rows.field-0.0 = cause_of sized_text params old new v was well kept.limit sized_query sized_is (sized_asked c.args.bucket.now) c.in_err-rows.field-0.0 failed in
    search rules

pub returns-in_err-row-clause-memory : goal.returns-in_err-row-clause-memory
returns-in_err-row-clause-memory g c well v was =
    let params : Row = Text c.args.bucket.now ∷ [] in
    let moved = c.next.follows.holds-at-none in
    let now = c.next.follows.lender-at-none.conn.now in
    let same : now ≡ c.conn-in_err-row-1.given.0 = search rules in
    let late : IsHealthy (state g.S.Store now) = subst (λ (h : Held g.row.S.Denot). IsHealthy (state g.S.Store h)) (sym same) well in
    let it = c.rows.invariant.3 (omega (arith, moved.survives.clean, late.clean)) v was in
    let failed = (rw c.in_err-row.was at (moved.err late.clean)) sized_text params it.0 it.1 in
    let kept = unchanged_keeps (state g.S.Store c.args.conn.now) _ v (inl it.2) was in
    let one : IsMemory c.in_err-row.field-0.0 = cause_of sized_text params _ (state g.S.Store now) v kept late moved.survives.limit sized_query sized_is (sized_asked c.args.bucket.now) c.in_err-row.field-0.0 failed in
    search rules
