-- A store that works refuses the statements that put the first rows only where memory runs out.
use Rattle.std.proofs.Common.{◌≡◌, ◌≢◌, ◌==◌, ◌&&◌, ◌||◌, inl, inr, ℕ, pos, zero, suc, List, [], ◌∷◌, length, map, drop, codes, not, Bool, true, false, None, Some, Option, Ok, Err, Result, IfErr, IsSome, if◌then◌else◌, lit≤, length-append, refl, sym, ap, subst, ◌∙◌, arith}
use Rattle.std.specs.List.{AllByRecursion, list_all}
use Rattle.std.specs.Int.{bit_at}
use Rattle.std.specs.Float.{NotNan}
use Rattle.std.proofs.lemmas.List.Elements.{All-from_recursion}
use Rattle.std.proofs.lemmas.Nat.Bits.{bit_at-zero}
use Rattle.sqlite_value.specs.declared.value.Value.TheVariants.{Null, Int, Text}
use Rattle.sqlite_value.specs.Order.{Row, number}
use Rattle.sqlite_value.specs.Keys.{plain}
use Rattle.sqlite_value.proofs.OrderLemmas.{value_cmp-Int}
use Rattle.sqlite_trees.specs.Tree.{Trees, rowid, with_tree}
use Rattle.sqlite_trees.specs.View.{is_int, IsStorable, IsStorableRow}
use Rattle.sqlite_sql.specs.Catalog.{entry_of}
use Rattle.sqlite_sql.specs.Ops.{binary, fits_i64}
use Rattle.sqlite_sql.specs.Term.{Term}
use Rattle.sqlite_schema.specs.declared.schema.Constraint.TheVariants.{Datatype, NotNull, Check, PrimaryKey, Unique, ForeignKey}
use Rattle.sqlite_schema.specs.declared.schema.Among.TheVariants.{All as AllKeys}
use Rattle.sqlite_schema.specs.declared.schema.Keys.TheVariants.{Enforced}
use Rattle.sqlite_schema.specs.declared.schema.Index.{Index}
use Rattle.sqlite_schema.specs.declared.schema.Schema.{Schema}
use Rattle.sqlite_schema.specs.declared.schema.Table.{Table}
use Rattle.sqlite_schema.specs.declared.command.Command.TheVariants.{Insert}
use Rattle.sqlite_schema.specs.declared.command.Source.TheVariants.{Values}
use Rattle.sqlite_schema.specs.Rules.{Keeps, Refers, passes, agree, differ, clashes, references_fit, table_reals, index_reals, is_among, has_parent}
use Rattle.sqlite_typing.specs.Types.{accepts_terms}
use Rattle.sqlite_rules.specs.Lists.{Has}
use Rattle.sqlite_rules.specs.declared.error.Refusal.{Refusal}
use Rattle.sqlite_rules.specs.declared.error.Refusal.TheVariants.{Violates, Mismatch, NoRowid, BadReference, TooDeep}
use Rattle.sqlite_rules.specs.declared.error.Rowids.TheVariants.{Chosen}
use Rattle.sqlite_rules.specs.Action.{Leads, Work, Writes}
use Rattle.sqlite_rules.specs.Cast.{cast_row}
use Rattle.sqlite_rules.specs.Edit.{Edit, edit_of, edited, id_in, numbered, put_all, are_fresh, is_referred, Applies, IsRefused, IsOversized}
use Rattle.sqlite_rules.proofs.ActionLemmas.{no_works}
use Rattle.sqlite_tied.specs.Compute.{everything}
use Rattle.sqlite.specs.declared.error.Error.{Error}
use Rattle.sqlite.specs.Effect.{value_rows}
use Rattle.sqlite.specs.Does.{Does, OnRows}
use Rattle.sqlite.specs.Rows.{Inserts, Sourced, Written, stamped}
use Rattle.sqlite.specs.Listing.{understood}
use Rattle.sqlite.specs.State.{State, ExecutesInside, mode_of}
use Rattle.sqlite.proofs.Callers.{statement_of, one_step}
use Rattle.vault_base.specs.declared.refusal.Table.TheVariants as table
use Rattle.vault_audit_model.specs.Order.{place_of}
use Rattle.vault_audit_model.specs.SchemaVersions.{edition_of}
use Rattle.vault_audit_model.specs.Tables.{vault_schema, meta_as, departments, callers, meta_tree, callers_tree}
use Rattle.vault_audit_model.proofs.OutcomeLemmas.{same_value}
use Rattle.vault_audit_model.proofs.ValueLemmas.{cast_null, cast_int}
use Rattle.vault_audit_rows.specs.Health.{IsHealthy, IsMemory}
use Rattle.vault_store_create.specs.Create.{HasAll, HasMetaRow}
use Rattle.vault_store_create.specs.Listings.{first_meta}
use Rattle.vault_store_create.proofs.InsertLemmas.{task_on, others_empty, apart_from_meta, apart_from_callers, meta_stored, meta_news, meta_news_are, meta_given}
use Rattle.vault_store_create.proofs.RefusedLemmas.{SaysWith, refused}
use Rattle.vault_store_create.proofs.TextLemmas.{meta_row_terms, meta_row_width, meta_row_is, meta_row_plain, registrar_text, registrar_terms, registrar_is, registrar_plain}

-- ---- one row that breaks no rule

-- what is known of a row that is put into a table of which no row is there
pub record IsFit (schema : Schema) (base : Table) (db : Trees) (row : Row) : Type 0 where
  pub typed : passes Datatype schema db base row ≡ true
  pub present : passes NotNull schema db base row ≡ true
  pub checked : passes Check schema db base row ≡ true
  pub keyed : is_int (rowid row) ≡ true
  pub low : fits_i64 (id_in (rowid row)) ≡ true
  pub referred : references_fit schema base true false ≡ true
  pub unique : Keeps Unique schema (with_tree db base.tree (row ∷ []))
  pub storable : IsStorableRow (table_reals base) row
  pub indexed : (i : Index) → Has schema.indexes i → i.table ≡ base.tree → IsStorable (index_reals (table_reals base) i.columns) (entry_of i.columns row)

one_fails : {A : Type 0} (f : A → Bool) (xs : List A) (x : A) → xs ≡ x ∷ [] → f x ≡ true → ¬ (list_all f xs ≡ false)
one_fails f xs x is passed failed = absurd (let no : list_all f (x ∷ []) ≡ false = subst (λ ys. list_all f ys ≡ false) is failed in let none = rw passed at no in cc none)

only : {A : Type 0} (x y : A) → Has (y ∷ []) x → x ≡ y
only x y (inl same) = same
only x y (inr none) = absurd none

module _ (schema : Schema) (base : Table) (db : Trees) (row : Row) (fit : IsFit schema base db row) (sources : List Row) (news : (edit_of db base [] Chosen 0 sources).news ≡ row ∷ []) (bare : db base.tree ≡ []) where
  abbrev edit : Edit
  edit = edit_of db base [] Chosen 0 sources

  pub put : edited db edit ≡ row ∷ []
  put = ap (λ rows. put_all rows edit.news) bare ∙ ap (put_all []) news

  breaks_none : (why : Refusal) → ¬ IsRefused schema Enforced db edit why
  breaks_none (Violates Datatype) odd = one_fails (passes Datatype schema db base) edit.news row news fit.typed odd
  breaks_none (Violates NotNull) odd = one_fails (passes NotNull schema db base) edit.news row news fit.present odd
  breaks_none (Violates Check) odd = one_fails (passes Check schema db base) edit.news row news fit.checked odd
  breaks_none (Violates PrimaryKey) odd =
      absurd (let no : true ≡ false = subst (λ rows. are_fresh rows (row ∷ []) ≡ false) bare (subst (λ new. are_fresh (db base.tree) new ≡ false) news odd) in cc no)
  breaks_none (Violates Unique) odd = odd (subst (λ rows. Keeps Unique schema (with_tree db base.tree rows)) (sym put) fit.unique)
  breaks_none (Violates ForeignKey) odd = odd
  breaks_none Mismatch odd = one_fails (λ r. is_int (rowid r)) edit.news row news fit.keyed odd
  breaks_none NoRowid odd = one_fails (λ r. fits_i64 (id_in (rowid r))) edit.news row news fit.low odd
  breaks_none BadReference odd =
      absurd (let no : references_fit schema base true false ≡ false = subst (λ new. is_referred schema Enforced (record { table = base; gone = []; news = new }) ≡ false) news odd in cc (fit.referred, no))
  breaks_none TooDeep odd = odd

  fits_in : (r : Row) → Has edit.news r → ¬ IsOversized schema base r
  fits_in r has (inl big) =
      let same : r ≡ row = only r row (subst (λ rows. Has rows r) news has) in
      big (subst (IsStorableRow (table_reals base)) (sym same) fit.storable)
  fits_in r has (inr (i, listed, its, big)) =
      let same : r ≡ row = only r row (subst (λ rows. Has rows r) news has) in
      big (subst (λ x. IsStorable (index_reals (table_reals base) i.columns) (entry_of i.columns x)) (sym same) (fit.indexed i listed its))

  goes_on : (n : ℕ) (next : Trees) (stack : List Work) (why : Option Refusal) → stack ≡ [] → ¬ Leads schema Enforced n next stack (Err why)
  goes_on zero next stack why none (over, ends) = absurd (cc ends)
  goes_on (suc n) next stack why none (below, w, is, acts) = absurd (omega (arith, ap length (sym none ∙ is), length-append below (w ∷ [])))

  never_written : (why : Option Refusal) → ¬ Writes schema Enforced db edit (Err why)
  never_written why (inl (reason, is, ends)) = breaks_none reason is
  never_written why (inr (inl (r, has, big, ends))) = fits_in r has big
  never_written why (inr (inr (next, applied, (n, leads)))) = goes_on n next _ why (no_works schema Enforced 0 base.tree edit.news) leads

-- the statement isn't refused, if each row that it is given is such a row, and no row lacks a parent after it
module _ (old : State) (schema : Schema) (base : Table) (at width : ℕ) (terms : List Term) (db : Trees) (row : Row) (unlimited : old.step_limit ≡ None) (bare : db base.tree ≡ [])
    (accepted : accepts_terms terms (stamped base []) ≡ true)
    (fit : IsFit schema (record base { is_counted = false }) db row)
    (news : (rows : List Row) → Sourced old.step_limit (record { schema = schema; trees = db }) (stamped base []) (Values terms width) (Ok rows) → (edit_of db (record base { is_counted = false }) [] Chosen 0 rows).news ≡ row ∷ [])
    (refers : (rows : List Row) (next : Trees) → Applies schema Enforced db (edit_of db (record base { is_counted = false }) [] Chosen 0 rows) next → (edit_of db (record base { is_counted = false }) [] Chosen 0 rows).news ≡ row ∷ [] → Refers AllKeys schema next) where
  given : (stop : Option Error) → ¬ Sourced old.step_limit (record { schema = schema; trees = db }) (stamped base []) (Values terms width) (Err stop)
  given None h = h
  given (Some e) (inl (is, odd)) = absurd (cc (accepted, odd))
  given (Some e) (inr (is, limited)) = absurd (let some : IsSome {T = ℕ} None = subst (λ (l : Option ℕ). IsSome l) unlimited limited in cc some)

  never_put : (stop : Option Error) → ¬ Inserts (task_on old.step_limit (mode_of old) schema base []) (Values terms width) db (Err stop)
  never_put stop (inl (s, sourced, same)) = given s sourced
  never_put stop (inr (rows, sourced, inl (s, counts, same))) = absurd (cc counts)
  never_put stop (inr (rows, sourced, inr (counter, counted, inl (s, (why, writes, stated), same)))) = never_written schema (record base { is_counted = false }) db row fit rows (news rows sourced) bare why writes
  never_put stop (inr (rows, sourced, inr (counter, counted, inr (mid, writes, inl (s, counts, same))))) = absurd (cc counts)
  never_put stop (inr (rows, sourced, inr (counter, counted, inr (mid, writes, inr (next, counts, gives))))) = absurd (cc gives)

  pub never_added : (stop : Option Error) → ¬ OnRows (task_on old.step_limit (mode_of old) schema base []) (mode_of old) None (Insert at (Values terms width)) db (Err stop)
  never_added stop (inl (s, puts, same)) = never_put s puts
  never_added stop (inr (w, inl (s, sourced, same), ends)) = absurd (cc same)
  never_added stop (inr (w, inr (rows, sourced, inl (s, counts, same)), ends)) = absurd (cc same)
  never_added stop (inr (w, inr (rows, sourced, inr (counter, counted, inl (s, writes, same))), ends)) = absurd (cc same)
  never_added stop (inr (w, inr (rows, sourced, inr (counter, counted, inr (mid, writes, inl (s, counts, same)))), ends)) = absurd (cc same)
  never_added stop (inr (w, inr (rows, sourced, inr (counter, counted, inr (mid, writes, inr (next, counts, gives)))), inl (s, (broken, stated), same))) =
      let base_edit = edit_of db (record base { is_counted = false }) [] Chosen 0 rows in
      let step = one_step schema Enforced db mid base_edit (no_works schema Enforced 0 base.tree base_edit.news) writes in
      let after : next ≡ mid = same_value counts in
      let trees : w.trees ≡ next = ap (λ (it : Written). it.trees) (same_value gives) in
      broken (subst (Refers AllKeys schema) (sym (trees ∙ after)) (refers rows mid step (news rows sourced)))
  never_added stop (inr (w, puts, inr (doubt, tested, inl (s, shows, same)))) = absurd (cc shows)
  never_added stop (inr (w, puts, inr (doubt, tested, inr (shown, shows, gives)))) = absurd (cc gives)

-- ---- rules of trees of which one has the row, and others none

not_and : (a b : Bool) → (not a && b) ≡ true → (a ≡ false) × (b ≡ true)
not_and true b e = absurd (cc e)
not_and false b e = (refl, e)

module _ (schema : Schema) (db : Trees) (at : ℕ) (rows : List Row) where
  left_alone : (tree : ℕ) → (tree == at) ≡ false → with_tree db at rows tree ≡ db tree
  left_alone tree apart = ap (λ b. if b then rows else db tree) apart

  none_breaks : (tables : List Table) → list_all (λ (t : Table). not (t.tree == at)) tables ≡ true → AllByRecursion (λ (t : Table). db t.tree ≡ []) tables
      → AllByRecursion (λ (t : Table). AllByRecursion (λ row. passes Unique schema (with_tree db at rows) t row ≡ true) (with_tree db at rows t.tree)) tables
  none_breaks [] apart empty = tt
  none_breaks (t ∷ ts) apart empty =
      let both = not_and (t.tree == at) (list_all (λ (u : Table). not (u.tree == at)) ts) apart in
      let none : [] ≡ with_tree db at rows t.tree = sym (left_alone t.tree both.0 ∙ empty.0) in
      (subst (AllByRecursion (λ row. passes Unique schema (with_tree db at rows) t row ≡ true)) none tt, none_breaks ts both.1 empty.1)

-- a table without an index of its own has no key that rows share
all_pass : (external : Bool) (trees : Trees) (rows : List Row) → AllByRecursion (λ row. passes Unique (vault_schema external) trees (meta_as (edition_of external)) row ≡ true) rows
all_pass external trees [] = tt
all_pass false trees (r ∷ rs) = (refl, all_pass false trees rs)
all_pass true trees (r ∷ rs) = (refl, all_pass true trees rs)

none_refer : (tables all : List Table) (trees : Trees) → AllByRecursion (λ (t : Table). trees t.tree ≡ []) tables
    → AllByRecursion (λ (t : Table). AllByRecursion (λ row. list_all (λ ref. not (is_among AllKeys ref) || has_parent all trees row ref) t.references ≡ true) (trees t.tree)) tables
none_refer [] all trees empty = tt
none_refer (t ∷ ts) all trees empty = (subst (AllByRecursion (λ row. list_all (λ ref. not (is_among AllKeys ref) || has_parent all trees row ref) t.references ≡ true)) (sym empty.0) tt, none_refer ts all trees empty.1)

-- meta has no reference
meta_refers : (external : Bool) (trees : Trees) (rows : List Row)
    → AllByRecursion (λ row. list_all (λ ref. not (is_among AllKeys ref) || has_parent (vault_schema external).tables trees row ref) (meta_as (edition_of external)).references ≡ true) rows
meta_refers external trees [] = tt
meta_refers external trees (r ∷ rs) = (refl, meta_refers external trees rs)

-- ---- the row of meta

-- no index is one of that table
not_its : (indexes : List Index) (tree : ℕ) (x : Index) → list_all (λ (i : Index). not (i.table == tree)) indexes ≡ true → Has indexes x → x.table ≢ tree
not_its [] tree x apart none its = none
not_its (i ∷ is) tree x apart (inl same) its =
    let both = not_and (i.table == tree) (list_all (λ (j : Index). not (j.table == tree)) is) apart in
    let here : i.table ≡ tree = sym (ap (λ (j : Index). j.table) same) ∙ its in
    absurd (grind (arith, here, both.0))
not_its (i ∷ is) tree x apart (inr later) its = not_its is tree x (not_and (i.table == tree) (list_all (λ (j : Index). not (j.table == tree)) is) apart).1 later its

no_real : (c : ℕ) → ¬ (bit_at 0 c ≡ 1)
no_real c is = absurd (omega (arith, is, bit_at-zero c))

meta_fit : (external : Bool) (db : Trees) → AllByRecursion (λ (t : Table). db t.tree ≡ []) (drop 1 (vault_schema external).tables) → IsFit (vault_schema external) (meta_as (edition_of external)) db (meta_stored external)
unfolding everything lib.Ieee.is_nan
meta_fit false db empty = record {
  typed = refl;
  present = refl;
  checked = refl;
  keyed = refl;
  low = refl;
  referred = refl;
  unique = ((refl, tt), none_breaks (vault_schema false) db meta_tree (meta_stored false ∷ []) (drop 1 (vault_schema false).tables) refl empty);
  storable = (record { typed = λ c is. absurd (no_real c is); columns = (omega arith, omega arith); numbers = All-from_recursion (λ v. NotNan (number v)) (meta_stored false) (tt, (tt, (tt, (tt, (tt, (tt, tt)))))); short = lit≤ tt }, omega arith);
  indexed = λ i listed its. absurd (not_its (vault_schema false).indexes 0 i refl listed its);
}
meta_fit true db empty = record {
  typed = refl;
  present = refl;
  checked = refl;
  keyed = refl;
  low = refl;
  referred = refl;
  unique = ((refl, tt), none_breaks (vault_schema true) db meta_tree (meta_stored true ∷ []) (drop 1 (vault_schema true).tables) refl empty);
  storable = (record { typed = λ c is. absurd (no_real c is); columns = (omega arith, omega arith); numbers = All-from_recursion (λ v. NotNan (number v)) (meta_stored true) (tt, (tt, (tt, (tt, (tt, (tt, (tt, (tt, tt)))))))); short = lit≤ tt }, omega arith);
  indexed = λ i listed its. absurd (not_its (vault_schema true).indexes 0 i refl listed its);
}

meta_says : (external : Bool) → SaysWith (vault_schema external) (first_meta external) [] (Insert (place_of table.Meta) (Values (meta_row_terms external) (meta_row_width external)))
unfolding understood everything
meta_says false = record { meaning = meta_row_is false; plain = meta_row_plain false; alone = (omega (arith), refl); unmarked = refl; silent = λ c is none. rw (is, none) refl }
meta_says true = record { meaning = meta_row_is true; plain = meta_row_plain true; alone = (omega (arith), refl); unmarked = refl; silent = λ c is none. rw (is, none) refl }

meta_accepted : (external : Bool) → accepts_terms (meta_row_terms external) (stamped (meta_as (edition_of external)) []) ≡ true
meta_accepted false = refl
meta_accepted true = refl

pub meta_refused : (external : Bool) (old new : State) → IsHealthy new → new.step_limit ≡ old.step_limit → HasAll external old.now → (r : Result ℕ Error) → ExecutesInside 0 (first_meta external) [] old new r → IfErr r IsMemory
meta_refused external old new well limit was r h =
    let db = old.now.trees in
    let schema = vault_schema external in
    let base = meta_as (edition_of external) in
    let terms = meta_row_terms external in
    let width = meta_row_width external in
    let command = Insert (place_of table.Meta) (Values terms width) in
    let sql = first_meta external in
    let text = statement_of sql (understood schema sql) in
    refused sql old new well schema was.schema command (meta_says external)
    (λ stop does.
    let did = subst (λ s. Does old.step_limit (mode_of old) [] (record old.now { schema = s }) text None command (Err stop)) was.schema does in
    never_added old schema base (place_of table.Meta) width terms db (meta_stored external) (sym limit ∙ well.unlimited) was.rows.0 (meta_accepted external) (meta_fit external db was.rows.1)
    (λ rows sourced. ap (λ all. (edit_of db base [] Chosen 0 all).news) (meta_given external old.step_limit (record { schema = schema; trees = db }) rows sourced)
    ∙ subst (λ there. meta_news external there ≡ meta_stored external ∷ []) (sym was.rows.0) (meta_news_are external))
    (λ rows next applied news.
    (meta_refers external next (next meta_tree), none_refer (drop 1 schema.tables) schema.tables next (others_empty meta_tree (drop 1 schema.tables) (apart_from_meta external) db next applied.tables.1 was.rows.1)))
    stop did) r h

-- ---- the row of the registrar

abbrev registrar_stored : Row
registrar_stored = Int (pos 1) ∷ Text (codes "registrar") ∷ Null ∷ Int (pos 1) ∷ Int (pos 0) ∷ []

never_apart : differ (Int (pos 1)) (Int (pos 1)) ≡ false
unfolding binary
never_apart = rw (value_cmp-Int (pos 1) (pos 1)) refl

and_none : (b : Bool) → ((b && false) || false) ≡ false
and_none true = refl
and_none false = refl

never_clashes : clashes plain (1 ∷ []) (registrar_stored ∷ []) registrar_stored ≡ false
never_clashes =
    let same = agree plain (1 ∷ []) registrar_stored (1 ∷ []) registrar_stored in
    ap (λ b. (same && b) || false) never_apart ∙ and_none same

-- the index of callers is the second
apart_from_second : (external : Bool) → list_all (λ (i : Index). not (i.table == callers_tree)) (drop 2 (vault_schema external).indexes) ≡ true
apart_from_second false = refl
apart_from_second true = refl

its_key : (external : Bool) (i : Index) → Has (vault_schema external).indexes i → i.table ≡ 3 → IsStorable (index_reals (table_reals callers) i.columns) (entry_of i.columns registrar_stored)
unfolding lib.Ieee.is_nan
its_key external i (inl first) its = absurd (let other : i.table ≡ 1 = ap (λ (x : Index). x.table) first in omega (arith, other, its))
its_key external i (inr (inl second)) its =
    subst (λ (x : Index). IsStorable (index_reals (table_reals callers) x.columns) (entry_of x.columns registrar_stored)) (sym second) (record {
      typed = λ c is. absurd (no_real c is);
      columns = (omega arith, omega arith);
      numbers = All-from_recursion (λ v. NotNan (number v)) (Text (codes "registrar") ∷ Int (pos 1) ∷ []) (tt, (tt, tt));
      short = lit≤ tt;
    })
its_key external i (inr (inr later)) its = absurd (not_its (drop 2 (vault_schema external).indexes) 3 i (apart_from_second external) later its)

-- callers refers to departments
callers_fit : (external : Bool) → references_fit (vault_schema external) callers true false ≡ true
unfolding everything
callers_fit false = refl
callers_fit true = refl

-- the row alone has no key that another row has
callers_pass : (external : Bool) (db : Trees) → passes Unique (vault_schema external) (with_tree db callers_tree (registrar_stored ∷ [])) callers registrar_stored ≡ true
callers_pass false db = ap (λ b. not b && true) never_clashes
callers_pass true db = ap (λ b. not b && true) never_clashes

registrar_fit : (external : Bool) (db : Trees) → AllByRecursion (λ (t : Table). db t.tree ≡ []) (drop 1 (vault_schema external).tables) → IsFit (vault_schema external) callers db registrar_stored
unfolding everything lib.Ieee.is_nan
registrar_fit external db empty = record {
  typed = refl;
  present = refl;
  checked = refl;
  keyed = refl;
  low = refl;
  referred = callers_fit external;
  unique =
      let schema = vault_schema external in
      let there = with_tree db callers_tree (registrar_stored ∷ []) in
      let none = subst (AllByRecursion (λ row. passes Unique schema there departments row ≡ true)) (sym empty.0) tt in
      let rest = none_breaks schema db callers_tree (registrar_stored ∷ []) (drop 3 schema.tables) (apart_from_callers external) empty.1.1 in
      (all_pass external there (db meta_tree), (none, ((callers_pass external db, tt), rest)));
  storable = (record { typed = λ c is. absurd (no_real c is); columns = (omega arith, omega arith); numbers = All-from_recursion (λ v. NotNan (number v)) registrar_stored (tt, (tt, (tt, (tt, (tt, tt))))); short = lit≤ tt }, omega arith);
  indexed = its_key external;
}

registrar_says : (external : Bool) → SaysWith (vault_schema external) registrar_text [] (Insert (place_of table.Callers) (Values registrar_terms 5))
unfolding understood everything
registrar_says false = record { meaning = registrar_is false; plain = registrar_plain false; alone = (omega (arith), refl); unmarked = refl; silent = λ c is none. rw (is, none) refl }
registrar_says true = record { meaning = registrar_is true; plain = registrar_plain true; alone = (omega (arith), refl); unmarked = refl; silent = λ c is none. rw (is, none) refl }

pub registrar_refused : (external : Bool) (old new : State) → IsHealthy new → new.step_limit ≡ old.step_limit → HasMetaRow external old.now → (r : Result ℕ Error) → ExecutesInside 0 registrar_text [] old new r → IfErr r IsMemory
registrar_refused external old new well limit was r h =
    let db = old.now.trees in
    let schema = vault_schema external in
    let tables = schema.tables in
    let command = Insert (place_of table.Callers) (Values registrar_terms 5) in
    let text = statement_of registrar_text (understood schema registrar_text) in
    let fit = registrar_fit external db was.rows in
    refused registrar_text old new well schema was.schema command (registrar_says external)
    (λ stop does.
    let did = subst (λ s. Does old.step_limit (mode_of old) [] (record old.now { schema = s }) text None command (Err stop)) was.schema does in
    never_added old schema callers (place_of table.Callers) 5 registrar_terms db registrar_stored (sym limit ∙ well.unlimited) was.rows.1.0 refl fit
    (λ rows sourced. ap (λ all. (edit_of db callers [] Chosen 0 all).news) sourced.1
    ∙ subst (λ there. numbered Chosen there (map (λ s. cast_row callers (drop 0 s)) (value_rows [] 5 1 registrar_terms)) ≡ registrar_stored ∷ []) (sym was.rows.1.0) (rw (cast_null, cast_int (pos 1), cast_int (pos 0)) refl))
    (λ rows next applied news.
    let kept = applied.tables.1 in
    let rest = others_empty callers_tree (drop 3 tables) (apart_from_callers external) db next kept.1.1 was.rows.1.1 in
    let departments_none : next 1 ≡ [] = kept.0 (omega arith) ∙ was.rows.0 in
    let callers_one : next callers_tree ≡ registrar_stored ∷ [] = applied.rows ∙ put schema callers db registrar_stored fit rows news was.rows.1.0 in
    let second = subst (AllByRecursion (λ row. list_all (λ ref. not (is_among AllKeys ref) || has_parent tables next row ref) departments.references ≡ true)) (sym departments_none) tt in
    let third = subst (AllByRecursion (λ row. list_all (λ ref. not (is_among AllKeys ref) || has_parent tables next row ref) callers.references ≡ true)) (sym callers_one) (refl, tt) in
    (meta_refers external next (next meta_tree), (second, (third, none_refer (drop 3 tables) tables next rest))))
    stop did) r h
