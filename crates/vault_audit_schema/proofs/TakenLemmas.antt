-- No store refuses a statement that makes a table or an index of a vault.
use Rattle.std.proofs.Common.{◌≡◌, ℕ, ◌+◌, ◌*◌, ◌^◌, ◌≤◌, nat_lt, List, [], ◌∷◌, length, codes, Bool, true, false, Ok, Err, inl, inr, sym, ap, subst, ◌∙◌, arith, rules}
use Rattle.std.specs.Prelude.{IsUtf8, encode_utf8_all}
use Rattle.std.specs.Str.{all_scalars}
use Rattle.std.specs.List.{AllByRecursion, list_any}
use Rattle.std.proofs.lemmas.Bool.Decides.{nat_tests}
use Rattle.sqlite_value.specs.declared.value.Value.TheVariants.{Text}
use Rattle.sqlite_trees.specs.Tree.{Trees}
use Rattle.sqlite_schema.specs.declared.schema.Constraint.TheVariants.{Unique}
use Rattle.sqlite_schema.specs.declared.schema.Index.{Index}
use Rattle.sqlite_schema.specs.declared.schema.Schema.{Schema}
use Rattle.sqlite_schema.specs.declared.schema.Table.{Table}
use Rattle.sqlite_schema.specs.Rules.{table_reals, index_reals, passes}
use Rattle.sqlite_rules.specs.Lists.{Has}
use Rattle.sqlite_resolve.specs.Compile.{table_defined_by, index_defined_by}
use Rattle.sqlite_catalog.specs.declared.error.Refusal.{Refusal}
use Rattle.sqlite_catalog.specs.declared.error.Refusal.TheVariants.{Invalid, NameTaken, BadName, TooBig, BadKey, BadText, Violates}
use Rattle.sqlite_catalog.specs.Calls.{RefusesTable, IsLongTable, RefusesIndex, IsLongIndex}
use Rattle.sqlite_catalog.specs.Change.{next_tree, is_used, is_reserved, automatics, indexed}
use Rattle.sqlite_catalog.specs.Listing.{is_formed, is_fit}
use Rattle.vault_audit_schema.specs.Statements.{IsTakenAsTable, IsTakenAsIndex}

none_has : {A : Type 0} (f : A → Bool) (xs : List A) (x : A) → list_any f xs ≡ false → Has xs x → f x ≡ true → ⊥
none_has f [] x none has passed = has
none_has f (y ∷ ys) x none (inl same) passed =
    let both : (f y ≡ false) × (list_any f ys ≡ false) = search rules in
    let no : f x ≡ false = ap f same ∙ both.0 in
    absurd (cc (no, passed))
none_has f (y ∷ ys) x none (inr later) passed =
    let both : (f y ≡ false) × (list_any f ys ≡ false) = search rules in
    none_has f ys x both.1 later passed

module _ (schema : Schema) (text : List ℕ) (made : Table) (defined : table_defined_by text ≡ Ok made) (it : IsTakenAsTable schema text made) where
  same : (t : Table) → table_defined_by text ≡ Ok t → t ≡ made
  same t is = let both : Ok t ≡ Ok made = sym is ∙ defined in cc

  pub table_taken : (why : Refusal) → ¬ RefusesTable schema text why
  table_taken (Invalid e) is = absurd (let both : Ok made ≡ Err e = sym defined ∙ is in cc)
  table_taken NameTaken (t, is, inl used) = absurd (let e = same t is in let no : is_used schema t.name ≡ false = ap (λ (x : Table). is_used schema x.name) e ∙ it.free in cc)
  table_taken NameTaken (t, is, inr (i, has, used)) =
      none_has (λ (x : Index). is_used schema x.name) (automatics made 0 0 made.uniques) i it.apart (subst (λ (x : Table). Has (automatics x 0 0 x.uniques) i) (same t is) has) used
  table_taken BadName (t, is, inl odd) = odd (subst (λ (x : Table). IsUtf8 x.name) (sym (same t is)) it.named)
  table_taken BadName (t, is, inr (reserved, bare)) = absurd (let no : is_reserved t.name ≡ false = ap (λ (x : Table). is_reserved x.name) (same t is) ∙ it.own in cc)
  table_taken TooBig (t, is, inl many) =
      let far = subst (λ (x : Table). 65536 ≤ next_tree schema + length x.uniques) (same t is) many in
      absurd (grind (arith, nat_tests, it.low, far))
  table_taken TooBig (t, is, inr (inl wide)) = absurd (let none : table_reals t ≡ 0 = ap table_reals (same t is) ∙ it.reals in omega (arith, none, wide))
  table_taken TooBig (t, is, inr (inr (key, has, wide))) =
      let none : table_reals t ≡ 0 = ap table_reals (same t is) ∙ it.reals in
      let far = subst (λ n. 2 ^ 64 ≤ index_reals n key) none wide in
      let some : nat_lt 0 (index_reals 0 key) ≡ true = grind (arith, nat_tests, far) in
      none_has (λ k. nat_lt 0 (index_reals 0 k)) made.uniques key it.keys (subst (λ (x : Table). Has x.uniques key) (same t is) has) some
  table_taken BadKey (t, is, odd) = absurd (let yes : is_formed t ≡ true = ap is_formed (same t is) ∙ it.formed in cc)
  table_taken BadText (t, is, odd) =
      absurd (let yes : is_fit (Text (codes "table")) (Text t.name) (Text t.name) (Text text) ≡ true = ap (λ (x : Table). is_fit (Text (codes "table")) (Text x.name) (Text x.name) (Text text)) (same t is) ∙ it.fit in cc)
  table_taken (Violates rule) h = h

  pub table_short : ¬ IsLongTable text
  table_short (t, is, long) =
      let far = subst (λ (x : Table). 10 ^ 9 ≤ 2 * length x.name + length text + 200) (same t is) long in
      absurd (grind (arith, nat_tests, it.short, far))

-- the same of the index of the entries, where no table has a row
none_breaks : (tables : List Table) (schema : Schema) (trees : Trees) → AllByRecursion (λ t. trees t.tree ≡ []) tables → AllByRecursion (λ t. AllByRecursion (λ row. passes Unique schema trees t row ≡ true) (trees t.tree)) tables
none_breaks [] schema trees empty = tt
none_breaks (t ∷ ts) schema trees empty = (rw empty.0 tt, none_breaks ts schema trees empty.1)

module _ (schema : Schema) (text : List ℕ) (table : Table) (made : Index) (defined : index_defined_by table text ≡ Ok made) (it : IsTakenAsIndex schema text table made) (trees : Trees) where
  same_index : (i : Index) → index_defined_by table text ≡ Ok i → i ≡ made
  same_index i is = let both : Ok i ≡ Ok made = sym is ∙ defined in cc

  pub index_taken : AllByRecursion (λ t. trees t.tree ≡ []) schema.tables → (why : Refusal) → ¬ RefusesIndex schema trees table text why
  index_taken empty (Invalid e) is = absurd (let both : Ok made ≡ Err e = sym defined ∙ is in cc)
  index_taken empty NameTaken (i, is, used) = absurd (let no : is_used schema i.name ≡ false = ap (λ (x : Index). is_used schema x.name) (same_index i is) ∙ it.free in cc)
  index_taken empty BadName (i, is, inl (inl odd)) = odd (subst (λ (x : Index). IsUtf8 x.name) (sym (same_index i is)) it.named)
  index_taken empty BadName (i, is, inl (inr (reserved, bare))) = absurd (let no : is_reserved i.name ≡ false = ap (λ (x : Index). is_reserved x.name) (same_index i is) ∙ it.own in cc)
  index_taken empty BadName (i, is, inr odd) = odd it.owned
  index_taken empty TooBig (i, is, inl many) = let low = it.low in absurd (grind (arith, nat_tests, low, many))
  index_taken empty TooBig (i, is, inr (inl wide)) = absurd (omega (arith, it.reals, wide))
  index_taken empty TooBig (i, is, inr (inr wide)) =
      let far = subst (λ n. 2 ^ 64 ≤ index_reals n i.columns) it.reals wide in
      let none : index_reals 0 i.columns ≡ 0 = ap (λ (x : Index). index_reals 0 x.columns) (same_index i is) ∙ it.key in
      absurd (omega (arith, none, far))
  index_taken empty BadKey h = h
  index_taken empty BadText (i, is, odd) =
      absurd (let yes : is_fit (Text (codes "index")) (Text i.name) (Text table.name) (Text text) ≡ true = ap (λ (x : Index). is_fit (Text (codes "index")) (Text x.name) (Text table.name) (Text text)) (same_index i is) ∙ it.fit in cc)
  index_taken empty (Violates rule) (i, is, unique, broken) = broken (none_breaks schema.tables (indexed schema table i) trees empty)

  pub index_short : trees table.tree ≡ [] → ¬ IsLongIndex trees table text
  index_short bare (i, is, inl long) =
      let far = subst (λ (x : Index). 10 ^ 9 ≤ length x.name + length table.name + length text + 200) (same_index i is) long in
      absurd (grind (arith, nat_tests, it.short, far))
  index_short bare (i, is, inr (row, has, odd)) = subst (λ rows. Has rows row) bare has

pub ascii : (bs : List ℕ) → all_scalars bs ≡ true → encode_utf8_all bs ≡ bs → IsUtf8 bs
ascii bs scalar same = (bs, (scalar, same))
