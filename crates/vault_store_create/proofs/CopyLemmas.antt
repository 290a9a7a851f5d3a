-- Rows that are put into a table one after another, and tables one after another.
use Rattle.std.proofs.Common.{◌≡◌, ◌⊎◌, inl, inr, ◌==◌, ◌+◌, ◌<◌, ◌≤◌, ℕ, nat_lt, Bool, List, [], ◌∷◌, ◌++◌, length, map, true, false, cond, lit≤, append-nil, Result, OnOk, IfErr, IsTrue, refl, sym, subst, ◌∙◌, arith}
use Rattle.std.specs.Prelude.{IsPermutation}
use Rattle.std.specs.List.{AllByRecursion}
use Rattle.std.proofs.lemmas.Bool.{cases_Bool}
use Rattle.std.proofs.lemmas.Bool.Decides.{nat_tests}
use Rattle.std.proofs.lemmas.List.Elements.{All-from_recursion, recursion_from_All}
use Rattle.std.proofs.lemmas.List.Sorted.{IsPermutation-refl, IsPermutation-sym, IsPermutation-trans, IsPermutation-middle, IsPermutation-append_right, All-permutation, length_permutation}
use Rattle.sqlite_value.specs.Order.{Row}
use Rattle.sqlite.specs.Effect.{Database, IsDatabase}
use Rattle.sqlite.specs.declared.error.Error.{Error}
use Rattle.sqlite.specs.State.{State, HasCleanDisk, IsUnchanged, Survives}
use Rattle.vault_base.specs.declared.refusal.Table.{Table}
use Rattle.vault_base.specs.declared.refusal.Table.TheVariants as table
use Rattle.vault_core_model.specs.declared.records.History.{History}
use Rattle.vault_core_model.specs.Vault.{Vault}
use Rattle.vault_audit_model.specs.declared.schema.SchemaVersion.{SchemaVersion}
use Rattle.vault_audit_model.specs.SchemaVersions.{edition_of}
use Rattle.vault_audit_model.specs.Order.{place_of}
use Rattle.vault_audit_model.specs.Rows.{department_row, caller_row, bucket_row, rule_row, entry_row, content_row, setting_row, note_row, head_row, tenure_row, external_row}
use Rattle.vault_audit_model.specs.Spells.{AreSoundAs, meta_of, department_in, bucket_of, heads_in, external_rows_of}
use Rattle.vault_audit_model.specs.Tables.{vault_schema}
use Rattle.vault_audit_model.proofs.OutcomeLemmas.{on_ok_then}
use Rattle.vault_audit_model.proofs.PlaceLemmas.{one_table}
use Rattle.vault_audit_rows.specs.Walk.{Goes}
use Rattle.vault_store_create.specs.Create.{Moves}
use Rattle.vault_store_model.specs.Edits.{with_row}
use Rattle.vault_store_model.specs.Rows.{Rows, AreSameRows, rows_in, rows_of}
use Rattle.vault_store_create.specs.Copied.{PutsRow, HasFirstRows, HasCopied, FailsForARow, IsRefusedFor, first_rows, registering}
use Rattle.vault_store_create.specs.RowsOf.{IsOf, IsRowOf}

-- ---- the rows of a vault state records

all_of : {A X : Type 0} (row_of : X → Row) (f : A → X) (xs : List A) → AllByRecursion (IsOf row_of) (map (λ a. row_of (f a)) xs)
all_of row_of f [] = tt
all_of row_of f (x ∷ xs) = ((f x, refl), all_of row_of f xs)

external_stated : (external : Bool) (hs : List History) → AllByRecursion (IsOf external_row) (external_rows_of (edition_of external) hs)
external_stated false hs = tt
external_stated true hs = all_of external_row (λ id. id) _

all_stated : (v : Vault) (t : Table) → AllByRecursion (IsRowOf t) (rows_of v t)
all_stated v table.Meta = ((meta_of v, refl), tt)
all_stated v table.Departments = all_of department_row (department_in v) v.departments
all_stated v table.Callers = all_of caller_row (λ c. c) v.callers
all_stated v table.Buckets = all_of bucket_row bucket_of v.buckets
all_stated v table.Rules = all_of rule_row (λ r. r) _
all_stated v table.Entries = all_of entry_row (λ h. h.entry) v.histories
all_stated v table.Contents = all_of content_row (λ c. c) _
all_stated v table.Settings = all_of setting_row (λ s. s) _
all_stated v table.Intake = all_of note_row (λ n. n) v.notes
all_stated v table.Heads = all_of head_row (λ h. h) (heads_in v)
all_stated v table.Tenures = all_of tenure_row (λ t. t) _
all_stated v table.External = external_stated v.external v.histories

-- in any order
pub rows_stated : (v : Vault) (t : Table) (rows : List Row) → IsPermutation (rows_of v t) rows → AllByRecursion (IsRowOf t) rows
rows_stated v t rows same =
    recursion_from_All (IsRowOf t) rows (All-permutation (IsRowOf t) (rows_of v t) rows same (All-from_recursion (IsRowOf t) (rows_of v t) (all_stated v t)))

-- ---- one row after the other

module _ (external : Bool) (t : Table) where
  -- the rows are added to those of this table, and the others have theirs
  pub record Adds (rows : List Row) (x y : Database) : Type 0 where
    pub schema : y.schema ≡ vault_schema external
    pub here : IsPermutation (rows ++ rows_in external x t) (rows_in external y t)
    pub beside : (s : Table) → (place_of t == place_of s) ≡ false → IsPermutation (rows_in external x s) (rows_in external y s)
    pub listed : (IsDatabase x ⊎ (1 ≤ length rows)) → IsDatabase y

  own_number : (place_of t == place_of t) ≡ true
  own_number = grind (arith, nat_tests)

  row_here : (r : Row) (xs ys : Rows) → AreSameRows (with_row t r xs) ys → IsPermutation (r ∷ xs t) (ys t)
  row_here r xs ys same = subst (λ b. IsPermutation (cond b (r ∷ xs t) (xs t)) (ys t)) own_number (same t)

  row_beside : (r : Row) (xs ys : Rows) (s : Table) → (place_of t == place_of s) ≡ false → AreSameRows (with_row t r xs) ys → IsPermutation (xs s) (ys s)
  row_beside r xs ys s other same = subst (λ b. IsPermutation (cond b (r ∷ xs s) (xs s)) (ys s)) other (same s)

  pub adds : (rows : List Row) (x y : Database) → AllByRecursion (IsRowOf t) rows → Goes (λ a row b. PutsRow external t row a b) x rows y → x.schema ≡ vault_schema external → Adds rows x y
  adds [] x y all same has =
      subst (Adds [] x) same (record {
        schema = has;
        here = IsPermutation-refl (rows_in external x t);
        beside = λ s other. IsPermutation-refl (rows_in external x s);
        listed = λ h. elim h [ inl is ↦ is | inr some ↦ absurd (omega (arith, some)) ];
      })
  adds (r ∷ rows) x y all gone has =
      let put = gone.1 has all.0 in
      let more = adds rows gone.0 y all.1 gone.2 put.schema in
      record {
        schema = more.schema;
        here = IsPermutation-trans _ _ _ (IsPermutation-sym _ _ (IsPermutation-middle rows r (rows_in external x t)))
            (IsPermutation-trans _ _ _ (IsPermutation-append_right rows _ _ (row_here r (rows_in external x) (rows_in external gone.0) put.rows)) more.here);
        beside = λ s other. IsPermutation-trans _ _ _ (row_beside r (rows_in external x) (rows_in external gone.0) s other put.rows) (more.beside s other);
        listed = λ h. more.listed (inl put.listed);
      }

-- ---- one table after the other

below_if : (a b : ℕ) → nat_lt a b ≡ true → a < b
below_if a b is = grind (arith, nat_tests, is)

if_below : (a b : ℕ) → a < b → nat_lt a b ≡ true
if_below a b less = grind (arith, nat_tests, less)

low_unless : (a b : ℕ) → nat_lt a b ≡ false → b ≤ a
low_unless a b fails = grind (arith, nat_tests, fails)

unless_low : (a b : ℕ) → b ≤ a → nat_lt a b ≡ false
unless_low a b low = grind (arith, nat_tests, low)

below_next : (a b : ℕ) → b ≤ a → (b == a) ≡ false → b + 1 ≤ a
below_next a b low other = grind (arith, nat_tests, low, other)

below_more : (n : ℕ) → nat_lt n (n + 1) ≡ true
below_more n = if_below n (n + 1) (omega arith)

pub not_below : (n : ℕ) → nat_lt n n ≡ false
not_below n = unless_low n n (omega arith)

below_as_before : (n m : ℕ) → (m == n) ≡ false → nat_lt n (m + 1) ≡ nat_lt n m
below_as_before n m other = elim (cases_Bool (nat_lt n m)) [
  | inl passes ↦ let less = below_if n m passes in if_below n (m + 1) (omega (arith, less)) ∙ sym passes
  | inr fails ↦ unless_low n (m + 1) (below_next n m (low_unless n m fails) other) ∙ sym fails
]

-- meta has a row, and the other tables come after it
not_alone : (v : Vault) (t : Table) → (1 ≤ place_of t) ⊎ (1 ≤ length (rows_of v t))
not_alone v table.Meta = inr (lit≤ tt)
not_alone v table.Departments = inl (lit≤ tt)
not_alone v table.Callers = inl (lit≤ tt)
not_alone v table.Buckets = inl (lit≤ tt)
not_alone v table.Rules = inl (lit≤ tt)
not_alone v table.Entries = inl (lit≤ tt)
not_alone v table.Contents = inl (lit≤ tt)
not_alone v table.Settings = inl (lit≤ tt)
not_alone v table.Intake = inl (lit≤ tt)
not_alone v table.Heads = inl (lit≤ tt)
not_alone v table.Tenures = inl (lit≤ tt)
not_alone v table.External = inl (lit≤ tt)

module _ (v : Vault) (t : Table) (rows : List Row) (x y : Database) (was : HasFirstRows v (place_of t) x) (shown : IsPermutation (rows_of v t) rows) (added : Adds v.external t rows x y) where
  here_more : IsPermutation (first_rows v (place_of t + 1) t) (rows_in v.external y t)
  here_more =
      let none : IsPermutation [] (rows_in v.external x t) = subst (λ b. IsPermutation (cond b (rows_of v t) []) (rows_in v.external x t)) (not_below (place_of t)) (was.rows t) in
      let put : IsPermutation rows (rows_in v.external y t) = subst (λ rs. IsPermutation rs (rows_in v.external y t)) (append-nil rows) (IsPermutation-trans _ _ _ (IsPermutation-append_right rows _ _ none) added.here) in
      subst (λ b. IsPermutation (cond b (rows_of v t) []) (rows_in v.external y t)) (sym (below_more (place_of t))) (IsPermutation-trans _ _ _ shown put)

  rows_more : AreSameRows (first_rows v (place_of t + 1)) (rows_in v.external y)
  rows_more s = elim (cases_Bool (place_of t == place_of s)) [
    | inl same ↦
        let is : t ≡ s = one_table t s (grind (arith, nat_tests, same)) in
        subst (λ u. IsPermutation (first_rows v (place_of t + 1) u) (rows_in v.external y u)) is here_more
    | inr other ↦
        subst (λ b. IsPermutation (cond b (rows_of v s) []) (rows_in v.external y s)) (sym (below_as_before (place_of s) (place_of t) other))
        (IsPermutation-trans _ _ _ (was.rows s) (added.beside s other))
  ]

  listed_more : IsDatabase y
  listed_more = elim (not_alone v t) [
    | inl later ↦ added.listed (inl (was.listed later))
    | inr some ↦ added.listed (inr (let as_long = length_permutation _ _ shown in omega (arith, some, as_long)))
  ]

  table_more : HasFirstRows v (place_of t + 1) y
  table_more = record { schema = added.schema; rows = rows_more; listed = λ h. listed_more }

pub copies_table : (n : SchemaVersion) (external : Bool) (from x y : Database) (t : Table) (rows : List Row) → ((v : Vault) → AreSoundAs n from v → IsPermutation (rows_of (registering external v) t) rows)
    → Goes (λ a row b. PutsRow external t row a b) x rows y → HasCopied n external from (place_of t) x → HasCopied n external from (place_of t + 1) y
copies_table n external from x y t rows shown gone was v is =
    let before = was v is in
    let stated = shown v is in
    let new = registering external v in
    table_more new t rows x y before stated (adds external t rows x y (rows_stated new t rows stated) gone before.schema)

-- one part of the copy after the other
pub copies_on : (n : SchemaVersion) (external : Bool) (from later : Database) (old mid new : State) (From : Database → Type 0) (b c : ℕ) → later ≡ from → Moves old mid From (HasCopied n external from b) → Moves mid new (HasCopied n external later b) (HasCopied n external later c)
    → Moves old new From (HasCopied n external from c)
copies_on n external from later old mid new From b c same one two = record {
  was_open = one.was_open;
  is_open = two.is_open;
  inside = two.inside;
  committed = two.committed ∙ one.committed;
  goes = λ was. subst (λ d. HasCopied n external d c new.now) same (two.goes (subst (λ d. HasCopied n external d b mid.now) (sym same) (one.goes was)));
}

-- a part of the copy that was made: the old tables are as they were, and more of the new ones have their rows
pub record Made (n : SchemaVersion) (external : Bool) (first old start new : State) (b c : ℕ) : Type 0 where
  pub read : HasCleanDisk old → HasCleanDisk first × (old.now ≡ first.now)
  pub written : HasCleanDisk new → HasCleanDisk start
  pub copied : HasCleanDisk old → HasCleanDisk new → IsTrue start.in_transaction → IsTrue start.is_open → Moves start new (HasCopied n external first.now b) (HasCopied n external first.now c)

-- one after the other
pub made_then : {n : SchemaVersion} {external : Bool} {b c d : ℕ} {o0 o1 o2 t0 t1 t2 : State} → Made n external o0 o1 t0 t1 b c → Made n external o1 o2 t1 t2 c d → Made n external o0 o2 t0 t2 b d
made_then {n} {external} {b} {c} {d} {o0} {o1} {o2} {t0} {t1} {t2} one two = record {
  read = λ clean.
      let it = two.read clean in
      let was = one.read it.0 in (was.0, it.1 ∙ was.1);
  written = λ clean. one.written (two.written clean);
  copied = λ clean after inside is_open.
      let it = two.read clean in
      let part = one.copied it.0 (two.written after) inside is_open in
      copies_on n external o0.now o1.now t0 t1 t2 (HasCopied n external o0.now b) c d (one.read it.0).1 part (two.copied clean after part.inside part.is_open);
}

module _ (n : SchemaVersion) (external : Bool) (b c : ℕ) {first old start new : State} where
  pub made : (HasCleanDisk old → IsUnchanged first old) → Survives first old (λ _. ⊥) → Survives start new (λ _. ⊥)
      → (HasCleanDisk old → HasCleanDisk new → IsTrue start.in_transaction → IsTrue start.is_open → Moves start new (HasCopied n external first.now b) (HasCopied n external first.now c)) → Made n external first old start new b c
  made same read written copied = record {
    read = λ clean. (omega (arith, clean, read.clean), (same clean).0.now_is);
    written = λ clean. omega (arith, clean, written.clean);
    copied = copied;
  }

  module _ {later next : State} (done : Made n external first old start new b c) (read : Survives old later (λ _. ⊥)) (written : Survives new next (λ _. ⊥)) where
    up_to : HasCleanDisk later → HasCleanDisk next → IsTrue start.in_transaction → IsTrue start.is_open → Moves start new (HasCopied n external first.now b) (HasCopied n external first.now c)
    up_to clean after = done.copied (omega (arith, clean, read.clean)) (omega (arith, after, written.clean))

    is_same : HasCleanDisk later → old.now ≡ first.now
    is_same clean = (done.read (omega (arith, clean, read.clean))).1

    -- what is copied after it
    pub copied_after : (d : ℕ) {A E : Type 0} (r : Result A E)
        → (HasCleanDisk later → HasCleanDisk next → IsTrue new.in_transaction → IsTrue new.is_open → OnOk r (Moves new next (HasCopied n external old.now c) (HasCopied n external old.now d)))
        → HasCleanDisk later → HasCleanDisk next → IsTrue start.in_transaction → IsTrue start.is_open → OnOk r (Moves start next (HasCopied n external first.now b) (HasCopied n external first.now d))
    copied_after d r more clean after inside is_open =
        let it = up_to clean after inside is_open in
        on_ok_then r (more clean after it.inside it.is_open) (λ part. copies_on n external first.now old.now start new next (HasCopied n external first.now b) c d (is_same clean) it part)

    -- what is refused after it
    pub fails_after : {A : Type 0} (r q : Result A Error) → q ≡ r → FailsForARow n external c old later new next r → FailsForARow n external b first later start next q
    fails_after r q stated fails v is was well_old well inside is_open =
        let it = up_to well_old.clean well.clean inside is_open in
        let same = sym (is_same well_old.clean) in
        subst (λ x. IfErr x (IsRefusedFor (registering external v))) (sym stated) (fails v (subst (λ db. AreSoundAs n db v) same is) (subst (λ db. HasCopied n external db c new.now) same (it.goes was)) well_old well it.inside it.is_open)
