-- Which table is reported.
use Rattle.std.proofs.Common.{◌≡◌, ◌⊎◌, ℕ, zero, suc, ◌+◌, ◌<◌, ◌≤◌, List, [], ◌∷◌, length, map, Some, take, refl, ap, subst, sym, ◌∙◌, inl, inr, arith, take-take}
use Rattle.std.specs.List.{slice_get}
use Rattle.std.specs.Option.{option_map}
use Rattle.std.proofs.lemmas.Bool.{cases_order}
use Rattle.std.proofs.lemmas.Option.{slice_get-map, same_Some}
use Rattle.vault_base.specs.declared.refusal.Table.{Table}
use Rattle.vault_base.specs.declared.refusal.Table.TheVariants.{Meta, Departments, Callers, Buckets, Rules, Entries, Contents, Settings, Intake, Heads, Tenures, External}
use Rattle.sqlite.specs.Schema.{Schema}
use Rattle.sqlite.specs.Table.{Table as Made}
use Rattle.vault_audit_model.specs.declared.schema.SchemaVersion.{SchemaVersion}
use Rattle.vault_audit_model.specs.declared.schema.SchemaVersion.TheVariants.{First, Second, Third, Fourth}
use Rattle.vault_audit_model.specs.Order.{place_of, made_in}
use Rattle.vault_audit_model.specs.Tables.{schema_of}
use Rattle.vault_audit_schema.specs.Compare.{IsFirstUnlike}
use Rattle.vault_audit_schema.specs.Places.{HasTable, IsInPlace, AreInPlace, BeginTo, IsReportedOf, IsReportedIn}
use Rattle.vault_audit_schema.proofs.CompareLemmas.{unlike_not}

pub place_below : (t : Table) → place_of t < 12
place_below Meta = omega arith
place_below Departments = omega arith
place_below Callers = omega arith
place_below Buckets = omega arith
place_below Rules = omega arith
place_below Entries = omega arith
place_below Contents = omega arith
place_below Settings = omega arith
place_below Intake = omega arith
place_below Heads = omega arith
place_below Tenures = omega arith
place_below External = omega arith

-- each place is that of a table
placed : (at : ℕ) → at < 12 → (t : Table) × (place_of t ≡ at)
placed zero h = (Meta, refl)
placed (suc zero) h = (Departments, refl)
placed (suc (suc zero)) h = (Callers, refl)
placed (suc (suc (suc zero))) h = (Buckets, refl)
placed (suc (suc (suc (suc zero)))) h = (Rules, refl)
placed (suc (suc (suc (suc (suc zero))))) h = (Entries, refl)
placed (suc (suc (suc (suc (suc (suc zero)))))) h = (Contents, refl)
placed (suc (suc (suc (suc (suc (suc (suc zero))))))) h = (Settings, refl)
placed (suc (suc (suc (suc (suc (suc (suc (suc zero)))))))) h = (Intake, refl)
placed (suc (suc (suc (suc (suc (suc (suc (suc (suc zero))))))))) h = (Heads, refl)
placed (suc (suc (suc (suc (suc (suc (suc (suc (suc (suc zero)))))))))) h = (Tenures, refl)
placed (suc (suc (suc (suc (suc (suc (suc (suc (suc (suc (suc zero))))))))))) h = (External, refl)
placed (suc (suc (suc (suc (suc (suc (suc (suc (suc (suc (suc (suc n)))))))))))) h = absurd (omega arith)

-- how many a schema version has
abbrev count : SchemaVersion → ℕ
count n = length (schema_of n).tables

few : (n : SchemaVersion) → count n < 13
few First = omega arith
few Second = omega arith
few Third = omega arith
few Fourth = omega arith

-- a table stands in the schema version's list at its place
made_at : (n : SchemaVersion) (t : Table) → HasTable n t → slice_get (made_in n) (place_of t) ≡ Some t
made_at n Meta has = refl
made_at n Departments has = refl
made_at n Callers has = refl
made_at n Buckets has = refl
made_at n Rules has = refl
made_at n Entries has = refl
made_at n Contents has = refl
made_at n Settings has = refl
made_at n Intake has = refl
made_at n Heads has = refl
made_at First Tenures has = absurd (omega (arith, has))
made_at Second Tenures has = absurd (omega (arith, has))
made_at Third Tenures has = refl
made_at Fourth Tenures has = refl
made_at First External has = absurd (omega (arith, has))
made_at Second External has = absurd (omega (arith, has))
made_at Third External has = absurd (omega (arith, has))
made_at Fourth External has = refl

-- so where its forms have these names, the form at this place has the table's
pub named_at : {F : Type 0} (n : SchemaVersion) (name_of : F → Table) (forms : List F) → map name_of forms ≡ made_in n → (form : F) (at : ℕ) → slice_get forms at ≡ Some form
    → (t : Table) → HasTable n t → place_of t ≡ at → name_of form ≡ t
named_at n name_of forms are form at is t has here =
    same_Some (name_of form) t (
    ap (option_map name_of) (sym is) ∙ sym (slice_get-map name_of forms at) ∙ ap (λ (l : List Table). slice_get l at) are
    ∙ ap (slice_get (made_in n)) (sym here) ∙ made_at n t has
    )

get_in_take : {X : Type 0} (n : ℕ) (xs : List X) (k : ℕ) → k < n → slice_get (take n xs) k ≡ slice_get xs k
get_in_take zero xs k h = absurd (omega arith)
get_in_take (suc n) [] k h = refl
get_in_take (suc n) (x ∷ xs) zero h = refl
get_in_take (suc n) (x ∷ xs) (suc k) h = get_in_take n xs k (omega arith)

agree_before : {X : Type 0} (xs ys : List X) (n k : ℕ) → take n xs ≡ take n ys → k < n → slice_get xs k ≡ slice_get ys k
agree_before xs ys n k e h = sym (get_in_take n xs k h) ∙ ap (λ (l : List _). slice_get l k) e ∙ get_in_take n ys k h

-- a table that the tables begin with stands in its place
pub in_place : (n : SchemaVersion) (tables : List Made) (t : Table) → BeginTo n tables t → IsInPlace n tables t
in_place n tables t begin has = agree_before tables (schema_of n).tables (place_of t + 1) (place_of t) begin (omega arith)

-- one that doesn't stand in its place is one of the schema version's
has_out : (n : SchemaVersion) (tables : List Made) (t : Table) → ¬ IsInPlace n tables t → HasTable n t
has_out n tables t here = elim (cases_order (place_of t) (count n)) [
  | inl e ↦ absurd (here (λ has. absurd (omega (arith, has, e))))
  | inr (inl less) ↦ less
  | inr (inr more) ↦ absurd (here (λ has. absurd (omega (arith, has, more))))
]

same_place : (n : SchemaVersion) (tables : List Made) (at : ℕ) (t : Table) → IsFirstUnlike tables (schema_of n).tables at
    → ((u : Table) → place_of u < place_of t → IsInPlace n tables u) → ¬ IsInPlace n tables t → place_of t ≡ at
same_place n tables at t unlike before here = elim (cases_order (place_of t) at) [
  | inl e ↦ e
  | inr (inl less) ↦ absurd (here (λ has. agree_before tables (schema_of n).tables at (place_of t) unlike.before less))
  | inr (inr more) ↦
      let below : place_of t < 12 = place_below t in
      let has : place_of t < count n = has_out n tables t here in
      let found : (u : Table) × (place_of u ≡ at) = placed at (omega (arith, below, more)) in
      let lower : place_of found.0 < place_of t = rw found.1 more in
      let there : place_of found.0 < count n = omega (arith, lower, has) in
      absurd (unlike.differs (subst (λ (k : ℕ). slice_get tables k ≡ slice_get (schema_of n).tables k) found.1 (before found.0 lower there)))
]

begin_before : (n : SchemaVersion) (tables : List Made) (at : ℕ) → take at tables ≡ take at (schema_of n).tables → (t : Table) → place_of t < at → BeginTo n tables t
begin_before n tables at before t less =
    let within : place_of t + 1 ≤ at = omega (arith, less) in
    sym (take-take (place_of t + 1) at tables within) ∙ ap (take (place_of t + 1)) before ∙ take-take (place_of t + 1) at (schema_of n).tables within

module _ (n : SchemaVersion) (tables : List Made) (at : ℕ) (stated : Table) (unlike : IsFirstUnlike tables (schema_of n).tables at) where
  abbrev Reported : Type 0
  Reported = ((t : Table) → place_of t < place_of stated → BeginTo n tables t) × (¬ IsInPlace n tables stated ⊎ AreInPlace n tables)

  -- it differs at this table
  at_table : (u : Table) → place_of u ≡ at → at < count n → stated ≡ u → Reported
  at_table u placed_at within is =
      let stated_at : place_of stated ≡ at = ap place_of is ∙ placed_at in
      let has : place_of stated < count n = rw stated_at within in (
        λ t less. begin_before n tables at unlike.before t (omega (arith, stated_at, less)),
        inl (λ here. unlike.differs (subst (λ (k : ℕ). slice_get tables k ≡ slice_get (schema_of n).tables k) stated_at (here has))),
      )

  -- or past all of them
  past_all : count n ≤ at → stated ≡ Meta → Reported
  past_all far is =
      let first : place_of stated ≡ 0 = ap place_of is in (
        λ t less. absurd (omega (arith, first, less)),
        inr (λ t has. agree_before tables (schema_of n).tables at (place_of t) unlike.before (omega (arith, has, far))),
      )

  pub stated_of : ((t : Table) → HasTable n t → place_of t ≡ at → stated ≡ t) → (count n ≤ at → stated ≡ Meta) → IsReportedOf n tables stated
  stated_of named past =
      let it : Reported = elim (cases_order at (count n)) [
        | inl e ↦ (let far : count n ≤ at = omega (arith, e) in past_all far (past far))
        | inr (inl less) ↦
            let most = few n in
            let found = placed at (omega (arith, less, most)) in
            let has : HasTable n found.0 = rw found.1 less in
            at_table found.0 found.1 less (named found.0 has found.1)
        | inr (inr more) ↦ (let far : count n ≤ at = omega (arith, more) in past_all far (past far))
      ] in
      record {
        differs = λ e. unlike_not unlike e;
        begin = it.0;
        here = it.1;
        first = λ t before here. named t (has_out n tables t here) (same_place n tables at t unlike before here);
      }

-- ---- of the tables of a schema

module _ (n : SchemaVersion) (schema : Schema) (tables : List Made) (stated : Table) (same : tables ≡ schema.tables) (it : IsReportedOf n tables stated) where
  of_its : IsReportedOf n schema.tables stated
  of_its = subst (λ (ts : List Made). IsReportedOf n ts stated) same it

  pub reported_in : IsReportedIn n schema stated
  reported_in = record { differs = λ e. of_its.differs (ap (λ (s : Schema). s.tables) e); begin = of_its.begin; here = of_its.here }

  pub first_in : (t : Table) → ((u : Table) → place_of u < place_of t → IsInPlace n schema.tables u) → ¬ IsInPlace n schema.tables t → Some stated ≡ Some t
  first_in t before here = ap Some (of_its.first t before here)
