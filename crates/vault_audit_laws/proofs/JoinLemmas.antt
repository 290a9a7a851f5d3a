-- Histories put together of their contents, their settings and their tenures.
use Rattle.std.proofs.Common.{◌≡◌, ℕ, List, [], ◌∷◌, ◌++◌, map, flat_map, find, option_map, cond, Bool, true, false, ◌==◌, Some, Option, refl, sym, ap, subst, ◌∙◌}
use Rattle.std.specs.List.{AllByRecursion}
use Rattle.vault_core_model.specs.declared.records.Entry.{Entry}
use Rattle.vault_core_model.specs.declared.records.History.{History}
use Rattle.vault_core_model.specs.Totals.{items_by, items_in, shares_of}
use Rattle.vault_audit_model.specs.declared.schema.SchemaVersion.{SchemaVersion}
use Rattle.vault_audit_model.specs.declared.schema.SchemaVersion.TheVariants.{First, Second, Third, Fourth}
use Rattle.vault_audit_model.specs.Rows.{external_row}
use Rattle.vault_audit_model.specs.Relations.{HasContent, HasContentAs, HasSettings, HasSettingsAs}
use Rattle.vault_audit_model.specs.Spells.{contents_in, external_in, external_rows_of, settings_in, tenures_in, entries_in}
use Rattle.vault_audit_laws.specs.Parts.{joined, put_together}

pub heads_same : {A : Type 0} (x y : A) (xs ys : List A) → (x ∷ xs) ≡ (y ∷ ys) → x ≡ y
heads_same x y xs ys e = cc

pub tails_same : {A : Type 0} (x y : A) (xs ys : List A) → (x ∷ xs) ≡ (y ∷ ys) → xs ≡ ys
tails_same x y xs ys e = cc

-- ---- what a history is put together of

-- the same history, of an equal entry
abbrev of_entry : Entry → History → History → History → History
of_entry e c s t = record { entry = e; content = c.content; settings = s.settings; tenures = t.tenures }

content_as : (marker external : Bool) (c s t : History) → HasContentAs marker external c → HasContentAs marker external (put_together c s t)
content_as true external c s t is = is
content_as false external c s t is = is

settings_as : (marker : Bool) (c s t : History) → HasSettingsAs marker s → HasSettingsAs marker (of_entry s.entry c s t)
settings_as true c s t is = is
settings_as false c s t is = is

has_content : (external : Bool) (c s t : History) → c.entry ≡ s.entry → c.entry ≡ t.entry → HasContent external c → HasContent external (put_together c s t)
has_content external c s t same also is = content_as c.entry.marker external c s t is

has_settings : (c s t : History) → c.entry ≡ s.entry → c.entry ≡ t.entry → HasSettings s → HasSettings (put_together c s t)
has_settings c s t same also is = subst (λ (e : Entry). HasSettings (of_entry e c s t)) (sym same) (settings_as s.entry.marker c s t is.0, is.1)

settings_same : (c s t : History) → c.entry ≡ s.entry → c.entry ≡ t.entry → settings_in (put_together c s t) ≡ settings_in s
settings_same c s t same also = ap (λ (e : Entry). settings_in (of_entry e c s t)) same

tenures_same : (c s t : History) → c.entry ≡ s.entry → c.entry ≡ t.entry → tenures_in (put_together c s t) ≡ tenures_in t
tenures_same c s t same also = ap (λ (e : Entry). tenures_in (of_entry e c s t)) also

items_same : (dept : List ℕ) (c s t : History) → c.entry ≡ s.entry → c.entry ≡ t.entry → items_by dept (shares_of (put_together c s t)) ≡ items_by dept (shares_of t)
items_same dept c s t same also = ap (λ (e : Entry). items_by dept (shares_of (of_entry e c s t))) also

-- ---- lists of them

-- a fact of each history of one list is one of each that is put together
module _ (P Q : History → Type 0) where
  all_first : ((c s t : History) → c.entry ≡ s.entry → c.entry ≡ t.entry → P c → Q (put_together c s t)) → (cs ss ts : List History) → entries_in cs ≡ entries_in ss → entries_in cs ≡ entries_in ts → AllByRecursion P cs → AllByRecursion Q (joined cs ss ts)
  all_first has [] ss ts e f all = tt
  all_first has (c ∷ cs) [] ts e f all = absurd cc
  all_first has (c ∷ cs) (s ∷ ss) [] e f all = absurd cc
  all_first has (c ∷ cs) (s ∷ ss) (t ∷ ts) e f all =
      (has c s t (heads_same _ _ _ _ e) (heads_same _ _ _ _ f) all.0, all_first has cs ss ts (tails_same _ _ _ _ e) (tails_same _ _ _ _ f) all.1)

  all_second : ((c s t : History) → c.entry ≡ s.entry → c.entry ≡ t.entry → P s → Q (put_together c s t)) → (cs ss ts : List History) → entries_in cs ≡ entries_in ss → entries_in cs ≡ entries_in ts → AllByRecursion P ss → AllByRecursion Q (joined cs ss ts)
  all_second has [] ss ts e f all = tt
  all_second has (c ∷ cs) [] ts e f all = absurd cc
  all_second has (c ∷ cs) (s ∷ ss) [] e f all = absurd cc
  all_second has (c ∷ cs) (s ∷ ss) (t ∷ ts) e f all =
      (has c s t (heads_same _ _ _ _ e) (heads_same _ _ _ _ f) all.0, all_second has cs ss ts (tails_same _ _ _ _ e) (tails_same _ _ _ _ f) all.1)

  pub all_third : ((c s t : History) → c.entry ≡ s.entry → c.entry ≡ t.entry → P t → Q (put_together c s t)) → (cs ss ts : List History) → entries_in cs ≡ entries_in ss → entries_in cs ≡ entries_in ts → AllByRecursion P ts → AllByRecursion Q (joined cs ss ts)
  all_third has [] ss ts e f all = tt
  all_third has (c ∷ cs) [] ts e f all = absurd cc
  all_third has (c ∷ cs) (s ∷ ss) [] e f all = absurd cc
  all_third has (c ∷ cs) (s ∷ ss) (t ∷ ts) e f all =
      (has c s t (heads_same _ _ _ _ e) (heads_same _ _ _ _ f) all.0, all_third has cs ss ts (tails_same _ _ _ _ e) (tails_same _ _ _ _ f) all.1)

-- what one list says of each history, the whole says
module _ {A : Type 0} (of : History → List A) where
  rows_second : ((c s t : History) → c.entry ≡ s.entry → c.entry ≡ t.entry → of (put_together c s t) ≡ of s) → (cs ss ts : List History) → entries_in cs ≡ entries_in ss → entries_in cs ≡ entries_in ts → flat_map of (joined cs ss ts) ≡ flat_map of ss
  rows_second same [] [] ts e f = refl
  rows_second same [] (s ∷ ss) ts e f = absurd cc
  rows_second same (c ∷ cs) [] ts e f = absurd cc
  rows_second same (c ∷ cs) (s ∷ ss) [] e f = absurd cc
  rows_second same (c ∷ cs) (s ∷ ss) (t ∷ ts) e f =
      ap (λ rows. rows ++ flat_map of (joined cs ss ts)) (same c s t (heads_same _ _ _ _ e) (heads_same _ _ _ _ f))
      ∙ ap (λ rows. of s ++ rows) (rows_second same cs ss ts (tails_same _ _ _ _ e) (tails_same _ _ _ _ f))

  rows_third : ((c s t : History) → c.entry ≡ s.entry → c.entry ≡ t.entry → of (put_together c s t) ≡ of t) → (cs ss ts : List History) → entries_in cs ≡ entries_in ss → entries_in cs ≡ entries_in ts → flat_map of (joined cs ss ts) ≡ flat_map of ts
  rows_third same [] ss [] e f = refl
  rows_third same [] ss (t ∷ ts) e f = absurd cc
  rows_third same (c ∷ cs) [] ts e f = absurd cc
  rows_third same (c ∷ cs) (s ∷ ss) [] e f = absurd cc
  rows_third same (c ∷ cs) (s ∷ ss) (t ∷ ts) e f =
      ap (λ rows. rows ++ flat_map of (joined cs ss ts)) (same c s t (heads_same _ _ _ _ e) (heads_same _ _ _ _ f))
      ∙ ap (λ rows. of t ++ rows) (rows_third same cs ss ts (tails_same _ _ _ _ e) (tails_same _ _ _ _ f))

module _ (cs ss ts : List History) (e : entries_in cs ≡ entries_in ss) (f : entries_in cs ≡ entries_in ts) where
  pub joined_settings : flat_map settings_in (joined cs ss ts) ≡ flat_map settings_in ss
  joined_settings = rows_second settings_in settings_same cs ss ts e f

  pub joined_tenures : flat_map tenures_in (joined cs ss ts) ≡ flat_map tenures_in ts
  joined_tenures = rows_third tenures_in tenures_same cs ss ts e f

  -- what a department has is stated by the tenures
  pub joined_items : (dept : List ℕ) → items_in dept (joined cs ss ts) ≡ items_in dept ts
  joined_items dept = rows_third (λ (h : History). items_by dept (shares_of h)) (items_same dept) cs ss ts e f

  pub joined_contents_are : (external : Bool) → AllByRecursion (HasContent external) cs → AllByRecursion (HasContent external) (joined cs ss ts)
  joined_contents_are external = all_first (HasContent external) (HasContent external) (has_content external) cs ss ts e f

  pub joined_settings_are : AllByRecursion HasSettings ss → AllByRecursion HasSettings (joined cs ss ts)
  joined_settings_are = all_second HasSettings HasSettings has_settings cs ss ts e f

pub joined_entries : (cs ss ts : List History) → entries_in cs ≡ entries_in ss → entries_in cs ≡ entries_in ts → entries_in (joined cs ss ts) ≡ entries_in cs
joined_entries [] ss ts e f = refl
joined_entries (c ∷ cs) [] ts e f = absurd cc
joined_entries (c ∷ cs) (s ∷ ss) [] e f = absurd cc
joined_entries (c ∷ cs) (s ∷ ss) (t ∷ ts) e f = ap (λ es. c.entry ∷ es) (joined_entries cs ss ts (tails_same _ _ _ _ e) (tails_same _ _ _ _ f))

pub joined_contents : (cs ss ts : List History) → entries_in cs ≡ entries_in ss → entries_in cs ≡ entries_in ts → flat_map contents_in (joined cs ss ts) ≡ flat_map contents_in cs
joined_contents [] ss ts e f = refl
joined_contents (c ∷ cs) [] ts e f = absurd cc
joined_contents (c ∷ cs) (s ∷ ss) [] e f = absurd cc
joined_contents (c ∷ cs) (s ∷ ss) (t ∷ ts) e f = ap (λ rows. contents_in c ++ rows) (joined_contents cs ss ts (tails_same _ _ _ _ e) (tails_same _ _ _ _ f))

joined_external : (cs ss ts : List History) → entries_in cs ≡ entries_in ss → entries_in cs ≡ entries_in ts → flat_map external_in (joined cs ss ts) ≡ flat_map external_in cs
joined_external [] ss ts e f = refl
joined_external (c ∷ cs) [] ts e f = absurd cc
joined_external (c ∷ cs) (s ∷ ss) [] e f = absurd cc
joined_external (c ∷ cs) (s ∷ ss) (t ∷ ts) e f = ap (λ rows. external_in c ++ rows) (joined_external cs ss ts (tails_same _ _ _ _ e) (tails_same _ _ _ _ f))

pub joined_external_rows : (n : SchemaVersion) (cs ss ts : List History) → entries_in cs ≡ entries_in ss → entries_in cs ≡ entries_in ts → external_rows_of n (joined cs ss ts) ≡ external_rows_of n cs
joined_external_rows First cs ss ts e f = refl
joined_external_rows Second cs ss ts e f = refl
joined_external_rows Third cs ss ts e f = refl
joined_external_rows Fourth cs ss ts e f = ap (map external_row) (joined_external cs ss ts e f)

-- the entry of an id stands among the entries
found_where : (b : Bool) (h : History) (x : Option History) (y : Option Entry) → option_map (λ (g : History). g.entry) x ≡ y → option_map (λ (g : History). g.entry) (cond b (Some h) x) ≡ cond b (Some h.entry) y
found_where true h x y e = refl
found_where false h x y e = e

pub entry_found : (id : ℕ) (hs : List History) → option_map (λ (g : History). g.entry) (find (λ h. h.entry.id == id) hs) ≡ find (λ e. e.id == id) (entries_in hs)
entry_found id [] = refl
entry_found id (h ∷ hs) = found_where (h.entry.id == id) h (find (λ h. h.entry.id == id) hs) (find (λ e. e.id == id) (entries_in hs)) (entry_found id hs)
