-- Named records stay in the order of their names: a new one comes at its place, and its name is free.
use Rattle.std.proofs.Common.{◌≡◌, ℕ, List, [], ◌∷◌, map, Bool, true, false, Option, Some, None, refl, sym, ◌∙◌}
use Rattle.std.specs.Prelude.{find, option_map, if◌then◌else◌, ◌&&◌, ◌||◌, ◌==◌}
use Rattle.std.specs.List.{AllByRecursion, list_any}
use Rattle.std.specs.Str.{bytes_eq}
use Rattle.std.specs.Ordering.{nat_cmp, ordering_reverse, ordering_then}
use Rattle.std.specs.declared.cmp.Ordering.{Ordering}
use Rattle.std.specs.declared.cmp.Ordering.TheVariants.{Less, Equal, Greater}
use Rattle.std.specs.Cmp.{IsTotalOrder}
use Rattle.std.specs.Cmp.Lexicographic.{on_texts}
use Rattle.std.specs.FinMap.{slice_cmp-IsAntisymmetric, nat_cmp-IsAntisymmetric}
use Rattle.std.proofs.lemmas.Bool.{eq-eqb}
use Rattle.std.proofs.lemmas.Cmp.{nat_list_cmp_total, nat_cmp_total, then_total, on_total}
use Rattle.std.proofs.lemmas.Slice.Eq.{bytes_eq-Decides}
use Rattle.vault_core_model.specs.declared.records.Bucket.{Bucket}
use Rattle.vault_core_model.specs.declared.records.Caller.{Caller}
use Rattle.vault_core_model.specs.declared.records.Entry.{Entry}
use Rattle.vault_core_model.specs.declared.records.Note.{Note}
use Rattle.vault_core_model.specs.declared.change.Change.{Change}
use Rattle.vault_core_model.specs.declared.change.Change.TheVariants.{AddDept, AddCaller, CloseCaller, AddBucket, MoveBucket, SetDefault, SetRules, Admit, AddSetting, Remove}
use Rattle.vault_core_model.specs.Order.{IsAscending, placed, placed_by, placed_if_given, name_cmp, caller_cmp, bucket_cmp, note_cmp}
use Rattle.vault_core_model.specs.Vault.{Vault, has_department, caller_of, config_of, bucket_in}
use Rattle.vault_core_model.specs.Change.{changed, new_bucket, closed_if, with_default, with_department, with_rules}
use Rattle.vault_core_model.specs.Sound.{IsInNameOrder}
use Rattle.vault_core_model.specs.Allowed.{Allows, IsFirstNote}
use Rattle.vault_core_laws.proofs.Lists.{All-placed, All-weaker}
use Rattle.vault_core_laws.proofs.Buckets.{name-with_default, name-with_department, name-with_rules}

-- ---- in any order

pub reversed : (o : Ordering) → ordering_reverse o ≡ Greater → o ≡ Less
reversed Less e = refl
reversed Equal e = absurd (cc e)
reversed Greater e = absurd (cc e)

-- x ties with none of these
abbrev pub IsApart : {A : Type 0} → (A → A → Ordering) → A → List A → Type 0
IsApart cmp x ys = AllByRecursion (λ y. cmp x y ≡ Equal → ⊥) ys

pub ascending-placed : {A : Type 0} (cmp : A → A → Ordering) → IsTotalOrder cmp → (x : A) (ys : List A) → IsApart cmp x ys → IsAscending cmp ys → IsAscending cmp (placed cmp x ys)
ascending-placed cmp total x [] apart ascending = (tt, tt)
ascending-placed cmp total x (y ∷ ys) apart ascending =
    elim (cmp x y) as (λ o. cmp x y ≡ o → IsAscending cmp (placed_by o x y ys (placed cmp x ys))) [
      | Less ↦ λ before. ((before, All-weaker (λ z. cmp y z ≡ Less) (λ z. cmp x z ≡ Less) (λ z after. total.trans x y z before after) ys ascending.0), ascending)
      | Equal ↦ λ tie. absurd (apart.0 tie)
      | Greater ↦ λ after. (
        All-placed (λ z. cmp y z ≡ Less) cmp x ys (reversed (cmp y x) (sym (total.antisymm x y) ∙ after)) ascending.0,
        ascending-placed cmp total x ys apart.1 ascending.1,
      )
    ] refl

all-map : {A : Type 0} (P Q : A → Type 0) (f : A → A) → ((y : A) → P y → Q (f y)) → (ys : List A) → AllByRecursion P ys → AllByRecursion Q (map f ys)
all-map P Q f still [] all = tt
all-map P Q f still (y ∷ ys) all = (still y all.0, all-map P Q f still ys all.1)

-- records that are altered, each with its place
ascending-map : {A : Type 0} (cmp : A → A → Ordering) (f : A → A) → ((x y : A) → cmp (f x) (f y) ≡ cmp x y) → (xs : List A) → IsAscending cmp xs → IsAscending cmp (map f xs)
ascending-map cmp f same [] ascending = tt
ascending-map cmp f same (x ∷ xs) ascending =
    (all-map (λ y. cmp x y ≡ Less) (λ y. cmp (f x) y ≡ Less) f (λ y before. same x y ∙ before) xs ascending.0, ascending-map cmp f same xs ascending.1)

-- ---- what is free ties with nothing

pub clash : (b : Bool) → b ≡ true → b ≡ false → ⊥
clash b e f = cc (sym e ∙ f)

not_found : {A : Type 0} (p : A → Bool) (P : A → Type 0) → ((y : A) → p y ≡ false → P y) → (ys : List A) → find p ys ≡ None → AllByRecursion P ys
not_found p P means [] none = tt
not_found {A} p P means (y ∷ ys) none =
    elim (p y) as (λ b. p y ≡ b → (if b then Some y else find p ys) ≡ None → P y × AllByRecursion P ys) [
      | true ↦ λ e none. absurd (cc none)
      | false ↦ λ e none. (means y e, not_found p P means ys none)
    ] refl none

none_passes : {A : Type 0} (p : A → Bool) (P : A → Type 0) → ((y : A) → p y ≡ false → P y) → (ys : List A) → list_any p ys ≡ false → AllByRecursion P ys
none_passes p P means [] none = tt
none_passes p P means (y ∷ ys) none =
    elim (p y) as (λ b. p y ≡ b → (b || list_any p ys) ≡ false → P y × AllByRecursion P ys) [
      | true ↦ λ e none. absurd (cc none)
      | false ↦ λ e none. (means y e, none_passes p P means ys none)
    ] refl none

same_name : (a b : List ℕ) → name_cmp a b ≡ Equal → bytes_eq b a ≡ true
same_name a b tie = (bytes_eq-Decides b a).1 (sym (slice_cmp-IsAntisymmetric nat_cmp-IsAntisymmetric a b tie))

pub then_first : (a b : Ordering) → ordering_then a b ≡ Equal → a ≡ Equal
then_first Less b e = absurd (cc e)
then_first Equal b e = refl
then_first Greater b e = absurd (cc e)

pub then_second : (a b : Ordering) → ordering_then a b ≡ Equal → b ≡ Equal
then_second Less b e = absurd (cc e)
then_second Equal b e = e
then_second Greater b e = absurd (cc e)

all_true : (a b c : Bool) → a ≡ true → b ≡ true → c ≡ true → (a && (b && c)) ≡ true
all_true a b c p q r = rw (p, q, r) refl

same_line : (n m : Note) → note_cmp n m ≡ Equal → (bytes_eq m.bucket n.bucket && (bytes_eq m.batch n.batch && m.line == n.line)) ≡ true
same_line n m tie =
    let later = then_second (name_cmp n.bucket m.bucket) (ordering_then (name_cmp n.batch m.batch) (nat_cmp n.line m.line)) tie in
    all_true (bytes_eq m.bucket n.bucket) (bytes_eq m.batch n.batch) (m.line == n.line)
    (same_name n.bucket m.bucket (then_first (name_cmp n.bucket m.bucket) (ordering_then (name_cmp n.batch m.batch) (nat_cmp n.line m.line)) tie))
    (same_name n.batch m.batch (then_first (name_cmp n.batch m.batch) (nat_cmp n.line m.line) later))
    (eq-eqb m.line n.line (sym (nat_cmp-IsAntisymmetric n.line m.line (then_second (name_cmp n.batch m.batch) (nat_cmp n.line m.line) later))))

free_bucket : (bs : List Bucket) (name : List ℕ) → option_map (λ (b : Bucket). b.config) (bucket_in bs name) ≡ None → bucket_in bs name ≡ None
free_bucket bs name free = none_of (bucket_in bs name) free
  where
    none_of : (o : Option Bucket) → option_map (λ (b : Bucket). b.config) o ≡ None → o ≡ None
    none_of None e = refl
    none_of (Some b) e = absurd (cc e)

-- ---- the orders of the records

pub callers_total : IsTotalOrder caller_cmp
callers_total = on_texts (λ (c : Caller). c.name)

pub buckets_total : IsTotalOrder bucket_cmp
buckets_total = on_texts (λ (b : Bucket). b.name)

pub notes_total : IsTotalOrder note_cmp
notes_total =
    then_total (on_texts (λ (n : Note). n.bucket)) (then_total (on_texts (λ (n : Note). n.batch)) (on_total (λ (n : Note). n.line) nat_cmp_total))

-- ---- the changes

department-placed : (v : Vault) (name : List ℕ) → has_department v name ≡ false → IsAscending name_cmp v.departments → IsAscending name_cmp (placed name_cmp name v.departments)
department-placed v name free =
    ascending-placed name_cmp nat_list_cmp_total name v.departments
    (none_passes (λ d. bytes_eq d name) (λ d. name_cmp name d ≡ Equal → ⊥) (λ d other tie. clash (bytes_eq d name) (same_name name d tie) other) v.departments free)

caller-placed : (v : Vault) (c : Caller) → caller_of v c.name ≡ None → IsAscending caller_cmp v.callers → IsAscending caller_cmp (placed caller_cmp c v.callers)
caller-placed v c free =
    ascending-placed caller_cmp callers_total c v.callers
    (not_found (λ d. bytes_eq d.name c.name) (λ d. caller_cmp c d ≡ Equal → ⊥) (λ d other tie. clash (bytes_eq d.name c.name) (same_name c.name d.name tie) other) v.callers free)

bucket-placed : (v : Vault) (name dept : List ℕ) → config_of v name ≡ None → IsAscending bucket_cmp v.buckets → IsAscending bucket_cmp (placed bucket_cmp (new_bucket name dept) v.buckets)
bucket-placed v name dept free =
    ascending-placed bucket_cmp buckets_total (new_bucket name dept) v.buckets
    (not_found (λ b. bytes_eq b.name name) (λ b. bucket_cmp (new_bucket name dept) b ≡ Equal → ⊥) (λ b other tie. clash (bytes_eq b.name name) (same_name name b.name tie) other) v.buckets (free_bucket v.buckets name free))

note-placed : (v : Vault) (e : Entry) (o : Option Note) → IsFirstNote v e o → IsAscending note_cmp v.notes → IsAscending note_cmp (placed_if_given note_cmp o v.notes)
note-placed v e None first ascending = ascending
note-placed v e (Some n) first ascending =
    ascending-placed note_cmp notes_total n v.notes
    (not_found (λ m. bytes_eq m.bucket n.bucket && (bytes_eq m.batch n.batch && m.line == n.line)) (λ m. note_cmp n m ≡ Equal → ⊥) (λ m other tie. clash (bytes_eq m.bucket n.bucket && (bytes_eq m.batch n.batch && m.line == n.line)) (same_line n m tie) other) v.notes first.0)
    ascending

pub name-closed : (gone : List ℕ) (c : Caller) → (closed_if gone c).name ≡ c.name
name-closed gone c = elim (bytes_eq c.name gone) as (λ b. (if b then record c { closed = true } else c).name ≡ c.name) [ true ↦ refl | false ↦ refl ]

same_order : (a b c d : List ℕ) → a ≡ b → c ≡ d → name_cmp a c ≡ name_cmp b d
same_order a b c d e f = rw (e, f) refl

buckets-mapped : (f : Bucket → Bucket) → ((b : Bucket) → (f b).name ≡ b.name) → (bs : List Bucket) → IsAscending bucket_cmp bs → IsAscending bucket_cmp (map f bs)
buckets-mapped f same = ascending-map bucket_cmp f (λ x y. same_order (f x).name x.name (f y).name y.name (same x) (same y))

pub ordered-changed : (v : Vault) (t : ℕ) (c : Change) → IsInNameOrder v → Allows v t c → IsInNameOrder (changed v t c)
ordered-changed v t (AddDept name) in_order allowed = record {
  departments = department-placed v name allowed in_order.departments;
  callers = in_order.callers;
  buckets = in_order.buckets;
  notes = in_order.notes;
}
ordered-changed v t (AddCaller c) in_order allowed = record {
  departments = in_order.departments;
  callers = caller-placed v c allowed.0 in_order.callers;
  buckets = in_order.buckets;
  notes = in_order.notes;
}
ordered-changed v t (CloseCaller name) in_order allowed = record {
  departments = in_order.departments;
  callers = ascending-map caller_cmp (closed_if name) (λ x y. same_order (closed_if name x).name x.name (closed_if name y).name y.name (name-closed name x) (name-closed name y)) v.callers in_order.callers;
  buckets = in_order.buckets;
  notes = in_order.notes;
}
ordered-changed v t (AddBucket name dept) in_order allowed = record {
  departments = in_order.departments;
  callers = in_order.callers;
  buckets = bucket-placed v name dept allowed.0 in_order.buckets;
  notes = in_order.notes;
}
ordered-changed v t (MoveBucket name dept) in_order allowed = record {
  departments = in_order.departments;
  callers = in_order.callers;
  buckets = buckets-mapped (with_department name dept) (name-with_department name dept) v.buckets in_order.buckets;
  notes = in_order.notes;
}
ordered-changed v t (SetDefault name default) in_order allowed = record {
  departments = in_order.departments;
  callers = in_order.callers;
  buckets = buckets-mapped (with_default name default) (name-with_default name default) v.buckets in_order.buckets;
  notes = in_order.notes;
}
ordered-changed v t (SetRules name rules) in_order allowed = record {
  departments = in_order.departments;
  callers = in_order.callers;
  buckets = buckets-mapped (with_rules name rules) (name-with_rules name rules) v.buckets in_order.buckets;
  notes = in_order.notes;
}
ordered-changed v t (Admit a) in_order allowed = record {
  departments = in_order.departments;
  callers = in_order.callers;
  buckets = in_order.buckets;
  notes = note-placed v a.history.entry a.note allowed.noted in_order.notes;
}
ordered-changed v t (AddSetting id s) in_order allowed = record {
  departments = in_order.departments;
  callers = in_order.callers;
  buckets = in_order.buckets;
  notes = in_order.notes;
}
ordered-changed v t (Remove id r) in_order allowed = record {
  departments = in_order.departments;
  callers = in_order.callers;
  buckets = in_order.buckets;
  notes = in_order.notes;
}
