-- What callers, buckets and notes state stays in its range: their departments are there, and so are the periods and the lines.
use Rattle.std.proofs.Common.{ℕ, List, [], ◌∷◌, Bool, true, false, Option, Some, None, refl}
use Rattle.std.specs.Prelude.{IsTrue, if◌then◌else◌, ◌||◌}
use Rattle.std.specs.List.{AllByRecursion, list_any}
use Rattle.std.specs.Str.{bytes_eq}
use Rattle.std.specs.declared.cmp.Ordering.{Ordering}
use Rattle.std.specs.declared.cmp.Ordering.TheVariants.{Less, Equal, Greater}
use Rattle.vault_lock.specs.declared.retention.Default.{Default}
use Rattle.vault_rules.specs.declared.rule.Rule.{Rule}
use Rattle.vault_rules.specs.Rules.{passes_if_given}
use Rattle.vault_core_model.specs.declared.records.Bucket.{Bucket}
use Rattle.vault_core_model.specs.declared.records.Caller.{Caller}
use Rattle.vault_core_model.specs.declared.records.Entry.{Entry}
use Rattle.vault_core_model.specs.declared.records.Note.{Note}
use Rattle.vault_core_model.specs.declared.change.Change.{Change}
use Rattle.vault_core_model.specs.declared.change.Change.TheVariants.{AddDept, AddCaller, CloseCaller, AddBucket, MoveBucket, SetDefault, SetRules, Admit, AddSetting, Remove}
use Rattle.vault_core_model.specs.Checks.{has_period}
use Rattle.vault_core_model.specs.Order.{placed, placed_by, placed_if_given, name_cmp, caller_cmp, bucket_cmp, note_cmp}
use Rattle.vault_core_model.specs.Vault.{Vault, has_department}
use Rattle.vault_core_model.specs.Change.{changed, new_bucket, closed_if, with_default, with_department, with_rules}
use Rattle.vault_core_model.specs.Sound.{IsEmployed, IsOwned, HasPeriod, HasLine, Sound}
use Rattle.vault_core_model.specs.Allowed.{Allows, IsFirstNote}
use Rattle.vault_core_laws.proofs.Lists.{All-placed, All-weaker, All-map}

-- ---- one department more

any-after : {A : Type 0} (p : A → Bool) (x : A) (ys : List A) → IsTrue (list_any p ys) → IsTrue (list_any p (x ∷ ys))
any-after p x ys there = elim (p x) as (λ b. IsTrue (b || list_any p ys)) [ true ↦ refl | false ↦ there ]

any-placed : {A : Type 0} (cmp : A → A → Ordering) (p : A → Bool) (x : A) (ys : List A) → IsTrue (list_any p ys) → IsTrue (list_any p (placed cmp x ys))
any-placed cmp p x [] there = absurd (cc there)
any-placed cmp p x (y ∷ ys) there =
    elim (cmp x y) as (λ o. IsTrue (list_any p (placed_by o x y ys (placed cmp x ys)))) [
      | Less ↦ any-after p x (y ∷ ys) there
      | Equal ↦ any-after p x (y ∷ ys) there
      | Greater ↦ elim (p y) as (λ b. IsTrue (b || list_any p ys) → IsTrue (b || list_any p (placed cmp x ys)))
          [ true ↦ λ there. refl | false ↦ λ there. any-placed cmp p x ys there ] there
    ]

pub department-stays : (v : Vault) (t : ℕ) (name dept : List ℕ) → IsTrue (has_department v dept) → IsTrue (has_department (changed v t (AddDept name)) dept)
department-stays v t name dept there = any-placed name_cmp (λ d. bytes_eq d dept) name v.departments there

given-stays : (v : Vault) (t : ℕ) (name : List ℕ) (o : Option (List ℕ)) → IsTrue (passes_if_given (has_department v) o) → IsTrue (passes_if_given (has_department (changed v t (AddDept name))) o)
given-stays v t name None there = refl
given-stays v t name (Some dept) there = department-stays v t name dept there

-- ---- the departments of callers and buckets

employed-closed : (v : Vault) (gone : List ℕ) (c : Caller) → IsEmployed v c → IsEmployed v (closed_if gone c)
employed-closed v gone c employed =
    elim (bytes_eq c.name gone) as (λ b. IsEmployed v (if b then record c { closed = true } else c)) [ true ↦ employed | false ↦ employed ]

pub employed-changed : (v : Vault) (t : ℕ) (c : Change) → Sound v → Allows v t c → AllByRecursion (IsEmployed (changed v t c)) (changed v t c).callers
employed-changed v t (AddDept name) sound allowed =
    All-weaker (IsEmployed v) (IsEmployed (changed v t (AddDept name))) (λ c employed. given-stays v t name c.dept employed) v.callers sound.employed
employed-changed v t (AddCaller c) sound allowed = All-placed (IsEmployed v) caller_cmp c v.callers allowed.1 sound.employed
employed-changed v t (CloseCaller name) sound allowed =
    All-map (IsEmployed v) (IsEmployed v) (IsEmployed v) (closed_if name) (λ c employed same. employed-closed v name c employed) v.callers sound.employed sound.employed
employed-changed v t (AddBucket name dept) sound allowed = sound.employed
employed-changed v t (MoveBucket name dept) sound allowed = sound.employed
employed-changed v t (SetDefault name default) sound allowed = sound.employed
employed-changed v t (SetRules name rules) sound allowed = sound.employed
employed-changed v t (Admit a) sound allowed = sound.employed
employed-changed v t (AddSetting id s) sound allowed = sound.employed
employed-changed v t (Remove id r) sound allowed = sound.employed

owned-department : (v : Vault) (name dept : List ℕ) → IsTrue (has_department v dept) → (b : Bucket) → IsOwned v b → IsOwned v (with_department name dept b)
owned-department v name dept known b owned =
    elim (bytes_eq b.name name) as (λ x. IsOwned v (if x then record b { config = record { dept = dept; default = b.config.default } } else b)) [ true ↦ known | false ↦ owned ]

owned-default : (v : Vault) (name : List ℕ) (default : Option Default) (b : Bucket) → IsOwned v b → IsOwned v (with_default name default b)
owned-default v name default b owned =
    elim (bytes_eq b.name name) as (λ x. IsOwned v (if x then record b { config = record { dept = b.config.dept; default = default } } else b)) [ true ↦ owned | false ↦ owned ]

owned-rules : (v : Vault) (name : List ℕ) (rules : Option (List Rule)) (b : Bucket) → IsOwned v b → IsOwned v (with_rules name rules b)
owned-rules v name rules b owned =
    elim (bytes_eq b.name name) as (λ x. IsOwned v (if x then record b { rules = rules } else b)) [ true ↦ owned | false ↦ owned ]

pub owned-changed : (v : Vault) (t : ℕ) (c : Change) → Sound v → Allows v t c → AllByRecursion (IsOwned (changed v t c)) (changed v t c).buckets
owned-changed v t (AddDept name) sound allowed =
    All-weaker (IsOwned v) (IsOwned (changed v t (AddDept name))) (λ b owned. department-stays v t name b.config.dept owned) v.buckets sound.owned
owned-changed v t (AddCaller c) sound allowed = sound.owned
owned-changed v t (CloseCaller name) sound allowed = sound.owned
owned-changed v t (AddBucket name dept) sound allowed = All-placed (IsOwned v) bucket_cmp (new_bucket name dept) v.buckets allowed.1 sound.owned
owned-changed v t (MoveBucket name dept) sound allowed =
    All-map (IsOwned v) (IsOwned v) (IsOwned v) (with_department name dept) (λ b owned same. owned-department v name dept allowed.known b owned) v.buckets sound.owned sound.owned
owned-changed v t (SetDefault name default) sound allowed =
    All-map (IsOwned v) (IsOwned v) (IsOwned v) (with_default name default) (λ b owned same. owned-default v name default b owned) v.buckets sound.owned sound.owned
owned-changed v t (SetRules name rules) sound allowed =
    All-map (IsOwned v) (IsOwned v) (IsOwned v) (with_rules name rules) (λ b owned same. owned-rules v name rules b owned) v.buckets sound.owned sound.owned
owned-changed v t (Admit a) sound allowed = sound.owned
owned-changed v t (AddSetting id s) sound allowed = sound.owned
owned-changed v t (Remove id r) sound allowed = sound.owned

-- ---- the periods of defaults

period-department : (name dept : List ℕ) (b : Bucket) → HasPeriod b → HasPeriod (with_department name dept b)
period-department name dept b has =
    elim (bytes_eq b.name name) as (λ x. HasPeriod (if x then record b { config = record { dept = dept; default = b.config.default } } else b)) [ true ↦ has | false ↦ has ]

period-default : (name : List ℕ) (default : Option Default) → IsTrue (has_period default) → (b : Bucket) → HasPeriod b → HasPeriod (with_default name default b)
period-default name default given b has =
    elim (bytes_eq b.name name) as (λ x. HasPeriod (if x then record b { config = record { dept = b.config.dept; default = default } } else b)) [ true ↦ given | false ↦ has ]

period-rules : (name : List ℕ) (rules : Option (List Rule)) (b : Bucket) → HasPeriod b → HasPeriod (with_rules name rules b)
period-rules name rules b has = elim (bytes_eq b.name name) as (λ x. HasPeriod (if x then record b { rules = rules } else b)) [ true ↦ has | false ↦ has ]

pub periods-changed : (v : Vault) (t : ℕ) (c : Change) → Sound v → Allows v t c → AllByRecursion HasPeriod (changed v t c).buckets
periods-changed v t (AddDept name) sound allowed = sound.periods
periods-changed v t (AddCaller c) sound allowed = sound.periods
periods-changed v t (CloseCaller name) sound allowed = sound.periods
periods-changed v t (AddBucket name dept) sound allowed = All-placed HasPeriod bucket_cmp (new_bucket name dept) v.buckets refl sound.periods
periods-changed v t (MoveBucket name dept) sound allowed =
    All-map HasPeriod HasPeriod HasPeriod (with_department name dept) (λ b has same. period-department name dept b has) v.buckets sound.periods sound.periods
periods-changed v t (SetDefault name default) sound allowed =
    All-map HasPeriod HasPeriod HasPeriod (with_default name default) (λ b has same. period-default name default allowed.1 b has) v.buckets sound.periods sound.periods
periods-changed v t (SetRules name rules) sound allowed =
    All-map HasPeriod HasPeriod HasPeriod (with_rules name rules) (λ b has same. period-rules name rules b has) v.buckets sound.periods sound.periods
periods-changed v t (Admit a) sound allowed = sound.periods
periods-changed v t (AddSetting id s) sound allowed = sound.periods
periods-changed v t (Remove id r) sound allowed = sound.periods

-- ---- the lines of notes

line-placed : (v : Vault) (e : Entry) (o : Option Note) → IsFirstNote v e o → AllByRecursion HasLine v.notes → AllByRecursion HasLine (placed_if_given note_cmp o v.notes)
line-placed v e None first lines = lines
line-placed v e (Some n) first lines = All-placed HasLine note_cmp n v.notes first.1 lines

pub lines-changed : (v : Vault) (t : ℕ) (c : Change) → Sound v → Allows v t c → AllByRecursion HasLine (changed v t c).notes
lines-changed v t (AddDept name) sound allowed = sound.lines
lines-changed v t (AddCaller c) sound allowed = sound.lines
lines-changed v t (CloseCaller name) sound allowed = sound.lines
lines-changed v t (AddBucket name dept) sound allowed = sound.lines
lines-changed v t (MoveBucket name dept) sound allowed = sound.lines
lines-changed v t (SetDefault name default) sound allowed = sound.lines
lines-changed v t (SetRules name rules) sound allowed = sound.lines
lines-changed v t (Admit a) sound allowed = line-placed v a.history.entry a.note allowed.noted sound.lines
lines-changed v t (AddSetting id s) sound allowed = sound.lines
lines-changed v t (Remove id r) sound allowed = sound.lines
