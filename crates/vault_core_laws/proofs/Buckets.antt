-- A bucket that is added leaves the others in their place.
use Rattle.std.proofs.Common.{◌≡◌, ◌∙◌, ℕ, List, [], ◌∷◌, Bool, true, false, Option, Some, None, refl, sym, ap, subst}
use Rattle.std.specs.Prelude.{IsSome, find, map, option_map, if◌then◌else◌}
use Rattle.std.specs.Str.{bytes_eq}
use Rattle.std.specs.declared.cmp.Ordering.{Ordering}
use Rattle.std.specs.declared.cmp.Ordering.TheVariants.{Less, Equal, Greater}
use Rattle.std.proofs.lemmas.Slice.Eq.{bytes_eq-Decides}
use Rattle.vault_core_model.specs.declared.records.Bucket.{Bucket}
use Rattle.vault_core_model.specs.declared.records.BucketConfig.{BucketConfig}
use Rattle.vault_core_model.specs.Order.{placed, placed_by, bucket_cmp}
use Rattle.vault_core_model.specs.Vault.{bucket_in, config_in}
use Rattle.vault_core_model.specs.Change.{new_bucket, with_default, with_department, with_rules}
use Rattle.vault_lock.specs.declared.retention.Default.{Default}
use Rattle.vault_rules.specs.declared.rule.Rule.{Rule}

-- what x is not is found as before
pub find-placed : {X : Type 0} (cmp : X → X → Ordering) (p : X → Bool) (x : X) (ys : List X) → p x ≡ false → find p (placed cmp x ys) ≡ find p ys
find-placed cmp p x [] not_x = rw not_x refl
find-placed {X} cmp p x (y ∷ ys) not_x =
    elim (cmp x y) as (λ o. find p (placed_by o x y ys (placed cmp x ys)) ≡ find p (y ∷ ys)) [
      | Less ↦ rw not_x refl
      | Equal ↦ rw not_x refl
      | Greater ↦ ap (λ (rest : Option X). if p y then Some y else rest) (find-placed cmp p x ys not_x)
    ]

-- the bucket of that name is another, since the new name is free
other_name : (bs : List Bucket) (name other : List ℕ) (b : Bool) → bytes_eq name other ≡ b → config_in bs name ≡ None → IsSome (config_in bs other) → b ≡ false
other_name bs name other false e free there = refl
other_name bs name other true e free there =
    let P : List ℕ → Type 0 = λ n. IsSome (config_in bs n) in
    let here : IsSome (config_in bs name) = subst P (sym ((bytes_eq-Decides name other).0 e)) there in
    let Q : Option BucketConfig → Type 0 = λ o. IsSome o in
    absurd (cc (subst Q free here))

pub config_in-placed : (bs : List Bucket) (name dept other : List ℕ) → config_in bs name ≡ None → IsSome (config_in bs other) → config_in (placed bucket_cmp (new_bucket name dept) bs) other ≡ config_in bs other
config_in-placed bs name dept other free there =
    ap (λ (found : Option Bucket). option_map (λ b. b.config) found)
    (find-placed bucket_cmp (λ b. bytes_eq b.name other) (new_bucket name dept) bs (other_name bs name other (bytes_eq name other) refl free there))

-- ---- a bucket that is set anew keeps its name and its department

-- it is found where it was
one-mapped : (f : Bucket → Bucket) (b : Bucket) (more rest : Option Bucket) (x y : Bool) → x ≡ y → more ≡ option_map f rest → (if x then Some (f b) else more) ≡ option_map f (if y then Some b else rest)
one-mapped f b more rest true true e later = refl
one-mapped f b more rest false false e later = later
one-mapped f b more rest true false e later = absurd (cc e)
one-mapped f b more rest false true e later = absurd (cc e)

bucket_in-mapped : (f : Bucket → Bucket) → ((b : Bucket) → (f b).name ≡ b.name) → (bs : List Bucket) (name : List ℕ) → bucket_in (map f bs) name ≡ option_map f (bucket_in bs name)
bucket_in-mapped f same [] name = refl
bucket_in-mapped f same (b ∷ bs) name =
    one-mapped f b (bucket_in (map f bs) name) (bucket_in bs name) (bytes_eq (f b).name name) (bytes_eq b.name name) (ap (λ n. bytes_eq n name) (same b)) (bucket_in-mapped f same bs name)

still_some : (f : Bucket → Bucket) (o : Option Bucket) → IsSome (option_map (λ (b : Bucket). b.config) o) → IsSome (option_map (λ (b : Bucket). b.config) (option_map f o))
still_some f None there = there
still_some f (Some b) there = refl

pub placed-mapped : (f : Bucket → Bucket) → ((b : Bucket) → (f b).name ≡ b.name) → (bs : List Bucket) (name : List ℕ) → IsSome (config_in bs name) → IsSome (config_in (map f bs) name)
placed-mapped f same bs name there = rw (bucket_in-mapped f same bs name) (still_some f (bucket_in bs name) there)

dept_same : (f : Bucket → Bucket) → ((b : Bucket) → (f b).config.dept ≡ b.config.dept) → (o : Option Bucket) → option_map (λ (c : BucketConfig). c.dept) (option_map (λ (b : Bucket). b.config) (option_map f o)) ≡ option_map (λ (c : BucketConfig). c.dept) (option_map (λ (b : Bucket). b.config) o)
dept_same f same None = refl
dept_same f same (Some b) = ap (λ own. Some own) (same b)

pub owner-mapped : (f : Bucket → Bucket) → ((b : Bucket) → (f b).name ≡ b.name) → ((b : Bucket) → (f b).config.dept ≡ b.config.dept) → (bs : List Bucket) (name : List ℕ) → option_map (λ (c : BucketConfig). c.dept) (config_in (map f bs) name) ≡ option_map (λ (c : BucketConfig). c.dept) (config_in bs name)
owner-mapped f same_name same_dept bs name = rw (bucket_in-mapped f same_name bs name) (dept_same f same_dept (bucket_in bs name))

pub name-with_department : (name dept : List ℕ) (b : Bucket) → (with_department name dept b).name ≡ b.name
name-with_department name dept b = elim (bytes_eq b.name name) as (λ x. (if x then record b { config = record { dept = dept; default = b.config.default } } else b).name ≡ b.name) [ true ↦ refl | false ↦ refl ]

pub name-with_default : (name : List ℕ) (default : Option Default) (b : Bucket) → (with_default name default b).name ≡ b.name
name-with_default name default b = elim (bytes_eq b.name name) as (λ x. (if x then record b { config = record { dept = b.config.dept; default = default } } else b).name ≡ b.name) [ true ↦ refl | false ↦ refl ]

pub dept-with_default : (name : List ℕ) (default : Option Default) (b : Bucket) → (with_default name default b).config.dept ≡ b.config.dept
dept-with_default name default b = elim (bytes_eq b.name name) as (λ x. (if x then record b { config = record { dept = b.config.dept; default = default } } else b).config.dept ≡ b.config.dept) [ true ↦ refl | false ↦ refl ]

pub name-with_rules : (name : List ℕ) (rules : Option (List Rule)) (b : Bucket) → (with_rules name rules b).name ≡ b.name
name-with_rules name rules b = elim (bytes_eq b.name name) as (λ x. (if x then record b { rules = rules } else b).name ≡ b.name) [ true ↦ refl | false ↦ refl ]

pub dept-with_rules : (name : List ℕ) (rules : Option (List Rule)) (b : Bucket) → (with_rules name rules b).config.dept ≡ b.config.dept
dept-with_rules name rules b = elim (bytes_eq b.name name) as (λ x. (if x then record b { rules = rules } else b).config.dept ≡ b.config.dept) [ true ↦ refl | false ↦ refl ]

-- ---- a bucket that becomes another department's

-- the bucket that is found has the name that was asked for
abbrev IsNamed : List ℕ → Option Bucket → Type 0
IsNamed other None = Unit {0}
IsNamed other (Some b) = bytes_eq b.name other ≡ true

is_named : (bs : List Bucket) (other : List ℕ) → IsNamed other (bucket_in bs other)
is_named [] other = tt
is_named (b ∷ bs) other = by_name (bytes_eq b.name other) refl (is_named bs other)
  where
    by_name : (x : Bool) → bytes_eq b.name other ≡ x → IsNamed other (bucket_in bs other) → IsNamed other (if x then Some b else bucket_in bs other)
    by_name true same later = same
    by_name false differ later = later

-- whose it is
abbrev dept_in : Option Bucket → Option (List ℕ)
dept_in o = option_map (λ (c : BucketConfig). c.dept) (option_map (λ (b : Bucket). b.config) o)

moved_dept : (name dept other : List ℕ) (o : Option Bucket) → IsNamed other o → dept_in (option_map (with_department name dept) o) ≡ (if bytes_eq other name then option_map (λ (d : List ℕ). dept) (dept_in o) else dept_in o)
moved_dept name dept other None named = elim (bytes_eq other name) as (λ (b : Bool). ◌≡◌ {A = Option (List ℕ)} None (if b then None else None)) [ true ↦ refl | false ↦ refl ]
moved_dept name dept other (Some b) named =
    let P : List ℕ → Type 0 = λ n. dept_in (Some (with_department name dept b)) ≡ (if bytes_eq n name then Some dept else Some b.config.dept) in
    subst P ((bytes_eq-Decides b.name other).0 named) (
    elim (bytes_eq b.name name) as (λ x. dept_in (Some (if x then record b { config = record { dept = dept; default = b.config.default } } else b)) ≡ (if x then Some dept else Some b.config.dept)) [ true ↦ refl | false ↦ refl ]
    )

-- the bucket of that name has the new department, and each other its own
pub owner-moved : (bs : List Bucket) (name dept other : List ℕ) → option_map (λ (c : BucketConfig). c.dept) (config_in (map (with_department name dept) bs) other)
    ≡ (if bytes_eq other name then option_map (λ (d : List ℕ). dept) (option_map (λ (c : BucketConfig). c.dept) (config_in bs other)) else option_map (λ (c : BucketConfig). c.dept) (config_in bs other))
owner-moved bs name dept other =
    ap dept_in (bucket_in-mapped (with_department name dept) (name-with_department name dept) bs other) ∙ moved_dept name dept other (bucket_in bs other) (is_named bs other)
