-- The edits that set a bucket's default retention and its lifecycle rules.
use Rattle.std.proofs.Common.{◌≡◌, ℕ, ◌+◌, List, [], ◌∷◌, ◌++◌, map, filter, flat_map, cond, not, Bool, true, false, Option, Some, None, IsSome, IsPermutation, Less, is_eq, refl, sym, ap, subst, ◌∙◌}
use Rattle.std.specs.Prelude.{option_map, if◌then◌else◌}
use Rattle.std.specs.List.{AllByRecursion}
use Rattle.std.specs.Str.{bytes_eq}
use Rattle.std.proofs.lemmas.List.{map-append}
use Rattle.std.proofs.lemmas.List.Sorted.{IsPermutation-refl, IsPermutation-map, IsPermutation-trans, IsPermutation-append_right}
use Rattle.std.proofs.lemmas.Map.Text.{is_eq-slice_cmp}
use Rattle.std.proofs.lemmas.Slice.Eq.{bytes_eq-Decides}
use Rattle.sqlite_trees.proofs.ListLemmas.{IsPermutation-same, filter_all, all_weaker}
use Rattle.sqlite_value.specs.Order.{Row}
use Rattle.vault_base.specs.declared.refusal.Table.TheVariants as table
use Rattle.vault_lock.specs.declared.retention.Default.{Default}
use Rattle.vault_rules.specs.declared.rule.Rule.{Rule}
use Rattle.vault_core_model.specs.declared.records.Bucket.{Bucket}
use Rattle.vault_core_model.specs.declared.change.Change.TheVariants.{SetDefault, SetRules}
use Rattle.vault_core_model.specs.Change.{changed, with_default, with_rules}
use Rattle.vault_core_model.specs.Order.{IsAscending, bucket_cmp}
use Rattle.vault_core_model.specs.Sound.{Sound}
use Rattle.vault_core_model.specs.Vault.{Vault, config_in, config_of, bucket_in}
use Rattle.vault_audit_model.specs.declared.rows.RuleRow.{RuleRow}
use Rattle.vault_audit_model.specs.Rows.{bucket_row, rule_row}
use Rattle.vault_audit_model.specs.Spells.{bucket_of, rules_in, rules_if_given, rules_from}
use Rattle.vault_core_laws.proofs.NameOrder.{clash}
use Rattle.vault_store_model.specs.Rows.{AreSameRows, rows_of}
use Rattle.vault_store_model.specs.Edits.{changed_if, pushed}
use Rattle.vault_store_model.specs.Tests.{is_named, with_default_columns}
use Rattle.vault_store_model.specs.Changes.{edit_of}
use Rattle.vault_store_model.proofs.ListLemmas.{second_first, pushed_in_front, map_rows, map_unread, flat_map_unread, filter-append}
use Rattle.std.proofs.lemmas.Bool.{not_from_false}

-- ---- a default

bucket_row_set : (name : List ℕ) (default : Option Default) (b : Bucket) → bucket_row (bucket_of (with_default name default b)) ≡ changed_if (is_named name) (with_default_columns default) (bucket_row (bucket_of b))
bucket_row_set name default b =
    elim (bytes_eq b.name name) as (λ x. bucket_row (bucket_of (if x then record b { config = record { dept = b.config.dept; default = default } } else b)) ≡ cond x (with_default_columns default (bucket_row (bucket_of b))) (bucket_row (bucket_of b)))
    [ true ↦ refl | false ↦ refl ]

rules_kept : (name : List ℕ) (default : Option Default) (b : Bucket) → rules_in (with_default name default b) ≡ rules_in b
rules_kept name default b =
    elim (bytes_eq b.name name) as (λ x. rules_in (if x then record b { config = record { dept = b.config.dept; default = default } } else b) ≡ rules_in b) [ true ↦ refl | false ↦ refl ]

pub default_set : (v : Vault) (t : ℕ) (name : List ℕ) (default : Option Default) → AreSameRows (rows_of (changed v t (SetDefault name default))) (edit_of v t (SetDefault name default) (rows_of v))
default_set v t name default table.Buckets =
    IsPermutation-same _ _ (map_rows (λ b. bucket_row (bucket_of b)) (with_default name default) (changed_if (is_named name) (with_default_columns default)) (bucket_row_set name default) v.buckets)
default_set v t name default table.Rules = IsPermutation-same _ _ (ap (map rule_row) (flat_map_unread rules_in (with_default name default) (rules_kept name default) v.buckets))
default_set v t name default _ = IsPermutation-refl _

-- ---- rules

bucket_row_kept : (name : List ℕ) (rules : Option (List Rule)) (b : Bucket) → bucket_row (bucket_of (with_rules name rules b)) ≡ bucket_row (bucket_of b)
bucket_row_kept name rules b = elim (bytes_eq b.name name) as (λ x. bucket_row (bucket_of (if x then record b { rules = rules } else b)) ≡ bucket_row (bucket_of b)) [ true ↦ refl | false ↦ refl ]

-- the rows of a bucket's rules bear its name
named_rules : (name bucket : List ℕ) (place : ℕ) (rules : List Rule) → filter (λ row. not (is_named name row)) (map rule_row (rules_from bucket place rules)) ≡ cond (bytes_eq bucket name) [] (map rule_row (rules_from bucket place rules))
named_rules name bucket place [] = elim (bytes_eq bucket name) as (λ b. ◌≡◌ {A = List Row} [] (cond b [] [])) [ true ↦ refl | false ↦ refl ]
named_rules name bucket place (r ∷ rs) =
    let row = rule_row (record { bucket = bucket; place = place; rule = r }) in
    let rest = map rule_row (rules_from bucket (place + 1) rs) in
    let P : List Row → Type 0 = λ l. cond (not (bytes_eq bucket name)) (row ∷ l) l ≡ cond (bytes_eq bucket name) [] (row ∷ rest) in
    subst P (sym (named_rules name bucket (place + 1) rs))
    (elim (bytes_eq bucket name) as (λ b. cond (not b) (row ∷ cond b [] rest) (cond b [] rest) ≡ cond b [] (row ∷ rest)) [ true ↦ refl | false ↦ refl ])

nothing_named : (b : Bool) → ◌≡◌ {A = List Row} [] (cond b [] [])
nothing_named true = refl
nothing_named false = refl

named_if_given : (name bucket : List ℕ) (rules : Option (List Rule)) → filter (λ row. not (is_named name row)) (map rule_row (rules_if_given bucket rules)) ≡ cond (bytes_eq bucket name) [] (map rule_row (rules_if_given bucket rules))
named_if_given name bucket None = nothing_named (bytes_eq bucket name)
named_if_given name bucket (Some rules) = named_rules name bucket 1 rules

-- without the rules of a bucket
abbrev left_of : List ℕ → List Bucket → List RuleRow
left_of name bs = flat_map rules_in (filter (λ b. not (bytes_eq b.name name)) bs)

dropped_where : (b : Bool) (own : List Row) (rest : List Row) (bucket : Bucket) (bs : List Bucket) → own ≡ map rule_row (rules_in bucket) → rest ≡ map rule_row (flat_map rules_in bs)
    → cond b [] own ++ rest ≡ map rule_row (flat_map rules_in (cond (not b) (bucket ∷ bs) bs))
dropped_where true own rest bucket bs e f = f
dropped_where false own rest bucket bs e f = rw (e, f) (sym (map-append rule_row (rules_in bucket) (flat_map rules_in bs)))

dropped : (name : List ℕ) (bs : List Bucket) → filter (λ row. not (is_named name row)) (map rule_row (flat_map rules_in bs)) ≡ map rule_row (left_of name bs)
dropped name [] = refl
dropped name (b ∷ bs) =
    ap (filter (λ row. not (is_named name row))) (map-append rule_row (rules_in b) (flat_map rules_in bs))
    ∙ filter-append (λ row. not (is_named name row)) (map rule_row (rules_in b)) (map rule_row (flat_map rules_in bs))
    ∙ ap (λ l. l ++ filter (λ row. not (is_named name row)) (map rule_row (flat_map rules_in bs))) (named_if_given name b.name b.rules)
    ∙ dropped_where (bytes_eq b.name name) (map rule_row (rules_in b)) (filter (λ row. not (is_named name row)) (map rule_row (flat_map rules_in bs))) b (filter (λ c. not (bytes_eq c.name name)) bs) refl (dropped name bs)

-- a bucket after another of that name has another name
other_name : (name : List ℕ) (b c : Bucket) → bytes_eq b.name name ≡ true → bucket_cmp b c ≡ Less → bytes_eq c.name name ≡ false
other_name name b c here before =
    elim (bytes_eq c.name name) as (λ x. bytes_eq c.name name ≡ x → x ≡ false) [
      | true ↦ λ e.
          let one : b.name ≡ name = (bytes_eq-Decides b.name name).0 here in
          let two : c.name ≡ name = (bytes_eq-Decides c.name name).0 e in
          let apart : bytes_eq b.name c.name ≡ false = sym (is_eq-slice_cmp b.name c.name) ∙ ap is_eq before in
          absurd (clash (bytes_eq b.name c.name) ((bytes_eq-Decides b.name c.name).1 (one ∙ sym two)) apart)
      | false ↦ λ e. refl
    ] refl

unset : (name : List ℕ) (rules : Option (List Rule)) (bs : List Bucket) → AllByRecursion (λ b. bytes_eq b.name name ≡ false) bs → map (with_rules name rules) bs ≡ bs
unset name rules [] all = refl
unset name rules (b ∷ bs) all = rw (all.0, unset name rules bs all.1) refl

set_first : (name : List ℕ) (rules : Option (List Rule)) (b : Bucket) (bs : List Bucket) → bytes_eq b.name name ≡ true → AllByRecursion (λ c. bytes_eq c.name name ≡ false) bs
    → IsPermutation (flat_map rules_in (record b { rules = rules } ∷ map (with_rules name rules) bs)) (rules_if_given name rules ++ flat_map rules_in (filter (λ c. not (bytes_eq c.name name)) bs))
set_first name rules b bs here others =
    let kept : filter (λ (c : Bucket). not (bytes_eq c.name name)) bs ≡ bs =
    filter_all (λ (c : Bucket). not (bytes_eq c.name name)) bs (all_weaker (λ c. bytes_eq c.name name ≡ false) (λ c. not (bytes_eq c.name name) ≡ true) (λ c e. not_from_false (bytes_eq c.name name) e) bs others) in
    IsPermutation-same _ _ (ap (λ l. rules_if_given b.name rules ++ flat_map rules_in l) (unset name rules bs others)
    ∙ ap (λ n. rules_if_given n rules ++ flat_map rules_in bs) ((bytes_eq-Decides b.name name).0 here) ∙ ap (λ l. rules_if_given name rules ++ flat_map rules_in l) (sym kept))

there_or_after : (name : List ℕ) (b : Bucket) (bs : List Bucket) (x : Bool) → x ≡ false → IsSome (option_map (λ (c : Bucket). c.config) (if x then Some b else bucket_in bs name)) → IsSome (config_in bs name)
there_or_after name b bs true e there = absurd (cc e)
there_or_after name b bs false e there = there

set_in : (name : List ℕ) (rules : Option (List Rule)) (bs : List Bucket) → IsSome (config_in bs name) → IsAscending bucket_cmp bs → IsPermutation (flat_map rules_in (map (with_rules name rules) bs)) (rules_if_given name rules ++ left_of name bs)
set_in name rules [] there up = absurd (cc there)
set_in name rules (b ∷ bs) there up =
    elim (bytes_eq b.name name) as (λ x. bytes_eq b.name name ≡ x → IsPermutation (flat_map rules_in ((if x then record b { rules = rules } else b) ∷ map (with_rules name rules) bs)) (rules_if_given name rules ++ flat_map rules_in (cond (not x) (b ∷ filter (λ c. not (bytes_eq c.name name)) bs) (filter (λ c. not (bytes_eq c.name name)) bs)))) [
      | true ↦ λ here. set_first name rules b bs here (all_weaker (λ c. bucket_cmp b c ≡ Less) (λ c. bytes_eq c.name name ≡ false) (λ c before. other_name name b c here before) bs up.0)
      | false ↦ λ other.
          IsPermutation-trans _ _ _ (IsPermutation-append_right (rules_in b) _ _ (set_in name rules bs (there_or_after name b bs (bytes_eq b.name name) other there) up.1))
          (second_first (rules_in b) (rules_if_given name rules) (left_of name bs))
    ] refl

rules_replaced : (name : List ℕ) (rules : Option (List Rule)) (bs : List Bucket) → IsSome (config_in bs name) → IsAscending bucket_cmp bs
    → IsPermutation (map rule_row (flat_map rules_in (map (with_rules name rules) bs))) (pushed (map rule_row (rules_if_given name rules)) (filter (λ row. not (is_named name row)) (map rule_row (flat_map rules_in bs))))
rules_replaced name rules bs there up =
    IsPermutation-trans _ _ _ (IsPermutation-map rule_row _ _ (set_in name rules bs there up))
    (IsPermutation-trans _ _ _ (IsPermutation-same _ _ (map-append rule_row (rules_if_given name rules) (left_of name bs) ∙ ap (λ l. map rule_row (rules_if_given name rules) ++ l) (sym (dropped name bs))))
    (pushed_in_front (map rule_row (rules_if_given name rules)) _))

pub rules_set : (v : Vault) (t : ℕ) (name : List ℕ) (rules : Option (List Rule)) → Sound v → IsSome (config_of v name) → AreSameRows (rows_of (changed v t (SetRules name rules))) (edit_of v t (SetRules name rules) (rows_of v))
rules_set v t name rules sound there table.Buckets = IsPermutation-same _ _ (map_unread (λ b. bucket_row (bucket_of b)) (with_rules name rules) (bucket_row_kept name rules) v.buckets)
rules_set v t name rules sound there table.Rules = rules_replaced name rules v.buckets there sound.ordered.buckets
rules_set v t name rules sound there _ = IsPermutation-refl _
