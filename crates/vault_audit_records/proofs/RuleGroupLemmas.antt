-- Rules at their places are those of buckets, and those of buckets are at their places.
use Rattle.std.proofs.Common.{◌≡◌, ◌≤◌, ◌+◌, ◌||◌, ◌==◌, inl, inr, ℕ, List, [], ◌∷◌, ◌++◌, length, map, flat_map, Bool, true, false, Option, Some, None, Less, IsTrue, IfSome, refl, sym, ap, ap₂, subst, ◌∙◌, append_assoc, append-nil, arith}
use Rattle.std.specs.List.{AllByRecursion, list_any}
use Rattle.std.specs.Ordering.{is_eq}
use Rattle.std.proofs.lemmas.Map.Text.{is_eq-slice_cmp}
use Rattle.std.specs.Cmp.Lexicographic.{bytes_decides}
use Rattle.std.proofs.lemmas.Bool.Decides.{nat_tests}
use Rattle.std.proofs.lemmas.Cmp.{nat_list_cmp_total, tied_itself}
use Rattle.std.proofs.lemmas.List.{length-append}
use Rattle.vault_base.specs.Limits.{most_rules}
use Rattle.vault_core_model.specs.Order.{name_cmp, IsAscending, bucket_cmp}
use Rattle.vault_core_model.specs.declared.records.Bucket.{Bucket}
use Rattle.vault_rules.specs.Rules.{is_rule_set}
use Rattle.vault_rules.specs.declared.rule.Rule.{Rule}
use Rattle.vault_audit_model.specs.declared.rows.BucketRow.{BucketRow}
use Rattle.vault_audit_model.specs.declared.rows.RuleRow.{RuleRow}
use Rattle.vault_audit_model.specs.Limits.{IsBucket, IsBucketRow, IsRule, IsRuleRow, AreRules, IsBucketName}
use Rattle.vault_audit_model.specs.Spells.{bucket_of, rules_from, rules_if_given, rules_in}
use Rattle.vault_audit_rows.proofs.ColumnLemmas.{few}
use Rattle.vault_audit_records.specs.RulesByPlace.{RulesSoFar, IsAfter, IsWhole, with_rule, no_rule, AreWholeSets, IsOfOne}
use Rattle.vault_audit_records.proofs.RuleRiseLemmas.{FitBuckets, FitRules, end_of, names_rise, later_buckets, begun}

abbrev pub at_rules : List ℕ → List Rule → RulesSoFar
at_rules name rules = record { bucket = Some name; rules = rules }

-- rules that begin a bucket after that one
abbrev pub Begins : Option (List ℕ) → List RuleRow → Type 0
Begins before [] = Unit {0}
Begins before (x ∷ xs) = (IsRuleRow x × IsAfter before x.bucket × (x.place ≡ 1)) × FitRules (at_rules x.bucket (x.rule ∷ [])) xs × IsWhole (end_of (at_rules x.bucket (x.rule ∷ [])) xs)

-- ---- into the rules of one bucket, and the others

begun_by : (p : RulesSoFar) (x : RuleRow) (xs : List RuleRow) → IsRuleRow x → IsAfter p.bucket x.bucket → x.place ≡ 1 → FitRules (with_rule p x) xs → IsWhole (end_of (with_rule p x) xs) → Begins p.bucket (x ∷ xs)
begun_by p x xs is up place fit whole = ((is, up, place), subst (λ q. FitRules q xs) (sym (begun p x place)) fit, subst (λ q. IsWhole (end_of q xs)) (sym (begun p x place)) whole)

pub start : (xs : List RuleRow) → AreWholeSets xs → Begins None xs
start [] runs = tt
start (x ∷ xs) (((is, inl (none, place)), fit), whole) = absurd cc
start (x ∷ xs) (((is, inr (up, place)), fit), whole) = begun_by no_rule x xs is up.0 place fit whole

pub record Cut (name : List ℕ) (gone : List Rule) (xs : List RuleRow) : Type 0 where
  pub rules : List Rule
  pub rest : List RuleRow
  pub whole : xs ≡ rules_from name (length gone + 1) rules ++ rest
  pub are : AllByRecursion IsRule rules
  pub set : IsTrue (is_rule_set (gone ++ rules))
  pub begins : Begins (Some name) rest

row_alike : (x : RuleRow) (bucket : List ℕ) (place : ℕ) → bucket ≡ x.bucket → x.place ≡ place → x ≡ record { bucket = bucket; place = place; rule = x.rule }
row_alike x bucket place p q = ap₂ (λ (b : List ℕ) (n : ℕ). record { bucket = b; place = n; rule = x.rule }) (sym p) q

-- the first rule before those of the next places
first_row : (x : RuleRow) (bucket : List ℕ) (place : ℕ) (xs : List RuleRow) (rules : List Rule) (rest : List RuleRow) → bucket ≡ x.bucket → x.place ≡ place → xs ≡ rules_from bucket (place + 1) rules ++ rest
    → x ∷ xs ≡ rules_from bucket place (x.rule ∷ rules) ++ rest
first_row x bucket place xs rules rest p q more = ap₂ (λ (y : RuleRow) (ys : List RuleRow). y ∷ ys) (row_alike x bucket place p q) more

next_state : (gone : List Rule) (x : RuleRow) (name : List ℕ) → 1 ≤ length gone → name ≡ x.bucket → x.place ≡ length gone + 1 → with_rule (at_rules name gone) x ≡ at_rules name (gone ++ x.rule ∷ [])
next_state gone x name some same place =
    let no : (x.place == 1) ≡ false = grind (arith, nat_tests) in
    rw (no, same) refl

pub cut : (name : List ℕ) (gone : List Rule) (xs : List RuleRow) → 1 ≤ length gone → FitRules (at_rules name gone) xs → IsWhole (end_of (at_rules name gone) xs) → Cut name gone xs
cut name gone [] some fit whole = record { rules = []; rest = []; whole = refl; are = tt; set = subst (λ rs. IsTrue (is_rule_set rs)) (sym (append-nil gone)) whole; begins = tt }
cut name gone (x ∷ xs) some ((is, inl (same, place)), fit) whole =
    let bucket : name ≡ x.bucket = cc in
    let state = next_state gone x name some bucket place in
    let more : length (gone ++ x.rule ∷ []) ≡ length gone + 1 = length-append gone (x.rule ∷ []) in
    let later = cut name (gone ++ x.rule ∷ []) xs (omega (arith, more)) (subst (λ q. FitRules q xs) state fit) (subst (λ q. IsWhole (end_of q xs)) state whole) in
    let past : xs ≡ rules_from name (length gone + 1 + 1) later.rules ++ later.rest = subst (λ n. xs ≡ rules_from name (n + 1) later.rules ++ later.rest) more later.whole in
    record {
      rules = x.rule ∷ later.rules;
      rest = later.rest;
      whole = first_row x name (length gone + 1) xs later.rules later.rest bucket place past;
      are = (is.rule, later.are);
      set = subst (λ rs. IsTrue (is_rule_set rs)) (append_assoc gone (x.rule ∷ []) later.rules) later.set;
      begins = later.begins;
    }
cut name gone (x ∷ xs) some ((is, inr (up, place)), fit) whole =
    record { rules = []; rest = x ∷ xs; whole = refl; are = tt; set = subst (λ rs. IsTrue (is_rule_set rs)) (sym (append-nil gone)) up.1; begins = begun_by (at_rules name gone) x xs is up.0 place fit whole }

-- ---- the buckets of rules that begin

-- each rule is of a bucket after that one
abbrev AreLater : List ℕ → List RuleRow → Type 0
AreLater name = AllByRecursion (λ x. name_cmp name x.bucket ≡ Less)

-- from a bucket on, the rules are of it or of later ones
from_bucket : (before name : List ℕ) (gone : List Rule) (xs : List RuleRow) → name_cmp before name ≡ Less → FitRules (at_rules name gone) xs → AreLater before xs
from_bucket before name gone [] low fit = tt
from_bucket before name gone (x ∷ xs) low ((is, inl (same, place)), fit) =
    let bucket : name ≡ x.bucket = cc in
    let here = subst (λ n. name_cmp before n ≡ Less) bucket low in
    (here, from_bucket before x.bucket _ xs here fit)
from_bucket before name gone (x ∷ xs) low ((is, inr (up, place)), fit) =
    let here = names_rise before name x.bucket low up.0 in
    (here, from_bucket before x.bucket _ xs here fit)

pub all_later : (before : List ℕ) (xs : List RuleRow) → Begins (Some before) xs → AreLater before xs
all_later before [] it = tt
all_later before (x ∷ xs) it = (it.0.1, from_bucket before x.bucket (x.rule ∷ []) xs it.0.1 it.1)

-- ---- which rules are of a bucket

same_name : (a b : List ℕ) → is_eq (name_cmp a b) ≡ true → a ≡ b
same_name a b h = (bytes_decides a b).0 (sym (is_eq-slice_cmp a b) ∙ h)

named_itself : (a : List ℕ) → is_eq (name_cmp a a) ≡ true
named_itself a = ap is_eq (tied_itself nat_list_cmp_total a)

not_first : (e l : Bool) → e ≡ false → (e || l) ≡ true → l ≡ true
not_first true l isnt h = absurd cc
not_first false l isnt h = h

-- of the later buckets, where it isn't of the first
of_later : (b : BucketRow) (bs : List BucketRow) (xs : List RuleRow) → AreLater b.name xs → AllByRecursion (IsOfOne (b ∷ bs)) xs → AllByRecursion (IsOfOne bs) xs
of_later b bs [] late all = tt
of_later b bs (x ∷ xs) late all = (not_first _ _ (ap is_eq late.0) all.0, of_later b bs xs late.1 all.1)

after_all : (name : List ℕ) (bs : List BucketRow) (x : RuleRow) → AllByRecursion (λ b. name_cmp name b.name ≡ Less) bs → IsOfOne bs x → name_cmp name x.bucket ≡ Less
after_all name [] x late one = absurd cc
after_all name (b ∷ bs) x late one = here (is_eq (name_cmp b.name x.bucket)) refl one (after_all name bs x late.1)
  where
    here : (e : Bool) → is_eq (name_cmp b.name x.bucket) ≡ e → (e || list_any (λ c. is_eq (name_cmp c.name x.bucket)) bs) ≡ true → (IsOfOne bs x → name_cmp name x.bucket ≡ Less) → name_cmp name x.bucket ≡ Less
    here true is _ _ = subst (λ n. name_cmp name n ≡ Less) (same_name b.name x.bucket is) late.0
    here false is more next = next more

after_rules : (P : RuleRow → Type 0) (xs ys : List RuleRow) → AllByRecursion P (xs ++ ys) → AllByRecursion P ys
after_rules P [] ys all = all
after_rules P (x ∷ xs) ys all = after_rules P xs ys all.1

-- ---- to buckets

pub record Made (bs : List BucketRow) (xs : List RuleRow) : Type 0 where
  pub buckets : List Bucket
  pub rows : map bucket_of buckets ≡ bs
  pub rules : flat_map rules_in buckets ≡ xs
  pub have : AllByRecursion IsBucket buckets

abbrev bucket_with : BucketRow → Option (List Rule) → Bucket
bucket_with b rules = record { name = b.name; config = b.config; rules = rules }

without : (b : BucketRow) (bs : List BucketRow) (xs : List RuleRow) → IsBucketRow b → Made bs xs → Made (b ∷ bs) xs
without b bs xs is later = record {
  buckets = bucket_with b None ∷ later.buckets;
  rows = ap (λ (cs : List BucketRow). b ∷ cs) later.rows;
  rules = later.rules;
  have = (record { name = is.name; config = is.config; rules = tt }, later.have);
}

-- what is made of the later buckets
abbrev Next : BucketRow → List BucketRow → Type 0
Next b bs = (ys : List RuleRow) → Begins (Some b.name) ys → AllByRecursion (IsOfOne bs) ys → Made bs ys

-- the first bucket, with the first rule and those that follow it
with_cut : (b : BucketRow) (bs : List BucketRow) (x : RuleRow) (xs : List RuleRow) → IsBucketRow b → b.name ≡ x.bucket → IsRuleRow x → x.place ≡ 1 → (c : Cut b.name (x.rule ∷ []) xs) → Made bs c.rest → Made (b ∷ bs) (x ∷ xs)
with_cut b bs x xs is same row place c later = record {
  buckets = bucket_with b (Some (x.rule ∷ c.rules)) ∷ later.buckets;
  rows = ap (λ (cs : List BucketRow). b ∷ cs) later.rows;
  rules = ap (λ ys. rules_from b.name 1 (x.rule ∷ c.rules) ++ ys) later.rules ∙ sym (first_row x b.name 1 xs c.rules c.rest same place c.whole);
  have = (record { name = is.name; config = is.config; rules = (c.set, (row.rule, c.are)) }, later.have);
}

with_rules : (b : BucketRow) (bs : List BucketRow) (x : RuleRow) (xs : List RuleRow) → IsBucketRow b → b.name ≡ x.bucket → IsRuleRow x → x.place ≡ 1 → FitRules (at_rules x.bucket (x.rule ∷ [])) xs → IsWhole (end_of (at_rules x.bucket (x.rule ∷ [])) xs)
    → AllByRecursion (IsOfOne (b ∷ bs)) xs → Next b bs → Made (b ∷ bs) (x ∷ xs)
with_rules b bs x xs is same row place fit whole all next =
    let c = cut b.name (x.rule ∷ []) xs (omega arith) (subst (λ n. FitRules (at_rules n (x.rule ∷ [])) xs) (sym same) fit) (subst (λ n. IsWhole (end_of (at_rules n (x.rule ∷ [])) xs)) (sym same) whole) in
    let owned = after_rules (IsOfOne (b ∷ bs)) (rules_from b.name 2 c.rules) c.rest (subst (AllByRecursion (IsOfOne (b ∷ bs))) c.whole all) in
    with_cut b bs x xs is same row place c (next c.rest c.begins (of_later b bs c.rest (all_later b.name c.rest c.begins) owned))

first_bucket : (b : BucketRow) (bs : List BucketRow) (x : RuleRow) (xs : List RuleRow) → IsBucketRow b → FitBuckets (Some b.name) bs → IsRuleRow x → x.place ≡ 1 → FitRules (at_rules x.bucket (x.rule ∷ [])) xs
    → IsWhole (end_of (at_rules x.bucket (x.rule ∷ [])) xs) → AllByRecursion (IsOfOne (b ∷ bs)) (x ∷ xs) → Next b bs → (e : Bool) → is_eq (name_cmp b.name x.bucket) ≡ e → Made (b ∷ bs) (x ∷ xs)
first_bucket b bs x xs is fitting row place fit whole all next true same = with_rules b bs x xs is (same_name b.name x.bucket same) row place fit whole all.1 next
first_bucket b bs x xs is fitting row place fit whole all next false same =
    let one : IsOfOne bs x = not_first _ _ same all.0 in
    let late = after_all b.name bs x (later_buckets b.name bs fitting) one in
    let begins : Begins (Some b.name) (x ∷ xs) = ((row, late, place), fit, whole) in
    without b bs (x ∷ xs) is (next (x ∷ xs) begins (of_later b bs (x ∷ xs) (all_later b.name (x ∷ xs) begins) all))

-- buckets, and rules of them that begin, are those of buckets with their rules
pub make : (before : Option (List ℕ)) (bs : List BucketRow) (xs : List RuleRow) → FitBuckets before bs → Begins before xs → AllByRecursion (IsOfOne bs) xs → Made bs xs
make before [] [] fit begins all = record { buckets = []; rows = refl; rules = refl; have = tt }
make before [] (x ∷ xs) fit begins all = absurd cc
make before (b ∷ bs) [] fit begins all = without b bs [] fit.0.0 (make (Some b.name) bs [] fit.1 tt tt)
make before (b ∷ bs) (x ∷ xs) fit (first, runs, whole) all =
    first_bucket b bs x xs fit.0.0 fit.1 first.0 first.2 runs whole all (λ ys begins owned. make (Some b.name) bs ys fit.1 begins owned) (is_eq (name_cmp b.name x.bucket)) refl

rows_ascend : (name : List ℕ) (cs : List Bucket) (bs : List BucketRow) → map bucket_of cs ≡ bs → AllByRecursion (λ b. name_cmp name b.name ≡ Less) bs → AllByRecursion (λ c. name_cmp name c.name ≡ Less) cs
rows_ascend name [] bs same all = tt
rows_ascend name (c ∷ cs) [] same all = absurd cc
rows_ascend name (c ∷ cs) (b ∷ bs) same all =
    let first : bucket_of c ≡ b = cc in
    let rest : map bucket_of cs ≡ bs = cc in
    (subst (λ (x : BucketRow). name_cmp name x.name ≡ Less) (sym first) all.0, rows_ascend name cs bs rest all.1)

-- and so they ascend
pub ascend : (before : Option (List ℕ)) (cs : List Bucket) (bs : List BucketRow) → map bucket_of cs ≡ bs → FitBuckets before bs → IsAscending bucket_cmp cs
ascend before [] bs same fit = tt
ascend before (c ∷ cs) [] same fit = absurd cc
ascend before (c ∷ cs) (b ∷ bs) same fit =
    let first : bucket_of c ≡ b = cc in
    let rest : map bucket_of cs ≡ bs = cc in
    let name : b.name ≡ c.name = sym (ap (λ (x : BucketRow). x.name) first) in
    (subst (λ n. AllByRecursion (λ (x : Bucket). name_cmp n x.name ≡ Less) cs) name (rows_ascend b.name cs bs rest (later_buckets b.name bs fit.1)), ascend (Some b.name) cs bs rest fit.1)

-- ---- from buckets

pub rows_fit : (before : Option (List ℕ)) (cs : List Bucket) → AllByRecursion (λ c. IsAfter before c.name) cs → IsAscending bucket_cmp cs → AllByRecursion IsBucket cs → FitBuckets before (map bucket_of cs)
rows_fit before [] after up are = tt
rows_fit before (c ∷ cs) after up are = ((record { name = are.0.name; config = are.0.config }, after.0), rows_fit (Some c.name) cs up.0 up.1 are.1)

pub after_none : (cs : List Bucket) → AllByRecursion (λ c. IsAfter None c.name) cs
after_none [] = tt
after_none (c ∷ cs) = (tt, after_none cs)

abbrev Ends : RulesSoFar → List RuleRow → Type 0
Ends p xs = FitRules p xs × IsWhole (end_of p xs)

run_fits : (name : List ℕ) (gone rs : List Rule) (rest : List RuleRow) → IsBucketName name → 1 ≤ length gone → length gone + length rs ≤ most_rules → AllByRecursion IsRule rs → Ends (at_rules name (gone ++ rs)) rest
    → Ends (at_rules name gone) (rules_from name (length gone + 1) rs ++ rest)
run_fits name gone [] rest is some few all ends = subst (λ l. Ends (at_rules name l) rest) (append-nil gone) ends
run_fits name gone (r ∷ rs) rest is some few all ends =
    let x : RuleRow = record { bucket = name; place = length gone + 1; rule = r } in
    let state = next_state gone x name some refl refl in
    let more : length (gone ++ r ∷ []) ≡ length gone + 1 = length-append gone (r ∷ []) in
    let later = run_fits name (gone ++ r ∷ []) rs rest is (omega (arith, more)) (omega (arith, more, few)) all.1 (subst (λ l. Ends (at_rules name l) rest) (sym (append_assoc gone (r ∷ []) rs)) ends) in
    let on : Ends (with_rule (at_rules name gone) x) (rules_from name (length gone + 1 + 1) rs ++ rest) =
    subst (λ q. Ends q (rules_from name (length gone + 1 + 1) rs ++ rest)) (sym state) (subst (λ n. Ends (at_rules name (gone ++ r ∷ [])) (rules_from name (n + 1) rs ++ rest)) more later) in
    (((record { bucket = is; place = (omega arith, omega (arith, few)); rule = all.0 }, inl (refl, refl)), on.0), on.1)

given_fit : (p : RulesSoFar) (name : List ℕ) (rules : Option (List Rule)) (rest : List RuleRow) → IsBucketName name → IsAfter p.bucket name → IsWhole p → IfSome rules AreRules → Ends p rest → ((rs : List Rule) → IsTrue (is_rule_set rs) → Ends (at_rules name rs) rest)
    → Ends p (rules_if_given name rules ++ rest)
given_fit p name None rest is up whole are here past = here
given_fit p name (Some []) rest is up whole are here past = absurd (let none = are.0 in cc)
given_fit p name (Some (r ∷ rs)) rest is up whole are here past =
    let count = few (r ∷ rs) are.0 in
    let later = run_fits name (r ∷ []) rs rest is (omega arith) (omega (arith, count)) are.1.1 (past (r ∷ rs) are.0) in
    (((record { bucket = is; place = (omega arith, omega arith); rule = are.1.0 }, inr ((up, whole), refl)), later.0), later.1)

-- the rules of buckets come one after the other
pub rules_fit : (p : RulesSoFar) (cs : List Bucket) → IsWhole p → AllByRecursion (λ c. IsAfter p.bucket c.name) cs → IsAscending bucket_cmp cs → AllByRecursion IsBucket cs → Ends p (flat_map rules_in cs)
rules_fit p [] whole after up are = (tt, whole)
rules_fit p (c ∷ cs) whole after up are =
    given_fit p c.name c.rules (flat_map rules_in cs) are.0.name after.0 whole are.0.rules (rules_fit p cs whole after.1 up.1 are.1)
    (λ rs set. rules_fit (at_rules c.name rs) cs set up.0 up.1 are.1)

of_more : (b : BucketRow) (bs : List BucketRow) (xs : List RuleRow) → AllByRecursion (IsOfOne bs) xs → AllByRecursion (IsOfOne (b ∷ bs)) xs
of_more b bs [] all = tt
of_more b bs (x ∷ xs) all = (either (is_eq (name_cmp b.name x.bucket)) all.0, of_more b bs xs all.1)
  where
    either : (e : Bool) → list_any (λ c. is_eq (name_cmp c.name x.bucket)) bs ≡ true → (e || list_any (λ c. is_eq (name_cmp c.name x.bucket)) bs) ≡ true
    either true h = refl
    either false h = h

of_first : (b : BucketRow) (bs : List BucketRow) (place : ℕ) (rs : List Rule) (rest : List RuleRow) → AllByRecursion (IsOfOne (b ∷ bs)) rest → AllByRecursion (IsOfOne (b ∷ bs)) (rules_from b.name place rs ++ rest)
of_first b bs place [] rest all = all
of_first b bs place (r ∷ rs) rest all = (rw (named_itself b.name) refl, of_first b bs (place + 1) rs rest all)

of_given : (b : BucketRow) (bs : List BucketRow) (rules : Option (List Rule)) (rest : List RuleRow) → AllByRecursion (IsOfOne (b ∷ bs)) rest → AllByRecursion (IsOfOne (b ∷ bs)) (rules_if_given b.name rules ++ rest)
of_given b bs None rest all = all
of_given b bs (Some rs) rest all = of_first b bs 1 rs rest all

-- each of them is of its bucket
pub rules_owned : (cs : List Bucket) → AllByRecursion (IsOfOne (map bucket_of cs)) (flat_map rules_in cs)
rules_owned [] = tt
rules_owned (c ∷ cs) = of_given (bucket_of c) (map bucket_of cs) c.rules (flat_map rules_in cs) (of_more (bucket_of c) (map bucket_of cs) (flat_map rules_in cs) (rules_owned cs))
