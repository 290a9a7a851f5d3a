-- Values that stand in several columns.
use Rattle.std.proofs.Common.{◌≡◌, ◌≢◌, ◌<◌, ◌≤◌, ◌^◌, ℕ, Bool, true, false, List, length, Option, Some, None, IfSome, arith, [], ◌∷◌, is_none, nat_lt, IsTrue, refl}
use Rattle.std.proofs.lemmas.Bool.Decides.{nat_tests}
use Rattle.sqlite_value.specs.declared.value.Value.{Value}
use Rattle.vault_base.specs.Limits.{most_rules}
use Rattle.vault_core_model.proofs.RightLemmas.{is_below}
use Rattle.vault_core_model.specs.Rights.{rights_number}
use Rattle.vault_core_model.specs.Sound.{most_bytes}
use Rattle.vault_core_model.specs.declared.rights.Rights.{Rights}
use Rattle.vault_core_model.specs.declared.records.Author.{Author}
use Rattle.vault_core_model.specs.declared.records.Author.TheVariants as author
use Rattle.vault_audit_model.specs.Rows.{author_kind}
use Rattle.vault_audit_model.specs.Limits.{IsSizedAs}
use Rattle.vault_audit_model.specs.Values.{flag}
use Rattle.vault_rules.specs.Rules.{fault_where, is_rule_set, are_bounds}
use Rattle.vault_rules.specs.declared.rule.Rule.{Rule}
use Rattle.vault_rules.specs.declared.rule_set.RuleFault.{RuleFault}

pub no_author : (v : Value) → ((b : Bool) → v ≢ flag b) → (a : Author) → v ≢ author_kind a
no_author v none (author.Caller name) is = none false is
no_author v none (author.Rule id) is = none true is

pub sized_within : (marker external : Bool) (size : ℕ) (digest : Option (List ℕ)) → IsSizedAs marker external size digest → size ≤ most_bytes external None
sized_within true external size digest h = omega (arith, h.0)
sized_within false external size None h = elim h [ ]
sized_within false external size (Some d) h = h.0

pub sized_digest : (marker external : Bool) (size : ℕ) (digest : Option (List ℕ)) → IsSizedAs marker external size digest → IfSome digest (λ d. length d ≡ 32)
sized_digest true external size None h = tt
sized_digest true external size (Some d) h = absurd (let e = h.1 in cc)
sized_digest false external size None h = elim h [ ]
sized_digest false external size (Some d) h = h.1

-- a vault that registers contents that are kept outside has the wider limit
pub sized_wider : (marker external : Bool) (size : ℕ) (digest : Option (List ℕ)) → IsSizedAs marker external size digest → IsSizedAs marker true size digest
sized_wider true external size digest h = h
sized_wider false external size None h = elim h [ ]
sized_wider false true size (Some d) h = h
sized_wider false false size (Some d) h = (omega (arith, h.0), h.1)

pub rights_fit : (r : Rights) → rights_number r < 2 ^ 32
rights_fit r = omega (arith, is_below r)

-- ---- rules

no_fault : (b : Bool) (fault : RuleFault) (later : Option RuleFault) → IsTrue (is_none (fault_where b fault later)) → b ≡ false
no_fault true fault later h = absurd cc
no_fault false fault later h = refl

not_above : (n : ℕ) → nat_lt most_rules n ≡ false → n ≤ most_rules
not_above n h = grind arith

-- a bucket has no more than a thousand
pub few : (rules : List Rule) → IsTrue (is_rule_set rules) → length rules ≤ most_rules
few [] h = omega arith
few (r ∷ rs) h = not_above (length (r ∷ rs)) (no_fault _ _ _ h)

-- bounds that a rule may have stand in columns of 32 bits
larger_fits : (l s : Option ℕ) → IsTrue (are_bounds l s) → IfSome l (λ n. n < 2 ^ 32)
larger_fits None s h = tt
larger_fits (Some l) None h = grind (arith, nat_tests)
larger_fits (Some l) (Some s) h = grind (arith, nat_tests)

smaller_fits : (l s : Option ℕ) → IsTrue (are_bounds l s) → IfSome s (λ n. n < 2 ^ 32)
smaller_fits l None h = tt
smaller_fits None (Some s) h = grind (arith, nat_tests)
smaller_fits (Some l) (Some s) h = grind (arith, nat_tests)

pub bounds_fit : (l s : Option ℕ) → IsTrue (are_bounds l s) → IfSome l (λ n. n < 2 ^ 32) × IfSome s (λ n. n < 2 ^ 32)
bounds_fit l s h = (larger_fits l s h, smaller_fits l s h)
