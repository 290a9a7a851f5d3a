-- Parts of the entries of a vault, one after another, are all of them.
use Rattle.std.proofs.Common.{◌≡◌, ℕ, ◌+◌, ◌-◌, ◌<◌, ◌≤◌, List, ◌++◌, length, take, drop, Bool, true, false, refl, sym, ap, ◌∙◌, take-append-drop, take_all, length-drop, drop-drop, arith}
use Rattle.std.specs.Prelude.{Option, Some, None, if◌then◌else◌, nat_lt}
use Rattle.std.proofs.lemmas.Bool.{ltb-true, ltb-false}
use Rattle.vault_core_model.specs.declared.records.History.{History}
use Rattle.vault_core_model.specs.Vault.{Vault}
use Rattle.vault_core_evidence.specs.Parts.{most_of, next_of, part}

more-cases : (short : Bool) (n : ℕ) → nat_lt 1000 n ≡ short → 1000 < n → (if short then 1000 else n) ≡ 1000
more-cases true n e more = refl
more-cases false n e more = absurd (omega (arith, more, ltb-false 1000 n e))

-- where entries are left, a part has 1,000
full-part : (hs : List History) (after : ℕ) → after + 1000 < length hs → most_of (length hs) after ≡ 1000
full-part hs after more = more-cases (nat_lt 1000 (length hs - after)) (length hs - after) refl (omega (arith, more))

last-cases : (short : Bool) (hs rest : List History) (n : ℕ) → nat_lt 1000 n ≡ short → n ≤ 1000 → length rest ≡ n → take (if short then 1000 else n) rest ≡ rest
last-cases true hs rest n e few long = absurd (omega (arith, few, ltb-true 1000 n e))
last-cases false hs rest n e few long = take_all n rest (omega (arith, long))

next-cases : (more : Bool) (entries after next : ℕ) → nat_lt (after + 1000) entries ≡ more → (if more then Some (after + 1000) else None) ≡ Some next → (after + 1000 < entries) × (next ≡ after + 1000)
next-cases true entries after next e is = (ltb-true (after + 1000) entries e, cc)
next-cases false entries after next e is = absurd cc

none-cases : (more : Bool) (entries after : ℕ) → nat_lt (after + 1000) entries ≡ more → (let o : Option ℕ = if more then Some (after + 1000) else None in o) ≡ None → entries ≤ after + 1000
none-cases true entries after e is = absurd cc
none-cases false entries after e is = ltb-false (after + 1000) entries e

-- a part and all after it
pub part-and-rest : (v : Vault) (after next : ℕ) → next_of (length v.histories) after ≡ Some next → drop after v.histories ≡ part after v ++ drop next v.histories
part-and-rest v after next is =
    let hs = v.histories in
    let both = next-cases (nat_lt (after + 1000) (length hs)) (length hs) after next refl is in
    let full : part after v ≡ take 1000 (drop after hs) = ap (λ n. take n (drop after hs)) (full-part hs after both.0) in
    let beyond : drop 1000 (drop after hs) ≡ drop next hs = drop-drop 1000 after hs ∙ ap (λ n. drop n hs) (sym both.1) in
    sym (take-append-drop 1000 (drop after hs))
    ∙ (ap (λ (l : List History). l ++ drop 1000 (drop after hs)) (sym full)
    ∙ ap (λ (l : List History). part after v ++ l) beyond)

-- the last part is all that is left
pub part-is-rest : (v : Vault) (after : ℕ) → next_of (length v.histories) after ≡ None → drop after v.histories ≡ part after v
part-is-rest v after is =
    let hs = v.histories in
    let few = none-cases (nat_lt (after + 1000) (length hs)) (length hs) after refl is in
    sym (last-cases (nat_lt 1000 (length hs - after)) hs (drop after hs) (length hs - after) refl (omega (arith, few)) (length-drop after hs))
