-- What is found of one entry: its settings, its tenures, and what they break together.
use Rattle.std.proofs.Common.{◌≡◌, ◌∙◌, ℕ, List, [], ◌∷◌, ◌++◌, Bool, true, false, Option, Some, None, Result, Ok, Err, refl, sym, ap, subst}
use Rattle.std.specs.Prelude.{IfOk, find, is_some, option_map, unwrap_or, if◌then◌else◌, ◌==◌}
use Rattle.std.specs.List.{AllByRecursion}
use Rattle.vault_lock.specs.declared.lock.Lock.{Lock}
use Rattle.vault_core_model.specs.declared.halt.Fault.{Fault}
use Rattle.vault_core_model.specs.declared.records.Entry.{Entry}
use Rattle.vault_core_model.specs.declared.records.History.{History}
use Rattle.vault_core_model.specs.declared.records.Setting.{Setting}
use Rattle.vault_core_model.specs.declared.records.Tenure.{Tenure}
use Rattle.vault_core_model.specs.Reads.{entry_of, settings_of, tenures_of}
use Rattle.vault_core_model.specs.Sound.{HasTenures, HasTenuresAs, IsWhole, IsWholeAs, Sound}
use Rattle.vault_core_model.specs.Vault.{Vault, history_of, last_lock}
use Rattle.vault_core_evidence.specs.declared.breach.Law.{Law}
use Rattle.vault_core_evidence.specs.declared.breach.Law.TheVariants as law
use Rattle.vault_core_evidence.specs.declared.holders.Holders.{Holders}
use Rattle.vault_core_evidence.specs.declared.seen_moves.SeenMoves.{SeenMoves}
use Rattle.vault_core_evidence.specs.Departments.{removed_at}
use Rattle.vault_core_evidence.specs.Holders.{SeesVersion, holder_of}
use Rattle.vault_core_evidence.specs.Moves.{Sees, seen_after, seen_of}
use Rattle.vault_core_evidence.specs.Lawful.{last_at}
use Rattle.vault_core_evidence.specs.Breaches.{Test, broken, end_tests, is_admitted, move_tests, rule_tests, settings_tests, test}
use Rattle.vault_core_evidence.specs.Walk.{Finds, FindsDepartments, FindsMoves, holder_after, holder_tests}
use Rattle.vault_core_evidence.proofs.Tests.{stops, goes_on}

-- ---- a marker has no settings and no tenures

if_found : (P : History → Type 0) (g h : History) (b : Bool) (rest : Option History) → P g → (rest ≡ Some h → P h) → (if b then Some g else rest) ≡ Some h → P h
if_found P g h true rest one later e = let same : g ≡ h = cc e in subst P same one
if_found P g h false rest one later e = later e

All-found : (P : History → Type 0) (id : ℕ) (hs : List History) (h : History) → AllByRecursion P hs → find (λ g. g.entry.id == id) hs ≡ Some h → P h
All-found P id [] h all is = absurd (cc is)
All-found P id (g ∷ gs) h all is =
    if_found P g h (g.entry.id == id) (find (λ g. g.entry.id == id) gs) all.0 (λ e. All-found P id gs h all.1 e) is

whole_marker : (b external : Bool) (h : History) → b ≡ true → IsWholeAs b external h.entry h.content h.settings → h.settings ≡ []
whole_marker true external h e whole = whole.3
whole_marker false external h e whole = absurd (cc e)

tenured_marker : (b : Bool) (v : Vault) (h : History) → b ≡ true → HasTenuresAs b v h → h.tenures ≡ []
tenured_marker true v h e has = has
tenured_marker false v h e has = absurd (cc e)

its_marker : (v : Vault) (id : ℕ) (e : Entry) (h : History) → history_of v id ≡ Some h → entry_of v id ≡ Some e → e.marker ≡ true → h.entry.marker ≡ true
its_marker v id e h is its marker =
    let same : Some h.entry ≡ Some e = sym (ap (λ (o : Option History). option_map (λ g. g.entry) o) is) ∙ its in
    let entry : h.entry ≡ e = cc same in
    ap (λ (x : Entry). x.marker) entry ∙ marker

pub marker_settings : (v : Vault) (id : ℕ) (e : Entry) → Sound v → entry_of v id ≡ Some e → e.marker ≡ true → settings_of v id ≡ []
marker_settings v id e sound its marker = by (history_of v id) refl
  where
    by : (o : Option History) → history_of v id ≡ o → settings_of v id ≡ []
    by None is = ap (λ (o : Option History). unwrap_or (option_map (λ h. h.settings) o) []) is
    by (Some h) is =
        ap (λ (o : Option History). unwrap_or (option_map (λ h. h.settings) o) []) is
        ∙ whole_marker h.entry.marker v.external h (its_marker v id e h is its marker) (All-found (IsWhole v.external) id v.histories h sound.whole is)

pub marker_tenures : (v : Vault) (id : ℕ) (e : Entry) → Sound v → entry_of v id ≡ Some e → e.marker ≡ true → tenures_of v id ≡ []
marker_tenures v id e sound its marker = by (history_of v id) refl
  where
    by : (o : Option History) → history_of v id ≡ o → tenures_of v id ≡ []
    by None is = ap (λ (o : Option History). unwrap_or (option_map (λ h. h.tenures) o) []) is
    by (Some h) is =
        ap (λ (o : Option History). unwrap_or (option_map (λ h. h.tenures) o) []) is
        ∙ tenured_marker h.entry.marker v h (its_marker v id e h is its marker) (All-found (HasTenures v) id v.histories h sound.tenured is)

-- ---- its tenures

pub tenures_pass : (s after : SeenMoves) (bucket : List ℕ) (ts : List Tenure) (passes : Bool) → Sees s bucket ts passes after → passes ≡ true → FindsMoves s bucket ts None after
tenures_pass s after bucket ts passes sees passed =
    (sym (ap (λ b. broken (test b law.Move ∷ [])) (sym sees.0 ∙ passed)), λ e n. sees.1 passed n)

pub tenures_fail : (s after : SeenMoves) (bucket : List ℕ) (ts : List Tenure) (passes : Bool) → Sees s bucket ts passes after → passes ≡ false → FindsMoves s bucket ts (Some law.Move) after
tenures_fail s after bucket ts passes sees failed =
    (sym (ap (λ b. broken (test b law.Move ∷ [])) (sym sees.0 ∙ failed)), λ e. absurd (cc e))

not_none : {X : Type 0} (found : Option Law) → is_some found ≡ true → found ≡ None → X
not_none found some none = let Q : Option Law → Type 0 = λ l. is_some l ≡ true in absurd (cc (subst Q none some))

is_none : (o : Option Law) → is_some o ≡ false → o ≡ None
is_none None e = refl
is_none (Some l) e = absurd (cc e)

-- ---- all of it

after_admission : (b : Bool) (ts : List Test) → b ≡ true → broken (test b law.Admission ∷ ts) ≡ broken ts
after_admission b ts e = rw e refl

pub rule_stops : (v mid : Vault) (e : Entry) (ss : List Setting) (ts : List Tenure) (found : Option Law) → mid ≡ v → is_admitted v e ts ≡ true → found ≡ broken (settings_tests mid e.admitted e.by ss) → is_some found ≡ true → found ≡ broken (rule_tests v e ss ts)
rule_stops v mid e ss ts found same may one some =
    let its : found ≡ broken (settings_tests v e.admitted e.by ss) = one ∙ ap (λ w. broken (settings_tests w e.admitted e.by ss)) same in
    stops (settings_tests v e.admitted e.by ss) (end_tests v (last_at e.admitted ss) (last_lock ss) e.removal) found its some
    ∙ sym (after_admission (is_admitted v e ts) (settings_tests v e.admitted e.by ss ++ end_tests v (last_at e.admitted ss) (last_lock ss) e.removal) may)

rule_goes_on : (v mid last : Vault) (e : Entry) (ss : List Setting) (ts : List Tenure) (found rest : Option Law) → mid ≡ v → last ≡ v → is_admitted v e ts ≡ true → found ≡ broken (settings_tests mid e.admitted e.by ss) → is_some found ≡ false → rest ≡ broken (end_tests last (last_at e.admitted ss) (last_lock ss) e.removal) → rest ≡ broken (rule_tests v e ss ts)
rule_goes_on v mid last e ss ts found rest same same_last may one none end =
    let its : found ≡ broken (settings_tests v e.admitted e.by ss) = one ∙ ap (λ w. broken (settings_tests w e.admitted e.by ss)) same in
    let ends : rest ≡ broken (end_tests v (last_at e.admitted ss) (last_lock ss) e.removal) = end ∙ ap (λ w. broken (end_tests w (last_at e.admitted ss) (last_lock ss) e.removal)) same_last in
    goes_on (settings_tests v e.admitted e.by ss) (end_tests v (last_at e.admitted ss) (last_lock ss) e.removal) found rest its none ends
    ∙ sym (after_admission (is_admitted v e ts) (settings_tests v e.admitted e.by ss ++ end_tests v (last_at e.admitted ss) (last_lock ss) e.removal) may)

pub rule_ends : (v mid last : Vault) (e : Entry) (ss : List Setting) (ts : List Tenure) (found : Option Law) (from : ℕ) (lock : Lock) (r : Result (Option Law) Fault) → mid ≡ v → last ≡ v → is_admitted v e ts ≡ true → found ≡ broken (settings_tests mid e.admitted e.by ss) → is_some found ≡ false → from ≡ last_at e.admitted ss → lock ≡ last_lock ss → IfOk r (λ rest. rest ≡ broken (end_tests last from lock e.removal)) → IfOk r (λ rest. rest ≡ broken (rule_tests v e ss ts))
rule_ends v mid last e ss ts found from lock (Ok rest) same same_last may one none at_last locked end =
    rule_goes_on v mid last e ss ts found rest same same_last may one none
    (end ∙ (ap (λ t. broken (end_tests last t lock e.removal)) at_last ∙ ap (λ (l : Lock). broken (end_tests last (last_at e.admitted ss) l e.removal)) locked))
rule_ends v mid last e ss ts found from lock (Err f) same same_last may one none at_last locked end = tt

its_rules : (v mid : Vault) (e : Entry) (slice ss : List Setting) (row ts : List Tenure) (found : Option Law) → mid ≡ v → slice ≡ ss → row ≡ ts → found ≡ broken (rule_tests mid e slice row) → found ≡ broken (rule_tests v e ss ts)
its_rules v mid e slice ss row ts found same is tenures one =
    one ∙ (ap (λ w. broken (rule_tests w e slice row)) same ∙ (ap (λ xs. broken (rule_tests v e xs row)) is ∙ ap (λ us. broken (rule_tests v e ss us)) tenures))

-- what an entry breaks, where it is there and has these settings and tenures
pub finds_rule : (v mid : Vault) (s seen : SeenMoves) (k holders : Holders) (o : Option Entry) (e : Entry) (slice ss : List Setting) (row ts : List Tenure) (found : Option Law) → mid ≡ v → o ≡ Some e → slice ≡ ss → row ≡ ts → found ≡ broken (rule_tests mid e slice row) → is_some found ≡ true → Finds v s k o ss ts found seen holders
finds_rule v mid s seen k holders o e slice ss row ts found same its is tenures one some =
    let P : Option Entry → Type 0 = λ p. Finds v s k p ss ts found seen holders in
    let own : found ≡ broken (rule_tests v e ss ts) = its_rules v mid e slice ss row ts found same is tenures one in
    subst P (sym its) (stops (rule_tests v e ss ts) (move_tests (seen_of s) e.bucket ts ++ holder_tests k e ts) found own some, λ none. not_none found some none, λ none. not_none found some none)

-- nothing by itself, but a move
finds_beside : (v : Vault) (s seen : SeenMoves) (k holders : Holders) (o : Option Entry) (e : Entry) (ss : List Setting) (ts : List Tenure) (found rest : Option Law) → o ≡ Some e → found ≡ broken (rule_tests v e ss ts) → is_some found ≡ false → rest ≡ broken (move_tests (seen_of s) e.bucket ts ++ holder_tests k e ts)
    → (rest ≡ None → (n : ℕ) → seen_of seen n ≡ seen_after (seen_of s) e.bucket ts n) → (rest ≡ None → (name : List ℕ) → holder_of holders name ≡ holder_after k e ts name) → Finds v s k o ss ts rest seen holders
finds_beside v s seen k holders o e ss ts found rest its one none beside moves next =
    let P : Option Entry → Type 0 = λ p. Finds v s k p ss ts rest seen holders in
    subst P (sym its) (goes_on (rule_tests v e ss ts) (move_tests (seen_of s) e.bucket ts ++ holder_tests k e ts) found rest one none beside, moves, next)

pub finds_move : (v mid : Vault) (s seen : SeenMoves) (k holders : Holders) (o : Option Entry) (e : Entry) (slice ss : List Setting) (row again ts : List Tenure) (found rest : Option Law) → mid ≡ v → o ≡ Some e → slice ≡ ss → row ≡ ts → again ≡ ts → found ≡ broken (rule_tests mid e slice row) → is_some found ≡ false → FindsMoves s e.bucket again rest seen → is_some rest ≡ true → Finds v s k o ss ts rest seen holders
finds_move v mid s seen k holders o e slice ss row again ts found rest same its is tenures those one none moves some =
    let P : List Tenure → Type 0 = λ xs. FindsMoves s e.bucket xs rest seen in
    let own = subst P those moves in
    finds_beside v s seen k holders o e ss ts found rest its (its_rules v mid e slice ss row ts found same is tenures one) none
    (stops (move_tests (seen_of s) e.bucket ts) (holder_tests k e ts) rest own.0 some) (λ none. not_none rest some none) (λ none. not_none rest some none)

pub finds_all : (v mid : Vault) (s seen : SeenMoves) (k holders : Holders) (o : Option Entry) (e : Entry) (slice ss : List Setting) (row again all ts : List Tenure) (found move rest : Option Law) → mid ≡ v → o ≡ Some e → slice ≡ ss → row ≡ ts → again ≡ ts → all ≡ ts → found ≡ broken (rule_tests mid e slice row) → is_some found ≡ false → FindsMoves s e.bucket again move seen → is_some move ≡ false → FindsDepartments k e all rest holders → Finds v s k o ss ts rest seen holders
finds_all v mid s seen k holders o e slice ss row again all ts found move rest same its is tenures those these one none moves passed departments =
    let P : List Tenure → Type 0 = λ xs. FindsMoves s e.bucket xs move seen in
    let Q : List Tenure → Type 0 = λ xs. FindsDepartments k e xs rest holders in
    let own = subst P those moves in
    let beside = subst Q these departments in
    finds_beside v s seen k holders o e ss ts found rest its (its_rules v mid e slice ss row ts found same is tenures one) none
    (goes_on (move_tests (seen_of s) e.bucket ts) (holder_tests k e ts) move rest own.0 passed beside.0) (λ none. own.1 (is_none move passed)) beside.1

-- ---- its department

pub department_passes : (k after : Holders) (e : Entry) (ts : List Tenure) (end : Option ℕ) (passes : Bool) → end ≡ removed_at e → SeesVersion k e.bucket ts end passes after → passes ≡ true → FindsDepartments k e ts None after
department_passes k after e ts end passes at sees passed =
    let P : Option ℕ → Type 0 = λ o. SeesVersion k e.bucket ts o passes after in
    let own = subst P at sees in
    (sym (ap (λ b. broken (test b law.Department ∷ [])) (sym own.0 ∙ passed)), λ e. own.1 passed)

pub department_fails : (k after : Holders) (e : Entry) (ts : List Tenure) (end : Option ℕ) (passes : Bool) → end ≡ removed_at e → SeesVersion k e.bucket ts end passes after → passes ≡ false → FindsDepartments k e ts (Some law.Department) after
department_fails k after e ts end passes at sees failed =
    let P : Option ℕ → Type 0 = λ o. SeesVersion k e.bucket ts o passes after in
    let own = subst P at sees in
    (sym (ap (λ b. broken (test b law.Department ∷ [])) (sym own.0 ∙ failed)), λ e. absurd (cc e))
