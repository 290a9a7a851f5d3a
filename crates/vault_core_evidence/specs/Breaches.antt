-- The first law that a history breaks, by tests that compute.
use Rattle.std.specs.Prelude.{ℕ, ◌==◌, ◌&&◌, ◌||◌, if◌then◌else◌, nat_lt, nat_le, not, Bool, true, false, List, [], ◌∷◌, ◌++◌, codes, Option, Some, None, is_some, Result, Ok, Err}
use Rattle.std.specs.Str.{bytes_eq}
use Rattle.vault_base.specs.declared.right.Right.TheVariants as right
use Rattle.vault_lock.specs.declared.lock.Denial.{Denial}
use Rattle.vault_lock.specs.declared.lock.Lock.{Lock}
use Rattle.vault_lock.specs.declared.lock.Permit.{Permit}
use Rattle.vault_lock.specs.declared.lock.Permit.TheVariants.{Free, Bypass}
use Rattle.vault_lock.specs.declared.retention.Retention.{Retention}
use Rattle.vault_lock.specs.Lock.{removable, retainable}
use Rattle.vault_lock.specs.Retention.{is_mode}
use Rattle.vault_core_model.specs.declared.records.Author.{Author}
use Rattle.vault_core_model.specs.declared.records.Author.TheVariants as author
use Rattle.vault_core_model.specs.declared.records.Caller.{Caller}
use Rattle.vault_core_model.specs.declared.records.Cause.{Cause}
use Rattle.vault_core_model.specs.declared.records.Cause.TheVariants as cause
use Rattle.vault_core_model.specs.declared.records.Entry.{Entry}
use Rattle.vault_core_model.specs.declared.records.History.{History}
use Rattle.vault_core_model.specs.declared.records.Removal.{Removal}
use Rattle.vault_core_model.specs.declared.records.Setting.{Setting}
use Rattle.vault_core_model.specs.declared.records.Tenure.{Tenure}
use Rattle.vault_core_model.specs.Checks.{is_own}
use Rattle.vault_core_model.specs.Vault.{Vault, caller_of, last_lock}
use Rattle.vault_core_run_laws.specs.Bypass.{has_bypass}
use Rattle.vault_core_run_laws.specs.Entitled.{has_right}
use Rattle.vault_core_evidence.specs.declared.breach.Breach.{Breach}
use Rattle.vault_core_evidence.specs.declared.breach.Law.{Law}
use Rattle.vault_core_evidence.specs.declared.breach.Law.TheVariants as law
use Rattle.vault_core_evidence.specs.declared.seen_moves.Move.{Move}
use Rattle.vault_core_evidence.specs.Departments.{agrees_with}
use Rattle.vault_core_evidence.specs.Lawful.{department_of, has_registrar, last_at}
use Rattle.vault_core_evidence.specs.Moves.{are_as_seen, none_seen, seen_after}

-- the name of each law
abbrev pub law_name : Law → List ℕ
law_name law.Admission = codes "admission"
law_name law.FirstSetting = codes "first-setting"
law_name law.Order = codes "order"
law_name law.Setting = codes "setting"
law_name law.Setter = codes "setter"
law_name law.Removal = codes "removal"
law_name law.Remover = codes "remover"
law_name law.Move = codes "move"
law_name law.Department = codes "department"
law_name law.Registrar = codes "registrar"

-- a test, and the law that is broken where it fails
pub record Test : Type 0 where
  pub passes : Bool
  pub law : Law

abbrev pub test : Bool → Law → Test
test passes law = record { passes = passes; law = law }

-- the law of the first of these tests that fails
abbrev pub broken : List Test → Option Law
broken [] = None
broken (t ∷ ts) = if t.passes then broken ts else Some t.law

-- ---- rights

-- a version is admitted by a caller who may put, a marker by one who may delete, or by a rule
abbrev pub is_admitter : Vault → Bool → Author → Bool
is_admitter v false (author.Caller name) = has_right right.Put (caller_of v name)
is_admitter v false (author.Rule rule) = false
is_admitter v true (author.Caller name) = has_right right.Delete (caller_of v name)
is_admitter v true (author.Rule rule) = true

-- who admits a version is of the department of its first tenure, who admits a marker of any
abbrev pub is_of_department : Vault → Bool → Author → List Tenure → Bool
is_of_department v false (author.Caller name) (t ∷ ts) = is_own (department_of v name) t.dept
is_of_department v false _ _ = false
is_of_department v true (author.Caller name) ts = is_some (department_of v name)
is_of_department v true (author.Rule rule) ts = true

-- an entry with these tenures was admitted by who may, and who is of that department
abbrev pub is_admitted : Vault → Entry → List Tenure → Bool
is_admitted v e tenures = is_admitter v e.marker e.by && is_of_department v e.marker e.by tenures

abbrev pub is_author : Author → List ℕ → Bool
is_author (author.Caller name) who = bytes_eq name who
is_author (author.Rule rule) who = false

-- the caller who removed; none where a rule did
abbrev pub remover_of : Vault → Cause → Option Caller
remover_of v (cause.Request name) = caller_of v name
remover_of v (cause.Bypass name) = caller_of v name
remover_of v (cause.Rule rule) = None

abbrev pub is_remover : Vault → Cause → Bool
is_remover v (cause.Request name) = has_right right.DeleteVersion (caller_of v name)
is_remover v (cause.Bypass name) = has_right right.DeleteVersion (caller_of v name)
is_remover v (cause.Rule rule) = true

-- ---- what locks permit

-- the retention, where there is one, ends after t
abbrev pub ends_after : ℕ → Option Retention → Bool
ends_after t None = true
ends_after t (Some r) = nat_lt t r.until

abbrev pub same_bool : Bool → Bool → Bool
same_bool true b = b
same_bool false b = not b

abbrev pub same_retention : Option Retention → Option Retention → Bool
same_retention None None = true
same_retention None (Some s) = false
same_retention (Some r) None = false
same_retention (Some r) (Some s) = is_mode r.mode s.mode && r.until == s.until

-- what is permitted freely was made freely, and what is permitted by bypass by bypass
abbrev pub gives : Bool → Result Permit Denial → Bool
gives bypass (Ok Free) = not bypass
gives bypass (Ok Bypass) = bypass
gives bypass (Err d) = false

-- the commands' own decision permits the new retention as it was set
abbrev pub retains_by : Vault → ℕ → Lock → Setting → Option Retention → Bool
retains_by v t old s None = false
retains_by v t old s (Some new) =
    nat_lt t new.until && (same_bool s.lock.hold old.hold && gives s.bypass (retainable old new t s.bypass (has_bypass (caller_of v s.by))))

abbrev pub retains : Vault → ℕ → Lock → Setting → Bool
retains v t old s = retains_by v t old s s.lock.retention

-- the retention is kept, whatever the hold
abbrev pub holds : Lock → Setting → Bool
holds old s = same_retention s.lock.retention old.retention && not s.bypass

abbrev pub is_permitted : Vault → ℕ → Lock → Setting → Bool
is_permitted v t old s = retains v t old s || holds old s

abbrev pub is_by_right : Vault → ℕ → Lock → Setting → Bool
is_by_right v t old s =
    (retains v t old s && has_right right.Retain (caller_of v s.by)) || (holds old s && has_right right.Hold (caller_of v s.by))

-- the commands' own decision permits the removal as it was made
abbrev pub is_permitted_removal : Vault → Lock → ℕ → Cause → Bool
is_permitted_removal v lock t (cause.Request who) = gives false (removable lock t false false)
is_permitted_removal v lock t (cause.Bypass who) = gives true (removable lock t true (has_bypass (caller_of v who)))
is_permitted_removal v lock t (cause.Rule rule) = gives false (removable lock t false false)

-- ---- the tests, in the order in which the first that fails is reported

abbrev pub first_tests : Vault → ℕ → Author → Setting → List Test
first_tests v admitted by s =
    test (s.at == admitted) law.FirstSetting ∷ test (not s.bypass) law.FirstSetting ∷ test (is_author by s.by) law.FirstSetting
    ∷ test (ends_after admitted s.lock.retention) law.FirstSetting ∷ test (not s.lock.hold || has_right right.Hold (caller_of v s.by)) law.Setter ∷ []

-- a setting over the lock before it
abbrev pub lock_tests : Vault → Lock → Setting → List Test
lock_tests v old s = test (is_permitted v s.at old s) law.Setting ∷ test (is_by_right v s.at old s) law.Setter ∷ []

abbrev pub next_tests : Vault → Setting → Setting → List Test
next_tests v s n = test (nat_le s.at n.at) law.Order ∷ lock_tests v s.lock n

abbrev pub after_tests : Vault → Setting → List Setting → List Test
after_tests v s [] = []
after_tests v s (n ∷ ns) = next_tests v s n ++ after_tests v n ns

abbrev pub settings_tests : Vault → ℕ → Author → List Setting → List Test
settings_tests v admitted by [] = []
settings_tests v admitted by (s ∷ ss) = first_tests v admitted by s ++ after_tests v s ss

-- a removal under the last lock
abbrev pub removal_tests : Vault → Lock → ℕ → Cause → List Test
removal_tests v lock t c = test (is_permitted_removal v lock t c) law.Removal ∷ test (is_remover v c) law.Remover ∷ []

abbrev pub end_tests : Vault → ℕ → Lock → Option Removal → List Test
end_tests v from lock None = test (nat_le from v.last) law.Order ∷ []
end_tests v from lock (Some r) =
    test (nat_le from r.at) law.Order ∷ test (nat_le r.at v.last) law.Order ∷ removal_tests v lock r.at r.cause

-- those of one entry by itself
abbrev pub rule_tests : Vault → Entry → List Setting → List Tenure → List Test
rule_tests v e settings tenures =
    test (is_admitted v e tenures) law.Admission
    ∷ (settings_tests v e.admitted e.by settings
    ++ end_tests v (last_at e.admitted settings) (last_lock settings) e.removal)

-- and those of its tenures, beside the moves that entries before it show
abbrev pub move_tests : (ℕ → Option Move) → List ℕ → List Tenure → List Test
move_tests seen bucket tenures = test (are_as_seen seen bucket tenures) law.Move ∷ []

-- and beside the versions before it
abbrev pub department_tests : List History → History → List Test
department_tests before h = test (agrees_with before h) law.Department ∷ []

abbrev pub tests : Vault → (ℕ → Option Move) → List History → History → List Test
tests v seen before h =
    rule_tests v h.entry h.settings h.tenures ++ (move_tests seen h.entry.bucket h.tenures ++ department_tests before h)

-- the first law that the history breaks
abbrev pub breach : Vault → (ℕ → Option Move) → List History → History → Option Law
breach v seen before h = broken (tests v seen before h)

-- that law of that entry; where it breaks none, what the entries after it break
abbrev pub breach_or : ℕ → Option Law → Option Breach → Option Breach
breach_or id None later = later
breach_or id (Some l) later = Some (record { id = id; law = l })

-- the first breach of these histories, after the moves that were seen, beside those before them
abbrev pub first_breach_after : Vault → (ℕ → Option Move) → List History → List History → Option Breach
first_breach_after v seen before [] = None
first_breach_after v seen before (h ∷ hs) =
    breach_or h.entry.id (breach v seen before h) (first_breach_after v (seen_after seen h.entry.bucket h.tenures) (h ∷ before) hs)

-- the same, once the vault has the caller whom a new vault has; else no command can have made its first entry
abbrev pub breach_of_list : Vault → List History → Option Breach
breach_of_list v hs =
    if has_registrar v then first_breach_after v none_seen [] hs else Some (record { id = 1; law = law.Registrar })

-- the first entry that breaks a law, and which
abbrev pub first_breach : Vault → Option Breach
first_breach v = breach_of_list v v.histories
