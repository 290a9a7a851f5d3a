-- What was lawful stays so over any run: histories are only extended, and lawfully.
use Rattle.std.proofs.Common.{◌≡◌, ◌∙◌, ℕ, zero, suc, ◌+◌, ◌≤◌, List, [], ◌∷◌, ◌++◌, length, take, drop, map, Bool, true, false, refl, sym, ap, subst, arith}
use Rattle.std.specs.List.{AllByRecursion}
use Rattle.vault_core_model.specs.declared.change.Change.{Change}
use Rattle.vault_core_model.specs.declared.change.Change.TheVariants.{AddDept, AddCaller, CloseCaller, AddBucket, MoveBucket, SetDefault, SetRules, Admit, AddSetting, Remove}
use Rattle.vault_core_model.specs.declared.command.Timed.{Timed}
use Rattle.vault_core_model.specs.declared.records.Author.{Author}
use Rattle.vault_core_model.specs.declared.records.History.{History}
use Rattle.vault_core_model.specs.declared.records.Setting.{Setting}
use Rattle.vault_core_model.specs.declared.reply.Reply.{Reply}
use Rattle.vault_core_model.specs.Change.{changed, next_tenure, removed_if, tenured_if, with_setting}
use Rattle.vault_core_model.specs.Sound.{IsWhole, IsWholeAs, Sound}
use Rattle.vault_core_model.specs.Step.{IsRun}
use Rattle.vault_core_model.specs.Vault.{Vault}
use Rattle.vault_core_laws.proofs.Lists.{All-both, All-map, All-weaker}
use Rattle.vault_core_run_laws.specs.Callers.{KeepsCallers}
use Rattle.vault_core_run_laws.specs.Chains.{MayMake}
use Rattle.vault_core_run_laws.proofs.Callers.{Callers-changed, keeps_itself}
use Rattle.vault_core_run_laws.proofs.Reached.{IsRun-keeps}
use Rattle.vault_core_evidence.specs.Lawful.{AreLawful, IsLawful}
use Rattle.vault_core_evidence.specs.Parts.{range}
use Rattle.vault_core_evidence.proofs.Admissions.{HasEnd, IsAdmittedSo, on, one_moved, one_removed, one_set}
use Rattle.vault_core_evidence.proofs.LawfulRuns.{AreSet, IsOwn, KeepsRules, keeps_each, lawful-on, lawful_one, moved_one, own, removed_one, setting_added}

-- ---- some of a list

All-take : (P : History → Type 0) (n : ℕ) (hs : List History) → AllByRecursion P hs → AllByRecursion P (take n hs)
All-take P zero hs all = tt
All-take P (suc n) [] all = tt
All-take P (suc n) (h ∷ hs) all = (all.0, All-take P n hs all.1)

All-drop : (P : History → Type 0) (n : ℕ) (hs : List History) → AllByRecursion P hs → AllByRecursion P (drop n hs)
All-drop P zero hs all = all
All-drop P (suc n) [] all = tt
All-drop P (suc n) (h ∷ hs) all = All-drop P n hs all.1

abbrev some_of : ℕ → ℕ → List History → List History
some_of after most hs = take most (drop after hs)

all_some : (P : History → Type 0) (after most : ℕ) (hs : List History) → AllByRecursion P hs → AllByRecursion P (some_of after most hs)
all_some P after most hs all = All-take P most (drop after hs) (All-drop P after hs all)

mapped-take : (f : History → History) (n : ℕ) (hs : List History) → take n (map f hs) ≡ map f (take n hs)
mapped-take f zero hs = refl
mapped-take f (suc n) [] = refl
mapped-take f (suc n) (h ∷ hs) = ap (λ (l : List History). f h ∷ l) (mapped-take f n hs)

mapped-drop : (f : History → History) (n : ℕ) (hs : List History) → drop n (map f hs) ≡ map f (drop n hs)
mapped-drop f zero hs = refl
mapped-drop f (suc n) [] = refl
mapped-drop f (suc n) (h ∷ hs) = mapped-drop f n hs

mapped : (f : History → History) (after most : ℕ) (hs : List History) → some_of after most (map f hs) ≡ map f (some_of after most hs)
mapped f after most hs = ap (λ (l : List History). take most l) (mapped-drop f after hs) ∙ mapped-take f most (drop after hs)

mapped-length : (f : History → History) (hs : List History) → length (map f hs) ≡ length hs
mapped-length f [] = refl
mapped-length f (h ∷ hs) = ap suc (mapped-length f hs)

pushed-length : (hs : List History) (h : History) → length (hs ++ h ∷ []) ≡ length hs + 1
pushed-length [] h = refl
pushed-length (g ∷ gs) h = let e = pushed-length gs h in omega (arith, e)

pushed-take : (n : ℕ) (hs : List History) (h : History) → n ≤ length hs → take n (hs ++ h ∷ []) ≡ take n hs
pushed-take zero hs h low = refl
pushed-take (suc n) [] h low = absurd (omega (arith, low))
pushed-take (suc n) (g ∷ gs) h low = ap (λ (l : List History). g ∷ l) (pushed-take n gs h (omega (arith, low)))

pushed : (after most : ℕ) (hs : List History) (h : History) → after + most ≤ length hs → some_of after most (hs ++ h ∷ []) ≡ some_of after most hs
pushed zero most hs h low = pushed-take most hs h (omega (arith, low))
pushed (suc after) most [] h low = absurd (omega (arith, low))
pushed (suc after) most (g ∷ gs) h low = pushed after most gs h (omega (arith, low))

-- ---- what each change keeps of some histories

abbrev IsBoth : Vault → History → Type 0
IsBoth v h = KeepsRules v h × IsAdmittedSo v h

both_on : (v w : Vault) (h : History) → KeepsCallers v w → v.last ≤ w.last → IsBoth v h → IsBoth w h
both_on v w h keep le is = (lawful-on v w h (keeps_each v w keep) le is.0, on v w h keep is.1)

abbrev AreBoth : ℕ → ℕ → Vault → Type 0
AreBoth after most v = (after + most ≤ length v.histories) × AllByRecursion (IsBoth v) (some_of after most v.histories)

kept : (v : Vault) (t : ℕ) (who : List ℕ) (c : Change) → Sound v → MayMake v t who c → KeepsCallers v (changed v t c)
kept v t who c sound may = Callers-changed v v t who c sound (keeps_itself v) may

stay : (v w : Vault) (hs : List History) → KeepsCallers v w → v.last ≤ w.last → AllByRecursion (IsBoth v) hs → AllByRecursion (IsBoth w) hs
stay v w hs keep le all = All-weaker (IsBoth v) (IsBoth w) (λ h is. both_on v w h keep le is) hs all

-- where each history is changed
each : (after most : ℕ) (v w : Vault) (f : History → History) → Sound v → ((h : History) → IsOwn v h → IsBoth v h → IsBoth w (f h)) → AreBoth after most v → (after + most ≤ length (map f v.histories)) × AllByRecursion (IsBoth w) (some_of after most (map f v.histories))
each after most v w f sound one are = (
  omega (arith, are.0, mapped-length f v.histories),
  subst (λ (hs : List History). AllByRecursion (IsBoth w) hs) (sym (mapped f after most v.histories))
      (All-map (IsOwn v) (IsBoth v) (IsBoth w) f one (some_of after most v.histories) (all_some (IsOwn v) after most v.histories (own v sound)) are.1),
)

both-changed : (after most : ℕ) (v : Vault) (t : ℕ) (who : List ℕ) (c : Change) → Sound v → AreBoth after most v → MayMake v t who c → AreBoth after most (changed v t c)
both-changed after most v t who (AddDept name) sound are may = (are.0, stay v (changed v t (AddDept name)) (some_of after most v.histories) (kept v t who (AddDept name) sound may) may.in_time are.1)
both-changed after most v t who (AddCaller c) sound are may = (are.0, stay v (changed v t (AddCaller c)) (some_of after most v.histories) (kept v t who (AddCaller c) sound may) may.in_time are.1)
both-changed after most v t who (CloseCaller name) sound are may = (are.0, stay v (changed v t (CloseCaller name)) (some_of after most v.histories) (kept v t who (CloseCaller name) sound may) may.in_time are.1)
both-changed after most v t who (AddBucket name dept) sound are may = (are.0, stay v (changed v t (AddBucket name dept)) (some_of after most v.histories) (kept v t who (AddBucket name dept) sound may) may.in_time are.1)
both-changed after most v t who (MoveBucket name dept) sound are may =
    let w = changed v t (MoveBucket name dept) in
    let keep = kept v t who (MoveBucket name dept) sound may in
    each after most v w (tenured_if name (next_tenure v t dept)) sound
    (λ h o is. (moved_one v w name (next_tenure v t dept) h (keeps_each v w keep) may.in_time is.0, on v w (tenured_if name (next_tenure v t dept) h) keep (one_moved v name (next_tenure v t dept) h is.1))) are
both-changed after most v t who (SetDefault name default) sound are may = (are.0, stay v (changed v t (SetDefault name default)) (some_of after most v.histories) (kept v t who (SetDefault name default) sound may) may.in_time are.1)
both-changed after most v t who (SetRules name rules) sound are may = (are.0, stay v (changed v t (SetRules name rules)) (some_of after most v.histories) (kept v t who (SetRules name rules) sound may) may.in_time are.1)
both-changed after most v t who (Admit a) sound are may =
    let w = changed v t (Admit a) in (
      omega (arith, are.0, pushed-length v.histories a.history),
      subst (λ (hs : List History). AllByRecursion (IsBoth w) hs) (sym (pushed after most v.histories a.history are.0))
          (stay v w (some_of after most v.histories) (kept v t who (Admit a) sound may) may.in_time are.1),
    )
both-changed after most v t who (AddSetting id s) sound are may =
    let w = changed v t (AddSetting id s) in
    let keep = kept v t who (AddSetting id s) sound may in
    each after most v w (with_setting id s) sound
    (λ h o is. (setting_added v w t id who s h (keeps_each v w keep) may.in_time refl may.allowed may.permitted.0 may.permitted.1 may.entitled o.0 o.1 is.0, on v w (with_setting id s h) keep (one_set v id s h is.1))) are
both-changed after most v t who (Remove id r) sound are may =
    let w = changed v t (Remove id r) in
    let keep = kept v t who (Remove id r) sound may in
    each after most v w (removed_if id r) sound
    (λ h o is. (removed_one v w t id r h (keeps_each v w keep) may.in_time refl may.allowed.now may.allowed.held may.permitted.1 may.entitled o.0 is.0, on v w (removed_if id r h) keep (one_removed v id r h is.1))) are

-- ---- what is lawful

are_set : (v : Vault) (admitted : ℕ) (by : Author) (ss : List Setting) → AreLawful v admitted by ss → AreSet v admitted by ss
are_set v admitted by [] all = tt
are_set v admitted by (s ∷ ss) all = (record { now = all.0.now; free = all.0.free; first_by = all.0.first_by }, all.1)

has_end : (v : Vault) (h : History) (marker : Bool) (ss : List Setting) → IsWholeAs marker v.external h.entry h.content ss → AreLawful v h.entry.admitted h.entry.by ss → HasEnd marker h.entry.admitted ss
has_end v h true ss whole all = tt
has_end v h false [] whole all = absurd (omega (arith, whole.2))
has_end v h false (s ∷ ss) whole all = all.0.later

both_of : (v : Vault) (h : History) → IsWhole v.external h → IsLawful v h → IsBoth v h
both_of v h whole is = (
  record { admitter = is.admitter; settings = are_set v h.entry.admitted h.entry.by h.settings is.settings; end = is.end },
  record { end = has_end v h h.entry.marker h.settings whole is.settings; department = is.department },
)

pub run-lawful : (v w : Vault) (cs : List Timed) (rs : List Reply) (after most : ℕ) → Sound v → IsRun v cs rs w → after + most ≤ length v.histories → AllByRecursion (IsLawful v) (range v after most) → AllByRecursion (IsLawful w) (range w after most)
run-lawful v w cs rs after most sound run low all =
    let both = All-both (IsWhole v.external) (IsLawful v) (IsBoth v) (λ h whole is. both_of v h whole is) (range v after most) (all_some (IsWhole v.external) after most v.histories sound.whole) all in
    let later = IsRun-keeps (AreBoth after most) (both-changed after most) v w cs rs run (sound, (low, both)) in
    All-both (IsWhole w.external) (IsBoth w) (IsLawful w) (λ h whole is. lawful_one w h (whole, is.1) is.0) (range w after most) (all_some (IsWhole w.external) after most w.histories later.0.whole) later.1.1
