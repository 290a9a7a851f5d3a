-- What is known once the checks of a command have passed.
use Rattle.std.proofs.Common.{◌≡◌, ℕ, ◌≤◌, List, Bool, true, false, Option, Some, None, Result, Ok, Err, refl, sym, subst}
use Rattle.std.specs.Prelude.{IfOk, IsSome, nat_le, not, is_some, if◌then◌else◌}
use Rattle.std.proofs.lemmas.Bool.{leb-true}
use Rattle.vault_base.specs.declared.refusal.Refusal.{Refusal}
use Rattle.vault_base.specs.declared.refusal.Refusal.TheVariants.{ClockBack, AccessDenied, NoSuchBucket}
use Rattle.vault_base.specs.declared.refusal.Reason.TheVariants as reason
use Rattle.vault_base.specs.declared.right.Right.{Right}
use Rattle.vault_base.specs.declared.right.Right.TheVariants as right
use Rattle.vault_core_model.specs.declared.access.Access.{Access}
use Rattle.vault_core_model.specs.declared.records.Caller.{Caller}
use Rattle.vault_core_model.specs.Vault.{Vault, caller_of, config_of}
use Rattle.vault_core_model.specs.Rights.{has}
use Rattle.vault_core_model.specs.Checks.{◌>>=◌, check, found, open_caller, in_time, asking, administrator, access, needs, needs_if, is_own}
use Rattle.vault_core_run_laws.specs.Entitled.{has_right, HasRight}

-- ---- one check after another

-- what the later checks say, they say of what the first one found
pub bind_if : {A B : Type 0} (r : Result A Refusal) (Q : A → Type 0) (f : A → Result B Refusal) (P : B → Type 0) → IfOk r Q → ((x : A) → Q x → IfOk (f x) P) → IfOk (r >>= f) P
bind_if (Ok x) Q f P q rest = rest x q
bind_if (Err e) Q f P q rest = tt

pub if_weaker : {A : Type 0} (r : Result A Refusal) (P Q : A → Type 0) → ((x : A) → P x → Q x) → IfOk r P → IfOk r Q
if_weaker (Ok x) P Q f p = f x p
if_weaker (Err e) P Q f p = tt

-- a check of which nothing is kept
pub any-is : {A : Type 0} (r : Result A Refusal) → IfOk r (λ x. Unit {0})
any-is (Ok x) = tt
any-is (Err e) = tt

pub check-is : (b : Bool) (r : Refusal) → IfOk (check b r) (λ u. b ≡ true)
check-is true r = refl
check-is false r = tt

pub found-is : {A : Type 0} (o : Option A) (r : Refusal) → IfOk (found o r) (λ x. o ≡ Some x)
found-is None r = tt
found-is (Some x) r = refl

pub not-true : (b : Bool) → not b ≡ true → b ≡ false
not-true true e = absurd (cc e)
not-true false e = refl

pub not_some : {A : Type 0} (o : Option A) → not (is_some o) ≡ true → o ≡ None
not_some None e = refl
not_some (Some x) e = absurd (cc e)

pub some_is : {A : Type 0} (o : Option A) (x : A) → o ≡ Some x → IsSome o
some_is {A} o x e = let P : Option A → Type 0 = λ p. IsSome p in subst P (sym e) refl

-- ---- the caller

-- a command of a caller that is in time
pub record IsAsking (v : Vault) (t : ℕ) (who : List ℕ) (c : Caller) : Type 0 where
  pub in_time : v.last ≤ t
  pub caller : caller_of v who ≡ Some c

open_if : (c : Caller) (b : Bool) → IfOk (if b then Err (AccessDenied reason.UnknownCaller) else Ok c) (λ (d : Caller). Some c ≡ Some d)
open_if c true = tt
open_if c false = refl

open_caller-is : (o : Option Caller) → IfOk (open_caller o) (λ c. o ≡ Some c)
open_caller-is None = tt
open_caller-is (Some c) = open_if c c.closed

pub asking-is : (v : Vault) (t : ℕ) (who : List ℕ) → IfOk (asking v t who) (IsAsking v t who)
asking-is v t who =
    bind_if (in_time v t) (λ u. nat_le v.last t ≡ true) _ _ (check-is (nat_le v.last t) ClockBack)
    (λ u early. if_weaker (open_caller (caller_of v who)) (λ c. caller_of v who ≡ Some c) (IsAsking v t who) (λ c there. record { in_time = leb-true v.last t early; caller = there }) (open_caller-is (caller_of v who)))

pub administrator-is : (v : Vault) (t : ℕ) (who : List ℕ) → IfOk (administrator v t who) (IsAsking v t who)
administrator-is v t who =
    bind_if (asking v t who) (IsAsking v t who) _ _ (asking-is v t who)
    (λ c asked. bind_if (needs c right.Admin) (λ u. Unit {0}) _ _ (any-is (needs c right.Admin)) (λ u passed. asked))

-- ---- the bucket

-- a caller at a bucket
pub record HasAccess (v : Vault) (t : ℕ) (who name : List ℕ) (a : Access) : Type 0 where
  pub in_time : v.last ≤ t
  pub caller : caller_of v who ≡ Some a.caller
  pub bucket : config_of v name ≡ Some a.bucket

pub has-right : (v : Vault) (who : List ℕ) (c : Caller) (r : Right) → caller_of v who ≡ Some c → has c.rights r ≡ true → HasRight v who r
has-right v who c r there may = let P : Option Caller → Type 0 = λ o. has_right r o ≡ true in subst P (sym there) may

-- who has access has the right
pub access-is : (v : Vault) (t : ℕ) (who bucket : List ℕ) (r : Right) → IfOk (access v t who bucket r) (λ a. HasAccess v t who bucket a × HasRight v who r)
access-is v t who bucket r =
    bind_if (asking v t who) (IsAsking v t who) _ _ (asking-is v t who)
    (λ c asked. bind_if (found (config_of v bucket) NoSuchBucket) (λ b. config_of v bucket ≡ Some b) _ _ (found-is (config_of v bucket) NoSuchBucket)
    (λ b there. bind_if (check (is_own c.dept b.dept) (AccessDenied reason.Department)) (λ u. Unit {0}) _ _ (any-is (check (is_own c.dept b.dept) (AccessDenied reason.Department)))
    (λ u own. bind_if (needs c r) (λ u. has c.rights r ≡ true) _ _ (check-is (has c.rights r) (AccessDenied (reason.Right r)))
    (λ w may. (record { in_time = asked.in_time; caller = asked.caller; bucket = there }, has-right v who c r asked.caller may)))))

-- the same, but for the right
pub access-only : (v : Vault) (t : ℕ) (who bucket : List ℕ) (r : Right) → IfOk (access v t who bucket r) (HasAccess v t who bucket)
access-only v t who bucket r = if_weaker (access v t who bucket r) (λ a. HasAccess v t who bucket a × HasRight v who r) (HasAccess v t who bucket) (λ a at. at.0) (access-is v t who bucket r)

pub needs_if-is : (b : Bool) (c : Caller) (r : Right) → IfOk (needs_if b c r) (λ u. b ≡ true → has c.rights r ≡ true)
needs_if-is true c r = if_weaker (needs c r) (λ u. has c.rights r ≡ true) (λ u. true ≡ true → has c.rights r ≡ true) (λ u may e. may) (check-is (has c.rights r) (AccessDenied (reason.Right r)))
needs_if-is false c r = λ e. absurd (cc e)
