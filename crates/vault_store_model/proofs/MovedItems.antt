-- What a bucket's held versions count for departments, before its move and after.
use Rattle.std.proofs.Common.{◌≡◌, ℕ, ◌+◌, List, [], ◌∷◌, ◌++◌, map, Bool, true, false, true≢false, Option, Some, None, refl, sym, ap, subst, ◌∙◌, arith}
use Rattle.std.specs.Prelude.{filter, flat_map, sum_by, sum, not, ◌&&◌, if◌then◌else◌, option_map, is_none}
use Rattle.std.specs.List.{AllByRecursion}
use Rattle.std.specs.Str.{bytes_eq}
use Rattle.std.proofs.lemmas.Slice.Eq.{bytes_eq-Decides}
use Rattle.std.proofs.lemmas.List.{map-append}
use Rattle.std.proofs.lemmas.List.Sums.{sum_by-cons, sum_by-append}
use Rattle.vault_base.specs.Days.{day}
use Rattle.vault_tally.specs.Row.{Item, held_item, handed_item, received_items}
use Rattle.vault_tally.proofs.SumsAlone.{one_unless, fails}
use Rattle.vault_core_model.specs.declared.records.BucketConfig.{BucketConfig}
use Rattle.vault_core_model.specs.declared.records.History.{History}
use Rattle.vault_core_model.specs.declared.records.Removal.{Removal}
use Rattle.vault_core_model.specs.declared.records.Tenure.{Tenure}
use Rattle.vault_core_model.specs.Allowed.{IsMove}
use Rattle.vault_core_model.specs.Change.{tenured_if, tenured_by}
use Rattle.vault_core_model.specs.Places.{is_held_version_in}
use Rattle.vault_core_model.specs.Vault.{Vault, config_of}
use Rattle.vault_core_model.specs.Sound.{AreTenures, HasTenures, HasTenuresAs, IsWithBucket, last_tenure}
use Rattle.vault_core_model.specs.Totals.{items_by, items_in, shares_from, shares_of}
use Rattle.vault_store_model.proofs.MovedShares.{front, last_item, last_dept, where_own, sum_before, sum_after, last_is, last_held}

-- what is said of a version that moves: it is held, and has tenures, the last of which is the owner's
pub record Moves (owner : List ℕ) (h : History) : Type 0 where
  pub held : h.entry.removal ≡ None
  pub one : Tenure
  pub more : List Tenure
  pub are : h.tenures ≡ one ∷ more
  pub own : last_dept one more ≡ owner

abbrev pub MovesIf : Bool → List ℕ → History → Type 0
MovesIf true owner h = Moves owner h
MovesIf false owner h = Unit {0}

module _ (v : Vault) (name dept : List ℕ) (move : IsMove v name dept) where
  held_is : (r : Option Removal) → is_none r ≡ true → r ≡ None
  held_is None h = refl
  held_is (Some r) h = absurd (true≢false (sym h))

  by_tenures : (h : History) (ts : List Tenure) → h.tenures ≡ ts → h.entry.removal ≡ None → bytes_eq h.entry.bucket name ≡ true → HasTenuresAs false v h → Moves move.bucket.dept h
  by_tenures h [] is held here has = absurd (subst (λ ts. AreTenures v h.entry ts) is has.0)
  by_tenures h (t ∷ ts) is held here has =
      let place : h.entry.bucket ≡ name = (bytes_eq-Decides h.entry.bucket name).0 here in
      let with : option_map (λ (y : Tenure). y.dept) (last_tenure h.tenures) ≡ option_map (λ (c : BucketConfig). c.dept) (config_of v h.entry.bucket) = subst (λ r. IsWithBucket v r h) held has.2 in
      let own : Some (last_dept t ts) ≡ Some move.bucket.dept =
      sym (last_is t ts) ∙ ap (λ xs. option_map (λ (y : Tenure). y.dept) (last_tenure xs)) (sym is) ∙ with
      ∙ ap (λ n. option_map (λ (c : BucketConfig). c.dept) (config_of v n)) place ∙ ap (option_map (λ (c : BucketConfig). c.dept)) move.there in
      record { held = held; one = t; more = ts; are = is; own = cc own }

  by_test : (h : History) (m b n : Bool) → bytes_eq h.entry.bucket name ≡ b → is_none h.entry.removal ≡ n → HasTenuresAs m v h → MovesIf (not m && (b && n)) move.bucket.dept h
  by_test h true b n place held has = tt
  by_test h false false n place held has = tt
  by_test h false true false place held has = tt
  by_test h false true true place held has = by_tenures h h.tenures refl (held_is h.entry.removal held) place has

  pub all_move : (hs : List History) → AllByRecursion (HasTenures v) hs → AllByRecursion (λ h. MovesIf (is_held_version_in name h.entry) move.bucket.dept h) hs
  all_move [] all = tt
  all_move (h ∷ hs) all = (by_test h h.entry.marker (bytes_eq h.entry.bucket name) (is_none h.entry.removal) refl refl all.0, all_move hs all.1)

-- the owner's items of a version that stay as they are, and the one that goes
abbrev pub kept_of : Bool → List ℕ → History → List Item
kept_of true d h = items_by d (front h.entry.size true h.tenures)
kept_of false d h = items_by d (shares_of h)

abbrev pub going_of : Bool → History → List Item
going_of true h = last_item h.entry.size true h.tenures ∷ []
going_of false h = []

abbrev pub kept : List ℕ → List ℕ → List History → List Item
kept name d hs = flat_map (λ h. kept_of (is_held_version_in name h.entry) d h) hs

abbrev pub going : List ℕ → List History → List Item
going name hs = flat_map (λ h. going_of (is_held_version_in name h.entry) h) hs

abbrev pub size_of_moved : Bool → History → List ℕ
size_of_moved true h = h.entry.size ∷ []
size_of_moved false h = []

-- the sizes of the versions that move
abbrev pub sizes : List ℕ → List History → List ℕ
sizes name hs = flat_map (λ h. size_of_moved (is_held_version_in name h.entry) h) hs

-- ---- the sums of a number over the items of a department

own_counts : (own d : List ℕ) (n : ℕ) → own ≡ d → where_own own d n ≡ n
own_counts own d n is = ap (λ (b : Bool). if b then n else 0) ((bytes_eq-Decides own d).1 is)

other_counts : (own d : List ℕ) (n : ℕ) → bytes_eq own d ≡ false → where_own own d n ≡ 0
other_counts own d n is = ap (λ (b : Bool). if b then n else 0) is

module _ (f : Item → ℕ) (name owner : List ℕ) where
  -- of the owner, before the move
  one_before : (h : History) (b : Bool) → MovesIf b owner h → sum_by f (items_by owner (shares_of h)) ≡ sum_by f (kept_of b owner h) + sum_by f (going_of b h)
  one_before h false m = omega arith
  one_before h true m =
      let P : Option Removal → List Tenure → Type 0 = λ r ts. sum_by f (items_by owner (shares_from h.entry.size r true ts)) ≡ sum_by f (items_by owner (front h.entry.size true ts)) + sum_by f (last_item h.entry.size true ts ∷ []) in
      let there : P None (m.one ∷ m.more) = omega (arith, sum_before f owner h.entry.size true m.one m.more, own_counts (last_dept m.one m.more) owner (f (last_item h.entry.size true (m.one ∷ m.more))) m.own, sum_by-cons f (last_item h.entry.size true (m.one ∷ m.more)) []) in
      subst (λ ts. P h.entry.removal ts) (sym m.are) (subst (λ r. P r (m.one ∷ m.more)) (sym m.held) there)

  pub before : (hs : List History) → AllByRecursion (λ h. MovesIf (is_held_version_in name h.entry) owner h) hs → sum_by f (items_in owner hs) ≡ sum_by f (kept name owner hs ++ going name hs)
  before [] all = refl
  before (h ∷ hs) all =
      let b = is_held_version_in name h.entry in
      omega (
        arith,
        sum_by-append f (items_by owner (shares_of h)) (items_in owner hs),
        sum_by-append f (kept name owner (h ∷ hs)) (going name (h ∷ hs)),
        sum_by-append f (kept_of b owner h) (kept name owner hs),
        sum_by-append f (going_of b h) (going name hs),
        sum_by-append f (kept name owner hs) (going name hs),
        one_before h b all.0,
        before hs all.1,
      )

  -- and after it
  module _ (x : Tenure) (other : bytes_eq x.dept owner ≡ false) where
    one_after : (h : History) (b : Bool) → MovesIf b owner h → sum_by f (items_by owner (shares_of (if b then tenured_by x h else h))) ≡ sum_by f (kept_of b owner h) + sum_by f (map (handed_item (day x.from)) (going_of b h))
    one_after h false m = omega arith
    one_after h true m =
        let P : Option Removal → List Tenure → Type 0 = λ r ts. sum_by f (items_by owner (shares_from h.entry.size r true (ts ++ x ∷ []))) ≡ sum_by f (items_by owner (front h.entry.size true ts)) + sum_by f (handed_item (day x.from) (last_item h.entry.size true ts) ∷ []) in
        let there : P None (m.one ∷ m.more) = omega (
          arith,
          sum_after f owner h.entry.size true m.one m.more x,
          own_counts (last_dept m.one m.more) owner (f (handed_item (day x.from) (last_item h.entry.size true (m.one ∷ m.more)))) m.own,
          other_counts x.dept owner (f (held_item false h.entry.size (day x.from))) other,
          sum_by-cons f (handed_item (day x.from) (last_item h.entry.size true (m.one ∷ m.more))) [],
        ) in
        subst (λ ts. P h.entry.removal ts) (sym m.are) (subst (λ r. P r (m.one ∷ m.more)) (sym m.held) there)

    pub after : (hs : List History) → AllByRecursion (λ h. MovesIf (is_held_version_in name h.entry) owner h) hs → sum_by f (items_in owner (map (tenured_if name x) hs)) ≡ sum_by f (kept name owner hs ++ map (handed_item (day x.from)) (going name hs))
    after [] all = refl
    after (h ∷ hs) all =
        let b = is_held_version_in name h.entry in
        let hand = map (handed_item (day x.from)) in
        omega (
          arith,
          sum_by-append f (items_by owner (shares_of (tenured_if name x h))) (items_in owner (map (tenured_if name x) hs)),
          sum_by-append f (kept name owner (h ∷ hs)) (hand (going name (h ∷ hs))),
          sum_by-append f (kept_of b owner h) (kept name owner hs),
          ap (sum_by f) (map-append (handed_item (day x.from)) (going_of b h) (going name hs)) ∙ sum_by-append f (hand (going_of b h)) (hand (going name hs)),
          sum_by-append f (kept name owner hs) (hand (going name hs)),
          one_after h b all.0,
          after hs all.1,
        )

  -- of another department than the owner
  module _ (x : Tenure) (d : List ℕ) (apart : bytes_eq owner d ≡ false) where
    one_other : (h : History) (b : Bool) → MovesIf b owner h → sum_by f (items_by d (shares_of (if b then tenured_by x h else h))) ≡ sum_by f (items_by d (shares_of h)) + (if b then where_own x.dept d (f (held_item false h.entry.size (day x.from))) else 0)
    one_other h false m = omega arith
    one_other h true m =
        let P : Option Removal → List Tenure → Type 0 = λ r ts. sum_by f (items_by d (shares_from h.entry.size r true (ts ++ x ∷ []))) ≡ sum_by f (items_by d (shares_from h.entry.size r true ts)) + where_own x.dept d (f (held_item false h.entry.size (day x.from))) in
        let not_own : bytes_eq (last_dept m.one m.more) d ≡ false = ap (λ o. bytes_eq o d) m.own ∙ apart in
        let there : P None (m.one ∷ m.more) = omega (
          arith,
          sum_before f d h.entry.size true m.one m.more,
          sum_after f d h.entry.size true m.one m.more x,
          other_counts (last_dept m.one m.more) d (f (handed_item (day x.from) (last_item h.entry.size true (m.one ∷ m.more)))) not_own,
          other_counts (last_dept m.one m.more) d (f (last_item h.entry.size true (m.one ∷ m.more))) not_own,
        ) in
        subst (λ ts. P h.entry.removal ts) (sym m.are) (subst (λ r. P r (m.one ∷ m.more)) (sym m.held) there)

    -- what is received is put after them
    pub received : (hs : List History) → AllByRecursion (λ h. MovesIf (is_held_version_in name h.entry) owner h) hs → bytes_eq x.dept d ≡ true
        → sum_by f (items_in d (map (tenured_if name x) hs)) ≡ sum_by f (items_in d hs ++ received_items (day x.from) (sizes name hs))
    received [] all own = refl
    received (h ∷ hs) all own =
        let b = is_held_version_in name h.entry in
        let come = received_items (day x.from) in
        omega (
          arith,
          sum_by-append f (items_by d (shares_of (tenured_if name x h))) (items_in d (map (tenured_if name x) hs)),
          sum_by-append f (items_in d (h ∷ hs)) (come (sizes name (h ∷ hs))),
          sum_by-append f (items_by d (shares_of h)) (items_in d hs),
          ap (sum_by f) (map-append (λ (size : ℕ). held_item false size (day x.from)) (size_of_moved b h) (sizes name hs)) ∙ sum_by-append f (come (size_of_moved b h)) (come (sizes name hs)),
          sum_by-append f (items_in d hs) (come (sizes name hs)),
          one_other h b all.0,
          comes_one b h,
          received hs all.1 own,
        )
      where
        comes_one : (b : Bool) (g : History) → (if b then where_own x.dept d (f (held_item false g.entry.size (day x.from))) else 0) ≡ sum_by f (received_items (day x.from) (size_of_moved b g))
        comes_one true g =
            let e : where_own x.dept d (f (held_item false g.entry.size (day x.from))) ≡ f (held_item false g.entry.size (day x.from)) = ap (λ (c : Bool). if c then f (held_item false g.entry.size (day x.from)) else 0) own in
            omega (arith, e, sum_by-cons f (held_item false g.entry.size (day x.from)) [])
        comes_one false g = refl

    -- nothing comes to a third one
    pub untouched : (hs : List History) → AllByRecursion (λ h. MovesIf (is_held_version_in name h.entry) owner h) hs → bytes_eq x.dept d ≡ false → sum_by f (items_in d (map (tenured_if name x) hs)) ≡ sum_by f (items_in d hs)
    untouched [] all third = refl
    untouched (h ∷ hs) all third = omega (
      arith,
      sum_by-append f (items_by d (shares_of (tenured_if name x h))) (items_in d (map (tenured_if name x) hs)),
      sum_by-append f (items_by d (shares_of h)) (items_in d hs),
      one_other h (is_held_version_in name h.entry) all.0,
      nothing (is_held_version_in name h.entry) h,
      untouched hs all.1 third,
    )
      where
        nothing : (b : Bool) (g : History) → (if b then where_own x.dept d (f (held_item false g.entry.size (day x.from))) else 0) ≡ 0
        nothing true g = ap (λ (c : Bool). if c then f (held_item false g.entry.size (day x.from)) else 0) third
        nothing false g = refl

-- ---- what goes

-- each of the items that go is held
pub all_held : (name owner : List ℕ) (hs : List History) → AllByRecursion (λ h. MovesIf (is_held_version_in name h.entry) owner h) hs → sum_by (fails (λ i. is_none i.ended)) (going name hs) ≡ 0
all_held name owner [] all = refl
all_held name owner (h ∷ hs) all = omega (arith, sum_by-append (fails (λ i. is_none i.ended)) (going_of (is_held_version_in name h.entry) h) (going name hs), one (is_held_version_in name h.entry) all.0, all_held name owner hs all.1)
  where
    one : (b : Bool) → MovesIf b owner h → sum_by (fails (λ i. is_none i.ended)) (going_of b h) ≡ 0
    one false m = refl
    one true m =
        let P : List Tenure → Type 0 = λ ts. ◌≡◌ {A = ℕ} (one_unless (is_none (last_item h.entry.size true ts).ended)) 0 in
        let here : fails (λ i. is_none i.ended) (last_item h.entry.size true h.tenures) ≡ 0 = subst P (sym m.are) (ap one_unless (last_held h.entry.size true m.one m.more)) in
        omega (arith, here, sum_by-cons (fails (λ i. is_none i.ended)) (last_item h.entry.size true h.tenures) [])

-- a number of what goes is one of the bucket's held versions
pub counted_as : (f : Item → ℕ) (g : History → ℕ) (name owner : List ℕ) → ((h : History) → Moves owner h → f (last_item h.entry.size true h.tenures) ≡ g h)
    → (hs : List History) → AllByRecursion (λ h. MovesIf (is_held_version_in name h.entry) owner h) hs → sum_by f (going name hs) ≡ sum_by g (filter (λ h. is_held_version_in name h.entry) hs)
counted_as f g name owner same [] all = refl
counted_as f g name owner same (h ∷ hs) all =
    one (is_held_version_in name h.entry) all.0 (counted_as f g name owner same hs all.1)
  where
    one : (b : Bool) → MovesIf b owner h → sum_by f (going name hs) ≡ sum_by g (filter (λ h. is_held_version_in name h.entry) hs)
        → sum_by f (going_of b h ++ going name hs) ≡ sum_by g (if b then h ∷ filter (λ h. is_held_version_in name h.entry) hs else filter (λ h. is_held_version_in name h.entry) hs)
    one false m later = later
    one true m later = omega (arith, sum_by-cons f (last_item h.entry.size true h.tenures) (going name hs), sum_by-cons g h (filter (λ h. is_held_version_in name h.entry) hs), same h m, later)

-- so are the sizes
pub sum_sizes : (name : List ℕ) (hs : List History) → sum (sizes name hs) ≡ sum_by (λ h. h.entry.size) (filter (λ h. is_held_version_in name h.entry) hs)
sum_sizes name [] = refl
sum_sizes name (h ∷ hs) = one (is_held_version_in name h.entry) (sum_sizes name hs)
  where
    one : (b : Bool) → sum (sizes name hs) ≡ sum_by (λ h. h.entry.size) (filter (λ h. is_held_version_in name h.entry) hs)
        → sum (size_of_moved b h ++ sizes name hs) ≡ sum_by (λ h. h.entry.size) (if b then h ∷ filter (λ h. is_held_version_in name h.entry) hs else filter (λ h. is_held_version_in name h.entry) hs)
    one false later = later
    one true later = omega (arith, sum_by-cons (λ (n : ℕ). n) h.entry.size (sizes name hs), sum_by-cons (λ (g : History). g.entry.size) h (filter (λ g. is_held_version_in name g.entry) hs), later)
