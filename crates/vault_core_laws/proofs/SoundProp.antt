-- That a vault is sound, and that a row is a department's, can be shown in one way only.
use Rattle.std.proofs.Common.{◌≡◌, ℕ, ◌+◌, ◌≤◌, Bool, true, false, List, [], ◌∷◌, length, sum_by, Ordering, Option, Some, None, refl, sym, ap, ◌∙◌}
use Rattle.std.specs.List.{AllByRecursion, AllByRecursion-prop}
use Rattle.std.specs.Coded.{Coded-set, coded_ℕ, coded_list, coded_option, coded_bool, ×_prop, Π_prop, Unit-prop, le_prop}
use Rattle.std.specs.Ordering.{Ordering-set}
use Rattle.std.specs.Prelude.{IsSome, IsTrue}
use mathlib.Core.HLevel.{⊥_prop}
use Rattle.vault_base.specs.Limits.{most_ids, most_moves}
use Rattle.vault_base.specs.declared.content.Content.{Content}
use Rattle.vault_base.specs.contracts.content.Content as contents
use Rattle.vault_tally.specs.Row.{Item, IsRowOf, admitted_size, received_size, held_size, removed_size, handed_size, weight, closed_byte_days, quota}
use Rattle.vault_tally.specs.declared.row.Row.{Row}
use Rattle.vault_core_model.specs.declared.records.Entry.{Entry}
use Rattle.vault_core_model.specs.declared.records.History.{History}
use Rattle.vault_core_model.specs.declared.records.Note.{Note}
use Rattle.vault_core_model.specs.declared.records.Removal.{Removal}
use Rattle.vault_core_model.specs.declared.records.Setting.{Setting}
use Rattle.vault_core_model.specs.declared.records.Tenure.{Tenure}
use Rattle.vault_core_model.specs.contracts.records.Setting as setting
use Rattle.vault_core_model.specs.contracts.records.Tenure as tenure
use Rattle.vault_core_model.specs.Order.{IsAscending, name_cmp, caller_cmp, bucket_cmp, note_cmp}
use Rattle.vault_core_model.specs.Reads.{entry_of}
use Rattle.vault_core_model.specs.Sound.{HasPlace, Sound, AreIdsFrom, AreInOrder, LiesBetween, IsInTime, HasItsContent, IsWholeAs, IsWhole, IsPlaced, FollowOn, AreTenures, IsWithBucket, HasTenuresAs, HasTenures, end_of, IsNoted, NamesItsVersion, HasLine, IsEmployed, IsOwned, HasPeriod, HasRuleSet, IsInNameOrder}
use Rattle.vault_core_model.specs.Totals.{admitted_bytes, received_bytes}
use Rattle.vault_core_model.specs.Vault.{Vault, has_department}

number_eq : (a b : ℕ) → IsProp (a ≡ b)
number_eq a b = Coded-set coded_ℕ a b

bool_eq : (a b : Bool) → IsProp (a ≡ b)
bool_eq a b = Coded-set coded_bool a b

text_eq : (a b : List ℕ) → IsProp (a ≡ b)
text_eq a b = Coded-set (coded_list coded_ℕ) a b

digest_eq : (a b : Option (List ℕ)) → IsProp (a ≡ b)
digest_eq a b = Coded-set (coded_option (coded_list coded_ℕ)) a b

some_prop : {A : Type 0} (o : Option A) → IsProp (IsSome o)
some_prop None = bool_eq _ _
some_prop (Some x) = bool_eq _ _

ids_prop : (n : ℕ) (hs : List History) → IsProp (AreIdsFrom n hs)
ids_prop n [] = Unit-prop
ids_prop n (h ∷ hs) = ×_prop (number_eq h.entry.id n) (ids_prop (n + 1) hs)

order_prop : (from last : ℕ) (hs : List History) → IsProp (AreInOrder from last hs)
order_prop from last [] = le_prop
order_prop from last (h ∷ hs) = ×_prop le_prop (order_prop h.entry.admitted last hs)

between_prop : (admitted last : ℕ) (r : Option Removal) → IsProp (LiesBetween admitted last r)
between_prop admitted last None = Unit-prop
between_prop admitted last (Some r) = ×_prop le_prop le_prop

content_prop : (r : Option Removal) (content : Option Content) (e : Entry) → IsProp (HasItsContent r content e)
content_prop None None e = ⊥_prop
content_prop None (Some content) e = ×_prop (number_eq _ _) (digest_eq _ _)
content_prop (Some r) None e = some_prop e.digest
content_prop (Some r) (Some content) e = ⊥_prop

place_prop : (external : Bool) (content : Option Content) → IsProp (HasPlace external content)
place_prop external None = Unit-prop
place_prop external (Some content) = bool_eq _ _

settings_prop : (ss : List Setting) → IsProp (ss ≡ [])
settings_prop ss = Coded-set (coded_list setting.the_row.coded) ss []

-- three, four and five facts, each of which can be shown in one way only
three_prop : {A B C : Type 0} → IsProp A → IsProp B → IsProp C → IsProp (A × B × C)
three_prop {A} {B} {C} a b c x y =
    let all : IsProp (A × (B × C)) = ×_prop a (×_prop b c) in
    ap (λ (p : A × (B × C)). (p.0, p.1.0, p.1.1)) (all (x.0, (x.1, x.2)) (y.0, (y.1, y.2)))

four_prop : {A B C D : Type 0} → IsProp A → IsProp B → IsProp C → IsProp D → IsProp (A × B × C × D)
four_prop {A} {B} {C} {D} a b c d x y =
    let all : IsProp (A × (B × (C × D))) = ×_prop a (×_prop b (×_prop c d)) in
    ap (λ (p : A × (B × (C × D))). (p.0, p.1.0, p.1.1.0, p.1.1.1)) (all (x.0, (x.1, (x.2, x.3))) (y.0, (y.1, (y.2, y.3))))

five_prop : {A B C D E : Type 0} → IsProp A → IsProp B → IsProp C → IsProp D → IsProp E → IsProp (A × B × C × D × E)
five_prop {A} {B} {C} {D} {E} a b c d e x y =
    let all : IsProp (A × (B × (C × (D × E)))) = ×_prop a (×_prop b (×_prop c (×_prop d e))) in
    ap (λ (p : A × (B × (C × (D × E)))). (p.0, p.1.0, p.1.1.0, p.1.1.1.0, p.1.1.1.1)) (all (x.0, (x.1, (x.2, (x.3, x.4)))) (y.0, (y.1, (y.2, (y.3, y.4)))))

whole_prop : (marker external : Bool) (e : Entry) (content : Option Content) (ss : List Setting) → IsProp (IsWholeAs marker external e content ss)
whole_prop false external e content ss = four_prop (×_prop le_prop (place_prop external content)) (content_prop e.removal content e) le_prop le_prop
whole_prop true external e content ss =
    four_prop (number_eq _ _) (digest_eq _ _) (Coded-set (coded_option contents.the_row.coded) content None) (settings_prop ss)

follow_prop : (moves end : ℕ) (t : Tenure) (ts : List Tenure) → IsProp (FollowOn moves end t ts)
follow_prop moves end t [] = le_prop
follow_prop moves end t (u ∷ us) = five_prop le_prop le_prop le_prop (bool_eq _ _) (follow_prop moves end u us)

tenures_prop : (v : Vault) (e : Entry) (ts : List Tenure) → IsProp (AreTenures v e ts)
tenures_prop v e [] = ⊥_prop
tenures_prop v e (t ∷ ts) = three_prop (number_eq _ _) (number_eq _ _) (follow_prop v.moves (end_of v.last e.removal) t ts)

with_bucket_prop : (v : Vault) (r : Option Removal) (h : History) → IsProp (IsWithBucket v r h)
with_bucket_prop v None h = Coded-set (coded_option (coded_list coded_ℕ)) _ _
with_bucket_prop v (Some r) h = Unit-prop

tenured_prop : (v : Vault) (marker : Bool) (h : History) → IsProp (HasTenuresAs marker v h)
tenured_prop v true h = Coded-set (coded_list tenure.the_row.coded) h.tenures []
tenured_prop v false h =
    three_prop (tenures_prop v h.entry h.tenures) (AllByRecursion-prop (λ (t : Tenure). IsTrue (has_department v t.dept)) (λ t. bool_eq _ _) h.tenures) (with_bucket_prop v h.entry.removal h)

noted_prop : (n : Note) (o : Option Entry) → IsProp (IsNoted n o)
noted_prop n None = ⊥_prop
noted_prop n (Some e) = four_prop (text_eq _ _) (text_eq _ _) (number_eq _ _) (digest_eq _ _)

ascending_prop : {A : Type 0} (cmp : A → A → Ordering) (xs : List A) → IsProp (IsAscending cmp xs)
ascending_prop cmp [] = Unit-prop
ascending_prop cmp (x ∷ xs) = ×_prop (AllByRecursion-prop _ (λ y. Ordering-set _ _) xs) (ascending_prop cmp xs)

module _ (v : Vault) where
  abbrev Names : Type 0
  Names = IsAscending name_cmp v.departments × (IsAscending caller_cmp v.callers × (IsAscending bucket_cmp v.buckets × IsAscending note_cmp v.notes))

  names_parts : IsInNameOrder v → Names
  names_parts is = (is.departments, (is.callers, (is.buckets, is.notes)))

  names_of : Names → IsInNameOrder v
  names_of is = record { departments = is.0; callers = is.1.0; buckets = is.1.1.0; notes = is.1.1.1 }

  names_back : (x : IsInNameOrder v) → names_of (names_parts x) ≡ x
  unfolding names_of names_parts
  names_back x = refl

  in_order_prop : IsProp (IsInNameOrder v)
  in_order_prop x y =
      let parts : IsProp Names = ×_prop (ascending_prop name_cmp v.departments) (×_prop (ascending_prop caller_cmp v.callers) (×_prop (ascending_prop bucket_cmp v.buckets) (ascending_prop note_cmp v.notes))) in
      sym (names_back x) ∙ ap names_of (parts (names_parts x) (names_parts y)) ∙ names_back y

  abbrev Parts : Type 0
  Parts =
      AreIdsFrom 1 v.histories × ((length v.histories ≤ most_ids) × (AreInOrder 0 v.last v.histories × (AllByRecursion (IsInTime v.last) v.histories
      × (AllByRecursion (IsWhole v.external) v.histories × (AllByRecursion (IsPlaced v) v.histories × (((dept : List ℕ) → admitted_bytes v dept + received_bytes v dept ≤ quota)
      × (AllByRecursion (HasTenures v) v.histories × ((v.moves ≤ most_moves) × (IsInNameOrder v
      × (AllByRecursion (IsEmployed v) v.callers × (AllByRecursion (IsOwned v) v.buckets × (AllByRecursion HasPeriod v.buckets × (AllByRecursion HasRuleSet v.buckets
      × (AllByRecursion HasLine v.notes × AllByRecursion (NamesItsVersion v) v.notes))))))))))))))

  sound_parts : Sound v → Parts
  sound_parts is =
      (is.ids, (is.enough_ids, (is.order, (is.in_time, (is.whole, (is.placed, (is.within, (is.tenured, (is.enough_moves, (is.ordered, (is.employed, (is.owned, (is.periods, (is.rule_sets, (is.lines, is.notes)))))))))))))))

  sound_of : Parts → Sound v
  sound_of is = record {
    ids = is.0;
    enough_ids = is.1.0;
    order = is.1.1.0;
    in_time = is.1.1.1.0;
    whole = is.1.1.1.1.0;
    placed = is.1.1.1.1.1.0;
    within = is.1.1.1.1.1.1.0;
    tenured = is.1.1.1.1.1.1.1.0;
    enough_moves = is.1.1.1.1.1.1.1.1.0;
    ordered = is.1.1.1.1.1.1.1.1.1.0;
    employed = is.1.1.1.1.1.1.1.1.1.1.0;
    owned = is.1.1.1.1.1.1.1.1.1.1.1.0;
    periods = is.1.1.1.1.1.1.1.1.1.1.1.1.0;
    rule_sets = is.1.1.1.1.1.1.1.1.1.1.1.1.1.0;
    lines = is.1.1.1.1.1.1.1.1.1.1.1.1.1.1.0;
    notes = is.1.1.1.1.1.1.1.1.1.1.1.1.1.1.1;
  }

  sound_back : (x : Sound v) → sound_of (sound_parts x) ≡ x
  unfolding sound_of sound_parts
  sound_back x = refl

  parts_prop : IsProp Parts
  parts_prop =
      ×_prop (ids_prop 1 v.histories) (×_prop le_prop (×_prop (order_prop 0 v.last v.histories)
      (×_prop (AllByRecursion-prop (IsInTime v.last) (λ h. between_prop h.entry.admitted v.last h.entry.removal) v.histories)
      (×_prop (AllByRecursion-prop (IsWhole v.external) (λ h. whole_prop h.entry.marker v.external h.entry h.content h.settings) v.histories)
      (×_prop (AllByRecursion-prop (IsPlaced v) (λ h. some_prop _) v.histories)
      (×_prop (Π_prop (λ dept. le_prop)) (×_prop (AllByRecursion-prop (HasTenures v) (λ h. tenured_prop v h.entry.marker h) v.histories) (×_prop le_prop (×_prop in_order_prop
      (×_prop (AllByRecursion-prop (IsEmployed v) (λ c. bool_eq _ _) v.callers) (×_prop (AllByRecursion-prop (IsOwned v) (λ b. bool_eq _ _) v.buckets)
      (×_prop (AllByRecursion-prop HasPeriod (λ b. bool_eq _ _) v.buckets) (×_prop (AllByRecursion-prop HasRuleSet (λ b. bool_eq _ _) v.buckets)
      (×_prop (AllByRecursion-prop HasLine (λ n. bool_eq _ _) v.notes) (AllByRecursion-prop (NamesItsVersion v) (λ n. noted_prop n (entry_of v n.id)) v.notes)))))))))))))))

  pub Sound-prop : IsProp (Sound v)
  Sound-prop x y = sym (sound_back x) ∙ ap sound_of (parts_prop (sound_parts x) (sound_parts y)) ∙ sound_back y

module _ (row : Row) (items : List Item) where
  abbrev Sums : Type 0
  Sums =
      (row.admitted ≡ sum_by admitted_size items) × ((row.received ≡ sum_by received_size items) × ((row.held ≡ sum_by held_size items) × ((row.removed ≡ sum_by removed_size items)
      × ((row.handed ≡ sum_by handed_size items) × ((row.weighted ≡ sum_by weight items) × (row.closed ≡ sum_by closed_byte_days items))))))

  sums_parts : IsRowOf row items → Sums
  sums_parts is = (is.admitted, (is.received, (is.held, (is.removed, (is.handed, (is.weighted, is.closed))))))

  sums_of : Sums → IsRowOf row items
  sums_of is = record {
    admitted = is.0;
    received = is.1.0;
    held = is.1.1.0;
    removed = is.1.1.1.0;
    handed = is.1.1.1.1.0;
    weighted = is.1.1.1.1.1.0;
    closed = is.1.1.1.1.1.1;
  }

  sums_back : (x : IsRowOf row items) → sums_of (sums_parts x) ≡ x
  unfolding sums_of sums_parts
  sums_back x = refl

  pub IsRowOf-prop : IsProp (IsRowOf row items)
  IsRowOf-prop x y =
      let parts : IsProp Sums = ×_prop (number_eq _ _) (×_prop (number_eq _ _) (×_prop (number_eq _ _) (×_prop (number_eq _ _) (×_prop (number_eq _ _) (×_prop (number_eq _ _) (number_eq _ _)))))) in
      sym (sums_back x) ∙ ap sums_of (parts (sums_parts x) (sums_parts y)) ∙ sums_back y
