-- The sums of the departments after a move are those that their rows come to.
use Rattle.std.proofs.Common.{◌≡◌, ℕ, ◌≤◌, ◌*◌, List, ◌++◌, map, true, false, Some, refl, sym, subst}
use Rattle.std.specs.Prelude.{sum_by, is_none}
use Rattle.std.specs.List.{AllByRecursion}
use Rattle.std.specs.Str.{bytes_eq}
use Rattle.std.proofs.lemmas.Slice.Eq.{bytes_eq-Decides}
use Rattle.vault_base.specs.Days.{day, last_moment}
use Rattle.vault_tally.specs.Row.{Item, IsRowOf, AreBounded, AreHeld, size_of, weight, handed_item, received_items}
use Rattle.vault_tally.specs.declared.row.Row.{Row as Sums}
use Rattle.vault_tally.proofs.SumsAlone.{row_same, bounded_same, all_pass}
use Rattle.vault_core_model.specs.declared.records.BucketConfig.{BucketConfig}
use Rattle.vault_core_model.specs.declared.records.Tenure.{Tenure}
use Rattle.vault_core_model.specs.declared.change.Change.TheVariants.{MoveBucket}
use Rattle.vault_core_model.specs.Allowed.{IsMove}
use Rattle.vault_core_model.specs.Change.{changed, next_tenure}
use Rattle.vault_core_model.specs.Places.{is_held_version_in}
use Rattle.vault_core_model.specs.Sound.{Sound}
use Rattle.vault_core_model.specs.Totals.{items_of, bucket_bytes, bucket_weight, last_day_from}
use Rattle.vault_core_model.specs.Vault.{Vault, config_of}
use Rattle.vault_core_laws.proofs.Bounds.{items-bounded}
use Rattle.vault_core_laws.proofs.Soundness.{Sound-changed}
use Rattle.vault_audit_model.specs.Spells.{department_in, sums_over}
use Rattle.vault_store_model.specs.Sums.{HandsOver, Receives}
use Rattle.vault_store_model.proofs.EntryLemmas.{texts_turned}
use Rattle.vault_store_model.proofs.MovedItems.{MovesIf, all_move, kept, going, sizes, before, after, received, untouched, all_held, counted_as, sum_sizes}
use Rattle.vault_store_model.proofs.MovedShares.{last_item, last_sized, last_weighs}
use Rattle.vault_store_model.proofs.SumLemmas.{row_is, same_config}

module _ (v : Vault) (t : ℕ) (name dept : List ℕ) (sound : Sound v) (move : IsMove v name dept) where
  abbrev after_move : Vault
  after_move = changed v t (MoveBucket name dept)

  abbrev owner : List ℕ
  owner = move.bucket.dept

  -- the bucket's held versions are the owner's
  moving : AllByRecursion (λ h. MovesIf (is_held_version_in name h.entry) owner h) v.histories
  moving = all_move v name dept move v.histories sound.tenured

  -- what goes is held, and comes to the bucket's bytes and weight
  going_held : AreHeld (bucket_bytes v name) (bucket_weight v name) (going name v.histories)
  going_held = record {
    held = all_pass (λ i. is_none i.ended) (going name v.histories) (all_held name owner v.histories moving);
    bytes = counted_as size_of (λ h. h.entry.size) name owner
        (λ h m. let P : List Tenure → Type 0 = λ ts. size_of (last_item h.entry.size true ts) ≡ h.entry.size in subst P (sym m.are) (last_sized h.entry.size true m.one m.more)) v.histories moving;
    weighed = counted_as weight (λ h. h.entry.size * last_day_from h.tenures) name owner
        (λ h m. let P : List Tenure → Type 0 = λ ts. weight (last_item h.entry.size true ts) ≡ h.entry.size * last_day_from ts in subst P (sym m.are) (last_weighs h.entry.size true m.one m.more)) v.histories moving;
  }

  -- the row of the department that hands over
  row_given : AreBounded (items_of after_move owner) → (row new : Sums) → IsRowOf row (items_of v owner) → HandsOver row (bucket_bytes v name) (bucket_weight v name) (day t) new → IsRowOf new (items_of after_move owner)
  row_given bounded row new is gives =
      let stays = kept name owner v.histories in
      let goes = going name v.histories in
      let ends = map (handed_item (day t)) goes in
      let end = items_of after_move owner in
      let was : (f : Item → ℕ) → sum_by f (items_of v owner) ≡ sum_by f (stays ++ goes) = λ f. before f name owner v.histories moving in
      let now : (f : Item → ℕ) → sum_by f end ≡ sum_by f (stays ++ ends) = λ f. after f name owner (next_tenure v t dept) (texts_turned owner dept false move.other) v.histories moving in
      row_same new (stays ++ ends) end (λ f. sym (now f)) (gives stays goes (row_same row (items_of v owner) (stays ++ goes) was is) going_held (bounded_same end (stays ++ ends) now bounded))

  -- and that of the one that receives
  row_got : AreBounded (items_of after_move dept) → (row new : Sums) → IsRowOf row (items_of v dept) → Receives row (bucket_bytes v name) (day t) new → IsRowOf new (items_of after_move dept)
  row_got bounded row new is takes =
      let come = received_items (day t) (sizes name v.histories) in
      let end = items_of after_move dept in
      let now : (f : Item → ℕ) → sum_by f end ≡ sum_by f (items_of v dept ++ come) = λ f. received f name owner (next_tenure v t dept) dept move.other v.histories moving ((bytes_eq-Decides dept dept).1 refl) in
      row_same new (items_of v dept ++ come) end (λ f. sym (now f)) (takes (items_of v dept) (sizes name v.histories) is (sum_sizes name v.histories) (bounded_same end (items_of v dept ++ come) now bounded))

  -- every other department keeps its sums
  pub sums_left : (d : List ℕ) → bytes_eq owner d ≡ false → bytes_eq dept d ≡ false → sums_over (items_of after_move d) ≡ sums_over (items_of v d)
  sums_left d not_owner not_new =
      let is : IsRowOf (sums_over (items_of after_move d)) (items_of after_move d) = record { admitted = refl; received = refl; held = refl; removed = refl; handed = refl; weighted = refl; closed = refl } in
      row_is (sums_over (items_of after_move d)) (items_of v d)
      (row_same (sums_over (items_of after_move d)) (items_of after_move d) (items_of v d) (λ f. untouched f name owner (next_tenure v t dept) d not_owner v.histories moving not_new) is)

pub sums_handed : (v : Vault) (t : ℕ) (name dept : List ℕ) (owner : BucketConfig) (row new : Sums) → Sound v → v.last ≤ t → t ≤ last_moment → IsMove v name dept → config_of v name ≡ Some owner → IsRowOf row (items_of v owner.dept)
    → HandsOver row (bucket_bytes v name) (bucket_weight v name) (day t) new → new ≡ (department_in (changed v t (MoveBucket name dept)) owner.dept).sums
sums_handed v t name dept owner row new sound later low is there stated gives =
    let w = changed v t (MoveBucket name dept) in
    let same : is.bucket ≡ owner = same_config is.bucket owner (config_of v name) is.there there in
    let bounded : AreBounded (items_of w is.bucket.dept) = items-bounded w is.bucket.dept (Sound-changed v t (MoveBucket name dept) sound later is) low in
    let own : IsRowOf row (items_of v is.bucket.dept) = subst (λ (c : BucketConfig). IsRowOf row (items_of v c.dept)) (sym same) stated in
    subst (λ (c : BucketConfig). new ≡ (department_in w c.dept).sums) same
    (row_is new (items_of w is.bucket.dept) (row_given v t name dept sound is bounded row new own gives))

pub sums_received : (v : Vault) (t : ℕ) (name dept : List ℕ) (row new : Sums) → Sound v → v.last ≤ t → t ≤ last_moment → IsMove v name dept → IsRowOf row (items_of v dept)
    → Receives row (bucket_bytes v name) (day t) new → new ≡ (department_in (changed v t (MoveBucket name dept)) dept).sums
sums_received v t name dept row new sound later low is stated takes =
    let w = changed v t (MoveBucket name dept) in
    let bounded : AreBounded (items_of w dept) = items-bounded w dept (Sound-changed v t (MoveBucket name dept) sound later is) low in
    row_is new (items_of w dept) (row_got v t name dept sound is bounded row new stated takes)
