-- The keys of a bucket: they rise by their bytes, and they are those that have a held entry.
use Rattle.std.proofs.Common.{◌≡◌, ◌⊎◌, ℕ, ◌&&◌, Bool, true, false, List, [], ◌∷◌, map, filter, cond, sym, ap, subst, ◌∙◌, refl, inl, inr, ⊎_elim, nat_cmp, Ordering, Less, Equal, Greater}
use Rattle.std.specs.Str.{bytes_eq}
use Rattle.std.specs.Cmp.Lexicographic.{slice_cmp, nat_list_cmp_total}
use Rattle.std.proofs.lemmas.Slice.Eq.{bytes_eq-Decides}
use Rattle.vault_rules.specs.declared.plan.Held.{Held}
use Rattle.vault_core_model.specs.declared.records.History.{History}
use Rattle.vault_core_model.specs.Vault.{Vault}
use Rattle.vault_core_model.specs.Places.{is_held, is_held_at, is_held_in, with_key, with_key_by, key_set, keys_of}
use Rattle.vault_core_model.specs.Reads.{held_of, entries_of}
use Rattle.vault_core_run_laws.specs.KeyOrder.{IsIn, IsRising}
use Rattle.vault_core_run_laws.proofs.KeyOrder.{bytes_same, under_in, same_key, turn, under_each}
use Rattle.vault_core_run_laws.proofs.Entries.{put_if, entries_in, entries_in-cons, all_three}

-- ---- a key put among others

in_with_key : (x k : List ℕ) (ks : List (List ℕ)) → IsIn x (with_key k ks) → (x ≡ k) ⊎ IsIn x ks
in_with_key x k [] i = i
in_with_key x k (y ∷ ys) i = cases (slice_cmp nat_cmp k y) i (in_with_key x k ys)
  where
    cases : (o : Ordering) → IsIn x (with_key_by o k y ys (with_key k ys)) → (IsIn x (with_key k ys) → (x ≡ k) ⊎ IsIn x ys) → (x ≡ k) ⊎ IsIn x (y ∷ ys)
    cases Less h ih = h
    cases Equal h ih = inr h
    cases Greater h ih = ⊎_elim (λ (e : x ≡ y). inr (inl e)) (λ (g : IsIn x (with_key k ys)). ⊎_elim (λ (e : x ≡ k). inl e) (λ (f : IsIn x ys). inr (inr f)) (ih g)) h

with_key_in : (x k : List ℕ) (ks : List (List ℕ)) → (x ≡ k) ⊎ IsIn x ks → IsIn x (with_key k ks)
with_key_in x k [] i = i
with_key_in x k (y ∷ ys) i = cases (slice_cmp nat_cmp k y) refl (with_key_in x k ys)
  where
    cases : (o : Ordering) → slice_cmp nat_cmp k y ≡ o → ((x ≡ k) ⊎ IsIn x ys → IsIn x (with_key k ys)) → IsIn x (with_key_by o k y ys (with_key k ys))
    cases Less e ih = i
    cases Equal e ih = ⊎_elim (λ (s : x ≡ k). inl (s ∙ same_key k y e)) (λ (h : IsIn x (y ∷ ys)). h) i
    cases Greater e ih =
        ⊎_elim (λ (s : x ≡ k). inr (ih (inl s)))
        (λ (h : IsIn x (y ∷ ys)). ⊎_elim (λ (s : x ≡ y). inl s) (λ (g : IsIn x ys). inr (ih (inr g))) h) i

with_key_rises : (k : List ℕ) (ks : List (List ℕ)) → IsRising ks → IsRising (with_key k ks)
with_key_rises k [] r = (tt, tt)
with_key_rises k (y ∷ ys) r = cases (slice_cmp nat_cmp k y) refl (with_key_rises k ys r.1)
  where
    cases : (o : Ordering) → slice_cmp nat_cmp k y ≡ o → IsRising (with_key k ys) → IsRising (with_key_by o k y ys (with_key k ys))
    cases Less e ih = ((e, under_each k ys (λ x i. nat_list_cmp_total.trans k y x e (under_in y x ys r.0 i))), r)
    cases Equal e ih = r
    cases Greater e ih = (
      under_each y (with_key k ys) (λ x i. ⊎_elim (λ (s : x ≡ k). subst (λ z. slice_cmp nat_cmp y z ≡ Less) (sym s) (turn y k e)) (λ (h : IsIn x ys). under_in y x ys r.0 h) (in_with_key x k ys i)),
      ih,
    )

key_set_rises : (ks : List (List ℕ)) → IsRising (key_set ks)
key_set_rises [] = tt
key_set_rises (k ∷ ks) = with_key_rises k (key_set ks) (key_set_rises ks)

in_key_set : (x : List ℕ) (ks : List (List ℕ)) → IsIn x (key_set ks) → IsIn x ks
in_key_set x [] i = i
in_key_set x (k ∷ ks) i = ⊎_elim (λ (e : x ≡ k). inl e) (λ (h : IsIn x (key_set ks)). inr (in_key_set x ks h)) (in_with_key x k (key_set ks) i)

key_set_in : (x : List ℕ) (ks : List (List ℕ)) → IsIn x ks → IsIn x (key_set ks)
key_set_in x [] i = i
key_set_in x (k ∷ ks) i = with_key_in x k (key_set ks) (⊎_elim (λ (e : x ≡ k). inl e) (λ (h : IsIn x ks). inr (key_set_in x ks h)) i)

pub keys_rise : (v : Vault) (b : List ℕ) → IsRising (keys_of v b)
keys_rise v b = key_set_rises (map (λ h. h.entry.key) (filter (λ h. is_held_in b h.entry) v.histories))

-- ---- a key is there where it has a held entry

abbrev pub HasAny : List Held → Type 0
HasAny [] = ⊥
HasAny (x ∷ xs) = Unit {0}

any_more : (c : Bool) (x : Held) (xs : List Held) → HasAny xs → HasAny (put_if c x xs)
any_more true x xs a = tt
any_more false x xs a = a

both : (x y : Bool) → (x && y) ≡ true → (x ≡ true) × (y ≡ true)
both true true e = (refl, refl)
both true false e = absurd (cc)
both false y e = absurd (cc)

-- the keys of the entries that are held in the bucket, each as often as it has one
abbrev keys_in : List ℕ → List History → List (List ℕ)
keys_in b hs = map (λ h. h.entry.key) (filter (λ h. is_held_in b h.entry) hs)

key_any : (b k : List ℕ) (hs : List History) → IsIn k (keys_in b hs) → HasAny (entries_in b k hs)
key_any b k [] i = i
key_any b k (h ∷ hs) i = subst HasAny (sym (entries_in-cons b k h hs)) (cases (is_held_in b h.entry) refl i (key_any b k hs))
  where
    here : is_held_in b h.entry ≡ true → k ≡ h.entry.key → is_held_at b k h.entry ≡ true
    here e s =
        let p = both (bytes_eq h.entry.bucket b) (is_held h.entry) e in
        ap (λ x. x && (bytes_eq h.entry.key k && is_held h.entry)) p.0
        ∙ (ap (λ x. x && is_held h.entry) (ap (bytes_eq h.entry.key) s ∙ bytes_same h.entry.key) ∙ p.1)

    cases : (c : Bool) → is_held_in b h.entry ≡ c
        → IsIn k (map (λ (g : History). g.entry.key) (cond c (h ∷ filter (λ g. is_held_in b g.entry) hs) (filter (λ g. is_held_in b g.entry) hs)))
        → (IsIn k (keys_in b hs) → HasAny (entries_in b k hs))
        → HasAny (put_if (is_held_at b k h.entry) (held_of h) (entries_in b k hs))
    cases true e j ih =
        ⊎_elim (λ (s : k ≡ h.entry.key). subst (λ z. HasAny (put_if z (held_of h) (entries_in b k hs))) (sym (here e s)) tt)
        (λ (r : IsIn k (keys_in b hs)). any_more (is_held_at b k h.entry) (held_of h) (entries_in b k hs) (ih r)) j
    cases false e j ih = any_more (is_held_at b k h.entry) (held_of h) (entries_in b k hs) (ih j)

any_key : (b k : List ℕ) (hs : List History) → HasAny (entries_in b k hs) → IsIn k (keys_in b hs)
any_key b k [] a = a
any_key b k (h ∷ hs) a = cases (is_held_at b k h.entry) refl (subst HasAny (entries_in-cons b k h hs) a) (any_key b k hs)
  where
    more : (c : Bool) → IsIn k (keys_in b hs) → IsIn k (map (λ (g : History). g.entry.key) (cond c (h ∷ filter (λ g. is_held_in b g.entry) hs) (filter (λ g. is_held_in b g.entry) hs)))
    more true i = inr i
    more false i = i

    cases : (c : Bool) → is_held_at b k h.entry ≡ c → HasAny (put_if c (held_of h) (entries_in b k hs)) → (HasAny (entries_in b k hs) → IsIn k (keys_in b hs)) → IsIn k (keys_in b (h ∷ hs))
    cases true e g ih =
        let p = all_three (bytes_eq h.entry.bucket b) (bytes_eq h.entry.key k) (is_held h.entry) e in
        let held : is_held_in b h.entry ≡ true = ap (λ x. x && is_held h.entry) p.0 ∙ p.2 in
        subst (λ c. IsIn k (map (λ (g : History). g.entry.key) (cond c (h ∷ filter (λ g. is_held_in b g.entry) hs) (filter (λ g. is_held_in b g.entry) hs)))) (sym held)
        (inl (sym ((bytes_eq-Decides h.entry.key k).0 p.1)))
    cases false e g ih = more (is_held_in b h.entry) (ih g)

pub held_key : (v : Vault) (b k : List ℕ) → IsIn k (keys_of v b) → HasAny (entries_of v b k)
held_key v b k i = key_any b k v.histories (in_key_set k (keys_in b v.histories) i)

pub key_held : (v : Vault) (b k : List ℕ) → HasAny (entries_of v b k) → IsIn k (keys_of v b)
key_held v b k a = key_set_in k (keys_in b v.histories) (any_key b k v.histories a)
