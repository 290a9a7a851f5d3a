-- The rows of heads after each change, and with them the rows of all tables.
use Rattle.std.proofs.Common.{◌≡◌, ℕ, ◌+◌, ◌≤◌, ◌==◌, ◌&&◌, List, [], ◌∷◌, ◌++◌, length, map, filter, cond, not, Bool, true, false, Option, Some, None, IsPermutation, refl, sym, ap, subst, ◌∙◌, arith, eqb, append-nil}
use Rattle.std.specs.Prelude.{is_none, if◌then◌else◌}
use Rattle.std.specs.List.{AllByRecursion}
use Rattle.std.specs.Str.{bytes_eq}
use Rattle.std.proofs.lemmas.List.{length-append, map-append}
use Rattle.std.proofs.lemmas.List.Sorted.{IsPermutation-trans}
use Rattle.std.proofs.lemmas.Slice.Eq.{bytes_eq-Decides}
use Rattle.sqlite_trees.proofs.ListLemmas.{IsPermutation-same}
use Rattle.sqlite.specs.Effect.{Database}
use Rattle.vault_base.specs.Days.{last_moment}
use Rattle.vault_base.specs.declared.refusal.Table.TheVariants as table
use Rattle.vault_core_model.specs.declared.records.BucketConfig.{BucketConfig}
use Rattle.vault_core_model.specs.declared.records.Entry.{Entry}
use Rattle.vault_core_model.specs.declared.records.Head.{Head}
use Rattle.vault_core_model.specs.declared.records.History.{History}
use Rattle.vault_core_model.specs.declared.records.Removal.{Removal}
use Rattle.vault_core_model.specs.declared.records.Setting.{Setting}
use Rattle.vault_core_model.specs.declared.change.Admission.{Admission}
use Rattle.vault_core_model.specs.declared.change.Change.{Change}
use Rattle.vault_core_model.specs.declared.change.Change.TheVariants.{AddDept, AddCaller, CloseCaller, AddBucket, MoveBucket, SetDefault, SetRules, Admit, AddSetting, Remove}
use Rattle.vault_core_model.specs.Allowed.{Allows, IsAdmission, IsMove, IsRemoval}
use Rattle.vault_core_model.specs.Change.{changed, with_setting, tenured_if, next_tenure, removed_by, removed_if}
use Rattle.vault_core_model.specs.Places.{is_held, is_held_at}
use Rattle.vault_core_model.specs.Reads.{entry_of, head_of, head_over}
use Rattle.vault_core_model.specs.Sound.{Sound}
use Rattle.vault_core_model.specs.Vault.{Vault, history_of}
use Rattle.vault_core_laws.proofs.Soundness.{Sound-changed, entry-setting}
use Rattle.vault_audit_model.specs.Rows.{head_row}
use Rattle.vault_audit_model.specs.Spells.{IsKept, heads_in, entries_in}
use Rattle.vault_audit_model.specs.Tables.{vault_schema}
use Rattle.vault_store_model.specs.Rows.{AreSameRows, HasRows, rows_in, rows_of}
use Rattle.vault_store_model.specs.Edits.{and_then, at_moment}
use Rattle.vault_store_model.specs.Changes.{edit_of, headed, head_with, others_at, with_move, without_entry}
use Rattle.vault_store_model.specs.Limits.{IsChangeInLimits}
use Rattle.vault_store_model.proofs.AdmissionLemmas.{admitted_alike}
use Rattle.vault_store_model.proofs.BesideLemmas.{beside_heads}
use Rattle.vault_store_model.proofs.ConfigLemmas.{default_set, rules_set}
use Rattle.vault_store_model.proofs.EntryLemmas.{found_history, each_is}
use Rattle.vault_store_model.proofs.KeptLemmas.{external_changed, kept_changed}
use Rattle.vault_store_model.proofs.ListLemmas.{map_unread, filter-append}
use Rattle.vault_store_model.proofs.OrderLemmas.{edit_ignores}
use Rattle.vault_store_model.proofs.RecordLemmas.{dept_added, caller_added, caller_closed, bucket_added}
use Rattle.vault_store_model.proofs.RemovalLemmas.{removed_alike}
use Rattle.vault_store_model.proofs.HeadsByEntry.{held_of_key, heads_by, heads_are, last_of, head_over_entries, head_of_entries}
use Rattle.vault_store_model.proofs.HeadLemmas.{heads_changed}
use Rattle.vault_store_model.proofs.HeadParts.{is_elsewhere}
use Rattle.vault_core_laws.proofs.Moves.{entry-tenured}

-- ---- a setting more

heads_of_setting : (v : Vault) (t id : ℕ) (s : Setting) → heads_in (changed v t (AddSetting id s)) ≡ heads_in v
heads_of_setting v t id s =
    heads_are (changed v t (AddSetting id s)) ∙ ap heads_by (map_unread (λ (h : History). h.entry) (with_setting id s) (entry-setting id s) v.histories) ∙ sym (heads_are v)

-- ---- a move

heads_stay : (v : Vault) (t : ℕ) (name dept : List ℕ) → heads_in (changed v t (MoveBucket name dept)) ≡ heads_in v
heads_stay v t name dept =
    heads_are (changed v t (MoveBucket name dept))
    ∙ ap heads_by (map_unread (λ (h : History). h.entry) (tenured_if name (next_tenure v t dept)) (entry-tenured name (next_tenure v t dept)) v.histories) ∙ sym (heads_are v)

heads_of_move : (v : Vault) (t : ℕ) (name dept : List ℕ) → IsMove v name dept → IsPermutation (rows_of (changed v t (MoveBucket name dept)) table.Heads) (edit_of v t (MoveBucket name dept) (rows_of v) table.Heads)
heads_of_move v t name dept is =
    subst (λ (o : Option BucketConfig). IsPermutation (map head_row (heads_in (changed v t (MoveBucket name dept)))) (with_move v (changed v t (MoveBucket name dept)) t name dept o (rows_of v) table.Heads)) (sym is.there)
    (IsPermutation-same _ _ (ap (map head_row) (heads_stay v t name dept)))

-- ---- an admission

same_text : (a : List ℕ) → bytes_eq a a ≡ true
same_text a = (bytes_eq-Decides a a).1 refl

last_push : (e f : Entry) (fs : List Entry) → last_of f (fs ++ e ∷ []) ≡ e
last_push e f [] = refl
last_push e f (g ∷ gs) = last_push e g gs

one_longer : (es : List Entry) (e f : Entry) → length (f ∷ (es ++ e ∷ [])) ≡ length (f ∷ es) + 1
one_longer es e f = omega (arith, length-append es (e ∷ []))

head_push : (es : List Entry) (e : Entry) → head_over_entries (es ++ e ∷ []) ≡ Some (head_with e.id (head_over_entries es))
head_push [] e = refl
head_push (f ∷ fs) e =
    ap (λ (x : Entry). Some (record { newest = x.id; count = length (f ∷ (fs ++ e ∷ [])) })) (last_push e f fs)
    ∙ ap (λ n. Some (record { newest = e.id; count = n })) (one_longer fs e f)

kept_one : (p : Entry → Bool) (e : Entry) → p e ≡ true → filter p (e ∷ []) ≡ e ∷ []
kept_one p e passes = ap (λ b. cond b (e ∷ []) []) passes

dropped_one : (p : Entry → Bool) (e : Entry) → p e ≡ false → filter p (e ∷ []) ≡ []
dropped_one p e fails = ap (λ b. cond b (e ∷ []) []) fails

entries_push : (hs : List History) (h : History) → entries_in (hs ++ h ∷ []) ≡ entries_in hs ++ h.entry ∷ []
entries_push hs h = map-append (λ (g : History). g.entry) hs (h ∷ [])

pub is_held_there : (e : Entry) → e.removal ≡ None → is_held_at e.bucket e.key e ≡ true
is_held_there e held =
    ap (λ b. b && (bytes_eq e.key e.key && is_held e)) (same_text e.bucket) ∙ ap (λ b. b && is_held e) (same_text e.key) ∙ ap is_none held

is_there : (e : Entry) → is_elsewhere e.bucket e.key e ≡ false
is_there e = ap (λ b. not (b && bytes_eq e.key e.key)) (same_text e.bucket) ∙ ap not (same_text e.key)

head_admitted : (v : Vault) (t : ℕ) (a : Admission) → a.history.entry.removal ≡ None
    → head_of (changed v t (Admit a)) a.history.entry.bucket a.history.entry.key ≡ Some (head_with a.history.entry.id (head_of v a.history.entry.bucket a.history.entry.key))
head_admitted v t a held =
    let e = a.history.entry in
    let es = entries_in v.histories in
    let p = is_held_at e.bucket e.key in
    head_of_entries (changed v t (Admit a)) e.bucket e.key
    ∙ ap (λ (l : List Entry). head_over_entries (filter p l)) (entries_push v.histories a.history)
    ∙ ap head_over_entries (filter-append p es (e ∷ []) ∙ ap (λ (l : List Entry). filter p es ++ l) (kept_one p e (is_held_there e held)))
    ∙ head_push (held_of_key e.bucket e.key es) e
    ∙ ap (λ (o : Option Head). Some (head_with e.id o)) (sym (head_of_entries v e.bucket e.key))

elsewhere_admitted : (hs : List History) (h : History) → filter (is_elsewhere h.entry.bucket h.entry.key) (entries_in (hs ++ h ∷ [])) ≡ filter (is_elsewhere h.entry.bucket h.entry.key) (entries_in hs)
elsewhere_admitted hs h =
    let p = is_elsewhere h.entry.bucket h.entry.key in
    ap (filter p) (entries_push hs h) ∙ filter-append p (entries_in hs) (h.entry ∷ [])
    ∙ ap (λ (l : List Entry). filter p (entries_in hs) ++ l) (dropped_one p h.entry (is_there h.entry)) ∙ append-nil (filter p (entries_in hs))

heads_of_admission : (v : Vault) (t : ℕ) (a : Admission) → Sound v → v.last ≤ t → IsAdmission v t a → IsPermutation (rows_of (changed v t (Admit a)) table.Heads) (edit_of v t (Admit a) (rows_of v) table.Heads)
heads_of_admission v t a sound later is =
    let e = a.history.entry in
    subst (IsPermutation (map head_row (heads_in (changed v t (Admit a))))) (sym (admitted_alike v.external v t a (rows_of v) table.Heads refl))
    (subst (λ (o : Option Head). IsPermutation (map head_row (heads_in (changed v t (Admit a)))) (headed e.bucket e.key (head_of v e.bucket e.key) o (map head_row (heads_in v)))) (head_admitted v t a is.held)
    (heads_changed v (changed v t (Admit a)) e.bucket e.key sound.ids (Sound-changed v t (Admit a) sound later is).ids (elsewhere_admitted v.histories a.history)))

-- ---- a removal

elsewhere_removed : (id : ℕ) (r : Removal) (g : History) (hs : List History) → AllByRecursion (λ h. (h.entry.id == id) ≡ true → h ≡ g) hs
    → filter (is_elsewhere g.entry.bucket g.entry.key) (entries_in (map (removed_if id r) hs)) ≡ filter (is_elsewhere g.entry.bucket g.entry.key) (entries_in hs)
elsewhere_removed id r g [] all = refl
elsewhere_removed id r g (h ∷ hs) all =
    let p = is_elsewhere g.entry.bucket g.entry.key in
    let after = filter p (entries_in (map (removed_if id r) hs)) in
    let rest : after ≡ filter p (entries_in hs) = elsewhere_removed id r g hs all.1 in
    elim (eqb h.entry.id id) as (λ b. eqb h.entry.id id ≡ b → filter p ((if b then removed_by r h else h).entry ∷ entries_in (map (removed_if id r) hs)) ≡ filter p (h.entry ∷ entries_in hs)) [
      | true ↦ λ here.
          let same : g ≡ h = sym (all.0 here) in
          let out : p h.entry ≡ false = subst (λ (x : History). p x.entry ≡ false) same (is_there g.entry) in
          ap (λ b. cond b ((removed_by r h).entry ∷ after) after) out ∙ rest ∙ sym (ap (λ b. cond b (h.entry ∷ filter p (entries_in hs)) (filter p (entries_in hs))) out)
      | false ↦ λ _. ap (λ (l : List Entry). cond (p h.entry) (h.entry ∷ l) l) rest
    ] refl

both_and_false : (a b : Bool) → (a && (b && false)) ≡ false
both_and_false true true = refl
both_and_false true false = refl
both_and_false false b = refl

held_removed : (id : ℕ) (r : Removal) (bucket key : List ℕ) (hs : List History)
    → filter (λ h. is_held_at bucket key h.entry) (map (removed_if id r) hs) ≡ filter (λ h. not (h.entry.id == id)) (filter (λ h. is_held_at bucket key h.entry) hs)
held_removed id r bucket key [] = refl
held_removed id r bucket key (h ∷ hs) =
    elim (eqb h.entry.id id) as (λ b. eqb h.entry.id id ≡ b → filter p ((if b then removed_by r h else h) ∷ map (removed_if id r) hs) ≡ filter q (cond (p h) (h ∷ filter p hs) (filter p hs))) [
      | true ↦ λ here.
          ap (λ b. cond b (removed_by r h ∷ filter p (map (removed_if id r) hs)) (filter p (map (removed_if id r) hs))) (both_and_false (bytes_eq h.entry.bucket bucket) (bytes_eq h.entry.key key))
          ∙ held_removed id r bucket key hs ∙ gone here (p h)
      | false ↦ λ other. ap (λ l. cond (p h) (h ∷ l) l) (held_removed id r bucket key hs) ∙ stays other (p h)
    ] refl
  where
    p : History → Bool
    p = λ g. is_held_at bucket key g.entry

    q : History → Bool
    q = λ g. not (g.entry.id == id)

    gone : eqb h.entry.id id ≡ true → (b : Bool) → filter q (filter p hs) ≡ filter q (cond b (h ∷ filter p hs) (filter p hs))
    gone here true = sym (ap (λ b. cond (not b) (h ∷ filter q (filter p hs)) (filter q (filter p hs))) here)
    gone here false = refl

    stays : eqb h.entry.id id ≡ false → (b : Bool) → cond b (h ∷ filter q (filter p hs)) (filter q (filter p hs)) ≡ filter q (cond b (h ∷ filter p hs) (filter p hs))
    stays other true = sym (ap (λ b. cond (not b) (h ∷ filter q (filter p hs)) (filter q (filter p hs))) other)
    stays other false = refl

head_removed : (v : Vault) (t id : ℕ) (r : Removal) (bucket key : List ℕ) → head_of (changed v t (Remove id r)) bucket key ≡ head_over (others_at v id bucket key)
head_removed v t id r bucket key = ap head_over (held_removed id r bucket key v.histories)

heads_of_removal : (v : Vault) (t id : ℕ) (r : Removal) → Sound v → v.last ≤ t → IsRemoval v t id r → IsPermutation (rows_of (changed v t (Remove id r)) table.Heads) (edit_of v t (Remove id r) (rows_of v) table.Heads)
heads_of_removal v t id r sound later is =
    let held = is.held in
    let found = found_history (history_of v id) held.0 held.1 in
    let g = found.0 in
    let e = g.entry in
    let there : entry_of v id ≡ Some e = held.1 ∙ ap Some (sym found.2) in
    subst (λ (o : Option Entry). IsPermutation (rows_of (changed v t (Remove id r)) table.Heads) (and_then (without_entry v (changed v t (Remove id r)) id r o) (at_moment t) (rows_of v) table.Heads)) (sym there)
    (subst (IsPermutation (map head_row (heads_in (changed v t (Remove id r))))) (sym (removed_alike v.external v t id r e (rows_of v) table.Heads refl))
    (subst (λ (o : Option Head). IsPermutation (map head_row (heads_in (changed v t (Remove id r)))) (headed e.bucket e.key (head_of v e.bucket e.key) o (map head_row (heads_in v)))) (head_removed v t id r e.bucket e.key)
    (heads_changed v (changed v t (Remove id r)) e.bucket e.key sound.ids (Sound-changed v t (Remove id r) sound later is).ids
    (elsewhere_removed id r g v.histories (each_is v.histories id g sound.ids found.1)))))

-- ---- every change

heads_made : (v : Vault) (t : ℕ) (c : Change) → Sound v → v.last ≤ t → Allows v t c → IsPermutation (rows_of (changed v t c) table.Heads) (edit_of v t c (rows_of v) table.Heads)
heads_made v t (AddDept name) sound later allowed = dept_added v t name sound allowed table.Heads
heads_made v t (AddCaller c) sound later allowed = caller_added v t c table.Heads
heads_made v t (CloseCaller name) sound later allowed = caller_closed v t name table.Heads
heads_made v t (AddBucket name dept) sound later allowed = bucket_added v t name dept table.Heads
heads_made v t (MoveBucket name dept) sound later allowed = heads_of_move v t name dept allowed
heads_made v t (SetDefault name default) sound later allowed = default_set v t name default table.Heads
heads_made v t (SetRules name rules) sound later allowed = rules_set v t name rules sound allowed.0 table.Heads
heads_made v t (Admit a) sound later allowed = heads_of_admission v t a sound later allowed
heads_made v t (AddSetting id s) sound later allowed = IsPermutation-same _ _ (ap (map head_row) (heads_of_setting v t id s))
heads_made v t (Remove id r) sound later allowed = heads_of_removal v t id r sound later allowed

pub rows_made : (v : Vault) (t : ℕ) (c : Change) → IsKept v → v.last ≤ t → Allows v t c → AreSameRows (rows_of (changed v t c)) (edit_of v t c (rows_of v))
rows_made v t c kept later allowed table.Heads = heads_made v t c kept.sound later allowed
rows_made v t c kept later allowed s = beside_heads v t c kept.sound allowed s refl

-- ---- databases

pub rows_stated : (old new : Database) (v : Vault) (t : ℕ) (c : Change) → HasRows old v → v.last ≤ t → t ≤ last_moment → Allows v t c → IsChangeInLimits v.external c → new.schema ≡ vault_schema v.external
    → AreSameRows (edit_of v t c (rows_in v.external old)) (rows_in v.external new) → HasRows new (changed v t c)
rows_stated old new v t c has later low allowed given schema edited = record {
  schema = subst (λ external. new.schema ≡ vault_schema external) (sym (external_changed v t c)) schema;
  rows =
      subst (λ external. AreSameRows (rows_of (changed v t c)) (rows_in external new)) (sym (external_changed v t c))
      (λ s. IsPermutation-trans _ _ _ (rows_made v t c has.kept later allowed s) (IsPermutation-trans _ _ _ (edit_ignores v t c (rows_of v) (rows_in v.external old) has.rows s) (edited s)));
  kept = kept_changed v t c has.kept later low allowed given;
}
