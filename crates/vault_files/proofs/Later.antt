-- What stays of a vault while lines of intake batches are accepted and versions are removed.
use Rattle.std.proofs.Common.{◌≡◌, ℕ, ◌+◌, ◌≤◌, List, [], ◌∷◌, ◌∙◌, length, Bool, true, false, Some, None, refl, sym, subst, arith, length-append}
use Rattle.std.proofs.lemmas.Bool.{eqb-true, eq-eqb, and_parts, false_from_ne_true}
use Rattle.std.proofs.lemmas.List.{length-map}
use Rattle.std.proofs.lemmas.Slice.Eq.{bytes_eq-Decides}
use Rattle.std.specs.Prelude.{find, sum_by, ◌&&◌, ◌==◌, if◌then◌else◌}
use Rattle.std.specs.Str.{bytes_eq}
use Rattle.std.specs.declared.cmp.Ordering.{Ordering}
use Rattle.std.specs.declared.cmp.Ordering.TheVariants.{Less, Equal, Greater}
use Rattle.vault_tally.specs.Row.{size_of}
use Rattle.vault_tally.proofs.Bounds.{got}
use Rattle.vault_core_model.specs.declared.change.Change.TheVariants.{Admit, Remove}
use Rattle.vault_core_model.specs.declared.records.History.{History}
use Rattle.vault_core_model.specs.declared.records.Note.{Note}
use Rattle.vault_core_model.specs.declared.records.Removal.{Removal}
use Rattle.vault_core_model.specs.Change.{changed, removed_if}
use Rattle.vault_core_model.specs.Order.{placed, placed_by, note_cmp}
use Rattle.vault_core_model.specs.Totals.{items_of, admitted_bytes, received_bytes}
use Rattle.vault_core_model.specs.Vault.{Vault, note_of}
use Rattle.vault_core_laws.proofs.Buckets.{find-placed}
use Rattle.vault_core_laws.proofs.Items.{sizes-push, sizes-removed}

-- the same callers and buckets, each note that was there, and no fewer bytes ever admitted and received, nor entries
pub record IsLater (v w : Vault) : Type 0 where
  pub external : w.external ≡ v.external
  pub callers : w.callers ≡ v.callers
  pub buckets : w.buckets ≡ v.buckets
  pub notes : (bucket batch : List ℕ) (line : ℕ) (n : Note) → note_of v bucket batch line ≡ Some n → note_of w bucket batch line ≡ Some n
  pub got : (dept : List ℕ) → admitted_bytes v dept + received_bytes v dept ≤ admitted_bytes w dept + received_bytes w dept
  pub entries : length v.histories ≤ length w.histories

pub later-itself : (v : Vault) → IsLater v v
later-itself v = record {
  external = refl;
  callers = refl;
  buckets = refl;
  notes = λ bucket batch line n there. there;
  got = λ dept. omega arith;
  entries = omega arith;
}

pub later-on : (u v w : Vault) → IsLater u v → IsLater v w → IsLater u w
later-on u v w a b = record {
  external = b.external ∙ a.external;
  callers = b.callers ∙ a.callers;
  buckets = b.buckets ∙ a.buckets;
  notes = λ bucket batch line n there. b.notes bucket batch line n (a.notes bucket batch line n there);
  got = λ dept. omega (arith, a.got dept, b.got dept);
  entries = omega (arith, a.entries, b.entries);
}

pub later-same : (v w : Vault) → w ≡ v → IsLater v w
later-same v w same = let P : Vault → Type 0 = λ u. IsLater v u in subst P (sym same) (later-itself v)

-- ---- notes

-- whose line it is
abbrev pub is_line_of : List ℕ → List ℕ → ℕ → Note → Bool
is_line_of bucket batch line n = bytes_eq n.bucket bucket && (bytes_eq n.batch batch && n.line == line)

same_bytes : (a : List ℕ) → bytes_eq a a ≡ true
same_bytes a = (bytes_eq-Decides a a).1 refl

is_own_line : (n : Note) → is_line_of n.bucket n.batch n.line n ≡ true
is_own_line n = rw (same_bytes n.bucket, same_bytes n.batch, eq-eqb n.line n.line refl) refl

-- a note of that line has its bucket, batch and number
same_line : (n : Note) (bucket batch : List ℕ) (line : ℕ) → is_line_of bucket batch line n ≡ true → (n.bucket ≡ bucket) × (n.batch ≡ batch) × (n.line ≡ line)
same_line n bucket batch line is =
    let first = and_parts (bytes_eq n.bucket bucket) (bytes_eq n.batch batch && n.line == line) is in
    let second = and_parts (bytes_eq n.batch batch) (n.line == line) first.1 in
    ((bytes_eq-Decides n.bucket bucket).0 first.0, (bytes_eq-Decides n.batch batch).0 second.0, eqb-true n.line line second.1)

by_line : (v : Vault) (n : Note) (bucket batch : List ℕ) (line : ℕ) → is_line_of bucket batch line n ≡ true → note_of v n.bucket n.batch n.line ≡ note_of v bucket batch line
by_line v n bucket batch line is = let same = same_line n bucket batch line is in rw (same.0, same.1, same.2) refl

-- a new note is of no line that has one
is_other : (v : Vault) (n m : Note) (bucket batch : List ℕ) (line : ℕ) → note_of v n.bucket n.batch n.line ≡ None → note_of v bucket batch line ≡ Some m → is_line_of bucket batch line n ≡ false
is_other v n m bucket batch line free there =
    false_from_ne_true (is_line_of bucket batch line n) (λ is. absurd (cc (sym free ∙ (by_line v n bucket batch line is ∙ there))))

-- a new note is found where none of its kind was
new_placed : (p : Note → Bool) (x : Note) (ys : List Note) → p x ≡ true → find p ys ≡ None → find p (placed note_cmp x ys) ≡ Some x
new_placed p x [] is none = rw is refl
new_placed p x (y ∷ ys) is none =
    by_place (note_cmp x y) (new_placed p x ys is (none_after (p y) none)) (not_first (p y) none)
  where
    none_after : (b : Bool) → (if b then Some y else find p ys) ≡ None → find p ys ≡ None
    none_after true h = absurd (cc h)
    none_after false h = h

    not_first : (b : Bool) → (if b then Some y else find p ys) ≡ None → b ≡ false
    not_first true h = absurd (cc h)
    not_first false h = refl

    by_place : (o : Ordering) → find p (placed note_cmp x ys) ≡ Some x → p y ≡ false → find p (placed_by o x y ys (placed note_cmp x ys)) ≡ Some x
    by_place Less after not_y = rw is refl
    by_place Equal after not_y = rw is refl
    by_place Greater after not_y = rw not_y after

pub new_note-found : (v : Vault) (t : ℕ) (h : History) (n : Note) → note_of v n.bucket n.batch n.line ≡ None → note_of (changed v t (Admit (record { history = h; note = Some n }))) n.bucket n.batch n.line ≡ Some n
new_note-found v t h n free = new_placed (is_line_of n.bucket n.batch n.line) n v.notes (is_own_line n) free

-- a note of another number is as before
pub other_line : (v : Vault) (t : ℕ) (h : History) (n : Note) (bucket batch : List ℕ) (line : ℕ) → (n.line ≡ line → ⊥) → note_of (changed v t (Admit (record { history = h; note = Some n }))) bucket batch line ≡ note_of v bucket batch line
other_line v t h n bucket batch line other =
    find-placed note_cmp (is_line_of bucket batch line) n v.notes
    (false_from_ne_true (is_line_of bucket batch line n) (λ is. other (same_line n bucket batch line is).2))

-- ---- the two changes

-- no less was admitted and received where the tenures' sizes come to no less
got_more : (v w : Vault) (dept : List ℕ) → sum_by size_of (items_of v dept) ≤ sum_by size_of (items_of w dept) → admitted_bytes v dept + received_bytes v dept ≤ admitted_bytes w dept + received_bytes w dept
got_more v w dept more = omega (arith, got (items_of v dept), got (items_of w dept), more)

pub later-admitted : (v : Vault) (t : ℕ) (h : History) (n : Note) → note_of v n.bucket n.batch n.line ≡ None → IsLater v (changed v t (Admit (record { history = h; note = Some n })))
later-admitted v t h n free = record {
  external = refl;
  callers = refl;
  buckets = refl;
  notes = λ bucket batch line m there. find-placed note_cmp (is_line_of bucket batch line) n v.notes (is_other v n m bucket batch line free there) ∙ there;
  got = λ dept. got_more v (changed v t (Admit (record { history = h; note = Some n }))) dept (omega (arith, sizes-push dept v.histories h));
  entries = omega (arith, length-append v.histories (h ∷ []));
}

pub later-removed : (v : Vault) (t id : ℕ) (r : Removal) → IsLater v (changed v t (Remove id r))
later-removed v t id r = record {
  external = refl;
  callers = refl;
  buckets = refl;
  notes = λ bucket batch line n there. there;
  got = λ dept. got_more v (changed v t (Remove id r)) dept (omega (arith, sizes-removed dept id r v.histories));
  entries = omega (arith, length-map v.histories (removed_if id r));
}
