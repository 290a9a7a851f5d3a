-- The names of the rights that a caller has: these rights are named by them.
use Rattle.std.proofs.Common.{◌≡◌, ℕ, Bool, true, false, List, [], ◌∷◌, ◌++◌, refl, sym, ◌∙◌}
use Rattle.std.specs.Prelude.{◌&&◌, ◌||◌, if◌then◌else◌, is_some}
use Rattle.std.specs.List.{flat_map, list_any}
use Rattle.std.specs.Str.{bytes_eq}
use Rattle.serde_json.specs.Data.{Data, string, items_depth}
use Rattle.serde_json.specs.View.{items_of}
use Rattle.serde_json.specs.Written.{items_have_float}
use Rattle.vault_base.specs.Right.{right_name, right_of, rights}
use Rattle.vault_base.specs.declared.right.Right.{Right}
use Rattle.vault_base.specs.declared.right.Right.TheVariants as right
use Rattle.vault_core_model.specs.Rights.{has}
use Rattle.vault_core_model.specs.declared.rights.Rights.{Rights}
use Rattle.vault_lines_json.specs.Shape.{all_items, is_text}
use Rattle.vault_lines_json.specs.Spelling.{are_rights, is_right_named, items_of_texts}
use Rattle.vault_lines_print.specs.Members.{right_if, right_values}

abbrev name_if : Rights → Right → List (List ℕ)
name_if held r = if has held r then right_name r ∷ [] else []

-- the names of these rights
abbrev pub names : Rights → List Right → List (List ℕ)
names held rs = flat_map (name_if held) rs

module _ (held : Rights) where
  item-named : (b : Bool) (r : Right) (ds : List Data) (ts : List (List ℕ)) → items_of ds ≡ items_of_texts ts → items_of ((if b then string (right_name r) ∷ [] else []) ++ ds) ≡ items_of_texts ((if b then right_name r ∷ [] else []) ++ ts)
  item-named true r ds ts e = rw e refl
  item-named false r ds ts e = e

  pub items-named : (rs : List Right) → items_of (flat_map (right_if held) rs) ≡ items_of_texts (names held rs)
  items-named [] = refl
  items-named (r ∷ rs) = item-named (has held r) r _ _ (items-named rs)

  is-right : (r : Right) → is_some (right_of (right_name r)) ≡ true
  is-right right.Admin = refl
  is-right right.Config = refl
  is-right right.Put = refl
  is-right right.Retain = refl
  is-right right.Hold = refl
  is-right right.Get = refl
  is-right right.List = refl
  is-right right.Delete = refl
  is-right right.DeleteVersion = refl
  is-right right.Run = refl
  is-right right.Report = refl
  is-right right.Bypass = refl

  right-more : (b : Bool) (r : Right) (ts : List (List ℕ)) → are_rights ts ≡ true → are_rights ((if b then right_name r ∷ [] else []) ++ ts) ≡ true
  right-more true r ts e = rw (is-right r) e
  right-more false r ts e = e

  pub names-are-rights : (rs : List Right) → are_rights (names held rs) ≡ true
  names-are-rights [] = refl
  names-are-rights (r ∷ rs) = right-more (has held r) r _ (names-are-rights rs)

  and-true : (b : Bool) → b && true ≡ b
  and-true true = refl
  and-true false = refl

  and-false : (b : Bool) → b && false ≡ false
  and-false true = refl
  and-false false = refl

  or-false : (b : Bool) → b || false ≡ b
  or-false true = refl
  or-false false = refl

  -- a right among these has that name, and is held
  abbrev held_as : List Right → Right → Bool
  held_as rs q = list_any (λ r. bytes_eq (right_name r) (right_name q) && has held r) rs

  named-more : (b : Bool) (r q : Right) (ts : List (List ℕ)) (later : Bool) → list_any (λ name. bytes_eq name (right_name q)) ts ≡ later → list_any (λ name. bytes_eq name (right_name q)) ((if b then right_name r ∷ [] else []) ++ ts) ≡ (bytes_eq (right_name r) (right_name q) && b) || later
  named-more true r q ts later e = rw (and-true (bytes_eq (right_name r) (right_name q)), e) refl
  named-more false r q ts later e = rw (and-false (bytes_eq (right_name r) (right_name q))) e

  names-are-held : (rs : List Right) (q : Right) → list_any (λ name. bytes_eq name (right_name q)) (names held rs) ≡ held_as rs q
  names-are-held [] q = refl
  names-are-held (r ∷ rs) q = named-more (has held r) r q _ _ (names-are-held rs q)

  held-once : (q : Right) → held_as rights q ≡ has held q
  held-once right.Admin = or-false held.admin
  held-once right.Config = or-false held.config
  held-once right.Put = or-false held.put
  held-once right.Retain = or-false held.retain
  held-once right.Hold = or-false held.hold
  held-once right.Get = or-false held.get
  held-once right.List = or-false held.list
  held-once right.Delete = or-false held.delete
  held-once right.DeleteVersion = or-false held.delete_version
  held-once right.Run = or-false held.run
  held-once right.Report = or-false held.report
  held-once right.Bypass = or-false held.bypass

  pub is-named : (q : Right) → has held q ≡ is_right_named (names held rights) q
  is-named q = sym (names-are-held rights q ∙ held-once q)

  text-more : (b : Bool) (r : Right) (ds : List Data) → all_items is_text (items_of ds) ≡ true → all_items is_text (items_of ((if b then string (right_name r) ∷ [] else []) ++ ds)) ≡ true
  text-more true r ds e = e
  text-more false r ds e = e

  texts : (rs : List Right) → all_items is_text (items_of (flat_map (right_if held) rs)) ≡ true
  texts [] = refl
  texts (r ∷ rs) = text-more (has held r) r _ (texts rs)

  pub are-texts : all_items is_text (items_of (right_values held)) ≡ true
  are-texts = texts rights

  whole-more : (b : Bool) (r : Right) (ds : List Data) → items_have_float (items_of ds) ≡ false → items_have_float (items_of ((if b then string (right_name r) ∷ [] else []) ++ ds)) ≡ false
  whole-more true r ds e = e
  whole-more false r ds e = e

  wholes : (rs : List Right) → items_have_float (items_of (flat_map (right_if held) rs)) ≡ false
  wholes [] = refl
  wholes (r ∷ rs) = whole-more (has held r) r _ (wholes rs)

  pub are-whole : items_have_float (items_of (right_values held)) ≡ false
  are-whole = wholes rights

  flat-more : (b : Bool) (r : Right) (ds : List Data) → items_depth (items_of ds) ≡ 0 → items_depth (items_of ((if b then string (right_name r) ∷ [] else []) ++ ds)) ≡ 0
  flat-more true r ds e = rw e refl
  flat-more false r ds e = e

  flats : (rs : List Right) → items_depth (items_of (flat_map (right_if held) rs)) ≡ 0
  flats [] = refl
  flats (r ∷ rs) = flat-more (has held r) r _ (flats rs)

  pub are-flat : items_depth (items_of (right_values held)) ≡ 0
  are-flat = flats rights
