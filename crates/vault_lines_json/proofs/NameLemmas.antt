-- Names and items of the code's lists, and those of the values that they name.
use Rattle.std.proofs.Common.{◌≡◌, ℕ, Bool, List, [], ◌∷◌, ap, refl, map, Bor, ◌∙◌}
use Rattle.std.specs.Prelude.{String, string_bytes, ◌&&◌, ◌||◌}
use Rattle.std.specs.List.{list_all, list_any}
use Rattle.std.specs.Str.{bytes_eq}
use Rattle.std.specs.declared.alloc.Global.{Global}
use Rattle.serde_json.specs.Data.{Data}
use Rattle.serde_json.specs.Find.{get}
use Rattle.serde_json.specs.View.{view, items_view, members_view}
use Rattle.serde_json.specs.declared.value.Value.{Value}
use Rattle.vault_lines_json.specs.Shape.{is_among, are_within, all_items, fits, fits_each, is_named, have_names}
use Rattle.vault_lines_json.specs.declared.shape.Kind.{Kind}

pub is_among_is : (name : List ℕ) (names : List (Bor (List ℕ))) → list_any (λ n. bytes_eq name n.now) names ≡ is_among (map (λ n. n.now) names) name
is_among_is name [] = refl
is_among_is name (n ∷ ns) = ap (λ b. bytes_eq name n.now || b) (is_among_is name ns)

pub are_within_is : (names : List (Bor (List ℕ))) (es : List (String Global × Value)) → list_all (λ e. list_any (λ n. bytes_eq (string_bytes e.0) n.now) names) es ≡ are_within (map (λ n. n.now) names) (members_view es)
are_within_is names [] = refl
are_within_is names (e ∷ es) = ap (λ b. b && list_all (λ e. list_any (λ n. bytes_eq (string_bytes e.0) n.now) names) es) (is_among_is (string_bytes e.0) names) ∙ ap (λ b. is_among (map (λ n. n.now) names) (string_bytes e.0) && b) (are_within_is names es)

pub all_items_is : (test : Data → Bool) (vs : List Value) → list_all (λ v. test (view v)) vs ≡ all_items test (items_view vs)
all_items_is test [] = refl
all_items_is test (v ∷ vs) = ap (λ b. test (view v) && b) (all_items_is test vs)

abbrev pub plain : Bor (List ℕ) × Kind → List ℕ × Kind
plain m = (m.0.now, m.1)

pub fits_each_is : (members : List (Bor (List ℕ) × Kind)) (d : Data) → list_all (λ m. fits m.1 (get m.0.now d)) members ≡ fits_each (map plain members) d
fits_each_is [] d = refl
fits_each_is (m ∷ ms) d = ap (λ b. fits m.1 (get m.0.now d) && b) (fits_each_is ms d)

pub is_named_is : (name : List ℕ) (members : List (Bor (List ℕ) × Kind)) → list_any (λ m. bytes_eq name m.0.now) members ≡ is_named (map plain members) name
is_named_is name [] = refl
is_named_is name (m ∷ ms) = ap (λ b. bytes_eq name m.0.now || b) (is_named_is name ms)

pub have_names_is : (members : List (Bor (List ℕ) × Kind)) (es : List (String Global × Value)) → list_all (λ e. list_any (λ m. bytes_eq (string_bytes e.0) m.0.now) members) es ≡ have_names (map plain members) (members_view es)
have_names_is members [] = refl
have_names_is members (e ∷ es) = rw (is_named_is (string_bytes e.0) members, have_names_is members es) refl
