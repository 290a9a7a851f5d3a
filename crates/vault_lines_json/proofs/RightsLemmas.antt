-- The rights that names give: those that are named.
use Rattle.std.proofs.Common.{◌≡◌, ℕ, Bool, true, false, List, [], ◌∷◌, refl, sym, ◌∙◌, ap}
use Rattle.std.specs.Prelude.{◌&&◌, ◌||◌, if◌then◌else◌, Option, Some, None, is_some, Ok, IsTrue}
use Rattle.std.specs.List.{find}
use Rattle.std.specs.Str.{bytes_eq}
use Rattle.std.proofs.lemmas.Slice.Eq.{bytes_eq-Decides}
use Rattle.vault_base.specs.Right.{right_name, right_of, rights}
use Rattle.vault_base.specs.declared.right.Right.{Right}
use Rattle.vault_core_model.proofs.RightLemmas.{has-with_right, has-no_rights, same-rights}
use Rattle.vault_core_model.specs.Rights.{has, no_rights, with_right}
use Rattle.vault_core_model.specs.declared.rights.Rights.{Rights}
use Rattle.vault_values.specs.Fault.{◌>>=◌, or_invalid}
use Rattle.vault_lines_json.specs.Spelling.{are_rights, is_right_named}
use Rattle.vault_values.specs.Rights.{rights_named, with_rights_of}

or-false : (b : Bool) → b || false ≡ b
or-false true = refl
or-false false = refl

or-assoc : (a b c : Bool) → (a || b) || c ≡ a || (b || c)
or-assoc true b c = refl
or-assoc false b c = refl

passes-here : (test : Right → Bool) (rs : List Right) (q r : Right) (b : Bool) → test q ≡ b → (find test rs ≡ Some r → test r ≡ true) → (let found : Option Right = if b then Some q else find test rs in found) ≡ Some r → test r ≡ true
passes-here test rs q r true e later f =
    let same : q ≡ r = cc in
    cc
passes-here test rs q r false e later f = later f

found-passes : (test : Right → Bool) (rs : List Right) (r : Right) → find test rs ≡ Some r → test r ≡ true
found-passes test [] r e = cc
found-passes test (q ∷ rs) r e = passes-here test rs q r (test q) refl (found-passes test rs r) e

is-name : (name : List ℕ) (r : Right) → right_of name ≡ Some r → name ≡ right_name r
is-name name r e = (bytes_eq-Decides name (right_name r)).0 (found-passes (λ q. bytes_eq name (right_name q)) rights r e)

-- one more name
step : (name : List ℕ) (q r : Right) (held : Rights) (named : Bool) → name ≡ right_name q → has (with_right q held) r || named ≡ has held r || (bytes_eq name (right_name r) || named)
step name q r held named e =
    ap (λ b. b || named) (has-with_right q r held)
    ∙ or-assoc (has held r) (bytes_eq (right_name q) (right_name r)) named
    ∙ ap (λ n. has held r || (bytes_eq n (right_name r) || named)) (sym e)

-- what a reading of names gives: each is the name of a right, and these rights are held beside those from before
abbrev HoldsNamed : List (List ℕ) → Rights → Rights → Type 0
HoldsNamed names held result = IsTrue (are_rights names) × ((r : Right) → has result r ≡ has held r || is_right_named names r)

holds-named-one : (found : Option Right) (name : List ℕ) (names : List (List ℕ)) (held result : Rights) → right_of name ≡ found → ((q : Right) → with_rights_of names (with_right q held) ≡ Ok result → HoldsNamed names (with_right q held) result) → (or_invalid found >>= (λ q. with_rights_of names (with_right q held))) ≡ Ok result → HoldsNamed (name ∷ names) held result
holds-named-one None name names held result e later f = cc
holds-named-one (Some q) name names held result e later f =
    let given = later q f in
    (rw e given.0, λ r. given.1 r ∙ step name q r held (is_right_named names r) (is-name name q e))

holds-named : (names : List (List ℕ)) (held result : Rights) → with_rights_of names held ≡ Ok result → HoldsNamed names held result
holds-named [] held result e =
    let same : held ≡ result = cc in
    (refl, λ r. ap (λ h. has h r) (sym same) ∙ sym (or-false (has held r)))
holds-named (name ∷ names) held result e = holds-named-one (right_of name) name names held result refl (λ q. holds-named names (with_right q held) result) e

pub is-rights : (names : List (List ℕ)) (held : Rights) → rights_named names ≡ Ok held → IsTrue (are_rights names) × ((r : Right) → has held r ≡ is_right_named names r)
unfolding rights_named
is-rights names held e =
    let given = holds-named names no_rights held e in
    (given.0, λ r. given.1 r ∙ ap (λ b. b || is_right_named names r) (has-no_rights r))

takes-one : (found : Option Right) (name : List ℕ) (names : List (List ℕ)) (held : Rights) → right_of name ≡ found → is_some (right_of name) && are_rights names ≡ true → ((q : Right) → are_rights names ≡ true → (result : Rights) × (with_rights_of names (with_right q held) ≡ Ok result)) → (result : Rights) × ((or_invalid found >>= (λ q. with_rights_of names (with_right q held))) ≡ Ok result)
takes-one None name names held e are later = let none : false ≡ true = rw e at are in absurd cc
takes-one (Some q) name names held e are later = later q (rw e at are)

takes : (names : List (List ℕ)) (held : Rights) → are_rights names ≡ true → (result : Rights) × (with_rights_of names held ≡ Ok result)
takes [] held are = (held, refl)
takes (name ∷ names) held are = takes-one (right_of name) name names held refl are (λ q. takes names (with_right q held))

pub rights-ok : (names : List (List ℕ)) (held : Rights) → IsTrue (are_rights names) → ((r : Right) → has held r ≡ is_right_named names r) → rights_named names ≡ Ok held
unfolding rights_named
rights-ok names held are named =
    let taken = takes names no_rights are in
    let given = is-rights-of taken.0 taken.1 in
    taken.1 ∙ ap (λ result. Ok result) (same-rights taken.0 held (λ r. given r ∙ sym (named r)))
  where
    is-rights-of : (result : Rights) → with_rights_of names no_rights ≡ Ok result → (r : Right) → has result r ≡ is_right_named names r
    is-rights-of result e r = (holds-named names no_rights result e).1 r ∙ ap (λ b. b || is_right_named names r) (has-no_rights r)
