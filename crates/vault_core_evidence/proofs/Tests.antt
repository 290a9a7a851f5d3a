-- The first test of a list that fails.
use Rattle.std.proofs.Common.{◌≡◌, ◌∙◌, List, [], ◌∷◌, ◌++◌, Bool, true, false, Option, Some, refl, sym, subst}
use Rattle.std.specs.Prelude.{is_some, if◌then◌else◌}
use Rattle.vault_core_evidence.specs.declared.breach.Law.{Law}
use Rattle.vault_core_evidence.specs.Breaches.{Test, broken}

if_some : (b : Bool) (l : Law) (one both : Option Law) → (is_some one ≡ true → both ≡ one) → is_some (if b then one else Some l) ≡ true → (if b then both else Some l) ≡ (if b then one else Some l)
if_some true l one both later e = later e
if_some false l one both later e = refl

some_first : (xs ys : List Test) → is_some (broken xs) ≡ true → broken (xs ++ ys) ≡ broken xs
some_first [] ys e = absurd (cc e)
some_first (x ∷ xs) ys e = if_some x.passes x.law (broken xs) (broken (xs ++ ys)) (λ some. some_first xs ys some) e

if_none : (b : Bool) (l : Law) (one both rest : Option Law) → (is_some one ≡ false → both ≡ rest) → is_some (if b then one else Some l) ≡ false → (if b then both else Some l) ≡ rest
if_none true l one both rest later e = later e
if_none false l one both rest later e = absurd (cc e)

none_first : (xs ys : List Test) → is_some (broken xs) ≡ false → broken (xs ++ ys) ≡ broken ys
none_first [] ys e = refl
none_first (x ∷ xs) ys e = if_none x.passes x.law (broken xs) (broken (xs ++ ys)) (broken ys) (λ none. none_first xs ys none) e

-- what was found among the first tests is what all find
pub stops : (xs ys : List Test) (found : Option Law) → found ≡ broken xs → is_some found ≡ true → found ≡ broken (xs ++ ys)
stops xs ys found of_xs failed = let P : Option Law → Type 0 = λ o. is_some o ≡ true in of_xs ∙ sym (some_first xs ys (subst P of_xs failed))

-- where nothing was, all find what the others find
pub goes_on : (xs ys : List Test) (first second : Option Law) → first ≡ broken xs → is_some first ≡ false → second ≡ broken ys → second ≡ broken (xs ++ ys)
goes_on xs ys first second of_xs passed of_ys = let P : Option Law → Type 0 = λ o. is_some o ≡ false in of_ys ∙ sym (none_first xs ys (subst P of_xs passed))
