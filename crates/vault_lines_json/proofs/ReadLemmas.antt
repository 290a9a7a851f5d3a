-- Readings of members: what they give, or which refusals.
use Rattle.std.proofs.Common.{◌≡◌, ◌≢◌, ℕ, Bool, true, false, List, refl, inl, inr}
use Rattle.std.specs.Prelude.{◌⊎◌, ◌&&◌, IsTrue, Option, Some, None, is_some, option_and_then, option_map, MatchOption, Result, Ok, Err}
use Rattle.std.specs.Option.{option_map_or}
use Rattle.std.specs.Result.{result_ok}
use Rattle.hex.specs.Hex.{decode_sized}
use Rattle.hex.specs.declared.error.FromHexError.{FromHexError}
use Rattle.serde_json.specs.Data.{unsigned, negative, float, Data, null, boolean, number, string, array, object, Items, no_items, item}
use Rattle.serde_json.specs.Find.{get, as_str, as_array}
use Rattle.vault_base.specs.declared.refusal.Refusal.{Refusal}
use Rattle.vault_base.specs.declared.refusal.Refusal.TheVariants.{MalformedBody}
use Rattle.vault_lines_json.specs.declared.members.Whole.{Whole}
use Rattle.vault_lines_json.specs.declared.members.Whole.TheVariants.{Negative, Natural}
use Rattle.vault_lines_json.specs.declared.shape.Kind.TheVariants.{Text, OptionalText, OptionalDigest, Number, OptionalNumber, OptionalFlag, Texts, Rules}
use Rattle.vault_values.specs.Fault.{◌>>=◌}
use Rattle.vault_lines_json.specs.Document.{or_malformed}
use Rattle.vault_lines_json.specs.Members as members
use Rattle.vault_lines_json.specs.Members.{as_digest, as_whole, as_texts, text_of, optional_text_of, optional_digest_of, whole_of, optional_whole_of, texts_of, items_of, flag, flag_of}
use Rattle.vault_lines_json.specs.Shape.{needed, optional, is_text, is_digest, is_number, is_flag, all_items, is_rule, fits}
use Rattle.vault_lines_json.specs.Spelling.{IsText, IsDigest, IsFlag, items_of_texts}

-- a reading gives what P says, or a refusal of a value
abbrev pub Reads : {A : Type 0} → (A → Type 0) → Result A Refusal → Type 0
Reads P (Ok a) = P a
Reads P (Err e) = e ≢ MalformedBody

pub reads-then : {A B : Type 0} (P : A → Type 0) (Q : B → Type 0) (x : Result A Refusal) (f : A → Result B Refusal) → Reads P x → ((a : A) → P a → Reads Q (f a)) → Reads Q (x >>= f)
reads-then P Q (Ok a) f r next = next a r
reads-then P Q (Err e) f r next = r

pub reads-as : {A : Type 0} (P Q : A → Type 0) (x : Result A Refusal) → Reads P x → ((a : A) → P a → Q a) → Reads Q x
reads-as P Q (Ok a) r next = next a r
reads-as P Q (Err e) r next = r

-- ---- members of a kind

text-found : (found : Option Data) → needed is_text found ≡ true → Reads (λ text. found ≡ Some (string text)) (members.needed as_str found)
text-found None e = absurd cc
text-found (Some null) e = absurd cc
text-found (Some (boolean b)) e = absurd cc
text-found (Some (number n)) e = absurd cc
text-found (Some (string s)) e = refl
text-found (Some (array ds)) e = absurd cc
text-found (Some (object ms)) e = absurd cc

pub reads-text : (name : List ℕ) (d : Data) → IsTrue (fits Text (get name d)) → Reads (IsText d name) (text_of name d)
unfolding text_of
reads-text name d fit = text-found (get name d) fit

optional-text-found : (found : Option Data) → optional is_text found ≡ true → Reads (λ text. found ≡ option_map string text) (members.optional as_str found)
optional-text-found None e = refl
optional-text-found (Some null) e = absurd cc
optional-text-found (Some (boolean b)) e = absurd cc
optional-text-found (Some (number n)) e = absurd cc
optional-text-found (Some (string s)) e = refl
optional-text-found (Some (array ds)) e = absurd cc
optional-text-found (Some (object ms)) e = absurd cc

pub reads-optional-text : (name : List ℕ) (d : Data) → IsTrue (fits OptionalText (get name d)) → Reads (λ text. get name d ≡ option_map string text) (optional_text_of name d)
unfolding optional_text_of
reads-optional-text name d fit = optional-text-found (get name d) fit

optional-digest-found : (found : Option Data) → optional is_digest found ≡ true → Reads (λ digest. MatchOption digest (found ≡ None) (λ digest. (digits : List ℕ) × (found ≡ Some (string digits)) × (decode_sized digits 32 ≡ Ok digest))) (members.optional as_digest found)
optional-digest-found None e = refl
optional-digest-found (Some null) e = absurd cc
optional-digest-found (Some (boolean b)) e = absurd cc
optional-digest-found (Some (number n)) e = absurd cc
optional-digest-found (Some (string s)) e = written (decode_sized s 32) refl e
  where
    written : (x : Result (List ℕ) FromHexError) → decode_sized s 32 ≡ x → is_some (result_ok x) ≡ true → Reads (λ digest. MatchOption digest (Some (string s) ≡ None) (λ digest. (digits : List ℕ) × (Some (string s) ≡ Some (string digits)) × (decode_sized digits 32 ≡ Ok digest))) (or_malformed (option_and_then (λ d. Some (Some d)) (result_ok x)))
    written (Ok digest) is e = (s, refl, is)
    written (Err error) is e = absurd cc
optional-digest-found (Some (array ds)) e = absurd cc
optional-digest-found (Some (object ms)) e = absurd cc

pub reads-optional-digest : (name : List ℕ) (d : Data) → IsTrue (fits OptionalDigest (get name d)) → Reads (λ digest. MatchOption digest (get name d ≡ None) (IsDigest d name)) (optional_digest_of name d)
unfolding optional_digest_of
reads-optional-digest name d fit = optional-digest-found (get name d) fit

-- what is found is that number, where it isn't below 0
abbrev pub IsWhole : Option Data → Whole → Type 0
IsWhole found (Natural n) = found ≡ Some (number (unsigned n))
IsWhole found Negative = IsTrue (is_some found)

whole-found : (found : Option Data) → needed is_number found ≡ true → Reads (IsWhole found) (members.needed as_whole found)
whole-found None e = absurd cc
whole-found (Some null) e = absurd cc
whole-found (Some (boolean b)) e = absurd cc
whole-found (Some (number (unsigned n))) e = refl
whole-found (Some (number (negative z))) e = refl
whole-found (Some (number (float x))) e = absurd cc
whole-found (Some (string s)) e = absurd cc
whole-found (Some (array ds)) e = absurd cc
whole-found (Some (object ms)) e = absurd cc

pub reads-whole : (name : List ℕ) (d : Data) → IsTrue (fits Number (get name d)) → Reads (IsWhole (get name d)) (whole_of name d)
unfolding whole_of
reads-whole name d fit = whole-found (get name d) fit

optional-whole-found : (found : Option Data) → optional is_number found ≡ true → Reads (λ whole. MatchOption whole (found ≡ None) (IsWhole found)) (members.optional as_whole found)
optional-whole-found None e = refl
optional-whole-found (Some null) e = absurd cc
optional-whole-found (Some (boolean b)) e = absurd cc
optional-whole-found (Some (number (unsigned n))) e = refl
optional-whole-found (Some (number (negative z))) e = refl
optional-whole-found (Some (number (float x))) e = absurd cc
optional-whole-found (Some (string s)) e = absurd cc
optional-whole-found (Some (array ds)) e = absurd cc
optional-whole-found (Some (object ms)) e = absurd cc

pub reads-optional-whole : (name : List ℕ) (d : Data) → IsTrue (fits OptionalNumber (get name d)) → Reads (λ whole. MatchOption whole (get name d ≡ None) (IsWhole (get name d))) (optional_whole_of name d)
unfolding optional_whole_of
reads-optional-whole name d fit = optional-whole-found (get name d) fit

flag-found : (found : Option Data) → optional is_flag found ≡ true → Reads (λ b. (found ≡ Some (boolean b)) ⊎ ((found ≡ None) × (b ≡ false))) (flag found)
flag-found None e = inr (refl, refl)
flag-found (Some null) e = absurd cc
flag-found (Some (boolean b)) e = inl refl
flag-found (Some (number n)) e = absurd cc
flag-found (Some (string s)) e = absurd cc
flag-found (Some (array ds)) e = absurd cc
flag-found (Some (object ms)) e = absurd cc

pub reads-flag : (name : List ℕ) (d : Data) → IsTrue (fits OptionalFlag (get name d)) → Reads (IsFlag d name) (flag_of name d)
unfolding flag_of
reads-flag name d fit = flag-found (get name d) fit

-- ---- lists

text-item : (d : Data) → is_text d ≡ true → Reads (λ text. d ≡ string text) (or_malformed (as_str d))
text-item null e = absurd cc
text-item (boolean b) e = absurd cc
text-item (number n) e = absurd cc
text-item (string s) e = refl
text-item (array ds) e = absurd cc
text-item (object ms) e = absurd cc

pub left-of : (a b : Bool) → a && b ≡ true → a ≡ true
left-of true b e = refl
left-of false b e = e

pub right-of : (a b : Bool) → a && b ≡ true → b ≡ true
right-of true b e = e
right-of false b e = absurd cc

text-items : (ds : Items) → all_items is_text ds ≡ true → Reads (λ texts. ds ≡ items_of_texts texts) (as_texts ds)
text-items no_items e = refl
text-items (item d ds) e =
    reads-then (λ text. d ≡ string text) _ (or_malformed (as_str d)) _ (text-item d (left-of (is_text d) _ e)) (λ text text_is.
    reads-then (λ texts. ds ≡ items_of_texts texts) _ (as_texts ds) _ (text-items ds (right-of (is_text d) _ e)) (λ texts texts_are.
    rw (text_is, texts_are) refl))

array-found : (test : Data → Bool) (found : Option Data) → needed (λ d. option_map_or (all_items test) (as_array d) false) found ≡ true → Reads (λ ds. (found ≡ Some (array ds)) × IsTrue (all_items test ds)) (members.needed as_array found)
array-found test None e = absurd cc
array-found test (Some null) e = absurd cc
array-found test (Some (boolean b)) e = absurd cc
array-found test (Some (number n)) e = absurd cc
array-found test (Some (string s)) e = absurd cc
array-found test (Some (array ds)) e = (refl, e)
array-found test (Some (object ms)) e = absurd cc

pub reads-texts : (name : List ℕ) (d : Data) → IsTrue (fits Texts (get name d)) → Reads (λ texts. get name d ≡ Some (array (items_of_texts texts))) (texts_of name d)
unfolding texts_of
reads-texts name d fit =
    reads-then _ _ (members.needed as_array (get name d)) as_texts (array-found is_text (get name d) fit) (λ ds ds_are.
    reads-as _ _ (as_texts ds) (text-items ds ds_are.1) (λ texts texts_are. rw (ds_are.0, texts_are) refl))

pub reads-items : (name : List ℕ) (d : Data) → IsTrue (fits Rules (get name d)) → Reads (λ ds. (get name d ≡ Some (array ds)) × IsTrue (all_items is_rule ds)) (items_of name d)
unfolding items_of
reads-items name d fit = array-found is_rule (get name d) fit
