-- The members of an object, each by its JSON type.
use Rattle.std.specs.Prelude.{ℕ, List, [], ◌∷◌, Bool, false, Option, Some, None, option_and_then, Result, Ok}
use Rattle.std.specs.Result.{result_ok}
use Rattle.hex.specs.Hex.{decode_sized}
use Rattle.serde_json.specs.Data.{Num, unsigned, negative, float, Data, Items, no_items, item}
use Rattle.serde_json.specs.Find.{get, as_str, as_bool, as_number, as_array}
use Rattle.vault_base.specs.declared.refusal.Refusal.{Refusal}
use Rattle.vault_lines_json.specs.declared.members.Whole.{Whole}
use Rattle.vault_lines_json.specs.declared.members.Whole.TheVariants.{Negative, Natural}
use Rattle.vault_values.specs.Fault.{◌>>=◌}
use Rattle.vault_lines_json.specs.Document.{or_malformed}

-- a member that must be there
abbrev pub needed : {A : Type 0} → (Data → Option A) → Option Data → Result A Refusal
needed read found = or_malformed (option_and_then read found)

-- a member that may be left out; null is no text and no number, so it isn't left out
abbrev pub optional : {A : Type 0} → (Data → Option A) → Option Data → Result (Option A) Refusal
optional read None = Ok None
optional read (Some d) = or_malformed (option_and_then (λ x. Some (Some x)) (read d))

unfoldable pub text_of : List ℕ → Data → Result (List ℕ) Refusal
text_of name d = needed as_str (get name d)

unfoldable pub optional_text_of : List ℕ → Data → Result (Option (List ℕ)) Refusal
optional_text_of name d = optional as_str (get name d)

-- a number with a point or an exponent isn't whole, and neither is -0 or one beyond 64 bits
abbrev pub whole_number : Num → Option Whole
whole_number (unsigned n) = Some (Natural n)
whole_number (negative z) = Some Negative
whole_number (float x) = None

abbrev pub as_whole : Data → Option Whole
as_whole d = option_and_then whole_number (as_number d)

unfoldable pub whole_of : List ℕ → Data → Result Whole Refusal
whole_of name d = needed as_whole (get name d)

unfoldable pub optional_whole_of : List ℕ → Data → Result (Option Whole) Refusal
optional_whole_of name d = optional as_whole (get name d)

-- the digest that 64 hex digits write, in either letter case
abbrev pub digest_written : List ℕ → Option (List ℕ)
digest_written text = result_ok (decode_sized text 32)

abbrev pub as_digest : Data → Option (List ℕ)
as_digest d = option_and_then digest_written (as_str d)

unfoldable pub optional_digest_of : List ℕ → Data → Result (Option (List ℕ)) Refusal
optional_digest_of name d = optional as_digest (get name d)

-- the texts that all items are
abbrev pub as_texts : Items → Result (List (List ℕ)) Refusal
as_texts no_items = Ok []
as_texts (item d ds) = do
  text ← or_malformed (as_str d)
  texts ← as_texts ds
  Ok (text ∷ texts)

unfoldable pub texts_of : List ℕ → Data → Result (List (List ℕ)) Refusal
texts_of name d = do
  items ← needed as_array (get name d)
  as_texts items

unfoldable pub items_of : List ℕ → Data → Result Items Refusal
items_of name d = needed as_array (get name d)

-- left out, it is false
abbrev pub flag : Option Data → Result Bool Refusal
flag None = Ok false
flag (Some d) = or_malformed (as_bool d)

unfoldable pub flag_of : List ℕ → Data → Result Bool Refusal
flag_of name d = flag (get name d)
