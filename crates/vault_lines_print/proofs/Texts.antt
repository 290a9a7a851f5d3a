-- The compact text of a value has no LF, and that of an object ends with its brace.
use Rattle.std.proofs.Common.{◌≡◌, ◌≢◌, ◌+◌, ℕ, zero, suc, Bool, true, false, cond, List, [], ◌∷◌, ◌++◌, refl, ◌∙◌, ap, subst, append_assoc, arith}
use Rattle.std.specs.Prelude.{◌/◌, ◌%◌, ◌==◌, ◌||◌, ℤ, pos, negsuc, nat_lt, if◌then◌else◌, decimal}
use Rattle.std.specs.Char.{digit_char}
use Rattle.std.specs.Fmt.{digit_glyph, digits, digits_onto, signed_decimal}
use Rattle.std.proofs.lemmas.Bool.{ltb-false}
use Rattle.std.proofs.lemmas.List.Elements.{All-from_recursion}
use Rattle.std.specs.List.{AllByRecursion}
use Rattle.json.specs.Print.{escape, escape_byte, escape_letter, quoted}
use Rattle.serde_json.specs.Data.{Data, null, boolean, number, string, array, object, unsigned, negative, float, Items, no_items, item, Members, no_members, member}
use Rattle.serde_json.specs.Written.{compact_text, comma_if, items_text, members_text}
use Rattle.vault_lines_print.specs.Lines.{HasNoLf}

abbrev NoLfs : List ℕ → Type 0
NoLfs bytes = AllByRecursion (λ b. b ≢ 10) bytes

joined : (a b : List ℕ) → NoLfs a → NoLfs b → NoLfs (a ++ b)
joined [] b h later = later
joined (x ∷ a) b h later = (h.0, joined a b h.1 later)

-- ---- what stands in a string

picked : (b : Bool) (n rest : ℕ) → n ≢ 10 → rest ≢ 10 → cond b n rest ≢ 10
picked true n rest e f = e
picked false n rest e f = f

as-it-is : (x : ℕ) (b : Bool) (rest : ℕ) → ((x == 34) || (x == 92)) ≡ b → rest ≢ 10 → cond b x rest ≢ 10
as-it-is x true rest e f = λ h. let g : false ≡ true = subst (λ n. ((n == 34) || (n == 92)) ≡ true) h e in cc
as-it-is x false rest e f = f

letter : (x : ℕ) → escape_letter x ≢ 10
letter x =
    as-it-is x ((x == 34) || (x == 92)) _ refl
    (picked (x == 8) 98 _ (omega arith)
    (picked (x == 12) 102 _ (omega arith)
    (picked (x == 10) 110 _ (omega arith)
    (picked (x == 13) 114 _ (omega arith)
    (picked (x == 9) 116 0 (omega arith) (omega arith))))))

digit : (d : ℕ) → digit_char d ≢ 10
digit d = picked (nat_lt d 10) (48 + d) (87 + d) (omega arith) (omega arith)

escaped-as : (x : ℕ) (b c : Bool) → nat_lt x 32 ≡ c → NoLfs (cond b (92 ∷ escape_letter x ∷ []) (cond c (92 ∷ 117 ∷ 48 ∷ 48 ∷ digit_char (x / 16) ∷ digit_char (x % 16) ∷ []) (x ∷ [])))
escaped-as x true c e = (omega arith, (letter x, tt))
escaped-as x false true e = (omega arith, (omega arith, (omega arith, (omega arith, (digit (x / 16), (digit (x % 16), tt))))))
escaped-as x false false e = let high = ltb-false x 32 e in (omega arith, tt)

escaped-byte : (x : ℕ) → NoLfs (escape_byte x)
unfolding escape_byte
escaped-byte x = escaped-as x (nat_lt 0 (escape_letter x)) (nat_lt x 32) refl

escaped : (s : List ℕ) → NoLfs (escape s)
escaped [] = tt
escaped (x ∷ s) = joined (escape_byte x) (escape s) (escaped-byte x) (escaped s)

in-quotes : (s : List ℕ) → NoLfs (quoted s)
in-quotes s = (omega arith, joined (escape s) (34 ∷ []) (escaped s) (omega arith, tt))

-- ---- numbers

either : (b : Bool) (xs ys : List ℕ) → NoLfs xs → NoLfs ys → NoLfs (if b then xs else ys)
either true xs ys h k = h
either false xs ys h k = k

chosen : (b : Bool) (n rest : ℕ) → n ≢ 10 → rest ≢ 10 → (if b then n else rest) ≢ 10
chosen true n rest e f = e
chosen false n rest e f = f

glyph : (d : ℕ) → digit_glyph false d ≢ 10
glyph d = chosen (nat_lt d 10) (48 + d) (87 + d) (omega arith) (omega arith)

digits-before : (k base n : ℕ) (acc : List ℕ) → NoLfs acc → NoLfs (digits_onto k base false n acc)
digits-before zero base n acc h = h
digits-before (suc k) base n acc h =
    either (n / base == 0) (digit_glyph false (n % base) ∷ acc) (digits_onto k base false (n / base) (digit_glyph false (n % base) ∷ acc))
    (glyph (n % base), h)
    (digits-before k base (n / base) (digit_glyph false (n % base) ∷ acc) (glyph (n % base), h))

in-decimal : (n : ℕ) → NoLfs (decimal n)
unfolding digits
in-decimal n = digits-before 64 10 n [] tt

in-signed : (z : ℤ) → NoLfs (signed_decimal z)
in-signed (pos n) = in-decimal n
in-signed (negsuc n) = (omega arith, in-decimal (suc n))

-- ---- values

comma : (later : Bool) → NoLfs (comma_if later)
comma true = (omega arith, tt)
comma false = tt

mutual
  in-value : (d : Data) → NoLfs (compact_text d)
  in-value null = (omega arith, (omega arith, (omega arith, (omega arith, tt))))
  in-value (boolean true) = (omega arith, (omega arith, (omega arith, (omega arith, tt))))
  in-value (boolean false) = (omega arith, (omega arith, (omega arith, (omega arith, (omega arith, tt)))))
  in-value (number (unsigned n)) = in-decimal n
  in-value (number (negative z)) = in-signed z
  in-value (number (float x)) = tt
  in-value (string s) = in-quotes s
  in-value (array ds) = (omega arith, in-items false ds)
  in-value (object ms) = (omega arith, in-members false ms)

  in-items : (later : Bool) (ds : Items) → NoLfs (items_text later ds)
  in-items later no_items = (omega arith, tt)
  in-items later (item d ds) =
      joined (comma_if later) (compact_text d ++ items_text true ds) (comma later)
      (joined (compact_text d) (items_text true ds) (in-value d) (in-items true ds))

  in-members : (later : Bool) (ms : Members) → NoLfs (members_text later ms)
  in-members later no_members = (omega arith, tt)
  in-members later (member k d ms) =
      joined (comma_if later) (quoted k ++ 58 ∷ (compact_text d ++ members_text true ms)) (comma later)
      (joined (quoted k) (58 ∷ (compact_text d ++ members_text true ms)) (in-quotes k)
      (omega arith, joined (compact_text d) (members_text true ms) (in-value d) (in-members true ms)))

pub no-lf : (d : Data) → HasNoLf (compact_text d)
no-lf d = All-from_recursion (λ b. b ≢ 10) (compact_text d) (in-value d)

-- the text of an object ends with a brace
pub ends-with-brace : (later : Bool) (ms : Members) → (front : List ℕ) × (members_text later ms ≡ front ++ 125 ∷ [])
ends-with-brace later no_members = ([], refl)
ends-with-brace later (member k d ms) =
    let rest = ends-with-brace true ms in
    (comma_if later ++ (quoted k ++ 58 ∷ (compact_text d ++ rest.0)), ap (λ text. comma_if later ++ (quoted k ++ 58 ∷ (compact_text d ++ text))) rest.1 ∙ simp append_assoc)
