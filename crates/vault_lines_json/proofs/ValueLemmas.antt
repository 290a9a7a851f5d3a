-- Values that are read from members of their kinds: a refusal of theirs is no fault of shape, and what they are.
use Rattle.std.proofs.Common.{◌≡◌, ◌≢◌, ◌<◌, ℕ, Bool, true, false, List, [], ◌∷◌, length, refl, sym, ◌∙◌, ap, inl, inr, codes, arith}
use Rattle.std.specs.Prelude.{nat_lt, if◌then◌else◌, IsTrue, Option, Some, None, is_some, option_map, MatchOption, Result, Ok, Err}
use Rattle.std.proofs.lemmas.Grind.{common_steps}
use Rattle.hex.specs.Hex.{decode_of}
use Rattle.serde_json.specs.Data.{Data, string, number, unsigned}
use Rattle.serde_json.specs.Find.{get}
use Rattle.vault_base.specs.Moment.{moment_of}
use Rattle.vault_base.specs.Name.{fault_of_size, is_bucket_name, is_object_key, is_key_prefix, is_plain_name, is_version_id}
use Rattle.vault_base.specs.Right.{right_of}
use Rattle.vault_base.specs.MomentFault.{MomentFault}
use Rattle.vault_base.specs.MomentFault.TheVariants as moment
use Rattle.vault_base.specs.declared.name.NameFault.{NameFault}
use Rattle.vault_base.specs.declared.name.NameFault.TheVariants.{Empty, TooLong, Form}
use Rattle.vault_base.specs.declared.refusal.Refusal.{Refusal}
use Rattle.vault_base.specs.declared.refusal.Refusal.TheVariants.{InvalidArgument, MalformedBody}
use Rattle.vault_base.specs.declared.right.Right.{Right}
use Rattle.vault_core_model.specs.Rights.{no_rights, with_right}
use Rattle.vault_core_model.specs.declared.rights.Rights.{Rights}
use Rattle.vault_lines_json.specs.declared.members.Whole.{Whole}
use Rattle.vault_lines_json.specs.declared.members.Whole.TheVariants.{Negative, Natural}
use Rattle.vault_lines_json.specs.declared.shape.Kind.TheVariants.{Text, OptionalText, OptionalDigest, Number, OptionalNumber, Texts}
use Rattle.vault_values.specs.Fault.{◌>>=◌, or_refused, or_invalid, if_given}
use Rattle.vault_lines_json.specs.Members.{text_of, optional_text_of, optional_digest_of, whole_of, optional_whole_of, texts_of}
use Rattle.vault_lines_json.specs.Shape.{fits, has_one_content, write_one}
use Rattle.vault_lines_json.specs.Spelling.{IsAbsent, IsText, IsName, IsBucket, IsKey, IsPrefix, IsMoment, IsSmall, IsOptionalSmall, IsId, IsOptionalId, IsRights, IsDigest, IsContent}
use Rattle.vault_values.specs.Named.{or_clock_refusal, or_key_refusal, name_of, prefix_named, prefix_if}
use Rattle.vault_values.specs.Rights.{with_rights_of, rights_named}
use Rattle.vault_lines_json.specs.Values.{reading_of, asker_of, caller_of, dept_of, optional_dept_of, batch_of, bucket_of, key_of, prefix_of, below, number_of, optional_number_of, version_of, id_of, optional_id_of, rights_of, inside_of, external_of, content_written, content_of}
use Rattle.vault_lines_json.proofs.ReadLemmas.{Reads, reads-then, reads-as, IsWhole, reads-text, reads-optional-text, reads-optional-digest, reads-whole, reads-optional-whole, reads-texts}
use Rattle.vault_lines_json.proofs.RightsLemmas.{is-rights}

-- ---- texts

-- what passes a test is read as it is
checked : {E : Type 0} (test : List ℕ → Bool) (fault : E) (r : Refusal) (b : Bool) (text : List ℕ) → r ≢ MalformedBody → test text ≡ b → Reads (λ value. (text ≡ value) × IsTrue (test value)) (or_refused r (let x : Result (List ℕ) E = if b then Ok text else Err fault in x))
checked test fault r true text other e = (refl, e)
checked test fault r false text other e = other

reads-name : (text : List ℕ) → Reads (λ value. (text ≡ value) × IsTrue (is_plain_name value)) (name_of text)
unfolding name_of
reads-name text = checked is_plain_name _ _ (is_plain_name text) text (λ h. cc) refl

-- a text that is read, and what is said of it
pub reads-from-text : (P : List ℕ → Type 0) (name : List ℕ) (d : Data) (f : List ℕ → Result (List ℕ) Refusal) → IsTrue (fits Text (get name d)) → ((text : List ℕ) → Reads (λ value. (text ≡ value) × P value) (f text)) → Reads (λ value. IsText d name value × P value) (text_of name d >>= f)
reads-from-text P name d f fit of_text =
    reads-then (IsText d name) _ (text_of name d) f (reads-text name d fit) (λ text text_is.
    reads-as _ _ (f text) (of_text text) (λ value value_is. (text_is ∙ ap (λ t. Some (string t)) value_is.0, value_is.1)))

pub reads-asker : (d : Data) → IsTrue (fits Text (get (codes "as") d)) → Reads (IsName d (codes "as")) (asker_of d)
unfolding asker_of
reads-asker d fit = reads-from-text (λ value. IsTrue (is_plain_name value)) (codes "as") d _ fit (λ text. checked is_plain_name _ _ (is_plain_name text) text (λ h. cc) refl)

pub reads-caller : (d : Data) → IsTrue (fits Text (get (codes "caller") d)) → Reads (IsName d (codes "caller")) (caller_of d)
unfolding caller_of
reads-caller d fit = reads-from-text (λ value. IsTrue (is_plain_name value)) (codes "caller") d name_of fit reads-name

pub reads-dept : (d : Data) → IsTrue (fits Text (get (codes "dept") d)) → Reads (IsName d (codes "dept")) (dept_of d)
unfolding dept_of
reads-dept d fit = reads-from-text (λ value. IsTrue (is_plain_name value)) (codes "dept") d name_of fit reads-name

pub reads-batch : (d : Data) → IsTrue (fits Text (get (codes "batch") d)) → Reads (IsName d (codes "batch")) (batch_of d)
unfolding batch_of
reads-batch d fit = reads-from-text (λ value. IsTrue (is_plain_name value)) (codes "batch") d name_of fit reads-name

pub reads-bucket : (d : Data) → IsTrue (fits Text (get (codes "bucket") d)) → Reads (IsBucket d) (bucket_of d)
unfolding bucket_of
reads-bucket d fit = reads-from-text (λ value. IsTrue (is_bucket_name value)) (codes "bucket") d _ fit (λ text. checked is_bucket_name _ _ (is_bucket_name text) text (λ h. cc) refl)

key-fault : (size most : ℕ) → Reads {A = List ℕ} (λ _. ⊥) (or_key_refusal (Err (fault_of_size size most)))
key-fault size most = of-fault (fault_of_size size most)
  where
    of-fault : (fault : NameFault) → Reads {A = List ℕ} (λ _. ⊥) (or_key_refusal (Err fault))
    of-fault Empty = λ h. cc
    of-fault TooLong = λ h. cc
    of-fault Form = λ h. cc

key-checked : (test : List ℕ → Bool) (most : ℕ) (b : Bool) (text : List ℕ) (size : ℕ) → test text ≡ b → Reads (λ value. (text ≡ value) × IsTrue (test value)) (or_key_refusal (if b then Ok text else Err (fault_of_size size most)))
key-checked test most true text size e = (refl, e)
key-checked test most false text size e = key-fault size most

pub reads-key : (d : Data) → IsTrue (fits Text (get (codes "key") d)) → Reads (IsKey d) (key_of d)
unfolding key_of
reads-key d fit = reads-from-text (λ value. IsTrue (is_object_key value)) (codes "key") d _ fit (λ text. key-checked is_object_key 1024 (is_object_key text) text (length text) refl)

-- ---- what may be left out

pub reads-if-given : {A B : Type 0} (P : A → Type 0) (Q : B → Type 0) (None-is : Type 0) (f : A → Result B Refusal) (o : Option A) → MatchOption o None-is P → ((a : A) → P a → Reads Q (f a)) → Reads (λ b. MatchOption b None-is Q) (if_given f o)
reads-if-given P Q N f None e next = e
reads-if-given P Q N f (Some a) e next = reads-then Q _ (f a) _ (next a e) (λ b b_is. b_is)

given-text : (name : List ℕ) (d : Data) (o : Option (List ℕ)) → get name d ≡ option_map string o → MatchOption o (IsAbsent d name) (IsText d name)
given-text name d None e = e
given-text name d (Some text) e = e

pub reads-optional-dept : (d : Data) → IsTrue (fits OptionalText (get (codes "dept") d)) → Reads (λ dept. MatchOption dept (IsAbsent d (codes "dept")) (λ dept. IsName d (codes "dept") dept)) (optional_dept_of d)
unfolding optional_dept_of
reads-optional-dept d fit =
    reads-then _ _ (optional_text_of (codes "dept") d) _ (reads-optional-text (codes "dept") d fit) (λ o o_is.
    reads-if-given (IsText d (codes "dept")) (λ dept. IsName d (codes "dept") dept) _ name_of o (given-text (codes "dept") d o o_is) (λ text text_is.
    reads-as _ _ (name_of text) (reads-name text) (λ value value_is. (text_is ∙ ap (λ t. Some (string t)) value_is.0, value_is.1))))

prefix-named : (text : List ℕ) → Reads (λ value. (text ≡ value) × IsTrue (is_key_prefix value)) (prefix_named text)
unfolding prefix_named
prefix-named text = key-checked is_key_prefix 1024 (is_key_prefix text) text (length text) refl

prefix-if : (name : List ℕ) (d : Data) (o : Option (List ℕ)) → get name d ≡ option_map string o → Reads (IsPrefix d name) (prefix_if o)
prefix-if name d None e = reads-as _ _ (prefix_named []) (prefix-named []) (λ value value_is. inr (e, sym value_is.0))
prefix-if name d (Some text) e = reads-as _ _ (prefix_named text) (prefix-named text) (λ value value_is. inl (e ∙ ap (λ t. Some (string t)) value_is.0, value_is.1))

pub reads-prefix : (name : List ℕ) (d : Data) → IsTrue (fits OptionalText (get name d)) → Reads (IsPrefix d name) (prefix_of name d)
unfolding prefix_of
reads-prefix name d fit =
    reads-then _ _ (optional_text_of name d) prefix_if (reads-optional-text name d fit) (λ o o_is. prefix-if name d o o_is)

-- ---- moments

clock-read : (x : Result ℕ MomentFault) → Reads (λ at. x ≡ Ok at) (or_clock_refusal x)
clock-read (Ok at) = refl
clock-read (Err moment.Form) = λ h. cc
clock-read (Err moment.Range) = λ h. cc

pub reads-reading : (d : Data) → IsTrue (fits Text (get (codes "at") d)) → Reads (IsMoment d (codes "at")) (reading_of d)
unfolding reading_of
reads-reading d fit =
    reads-then (IsText d (codes "at")) _ (text_of (codes "at") d) _ (reads-text (codes "at") d fit) (λ text text_is.
    reads-as _ _ (or_clock_refusal (moment_of text)) (clock-read (moment_of text)) (λ at at_is. (text, text_is, at_is)))

-- ---- numbers

below-checked : (limit : ℕ) (b : Bool) (n : ℕ) → nat_lt n limit ≡ b → Reads (λ m. (n ≡ m) × (m < limit)) (let x : Result ℕ Refusal = if b then Ok n else Err InvalidArgument in x)
below-checked limit true n e = (refl, grind (arith, common_steps))
below-checked limit false n e = λ h. cc

pub reads-below : (limit : ℕ) (found : Option Data) (w : Whole) → IsWhole found w → Reads (λ n. (found ≡ Some (number (unsigned n))) × (n < limit)) (below limit w)
unfolding below
reads-below limit found Negative e = λ h. cc
reads-below limit found (Natural n) e = reads-as (λ m. (n ≡ m) × (m < limit)) (λ m. (found ≡ Some (number (unsigned m))) × (m < limit)) (let x : Result ℕ Refusal = if nat_lt n limit then Ok n else Err InvalidArgument in x) (below-checked limit (nat_lt n limit) n refl) (λ m m_is. (e ∙ ap (λ n. Some (number (unsigned n))) m_is.0, m_is.1))

pub reads-number : (name : List ℕ) (d : Data) → IsTrue (fits Number (get name d)) → Reads (IsSmall d name) (number_of name d)
unfolding number_of
reads-number name d fit =
    reads-then (IsWhole (get name d)) _ (whole_of name d) _ (reads-whole name d fit) (λ w w_is. reads-below 4294967296 (get name d) w w_is)

pub reads-optional-number : (name : List ℕ) (d : Data) → IsTrue (fits OptionalNumber (get name d)) → Reads (IsOptionalSmall d name) (optional_number_of name d)
unfolding optional_number_of
reads-optional-number name d fit =
    reads-then _ _ (optional_whole_of name d) _ (reads-optional-whole name d fit) (λ o o_is.
    reads-if-given (IsWhole (get name d)) (λ n. IsSmall d name n) _ (below 4294967296) o o_is (λ w w_is. reads-below 4294967296 (get name d) w w_is))

version-checked : (b : Bool) (n : ℕ) → is_version_id n ≡ b → Reads (λ m. (n ≡ m) × IsTrue (is_version_id m)) (let x : Result ℕ Refusal = if b then Ok n else Err InvalidArgument in x)
version-checked true n e = (refl, e)
version-checked false n e = λ h. cc

reads-version : (name : List ℕ) (d : Data) (w : Whole) → IsWhole (get name d) w → Reads (IsId d name) (version_of w)
unfolding version_of
reads-version name d Negative e = λ h. cc
reads-version name d (Natural n) e = reads-as (λ m. (n ≡ m) × IsTrue (is_version_id m)) (IsId d name) (let x : Result ℕ Refusal = if is_version_id n then Ok n else Err InvalidArgument in x) (version-checked (is_version_id n) n refl) (λ m m_is. (e ∙ ap (λ n. Some (number (unsigned n))) m_is.0, m_is.1))

pub reads-id : (d : Data) → IsTrue (fits Number (get (codes "id") d)) → Reads (IsId d (codes "id")) (id_of d)
unfolding id_of
reads-id d fit =
    reads-then (IsWhole (get (codes "id") d)) _ (whole_of (codes "id") d) _ (reads-whole (codes "id") d fit) (λ w w_is. reads-version (codes "id") d w w_is)

pub reads-optional-id : (name : List ℕ) (d : Data) → IsTrue (fits OptionalNumber (get name d)) → Reads (IsOptionalId d name) (optional_id_of name d)
unfolding optional_id_of
reads-optional-id name d fit =
    reads-then _ _ (optional_whole_of name d) _ (reads-optional-whole name d fit) (λ o o_is.
    reads-if-given (IsWhole (get name d)) (λ n. IsId d name n) _ version_of o o_is (λ w w_is. reads-version name d w w_is))

-- ---- rights and contents

with-one : (names : List (List ℕ)) (rights : Rights) (found : Option Right) → ((right : Right) → Reads (λ result. with_rights_of names (with_right right rights) ≡ Ok result) (with_rights_of names (with_right right rights))) → Reads (λ result. (or_invalid found >>= (λ right. with_rights_of names (with_right right rights))) ≡ Ok result) (or_invalid found >>= (λ right. with_rights_of names (with_right right rights)))
with-one names rights None later = λ h. cc
with-one names rights (Some right) later = later right

with-rights : (names : List (List ℕ)) (rights : Rights) → Reads (λ result. with_rights_of names rights ≡ Ok result) (with_rights_of names rights)
with-rights [] rights = refl
with-rights (name ∷ names) rights = with-one names rights (right_of name) (λ right. with-rights names (with_right right rights))

rights-named : (names : List (List ℕ)) → Reads (λ result. rights_named names ≡ Ok result) (rights_named names)
unfolding rights_named
rights-named names = with-rights names no_rights

pub reads-rights : (d : Data) → IsTrue (fits Texts (get (codes "rights") d)) → Reads (IsRights d) (rights_of d)
unfolding rights_of
reads-rights d fit =
    reads-then _ _ (texts_of (codes "rights") d) rights_named (reads-texts (codes "rights") d fit) (λ names names_are.
    reads-as _ _ (rights_named names) (rights-named names) (λ rights rights_are.
    (names, names_are, (is-rights names rights rights_are).0, (is-rights names rights rights_are).1)))

hex-read : {E : Type 0} (x : Result (List ℕ) E) → Reads (λ bytes. x ≡ Ok bytes) (or_refused InvalidArgument x)
hex-read (Ok bytes) = refl
hex-read (Err e) = λ h. cc

-- a content is written by those of its members that are there
there : {A : Type 0} (P : A → Type 0) (found : Option Data) (o : Option A) → MatchOption o (found ≡ None) P → ((a : A) → P a → IsTrue (is_some found)) → is_some o ≡ is_some found
there P found None e some = rw e refl
there P found (Some a) e some = sym (some a e)

text-there : (found : Option Data) (o : Option (List ℕ)) → found ≡ option_map string o → is_some o ≡ is_some found
text-there found None e = rw e refl
text-there found (Some text) e = rw e refl

whole-there : (found : Option Data) (w : Whole) → IsWhole found w → IsTrue (is_some found)
whole-there found Negative e = e
whole-there found (Natural n) e = rw e refl

content-read : (d : Data) (text hex digest : Option (List ℕ)) (size : Option Whole) → get (codes "text") d ≡ option_map string text → get (codes "hex") d ≡ option_map string hex → MatchOption digest (get (codes "sha256") d ≡ None) (IsDigest d (codes "sha256")) → MatchOption size (get (codes "size") d ≡ None) (IsWhole (get (codes "size") d)) → write_one (is_some text) (is_some hex) (is_some digest) (is_some size) ≡ true → Reads (IsContent d) (content_written text hex digest size)
unfolding content_written inside_of external_of
content-read d (Some t) None None None e f g h one = (inl (e, f), g, h)
content-read d None (Some digits) None None e f g h one =
    reads-then _ _ (or_refused InvalidArgument (decode_of digits)) _ (hex-read (decode_of digits)) (λ bytes bytes_are. (inr (e, (digits, f, bytes_are)), g, h))
content-read d None None (Some digest) (Some Negative) e f g h one = λ h. cc
content-read d None None (Some digest) (Some (Natural n)) e f g h one = (e, f, g, h)
content-read d text hex digest size e f g h one = absurd cc

pub reads-content : (d : Data) → IsTrue (fits OptionalText (get (codes "text") d)) → IsTrue (fits OptionalText (get (codes "hex") d)) → IsTrue (fits OptionalDigest (get (codes "sha256") d)) → IsTrue (fits OptionalNumber (get (codes "size") d)) → IsTrue (has_one_content d) → Reads (IsContent d) (content_of d)
unfolding content_of
reads-content d text_fits hex_fits digest_fits size_fits one =
    reads-then _ _ (optional_text_of (codes "text") d) _ (reads-optional-text (codes "text") d text_fits) (λ text text_is.
    reads-then _ _ (optional_text_of (codes "hex") d) _ (reads-optional-text (codes "hex") d hex_fits) (λ hex hex_is.
    reads-then _ _ (optional_digest_of (codes "sha256") d) _ (reads-optional-digest (codes "sha256") d digest_fits) (λ digest digest_is.
    reads-then _ _ (optional_whole_of (codes "size") d) _ (reads-optional-whole (codes "size") d size_fits) (λ size size_is.
    content-read d text hex digest size text_is hex_is digest_is size_is
    (rw (text-there _ text text_is, text-there _ hex hex_is, there _ _ digest digest_is (λ a a_is. rw a_is.1 refl), there _ _ size size_is (whole-there _)) one)))))
