-- A certificate of destruction is of one entry alone, with its removal.
use Rattle.std.proofs.Common.{◌≡◌, ◌≢◌, ◌⊎◌, inl, inr, ℕ, Bool, true, false, IsTrue, ◌&&◌, List, [], ◌∷◌, ◌++◌, length, drop, slice_index, Option, Some, None, IfSome, codes, refl, sym, ap, ◌∙◌, append_assoc, arith, decimal, nat_le, length-append}
use Rattle.std.specs.Prelude.{not, ◌==◌}
use Rattle.std.specs.List.{list_all}
use Rattle.std.proofs.lemmas.Bool.{and_parts}
use Rattle.std.proofs.lemmas.Fmt.{decimal_injective}
use Rattle.std.proofs.lemmas.List.{append_cancel_left}
use Rattle.hex.specs.Hex.{encode_lower, lower_digits}
use Rattle.hex.proofs.HexLemmas.{length-encode_with}
use Rattle.sha2.specs.Sha256.{sha256}
use Rattle.sha2.proofs.Facts256.{length-sha256}
use Rattle.vault_base.specs.Moment.{moment_text}
use Rattle.vault_base.specs.Name.{character_count, has_bucket_ends, is_bucket_byte, is_bucket_name, is_from, is_key_prefix, is_object_key, is_plain_byte, is_plain_name, is_printable, is_rule_id}
use Rattle.vault_core_model.specs.declared.records.Author.{Author}
use Rattle.vault_core_model.specs.declared.records.Author.TheVariants as author
use Rattle.vault_core_model.specs.declared.records.Cause.{Cause}
use Rattle.vault_core_model.specs.declared.records.Cause.TheVariants as cause
use Rattle.vault_core_model.specs.declared.records.Entry.{Entry}
use Rattle.vault_core_model.specs.declared.records.Removal.{Removal}
use Rattle.vault_core_model.specs.declared.records.Tenure.{Tenure}
use Rattle.vault_files_texts.specs.Certificate.{body, cause_text, certificate_by, certificate_text, labelled, removal_lines, sealed, tenure_lines, version_lines}
use Rattle.vault_files_texts.specs.Removed.{author_text, cause_name, days_between, digest_text}
use Rattle.vault_files_events.specs.Typed.{IsAuthor, IsTyped}
use Rattle.vault_files_events.proofs.CellTexts.{IsDigest, same-author, same-digest}
use Rattle.vault_files_events.proofs.EventCells.{id-fits, made-removal}
use Rattle.vault_files_events.proofs.Lines.{IsOfOneLine, hex-of-one-line, joined, number-of-one-line, passing, same-after-label, same-backs, same-fronts, same-labelled, same-line}
use Rattle.vault_files_events.proofs.MomentTexts.{moment-length, same-moment}
use Rattle.vault_files_events.proofs.RegisterCells.{same-entry}

-- ---- values of one line

plain-line : (name : List ℕ) → IsTrue (is_plain_name name) → IsOfOneLine name
plain-line name is = passing is_plain_byte name refl (and_parts (is_from 1 64 (length name)) (list_all is_plain_byte name) is).1

rule-line : (rule : List ℕ) → IsTrue (is_rule_id rule) → IsOfOneLine rule
rule-line rule is = passing is_printable rule refl (and_parts (is_from 1 255 (character_count rule)) (list_all is_printable rule) is).1

bucket-line : (name : List ℕ) → IsTrue (is_bucket_name name) → IsOfOneLine name
bucket-line name is =
    let front = and_parts (is_from 3 63 (length name) && list_all is_bucket_byte name) (has_bucket_ends name) is in
    passing is_bucket_byte name refl (and_parts (is_from 3 63 (length name)) (list_all is_bucket_byte name) front.0).1

key-line : (key : List ℕ) → IsTrue (is_object_key key) → IsOfOneLine key
key-line key is =
    let prefix = and_parts (nat_le 1 (length key)) (is_key_prefix key) is in
    passing is_printable key refl (and_parts (nat_le (length key) 1024) (list_all is_printable key) prefix.1).1

digest-line : (digest : Option (List ℕ)) → IfSome digest IsDigest → IsOfOneLine (digest_text digest)
digest-line None is = tt
digest-line (Some digest) is = hex-of-one-line digest is.0

word : (text : List ℕ) → list_all (λ b. not (b == 10)) text ≡ true → IsOfOneLine text
word text is = passing (λ b. not (b == 10)) text refl is

author-line : (by : Author) → IsAuthor by → IsOfOneLine (author_text by)
author-line (author.Caller name) is = plain-line name is
author-line (author.Rule rule) is = joined (codes "rule ") rule (word (codes "rule ") refl) (rule-line rule is)

-- its name is that of a caller or a rule
abbrev IsCause : Cause → Type 0
IsCause c = IsTrue (is_plain_name (cause_name c)) ⊎ IsTrue (is_rule_id (cause_name c))

name-line : (name : List ℕ) → IsTrue (is_plain_name name) ⊎ IsTrue (is_rule_id name) → IsOfOneLine name
name-line name (inl plain) = plain-line name plain
name-line name (inr rule) = rule-line name rule

cause-line : (c : Cause) → IsCause c → IsOfOneLine (cause_text c)
cause-line (cause.Request name) is = joined (codes "request ") name (word (codes "request ") refl) (name-line name is)
cause-line (cause.Bypass name) is = joined (codes "bypass ") name (word (codes "bypass ") refl) (name-line name is)
cause-line (cause.Rule rule) is = joined (codes "rule ") rule (word (codes "rule ") refl) (name-line rule is)

byte : (i : ℕ) (x y : List ℕ) → x ≡ y → slice_index x i ≡ slice_index y i
byte i x y e = ap (λ l. slice_index l i) e

same-cause : (c d : Cause) → cause_text c ≡ cause_text d → c ≡ d
same-cause (cause.Request x) (cause.Request y) e = ap cause.Request (ap (drop 8) e)
same-cause (cause.Bypass x) (cause.Bypass y) e = ap cause.Bypass (ap (drop 7) e)
same-cause (cause.Rule x) (cause.Rule y) e = ap cause.Rule (ap (drop 5) e)
same-cause (cause.Request x) (cause.Bypass y) e = let first : 114 ≡ 98 = byte 0 _ _ e in absurd (omega (arith, first))
same-cause (cause.Request x) (cause.Rule y) e = let second : 101 ≡ 117 = byte 1 _ _ e in absurd (omega (arith, second))
same-cause (cause.Bypass x) (cause.Request y) e = let first : 98 ≡ 114 = byte 0 _ _ e in absurd (omega (arith, first))
same-cause (cause.Bypass x) (cause.Rule y) e = let first : 98 ≡ 114 = byte 0 _ _ e in absurd (omega (arith, first))
same-cause (cause.Rule x) (cause.Request y) e = let second : 117 ≡ 101 = byte 1 _ _ e in absurd (omega (arith, second))
same-cause (cause.Rule x) (cause.Bypass y) e = let first : 114 ≡ 98 = byte 0 _ _ e in absurd (omega (arith, first))

-- ---- the lines

-- the line of an admission, before its last part
admission-flat : (moment author rest : List ℕ) → ((moment ++ codes " by ") ++ author) ++ 10 ∷ rest ≡ moment ++ (codes " by " ++ (author ++ 10 ∷ rest))
admission-flat moment author rest = split moment (codes " by ") author (10 ∷ rest)
  where
    split : (a b c d : List ℕ) → ((a ++ b) ++ c) ++ d ≡ a ++ (b ++ (c ++ d))
    split a b c d = simp append_assoc

same-admission : (s t : ℕ) (a b : Author) (x y : List ℕ) → IsAuthor a → IsAuthor b
    → labelled (codes "admitted") (moment_text s ++ codes " by " ++ author_text a) ++ x ≡ labelled (codes "admitted") (moment_text t ++ codes " by " ++ author_text b) ++ y → (s ≡ t) × (a ≡ b) × (x ≡ y)
same-admission s t a b x y is own e =
    let line = same-after-label (codes "admitted") _ _ x y e in
    let parts = same-fronts (moment_text s) (moment_text t) _ _ (moment-length s ∙ sym (moment-length t)) (sym (admission-flat (moment_text s) (author_text a) x) ∙ (line ∙ admission-flat (moment_text t) (author_text b) y)) in
    let rest = same-line (author_text a) (author_text b) x y (author-line a is) (author-line b own) (ap (drop 4) parts.1) in
    (same-moment s t parts.0, same-author a b is own rest.0, rest.1)

same-removed : (s t : ℕ) (x y : List ℕ) → labelled (codes "removed") (moment_text s) ++ x ≡ labelled (codes "removed") (moment_text t) ++ y → (s ≡ t) × (x ≡ y)
same-removed s t x y e =
    let parts = same-fronts (moment_text s) (moment_text t) _ _ (moment-length s ∙ sym (moment-length t)) (same-after-label (codes "removed") (moment_text s) (moment_text t) x y e) in
    (same-moment s t parts.0, ap (drop 1) parts.1)

-- ---- what was destroyed

-- the lines on a version, and what is after them
abbrev version_text : Entry → List ℕ → List ℕ
version_text e rest =
    labelled (codes "version") (decimal e.id)
    ++ (labelled (codes "bucket") e.bucket
    ++ (labelled (codes "key") e.key
    ++ (labelled (codes "size") (decimal e.size)
    ++ (labelled (codes "sha256") (digest_text e.digest)
    ++ rest))))

record IsSameVersion (e f : Entry) (x y : List ℕ) : Type 0 where
  id : e.id ≡ f.id
  bucket : e.bucket ≡ f.bucket
  key : e.key ≡ f.key
  size : e.size ≡ f.size
  digest : e.digest ≡ f.digest
  rest : x ≡ y

same-version : (e f : Entry) (x y : List ℕ) → IsTyped e → IsTyped f → version_text e x ≡ version_text f y → IsSameVersion e f x y
same-version e f x y is own all =
    let id = same-labelled (codes "version") (decimal e.id) (decimal f.id) _ _ (number-of-one-line e.id (id-fits e.id is.id)) (number-of-one-line f.id (id-fits f.id own.id)) all in
    let bucket = same-labelled (codes "bucket") e.bucket f.bucket _ _ (bucket-line e.bucket is.bucket) (bucket-line f.bucket own.bucket) id.1 in
    let key = same-labelled (codes "key") e.key f.key _ _ (key-line e.key is.key) (key-line f.key own.key) bucket.1 in
    let size = same-labelled (codes "size") (decimal e.size) (decimal f.size) _ _ (number-of-one-line e.size is.size) (number-of-one-line f.size own.size) key.1 in
    let digest = same-labelled (codes "sha256") (digest_text e.digest) (digest_text f.digest) x y (digest-line e.digest is.digest) (digest-line f.digest own.digest) size.1 in
    record {
      id = decimal_injective e.id f.id (id-fits e.id is.id) (id-fits f.id own.id) id.0;
      bucket = bucket.0;
      key = key.0;
      size = decimal_injective e.size f.size is.size own.size size.0;
      digest = same-digest e.digest f.digest is.digest own.digest digest.0;
      rest = digest.1;
    }

-- ---- its admission and its removal

-- the lines on both, and what is after them
abbrev removal_text : Entry → Removal → List ℕ → List ℕ
removal_text e r rest =
    labelled (codes "admitted") (moment_text e.admitted ++ codes " by " ++ author_text e.by)
    ++ (labelled (codes "removed") (moment_text r.at)
    ++ (labelled (codes "cause") (cause_text r.cause)
    ++ (labelled (codes "days held") (decimal (days_between e.admitted r.at))
    ++ rest)))

record IsSameEnd (e f : Entry) (q r : Removal) (x y : List ℕ) : Type 0 where
  admitted : e.admitted ≡ f.admitted
  by : e.by ≡ f.by
  removal : q ≡ r
  rest : x ≡ y

same-days : (a b c d : ℕ) (x y : List ℕ) → a ≡ b → c ≡ d → labelled (codes "days held") (decimal (days_between a c)) ++ x ≡ labelled (codes "days held") (decimal (days_between b d)) ++ y → x ≡ y
same-days a b c d x y from end e =
    let same : days_between b d ≡ days_between a c = ap (λ n. days_between n d) (sym from) ∙ ap (days_between a) (sym end) in
    append_cancel_left (labelled (codes "days held") (decimal (days_between a c))) x y (e ∙ ap (λ n. labelled (codes "days held") (decimal n) ++ y) same)

same-end : (e f : Entry) (q r : Removal) (x y : List ℕ) → IsAuthor e.by → IsAuthor f.by → IsCause q.cause → IsCause r.cause → removal_text e q x ≡ removal_text f r y → IsSameEnd e f q r x y
same-end e f q r x y is own for why all =
    let admitted = same-admission e.admitted f.admitted e.by f.by _ _ is own all in
    let removed = same-removed q.at r.at _ _ admitted.2 in
    let cause = same-labelled (codes "cause") (cause_text q.cause) (cause_text r.cause) _ _ (cause-line q.cause for) (cause-line r.cause why) removed.1 in
    record {
      admitted = admitted.0;
      by = admitted.1;
      removal = made-removal q r removed.0 (same-cause q.cause r.cause cause.0);
      rest = same-days e.admitted f.admitted q.at r.at x y admitted.0 removed.0 cause.1;
    }

-- ---- the whole text

abbrev title : List ℕ
title = codes "CERTIFICATE OF DESTRUCTION" ++ 10 ∷ []

abbrev seal_line : List ℕ → List ℕ
seal_line text = labelled (codes "seal") (encode_lower (sha256 text))

nested : (top id bucket key size digest admitted removed cause days tenures seal : List ℕ) →
    (((top ++ ((((id ++ bucket) ++ key) ++ size) ++ digest)) ++ (((admitted ++ removed) ++ cause) ++ days)) ++ tenures) ++ seal
    ≡ top ++ (id ++ (bucket ++ (key ++ (size ++ (digest ++ (admitted ++ (removed ++ (cause ++ (days ++ (tenures ++ seal))))))))))
nested top id bucket key size digest admitted removed cause days tenures seal = simp append_assoc

in-lines : (e : Entry) (r : Removal) (ts : List Tenure) → sealed (body e r ts) ≡ title ++ version_text e (removal_text e r (tenure_lines r.at ts ++ seal_line (body e r ts)))
unfolding body version_lines removal_lines
in-lines e r ts =
    nested title (labelled (codes "version") (decimal e.id)) (labelled (codes "bucket") e.bucket) (labelled (codes "key") e.key) (labelled (codes "size") (decimal e.size)) (labelled (codes "sha256") (digest_text e.digest))
    (labelled (codes "admitted") (moment_text e.admitted ++ codes " by " ++ author_text e.by)) (labelled (codes "removed") (moment_text r.at)) (labelled (codes "cause") (cause_text r.cause))
    (labelled (codes "days held") (decimal (days_between e.admitted r.at))) (tenure_lines r.at ts) (seal_line (body e r ts))

seal-length : (s t : List ℕ) → length (seal_line s) ≡ length (seal_line t)
seal-length s t =
    let ended = λ (text : List ℕ). length-append (encode_lower (sha256 text)) (10 ∷ []) in
    let digits = λ (text : List ℕ). length-encode_with lower_digits (sha256 text) in
    omega (arith, ended s, ended t, digits s, digits t, length-sha256 s, length-sha256 t)

pub same-sealed : (e f : Entry) (q r : Removal) (ts us : List Tenure) → IsTyped e → IsTyped f → IsCause q.cause → IsCause r.cause → e.marker ≡ f.marker → e.removal ≡ Some q → f.removal ≡ Some r
    → sealed (body e q ts) ≡ sealed (body f r us) → (e ≡ f) × (tenure_lines q.at ts ≡ tenure_lines r.at us)
same-sealed e f q r ts us is own for why marker gone left whole =
    let below = append_cancel_left title _ _ (sym (in-lines e q ts) ∙ (whole ∙ in-lines f r us)) in
    let version = same-version e f _ _ is own below in
    let end = same-end e f q r _ _ is.by own.by for why version.rest in
    let tenures = same-backs (tenure_lines q.at ts) (tenure_lines r.at us) (seal_line (body e q ts)) (seal_line (body f r us)) (seal-length (body e q ts) (body f r us)) end.rest in
    (same-entry e f version.id version.bucket version.key marker version.size version.digest end.admitted end.by (gone ∙ (ap Some end.removal ∙ sym left)), tenures.0)

-- ---- certificates

by-markers : (m n : Bool) (o p : Option Removal) (e f : Entry) (ts us : List Tenure) → IsTyped e → IsTyped f → IfSome o (λ r. IsCause r.cause) → IfSome p (λ r. IsCause r.cause) → e.marker ≡ m → f.marker ≡ n → e.removal ≡ o → f.removal ≡ p
    → certificate_by m o e ts ≢ [] → certificate_by m o e ts ≡ certificate_by n p f us → (e ≡ f) × ((r : Removal) → o ≡ Some r → tenure_lines r.at ts ≡ tenure_lines r.at us)
by-markers true n o p e f ts us is own for why me mf gone left there same = absurd (there refl)
by-markers false n None p e f ts us is own for why me mf gone left there same = absurd (there refl)
by-markers false true (Some q) p e f ts us is own for why me mf gone left there same = absurd (there same)
by-markers false false (Some q) None e f ts us is own for why me mf gone left there same = absurd (there same)
by-markers false false (Some q) (Some r) e f ts us is own for why me mf gone left there same =
    let facts = same-sealed e f q r ts us is own for why (me ∙ sym mf) gone left same in
    let removal : q ≡ r = some-same q r (sym gone ∙ (ap (λ (x : Entry). x.removal) facts.0 ∙ left)) in
    (facts.0, λ x is-x. ap (λ n. tenure_lines n ts) (sym (ap (λ (y : Removal). y.at) (some-same q x is-x))) ∙ (facts.1 ∙ ap (λ n. tenure_lines n us) (sym (ap (λ (y : Removal). y.at) removal) ∙ ap (λ (y : Removal). y.at) (some-same q x is-x))))
  where
    some-same : (q r : Removal) → ◌≡◌ {A = Option Removal} (Some q) (Some r) → q ≡ r
    some-same q r e = cc e

pub same-certificate : (e f : Entry) (ts us : List Tenure) → IsTyped e → IsTyped f → certificate_text e ts ≢ [] → certificate_text e ts ≡ certificate_text f us
    → (e ≡ f) × ((r : Removal) → e.removal ≡ Some r → tenure_lines r.at ts ≡ tenure_lines r.at us)
unfolding certificate_text
same-certificate e f ts us is own there same =
    by-markers e.marker f.marker e.removal f.removal e f ts us is own is.cause own.cause refl refl refl refl there same
