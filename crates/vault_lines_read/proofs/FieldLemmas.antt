-- The fields of a line: each is read as what its members spell, and what these spell is read.
use Rattle.std.proofs.Common.{◌≡◌, ℕ, Bool, true, false, List, [], ◌∷◌, ◌++◌, refl, sym, ap, inl, inr, codes}
use Rattle.std.specs.Prelude.{◌&&◌, IsTrue, Option, Some, None, is_some, MatchOption, Ok}
use Rattle.std.specs.List.{flat_map}
use Rattle.serde_json.specs.Data.{Data}
use Rattle.serde_json.specs.Find.{get}
use Rattle.vault_core_model.specs.declared.command.Command.{Command}
use Rattle.vault_lines_json.specs.Shape.{fits, fits_each, are_named, has_members, has_one_content}
use Rattle.vault_lines_json.specs.Spelling.{IsAbsent, IsId, IsSmall}
use Rattle.vault_lines_json.specs.Values.{optional_id_of, optional_number_of}
use Rattle.vault_lines_json.specs.declared.shape.Kind.{Kind}
use Rattle.vault_lines_json.specs.declared.shape.Kind.TheVariants.{OptionalNumber}
use Rattle.vault_lines_json.proofs.LockLemmas.{reads-retention, reads-optional-retention, reads-hold, reads-optional-hold, reads-bypass, reads-default}
use Rattle.vault_lines_json.proofs.ReadLemmas.{Reads, reads-as, reads-then, left-of, right-of}
use Rattle.vault_lines_json.proofs.RuleLemmas.{reads-rules}
use Rattle.vault_lines_json.proofs.SpelledLemmas.{caller-ok, dept-ok, optional-dept-ok, batch-ok, bucket-ok, key-ok, prefix-ok, number-ok, optional-number-ok, id-ok, optional-id-ok, rights-are, content-ok, retention-ok, optional-retention-ok, hold-ok, optional-hold-ok, bypass-ok, default-ok, rules-ok}
use Rattle.vault_lines_json.proofs.ValueLemmas.{reads-caller, reads-dept, reads-optional-dept, reads-batch, reads-bucket, reads-key, reads-prefix, reads-number, reads-optional-number, reads-id, reads-optional-id, reads-rights, reads-content}
use Rattle.vault_lines_read.specs.Fields as field
use Rattle.vault_lines_read.specs.Fields.{Field, IsMadeOf, Makes, command_with, meaning_of, value_of}
use Rattle.vault_lines_read.specs.ListLine.{IsAfterId, IsMost, with_key, after_id_of, or_most_listed, most_of}

-- ---- members one by one

-- each of these members is of its kind
abbrev pub Fit : List (List ℕ × Kind) → Data → Type 0
Fit [] d = Unit {0}
Fit (m ∷ ms) d = IsTrue (fits m.1 (get m.0 d)) × Fit ms d

each-fit : (ms : List (List ℕ × Kind)) (d : Data) → fits_each ms d ≡ true → Fit ms d
each-fit [] d e = tt
each-fit (m ∷ ms) d e = (left-of (fits m.1 (get m.0 d)) _ e, each-fit ms d (right-of (fits m.1 (get m.0 d)) _ e))

pub all-fit : (ms : List (List ℕ × Kind)) (d : Data) → has_members ms d ≡ true → Fit ms d
all-fit ms d e = each-fit ms d (right-of (are_named ms d) _ e)

fit-both : (ms ns : List (List ℕ × Kind)) (d : Data) → Fit (ms ++ ns) d → Fit ms d × Fit ns d
fit-both [] ns d fit = (tt, fit)
fit-both (m ∷ ms) ns d fit =
    let later = fit-both ms ns d fit.1 in
    ((fit.0, later.0), later.1)

-- ---- listings

after-id : (d : Data) (has_key : Bool) (id : Option ℕ) → is_some (get (codes "after_key") d) ≡ has_key → MatchOption id (IsAbsent d (codes "after_id")) (λ id. IsId d (codes "after_id") id) → Reads (IsAfterId d) (with_key has_key id)
after-id d has_key None e f = f
after-id d true (Some id) e f = (f, e)
after-id d false (Some id) e f = λ h. cc

reads-after-id : (d : Data) → IsTrue (fits OptionalNumber (get (codes "after_id") d)) → Reads (IsAfterId d) (after_id_of d)
unfolding after_id_of
reads-after-id d fit =
    reads-then _ _ (optional_id_of (codes "after_id") d) _ (reads-optional-id (codes "after_id") d fit) (λ id id_is.
    after-id d (is_some (get (codes "after_key") d)) id refl id_is)

or-most_listed : (d : Data) (most : Option ℕ) → MatchOption most (IsAbsent d (codes "most")) (λ n. IsSmall d (codes "most") n) → IsMost d (or_most_listed most)
or-most_listed d None e = inr (e, refl)
or-most_listed d (Some n) e = inl e

reads-most : (d : Data) → IsTrue (fits OptionalNumber (get (codes "most") d)) → Reads (IsMost d) (most_of d)
unfolding most_of
reads-most d fit =
    reads-then _ _ (optional_number_of (codes "most") d) _ (reads-optional-number (codes "most") d fit) (λ most most_is. or-most_listed d most most_is)

after-id-ok : (d : Data) (id : Option ℕ) → IsAfterId d id → after_id_of d ≡ Ok id
unfolding after_id_of
after-id-ok d None h = rw (optional-id-ok (codes "after_id") d None h) refl
after-id-ok d (Some id) h = rw (optional-id-ok (codes "after_id") d (Some id) h.0, h.1) refl

most-ok : (d : Data) (most : ℕ) → IsMost d most → most_of d ≡ Ok most
unfolding most_of
most-ok d most (inl e) = rw (optional-number-ok (codes "most") d (Some most) e) refl
most-ok d most (inr (e, f)) = rw (optional-number-ok (codes "most") d None e, f) refl

-- ---- fields one by one

-- a content is written in one way
abbrev pub is_whole : Field → Data → Bool
is_whole field.content d = has_one_content d
is_whole _ d = true

reads-field : (f : Field) (d : Data) → Fit (meaning_of f).members d → is_whole f d ≡ true → Reads ((meaning_of f).Says d) (value_of f d)
reads-field field.dept d fit one = reads-dept d fit.0
reads-field field.optional_dept d fit one = reads-optional-dept d fit.0
reads-field field.caller d fit one = reads-caller d fit.0
reads-field field.rights d fit one = reads-rights d fit.0
reads-field field.bucket d fit one = reads-bucket d fit.0
reads-field field.key d fit one = reads-key d fit.0
reads-field field.id d fit one = reads-id d fit.0
reads-field field.optional_id d fit one = reads-optional-id (codes "id") d fit.0
reads-field field.content d fit one = reads-content d fit.0 fit.1.0 fit.1.1.0 fit.1.1.1.0 one
reads-field field.retention d fit one = reads-retention d fit.0 fit.1.0
reads-field field.optional_retention d fit one = reads-optional-retention d fit.0 fit.1.0
reads-field field.hold d fit one = reads-hold d fit.0
reads-field field.optional_hold d fit one = reads-optional-hold d fit.0
reads-field field.bypass d fit one = reads-bypass d fit.0
reads-field field.default d fit one = reads-default d fit.0 fit.1.0 fit.1.1.0
reads-field field.rules d fit one = reads-rules d fit.0
reads-field field.prefix d fit one = reads-prefix (codes "prefix") d fit.0
reads-field field.after_key d fit one = reads-prefix (codes "after_key") d fit.0
reads-field field.after_id d fit one = reads-after-id d fit.0
reads-field field.most d fit one = reads-most d fit.0
reads-field field.batch d fit one = reads-batch d fit.0
reads-field field.line d fit one = reads-number (codes "line") d fit.0

field-ok : (f : Field) (d : Data) (x : (meaning_of f).Value) → (meaning_of f).Says d x → value_of f d ≡ Ok x
field-ok field.dept d x says = dept-ok d x says
field-ok field.optional_dept d x says = optional-dept-ok d x says
field-ok field.caller d x says = caller-ok d x says
field-ok field.rights d x says = rights-are d x says
field-ok field.bucket d x says = bucket-ok d x says
field-ok field.key d x says = key-ok d x says
field-ok field.id d x says = id-ok d x says
field-ok field.optional_id d x says = optional-id-ok (codes "id") d x says
field-ok field.content d x says = content-ok d x says
field-ok field.retention d x says = retention-ok d x says
field-ok field.optional_retention d x says = optional-retention-ok d x says
field-ok field.hold d x says = hold-ok d x says
field-ok field.optional_hold d x says = optional-hold-ok d x says
field-ok field.bypass d x says = bypass-ok d x says
field-ok field.default d x says = default-ok d x says
field-ok field.rules d x says = rules-ok d x says
field-ok field.prefix d x says = prefix-ok (codes "prefix") d x says
field-ok field.after_key d x says = prefix-ok (codes "after_key") d x says
field-ok field.after_id d x says = after-id-ok d x says
field-ok field.most d x says = most-ok d x says
field-ok field.batch d x says = batch-ok d x says
field-ok field.line d x says = number-ok (codes "line") d x says

-- ---- the fields of a line

abbrev pub are_whole : List Field → Data → Bool
are_whole [] d = true
are_whole (f ∷ fs) d = is_whole f d && are_whole fs d

-- the members of these fields
abbrev pub all_members : List Field → List (List ℕ × Kind)
all_members fs = flat_map (λ f. (meaning_of f).members) fs

-- fields of their kinds are read as a command that is made of what they say, or a value is refused
pub reads-fields : (fs : List Field) (d : Data) (make : Makes fs) → Fit (all_members fs) d → are_whole fs d ≡ true → Reads (IsMadeOf d fs make) (command_with d fs make)
reads-fields [] d made fit whole = refl
reads-fields (f ∷ fs) d make fit whole =
    let fits = fit-both (meaning_of f).members (all_members fs) d fit in
    reads-then _ _ (value_of f d) _ (reads-field f d fits.0 (left-of (is_whole f d) _ whole)) (λ x x_is.
    reads-as _ _ (command_with d fs (make x)) (reads-fields fs d (make x) fits.1 (right-of (is_whole f d) _ whole)) (λ c made. (x, x_is, made)))

-- what fields say is read
pub fields-ok : (fs : List Field) (d : Data) (make : Makes fs) (c : Command) → IsMadeOf d fs make c → command_with d fs make ≡ Ok c
fields-ok [] d made c is = ap (λ c. Ok c) (sym is)
fields-ok (f ∷ fs) d make c (x, x_is, rest) = rw (field-ok f d x x_is) (fields-ok fs d (make x) c rest)
