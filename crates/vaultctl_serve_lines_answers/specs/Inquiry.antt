-- What a line asks about a vault that is no command; the clock's reading is put to it.
use Rattle.std.specs.Prelude.{ℕ, ◌&&◌, nat_lt, List, [], ◌∷◌, length, codes, if◌then◌else◌, Option, unwrap_or, Result, Ok, Err}
use Rattle.std.specs.Str.{bytes_eq}
use Rattle.serde_json.specs.Data.{Data}
use Rattle.vault_base.specs.declared.refusal.Refusal.{Refusal}
use Rattle.vault_base.specs.declared.refusal.Refusal.TheVariants.{InvalidArgument, MalformedBody}
use Rattle.vault_base.specs.Limits.{longest_line}
use Rattle.vault_base.specs.Moment.{moment_of}
use Rattle.vault_lines_json.specs.Document.{document_of}
use Rattle.vault_lines_json.specs.Members.{optional_text_of, text_of}
use Rattle.vault_lines_json.specs.Shape.{has_members}
use Rattle.vault_lines_json.specs.Values.{asker_of, optional_number_of}
use Rattle.vault_lines_json.specs.declared.shape.Kind.{Kind}
use Rattle.vault_lines_json.specs.declared.shape.Kind.TheVariants.{OptionalNumber, OptionalText, Text}
use Rattle.vault_values.specs.Fault.{◌>>=◌, or_refused}
use Rattle.vault_lines_read.specs.ReadLine.{without_cr}
use Rattle.vault_lines_read.specs.Stamped.{asking_members, clock_of}
use Rattle.vaultctl_serve_lines_answers.specs.declared.inquiry.About.{About}
use Rattle.vaultctl_serve_lines_answers.specs.declared.inquiry.About.TheVariants as about
use Rattle.vaultctl_serve_lines_answers.specs.declared.inquiry.Inquiry.{Inquiry}
use Rattle.vaultctl_serve_lines_answers.specs.declared.inquiry.Shape.{Shape}
use Rattle.vaultctl_serve_lines_answers.specs.declared.inquiry.Shape.TheVariants as shape

-- the members of the line that asks for the names of buckets: the caller who asks, `do`, and the text after which they come
abbrev pub buckets_members : List (List ℕ × Kind)
buckets_members = (codes "as", Text) ∷ (codes "do", Text) ∷ (codes "after", OptionalText) ∷ []

-- the members of the line that asks what happened: the caller, `do`, the moment before which it happened, and the id after which the part begins
abbrev pub events_members : List (List ℕ × Kind)
events_members = (codes "as", Text) ∷ (codes "do", Text) ∷ (codes "before", Text) ∷ (codes "after", OptionalNumber) ∷ []

-- the members of the lines that ask for a part of the register, or for a judgement of a part: the caller, `do`, and the id after which the part begins
abbrev pub part_members : List (List ℕ × Kind)
part_members = (codes "as", Text) ∷ (codes "do", Text) ∷ (codes "after", OptionalNumber) ∷ []

-- the shape of the line of that `do`, if the value is an object of just its members
abbrev pub shape_named : List ℕ → Data → Result Shape Refusal
shape_named name d =
    if bytes_eq name (codes "status") && has_members asking_members d then Ok shape.Status
    else if bytes_eq name (codes "buckets") && has_members buckets_members d then Ok shape.Buckets
    else if bytes_eq name (codes "events") && has_members events_members d then Ok shape.Events
    else if bytes_eq name (codes "register") && has_members part_members d then Ok shape.Register
    else if bytes_eq name (codes "lawful") && has_members part_members d then Ok shape.Lawful
    else Err MalformedBody

unfoldable pub shape_of : Data → Result Shape Refusal
shape_of d = do
  name ← text_of (codes "do") d
  shape_named name d

-- the text after which names come; the empty one where none is given
unfoldable pub text_after_of : Data → Result (List ℕ) Refusal
text_after_of d = do
  text ← optional_text_of (codes "after") d
  Ok (unwrap_or text [])

unfoldable pub buckets_of : Data → Result About Refusal
buckets_of d = do
  after ← text_after_of d
  Ok (about.Buckets after)

abbrev pub moment_named : List ℕ → Result ℕ Refusal
moment_named text = or_refused InvalidArgument (moment_of text)

unfoldable pub before_of : Data → Result ℕ Refusal
before_of d = do
  text ← text_of (codes "before") d
  moment_named text

-- the first part is that after 0
unfoldable pub id_after_of : Data → Result ℕ Refusal
id_after_of d = do
  number ← optional_number_of (codes "after") d
  Ok (unwrap_or number 0)

unfoldable pub events_of : Data → Result About Refusal
events_of d = do
  before ← before_of d
  after ← id_after_of d
  Ok (about.Events (record { after = after; before = before }))

unfoldable pub register_of : Data → Result About Refusal
register_of d = do
  after ← id_after_of d
  Ok (about.Register after)

unfoldable pub lawful_of : Data → Result About Refusal
lawful_of d = do
  after ← id_after_of d
  Ok (about.Lawful after)

abbrev pub about_of : Shape → Data → Result About Refusal
about_of shape.Status d = Ok about.Status
about_of shape.Buckets d = buckets_of d
about_of shape.Events d = events_of d
about_of shape.Register d = register_of d
about_of shape.Lawful d = lawful_of d

-- the shape, then the clock, the caller who asks, and what else the line says
unfoldable pub asked_of : Option ℕ → Data → Result Inquiry Refusal
asked_of moment d = do
  shape ← shape_of d
  at ← clock_of moment
  who ← asker_of d
  about ← about_of shape d
  Ok (record { at = at; who = who; about = about })

unfoldable pub document_asked_of : Option ℕ → List ℕ → Result Inquiry Refusal
document_asked_of moment bytes = do
  d ← document_of bytes
  asked_of moment d

-- what is asked about by a line as it stands before its LF, at what the clock shows
unfoldable pub inquiry_of : Option ℕ → List ℕ → Result Inquiry Refusal
inquiry_of moment bytes = if nat_lt longest_line (length bytes) then Err MalformedBody else document_asked_of moment (without_cr bytes)
