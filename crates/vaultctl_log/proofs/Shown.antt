-- What is shown of a request is of its head.
use Rattle.std.proofs.Common.{ℕ, ◌≡◌, ◌≤◌, List, [], length, drop, map, take, Bool, Option, Result, Ok, Err, OnErr, OnOk, inl, inr, refl, ap, ◌∙◌}
use Rattle.httparse.proofs.GrammarLemmas.{request_unique}
use Rattle.httparse.specs.Grammar.{ReadsRequest, RequestHead}
use Rattle.httparse.specs.Spans.{IsRequestAt, header_bytes, span_bytes}
use Rattle.httparse.specs.declared.spans.HeaderSpan.{HeaderSpan}
use Rattle.httparse.specs.declared.spans.RequestSpans.{RequestSpans}
use Rattle.std.specs.Io.KnownBytes.{Appends}
use Rattle.std.specs.Prelude.{is_ok}
use Rattle.vault_io.specs.Begins.{Begins}
use Rattle.vaultctl_log.specs.Logging.{Puts}
use Rattle.vaultctl_log.specs.Asked.{IsShown, head_members, request_members}

-- what follows from what a call gives where it doesn't fail
pub on-ok : {X E A B : Type 0} → (r : Result X E) → (A → B) → OnOk r A → OnOk r B
on-ok (Ok x) f a = f a
on-ok (Err e) f a = tt

-- what follows from what a call leaves where it fails
pub on-err : {X E A B : Type 0} → (r : Result X E) → (A → B) → OnErr r A → OnErr r B
on-err (Ok x) f a = tt
on-err (Err e) f a = f a

-- the parts of a head are shown as the head is
parts-shown : (understood : Bool) (buf : List ℕ) (headers : List HeaderSpan) (spans : RequestSpans) (h : RequestHead) → IsRequestAt buf headers spans h
    → request_members understood (span_bytes buf spans.method) (span_bytes buf spans.path) (map (header_bytes buf) (take spans.headers headers)) ≡ head_members understood h
parts-shown understood buf headers spans h at = rw (at.method, at.path, at.fields) refl

-- the parts of a head at the front are what is shown of the bytes
pub head-shown : (understood : Bool) (buf : List ℕ) (headers : List HeaderSpan) (spans : RequestSpans) → ((h : RequestHead) × IsRequestAt buf headers spans h)
    → IsShown understood buf (request_members understood (span_bytes buf spans.method) (span_bytes buf spans.path) (map (header_bytes buf) (take spans.headers headers)))
head-shown understood buf headers spans (h, at) =
    let is = parts-shown understood buf headers spans h at in
    (inr (h, drop spans.len buf, at.reads, is), λ k rest reads few. is ∙ ap (head_members understood) (request_unique buf h k (drop spans.len buf) rest at.reads reads).0)

-- of bytes that begin with no head that has its room, nothing is shown
pub nothing-shown : (understood : Bool) (buf : List ℕ) → ((h : RequestHead) (rest : List ℕ) → ReadsRequest buf h rest → length h.fields ≤ 64 → ⊥) → IsShown understood buf []
nothing-shown understood buf none = (inl refl, λ h rest reads few. absurd (none h rest reads few))

-- what was written where the call doesn't fail is whole, and where it does a beginning
pub puts : {E : Type 0} (P : List ℕ → Type 0) (before after : Option (List ℕ)) (r : Result (Unit {0}) E)
    → OnOk r ((text : List ℕ) × P text × Appends before after text) → OnErr r ((text : List ℕ) × P text × Begins before after text)
    → (text : List ℕ) × P text × Puts (is_ok r) before after text
puts P before after (Ok done) whole begun = whole
puts P before after (Err e) whole begun = begun
