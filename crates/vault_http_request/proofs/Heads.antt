-- Which bytes are a head.
use Rattle.std.proofs.Common.{◌≡◌, ◌≢◌, ◌≤◌, ℕ, List, [], ◌∷◌, ◌++◌, length, Option, Some, None, IfSome, ◌⊎◌, inl, inr, refl, sym, ap, ◌∙◌, arith, append_assoc, append-nil, length-append, subst}
use Rattle.std.proofs.lemmas.List.{same_from_push}
use Rattle.std.specs.Io.KnownBytes.{Consumes}
use Rattle.httparse.specs.Grammar.{RequestHead, ReadsRequest, HasNoRequest, print_request, print_end, LineEnd, crlf, lf, print_field, print_blank, print_version}
use Rattle.std.specs.List.{flat_map}
use Rattle.std.proofs.KnownBytes.{Consumes-trans, Consumes-nil}
use Rattle.std.proofs.Common.{◌<◌, length-take}
use Rattle.std.proofs.lemmas.List.{length-map}
use Rattle.httparse.specs.Grammar.{Field}
use Rattle.httparse.specs.Spans.{RequestOverflows, AreFieldsAt, IsRequestOf, IsRequestAt}
use Rattle.httparse.specs.declared.spans.HeaderSpan.{HeaderSpan}
use Rattle.httparse.specs.declared.spans.RequestSpans.{RequestSpans}
use Rattle.vault_http_request.specs.Head.{HasNoHead, IsHead}
use Rattle.vault_http_request.specs.Bytes.{NextByte}

-- a fact of all that was known to be left, where what was taken and any more has it
pub known : (a b : Option (List ℕ)) (bs : List ℕ) (P : List ℕ → Type 0) → Consumes a b bs → ((more : List ℕ) → P (bs ++ more)) → IfSome a P
known None b bs P c p = tt
known (Some xs) None bs P c p = absurd c
known (Some xs) (Some ys) bs P c p = subst P (sym c) (p ys)

-- each list is empty or has a last item
pub last_of : (xs : List ℕ) → (xs ≡ []) ⊎ ((ys : List ℕ) × (y : ℕ) × (xs ≡ ys ++ y ∷ []))
last_of [] = inl refl
last_of (x ∷ xs) = elim (last_of xs) [
  | inl e ↦ inr ([], x, ap (λ t. x ∷ t) e)
  | inr (ys, y, e) ↦ inr (x ∷ ys, y, ap (λ t. x ∷ t) e)
]

-- a line end's last byte
end_last : (e : LineEnd) → (front : List ℕ) × (print_end e ≡ front ++ 10 ∷ [])
end_last crlf = (13 ∷ [], refl)
end_last lf = ([], refl)

-- a head's last byte is LF
pub head_last : (h : RequestHead) → (front : List ℕ) × (print_request h ≡ front ++ 10 ∷ [])
unfolding print_request
head_last h = let e = end_last h.last in (_, ap (λ t. print_blank h.blank ++ h.method ++ 32 ∷ h.target ++ 32 ∷ print_version h.minor ++ print_end h.line_end ++ (flat_map print_field h.fields ++ t)) e.1 ∙ ap (λ t. print_blank h.blank ++ h.method ++ 32 ∷ h.target ++ 32 ∷ print_version h.minor ++ print_end h.line_end ++ t) (sym (append_assoc (flat_map print_field h.fields) e.0 (10 ∷ []))) ∙ sym (append_assoc (print_blank h.blank ++ h.method ++ 32 ∷ h.target ++ 32 ∷ print_version h.minor ++ print_end h.line_end) (flat_map print_field h.fields ++ e.0) (10 ∷ [])))

-- a head that comes with one byte more takes that byte
pub takes_all : (buf : List ℕ) (b : ℕ) (h : RequestHead) (rest : List ℕ) → HasNoRequest buf → ReadsRequest (buf ++ b ∷ []) h rest → rest ≡ []
takes_all buf b h rest none reads = elim (last_of rest) [
  | inl e ↦ e
  | inr (r, c, e) ↦ absurd (none h r (reads.0, (same_from_push buf (print_request h ++ r) b c (reads.1 ∙ ap (λ t. print_request h ++ t) e ∙ sym (append_assoc (print_request h) r (c ∷ [])))).0))
]

-- a byte that is no LF ends no head
pub none_more : (buf : List ℕ) (b : ℕ) → HasNoRequest buf → b ≢ 10 → HasNoRequest (buf ++ b ∷ [])
none_more buf b none other h rest reads =
    let e = takes_all buf b h rest none reads in
    let l = head_last h in
    let same : buf ++ b ∷ [] ≡ l.0 ++ 10 ∷ [] = reads.1 ∙ ap (λ t. print_request h ++ t) e ∙ append-nil _ ∙ l.1 in
    other (same_from_push buf l.0 b 10 same).1

-- what was taken is longer than a part that begins it
pub front_of : (us xs ys vs : List ℕ) → xs ++ ys ≡ us ++ vs → length us ≤ length xs → (m : List ℕ) × (xs ≡ us ++ m)
front_of [] xs ys vs e h = (xs, refl)
front_of (u ∷ us) [] ys vs e h = absurd (omega arith)
front_of (u ∷ us) (x ∷ xs) ys vs e h =
    let same : x ≡ u = cc in
    let tails : xs ++ ys ≡ us ++ vs = cc in
    let m = front_of us xs ys vs tails (omega arith) in
    (m.0, ap (λ t. x ∷ t) m.1 ∙ ap (λ t. t ∷ us ++ m.0) same)

-- whatever comes, it is no head, or one of too many fields
pub refused : (a b : Option (List ℕ)) (bs : List ℕ) → Consumes a b bs → RequestOverflows 64 bs → IfSome a HasNoHead
refused a b bs c over = known a b bs HasNoHead c (λ more h rest x. omega (arith, over more h rest x.0, x.1.1))

-- a head would be too long
pub too_long : (a b : Option (List ℕ)) (bs : List ℕ) → Consumes a b bs → 16384 ≤ length bs → HasNoRequest bs → IfSome a HasNoHead
too_long a b bs c long none = known a b bs HasNoHead c (λ more h rest x.
    let m = front_of (print_request h) bs more rest x.0.1 (omega (arith, x.1.0)) in
    none h m.0 (x.0.0, m.1))

-- one byte more was taken
pub taken_more : (a b c : Option (List ℕ)) (bs : List ℕ) (x : ℕ) → Consumes a b bs → NextByte b c (Some x) → Consumes a c (bs ++ x ∷ [])
taken_more a b c bs x p q = Consumes-trans a b c bs (x ∷ []) p q

fields_count : (buf : List ℕ) (headers : List HeaderSpan) (count : ℕ) (fields : List Field) → AreFieldsAt buf headers count fields → length headers ≡ 64 → length fields ≤ 64
fields_count buf headers count fields at room =
    omega (arith, simp (length-map, length-take) at (ap length at), room)

-- a head that came with its last byte is the whole of what was taken
pub whole : (buf : List ℕ) (b : ℕ) (headers : List HeaderSpan) (spans : RequestSpans) → HasNoRequest buf → length buf < 16384 → length headers ≡ 64 → IsRequestOf (buf ++ b ∷ []) headers spans
    → (h : RequestHead) × IsRequestAt (buf ++ b ∷ []) headers spans h × IsHead (buf ++ b ∷ []) h []
whole buf b headers spans none short room (h, at) =
    let e = takes_all buf b h _ none at.reads in
    let reads : ReadsRequest (buf ++ b ∷ []) h [] = subst (ReadsRequest (buf ++ b ∷ []) h) e at.reads in
    let len : length (print_request h) ≤ 16384 = omega (arith, simp (length-append, append-nil) at (ap length reads.1)) in
    (h, at, (reads, (len, fields_count (buf ++ b ∷ []) headers spans.headers h.fields at.fields room)))

-- no byte is no head
pub nothing : (bs : List ℕ) → bs ≡ [] → HasNoRequest bs
nothing bs e h rest reads =
    let l = head_last h in
    omega (arith, simp (length-append) at (ap length (sym e ∙ reads.1)), simp (length-append) at (ap length l.1))

pub started : (a : Option (List ℕ)) (bs : List ℕ) → bs ≡ [] → Consumes a a bs
started a bs e = subst (Consumes a a) (sym e) (Consumes-nil a)

-- the same of what was pushed
pub pushed_whole : (buf all : List ℕ) (b : ℕ) (headers : List HeaderSpan) (spans : RequestSpans) → all ≡ buf ++ b ∷ [] → HasNoRequest buf → length buf < 16384 → length headers ≡ 64 → IsRequestOf all headers spans
    → (h : RequestHead) × IsRequestAt all headers spans h × IsHead all h []
pushed_whole buf all b headers spans e none short room of =
    subst (λ (t : List ℕ). (h : RequestHead) × IsRequestAt t headers spans h × IsHead t h []) (sym e) (whole buf b headers spans none short room (subst (λ (t : List ℕ). IsRequestOf t headers spans) e of))

pub pushed_other : (buf all : List ℕ) (b : ℕ) → all ≡ buf ++ b ∷ [] → HasNoRequest buf → b ≢ 10 → HasNoRequest all
pushed_other buf all b e none other = subst HasNoRequest (sym e) (none_more buf b none other)
