-- The head at the front of what a reader gives.
use Rattle.std.specs.Prelude.{ℕ, ◌≡◌, ◌≤◌, ◌<◌, List, [], ◌∷◌, ◌++◌, length, Option, IfSome}
use Rattle.httparse.specs.Grammar.{RequestHead, ReadsRequest, NeverHasRequest, LineEnd, print_blank, print_request}
use Rattle.httparse.specs.Spans.{IsRequestAt, IsRequestWithin}
use Rattle.httparse.specs.declared.spans.HeaderSpan.{HeaderSpan}
use Rattle.vault_http_request.specs.declared.read.head.Front.{Front}
use Rattle.vault_http_request.specs.declared.read.head.Front.TheVariants.{Nothing, NoHead, Head}

-- a head is within the limits: 16,384 bytes, blank lines in front of it included, and 64 headers
abbrev pub IsSmall : RequestHead → Type 0
IsSmall h = (length (print_request h) ≤ 16384) × (length h.fields ≤ 64)

-- the input begins with that head, and goes on with rest
abbrev pub IsHead : List ℕ → RequestHead → List ℕ → Type 0
IsHead input h rest = ReadsRequest input h rest × IsSmall h

-- the input begins with no head within the limits
abbrev pub HasNoHead : List ℕ → Type 0
HasNoHead input = (h : RequestHead) (rest : List ℕ) → IsHead input h rest → ⊥

-- what came of a reader that had old, where just the bytes of buf were taken: they are a whole head, or the reader gives none
abbrev pub Came : Option (List ℕ) → List ℕ → List HeaderSpan → Front → Type 0
Came old buf headers Nothing = IfSome old (λ input. input ≡ [])
Came old buf headers NoHead = IfSome old (λ input. HasNoHead input)
Came old buf headers (Head spans) = (h : RequestHead) × IsRequestAt buf headers spans h × IsHead buf h []

-- where there is no head, there are bytes, and no more than a head may have
abbrev pub HasBytes : Front → List ℕ → Type 0
HasBytes Nothing buf = buf ≡ []
HasBytes NoHead buf = (0 < length buf) × (length buf ≤ 16384)
HasBytes (Head spans) buf = Unit {0}

-- the parts of a head lie in what was taken
abbrev pub IsWithin : List ℕ → List HeaderSpan → Front → Type 0
IsWithin buf headers Nothing = Unit {0}
IsWithin buf headers NoHead = Unit {0}
IsWithin buf headers (Head spans) = IsRequestWithin buf headers spans

-- after a line with which no head can come, of whatever length, nothing was taken
abbrev pub IsPrompt : List ℕ → Type 0
IsPrompt buf = (line later : List ℕ) → buf ≡ (line ++ 10 ∷ []) ++ later → NeverHasRequest (line ++ 10 ∷ []) → later ≡ []

-- empty lines and nothing else
abbrev pub IsBlank : List ℕ → Type 0
IsBlank bytes = (ends : List LineEnd) × (bytes ≡ print_blank ends)
