-- What becomes of requests for other hosts than those of a server.
use Rattle.std.specs.Prelude.{ℕ, ◌≡◌, List, map, false, Option, None, Result, OnOk}
use Rattle.httparse.specs.Grammar.{RequestHead}
use Rattle.httparse.specs.Spans.{name_and_value}
use Rattle.std.specs.Io.KnownBytes.{Appends}
use Rattle.vault_base.specs.declared.refusal.Refusal.TheVariants.{InvalidArgument}
use Rattle.vault_core_model.specs.Vault.{Vault}
use Rattle.vault_http.specs.Exchange.{is_shown}
use Rattle.vault_http_request.specs.Head.{IsHead}
use Rattle.vault_http_request.specs.Host.{is_for}
use Rattle.vault_http.specs.Reply.{AnswersRefusal}
use Rattle.vault_http.specs.declared.fault.ServeFault.{ServeFault}

-- the input begins with this head, which is for none of the hosts
abbrev pub IsStranger : List (List ℕ) → List ℕ → RequestHead → Type 0
IsStranger hosts input h = (rest : List ℕ) × IsHead input h rest × (is_for hosts (map name_and_value h.fields) ≡ false)

-- such a request changes nothing, and where its answer is written that is the refusal InvalidArgument
abbrev pub RefusesStrangers : List (List ℕ) → Option ℕ → List ℕ → Result (Unit {0}) ServeFault → Vault → Vault → Option (List ℕ) → Option (List ℕ) → Type 0
RefusesStrangers hosts moment input result old new before after =
    (h : RequestHead) → IsStranger hosts input h
    → (new ≡ old) × OnOk result ((out : List ℕ) × AnswersRefusal moment InvalidArgument None (is_shown h.method) out × Appends before after out)
