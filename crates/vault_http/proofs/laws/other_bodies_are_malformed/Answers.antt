use Rattle.vault_http.proofs.BodyLemmas.{malformed, malformed-has-none}
use Rattle.vault_http.proofs.laws.other_bodies_are_malformed.Goals as goal

pub returns : goal.returns
returns c = λ o locks body. (malformed-has-none o locks body, malformed o locks body)
