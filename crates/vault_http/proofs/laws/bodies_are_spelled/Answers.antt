use Rattle.vault_http.proofs.BodyLemmas.{is-made, made-is}
use Rattle.vault_http.proofs.laws.bodies_are_spelled.Goals as goal

pub returns : goal.returns
returns c = λ o locks body command. (made-is o locks body command, is-made o locks body command)
