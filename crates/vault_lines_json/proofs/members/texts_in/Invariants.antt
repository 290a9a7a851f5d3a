use Rattle.std.proofs.Common.{◌≡◌, map, drop}
use Rattle.serde_json.specs.View.{items_view}
use Rattle.vault_lines_json.specs.Members.{as_texts}
use Rattle.vault_lines_json.proofs.TextsLemmas.{onto}
use Rattle.vault_lines_json.proofs.members.texts_in.Given as goal

abbrev pub invariant-loop-item : goal.invariant-loop-item
invariant-loop-item l = as_texts (items_view l.items) ≡ onto (map (λ x. x.now) l.texts.items) (as_texts (items_view (drop l.item-index l.items)))
