use Rattle.std.proofs.Common.{nat_lt, filter, ap, rules, ◌∙◌}
use Rattle.std.proofs.lemmas.Fn.{filter_same}
use Rattle.vault_store_reads.proofs.rows_in_order.ids.find_among.Goals as goal

pub returns-clause-value : goal.returns-clause-value
returns-clause-value g c clean v was =
    filter_same _ (λ id. nat_lt id c.args.than) _ (λ x b f' k. search rules) _ _ c.retain.ensures.filtered
    ∙ ap (filter (λ id. nat_lt id c.args.than)) (c.in_ok-ids.ensures.value clean v was)
