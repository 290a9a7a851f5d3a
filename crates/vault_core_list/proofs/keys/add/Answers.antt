use Rattle.std.proofs.Common.{◌≡◌, false, sym, ◌∙◌}
use Rattle.std.proofs.lemmas.List.Sums.{prefix_len-le-length}
use Rattle.vault_core_list.proofs.KeySets.{is_at, place_of, insert-with_key, known-with_key}
use Rattle.vault_core_list.proofs.keys.add.Goals as goal

pub insert-requires : goal.insert-requires
insert-requires c = rw (c.count_before-index.ensures, ← c.deref.ensures.len) (prefix_len-le-length _ _)

pub returns-in_ok-insert : goal.returns-in_ok-insert
returns-in_ok-insert c =
    let k = c.args.key.now in
    let xs = c.args.keys.now.items in
    let new : is_at k xs (place_of k xs) ≡ false = rw (c.count_before-index.ensures, c.deref.ensures.value, c.deref-2.ensures.value) at (sym c.is_at.ensures ∙ c.if-not-is_at.true) in
    rw (c.in_ok-insert.ensures.items, c.count_before-index.ensures, c.deref.ensures.value, c.in_ok-clone.ensures.cases) (insert-with_key k xs new)

pub returns-else-not-is_at : goal.returns-else-not-is_at
returns-else-not-is_at c =
    let k = c.args.key.now in
    let xs = c.args.keys.now.items in
    known-with_key k xs (rw (c.count_before-index.ensures, c.deref.ensures.value, c.deref-2.ensures.value) at (sym c.is_at.ensures ∙ c.if-not-is_at.false))
