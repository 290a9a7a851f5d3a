-- The seven sums of a department over its tenures, and what is charged.
use Rattle.std.specs.Prelude.{◌≡◌, refl, ℕ, List, [], ◌∷◌, Bool, true, false, Option, None, Some, sum_by}
use Rattle.vault_tally.specs.Row.{Item, admitted_size, received_size, held_size, removed_size, handed_size, weight, closed_byte_days, charge, held_item, removed_item, handed_item, tenure_item}

-- the bytes admitted, received, held, removed and handed over, the weight, and the closed byte-days
abbrev sums : List Item → List ℕ
sums items =
    sum_by admitted_size items ∷ sum_by received_size items ∷ sum_by held_size items ∷ sum_by removed_size items
    ∷ sum_by handed_size items ∷ sum_by weight items ∷ sum_by closed_byte_days items ∷ []

-- 70 bytes admitted and held, 30 admitted and handed over, 8 received and removed, 5 received and held, 2 received and handed over
abbrev five : List Item
five =
    tenure_item 70 true 10 None true ∷ tenure_item 30 true 20 (Some 25) false ∷ tenure_item 8 false 12 (Some 22) true
    ∷ tenure_item 5 false 13 None true ∷ tenure_item 2 false 14 (Some 16) false ∷ []

five-sums : sums five ≡ 100 ∷ 15 ∷ 75 ∷ 8 ∷ 32 ∷ 765 ∷ 234 ∷ []
five-sums = refl

-- 70 bytes for 20 days, 5 for 17, and what is closed
five-charge : charge 30 five ≡ 1719
five-charge = refl

-- 100 bytes of 2024-01-15: held, asked a day later
held : sums (held_item true 100 19737 ∷ []) ≡ 100 ∷ 0 ∷ 100 ∷ 0 ∷ 0 ∷ 1973700 ∷ 0 ∷ []
held = refl

held-charge : charge 19738 (held_item true 100 19737 ∷ []) ≡ 100
held-charge = refl

-- removed a day later, and asked long after
removed : sums (removed_item true 100 19737 19738 ∷ []) ≡ 100 ∷ 0 ∷ 0 ∷ 100 ∷ 0 ∷ 0 ∷ 100 ∷ []
removed = refl

removed-charge : charge 19800 (removed_item true 100 19737 19738 ∷ []) ≡ 100
removed-charge = refl

-- handed over with its bucket two days later
handed : sums (handed_item 19739 (held_item true 100 19737) ∷ []) ≡ 100 ∷ 0 ∷ 0 ∷ 0 ∷ 100 ∷ 0 ∷ 200 ∷ []
handed = refl

handed-charge : charge 19800 (handed_item 19739 (held_item true 100 19737) ∷ []) ≡ 200
handed-charge = refl
