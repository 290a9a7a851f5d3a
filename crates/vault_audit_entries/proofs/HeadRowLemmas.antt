-- A row holds one head.
use Rattle.std.proofs.Common.{◌≡◌, ℕ, List, refl, sym, ap, ◌∙◌}
use Rattle.sqlite_value.specs.Order.{Row, column}
use Rattle.vault_audit_model.specs.declared.rows.HeadRow.{HeadRow}
use Rattle.vault_audit_model.proofs.SameRows.{number_same, text_same}
use Rattle.vault_audit_entries.specs.Heads.{headed_row}

abbrev pub head_as : List ℕ → List ℕ → ℕ → ℕ → HeadRow
head_as bucket key newest count = record { bucket = bucket; key = key; head = record { newest = newest; count = count } }

pub alike : (b1 b2 k1 k2 : List ℕ) (n1 n2 c1 c2 : ℕ) → b1 ≡ b2 → k1 ≡ k2 → n1 ≡ n2 → c1 ≡ c2 → head_as b1 k1 n1 c1 ≡ head_as b2 k2 n2 c2
alike b1 b2 k1 k2 n1 n2 c1 c2 p q r s = rw (p, q, r, s) refl

pub same_head : (x y : HeadRow) → headed_row x ≡ headed_row y → x ≡ y
same_head x y e =
    let one = λ (at : ℕ). ap (λ (r : Row). column r at) e in
    alike x.bucket y.bucket x.key y.key x.head.newest y.head.newest x.head.count y.head.count
    (text_same _ _ (one 0)) (text_same _ _ (one 1)) (number_same _ _ (one 2)) (number_same _ _ (one 3))

pub one_head : (row : Row) (x y : HeadRow) → row ≡ headed_row x → row ≡ headed_row y → x ≡ y
one_head row x y is_x is_y = same_head x y (sym is_x ∙ is_y)
