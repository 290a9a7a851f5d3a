-- Heads by rising bucket and key, and their rows.
use Rattle.std.specs.Ordering.{ordering_then}
use Rattle.std.proofs.Common.{◌≡◌, List, [], ◌∷◌, map, Some, None, Ordering, Less, Equal, refl, sym, subst, ◌∙◌}
use Rattle.std.specs.List.{AllByRecursion}
use Rattle.std.specs.Cmp.{IsTotalOrder}
use Rattle.sqlite_trees.specs.Tree.{IsAscending as Rises}
use Rattle.sqlite_value.specs.declared.value.Value.TheVariants.{Text}
use Rattle.sqlite_value.specs.declared.keys.Collation.TheVariants.{Binary}
use Rattle.sqlite_value.specs.Keys.{ascending}
use Rattle.sqlite_value.specs.Order.{Row, value_cmp}
use Rattle.sqlite_value.proofs.OrderLemmas.{value_cmp-Text, then-Equal}
use Rattle.sqlite_sql.specs.Query.{key_cmp}
use Rattle.sqlite_sql.proofs.QueryLemmas.{key_cmp_total}
use Rattle.vault_core_model.specs.Order.{IsAscending, name_cmp}
use Rattle.vault_audit_model.specs.declared.rows.HeadRow.{HeadRow}
use Rattle.vault_audit_model.specs.Limits.{IsHeadRow}
use Rattle.vault_audit_rows.specs.Pass.{AllFit}
use Rattle.vault_audit_entries.specs.declared.heads.by_key.HeadPass.{HeadPass}
use Rattle.vault_audit_entries.specs.Heads.{headed_row, head_cmp, IsAfter}
use Rattle.vault_audit_entries.specs.HeadPasses.{ComesAfter, with_head}

abbrev pub Fit : HeadPass → List HeadRow → Type 0
Fit = AllFit headed_row ComesAfter with_head

abbrev pub row_order : Row → Row → Ordering
row_order = key_cmp 0 (ascending Binary ∷ ascending Binary ∷ [])

pub row_order_total : IsTotalOrder row_order
row_order_total = key_cmp_total (ascending Binary ∷ ascending Binary ∷ []) 0

both : (a b c d : Ordering) → a ≡ c → b ≡ d → ordering_then a b ≡ ordering_then c d
both a b c d p q = rw (p, q) refl

same_order : (g h : HeadRow) → row_order (headed_row g) (headed_row h) ≡ head_cmp g h
same_order g h =
    both (value_cmp (Text g.bucket) (Text h.bucket)) (ordering_then (value_cmp (Text g.key) (Text h.key)) Equal) (name_cmp g.bucket h.bucket) (name_cmp g.key h.key)
    (value_cmp-Text g.bucket h.bucket) (then-Equal (value_cmp (Text g.key) (Text h.key)) ∙ value_cmp-Text g.key h.key)

still_before : (f g h : HeadRow) → head_cmp f g ≡ Less → head_cmp g h ≡ Less → head_cmp f h ≡ Less
still_before f g h less more = sym (same_order f h) ∙ row_order_total.trans (headed_row f) (headed_row g) (headed_row h) (same_order f g ∙ less) (same_order g h ∙ more)

all_above : (g h : HeadRow) (hs : List HeadRow) → head_cmp g h ≡ Less → AllByRecursion (λ x. head_cmp h x ≡ Less) hs → AllByRecursion (λ x. head_cmp g x ≡ Less) hs
all_above g h [] less all = tt
all_above g h (x ∷ hs) less all = (still_before g h x less all.0, all_above g h hs less all.1)

after : (p : HeadPass) (g : HeadRow) (hs : List HeadRow) → p.last ≡ Some g → Fit p hs → AllByRecursion (λ x. head_cmp g x ≡ Less) hs
after p g [] is fit = tt
after p g (h ∷ hs) is fit =
    let less : head_cmp g h ≡ Less = subst (λ o. IsAfter o h) is fit.0.1 in
    (less, all_above g h hs less (after (with_head p h) h hs refl fit.1))

pub ascending_heads : (p : HeadPass) (hs : List HeadRow) → Fit p hs → IsAscending head_cmp hs
ascending_heads p [] fit = tt
ascending_heads p (h ∷ hs) fit = (after (with_head p h) h hs refl fit.1, ascending_heads (with_head p h) hs fit.1)

pub limits : (p : HeadPass) (hs : List HeadRow) → Fit p hs → AllByRecursion IsHeadRow hs
limits p [] fit = tt
limits p (h ∷ hs) fit = (fit.0.0, limits (with_head p h) hs fit.1)

pub fitting : (p : HeadPass) (hs : List HeadRow) → AllByRecursion (IsAfter p.last) hs → IsAscending head_cmp hs → AllByRecursion IsHeadRow hs → Fit p hs
fitting p [] first up are = tt
fitting p (h ∷ hs) first up are = ((are.0, first.0), fitting (with_head p h) hs up.0 up.1 are.1)

pub no_last : (hs : List HeadRow) → AllByRecursion (IsAfter None) hs
no_last [] = tt
no_last (h ∷ hs) = (tt, no_last hs)

all_rise : (g : HeadRow) (hs : List HeadRow) → AllByRecursion (λ x. head_cmp g x ≡ Less) hs → AllByRecursion (λ row. row_order (headed_row g) row ≡ Less) (map headed_row hs)
all_rise g [] all = tt
all_rise g (h ∷ hs) all = (same_order g h ∙ all.0, all_rise g hs all.1)

pub rows_rise : (hs : List HeadRow) → IsAscending head_cmp hs → Rises (λ a b. row_order a b ≡ Less) (map headed_row hs)
rows_rise [] up = tt
rows_rise (h ∷ hs) up = (all_rise h hs up.0, rows_rise hs up.1)
