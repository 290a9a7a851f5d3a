-- The sums over the tenures of all departments, taken over the rows of tenures one by one.
use Rattle.std.specs.Prelude.{◌≡◌, ◌≢◌, ℕ, ◌≤◌, Bool, true, false, not, List, [], ◌∷◌, ◌==◌, Option, Some, None, option_map, IfSome, IsTrue}
use Rattle.sqlite_value.specs.declared.value.Value.TheVariants.{Text}
use Rattle.sqlite_value.specs.Order.{Row as Values}
use Rattle.vault_base.specs.Days.{day, last_moment}
use Rattle.vault_base.specs.Name.{is_version_id}
use Rattle.vault_core_model.specs.Totals.{Share, share}
use Rattle.vault_audit_model.specs.Limits.{IsTenure}
use Rattle.vault_audit_model.specs.Values.{number, number_or_null}
use Rattle.vault_audit_tenures.specs.declared.sums.tenures.Pending.{Pending}
use Rattle.vault_audit_tenures.specs.declared.sums.tenures.TenurePass.{TenurePass}
use Rattle.vault_audit_tenures.specs.declared.sums.tenures.StatedTenure.{StatedTenure}
use Rattle.vault_audit_tenures.specs.declared.sums.totals.Totals.{Totals}
use Rattle.vault_audit_tenures.specs.Totals.{CountsFor}

-- what is shown of a tenure beside its version
abbrev pub stated_row : StatedTenure → Values
stated_row t =
    number t.id ∷ number t.tenure.number ∷ Text t.tenure.dept ∷ number t.tenure.from ∷ number t.size ∷ number_or_null t.removed
    ∷ []

pub record IsStated (t : StatedTenure) : Type 0 where
  pub id : IsTrue (is_version_id t.id)
  pub tenure : IsTenure t.tenure
  pub removed : IfSome t.removed (λ r. r ≤ last_moment)

-- a tenure that comes after another is its version's first where that one is of another version, whatever its number is
abbrev pub begins_after : StatedTenure → StatedTenure → Bool
begins_after before t = not (before.id == t.id)

abbrev pub begins : Option Pending → StatedTenure → Bool
begins None t = true
begins (Some before) t = begins_after before.stated t

-- the tenure as it counts, by whether it is the version's first, the moment of its end and whether it is the version's last
abbrev pub share_as : Bool → StatedTenure → Option ℕ → Bool → Share
share_as first t ended last = share t.size first t.tenure (option_map day ended) last

-- as the version's last it ends with the removal
abbrev pub last_share : Bool → StatedTenure → Share
last_share first t = share_as first t t.removed true

-- before another tenure: it ends as that begins where both are of one version, and is its version's last where they aren't
abbrev pub share_where : Bool → Bool → StatedTenure → StatedTenure → Share
share_where true first t next = share_as first t (Some next.tenure.from) false
share_where false first t next = last_share first t

abbrev pub share_before : Bool → StatedTenure → StatedTenure → Share
share_before first t next = share_where (t.id == next.id) first t next

-- what counts of tenures that are met in this order, where the one in front is its version's first or not
abbrev pub shares_stated : Bool → List StatedTenure → List Share
shares_stated first [] = []
shares_stated first (t ∷ []) = last_share first t ∷ []
shares_stated first (t ∷ next ∷ more) = share_before first t next ∷ shares_stated (begins_after t next) (next ∷ more)

abbrev pub CountsShare : Totals → Share → Totals → Type 0
CountsShare s x t = CountsFor s x.dept x.item t

-- the pending tenure is counted as the next one is met
abbrev pub CountsPending : Totals → Option Pending → StatedTenure → Totals → Type 0
CountsPending s None next t = t ≡ s
CountsPending s (Some before) next t = CountsShare s (share_before before.first before.stated next) t

-- and the last one as none is left
abbrev pub CountsLast : Totals → Option Pending → Totals → Type 0
CountsLast s None t = t ≡ s
CountsLast s (Some last) t = CountsShare s (last_share last.first last.stated) t

-- one row is pending, and the one before it goes into the sums
abbrev pub GoesIn : TenurePass → Values → TenurePass → Type 0
GoesIn p row q = (t : StatedTenure) × (row ≡ stated_row t) × CountsPending p.totals p.pending t q.totals
    × (q.pending ≡ Some (record { stated = t; first = begins p.pending t }))

-- the row holds no tenure in its limits beside a version
abbrev pub ReportsNone : TenurePass → Values → Type 0
ReportsNone p row = (t : StatedTenure) → IsStated t → row ≢ stated_row t
