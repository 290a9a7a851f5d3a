-- The row of a department: seven sums over the tenures that it has of content versions.
use Rattle.std.specs.Prelude.{◌≡◌, ℕ, ◌-◌, ◌*◌, Bool, true, false, nat_le, List, map, Option, Some, None, is_none, sum_by, ◌&&◌, ◌≤◌, IsTrue, if◌then◌else◌}
use Rattle.std.specs.List.{list_all}
pub use Rattle.vault_base.specs.Days.{last_day}
use Rattle.vault_tally.specs.declared.row.Row.{Row}

-- a tenure of a version: its size, whether it is the version's first tenure, the day from which the department has it, the day of its end or none, and whether it is the version's last one. The last ends with the removal; any other ends as the next begins.
pub record Item : Type 0 where
  pub size : ℕ
  pub first : Bool
  pub from : ℕ
  pub ended : Option ℕ
  pub last : Bool

-- the bytes that a department may ever admit and receive
abbrev pub quota : ℕ
quota = 1000000000000

-- the first number where nothing ended, else the second
abbrev pub if_held : Option ℕ → ℕ → ℕ → ℕ
if_held None held ended = held
if_held (Some day) held ended = ended

-- the last day that counts: that of the end, or today
abbrev pub end_day : Option ℕ → ℕ → ℕ
end_day None today = today
end_day (Some ended) today = ended

abbrev pub size_of : Item → ℕ
size_of i = i.size

-- admitted to the department, or received with a bucket
abbrev pub admitted_size : Item → ℕ
admitted_size i = if i.first then i.size else 0

abbrev pub received_size : Item → ℕ
received_size i = if i.first then 0 else i.size

-- held, or at an end: removed, or handed over with a bucket
abbrev pub held_size : Item → ℕ
held_size i = if_held i.ended i.size 0

abbrev pub removed_size : Item → ℕ
removed_size i = if_held i.ended 0 (if i.last then i.size else 0)

abbrev pub handed_size : Item → ℕ
handed_size i = if_held i.ended 0 (if i.last then 0 else i.size)

-- size times the day from which the department has it, while it is held
abbrev pub weight : Item → ℕ
weight i = if_held i.ended (i.size * i.from) 0

-- the byte-days of a tenure: size times its days
abbrev pub byte_days : ℕ → Item → ℕ
byte_days today i = i.size * (end_day i.ended today - i.from)

-- the byte-days of a tenure at its end
abbrev pub closed_byte_days : Item → ℕ
closed_byte_days i = if_held i.ended 0 (byte_days 0 i)

-- the row is the sums over these tenures
pub record IsRowOf (row : Row) (items : List Item) : Type 0 where
  pub admitted : row.admitted ≡ sum_by admitted_size items
  pub received : row.received ≡ sum_by received_size items
  pub held : row.held ≡ sum_by held_size items
  pub removed : row.removed ≡ sum_by removed_size items
  pub handed : row.handed ≡ sum_by handed_size items
  pub weighted : row.weighted ≡ sum_by weight items
  pub closed : row.closed ≡ sum_by closed_byte_days items

-- the byte-days of all these tenures, those that last up to today
abbrev pub charge : ℕ → List Item → ℕ
charge today items = sum_by (byte_days today) items

-- no day goes back, and none is past the last one
abbrev pub is_dated : Item → Bool
is_dated i = nat_le i.from (end_day i.ended last_day) && nat_le (end_day i.ended last_day) last_day

-- so of each tenure, and all that was admitted and received is within the quota: then no sum overflows
pub record AreBounded (items : List Item) : Type 0 where
  pub dated : IsTrue (list_all is_dated items)
  pub within : sum_by size_of items ≤ quota

-- none began after that day
abbrev pub AreBegunBy : ℕ → List Item → Type 0
AreBegunBy today items = IsTrue (list_all (λ i. nat_le i.from today) items)

-- a version that is held: admitted to the department, or received
abbrev pub held_item : Bool → ℕ → ℕ → Item
held_item first size from = record { size = size; first = first; from = from; ended = None; last = true }

-- one that was removed: its size, the day from which the department had it, and that of its removal
abbrev pub removed_item : Bool → ℕ → ℕ → ℕ → Item
removed_item first size from day = record { size = size; first = first; from = from; ended = Some day; last = true }

-- versions of these sizes, received on that day
abbrev pub received_items : ℕ → List ℕ → List Item
received_items day sizes = map (λ size. held_item false size day) sizes

-- the tenure, ended on that day by another
abbrev pub handed_item : ℕ → Item → Item
handed_item day i = record { size = i.size; first = i.first; from = i.from; ended = Some day; last = false }

-- these tenures are of held versions, whose sizes come to that, and whose sizes times the day from which the department has them to that
pub record AreHeld (size weighing : ℕ) (items : List Item) : Type 0 where
  pub held : IsTrue (list_all (λ i. is_none i.ended) items)
  pub bytes : sum_by size_of items ≡ size
  pub weighed : sum_by weight items ≡ weighing

-- any tenure
abbrev pub tenure_item : ℕ → Bool → ℕ → Option ℕ → Bool → Item
tenure_item size first from ended last = record { size = size; first = first; from = from; ended = ended; last = last }

-- the size where the test passes
abbrev pub size_where : Bool → ℕ → ℕ
size_where test size = if test then size else 0
