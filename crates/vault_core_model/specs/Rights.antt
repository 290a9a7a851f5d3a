-- The rights of a caller.
use Rattle.std.specs.Prelude.{ℕ, ◌+◌, ◌*◌, ◌/◌, ◌%◌, ◌==◌, if◌then◌else◌, Bool, true, false, List, [], ◌∷◌, map}
use Rattle.vault_base.specs.Right.{rights}
use Rattle.vault_base.specs.declared.right.Right.{Right}
use Rattle.vault_base.specs.declared.right.Right.TheVariants as right
use Rattle.vault_core_model.specs.declared.rights.Rights.{Rights}

-- no right at all
abbrev pub no_rights : Rights
no_rights = record { admin = false; config = false; put = false; retain = false; hold = false; get = false; list = false; delete = false; delete_version = false; run = false; report = false; bypass = false }

-- these rights and one more
abbrev pub with_right : Right → Rights → Rights
with_right right.Admin r = record r { admin = true }
with_right right.Config r = record r { config = true }
with_right right.Put r = record r { put = true }
with_right right.Retain r = record r { retain = true }
with_right right.Hold r = record r { hold = true }
with_right right.Get r = record r { get = true }
with_right right.List r = record r { list = true }
with_right right.Delete r = record r { delete = true }
with_right right.DeleteVersion r = record r { delete_version = true }
with_right right.Run r = record r { run = true }
with_right right.Report r = record r { report = true }
with_right right.Bypass r = record r { bypass = true }

-- whether a right is among these
abbrev pub has : Rights → Right → Bool
has r right.Admin = r.admin
has r right.Config = r.config
has r right.Put = r.put
has r right.Retain = r.retain
has r right.Hold = r.hold
has r right.Get = r.get
has r right.List = r.list
has r right.Delete = r.delete
has r right.DeleteVersion = r.delete_version
has r right.Run = r.run
has r right.Report = r.report
has r right.Bypass = r.bypass

-- the number of these binary digits, the lowest first
abbrev pub digits_number : List Bool → ℕ
digits_number [] = 0
digits_number (false ∷ digits) = 2 * digits_number digits
digits_number (true ∷ digits) = 1 + 2 * digits_number digits

-- a digit for each right, the first of all rights being the lowest
unfoldable pub rights_number : Rights → ℕ
rights_number r = digits_number (map (has r) rights)

-- those of these rights whose digit is set in the number
abbrev pub with_digits : List Right → ℕ → Rights
with_digits [] n = no_rights
with_digits (right ∷ later) n =
    let others = with_digits later (n / 2) in
    if n % 2 == 1 then with_right right others else others
