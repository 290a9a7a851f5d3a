-- Rows as they are put in first.
use Rattle.std.specs.Prelude.{ℕ, List, None}
use Rattle.vault_audit_model.specs.declared.rows.DepartmentRow.{DepartmentRow}
use Rattle.vault_audit_model.specs.declared.rows.BucketRow.{BucketRow}

-- a department with nothing admitted
abbrev pub new_department : List ℕ → DepartmentRow
new_department name = record { name = name; sums = record { admitted = 0; received = 0; held = 0; removed = 0; handed = 0; weighted = 0; closed = 0 } }

-- a bucket with no default retention
abbrev pub new_bucket : List ℕ → List ℕ → BucketRow
new_bucket name dept = record { name = name; config = record { dept = dept; default = None } }
