-- The edits of the tables that the parts make which change records, configurations or whose a bucket is.
use Rattle.std.specs.Prelude.{ℕ, List, map, Option, None}
use Rattle.vault_base.specs.declared.refusal.Table.TheVariants as table
use Rattle.vault_lock.specs.declared.retention.Default.{Default}
use Rattle.vault_rules.specs.declared.rule.Rule.{Rule}
use Rattle.vault_tally.specs.declared.row.Row.{Row as Sums}
use Rattle.vault_core_model.specs.declared.records.Caller.{Caller}
use Rattle.vault_audit_model.specs.Rows.{department_row, caller_row, bucket_row, rule_row}
use Rattle.vault_audit_model.specs.Spells.{rules_from}
use Rattle.vault_store_model.specs.Rows.{Rows}
use Rattle.vault_store_model.specs.Edits.{with_row, with_changed, without, and_then, with_each, at_moment}
use Rattle.vault_store_model.specs.Copies.{with_tenures}
use Rattle.vault_store_model.specs.Tests.{is_named, every, closed_row, with_default_columns, with_last_and_moves, with_owner, with_sums}

abbrev pub department_added : List ℕ → ℕ → Rows → Rows
department_added name t =
    and_then (with_row table.Departments (department_row (record { name = name; sums = record { admitted = 0; received = 0; held = 0; removed = 0; handed = 0; weighted = 0; closed = 0 } }))) (at_moment t)

abbrev pub caller_added : Caller → ℕ → Rows → Rows
caller_added c t = and_then (with_row table.Callers (caller_row c)) (at_moment t)

abbrev pub caller_closed : List ℕ → ℕ → Rows → Rows
caller_closed name t = and_then (with_changed table.Callers (is_named name) closed_row) (at_moment t)

abbrev pub bucket_added : List ℕ → List ℕ → ℕ → Rows → Rows
bucket_added name dept t = and_then (with_row table.Buckets (bucket_row (record { name = name; config = record { dept = dept; default = None } }))) (at_moment t)

abbrev pub default_set : List ℕ → Option Default → ℕ → Rows → Rows
default_set name default t = and_then (with_changed table.Buckets (is_named name) (with_default_columns default)) (at_moment t)

abbrev pub rules_set : List ℕ → List Rule → ℕ → Rows → Rows
rules_set name rules t = and_then (without table.Rules (is_named name)) (and_then (with_each table.Rules (map rule_row (rules_from name 1 rules))) (at_moment t))

-- the held versions of a bucket get a tenure of that department by the move of that number, and the bucket gets the department
abbrev pub bucket_given : List ℕ → ℕ → List ℕ → ℕ → Rows → Rows
bucket_given name number dept t = and_then (with_tenures name number dept t) (with_changed table.Buckets (is_named name) (with_owner dept))

-- the sums of a department that hands a bucket over, and of the one that receives it
abbrev pub both_summed : List ℕ → Sums → List ℕ → Sums → Rows → Rows
both_summed owner handed dept received =
    and_then (with_changed table.Departments (is_named owner) (with_sums handed)) (with_changed table.Departments (is_named dept) (with_sums received))

-- a bucket becomes that department's by the move of that number, with the sums of the department that had it and of the one that gets it
abbrev pub bucket_moved : List ℕ → ℕ → List ℕ → ℕ → List ℕ → Sums → Sums → Rows → Rows
bucket_moved name number dept t owner handed received =
    and_then (with_tenures name number dept t)
    (and_then (with_changed table.Buckets (is_named name) (with_owner dept))
    (and_then (with_changed table.Departments (is_named owner) (with_sums handed))
    (and_then (with_changed table.Departments (is_named dept) (with_sums received))
    (with_changed table.Meta every (with_last_and_moves t number)))))
