-- When the values of a change are in their limits.
use Rattle.std.specs.Prelude.{Bool, IsTrue, IfSome}
use Rattle.vault_lock.specs.Retention.{is_period}
use Rattle.vault_core_model.specs.declared.change.Change.{Change}
use Rattle.vault_core_model.specs.declared.change.Change.TheVariants.{AddDept, AddCaller, CloseCaller, AddBucket, MoveBucket, SetDefault, SetRules, Admit, AddSetting, Remove}
use Rattle.vault_audit_model.specs.Limits.{IsPlainName, IsCaller, IsBucketName, AreRules, IsHistory, IsNote, IsSetting, IsRemoval}

-- the records that it brings are of their kinds and in their limits, those of a vault that registers contents which are kept outside, or doesn't
abbrev pub IsChangeInLimits : Bool → Change → Type 0
IsChangeInLimits external (AddDept name) = IsPlainName name
IsChangeInLimits external (AddCaller c) = IsCaller c
IsChangeInLimits external (CloseCaller name) = Unit {0}
IsChangeInLimits external (AddBucket name dept) = IsBucketName name × IsPlainName dept
IsChangeInLimits external (MoveBucket name dept) = IsPlainName dept
IsChangeInLimits external (SetDefault name default) = IfSome default (λ d. IsTrue (is_period d.period))
IsChangeInLimits external (SetRules name rules) = IfSome rules AreRules
IsChangeInLimits external (Admit a) = IsHistory external a.history × IfSome a.note (IsNote external)
IsChangeInLimits external (AddSetting id s) = IsSetting s
IsChangeInLimits external (Remove id r) = IsRemoval r
