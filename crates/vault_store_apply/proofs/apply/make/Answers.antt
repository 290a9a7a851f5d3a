use Rattle.sqlite.specs.Held.{state}
use Rattle.vault_core_model.specs.declared.change.Change.TheVariants as change
use Rattle.vault_store_apply.proofs.ChangeLemmas.{made_as, left_of_all, left_of_one}
use Rattle.vault_store_apply.proofs.apply.make.Goals as goal

pub returns-in-AddDept-clause-crash : goal.returns-in-AddDept-clause-crash
returns-in-AddDept-clause-crash g c v was =
    left_of_all (state g.S.Store c.args.conn.now) (state g.S.Store c.add_department.new.conn) c.args.at c.args.change.now (change.AddDept c.in-AddDept.name) c.in-AddDept.is v was c.add_department.ensures.crash

pub returns-in-AddCaller-clause-crash : goal.returns-in-AddCaller-clause-crash
returns-in-AddCaller-clause-crash g c v was =
    left_of_all (state g.S.Store c.args.conn.now) (state g.S.Store c.add_caller.new.conn) c.args.at c.args.change.now (change.AddCaller c.in-AddCaller.caller) c.in-AddCaller.is v was c.add_caller.ensures.crash

pub returns-in-CloseCaller-clause-crash : goal.returns-in-CloseCaller-clause-crash
returns-in-CloseCaller-clause-crash g c v was =
    left_of_all (state g.S.Store c.args.conn.now) (state g.S.Store c.close_caller.new.conn) c.args.at c.args.change.now (change.CloseCaller c.in-CloseCaller.name) c.in-CloseCaller.is v was c.close_caller.ensures.crash

pub returns-in-AddBucket-clause-crash : goal.returns-in-AddBucket-clause-crash
returns-in-AddBucket-clause-crash g c v was =
    left_of_all (state g.S.Store c.args.conn.now) (state g.S.Store c.add_bucket.new.conn) c.args.at c.args.change.now (change.AddBucket c.in-AddBucket.name c.in-AddBucket.dept) c.in-AddBucket.is v was c.add_bucket.ensures.crash

pub returns-in-MoveBucket-clause-crash : goal.returns-in-MoveBucket-clause-crash
returns-in-MoveBucket-clause-crash g c v was =
    left_of_one (state g.S.Store c.args.conn.now) (state g.S.Store c.move_bucket.new.conn) c.args.at c.args.change.now (change.MoveBucket c.in-MoveBucket.name c.in-MoveBucket.dept) c.in-MoveBucket.is v was c.move_bucket.ensures.crash

pub returns-in-SetDefault-clause-crash : goal.returns-in-SetDefault-clause-crash
returns-in-SetDefault-clause-crash g c v was =
    left_of_all (state g.S.Store c.args.conn.now) (state g.S.Store c.set_default.new.conn) c.args.at c.args.change.now (change.SetDefault c.in-SetDefault.name c.in-SetDefault.default) c.in-SetDefault.is v was c.set_default.ensures.crash

pub returns-in-SetRules-clause-crash : goal.returns-in-SetRules-clause-crash
returns-in-SetRules-clause-crash g c v was =
    left_of_all (state g.S.Store c.args.conn.now) (state g.S.Store c.set_rules.new.conn) c.args.at c.args.change.now (change.SetRules c.in-SetRules.name c.in-SetRules.rules) c.in-SetRules.is v was c.set_rules.ensures.crash

pub returns-in-Admit-clause-crash : goal.returns-in-Admit-clause-crash
returns-in-Admit-clause-crash g c v was =
    left_of_one (state g.S.Store c.args.conn.now) (state g.S.Store c.admit.new.conn) c.args.at c.args.change.now (change.Admit c.in-Admit.admission) c.in-Admit.is v was c.admit.ensures.crash

pub returns-in-AddSetting-clause-crash : goal.returns-in-AddSetting-clause-crash
returns-in-AddSetting-clause-crash g c v was =
    left_of_one (state g.S.Store c.args.conn.now) (state g.S.Store c.add_setting.new.conn) c.args.at c.args.change.now (change.AddSetting c.in-AddSetting.id c.in-AddSetting.setting) c.in-AddSetting.is v was c.add_setting.ensures.crash

pub returns-in-Remove-clause-crash : goal.returns-in-Remove-clause-crash
returns-in-Remove-clause-crash g c v was =
    left_of_one (state g.S.Store c.args.conn.now) (state g.S.Store c.remove.new.conn) c.args.at c.args.change.now (change.Remove c.in-Remove.id c.in-Remove.removal) c.in-Remove.is v was c.remove.ensures.crash

pub returns-in-AddDept-clause-done : goal.returns-in-AddDept-clause-done
returns-in-AddDept-clause-done g c clean =
    made_as (state g.S.Store c.args.conn.now) (state g.S.Store c.add_department.new.conn) c.args.at c.args.change.now (change.AddDept c.in-AddDept.name) c.in-AddDept.is c.add_department.result (c.add_department.ensures.done clean)

pub returns-in-AddCaller-clause-done : goal.returns-in-AddCaller-clause-done
returns-in-AddCaller-clause-done g c clean =
    made_as (state g.S.Store c.args.conn.now) (state g.S.Store c.add_caller.new.conn) c.args.at c.args.change.now (change.AddCaller c.in-AddCaller.caller) c.in-AddCaller.is c.add_caller.result (c.add_caller.ensures.done clean)

pub returns-in-CloseCaller-clause-done : goal.returns-in-CloseCaller-clause-done
returns-in-CloseCaller-clause-done g c clean =
    made_as (state g.S.Store c.args.conn.now) (state g.S.Store c.close_caller.new.conn) c.args.at c.args.change.now (change.CloseCaller c.in-CloseCaller.name) c.in-CloseCaller.is c.close_caller.result (c.close_caller.ensures.done clean)

pub returns-in-AddBucket-clause-done : goal.returns-in-AddBucket-clause-done
returns-in-AddBucket-clause-done g c clean =
    made_as (state g.S.Store c.args.conn.now) (state g.S.Store c.add_bucket.new.conn) c.args.at c.args.change.now (change.AddBucket c.in-AddBucket.name c.in-AddBucket.dept) c.in-AddBucket.is c.add_bucket.result (c.add_bucket.ensures.done clean)

pub returns-in-MoveBucket-clause-done : goal.returns-in-MoveBucket-clause-done
returns-in-MoveBucket-clause-done g c clean =
    made_as (state g.S.Store c.args.conn.now) (state g.S.Store c.move_bucket.new.conn) c.args.at c.args.change.now (change.MoveBucket c.in-MoveBucket.name c.in-MoveBucket.dept) c.in-MoveBucket.is c.move_bucket.result (c.move_bucket.ensures.done clean)

pub returns-in-SetDefault-clause-done : goal.returns-in-SetDefault-clause-done
returns-in-SetDefault-clause-done g c clean =
    made_as (state g.S.Store c.args.conn.now) (state g.S.Store c.set_default.new.conn) c.args.at c.args.change.now (change.SetDefault c.in-SetDefault.name c.in-SetDefault.default) c.in-SetDefault.is c.set_default.result (c.set_default.ensures.done clean)

pub returns-in-SetRules-clause-done : goal.returns-in-SetRules-clause-done
returns-in-SetRules-clause-done g c clean =
    made_as (state g.S.Store c.args.conn.now) (state g.S.Store c.set_rules.new.conn) c.args.at c.args.change.now (change.SetRules c.in-SetRules.name c.in-SetRules.rules) c.in-SetRules.is c.set_rules.result (c.set_rules.ensures.done clean)

pub returns-in-Admit-clause-done : goal.returns-in-Admit-clause-done
returns-in-Admit-clause-done g c clean =
    made_as (state g.S.Store c.args.conn.now) (state g.S.Store c.admit.new.conn) c.args.at c.args.change.now (change.Admit c.in-Admit.admission) c.in-Admit.is c.admit.result (c.admit.ensures.done clean)

pub returns-in-AddSetting-clause-done : goal.returns-in-AddSetting-clause-done
returns-in-AddSetting-clause-done g c clean =
    made_as (state g.S.Store c.args.conn.now) (state g.S.Store c.add_setting.new.conn) c.args.at c.args.change.now (change.AddSetting c.in-AddSetting.id c.in-AddSetting.setting) c.in-AddSetting.is c.add_setting.result (c.add_setting.ensures.done clean)

pub returns-in-Remove-clause-done : goal.returns-in-Remove-clause-done
returns-in-Remove-clause-done g c clean =
    made_as (state g.S.Store c.args.conn.now) (state g.S.Store c.remove.new.conn) c.args.at c.args.change.now (change.Remove c.in-Remove.id c.in-Remove.removal) c.in-Remove.is c.remove.result (c.remove.ensures.done clean)
