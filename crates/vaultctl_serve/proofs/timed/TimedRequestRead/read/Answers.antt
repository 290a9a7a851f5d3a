use Rattle.std.proofs.Common.{◌+◌, ◌≤◌, IsSome, arith}
use Rattle.std.specs.Duration.{as_nanos}
use Rattle.vaultctl_serve.specs.InTime.{allowed}
use Rattle.vaultctl_serve.proofs.InTimeLemmas.{read-in_time}
use Rattle.vaultctl_serve.proofs.timed.TimedRequestRead.read.Goals as goal

-- what a read gave came in the time that was left
pub returns-clause-bytes : goal.returns-clause-bytes
returns-clause-bytes g c =
    let old = g.I.Inbound.coming c.args.self.now.inbound in
    let by = g.I.Inbound.time c.passed.new.self + as_nanos c.in_ok-left.left in
    let within : IsSome old → by ≤ allowed c.args.self.now.scan = λ known. let passed = c.in_ok-passed.ensures.value known in let left = c.in_ok-left.ensures.left.1 in let all = c.allowed.ensures in omega arith in
    read-in_time _ (g.I.Inbound.coming c.passed.new.self) old (g.I.Inbound.coming c.read_within.new.self) c.args.self.now.scan c.after-self.result by c.in_ok-count.count c.read_within.new.buf
    c.passed.ensures.coming c.after-self.ensures within c.in_ok-count.ensures.bytes
