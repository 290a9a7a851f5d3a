use Rattle.std.proofs.Common.{◌≡◌, true, false, Ok, Err, refl, rules, subst, sym, ◌∙◌}
use Rattle.vault_store_walks.proofs.HandLemmas.{HasWalked, begun, not_begun, too_many, ended, no_row, goes_on_with, refused, misread}
use Rattle.vault_store_walks.proofs.removed.walk_removed.Goals as goal

-- the query doesn't begin

pub returns-in_err-rows : goal.returns-in_err-rows
returns-in_err-rows g c =
    let is : c.from_residual.result ≡ Err c.in_err-rows.field-0.0 = search rules in
    let it = subst (HasWalked g.S.Store g.T.Sink.takes c.args.conn.now c.args.sink.now c.query.follows.lender-at-none c.args.sink.now) (sym is) (not_begun g.S.Store g.T.Sink.takes c.args.conn.now c.args.sink.now c.query.follows.lender-at-none _ c.query.result c.in_err-rows.was c.query.follows.holds-at-none) in
    record { value = it.value; read = it.read; «open» = it.opened; memory = it.memory }

-- the rows so far

pub rows-init : goal.rows-init
rows-init g c =
    let made = c.in_ok-rows.ensures in
    (refl, begun g.S.Store g.T.Sink.takes c.args.conn.now c.args.sink.now _ made.begun made.survives made.mode)

pub rows-preserved : goal.rows-preserved
rows-preserved g c =
    let took : c.in_ok-hand.field-0 ≡ true = search rules in
    (c.next.follows.holds-at-none.same_reference ∙ c.rows.invariant.0, goes_on_with g.S.Store g.T.Sink.takes c.args.conn.now c.args.sink.now c.rows.rows c.next.follows.lender-at-none c.rows.sink c.rows.invariant.1 c.in-Some.row (rw (c.in_ok-row.was, c.in-Some.is) at c.next.follows.holds-at-none) c.hand.new.sink (rw took at c.in_ok-hand.ensures.ok))

-- no further row

pub returns-in_default : goal.returns-in_default
returns-in_default g c =
    let same : c.next.follows.lender-at-none.conn.now ≡ c.conn-in_default-1.given.0 = search rules in
    let it = subst (λ h. HasWalked g.S.Store g.T.Sink.takes c.args.conn.now c.args.sink.now h c.rows.sink (Ok true)) same (ended g.S.Store g.T.Sink.takes c.args.conn.now c.args.sink.now c.rows.rows c.next.follows.lender-at-none c.rows.sink c.rows.invariant.1 (rw (c.in_ok-row.was, c.in_default.is) at c.next.follows.holds-at-none)) in
    record { value = it.value; read = it.read; «open» = it.opened; memory = it.memory }

-- the sink refuses

pub returns-then-not-branch : goal.returns-then-not-branch
returns-then-not-branch g c =
    let same : c.next.follows.lender-at-none.conn.now ≡ c.conn-then-not-branch-1.given.0 = search rules in
    let it = subst (λ h. HasWalked g.S.Store g.T.Sink.takes c.args.conn.now c.args.sink.now h c.hand.new.sink (Ok false)) same (let refuses : c.in_ok-hand.field-0 ≡ false = search rules in refused g.S.Store g.T.Sink.takes c.args.conn.now c.args.sink.now c.rows.rows c.next.follows.lender-at-none c.rows.sink c.rows.invariant.1 c.in-Some.row (rw (c.in_ok-row.was, c.in-Some.is) at c.next.follows.holds-at-none) c.hand.new.sink (rw refuses at c.in_ok-hand.ensures.ok)) in
    record { value = it.value; read = it.read; «open» = it.opened; memory = it.memory }

-- it failed at an entry

pub returns-in_err-hand : goal.returns-in_err-hand
returns-in_err-hand g c =
    let same : c.next.follows.lender-at-none.conn.now ≡ c.conn-in_err-hand-1.given.0 = search rules in
    let is : c.from_residual-in_err-hand.result ≡ Err c.in_err-hand.field-0.0 = search rules in
    let it = subst (λ h. HasWalked g.S.Store g.T.Sink.takes c.args.conn.now c.args.sink.now h c.hand.new.sink c.from_residual-in_err-hand.result) same (subst (HasWalked g.S.Store g.T.Sink.takes c.args.conn.now c.args.sink.now _ c.hand.new.sink) (sym is) (misread g.S.Store g.T.Sink.takes c.args.conn.now c.args.sink.now c.rows.rows c.next.follows.lender-at-none c.rows.sink c.rows.invariant.1 c.in-Some.row (rw (c.in_ok-row.was, c.in-Some.is) at c.next.follows.holds-at-none) c.hand.new.sink _ (search rules) c.in_err-hand.ensures.memory)) in
    record { value = it.value; read = it.read; «open» = it.opened; memory = it.memory }

-- no row could be had

pub returns-in_err-row : goal.returns-in_err-row
returns-in_err-row g c =
    let same : c.next.follows.lender-at-none.conn.now ≡ c.conn-in_err-row-1.given.0 = search rules in
    let is : c.from_residual-in_err-row.result ≡ Err c.in_err-row.field-0.0 = search rules in
    let it = subst (λ h. HasWalked g.S.Store g.T.Sink.takes c.args.conn.now c.args.sink.now h c.rows.sink c.from_residual-in_err-row.result) same (subst (HasWalked g.S.Store g.T.Sink.takes c.args.conn.now c.args.sink.now _ c.rows.sink) (sym is) (no_row g.S.Store g.T.Sink.takes c.args.conn.now c.args.sink.now c.rows.rows c.next.follows.lender-at-none c.rows.sink c.rows.invariant.1 _ (rw c.in_err-row.was at c.next.follows.holds-at-none))) in
    record { value = it.value; read = it.read; «open» = it.opened; memory = it.memory }

-- more rows than can be counted

pub returns : goal.returns
returns g c =
    let same : c.rows.rows.conn.now ≡ c.conn-2-1.given.0 = search rules in
    let it = subst (λ h. HasWalked g.S.Store g.T.Sink.takes c.args.conn.now c.args.sink.now h c.rows.sink _) same (too_many g.S.Store g.T.Sink.takes c.args.conn.now c.args.sink.now c.rows.rows.conn.now c.rows.sink c.rows.invariant.1) in
    record { value = it.value; read = it.read; «open» = it.opened; memory = it.memory }
