-- Queries that change nothing, and the rows that a running check has gone over.
use Rattle.std.proofs.Common.{◌≡◌, ℕ, List, [], ◌∷◌, ◌++◌, Bool, true, false, Result, Ok, Err, IfOk, refl, sym, subst, arith}
use Rattle.std.specs.List.{AllByRecursion}
use Rattle.sqlite_value.specs.Order.{Row}
use Rattle.sqlite.specs.Effect.{Database}
use Rattle.sqlite.specs.Listing.{understood, reads_listing, IsSourceOf}
use Rattle.sqlite.specs.Clock.{timed}
use Rattle.sqlite.specs.State.{State, HasCleanDisk, IsUnchanged, Survives, Shown, ShowsRows, CommitsShowing}
use Rattle.sqlite.proofs.StateLemmas.{survives_weaker}
use Rattle.sqlite.proofs.Callers.{IsPlain, never_commits, unchanged_then}
use Rattle.vault_audit_rows.specs.Records.{Checked}
use Rattle.vault_audit_rows.specs.Walk.{Goes, Walked}

pub commits_nothing : (sql : List ℕ) (params : Row) (old new : State) → (HasCleanDisk old → IsPlain (understood old.now.schema sql)) → Survives old new (CommitsShowing sql params old) → Survives old new (λ _. ⊥)
commits_nothing sql params old new plain s = survives_weaker old new _ _ (λ late db. let early : HasCleanDisk old = omega (arith, s.clean) in never_commits sql params old db (plain early)) s

-- the answer is that of the database as it was before
pub shown_from : (sql : List ℕ) (params : Row) (first old new : State) (rows : List Row) → IsPlain (understood first.now.schema sql) → IsUnchanged first old → Shown sql params old new rows → Shown sql params first new rows
unfolding Shown
shown_from sql params first old new rows plain same h =
    let back = same.0.now_is in
    let known = subst (λ (d : Database). understood d.schema sql ≡ Ok h.0) back h.1.is in
    let none = (subst IsPlain known plain).0 in
    let full = timed params h.0.formats h.1.now in
    let it = subst (ShowsRows old new sql h.0 full rows) none h.2 in (
      h.0,
      record { is = known; whole = h.1.whole; given = h.1.given; now = h.1.now },
      subst (ShowsRows first new sql h.0 full rows) (sym none) (it.0, subst (λ (d : Database). IsSourceOf (reads_listing d.schema sql) d it.0) back it.1, it.2, unchanged_then first old new same it.3),
    )

pub goes_on : {P : Type 0} (step : P → Row → P → Type 0) (p m q : P) (rows : List Row) (row : Row) → Goes step p rows m → step m row q → Goes step p (rows ++ row ∷ []) q
goes_on step p m q [] row same one = (q, subst (λ x. step x row q) (sym same) one, refl)
goes_on step p m q (r ∷ rows) row h one = (h.0, h.1, goes_on step h.0 m q rows row h.2 one)

-- a check that stays as it is takes each row by itself
module _ {P : Type 0} (takes : P → Row → Type 0) where
  abbrev alone : P → Row → P → Type 0
  alone p row q = (q ≡ p) × takes p row

  stays : (p q : P) (rows : List Row) → Goes alone p rows q → (q ≡ p) × AllByRecursion (takes p) rows
  stays p q [] same = (sym same, tt)
  stays p q (row ∷ rows) h =
      let rest = subst (λ m. (q ≡ m) × AllByRecursion (takes m) rows) h.1.0 (stays h.0 q rows h.2) in
      (rest.0, (h.1.1, rest.1))

  pub checked : {E : Type 0} (sql : List ℕ) (old new : State) (p q : P) (r : Result Bool E) → IfOk r (Walked alone (λ m row. ¬ takes m row) sql old new p q) → IfOk r (Checked (takes p) sql old new)
  checked sql old new p q (Err e) h = tt
  checked sql old new p q (Ok true) h = (h.0, h.1, (stays p q h.0 h.2).1)
  checked sql old new p q (Ok false) h = (h.0, h.1, h.3, subst (λ m. ¬ takes m h.1) (stays p h.2 h.0 h.4).0 h.5)
