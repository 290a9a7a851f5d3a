-- What follows from how a statement, or a part of it, came out.
use Rattle.std.proofs.Common.{◌≡◌, ◌⊎◌, inl, inr, ℕ, List, Ok, Err, Result, OnOk, OnErr}
use Rattle.sqlite_value.specs.Order.{Row}
use Rattle.sqlite.specs.declared.error.Error.{Error}
use Rattle.sqlite.specs.State.{State, ExecutesInside, IsUnchanged, IsRolledBack, KeepsCommit}

-- a part that gave a value did not stop on the way
pub went : {B E R : Type 0} {b : B} {Stops : E → Type 0} → ((stop : E) × Stops stop × (Ok b ≡ Err stop)) ⊎ R → R
went (inl stopped) = absurd (let e = stopped.2 in cc)
went (inr on) = on

pub same_value : {B E : Type 0} {a b : B} → ◌≡◌ {A = Result B E} (Ok a) (Ok b) → a ≡ b
same_value e = cc

pub on_ok_then : {A E : Type 0} {P Q : Type 0} (r : Result A E) → OnOk r P → (P → Q) → OnOk r Q
on_ok_then (Ok a) p f = f p
on_ok_then (Err e) p f = tt

-- ---- the last commit stays

pub kept_unchanged : (old new : State) → IsUnchanged old new → KeepsCommit old new
kept_unchanged old new same = record { was_open = λ _. same.0.was_open; committed = λ _. same.0.committed_is }

pub kept_undone : (old new : State) → IsRolledBack old new → KeepsCommit old new
kept_undone old new undone = record { was_open = undone.was_open; committed = λ is_open. (undone.undone is_open).1 }

-- a statement that is refused leaves it
pub kept_if_refused : (text : List ℕ) (params : Row) (old new : State) (r : Result ℕ Error) → ExecutesInside 0 text params old new r → OnErr r (KeepsCommit old new)
kept_if_refused text params old new (Ok count) h = tt
kept_if_refused text params old new (Err e) (inl (_, inl same)) = kept_unchanged old new same
kept_if_refused text params old new (Err e) (inl (_, inr undone)) = kept_undone old new undone
kept_if_refused text params old new (Err e) (inr (_, _, same)) = kept_unchanged old new same
