-- What commands can't have made is found, with the law that it breaks.
use Rattle.std.proofs.Common.{◌≡◌, ℕ, List, [], ◌∷◌, true, false, Option, Some, None, refl}
use Rattle.std.specs.Prelude.{codes}
use Rattle.vault_lock.specs.declared.retention.Mode.TheVariants.{Compliance}
use Rattle.vault_core_model.specs.declared.records.Author.TheVariants as author
use Rattle.vault_core_model.specs.declared.records.Cause.TheVariants as cause
use Rattle.vault_core_model.specs.declared.records.Caller.{Caller}
use Rattle.vault_core_model.specs.declared.records.History.{History}
use Rattle.vault_core_model.specs.declared.records.Removal.{Removal}
use Rattle.vault_core_model.specs.declared.records.Setting.{Setting}
use Rattle.vault_core_model.specs.Rights.{no_rights, rights_number}
use Rattle.vault_core_model.specs.Vault.{Vault, opening}
use Rattle.vault_core_evidence.specs.declared.breach.Law.TheVariants as law
use Rattle.vault_core_evidence.specs.Moves.{none_seen}
use Rattle.vault_core_evidence.specs.Breaches.{breach, first_breach}

abbrev ann : Caller
ann = record { name = codes "ann"; dept = Some (codes "d"); rights = record no_rights { put = true; retain = true; hold = true; delete_version = true }; closed = true }

abbrev v : Vault
v = record opening { last = 300; callers = ann ∷ [] }

abbrev first : Setting
first = record { at = 100; by = codes "ann"; lock = record { retention = Some (record { mode = Compliance; until = 1000 }); hold = true }; bypass = false }

abbrev history : Option Removal → List Setting → History
history removal settings = record {
  entry = record { id = 1; bucket = codes "b"; key = codes "a,b"; marker = false; size = 2; digest = None; admitted = 100; by = author.Caller (codes "ann"); removal = removal };
  content = None;
  settings = settings;
  tenures = record { dept = codes "d"; from = 100; number = 0 } ∷ record { dept = codes "e"; from = 150; number = 7 } ∷ [];
}

abbrev later : ℕ → List ℕ → Option ℕ → Setting
later at who (Some until) = record { at = at; by = who; lock = record { retention = Some (record { mode = Compliance; until = until }); hold = false }; bypass = false }
later at who None = record { at = at; by = who; lock = record { retention = None; hold = false }; bypass = false }

abbrev removed_at : ℕ → Option Removal
removed_at t = Some (record { at = t; cause = cause.Request (codes "ann") })

-- held, and its hold lifted by who may
lawful_one : breach v none_seen [] (history None (first ∷ later 200 (codes "ann") (Some 1000) ∷ [])) ≡ None
lawful_one = refl

-- destroyed under compliance and a hold
destroyed : breach v none_seen [] (history (removed_at 200) (first ∷ [])) ≡ Some law.Removal
destroyed = refl

-- the retention taken off
stripped : breach v none_seen [] (history None (first ∷ later 200 (codes "ann") None ∷ [])) ≡ Some law.Setting
stripped = refl

-- the end put nearer
nearer : breach v none_seen [] (history None (first ∷ later 200 (codes "ann") (Some 999) ∷ [])) ≡ Some law.Setting
nearer = refl

-- the hold lifted by nobody known
by_nobody : breach v none_seen [] (history None (first ∷ later 200 (codes "eve") (Some 1000) ∷ [])) ≡ Some law.Setter
by_nobody = refl

-- settings that go back in time, and one that is past the last moment
back : breach v none_seen [] (history None (first ∷ later 99 (codes "ann") (Some 1000) ∷ [])) ≡ Some law.Order
back = refl

ahead : breach v none_seen [] (history None (first ∷ later 301 (codes "ann") (Some 1000) ∷ [])) ≡ Some law.Order
ahead = refl

-- the first setting replaced by a weaker one, made later
replaced : breach v none_seen [] (history None (later 200 (codes "ann") None ∷ [])) ≡ Some law.FirstSetting
replaced = refl

-- a retention that had ended as it was given with the admission, and one that ends a second later
abbrev first_until : ℕ → Setting
first_until until = record first { lock = record { retention = Some (record { mode = Compliance; until = until }); hold = true } }

ended : breach v none_seen [] (history None (first_until 100 ∷ [])) ≡ Some law.FirstSetting
ended = refl

ends_later : breach v none_seen [] (history None (first_until 101 ∷ [])) ≡ None
ends_later = refl

-- ---- departments

-- that caller of another department, and of none
abbrev ann_of : Option (List ℕ) → Vault
ann_of dept = record v { callers = record ann { dept = dept } ∷ [] }

of_another : breach (ann_of (Some (codes "e"))) none_seen [] (history None (first ∷ [])) ≡ Some law.Admission
of_another = refl

of_none : breach (ann_of None) none_seen [] (history None (first ∷ [])) ≡ Some law.Admission
of_none = refl

-- a marker by that caller, who may delete
abbrev marker : History
marker = record {
  entry = record { id = 1; bucket = codes "b"; key = codes "a,b"; marker = true; size = 0; digest = None; admitted = 100; by = author.Caller (codes "ann"); removal = None };
  content = None;
  settings = [];
  tenures = [];
}

abbrev deleter_of : Option (List ℕ) → Vault
deleter_of dept = record v { callers = record ann { dept = dept; rights = record no_rights { delete = true } } ∷ [] }

marked_by_any : breach (deleter_of (Some (codes "e"))) none_seen [] marker ≡ None
marked_by_any = refl

marked_by_none : breach (deleter_of None) none_seen [] marker ≡ Some law.Admission
marked_by_none = refl

-- ---- moves

-- another version in that bucket, which moved then
abbrev another : ℕ → History
another from = record (history None (first ∷ [])) {
  entry = record { id = 2; bucket = codes "b"; key = codes "c"; marker = false; size = 2; digest = None; admitted = 100; by = author.Caller (codes "ann"); removal = None };
  tenures = record { dept = codes "d"; from = 100; number = 0 } ∷ record { dept = codes "e"; from = from; number = 7 } ∷ [];
}

abbrev registrar : Caller
registrar = record { name = codes "registrar"; dept = None; rights = record no_rights { admin = true }; closed = true }

abbrev of_two : ℕ → Vault
of_two from = record v { callers = ann ∷ registrar ∷ []; histories = history None (first ∷ []) ∷ another from ∷ [] }

-- one move of both
one_move : first_breach (of_two 150) ≡ None
unfolding rights_number
one_move = refl

-- the other one moved a second later, by a move of the same number
two_moves : first_breach (of_two 151) ≡ Some (record { id = 2; law = law.Move })
unfolding rights_number
two_moves = refl

-- ---- departments beside each other

-- another version in that bucket, admitted by ann in the name of her department, which had moved to the other one at 150
abbrev late : ℕ → ℕ → History
late id from = record (another 150) {
  entry = record (another 150).entry { id = id; admitted = from };
  settings = record first { at = from } ∷ [];
  tenures = record { dept = codes "d"; from = from; number = 0 } ∷ [];
}

late_one : first_breach (record (of_two 150) { histories = history None (first ∷ []) ∷ late 2 151 ∷ [] }) ≡ Some (record { id = 2; law = law.Department })
unfolding rights_number
late_one = refl

-- once the one before it was removed, no row shows what became of the bucket
apart : first_breach (record (of_two 150) { histories = history (removed_at 151) (record first { lock = record { retention = None; hold = false } } ∷ []) ∷ late 2 151 ∷ [] }) ≡ None
unfolding rights_number
apart = refl

-- ---- the caller of a new vault

without : first_breach (record (of_two 150) { callers = ann ∷ [] }) ≡ Some (record { id = 1; law = law.Registrar })
unfolding rights_number
without = refl

of_rights : first_breach (record (of_two 150) { callers = ann ∷ record registrar { rights = record no_rights { admin = true; put = true } } ∷ [] }) ≡ Some (record { id = 1; law = law.Registrar })
unfolding rights_number
of_rights = refl

of_department : first_breach (record (of_two 150) { callers = ann ∷ record registrar { dept = Some (codes "d") } ∷ [] }) ≡ Some (record { id = 1; law = law.Registrar })
unfolding rights_number
of_department = refl
