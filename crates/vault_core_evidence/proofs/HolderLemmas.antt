-- The version of each bucket that is held longest shows what all versions before show, from the last admission on.
use Rattle.std.proofs.Common.{◌≡◌, ◌⊎◌, ℕ, ◌≤◌, ◌<◌, List, [], ◌∷◌, Bool, true, false, cond, is_eq, Option, Some, None, refl, sym, ap, subst, ◌∙◌, inl, inr, arith}
use Rattle.std.specs.Prelude.{not, nat_le, option_map, if◌then◌else◌}
use Rattle.std.specs.List.{AllByRecursion}
use Rattle.std.specs.BTreeMap.{get}
use Rattle.std.specs.Str.{bytes_eq}
use Rattle.std.proofs.lemmas.Bool.{leb-true, leb-false}
use Rattle.std.proofs.lemmas.Map.Text.{is_eq-slice_cmp}
use Rattle.std.proofs.lemmas.Slice.Eq.{bytes_eq-Decides}
use Rattle.vault_core_model.specs.declared.records.History.{History}
use Rattle.vault_core_model.specs.declared.records.Removal.{Removal}
use Rattle.vault_core_model.specs.declared.records.Tenure.{Tenure}
use Rattle.vault_core_model.specs.Order.{name_cmp}
use Rattle.vault_core_model.specs.Sound.{AreTenures, FollowOn, HasTenures, HasTenuresAs, end_of}
use Rattle.vault_core_model.specs.Vault.{Vault}
use Rattle.vault_core_evidence.specs.declared.holders.Holder.{Holder}
use Rattle.vault_core_evidence.specs.declared.holders.Holders.{Holders}
use Rattle.vault_core_evidence.specs.Departments.{Agree, IsBefore, WasOf, agrees_with, removed_at}
use Rattle.vault_core_evidence.specs.Holders.{fits_holder, holder_of, is_later, Keeps, longer, outlasts}
use Rattle.vault_core_evidence.specs.Walk.{holder_after}
use Rattle.vault_core_evidence.proofs.DepartmentTests.{agrees_is, fit_is, is_agrees, is_fit}

if_cond : (b : Bool) (x y : Option Holder) → cond b x y ≡ (if b then x else y)
if_cond true x y = refl
if_cond false x y = refl

-- one version kept, as the map has it
pub kept : (s after : Holders) (bucket : List ℕ) (h : Holder) → ((name : List ℕ) → get name_cmp after.holders name ≡ cond (is_eq (name_cmp bucket name)) (Some h) (get name_cmp s.holders name)) → Keeps s bucket h after
kept s after bucket h put name =
    put name ∙ (ap (λ b. cond b (Some h) (get name_cmp s.holders name)) (is_eq-slice_cmp bucket name) ∙ if_cond (bytes_eq bucket name) (Some h) (holder_of s name))

-- ---- what a version of a sound vault shows

follow_end : (moves end : ℕ) (t : Tenure) (ts : List Tenure) → FollowOn moves end t ts → t.from ≤ end
follow_end moves end t [] follow = follow
follow_end moves end t (u ∷ us) follow = omega (arith, follow.2, follow_end moves end u us follow.4)

begins : (moves end : ℕ) (to : Option ℕ) (t : Tenure) (ts : List Tenure) (s : ℕ) (dept : List ℕ) → FollowOn moves end t ts → WasOf (t ∷ ts) to s dept → t.from ≤ s
begins moves end to t ts s dept follow (inl here) = here.0
begins moves end to t [] s dept follow (inr none) = absurd none
begins moves end to t (u ∷ us) s dept follow (inr later) = omega (arith, follow.2, begins moves end to u us s dept follow.4 later)

ends : (moves end : ℕ) (t : Tenure) (ts : List Tenure) (s : ℕ) (dept : List ℕ) → FollowOn moves end t ts → WasOf (t ∷ ts) (Some end) s dept → s < end
ends moves end t [] s dept follow (inl here) = here.1
ends moves end t [] s dept follow (inr none) = absurd none
ends moves end t (u ∷ us) s dept follow (inl here) = omega (arith, here.1, follow_end moves end u us follow.4)
ends moves end t (u ∷ us) s dept follow (inr later) = ends moves end u us s dept follow.4 later

abbrev pub Shows : List Tenure → Option ℕ → ℕ → Type 0
Shows ts end s = (dept : List ℕ) × WasOf ts end s dept

covers_next : (t u : Tenure) (us : List Tenure) (end : Option ℕ) (s : ℕ) → t.from ≤ s → (b : Bool) → nat_le u.from s ≡ b → (u.from ≤ s → Shows (u ∷ us) end s) → Shows (t ∷ u ∷ us) end s
covers_next t u us end s le true e rest = let later = rest (leb-true u.from s e) in (later.0, inr later.1)
covers_next t u us end s le false e rest = (t.dept, inl (le, leb-false u.from s e, refl))

covers : (t : Tenure) (ts : List Tenure) (end : Option ℕ) (s : ℕ) → t.from ≤ s → IsBefore s end → Shows (t ∷ ts) end s
covers t [] end s le before = (t.dept, inl (le, before, refl))
covers t (u ∷ us) end s le before = covers_next t u us end s le (nat_le u.from s) refl (λ low. covers u us end s low before)

-- a version shows a department in each second from its admission to its end, and in no other
pub record IsTimely (h : History) : Type 0 where
  pub from : (s : ℕ) (dept : List ℕ) → WasOf h.tenures (removed_at h.entry) s dept → h.entry.admitted ≤ s
  pub to : (s : ℕ) (dept : List ℕ) → WasOf h.tenures (removed_at h.entry) s dept → IsBefore s (removed_at h.entry)
  pub all : (t : Tenure) (ts : List Tenure) → h.tenures ≡ t ∷ ts → (s : ℕ) → h.entry.admitted ≤ s → IsBefore s (removed_at h.entry) → Shows h.tenures (removed_at h.entry) s

abbrev EndOf : Option Removal → Option ℕ
EndOf o = option_map (λ (r : Removal). r.at) o

to_end : (moves last : ℕ) (o : Option Removal) (t : Tenure) (ts : List Tenure) (s : ℕ) (dept : List ℕ) → FollowOn moves (end_of last o) t ts → WasOf (t ∷ ts) (EndOf o) s dept → IsBefore s (EndOf o)
to_end moves last None t ts s dept follow was = tt
to_end moves last (Some r) t ts s dept follow was = ends moves r.at t ts s dept follow was

timely_by : (v : Vault) (h : History) (ts : List Tenure) → h.tenures ≡ ts → AreTenures v h.entry ts → IsTimely h
timely_by v h [] same are = absurd are
timely_by v h (t ∷ ts) same are = record {
  from = λ s dept was. omega (arith, sym are.1, begins v.moves (end_of v.last h.entry.removal) (removed_at h.entry) t ts s dept are.2 (over s dept was));
  to = λ s dept was. to_end v.moves v.last h.entry.removal t ts s dept are.2 (over s dept was);
  all = λ u us is s le before.
      let one = covers t ts (removed_at h.entry) s (omega (arith, are.1, le)) before in
      let P : List Tenure → Type 0 = λ ws. WasOf ws (removed_at h.entry) s one.0 in
      (one.0, subst P (sym same) one.1);
}
  where
    over : (s : ℕ) (dept : List ℕ) → WasOf h.tenures (removed_at h.entry) s dept → WasOf (t ∷ ts) (removed_at h.entry) s dept
    over s dept was = let P : List Tenure → Type 0 = λ ws. WasOf ws (removed_at h.entry) s dept in subst P same was

timely_as : (v : Vault) (h : History) (marker : Bool) → HasTenuresAs marker v h → IsTimely h
timely_as v h true none = record {
  from = λ s dept was. absurd (no s dept was);
  to = λ s dept was. absurd (no s dept was);
  all = λ t ts is s le before. absurd (cc (sym none ∙ is));
}
  where
    no : (s : ℕ) (dept : List ℕ) → WasOf h.tenures (removed_at h.entry) s dept → ⊥
    no s dept was = let P : List Tenure → Type 0 = λ ws. WasOf ws (removed_at h.entry) s dept in subst P none was
timely_as v h false has = timely_by v h h.tenures refl has.0

pub timely : (v : Vault) (h : History) → HasTenures v h → IsTimely h
timely v h has = timely_as v h h.entry.marker has

-- ---- what all that were seen show

abbrev pub ShownBy : List History → List ℕ → ℕ → List ℕ → Type 0
ShownBy [] bucket s dept = ⊥
ShownBy (h ∷ hs) bucket s dept = ((h.entry.bucket ≡ bucket) × WasOf h.tenures (removed_at h.entry) s dept) ⊎ ShownBy hs bucket s dept

abbrev pub HolderShows : Option Holder → ℕ → List ℕ → Type 0
HolderShows None s dept = ⊥
HolderShows (Some k) s dept = WasOf k.tenures k.end s dept

abbrev pub HolderEnds : Option Holder → ℕ → Type 0
HolderEnds None s = Unit {0}
HolderEnds (Some k) s = IsBefore s k.end

abbrev pub HolderCovers : Option Holder → ℕ → Type 0
HolderCovers None s = Unit {0}
HolderCovers (Some k) s = IsBefore s k.end → Shows k.tenures k.end s

-- they were admitted by then
abbrev pub AreBy : ℕ → List History → Type 0
AreBy s hs = AllByRecursion (λ h. h.entry.admitted ≤ s) hs

-- in that second the version that is held longest shows what all of these show
pub record IsKnown (o : Option Holder) (before : List History) (bucket : List ℕ) (s : ℕ) : Type 0 where
  pub shows : (dept : List ℕ) → ShownBy before bucket s dept → HolderShows o s dept
  pub shown : (dept : List ℕ) → HolderShows o s dept → ShownBy before bucket s dept
  pub ends : (dept : List ℕ) → HolderShows o s dept → HolderEnds o s
  pub covers : HolderCovers o s

abbrev pub Knows : Holders → List History → Type 0
Knows k before = (bucket : List ℕ) (s : ℕ) → AreBy s before → IsKnown (holder_of k bucket) before bucket s

none_known : (o : Option Holder) (bucket : List ℕ) (s : ℕ) → o ≡ None → IsKnown o [] bucket s
none_known None bucket s e = record { shows = λ dept out. out; shown = λ dept out. out; ends = λ dept out. absurd out; covers = tt }
none_known (Some k) bucket s e = absurd (cc e)

pub knows_none : (k : Holders) → ((name : List ℕ) → holder_of k name ≡ None) → Knows k []
knows_none k none bucket s by = none_known (holder_of k bucket) bucket s (none bucket)

-- ---- the test

same_truth : (a b : Bool) → (a ≡ true → b ≡ true) → (b ≡ true → a ≡ true) → a ≡ b
same_truth true b to from = sym (to refl)
same_truth false true to from = from refl
same_truth false false to from = refl

abbrev FitsHolder : Option Holder → History → Type 0
FitsHolder o h = (s : ℕ) (dept other : List ℕ) → HolderShows o s dept → WasOf h.tenures (removed_at h.entry) s other → dept ≡ other

fits_is : (o : Option Holder) (h : History) → fits_holder o h.tenures (removed_at h.entry) ≡ true → FitsHolder o h
fits_is None h e s dept other out was = absurd out
fits_is (Some k) h e s dept other had was = sym (fit_is h.tenures (removed_at h.entry) k.tenures k.end e s other dept was had)

is_fits : (o : Option Holder) (h : History) → FitsHolder o h → fits_holder o h.tenures (removed_at h.entry) ≡ true
is_fits None h fits = refl
is_fits (Some k) h fits = is_fit h.tenures (removed_at h.entry) k.tenures k.end (λ s dept other was had. sym (fits s other dept had was))

-- each of these agrees with the history
abbrev FitsAll : List History → History → Type 0
FitsAll before h = (s : ℕ) (dept other : List ℕ) → ShownBy before h.entry.bucket s dept → WasOf h.tenures (removed_at h.entry) s other → dept ≡ other

all_agree : (before : List History) (h : History) → FitsAll before h → AllByRecursion (λ g. Agree g h) before
all_agree [] h fits = tt
all_agree (g ∷ gs) h fits =
    (λ bucket s dept other had was. fits s dept other (inl (bucket, had)) was, all_agree gs h (λ s dept other had was. fits s dept other (inr had) was))

agree_all : (before : List History) (h : History) → AllByRecursion (λ g. Agree g h) before → FitsAll before h
agree_all [] h all s dept other out was = absurd out
agree_all (g ∷ gs) h all s dept other (inl had) was = all.0 had.0 s dept other had.1 was
agree_all (g ∷ gs) h all s dept other (inr had) was = agree_all gs h all.1 s dept other had was

AreBy-later : (from s : ℕ) (hs : List History) → from ≤ s → AreBy from hs → AreBy s hs
AreBy-later from s [] le by = tt
AreBy-later from s (h ∷ hs) le by = (omega (arith, le, by.0), AreBy-later from s hs le by.1)

pub same_test : (k : Holders) (before : List History) (h : History) → IsTimely h → AreBy h.entry.admitted before → Knows k before → fits_holder (holder_of k h.entry.bucket) h.tenures (removed_at h.entry) ≡ agrees_with before h
same_test k before h timely by knows =
    same_truth (fits_holder (holder_of k h.entry.bucket) h.tenures (removed_at h.entry)) (agrees_with before h)
    (λ e. is_agrees before h (all_agree before h (λ s dept other had was.
    fits_is (holder_of k h.entry.bucket) h e s dept other ((known s other was).shows dept had) was)))
    (λ e. is_fits (holder_of k h.entry.bucket) h (λ s dept other had was.
    agree_all before h (agrees_is before h e) s dept other ((known s other was).shown dept had) was))
  where
    known : (s : ℕ) (other : List ℕ) → WasOf h.tenures (removed_at h.entry) s other → IsKnown (holder_of k h.entry.bucket) before h.entry.bucket s
    known s other was = knows h.entry.bucket s (AreBy-later h.entry.admitted s before (timely.from s other was) by)

-- ---- one version more

not_false : (b : Bool) → not b ≡ false → b ≡ true
not_false true e = refl
not_false false e = absurd (cc e)

not_true : (b : Bool) → not b ≡ true → b ≡ false
not_true true e = absurd (cc e)
not_true false e = refl

-- who isn't held longer is held no longer
still_held : (own end : Option ℕ) (s : ℕ) → is_later own end ≡ false → IsBefore s own → IsBefore s end
still_held own None s e before = tt
still_held None (Some end) s e before = absurd (cc e)
still_held (Some own) (Some end) s e before = omega (arith, before, leb-true own end (not_false (nat_le own end) e))

longer_held : (own end : Option ℕ) (s : ℕ) → is_later own end ≡ true → IsBefore s end → IsBefore s own
longer_held own None s e before = absurd (cc e)
longer_held None (Some end) s e before = tt
longer_held (Some own) (Some end) s e before = omega (arith, before, leb-false own end (not_true (nat_le own end) e))

-- the version that was held longest still is
stays_known : (k : Holder) (before : List History) (h : History) (s : ℕ) → IsTimely h → h.entry.admitted ≤ s → FitsHolder (Some k) h → is_later (removed_at h.entry) k.end ≡ false → IsKnown (Some k) before h.entry.bucket s → IsKnown (Some k) (h ∷ before) h.entry.bucket s
stays_known k before h s timely le fits shorter known = record { shows = shows; shown = λ dept had. inr (known.shown dept had); ends = known.ends; covers = known.covers }
  where
    shows : (dept : List ℕ) → ShownBy (h ∷ before) h.entry.bucket s dept → HolderShows (Some k) s dept
    shows dept (inr had) = known.shows dept had
    shows dept (inl own) =
        let had = known.covers (still_held (removed_at h.entry) k.end s shorter (timely.to s dept own.1)) in
        let P : List ℕ → Type 0 = λ d. WasOf k.tenures k.end s d in
        subst P (fits s had.0 dept had.1 own.1) had.1

-- this one is held longest
new_known : (o : Option Holder) (before : List History) (h : History) (t : Tenure) (ts : List Tenure) (s : ℕ) → h.tenures ≡ t ∷ ts → IsTimely h → h.entry.admitted ≤ s → FitsHolder o h → outlasts (removed_at h.entry) o ≡ true → IsKnown o before h.entry.bucket s → IsKnown (Some (record { tenures = h.tenures; end = removed_at h.entry })) (h ∷ before) h.entry.bucket s
new_known o before h t ts s is timely le fits longest known = record {
  shows = shows;
  shown = λ dept had. inl (refl, had);
  ends = λ dept had. timely.to s dept had;
  covers = λ before. timely.all t ts is s le before;
}
  where
    its : (p : Option Holder) → outlasts (removed_at h.entry) p ≡ true → FitsHolder p h → (dept : List ℕ) → HolderShows p s dept → HolderEnds p s → WasOf h.tenures (removed_at h.entry) s dept
    its None later fit dept out end = absurd out
    its (Some k) later fit dept had end =
        let own = timely.all t ts is s le (longer_held (removed_at h.entry) k.end s later end) in
        let P : List ℕ → Type 0 = λ d. WasOf h.tenures (removed_at h.entry) s d in
        subst P (sym (fit s dept own.0 had own.1)) own.1

    shows : (dept : List ℕ) → ShownBy (h ∷ before) h.entry.bucket s dept → WasOf h.tenures (removed_at h.entry) s dept
    shows dept (inl own) = own.1
    shows dept (inr had) = let was = known.shows dept had in its o longest fits dept was (known.ends dept was)

-- a marker shows nothing
marker_known : (o : Option Holder) (before : List History) (h : History) (bucket : List ℕ) (s : ℕ) → h.tenures ≡ [] → IsKnown o before bucket s → IsKnown o (h ∷ before) bucket s
marker_known o before h bucket s none known = record { shows = shows; shown = λ dept had. inr (known.shown dept had); ends = known.ends; covers = known.covers }
  where
    shows : (dept : List ℕ) → ShownBy (h ∷ before) bucket s dept → HolderShows o s dept
    shows dept (inr had) = known.shows dept had
    shows dept (inl own) = let P : List Tenure → Type 0 = λ ts. WasOf ts (removed_at h.entry) s dept in absurd (subst P none own.1)

-- nor does one of another bucket
other_known : (o : Option Holder) (before : List History) (h : History) (bucket : List ℕ) (s : ℕ) → (h.entry.bucket ≡ bucket → ⊥) → IsKnown o before bucket s → IsKnown o (h ∷ before) bucket s
other_known o before h bucket s other known = record { shows = shows; shown = λ dept had. inr (known.shown dept had); ends = known.ends; covers = known.covers }
  where
    shows : (dept : List ℕ) → ShownBy (h ∷ before) bucket s dept → HolderShows o s dept
    shows dept (inr had) = known.shows dept had
    shows dept (inl own) = absurd (other own.0)

longer_known : (o : Option Holder) (before : List History) (h : History) (ts : List Tenure) (s : ℕ) → h.tenures ≡ ts → IsTimely h → h.entry.admitted ≤ s → FitsHolder o h → IsKnown o before h.entry.bucket s → IsKnown (longer o ts (removed_at h.entry)) (h ∷ before) h.entry.bucket s
longer_known o before h [] s is timely le fits known = marker_known o before h h.entry.bucket s is known
longer_known o before h (t ∷ ts) s is timely le fits known = by_end o (outlasts (removed_at h.entry) o) refl fits known
  where
    by_end : (p : Option Holder) (b : Bool) → outlasts (removed_at h.entry) p ≡ b → FitsHolder p h → IsKnown p before h.entry.bucket s → IsKnown (if b then Some (record { tenures = t ∷ ts; end = removed_at h.entry }) else p) (h ∷ before) h.entry.bucket s
    by_end p true later fit know =
        let P : List Tenure → Type 0 = λ us. IsKnown (Some (record { tenures = us; end = removed_at h.entry })) (h ∷ before) h.entry.bucket s in
        subst P is (new_known p before h t ts s is timely le fit later know)
    by_end None false later fit know = absurd (cc later)
    by_end (Some k) false later fit know = stays_known k before h s timely le fit later know

pub knows_next : (k after : Holders) (before : List History) (h : History) → IsTimely h → AreBy h.entry.admitted before → Knows k before → agrees_with before h ≡ true → ((name : List ℕ) → holder_of after name ≡ holder_after k h.entry h.tenures name) → Knows after (h ∷ before)
knows_next k after before h timely are knows agree next bucket s by =
    let P : Option Holder → Type 0 = λ o. IsKnown o (h ∷ before) bucket s in
    subst P (sym (next bucket)) (by_bucket (bytes_eq h.entry.bucket bucket) refl)
  where
    fits : FitsHolder (holder_of k h.entry.bucket) h
    fits = fits_is (holder_of k h.entry.bucket) h (same_test k before h timely are knows ∙ agree)

    own : h.entry.bucket ≡ bucket → IsKnown (longer (holder_of k h.entry.bucket) h.tenures (removed_at h.entry)) (h ∷ before) bucket s
    own same =
        let P : List ℕ → Type 0 = λ b. IsKnown (longer (holder_of k h.entry.bucket) h.tenures (removed_at h.entry)) (h ∷ before) b s in
        subst P same (longer_known (holder_of k h.entry.bucket) before h h.tenures s refl timely by.0 fits (knows h.entry.bucket s by.1))

    by_bucket : (b : Bool) → bytes_eq h.entry.bucket bucket ≡ b → IsKnown (if b then longer (holder_of k h.entry.bucket) h.tenures (removed_at h.entry) else holder_of k bucket) (h ∷ before) bucket s
    by_bucket true e = own ((bytes_eq-Decides h.entry.bucket bucket).0 e)
    by_bucket false e =
        other_known (holder_of k bucket) before h bucket s (λ same. absurd (cc (sym ((bytes_eq-Decides h.entry.bucket bucket).1 same) ∙ e))) (knows bucket s by.1)
