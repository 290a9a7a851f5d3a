-- What the text of a moment is read as, by the parts that it spells.
use Rattle.std.proofs.Common.{◌≡◌, ℕ, ◌+◌, ◌*◌, ◌≤◌, ◌⊎◌, Bool, true, false, ◌||◌, cond, List, drop, Result, Ok, Err, ℤ, pos, negsuc, ◌<ℤ◌, inl, inr, refl, sym, ap, ◌∙◌, arith}
use Rattle.std.specs.Prelude.{int_lt, unsigned_abs}
use Rattle.std.proofs.lemmas.Int.{ints}
use Rattle.jiff_core.proofs.SignedLemmas.{signed_arith}
use Rattle.vault_base_time.specs.Days.{last_moment}
use Rattle.vault_base_time.specs.Moment.{pair_at, pair_upto, mark_at, day_number, day_of, seconds_of, fraction_of, offset_of, second_of, moment_of, ◌>>=◌}
use Rattle.vault_base_time.specs.Grammar.{Reads}
use Rattle.vault_base_time.specs.declared.moment.MomentFault.{MomentFault}
use Rattle.vault_base_time.specs.declared.moment.MomentFault.TheVariants.{Form, Range}
use Rattle.vault_base_time.proofs.ReadParts.{second_read}
use Rattle.vault_base_time.proofs.Spelled.{spelled_second}

-- ---- a text that names no second is of no form

OnlyForm : {A : Type 0} → Result A MomentFault → Type 0
OnlyForm r = r ≡ Err Range → ⊥

tested : {A : Type 0} (t : Bool) (r : Result A MomentFault) → OnlyForm r → OnlyForm (cond t r (Err Form))
unfolding OnlyForm
tested true r h e = h e
tested false r h e = absurd (cc e)

ok_only : {A : Type 0} (x : A) → OnlyForm (Ok x)
unfolding OnlyForm
ok_only x e = absurd (cc e)

then_only : {A B : Type 0} (r : Result A MomentFault) (f : A → Result B MomentFault) → OnlyForm r → ((x : A) → OnlyForm (f x)) → OnlyForm (r >>= f)
unfolding OnlyForm
then_only (Ok x) f h k e = k x e
then_only (Err fault) f h k e = h (ap Err (fault_is fault e))
  where
    fault_is : {A : Type 0} (fault : MomentFault) → ◌≡◌ {A = Result A MomentFault} (Err fault) (Err Range) → fault ≡ Range
    fault_is fault e = cc e

pair_only : (text : List ℕ) (at : ℕ) → OnlyForm (pair_at text at)
unfolding pair_at
pair_only text at = tested _ _ (ok_only _)

pair_upto_only : (text : List ℕ) (at most : ℕ) → OnlyForm (pair_upto text at most)
unfolding pair_upto
pair_upto_only text at most = then_only _ _ (pair_only text at) (λ n. tested _ _ (ok_only n))

mark_only : (text : List ℕ) (at byte : ℕ) → OnlyForm (mark_at text at byte)
unfolding mark_at
mark_only text at byte = tested _ _ (ok_only tt)

number_only : (y m d : ℕ) → OnlyForm (day_number y m d)
unfolding day_number
number_only y m d = tested _ _ (ok_only _)

date_only : (text : List ℕ) → OnlyForm (day_of text)
unfolding day_of
date_only text =
    then_only _ _ (pair_only text 0) (λ c. then_only _ _ (pair_only text 2) (λ y. then_only _ _ (mark_only text 4 45) (λ _. then_only _ _ (pair_only text 5) (λ m. then_only _ _ (mark_only text 7 45) (λ _. then_only _ _ (pair_only text 8) (λ d. number_only (100 * c + y) m d))))))

time_only : (text : List ℕ) → OnlyForm (seconds_of text)
unfolding seconds_of
time_only text =
    then_only _ _ (mark_only text 10 84) (λ _. then_only _ _ (pair_upto_only text 11 23) (λ h. then_only _ _ (mark_only text 13 58) (λ _. then_only _ _ (pair_upto_only text 14 59) (λ m. then_only _ _ (mark_only text 16 58) (λ _. then_only _ _ (pair_upto_only text 17 59) (λ s. ok_only _))))))

either_only : {A : Type 0} (t : Bool) (r s : Result A MomentFault) → OnlyForm r → OnlyForm s → OnlyForm (cond t r s)
either_only true r s h k = h
either_only false r s h k = k

fraction_only : (text : List ℕ) → OnlyForm (fraction_of text)
unfolding fraction_of
fraction_only text = either_only _ _ _ (tested _ _ (ok_only _)) (ok_only _)

offset_only : (text : List ℕ) → OnlyForm (offset_of text)
unfolding offset_of
offset_only text = either_only _ _ _ (ok_only _) (tested _ _ (then_only _ _ (pair_upto_only text 1 23) (λ h. then_only _ _ (pair_upto_only text 4 59) (λ m. ok_only _))))

second_only : (text : List ℕ) → OnlyForm (second_of text)
unfolding second_of
second_only text =
    then_only _ _ (date_only text) (λ day. then_only _ _ (time_only text) (λ s. then_only _ _ (fraction_only (drop 19 text)) (λ f. then_only _ _ (offset_only (drop (19 + f.1) text)) (λ o. ok_only _))))

-- ---- the law

or_true : (a b : Bool) → (a || b) ≡ true → (a ≡ true) ⊎ (b ≡ true)
or_true true b h = inl refl
or_true false b h = inr h

or_false : (a b : Bool) → (a || b) ≡ false → (a ≡ false) × (b ≡ false)
or_false true b h = absurd (cc h)
or_false false b h = (refl, h)

outside : (z : ℤ) → (int_lt z (pos 0) || int_lt (pos last_moment) z) ≡ true → (z <ℤ pos 0) ⊎ (pos last_moment <ℤ z)
outside z h =
    elim (or_true (int_lt z (pos 0)) (int_lt (pos last_moment) z) h) [
      | inl e ↦ inl (omega (arith, ints, signed_arith, e))
      | inr e ↦ inr (omega (arith, ints, signed_arith, e))
    ]

within : (z : ℤ) → (int_lt z (pos 0) || int_lt (pos last_moment) z) ≡ false → (z ≡ pos (unsigned_abs z)) × (unsigned_abs z ≤ last_moment)
within (pos k) h =
    let high = (or_false (int_lt (pos k) (pos 0)) (int_lt (pos last_moment) (pos k)) h).1 in
    (refl, omega (arith, ints, signed_arith, high))
within (negsuc k) h =
    let low = (or_false (int_lt (negsuc k) (pos 0)) (int_lt (pos last_moment) (negsuc k)) h).0 in
    absurd (omega (arith, ints, signed_arith, low))

named : (text : List ℕ) (z : ℤ) (t : Bool) → second_of text ≡ Ok z → (int_lt z (pos 0) || int_lt (pos last_moment) z) ≡ t → Reads text (cond t (Err Range) (Ok (unsigned_abs z)))
unfolding Reads
named text z true e out =
    let p = second_read text z e in
    (p.0, p.1, rw (← p.2) (outside z out))
named text z false e inside =
    let p = second_read text z e in
    let is = within z inside in
    (p.0, p.1, sym p.2 ∙ is.0, is.1)

read_as : (text : List ℕ) (r : Result ℤ MomentFault) → second_of text ≡ r → Reads text (r >>= (λ second. cond (int_lt second (pos 0) || int_lt (pos last_moment) second) (Err Range) (Ok (unsigned_abs second))))
unfolding OnlyForm Reads
read_as text (Ok z) e = named text z _ e refl
read_as text (Err Form) e = λ p spells. absurd (cc (sym e ∙ ap second_of spells.same ∙ spelled_second p spells.are))
read_as text (Err Range) e = absurd (second_only text e)

pub moment_reads : (text : List ℕ) → Reads text (moment_of text)
unfolding moment_of
moment_reads text = read_as text (second_of text) refl
