-- Numbers that clap's getters read.
use Rattle.std.proofs.Common.{◌≡◌, ◌^◌, ◌&&◌, ℕ, List, [], ◌∷◌, Bool, true, false, true≢false, Option, Some, None, Result, Ok, Err, refl, sym, length, nat_lt, lt-ltb, ltb-true}
use Rattle.std.specs.Char.{digit_value}
use Rattle.std.specs.List.{list_all}
use Rattle.std.specs.Option.{unwrap_or}
use Rattle.std.specs.Result.{result_unwrap_or}
use Rattle.std.specs.Str.Parse.{AllDigits, ParsesUnsigned, digits_value, without_leading_plus}
use Rattle.clap.specs.Words.{Text}
use Rattle.clap.specs.Matches.{ReadsOne}
use Rattle.vaultctl_job.specs.Jobs.{is_number_below, number_below}

digits_pass : (ds : List ℕ) → AllDigits 10 ds → list_all (λ d. nat_lt (digit_value d) 10) ds ≡ true
digits_pass [] h = refl
digits_pass (d ∷ ds) h = rw (lt-ltb (digit_value d) 10 h.0) (digits_pass ds h.1)

both : (a b : Bool) → (a && b) ≡ true → (a ≡ true) × (b ≡ true)
both true b e = (refl, e)
both false b e = absurd (true≢false (sym e))

digits_from : (ds : List ℕ) → list_all (λ d. nat_lt (digit_value d) 10) ds ≡ true → AllDigits 10 ds
digits_from [] e = tt
digits_from (d ∷ ds) e =
    let parts = both _ _ e in
    (ltb-true _ _ parts.0, digits_from ds parts.1)

module _ {E : Type 0} (k : ℕ) where
  -- a text that parses is the number that its digits write
  number_read : (text : Text) (r : Result ℕ E) → ParsesUnsigned k 10 text r → result_unwrap_or r 0 ≡ number_below (2 ^ k) text
  number_read text (Ok n) h =
      let ds = without_leading_plus text in
      rw (lt-ltb 0 (length ds) h.0.0.0, digits_pass ds h.0.0.1, lt-ltb (digits_value 10 ds) (2 ^ k) h.0.1) h.1
  number_read text (Err e) h = go (is_number_below (2 ^ k) (without_leading_plus text)) refl
    where
      go : (b : Bool) → is_number_below (2 ^ k) (without_leading_plus text) ≡ b → 0 ≡ number_below (2 ^ k) text
      go false t = rw t refl
      go true t =
          let outer = both _ _ t in
          let inner = both _ _ outer.0 in
          absurd (h ((ltb-true _ _ inner.0, digits_from (without_leading_plus text) inner.1), ltb-true _ _ outer.1))

  module _ (G : List ℕ → Result ℕ E → Type 0) (parses : (u : List ℕ) (x : Result ℕ E) → G u x → ParsesUnsigned k 10 u x) where
    read_one : (t : Text) (r : Option ℕ) → ReadsOne G t r → unwrap_or r 0 ≡ number_below (2 ^ k) t
    read_one t (Some v) h = number_read t (Ok v) (parses t (Ok v) h)
    read_one t None h = number_read t (Err h.0) (parses t (Err h.0) h.1)

    -- what a getter answers is the number of the text that was met, and 0 where none was
    pub number_met : (o : Option Text) (r : Option ℕ) → (o ≡ None → r ≡ None) → ((t : Text) → o ≡ Some t → ReadsOne G t r)
        → unwrap_or r 0 ≡ number_below (2 ^ k) (unwrap_or o [])
    number_met None r none some = rw (none refl) refl
    number_met (Some t) r none some = read_one t r (some t refl)
