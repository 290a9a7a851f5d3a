-- Steps made in two parts.
use Rattle.std.proofs.Common.{◌≡◌, ℕ, suc, ◌+◌, ◌<◌, ◌≤◌, ◌++◌, Bool, true, false, List, [], ◌∷◌, length, take, cond, nat_lt, refl, ap, ◌∙◌, arith, length-append}
use Rattle.std.proofs.lemmas.List.{length-map, length_push}
use Rattle.std.proofs.lemmas.List.Sums.{sum_by-append}
use Rattle.vault_base.specs.Limits.{most_ids}
use Rattle.vault_rules.specs.declared.plan.Step.{Step}
use Rattle.vault_rules.specs.declared.plan.Step.TheVariants.{Mark, Remove, RemoveLone}
use Rattle.vault_rules.specs.KeyPlan.{Planned}
use Rattle.vault_core_model.specs.Vault.{Vault}
use Rattle.vault_core_model.specs.Change.{changed}
use Rattle.vault_core_model.specs.Plan.{after_steps, change_at, change_of, counts, with_ids, is_mark, is_removal, is_lone_removal}
use Rattle.vault_core_runs.specs.Making.{plus}

-- how many ids are taken after these steps, where n were
pub taken : ℕ → List Planned → ℕ
taken n [] = n
taken n (p ∷ ps) = taken (cond (is_mark p.step) (n + 1) n) ps

-- ---- the vault after both parts

taken_at : (v : Vault) (b : List ℕ) (t : ℕ) (key : List ℕ) (s : Step) → length (changed v t (change_at v b t key s)).histories ≡ cond (is_mark s) (length v.histories + 1) (length v.histories)
taken_at v b t key (Mark r) = length_push v.histories _
taken_at v b t key (Remove id r) = length-map v.histories _
taken_at v b t key (RemoveLone id r) = length-map v.histories _

pub length-made : (v : Vault) (b : List ℕ) (t : ℕ) (ps : List Planned) → length (after_steps v b t ps).histories ≡ taken (length v.histories) ps
unfolding taken
length-made v b t [] = refl
length-made v b t (p ∷ ps) =
    length-made (changed v t (change_of v b t p)) b t ps ∙ ap (λ n. taken n ps) (taken_at v b t p.key p.step)

-- ---- the marks that find an id

module _ (p : Planned) (ps qs : List Planned) (n : ℕ) where
  append_cases : (m l : Bool) (rest : List Planned)
      → (with_ids (n + 1) ps ≡ ps → with_ids (n + 1) (ps ++ qs) ≡ ps ++ with_ids (taken (n + 1) ps) qs)
      → (with_ids n ps ≡ ps → with_ids n (ps ++ qs) ≡ ps ++ with_ids (taken n ps) qs)
      → cond m (cond l (p ∷ with_ids (n + 1) ps) []) (p ∷ with_ids n ps) ≡ p ∷ ps
      → cond m (cond l (p ∷ with_ids (n + 1) (ps ++ qs)) []) (p ∷ with_ids n (ps ++ qs)) ≡ p ∷ (ps ++ with_ids (taken (cond m (n + 1) n) ps) qs)
  append_cases true true rest f g e = let h : with_ids (n + 1) ps ≡ ps = cc in ap (λ l. p ∷ l) (f h)
  append_cases true false rest f g e = absurd (cc)
  append_cases false l rest f g e = let h : with_ids n ps ≡ ps = cc in ap (λ l. p ∷ l) (g h)

  le_cases : (m l : Bool) → length (with_ids (n + 1) ps) ≤ length ps → length (with_ids n ps) ≤ length ps
      → length (cond m (cond l (p ∷ with_ids (n + 1) ps) []) (p ∷ with_ids n ps)) ≤ length (p ∷ ps)
  le_cases true true f g = omega arith
  le_cases true false f g = omega arith
  le_cases false l f g = omega arith

  more_cases : (m l : Bool) → length (with_ids (n + 1) ps) ≤ length (with_ids (n + 1) (ps ++ qs)) → length (with_ids n ps) ≤ length (with_ids n (ps ++ qs))
      → length (cond m (cond l (p ∷ with_ids (n + 1) ps) []) (p ∷ with_ids n ps)) ≤ length (cond m (cond l (p ∷ with_ids (n + 1) (ps ++ qs)) []) (p ∷ with_ids n (ps ++ qs)))
  more_cases true true f g = omega arith
  more_cases true false f g = omega arith
  more_cases false l f g = omega arith

  short_cases : (m l : Bool)
      → (length (with_ids (n + 1) ps) < length ps → with_ids (n + 1) (ps ++ qs) ≡ with_ids (n + 1) ps)
      → (length (with_ids n ps) < length ps → with_ids n (ps ++ qs) ≡ with_ids n ps)
      → length (cond m (cond l (p ∷ with_ids (n + 1) ps) []) (p ∷ with_ids n ps)) < length (p ∷ ps)
      → cond m (cond l (p ∷ with_ids (n + 1) (ps ++ qs)) []) (p ∷ with_ids n (ps ++ qs)) ≡ cond m (cond l (p ∷ with_ids (n + 1) ps) []) (p ∷ with_ids n ps)
  short_cases true true f g e = ap (λ l. p ∷ l) (f (omega arith))
  short_cases true false f g e = refl
  short_cases false l f g e = ap (λ l. p ∷ l) (g (omega arith))

pub ids-append : (n : ℕ) (ps qs : List Planned) → with_ids n ps ≡ ps → with_ids n (ps ++ qs) ≡ ps ++ with_ids (taken n ps) qs
unfolding taken
ids-append n [] qs e = refl
ids-append n (p ∷ ps) qs e =
    append_cases p ps qs n (is_mark p.step) (nat_lt n most_ids) qs (ids-append (n + 1) ps qs) (ids-append n ps qs) e

pub ids_le : (n : ℕ) (ps : List Planned) → length (with_ids n ps) ≤ length ps
ids_le n [] = omega arith
ids_le n (p ∷ ps) = le_cases p ps [] n (is_mark p.step) (nat_lt n most_ids) (ids_le (n + 1) ps) (ids_le n ps)

pub ids_more : (n : ℕ) (ps qs : List Planned) → length (with_ids n ps) ≤ length (with_ids n (ps ++ qs))
ids_more n [] qs = omega arith
ids_more n (p ∷ ps) qs = more_cases p ps qs n (is_mark p.step) (nat_lt n most_ids) (ids_more (n + 1) ps qs) (ids_more n ps qs)

-- where a mark within the first part finds no id, no more follows
pub ids_short : (n : ℕ) (ps qs : List Planned) → length (with_ids n ps) < length ps → with_ids n (ps ++ qs) ≡ with_ids n ps
ids_short n [] qs e = absurd (omega arith)
ids_short n (p ∷ ps) qs e = short_cases p ps qs n (is_mark p.step) (nat_lt n most_ids) (ids_short (n + 1) ps qs) (ids_short n ps qs) e

-- ---- the counts

pub counts-append : (ps qs : List Planned) → counts (ps ++ qs) ≡ plus (counts ps) (counts qs)
counts-append ps qs =
    let c : length (ps ++ qs) ≡ length ps + length qs = length-append ps qs in
    let m = sum_by-append (λ (p : Planned). cond (is_mark p.step) 1 0) ps qs in
    let r = sum_by-append (λ (p : Planned). cond (is_removal p.step) 1 0) ps qs in
    let l = sum_by-append (λ (p : Planned). cond (is_lone_removal p.step) 1 0) ps qs in
    cc

pub take_both : (ps qs : List Planned) (n : ℕ) → take (length ps + n) (ps ++ qs) ≡ ps ++ take n qs
take_both [] qs n = let e : 0 + n ≡ n = omega arith in ap (λ k. take k qs) e
take_both (p ∷ ps) qs n =
    let e : suc (length ps) + n ≡ suc (length ps + n) = omega arith in
    ap (λ k. take k (p ∷ (ps ++ qs))) e ∙ ap (λ l. p ∷ l) (take_both ps qs n)
