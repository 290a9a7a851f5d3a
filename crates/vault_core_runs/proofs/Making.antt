-- How far a run comes, part by part.
use Rattle.std.proofs.Common.{◌≡◌, ℕ, ◌+◌, ◌<◌, ◌≤◌, ◌++◌, List, length, take, Result, Ok, Err, sym, ap, subst, ◌∙◌, arith, length-append, add_assoc}
use Rattle.std.specs.Prelude.{IsErrAnd}
use Rattle.std.proofs.lemmas.List.{take-append-le}
use Rattle.vault_rules.specs.KeyPlan.{Planned}
use Rattle.vault_core_model.specs.declared.halt.Halt.{Halt}
use Rattle.vault_core_model.specs.declared.halt.Halt.TheVariants as halt
use Rattle.vault_core_model.specs.declared.halt.Fault.{Fault}
use Rattle.vault_core_model.specs.declared.reply.Counts.{Counts}
use Rattle.vault_core_model.specs.Vault.{Vault}
use Rattle.vault_core_model.specs.Plan.{after_steps, counts, with_ids}
use Rattle.vault_core_run_laws.proofs.AfterSteps.{after_steps-append}
use Rattle.vault_core_runs.specs.Making.{plus, MakesAll, MakesUpTo, MakesSteps, StopsAt}
use Rattle.vault_core_runs.proofs.Parts.{taken, length-made, ids-append, ids_le, ids_more, ids_short, counts-append, take_both}

pub same_counts : (x y : Counts) → x.changes ≡ y.changes → x.marked ≡ y.marked → x.removed ≡ y.removed → x.lone ≡ y.lone → x ≡ y
same_counts x y a b c d =
    let f : ℕ → ℕ → ℕ → ℕ → Counts = λ (k l m n : ℕ). record { changes = k; marked = l; removed = m; lone = n } in
    ap (λ k. f k x.marked x.removed x.lone) a ∙ ap (λ k. f y.changes k x.removed x.lone) b
    ∙ ap (λ k. f y.changes y.marked k x.lone) c ∙ ap (λ k. f y.changes y.marked y.removed k) d

-- a fault before any step
pub MakesUpTo-fault : (v : Vault) (b : List ℕ) (t : ℕ) (ps : List Planned) (f : Fault) (x : Counts) (v' : Vault) → v' ≡ v → MakesUpTo v b t ps (halt.Fault f) x x v'
MakesUpTo-fault v b t ps f x v' e = record { n = 0; within = omega arith; left = e; counted = omega arith; why = tt }

stops_more : (e : Halt) (n : ℕ) (v : Vault) (ps qs : List Planned) → StopsAt e n v ps → StopsAt e n v (ps ++ qs)
stops_more (halt.Fault f) n v ps qs s = tt
stops_more (halt.Refused r) n v ps qs s =
    let short : length (with_ids (length v.histories) ps) < length ps = subst (λ (k : ℕ). k < length ps) s.1 s.2 in
    (s.0, s.1 ∙ ap length (sym (ids_short (length v.histories) ps qs short)), let l = s.2 in omega (arith, length-append ps qs))

-- what stops within some steps stops within those and more
pub MakesUpTo-more : (v : Vault) (b : List ℕ) (t : ℕ) (ps qs : List Planned) (e : Halt) (x y : Counts) (v' : Vault) → MakesUpTo v b t ps e x y v' → MakesUpTo v b t (ps ++ qs) e x y v'
MakesUpTo-more v b t ps qs e x y v' m =
    let k = length v.histories in
    let few : m.n ≤ length ps = let w = m.within in omega (arith, ids_le k ps) in
    record {
      n = m.n;
      within = let w = m.within in omega (arith, ids_more k ps qs);
      left = m.left ∙ ap (λ l. after_steps v b t l) (sym (take-append-le m.n ps qs few));
      counted = m.counted;
      why = stops_more e m.n v ps qs m.why;
    }

-- the ids that are taken after the first part
taken_after : (v v1 : Vault) (b : List ℕ) (t : ℕ) (ps : List Planned) → v1 ≡ after_steps v b t ps → taken (length v.histories) ps ≡ length v1.histories
taken_after v v1 b t ps e = sym (ap (λ (w : Vault). length w.histories) e ∙ length-made v b t ps)

ids_then : (v v1 : Vault) (b : List ℕ) (t : ℕ) (ps qs : List Planned) (x y : Counts) → MakesAll v b t ps x y v1 → with_ids (length v.histories) (ps ++ qs) ≡ ps ++ with_ids (length v1.histories) qs
ids_then v v1 b t ps qs x y m =
    ids-append (length v.histories) ps qs m.ids ∙ ap (λ n. ps ++ with_ids n qs) (taken_after v v1 b t ps m.left)

left_then : (v v1 v2 : Vault) (b : List ℕ) (t : ℕ) (ps qs : List Planned) → v1 ≡ after_steps v b t ps → v2 ≡ after_steps v1 b t qs → v2 ≡ after_steps v b t (ps ++ qs)
left_then v v1 v2 b t ps qs e f = f ∙ ap (λ w. after_steps w b t qs) e ∙ sym (after_steps-append v b t ps qs)

plus_assoc : (x y z : Counts) → plus (plus x y) z ≡ plus x (plus y z)
plus_assoc x y z =
    let a = add_assoc x.changes y.changes z.changes in
    let b = add_assoc x.marked y.marked z.marked in
    let c = add_assoc x.removed y.removed z.removed in
    let d = add_assoc x.lone y.lone z.lone in
    cc

-- all steps of one part, and then all of the next
pub MakesAll-then : (v v1 v2 : Vault) (b : List ℕ) (t : ℕ) (ps qs : List Planned) (x y z : Counts) → MakesAll v b t ps x y v1 → MakesAll v1 b t qs y z v2 → MakesAll v b t (ps ++ qs) x z v2
MakesAll-then v v1 v2 b t ps qs x y z m n = record {
  ids = ids_then v v1 b t ps qs x y m ∙ ap (λ l. ps ++ l) n.ids;
  left = left_then v v1 v2 b t ps qs m.left n.left;
  counted = n.counted ∙ ap (λ w. plus w (counts qs)) m.counted ∙ plus_assoc x (counts ps) (counts qs) ∙ ap (plus x) (sym (counts-append ps qs));
}

stops_then : (e : Halt) (n : ℕ) (v v1 : Vault) (ps qs : List Planned) → with_ids (length v.histories) (ps ++ qs) ≡ ps ++ with_ids (length v1.histories) qs → StopsAt e n v1 qs → StopsAt e (length ps + n) v (ps ++ qs)
stops_then (halt.Fault f) n v v1 ps qs i s = tt
stops_then (halt.Refused r) n v v1 ps qs i s =
    let many = ap length i ∙ length-append ps (with_ids (length v1.histories) qs) in
    let at = s.1 in
    let short = s.2 in
    (s.0, ap (λ k. length ps + k) at ∙ sym many, omega (arith, length-append ps qs))

-- all steps of one part, and then the first of the next
pub MakesAll-first : (v v1 v2 : Vault) (b : List ℕ) (t : ℕ) (ps qs : List Planned) (e : Halt) (x y z : Counts) → MakesAll v b t ps x y v1 → MakesUpTo v1 b t qs e y z v2 → MakesUpTo v b t (ps ++ qs) e x z v2
MakesAll-first v v1 v2 b t ps qs e x y z m f =
    let i = ids_then v v1 b t ps qs x y m in
    let many = ap length i ∙ length-append ps (with_ids (length v1.histories) qs) in
    record {
      n = length ps + f.n;
      within = let w = f.within in omega (arith, many);
      left = left_then v v1 v2 b t ps (take f.n qs) m.left f.left ∙ ap (λ l. after_steps v b t l) (sym (take_both ps qs f.n));
      counted = let c = f.counted in let d : y.changes ≡ x.changes + length ps = ap (λ (w : Counts). w.changes) m.counted in omega arith;
      why = stops_then e f.n v v1 ps qs i f.why;
    }

-- a part of a run, and then the next, as far as it comes
pub MakesSteps-then : {X : Type 0} (v v1 v2 : Vault) (b : List ℕ) (t : ℕ) (ps qs : List Planned) (r : Result X Halt) (x y z : Counts) → MakesAll v b t ps x y v1 → MakesSteps r v1 b t qs y z v2 → MakesSteps r v b t (ps ++ qs) x z v2
MakesSteps-then v v1 v2 b t ps qs (Ok u) x y z m n = MakesAll-then v v1 v2 b t ps qs x y z m n
MakesSteps-then v v1 v2 b t ps qs (Err e) x y z m n = MakesAll-first v v1 v2 b t ps qs e x y z m n

-- an error that is handed on says why the steps stop
pub MakesSteps-err : {X : Type 0} (r : Result X Halt) (e : Halt) (v : Vault) (b : List ℕ) (t : ℕ) (ps : List Planned) (x y : Counts) (v' : Vault) → IsErrAnd r (λ (h : Halt). h ≡ e) → MakesUpTo v b t ps e x y v' → MakesSteps r v b t ps x y v'
MakesSteps-err (Ok u) e v b t ps x y v' h m = absurd h
MakesSteps-err (Err f) e v b t ps x y v' h m = subst (λ (k : Halt). MakesUpTo v b t ps k x y v') (sym h) m
