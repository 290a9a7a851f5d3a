-- A list has one list of records.
use Rattle.std.proofs.Common.{◌≡◌, ℕ, List, [], ◌∷◌, ◌∙◌, Some, None, refl, sym, ap, subst}
use Rattle.csv.specs.Machine.{Read, next_record}
use Rattle.csv.specs.Reading.{Reached, default_config, strip_bom}
use Rattle.csv.specs.declared.parser.Config.{Config}
use Rattle.csv.specs.declared.parser.State.{State}
use Rattle.csv.specs.declared.parser.State.TheVariants.{StartRecord}
use Rattle.vault_files_intake.specs.List.{AreRecordsOf}

-- what is read next from one place is read next from the same place
read-same : (cfg : Config) (s t : State) (xs ys : List ℕ) → s ≡ t → xs ≡ ys → next_record cfg s [] [] xs ≡ next_record cfg t [] [] ys
read-same cfg s t xs ys a b = rw (a, b) refl

reached-same : (cfg : Config) (s : State) (xs : List ℕ) (ones others : List (List (List ℕ))) (s2 s3 : State) (ys zs : List ℕ)
    → Reached cfg s xs ones s2 ys → next_record cfg s2 [] [] ys ≡ None → Reached cfg s xs others s3 zs → next_record cfg s3 [] [] zs ≡ None → ones ≡ others
unfolding Reached
reached-same cfg s xs [] [] s2 s3 ys zs a end b stop = refl
reached-same cfg s xs [] (r ∷ others) s2 s3 ys zs a end b stop = absurd (cc (sym b.1 ∙ (read-same cfg s s2 xs ys a.0 a.1 ∙ end)))
reached-same cfg s xs (r ∷ ones) [] s2 s3 ys zs a end b stop = absurd (cc (sym a.1 ∙ (read-same cfg s s3 xs zs b.0 b.1 ∙ stop)))
reached-same cfg s xs (r ∷ ones) (q ∷ others) s2 s3 ys zs a end b stop =
    let one : Some b.0 ≡ Some a.0 = sym b.1 ∙ a.1 in
    let same : b.0 ≡ a.0 = cc in
    let P : Read → Type 0 = λ p. Reached cfg p.1 p.2 others s3 zs in
    let tail = reached-same cfg a.0.1 a.0.2 ones others s2 s3 ys zs a.3 end (subst P same b.3) stop in
    let head : r ≡ q = a.2 ∙ sym (b.2 ∙ ap (λ (p : Read). p.0) same) in
    rw (head, tail) refl

pub records-same : (list : List ℕ) (ones others : List (List (List ℕ))) → AreRecordsOf list ones → AreRecordsOf list others → ones ≡ others
records-same list ones others a b = reached-same default_config StartRecord (strip_bom list) ones others a.0 b.0 a.1 b.1 a.2 a.3 b.2 b.3
