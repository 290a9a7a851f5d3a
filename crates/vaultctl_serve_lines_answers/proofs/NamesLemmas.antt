-- Names of buckets, of which one more is read than is answered.
use Rattle.std.proofs.Common.{◌≡◌, ℕ, List, length, map, filter, take, nat_lt, ap, take-take, arith}
use Rattle.vault_core_model.specs.Places.{comes_after}
use Rattle.vault_core_model.specs.Reads.{buckets_after}
use Rattle.vault_core_model.specs.Vault.{Vault}
use Rattle.vaultctl_serve_lines_answers.specs.declared.buckets_line.BucketsPage.{BucketsPage}
use Rattle.vaultctl_serve_lines_answers.specs.Asking.{buckets_page, first_names}

pub names_of : (v : Vault) (after : List ℕ) → first_names (buckets_after v after 1001) ≡ buckets_page v after
names_of v after =
    let all : List (List ℕ) = filter (λ name. comes_after name after) (map (λ b. b.name) v.buckets) in
    let page : List (List ℕ) → BucketsPage = λ names. record { names = names; more = nat_lt 1000 (length (take 1001 all)) } in
    ap page (take-take 1000 1001 all (omega arith))
