use Rattle.std.proofs.Common.{rules, ◌≡◌, ◌∙◌, List, ℕ, Bool, true, false, refl, Ok, IsTrue, sym}
use Rattle.vault_base.specs.Name.{bucket_name_of, is_bucket_name}
use Rattle.vault_audit_rows.proofs.name.bucket_name.Goals as goal

named : (b : Bool) (text name : List ℕ) → is_bucket_name text ≡ b → Ok name ≡ bucket_name_of text → (name ≡ text) × IsTrue (is_bucket_name name)
named true text name is e = let same : name ≡ text = cc in (same, rw same is)
named false text name is e = absurd cc

pub returns-in-Ok-clause-ok : goal.returns-in-Ok-clause-ok
returns-in-Ok-clause-ok c =
    let text = c.in-Some.text.now in
    let it = named (is_bucket_name text) text c.in-Ok.name refl (sym c.in-Ok.is ∙ c.in_ok-name.ensures) in
    (rw it.0 (search rules), (rw it.0 (search rules), it.1))
