-- What the text means by which a connection is asked whether it is open.
use Rattle.std.proofs.Common.{◌≡◌, ℕ, Bool, List, [], codes, true, false, refl, arith}
use Rattle.sqlite_tied.specs.Compute.{everything}
use Rattle.sqlite.specs.Given.{IsPlain}
use Rattle.sqlite.specs.Listing.{understood, reads_listing}
use Rattle.vault_audit_model.specs.Tables.{vault_schema}
use Rattle.vault_store_reads.specs.Wants.{IsAskedWith}

abbrev pub shut_text : List ℕ
shut_text = codes "SELECT last FROM meta"

pub shut_plain : (external : Bool) → IsPlain (understood (vault_schema external) shut_text)
unfolding understood everything
shut_plain false = (refl, refl)
shut_plain true = (refl, refl)

pub shut_unlisted : (external : Bool) → reads_listing (vault_schema external) shut_text ≡ false
unfolding understood everything
shut_unlisted false = refl
shut_unlisted true = refl

pub shut_asked : IsAskedWith shut_text []
unfolding understood everything
shut_asked false = (omega (arith), refl, (refl, refl, refl, refl))
shut_asked true = (omega (arith), refl, (refl, refl, refl, refl))
