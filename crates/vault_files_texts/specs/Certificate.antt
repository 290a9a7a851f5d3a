-- The text of a certificate of destruction.
use Rattle.std.specs.Prelude.{ℕ, List, [], ◌∷◌, ◌++◌, Bool, true, false, Option, Some, None, codes}
use Rattle.std.specs.Fmt.{decimal}
use Rattle.hex.specs.Hex.{encode_lower}
use Rattle.sha2.specs.Sha256.{sha256}
use Rattle.vault_base.specs.Moment.{moment_text}
use Rattle.vault_core_model.specs.declared.records.Cause.{Cause}
use Rattle.vault_core_model.specs.declared.records.Entry.{Entry}
use Rattle.vault_core_model.specs.declared.records.Removal.{Removal}
use Rattle.vault_core_model.specs.declared.records.Tenure.{Tenure}
use Rattle.vault_files_texts.specs.Removed.{digest_text, author_text, cause_kind, cause_name, days_between}

-- a line of a label and a value, with its LF
abbrev pub labelled : List ℕ → List ℕ → List ℕ
labelled label value = label ++ codes ": " ++ value ++ 10 ∷ []

-- why an entry was removed, as `request ann`
abbrev pub cause_text : Cause → List ℕ
cause_text c = cause_kind c ++ 32 ∷ cause_name c

-- what was destroyed: its id, bucket, key, size and digest
unfoldable pub version_lines : Entry → List ℕ
version_lines e =
    labelled (codes "version") (decimal e.id)
    ++ labelled (codes "bucket") e.bucket
    ++ labelled (codes "key") e.key
    ++ labelled (codes "size") (decimal e.size)
    ++ labelled (codes "sha256") (digest_text e.digest)

-- when and by whom it was admitted and removed, and the whole days between
unfoldable pub removal_lines : Entry → Removal → List ℕ
removal_lines e r =
    labelled (codes "admitted") (moment_text e.admitted ++ codes " by " ++ author_text e.by)
    ++ labelled (codes "removed") (moment_text r.at)
    ++ labelled (codes "cause") (cause_text r.cause)
    ++ labelled (codes "days held") (decimal (days_between e.admitted r.at))

-- when a tenure ended: as the next one began, or else as the version was removed
abbrev pub end_before : ℕ → List Tenure → ℕ
end_before removed [] = removed
end_before removed (t ∷ ts) = t.from

-- a department that had the version, and the whole days that it had it
unfoldable pub tenure_line : Tenure → ℕ → List ℕ
tenure_line t end = labelled (codes "of which " ++ t.dept) (decimal (days_between t.from end))

-- a line for each tenure, oldest first
abbrev pub of_which : ℕ → List Tenure → List ℕ
of_which removed [] = []
of_which removed (t ∷ ts) = tenure_line t (end_before removed ts) ++ of_which removed ts

-- the tenures of a version, where its bucket moved while it was held; of one alone there is nothing to say
abbrev pub tenure_lines : ℕ → List Tenure → List ℕ
tenure_lines removed [] = []
tenure_lines removed (t ∷ []) = []
tenure_lines removed (t ∷ u ∷ us) = of_which removed (t ∷ u ∷ us)

-- all lines above the seal
unfoldable pub body : Entry → Removal → List Tenure → List ℕ
body e r tenures =
    codes "CERTIFICATE OF DESTRUCTION" ++ 10 ∷ [] ++ version_lines e ++ removal_lines e r ++ tenure_lines r.at tenures

-- a text and its seal: the hex digits of the SHA-256 digest of all bytes above the seal's line
abbrev pub sealed : List ℕ → List ℕ
sealed text = text ++ labelled (codes "seal") (encode_lower (sha256 text))

-- of a content version with that removal and those tenures; a marker and what is held have no certificate, and so no text
abbrev pub certificate_by : Bool → Option Removal → Entry → List Tenure → List ℕ
certificate_by true r e tenures = []
certificate_by false None e tenures = []
certificate_by false (Some r) e tenures = sealed (body e r tenures)

-- the certificate of a removed content version
unfoldable pub certificate_text : Entry → List Tenure → List ℕ
certificate_text e tenures = certificate_by e.marker e.removal e tenures
