-- The texts of the reads can be answered, with the parameters that they are given.
use Rattle.std.proofs.Common.{ℕ, List, [], ◌∷◌, true, false, refl, arith}
use Rattle.sqlite_tied.specs.Compute.{everything}
use Rattle.sqlite_value.specs.declared.value.Value.TheVariants.{Text}
use Rattle.sqlite.specs.Listing.{understood}
use Rattle.vault_audit_model.specs.Values.{number}
use Rattle.vault_store_reads.specs.Wants.{IsAskedWith}
use Rattle.vault_store_reads.proofs.TextLemmas.{meta_text, department_text, caller_text, bucket_text, entry_text, content_text, note_text, head_text}
use Rattle.vault_store_reads.proofs.OrderedTextLemmas.{setting_text, settings_text, rules_text, tenures_text, last_tenure_text, entries_text, newest_text, ids_text, older_text, buckets_text, keys_text}

pub meta_asked : IsAskedWith meta_text []
unfolding understood everything
meta_asked false = (omega (arith), refl, (refl, refl, refl, refl))
meta_asked true = (omega (arith), refl, (refl, refl, refl, refl))

pub department_asked : (name : List ℕ) → IsAskedWith department_text (Text name ∷ [])
unfolding understood everything
department_asked name false = (omega (arith), refl, (refl, refl, refl, refl))
department_asked name true = (omega (arith), refl, (refl, refl, refl, refl))

pub caller_asked : (name : List ℕ) → IsAskedWith caller_text (Text name ∷ [])
unfolding understood everything
caller_asked name false = (omega (arith), refl, (refl, refl, refl, refl))
caller_asked name true = (omega (arith), refl, (refl, refl, refl, refl))

pub bucket_asked : (name : List ℕ) → IsAskedWith bucket_text (Text name ∷ [])
unfolding understood everything
bucket_asked name false = (omega (arith), refl, (refl, refl, refl, refl))
bucket_asked name true = (omega (arith), refl, (refl, refl, refl, refl))

pub entry_asked : (id : ℕ) → IsAskedWith entry_text (number id ∷ [])
unfolding understood everything
entry_asked id false = (omega (arith), refl, (refl, refl, refl, refl))
entry_asked id true = (omega (arith), refl, (refl, refl, refl, refl))

pub content_asked : (id : ℕ) → IsAskedWith content_text (number id ∷ [])
unfolding understood everything
content_asked id false = (omega (arith), refl, (refl, refl, refl, refl))
content_asked id true = (omega (arith), refl, (refl, refl, refl, refl))

pub note_asked : (bucket batch : List ℕ) (line : ℕ) → IsAskedWith note_text (Text bucket ∷ Text batch ∷ number line ∷ [])
unfolding understood everything
note_asked bucket batch line false = (omega (arith), refl, (refl, refl, refl, refl))
note_asked bucket batch line true = (omega (arith), refl, (refl, refl, refl, refl))

pub head_asked : (bucket key : List ℕ) → IsAskedWith head_text (Text bucket ∷ Text key ∷ [])
unfolding understood everything
head_asked bucket key false = (omega (arith), refl, (refl, refl, refl, refl))
head_asked bucket key true = (omega (arith), refl, (refl, refl, refl, refl))

pub setting_asked : (id : ℕ) → IsAskedWith setting_text (number id ∷ [])
unfolding understood everything
setting_asked id false = (omega (arith), refl, (refl, refl, refl, refl))
setting_asked id true = (omega (arith), refl, (refl, refl, refl, refl))

pub settings_asked : (id : ℕ) → IsAskedWith settings_text (number id ∷ [])
unfolding understood everything
settings_asked id false = (omega (arith), refl, (refl, refl, refl, refl))
settings_asked id true = (omega (arith), refl, (refl, refl, refl, refl))

pub rules_asked : (bucket : List ℕ) → IsAskedWith rules_text (Text bucket ∷ [])
unfolding understood everything
rules_asked bucket false = (omega (arith), refl, (refl, refl, refl, refl))
rules_asked bucket true = (omega (arith), refl, (refl, refl, refl, refl))

pub tenures_asked : (id : ℕ) → IsAskedWith tenures_text (number id ∷ [])
unfolding understood everything
tenures_asked id false = (omega (arith), refl, (refl, refl, refl, refl))
tenures_asked id true = (omega (arith), refl, (refl, refl, refl, refl))

pub last_tenure_asked : (id : ℕ) → IsAskedWith last_tenure_text (number id ∷ [])
unfolding understood everything
last_tenure_asked id false = (omega (arith), refl, (refl, refl, refl, refl))
last_tenure_asked id true = (omega (arith), refl, (refl, refl, refl, refl))

pub entries_asked : (bucket key : List ℕ) (most : ℕ) → IsAskedWith entries_text (Text bucket ∷ Text key ∷ number most ∷ [])
unfolding understood everything
entries_asked bucket key most false = (omega (arith), refl, (refl, refl, refl, refl))
entries_asked bucket key most true = (omega (arith), refl, (refl, refl, refl, refl))

pub newest_asked : (bucket key : List ℕ) (id : ℕ) → IsAskedWith newest_text (Text bucket ∷ Text key ∷ number id ∷ [])
unfolding understood everything
newest_asked bucket key id false = (omega (arith), refl, (refl, refl, refl, refl))
newest_asked bucket key id true = (omega (arith), refl, (refl, refl, refl, refl))

pub ids_asked : (bucket key : List ℕ) (most : ℕ) → IsAskedWith ids_text (Text bucket ∷ Text key ∷ number most ∷ [])
unfolding understood everything
ids_asked bucket key most false = (omega (arith), refl, (refl, refl, refl, refl))
ids_asked bucket key most true = (omega (arith), refl, (refl, refl, refl, refl))

pub older_asked : (bucket key : List ℕ) (than most : ℕ) → IsAskedWith older_text (Text bucket ∷ Text key ∷ number than ∷ number most ∷ [])
unfolding understood everything
older_asked bucket key than most false = (omega (arith), refl, (refl, refl, refl, refl))
older_asked bucket key than most true = (omega (arith), refl, (refl, refl, refl, refl))

pub buckets_asked : (after : List ℕ) (most : ℕ) → IsAskedWith buckets_text (Text after ∷ number most ∷ [])
unfolding understood everything
buckets_asked after most false = (omega (arith), refl, (refl, refl, refl, refl))
buckets_asked after most true = (omega (arith), refl, (refl, refl, refl, refl))

pub keys_asked : (bucket after : List ℕ) (most : ℕ) → IsAskedWith keys_text (Text bucket ∷ Text after ∷ number most ∷ [])
unfolding understood everything
keys_asked bucket after most false = (omega (arith), refl, (refl, refl, refl, refl))
keys_asked bucket after most true = (omega (arith), refl, (refl, refl, refl, refl))
