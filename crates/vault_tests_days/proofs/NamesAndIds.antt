-- Names and ids at the ends of each kind: what a text is read as, or why it is none.
use Rattle.std.specs.Prelude.{◌≡◌, refl, ℕ, List, [], ◌∷◌, map, Result, Ok, Err, codes}
use Rattle.std.specs.List.{repeat}
use Rattle.vault_base.specs.declared.name.NameFault.{NameFault}
use Rattle.vault_base.specs.declared.name.NameFault.TheVariants.{Empty, TooLong, Form}
use Rattle.vault_base.specs.Name.{bucket_name_of, object_key_of, key_prefix_of, plain_name_of, rule_id_of, version_id_of}

buckets : map bucket_name_of ([] ∷ repeat 64 (codes "a") ∷ codes "ab" ∷ codes "abc" ∷ codes "a-" ∷ codes "a-9" ∷ []) ≡
    Err Empty ∷ Err TooLong ∷ Err Form ∷ Ok (codes "abc") ∷ Err Form ∷ Ok (codes "a-9") ∷ []
buckets = refl

-- U+007F
keys : map object_key_of ([] ∷ (127 ∷ []) ∷ codes "k" ∷ []) ≡ Err Empty ∷ Err Form ∷ Ok (codes "k") ∷ []
keys = refl

longest_prefix : key_prefix_of (repeat 1024 (codes "k")) ≡ Ok (repeat 1024 (codes "k"))
longest_prefix = refl

-- the second one is a line feed
prefixes : map key_prefix_of (repeat 1025 (codes "k") ∷ (10 ∷ []) ∷ [] ∷ []) ≡ Err TooLong ∷ Err Form ∷ Ok [] ∷ []
prefixes = refl

callers : map plain_name_of ([] ∷ repeat 65 (codes "z") ∷ codes "Ann" ∷ codes "ann" ∷ []) ≡
    Err Empty ∷ Err TooLong ∷ Err Form ∷ Ok (codes "ann") ∷ []
callers = refl

-- U+00E9, of two bytes: a rule's id is counted in characters
abbrev e_acute : List ℕ
e_acute = 195 ∷ 169 ∷ []

longest_rule : rule_id_of (repeat 255 e_acute) ≡ Ok (repeat 255 e_acute)
longest_rule = refl

-- the last one has a tab
rules : map rule_id_of ([] ∷ repeat 256 e_acute ∷ (114 ∷ 9 ∷ 49 ∷ []) ∷ []) ≡ Err Empty ∷ Err TooLong ∷ Err Form ∷ []
rules = refl

ids : map version_id_of (codes "1" ∷ codes "1000000000" ∷ codes "1000000001" ∷ codes "9999999999" ∷ codes "10000000000" ∷ [] ∷ codes "0" ∷ codes "01" ∷ codes "+1" ∷ []) ≡
    Ok 1 ∷ Ok 1000000000 ∷ Err Form ∷ Err Form ∷ Err TooLong ∷ Err Empty ∷ Err Form ∷ Err Form ∷ Err Form ∷ []
ids = refl
