-- What a listing of a bucket's versions and a certificate of destruction answer.
use Rattle.std.specs.Prelude.{ℕ, Bool, false, not, ◌&&◌, ◌||◌, nat_lt, nat_le, nat_eq, List, length, take, reverse, map, filter, flat_map, Option, Some, None, Result, Ok, Err, if◌then◌else◌}
use Rattle.std.specs.List.{starts_with}
use Rattle.std.specs.Str.{bytes_eq}
use Rattle.vault_base.specs.declared.refusal.Refusal.{Refusal}
use Rattle.vault_base.specs.declared.refusal.Refusal.TheVariants.{NoSuchVersion, MethodNotAllowed, InvalidArgument}
use Rattle.vault_base.specs.declared.right.Right.TheVariants as right
use Rattle.vault_base.specs.Limits.{most_listed}
use Rattle.vault_core_model.specs.declared.records.Entry.{Entry}
use Rattle.vault_core_model.specs.declared.records.History.{History}
use Rattle.vault_core_model.specs.declared.command.ListVersions.{ListVersions}
use Rattle.vault_core_model.specs.declared.command.Certificate.{Certificate}
use Rattle.vault_core_model.specs.declared.reply.Answer.{Answer}
use Rattle.vault_core_model.specs.declared.reply.Answer.TheVariants as answer
use Rattle.vault_core_model.specs.declared.reply.Listed.{Listed}
use Rattle.vault_core_model.specs.Vault.{Vault}
use Rattle.vault_core_model.specs.Places.{is_held, held_at, is_current, comes_after, keys_of}
use Rattle.vault_core_model.specs.Reads.{entry_of, tenures_of}
use Rattle.vault_core_model.specs.Checks.{◌>>=◌, check, access}

-- ---- the listing

-- the id is smaller than the one given; no id is, where none is given
abbrev pub is_below : Option ℕ → ℕ → Bool
is_below None id = false
is_below (Some after) id = nat_lt id after

-- the entry comes after the place after which a listing begins
abbrev pub is_after : ListVersions → Entry → Bool
is_after c e = comes_after e.key c.after_key || (bytes_eq e.key c.after_key && is_below c.after_id e.id)

-- its key begins as asked, and it comes after that place
abbrev pub is_asked_for : ListVersions → Entry → Bool
is_asked_for c e = starts_with nat_eq e.key c.prefix && is_after c e

-- the held entries of a bucket by key, within a key newest first
abbrev pub in_listing_order : Vault → List ℕ → List History
in_listing_order v bucket = flat_map (λ key. reverse (held_at v bucket key)) (keys_of v bucket)

-- those that a listing asks for
abbrev pub asked_for : Vault → ListVersions → List History
asked_for v c = filter (λ h. is_asked_for c h.entry) (in_listing_order v c.bucket)

abbrev pub listed : Vault → History → Listed
listed v h = record { entry = h.entry; current = is_current v h }

-- a page of a listing has 1 to 1,000 entries
abbrev pub is_page_size : ℕ → Bool
is_page_size most = nat_le 1 most && nat_le most most_listed

-- the first of the held entries that are asked for, and whether there are more (API Reference, "ListObjectVersions")
abbrev pub list_versions : Vault → ℕ → List ℕ → ListVersions → Result (Answer × Vault) Refusal
list_versions v t who c = do
  _ ← access v t who c.bucket right.List
  _ ← check (is_page_size c.most) InvalidArgument
  Ok (
    answer.Versions (record {
      entries = map (listed v) (take c.most (asked_for v c));
      more = nat_lt c.most (length (asked_for v c));
    }),
    v,
  )

-- ---- the certificate

-- an entry that was ever in that bucket
abbrev pub entry_in : List ℕ → Option Entry → Result Entry Refusal
entry_in bucket None = Err NoSuchVersion
entry_in bucket (Some e) = if bytes_eq e.bucket bucket then Ok e else Err NoSuchVersion

-- a removed content version
abbrev pub is_certifiable : Entry → Bool
is_certifiable e = not e.marker && not (is_held e)

-- the removed version that a certificate is of, and its tenures
abbrev pub certificate : Vault → ℕ → List ℕ → Certificate → Result (Answer × Vault) Refusal
certificate v t who c = do
  _ ← access v t who c.bucket right.Report
  e ← entry_in c.bucket (entry_of v c.id)
  _ ← check (is_certifiable e) MethodNotAllowed
  Ok (answer.Certificate e (tenures_of v c.id), v)
