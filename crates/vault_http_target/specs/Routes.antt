-- The routes, as rows of `matchit`: the last one that was put in is looked at first.
use Rattle.std.specs.Prelude.{ℕ, List, [], ◌∷◌, Bool, is_some, codes}
use Rattle.std.specs.Str.Lossy.{utf8_lossy}
use Rattle.matchit.specs.Rows.{RowsOf}
use Rattle.matchit.specs.Router.{RouteOf}
use Rattle.matchit.specs.Seek.{first}

-- 256 is a name up to the next slash, 257 for all that is left
abbrev pub bucket : RouteOf ℕ
bucket = record { pattern = 47 ∷ 256 ∷ []; text = codes "/{bucket}"; names = (2, 8) ∷ []; value = 0 }

abbrev pub bucket_slash : RouteOf ℕ
bucket_slash = record { pattern = 47 ∷ 256 ∷ 47 ∷ []; text = codes "/{bucket}/"; names = (2, 8) ∷ []; value = 0 }

abbrev pub object : RouteOf ℕ
object = record { pattern = 47 ∷ 256 ∷ 47 ∷ 257 ∷ []; text = codes "/{bucket}/{*key}"; names = (2, 8) ∷ (12, 15) ∷ []; value = 0 }

abbrev pub routes : RowsOf (RouteOf ℕ)
routes = (object.pattern, object) ∷ (bucket_slash.pattern, bucket_slash) ∷ (bucket.pattern, bucket) ∷ []

abbrev pub has_route : List ℕ → Bool
has_route path = is_some (first routes path)

-- bytes that aren't UTF-8 are no slash
abbrev pub is_routed : List ℕ → Bool
is_routed path = has_route (utf8_lossy path)
