-- How much a vault takes, and how much of it is read or listed at once.
use Rattle.std.specs.Prelude.{ℕ}

-- the bytes of one version at most, where the vault keeps them
abbrev pub most_content : ℕ
most_content = 1048576

-- the bytes of one version at most, where they are kept outside: as many as one put of S3 may have (API Reference, "PutObject")
abbrev pub most_external : ℕ
most_external = 5368709120

-- the last number that a vault counts to: of its ids, its moves of buckets and the settings of one version
abbrev pub last_number : ℕ
last_number = 1000000000

-- the last id
abbrev pub most_ids : ℕ
most_ids = last_number

-- the moves of buckets at most
abbrev pub most_moves : ℕ
most_moves = last_number

-- the settings of one version at most
abbrev pub most_settings : ℕ
most_settings = last_number

-- the rules of one bucket at most (S3 User Guide, "Lifecycle configuration elements")
abbrev pub most_rules : ℕ
most_rules = 1000

-- the keys of one page: a run and a listing read a bucket's keys page by page
abbrev pub most_keys : ℕ
most_keys = 256

-- the entries of one page of a listing at most (API Reference, "ListObjectVersions")
abbrev pub most_listed : ℕ
most_listed = 1000

-- the bytes of one line of a script at most, its LF not counted: a longer one is malformed, whatever it says
abbrev pub longest_line : ℕ
longest_line = 4194304

-- the bytes of a request's JSON body at most: as many as a script line that asks the same
abbrev pub longest_body : ℕ
longest_body = longest_line
