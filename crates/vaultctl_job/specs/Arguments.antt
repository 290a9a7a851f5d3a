-- The words that subcommands take, as clap's rules.
use Rattle.std.specs.Prelude.{[], ◌∷◌, codes, Some, true, pos}
use Rattle.clap.specs.Words.{Rule, Text, new_rule}
use Rattle.clap.specs.declared.builder.action.ArgAction.TheVariants.{Append, SetTrue}
use Rattle.clap.specs.declared.builder.value_parser.ValueParser.TheVariants as parser

-- a word that has to be there, by its place
abbrev pub place : Text → Rule
place name = record (new_rule name) { required = true }

-- a word that may be left out
abbrev pub optional_place : Text → Rule
optional_place name = new_rule name

-- [RIGHT]...
abbrev pub rights : Rule
rights = record (new_rule (codes "RIGHT")) { action = Some Append }

-- PORT, 1 to 65,535
abbrev pub port : Rule
port = record (new_rule (codes "PORT")) { required = true; parser = Some (parser.Signed (pos 1) (pos 65535)) }

-- an option with a value, by the name of its value
abbrev pub option : Text → Rule
option name = record (new_rule name) { long = Some name; value_names = 1 }

-- --count N, 1 to 1,000,000
abbrev pub count : Rule
count = record (option (codes "count")) { defaults = codes "1000000" ∷ []; parser = Some (parser.Signed (pos 1) (pos 1000000)) }

-- --lines WHERE
abbrev pub lines : Rule
lines = option (codes "lines")

-- --host NAME, any number of times
abbrev pub host : Rule
host = record (option (codes "host")) { action = Some Append }

-- --log
abbrev pub log : Rule
log = record (new_rule (codes "log")) { long = Some (codes "log"); action = Some SetTrue }

-- --external
abbrev pub external : Rule
external = record (new_rule (codes "external")) { long = Some (codes "external"); action = Some SetTrue }

-- --journal FILE
abbrev pub journal : Rule
journal = option (codes "journal")

-- --as CALLER
abbrev pub asker : Rule
asker = record (option (codes "as")) { required = true }

-- --at MOMENT
abbrev pub moment : Rule
moment = option (codes "at")

-- --before MOMENT
abbrev pub before : Rule
before = option (codes "before")

-- --dept DEPT
abbrev pub home : Rule
home = option (codes "dept")

-- --close
abbrev pub close : Rule
close = record (new_rule (codes "close")) { long = Some (codes "close"); action = Some SetTrue }
