-- The texts of statements on a table, made of its columns, and what such a query shows of a row.
use Rattle.std.specs.Prelude.{ℕ, ◌+◌, List, [], ◌∷◌, ◌++◌, Some, None, Option, codes, drop, length, map}
use Rattle.sqlite.specs.Table.{Table}
use Rattle.sqlite_value.specs.declared.value.Value.{Value}
use Rattle.sqlite_sql.specs.Term.{Term, col, lit}
use Rattle.sqlite_schema.specs.declared.schema.Column.{Column}

-- the names of these columns
abbrev pub names : List Column → List (List ℕ)
names columns = map (λ (c : Column). c.name) columns

-- the names of a table's columns
abbrev pub names_of : Table → List (List ℕ)
names_of t = names t.columns

-- the columns that a later schema version has at the end of a table
abbrev pub later_columns : Table → Table → List Column
later_columns old new = drop (length old.columns) new.columns

-- texts, with commas between them
abbrev pub listed : List (List ℕ) → List ℕ
listed [] = []
listed (n ∷ []) = n
listed (n ∷ m ∷ more) = n ++ codes ", " ++ listed (m ∷ more)

-- the query for these over a table, and what follows it
abbrev pub query_text : List (List ℕ) → Table → List ℕ → List ℕ
query_text shown t ending = codes "SELECT " ++ listed shown ++ codes " FROM " ++ t.name ++ ending

-- the query for all columns
abbrev pub select_text : Table → List ℕ → List ℕ
select_text t ending = query_text (names_of t) t ending

-- what is there for a column that a schema version lacks: how SQL writes it, and its value
pub record Absent : Type 0 where
  pub written : List ℕ
  pub value : Value

-- these for the columns, by the columns' names
abbrev pub absent_as : List Absent → List Column → List (List ℕ)
absent_as [] cs = []
absent_as (a ∷ absents) [] = []
absent_as (a ∷ absents) (c ∷ cs) = (a.written ++ codes " AS " ++ c.name) ∷ absent_as absents cs

-- the same over the table of an earlier schema version, with what is there for each column that it lacks
abbrev pub select_text_as : List Absent → Table → Table → List ℕ → List ℕ
select_text_as absents old new ending = query_text (names_of old ++ absent_as absents (later_columns old new)) old ending

-- the statement that puts rows in, and what follows the columns
abbrev pub insert_into_text : Table → List ℕ → List ℕ
insert_into_text t ending = codes "INSERT INTO " ++ t.name ++ codes " (" ++ listed (names_of t) ++ codes ")" ++ ending

-- the one that puts one row in, with a parameter for each column, of its name
abbrev pub insert_text : Table → List ℕ
insert_text t = insert_into_text t (codes " VALUES (" ++ listed (map (λ n. codes ":" ++ n) (names_of t)) ++ codes ")")

-- ---- what is shown of a row: its number in the file is at place 0, and its columns are at the places from 1

abbrev pub terms_from : ℕ → List Column → List Term
terms_from at [] = []
terms_from at (c ∷ cs) = col 1 at ∷ terms_from (at + 1) cs

-- all columns, where the number in the file is the one of the key, if that is a number
abbrev pub terms_by : Option ℕ → List Column → List Term
terms_by None columns = terms_from 1 columns
terms_by (Some at) columns = col 1 0 ∷ terms_from 2 (drop 1 columns)

abbrev pub terms_of : Table → List Term
terms_of t = terms_by t.key t.columns

-- the same over the table of an earlier schema version, with the value of each column that it lacks
abbrev pub terms_as : List Absent → Table → List Term
terms_as absents old = terms_of old ++ map (λ (a : Absent). lit a.value) absents
