-- A store that works refuses a statement of a making only where memory runs out.
use Rattle.std.proofs.Common.{◌≡◌, ◌≢◌, ◌⊎◌, ◌≤◌, append-nil, inl, inr, ℕ, List, [], length, Bool, true, false, None, Some, Option, Ok, Err, Result, IfErr, refl, sym, ap, subst, ◌∙◌}
use Rattle.std.specs.List.{AllByRecursion}
use Rattle.sqlite_trees.specs.Tree.{Trees}
use Rattle.sqlite_schema.specs.declared.command.Command.{Command}
use Rattle.sqlite_schema.specs.declared.command.Command.TheVariants.{Begin, Commit, Rollback, Release, RollbackTo, CreateTable, CreateIndex}
use Rattle.sqlite_schema.specs.declared.schema.Schema.{Schema}
use Rattle.sqlite_resolve.specs.declared.compiled.Compiled.{Compiled}
use Rattle.sqlite_catalog.specs.Calls.{RefusesTable}
use Rattle.sqlite_catalog.specs.Change.{created}
use Rattle.sqlite.specs.declared.error.Error.{Error}
use Rattle.sqlite.specs.Does.{Does, lacks_sequence}
use Rattle.sqlite.specs.Listing.{understood}
use Rattle.sqlite.specs.State.{State, IsMisplaced, IsNoStatement, IsNotRun, IsStatement, RunsCommand, ExecutesIn, ExecutesInside, EndsScope, Escapes, shows_rows, text_of, mode_of}
use Rattle.sqlite.proofs.Callers.{IsPlain, command_of, statement_of}
use Rattle.vault_base.specs.declared.refusal.Refusal.TheVariants.{Memory, Device}
use Rattle.vault_base.specs.declared.refusal.Table.{Table}
use Rattle.vault_base.specs.declared.refusal.Table.TheVariants as table
use Rattle.vault_audit_model.specs.Faults.{refusal_of}
use Rattle.vault_audit_model.specs.Order.{place_of}
use Rattle.vault_audit_model.specs.Tables.{entries}
use Rattle.vault_audit_model.proofs.CommandLemmas.{commanded_is, statement_is}
use Rattle.vault_audit_schema.specs.Statements.{IsAlone, IsCreationOf, IsIndexCreation, schema_before, schema_before_index, schema_once}
use Rattle.vault_audit_schema.proofs.TakenLemmas.{table_taken, table_short, index_taken, index_short}
use Rattle.vault_audit_rows.specs.Health.{IsHealthy, IsMemory}
use Rattle.vault_store_create.specs.Create.{HasFirst, HasBefore}
use Rattle.vault_store_create.proofs.TextLemmas.{uncounted}
use Rattle.sqlite_value.specs.Order.{Row}
use Rattle.sqlite_resolve.specs.declared.error.CompileError.{CompileError}
use Rattle.vault_audit_rows.proofs.CauseLemmas.{by_size}
pub use Rattle.vault_audit_rows.proofs.CauseLemmas.{by_store}

-- ---- of the store

-- out of memory is reported as such
pub no_device : (e : Error) → IsMemory e → refusal_of e ≢ Device
no_device e is stated = absurd (let memory : refusal_of e ≡ Memory = ap refusal_of is in cc (memory, stated))

-- ---- of a statement

-- the command begins or ends a transaction, or a part of one
abbrev pub marks : Command → Bool
marks Begin = true
marks Commit = true
marks Rollback = true
marks (Release name) = true
marks (RollbackTo name) = true
marks _ = false

pub marks_if_misplaced : (s : State) (k : Command) (e : Error) → IsMisplaced s k e → marks k ≡ true
marks_if_misplaced s k e (inl (is, inl (begins, inside))) = ap marks begins
marks_if_misplaced s k e (inl (is, inr (inl ends, outside))) = ap marks ends
marks_if_misplaced s k e (inl (is, inr (inr undoes, outside))) = ap marks undoes
marks_if_misplaced s k e (inr (is, name, inl releases, unnamed)) = ap marks releases
marks_if_misplaced s k e (inr (is, name, inr returns, unnamed)) = ap marks returns

pub marks_if_escapes : (s : State) (k : Command) → Escapes 0 s k → marks k ≡ true
marks_if_escapes s k (inl (inl ends)) = ap marks ends
marks_if_escapes s k (inl (inr undoes)) = ap marks undoes
marks_if_escapes s k (inr (name, inl releases, held)) = ap marks releases
marks_if_escapes s k (inr (name, inr returns, held)) = ap marks returns

-- the text is one statement, with as many parameters
abbrev pub IsAloneWith : List ℕ → Row → Result Compiled CompileError → Type 0
IsAloneWith text params (Ok c) = (length text ≤ c.tail) × (length params ≡ length c.names)
IsAloneWith text params (Err e) = ⊥

-- what is known of a text with these parameters
pub record SaysWith (schema : Schema) (text : List ℕ) (params : Row) (command : Command) : Type 0 where
  pub meaning : command_of (understood schema text) ≡ command
  pub plain : IsPlain (understood schema text)
  pub alone : IsAloneWith text params (understood schema text)
  pub unmarked : marks command ≡ false
  pub silent : (c : Compiled) → c.command ≡ command → c.returning ≡ None → shows_rows false c ≡ false

module _ (text : List ℕ) (params : Row) (old new : State) (well : IsHealthy new) (schema : Schema) (has : old.now.schema ≡ schema) (command : Command) (says : SaysWith schema text params command) where
  abbrev DoesNot : Option Error → Type 0
  DoesNot stop = Does old.step_limit (mode_of old) params old.now (statement_of text (understood schema text)) None command (Err stop)

  abbrev IsFor : Error → Type 0
  IsFor e = IsMemory e ⊎ ((stop : Option Error) × DoesNot stop)

  meant : (c : Compiled) → understood old.now.schema text ≡ Ok c → understood schema text ≡ Ok c
  meant c is = ap (λ s. understood s text) (sym has) ∙ is

  commands : (c : Compiled) → understood old.now.schema text ≡ Ok c → c.command ≡ command
  commands c is = sym (ap command_of (meant c is)) ∙ says.meaning

  bare_of : (c : Compiled) → understood old.now.schema text ≡ Ok c → IsPlain (Ok c)
  bare_of c is = subst IsPlain (meant c is) says.plain

  alone_of : (c : Compiled) → understood old.now.schema text ≡ Ok c → IsAloneWith text params (Ok c)
  alone_of c is = subst (IsAloneWith text params) (meant c is) says.alone

  a_statement : (e : Error) → ¬ IsNoStatement old text params e
  a_statement e (inl (fault, is, stated)) = subst (IsAloneWith text params) (ap (λ s. understood s text) (sym has) ∙ is) says.alone
  a_statement e (inr (c, is, inl part)) = part.0 (alone_of c is).0
  a_statement e (inr (c, is, inr (inl given))) = given.0 (alone_of c is).1
  a_statement e (inr (c, is, inr (inr timely))) = timely.0 (bare_of c is).1

  unmarked_of : (c : Compiled) → understood old.now.schema text ≡ Ok c → marks c.command ≡ false
  unmarked_of c is = ap marks (commands c is) ∙ says.unmarked

  does_as : (c : Compiled) → IsStatement old text params c → (stop : Option Error) → Does old.step_limit (mode_of old) params old.now (text_of text c) c.returning c.command (Err stop) → DoesNot stop
  does_as c it stop does =
      let first = subst (λ k. Does old.step_limit (mode_of old) params old.now (text_of text c) c.returning k (Err stop)) (commands c it.is) does in
      let second = subst (λ r. Does old.step_limit (mode_of old) params old.now (text_of text c) r command (Err stop)) (bare_of c it.is).0 first in
      subst (λ t. Does old.step_limit (mode_of old) params old.now t None command (Err stop)) (sym (ap (statement_of text) (meant c it.is))) second

  runs : (c : Compiled) → IsStatement old text params c → (e : Error) → RunsCommand old new text c params (Err e) → IsFor e
  runs c it e (inl (inl misplaced, same)) = absurd (let no = unmarked_of c it.is in let is = marks_if_misplaced old c.command e misplaced in cc (no, is))
  runs c it e (inl (inr (may, does), same)) = inr (Some e, does_as c it (Some e) does)
  runs c it e (inr failed) = elim (by_size _ old new well e failed) [ inl is ↦ inl is | inr does ↦ inr (None, does_as c it None does) ]

  executes : (e : Error) → ExecutesIn false text params old new (Err e) → IsFor e
  unfolding ExecutesIn IsNotRun
  executes e (inl (inl none)) = absurd (a_statement e none.0)
  executes e (inl (inr failed)) = inl (by_store ⊥ (λ none. none) old new well e failed)
  executes e (inr (c, it, h)) =
      let bare = bare_of c it.is in
      let silent = says.silent c (commands c it.is) bare.0 in
      runs c it e (rw (bare.1, silent, append-nil params) at h)

  pub refused_as : (r : Result ℕ Error) → ExecutesInside 0 text params old new r → IfErr r IsFor
  unfolding EndsScope
  refused_as (Ok count) h = tt
  refused_as (Err e) (inl (h, left)) = executes e h
  refused_as (Err e) (inr ((c, it, escapes), is, same)) = absurd (let no = unmarked_of c it.is in let is_one = marks_if_escapes old c.command escapes in cc (no, is_one))

-- a statement without parameters that the database never refuses is refused only where memory runs out
pub refused : (text : List ℕ) (old new : State) → IsHealthy new → (schema : Schema) → old.now.schema ≡ schema → (command : Command) → SaysWith schema text [] command
    → ((stop : Option Error) → ¬ Does old.step_limit (mode_of old) [] old.now (statement_of text (understood schema text)) None command (Err stop))
    → (r : Result ℕ Error) → ExecutesInside 0 text [] old new r → IfErr r IsMemory
refused text old new well schema has command says never (Ok count) h = tt
refused text old new well schema has command says never (Err e) h = elim (refused_as text [] old new well schema has command says (Err e) h) [
  | inl is ↦ is
  | inr stopped ↦ absurd (never stopped.0 stopped.1)
]

alone_with : (text : List ℕ) (r : Result Compiled CompileError) → IsAlone text r → IsAloneWith text [] r
alone_with text (Ok c) alone = (alone.0, sym (ap length alone.1))
alone_with text (Err e) alone = alone

-- ---- of tables and the index

table_never : (external : Bool) (t : Table) (text : List ℕ) → IsCreationOf external t text → (old : State) → old.now.schema ≡ schema_before external t → (stop : Option Error)
    → ¬ Does old.step_limit (mode_of old) [] old.now text None CreateTable (Err stop)
table_never external t text it old has stop (inr (after, made, given)) = absurd (cc given)
table_never external t text it old has stop (inl (s, inl (None, long, same), is)) = table_short (schema_before external t) text it.made it.defined it.taken long
table_never external t text it old has stop (inl (s, inl (Some e, inl odd, same), is)) = odd.0 it.taken.utf8
table_never external t text it old has stop (inl (s, inl (Some e, inr (why, refuses, stated), same), is)) = table_taken (schema_before external t) text it.made it.defined it.taken why (subst (λ x. RefusesTable x text why) has refuses)
table_never external t text it old has stop (inl (s, inr (after, made, counts), is)) =
    let both : Ok made.table ≡ Ok it.made = sym made.defined ∙ it.defined in
    let same : made.table ≡ it.made = cc in
    let schema = schema_before external t in
    let next : after.schema ≡ schema_once external t = made.is ∙ ap (λ s. created s made.table) has ∙ ap (created schema) same ∙ it.next in
    let plain : lacks_sequence after.schema ≡ false = ap lacks_sequence next ∙ uncounted external t in
    absurd (let gives = rw plain at counts in cc gives)

pub table_refused : (external : Bool) (t : Table) (text : List ℕ) → IsCreationOf external t text → (old new : State) → IsHealthy new → HasBefore external t old.now → (r : Result ℕ Error) → ExecutesInside 0 text [] old new r → IfErr r IsMemory
table_refused external t text it old new well was r h =
    let schema = schema_before external t in
    let says : SaysWith schema text [] CreateTable = record {
      meaning = commanded_is (understood schema text) ∙ it.command;
      plain = it.plain;
      alone = alone_with text (understood schema text) it.alone;
      unmarked = refl;
      silent = λ c is none. rw (is, none) refl;
    } in
    let whole = statement_is text (understood schema text) ∙ it.whole in
    refused text old new well schema was.schema CreateTable says
    (λ stop does. table_never external t text it old was.schema stop (subst (λ s. Does old.step_limit (mode_of old) [] old.now s None CreateTable (Err stop)) whole does)) r h

index_never : (external : Bool) (text : List ℕ) → IsIndexCreation external text → (old : State) → (trees : Trees) → AllByRecursion (λ t. trees t.tree ≡ []) (schema_before_index external).tables → (stop : Option Error)
    → ¬ Does old.step_limit (mode_of old) [] (record { schema = schema_before_index external; trees = trees }) text None (CreateIndex (place_of table.Entries)) (Err stop)
index_never external text it old trees empty stop (inr (after, made, given)) = absurd (cc given)
index_never external text it old trees empty stop (inl (None, long, same)) = index_short (schema_before_index external) text entries it.made it.defined it.taken trees empty.1.1.1.1.1.0 long
index_never external text it old trees empty stop (inl (Some e, inl odd, same)) = odd.0 it.taken.utf8
index_never external text it old trees empty stop (inl (Some e, inr (why, refuses, stated), same)) = index_taken (schema_before_index external) text entries it.made it.defined it.taken trees empty why refuses

pub index_refused : (external : Bool) (text : List ℕ) → IsIndexCreation external text → (old new : State) → IsHealthy new → HasFirst external 11 old.now → (r : Result ℕ Error) → ExecutesInside 0 text [] old new r → IfErr r IsMemory
index_refused external text it old new well was r h =
    let schema = schema_before_index external in
    let command = CreateIndex (place_of table.Entries) in
    let says : SaysWith schema text [] command = record {
      meaning = commanded_is (understood schema text) ∙ it.command;
      plain = it.plain;
      alone = alone_with text (understood schema text) it.alone;
      unmarked = refl;
      silent = λ c is none. rw (is, none) refl;
    } in
    let whole = statement_is text (understood schema text) ∙ it.whole in
    refused text old new well schema was.schema command says
    (λ stop does.
    let spoken = subst (λ s. Does old.step_limit (mode_of old) [] old.now s None command (Err stop)) whole does in
    let placed = subst (λ s. Does old.step_limit (mode_of old) [] (record old.now { schema = s }) text None command (Err stop)) was.schema spoken in
    index_never external text it old old.now.trees was.rows stop placed) r h
