-- Where clap takes the words, they ask for a job.
use Rattle.std.proofs.Common.{◌≡◌, List, [], ◌∷◌, Bool, true, false, true≢false, cond, not, ◌&&◌, ◌||◌, Option, Some, None, is_some, option_map, find, refl, sym, ap, ◌∙◌, inl, inr, codes, bytes_eq}
use Rattle.std.proofs.lemmas.Slice.Eq.{bytes_eq-Decides}
use Rattle.std.specs.List.{AllByRecursion, list_any}
use Rattle.clap.specs.Words.{App, Row, Shape, Text, built, fault_of, is_simple, subcommand_of}
use Rattle.clap.specs.Faults.{is_simple_and_free, check_fault, level_fault, entered_fault, defaults_fault, settle_fault, walk_fault}
use Rattle.clap.specs.Kinds.{HasKind, Kinds, or_else, check_kinds}
use Rattle.clap.specs.Facts.{explicit_source}
use Rattle.clap.specs.Takes.{is_given}
use Rattle.clap.specs.Words.{kind_of}
use Rattle.clap.specs.declared.error.Error.{Error}
use Rattle.clap.specs.declared.error.kind.ErrorKind.TheVariants.{OutOfMemory}
use Rattle.clap.specs.Simple.{argument_words, entered, label_of, names_of, rows_at}
use Rattle.clap.specs.Walk.{Held, Names, Rule, answers_to, finished, nothing_held, rows_after, settled, stop_after, walk, walk_from}
use Rattle.clap.proofs.OnLiterals.{clap_on_literals}
use Rattle.vaultctl_job.specs.Jobs.{job_named}
use Rattle.vaultctl_job.specs.Words.{vaultctl, asks_version, job_for, job_in}

pub is_simple_lem : is_simple vaultctl ≡ true
unfolding vaultctl clap_on_literals
is_simple_lem = refl

pub is_free_lem : is_simple_and_free vaultctl ≡ true
unfolding vaultctl clap_on_literals
is_free_lem = refl

last_empty : (first next : Kinds) → or_else first next ≡ [] → next ≡ []
last_empty [] next e = e
last_empty (k ∷ ks) next e = cc

wanted : (help argument : Bool) → check_kinds help true argument ≡ [] → ⊥
wanted true argument e = cc
wanted false argument e = cc

-- no fault comes only where a subcommand that is needed was entered
needs : (s : Shape) (rows : List Row) (has : Bool) → s.subcommand_required ≡ true → check_fault s rows has ≡ [] → has ≡ true
needs s rows true required e = refl
needs s rows false required e =
    let help = s.arg_required_else_help && not (list_any (λ (r : Row). explicit_source r.source) rows) in
    let argument = not (s.subcommand_negates_reqs && false) && list_any (λ (a : Rule). a.required && not (is_given a.id rows)) s.rules in
    absurd (wanted help argument (rw required at e))

-- of each of these subcommands something is asked for, whatever its words are
abbrev HaveJobs : List Shape → Type 0
HaveJobs ss = AllByRecursion (λ (s : Shape). (rows : List Row) → is_some (job_named s.name rows) ≡ true) ss

-- the subcommand that is found is this one, or one that has a job where it is found
one_job : (b : Bool) (s : Shape) (found : Option Shape) (rest : List Text) → ((rows : List Row) → is_some (job_named s.name rows) ≡ true)
    → (is_some (option_map (λ (t : Shape). rows_at t rest) found) ≡ true → is_some (job_in (option_map (λ (t : Shape). rows_at t rest) found)) ≡ true)
    → is_some (option_map (λ (t : Shape). rows_at t rest) (cond b (Some s) found)) ≡ true
    → is_some (job_in (option_map (λ (t : Shape). rows_at t rest) (cond b (Some s) found))) ≡ true
one_job true s found rest have others e = have (rows_after s.rules [] rest)
one_job false s found rest have others e = others e

find_job : (ss : List Shape) (p : Shape → Bool) (rest : List Text) → HaveJobs ss
    → is_some (option_map (λ (t : Shape). rows_at t rest) (find p ss)) ≡ true
    → is_some (job_in (option_map (λ (t : Shape). rows_at t rest) (find p ss))) ≡ true
find_job [] p rest have e = cc
find_job (s ∷ ss) p rest have e = one_job (p s) s (find p ss) rest have.0 (find_job ss p rest have.1) e

entered_job : (a : App) → HaveJobs a.subs → (stop : Option (Text × List Text)) → is_some (entered a stop) ≡ true → is_some (job_in (entered a stop)) ≡ true
entered_job a have None e = cc
entered_job a have (Some p) e = find_job a.subs (λ (s : Shape). answers_to p.0 (label_of s)) p.1 have e

level_met : (s : Shape) (names : Names) (held : Held) (words : List Text) (has : Bool) (below : Kinds) → s.subcommand_required ≡ true → level_fault s names held words has below ≡ [] → has ≡ true
level_met s names held words has below required e =
    let end = (walk s.rules names held words).held in
    needs s (finished s.rules end) has required
    (last_empty (defaults_fault (settled s.rules end).rows s.rules) _
    (last_empty (settle_fault s.rules s.args_override_self end) _
    (last_empty below _
    (last_empty (walk_fault s names (walk_from held) words) _ e))))

-- the subcommands as they are built
have_jobs : HaveJobs (built vaultctl).subs
unfolding vaultctl
have_jobs =
    ((λ rows. refl), ((λ rows. refl), ((λ rows. refl), ((λ rows. refl), ((λ rows. refl), ((λ rows. refl), ((λ rows. refl), ((λ rows. refl), ((λ rows. refl), ((λ rows. refl), ((λ rows. refl), ((λ rows. refl), ((λ rows. refl), ((λ rows. refl), ((λ rows. refl), ((λ rows. refl), ((λ rows. refl), tt)))))))))))))))))

required : (built vaultctl).top.subcommand_required ≡ true
unfolding vaultctl
required = refl

pub job_asked : (words : List Text) → fault_of vaultctl words ≡ [] → is_some (job_for words) ≡ true
job_asked words e =
    let a = built vaultctl in
    let stop = stop_after a.top.rules (names_of a) (argument_words vaultctl words) in
    entered_job a have_jobs stop
    (level_met a.top (names_of a) nothing_held (argument_words vaultctl words) (is_some (entered a stop)) (entered_fault a stop) required e)

memory : (e : Error) (kinds : Kinds) → HasKind kinds e → kinds ≡ [] → kind_of e ≡ OutOfMemory
memory e [] (inl m) none = m
memory e [] (inr among) none = absurd among
memory e (k ∷ ks) has none = cc

-- the same of a command that means it
module _ (a : App) (words : List Text) (is : a ≡ vaultctl) where
  pub job_met : (rows : Option (Text × List Row)) → rows ≡ subcommand_of a words → job_in rows ≡ job_for words
  job_met rows met = ap job_in (met ∙ ap (λ (b : App). subcommand_of b words) is)

  pub none_of : fault_of a words ≡ [] → fault_of vaultctl words ≡ []
  none_of none = ap (λ (b : App). fault_of b words) (sym is) ∙ none

  pub refused : (e : Error) → HasKind (fault_of a words) e → fault_of vaultctl words ≡ [] → kind_of e ≡ OutOfMemory
  refused e has none = memory e (fault_of a words) has (ap (λ (b : App). fault_of b words) is ∙ none)

-- words that ask for the version are no job
no_job_long : (program : Text) → job_for (program ∷ codes "--version" ∷ []) ≡ None
unfolding vaultctl clap_on_literals
no_job_long program = refl

no_job_short : (program : Text) → job_for (program ∷ codes "-V" ∷ []) ≡ None
unfolding vaultctl clap_on_literals
no_job_short program = refl

no_job_by : (program word : Text) (long short : Bool) → bytes_eq word (codes "--version") ≡ long → bytes_eq word (codes "-V") ≡ short
    → (long || short) ≡ true → job_for (program ∷ word ∷ []) ≡ None
no_job_by program word true short is other e =
    ap (λ (w : Text). job_for (program ∷ w ∷ [])) ((bytes_eq-Decides word (codes "--version")).0 is) ∙ no_job_long program
no_job_by program word false true other is e =
    ap (λ (w : Text). job_for (program ∷ w ∷ [])) ((bytes_eq-Decides word (codes "-V")).0 is) ∙ no_job_short program
no_job_by program word false false other another e = absurd (true≢false (sym e))

pub no_job : (words : List Text) → asks_version words ≡ true → job_for words ≡ None
no_job [] e = absurd (true≢false (sym e))
no_job (program ∷ []) e = absurd (true≢false (sym e))
no_job (program ∷ word ∷ []) e = no_job_by program word (bytes_eq word (codes "--version")) (bytes_eq word (codes "-V")) refl refl e
no_job (program ∷ word ∷ other ∷ rest) e = absurd (true≢false (sym e))
