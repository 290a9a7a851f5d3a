-- Lines and their grammar: what a value that has the shape of a line is read as, and any other.
use Rattle.std.proofs.Common.{◌≡◌, ℕ, Bool, true, false, List, [], ◌∷◌, refl, ◌∙◌, ap, codes}
use Rattle.std.specs.Prelude.{if◌then◌else◌, IsTrue, Option, Some, None, option_and_then, Result, Ok, Err}
use Rattle.std.specs.List.{find}
use Rattle.std.specs.Option.{option_map_or}
use Rattle.std.specs.Str.{bytes_eq}
use Rattle.std.proofs.lemmas.Slice.Eq.{bytes_eq-Decides}
use Rattle.serde_json.specs.Data.{Data, null, boolean, string, number, array, object}
use Rattle.serde_json.specs.Find.{get, as_str}
use Rattle.vault_base.specs.declared.refusal.Refusal.{Refusal}
use Rattle.vault_base.specs.declared.refusal.Refusal.TheVariants.{MalformedBody}
use Rattle.vault_values.specs.Fault.{◌>>=◌}
use Rattle.vault_lines_json.specs.Document.{or_malformed}
use Rattle.vault_lines_json.specs.Members.{text_of}
use Rattle.vault_lines_json.specs.Values.{reading_of, asker_of}
use Rattle.vault_lines_json.proofs.ReadLemmas.{Reads, reads-then}
use Rattle.vault_lines_json.proofs.ValueLemmas.{reads-reading, reads-asker}
use Rattle.vault_lines_read.specs.Grammar.{IsDo, Spells}
use Rattle.vault_lines_read.specs.ReadLine.{if_passes, verb_of, timed_of}
use Rattle.vault_lines_read.specs.Verb.{verb_name, verbs, verb_named, is_shaped, values_of}
use Rattle.vault_lines_read.specs.declared.verb.Verb.{Verb}
use Rattle.vault_lines_read.proofs.CommandLemmas.{named, reads-values, heading-fits}

-- what a reading gives, of a line that has the shape or hasn't
abbrev pub Decided : {A : Type 0} → Bool → (A → Type 0) → Result A Refusal → Type 0
Decided true P r = Reads P r
Decided false P r = r ≡ Err MalformedBody

-- ---- the verb

passes-here : (test : Verb → Bool) (vs : List Verb) (v w : Verb) (b : Bool) → test v ≡ b → (find test vs ≡ Some w → test w ≡ true) → (let found : Option Verb = if b then Some v else find test vs in found) ≡ Some w → test w ≡ true
passes-here test vs v w true e later f =
    let same : v ≡ w = cc in
    cc
passes-here test vs v w false e later f = later f

found-passes : (test : Verb → Bool) (vs : List Verb) (w : Verb) → find test vs ≡ Some w → test w ≡ true
found-passes test [] w e = absurd cc
found-passes test (v ∷ vs) w e = passes-here test vs v w (test v) refl (found-passes test vs w) e

pub is-name : (name : List ℕ) (verb : Verb) → verb_named name ≡ Some verb → name ≡ verb_name verb
is-name name verb e = (bytes_eq-Decides name (verb_name verb)).0 (found-passes (λ v. bytes_eq name (verb_name v)) verbs verb e)

do-ok : (d : Data) (verb : Verb) → IsDo d verb → text_of (codes "do") d ≡ Ok (verb_name verb)
unfolding text_of
do-ok d verb e = rw e refl

-- the verb that the member `do` names
abbrev pub verb_in : Data → Option Verb
verb_in d = option_and_then verb_named (option_and_then as_str (get (codes "do") d))

-- the verb of the value is one that passes
abbrev pub passes : (Verb → Data → Bool) → Data → Bool
passes test d = option_map_or (λ verb. test verb d) (verb_in d) false

-- `do` names a verb that passes
abbrev pub Passes : (Verb → Data → Bool) → Data → Verb → Type 0
Passes test d verb = IsDo d verb × IsTrue (test verb d)

verb-is : (d : Data) (verb : Verb) → IsDo d verb → verb_in d ≡ Some verb
verb-is d verb do_is = ap (λ found. option_and_then verb_named (option_and_then as_str found)) do_is ∙ named verb

pub test-is : (test : Verb → Data → Bool) (d : Data) (verb : Verb) → IsDo d verb → passes test d ≡ test verb d
test-is test d verb do_is = ap (λ found. option_map_or (λ v. test v d) found false) (verb-is d verb do_is)

verb-chosen : (test : Verb → Data → Bool) (d : Data) (name : List ℕ) (found : Option Verb) → get (codes "do") d ≡ Some (string name) → verb_named name ≡ found → Decided (option_map_or (λ verb. test verb d) found false) (Passes test d) (if_passes test found d)
verb-chosen test d name None e f = refl
verb-chosen test d name (Some verb) e f = chosen (test verb d) refl
  where
    chosen : (b : Bool) → test verb d ≡ b → Decided b (Passes test d) (if b then Ok verb else Err MalformedBody)
    chosen true g = (e ∙ ap (λ t. Some (string t)) (is-name name verb f), g)
    chosen false g = refl

pub verb-found : (test : Verb → Data → Bool) (d : Data) (found : Option Data) → get (codes "do") d ≡ found → Decided (option_map_or (λ verb. test verb d) (option_and_then verb_named (option_and_then as_str found)) false) (Passes test d) (or_malformed (option_and_then as_str found) >>= (λ name. if_passes test (verb_named name) d))
verb-found test d None e = refl
verb-found test d (Some null) e = refl
verb-found test d (Some (boolean b)) e = refl
verb-found test d (Some (number n)) e = refl
verb-found test d (Some (string name)) e = verb-chosen test d name (verb_named name) e refl
verb-found test d (Some (array ds)) e = refl
verb-found test d (Some (object ms)) e = refl

some-chosen : (test : Verb → Data → Bool) (d : Data) (name : List ℕ) (found : Option Verb) → get (codes "do") d ≡ Some (string name) → verb_named name ≡ found → option_map_or (λ verb. test verb d) found false ≡ true → (verb : Verb) × Passes test d verb
some-chosen test d name None e f passed = absurd cc
some-chosen test d name (Some verb) e f passed = (verb, (e ∙ ap (λ t. Some (string t)) (is-name name verb f), passed))

some-found : (test : Verb → Data → Bool) (d : Data) (found : Option Data) → get (codes "do") d ≡ found → option_map_or (λ verb. test verb d) (option_and_then verb_named (option_and_then as_str found)) false ≡ true → (verb : Verb) × Passes test d verb
some-found test d (Some (string name)) e passed = some-chosen test d name (verb_named name) e refl passed
some-found test d found e passed = absurd cc

-- where a verb passes, `do` names it
pub some-verb : (test : Verb → Data → Bool) (d : Data) → passes test d ≡ true → (verb : Verb) × Passes test d verb
some-verb test d passed = some-found test d (get (codes "do") d) refl passed

-- the verb that `do` names is found, if it passes
pub passes-ok : (test : Verb → Data → Bool) (d : Data) (verb : Verb) → IsDo d verb → test verb d ≡ true → text_of (codes "do") d >>= (λ name. if_passes test (verb_named name) d) ≡ Ok verb
passes-ok test d verb do_is passed =
    ap (λ r. r >>= (λ name. if_passes test (verb_named name) d)) (do-ok d verb do_is) ∙ ap (λ found. if_passes test found d) (named verb) ∙ chosen (test verb d) passed
  where
    chosen : (b : Bool) → b ≡ true → (let r : Result Verb Refusal = if b then Ok verb else Err MalformedBody in r) ≡ Ok verb
    chosen true e = refl
    chosen false e = absurd cc

abbrev pub has_shape : Data → Bool
has_shape d = passes is_shaped d

stated-verb : (d : Data) → Decided (has_shape d) (Passes is_shaped d) (verb_of d)
unfolding verb_of text_of
stated-verb d = verb-found is_shaped d (get (codes "do") d) refl

-- ---- lines

pub stated-then : {A B : Type 0} (b : Bool) (P : A → Type 0) (Q : B → Type 0) (x : Result A Refusal) (f : A → Result B Refusal) → Decided b P x → ((a : A) → P a → Reads Q (f a)) → Decided b Q (x >>= f)
stated-then true P Q x f stated next = reads-then P Q x f stated next
stated-then false P Q x f stated next = rw stated refl

pub stated-timed : (d : Data) → Decided (has_shape d) (Spells d) (timed_of d)
unfolding timed_of
stated-timed d =
    stated-then (has_shape d) _ (Spells d) (verb_of d) _ (stated-verb d) (λ verb verb_is.
    reads-then _ (Spells d) (reading_of d) _ (reads-reading d (heading-fits verb d verb_is.1).0) (λ at at_is.
    reads-then _ (Spells d) (asker_of d) _ (reads-asker d (heading-fits verb d verb_is.1).1) (λ who who_is.
    reads-then _ (Spells d) (values_of verb d) _ (reads-values verb d verb_is.0 verb_is.1) (λ command command_is.
    (at_is, who_is, command_is)))))
