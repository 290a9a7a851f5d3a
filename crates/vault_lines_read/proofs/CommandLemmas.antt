-- The line of a command: its values are read as that command, and another value is refused.
use Rattle.std.proofs.Common.{◌≡◌, Bool, true, false, refl, codes}
use Rattle.std.specs.Prelude.{◌&&◌, IsTrue, Some, Ok}
use Rattle.serde_json.specs.Data.{Data}
use Rattle.serde_json.specs.Find.{get}
use Rattle.vault_core_model.specs.declared.command.Command.{Command}
use Rattle.vault_lines_json.specs.Shape.{fits, has_members, has_one_content}
use Rattle.vault_lines_json.specs.declared.shape.Kind.TheVariants.{Text}
use Rattle.vault_lines_json.proofs.ReadLemmas.{Reads, reads-as, left-of, right-of}
use Rattle.vault_lines_read.specs.Fields.{command_with}
use Rattle.vault_lines_read.specs.Grammar.{IsDo, SpellsCommand}
use Rattle.vault_lines_read.specs.Stamped.{has_timeless, is_timeless, timeless_of}
use Rattle.vault_lines_read.specs.Verb.{fields_of, form_of, has_single_content, is_shaped, members_of, values_of, verb_name, verb_named}
use Rattle.vault_lines_read.specs.declared.verb.Verb.{Verb}
use Rattle.vault_lines_read.specs.declared.verb.Verb.TheVariants as verb
use Rattle.vault_lines_read.proofs.FieldLemmas.{all-fit, are_whole, fields-ok, reads-fields}

-- each verb is found by its name
pub named : (verb : Verb) → verb_named (verb_name verb) ≡ Some verb
named verb.AddDept = refl
named verb = refl

-- ---- shapes

both : (a b : Bool) → a ≡ true → b ≡ true → a && b ≡ true
both true b e f = f
both false b e f = e

whole : (verb : Verb) (d : Data) → has_single_content verb d ≡ true → are_whole (fields_of verb) d ≡ true
whole verb.Put d e = both (has_one_content d) _ e refl
whole verb.Intake d e = both (has_one_content d) _ e refl
whole verb d e = refl

-- the members of a line that has its shape are of their kinds, and a content is written in one way
shaped : (verb : Verb) (d : Data) → is_shaped verb d ≡ true → (has_members (members_of verb) d ≡ true) × (are_whole (fields_of verb) d ≡ true)
shaped verb d e =
    let members = has_members (members_of verb) d in
    (left-of members _ e, whole verb d (right-of members _ e))

timeless : (verb : Verb) (d : Data) → is_timeless verb d ≡ true → (has_timeless verb d ≡ true) × (are_whole (fields_of verb) d ≡ true)
timeless verb d e = (left-of (has_timeless verb d) _ e, whole verb d (right-of (has_timeless verb d) _ e))

-- the reading and the caller are texts in every line that has its shape
pub heading-fits : (verb : Verb) (d : Data) → IsTrue (is_shaped verb d) → IsTrue (fits Text (get (codes "at") d)) × IsTrue (fits Text (get (codes "as") d))
heading-fits verb d e =
    let fit = all-fit (members_of verb) d (shaped verb d e).0 in
    (fit.0, fit.1.0)

-- the caller is a text in every line without a reading that has its shape
pub timeless-asker-fits : (verb : Verb) (d : Data) → IsTrue (is_timeless verb d) → IsTrue (fits Text (get (codes "as") d))
timeless-asker-fits verb d e = (all-fit (timeless_of verb) d (timeless verb d e).0).0

-- ---- values

-- the values of a line that has its shape
pub reads-values : (verb : Verb) (d : Data) → IsDo d verb → IsTrue (is_shaped verb d) → Reads (SpellsCommand d) (values_of verb d)
unfolding values_of
reads-values verb d do_is e =
    let parts = shaped verb d e in
    reads-as _ _ (command_with d (fields_of verb) (form_of verb).2)
    (reads-fields (fields_of verb) d (form_of verb).2 (all-fit (members_of verb) d parts.0).1.1.1 parts.1)
    (λ c made. (verb, do_is, made))

-- the same of one without a reading
pub timeless-values : (verb : Verb) (d : Data) → IsDo d verb → IsTrue (is_timeless verb d) → Reads (SpellsCommand d) (values_of verb d)
unfolding values_of
timeless-values verb d do_is e =
    let parts = timeless verb d e in
    reads-as _ _ (command_with d (fields_of verb) (form_of verb).2)
    (reads-fields (fields_of verb) d (form_of verb).2 (all-fit (timeless_of verb) d parts.0).1.1 parts.1)
    (λ c made. (verb, do_is, made))

-- members that spell a command are those of a verb whose values they are
pub values-spelled : (d : Data) (c : Command) → SpellsCommand d c → (verb : Verb) × IsDo d verb × (values_of verb d ≡ Ok c)
unfolding values_of
values-spelled d c (verb, do_is, made) = (verb, do_is, fields-ok (fields_of verb) d (form_of verb).2 c made)
