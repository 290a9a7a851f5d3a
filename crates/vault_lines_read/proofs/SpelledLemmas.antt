-- Members that spell a command are read as that command.
use Rattle.std.proofs.Common.{◌≡◌, ℕ, List, sym, ◌∙◌, refl, codes}
use Rattle.std.specs.Prelude.{IsTrue, Ok}
use Rattle.serde_json.specs.Data.{Data}
use Rattle.vault_core_model.specs.declared.command.Command.{Command}
use Rattle.vault_lines_json.specs.Spelling.{IsName, IsMoment}
use Rattle.vault_lines_json.proofs.SpelledLemmas.{reading-ok, asker-ok}
use Rattle.vault_lines_read.specs.Grammar.{IsDo, SpellsCommand}
use Rattle.vault_lines_read.specs.ReadLine.{verb_of, timed_of}
use Rattle.vault_lines_read.specs.Verb.{is_shaped, values_of}
use Rattle.vault_lines_read.specs.declared.verb.Verb.{Verb}
use Rattle.vault_lines_read.proofs.CommandLemmas.{values-spelled}
use Rattle.vault_lines_read.proofs.GrammarLemmas.{has_shape, passes-ok, test-is}

verb-ok : (d : Data) (verb : Verb) → IsDo d verb → IsTrue (is_shaped verb d) → verb_of d ≡ Ok verb
unfolding verb_of
verb-ok d verb do_is shaped = passes-ok is_shaped d verb do_is shaped

reads-as-verb : (verb : Verb) (d : Data) (at : ℕ) (who : List ℕ) (c : Command) → IsDo d verb → IsTrue (has_shape d) → IsMoment d (codes "at") at → IsName d (codes "as") who → values_of verb d ≡ Ok c → timed_of d ≡ Ok (record { at = at; who = who; command = c })
unfolding timed_of
reads-as-verb verb d at who c do_is shape at_is who_is values =
    rw (verb-ok d verb do_is (sym (test-is is_shaped d verb do_is) ∙ shape), reading-ok d at at_is, asker-ok d who who_is, values) refl

pub reads-timed : (d : Data) (at : ℕ) (who : List ℕ) (c : Command) → IsTrue (has_shape d) → IsMoment d (codes "at") at → IsName d (codes "as") who → SpellsCommand d c → timed_of d ≡ Ok (record { at = at; who = who; command = c })
reads-timed d at who c shape m n s = let spelled = values-spelled d c s in reads-as-verb spelled.0 d at who c spelled.1 shape m n spelled.2
