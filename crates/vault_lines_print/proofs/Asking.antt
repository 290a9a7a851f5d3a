-- The members that are printed of a command spell that command.
use Rattle.std.proofs.Common.{◌≡◌, ◌<◌, ◌≤◌, arith, ℕ, Bool, true, false, List, [], ◌∷◌, refl, ap, subst, inl, inr, codes}
use Rattle.std.specs.Prelude.{IsTrue, All, Option, Some, None, is_none, map, Ok}
use Rattle.hex.specs.Hex.{decode_sized, encode_lower}
use Rattle.hex.proofs.HexLemmas.{decode_of-encode_lower, decode_sized-encode_lower}
use Rattle.serde_json.specs.Data.{Data, string, array, depth}
use Rattle.serde_json.specs.Find.{get}
use Rattle.serde_json.specs.View.{items_of}
use Rattle.serde_json.specs.Written.{has_float}
use Rattle.vault_base.specs.Moment.{moment_text}
use Rattle.vault_base.specs.Name.{is_bucket_name, is_key_prefix, is_object_key, is_plain_name}
use Rattle.vault_base.specs.Right.{rights}
use Rattle.vault_base.specs.declared.content.Content.{Content}
use Rattle.vault_base.specs.declared.content.Content.TheVariants.{Inside, External}
use Rattle.vault_base.specs.declared.content.Registered.{Registered}
use Rattle.vault_core_model.specs.declared.command.Command.{Command}
use Rattle.vault_core_model.specs.declared.command.Command.TheVariants as command
use Rattle.vault_core_model.specs.declared.command.Timed.{Timed}
use Rattle.vault_core_model.specs.declared.rights.Rights.{Rights}
use Rattle.vault_lock.specs.declared.retention.Default.{Default}
use Rattle.vault_lock.specs.declared.retention.Mode.{Mode}
use Rattle.vault_lock.specs.declared.retention.Period.{Period}
use Rattle.vault_lock.specs.declared.retention.Period.TheVariants.{Days, Years}
use Rattle.vault_lock.specs.declared.retention.Retention.{Retention}
use Rattle.vault_rules.specs.Rules.{is_rule_set, rules_fault}
use Rattle.vault_rules.specs.declared.rule.Rule.{Rule}
use Rattle.vault_rules.specs.declared.rule_set.RuleFault.{RuleFault}
use Rattle.vault_lines_read.specs.Fields.{Field, IsMadeOf, Makes, meaning_of}
use Rattle.vault_lines_read.specs.Grammar.{HasForm, IsDo, Spells}
use Rattle.vault_lines_read.specs.Verb.{fields_of, form_of, is_shaped}
use Rattle.vault_lines_read.specs.declared.verb.Verb.{Verb}
use Rattle.vault_lines_reply.proofs.ReplyLemmas.{rules-whole}
use Rattle.vault_lines_reply.specs.ReplyLine.{rule_value}
use Rattle.vault_lines_reply.specs.SpelledRule.{IsSpelledRule}
use Rattle.vault_lines_print.specs.Spelled.{HasBits, HasPeriodIfGiven, IsContentSpelled, IsIdIfGiven, IsNameIfGiven, IsSpelled, IsTimedSpelled, ReadsBack, ReadsBackIfGiven}
use Rattle.vault_lines_print.specs.Members.{AllSaid, line_value, of_said}
use Rattle.vault_lines_print.proofs.RightsNames.{are-flat, are-texts, are-whole, is-named, items-named, names, names-are-rights}
use Rattle.vault_lines_print.proofs.RuleMembers.{rules-flat, rules-shaped, rules-spelled}

-- ---- a command and its line's fields

-- the verb of a command, and the values of its line's fields
abbrev said : Command → (verb : Verb) × AllSaid (fields_of verb)
said = of_said (λ verb s. (verb, s))

abbrev AreSaid : Data → (fs : List Field) → AllSaid fs → Type 0
AreSaid d [] s = Unit {0}
AreSaid d (f ∷ fs) s = (meaning_of f).Says d s.0 × AreSaid d fs s.1

abbrev made_of : (fs : List Field) → Makes fs → AllSaid fs → Command
made_of [] made s = made
made_of (f ∷ fs) make s = made_of fs (make s.0) s.1

said-made : (d : Data) (fs : List Field) (make : Makes fs) (s : AllSaid fs) → AreSaid d fs s → IsMadeOf d fs make (made_of fs make s)
said-made d [] made s says = refl
said-made d (f ∷ fs) make s says = (s.0, says.0, said-made d fs (make s.0) s.1 says.1)

-- a command is made of the values of its line's fields
is-made : (c : Command) → made_of (fields_of (said c).0) (form_of (said c).0).2 (said c).1 ≡ c
is-made (command.AddDept c) = refl
is-made c = refl

-- ---- what is printed

-- the value has the form of its line, its members spell that command, and it can be printed and read
pub record Asks (t : Timed) : Type 0 where
  pub form : HasForm (line_value t)
  pub spelled : Spells (line_value t) t
  pub whole : has_float (line_value t) ≡ false
  pub flat : depth (line_value t) ≤ 127

-- the digits of a digest are read as it
digits-read : (r : Registered) → IsContentSpelled (External r) → decode_sized (encode_lower r.digest) 32 ≡ Ok r.digest
digits-read r c = decode_sized-encode_lower r.digest 32 c.1 c.0

no-fault : (fault : Option RuleFault) → is_none fault ≡ true → fault ≡ None
no-fault None e = refl
no-fault (Some fault) e = absurd cc

module _ (at : ℕ) (who : List ℕ) (back : ReadsBack at) (asker : IsTrue (is_plain_name who)) where
  abbrev by : Command → Timed
  by c = record { at = at; who = who; command = c }

  abbrev value : Command → Data
  value c = line_value (by c)

  asked-deep : (c : Command) → IsDo (value c) (said c).0 → is_shaped (said c).0 (value c) ≡ true → get (codes "at") (value c) ≡ Some (string (moment_text at)) → get (codes "as") (value c) ≡ Some (string who) → AreSaid (value c) (fields_of (said c).0) (said c).1 → has_float (value c) ≡ false → depth (value c) ≤ 127 → Asks (by c)
  asked-deep c do_is shaped e f says whole deep =
      let fields = fields_of (said c).0 in
      let make = (form_of (said c).0).2 in
      let made = subst (λ x. IsMadeOf (value c) fields make x) (is-made c) (said-made (value c) fields make (said c).1 says) in
      record {
        form = ((said c).0, do_is, shaped);
        spelled = ((moment_text at, e, back), (f, asker), ((said c).0, do_is, made));
        whole = whole;
        flat = deep;
      }

  -- of values without values inside
  asked : (c : Command) → IsDo (value c) (said c).0 → is_shaped (said c).0 (value c) ≡ true → get (codes "at") (value c) ≡ Some (string (moment_text at)) → get (codes "as") (value c) ≡ Some (string who) → has_float (value c) ≡ false → depth (value c) ≡ 1 → AreSaid (value c) (fields_of (said c).0) (said c).1 → Asks (by c)
  asked c do_is shaped e f whole deep says = asked-deep c do_is shaped e f says whole (omega arith)

  asks-add-caller : (caller : List ℕ) (dept : Option (List ℕ)) (held : Rights) → IsTrue (is_plain_name caller) → IsNameIfGiven dept → Asks (by (command.AddCaller (record { caller = caller; dept = dept; rights = held })))
  asks-add-caller caller None held name own =
      asked-deep _ refl (rw (are-texts held) refl) refl refl
      ((refl, name), (refl, ((names held rights, ap (λ items. Some (array items)) (items-named held rights), names-are-rights held rights, is-named held), tt)))
      (rw (are-whole held) refl) (rw (are-flat held) (omega arith))
  asks-add-caller caller (Some dept) held name own =
      asked-deep _ refl (rw (are-texts held) refl) refl refl
      ((refl, name), ((refl, own), ((names held rights, ap (λ items. Some (array items)) (items-named held rights), names-are-rights held rights, is-named held), tt)))
      (rw (are-whole held) refl) (rw (are-flat held) (omega arith))

  asks-period : (bucket : List ℕ) (mode : Mode) (period : Period) → IsTrue (is_bucket_name bucket) → HasBits period → Asks (by (command.SetDefault (record { bucket = bucket; default = Some (record { mode = mode; period = period }) })))
  asks-period bucket mode (Days n) name bits = asked _ refl refl refl refl refl refl ((refl, name), ((refl, ((refl, bits), refl)), tt))
  asks-period bucket mode (Years n) name bits = asked _ refl refl refl refl refl refl ((refl, name), ((refl, ((refl, bits), refl)), tt))

  asks-set-default : (bucket : List ℕ) (default : Option Default) → IsTrue (is_bucket_name bucket) → HasPeriodIfGiven default → Asks (by (command.SetDefault (record { bucket = bucket; default = default })))
  asks-set-default bucket None name bits = asked _ refl refl refl refl refl refl ((refl, name), ((refl, refl, refl), tt))
  asks-set-default bucket (Some d) name bits = asks-period bucket d.mode d.period name bits

  asks-set-rules : (bucket : List ℕ) (rules : List Rule) → IsTrue (is_bucket_name bucket) → IsTrue (is_rule_set rules) → All IsSpelledRule rules → Asks (by (command.SetRules (record { bucket = bucket; rules = rules })))
  asks-set-rules bucket rules name sound spelled =
      let fault = no-fault (rules_fault rules) sound in
      asked-deep _ refl (rw (rules-shaped rules) refl) refl refl
      ((refl, name), ((items_of (map rule_value rules), refl, rules-spelled rules spelled fault, fault), tt))
      (rw (rules-whole rules) refl) (omega (arith, rules-flat rules))

  asks-put : (bucket key : List ℕ) (content : Content) (retention : Option Retention) (hold : Option Bool) → IsTrue (is_bucket_name bucket) → IsTrue (is_object_key key) → IsContentSpelled content → ReadsBackIfGiven retention → Asks (by (command.Put (record { bucket = bucket; key = key; content = content; retention = retention; hold = hold })))
  asks-put bucket key (Inside bytes) None None b k c read =
      asked _ refl refl refl refl refl refl ((refl, b), ((refl, k), ((inr (refl, (encode_lower bytes, refl, decode_of-encode_lower bytes c)), refl, refl), ((refl, refl), (refl, tt)))))
  asks-put bucket key (Inside bytes) None (Some hold) b k c read =
      asked _ refl refl refl refl refl refl ((refl, b), ((refl, k), ((inr (refl, (encode_lower bytes, refl, decode_of-encode_lower bytes c)), refl, refl), ((refl, refl), (refl, tt)))))
  asks-put bucket key (Inside bytes) (Some s) None b k c read =
      asked _ refl refl refl refl refl refl ((refl, b), ((refl, k), ((inr (refl, (encode_lower bytes, refl, decode_of-encode_lower bytes c)), refl, refl), ((refl, (moment_text s.until, refl, read)), (refl, tt)))))
  asks-put bucket key (Inside bytes) (Some s) (Some hold) b k c read =
      asked _ refl refl refl refl refl refl ((refl, b), ((refl, k), ((inr (refl, (encode_lower bytes, refl, decode_of-encode_lower bytes c)), refl, refl), ((refl, (moment_text s.until, refl, read)), (refl, tt)))))
  asks-put bucket key (External r) None None b k c read =
      asked _ refl (rw (digits-read r c) refl) refl refl refl refl ((refl, b), ((refl, k), ((refl, refl, (encode_lower r.digest, refl, digits-read r c), refl), ((refl, refl), (refl, tt)))))
  asks-put bucket key (External r) None (Some hold) b k c read =
      asked _ refl (rw (digits-read r c) refl) refl refl refl refl ((refl, b), ((refl, k), ((refl, refl, (encode_lower r.digest, refl, digits-read r c), refl), ((refl, refl), (refl, tt)))))
  asks-put bucket key (External r) (Some s) None b k c read =
      asked _ refl (rw (digits-read r c) refl) refl refl refl refl ((refl, b), ((refl, k), ((refl, refl, (encode_lower r.digest, refl, digits-read r c), refl), ((refl, (moment_text s.until, refl, read)), (refl, tt)))))
  asks-put bucket key (External r) (Some s) (Some hold) b k c read =
      asked _ refl (rw (digits-read r c) refl) refl refl refl refl ((refl, b), ((refl, k), ((refl, refl, (encode_lower r.digest, refl, digits-read r c), refl), ((refl, (moment_text s.until, refl, read)), (refl, tt)))))

  asks-intake : (batch : List ℕ) (line : ℕ) (bucket key : List ℕ) (content : Content) (retention : Option Retention) (hold : Option Bool) → IsTrue (is_plain_name batch) → line < 4294967296 → IsTrue (is_bucket_name bucket) → IsTrue (is_object_key key) → IsContentSpelled content → ReadsBackIfGiven retention → Asks (by (command.Intake (record { batch = batch; line = line; put = record { bucket = bucket; key = key; content = content; retention = retention; hold = hold } })))
  asks-intake batch line bucket key (Inside bytes) None None n bits b k c read =
      asked _ refl refl refl refl refl refl ((refl, b), ((refl, n), ((refl, bits), ((refl, k), ((inr (refl, (encode_lower bytes, refl, decode_of-encode_lower bytes c)), refl, refl), ((refl, refl), (refl, tt)))))))
  asks-intake batch line bucket key (Inside bytes) None (Some hold) n bits b k c read =
      asked _ refl refl refl refl refl refl ((refl, b), ((refl, n), ((refl, bits), ((refl, k), ((inr (refl, (encode_lower bytes, refl, decode_of-encode_lower bytes c)), refl, refl), ((refl, refl), (refl, tt)))))))
  asks-intake batch line bucket key (Inside bytes) (Some s) None n bits b k c read =
      asked _ refl refl refl refl refl refl ((refl, b), ((refl, n), ((refl, bits), ((refl, k), ((inr (refl, (encode_lower bytes, refl, decode_of-encode_lower bytes c)), refl, refl), ((refl, (moment_text s.until, refl, read)), (refl, tt)))))))
  asks-intake batch line bucket key (Inside bytes) (Some s) (Some hold) n bits b k c read =
      asked _ refl refl refl refl refl refl ((refl, b), ((refl, n), ((refl, bits), ((refl, k), ((inr (refl, (encode_lower bytes, refl, decode_of-encode_lower bytes c)), refl, refl), ((refl, (moment_text s.until, refl, read)), (refl, tt)))))))
  asks-intake batch line bucket key (External r) None None n bits b k c read =
      asked _ refl (rw (digits-read r c) refl) refl refl refl refl ((refl, b), ((refl, n), ((refl, bits), ((refl, k), ((refl, refl, (encode_lower r.digest, refl, digits-read r c), refl), ((refl, refl), (refl, tt)))))))
  asks-intake batch line bucket key (External r) None (Some hold) n bits b k c read =
      asked _ refl (rw (digits-read r c) refl) refl refl refl refl ((refl, b), ((refl, n), ((refl, bits), ((refl, k), ((refl, refl, (encode_lower r.digest, refl, digits-read r c), refl), ((refl, refl), (refl, tt)))))))
  asks-intake batch line bucket key (External r) (Some s) None n bits b k c read =
      asked _ refl (rw (digits-read r c) refl) refl refl refl refl ((refl, b), ((refl, n), ((refl, bits), ((refl, k), ((refl, refl, (encode_lower r.digest, refl, digits-read r c), refl), ((refl, (moment_text s.until, refl, read)), (refl, tt)))))))
  asks-intake batch line bucket key (External r) (Some s) (Some hold) n bits b k c read =
      asked _ refl (rw (digits-read r c) refl) refl refl refl refl ((refl, b), ((refl, n), ((refl, bits), ((refl, k), ((refl, refl, (encode_lower r.digest, refl, digits-read r c), refl), ((refl, (moment_text s.until, refl, read)), (refl, tt)))))))

  asks-get : (bucket key : List ℕ) (id : Option ℕ) → IsTrue (is_bucket_name bucket) → IsTrue (is_object_key key) → IsIdIfGiven id → Asks (by (command.Get (record { bucket = bucket; key = key; id = id })))
  asks-get bucket key None b k i = asked _ refl refl refl refl refl refl ((refl, b), ((refl, k), (refl, tt)))
  asks-get bucket key (Some id) b k i = asked _ refl refl refl refl refl refl ((refl, b), ((refl, k), ((refl, i), tt)))

  asks-head : (bucket key : List ℕ) (id : Option ℕ) → IsTrue (is_bucket_name bucket) → IsTrue (is_object_key key) → IsIdIfGiven id → Asks (by (command.Head (record { bucket = bucket; key = key; id = id })))
  asks-head bucket key None b k i = asked _ refl refl refl refl refl refl ((refl, b), ((refl, k), (refl, tt)))
  asks-head bucket key (Some id) b k i = asked _ refl refl refl refl refl refl ((refl, b), ((refl, k), ((refl, i), tt)))

  asks-get-retention : (bucket key : List ℕ) (id : Option ℕ) → IsTrue (is_bucket_name bucket) → IsTrue (is_object_key key) → IsIdIfGiven id → Asks (by (command.GetRetention (record { bucket = bucket; key = key; id = id })))
  asks-get-retention bucket key None b k i = asked _ refl refl refl refl refl refl ((refl, b), ((refl, k), (refl, tt)))
  asks-get-retention bucket key (Some id) b k i = asked _ refl refl refl refl refl refl ((refl, b), ((refl, k), ((refl, i), tt)))

  asks-get-hold : (bucket key : List ℕ) (id : Option ℕ) → IsTrue (is_bucket_name bucket) → IsTrue (is_object_key key) → IsIdIfGiven id → Asks (by (command.GetHold (record { bucket = bucket; key = key; id = id })))
  asks-get-hold bucket key None b k i = asked _ refl refl refl refl refl refl ((refl, b), ((refl, k), (refl, tt)))
  asks-get-hold bucket key (Some id) b k i = asked _ refl refl refl refl refl refl ((refl, b), ((refl, k), ((refl, i), tt)))

  asks-list-versions : (bucket prefix after_key : List ℕ) (after_id : Option ℕ) (most : ℕ) → IsTrue (is_bucket_name bucket) → IsTrue (is_key_prefix prefix) → IsTrue (is_key_prefix after_key) → IsIdIfGiven after_id → most < 4294967296 → Asks (by (command.ListVersions (record { bucket = bucket; prefix = prefix; after_key = after_key; after_id = after_id; most = most })))
  asks-list-versions bucket prefix after_key None most b p a i bits = asked _ refl refl refl refl refl refl ((refl, b), (inl (refl, p), (inl (refl, a), (refl, (inl (refl, bits), tt)))))
  asks-list-versions bucket prefix after_key (Some id) most b p a i bits = asked _ refl refl refl refl refl refl ((refl, b), (inl (refl, p), (inl (refl, a), (((refl, i), refl), (inl (refl, bits), tt)))))

  asks-set-retention : (bucket key : List ℕ) (id : Option ℕ) (r : Retention) (bypass : Bool) → IsTrue (is_bucket_name bucket) → IsTrue (is_object_key key) → IsIdIfGiven id → ReadsBack r.until → Asks (by (command.SetRetention (record { bucket = bucket; key = key; id = id; retention = r; bypass = bypass })))
  asks-set-retention bucket key None r bypass b k i read =
      asked _ refl refl refl refl refl refl ((refl, b), ((refl, k), (refl, ((refl, (moment_text r.until, refl, read)), (inl refl, tt)))))
  asks-set-retention bucket key (Some id) r bypass b k i read =
      asked _ refl refl refl refl refl refl ((refl, b), ((refl, k), ((refl, i), ((refl, (moment_text r.until, refl, read)), (inl refl, tt)))))

  asks-set-hold : (bucket key : List ℕ) (id : Option ℕ) (hold : Bool) → IsTrue (is_bucket_name bucket) → IsTrue (is_object_key key) → IsIdIfGiven id → Asks (by (command.SetHold (record { bucket = bucket; key = key; id = id; hold = hold })))
  asks-set-hold bucket key None hold b k i = asked _ refl refl refl refl refl refl ((refl, b), ((refl, k), (refl, (refl, tt))))
  asks-set-hold bucket key (Some id) hold b k i = asked _ refl refl refl refl refl refl ((refl, b), ((refl, k), ((refl, i), (refl, tt))))

  asks-command : (c : Command) → IsSpelled c → Asks (by c)
  asks-command (command.AddCaller c) s = asks-add-caller c.caller c.dept c.rights s.0 s.1.0
  asks-command (command.SetDefault c) s = asks-set-default c.bucket c.default s.0 s.1.0
  asks-command (command.SetRules c) s = asks-set-rules c.bucket c.rules s.0 s.1.0.0 s.1.0.1
  asks-command (command.Put c) s = asks-put c.bucket c.key c.content c.retention c.hold s.0 s.1.0 s.1.1.0 s.1.1.1.0
  asks-command (command.Get c) s = asks-get c.bucket c.key c.id s.0 s.1.0 s.1.1.0
  asks-command (command.Head c) s = asks-head c.bucket c.key c.id s.0 s.1.0 s.1.1.0
  asks-command (command.ListVersions c) s = asks-list-versions c.bucket c.prefix c.after_key c.after_id c.most s.0 s.1.0 s.1.1.0 s.1.1.1.0 s.1.1.1.1.0
  asks-command (command.DeleteVersion c) s = asked _ refl refl refl refl refl refl ((refl, s.0), ((refl, s.1.0), ((refl, s.1.1.0), (inl refl, tt))))
  asks-command (command.SetRetention c) s = asks-set-retention c.bucket c.key c.id c.retention c.bypass s.0 s.1.0 s.1.1.0 s.1.1.1.0
  asks-command (command.GetRetention c) s = asks-get-retention c.bucket c.key c.id s.0 s.1.0 s.1.1.0
  asks-command (command.SetHold c) s = asks-set-hold c.bucket c.key c.id c.hold s.0 s.1.0 s.1.1.0
  asks-command (command.GetHold c) s = asks-get-hold c.bucket c.key c.id s.0 s.1.0 s.1.1.0
  asks-command (command.Intake c) s = asks-intake c.batch c.line c.put.bucket c.put.key c.put.content c.put.retention c.put.hold s.1.0 s.1.1.0 s.0 s.1.1.1.0 s.1.1.1.1.0 s.1.1.1.1.1.0
  -- no member of the others may be left out
  asks-command c s = asked _ refl refl refl refl refl refl (assumption s)

pub asks : (t : Timed) → IsTimedSpelled t → Asks t
asks t s = asks-command t.at t.who s.0 s.1 t.command s.2
