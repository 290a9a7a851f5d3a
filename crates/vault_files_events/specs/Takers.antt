-- What a writer and a digest take.
use Rattle.std.specs.Prelude.{◌≡◌, ℕ, List, ◌++◌, Option}
use Rattle.std.specs.Io.KnownBytes.{Appends}
use Rattle.std.proofs.Common.{refl, sym, subst, append_assoc, append-nil, ◌∙◌}
use Rattle.std.proofs.KnownBytes.{Appends-nil, Appends-trans}
use Rattle.sha2.specs.Hashers.{Holds256}
use Rattle.vault_files_events.specs.declared.takers.Digesting.{Digesting}
use Rattle.vault_files_events.specs.declared.takers.ToWriter.{ToWriter}
use Rattle.vault_files_events.specs.Taking.{Took, TakesInTurn}

-- the same writer holds these bytes after those that it held
abbrev pub WritesOn : {W : Type 0} → (W → Option (List ℕ)) → Took (ToWriter W)
WritesOn contents s bytes t =
    (t.writer.ghost_name ≡ s.writer.ghost_name) × Appends (contents s.writer.now) (contents t.writer.now) bytes

pub writes_in_turn : {W : Type 0} (contents : W → Option (List ℕ)) → TakesInTurn (WritesOn contents)
writes_in_turn contents = record {
  none = λ s. (refl, Appends-nil _);
  more = λ s t u front back one two. (two.0 ∙ one.0, Appends-trans _ _ _ front back one.1 two.1);
}

-- the text that is digested goes on by these bytes
abbrev pub DigestsOn : Took Digesting
DigestsOn s bytes t = (text : List ℕ) → Holds256 s.hasher text → Holds256 t.hasher (text ++ bytes)

pub digests_in_turn : TakesInTurn DigestsOn
digests_in_turn = record {
  none = λ s text holds. subst (Holds256 s.hasher) (sym (append-nil text)) holds;
  more = λ s t u front back one two text holds.
      subst (Holds256 u.hasher) (append_assoc text front back) (two (text ++ front) (one text holds));
}
