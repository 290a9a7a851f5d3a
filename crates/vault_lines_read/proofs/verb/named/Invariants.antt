use Rattle.std.proofs.Common.{◌≡◌, drop}
use Rattle.std.specs.List.{find}
use Rattle.std.specs.Str.{bytes_eq}
use Rattle.vault_lines_read.proofs.verb.named.Given as goal

-- none of the lines so far has that name
abbrev pub invariant-loop-verb : goal.invariant-loop-verb
invariant-loop-verb l =
    find (λ form. bytes_eq l.name form.1.now) l.forms
    ≡ find (λ form. bytes_eq l.name form.1.now) (drop l.verb-index l.forms)
