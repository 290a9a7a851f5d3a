use Rattle.std.proofs.Common.{◌≡◌, true}
use Rattle.vault_base.specs.Name.{is_numeral}
use Rattle.vault_base.proofs.Numerals.{version_number_unread}
use Rattle.vault_base.proofs.spelling.version_number.Goals as goal

pub returns-in-Err : goal.returns-in-Err
returns-in-Err c =
    let is : is_numeral c.args.text.now ≡ true = cc in
    version_number_unread c.in-Err.field-0 c.args.text.now is (rw c.in-Err.is at c.parse.ensures.value.0)
