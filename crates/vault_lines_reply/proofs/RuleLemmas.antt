-- The members of a rule, put in from the last to the first.
use Rattle.std.proofs.Common.{◌≡◌, codes, refl}
use Rattle.std.specs.Prelude.{Option, Some, None, option_map}
use Rattle.serde_json.specs.Data.{Data, member, put}
use Rattle.vault_rules.specs.declared.rule.Rule.{Rule}
use Rattle.vault_lines_reply.specs.Putting.{put_if}
use Rattle.vault_lines_reply.specs.ReplyLine.{text, whole, if_there, expiration_of, noncurrent_value, named_members, bounded_members, rule_members}

module _ (r : Rule) where
  smaller_first : (smaller : Option Data) → put_if (codes "ObjectSizeLessThan") smaller (named_members r) ≡ if_there (codes "ObjectSizeLessThan") smaller (named_members r)
  smaller_first None = refl
  smaller_first (Some s) = refl

  larger_first : (larger smaller : Option Data) → put_if (codes "ObjectSizeGreaterThan") larger (put_if (codes "ObjectSizeLessThan") smaller (named_members r)) ≡ if_there (codes "ObjectSizeGreaterThan") larger (if_there (codes "ObjectSizeLessThan") smaller (named_members r))
  larger_first None None = refl
  larger_first None (Some s) = refl
  larger_first (Some l) None = refl
  larger_first (Some l) (Some s) = refl

  pub bounded : put_if (codes "ObjectSizeGreaterThan") (option_map whole r.larger) (put_if (codes "ObjectSizeLessThan") (option_map whole r.smaller) (named_members r)) ≡ bounded_members r
  bounded = larger_first (option_map whole r.larger) (option_map whole r.smaller)

  all_first : (expiration noncurrent larger smaller : Option Data) → let bounds = if_there (codes "ObjectSizeGreaterThan") larger (if_there (codes "ObjectSizeLessThan") smaller (named_members r)) in
      put_if (codes "Expiration") expiration (put (codes "ID") (text r.id) (put_if (codes "NoncurrentVersionExpiration") noncurrent bounds))
      ≡ if_there (codes "Expiration") expiration (member (codes "ID") (text r.id) (if_there (codes "NoncurrentVersionExpiration") noncurrent bounds))
  all_first None None None None = refl
  all_first None None None (Some s) = refl
  all_first None None (Some l) None = refl
  all_first None None (Some l) (Some s) = refl
  all_first None (Some n) None None = refl
  all_first None (Some n) None (Some s) = refl
  all_first None (Some n) (Some l) None = refl
  all_first None (Some n) (Some l) (Some s) = refl
  all_first (Some e) None None None = refl
  all_first (Some e) None None (Some s) = refl
  all_first (Some e) None (Some l) None = refl
  all_first (Some e) None (Some l) (Some s) = refl
  all_first (Some e) (Some n) None None = refl
  all_first (Some e) (Some n) None (Some s) = refl
  all_first (Some e) (Some n) (Some l) None = refl
  all_first (Some e) (Some n) (Some l) (Some s) = refl

  pub all_members : put_if (codes "Expiration") (expiration_of r.days r.lone_markers) (put (codes "ID") (text r.id) (put_if (codes "NoncurrentVersionExpiration") (option_map noncurrent_value r.noncurrent) (bounded_members r))) ≡ rule_members r
  all_members = all_first (expiration_of r.days r.lone_markers) (option_map noncurrent_value r.noncurrent) (option_map whole r.larger) (option_map whole r.smaller)
