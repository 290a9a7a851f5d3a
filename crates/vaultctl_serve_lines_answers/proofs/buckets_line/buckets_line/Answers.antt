use Rattle.vaultctl_serve_lines_answers.proofs.BucketsLemmas.{buckets_text-is}
use Rattle.vaultctl_serve_lines_answers.proofs.buckets_line.buckets_line.Goals as goal

pub returns : goal.returns
returns c = buckets_text-is _ _ c.args.page.now _ _ c.in_ok-push_str.ensures.bytes c.in_ok-line.ensures.text c.in_ok-value.ensures c.in_ok-stated.ensures
