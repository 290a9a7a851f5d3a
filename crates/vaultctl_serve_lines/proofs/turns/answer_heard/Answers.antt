use Rattle.std.proofs.Common.{◌≡◌, ◌∙◌, ℕ, ℤ, List, FitsSigned, ap, length, rules, subst, to_z, to_z-of_z, of_z, w64}
use Rattle.std.specs.Prelude.{is_ok}
use Rattle.vault_base.specs.Days.{moment_at}
use Rattle.vault_core.specs.Hearing.{AtMostOne}
use Rattle.vaultctl_serve_lines.proofs.turns.answer_heard.Goals as goal

-- the reading is what the clock shows
pub returns-clause-timely : goal.returns-clause-timely
returns-clause-timely g c =
    let reading = c.reading-reading.result in
    let old = g.K.Kept.vault c.args.keeper.now in
    let new = g.K.Kept.vault c.answer_talker-answering.new.keeper in
    let fits : FitsSigned w64 reading = search rules in
    let same : to_z w64 (of_z w64 reading) ≡ reading = to_z-of_z fits in
    let P : ℤ → Type 0 = λ z. AtMostOne (moment_at z) old new in
    λ h. (moment_at reading, c.reading-reading.ensures, subst P same (c.answer_talker-answering.ensures.once h))

-- what is heard is the entry of the line that was answered
pub returns-clause-logged : goal.returns-clause-logged
returns-clause-logged g c =
    let reading = c.reading-reading.result in
    let old = g.K.Kept.vault c.args.keeper.now in
    let new = g.K.Kept.vault c.answer_talker-answering.new.keeper in
    let fits : FitsSigned w64 reading = search rules in
    let same : to_z w64 (of_z w64 reading) ≡ reading = to_z-of_z fits in
    let P : ℤ → Type 0 = λ z. AtMostOne (moment_at z) old new in
    let entry = c.line.result in
    let Logs : List ℕ → Type 0 = λ asked. g.D.Doors.logs c.args.doors.now entry.facts asked entry.answered.now (is_ok c.log.result) c.log.new.self in
    λ h. (
      moment_at reading,
      c.reading-reading.ensures,
      (
        entry.facts,
        entry.answered.now,
        is_ok c.log.result,
        subst Logs (c.line.ensures.bytes.0 ∙ c.as_slice.ensures.value) c.log.ensures.logs,
        (c.line.ensures.door, rw same at c.line.ensures.moment, subst P same (c.answer_talker-answering.ensures.once h)),
        c.line.ensures.counts.0 ∙ ap length c.as_slice.ensures.value,
        c.line.ensures.trouble ∙ c.trouble_in-trouble.ensures,
      ),
    )

pub returns-clause-heard : goal.returns-clause-heard
returns-clause-heard g c = λ h. (_, c.answer_talker-answering.ensures.heard h)

-- and whatever the device does, it is the one entry that is heard of
pub returns-clause-log : goal.returns-clause-log
returns-clause-log g c = (c.line.result.facts, c.line.result.asked.now, c.line.result.answered.now, is_ok c.log.result, c.log.ensures.logs)
