use Rattle.std.proofs.Common.{◌∙◌, sym, inl, refl}
use Rattle.std.proofs.lemmas.Result.{IfOk-weaker, on_err_weaker}
use Rattle.vault_core_model.specs.Leaves.{standing}
use Rattle.vaultctl_serve_lines_answers.proofs.ClosingLemmas.{asked-once, door-heard, each-ok, given-same, line-answered, line-left, line-left-none, may-end}
use Rattle.vaultctl_serve_lines_answers.specs.declared.asked.DoorLine.TheVariants as door
use Rattle.vaultctl_serve_lines_answers.proofs.line.serve_line_at.Goals as goal

-- room for the line was refused
pub returns-in_default-clause-err : goal.returns-in_default-clause-err
returns-in_default-clause-err g c =
    line-left-none c.args.service.now c.args.heard.now c.args.moment.now (standing g.K.Kept c.args.keeper.now) (g.W.Write.contents c.args.writer.now)

-- somebody asked for what only this door has
pub returns-in-Asked-clause-ok : goal.returns-in-Asked-clause-ok
returns-in-Asked-clause-ok g c =
    let is = sym c.in-Asked.is ∙ c.in-Ok.ensures in
    IfOk-weaker c.give.result _ _
    (λ next e. line-answered c.args.heard.now c.args.moment.now (door.Asked c.in-Asked.asked) is c.args.service.now (standing g.K.Kept c.args.keeper.now) (standing g.K.Kept c.give.new.keeper) (g.W.Write.contents c.args.writer.now) (g.W.Write.contents c.give.new.writer) next e)
    c.give.ensures.ok

pub returns-in-Asked-clause-err : goal.returns-in-Asked-clause-err
returns-in-Asked-clause-err g c =
    let is = sym c.in-Asked.is ∙ c.in-Ok.ensures in
    on_err_weaker c.give.result
    (λ e. line-left c.args.heard.now c.args.moment.now (door.Asked c.in-Asked.asked) is c.args.service.now (standing g.K.Kept c.args.keeper.now) (standing g.K.Kept c.give.new.keeper) (g.W.Write.contents c.args.writer.now) (g.W.Write.contents c.give.new.writer) e)
    c.give.ensures.err

pub returns-in-Asked-clause-end : goal.returns-in-Asked-clause-end
returns-in-Asked-clause-end g c =
    let is = sym c.in-Asked.is ∙ c.in-Ok.ensures in
    λ e h. may-end c.args.heard.now c.args.moment.now c.in-Asked.asked (g.K.Kept.vault c.give.new.keeper) is (c.give.ensures.end e h)

pub returns-in-Asked-clause-once : goal.returns-in-Asked-clause-once
returns-in-Asked-clause-once g c =
    λ h. inl (given-same c.give.result (g.K.Kept.vault c.args.keeper.now) (g.K.Kept.vault c.give.new.keeper) _ _ c.give.ensures.ok c.give.ensures.err)

pub returns-in-Asked-clause-heard : goal.returns-in-Asked-clause-heard
returns-in-Asked-clause-heard g c =
    let is = sym c.in-Asked.is ∙ c.in-Ok.ensures in
    let same = given-same c.give.result (g.K.Kept.vault c.args.keeper.now) (g.K.Kept.vault c.give.new.keeper) _ _ c.give.ensures.ok c.give.ensures.err in
    door-heard c.args.heard.now c.args.moment.now g.K.Kept c.args.keeper.now c.give.new.keeper g.H.Hears.hears c.args.hears.now c.args.hears.now c.give.result (g.W.Write.contents c.args.writer.now) (g.W.Write.contents c.give.new.writer) (door.Asked c.in-Asked.asked) is (same, refl)

-- a command, or a line that is refused, or an empty one
pub returns-in-Line-clause-ok : goal.returns-in-Line-clause-ok
returns-in-Line-clause-ok g c =
    let is = sym c.in-Line.is ∙ c.in-Ok.ensures in
    each-ok c.answer_asked.result _
    (λ next a. line-answered c.args.heard.now c.args.moment.now (door.Line c.in-Line.asked) is c.args.service.now (standing g.K.Kept c.args.keeper.now) (standing g.K.Kept c.answer_asked.new.keeper) (g.W.Write.contents c.args.writer.now) (g.W.Write.contents c.answer_asked.new.writer) next a)
    c.answer_asked.ensures.ok

pub returns-in-Line-clause-err : goal.returns-in-Line-clause-err
returns-in-Line-clause-err g c =
    let is = sym c.in-Line.is ∙ c.in-Ok.ensures in
    on_err_weaker c.answer_asked.result
    (λ e. line-left c.args.heard.now c.args.moment.now (door.Line c.in-Line.asked) is c.args.service.now (standing g.K.Kept c.args.keeper.now) (standing g.K.Kept c.answer_asked.new.keeper) (g.W.Write.contents c.args.writer.now) (g.W.Write.contents c.answer_asked.new.writer) e)
    c.answer_asked.ensures.err

pub returns-in-Line-clause-once : goal.returns-in-Line-clause-once
returns-in-Line-clause-once g c =
    let is = sym c.in-Line.is ∙ c.in-Ok.ensures in
    λ h. asked-once c.args.heard.now c.args.moment.now c.in-Line.asked is (standing g.K.Kept c.args.keeper.now) (standing g.K.Kept c.answer_asked.new.keeper) (g.W.Write.contents c.args.writer.now) (g.W.Write.contents c.answer_asked.new.writer) c.answer_asked.result c.answer_asked.ensures.ok c.answer_asked.ensures.err h

pub returns-in-Line-clause-heard : goal.returns-in-Line-clause-heard
returns-in-Line-clause-heard g c =
    let is = sym c.in-Line.is ∙ c.in-Ok.ensures in
    door-heard c.args.heard.now c.args.moment.now g.K.Kept c.args.keeper.now c.answer_asked.new.keeper g.H.Hears.hears c.args.hears.now c.answer_asked.new.hears c.answer_asked.result (g.W.Write.contents c.args.writer.now) (g.W.Write.contents c.answer_asked.new.writer) (door.Line c.in-Line.asked) is c.answer_asked.ensures.heard

-- nothing was done
pub returns-in_default-clause-heard : goal.returns-in_default-clause-heard
returns-in_default-clause-heard g c = inl (refl, refl, refl, refl)
