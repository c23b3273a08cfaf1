use Rattle.std.proofs.Common.{sym, ◌∙◌}
use Rattle.step.proofs.Verdicts.{denied_step}
use Rattle.step.proofs.step.Goals as goal

pub returns-in-Err : goal.returns-in-Err
returns-in-Err c =
    c.denied_fetch.ensures c.args.mem.now _
    ∙ denied_step c.args.m.now c.args.mem.now c.if-m-ne0.false (sym c.check_word.ensures ∙ c.in-Err.is)
