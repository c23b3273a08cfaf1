-- The memory is blank.
use Rattle.sheet.specs.Words.{blank}
use Rattle.report.specs.Report.{report}
use Rattle.respond.proofs.respond.Goals as goal

pub returns-clause-answered : goal.returns-clause-answered
unfolding report blank
returns-clause-answered c = c.respond_over.ensures.answered
