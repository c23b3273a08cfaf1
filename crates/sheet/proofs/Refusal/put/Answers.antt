-- It is by number.
use Rattle.std.proofs.Common.{ap}
use Rattle.text.proofs.Writing.{put_as}
use Rattle.sheet.specs.Sheet.{refusal_text}
use Rattle.sheet.proofs.Refusal.put.Goals as goal

pub returns-clause-put : goal.returns-clause-put
returns-clause-put c = put_as (ap (λ n. refusal_text n c.args.self.lineno) c.number.ensures) c.put_refusal.ensures.put
