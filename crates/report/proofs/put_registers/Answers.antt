use Rattle.std.proofs.Common.{◌≡◌, length, arith, rules}
use Rattle.text.proofs.Writing.{put_none, put_as, put_then}
use Rattle.report.proofs.Laws.{registers_none, registers_on, registers_all}
use Rattle.report.proofs.put_registers.Goals as goal

pub loop-i-init : goal.loop-i-init
loop-i-init c = (omega arith, put_as (registers_none c.args.x) (put_none c.args.w.now))

pub loop-i-preserved : goal.loop-i-preserved
loop-i-preserved c =
    let l = c.loop-i in
    let x = c.args.x in
    let long : length x ≡ 32 = search rules in
    (omega arith, put_as (registers_on l.i x (omega arith)) (put_then l.invariant.1 c.put_register.ensures.put))

pub returns-clause-put : goal.returns-clause-put
returns-clause-put c =
    let l = c.loop-i in
    let x = c.args.x in
    let long : length x ≡ 32 = search rules in
    put_as (registers_all l.i x (omega arith)) l.invariant.1
