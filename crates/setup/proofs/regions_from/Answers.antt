-- A region more is stored.
use Rattle.std.proofs.Common.{◌≡◌, ◌+◌, ◌*◌, ◌<◌, ◌≤◌, arith, refl, sym, ◌∙◌, rules}
use Rattle.model.specs.Machine.{no_region}
use Rattle.setup.proofs.Regions.{regions_on, regions_off, regions_all, given_count, given_at}
use Rattle.setup.proofs.regions_from.Goals as goal

pub loop-i-init : goal.loop-i-init
loop-i-init c =
    let zero : c.default-regions.result ≡ no_region = search rules in
    (search rules, rw zero (regions_all c.args.values.now c.args.first c.args.n 0 c.requires.0 refl))

pub loop-i-preserved : goal.loop-i-preserved
loop-i-preserved c =
    let vs = c.args.values.now in
    let first = c.args.first in
    let n = c.args.n in
    let i = c.loop-i.i in
    let inside : i < n = omega (arith, c.as_chunks.ensures.front_len, given_count vs first n c.requires.1) in
    let at = given_at vs first n c.requires.1 i in
    let zero : first + 3 * i + 0 ≡ first + 3 * i = omega arith in
    let base = rw zero at (at 0 inside (omega arith)) in
    let on = regions_on vs first n i c.loop-i.regions inside in
    (search rules, rw (c.as_chunks.ensures.front, base, at 1 inside (omega arith), at 2 inside (omega arith)) (sym on ∙ c.loop-i.invariant.1))

pub returns : goal.returns
returns c =
    let vs = c.args.values.now in
    let done : c.args.n ≤ c.loop-i.i = omega (arith, c.as_chunks.ensures.front_len, given_count vs c.args.first c.args.n c.requires.1) in
    sym (regions_off vs c.args.first c.args.n c.loop-i.i c.loop-i.regions done) ∙ c.loop-i.invariant.1
