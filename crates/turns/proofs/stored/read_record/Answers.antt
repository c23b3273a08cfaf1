use Rattle.std.proofs.Common.{rules, ◌≡◌, ◌+◌, ◌*◌, get_or}
use borrow.Author.Tests.{tests}
use Rattle.scheduler.specs.Turn.{no_slot}
use Rattle.turns.specs.Stored.{numbers_of, slot_of}
use Rattle.turn.proofs.FromFn.{made_at}
use Rattle.turns.proofs.stored.read_record.Goals as goal

pub returns-clause-slots : goal.returns-clause-slots
returns-clause-slots c = λ i h. made_at _ _ (λ i s. s ≡ slot_of (numbers_of c.args.r.now) (3 + 15 * i)) (λ i y q k. search (rules, tests)) _ 4 c.from_fn.ensures.items i h no_slot

pub returns-clause-doublewords : goal.returns-clause-doublewords
returns-clause-doublewords c = λ i h. made_at _ _ (λ i n. n ≡ get_or (numbers_of c.args.r.now) (63 + i) 0) (λ i y q k. search (rules, tests)) _ 8 c.from_fn-2.ensures.items i h 0

pub returns-clause-allowances : goal.returns-clause-allowances
returns-clause-allowances c = λ i h. made_at _ _ (λ i n. n ≡ get_or (numbers_of c.args.r.now) (73 + i) 0) (λ i y q k. search (rules, tests)) _ 6 c.from_fn-3.ensures.items i h 0
